-- A quoted form, read as a literal, gives the value back.
use Rattle.std.proofs.Common.{◌≡◌, ℕ, ◌+◌, ◌*◌, ◌/◌, ◌%◌, ◌<◌, true, false, eqb, ltb, List, [], ◌∷◌, ◌++◌, Some, None, sym, refl, ap, ◌∙◌, append_assoc, arith}
use Rattle.std.specs.List.{flat_map}
use Rattle.std.proofs.lemmas.Bool.{cond_both, cond-true, cond-false, ltb-true, ne_eqb}
use Rattle.std.proofs.lemmas.Bool.Decides.{nat_tests}
use Rattle.util.specs.Shown.{hex_digit, hex, quote_byte, quoted}
use Rattle.util.proofs.Shows.{quote_cases}
use Rattle.util.specs.Literal.{plain, digits, is_hex, hex_value, ahead, read_from, literal}

-- a digit is read as its value
digit_value : (n : ℕ) → n < 16 → hex_value (hex_digit n) ≡ n
digit_value n h = grind (arith, nat_tests)

digit_is : (n : ℕ) → n < 16 → is_hex (hex_digit n) ≡ true
digit_is n h = grind (arith, nat_tests)

no_brace : (n : ℕ) → n < 16 → eqb (hex_digit n) 125 ≡ false
no_brace n h = grind (arith, nat_tests)

read_digit : (m n : ℕ) (bs : List ℕ) → n < 16 → read_from (digits m) (hex_digit n ∷ bs) ≡ read_from (digits (16 * m + n)) bs
read_digit m n bs h =
    cond-false (eqb (hex_digit n) 125) _ _ (no_brace n h) ∙ cond-true (is_hex (hex_digit n)) _ None (digit_is n h)
    ∙ ap (λ (k : ℕ). read_from (digits (16 * m + k)) bs) (digit_value n h)

-- a number in hexadecimal digits and its closing brace are read as the number
read_hex : (n : ℕ) (bs : List ℕ) → n < 256 → read_from (digits 0) ((hex n ++ 125 ∷ []) ++ bs) ≡ ahead (Some n) (read_from plain bs)
read_hex n bs h =
    cond_both (ltb n 16) _ _ (λ (l : List ℕ). read_from (digits 0) ((l ++ 125 ∷ []) ++ bs) ≡ ahead (Some n) (read_from plain bs))
    (λ e. let lt : n < 16 = ltb-true n 16 e in
    let z : 16 * 0 + n ≡ n = omega arith in
    read_digit 0 n (125 ∷ bs) lt ∙ ap (λ (k : ℕ). ahead (Some k) (read_from plain bs)) z)
    (λ e. let z : 16 * (16 * 0 + n / 16) + n % 16 ≡ n = omega arith in
    read_digit 0 (n / 16) (hex_digit (n % 16) ∷ 125 ∷ bs) (omega arith) ∙ read_digit (16 * 0 + n / 16) (n % 16) (125 ∷ bs) (omega arith)
    ∙ ap (λ (k : ℕ). ahead (Some k) (read_from plain bs)) z)

-- what a byte is quoted as is read as that byte
read_byte : (b : ℕ) (bs : List ℕ) → read_from plain (quote_byte b ++ bs) ≡ ahead (Some b) (read_from plain bs)
read_byte b bs =
    quote_cases b (λ (l : List ℕ). read_from plain (l ++ bs) ≡ ahead (Some b) (read_from plain bs))
    (known 34) (known 92) (known 9) (known 10) (known 13) (known 0)
    (λ h. read_hex b bs (omega arith))
    (λ n34 n92 _ _. cond-false (eqb b 34) _ _ (ne_eqb b 34 n34) ∙ cond-false (eqb b 92) _ _ (ne_eqb b 92 n92))
  where
    known : (n : ℕ) → b ≡ n → ahead (Some n) (read_from plain bs) ≡ ahead (Some b) (read_from plain bs)
    known n e = ap (λ (k : ℕ). ahead (Some k) (read_from plain bs)) (sym e)

pub literal_quoted : (v : List ℕ) → literal (quoted v) ≡ Some v
literal_quoted v = by v
  where
    by : (v : List ℕ) → read_from plain (flat_map quote_byte v ++ 34 ∷ []) ≡ Some v
    by [] = refl
    by (b ∷ v) = ap (read_from plain) (append_assoc (quote_byte b) (flat_map quote_byte v) (34 ∷ [])) ∙ read_byte b (flat_map quote_byte v ++ 34 ∷ []) ∙ ap (ahead (Some b)) (by v)
