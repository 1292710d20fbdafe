-- Of shown forms.
use Rattle.std.proofs.Common.{◌≡◌, ℕ, ◌+◌, ◌*◌, ◌/◌, ◌%◌, ◌<◌, ◌≤◌, true, false, ◌||◌, eqb, ltb, List, [], ◌∷◌, ◌++◌, length, sym, refl, ◌∙◌, inl, inr, arith, length-append}
use Rattle.std.specs.List.{flat_map, AllByRecursion}
use Rattle.std.proofs.ByRecursion.{All-append, All-weaker}
use Rattle.std.proofs.lemmas.Bool.{cond_both, cond-true, cond-false, eqb-true, eqb-false, ltb-true, ltb-false, or_cases, or_parts, false≢true}
use Rattle.std.proofs.lemmas.Bool.Decides.{nat_tests}
use Rattle.util.specs.Shown.{blank, has_blank, needs_quotes, hex_digit, hex, quote_byte, quoted, shown}
use Rattle.util.specs.Text.{IsText}
use Rattle.util.specs.Laws.{Printing, InLine, QuotedPrints, ShownInLine, ShownText, ShownBound, ShownAlike}
use Rattle.util.proofs.Quotes.{length_quoted}
use Rattle.util.proofs.Texts.{text_from_all, all_from_text}

pub shown_quoted : (v : List ℕ) → needs_quotes v ≡ true → shown v ≡ quoted v
unfolding shown
shown_quoted v e = cond-true (needs_quotes v) (quoted v) v e

pub shown_plain : (v : List ℕ) → needs_quotes v ≡ false → shown v ≡ v
unfolding shown
shown_plain v e = cond-false (needs_quotes v) (quoted v) v e

-- what holds of a quoted and of a plain form holds of the shown one
shown_cases : (v : List ℕ) (P : List ℕ → Type 0) → P (quoted v) → (needs_quotes v ≡ false → P v) → P (shown v)
unfolding shown
shown_cases v P q p = cond_both (needs_quotes v) (quoted v) v P (λ _. q) p

-- the ways in which a byte stands between quotes
pub quote_cases : (b : ℕ) (P : List ℕ → Type 0)
    → (b ≡ 34 → P (92 ∷ 34 ∷ [])) → (b ≡ 92 → P (92 ∷ 92 ∷ [])) → (b ≡ 9 → P (92 ∷ 116 ∷ [])) → (b ≡ 10 → P (92 ∷ 110 ∷ [])) → (b ≡ 13 → P (92 ∷ 114 ∷ [])) → (b ≡ 0 → P (92 ∷ 48 ∷ []))
    → (b < 128 → P (92 ∷ 117 ∷ 123 ∷ (hex b ++ 125 ∷ [])))
    → ((b ≡ 34 → ⊥) → (b ≡ 92 → ⊥) → 32 ≤ b → (b ≡ 127 → ⊥) → P (b ∷ []))
    → P (quote_byte b)
quote_cases b P quote slash tab line return null code self =
    cond_both (eqb b 34) _ _ P (λ e. quote (eqb-true b 34 e))
    (λ n34. cond_both (eqb b 92) _ _ P (λ e. slash (eqb-true b 92 e))
    (λ n92. cond_both (eqb b 9) _ _ P (λ e. tab (eqb-true b 9 e))
    (λ _. cond_both (eqb b 10) _ _ P (λ e. line (eqb-true b 10 e))
    (λ _. cond_both (eqb b 13) _ _ P (λ e. return (eqb-true b 13 e))
    (λ _. cond_both (eqb b 0) _ _ P (λ e. null (eqb-true b 0 e))
    (λ _. cond_both (ltb b 32 || eqb b 127) _ _ P
    (λ e. code (elim (or_cases (ltb b 32) (eqb b 127) e) [ inl l ↦ omega (arith, ltb-true b 32 l) | inr q ↦ omega (arith, eqb-true b 127 q) ]))
    (λ e. let p = or_parts (ltb b 32) (eqb b 127) e in self (eqb-false b 34 n34) (eqb-false b 92 n92) (ltb-false b 32 p.0) (eqb-false b 127 p.1))))))))

-- what holds of every byte 20 to 7E, and of those of the value that stand for themselves, holds of all bytes of its quoted form
module _ (P : ℕ → Type 0) (ascii : (n : ℕ) → 32 ≤ n → n < 127 → P n) where
  digit : (n : ℕ) → n < 16 → P (hex_digit n)
  digit n h = cond_both (ltb n 10) (48 + n) (87 + n) P (λ e. ascii (48 + n) (omega arith) (omega (arith, ltb-true n 10 e))) (λ _. ascii (87 + n) (omega arith) (omega arith))

  number : (n : ℕ) → n < 128 → AllByRecursion P (hex n)
  number n h = cond_both (ltb n 16) _ _ (AllByRecursion P) (λ e. (digit n (ltb-true n 16 e), tt)) (λ _. (digit (n / 16) (omega arith), (digit (n % 16) (omega arith), tt)))

  one : (n : ℕ) → 32 ≤ n → n < 127 → AllByRecursion P (92 ∷ n ∷ [])
  one n h k = (ascii 92 (omega arith) (omega arith), (ascii n h k, tt))

  quoted_byte : (b : ℕ) → (32 ≤ b → (b ≡ 127 → ⊥) → P b) → AllByRecursion P (quote_byte b)
  quoted_byte b self =
      quote_cases b (AllByRecursion P)
      (λ _. one 34 (omega arith) (omega arith)) (λ _. one 92 (omega arith) (omega arith)) (λ _. one 116 (omega arith) (omega arith))
      (λ _. one 110 (omega arith) (omega arith)) (λ _. one 114 (omega arith) (omega arith)) (λ _. one 48 (omega arith) (omega arith))
      (λ h. All-append P (92 ∷ 117 ∷ 123 ∷ []) (hex b ++ 125 ∷ [])
      (ascii 92 (omega arith) (omega arith), (ascii 117 (omega arith) (omega arith), (ascii 123 (omega arith) (omega arith), tt)))
      (All-append P (hex b) (125 ∷ []) (number b h) (ascii 125 (omega arith) (omega arith), tt)))
      (λ _ _ h k. (self h k, tt))

  quoted_all : (v : List ℕ) → AllByRecursion (λ b. 32 ≤ b → (b ≡ 127 → ⊥) → P b) v → AllByRecursion P (quoted v)
  quoted_all v self = (ascii 34 (omega arith) (omega arith), All-append P (flat_map quote_byte v) (34 ∷ []) (by v self) (ascii 34 (omega arith) (omega arith), tt))
    where
      by : (v : List ℕ) → AllByRecursion (λ b. 32 ≤ b → (b ≡ 127 → ⊥) → P b) v → AllByRecursion P (flat_map quote_byte v)
      by [] h = tt
      by (b ∷ v) h = All-append P (quote_byte b) (flat_map quote_byte v) (quoted_byte b h.0) (by v h.1)

each : (P : ℕ → Type 0) → ((b : ℕ) → P b) → (v : List ℕ) → AllByRecursion P v
each P p [] = tt
each P p (b ∷ v) = (p b, each P p v)

pub quoted_prints : QuotedPrints
quoted_prints v = quoted_all Printing (λ n h k. (h, λ e. omega arith)) v (each (λ b. 32 ≤ b → (b ≡ 127 → ⊥) → Printing b) (λ b h k. (h, k)) v)

pub shown_in_line : ShownInLine
shown_in_line v =
    shown_cases v (AllByRecursion InLine)
    (quoted_all InLine (λ n h k p q. omega arith) v (each (λ b. 32 ≤ b → (b ≡ 127 → ⊥) → InLine b) (λ b h k p q. omega arith) v))
    (λ e. unquoted v e)
  where
    by : (v : List ℕ) → has_blank v ≡ false → AllByRecursion InLine v
    by [] e = tt
    by (b ∷ v) e =
        let p = or_parts (blank b) (has_blank v) e in
        (λ h k. let z : blank b ≡ true = grind (arith, nat_tests) in false≢true (sym p.0 ∙ z), by v p.1)

    unquoted : (v : List ℕ) → needs_quotes v ≡ false → AllByRecursion InLine v
    unquoted [] e = tt
    unquoted (b ∷ v) e = by (b ∷ v) e

pub shown_text : ShownText
shown_text v t =
    shown_cases v IsText
    (text_from_all (quoted v) (quoted_all (λ b. b ≤ 127) (λ n h k. omega arith) v (All-weaker (λ b. b ≤ 127) (λ b. 32 ≤ b → (b ≡ 127 → ⊥) → b ≤ 127) (λ b h _ _. h) v (all_from_text v t))))
    (λ _. t)

pub shown_bound : ShownBound
shown_bound v =
    shown_cases v (λ (l : List ℕ). length l ≤ 6 * length v + 2) (omega (arith, length_quoted v, by v)) (λ _. omega arith)
  where
    few : (b : ℕ) → length (quote_byte b) ≤ 6
    few b =
        quote_cases b (λ (l : List ℕ). length l ≤ 6)
        (λ _. omega arith) (λ _. omega arith) (λ _. omega arith) (λ _. omega arith) (λ _. omega arith) (λ _. omega arith)
        (λ _. omega (arith, length-append (hex b) (125 ∷ []), cond_both (ltb b 16) (hex_digit b ∷ []) (hex_digit (b / 16) ∷ hex_digit (b % 16) ∷ []) (λ (l : List ℕ). length l ≤ 2) (λ _. omega arith) (λ _. omega arith)))
        (λ _ _ _ _. omega arith)

    by : (v : List ℕ) → length (flat_map quote_byte v) ≤ 6 * length v
    by [] = omega arith
    by (b ∷ v) = omega (arith, length-append (quote_byte b) (flat_map quote_byte v), few b, by v)

pub shown_alike : ShownAlike
unfolding shown
shown_alike = refl
