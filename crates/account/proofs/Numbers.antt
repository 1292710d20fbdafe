-- A written number is read back.
use Rattle.std.proofs.Common.{◌≡◌, ℕ, zero, suc, pred, ◌^◌, ◌<◌, Bool, false, cond, eqb, [], ◌∷◌, get_or, ℤ, pos, negsuc, decimal, ap, ◌∙◌, arith}
use Rattle.std.specs.Str.Parse.{digits_value}
use Rattle.std.specs.Fmt.{signed_decimal}
use Rattle.std.proofs.lemmas.Fmt.{decimal_digit, decimal_is_IsNumeral, first_decimal}
use Rattle.std.proofs.lemmas.Bool.{ne_eqb}
use Rattle.sheet.specs.Parts.{Text}
use Rattle.account.specs.Account.{Signed64}

abbrev pub behind : Text → Text
behind [] = []
behind (x ∷ xs) = xs

-- digits, behind a minus or not
abbrev pub number : Text → ℤ
number ds = cond (eqb (get_or ds 0 0) 45) (negsuc (pred (digits_value 10 (behind ds)))) (pos (digits_value 10 ds))

no_minus : (n : ℕ) → n < 2 ^ 64 → eqb (get_or (decimal n) 0 0) 45 ≡ false
no_minus zero h = ap (λ (ds : Text). eqb (get_or ds 0 0) 45) (decimal_digit 0 (omega arith))
no_minus (suc n) h =
    let f : 48 < get_or (decimal (suc n)) 0 0 = first_decimal (suc n) (omega arith) h in
    ne_eqb (get_or (decimal (suc n)) 0 0) 45 (λ e. omega arith)

pub number_signed : (z : ℤ) → Signed64 z → number (signed_decimal z) ≡ z
number_signed (pos n) h =
    let small : n < 2 ^ 64 = omega arith in
    ap (λ (b : Bool). cond b (negsuc (pred (digits_value 10 (behind (decimal n))))) (pos (digits_value 10 (decimal n)))) (no_minus n small) ∙
    ap pos (decimal_is_IsNumeral n small).1
number_signed (negsuc n) h =
    let small : suc n < 2 ^ 64 = omega arith in
    ap (λ (k : ℕ). negsuc (pred k)) (decimal_is_IsNumeral (suc n) small).1
