-- Of text: what the test of bytes answers, and laws for those who only know the name.
use Rattle.std.proofs.Common.{◌≡◌, ℕ, suc, ◌≤◌, Bool, true, false, leb, List, [], ◌∷◌, ◌++◌, get_or, sym, refl, ◌∙◌, arith}
use Rattle.std.specs.Bool.{MatchBool}
use Rattle.std.specs.List.{list_all, AllByRecursion}
use Rattle.std.specs.Str.{IsAscii, IsNotAscii}
use Rattle.std.proofs.lemmas.List.{get_or_past}
use Rattle.std.proofs.lemmas.List.Folds.{list_all-append, list_all_at}
use Rattle.std.proofs.lemmas.Bool.{le-leb, lt-leb, leb-true, and_from, and_parts}
use Rattle.util.specs.Text.{is_text, IsText}

pub text_none : IsText []
unfolding is_text
text_none = refl

pub text_append : (a b : List ℕ) → IsText a → IsText b → IsText (a ++ b)
unfolding is_text
text_append a b p q = list_all-append (λ x. leb x 127) a b ∙ and_from (is_text a) (is_text b) p q

pub text_from_all : (bs : List ℕ) → AllByRecursion (λ b. b ≤ 127) bs → IsText bs
unfolding is_text
text_from_all [] h = refl
text_from_all (b ∷ bs) h = and_from (leb b 127) (is_text bs) (le-leb b 127 h.0) (text_from_all bs h.1)

pub all_from_text : (bs : List ℕ) → IsText bs → AllByRecursion (λ b. b ≤ 127) bs
unfolding is_text
all_from_text [] h = tt
all_from_text (b ∷ bs) h = let p = and_parts (leb b 127) (is_text bs) h in (leb-true b 127 p.0, all_from_text bs p.1)

-- what the test of bytes answers
pub text_from_test : (bs : List ℕ) (r : Bool) → MatchBool r (IsAscii bs) (IsNotAscii bs) → r ≡ is_text bs
unfolding is_text
text_from_test bs true h = sym (every bs h)
  where
    every : (bs : List ℕ) → IsAscii bs → list_all (λ b. leb b 127) bs ≡ true
    every [] h = refl
    every (b ∷ bs) h = and_from (leb b 127) (list_all (λ b. leb b 127) bs) (le-leb b 127 (omega (arith, h 0))) (every bs (λ i. h (suc i)))
text_from_test bs false h = sym (some bs h.0 h.1)
  where
    some : (bs : List ℕ) (i : ℕ) → 128 ≤ get_or bs i 0 → list_all (λ b. leb b 127) bs ≡ false
    some bs i h = list_all_at (λ b. leb b 127) bs i 0 (grind (arith, get_or_past)) (lt-leb (get_or bs i 0) 127 (omega arith))
