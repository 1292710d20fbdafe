-- The check: what the loop that computes it keeps, and the facts of it that all else rests on.
use Rattle.std.proofs.Common.{◌≡◌, ℕ, zero, suc, ◌+◌, ◌%◌, true, false, not, ◌&&◌, List, [], ◌∷◌, replicate, fold, refl, ap, ◌∙◌, arith}
use Rattle.std.proofs.Math.Dec.{eqb}
use Rattle.sink.specs.Check.{check, running}
use Rattle.sink.specs.Layout.{body_of}

-- The sum of the bytes and that of its running values, from sums that stand at s and r.
abbrev pub totals : ℕ → ℕ → List ℕ → ℕ × ℕ
totals s r bs = (fold (λ a x. a + x) s bs, fold (λ a x. a + x) r (running s bs))

pub check_totals : (bs : List ℕ) → check bs ≡ ((totals 0 0 bs).0 % 255, (totals 0 0 bs).1 % 255)
unfolding check
check_totals bs = refl

totals_zeros : (n : ℕ) → totals 0 0 (replicate n 0) ≡ (0, 0)
totals_zeros zero = refl
totals_zeros (suc n) = totals_zeros n

pub check_zeros : (n : ℕ) → check (replicate n 0) ≡ (0, 0)
check_zeros n = check_totals (replicate n 0) ∙ ap (λ (p : ℕ × ℕ). (p.0 % 255, p.1 % 255)) (totals_zeros n)

pub check_sample : check (body_of (97 ∷ [])) ≡ (98, 1)
unfolding check
check_sample = refl

same_pair : (p q : ℕ × ℕ) → p.0 ≡ q.0 → p.1 ≡ q.1 → p ≡ q
same_pair p q e f = ap (λ (i : ℕ). (i, p.1)) e ∙ ap (λ (i : ℕ). (q.0, i)) f

-- What a comparison of two checks tells.
pub same_check : (p q : ℕ × ℕ) → false ≡ not (eqb p.0 q.0 && eqb p.1 q.1) → p ≡ q
same_check p q h = same_pair p q (grind (arith, h)) (grind (arith, h))

pub other_check : (p q : ℕ × ℕ) → true ≡ not (eqb p.0 q.0 && eqb p.1 q.1) → p ≡ q → ⊥
other_check p q h e =
    let f : p.0 ≡ q.0 = ap (λ (x : ℕ × ℕ). x.0) e in
    let g : p.1 ≡ q.1 = ap (λ (x : ℕ × ℕ). x.1) e in
    grind (arith, h, f, g)
