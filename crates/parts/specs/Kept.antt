-- That meter and printer keep the laws of a taker: what their ghost items cite. Proofs, and nothing to know of them.
use Rattle.std.specs.Prelude.{◌≡◌, ℕ, ◌+◌, ◌<◌, List, ◌++◌, length, Option, refl}
use Rattle.std.proofs.Common.{sym, ap, ◌∙◌, append_assoc, append-nil, arith, length-append}
use Rattle.sheet.specs.Parts.{Part}
use Rattle.sheet.specs.Sheets.{Joins, showing}
use Rattle.sheet.specs.Symbols.{showing_alike}
use Rattle.util.specs.Lengths.{exact}
use Rattle.std.proofs.lemmas.Grind.{flat_map-append}
use Rattle.parts.specs.Takers.{Laws, Counts, Prints}

length_showing : (f : Part → List ℕ) (l m : List Part) → length (showing f (l ++ m)) ≡ length (showing f l) + length (showing f m)
length_showing f l m = ap (λ (r : List ℕ). length r) (flat_map-append f l m) ∙ length-append (showing f l) (showing f m)

pub counts_laws : {C X : Type 0} (shows : X → Part → List ℕ) → Joins shows → (sheet : C → X) (total : C → Option ℕ)
    → Laws {C = C} (λ s l t. Counts shows (sheet s) (total s) l (sheet t) (total t)) (λ _ _. ⊥)
counts_laws {C = C} shows joins sheet total = record {
  none = λ s. record { sheet = refl; total = λ k e. e ∙ ap (λ (n : ℕ). exact n) (let z : k ≡ k + 0 = omega arith in z) };
  more = λ s t u l m p q. record {
    sheet = q.sheet ∙ p.sheet;
    total = λ k e. q.total (k + length (showing (shows (sheet s)) l)) (p.total k e)
        ∙ ap (λ (n : ℕ). exact n) (let a = length_showing (shows (sheet s)) l m in let h = ap (λ x. length (showing (shows x) m)) p.sheet in
        let z : (k + length (showing (shows (sheet s)) l)) + length (showing (shows (sheet t)) m) ≡ k + length (showing (shows (sheet s)) (l ++ m)) = omega arith in z);
  };
  ahead = λ s l m f. f;
  after = λ s t l m p f. f;
  alike = λ s t l m e p. record {
    sheet = p.sheet;
    total = λ k h. p.total k h ∙ ap (λ (bs : List ℕ). exact (k + length bs)) (showing_alike (shows (sheet s)) (joins (sheet s)) l m e);
  };
  alike_fails = λ s l m e f. f;
}

pub prints_laws : {C X : Type 0} (shows : X → Part → List ℕ) → Joins shows → (sheet : C → X) (lender : C → ℕ) (held : C → List ℕ) (left : C → ℕ)
    → Laws {C = C} (λ s l t. Prints shows (sheet s) (lender s) (held s) (left s) l (sheet t) (lender t) (held t) (left t)) (λ s l. left s < length (showing (shows (sheet s)) l))
prints_laws shows joins sheet lender held left = record {
  none = λ s. record { sheet = refl; lender = refl; held = sym (append-nil (held s)); left = omega arith };
  more = λ s t u l m p q. record {
    sheet = q.sheet ∙ p.sheet;
    lender = q.lender ∙ p.lender;
    held = (let e = flat_map-append (shows (sheet s)) l m in let h = ap (λ x. showing (shows x) m) p.sheet in let a = append_assoc (held s) (showing (shows (sheet s)) l) (showing (shows (sheet s)) m) in let b = p.held in let d = q.held in cc);
    left = (let e = length_showing (shows (sheet s)) l m in let h = ap (λ x. length (showing (shows x) m)) p.sheet in omega (arith, p.left, q.left));
  };
  ahead = λ s l m f. (let e = length_showing (shows (sheet s)) l m in omega arith);
  after = λ s t l m p f. (let e = length_showing (shows (sheet s)) l m in let h = ap (λ x. length (showing (shows x) m)) p.sheet in omega (arith, p.left));
  alike = λ s t l m e p. record {
    sheet = p.sheet;
    lender = p.lender;
    held = p.held ∙ ap (λ (bs : List ℕ). held s ++ bs) (showing_alike (shows (sheet s)) (joins (sheet s)) l m e);
    left = (let a = ap (λ (bs : List ℕ). length bs) (showing_alike (shows (sheet s)) (joins (sheet s)) l m e) in omega (arith, p.left));
  };
  alike_fails = λ s l m e f. (let a = ap (λ (bs : List ℕ). length bs) (showing_alike (shows (sheet s)) (joins (sheet s)) l m e) in omega arith);
}
