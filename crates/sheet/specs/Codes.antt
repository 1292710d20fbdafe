-- A code from which a reader can take one symbol after the other is uniquely readable. Proofs, and nothing to know of a sheet.
use Rattle.std.specs.Prelude.{◌≡◌, ℕ, List, [], ◌∷◌, ◌++◌, map, refl}
use Rattle.std.proofs.Math.Option.{Option, none, some, none-ne-some, some-injective}
use Rattle.std.proofs.Common.{sym, ◌∙◌, ap, ap₂}
use Rattle.std.specs.List.{flat_map, AllByRecursion}
use Rattle.std.proofs.lemmas.List.{append_cancel_left}
use Rattle.sheet.specs.Parts.{Text, Label, Part, fixed, Symbol, symbols}
use Rattle.sheet.specs.Sheets.{Legible}
use Rattle.sheet.specs.Symbols.{shown_symbol, showing_symbols, same_tidy, tidy_own}

-- a code can be read where P holds: one reader tells the first symbol's view, whatever follows it
pub record Reads {X A : Type 0} (P : X → Type 0) (code : X → List A) : Type 1 where
  pub View : Type 0
  pub view : X → View
  pub same : (x y : X) → view x ≡ view y → code x ≡ code y
  pub first : List A → Option View
  pub at_end : first [] ≡ none
  pub finds : (x : X) (s : List A) → P x → first (code x ++ s) ≡ some (view x)

module _ {X A : Type 0} (P : X → Type 0) (code : X → List A) (r : Reads P code) where
  -- equal codes have equal views
  pub views : (xs ys : List X) → AllByRecursion P xs → AllByRecursion P ys → flat_map code xs ≡ flat_map code ys → map r.view xs ≡ map r.view ys
  views [] [] g h e = refl
  views [] (y ∷ ys) g h e = absurd (none-ne-some (r.view y) (sym r.at_end ∙ ap r.first e ∙ r.finds y (flat_map code ys) h.0))
  views (x ∷ xs) [] g h e = absurd (none-ne-some (r.view x) (sym r.at_end ∙ ap r.first (sym e) ∙ r.finds x (flat_map code xs) g.0))
  views (x ∷ xs) (y ∷ ys) g h e =
      let seen : r.view x ≡ r.view y = some-injective (r.view x) (r.view y) (sym (r.finds x (flat_map code xs) g.0) ∙ ap r.first e ∙ r.finds y (flat_map code ys) h.0) in
      let rest : code x ++ flat_map code xs ≡ code x ++ flat_map code ys = e ∙ ap (λ z. z ++ flat_map code ys) (sym (r.same x y seen)) in
      ap₂ ◌∷◌ seen (views xs ys g.1 h.1 (append_cancel_left (code x) (flat_map code xs) (flat_map code ys) rest))

-- a list is known by its elements' views
pub from_views : {X V : Type 0} (P : X → Type 0) (view : X → V) → ((x y : X) → P x → P y → view x ≡ view y → x ≡ y) →
    (xs ys : List X) → AllByRecursion P xs → AllByRecursion P ys → map view xs ≡ map view ys → xs ≡ ys
from_views P view k [] [] g h e = refl
from_views P view k [] (y ∷ ys) g h e = cc
from_views P view k (x ∷ xs) [] g h e = cc
from_views P view k (x ∷ xs) (y ∷ ys) g h e =
    let p : view x ≡ view y = cc in
    let q : map view xs ≡ map view ys = cc in
    ap₂ ◌∷◌ (k x y g.0 h.0 p) (from_views P view k xs ys g.1 h.1 q)

-- where every symbol is allowed
abbrev pub Any : {X : Type 0} → X → Type 0
Any x = Unit {0}

pub every : {X : Type 0} (xs : List X) → AllByRecursion Any xs
every [] = tt
every (x ∷ xs) = (tt, every xs)

-- a sheet whose symbols are shown by a code that can be read is legible
pub legible : (show : Part → List ℕ) → ((a b : Text) → show (fixed (a ++ b)) ≡ show (fixed a) ++ show (fixed b)) →
    (r : Reads Any (shown_symbol show)) → ((x y : Symbol Label) → r.view x ≡ r.view y → x ≡ y) → Legible show
legible show joins r apart p q g h u v e =
    sym (tidy_own p g) ∙ same_tidy p q (from_views Any r.view (λ x y a b k. apart x y k) (symbols p) (symbols q) (every (symbols p)) (every (symbols q))
    (views Any (shown_symbol show) r (symbols p) (symbols q) (every (symbols p)) (every (symbols q))
    (sym (showing_symbols show joins p) ∙ e ∙ showing_symbols show joins q))) ∙ tidy_own q h
