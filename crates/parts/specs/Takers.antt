-- What holds of anything that takes the parts of a message.
use Rattle.std.specs.Prelude.{◌≡◌, ℕ, ◌+◌, List, [], ◌++◌, length, Option, Result, MatchResult}
use Rattle.sheet.specs.Parts.{Part, symbols}
use Rattle.sheet.specs.Sheets.{showing}
use Rattle.util.specs.Lengths.{exact}

-- `steps s ps t`: these parts take it from s to t. `fails s ps`: it may refuse one of them.
pub record Laws {C : Type 0} (steps : C → List Part → C → Type 0) (fails : C → List Part → Type 0) : Type 0 where
  pub none : (s : C) → steps s [] s
  pub more : (s t u : C) (l m : List Part) → steps s l t → steps t m u → steps s (l ++ m) u
  -- a refusal ahead, or after some parts, is one of the whole list
  pub ahead : (s : C) (l m : List Part) → fails s l → fails s (l ++ m)
  pub after : (s t : C) (l m : List Part) → steps s l t → fails t m → fails s (l ++ m)
  -- lists that say the same are taken alike
  pub alike : (s t : C) (l m : List Part) → symbols l ≡ symbols m → steps s l t → steps s m t
  pub alike_fails : (s : C) (l m : List Part) → symbols l ≡ symbols m → fails s l → fails s m

-- what a call that tells parts ensures
abbrev pub Tells : {C T E : Type 0} (steps : C → List Part → C → Type 0) (fails : C → List Part → Type 0) → C → List Part → C → Result T E → Type 0
Tells steps fails s ps t r = MatchResult r (λ _. steps s ps t) (λ _. fails s ps)

-- a meter with the sheet x and the total n took parts: the sheet stays, and their lengths are added
pub record Counts {X : Type 0} (shows : X → Part → List ℕ) (x : X) (n : Option ℕ) (l : List Part) (y : X) (m : Option ℕ) : Type 0 where
  pub sheet : y ≡ x
  pub total : (k : ℕ) → n ≡ exact k → m ≡ exact (k + length (showing (shows x) l))

-- a printer with the sheet x took parts: its sink, by its ghost name, what it held and what it had left
pub record Prints {X : Type 0} (shows : X → Part → List ℕ) (x : X) (a : ℕ) (h : List ℕ) (n : ℕ) (l : List Part) (y : X) (b : ℕ) (g : List ℕ) (m : ℕ) : Type 0 where
  pub sheet : y ≡ x
  pub lender : b ≡ a
  pub held : g ≡ h ++ showing (shows x) l
  pub left : m + length (showing (shows x) l) ≡ n
