-- What a sheet is: the bytes that it shows for each part. Its rules are laws of that.
use Rattle.std.specs.Prelude.{◌≡◌, ℕ, ◌+◌, ◌*◌, ◌≤◌, List, ◌++◌, length}
use Rattle.std.specs.List.{flat_map}
use Rattle.sheet.specs.Parts.{Part, fixed, text_of, Tidy, OfTexts}

-- two fixed texts joined show as their showings joined
abbrev pub Joins : {X : Type 0} → (X → Part → List ℕ) → Type 0
Joins {X = X} shows = (x : X) (a b : List ℕ) → shows x (fixed (a ++ b)) ≡ shows x (fixed a) ++ shows x (fixed b)

-- a showing is at most 16 times its text and 64 bytes long
abbrev pub Bounded : {X : Type 0} → (X → Part → List ℕ) → Type 0
Bounded {X = X} shows = (x : X) (p : Part) → length (shows x p) ≤ 16 * length (text_of p) + 64

-- the showings of some parts, one after the other
abbrev pub showing : (Part → List ℕ) → List Part → List ℕ
showing show ps = flat_map show ps

-- legible: two tidy lists of texts with equal joined showings are equal lists
abbrev pub Legible : (Part → List ℕ) → Type 0
Legible show = (p q : List Part) → Tidy p → Tidy q → OfTexts p → OfTexts q → showing show p ≡ showing show q → p ≡ q
