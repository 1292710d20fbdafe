-- The line that lists values, as a message.
use Rattle.std.specs.Prelude.{◌<◌, ◌⊎◌, List, [], ◌∷◌, ◌++◌, length, codes}
use Rattle.std.specs.List.{flat_map}
use Rattle.sheet.specs.Parts.{Text, valid, Part, fixed, labelled}
use Rattle.util.specs.Shown.{shown}
use Rattle.util.specs.declared.packed.PackError.{PackError}
use Rattle.util.specs.declared.packed.PackError.TheVariants.{Long, NoMemory}

-- a value after a comma
abbrev pub next : Text → List Part
next v = fixed (codes ", ") ∷ labelled valid v ∷ []

-- the shown forms as valid words, between brackets; nothing where there is none
abbrev pub line : List Text → List Part
line [] = []
line (v ∷ vs) = fixed (codes "[possible values: ") ∷ labelled valid v ∷ (flat_map next vs ++ (fixed (codes "]") ∷ []))

-- one of the values has a shown form that is longer than two bytes can tell
abbrev pub SomeLong : List Text → Type 0
SomeLong [] = ⊥
SomeLong (t ∷ ts) = (65535 < length (shown t)) ⊎ SomeLong ts

-- why shown forms are not packed: one of them is too long, or there is no memory
abbrev pub NotPacked : List Text → PackError → Type 0
NotPacked ts Long = SomeLong ts
NotPacked ts NoMemory = Unit {0}
