-- The tag sheet: labelled parts stand between 1B and a letter, and 1B z.
use Rattle.std.specs.Prelude.{ℕ, cond, List, [], ◌∷◌, ◌==◌}
use Rattle.sheet.specs.Frames.{framing}
use Rattle.sheet.specs.Parts.{Label, error, valid, invalid, literal, given, ready, Part}

-- the role's initial: e, v, i, l, g or r
abbrev pub letter : Label → ℕ
letter error = 101
letter valid = 118
letter invalid = 105
letter literal = 108
letter given = 103
letter ready = 114

-- byte 1B is doubled
abbrev pub tag_byte : ℕ → List ℕ
tag_byte b = cond (b == 27) (27 ∷ 27 ∷ []) (b ∷ [])

abbrev pub start_mark : Label → List ℕ
start_mark l = 27 ∷ letter l ∷ []

abbrev pub end_mark : Label → List ℕ
end_mark l = 27 ∷ 122 ∷ []

abbrev pub tag : Part → List ℕ
tag p = framing start_mark tag_byte end_mark p
