-- What rendered marks mean.
use Rattle.std.specs.Prelude.{ℕ, List, take}
use Rattle.builder.specs.declared.styling.Marks.{Marks}

-- their bytes: the first of the array
abbrev pub marks_bytes : Marks → List ℕ
marks_bytes m = take m.len m.bytes
