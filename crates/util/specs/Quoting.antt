-- The bytes of a quoted byte.
use Rattle.std.specs.Prelude.{ℕ, List}
use Rattle.util.specs.declared.escape.Quoted.{Quoted}
use Rattle.util.specs.declared.escape.Quoted.TheVariants.{One, Two, Five, Six}

-- the bytes themselves, whatever their number
abbrev pub quoted_bytes : Quoted → List ℕ
quoted_bytes (One bytes) = bytes
quoted_bytes (Two bytes) = bytes
quoted_bytes (Five bytes) = bytes
quoted_bytes (Six bytes) = bytes
