-- What the code's codes are.
use Rattle.std.specs.Prelude.{ℕ, List}
use Rattle.sheet.specs.declared.markup.Code.{Code}
use Rattle.sheet.specs.declared.markup.Code.TheVariants.{Constant, Struck}

-- the bytes of a code
abbrev pub code_bytes : Code → List ℕ
code_bytes (Constant bytes) = bytes.now
code_bytes (Struck bytes) = bytes
