-- The code's parts as parts of a message.
use Rattle.std.specs.Prelude.{List, map}
use Rattle.sheet.specs.Parts.{Part}
use Rattle.sheet.specs.Roles.{told_part}
use Rattle.sheet.specs.declared.part.Part.{Part as Piece}

abbrev pub parts_of : List Piece → List Part
parts_of ps = map told_part ps
