-- The parts that the code's roles name.
use Rattle.sheet.specs.declared.part.Part.{Part as Piece}
use Rattle.sheet.specs.declared.role.Role.{Role}
use Rattle.sheet.specs.declared.role.Role.TheVariants.{Error, Valid, Invalid, Literal, Fixed, Given, Ready}
use Rattle.sheet.specs.Parts.{Text, Part, fixed, labelled, error, valid, invalid, literal, given, ready}

-- a role and a text
abbrev pub part_of : Role → Text → Part
part_of Error t = labelled error t
part_of Valid t = labelled valid t
part_of Invalid t = labelled invalid t
part_of Literal t = labelled literal t
part_of Fixed t = fixed t
part_of Given t = labelled given t
part_of Ready t = labelled ready t

-- the code's part as a part of a message
abbrev pub told_part : Piece → Part
told_part p = part_of p.role p.text.now
