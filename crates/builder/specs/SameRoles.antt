-- Of `same_role`: it decides whether two roles are one. A proof, which nobody has to read.
use Rattle.std.proofs.Common.{◌≡◌, rules}
use Rattle.std.specs.Bool.{Decides}
use Rattle.builder.specs.Styling.{same_role}
use Rattle.builder.specs.declared.styling.StyledRole.{StyledRole}

pub same_role_decides : (x y : StyledRole) → Decides (same_role x y) (x ≡ y)
same_role_decides x y = search rules
