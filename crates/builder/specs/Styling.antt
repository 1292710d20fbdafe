-- Styles by role.
use Rattle.std.specs.Prelude.{Bool, true, false, List, [], ◌∷◌, None}
use Rattle.builder.specs.declared.styling.Style.{Style}
use Rattle.builder.specs.declared.styling.StyledRole.{StyledRole}
use Rattle.builder.specs.declared.styling.StyledRole.TheVariants.{Error, Valid, Invalid, Literal}

-- no mark at all
abbrev pub plain_style : Style
plain_style = record { bold = false; underline = false; color = None }

-- whether two roles are the same
abbrev pub same_role : StyledRole → StyledRole → Bool
same_role Error Error = true
same_role Valid Valid = true
same_role Invalid Invalid = true
same_role Literal Literal = true
same_role _ _ = false

-- the four of them
abbrev pub all_roles : List StyledRole
all_roles = Error ∷ Valid ∷ Invalid ∷ Literal ∷ []
