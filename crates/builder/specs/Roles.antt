-- What styles mean: a style for each role.
use Rattle.std.specs.Prelude.{◌≡◌, ◌≢◌, true, false, Some, None}
use Rattle.builder.specs.Styling.{plain_style, same_role}
use Rattle.builder.specs.declared.styling.Style.{Style}
use Rattle.builder.specs.declared.styling.AnsiColor.TheVariants.{Red, Green, Yellow}
use Rattle.builder.specs.declared.styling.StyledRole.{StyledRole}
use Rattle.builder.specs.declared.styling.StyledRole.TheVariants.{Error, Valid, Invalid, Literal}
use Rattle.builder.specs.declared.styling.Styles.{Styles}
use Rattle.flat_map.specs.Assoc.{entries, lookup}
use Rattle.std.specs.Option.{unwrap_or}

-- a role that the map lacks is plain
abbrev pub style_of : Styles → StyledRole → Style
style_of s q = unwrap_or (lookup same_role (entries s.roles s.styles 4) q) plain_style

-- s' has the style for the role, and each other style as s has it
pub record Changed (s : Styles) (role : StyledRole) (style : Style) (s' : Styles) : Type 0 where
  pub here : style_of s' role ≡ style
  pub others : (q : StyledRole) → role ≢ q → style_of s' q ≡ style_of s q

-- the standard colours: error bold red, literal bold, valid green, invalid yellow
abbrev pub standard : StyledRole → Style
standard Error = record { bold = true; underline = false; color = Some Red }
standard Valid = record { bold = false; underline = false; color = Some Green }
standard Invalid = record { bold = false; underline = false; color = Some Yellow }
standard Literal = record { bold = true; underline = false; color = None }
