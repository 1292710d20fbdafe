-- What an entry's value means.
use Rattle.std.specs.Prelude.{Bool, List, ℤ}
use Rattle.util.specs.Packed.{items}
use Rattle.sheet.specs.Parts.{Text}
use Rattle.account.specs.declared.context.ContextValue.{ContextValue}
use Rattle.account.specs.declared.context.ContextValue.TheVariants.{None, Bool as Truth, String, Strings, StyledStr, StyledStrs, Number}

-- a value: styled texts carry marks of their own
pub data Value : Type 0 where
  none : Value
  bool : Bool → Value
  string : Text → Value
  strings : List Text → Value
  styled_str : Text → Value
  styled_strs : List Text → Value
  number : ℤ → Value

-- the value that the code holds: a list lies packed
abbrev pub value_of : ContextValue → Value
value_of None = none
value_of (Truth b) = bool b
value_of (String t) = string t.now
value_of (Strings l) = strings (items l.now)
value_of (StyledStr t) = styled_str t.now
value_of (StyledStrs l) = styled_strs (items l.now)
value_of (Number n) = number n
