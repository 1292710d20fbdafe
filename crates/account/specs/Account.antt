-- What a message says: its account. What prints alike is one account, so the kind of error is not in it, nor which entries led to it.
use Rattle.std.specs.Prelude.{◌≡◌, ◌^◌, ◌<◌, Bool, true, List, [], ◌∷◌, ℤ, Some, None, Option, ◌≢◌}
use Rattle.std.specs.Int.Signed.{mag}
use Rattle.std.specs.List.{AllByRecursion}
use Rattle.sheet.specs.Parts.{Text}
use Rattle.account.specs.declared.kind.ErrorKind.{ErrorKind}
use Rattle.account.specs.declared.kind.ErrorKind.TheVariants as kind

-- who cannot be used with what came before: an argument, a subcommand, or one that is not named
pub data Who : Type 0 where
  the_argument : Text → Who
  the_subcommand : Text → Who
  nobody : Who

-- what came before: none that is told of, several arguments, one, or others that are not named
pub data Prior : Type 0 where
  absent : Prior
  several : List Text → Prior
  one : Text → Prior
  others : Prior

-- what stands behind an invalid value: the possible values in their shown form, or the reason. No value listed is nothing, and so is no reason given.
pub data Detail : Type 0 where
  listed : List Text → Detail
  because : Text → Detail

-- the kinds whose wording is a statement of its own; that of ArgumentConflict is the clash of nobody, with what is absent
pub data Worded : Type 0 where
  invalid_value unknown_argument invalid_subcommand no_equals value_validation too_many_values too_few_values wrong_number_of_values : Worded
  missing_required_argument missing_subcommand invalid_utf8 : Worded

-- what went wrong
pub data Statement : Type 0 where
  -- an argument that is used more than once
  repeat : Text → Statement
  clash : Who → Prior → Statement
  -- an argument whose value wants an equal sign
  equals : Text → Statement
  -- an argument without a value, and the possible values
  empty : Text → List Text → Statement
  -- a value and its argument
  pair : Text → Text → Detail → Statement
  -- a subcommand that nobody knows
  strange : Text → Statement
  -- arguments that are required
  missing : List Text → Statement
  -- a subcommand that wants one of its own, and the possible ones
  childless : Text → List Text → Statement
  -- a value too many, and its argument
  extra : Text → Text → Statement
  -- how many values an argument wants at least, and how many it has
  few : ℤ → Text → ℤ → Statement
  -- how many values an argument wants, and how many it has
  count : ℤ → Text → ℤ → Statement
  -- an argument that nobody knows
  found : Text → Statement
  wording : Worded → Statement
  -- a raw message or a source, as it was given
  given_text : Text → Statement
  unknown : Statement

-- how a message opens: it says what went wrong, or a styled message stands there, a ready text
pub data Opening : Type 0 where
  says : Statement → Opening
  ready_text : Text → Opening

-- what a similar name is a name of
pub data Word : Type 0 where
  subcommand argument value : Word

-- a tip: similar names, nothing behind the word tip, or a ready text
pub data Tip : Type 0 where
  similar : Word → List Text → Tip
  bare_tip : Tip
  ready_tip : Text → Tip

-- how a message ends: it names the flag that helps, it ends its line, or it just ends
pub data Ending : Type 0 where
  flag : Text → Ending
  closed : Ending
  bare : Ending

-- the whole; a gap is a line's end more
pub record Account : Type 0 where
  pub opening : Opening
  pub tips : List Tip
  pub gap : Bool
  pub usage : Option Text
  pub ending : Ending

-- the numbers that are said
abbrev pub numbers_of : Statement → List ℤ
numbers_of (few m a c) = m ∷ c ∷ []
numbers_of (count m a c) = m ∷ c ∷ []
numbers_of (repeat a) = []
numbers_of (clash w p) = []
numbers_of (equals a) = []
numbers_of (empty a vs) = []
numbers_of (pair v a d) = []
numbers_of (strange s) = []
numbers_of (missing ns) = []
numbers_of (childless s vs) = []
numbers_of (extra v a) = []
numbers_of (found a) = []
numbers_of (wording w) = []
numbers_of (given_text t) = []
numbers_of unknown = []

abbrev pub numbers_in : Opening → List ℤ
numbers_in (says s) = numbers_of s
numbers_in (ready_text t) = []

-- a signed number of 64 bits; mag is n of n and of -(n + 1)
abbrev pub Signed64 : ℤ → Type 0
Signed64 z = mag z < 2 ^ 63

-- an account that an error can have: its numbers have 64 bits, and no gap stands with a bare ending
pub record Proper (a : Account) : Type 0 where
  pub numbers : AllByRecursion Signed64 (numbers_in a.opening)
  pub ends : a.gap ≡ true → a.ending ≢ bare

-- the kind with that wording
abbrev pub kind_of : Worded → ErrorKind
kind_of invalid_value = kind.InvalidValue
kind_of unknown_argument = kind.UnknownArgument
kind_of invalid_subcommand = kind.InvalidSubcommand
kind_of no_equals = kind.NoEquals
kind_of value_validation = kind.ValueValidation
kind_of too_many_values = kind.TooManyValues
kind_of too_few_values = kind.TooFewValues
kind_of wrong_number_of_values = kind.WrongNumberOfValues
kind_of missing_required_argument = kind.MissingRequiredArgument
kind_of missing_subcommand = kind.MissingSubcommand
kind_of invalid_utf8 = kind.InvalidUtf8

-- what a kind's wording says; five kinds have none
abbrev pub worded : ErrorKind → Option Statement
worded kind.InvalidValue = Some (wording invalid_value)
worded kind.UnknownArgument = Some (wording unknown_argument)
worded kind.InvalidSubcommand = Some (wording invalid_subcommand)
worded kind.NoEquals = Some (wording no_equals)
worded kind.ValueValidation = Some (wording value_validation)
worded kind.TooManyValues = Some (wording too_many_values)
worded kind.TooFewValues = Some (wording too_few_values)
worded kind.WrongNumberOfValues = Some (wording wrong_number_of_values)
worded kind.ArgumentConflict = Some (clash nobody absent)
worded kind.MissingRequiredArgument = Some (wording missing_required_argument)
worded kind.MissingSubcommand = Some (wording missing_subcommand)
worded kind.InvalidUtf8 = Some (wording invalid_utf8)
worded kind.DisplayHelp = None
worded kind.DisplayHelpOnMissingArgumentOrSubcommand = None
worded kind.DisplayVersion = None
worded kind.Io = None
worded kind.Format = None
