-- The kinds of errors and their wording.
use Rattle.std.specs.Prelude.{Some, None, codes, Option}
use Rattle.sheet.specs.Parts.{Text}
use Rattle.account.specs.declared.kind.ErrorKind.{ErrorKind}
use Rattle.account.specs.declared.kind.ErrorKind.TheVariants as is

-- the crate's wording for a kind; five kinds have none
abbrev pub wording_of : ErrorKind → Option Text
wording_of is.InvalidValue = Some (codes "one of the values isn't valid for an argument")
wording_of is.UnknownArgument = Some (codes "unexpected argument found")
wording_of is.InvalidSubcommand = Some (codes "unrecognized subcommand")
wording_of is.NoEquals = Some (codes "equal is needed when assigning values to one of the arguments")
wording_of is.ValueValidation = Some (codes "invalid value for one of the arguments")
wording_of is.TooManyValues = Some (codes "unexpected value for an argument found")
wording_of is.TooFewValues = Some (codes "more values required for an argument")
wording_of is.WrongNumberOfValues = Some (codes "too many or too few values for an argument")
wording_of is.ArgumentConflict = Some (codes "an argument cannot be used with one or more of the other specified arguments")
wording_of is.MissingRequiredArgument = Some (codes "one or more required arguments were not provided")
wording_of is.MissingSubcommand = Some (codes "a subcommand is required but one was not provided")
wording_of is.InvalidUtf8 = Some (codes "invalid UTF-8 was detected in one or more arguments")
wording_of is.DisplayHelp = None
wording_of is.DisplayHelpOnMissingArgumentOrSubcommand = None
wording_of is.DisplayVersion = None
wording_of is.Io = None
wording_of is.Format = None
