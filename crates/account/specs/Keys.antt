-- The keys of an error's entries and their names.
use Rattle.std.specs.Prelude.{Some, None, codes, Option}
use Rattle.sheet.specs.Parts.{Text}
use Rattle.account.specs.declared.context.ContextKind.{ContextKind}
use Rattle.account.specs.declared.context.ContextKind.TheVariants as is

-- the name of a key; two keys have none
abbrev pub name_of : ContextKind → Option Text
name_of is.InvalidSubcommand = Some (codes "Invalid Subcommand")
name_of is.InvalidArg = Some (codes "Invalid Argument")
name_of is.PriorArg = Some (codes "Prior Argument")
name_of is.ValidSubcommand = Some (codes "Valid Subcommand")
name_of is.ValidValue = Some (codes "Valid Value")
name_of is.InvalidValue = Some (codes "Invalid Value")
name_of is.ActualNumValues = Some (codes "Actual Number of Values")
name_of is.ExpectedNumValues = Some (codes "Expected Number of Values")
name_of is.MinValues = Some (codes "Minimum Number of Values")
name_of is.SuggestedCommand = Some (codes "Suggested Command")
name_of is.SuggestedSubcommand = Some (codes "Suggested Subcommand")
name_of is.SuggestedArg = Some (codes "Suggested Argument")
name_of is.SuggestedValue = Some (codes "Suggested Value")
name_of is.TrailingArg = Some (codes "Trailing Argument")
name_of is.Suggested = Some (codes "Suggested")
name_of is.Usage = None
name_of is.Custom = None
