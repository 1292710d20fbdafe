use Rattle.account.proofs.kind.ErrorKind.as_str.Goals as goal

pub returns-in-InvalidValue : goal.returns-in-InvalidValue
returns-in-InvalidValue c = rw c.in-InvalidValue.is

pub returns-in-UnknownArgument : goal.returns-in-UnknownArgument
returns-in-UnknownArgument c = rw c.in-UnknownArgument.is

pub returns-in-InvalidSubcommand : goal.returns-in-InvalidSubcommand
returns-in-InvalidSubcommand c = rw c.in-InvalidSubcommand.is

pub returns-in-NoEquals : goal.returns-in-NoEquals
returns-in-NoEquals c = rw c.in-NoEquals.is

pub returns-in-ValueValidation : goal.returns-in-ValueValidation
returns-in-ValueValidation c = rw c.in-ValueValidation.is

pub returns-in-TooManyValues : goal.returns-in-TooManyValues
returns-in-TooManyValues c = rw c.in-TooManyValues.is

pub returns-in-TooFewValues : goal.returns-in-TooFewValues
returns-in-TooFewValues c = rw c.in-TooFewValues.is

pub returns-in-WrongNumberOfValues : goal.returns-in-WrongNumberOfValues
returns-in-WrongNumberOfValues c = rw c.in-WrongNumberOfValues.is

pub returns-in-ArgumentConflict : goal.returns-in-ArgumentConflict
returns-in-ArgumentConflict c = rw c.in-ArgumentConflict.is

pub returns-in-MissingRequiredArgument : goal.returns-in-MissingRequiredArgument
returns-in-MissingRequiredArgument c = rw c.in-MissingRequiredArgument.is

pub returns-in-MissingSubcommand : goal.returns-in-MissingSubcommand
returns-in-MissingSubcommand c = rw c.in-MissingSubcommand.is

pub returns-in-InvalidUtf8 : goal.returns-in-InvalidUtf8
returns-in-InvalidUtf8 c = rw c.in-InvalidUtf8.is
