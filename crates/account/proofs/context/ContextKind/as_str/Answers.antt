use Rattle.account.proofs.context.ContextKind.as_str.Goals as goal

pub returns-in-InvalidSubcommand : goal.returns-in-InvalidSubcommand
returns-in-InvalidSubcommand c = rw c.in-InvalidSubcommand.is

pub returns-in-InvalidArg : goal.returns-in-InvalidArg
returns-in-InvalidArg c = rw c.in-InvalidArg.is

pub returns-in-PriorArg : goal.returns-in-PriorArg
returns-in-PriorArg c = rw c.in-PriorArg.is

pub returns-in-ValidSubcommand : goal.returns-in-ValidSubcommand
returns-in-ValidSubcommand c = rw c.in-ValidSubcommand.is

pub returns-in-ValidValue : goal.returns-in-ValidValue
returns-in-ValidValue c = rw c.in-ValidValue.is

pub returns-in-InvalidValue : goal.returns-in-InvalidValue
returns-in-InvalidValue c = rw c.in-InvalidValue.is

pub returns-in-ActualNumValues : goal.returns-in-ActualNumValues
returns-in-ActualNumValues c = rw c.in-ActualNumValues.is

pub returns-in-ExpectedNumValues : goal.returns-in-ExpectedNumValues
returns-in-ExpectedNumValues c = rw c.in-ExpectedNumValues.is

pub returns-in-MinValues : goal.returns-in-MinValues
returns-in-MinValues c = rw c.in-MinValues.is

pub returns-in-SuggestedCommand : goal.returns-in-SuggestedCommand
returns-in-SuggestedCommand c = rw c.in-SuggestedCommand.is

pub returns-in-SuggestedSubcommand : goal.returns-in-SuggestedSubcommand
returns-in-SuggestedSubcommand c = rw c.in-SuggestedSubcommand.is

pub returns-in-SuggestedArg : goal.returns-in-SuggestedArg
returns-in-SuggestedArg c = rw c.in-SuggestedArg.is

pub returns-in-SuggestedValue : goal.returns-in-SuggestedValue
returns-in-SuggestedValue c = rw c.in-SuggestedValue.is

pub returns-in-TrailingArg : goal.returns-in-TrailingArg
returns-in-TrailingArg c = rw c.in-TrailingArg.is

pub returns-in-Suggested : goal.returns-in-Suggested
returns-in-Suggested c = rw c.in-Suggested.is
