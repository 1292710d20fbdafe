use Rattle.account.proofs.Messages.{terminal_messages, standard_messages}
use Rattle.account.proofs.reading.terminal_messages.Goals as goal

pub returns : goal.returns
returns c = record { styled = terminal_messages; standard = standard_messages }
