use Rattle.account.proofs.Messages.{legible_tells}
use Rattle.account.proofs.reading.legible_messages.Goals as goal

pub returns : goal.returns
returns c = legible_tells
