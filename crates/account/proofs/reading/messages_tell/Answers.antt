use Rattle.account.proofs.Messages.{legible_tells}
use Rattle.account.proofs.reading.messages_tell.Goals as goal

pub returns : goal.returns
returns g c = legible_tells (g.S.Sheet.shows c.args.sheet.now) (g.met.S.LegibleSheet.legible c.args.sheet.now)
