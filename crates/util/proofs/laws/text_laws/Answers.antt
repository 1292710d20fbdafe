use Rattle.util.proofs.Texts.{text_none, text_append}
use Rattle.util.proofs.laws.text_laws.Goals as goal

pub returns : goal.returns
returns c = (text_none, text_append)
