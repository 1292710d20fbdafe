use Rattle.util.proofs.Texts.{text_from_test}
use Rattle.util.proofs.text.is_text.Goals as goal

pub returns : goal.returns
returns c = text_from_test c.args.bytes.now c.is_ascii.result c.is_ascii.ensures.cases
