use Rattle.sink.proofs.Blocks as blocks
use Rattle.sink.proofs.Encoding as encoding
use Rattle.sink.proofs.laws.block_file_laws.Goals as goal

pub returns : goal.returns
returns c = record { sample = blocks.sample; zeros = encoding.zeros_empty }
