use Rattle.sink.proofs.Files.{held_is}
use Rattle.sink.proofs.block_file.BlockFile.len.Goals as goal

pub returns : goal.returns
returns c = held_is c.args.self.now
