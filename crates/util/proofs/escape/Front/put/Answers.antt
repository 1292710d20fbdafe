use Rattle.std.proofs.Common.{arith}
use Rattle.std.proofs.lemmas.Slice.{drop-put_mid}
use Rattle.util.proofs.escape.Front.put.Goals as goal

pub returns-clause-free : goal.returns-clause-free
returns-clause-free c = drop-put_mid c.args.self.now.len _ c.args.self.now.out.now c.copy_from_slice.new.self _ (omega arith) (omega arith) (omega arith)
