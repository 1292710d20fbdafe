use Rattle.flat_map.proofs.Entries.{entries_front}
use Rattle.flat_map.proofs.iter_in.Goals as goal

pub returns : goal.returns
returns g c = entries_front c.args.keys.now c.args.values.now c.args.count c.min.result c.min.ensures
