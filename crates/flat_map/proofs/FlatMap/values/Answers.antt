use Rattle.flat_map.proofs.Entries.{values_are}
use Rattle.flat_map.proofs.FlatMap.values.Goals as goal

pub returns : goal.returns
returns g c =
    let m = c.args.self.now in
    values_are m.keys.now m.values.now m.count c.len-n.result c.len-n.ensures.value
