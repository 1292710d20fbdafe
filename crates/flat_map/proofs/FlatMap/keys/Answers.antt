use Rattle.flat_map.proofs.Entries.{keys_are}
use Rattle.flat_map.proofs.FlatMap.keys.Goals as goal

pub returns : goal.returns
returns g c =
    let m = c.args.self.now in
    keys_are m.keys.now m.values.now m.count c.len-n.result c.len-n.ensures.value
