use Rattle.std.proofs.Common.{rules}
use Rattle.flat_map.proofs.Entries.{entries_push}
use Rattle.flat_map.proofs.FlatMap.insert_unchecked.Goals as goal

pub returns : goal.returns
returns g c =
    let m = c.args.self.now in
    let p = entries_push m.keys.now c.append.new.items m.values.now c.append-2.new.items m.count c.len-n.result c.args.key c.args.value
    c.len-n.ensures.value c.if-n-self.false c.if-n-self-2.false c.append.ensures.after c.append-2.ensures.after in
    record {
      cases = p.is;
      spare = record { keys = p.spare_keys_lem; values = p.spare_values_lem };
      memory = search rules;
    }
