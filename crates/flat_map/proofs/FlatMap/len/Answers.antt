use Rattle.std.proofs.Common.{◌≡◌, length, arith}
use Rattle.flat_map.specs.Assoc.{entries}
use Rattle.flat_map.proofs.Entries.{length_entries, entries_counted}
use Rattle.flat_map.proofs.FlatMap.len.Goals as goal

pub returns : goal.returns
returns g c =
    let m = c.args.self.now in
    let e : c.min-2.result ≡ length (entries m.keys.now m.values.now m.count) = omega (arith, c.min.ensures, c.min-2.ensures, length_entries m.keys.now m.values.now m.count) in
    record {
      value = e;
      entries = entries_counted m.keys.now m.values.now m.count c.min-2.result e;
      bound = (omega (arith, c.min.ensures, c.min-2.ensures), omega (arith, c.min.ensures, c.min-2.ensures));
    }
