use Rattle.std.proofs.Common.{Some, sym, ap, ◌∙◌, rules}
use Rattle.flat_map.proofs.Entries.{placed, lookup_held, lookup_past}
use Rattle.flat_map.specs.Maps.{entries_of}
use Rattle.flat_map.proofs.FlatMap.get.Goals as goal

pub returns-in_err-place : goal.returns-in_err-place
returns-in_err-place g c =
    let h = placed g.K.PartialEq.eq c.args.key (entries_of c.args.self.now) _ c.in_err-place.ensures.first in
    search (rules, sym (lookup_past g.K.PartialEq.eq c.args.key (entries_of c.args.self.now) h))

pub returns : goal.returns
returns g c =
    let m = c.args.self.now in
    let h = placed g.K.PartialEq.eq c.args.key (entries_of m) _ c.in_ok-place.ensures.first in
    ap (λ (v : g.row.V.Denot). Some v) c.index-values-place.is ∙ lookup_held g.K.PartialEq.eq c.args.key m.keys.now m.values.now m.count c.in_ok-place.place c.index-values-place.result h.0 h.1
