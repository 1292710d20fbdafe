use Rattle.std.proofs.Common.{ap, ◌∙◌, arith}
use Rattle.std.specs.List.{position}
use Rattle.flat_map.proofs.Entries.{placed_within, length_entries}
use Rattle.flat_map.specs.Maps.{entries_of}
use Rattle.flat_map.proofs.FlatMap.place.Goals as goal

pub returns-clause-bound : goal.returns-clause-bound
returns-clause-bound g c =
    let m = c.args.self.now in
    placed_within g.K.PartialEq.eq c.args.key (entries_of m) c.find.result _ (c.find.ensures ∙ ap (position (λ x. g.K.PartialEq.eq x c.args.key)) c.keys.ensures)
    (omega (arith, length_entries m.keys.now m.values.now m.count))
