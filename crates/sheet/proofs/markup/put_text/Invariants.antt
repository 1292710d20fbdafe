use Rattle.std.proofs.Common.{length}
use Rattle.std.specs.List.{flat_map}
use Rattle.sheet.specs.Frames.{Leaves}
use Rattle.sheet.proofs.markup.put_text.Given as goal

abbrev pub invariant-loop-rest : goal.invariant-loop-rest
invariant-loop-rest g l =
    let coded = flat_map (g.M.Markup.coded l.markup) in
    Leaves g.K.Sink.held g.K.Sink.left l.initial.sink (coded l.text) l.sink (coded l.rest)

abbrev pub decreases-loop-rest : goal.decreases-loop-rest
decreases-loop-rest g l = length l.rest
