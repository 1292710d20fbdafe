use Rattle.std.proofs.Common.{[], ◌∷◌}
use Rattle.std.proofs.lemmas.List.{at_drop_all}
use Rattle.parts.specs.Told.{parts_of}
use Rattle.parts.proofs.Leads.{next, exit, end, at_part}
use Rattle.parts.proofs.say.Goals as goal

pub returns-in_err-part : goal.returns-in_err-part
returns-in_err-part g c =
    exit g.T.Taker.laws _ (_ ∷ []) _ _ c.from_residual.result
    (at_part g.T.Taker.laws c.args.parts.now c.loop-part.part-index _ c.loop-part-test.true c.loop-part.invariant) c.in_err-part.ensures c.from_residual.ensures.1

pub loop-part-preserved : goal.loop-part-preserved
loop-part-preserved g c =
    next g.T.Taker.laws (_ ∷ []) _
    (at_part g.T.Taker.laws c.args.parts.now c.loop-part.part-index _ c.loop-part-test.true c.loop-part.invariant) c.in_ok-part.ensures

pub returns : goal.returns
returns g c = end g.T.Taker.laws (rw (at_drop_all parts_of c.args.parts.now c.loop-part.part-index c.loop-part-test.false) at c.loop-part.invariant)
