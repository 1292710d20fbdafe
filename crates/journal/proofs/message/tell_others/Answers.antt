use Rattle.std.proofs.Common.{[], ◌∷◌}
use Rattle.parts.proofs.Leads.{next, exit}
use Rattle.journal.proofs.message.tell_others.Goals as goal

pub loop-value-preserved : goal.loop-value-preserved
loop-value-preserved g c = next g.T.Taker.laws (_ ∷ _ ∷ []) _ (rw c.in-Some.ensures.steps.items at c.loop-value.invariant) c.in_ok-say_value.ensures

pub returns-in_err-say_value : goal.returns-in_err-say_value
returns-in_err-say_value g c =
    exit g.T.Taker.laws _ (_ ∷ _ ∷ []) _ _ c.from_residual.result (rw c.in-Some.ensures.steps.items at c.loop-value.invariant)
    c.in_err-say_value.ensures c.from_residual.ensures.1
