use Rattle.std.proofs.Common.{[], ◌∷◌, sym, ap, ◌∙◌}
use Rattle.journal.specs.Shown.{line}
use Rattle.parts.proofs.Leads.{begin, next, exit, last}
use Rattle.util.specs.Packed.{items}
use Rattle.journal.proofs.message.LineMessage.tell.Goals as goal

pub returns-in_err-say_value : goal.returns-in_err-say_value
returns-in_err-say_value g c =
    let e = ap items (sym c.new-items.ensures) ∙ c.in-Some.ensures.steps.items in
    exit g.T.Taker.laws _ (_ ∷ _ ∷ []) _ _ c.from_residual.result (begin _ _ (ap line e)) c.in_err-say_value.ensures c.from_residual.ensures.1

pub returns-in_err-tell_others : goal.returns-in_err-tell_others
returns-in_err-tell_others g c =
    let e = ap items (sym c.new-items.ensures) ∙ c.in-Some.ensures.steps.items in
    exit g.T.Taker.laws _ _ _ _ c.from_residual-in_err-tell_others.result
    (next g.T.Taker.laws (_ ∷ _ ∷ []) _ (begin _ _ (ap line e)) c.in_ok-say_value.ensures) c.in_err-tell_others.ensures c.from_residual-in_err-tell_others.ensures.1

pub returns : goal.returns
returns g c =
    let e = ap items (sym c.new-items.ensures) ∙ c.in-Some.ensures.steps.items in
    last g.T.Taker.laws _ c.say.result
    (next g.T.Taker.laws _ _ (next g.T.Taker.laws (_ ∷ _ ∷ []) _ (begin _ _ (ap line e)) c.in_ok-say_value.ensures) c.in_ok-tell_others.ensures) c.say.ensures
