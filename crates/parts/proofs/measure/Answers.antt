use Rattle.std.proofs.Common.{ℕ, List, length, sym, refl, ap, ◌∙◌, zero-add}
use Rattle.util.specs.Lengths.{exact}
use Rattle.sheet.specs.Symbols.{showing_tidy}
use Rattle.parts.proofs.Leads.{never_refused}
use Rattle.parts.proofs.measure.Goals as goal

pub returns : goal.returns
returns g c =
    let show = g.S.Sheet.shows c.args.sheet.now in
    let ps = g.M.Message.parts c.args.message.now in
    (never_refused _ c.tell.result c.tell.ensures).total 0 refl
    ∙ ap (λ (n : ℕ). exact n) (zero-add _ ∙ ap (λ (bs : List ℕ). length bs) (sym (showing_tidy show (g.S.Sheet.joins c.args.sheet.now) ps)))
