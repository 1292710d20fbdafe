use Rattle.std.proofs.Common.{ℕ, List, length, ap, arith}
use Rattle.std.proofs.lemmas.Result.{MatchResult-weaker}
use Rattle.sheet.specs.Symbols.{showing_tidy}
use Rattle.parts.proofs.print.Goals as goal

pub print_all-requires : goal.print_all-requires
print_all-requires g c =
    let show = g.S.Sheet.shows c.args.sheet.now in
    let ps = g.M.Message.parts c.args.message.now in
    let e = ap (λ (bs : List ℕ). length bs) (showing_tidy show (g.S.Sheet.joins c.args.sheet.now) ps) in
    omega (arith, e, c.in_ok-room.ensures _ c.measure.ensures)

pub returns : goal.returns
returns g c =
    rw (showing_tidy (g.S.Sheet.shows c.args.sheet.now) (g.S.Sheet.joins c.args.sheet.now) (g.M.Message.parts c.args.message.now))
    (MatchResult-weaker c.print_all.result c.print_all.ensures (λ x p. p) (λ y b. absurd b))
