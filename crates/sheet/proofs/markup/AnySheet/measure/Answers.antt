use Rattle.std.proofs.Common.{◌+◌, length, sym, ◌∙◌, arith}
use Rattle.util.proofs.Lengths.{exact_beyond}
use Rattle.sheet.specs.Frames.{framing}
use Rattle.sheet.specs.Roles.{told_part}
use Rattle.sheet.proofs.Puts.{length_more, length_split, length_framing}
use Rattle.sheet.proofs.markup.AnySheet.measure.Goals as goal

pub returns-in_err-total : goal.returns-in_err-total
returns-in_err-total g c =
    let m = g.M.Markup in
    let code = m.coded c.args.self.now in
    let t = c.args.part.text.now in
    let i = c.loop-b.b-index in
    let f = length_framing (m.before c.args.self.now) code (m.after c.args.self.now) c.args.part.role t in
    c.from_residual.ensures
    ∙ sym (exact_beyond (length (framing (m.before c.args.self.now) code (m.after c.args.self.now) (told_part c.args.part)))
    (omega (arith, f, length_split code t (i + 1), length_more code t i c.loop-b-test.true, c.in_err-total.ensures, c.shown_len.ensures, c.loop-b.invariant)))
