use Rattle.std.proofs.Common.{◌≡◌, ℕ, ◌%◌, take, drop, sym, ap, ◌∙◌}
use Rattle.std.proofs.lemmas.List.{at_drop_all}
use Rattle.sink.proofs.Checks.{totals, check_totals}
use Rattle.sink.proofs.check.check_of.Goals as goal

pub returns : goal.returns
returns c =
    let bs = take 510 c.args.block.now in
    let s = c.loop-b.sum in
    let r = c.loop-b.run in
    let e : totals s r (drop c.loop-b.b-index bs) ≡ (s, r) = at_drop_all (totals s r) bs c.loop-b.b-index c.loop-b-test.false in
    ap (λ (p : ℕ × ℕ). (p.0 % 255, p.1 % 255)) (sym e ∙ c.loop-b.invariant.0) ∙ sym (check_totals bs)
