use Rattle.std.proofs.Common.{◌≡◌, ◌*◌, ◌≤◌, take, drop}
use Rattle.sink.proofs.Checks.{totals}
use Rattle.sink.proofs.check.check_of.Given as goal

abbrev pub invariant-loop-b : goal.invariant-loop-b
invariant-loop-b l = (totals l.sum l.run (drop l.b-index (take 510 l.block)) ≡ totals 0 0 (take 510 l.block)) × (l.sum ≤ 255 * l.b-index) × (l.run ≤ 130050 * l.b-index)
