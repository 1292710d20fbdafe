use Rattle.std.proofs.Common.{◌≡◌, ℕ, ◌*◌, ◌≤◌, List, length, take}
use Rattle.std.specs.List.{concat}
use Rattle.sink.specs.Layout.{encode}
use Rattle.sink.proofs.layout.held_of.Given as goal

-- The blocks so far hold t.
abbrev pub invariant-loop-i : goal.invariant-loop-i
invariant-loop-i l = (t : List ℕ) × (length t ≡ l.held) × (l.held ≤ 508 * l.i) × (take (512 * l.i) (concat l.blocks) ≡ encode l.i t)
