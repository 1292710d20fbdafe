use Rattle.std.proofs.Common.{◌≡◌, ℕ, ◌+◌, ◌*◌, ◌/◌, ◌≤◌, List, ◌++◌, length, take}
use Rattle.sink.specs.Layout.{encode, texts}
use Rattle.sink.proofs.layout.add_all.Given as goal

-- The blocks hold t, and t with the text that is left is what they are to hold.
abbrev pub invariant-loop-left : goal.invariant-loop-left
invariant-loop-left l =
    let n : ℕ = length l.initial.bytes / 512 in
    (t : List ℕ) × (length t ≡ l.held) × (l.held + length l.left ≤ 508 * n) × (l.bytes ≡ encode n t)
    × (t ++ l.left ≡ take l.initial.held (texts n l.initial.bytes) ++ l.text)

abbrev pub decreases-loop-left : goal.decreases-loop-left
decreases-loop-left l = length l.left
