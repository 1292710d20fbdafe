use Rattle.std.proofs.Common.{◌≡◌, ◌+◌, ◌*◌, ◌/◌, min, max, length, take, drop}
use Rattle.std.specs.List.{concat}
use Rattle.sink.specs.Layout.{texts}
use Rattle.sink.proofs.layout.read_all.Given as goal

-- It stands at the block's start, or before that at `from`, or at the end of what is to be read.
abbrev pub invariant-loop-block : goal.invariant-loop-block
invariant-loop-block l =
    (l.from + l.done ≡ min (l.from + length l.initial.out) (max l.from (508 * (l.from / 508 + l.block-index))))
    × (take l.done l.out ≡ take l.done (drop l.from (texts (length l.blocks) (concat l.blocks))))
