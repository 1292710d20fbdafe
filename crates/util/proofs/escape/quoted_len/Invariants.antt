use Rattle.std.proofs.Common.{◌≡◌, ◌+◌, ◌^◌, ◌<◌, length}
use Rattle.util.proofs.Quotes.{inner}
use Rattle.util.proofs.escape.quoted_len.Given as goal

abbrev pub invariant-loop-b : goal.invariant-loop-b
invariant-loop-b l = (l.len ≡ 2 + length (inner l.b-index l.value)) × (l.len < 2 ^ 64)
