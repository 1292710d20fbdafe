use Rattle.std.proofs.Common.{◌≡◌, ◌∷◌, length}
use Rattle.util.proofs.Quotes.{inner, Written}
use Rattle.util.proofs.escape.quote.Given as goal

abbrev pub invariant-loop-b : goal.invariant-loop-b
invariant-loop-b l = record {
  same : l.front.out.ghost_name ≡ l.initial.front.out.ghost_name;
  size : length l.front.out.now ≡ length l.fn.out;
  written : Written (34 ∷ inner l.b-index l.value) l.fn.out l.front.len l.front.out.now;
}
