-- Of lengths that 64 bits may not hold.
use Rattle.std.proofs.Common.{◌≡◌, ℕ, ◌^◌, ◌<◌, ◌≤◌, Some, None, Option, sym, ap, ◌∙◌, arith}
use Rattle.std.proofs.lemmas.Bool.Decides.{nat_tests}
use Rattle.std.specs.Option.{SomeIff}
use Rattle.util.specs.Lengths.{exact}

pub exact_within : (n : ℕ) → n < 2 ^ 64 → exact n ≡ Some n
exact_within n h = grind (arith, nat_tests)

pub exact_beyond : (n : ℕ) → 2 ^ 64 ≤ n → exact n ≡ None
exact_beyond n h = grind (arith, nat_tests)

pub from_exact : (n m : ℕ) → Some m ≡ exact n → m ≡ n
from_exact n m e = grind (arith, nat_tests)

-- what `checked_add` and its like answer
pub exact_checked : (r : Option ℕ) (n : ℕ) → SomeIff r (n < 2 ^ 64) n → r ≡ exact n
exact_checked None n h = sym (exact_beyond n (omega (arith, h)))
exact_checked (Some x) n h = ap (λ (k : ℕ). Some k) h.1 ∙ sym (exact_within n h.0)
