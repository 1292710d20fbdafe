-- What a put knows once `within` let it pass.
use Rattle.std.proofs.Common.{◌≡◌, ℕ, ◌^◌, ◌<◌, ◌≤◌, Some, None}
use Rattle.std.proofs.lemmas.Bool.{cond_below}
use Rattle.util.specs.Lengths.{exact}

pub fits : (n left : ℕ) → n < 2 ^ 64 → ((m : ℕ) → Some n ≡ exact m → m ≤ left) → n ≤ left
fits n left h k = k n (cond_below n (2 ^ 64) (Some n) None h)
