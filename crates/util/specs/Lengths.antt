-- Lengths as 64 bits hold and tell them.
use Rattle.std.specs.Prelude.{ℕ, ◌-◌, ◌^◌, min, cond, Some, None, Option, nat_lt}

-- a number where 64 bits hold it, or none
abbrev pub exact : ℕ → Option ℕ
exact n = cond (nat_lt n (2 ^ 64)) (Some n) None

-- a number as it is told: one beyond 64 bits as their largest
abbrev pub told : ℕ → ℕ
told n = min n (2 ^ 64 - 1)
