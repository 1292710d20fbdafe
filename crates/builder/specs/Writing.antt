-- What comes of bytes that are to be written into lent memory.
use Rattle.std.specs.Prelude.{◌≡◌, ℕ, ◌+◌, ◌<◌, ◌≤◌, List, ◌++◌, length, take, drop, Option, MatchOption}

-- the memory `out` is `was` with the bytes at a place that has room for them, and they end at `end`
pub record Placed (was : List ℕ) (at : ℕ) (bs : List ℕ) (out : List ℕ) (end : ℕ) : Type 0 where
  pub room : at + length bs ≤ length was
  pub ends : end ≡ at + length bs
  pub memory : out ≡ take at was ++ (bs ++ drop (at + length bs) was)

-- Bytes were to be written at a place: they stand there, and r is where they end; or r is none, since they do not fit there, and nothing has changed.
abbrev pub Writes : List ℕ → ℕ → List ℕ → List ℕ → Option ℕ → Type 0
Writes was at bs out r = MatchOption r ((length was < at + length bs) × (out ≡ was)) (Placed was at bs out)
