-- The check of a block. Layout and files rest on one fact of it: zeros have the check 0 0.
use Rattle.std.specs.Prelude.{ℕ, ◌+◌, ◌%◌, List, [], ◌∷◌, sum}

-- the running values of a sum that starts at s
abbrev pub running : ℕ → List ℕ → List ℕ
running s [] = []
running s (x ∷ xs) = (s + x) ∷ running (s + x) xs

-- the sum of the bytes and the sum of its running values, both modulo 255
unfoldable pub check : List ℕ → ℕ × ℕ
check bs = (sum bs % 255, sum (running 0 bs) % 255)
