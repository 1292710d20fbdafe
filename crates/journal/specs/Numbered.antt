-- Which of the values are quoted, by their numbers from 1 on.
use Rattle.std.specs.Prelude.{ℕ, ◌+◌, cond, List, [], ◌∷◌}
use Rattle.util.specs.Shown.{needs_quotes}

-- the numbers of those that are quoted, where the first has the number n
abbrev pub quoted_from : ℕ → List (List ℕ) → List ℕ
quoted_from n [] = []
quoted_from n (t ∷ ts) = cond (needs_quotes t) (n ∷ quoted_from (n + 1) ts) (quoted_from (n + 1) ts)
