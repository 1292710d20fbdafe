-- The line that lists values.
use Rattle.std.specs.Prelude.{ℕ, List, [], ◌∷◌, ◌++◌, codes}
use Rattle.std.specs.List.{flat_map}
use Rattle.util.specs.Shown.{shown}

-- each value after a comma
abbrev pub others : List (List ℕ) → List ℕ
others ts = flat_map (λ t. codes ", " ++ shown t) ts

-- the values in their shown forms, between brackets; nothing where there is none
abbrev pub listing : List (List ℕ) → List ℕ
listing [] = []
listing (t ∷ ts) = codes "[possible values: " ++ (shown t ++ (others ts ++ codes "]"))
