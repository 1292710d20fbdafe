-- Association lists: entries of a key and a value, in order.
use Rattle.std.specs.Prelude.{ℕ, Bool, cond, List, [], ◌∷◌, ◌++◌, length, take, drop, Some, None, Option, nat_lt}
use Rattle.std.specs.List.{zip, remove}

-- the element at i is taken out of the first n, those behind it move up, and e is in the place that is set free
abbrev pub closed : {X : Type 0} → List X → ℕ → ℕ → X → List X
closed xs i n e = cond (nat_lt i (length (take n xs))) (remove (take n xs) i ++ e ∷ drop n xs) xs

-- the entries in memory: the first n keys, each with its value; places that keys or values lack are none
abbrev pub entries : {K V : Type 0} → List K → List V → ℕ → List (K × V)
entries ks vs n = take n (zip ks vs)

-- the value of the first entry that has the key
abbrev pub lookup : {K V : Type 0} → (K → K → Bool) → List (K × V) → K → Option V
lookup same [] k = None
lookup same (p ∷ ps) k = cond (same p.0 k) (Some p.1) (lookup same ps k)

-- its value replaced, or where there is none the entry added last
abbrev pub put : {K V : Type 0} → (K → K → Bool) → List (K × V) → K → V → List (K × V)
put same [] k v = (k, v) ∷ []
put same (p ∷ ps) k v = cond (same p.0 k) ((p.0, v) ∷ ps) (p ∷ put same ps k v)

-- it is taken out, the others in their order
abbrev pub without : {K V : Type 0} → (K → K → Bool) → List (K × V) → K → List (K × V)
without same [] k = []
without same (p ∷ ps) k = cond (same p.0 k) ps (p ∷ without same ps k)
