-- What holds of entries that are put and taken out, whatever keys and values are.
use Rattle.std.specs.Prelude.{◌≡◌, Bool, false, List, Some, None}
use Rattle.flat_map.specs.Assoc.{lookup, put, without}

module _ {K : Type 0} (V : Type 0) (same : K → K → Bool) where
  -- what was put is found
  abbrev pub PutFound : Type 0
  PutFound = (ps : List (K × V)) (k : K) (v : V) → lookup same (put same ps k v) k ≡ Some v

  -- another key has the value that it had, after a put
  abbrev pub PutKept : Type 0
  PutKept = (ps : List (K × V)) (k q : K) (v : V) → same k q ≡ false → lookup same (put same ps k v) q ≡ lookup same ps q

  -- and after a removal
  abbrev pub WithoutKept : Type 0
  WithoutKept = (ps : List (K × V)) (k q : K) → same k q ≡ false → lookup same (without same ps k) q ≡ lookup same ps q

  -- a new key that is put and taken out again leaves the entries as they were
  abbrev pub PutUndone : Type 0
  PutUndone = (ps : List (K × V)) (k : K) (v : V) → lookup same ps k ≡ None → without same (put same ps k v) k ≡ ps
