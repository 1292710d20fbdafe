-- What a map over lent slices means.
use Rattle.std.specs.Prelude.{◌≡◌, ℕ, min, List, ◌∷◌, length, drop}
use Rattle.std.specs.List.{zip}
use Rattle.flat_map.specs.Assoc.{entries}
use Rattle.flat_map.specs.declared.FlatMap.{FlatMap}
use Rattle.flat_map.specs.declared.Iter.{Iter}

module _ {K V : Type 0} where
  -- its entries, in order
  abbrev pub entries_of : FlatMap K V → List (K × V)
  entries_of m = entries m.keys.now m.values.now m.count

  -- how many entries it has places for
  abbrev pub places_of : FlatMap K V → ℕ
  places_of m = min (length m.keys.now) (length m.values.now)

  -- the keys' places after the last entry
  abbrev pub spare_keys : FlatMap K V → List K
  spare_keys m = drop (length (entries_of m)) m.keys.now

  -- and the values'
  abbrev pub spare_values : FlatMap K V → List V
  spare_values m = drop (length (entries_of m)) m.values.now

  -- beyond the entries of m' the places are as they were in m
  pub record SameSpare (m m' : FlatMap K V) : Type 0 where
    pub keys : spare_keys m' ≡ drop (length (entries_of m')) m.keys.now
    pub values : spare_values m' ≡ drop (length (entries_of m')) m.values.now

  -- beyond the entries of m' there is a cleared place, and then those beyond the entries of m
  pub record Cleared (m m' : FlatMap K V) : Type 0 where
    pub keys : spare_keys m' ≡ m.cleared.0 ∷ spare_keys m
    pub values : spare_values m' ≡ m.cleared.1 ∷ spare_values m

  -- m and m' are over the same slices, of the same lengths, and have the same cleared values
  pub record SameMemory (m m' : FlatMap K V) : Type 0 where
    pub keys_name : m'.keys.ghost_name ≡ m.keys.ghost_name
    pub values_name : m'.values.ghost_name ≡ m.values.ghost_name
    pub keys_len : length m'.keys.now ≡ length m.keys.now
    pub values_len : length m'.values.now ≡ length m.values.now
    pub cleared : m'.cleared ≡ m.cleared

  -- the entries that an iterator has yet to give
  abbrev pub rest_of : Iter K V → List (K × V)
  rest_of i = zip i.keys.now i.values.now
