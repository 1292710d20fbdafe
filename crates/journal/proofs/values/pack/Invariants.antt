use Rattle.std.proofs.Common.{◌≡◌, ℕ, ◌<◌, [], map, get_or, take, vec_items, string_bytes}
use Rattle.journal.specs.Listable.{Listable}
use Rattle.util.specs.Packed.{pack}
use Rattle.journal.proofs.values.pack.Given as goal

abbrev pub invariant-loop-i : goal.invariant-loop-i
invariant-loop-i l = (vec_items l.list ≡ pack (map string_bytes (take l.i l.values))) × ((k : ℕ) → k < l.i → Listable (get_or (map string_bytes l.values) k []))
