-- Packed lists.
use Rattle.std.specs.Prelude.{◌≡◌, ℕ, zero, suc, ◌+◌, ◌*◌, ◌/◌, ◌%◌, ◌<◌, ◌≤◌, Bool, cond, List, [], ◌∷◌, length, take, drop, Some, None, Option, IfSome, MatchOption, nat_le}
use Rattle.std.specs.Borrow.{Bor}
use Rattle.std.specs.Iterator.{YieldsFirstRef}
use Rattle.std.specs.Option.{option_map}
use Rattle.std.specs.List.{flat_map, list_all}
use Rattle.util.specs.Text.{is_text}
use Rattle.util.specs.declared.packed.Items.{Items}
use Rattle.util.specs.declared.packed.PackError.{PackError}
use Rattle.util.specs.declared.packed.PackError.TheVariants.{Long, NoMemory}

-- an item as it is packed: its length in two bytes, high byte first, and then its bytes
abbrev pub pack_item : List ℕ → List ℕ
pack_item t = length t / 256 ∷ length t % 256 ∷ t

-- the packed list of items
abbrev pub pack : List (List ℕ) → List ℕ
pack ts = flat_map pack_item ts

-- the item that bytes begin with, and what follows it
abbrev pub first_item : List ℕ → Option (List ℕ × List ℕ)
first_item [] = None
first_item (h ∷ []) = None
first_item (h ∷ (l ∷ bs)) = cond (nat_le (h * 256 + l) (length bs)) (Some (take (h * 256 + l) bs, drop (h * 256 + l) bs)) None

-- an item in front of what is unpacked behind it; none where there is no item
abbrev pub unpack_from : (List ℕ → Option (List (List ℕ))) → Option (List ℕ × List ℕ) → Option (List (List ℕ))
unpack_from more None = None
unpack_from more (Some p) = option_map (λ ts. p.0 ∷ ts) (more p.1)

-- the items in at most so many steps, of which each takes one item, and two bytes at least
abbrev pub unpack_by : ℕ → List ℕ → Option (List (List ℕ))
unpack_by n [] = Some []
unpack_by zero (b ∷ bs) = None
unpack_by (suc n) (b ∷ bs) = unpack_from (unpack_by n) (first_item (b ∷ bs))

-- the items of a packed list, or none where the bytes are malformed
unfoldable pub unpack : List ℕ → Option (List (List ℕ))
unpack bs = unpack_by (length bs) bs

-- an item in front of those behind it; none of either where there is no item
abbrev pub items_from : (List ℕ → List (List ℕ)) → Option (List ℕ × List ℕ) → List (List ℕ)
items_from more None = []
items_from more (Some p) = p.0 ∷ more p.1

-- the items in at most so many steps
abbrev pub items_by : ℕ → List ℕ → List (List ℕ)
items_by zero bs = []
items_by (suc n) bs = items_from (items_by n) (first_item bs)

-- the items up to the end, or up to where no item follows
unfoldable pub items : List ℕ → List (List ℕ)
items bs = items_by (length bs) bs

-- the items that a reader has yet to give
abbrev pub unread : Items → List (List ℕ)
unread s = items s.rest.now

-- what reading the next item gives and leaves
pub record ReadsItem (s : Items) (r : Option (Bor (List ℕ))) (t : Items) : Type 0 where
  -- the first item of what was left, and what follows it is left; or none, and all is left, where no item follows
  pub first : MatchOption r ((first_item s.rest.now ≡ None) × (t.rest.now ≡ s.rest.now)) (λ x. first_item s.rest.now ≡ Some (x.now, t.rest.now))
  -- so the first of the items that were yet to be given; or none, where there were none
  pub items : YieldsFirstRef unread s r t
  -- an item has at most 65,535 bytes, and fewer bytes are left after it
  pub bound : IfSome r (λ x. (length x.now ≤ 65535) × (length t.rest.now < length s.rest.now))

-- whether each item is a text
abbrev pub all_text : List (List ℕ) → Bool
all_text ts = list_all is_text ts

-- why an item is not added: it is longer than its two length bytes can tell, or there is no memory for it
abbrev pub Unpacked : List ℕ → PackError → Type 0
Unpacked t Long = 65535 < length t
Unpacked t NoMemory = length t ≤ 65535
