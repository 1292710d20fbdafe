-- Packing and unpacking undo each other.
use Rattle.std.proofs.Common.{◌≡◌, ℕ, ◌+◌, ◌/◌, ◌%◌, ◌<◌, List, [], ◌∷◌, ◌++◌, length, get_or, Some, None, Option, unwrap_or, sym, refl, ap, ◌∙◌, subst, append-nil, arith}
use Rattle.std.proofs.lemmas.List.{get_or-append-add}
use Rattle.std.specs.Option.{option_map}
use Rattle.util.specs.Packed.{first_item, unpack, items, pack_item, pack}
use Rattle.util.proofs.Unpacks.{Begins, begins, first_packed, first_append, unpack_next, unpack_none, unpack_stop, items_next, items_stop, by_reading}

-- What holds of the empty list, and of a list if it holds of what follows its first item, holds of every well-formed list.
by_items : (P : List ℕ → List (List ℕ) → Type 0) → P [] []
    → ((bs x y : List ℕ) (us : List (List ℕ)) → first_item bs ≡ Some (x, y) → P y us → P bs (x ∷ us))
    → (bs : List ℕ) (ts : List (List ℕ)) → unpack bs ≡ Some ts → P bs ts
by_items P none more = by_reading (λ bs. (ts : List (List ℕ)) → unpack bs ≡ Some ts → P bs ts) stop next
  where
    stop : (bs : List ℕ) → first_item bs ≡ None → (ts : List (List ℕ)) → unpack bs ≡ Some ts → P bs ts
    stop [] f ts e =
        let z : [] ≡ ts = ap (λ (o : Option (List (List ℕ))). unwrap_or o ts) (sym unpack_none ∙ e) in
        subst (λ (us : List (List ℕ)). P [] us) z none
    stop (b ∷ bs) f ts e = let g : unpack (b ∷ bs) ≡ None = unpack_stop b bs f in cc

    cons : (bs x y : List ℕ) → first_item bs ≡ Some (x, y) → (ts : List (List ℕ)) (o : Option (List (List ℕ))) → option_map (λ us. x ∷ us) o ≡ Some ts → ((us : List (List ℕ)) → o ≡ Some us → P y us) → P bs ts
    cons bs x y f ts None q again = cc
    cons bs x y f ts (Some us) q again =
        let z : x ∷ us ≡ ts = ap (λ (o : Option (List (List ℕ))). unwrap_or o ts) q in
        subst (λ (vs : List (List ℕ)). P bs vs) z (more bs x y us f (again us refl))

    next : (bs x y : List ℕ) → first_item bs ≡ Some (x, y) → ((us : List (List ℕ)) → unpack y ≡ Some us → P y us) → (ts : List (List ℕ)) → unpack bs ≡ Some ts → P bs ts
    next bs x y f again ts e = cons bs x y f ts (unpack y) (sym (unpack_next bs x y f) ∙ e) again

-- the reader gives the items of a well-formed list
pub items_are : (bs : List ℕ) (ts : List (List ℕ)) → unpack bs ≡ Some ts → items bs ≡ ts
items_are bs ts e =
    by_items (λ bs ts. items bs ≡ ts) (items_stop [] refl)
    (λ bs x y us f h. items_next bs x y f ∙ ap (λ (vs : List (List ℕ)). x ∷ vs) h)
    bs ts e

-- of bytes, its items packed are the list
pub pack_unpacked : (bs : List ℕ) (ts : List (List ℕ)) → ((k : ℕ) → get_or bs k 0 < 256) → unpack bs ≡ Some ts → pack ts ≡ bs
pack_unpacked bs ts bytes e =
    by_items (λ bs ts. ((k : ℕ) → get_or bs k 0 < 256) → pack ts ≡ bs) (λ _. refl)
    (λ bs x y us f h bytes. packed bs x y us (begins bs x y f) h bytes)
    bs ts e bytes
  where
    packed : (bs x y : List ℕ) (us : List (List ℕ)) → Begins bs x y → (((k : ℕ) → get_or y k 0 < 256) → pack us ≡ y) → ((k : ℕ) → get_or bs k 0 < 256) → pack (x ∷ us) ≡ bs
    packed bs x y us b h bytes =
        let front : List ℕ = b.high ∷ b.low ∷ x in
        let low : b.low < 256 = subst (λ (l : List ℕ). get_or l 1 0 < 256) b.is (bytes 1) in
        let behind : (k : ℕ) → get_or y k 0 < 256 = λ k. subst (λ (n : ℕ). n < 256) (ap (λ (l : List ℕ). get_or l (length front + k) 0) b.is ∙ get_or-append-add front y k 0) (bytes (length front + k)) in
        let high_is : length x / 256 ≡ b.high = omega (arith, b.count) in
        let low-is : length x % 256 ≡ b.low = omega (arith, b.count) in
        ap (λ (l : List ℕ). pack_item x ++ l) (h behind)
        ∙ ap (λ (n : ℕ). n ∷ length x % 256 ∷ (x ++ y)) high_is ∙ ap (λ (n : ℕ). b.high ∷ n ∷ (x ++ y)) low-is ∙ sym b.is

-- items that are packed are the items of the list
pub unpack_packed : (ts : List (List ℕ)) → unpack (pack ts) ≡ Some ts
unpack_packed [] = unpack_none
unpack_packed (t ∷ ts) = unpack_next (pack (t ∷ ts)) t (pack ts) (first_packed t (pack ts)) ∙ ap (option_map (λ us. t ∷ us)) (unpack_packed ts)

-- one list behind another
pub unpack_append : (bs cs : List ℕ) (ts us : List (List ℕ)) → unpack bs ≡ Some ts → unpack cs ≡ Some us → unpack (bs ++ cs) ≡ Some (ts ++ us)
unpack_append bs cs ts us e q =
    by_items (λ bs ts. unpack (bs ++ cs) ≡ Some (ts ++ us)) q
    (λ bs x y vs f h. unpack_next (bs ++ cs) x (y ++ cs) (first_append bs x y cs f) ∙ ap (option_map (λ ws. x ∷ ws)) h)
    bs ts e

-- one item more
pub unpack_push : (bs t : List ℕ) (ts : List (List ℕ)) → unpack bs ≡ Some ts → unpack (bs ++ pack_item t) ≡ Some (ts ++ t ∷ [])
unpack_push bs t ts e = unpack_append bs (pack_item t) ts (t ∷ []) e (ap unpack (sym (append-nil (pack_item t))) ∙ unpack_packed (t ∷ []))
