-- Of a packed list that is made value by value.
use Rattle.std.proofs.Common.{◌≡◌, ℕ, ◌+◌, ◌<◌, List, [], ◌++◌, map, length, get_or, take, sym, ap, ◌∙◌}
use Rattle.std.proofs.lemmas.List.{get_or-map, map_more, flat_map_more}
use Rattle.util.specs.Packed.{pack_item, pack}

module _ {X : Type 0} (f : X → List ℕ) (xs : List X) (i : ℕ) where
  -- one value more: x stands at i, and its bytes t are added
  pub pack_more : (x : X) (was now t : List ℕ) → i < length xs → x ≡ get_or xs i x → t ≡ f x → was ≡ pack (map f (take i xs)) → now ≡ was ++ pack_item t → now ≡ pack (map f (take (i + 1) xs))
  pack_more x was now t h e q inv n =
      n ∙ ap (λ (l : List ℕ). l ++ pack_item t) inv ∙ ap (λ (l : List ℕ). pack (map f (take i xs)) ++ pack_item l) (q ∙ ap f e)
      ∙ flat_map_more pack_item [] (map f (take i xs)) (f (get_or xs i x)) ∙ ap pack (sym (map_more f xs i x h))

  -- its bytes are what stands at i in all of them
  pub value_at : (x : X) (t : List ℕ) → i < length xs → x ≡ get_or xs i x → t ≡ f x → t ≡ get_or (map f xs) i []
  value_at x t h e q = q ∙ ap f e ∙ sym (get_or-map f xs i x [] h)
