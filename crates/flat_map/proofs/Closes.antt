-- Of an item that is taken out of the first n of a list.
use Rattle.std.proofs.Common.{◌≡◌, ℕ, suc, ◌+◌, ◌-◌, ◌<◌, ◌≤◌, min, ltb, List, [], ◌∷◌, ◌++◌, length, take, drop, set, sym, ap, ◌∙◌, inl, inr, append_assoc, add-one, arith, length-append, length-drop, length-take}
use borrow.Rule.Slice.PartMut.{put_mid}
use Rattle.std.specs.List.{remove}
use Rattle.std.proofs.lemmas.List.{set_at, take-take, drop-take, drop-drop, take_all, drop_all, length-take-le}
use Rattle.std.proofs.lemmas.Bool.{cond-true, cond-false, lt-ltb, le-ltb, cases_lt}
use Rattle.flat_map.specs.Assoc.{closed}

module _ {X : Type 0} where
  -- no more than all
  pub take_min : (n : ℕ) (xs : List X) → take n xs ≡ take (min n (length xs)) xs
  take_min n xs = elim (cases_lt n (length xs)) [
    | inl l ↦ (let e : n ≡ min n (length xs) = omega arith in ap (λ (k : ℕ). take k xs) e)
    | inr l ↦ (let e : length xs ≤ min n (length xs) = omega arith in take_all n xs l ∙ sym (take_all (min n (length xs)) xs e))
  ]

  pub drop_min : (n : ℕ) (xs : List X) → drop n xs ≡ drop (min n (length xs)) xs
  drop_min n xs = elim (cases_lt n (length xs)) [
    | inl l ↦ (let e : n ≡ min n (length xs) = omega arith in ap (λ (k : ℕ). drop k xs) e)
    | inr l ↦ (let e : length xs ≤ min n (length xs) = omega arith in drop_all n xs l ∙ sym (drop_all (min n (length xs)) xs e))
  ]

  pub closed_past : (xs : List X) (i n m : ℕ) (e : X) → m ≡ min n (length xs) → m ≤ i → closed xs i n e ≡ xs
  closed_past xs i n m e q h = cond-false (ltb i (length (take n xs))) _ xs (le-ltb i (length (take n xs)) (omega (arith, length-take n xs)))

  pub closed_within : (xs : List X) (i n m : ℕ) (e : X) → m ≡ min n (length xs) → i < m → closed xs i n e ≡ remove (take m xs) i ++ e ∷ drop m xs
  closed_within xs i n m e q h =
      cond-true (ltb i (length (take n xs))) _ xs (lt-ltb i (length (take n xs)) (omega (arith, length-take n xs)))
      ∙ ap (λ (l : List X). remove l i ++ e ∷ drop n xs) (take_min n xs ∙ ap (λ (k : ℕ). take k xs) (sym q))
      ∙ ap (λ (l : List X). remove (take m xs) i ++ e ∷ l) (drop_min n xs ∙ ap (λ (k : ℕ). drop k xs) (sym q))

  -- a part p between a and r is turned by one place, and its last item overwritten
  turned : (a p r : List X) (n : ℕ) (e : X) → length a + length p ≡ n + 1 → 0 < length p → set (a ++ ((drop 1 p ++ take 1 p) ++ r)) n e ≡ (a ++ drop 1 p) ++ e ∷ r
  turned a [] r n e l h = absurd (omega arith)
  turned a (x ∷ p) r n e l h =
      let q : a ++ ((p ++ x ∷ []) ++ r) ≡ (a ++ p) ++ x ∷ r = simp append_assoc in
      ap (λ (z : List X). set z n e) q ∙ set_at (a ++ p) x r e n (omega (arith, length-append a p))

  -- what is left of a list after that: q is what the part from i to m holds then
  pub closed_by_turn : (xs q : List X) (i n m : ℕ) (e : X) → m ≡ min n (length xs) → i < m
      → q ≡ drop 1 (take (m - i) (drop i xs)) ++ take 1 (take (m - i) (drop i xs))
      → set (put_mid i (m - i) xs q) (m - 1) e ≡ closed xs i n e
  closed_by_turn xs q i n m e t h f =
      let p : List X = take (m - i) (drop i xs) in
      let w : m - i ≤ length (drop i xs) = simp length-drop (omega arith) in
      let lp : length p ≡ m - i = length-take-le (m - i) (drop i xs) w in
      let la : length (take i xs) ≡ i = length-take-le i xs (omega arith) in
      let r : drop (m - i) (drop i xs) ≡ drop m xs = drop-drop (m - i) i xs ∙ (let k : i + (m - i) ≡ m = omega arith in ap (λ (j : ℕ). drop j xs) k) in
      let k : i + (m - i) ≡ m = omega arith in
      let s : drop i (take m xs) ≡ p = ap (λ (j : ℕ). drop i (take j xs)) (sym k) ∙ drop-take i (m - i) xs in
      let o : drop (suc i) (take m xs) ≡ drop 1 p = ap (λ (j : ℕ). drop j (take m xs)) (sym (add-one i)) ∙ sym (drop-drop 1 i (take m xs)) ∙ ap (drop 1) s in
      let b : take i (take m xs) ≡ take i xs = take-take i m xs (omega arith) in
      ap (λ (l : List X). set (take i xs ++ (l ++ drop (m - i) (drop i xs))) (m - 1) e) f
      ∙ ap (λ (l : List X). set (take i xs ++ ((drop 1 p ++ take 1 p) ++ l)) (m - 1) e) r
      ∙ turned (take i xs) p (drop m xs) (m - 1) e (omega arith) (omega arith)
      ∙ sym (closed_within xs i n m e t h
      ∙ ap (λ (l : List X). (l ++ drop (suc i) (take m xs)) ++ e ∷ drop m xs) b
      ∙ ap (λ (l : List X). (take i xs ++ l) ++ e ∷ drop m xs) o)
