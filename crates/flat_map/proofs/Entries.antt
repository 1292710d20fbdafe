-- Of entries in two lists side by side, and of what is looked up, put and taken out there.
use Rattle.std.proofs.Common.{◌≡◌, ℕ, zero, suc, ◌+◌, ◌-◌, ◌<◌, ◌≤◌, min, Bool, true, false, not, cond, List, [], ◌∷◌, ◌++◌, map, length, get_or, take, drop, set, Some, None, Option, sym, refl, ap, ◌∙◌, subst, inl, inr, add-one, arith, length-append, length-take, Bor, rules}
use Rattle.std.specs.List.{zip, slice_get, remove, find, position, position_or_len}
use Rattle.std.specs.Option.{option_map, MatchOption, IfSome, IsSomeAnd}
use Rattle.std.proofs.lemmas.List.{places, drop_at, length-map, length-set, length_push, length-take-le, get_or-take, drop-set-lt}
use Rattle.std.proofs.lemmas.Bool.{cases_lt, lt-ltb, le-ltb, cond-true, cond-false}
use Rattle.std.proofs.lemmas.Option.{slice_get_past, slice_get-get_or}
use Rattle.std.proofs.lemmas.Slice.Zip.{length-zip, firsts-zip, seconds-zip}
use Rattle.std.specs.Iterator.{YieldsFirstBy, MakesProgress, item_count}
use Rattle.flat_map.specs.declared.Iter.{Iter}
use Rattle.flat_map.specs.Maps.{rest_of}
use Rattle.flat_map.specs.Assoc.{closed, entries, lookup, put, without}
use Rattle.flat_map.proofs.Closes.{take_min, closed_within}

-- the place of the first element that passes the test, or their number where none does
abbrev first : {X : Type 0} → (X → Bool) → List X → ℕ
first p [] = 0
first p (x ∷ xs) = cond (p x) 0 (suc (first p xs))

first_is : {X : Type 0} (p : X → Bool) (xs : List X) → position_or_len p xs ≡ first p xs
first_is p [] = refl
first_is p (x ∷ xs) =
    elim (p x) as (λ (b : Bool). cond (not b) (1 + position_or_len p xs) 0 ≡ cond b 0 (suc (first p xs))) [ true ↦ refl | false ↦ omega (arith, first_is p xs) ]

module _ {K V : Type 0} where
  pub length_entries : (ks : List K) (vs : List V) (n : ℕ) → length (entries ks vs n) ≡ min (min n (length ks)) (length vs)
  length_entries ks vs n = omega (arith, length-take n (zip ks vs), length-zip ks vs)

  -- the first keys with their values
  pub entries_front : (ks : List K) (vs : List V) (n m : ℕ) → m ≡ min n (length ks) → zip (take m ks) vs ≡ entries ks vs n
  entries_front ks vs n m e = ap (λ (l : List K). zip l vs) (ap (λ (k : ℕ). take k ks) e ∙ sym (take_min n ks)) ∙ by ks vs n
    where
      by : (ks : List K) (vs : List V) (n : ℕ) → zip (take n ks) vs ≡ take n (zip ks vs)
      by [] vs zero = refl
      by [] vs (suc n) = refl
      by (x ∷ ks) vs zero = refl
      by (x ∷ ks) [] (suc n) = refl
      by (x ∷ ks) (v ∷ vs) (suc n) = ap (λ (l : List (K × V)). (x, v) ∷ l) (by ks vs n)

  -- the number of entries says as much as a larger number
  pub entries_counted : (ks : List K) (vs : List V) (n m : ℕ) → m ≡ length (entries ks vs n) → entries ks vs m ≡ entries ks vs n
  entries_counted ks vs n m e =
      let q : m ≡ min n (length (zip ks vs)) = e ∙ length-take n (zip ks vs) in
      ap (λ (k : ℕ). take k (zip ks vs)) q ∙ sym (take_min n (zip ks vs))

  -- the entries are as many of the keys, each with one of as many of the values
  sides : (ks : List K) (vs : List V) (n m : ℕ) → m ≡ length (entries ks vs n) → zip (take m ks) (take m vs) ≡ entries ks vs n
  sides ks vs n m e = by ks vs m ∙ entries_counted ks vs n m e
    where
      by : (ks : List K) (vs : List V) (n : ℕ) → zip (take n ks) (take n vs) ≡ take n (zip ks vs)
      by [] vs zero = refl
      by [] vs (suc n) = refl
      by (x ∷ ks) vs zero = refl
      by (x ∷ ks) [] (suc n) = refl
      by (x ∷ ks) (v ∷ vs) (suc n) = ap (λ (l : List (K × V)). (x, v) ∷ l) (by ks vs n)

  as_many : (ks : List K) (vs : List V) (n m : ℕ) → m ≡ length (entries ks vs n) → length (take m vs) ≡ length (take m ks)
  as_many ks vs n m e = omega (arith, length_entries ks vs n, length-take m ks, length-take m vs)

  pub keys_are : (ks : List K) (vs : List V) (n m : ℕ) → m ≡ length (entries ks vs n) → take m ks ≡ map (λ p. p.0) (entries ks vs n)
  keys_are ks vs n m e = sym (firsts-zip (take m ks) (take m vs) (as_many ks vs n m e)) ∙ ap (map (λ p. p.0)) (sides ks vs n m e)

  pub values_are : (ks : List K) (vs : List V) (n m : ℕ) → m ≡ length (entries ks vs n) → take m vs ≡ map (λ p. p.1) (entries ks vs n)
  values_are ks vs n m e = sym (seconds-zip (take m ks) (take m vs) (as_many ks vs n m e)) ∙ ap (map (λ p. p.1)) (sides ks vs n m e)

  -- a call of `next` gives the first of the entries that are left
  pub yields_first : (s t : Iter K V) (r : Option (Bor K × Bor V)) → MatchOption r ((rest_of s ≡ []) × (t ≡ s)) (λ p. rest_of s ≡ (p.0.now, p.1.now) ∷ rest_of t)
      → YieldsFirstBy (λ p. (p.0.now, p.1.now)) rest_of s r t
  yields_first s t None h = (h.0, ap rest_of h.1 ∙ h.0)
  yields_first s t (Some p) h = h

  pub goes_on : (s t : Iter K V) (r : Option (Bor K × Bor V)) → YieldsFirstBy (λ p. (p.0.now, p.1.now)) rest_of s r t → MakesProgress (λ _. Unit {0}) (item_count rest_of) s r t
  goes_on s t None h = record { on = λ _. tt; keeps = tt; rests = λ _. tt }
  goes_on s t (Some p) h = record { on = λ _. (tt, tt, omega (arith, ap length h)); keeps = tt; rests = λ _. tt }

  -- one entry more, behind the n that there are
  pub record Pushed (ks ks' : List K) (vs vs' : List V) (count n : ℕ) (k : K) (v : V) : Type 0 where
    pub is : entries ks' vs' (n + 1) ≡ entries ks vs count ++ (k, v) ∷ []
    pub spare_keys_lem : drop (length (entries ks' vs' (n + 1))) ks' ≡ drop (length (entries ks' vs' (n + 1))) ks
    pub spare_values_lem : drop (length (entries ks' vs' (n + 1))) vs' ≡ drop (length (entries ks' vs' (n + 1))) vs

  pub entries_push : (ks ks' : List K) (vs vs' : List V) (count n : ℕ) (k : K) (v : V) → n ≡ length (entries ks vs count) → n < length ks → n < length vs
      → ks' ≡ set ks n k → vs' ≡ set vs n v → Pushed ks ks' vs vs' count n k v
  entries_push ks ks' vs vs' count n k v c p q e f =
      let is : entries ks' vs' (n + 1) ≡ entries ks vs count ++ (k, v) ∷ [] =
      ap (λ (l : List K). entries l vs' (n + 1)) e ∙ ap (λ (l : List V). entries (set ks n k) l (n + 1)) f
      ∙ ap (λ (m : ℕ). entries (set ks n k) (set vs n v) m) (add-one n) ∙ by ks vs n p q
      ∙ ap (λ (l : List (K × V)). l ++ (k, v) ∷ []) (entries_counted ks vs count n c) in
      let lt : n < length (entries ks' vs' (n + 1)) = omega (arith, ap length is, length_push (entries ks vs count) (k, v)) in
      record {
        is = is;
        spare_keys_lem = ap (drop (length (entries ks' vs' (n + 1)))) e ∙ drop-set-lt (length (entries ks' vs' (n + 1))) ks n k lt;
        spare_values_lem = ap (drop (length (entries ks' vs' (n + 1)))) f ∙ drop-set-lt (length (entries ks' vs' (n + 1))) vs n v lt;
      }
    where
      by : (ks : List K) (vs : List V) (n : ℕ) → n < length ks → n < length vs → entries (set ks n k) (set vs n v) (suc n) ≡ entries ks vs n ++ (k, v) ∷ []
      by [] vs n p q = absurd (omega arith)
      by (x ∷ ks) [] n p q = absurd (omega arith)
      by (x ∷ ks) (y ∷ vs) zero p q = refl
      by (x ∷ ks) (y ∷ vs) (suc n) p q = ap (λ (l : List (K × V)). (x, y) ∷ l) (by ks vs n (omega arith) (omega arith))

  module _ (same : K → K → Bool) (k : K) where
    -- where the key's entry stands, or their number
    abbrev pub at : List (K × V) → ℕ
    at ps = first (λ x. same x k) (map (λ p. p.0) ps)

    -- what the place says that a search for the key gave
    pub placed : (ps : List (K × V)) (r : Option ℕ) → r ≡ position (λ x. same x k) (map (λ p. p.0) ps) → MatchOption r (length ps ≤ at ps) (λ i. (i ≡ at ps) × (i < length ps))
    placed ps r e =
        let l : length (map (λ p. p.0) ps) ≡ length ps = length-map ps (λ p. p.0) in
        let f : position_or_len (λ x. same x k) (map (λ p. p.0) ps) ≡ at ps = first_is (λ x. same x k) (map (λ p. p.0) ps) in
        let At : Option ℕ → Type 0 = λ o. MatchOption o (length ps ≤ at ps) (λ i. (i ≡ at ps) × (i < length ps)) in
        elim (cases_lt (position_or_len (λ x. same x k) (map (λ p. p.0) ps)) (length (map (λ p. p.0) ps))) [
          | inl h ↦ subst At (sym (e ∙ cond-true _ _ None (lt-ltb _ _ h))) (f, omega arith)
          | inr h ↦ subst At (sym (e ∙ cond-false _ _ None (le-ltb _ _ h))) (omega arith)
        ]

    pub placed_within : (ps : List (K × V)) (r : Option ℕ) (n : ℕ) → r ≡ position (λ x. same x k) (map (λ p. p.0) ps) → length ps ≤ n → IfSome r (λ i. i < n)
    placed_within ps None n e h = tt
    placed_within ps (Some i) n e h = omega (arith, (placed ps (Some i) e).1)

    -- the value there is the key's
    pub lookup_at : (ps : List (K × V)) → slice_get (map (λ p. p.1) ps) (at ps) ≡ lookup same ps k
    lookup_at [] = refl
    lookup_at (p ∷ ps) =
        elim (same p.0 k) as (λ (b : Bool). slice_get (p.1 ∷ map (λ p. p.1) ps) (cond b 0 (suc (at ps))) ≡ cond b (Some p.1) (lookup same ps k)) [ true ↦ refl | false ↦ lookup_at ps ]

    -- and so is that of the first entry with the key
    pub lookup_find : (ps : List (K × V)) → option_map (λ p. p.1) (find (λ p. same p.0 k) ps) ≡ lookup same ps k
    lookup_find [] = refl
    lookup_find (p ∷ ps) =
        elim (same p.0 k) as (λ (b : Bool). option_map (λ p. p.1) (cond b (Some p) (find (λ p. same p.0 k) ps)) ≡ cond b (Some p.1) (lookup same ps k)) [ true ↦ refl | false ↦ lookup_find ps ]

    -- its value, where q is what was taken of the entry r
    pub lookup_found : (ps : List (K × V)) (r : Option (Bor K × Bor V)) (q : Option (Bor V)) → option_map (λ p. (p.0.now, p.1.now)) r ≡ find (λ p. same p.0 k) ps
        → MatchOption r (q ≡ None) (λ p. IsSomeAnd q (λ v. v ≡ p.1)) → option_map (λ v. v.now) q ≡ lookup same ps k
    lookup_found ps None q e h = ap (option_map (λ v. v.now)) h ∙ ap (option_map (λ p. p.1)) e ∙ lookup_find ps
    lookup_found ps (Some p) None e h = absurd h
    lookup_found ps (Some p) (Some v) e h = ap (λ (w : Bor V). Some w.now) h ∙ ap (option_map (λ p. p.1)) e ∙ lookup_find ps

    -- so it is looked up in vain exactly if that place is past the last entry
    pub lookup_past : (ps : List (K × V)) → length ps ≤ at ps → lookup same ps k ≡ None
    lookup_past ps h = sym (lookup_at ps) ∙ slice_get_past (map (λ p. p.1) ps) (at ps) (omega (arith, length-map ps (λ p. p.1)))

    pub lookup_held : (ks : List K) (vs : List V) (n i : ℕ) (d : V) → i ≡ at (entries ks vs n) → i < length (entries ks vs n) → Some (get_or vs i d) ≡ lookup same (entries ks vs n) k
    lookup_held ks vs n i d e h =
        let m : ℕ = length (entries ks vs n) in
        let l : m ≡ length (take m vs) = sym (length-take-le m vs (omega (arith, length_entries ks vs n))) in
        sym (slice_get-get_or (take m vs) i d (omega arith) ∙ ap (λ (x : V). Some x) (get_or-take m vs i d h))
        ∙ ap (λ (l : List V). slice_get l i) (values_are ks vs n m refl) ∙ ap (slice_get (map (λ p. p.1) (entries ks vs n))) e ∙ lookup_at (entries ks vs n)

    -- the value is replaced there
    pub put_held : (ks : List K) (vs : List V) (n i : ℕ) (v : V) → i ≡ at (entries ks vs n) → i < length (entries ks vs n)
        → entries ks (set vs i v) n ≡ put same (entries ks vs n) k v
    put_held ks vs n i v e h = ap (λ (j : ℕ). entries ks (set vs j v) n) e ∙ by ks vs n (omega arith)
      where
        by : (ks : List K) (vs : List V) (n : ℕ) → at (entries ks vs n) < length (entries ks vs n)
            → entries ks (set vs (at (entries ks vs n)) v) n ≡ put same (entries ks vs n) k v
        by [] vs zero h = absurd (omega arith)
        by [] vs (suc n) h = absurd (omega arith)
        by (x ∷ ks) [] zero h = absurd (omega arith)
        by (x ∷ ks) [] (suc n) h = absurd (omega arith)
        by (x ∷ ks) (y ∷ vs) zero h = absurd (omega arith)
        by (x ∷ ks) (y ∷ vs) (suc n) h =
            (elim (same x k) as (λ (b : Bool). cond b 0 (suc (at (entries ks vs n))) < suc (length (entries ks vs n))
            → entries (x ∷ ks) (set (y ∷ vs) (cond b 0 (suc (at (entries ks vs n)))) v) (suc n) ≡ cond b ((x, v) ∷ entries ks vs n) ((x, y) ∷ put same (entries ks vs n) k v))
            [ true ↦ λ _. refl | false ↦ λ q. ap (λ (l : List (K × V)). (x, y) ∷ l) (by ks vs n (omega arith)) ]) h

    pub put_length : (ks : List K) (vs : List V) (n i : ℕ) (v : V) → length (entries ks (set vs i v) n) ≡ length (entries ks vs n)
    put_length ks vs n i v = omega (arith, length_entries ks (set vs i v) n, length_entries ks vs n, length-set vs i v)

    -- the entry comes last
    pub put_new : (ps : List (K × V)) (v : V) → length ps ≤ at ps → put same ps k v ≡ ps ++ (k, v) ∷ []
    put_new [] v h = refl
    put_new (p ∷ ps) v h =
        (elim (same p.0 k) as (λ (b : Bool). suc (length ps) ≤ cond b 0 (suc (at ps)) → cond b ((p.0, v) ∷ ps) (p ∷ put same ps k v) ≡ p ∷ (ps ++ (k, v) ∷ []))
        [ true ↦ λ q. absurd (omega arith) | false ↦ λ q. ap (λ (l : List (K × V)). p ∷ l) (put_new ps v (omega arith)) ]) h

    -- the entry there is taken out
    pub without_held : (ps : List (K × V)) → at ps < length ps → remove ps (at ps) ≡ without same ps k
    without_held [] h = absurd (omega arith)
    without_held (p ∷ ps) h =
        (elim (same p.0 k) as (λ (b : Bool). cond b 0 (suc (at ps)) < suc (length ps) → remove (p ∷ ps) (cond b 0 (suc (at ps))) ≡ cond b ps (p ∷ without same ps k))
        [ true ↦ λ _. refl | false ↦ λ q. ap (λ (l : List (K × V)). p ∷ l) (without_held ps (omega arith)) ]) h

    pub without_none : (ps : List (K × V)) → length ps ≤ at ps → without same ps k ≡ ps
    without_none [] h = refl
    without_none (p ∷ ps) h =
        (elim (same p.0 k) as (λ (b : Bool). suc (length ps) ≤ cond b 0 (suc (at ps)) → cond b ps (p ∷ without same ps k) ≡ p ∷ ps)
        [ true ↦ λ q. absurd (omega arith) | false ↦ λ q. ap (λ (l : List (K × V)). p ∷ l) (without_none ps (omega arith)) ]) h

length_removed : {X : Type 0} (xs : List X) (n i : ℕ) → n ≤ length xs → i < n → length (remove (take n xs) i) ≡ n - 1
length_removed xs n i le h = search (rules, places)

-- The key's entry is taken out of both lists, and the place set free there holds x and y.
pub record Closed {K V : Type 0} (ks ks' : List K) (vs vs' : List V) (count n i : ℕ) (x : K) (y : V) : Type 0 where
  pub is : entries ks' vs' (n - 1) ≡ remove (entries ks vs count) i
  pub spare_keys_lem : drop (length (entries ks' vs' (n - 1))) ks' ≡ x ∷ drop (length (entries ks vs count)) ks
  pub spare_values_lem : drop (length (entries ks' vs' (n - 1))) vs' ≡ y ∷ drop (length (entries ks vs count)) vs

module _ {K V : Type 0} where
  -- what lies behind the first n does not matter to them
  entries_before : (ks a : List K) (vs b : List V) (n : ℕ) → n ≤ length ks → n ≤ length vs → entries (take n ks ++ a) (take n vs ++ b) n ≡ entries ks vs n
  entries_before ks a vs b zero p q = refl
  entries_before [] a vs b (suc n) p q = absurd (omega arith)
  entries_before (k ∷ ks) a [] b (suc n) p q = absurd (omega arith)
  entries_before (k ∷ ks) a (v ∷ vs) b (suc n) p q = ap (λ (l : List (K × V)). (k, v) ∷ l) (entries_before ks a vs b n (omega arith) (omega arith))

  -- taken out of both sides is taken out of the pairs
  removed_sides : (ks a : List K) (vs b : List V) (m i : ℕ) → m < length ks → m < length vs → i ≤ m
      → entries (remove (take (suc m) ks) i ++ a) (remove (take (suc m) vs) i ++ b) m ≡ remove (entries ks vs (suc m)) i
  removed_sides [] a vs b m i p q h = absurd (omega arith)
  removed_sides (k ∷ ks) a [] b m i p q h = absurd (omega arith)
  removed_sides (k ∷ ks) a (v ∷ vs) b m zero p q h = entries_before ks a vs b m (omega arith) (omega arith)
  removed_sides (k ∷ ks) a (v ∷ vs) b zero (suc i) p q h = absurd (omega arith)
  removed_sides (k ∷ ks) a (v ∷ vs) b (suc m) (suc i) p q h = ap (λ (l : List (K × V)). (k, v) ∷ l) (removed_sides ks a vs b m i (omega arith) (omega arith) (omega arith))

  pub entries_closed : (ks ks' : List K) (vs vs' : List V) (count n i : ℕ) (x : K) (y : V) → n ≡ length (entries ks vs count) → i < n
      → ks' ≡ closed ks i n x → vs' ≡ closed vs i n y → Closed ks ks' vs vs' count n i x y
  entries_closed ks ks' vs vs' count n i x y c h e f =
      let l = length_entries ks vs count in
      let ke : ks' ≡ remove (take n ks) i ++ x ∷ drop n ks = e ∙ closed_within ks i n n x (omega arith) h in
      let ve : vs' ≡ remove (take n vs) i ++ y ∷ drop n vs = f ∙ closed_within vs i n n y (omega arith) h in
      let s : n ≡ suc (n - 1) = omega arith in
      let sides : entries (remove (take n ks) i ++ x ∷ drop n ks) (remove (take n vs) i ++ y ∷ drop n vs) (n - 1) ≡ remove (entries ks vs n) i =
      subst (λ (j : ℕ). entries (remove (take j ks) i ++ x ∷ drop n ks) (remove (take j vs) i ++ y ∷ drop n vs) (n - 1) ≡ remove (entries ks vs j) i) (sym s)
      (removed_sides ks (x ∷ drop n ks) vs (y ∷ drop n vs) (n - 1) i (omega arith) (omega arith) (omega arith)) in
      let is : entries ks' vs' (n - 1) ≡ remove (entries ks vs count) i =
      ap (λ (l : List K). entries l vs' (n - 1)) ke ∙ ap (λ (l : List V). entries (remove (take n ks) i ++ x ∷ drop n ks) l (n - 1)) ve
      ∙ sides ∙ ap (λ (l : List (K × V)). remove l i) (entries_counted ks vs count n c) in
      let size : length (entries ks' vs' (n - 1)) ≡ n - 1 =
      omega (
        arith,
        length_entries ks' vs' (n - 1),
        ap length ke,
        ap length ve,
        length-append (remove (take n ks) i) (x ∷ drop n ks),
        length-append (remove (take n vs) i) (y ∷ drop n vs),
        length_removed ks n i (omega arith) h,
        length_removed vs n i (omega arith) h,
      ) in
      record {
        is = is;
        spare_keys_lem = ap (λ (j : ℕ). drop j ks') size ∙ ap (drop (n - 1)) ke
            ∙ drop_at (remove (take n ks) i) (x ∷ drop n ks) (n - 1) (length_removed ks n i (omega arith) h) ∙ ap (λ (j : ℕ). x ∷ drop j ks) c;
        spare_values_lem = ap (λ (j : ℕ). drop j vs') size ∙ ap (drop (n - 1)) ve
            ∙ drop_at (remove (take n vs) i) (y ∷ drop n vs) (n - 1) (length_removed vs n i (omega arith) h) ∙ ap (λ (j : ℕ). y ∷ drop j vs) c;
      }
