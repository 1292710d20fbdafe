-- Readers of a list of items: as many of them as there are. Proofs, and nothing to know of a sheet.
use Rattle.std.specs.Prelude.{◌≡◌, ℕ, zero, suc, ◌≤◌, List, [], ◌∷◌, ◌++◌, length, refl}
use Rattle.std.proofs.Math.Option.{Option, none, some}
use Rattle.std.proofs.Common.{◌∙◌, ap, zero-le, le_of_suc-le-suc, not-suc-le-zero, arith}
use Rattle.std.specs.List.{flat_map}
use Rattle.std.proofs.lemmas.List.{append_assoc, length-append}

abbrev pub onto : {X A : Type 0} → (List A → List X × List A) → List A → Option (X × List A) → List X × List A
onto k s none = ([], s)
onto k s (some p) = let r = k p.1 in (p.0 ∷ r.0, r.1)

abbrev pub loop : {X A : Type 0} → (List A → Option (X × List A)) → ℕ → List A → List X × List A
loop next zero s = ([], s)
loop next (suc n) s = onto (loop next n) s (next s)

-- as many as there are: a stream holds no more items than symbols
abbrev pub many : {X A : Type 0} → (List A → Option (X × List A)) → List A → List X × List A
many next s = loop next (length s) s

-- the loop reads what was written, up to what it does not read
module _ {X A : Type 0} (next : List A → Option (X × List A)) (code : X → List A) (F : List A → Type 0)
    (reads : (x : X) (s : List A) → F s → next (code x ++ s) ≡ some (x, s))
    (some_code : (x : X) → 1 ≤ length (code x))
    (s : List A) (stops : next s ≡ none) (follows : (xs : List X) → F (flat_map code xs ++ s)) where
  loop_reads : (xs : List X) (n : ℕ) → length xs ≤ n → loop next n (flat_map code xs ++ s) ≡ (xs, s)
  loop_reads [] zero h = refl
  loop_reads [] (suc n) h = ap (onto (loop next n) s) stops
  loop_reads (x ∷ xs) zero h = absurd (not-suc-le-zero h)
  loop_reads (x ∷ xs) (suc n) h =
      ap (loop next (suc n)) (append_assoc (code x) (flat_map code xs) s) ∙
      ap (onto (loop next n) (code x ++ (flat_map code xs ++ s))) (reads x (flat_map code xs ++ s) (follows xs)) ∙
      ap (λ (r : List X × List A). (x ∷ r.0, r.1)) (loop_reads xs n (le_of_suc-le-suc h))

  room : (xs : List X) → length xs ≤ length (flat_map code xs ++ s)
  room [] = zero-le
  room (x ∷ xs) =
      let h = room xs in
      let c = some_code x in
      rw (append_assoc (code x) (flat_map code xs) s, length-append (code x) (flat_map code xs ++ s)) (omega arith)

  pub many_reads : (xs : List X) → many next (flat_map code xs ++ s) ≡ (xs, s)
  many_reads xs = loop_reads xs (length (flat_map code xs ++ s)) (room xs)
