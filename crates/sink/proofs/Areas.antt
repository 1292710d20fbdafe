-- A byte area in its `Vec`: bytes written behind those held.
use Rattle.std.proofs.Common.{◌≡◌, ℕ, ◌+◌, ◌-◌, ◌≤◌, List, ◌++◌, length, take, drop, sym, ap, ◌∙◌, append_assoc, arith, length-append, length-drop}
use Rattle.sink.proofs.Adding.{put_rest}
use borrow.Rule.Slice.PartMut.{put_mid}
use Rattle.std.proofs.lemmas.List.{take_at, length-take-le, take_rest, drop_at, drop-drop}

-- After a write from u on: xs is the slice that the `Vec` lent, ys its items, zs what lies behind them, and d what the part from u on holds then.
pub filled : (u len : ℕ) (xs ys bs d zs : List ℕ) → xs ≡ ys → length xs ≡ len → u + length bs ≤ length xs
    → d ≡ bs ++ drop (length bs) (take (length xs - u) (drop u xs))
    → take len (put_mid u (length xs - u) xs d ++ zs) ≡ take u ys ++ (bs ++ drop (u + length bs) ys)
filled u len xs ys bs d zs q n h e =
    let f : d ≡ bs ++ drop (u + length bs) xs = e ∙ ap (λ (l : List ℕ). bs ++ drop (length bs) l) (take_rest xs u) ∙ ap (λ (l : List ℕ). bs ++ l) (drop-drop (length bs) u xs) in
    let g : put_mid u (length xs - u) xs d ≡ take u xs ++ (bs ++ drop (u + length bs) xs) = put_rest u xs d ∙ ap (λ (l : List ℕ). take u xs ++ l) f in
    let m : length (take u xs) ≡ u = length-take-le u xs (omega arith) in
    let k : length (take u xs ++ (bs ++ drop (u + length bs) xs)) ≡ len = simp (length-append, length-drop) (omega arith) in
    ap (λ (l : List ℕ). take len (l ++ zs)) g ∙ take_at (take u xs ++ (bs ++ drop (u + length bs) xs)) zs len k
    ∙ ap (λ (l : List ℕ). take u l ++ (bs ++ drop (u + length bs) l)) q

-- What is held then, and what lies beyond: xs is what the area has after bs is written behind its first u bytes.
pub held_more : (u j : ℕ) (ys bs xs : List ℕ) → u ≤ length ys → j ≡ u + length bs → xs ≡ take u ys ++ (bs ++ drop (u + length bs) ys) → take j xs ≡ take u ys ++ bs
held_more u j ys bs xs h e f =
    let m : length (take u ys) ≡ u = length-take-le u ys h in
    let k : length (take u ys ++ bs) ≡ j = simp length-append (omega arith) in
    ap (λ (l : List ℕ). take j l) (f ∙ sym (append_assoc (take u ys) bs (drop (u + length bs) ys))) ∙ take_at (take u ys ++ bs) (drop (u + length bs) ys) j k

pub beyond_same : (u j : ℕ) (ys bs xs : List ℕ) → u ≤ length ys → j ≡ u + length bs → xs ≡ take u ys ++ (bs ++ drop (u + length bs) ys) → drop j xs ≡ drop j ys
beyond_same u j ys bs xs h e f =
    let m : length (take u ys) ≡ u = length-take-le u ys h in
    let k : length (take u ys ++ bs) ≡ j = simp length-append (omega arith) in
    ap (λ (l : List ℕ). drop j l) (f ∙ sym (append_assoc (take u ys) bs (drop (u + length bs) ys))) ∙ drop_at (take u ys ++ bs) (drop (u + length bs) ys) j k
    ∙ ap (λ (i : ℕ). drop i ys) (sym e)
