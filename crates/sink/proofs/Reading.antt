-- Reading: the text, piece by piece, out of the blocks.
use Rattle.std.proofs.Common.{◌≡◌, ℕ, ◌+◌, ◌-◌, ◌*◌, ◌<◌, ◌≤◌, min, List, [], ◌++◌, length, get_or, take, drop, sym, ap, ◌∙◌, inl, inr, arith, length-drop, take-add}
use borrow.Rule.Slice.PartMut.{put_mid}
use Rattle.std.proofs.lemmas.List.{drop-drop, drop_all, take_at, length-take-le}
use Rattle.std.proofs.lemmas.Slice.{take-put_mid}
use Rattle.std.proofs.lemmas.Bool.{cases_lt}
use Rattle.std.specs.List.{concat}
use Rattle.sink.specs.Layout.{texts}
use Rattle.sink.proofs.Encoding.{length_held, length_texts, texts_part, part_of_taken}
use Rattle.sink.proofs.Joined.{Whole, length_joined, joined_at}

-- A part of the text that lies in the block x at b.
part_in : (bs : List (List ℕ)) (b used more : ℕ) (x : List ℕ) → Whole bs → b < length bs → x ≡ get_or bs b [] → used + more ≤ 508
    → take more (drop used x) ≡ take more (drop (508 * b + used) (texts (length bs) (concat bs)))
part_in bs b used more x h l e m =
    let d : List ℕ = concat bs in
    ap (λ (y : List ℕ). take more (drop used y)) (e ∙ joined_at bs b h l)
    ∙ part_of_taken used more 512 (drop (512 * b) d) (omega arith) ∙ ap (λ (y : List ℕ). take more y) (drop-drop used (512 * b) d)
    ∙ sym (texts_part (length bs) b used more d (omega (arith, length_joined bs h)) l m)

-- One more piece is read, out of the block x at b: j and k are its length, and q is what the part of the target holds then.
pub read_more : (bs : List (List ℕ)) (from done b used more j k : ℕ) (x out q : List ℕ) → Whole bs → b < length bs → x ≡ get_or bs b []
    → from + done ≡ 508 * b + used → used + more ≤ 508 → done + more ≤ length out → j ≡ more → k ≡ more
    → take done out ≡ take done (drop from (texts (length bs) (concat bs))) → q ≡ take j (drop used x)
    → take (done + more) (put_mid done k out q) ≡ take (done + more) (drop from (texts (length bs) (concat bs)))
read_more bs from done b used more j k x out q h l e at m le ej ek t f =
    let ts : List ℕ = texts (length bs) (concat bs) in
    let g : q ≡ take more (drop done (drop from ts)) =
    f ∙ ap (λ (i : ℕ). take i (drop used x)) ej ∙ part_in bs b used more x h l e m
    ∙ ap (λ (i : ℕ). take more (drop i ts)) (sym at) ∙ ap (λ (y : List ℕ). take more y) (ap (λ (i : ℕ). drop i ts) (omega arith) ∙ sym (drop-drop done from ts)) in
    let w : length x ≡ 512 = ap length e ∙ h b l in
    let v : j ≤ length (drop used x) = simp length-drop (omega arith) in
    let a : length q ≡ more = ap length f ∙ length-take-le j (drop used x) v ∙ ej in
    take-put_mid done k out q (done + more) (omega arith) (omega arith)
    ∙ ap (λ (y : List ℕ). y ++ q) t ∙ ap (λ (y : List ℕ). take done (drop from ts) ++ y) g
    ∙ sym (take-add done more (drop from ts))

-- A place past the end is as good as the end.
drop_clamped : (from start : ℕ) (xs : List ℕ) → start ≡ min from (length xs) → drop start xs ≡ drop from xs
drop_clamped from start xs e = elim (cases_lt from (length xs)) [
  | inl l ↦ let f : start ≡ from = omega arith in ap (λ (i : ℕ). drop i xs) f
  | inr l ↦ drop_all start xs (omega arith) ∙ sym (drop_all from xs l)
]

-- Reading k bytes of the held text: j is k, w is what was read, and zs lies behind it.
pub read_front : (n from held start k j : ℕ) (src w zs : List ℕ) → length src ≡ 512 * n → held ≤ 508 * n → start ≡ min from held → k ≤ held - start → j ≡ k
    → w ≡ take j (drop start (texts n src)) → take k (w ++ zs) ≡ take k (drop from (take held (texts n src)))
read_front n from held start k j src w zs h r s m e f =
    let t : List ℕ = take held (texts n src) in
    let lt : length t ≡ held = length_held n held src h r in
    let lx : length (texts n src) ≡ 508 * n = length_texts n src (omega arith) in
    let g : w ≡ take k (drop start (texts n src)) = f ∙ ap (λ (i : ℕ). take i (drop start (texts n src))) e in
    let a : k ≤ length (drop start (texts n src)) = simp length-drop (omega arith) in
    take_at w zs k (ap length g ∙ length-take-le k (drop start (texts n src)) a)
    ∙ g ∙ sym (part_of_taken start k held (texts n src) (omega arith))
    ∙ ap (λ (l : List ℕ). take k l) (drop_clamped from start t (omega arith))
