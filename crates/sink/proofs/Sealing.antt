-- Writes into one block: text behind its own, then the count and the check.
use Rattle.std.proofs.Common.{◌≡◌, ℕ, suc, ◌+◌, ◌-◌, ◌*◌, ◌/◌, ◌%◌, ◌<◌, ◌≤◌, List, [], ◌∷◌, ◌++◌, length, get_or, take, drop, set, replicate, All, sym, refl, ap, ◌∙◌, subst, append_assoc, arith, length-append, length-drop, length-take, take-add}
use borrow.Rule.Slice.PartMut.{put_mid}
use Rattle.std.proofs.lemmas.List.{take_at, drop_at, length-replicate, take-append-drop, length-take-le, take-take, set-append_right, drop-append-le, drop-replicate, set-get_or}
use Rattle.std.specs.List.{between}
use Rattle.std.proofs.lemmas.List.Edits.{length-between}
use Rattle.std.proofs.lemmas.Slice.{take-put_mid}
use Rattle.sink.specs.Check.{check}
use Rattle.sink.specs.Layout.{body_of, block_of}
use Rattle.sink.proofs.Blocks.{length_front, length_body, length_block, take_front}

four : (l : List ℕ) → length l ≡ 4 → l ≡ get_or l 0 0 ∷ get_or l 1 0 ∷ get_or l 2 0 ∷ get_or l 3 0 ∷ []
four [] h = absurd (omega arith)
four (a ∷ []) h = absurd (omega arith)
four (a ∷ b ∷ []) h = absurd (omega arith)
four (a ∷ b ∷ c ∷ []) h = absurd (omega arith)
four (a ∷ b ∷ c ∷ d ∷ []) h = refl
four (a ∷ b ∷ c ∷ d ∷ e ∷ l) h = absurd (omega arith)

-- The place for text stands in front of four bytes.
front_and_four : (d : List ℕ) → length d ≡ 512 → d ≡ take 508 d ++ (get_or (drop 508 d) 0 0 ∷ get_or (drop 508 d) 1 0 ∷ get_or (drop 508 d) 2 0 ∷ get_or (drop 508 d) 3 0 ∷ [])
front_and_four d h =
    let n : length (drop 508 d) ≡ 4 = simp length-drop (omega arith) in
    sym (take-append-drop 508 d) ∙ ap (λ (l : List ℕ). take 508 d ++ l) (four (drop 508 d) n)

-- The count and the check, written behind a place for text f.
set_count : (f : List ℕ) (a b c d x y : ℕ) → length f ≡ 508 → set (set (f ++ (a ∷ b ∷ c ∷ d ∷ [])) 508 x) 509 y ≡ f ++ (x ∷ y ∷ c ∷ d ∷ [])
set_count f a b c d x y h =
    rw (set-append_right f (a ∷ b ∷ c ∷ d ∷ []) 508 508 x h (omega arith))
    (set-append_right f (x ∷ b ∷ c ∷ d ∷ []) 508 509 y h (omega arith))

set_check : (f : List ℕ) (a b c d x y : ℕ) → length f ≡ 508 → set (set (f ++ (a ∷ b ∷ c ∷ d ∷ [])) 510 x) 511 y ≡ f ++ (a ∷ b ∷ x ∷ y ∷ [])
set_check f a b c d x y h =
    rw (set-append_right f (a ∷ b ∷ c ∷ d ∷ []) 508 510 x h (omega arith))
    (set-append_right f (a ∷ b ∷ x ∷ d ∷ []) 508 511 y h (omega arith))

-- d has the text t and zeros behind it; k is the check of its first 510 bytes once the count stands.
sealed_own : (d t : List ℕ) (k : ℕ × ℕ) → length d ≡ 512 → length t ≤ 508 → take 508 d ≡ t ++ replicate (508 - length t) 0
    → k ≡ check (take 510 (set (set d 508 (length t / 256)) 509 (length t % 256)))
    → set (set (set (set d 508 (length t / 256)) 509 (length t % 256)) 510 k.0) 511 k.1 ≡ block_of t
unfolding block_of
sealed_own d t k h n e q =
    let f : List ℕ = t ++ replicate (508 - length t) 0 in
    let m : length f ≡ 508 = length_front t n in
    let x : ℕ = length t / 256 in
    let y : ℕ = length t % 256 in
    let r : ℕ = get_or (drop 508 d) 2 0 in
    let s : ℕ = get_or (drop 508 d) 3 0 in
    let a : set (set d 508 x) 509 y ≡ f ++ (x ∷ y ∷ r ∷ s ∷ []) =
    ap (λ (l : List ℕ). set (set l 508 x) 509 y) (front_and_four d h ∙ ap (λ (l : List ℕ). l ++ (get_or (drop 508 d) 0 0 ∷ get_or (drop 508 d) 1 0 ∷ r ∷ s ∷ [])) e)
    ∙ set_count f (get_or (drop 508 d) 0 0) (get_or (drop 508 d) 1 0) r s x y m in
    let b : f ++ (x ∷ y ∷ r ∷ s ∷ []) ≡ body_of t ++ (r ∷ s ∷ []) = simp append_assoc in
    let g : take 510 (set (set d 508 x) 509 y) ≡ body_of t = ap (λ (l : List ℕ). take 510 l) (a ∙ b) ∙ take_at (body_of t) (r ∷ s ∷ []) 510 (length_body t n) in
    let u : f ++ (x ∷ y ∷ k.0 ∷ k.1 ∷ []) ≡ body_of t ++ (k.0 ∷ k.1 ∷ []) = simp append_assoc in
    ap (λ (l : List ℕ). set (set l 510 k.0) 511 k.1) a
    ∙ set_check f x y r s k.0 k.1 m ∙ u ∙ ap (λ (c : ℕ × ℕ). body_of t ++ (c.0 ∷ c.1 ∷ [])) (q ∙ ap check g)

-- The same at a count n.
pub sealed : (d t : List ℕ) (n : ℕ) (k : ℕ × ℕ) → length d ≡ 512 → length t ≡ n → n ≤ 508 → take 508 d ≡ t ++ replicate (508 - n) 0
    → k ≡ check (take 510 (set (set d 508 (n / 256)) 509 (n % 256)))
    → set (set (set (set d 508 (n / 256)) 509 (n % 256)) 510 k.0) 511 k.1 ≡ block_of t
sealed d t n k h e m =
    let P : ℕ → Type 0 = λ n. take 508 d ≡ t ++ replicate (508 - n) 0
    → k ≡ check (take 510 (set (set d 508 (n / 256)) 509 (n % 256)))
    → set (set (set (set d 508 (n / 256)) 509 (n % 256)) 510 k.0) 511 k.1 ≡ block_of t in
    subst P e (sealed_own d t k h (omega arith))

-- Where the count, the zeros and the check stand already, it is a block.
pub block_from : (d : List ℕ) (n : ℕ) → length d ≡ 512 → n ≤ 508 → n ≡ get_or d 508 0 * 256 + get_or d 509 0 → get_or d 509 0 < 256
    → take 508 d ≡ take n d ++ replicate (508 - n) 0 → (get_or d 510 0, get_or d 511 0) ≡ check (take 510 d) → d ≡ block_of (take n d)
block_from d n h m e f z q =
    let a : n / 256 ≡ get_or d 508 0 = omega arith in
    let b : n % 256 ≡ get_or d 509 0 = omega arith in
    let s : set (set d 508 (n / 256)) 509 (n % 256) ≡ d =
    ap (λ (i : ℕ). set (set d 508 i) 509 (n % 256)) a ∙ ap (λ (l : List ℕ). set l 509 (n % 256)) (set-get_or d 508 0)
    ∙ ap (λ (i : ℕ). set d 509 i) b ∙ set-get_or d 509 0 in
    let w : set (set d 510 (get_or d 510 0)) 511 (get_or d 511 0) ≡ d = ap (λ (l : List ℕ). set l 511 (get_or d 511 0)) (set-get_or d 510 0) ∙ set-get_or d 511 0 in
    sym w ∙ ap (λ (l : List ℕ). set (set l 510 (get_or d 510 0)) 511 (get_or d 511 0)) (sym s)
    ∙ sealed d (take n d) n (get_or d 510 0, get_or d 511 0) h (length-take-le n d (omega arith)) m z (q ∙ ap (λ (l : List ℕ). check (take 510 l)) (sym s))

all_zeros : (xs : List ℕ) → All (λ x. x ≡ 0) xs → xs ≡ replicate (length xs) 0
all_zeros [] h = refl
all_zeros (x ∷ xs) h = ap (λ (y : ℕ). y ∷ xs) (h 0 0 (omega arith)) ∙ ap (λ (l : List ℕ). 0 ∷ l) (all_zeros xs (λ k d l. h (suc k) d (omega arith)))

-- Zeros from n on, as a test of that part tells them.
pub zeros_from : (d : List ℕ) (n : ℕ) → length d ≡ 512 → n ≤ 508 → All (λ byte. byte ≡ 0) (between n 508 d) → take 508 d ≡ take n d ++ replicate (508 - n) 0
zeros_from d n h m z =
    let a : 508 ≡ n + (508 - n) = omega arith in
    let w : length (between n 508 d) ≡ 508 - n = length-between d n 508 (omega arith) in
    ap (λ (i : ℕ). take i d) a ∙ take-add n (508 - n) d ∙ ap (λ (l : List ℕ). take n d ++ l) (all_zeros (between n 508 d) z ∙ ap (λ (i : ℕ). replicate i 0) w)

drop_zeros : (k m n : ℕ) (r : List ℕ) → k ≤ m → m - k ≡ n → drop k (replicate m 0 ++ r) ≡ replicate n 0 ++ r
drop_zeros k m n r h e =
    let j : k ≤ length (replicate {A = ℕ} m 0) = simp length-replicate h in
    drop-append-le k (replicate m 0) r j ∙ ap (λ (l : List ℕ). l ++ r) (drop-replicate k m 0 ∙ ap (λ (i : ℕ). replicate i 0) e)

take_three : (x p z r : List ℕ) (n : ℕ) → length ((x ++ p) ++ z) ≡ n → take n (x ++ (p ++ (z ++ r))) ≡ (x ++ p) ++ z
take_three x p z r n e =
    let q : x ++ (p ++ (z ++ r)) ≡ ((x ++ p) ++ z) ++ r = simp append_assoc in
    ap (λ (l : List ℕ). take n l) q ∙ take_at ((x ++ p) ++ z) r n e

-- A place for text that has x and zeros, after p is written behind x; r lies behind the place.
zeros_overwritten : (x p r : List ℕ) (u : ℕ) → length x ≡ u → u + length p ≤ 508
    → take 508 (x ++ (p ++ drop (length p) (replicate (508 - u) 0 ++ r))) ≡ (x ++ p) ++ replicate (508 - (u + length p)) 0
zeros_overwritten x p r u m n =
    let z : List ℕ = replicate (508 - (u + length p)) 0 in
    let k : drop (length p) (replicate (508 - u) 0 ++ r) ≡ z ++ r = drop_zeros (length p) (508 - u) (508 - (u + length p)) r (omega arith) (omega arith) in
    let v : length ((x ++ p) ++ z) ≡ 508 = simp (length-append, length-replicate) (omega arith) in
    ap (λ (l : List ℕ). take 508 (x ++ (p ++ l))) k ∙ take_three x p z r 508 v

-- A block that holds u bytes, after p is written behind them.
lengthened : (d p : List ℕ) (u : ℕ) → length d ≡ 512 → d ≡ block_of (take u d) → u + length p ≤ 508
    → take 508 (take u d ++ (p ++ drop (length p) (drop u d))) ≡ (take u d ++ p) ++ replicate (508 - (u + length p)) 0
lengthened d p u h e n =
    let x : List ℕ = take u d in
    let z : List ℕ = replicate (508 - u) 0 in
    let m : length x ≡ u = length-take-le u d (omega arith) in
    let a : take 508 d ≡ x ++ z = ap (λ (l : List ℕ). take 508 l) e ∙ take_front x (omega arith) ∙ ap (λ (i : ℕ). x ++ replicate (508 - i) 0) m in
    let b : d ≡ x ++ (z ++ drop 508 d) = sym (take-append-drop 508 d) ∙ ap (λ (l : List ℕ). l ++ drop 508 d) a ∙ append_assoc x z (drop 508 d) in
    let g : drop u d ≡ z ++ drop 508 d = ap (λ (l : List ℕ). drop u l) b ∙ drop_at x (z ++ drop 508 d) u m in
    ap (λ (l : List ℕ). take 508 (x ++ (p ++ drop (length p) l))) g ∙ zeros_overwritten x p (drop 508 d) u m n

-- The same as the code has it: k is the length of the part written to, and q what the part holds then.
pub copied_text : (d p q : List ℕ) (u k : ℕ) → u ≤ length d → q ≡ p → take (u + length p) (put_mid u k d q) ≡ take u d ++ p
copied_text d p q u k h e = take-put_mid u k d q (u + length p) (omega (arith, ap length e)) h ∙ ap (λ (l : List ℕ). take u d ++ l) e

pub copied_front : (d p q : List ℕ) (u k : ℕ) → length d ≡ 512 → d ≡ block_of (take u d) → u + length p ≤ 508 → q ≡ p → k ≡ length p
    → take 508 (put_mid u k d q) ≡ take (u + length p) (put_mid u k d q) ++ replicate (508 - (u + length p)) 0
copied_front d p q u k h e n f g =
    let w : put_mid u k d q ≡ take u d ++ (p ++ drop (length p) (drop u d)) = ap (λ (l : List ℕ). put_mid u k d l) f ∙ ap (λ (i : ℕ). take u d ++ (p ++ drop i (drop u d))) g in
    ap (λ (l : List ℕ). take 508 l) w ∙ lengthened d p u h e n ∙ ap (λ (l : List ℕ). l ++ replicate (508 - (u + length p)) 0) (sym (copied_text d p q u k (omega arith) f))

-- Bytes that begin with a block are at least as many.
pub block_whole : (d : List ℕ) (u : ℕ) → u ≤ 508 → take 512 d ≡ block_of (take u d) → 512 ≤ length d
block_whole d u h e =
    let w : length (take u d) ≤ 508 = simp length-take (omega arith) in
    omega (arith, ap length e, length_block (take u d) w, length-take 512 d)

-- The first block x of bytes d.
pub first_block : (d x : List ℕ) (u : ℕ) → u ≤ 508 → take 512 d ≡ block_of (take u d) → x ≡ take 512 d → (length x ≡ 512) × (x ≡ block_of (take u x)) × (take u x ≡ take u d)
first_block d x u h e f =
    let a : take u x ≡ take u d = ap (λ (l : List ℕ). take u l) f ∙ take-take u 512 d (omega arith) in
    let w : length (take u d) ≤ 508 = simp length-take (omega arith) in
    (ap length (f ∙ e) ∙ length_block (take u d) w, f ∙ e ∙ ap block_of (sym a), a)
