-- All blocks: which block holds what, that they hold one text, and that it can be read back.
use Rattle.std.proofs.Common.{◌≡◌, ℕ, zero, suc, ◌+◌, ◌-◌, ◌*◌, ◌<◌, ◌≤◌, List, [], ◌++◌, length, take, drop, replicate, sym, refl, ap, ◌∙◌, inl, inr, append_assoc, arith, length-append, length-drop, length-take}
use Rattle.std.proofs.lemmas.List.{take_at, drop_at, take-append-drop, length-take-le, take-append-le, drop-append-le, drop-drop, take_all, drop_all, drop-take, take-take, nil_from_length, replicate-append-replicate}
use Rattle.std.proofs.Math.Seq.{take-append-add}
use Rattle.std.proofs.lemmas.Bool.{cases_lt}
use Rattle.sink.specs.Layout.{block_of, encode, texts}
use Rattle.sink.specs.Laws.{ZerosEmpty}
use Rattle.sink.proofs.Blocks.{length_block, take_text, block_one, block_none}

-- What one block takes of a text fits into it.
pub piece_length : (t : List ℕ) → length (take 508 t) ≤ 508
piece_length t = simp length-take (omega arith)

pub length_encode : (n : ℕ) (t : List ℕ) → length (encode n t) ≡ 512 * n
unfolding encode
length_encode zero t = refl
length_encode (suc n) t =
    omega (arith, length-append (block_of (take 508 t)) (encode n (drop 508 t)), length_block (take 508 t) (piece_length t), length_encode n (drop 508 t))

-- The first i blocks, and m others.
pub encode_add : (i m : ℕ) (t : List ℕ) → encode (i + m) t ≡ encode i t ++ encode m (drop (508 * i) t)
unfolding encode
encode_add zero m t = let e : 0 + m ≡ m = omega arith in ap (λ (k : ℕ). encode k t) e
encode_add (suc i) m t =
    let e : suc i + m ≡ suc (i + m) = omega arith in
    let f : 508 + 508 * i ≡ 508 * suc i = omega arith in
    ap (λ (k : ℕ). encode k t) e
    ∙ ap (λ (l : List ℕ). block_of (take 508 t) ++ l) (encode_add i m (drop 508 t) ∙ ap (λ (l : List ℕ). encode i (drop 508 t) ++ encode m l) (drop-drop (508 * i) 508 t ∙ ap (λ (k : ℕ). drop k t) f))
    ∙ sym (append_assoc (block_of (take 508 t)) (encode i (drop 508 t)) (encode m (drop (508 * suc i) t)))

pub encode_split : (n i : ℕ) (t : List ℕ) → i ≤ n → encode n t ≡ encode i t ++ encode (n - i) (drop (508 * i) t)
encode_split n i t h = let e : n ≡ i + (n - i) = omega arith in ap (λ (k : ℕ). encode k t) e ∙ encode_add i (n - i) t

-- Of the file d that holds t: the blocks before i, those from i on, and the one at i.
pub blocks_before : (n i : ℕ) (t d : List ℕ) → i ≤ n → d ≡ encode n t → take (512 * i) d ≡ encode i t
blocks_before n i t d h e =
    ap (λ (l : List ℕ). take (512 * i) l) (e ∙ encode_split n i t h) ∙ take_at (encode i t) (encode (n - i) (drop (508 * i) t)) (512 * i) (length_encode i t)

pub blocks_from : (n i : ℕ) (t d : List ℕ) → i ≤ n → d ≡ encode n t → drop (512 * i) d ≡ encode (n - i) (drop (508 * i) t)
blocks_from n i t d h e =
    ap (λ (l : List ℕ). drop (512 * i) l) (e ∙ encode_split n i t h) ∙ drop_at (encode i t) (encode (n - i) (drop (508 * i) t)) (512 * i) (length_encode i t)

pub block_at : (n i : ℕ) (t d : List ℕ) → i < n → d ≡ encode n t → take 512 (drop (512 * i) d) ≡ block_of (take 508 (drop (508 * i) t))
unfolding encode
block_at n i t d l e =
    let u : List ℕ = drop (508 * i) t in
    let a : n - i ≡ suc (n - i - 1) = omega arith in
    ap (λ (x : List ℕ). take 512 x) (blocks_from n i t d (omega arith) e ∙ ap (λ (m : ℕ). encode m u) a)
    ∙ take_at (block_of (take 508 u)) (encode (n - i - 1) (drop 508 u)) 512 (length_block (take 508 u) (piece_length u))

-- Blocks that are full keep what they hold.
pub encode_ahead : (i : ℕ) (t p : List ℕ) → 508 * i ≤ length t → encode i (t ++ p) ≡ encode i t
unfolding encode
encode_ahead zero t p h = refl
encode_ahead (suc i) t p h =
    let a : 508 ≤ length t = omega arith in
    let n : 508 * i ≤ length (drop 508 t) = simp length-drop (omega arith) in
    ap (λ (l : List ℕ). block_of l ++ encode i (drop 508 (t ++ p))) (take-append-le 508 t p a)
    ∙ ap (λ (l : List ℕ). block_of (take 508 t) ++ encode i l) (drop-append-le 508 t p a)
    ∙ ap (λ (l : List ℕ). block_of (take 508 t) ++ l) (encode_ahead i (drop 508 t) p n)

-- A text that fits into one block leaves the others empty.
pub encode_one_block : (m : ℕ) (u : List ℕ) → length u ≤ 508 → encode (suc m) u ≡ block_of u ++ encode m []
unfolding encode
encode_one_block m u h = ap (λ (l : List ℕ). block_of l ++ encode m (drop 508 u)) (take_all 508 u h) ∙ ap (λ (l : List ℕ). block_of u ++ encode m l) (drop_all 508 u h)

pub zeros_empty : ZerosEmpty
unfolding encode
zeros_empty zero = refl
zeros_empty (suc n) =
    let e : 512 + 512 * n ≡ 512 * suc n = omega arith in
    ap (λ (l : List ℕ). l ++ encode n []) block_none ∙ ap (λ (l : List ℕ). replicate 512 0 ++ l) (zeros_empty n)
    ∙ replicate-append-replicate 512 (512 * n) 0 ∙ ap (λ (i : ℕ). replicate i 0) e

-- Blocks hold one text.
pub encode_one : (n : ℕ) (t u : List ℕ) → length t ≤ 508 * n → length u ≤ 508 * n → encode n t ≡ encode n u → t ≡ u
unfolding encode
encode_one zero t u h k e =
    let a : length t ≡ 0 = omega arith in
    let b : length u ≡ 0 = omega arith in
    nil_from_length t a ∙ sym (nil_from_length u b)
encode_one (suc n) t u h k e =
    let lt = length_block (take 508 t) (piece_length t) in
    let lu = length_block (take 508 u) (piece_length u) in
    let a : block_of (take 508 t) ≡ block_of (take 508 u) =
    sym (take_at (block_of (take 508 t)) (encode n (drop 508 t)) 512 lt) ∙ ap (λ (l : List ℕ). take 512 l) e ∙ take_at (block_of (take 508 u)) (encode n (drop 508 u)) 512 lu in
    let b : encode n (drop 508 t) ≡ encode n (drop 508 u) =
    sym (drop_at (block_of (take 508 t)) (encode n (drop 508 t)) 512 lt) ∙ ap (λ (l : List ℕ). drop 512 l) e ∙ drop_at (block_of (take 508 u)) (encode n (drop 508 u)) 512 lu in
    let c : take 508 t ≡ take 508 u = block_one (take 508 t) (take 508 u) (piece_length t) (piece_length u) a in
    let p : length (drop 508 t) ≤ 508 * n = simp length-drop (omega arith) in
    let q : length (drop 508 u) ≤ 508 * n = simp length-drop (omega arith) in
    let d : drop 508 t ≡ drop 508 u = encode_one n (drop 508 t) (drop 508 u) p q b in
    sym (take-append-drop 508 t) ∙ ap (λ (l : List ℕ). l ++ drop 508 t) c ∙ ap (λ (l : List ℕ). take 508 u ++ l) d ∙ take-append-drop 508 u

pub length_texts : (n : ℕ) (bs : List ℕ) → 512 * n ≤ length bs → length (texts n bs) ≡ 508 * n
unfolding texts
length_texts zero bs h = refl
length_texts (suc n) bs h =
    let a : 512 * n ≤ length (drop 512 bs) = simp length-drop (omega arith) in
    omega (arith, length-append (take 508 bs) (texts n (drop 512 bs)), length-take-le 508 bs (omega arith), length_texts n (drop 512 bs) a)

-- The first bytes of the places for text.
pub length_held : (n held : ℕ) (bs : List ℕ) → length bs ≡ 512 * n → held ≤ 508 * n → length (take held (texts n bs)) ≡ held
length_held n held bs h k = length-take-le held (texts n bs) (omega (arith, length_texts n bs (omega arith)))

-- The text is read back.
pub texts_encode : (n : ℕ) (t : List ℕ) (k : ℕ) → length t ≡ k → k ≤ 508 * n → take k (texts n (encode n t)) ≡ t
unfolding encode texts
texts_encode zero t k e h =
    let a : length t ≡ 0 = omega arith in
    take_all k [] (omega arith) ∙ sym (nil_from_length t a)
texts_encode (suc n) t k e h =
    let lt = length_block (take 508 t) (piece_length t) in
    let x : List ℕ = block_of (take 508 t) in
    let y : List ℕ = encode n (drop 508 t) in
    let a : take 508 (x ++ y) ≡ take 508 x = take-append-le 508 x y (omega arith) in
    let b : drop 512 (x ++ y) ≡ y = drop_at x y 512 lt in
    let c : take 508 (x ++ y) ++ texts n (drop 512 (x ++ y)) ≡ take 508 x ++ texts n y = ap (λ (l : List ℕ). l ++ texts n (drop 512 (x ++ y))) a ∙ ap (λ (l : List ℕ). take 508 x ++ texts n l) b in
    let w : length (take 508 x) ≡ 508 = length-take-le 508 x (omega arith) in
    ap (λ (l : List ℕ). take k l) c
    ∙ elim (cases_lt k 508) [
      | inl l ↦ (let z : take 508 t ≡ t = take_all 508 t (omega arith) in
          take-append-le k (take 508 x) (texts n y) (omega arith) ∙ take-take k 508 x (omega arith) ∙ take_text (take 508 t) k (ap length z ∙ e) ∙ z)
      | inr l ↦ (let m : length (take 508 t) ≡ 508 = length-take-le 508 t (omega arith) in
          let r : length (drop 508 t) ≡ k - 508 = simp length-drop (omega arith) in
          ap (λ (i : ℕ). take i (take 508 x ++ texts n y)) (omega arith) ∙ take-append-add (take 508 x) (texts n y) (k - 508)
          ∙ ap (λ (v : List ℕ). v ++ take (k - 508) (texts n y)) (take_text (take 508 t) 508 m)
          ∙ ap (λ (v : List ℕ). take 508 t ++ v) (texts_encode n (drop 508 t) (k - 508) r (omega arith))
          ∙ take-append-drop 508 t)
    ]

-- A part of what is taken is a part of the whole.
pub part_of_taken : (o k m : ℕ) (xs : List ℕ) → o + k ≤ m → take k (drop o (take m xs)) ≡ take k (drop o xs)
part_of_taken o k m xs h =
    let e : m ≡ o + (m - o) = omega arith in
    ap (λ (i : ℕ). take k (drop o (take i xs))) e ∙ ap (λ (l : List ℕ). take k l) (drop-take o (m - o) xs) ∙ take-take k (m - o) (drop o xs) (omega arith)

-- A part of the text that lies in one block.
pub texts_part : (n b o k : ℕ) (bs : List ℕ) → 512 * n ≤ length bs → b < n → o + k ≤ 508 → take k (drop (508 * b + o) (texts n bs)) ≡ take k (drop (512 * b + o) bs)
unfolding texts
texts_part zero b o k bs h l m = absurd (omega arith)
texts_part (suc n) zero o k bs h l m =
    let w : length (take 508 bs) ≡ 508 = length-take-le 508 bs (omega arith) in
    let z : 508 * 0 + o ≡ o = omega arith in
    let y : 512 * 0 + o ≡ o = omega arith in
    let v : k ≤ length (drop o (take 508 bs)) = simp length-drop (omega arith) in
    ap (λ (i : ℕ). take k (drop i (take 508 bs ++ texts n (drop 512 bs)))) z
    ∙ ap (λ (x : List ℕ). take k x) (drop-append-le o (take 508 bs) (texts n (drop 512 bs)) (omega arith))
    ∙ take-append-le k (drop o (take 508 bs)) (texts n (drop 512 bs)) v
    ∙ part_of_taken o k 508 bs m ∙ ap (λ (i : ℕ). take k (drop i bs)) (sym y)
texts_part (suc n) (suc b) o k bs h l m =
    let w : length (take 508 bs) ≡ 508 = length-take-le 508 bs (omega arith) in
    let a : 512 * n ≤ length (drop 512 bs) = simp length-drop (omega arith) in
    let z : 508 * suc b + o ≡ 508 + (508 * b + o) = omega arith in
    let y : 512 + (512 * b + o) ≡ 512 * suc b + o = omega arith in
    ap (λ (i : ℕ). take k (drop i (take 508 bs ++ texts n (drop 512 bs)))) z
    ∙ ap (λ (x : List ℕ). take k x) (sym (drop-drop (508 * b + o) 508 (take 508 bs ++ texts n (drop 512 bs))))
    ∙ ap (λ (x : List ℕ). take k (drop (508 * b + o) x)) (drop_at (take 508 bs) (texts n (drop 512 bs)) 508 w)
    ∙ texts_part n b o k (drop 512 bs) a (omega arith) m
    ∙ ap (λ (x : List ℕ). take k x) (drop-drop (512 * b + o) 512 bs) ∙ ap (λ (i : ℕ). take k (drop i bs)) y
