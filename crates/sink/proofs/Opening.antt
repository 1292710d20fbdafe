-- Opening: the blocks one by one, what they show of the text, and when there is none.
use Rattle.std.proofs.Common.{◌≡◌, ℕ, ◌+◌, ◌-◌, ◌*◌, ◌<◌, ◌≤◌, ◌⊎◌, List, [], ◌++◌, length, take, drop, sym, ap, ◌∙◌, inl, inr, ⊎_elim, append-nil, arith, length-append, length-drop, length-take, take-add}
use Rattle.std.proofs.lemmas.List.{drop_at, length-take-le, take-append-drop, take_all, drop_all, nil_from_length}
use Rattle.sink.specs.Layout.{block_of, encode}
use Rattle.sink.specs.Opening.{OneText}
use Rattle.sink.proofs.Blocks.{block_one, length_block}
use Rattle.sink.proofs.Encoding.{encode_add, encode_ahead, encode_one, blocks_before, block_at, piece_length}

pub one_text : (bs : List ℕ) → OneText bs
one_text bs m n t u h k =
    let e : m ≡ n = omega (arith, h.blocks.size, k.blocks.size) in
    let q : encode m u ≡ encode n u = ap (λ (i : ℕ). encode i u) e in
    (e, encode_one m t u h.fits (omega (arith, k.fits)) (sym h.is ∙ k.is ∙ sym q))

single : (u : List ℕ) → length u ≤ 508 → encode 1 u ≡ block_of u
unfolding encode
single u h = append-nil (block_of (take 508 u)) ∙ ap block_of (take_all 508 u h)

-- One more block, where those before are full or it is empty.
next_block : (i : ℕ) (t p : List ℕ) → length t ≤ 508 * i → length p ≤ 508 → (length t ≡ 508 * i) ⊎ (length p ≡ 0) → encode (i + 1) (t ++ p) ≡ encode i t ++ block_of p
next_block i t p h k (inl e) =
    encode_add i 1 (t ++ p)
    ∙ ap (λ (l : List ℕ). l ++ encode 1 (drop (508 * i) (t ++ p))) (encode_ahead i t p (omega arith))
    ∙ ap (λ (l : List ℕ). encode i t ++ encode 1 l) (drop_at t p (508 * i) e)
    ∙ ap (λ (l : List ℕ). encode i t ++ l) (single p k)
next_block i t p h k (inr e) =
    let z : p ≡ [] = nil_from_length p e in
    ap (λ (l : List ℕ). encode (i + 1) l) (ap (λ (l : List ℕ). t ++ l) z ∙ append-nil t)
    ∙ encode_add i 1 t
    ∙ ap (λ (l : List ℕ). encode i t ++ encode 1 l) (drop_all (508 * i) t h ∙ sym z)
    ∙ ap (λ (l : List ℕ). encode i t ++ l) (single p k)

length_count : (count : ℕ) (x : List ℕ) → count ≤ 508 → x ≡ block_of (take count x) → length (take count x) ≡ count
length_count count x m f =
    let w : length (take count x) ≤ 508 = simp length-take (omega arith) in
    length-take-le count x (omega (arith, ap length f, length_block (take count x) w))

-- The blocks before i hold t, the one at i is x and holds `count` bytes: what the blocks up to it hold.
pub one_more : (i held count : ℕ) (d t x : List ℕ) → length t ≡ held → held ≤ 508 * i → take (512 * i) d ≡ encode i t
    → x ≡ take 512 (drop (512 * i) d) → count ≤ 508 → x ≡ block_of (take count x) → (held ≡ 508 * i) ⊎ (count ≡ 0)
    → (length (t ++ take count x) ≡ held + count) × (take (512 * (i + 1)) d ≡ encode (i + 1) (t ++ take count x))
one_more i held count d t x lt lh e q m f o =
    let a : 512 * (i + 1) ≡ 512 * i + 512 = omega arith in
    let lp : length (take count x) ≡ count = length_count count x m f in
    let o' : (length t ≡ 508 * i) ⊎ (length (take count x) ≡ 0) = ⊎_elim (λ y. inl (lt ∙ y)) (λ y. inr (lp ∙ y)) o in (
      omega (arith, length-append t (take count x)),
      ap (λ (j : ℕ). take j d) a ∙ take-add (512 * i) 512 d
          ∙ ap (λ (y : List ℕ). y ++ take 512 (drop (512 * i) d)) e ∙ ap (λ (y : List ℕ). encode i t ++ y) (sym q ∙ f)
          ∙ sym (next_block i t (take count x) (omega arith) (omega arith) o'),
    )

-- Text after a block that is not full is in no file.
pub no_gap : (n i held count : ℕ) (d t x : List ℕ) → i < n → length t ≡ held → held < 508 * i → take (512 * i) d ≡ encode i t
    → x ≡ take 512 (drop (512 * i) d) → count ≤ 508 → 0 < count → x ≡ block_of (take count x)
    → (u : List ℕ) → length u ≤ 508 * n → d ≡ encode n u → ⊥
no_gap n i held count d t x l lt lh e q m pos f u lu g =
    let y : List ℕ = drop (508 * i) u in
    let lx : length (take count x) ≡ count = length_count count x m f in
    let a : take count x ≡ take 508 y = block_one (take count x) (take 508 y) (omega arith) (piece_length y) (sym f ∙ q ∙ block_at n i u d l g) in
    let b : length (take count x) ≤ length u - 508 * i = omega (arith, ap length a, length-take 508 y, length-drop (508 * i) u) in
    let c : length (take (508 * i) u) ≡ 508 * i = length-take-le (508 * i) u (omega arith) in
    let p : encode i u ≡ encode i (take (508 * i) u) = ap (λ (z : List ℕ). encode i z) (sym (take-append-drop (508 * i) u)) ∙ encode_ahead i (take (508 * i) u) y (omega arith) in
    let r : t ≡ take (508 * i) u = encode_one i t (take (508 * i) u) (omega arith) (omega arith) (sym e ∙ blocks_before n i u d (omega arith) g ∙ p) in
    omega (arith, ap length r)
