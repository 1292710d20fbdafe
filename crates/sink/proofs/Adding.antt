-- Text added to blocks: the block in use, and what stays.
use Rattle.std.proofs.Common.{◌≡◌, ℕ, suc, ◌+◌, ◌-◌, ◌*◌, ◌/◌, ◌%◌, ◌<◌, ◌≤◌, List, [], ◌++◌, length, take, drop, sym, ap, ◌∙◌, append_assoc, append-nil, arith, length-append, length-drop}
use borrow.Rule.Slice.PartMut.{put_mid}
use Rattle.std.proofs.lemmas.List.{take_all, drop_all, drop-drop, drop-append-le, take-take, take-append-drop}
use Rattle.sink.specs.File.{Kept}
use Rattle.sink.specs.Layout.{block_of, encode, full, used}
use Rattle.sink.proofs.Blocks.{take_text}
use Rattle.sink.proofs.Encoding.{block_at, blocks_before, blocks_from, encode_ahead, encode_one_block, encode_split}

-- The block in use of a file d that holds t, of length at.
in_use : (n at : ℕ) (t d : List ℕ) → length t ≡ at → at < 508 * n → d ≡ encode n t → take 512 (drop (512 * (at / 508)) d) ≡ block_of (drop (508 * (at / 508)) t)
in_use n at t d e h f =
    let w : length (drop (508 * (at / 508)) t) ≤ 508 = simp length-drop (omega arith) in
    block_at n (at / 508) t d (omega arith) f ∙ ap block_of (take_all 508 (drop (508 * (at / 508)) t) w)

in_use_text : (n at : ℕ) (t d : List ℕ) → length t ≡ at → at < 508 * n → d ≡ encode n t → take (at % 508) (drop (512 * (at / 508)) d) ≡ drop (508 * (at / 508)) t
in_use_text n at t d e h f =
    let w : length (drop (508 * (at / 508)) t) ≡ at % 508 = simp length-drop (omega arith) in
    sym (take-take (at % 508) 512 (drop (512 * (at / 508)) d) (omega arith))
    ∙ ap (λ (l : List ℕ). take (at % 508) l) (in_use n at t d e h f) ∙ take_text (drop (508 * (at / 508)) t) (at % 508) w

pub in_use_sound : (n at : ℕ) (t d : List ℕ) → length t ≡ at → at < 508 * n → d ≡ encode n t
    → take 512 (drop (512 * (at / 508)) d) ≡ block_of (take (at % 508) (drop (512 * (at / 508)) d))
in_use_sound n at t d e h f = in_use n at t d e h f ∙ ap block_of (sym (in_use_text n at t d e h f))

-- The file once block b, where t ends, holds p besides.
put_at : (n b : ℕ) (t p d : List ℕ) → b < n → 508 * b ≤ length t → length t + length p ≤ 508 * b + 508 → d ≡ encode n t
    → take (512 * b) d ++ (block_of (drop (508 * b) t ++ p) ++ drop 512 (drop (512 * b) d)) ≡ encode n (t ++ p)
put_at n b t p d l h m e =
    let u : List ℕ = drop (508 * b) t ++ p in
    let v : List ℕ = encode (n - (b + 1)) [] in
    let lu : length u ≤ 508 = simp (length-append, length-drop) (omega arith) in
    let a : 512 * b + 512 ≡ 512 * (b + 1) = omega arith in
    let c : n - b ≡ suc (n - (b + 1)) = omega arith in
    let j : drop 512 (drop (512 * b) d) ≡ v =
    drop-drop 512 (512 * b) d ∙ ap (λ (i : ℕ). drop i d) a ∙ blocks_from n (b + 1) t d (omega arith) e
    ∙ ap (λ (x : List ℕ). encode (n - (b + 1)) x) (drop_all (508 * (b + 1)) t (omega arith)) in
    ap (λ (x : List ℕ). x ++ (block_of u ++ drop 512 (drop (512 * b) d))) (blocks_before n b t d (omega arith) e)
    ∙ ap (λ (x : List ℕ). encode b t ++ (block_of u ++ x)) j
    ∙ ap (λ (x : List ℕ). encode b t ++ x) (sym (ap (λ (i : ℕ). encode i u) c ∙ encode_one_block (n - (b + 1)) u lu))
    ∙ sym (encode_split n b (t ++ p) (omega arith) ∙ ap (λ (x : List ℕ). x ++ encode (n - b) (drop (508 * b) (t ++ p))) (encode_ahead b t p h)
    ∙ ap (λ (x : List ℕ). encode b t ++ encode (n - b) x) (drop-append-le (508 * b) t p h))

-- The file once p is added to the block in use: x is the file from that block on, and q is what stands there then.
pub in_use_more : (n at : ℕ) (t p d x q : List ℕ) → length t ≡ at → at < 508 * n → d ≡ encode n t → at % 508 + length p ≤ 508
    → x ≡ drop (512 * (at / 508)) d → q ≡ block_of (take (at % 508) x ++ p) ++ drop 512 x
    → take (512 * (at / 508)) d ++ q ≡ encode n (t ++ p)
in_use_more n at t p d x q e h f m w g =
    ap (λ (l : List ℕ). take (512 * (at / 508)) d ++ l) (g ∙ ap (λ (y : List ℕ). block_of (take (at % 508) y ++ p) ++ drop 512 y) w
    ∙ ap (λ (y : List ℕ). block_of (y ++ p) ++ drop 512 (drop (512 * (at / 508)) d)) (in_use_text n at t d e h f))
    ∙ put_at n (at / 508) t p d (omega arith) (omega arith) (omega arith) f

-- What bytes are after a write to the part from a on: q is what the part holds then.
pub put_rest : (a : ℕ) (xs q : List ℕ) → put_mid a (length xs - a) xs q ≡ take a xs ++ q
put_rest a xs q =
    let w : length (drop a xs) ≤ length xs - a = simp length-drop (omega arith) in
    ap (λ (l : List ℕ). take a xs ++ (q ++ l)) (drop_all (length xs - a) (drop a xs) w) ∙ ap (λ (l : List ℕ). take a xs ++ l) (append-nil q)

-- A part of x moved behind t.
pub piece_moved : (t x : List ℕ) (k : ℕ) → (t ++ take k x) ++ drop k x ≡ t ++ x
piece_moved t x k = append_assoc t (take k x) (drop k x) ∙ ap (λ (l : List ℕ). t ++ l) (take-append-drop k x)

-- Blocks that t fills, and those that t and p do not reach, stay.
pub kept : (n i j : ℕ) (t p old new : List ℕ) → length t ≡ i → j ≡ i + length p → j ≤ 508 * n → old ≡ encode n t → new ≡ encode n (t ++ p)
    → Kept (full i) (used j) old new
kept n i j t p old new e f h o w =
    let b : ℕ = full i in
    let u : ℕ = used j in
    let l : length (t ++ p) ≤ 508 * u = simp length-append (omega arith) in
    record {
      before = blocks_before n b (t ++ p) new (omega arith) w ∙ encode_ahead b t p (omega arith) ∙ sym (blocks_before n b t old (omega arith) o);
      after = blocks_from n u (t ++ p) new (omega arith) w ∙ ap (λ (x : List ℕ). encode (n - u) x) (drop_all (508 * u) (t ++ p) l ∙ sym (drop_all (508 * u) t (omega arith)))
          ∙ sym (blocks_from n u t old (omega arith) o);
    }
