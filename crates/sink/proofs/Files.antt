-- A block file in its `Vec`.
use Rattle.std.proofs.Common.{◌≡◌, ℕ, ◌+◌, ◌*◌, ◌/◌, ◌≤◌, List, ◌++◌, length, take, vec_items, sym, ap, ◌∙◌, arith, length-append}
use Rattle.std.proofs.lemmas.List.{take_at}
use Rattle.sink.specs.declared.block_file.BlockFile.{BlockFile}
use Rattle.sink.specs.File.{file_blocks, file_held}
use Rattle.sink.specs.Layout.{encode, texts}
use Rattle.sink.specs.Opening.{Holds}
use Rattle.sink.proofs.Encoding.{length_encode, length_held, texts_encode}

-- A file's memory is as long as its blocks.
pub file_size : (f : BlockFile) → length (vec_items f.bytes) ≡ 512 * file_blocks f
file_size f = omega (arith, f.bytes.ok.0, f.size)

-- Its count is the length of its text.
pub held_is : (f : BlockFile) → f.held ≡ length (file_held f)
held_is f = sym (length_held (file_blocks f) f.held (vec_items f.bytes) (file_size f) f.room)

-- Its bytes hold its text.
pub file_holds : (f : BlockFile) → Holds (vec_items f.bytes) (file_blocks f) (file_held f)
file_holds f = record {
  blocks = record { some = f.some; few = f.few; size = file_size f };
  fits = omega (arith, f.room, held_is f);
  is = f.sound;
}

-- After bs is added: what the items are, that they hold the text with bs behind it, and that they are a file of it. xs is the
-- slice that the `Vec` lent, ys its items, w what the slice holds then, and zs what lies behind it.
pub added : (n held len : ℕ) (xs ys bs w zs : List ℕ) → xs ≡ ys → length ys ≡ 512 * n → len ≡ 512 * n → held + length bs ≤ 508 * n
    → w ≡ encode (length xs / 512) (take held (texts (length xs / 512) xs) ++ bs)
    → (take len (w ++ zs) ≡ encode n (take held (texts n ys) ++ bs))
    × (take (held + length bs) (texts n (take len (w ++ zs))) ≡ take held (texts n ys) ++ bs)
    × (take len (w ++ zs) ≡ encode n (take (held + length bs) (texts n (take len (w ++ zs)))))
added n held len xs ys bs w zs e h q m f =
    let u : List ℕ = take held (texts n ys) ++ bs in
    let x : List ℕ = take len (w ++ zs) in
    let i : length xs / 512 ≡ n = omega (arith, ap length e) in
    let g : w ≡ encode n u = f ∙ ap (λ (k : ℕ). encode k (take held (texts k xs) ++ bs)) i ∙ ap (λ (l : List ℕ). encode n (take held (texts n l) ++ bs)) e in
    let a : x ≡ encode n u = take_at w zs len (ap length g ∙ length_encode n u ∙ sym q) ∙ g in
    let l : length u ≡ held + length bs = omega (arith, length-append (take held (texts n ys)) bs, length_held n held ys h (omega arith)) in
    let b : take (held + length bs) (texts n x) ≡ u = ap (λ (y : List ℕ). take (held + length bs) (texts n y)) a ∙ texts_encode n u (held + length bs) l m in
    (a, b, a ∙ ap (λ (y : List ℕ). encode n y) (sym b))

-- What blocks hold, of their bytes: d is the blocks joined, and ys the items of the `Vec`.
pub joined_sound : (k n held : ℕ) (d ys : List ℕ) → k ≡ n → d ≡ ys → d ≡ encode k (take held (texts k d)) → ys ≡ encode n (take held (texts n ys))
joined_sound k n held d ys q e h = sym e ∙ h ∙ ap (λ (i : ℕ). encode i (take held (texts i d))) q ∙ ap (λ (l : List ℕ). encode n (take held (texts n l))) e
