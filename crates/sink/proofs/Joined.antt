-- Blocks in a list, and their bytes joined.
use Rattle.std.proofs.Common.{◌≡◌, ℕ, zero, suc, ◌+◌, ◌*◌, ◌/◌, ◌<◌, List, [], ◌∷◌, ◌++◌, length, get_or, take, drop, sym, refl, ap, ◌∙◌, arith, length-append, take-add}
use Rattle.std.proofs.lemmas.List.{take_all, take_at, drop_at, drop-drop}
use Rattle.std.specs.List.{concat}
use Rattle.std.specs.Simd.{first_chunks}

-- Bytes that are cut into blocks, joined again.
chunks_joined : (n : ℕ) (bs : List ℕ) → concat (first_chunks 512 n bs) ≡ take (512 * n) bs
chunks_joined zero bs = refl
chunks_joined (suc n) bs =
    let e : 512 * suc n ≡ 512 + 512 * n = omega arith in
    ap (λ (l : List ℕ). take 512 bs ++ l) (chunks_joined n (drop 512 bs)) ∙ sym (ap (λ (i : ℕ). take i bs) e ∙ take-add 512 (512 * n) bs)

-- The same of the blocks of a slice xs that a `Vec` with the items ys lent.
pub cut_joined : (n : ℕ) (bs : List (List ℕ)) (xs ys : List ℕ) → bs ≡ first_chunks 512 (length xs / 512) xs → xs ≡ ys → length ys ≡ 512 * n → concat bs ≡ ys
cut_joined n bs xs ys q e h =
    let l : length xs ≡ 512 * n = ap length e ∙ h in
    ap concat q ∙ chunks_joined (length xs / 512) xs ∙ take_all (512 * (length xs / 512)) xs (omega arith) ∙ e

-- Each has 512 bytes, as its type says.
abbrev pub Whole : List (List ℕ) → Type 0
Whole bs = (i : ℕ) → i < length bs → length (get_or bs i []) ≡ 512

pub length_joined : (bs : List (List ℕ)) → Whole bs → length (concat bs) ≡ 512 * length bs
length_joined [] h = refl
length_joined (b ∷ bs) h =
    omega (arith, length-append b (concat bs), h 0 (omega arith), length_joined bs (λ k l. h (suc k) (omega arith)))

-- The block at i.
pub joined_at : (bs : List (List ℕ)) (i : ℕ) → Whole bs → i < length bs → get_or bs i [] ≡ take 512 (drop (512 * i) (concat bs))
joined_at [] i h l = absurd (omega arith)
joined_at (b ∷ bs) zero h l = sym (take_at b (concat bs) 512 (h 0 (omega arith)))
joined_at (b ∷ bs) (suc i) h l =
    let e : 512 + 512 * i ≡ 512 * suc i = omega arith in
    joined_at bs i (λ k m. h (suc k) (omega arith)) (omega arith)
    ∙ ap (λ (x : List ℕ). take 512 (drop (512 * i) x)) (sym (drop_at b (concat bs) 512 (h 0 (omega arith))))
    ∙ ap (λ (x : List ℕ). take 512 x) (drop-drop (512 * i) 512 (b ++ concat bs) ∙ ap (λ (j : ℕ). drop j (b ++ concat bs)) e)
