-- One block: what stands where in it, and that it holds one text.
use Rattle.std.proofs.Common.{◌≡◌, ℕ, ◌+◌, ◌-◌, ◌*◌, ◌/◌, ◌%◌, ◌≤◌, List, [], ◌∷◌, ◌++◌, length, get_or, take, drop, replicate, All, sym, refl, ap, ◌∙◌, subst, append_assoc, arith, length-append}
use Rattle.std.specs.List.{between}
use Rattle.std.proofs.lemmas.List.{take_at, drop_at, length-replicate, get_or-append_right}
use Rattle.std.proofs.lemmas.List.Elements.{All-replicate}
use Rattle.std.proofs.lemmas.Slice.{between_is}
use Rattle.sink.specs.Check.{check}
use Rattle.sink.specs.Layout.{body_of, block_of}
use Rattle.sink.specs.Laws.{Sample}
use Rattle.sink.proofs.Checks.{check_zeros, check_sample}

pub length_front : (t : List ℕ) → length t ≤ 508 → length (t ++ replicate (508 - length t) 0) ≡ 508
length_front t h = simp (length-append, length-replicate) (omega arith)

pub length_body : (t : List ℕ) → length t ≤ 508 → length (body_of t) ≡ 510
length_body t h = simp (length-append, length-replicate) (omega arith)

pub length_block : (t : List ℕ) → length t ≤ 508 → length (block_of t) ≡ 512
unfolding block_of
length_block t h = let e = length_body t h in omega (arith, length-append (body_of t) ((check (body_of t)).0 ∷ (check (body_of t)).1 ∷ []))

-- The text stands in front.
pub take_text : (t : List ℕ) (n : ℕ) → length t ≡ n → take n (block_of t) ≡ t
unfolding block_of
take_text t n e = rw append_assoc (take_at t _ n e)

-- The place for text, and behind it the count and the check.
front_and_tail : (t : List ℕ) → block_of t ≡ (t ++ replicate (508 - length t) 0) ++ (length t / 256 ∷ length t % 256 ∷ (check (body_of t)).0 ∷ (check (body_of t)).1 ∷ [])
unfolding block_of
front_and_tail t = simp append_assoc

pub take_front : (t : List ℕ) → length t ≤ 508 → take 508 (block_of t) ≡ t ++ replicate (508 - length t) 0
take_front t h = ap (λ (l : List ℕ). take 508 l) (front_and_tail t) ∙ take_at (t ++ replicate (508 - length t) 0) _ 508 (length_front t h)

take_body : (t : List ℕ) → length t ≤ 508 → take 510 (block_of t) ≡ body_of t
unfolding block_of
take_body t h = take_at (body_of t) _ 510 (length_body t h)

-- The bytes behind the place for text.
tail_at : (t : List ℕ) (i : ℕ) → length t ≤ 508 → 508 ≤ i
    → get_or (block_of t) i 0 ≡ get_or (length t / 256 ∷ length t % 256 ∷ (check (body_of t)).0 ∷ (check (body_of t)).1 ∷ []) (i - 508) 0
tail_at t i h k = ap (λ (l : List ℕ). get_or l i 0) (front_and_tail t) ∙ get_or-append_right (t ++ replicate (508 - length t) 0) _ 508 i 0 (length_front t h) k

-- The count, the unused bytes and the check of a block d that holds u.
pub count_at : (d u : List ℕ) → length u ≤ 508 → d ≡ block_of u → get_or d 508 0 * 256 + get_or d 509 0 ≡ length u
count_at d u h e = ap (λ (l : List ℕ). get_or l 508 0 * 256 + get_or l 509 0) e ∙ omega (arith, tail_at u 508 h (omega arith), tail_at u 509 h (omega arith))

-- The bytes behind the text of a block d that holds u are zeros.
pub unused_zeros : (d u : List ℕ) (n : ℕ) → length u ≤ 508 → n ≡ length u → d ≡ block_of u → All (λ byte. byte ≡ 0) (between n 508 d)
unused_zeros d u n h m e =
    let z : between n 508 d ≡ replicate (508 - length u) 0 =
    between_is d n 508 ∙ ap (λ (l : List ℕ). drop n l) (ap (λ (l : List ℕ). take 508 l) e ∙ take_front u h) ∙ drop_at u (replicate (508 - length u) 0) n (sym m) in
    subst (All (λ byte. byte ≡ 0)) (sym z) (All-replicate (λ byte. byte ≡ 0) (508 - length u) 0 refl)

pub check_at : (d u : List ℕ) → length u ≤ 508 → d ≡ block_of u → check (take 510 d) ≡ (get_or d 510 0, get_or d 511 0)
check_at d u h e =
    let s = tail_at u 510 h (omega arith) in
    let r = tail_at u 511 h (omega arith) in
    let P : List ℕ → Type 0 = λ l. check (take 510 l) ≡ (get_or l 510 0, get_or l 511 0) in
    subst P (sym e) (ap check (take_body u h) ∙ sym (ap (λ (i : ℕ). (i, get_or (block_of u) 511 0)) s ∙ ap (λ (i : ℕ). ((check (body_of u)).0, i)) r))

-- A block holds one text.
pub block_one : (t u : List ℕ) → length t ≤ 508 → length u ≤ 508 → block_of t ≡ block_of u → t ≡ u
block_one t u h k e =
    let n : length t ≡ length u = sym (count_at (block_of t) t h refl) ∙ count_at (block_of t) u k e in
    sym (take_text t (length t) refl) ∙ ap (λ (l : List ℕ). take (length t) l) e ∙ take_text u (length t) (sym n)

-- A block with no text is all zeros.
pub block_none : block_of [] ≡ replicate 512 0
unfolding block_of
block_none =
    let e : check (body_of []) ≡ (0, 0) = check_zeros 510 in
    ap (λ (k : ℕ × ℕ). body_of [] ++ (k.0 ∷ k.1 ∷ [])) e

pub sample : Sample
unfolding block_of
sample =
    ap (λ (k : ℕ × ℕ). drop 510 (body_of (97 ∷ []) ++ (k.0 ∷ k.1 ∷ []))) check_sample
    ∙ drop_at (body_of (97 ∷ [])) (98 ∷ 1 ∷ []) 510 refl
