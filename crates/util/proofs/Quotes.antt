-- Of a value between quotes, which is made byte by byte.
use Rattle.std.proofs.Common.{◌≡◌, ℕ, ◌+◌, ◌<◌, ◌≤◌, List, [], ◌∷◌, ◌++◌, length, get_or, take, drop, sym, ap, ◌∙◌, append-nil, arith, length-append}
use Rattle.std.specs.List.{flat_map}
use Rattle.std.proofs.lemmas.Grind.{flat_map-append}
use Rattle.std.proofs.lemmas.List.{take_more, take_all, take-append-drop, drop-drop}
use Rattle.util.specs.Shown.{quote_byte, quoted}

-- the bytes up to place i, as they stand between quotes
abbrev pub inner : ℕ → List ℕ → List ℕ
inner i v = flat_map quote_byte (take i v)

pub inner_more : (v : List ℕ) (i : ℕ) → i < length v → inner (i + 1) v ≡ inner i v ++ quote_byte (get_or v i 0)
inner_more v i h =
    ap (flat_map quote_byte) (take_more v i 0 h) ∙ flat_map-append quote_byte (take i v) (get_or v i 0 ∷ [])
    ∙ ap (λ (l : List ℕ). inner i v ++ l) (append-nil (quote_byte (get_or v i 0)))

pub inner_all : (v : List ℕ) (i : ℕ) → length v ≤ i → inner i v ≡ flat_map quote_byte v
inner_all v i h = ap (flat_map quote_byte) (take_all i v h)

pub length_inner : (v : List ℕ) (i : ℕ) → i < length v → length (inner (i + 1) v) ≡ length (inner i v) + length (quote_byte (get_or v i 0))
length_inner v i h = ap length (inner_more v i h) ∙ length-append (inner i v) (quote_byte (get_or v i 0))

pub length_quoted : (v : List ℕ) → length (quoted v) ≡ 2 + length (flat_map quote_byte v)
length_quoted v = omega (arith, length-append (flat_map quote_byte v) (34 ∷ []))

-- a part is no longer than the whole
pub inner_fits : (v : List ℕ) (i : ℕ) → 2 + length (inner i v) ≤ length (quoted v)
inner_fits v i =
    omega (
      arith,
      length_quoted v,
      length-append (inner i v) (flat_map quote_byte (drop i v)),
      ap length (sym (flat_map-append quote_byte (take i v) (drop i v)) ∙ ap (flat_map quote_byte) (take-append-drop i v)),
    )

-- and one byte more is not
pub byte_fits : (v : List ℕ) (i : ℕ) → i < length v → 2 + length (inner i v) + length (quote_byte (get_or v i 0)) ≤ length (quoted v)
byte_fits v i h = omega (arith, inner_fits v (i + 1), length_inner v i h)

-- memory that held `was`, of which the first `at` bytes are the text that was written
pub record Written (text was : List ℕ) (at : ℕ) (out : List ℕ) : Type 0 where
  pub place : at ≡ length text
  pub front : take at out ≡ text
  pub back : drop at out ≡ drop at was

-- some bytes q more, up to `to`
pub written_more : (text q was out after : List ℕ) (at to : ℕ) → Written text was at out
    → to ≡ at + length q → take to after ≡ take at out ++ q → drop to after ≡ drop to out → Written (text ++ q) was to after
written_more text q was out after at to w n f b =
    record {
      place = omega (arith, n, w.place, length-append text q);
      front = f ∙ ap (λ (l : List ℕ). l ++ q) w.front;
      back = b ∙ ap (λ (k : ℕ). drop k out) n ∙ sym (drop-drop (length q) at out) ∙ ap (drop (length q)) w.back ∙ drop-drop (length q) at was ∙ ap (λ (k : ℕ). drop k was) (sym n);
    }

-- the memory as a whole
pub written_all : (text was out : List ℕ) (at : ℕ) → Written text was at out → out ≡ text ++ drop (length text) was
written_all text was out at w =
    sym (take-append-drop at out) ∙ ap (λ (l : List ℕ). l ++ drop at out) w.front ∙ ap (λ (l : List ℕ). text ++ l) (w.back ∙ ap (λ (k : ℕ). drop k was) w.place)
