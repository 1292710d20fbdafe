-- Pages are legible, under any six element names that they may have. Proofs, and nothing to know of a sheet.
use Rattle.std.specs.Prelude.{◌≡◌, ℕ, ◌+◌, ◌-◌, ◌*◌, ◌/◌, ◌%◌, ◌<◌, ◌≤◌, Bool, true, false, cond, not, ◌&&◌, [], ◌∷◌, ◌++◌, length, drop, codes, ◌==◌, ◌≢◌, nat_eq, nat_lt, slice_index, refl}
use Rattle.std.proofs.Common.{⊎_elim, sym, ◌∙◌, ap, ap₂, arith}
use Rattle.std.proofs.Math.Option.{Option, none, some, some-injective}
use Rattle.std.specs.List.{flat_map, AllByRecursion}
use Rattle.std.proofs.lemmas.List.{append_assoc, append-nil}
use Rattle.std.proofs.lemmas.Bool.{eqb-true, ltb-true, ltb-false, lt-ltb, le-ltb, ne_eqb, or_cases, and_parts, cond-true, cond-false}
use Rattle.util.specs.Shown.{hex_digit}
use Rattle.std.proofs.lemmas.Grind.{flat_map-append}
use Rattle.sheet.specs.Laws.{PagesLegible, PageElements}
use Rattle.sheet.specs.Page.{control, page_byte, page_by, Elements, element, page}
use Rattle.sheet.specs.Parts.{Text, Label, error, valid, invalid, literal, given, ready, labelled, Symbol, byte, whole}
use Rattle.sheet.specs.Sheets.{Legible}
use Rattle.sheet.specs.Codes.{Reads, Any, legible}
use Rattle.sheet.specs.Loops.{many, many_reads}
use Rattle.sheet.specs.Symbols.{shown_symbol}

-- two digits
unhex : ℕ → ℕ
unhex d = cond (nat_lt d 58) (d - 48) (d - 87)

unhex_digit : (n : ℕ) → n < 16 → unhex (hex_digit n) ≡ n
unfolding unhex
unhex_digit n h = at (nat_lt n 10) refl
  where
    at : (v : Bool) → nat_lt n 10 ≡ v → unhex (cond v (48 + n) (87 + n)) ≡ n
    at true e =
        let l : n < 10 = ltb-true n 10 e in
        cond-true (nat_lt (48 + n) 58) (48 + n - 48) (48 + n - 87) (lt-ltb (48 + n) 58 (omega arith)) ∙ omega arith
    at false e =
        let l : 10 ≤ n = ltb-false n 10 e in
        cond-false (nat_lt (87 + n) 58) (87 + n - 48) (87 + n - 87) (le-ltb (87 + n) 58 (omega arith)) ∙ omega arith

control_small : (b : ℕ) → control b ≡ true → b < 128
control_small b e =
    ⊎_elim (λ f. let q : b ≡ 127 = eqb-true b 127 f in omega arith)
    (λ f. let q : b < 32 = ltb-true b 32 (and_parts (nat_lt b 32) (not (b == 10)) f).0 in omega arith)
    (or_cases (b == 127) (nat_lt b 32 && not (b == 10)) e)

two_digits : (b : ℕ) → b < 128 → 16 * unhex (hex_digit (b / 16)) + unhex (hex_digit (b % 16)) ≡ b
two_digits b h = rw (unhex_digit (b / 16) (omega arith), unhex_digit (b % 16) (omega arith)) (omega arith)

-- one byte of a text
abbrev entity : Text → Option (ℕ × Text)
entity [] = none
entity (c ∷ s) = cond (c == 97) (some (38, drop 3 s)) (cond (c == 108) (some (60, drop 2 s)) (some (62, drop 2 s)))

abbrev digits : Text → Option (ℕ × Text)
digits [] = none
digits (g ∷ []) = none
digits (g ∷ h ∷ s) = some (16 * unhex g + unhex h, drop 4 s)

abbrev inner : Text → Option (ℕ × Text)
inner [] = none
inner (d ∷ s) = cond (d == 62) (digits s) none

abbrev struck : Text → Option (ℕ × Text)
struck [] = none
struck (c ∷ s) = cond (c == 115) (inner s) none

abbrev next_byte : Text → Option (ℕ × Text)
next_byte [] = none
next_byte (b ∷ s) = cond (b == 38) (entity s) (cond (b == 60) (struck s) (some (b, s)))

abbrev spelt : ℕ → Text
spelt b = codes "<s>" ++ (hex_digit (b / 16) ∷ hex_digit (b % 16) ∷ codes "</s>")

byte_reads : (b : ℕ) (s : Text) → next_byte (page_byte b ++ s) ≡ some (b, s)
byte_reads b s = at_amp (b == 38) refl
  where
    at_plain : nat_eq b 38 ≡ false → (b == 60) ≡ false → (v : Bool) → control b ≡ v → next_byte (cond v (spelt b) (b ∷ []) ++ s) ≡ some (b, s)
    at_plain p q true e = ap (λ n. some (n, s)) (two_digits b (control_small b e))
    at_plain p q false e = rw (p, q) refl

    at_gt : nat_eq b 38 ≡ false → (b == 60) ≡ false → (v : Bool) → (b == 62) ≡ v →
        next_byte (cond v (codes "&gt;") (cond (control b) (spelt b) (b ∷ [])) ++ s) ≡ some (b, s)
    at_gt p q true e = ap (λ n. some (n, s)) (sym (eqb-true b 62 e))
    at_gt p q false e = at_plain p q (control b) refl

    at_lt : nat_eq b 38 ≡ false → (v : Bool) → (b == 60) ≡ v →
        next_byte (cond v (codes "&lt;") (cond (b == 62) (codes "&gt;") (cond (control b) (spelt b) (b ∷ []))) ++ s) ≡ some (b, s)
    at_lt p true e = ap (λ n. some (n, s)) (sym (eqb-true b 60 e))
    at_lt p false e = at_gt p e (b == 62) refl

    at_amp : (v : Bool) → (b == 38) ≡ v →
        next_byte (cond v (codes "&amp;") (cond (b == 60) (codes "&lt;") (cond (b == 62) (codes "&gt;") (cond (control b) (spelt b) (b ∷ [])))) ++ s) ≡ some (b, s)
    at_amp true e = ap (λ n. some (n, s)) (sym (eqb-true b 38 e))
    at_amp false e = at_lt e (b == 60) refl

long : (v : Bool) (x y : Text) → 1 ≤ length x → 1 ≤ length y → 1 ≤ length (cond v x y)
long true x y g h = g
long false x y g h = h

some_code : (b : ℕ) → 1 ≤ length (page_byte b)
some_code b = long (b == 38) _ _ (omega arith) (long (b == 60) _ _ (omega arith) (long (b == 62) _ _ (omega arith) (long (control b) _ _ (omega arith) (omega arith))))

text_reads : (t s : Text) → many next_byte (flat_map page_byte t ++ (60 ∷ 47 ∷ s)) ≡ (t, 60 ∷ 47 ∷ s)
text_reads t s = many_reads next_byte page_byte (λ z. Unit {0}) (λ b z u. byte_reads b z) some_code (60 ∷ 47 ∷ s) refl (λ xs. tt) t

-- an element's name
abbrev Letter : ℕ → Type 0
Letter c = (97 ≤ c) × (c ≤ 122)

abbrev upto : Text → Text × Text
upto [] = ([], [])
upto (c ∷ s) = cond (c == 62) ([], s) (c ∷ (upto s).0, (upto s).1)

upto_finds : (n s : Text) → AllByRecursion Letter n → upto (n ++ (62 ∷ s)) ≡ (n, s)
upto_finds [] s h = refl
upto_finds (c ∷ n) s h =
    let l : 97 ≤ c = h.0.0 in
    rw (ne_eqb c 62 (λ e. omega arith), upto_finds n s h.1) refl

cond_same : {X : Type 0} (v : Bool) (x : X) → cond v x x ≡ x
cond_same true x = refl
cond_same false x = refl

no_byte : (n s : Text) → AllByRecursion Letter n → (n ≢ codes "s") → next_byte (60 ∷ (n ++ (62 ∷ s))) ≡ none
no_byte [] s h k = refl
no_byte (c ∷ []) s h k = cond-false (c == 115) (digits s) none (ne_eqb c 115 (λ e. k (ap (λ z. z ∷ []) e)))
no_byte (c ∷ d ∷ n) s h k =
    let l : 97 ≤ d = h.1.0.0 in
    rw (ne_eqb d 62 (λ e. omega arith)) (cond_same (c == 115) none)

-- a symbol as a page has it: a label is its element's name
abbrev Raw : Type 0
Raw = Symbol Text

abbrev element_of : Text → Option Raw
element_of [] = none
element_of (b ∷ s) = some (whole (upto s).0 (many next_byte (upto s).1).0)

abbrev raw : Text → Option (ℕ × Text) → Option Raw
raw s (some p) = some (byte p.0)
raw s none = element_of s

abbrev first : Text → Option Raw
first s = raw s (next_byte s)

module _ (name : Label → Text) (good : Elements name) where
  abbrev view : Symbol Label → Raw
  view (byte b) = byte b
  view (whole l t) = whole (name l) t

  apart : (x y : Symbol Label) → view x ≡ view y → x ≡ y
  apart (byte b) (byte c) e = cc
  apart (byte b) (whole m u) e = cc
  apart (whole l t) (byte c) e = cc
  apart (whole l t) (whole m u) e =
      let n : name l ≡ name m = cc in
      let k : t ≡ u = cc in
      ap₂ whole (good.differ l m n) k

  finds : (x : Symbol Label) (s : Text) → Any x → first (shown_symbol (page_by name) x ++ s) ≡ some (view x)
  finds (byte b) s u = ap (λ z. first (z ++ s)) (append-nil (page_byte b)) ∙ ap (raw (page_byte b ++ s)) (byte_reads b s)
  finds (whole l t) s u =
      let rest : Text = flat_map page_byte t ++ (60 ∷ 47 ∷ (name l ++ (62 ∷ s))) in
      let flat : page_by name (labelled l t) ++ s ≡ 60 ∷ (name l ++ (62 ∷ rest)) = simp append_assoc in
      ap first flat ∙
      ap (raw (60 ∷ (name l ++ (62 ∷ rest)))) (no_byte (name l) rest (good.letters l) (good.none_is_s l)) ∙
      ap (λ (p : Text × Text). some (whole p.0 (many next_byte p.1).0)) (upto_finds (name l) rest (good.letters l)) ∙
      ap (λ (p : Text × Text). some (whole (name l) p.0)) (text_reads t (name l ++ (62 ∷ s)))

  reads : Reads Any (shown_symbol (page_by name))
  reads = record { View = Raw; view = view; same = λ x y e. ap (shown_symbol (page_by name)) (apart x y e); first = first; at_end = refl; finds = finds }

pub pages_legible : PagesLegible
unfolding reads
pages_legible name good = legible (page_by name) (λ a b. flat_map-append page_byte a b) (reads name good) (apart name good)

-- the page sheet's own names
label : Text → Option Label
label [] = none
label (c ∷ s) =
    cond (c == 98) (some error) (cond (c == 105) (some valid) (cond (c == 117) (some invalid)
    (cond (c == 107) (some literal) (cond (c == 113) (some given) (some ready)))))

label_finds : (l : Label) → label (element l) ≡ some l
unfolding label
label_finds error = refl
label_finds valid = refl
label_finds invalid = refl
label_finds literal = refl
label_finds given = refl
label_finds ready = refl

letters : (l : Label) → AllByRecursion Letter (element l)
letters error = omega arith
letters valid = omega arith
letters invalid = omega arith
letters literal = omega arith
letters given = omega arith
letters ready = omega arith

not_s : (l : Label) → length (element l) ≡ 1 → slice_index (element l) 0 ≢ 115
not_s error h w = omega arith
not_s valid h w = omega arith
not_s invalid h w = omega arith
not_s literal h w = omega arith
not_s given h w = omega arith
not_s ready h w = omega arith

not_empty : (l : Label) → length (element l) ≢ 0
not_empty error h = omega arith
not_empty valid h = omega arith
not_empty invalid h = omega arith
not_empty literal h = omega arith
not_empty given h = omega arith
not_empty ready h = omega arith

pub page_elements : PageElements
page_elements = record {
  letters = letters;
  not_empty = λ l e. not_empty l (ap length e);
  none_is_s = λ l e. not_s l (ap length e) (ap (λ z. slice_index z 0) e);
  differ = λ l m e. some-injective l m (sym (label_finds l) ∙ ap label e ∙ label_finds m);
}

pub page_legible : Legible page
page_legible = pages_legible element page_elements
