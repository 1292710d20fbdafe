-- The tag sheet is legible. Proofs, and nothing to know of a sheet.
use Rattle.std.specs.Prelude.{◌≡◌, ℕ, Bool, true, false, cond, [], ◌∷◌, ◌++◌, ◌==◌, refl}
use Rattle.std.proofs.Math.Option.{Option, none, some}
use Rattle.std.proofs.Common.{sym, ◌∙◌, ap, ap₂}
use Rattle.std.specs.List.{flat_map}
use Rattle.std.proofs.lemmas.List.{append_assoc}
use Rattle.std.proofs.lemmas.Bool.{eqb-true}
use Rattle.sheet.specs.Kept.{framing_joins}
use Rattle.sheet.specs.Parts.{Text, Label, error, valid, invalid, literal, given, ready, Symbol, byte, whole}
use Rattle.sheet.specs.Sheets.{Legible}
use Rattle.sheet.specs.Tag.{letter, start_mark, tag_byte, end_mark, tag}
use Rattle.sheet.specs.Codes.{Reads, Any, legible}
use Rattle.sheet.specs.Symbols.{shown_symbol}

-- the text up to 1B z; the flag says that a 1B was just read
abbrev text : Bool → Text → Text
text f [] = []
text false (b ∷ s) = cond (b == 27) (text true s) (b ∷ text false s)
text true (b ∷ s) = cond (b == 27) (27 ∷ text false s) []

text_finds : (t s : Text) → text false (flat_map tag_byte t ++ (27 ∷ 122 ∷ s)) ≡ t
text_finds [] s = refl
text_finds (b ∷ t) s = at (text_finds t s) (b == 27) refl
  where
    at : text false (flat_map tag_byte t ++ (27 ∷ 122 ∷ s)) ≡ t → (v : Bool) → (b == 27) ≡ v →
        text false ((cond v (27 ∷ 27 ∷ []) (b ∷ []) ++ flat_map tag_byte t) ++ (27 ∷ 122 ∷ s)) ≡ b ∷ t
    at ih true e = ap₂ ◌∷◌ (sym (eqb-true b 27 e)) ih
    at ih false e = rw e (ap (λ z. b ∷ z) ih)

abbrev role : ℕ → Option Label
role c =
    cond (c == 101) (some error) (cond (c == 118) (some valid) (cond (c == 105) (some invalid)
    (cond (c == 108) (some literal) (cond (c == 103) (some given) (cond (c == 114) (some ready) none)))))

abbrev after : ℕ → Text → Option (Symbol Label)
after c s = cond (c == 27) (some (byte 27)) (elim (role c) [ none ↦ none | some l ↦ some (whole l (text false s)) ])

-- the first symbol
abbrev first : Text → Option (Symbol Label)
first [] = none
first (b ∷ []) = some (byte b)
first (b ∷ c ∷ s) = cond (b == 27) (after c s) (some (byte b))

after_letter : (l : Label) (s : Text) → after (letter l) s ≡ some (whole l (text false s))
after_letter error s = refl
after_letter valid s = refl
after_letter invalid s = refl
after_letter literal s = refl
after_letter given s = refl
after_letter ready s = refl

finds_byte : (b : ℕ) (s : Text) (v : Bool) → (b == 27) ≡ v → first ((cond v (27 ∷ 27 ∷ []) (b ∷ []) ++ []) ++ s) ≡ some (byte b)
finds_byte b s true e = ap (λ z. some (byte z)) (sym (eqb-true b 27 e))
finds_byte b [] false e = refl
finds_byte b (c ∷ s) false e = rw e refl

finds : (x : Symbol Label) (s : Text) → Any x → first (shown_symbol tag x ++ s) ≡ some x
finds (byte b) s u = finds_byte b s (b == 27) refl
finds (whole l t) s u =
    after_letter l (flat_map tag_byte t ++ (27 ∷ 122 ∷ []) ++ s) ∙ ap (λ z. some (whole l (text false z))) (append_assoc (flat_map tag_byte t) (27 ∷ 122 ∷ []) s) ∙
    ap (λ z. some (whole l z)) (text_finds t s)

reads : Reads Any (shown_symbol tag)
reads = record { View = Symbol Label; view = λ x. x; same = λ x y e. ap (shown_symbol tag) e; first = first; at_end = refl; finds = finds }

pub tag_legible : Legible tag
unfolding reads
tag_legible = legible tag (framing_joins start_mark tag_byte end_mark) reads (λ x y e. e)
