-- What can be told from a terminal, where no style is plain.
use Rattle.std.proofs.Common.{◌≡◌, ℕ, ◌+◌, ◌-◌, ◌≤◌, Bool, true, false, cond, eqb, List, [], ◌∷◌, ◌++◌, map, length, Some, None, Option as Maybe, sym, refl, ap, ◌∙◌, ap₂, arith}
use mathlib.Core.Option.{Option, none, some}
use Rattle.std.specs.List.{flat_map, AllByRecursion}
use Rattle.std.proofs.lemmas.List.{append_assoc}
use Rattle.std.proofs.lemmas.Bool.{ne_eqb, cond-false}
use Rattle.builder.specs.Marks.{number_of, mark, marks, is_plain, reset, styled_text}
use Rattle.builder.specs.Roles.{style_of, standard}
use Rattle.builder.specs.Styling.{plain_style}
use Rattle.builder.specs.declared.styling.AnsiColor.{AnsiColor}
use Rattle.builder.specs.declared.styling.AnsiColor.TheVariants.{Black, Red, Green, Yellow, Blue, Magenta, Cyan, White}
use Rattle.builder.specs.declared.styling.Style.{Style}
use Rattle.builder.specs.declared.styling.StyledRole.{StyledRole}
use Rattle.builder.specs.declared.styling.StyledRole.TheVariants as role
use Rattle.builder.specs.declared.styling.Styles.{Styles}
use Rattle.util.proofs.Texts.{text_from_all}
use Rattle.sheet.specs.Kept.{terminal_joins}
use Rattle.sheet.specs.Laws.{TerminalIllegible, TerminalTells, StandardTells}
use Rattle.sheet.specs.Parts.{Text, Label, error, valid, invalid, literal, given, ready, Part, fixed, labelled, Symbol, byte, whole, symbols, relabel}
use Rattle.sheet.specs.Terminal.{style_for, terminal, Clear, Firm, Readable, NonePlain}
use Rattle.sheet.specs.Codes.{Reads, views, from_views}
use Rattle.sheet.specs.Loops.{many, many_reads}
use Rattle.sheet.specs.Symbols.{shown_symbol, showing_symbols, same_tidy}

-- fixed wording and a given text can look alike
pub terminal_illegible : TerminalIllegible
terminal_illegible s h =
    let t : Text = 97 ∷ [] in
    let word = text_from_all t (omega arith, tt) in
    let e : fixed t ∷ [] ≡ labelled given t ∷ [] = h (fixed t ∷ []) (labelled given t ∷ []) tt tt (word, tt) (word, tt) refl in
    let z : ◌≡◌ {A = ℕ} 0 1 = cc in omega arith

-- the marks of a style, one by one
data Mark : Type 0 where
  bold underline : Mark
  colour : ℕ → Mark

abbrev sgr : Mark → Text
sgr bold = mark (49 ∷ [])
sgr underline = mark (52 ∷ [])
sgr (colour n) = mark (51 ∷ (48 + n) ∷ [])

abbrev hue : Maybe AnsiColor → List Mark
hue None = []
hue (Some c) = colour (number_of c) ∷ []

abbrev marking : Style → List Mark
marking r = cond r.bold (bold ∷ []) [] ++ (cond r.underline (underline ∷ []) [] ++ hue r.color)

joined_marking : (b u : Bool) (c : Maybe AnsiColor) → flat_map sgr (marking (record { bold = b; underline = u; color = c })) ≡ marks (record { bold = b; underline = u; color = c })
joined_marking false false None = refl
joined_marking false false (Some c) = refl
joined_marking false true None = refl
joined_marking false true (Some c) = refl
joined_marking true false None = refl
joined_marking true false (Some c) = refl
joined_marking true true None = refl
joined_marking true true (Some c) = refl

marks_are : (r : Style) → marks r ≡ flat_map sgr (marking r)
marks_are r = sym (joined_marking r.bold r.underline r.color)

-- and the style of some marks
abbrev color_of : ℕ → Maybe AnsiColor
color_of n =
    cond (eqb n 0) (Some Black) (cond (eqb n 1) (Some Red) (cond (eqb n 2) (Some Green) (cond (eqb n 3) (Some Yellow)
    (cond (eqb n 4) (Some Blue) (cond (eqb n 5) (Some Magenta) (cond (eqb n 6) (Some Cyan) (Some White)))))))

color_is : (c : AnsiColor) → color_of (number_of c) ≡ Some c
color_is Black = refl
color_is Red = refl
color_is Green = refl
color_is Yellow = refl
color_is Blue = refl
color_is Magenta = refl
color_is Cyan = refl
color_is White = refl

abbrev add : Mark → Style → Style
add bold r = record { bold = true; underline = r.underline; color = r.color }
add underline r = record { bold = r.bold; underline = true; color = r.color }
add (colour n) r = record { bold = r.bold; underline = r.underline; color = color_of n }

abbrev styling : List Mark → Style
styling [] = plain_style
styling (m ∷ ms) = add m (styling ms)

styling_is : (b u : Bool) (c : Maybe AnsiColor) → styling (marking (record { bold = b; underline = u; color = c })) ≡ record { bold = b; underline = u; color = c }
styling_is false false None = refl
styling_is false false (Some c) = ap (λ o. record { bold = false; underline = false; color = o }) (color_is c)
styling_is false true None = refl
styling_is false true (Some c) = ap (λ o. record { bold = false; underline = true; color = o }) (color_is c)
styling_is true false None = refl
styling_is true false (Some c) = ap (λ o. record { bold = true; underline = false; color = o }) (color_is c)
styling_is true true None = refl
styling_is true true (Some c) = ap (λ o. record { bold = true; underline = true; color = o }) (color_is c)

marked : (b u : Bool) (c : Maybe AnsiColor) → is_plain (record { bold = b; underline = u; color = c }) ≡ false →
    (m : Mark) × ((ms : List Mark) × (marking (record { bold = b; underline = u; color = c }) ≡ m ∷ ms))
marked false false None e = let z : ◌≡◌ {A = ℕ} 0 1 = cc in absurd (omega arith)
marked false false (Some c) e = (colour (number_of c), ([], refl))
marked false true c e = (underline, (hue c, refl))
marked true u c e = (bold, (cond u (underline ∷ []) [] ++ hue c, refl))

-- one mark, and none where the reset stands
abbrev rest : Text → Text
rest [] = []
rest (x ∷ s) = s

abbrev sort : Text → Option (Mark × Text)
sort [] = none
sort (b ∷ []) = none
sort (b ∷ d ∷ []) = none
sort (b ∷ d ∷ e ∷ s) =
    cond (eqb d 49) (some (bold, s)) (cond (eqb d 52) (some (underline, s)) (cond (eqb d 51) (some (colour (e - 48), rest s)) none))

abbrev next_mark : Text → Option (Mark × Text)
next_mark [] = none
next_mark (a ∷ s) = cond (eqb a 27) (sort s) none

mark_reads : (m : Mark) (s : Text) → Unit {0} → next_mark (sgr m ++ s) ≡ some (m, s)
mark_reads bold s u = refl
mark_reads underline s u = refl
mark_reads (colour n) s u = ap (λ k. some (colour k, s)) (omega arith)

some_code : (m : Mark) → 1 ≤ length (sgr m)
some_code bold = omega arith
some_code underline = omega arith
some_code (colour n) = omega arith

text_stops : (t s : Text) → Clear t → next_mark (t ++ (reset ++ s)) ≡ none
text_stops [] s h = refl
text_stops (a ∷ t) s h = cond-false (eqb a 27) (sort (t ++ (reset ++ s))) none (ne_eqb a 27 h.0)

abbrev until : Text → Text
until [] = []
until (b ∷ s) = cond (eqb b 27) [] (b ∷ until s)

until_finds : (t s : Text) → Clear t → until (t ++ (reset ++ s)) ≡ t
until_finds [] s h = refl
until_finds (b ∷ t) s h = rw (ne_eqb b 27 h.0, until_finds t s h.1) refl

-- the first symbol, by its style
abbrev Seen : Type 0
Seen = Symbol Style

abbrev styled : List Mark × Text → Option Seen
styled r = some (whole (styling r.0) (until r.1))

abbrev first : Text → Option Seen
first [] = none
first (b ∷ s) = cond (eqb b 27) (styled (many next_mark (b ∷ s))) (some (byte b))

first_mark : (m : Mark) (s : Text) → first (sgr m ++ s) ≡ styled (many next_mark (sgr m ++ s))
first_mark bold s = refl
first_mark underline s = refl
first_mark (colour n) s = refl

marked_finds : (m : Mark) (ms : List Mark) (t s : Text) → Clear t → first ((flat_map sgr (m ∷ ms) ++ (t ++ reset)) ++ s) ≡ some (whole (styling (m ∷ ms)) t)
marked_finds m ms t s h =
    let flat : (flat_map sgr (m ∷ ms) ++ (t ++ reset)) ++ s ≡ sgr m ++ (flat_map sgr ms ++ (t ++ (reset ++ s))) = simp append_assoc in
    let back : sgr m ++ (flat_map sgr ms ++ (t ++ (reset ++ s))) ≡ flat_map sgr (m ∷ ms) ++ (t ++ (reset ++ s)) = sym (append_assoc (sgr m) (flat_map sgr ms) (t ++ (reset ++ s))) in
    ap first flat ∙ first_mark m (flat_map sgr ms ++ (t ++ (reset ++ s))) ∙ ap (λ z. styled (many next_mark z)) back ∙
    ap styled (many_reads next_mark sgr (λ z. Unit {0}) mark_reads some_code (t ++ (reset ++ s)) (text_stops t s h) (λ xs. tt) (m ∷ ms)) ∙
    ap (λ z. some (whole (styling (m ∷ ms)) z)) (until_finds t s h)

style_finds : (r : Style) (t s : Text) → is_plain r ≡ false → Clear t → first (styled_text r t ++ s) ≡ some (whole r t)
style_finds r t s p h =
    let k = marked r.bold r.underline r.color p in
    let m = k.0 in
    let ms = k.1.0 in
    let e : marking r ≡ m ∷ ms = k.1.1 in
    ap (λ z. first (z ++ s)) (cond-false (is_plain r) t (marks r ++ (t ++ reset)) p ∙ ap (λ z. z ++ (t ++ reset)) (marks_are r ∙ ap (flat_map sgr) e)) ∙
    marked_finds m ms t s h ∙ ap (λ z. some (whole z t)) (ap styling (sym e) ∙ styling_is r.bold r.underline r.color)

-- symbols that a terminal shows readably
abbrev Shown : Symbol Label → Type 0
Shown (byte b) = b ≡ 27 → ⊥
Shown (whole l t) = Firm l × Clear t

bytes_shown : (t : Text) (xs : List (Symbol Label)) → Clear t → AllByRecursion Shown xs → AllByRecursion Shown (map byte t ++ xs)
bytes_shown [] xs h k = k
bytes_shown (b ∷ t) xs h k = (h.0, bytes_shown t xs h.1 k)

all_shown : (ps : List Part) → AllByRecursion Readable ps → AllByRecursion Shown (symbols ps)
all_shown [] h = tt
all_shown (fixed t ∷ ps) h = bytes_shown t (symbols ps) h.0 (all_shown ps h.1)
all_shown (labelled l t ∷ ps) h = (h.0, all_shown ps h.1)

module _ (s : Styles) where
  same : (x y : Symbol Label) → relabel (style_for s) x ≡ relabel (style_for s) y → shown_symbol (terminal s) x ≡ shown_symbol (terminal s) y
  same (byte b) (byte c) e = let k : b ≡ c = cc in ap (λ z. z ∷ []) k
  same (byte b) (whole m u) e = let z : ◌≡◌ {A = ℕ} 0 1 = cc in absurd (omega arith)
  same (whole l t) (byte c) e = let z : ◌≡◌ {A = ℕ} 0 1 = cc in absurd (omega arith)
  same (whole l t) (whole m u) e =
      let k : style_for s l ≡ style_for s m = cc in
      let n : t ≡ u = cc in
      ap₂ styled_text k n

  firm_shown : NonePlain s → (l : Label) → Firm l → is_plain (style_for s l) ≡ false
  firm_shown k error h = k role.Error
  firm_shown k valid h = k role.Valid
  firm_shown k invalid h = k role.Invalid
  firm_shown k literal h = k role.Literal
  firm_shown k given h = absurd h
  firm_shown k ready h = absurd h

  finds : NonePlain s → (x : Symbol Label) (z : Text) → Shown x → first (shown_symbol (terminal s) x ++ z) ≡ some (relabel (style_for s) x)
  finds k (byte b) z h = cond-false (eqb b 27) (styled (many next_mark (b ∷ z))) (some (byte b)) (ne_eqb b 27 h)
  finds k (whole l t) z h = style_finds (style_for s l) t z (firm_shown k l h.0) h.1

  reads : NonePlain s → Reads Shown (shown_symbol (terminal s))
  reads k = record { View = Seen; view = relabel (style_for s); same = same; first = first; at_end = refl; finds = finds k }

pub terminal_tells : TerminalTells
unfolding reads
terminal_tells s k p q g h e =
    views Shown (shown_symbol (terminal s)) (reads s k) (symbols p) (symbols q) (all_shown p g) (all_shown q h)
    (sym (showing_symbols (terminal s) (terminal_joins s) p) ∙ e ∙ showing_symbols (terminal s) (terminal_joins s) q)

-- standard colours tell the role
abbrev by_color : Maybe AnsiColor → Label → Label → Label
by_color None x y = x
by_color (Some c) x y = y

abbrev by_green : Maybe AnsiColor → Label
by_green None = invalid
by_green (Some c) = cond (eqb (number_of c) 2) valid invalid

abbrev label : Style → Label
label r = cond r.bold (by_color r.color literal error) (by_green r.color)

label_finds : (s : Styles) → ((q : StyledRole) → style_of s q ≡ standard q) → (l : Label) → Firm l → label (style_for s l) ≡ l
label_finds s k error h = ap label (k role.Error)
label_finds s k valid h = ap label (k role.Valid)
label_finds s k invalid h = ap label (k role.Invalid)
label_finds s k literal h = ap label (k role.Literal)
label_finds s k given h = absurd h
label_finds s k ready h = absurd h

standard_shown : (q : StyledRole) → is_plain (standard q) ≡ false
standard_shown role.Error = refl
standard_shown role.Valid = refl
standard_shown role.Invalid = refl
standard_shown role.Literal = refl

apart : (s : Styles) → ((q : StyledRole) → style_of s q ≡ standard q) → (x y : Symbol Label) → Shown x → Shown y → relabel (style_for s) x ≡ relabel (style_for s) y → x ≡ y
apart s k (byte b) (byte c) g h e = cc
apart s k (byte b) (whole m u) g h e = cc
apart s k (whole l t) (byte c) g h e = cc
apart s k (whole l t) (whole m u) g h e =
    let a : style_for s l ≡ style_for s m = cc in
    let b : t ≡ u = cc in
    ap₂ whole (sym (label_finds s k l g.0) ∙ ap label a ∙ label_finds s k m h.0) b

pub standard_tells : StandardTells
standard_tells s k p q g h e =
    same_tidy p q (from_views Shown (relabel (style_for s)) (apart s k) (symbols p) (symbols q) (all_shown p g) (all_shown q h)
    (terminal_tells s (λ r. ap is_plain (k r) ∙ standard_shown r) p q g h e))
