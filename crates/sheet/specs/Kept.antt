-- That sheets keep the rules of a sheet: what their ghost items cite. Proofs, and nothing to know of a sheet.
use Rattle.std.specs.Prelude.{◌≡◌, ℕ, ◌+◌, ◌*◌, ◌≤◌, Bool, true, false, cond, List, [], ◌∷◌, ◌++◌, length, Some, None, Option, ◌==◌, refl}
use Rattle.std.proofs.Common.{arith, length-append}
use Rattle.std.specs.List.{flat_map}
use Rattle.std.proofs.lemmas.Grind.{flat_map-append}
use Rattle.sheet.specs.Frames.{framing}
use Rattle.sheet.specs.Page.{control, element, start_tag, page_byte, end_tag, page}
use Rattle.sheet.specs.Parts.{Text, Label, error, valid, invalid, literal, given, ready, Part, fixed, labelled, text_of}
use Rattle.sheet.specs.Tag.{start_mark, tag_byte, end_mark, tag}
use Rattle.sheet.specs.Terminal.{style_in, terminal}
use Rattle.builder.specs.Marks.{mark, color_mark, marks, is_plain, reset}
use Rattle.builder.specs.declared.styling.AnsiColor.{AnsiColor}
use Rattle.builder.specs.declared.styling.Style.{Style}
use Rattle.builder.specs.declared.styling.Styles.{Styles}

-- of every sheet that frames its texts
pub framing_joins : (before : Label → List ℕ) (code : ℕ → List ℕ) (after : Label → List ℕ) (a b : Text) →
    framing before code after (fixed (a ++ b)) ≡ framing before code after (fixed a) ++ framing before code after (fixed b)
framing_joins before code after a b = flat_map-append code a b

coded_bounded : (code : ℕ → List ℕ) → ((b : ℕ) → length (code b) ≤ 16) → (t : Text) → length (flat_map code t) ≤ 16 * length t
coded_bounded code h [] = omega arith
coded_bounded code h (b ∷ t) = omega (arith, h b, coded_bounded code h t, length-append (code b) (flat_map code t))

pub framing_bounded : (before : Label → List ℕ) (code : ℕ → List ℕ) (after : Label → List ℕ) →
    ((b : ℕ) → length (code b) ≤ 16) → ((l : Label) → length (before l) + length (after l) ≤ 64) →
    (p : Part) → length (framing before code after p) ≤ 16 * length (text_of p) + 64
framing_bounded before code after h k (fixed t) = omega (arith, coded_bounded code h t)
framing_bounded before code after h k (labelled l t) =
    omega (arith, k l, coded_bounded code h t, length-append (before l) (flat_map code t ++ after l), length-append (flat_map code t) (after l))

-- one of two codes
either_bounded : (v : Bool) (x y : List ℕ) → length x ≤ 16 → length y ≤ 16 → length (cond v x y) ≤ 16
either_bounded true x y g h = g
either_bounded false x y g h = h

-- the tag sheet
pub tag_byte_short : (b : ℕ) → length (tag_byte b) ≤ 16
tag_byte_short b = either_bounded (b == 27) _ _ (omega arith) (omega arith)

pub tag_edges : (l : Label) → length (start_mark l) + length (end_mark l) ≤ 64
tag_edges l = omega arith

pub tag_joins : (a b : Text) → tag (fixed (a ++ b)) ≡ tag (fixed a) ++ tag (fixed b)
tag_joins a b = framing_joins start_mark tag_byte end_mark a b

pub tag_bounded : (p : Part) → length (tag p) ≤ 16 * length (text_of p) + 64
tag_bounded p = framing_bounded start_mark tag_byte end_mark tag_byte_short tag_edges p

-- the page sheet
pub page_edges : (l : Label) → length (start_tag (element l)) + length (end_tag (element l)) ≤ 64
page_edges error = omega arith
page_edges valid = omega arith
page_edges invalid = omega arith
page_edges literal = omega arith
page_edges given = omega arith
page_edges ready = omega arith

pub page_byte_short : (b : ℕ) → length (page_byte b) ≤ 16
page_byte_short b =
    either_bounded (b == 38) _ _ (omega arith) (either_bounded (b == 60) _ _ (omega arith)
    (either_bounded (b == 62) _ _ (omega arith) (either_bounded (control b) _ _ (omega arith) (omega arith))))

pub page_joins : (a b : Text) → page (fixed (a ++ b)) ≡ page (fixed a) ++ page (fixed b)
page_joins a b = framing_joins (λ l. start_tag (element l)) page_byte (λ l. end_tag (element l)) a b

pub page_bounded : (p : Part) → length (page p) ≤ 16 * length (text_of p) + 64
page_bounded p = framing_bounded (λ l. start_tag (element l)) page_byte (λ l. end_tag (element l)) page_byte_short page_edges p

-- the terminal sheet: a style has three marks at most
pub terminal_joins : (s : Styles) (a b : Text) → terminal s (fixed (a ++ b)) ≡ terminal s (fixed a) ++ terminal s (fixed b)
terminal_joins s a b = refl

either_short : (v : Bool) (x : List ℕ) → length x ≤ 4 → length (cond v x []) ≤ 4
either_short true x h = h
either_short false x h = omega arith

color_short : (c : Option AnsiColor) → length (color_mark c) ≤ 5
color_short None = omega arith
color_short (Some c) = omega arith

marks_short : (s : Style) → length (marks s) ≤ 13
marks_short s =
    let b = cond s.bold (mark (49 ∷ [])) [] in
    let u = cond s.underline (mark (52 ∷ [])) [] in
    omega (
      arith,
      either_short s.bold (mark (49 ∷ [])) (omega arith),
      either_short s.underline (mark (52 ∷ [])) (omega arith),
      color_short s.color,
      length-append b (u ++ color_mark s.color),
      length-append u (color_mark s.color),
    )

styled_bounded : (s : Style) (t : Text) (v : Bool) → length (cond v t (marks s ++ (t ++ reset))) ≤ 16 * length t + 64
styled_bounded s t true = omega arith
styled_bounded s t false = omega (arith, marks_short s, length-append (marks s) (t ++ reset), length-append t reset)

pub terminal_bounded : (s : Styles) (p : Part) → length (terminal s p) ≤ 16 * length (text_of p) + 64
terminal_bounded s p = styled_bounded (style_in s p) (text_of p) (is_plain (style_in s p))
