-- What a terminal that follows ECMA-48 shows of a text in a style.
use Rattle.std.proofs.Common.{◌≡◌, Bool, true, false, [], ◌∷◌, ◌++◌, map, Some, None, Option, refl, ap, ◌∙◌}
use Rattle.std.proofs.lemmas.Bool.{ne_eqb}
use Rattle.builder.specs.Marks.{color_mark, reset, styled_text}
use Rattle.builder.specs.Styling.{plain_style}
use Rattle.builder.specs.declared.styling.AnsiColor.{AnsiColor}
use Rattle.builder.specs.declared.styling.AnsiColor.TheVariants.{Black, Red, Green, Yellow, Blue, Magenta, Cyan, White}
use Rattle.builder.specs.declared.styling.Style.{Style}
use Rattle.sheet.specs.Ecma48.{in_text, shows, read_from, reading, all_in}
use Rattle.sheet.specs.Laws.{TerminalRenders}
use Rattle.sheet.specs.Parts.{Text}
use Rattle.sheet.specs.Terminal.{Clear, style_for}

-- a text, and nothing after it
plain_renders : (r : Style) (t : Text) → Clear t → read_from in_text r t ≡ record { shown = map (λ b. (b, r)) t; place = in_text; rendition = r }
plain_renders r [] h = refl
plain_renders r (b ∷ t) h = rw (ne_eqb b 27 h.0) (ap (shows b r) (plain_renders r t h.1))

-- a text, and a reset after it
text_renders : (r : Style) (t : Text) → Clear t → read_from in_text r (t ++ reset) ≡ all_in r t
text_renders r [] h = refl
text_renders r (b ∷ t) h = rw (ne_eqb b 27 h.0) (ap (shows b r) (text_renders r t h.1))

-- a colour's mark
color_renders : (b u : Bool) (o : Option AnsiColor) (c : AnsiColor) (s : Text) →
    read_from in_text (record { bold = b; underline = u; color = o }) (color_mark (Some c) ++ s) ≡ read_from in_text (record { bold = b; underline = u; color = Some c }) s
color_renders b u o Black s = refl
color_renders b u o Red s = refl
color_renders b u o Green s = refl
color_renders b u o Yellow s = refl
color_renders b u o Blue s = refl
color_renders b u o Magenta s = refl
color_renders b u o Cyan s = refl
color_renders b u o White s = refl

style_renders : (b u : Bool) (c : Option AnsiColor) (t : Text) → Clear t →
    reading (styled_text (record { bold = b; underline = u; color = c }) t) ≡ all_in (record { bold = b; underline = u; color = c }) t
style_renders false false None t h = plain_renders plain_style t h
style_renders false false (Some c) t h = color_renders false false None c (t ++ reset) ∙ text_renders _ t h
style_renders false true None t h = text_renders _ t h
style_renders false true (Some c) t h = color_renders false true None c (t ++ reset) ∙ text_renders _ t h
style_renders true false None t h = text_renders _ t h
style_renders true false (Some c) t h = color_renders true false None c (t ++ reset) ∙ text_renders _ t h
style_renders true true None t h = text_renders _ t h
style_renders true true (Some c) t h = color_renders true true None c (t ++ reset) ∙ text_renders _ t h

pub terminal_renders : TerminalRenders
terminal_renders s l t h = let r = style_for s l in style_renders r.bold r.underline r.color t h
