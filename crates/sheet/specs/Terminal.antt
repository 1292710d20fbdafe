-- The terminal sheet: the four styled roles stand in their styles, everything else as it is.
use Rattle.std.specs.Prelude.{◌≡◌, ℕ, false, List, ◌≢◌}
use Rattle.std.specs.List.{AllByRecursion}
use Rattle.builder.specs.Marks.{is_plain, styled_text}
use Rattle.builder.specs.Roles.{style_of}
use Rattle.builder.specs.Styling.{plain_style}
use Rattle.builder.specs.declared.styling.Style.{Style}
use Rattle.builder.specs.declared.styling.StyledRole.{StyledRole}
use Rattle.builder.specs.declared.styling.StyledRole.TheVariants.{Error, Valid, Invalid, Literal}
use Rattle.builder.specs.declared.styling.Styles.{Styles}
use Rattle.sheet.specs.Parts.{Text, Label, error, valid, invalid, literal, given, ready, Part, fixed, labelled, text_of}

-- given and ready texts have no style
abbrev pub style_for : Styles → Label → Style
style_for s error = style_of s Error
style_for s valid = style_of s Valid
style_for s invalid = style_of s Invalid
style_for s literal = style_of s Literal
style_for s given = plain_style
style_for s ready = plain_style

-- a part's style; fixed wording has none
abbrev pub style_in : Styles → Part → Style
style_in s (fixed t) = plain_style
style_in s (labelled l t) = style_for s l

abbrev pub terminal : Styles → Part → List ℕ
terminal s p = styled_text (style_in s p) (text_of p)

-- no byte of a text is 1B
abbrev pub Clear : Text → Type 0
Clear t = AllByRecursion (λ b. b ≢ 27) t

-- loose text: given and ready
abbrev pub Firm : Label → Type 0
Firm error = Unit {0}
Firm valid = Unit {0}
Firm invalid = Unit {0}
Firm literal = Unit {0}
Firm given = ⊥
Firm ready = ⊥

-- what a terminal can show readably: no loose text, and no byte 1B
abbrev pub Readable : Part → Type 0
Readable (fixed t) = Clear t
Readable (labelled l t) = Firm l × Clear t

-- none of the four styles is plain
abbrev pub NonePlain : Styles → Type 0
NonePlain s = (q : StyledRole) → is_plain (style_of s q) ≡ false
