-- The marks of a style.
use Rattle.std.specs.Prelude.{ℕ, ◌+◌, Bool, cond, not, ◌&&◌, List, [], ◌∷◌, ◌++◌, is_some, Some, None, Option}
use Rattle.builder.specs.declared.styling.AnsiColor.{AnsiColor}
use Rattle.builder.specs.declared.styling.AnsiColor.TheVariants.{Black, Red, Green, Yellow, Blue, Magenta, Cyan, White}
use Rattle.builder.specs.declared.styling.Style.{Style}

-- a colour's number, 0 to 7
abbrev pub number_of : AnsiColor → ℕ
number_of Black = 0
number_of Red = 1
number_of Green = 2
number_of Yellow = 3
number_of Blue = 4
number_of Magenta = 5
number_of Cyan = 6
number_of White = 7

-- a mark with the number that the digits spell: 1B 5B n 6D
abbrev pub mark : List ℕ → List ℕ
mark n = 27 ∷ 91 ∷ (n ++ (109 ∷ []))

-- the mark of a colour, 30 to 37, or none
abbrev pub color_mark : Option AnsiColor → List ℕ
color_mark None = []
color_mark (Some c) = mark (51 ∷ (48 + number_of c) ∷ [])

-- 1 for bold, then 4 for underline, then 30 to 37 for the colour
abbrev pub marks : Style → List ℕ
marks s = cond s.bold (mark (49 ∷ [])) [] ++ (cond s.underline (mark (52 ∷ [])) [] ++ color_mark s.color)

-- a style without a mark
abbrev pub is_plain : Style → Bool
is_plain s = not s.bold && (not s.underline && not (is_some s.color))

-- what ends the style
abbrev pub reset : List ℕ
reset = mark (48 ∷ [])

-- a text in a style: its marks before it and a reset after it, unless the style is plain
abbrev pub styled_text : Style → List ℕ → List ℕ
styled_text s t = cond (is_plain s) t (marks s ++ (t ++ reset))
