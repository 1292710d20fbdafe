-- How a terminal reads bytes, after ECMA-48, as far as styles need it. A control sequence is CSI, which is ESC 5B, then parameter bytes 30 to 3F, intermediate bytes 20 to 2F and one final byte. SELECT GRAPHIC RENDITION has the final byte 6D and no intermediate byte.
use Rattle.std.specs.Prelude.{ℕ, ◌+◌, ◌-◌, ◌*◌, Bool, true, cond, ◌&&◌, List, [], ◌∷◌, ◌++◌, map, Some, ◌==◌, nat_le}
use Rattle.builder.specs.Styling.{plain_style}
use Rattle.builder.specs.declared.styling.AnsiColor.{AnsiColor}
use Rattle.builder.specs.declared.styling.AnsiColor.TheVariants.{Black, Red, Green, Yellow, Blue, Magenta, Cyan, White}
use Rattle.builder.specs.declared.styling.Style.{Style}
use Rattle.sheet.specs.Parts.{Text}

abbrev pub is_parameter : ℕ → Bool
is_parameter b = nat_le 48 b && nat_le b 63

abbrev pub is_intermediate : ℕ → Bool
is_intermediate b = nat_le 32 b && nat_le b 47

-- the display colours of parameters 30 to 37
abbrev pub display_color : ℕ → Style → Style
display_color n r =
    cond (n == 30) (in_color Black) (cond (n == 31) (in_color Red) (cond (n == 32) (in_color Green) (cond (n == 33) (in_color Yellow)
    (cond (n == 34) (in_color Blue) (cond (n == 35) (in_color Magenta) (cond (n == 36) (in_color Cyan) (cond (n == 37) (in_color White) r)))))))
  where
    in_color : AnsiColor → Style
    in_color c = record { bold = r.bold; underline = r.underline; color = Some c }

-- one parameter: 0 is the default rendition, 1 bold, 4 underlined, 30 to 37 a colour; others are not for us
abbrev pub select : Style → ℕ → Style
select r n =
    cond (n == 0) plain_style
    (cond (n == 1) (record { bold = true; underline = r.underline; color = r.color })
    (cond (n == 4) (record { bold = r.bold; underline = true; color = r.color }) (display_color n r)))

-- what the parameter bytes make of a rendition, from left to right: numbers in decimal digits, 3B between them, and none is 0. n is the number so far.
abbrev pub select_all : Style → ℕ → Text → Style
select_all r n [] = select r n
select_all r n (b ∷ bs) = cond (b == 59) (select_all (select r n) 0 bs) (select_all r (10 * n + (b - 48)) bs)

-- where a terminal stands: in text, behind ESC, in a control sequence with its parameter bytes so far, or in one that has intermediate bytes
pub data Place : Type 0 where
  in_text : Place
  behind_escape : Place
  in_parameters : Text → Place
  in_intermediates : Place

-- what was shown, each byte in its rendition; where the terminal stands then, and in which rendition
pub record Reading : Type 0 where
  pub shown : List (ℕ × Style)
  pub place : Place
  pub rendition : Style

abbrev pub shows : ℕ → Style → Reading → Reading
shows b r x = record { shown = (b, r) ∷ x.shown; place = x.place; rendition = x.rendition }

-- the bytes read one by one
abbrev pub read_from : Place → Style → Text → Reading
read_from p r [] = record { shown = []; place = p; rendition = r }
read_from in_text r (b ∷ bs) = cond (b == 27) (read_from behind_escape r bs) (shows b r (read_from in_text r bs))
read_from behind_escape r (b ∷ bs) = cond (b == 91) (read_from (in_parameters []) r bs) (read_from in_text r bs)
read_from (in_parameters ps) r (b ∷ bs) =
    cond (is_parameter b) (read_from (in_parameters (ps ++ (b ∷ []))) r bs)
    (cond (is_intermediate b) (read_from in_intermediates r bs)
    (read_from in_text (cond (b == 109) (select_all r 0 ps) r) bs))
read_from in_intermediates r (b ∷ bs) = cond (is_intermediate b) (read_from in_intermediates r bs) (read_from in_text r bs)

-- from the default rendition
abbrev pub reading : Text → Reading
reading bs = read_from in_text plain_style bs

-- a text that is shown in one rendition, after which the default one is in force
abbrev pub all_in : Style → Text → Reading
all_in r t = record { shown = map (λ b. (b, r)) t; place = in_text; rendition = plain_style }
