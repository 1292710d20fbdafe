-- Reading a string literal, with the escapes that a quoted form uses.
use Rattle.std.specs.Prelude.{ℕ, ◌+◌, ◌-◌, ◌*◌, Bool, cond, ◌&&◌, ◌||◌, List, [], ◌∷◌, Some, None, Option, ◌==◌, nat_le}
use Rattle.std.specs.Option.{option_map}

-- where a reader is: between escapes, after a backslash, after \u, or in \u{..} with the number so far
pub data Mark : Type 0 where
  plain : Mark
  escape : Mark
  opened : Mark
  digits : ℕ → Mark

-- what a letter after a backslash stands for
abbrev pub letter : ℕ → Option ℕ
letter b =
    cond (b == 34) (Some 34) (cond (b == 92) (Some 92) (cond (b == 116) (Some 9)
    (cond (b == 110) (Some 10) (cond (b == 114) (Some 13) (cond (b == 48) (Some 0) None)))))

-- lower-case hexadecimal digits
abbrev pub is_hex : ℕ → Bool
is_hex b = (nat_le 48 b && nat_le b 57) || (nat_le 97 b && nat_le b 102)

-- the value of such a digit
abbrev pub hex_value : ℕ → ℕ
hex_value b = cond (nat_le b 57) (b - 48) (b - 87)

-- a byte in front of what is read after it
abbrev pub ahead : Option ℕ → Option (List ℕ) → Option (List ℕ)
ahead None r = None
ahead (Some b) r = option_map (λ v. b ∷ v) r

-- nothing follows the closing quote
abbrev pub closing : List ℕ → Option (List ℕ)
closing [] = Some []
closing (b ∷ bs) = None

-- the value of what follows the opening quote
abbrev pub read_from : Mark → List ℕ → Option (List ℕ)
read_from plain [] = None
read_from plain (b ∷ bs) = cond (b == 34) (closing bs) (cond (b == 92) (read_from escape bs) (ahead (Some b) (read_from plain bs)))
read_from escape [] = None
read_from escape (b ∷ bs) = cond (b == 117) (read_from opened bs) (ahead (letter b) (read_from plain bs))
read_from opened [] = None
read_from opened (b ∷ bs) = cond (b == 123) (read_from (digits 0) bs) None
read_from (digits n) [] = None
read_from (digits n) (b ∷ bs) = cond (b == 125) (ahead (Some n) (read_from plain bs)) (cond (is_hex b) (read_from (digits (16 * n + hex_value b)) bs) None)

-- the value of a literal, if it is one
abbrev pub literal : List ℕ → Option (List ℕ)
literal [] = None
literal (b ∷ bs) = cond (b == 34) (read_from plain bs) None
