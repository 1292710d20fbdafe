-- How a listed value is shown.
use Rattle.std.specs.Prelude.{ℕ, ◌+◌, ◌/◌, ◌%◌, Bool, true, cond, ◌&&◌, ◌||◌, List, [], ◌∷◌, ◌++◌, ◌==◌, nat_le, nat_lt}
use Rattle.std.specs.List.{flat_map, list_any}

-- blanks: 09 to 0D, and 20
abbrev pub blank : ℕ → Bool
blank b = b == 32 || (nat_le 9 b && nat_le b 13)

-- whether there is one
abbrev pub has_blank : List ℕ → Bool
has_blank v = list_any blank v

-- a value is quoted if it is empty or has a blank
abbrev pub needs_quotes : List ℕ → Bool
needs_quotes [] = true
needs_quotes (b ∷ v) = has_blank (b ∷ v)

-- a lower-case hexadecimal digit
abbrev pub hex_digit : ℕ → ℕ
hex_digit n = cond (nat_lt n 10) (48 + n) (87 + n)

-- a number below 256 in such digits, without leading zeros
abbrev pub hex : ℕ → List ℕ
hex n = cond (nat_lt n 16) (hex_digit n ∷ []) (hex_digit (n / 16) ∷ hex_digit (n % 16) ∷ [])

-- a byte between quotes: \" and \\, \t \n \r \0, \u{h} for 7F and the other bytes below 20, else itself
abbrev pub quote_byte : ℕ → List ℕ
quote_byte b =
    cond (b == 34) (92 ∷ 34 ∷ [])
    (cond (b == 92) (92 ∷ 92 ∷ [])
    (cond (b == 9) (92 ∷ 116 ∷ [])
    (cond (b == 10) (92 ∷ 110 ∷ [])
    (cond (b == 13) (92 ∷ 114 ∷ [])
    (cond (b == 0) (92 ∷ 48 ∷ [])
    (cond (nat_lt b 32 || b == 127) (92 ∷ 117 ∷ 123 ∷ (hex b ++ (125 ∷ []))) (b ∷ [])))))))

-- a value between quotes
abbrev pub quoted : List ℕ → List ℕ
quoted v = 34 ∷ (flat_map quote_byte v ++ (34 ∷ []))

-- a value as it is shown
unfoldable pub shown : List ℕ → List ℕ
shown v = cond (needs_quotes v) (quoted v) v
