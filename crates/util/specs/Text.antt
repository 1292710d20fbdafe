-- Text.
use Rattle.std.specs.Prelude.{◌≡◌, ℕ, Bool, true, List, nat_le}
use Rattle.std.specs.List.{list_all}

-- whether bytes are a text: each is 00 to 7F
unfoldable pub is_text : List ℕ → Bool
is_text bs = list_all (λ b. nat_le b 127) bs

-- the bytes are a text
abbrev pub IsText : List ℕ → Type 0
IsText bs = is_text bs ≡ true
