-- Facts about block files that their reader may want to know.
use Rattle.std.specs.Prelude.{◌≡◌, ℕ, ◌*◌, [], ◌∷◌, drop, replicate}
use Rattle.sink.specs.Layout.{block_of, encode}

-- a block that holds the byte 61 has the check 62 01 (hexadecimal)
abbrev pub Sample : Type 0
Sample = drop 510 (block_of (97 ∷ [])) ≡ 98 ∷ 1 ∷ []

-- all zeros are an empty file
abbrev pub ZerosEmpty : Type 0
ZerosEmpty = (n : ℕ) → encode n [] ≡ replicate (512 * n) 0
