-- How a text lies in blocks of 512 bytes.
use Rattle.std.specs.Prelude.{ℕ, zero, suc, ◌+◌, ◌-◌, ◌/◌, ◌%◌, List, [], ◌∷◌, ◌++◌, length, take, drop, replicate}
use Rattle.sink.specs.Check.{check}

-- bytes 0 to 509: the text, zeros up to byte 508, and the text's length, high byte first
abbrev pub body_of : List ℕ → List ℕ
body_of t = t ++ (replicate (508 - length t) 0 ++ (length t / 256 ∷ length t % 256 ∷ []))

-- the block that holds a text of at most 508 bytes: bytes 510 and 511 are the check of those before
unfoldable pub block_of : List ℕ → List ℕ
block_of t = body_of t ++ ((check (body_of t)).0 ∷ (check (body_of t)).1 ∷ [])

-- n blocks that hold a text, each filled before the next is used
unfoldable pub encode : ℕ → List ℕ → List ℕ
encode zero t = []
encode (suc n) t = block_of (take 508 t) ++ encode n (drop 508 t)

-- the places for text in n blocks, joined
unfoldable pub texts : ℕ → List ℕ → List ℕ
texts zero bs = []
texts (suc n) bs = take 508 bs ++ texts n (drop 512 bs)

-- how many blocks a text of so many bytes fills
abbrev pub full : ℕ → ℕ
full held = held / 508

-- how many blocks it uses
abbrev pub used : ℕ → ℕ
used held = (held + 507) / 508
