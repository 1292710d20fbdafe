-- Laws that a reader of packed lists and shown forms may rest on.
use Rattle.std.specs.Prelude.{◌≡◌, ℕ, ◌+◌, ◌*◌, ◌<◌, ◌≤◌, List, [], ◌∷◌, ◌++◌, length, Some, ◌≢◌, slice_index}
use Rattle.std.specs.List.{AllByRecursion}
use Rattle.util.specs.Literal.{literal}
use Rattle.util.specs.Packed.{pack, unpack}
use Rattle.util.specs.Shown.{quoted, shown}
use Rattle.util.specs.Text.{IsText}

-- two texts joined are a text, and so is no byte at all
abbrev pub TextsJoin : Type 0
TextsJoin = IsText [] × ((a b : List ℕ) → IsText a → IsText b → IsText (a ++ b))

-- items that are packed are the items of the list
abbrev pub PackUnpack : Type 0
PackUnpack = (ts : List (List ℕ)) → unpack (pack ts) ≡ Some ts

-- bytes that are a packed list are their items, packed
abbrev pub UnpackPack : Type 0
UnpackPack = (bs : List ℕ) (ts : List (List ℕ)) → ((k : ℕ) → slice_index bs k < 256) → unpack bs ≡ Some ts → pack ts ≡ bs

-- a quoted form, read as a string literal, gives the value back
abbrev pub QuotedReads : Type 0
QuotedReads = (v : List ℕ) → literal (quoted v) ≡ Some v

-- a byte that is seen: no control byte, 00 to 1F or 7F
abbrev pub Printing : ℕ → Type 0
Printing b = (32 ≤ b) × (b ≢ 127)

-- a quoted form has only such bytes
abbrev pub QuotedPrints : Type 0
QuotedPrints = (v : List ℕ) → AllByRecursion Printing (quoted v)

-- a byte that neither breaks a line nor moves along it: none of 09 to 0D
abbrev pub InLine : ℕ → Type 0
InLine b = 9 ≤ b → b ≤ 13 → ⊥

-- a shown form has only such bytes
abbrev pub ShownInLine : Type 0
ShownInLine = (v : List ℕ) → AllByRecursion InLine (shown v)

-- the shown form of a text is a text
abbrev pub ShownText : Type 0
ShownText = (v : List ℕ) → IsText v → IsText (shown v)

-- it is at most six times as long, and two quotes
abbrev pub ShownBound : Type 0
ShownBound = (v : List ℕ) → length (shown v) ≤ 6 * length v + 2

-- two values may be shown alike: a tab, and the four bytes "\t" themselves
abbrev pub ShownAlike : Type 0
ShownAlike = shown (9 ∷ []) ≡ shown (34 ∷ 92 ∷ 116 ∷ 34 ∷ [])
