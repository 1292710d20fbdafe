-- Sheets that frame their texts, and what comes of putting bytes piece by piece.
use Rattle.std.specs.Prelude.{◌≡◌, ℕ, ◌+◌, ◌<◌, ◌≤◌, List, [], ◌++◌, length, Result, MatchResult}
use Rattle.std.specs.List.{flat_map}
use Rattle.sheet.specs.Parts.{Label, Part, fixed, labelled}
use Rattle.sink.specs.Outcome.{Took}

-- every byte by its code; a labelled text has something before it and something after it
abbrev pub framing : (Label → List ℕ) → (ℕ → List ℕ) → (Label → List ℕ) → Part → List ℕ
framing before code after (fixed t) = flat_map code t
framing before code after (labelled l t) = before l ++ (flat_map code t ++ after l)

-- what stands at one end of a part: nothing where it is fixed
abbrev pub edge : (Label → List ℕ) → Part → List ℕ
edge f (fixed t) = []
edge f (labelled l t) = f l

-- a byte becomes 16 bytes at most
abbrev pub ShortCodes : {X : Type 0} → (X → ℕ → List ℕ) → Type 0
ShortCodes {X = X} coded = (x : X) (b : ℕ) → length (coded x b) ≤ 16

-- what stands around a text is at most 64 bytes long
abbrev pub ShortEdges : {X : Type 0} → (X → Label → List ℕ) → (X → Label → List ℕ) → Type 0
ShortEdges {X = X} before after = (x : X) (l : Label) → length (before x l) + length (after x l) ≤ 64

-- bytes were put piece by piece: all of them, or they are more than were left
abbrev pub Puts : {K X E : Type 0} → (K → List ℕ) → (K → ℕ) → K → List ℕ → K → Result X E → Type 0
Puts held left s bs t r = MatchResult r (λ _. Took held left s bs t) (λ _. left s < length bs)

-- Of the bytes that were to be put into the sink s, `rest` are left to put into t.
pub record Leaves {K : Type 0} (held : K → List ℕ) (left : K → ℕ) (s : K) (all : List ℕ) (t : K) (rest : List ℕ) : Type 0 where
  pub holds : held t ++ rest ≡ held s ++ all
  pub room : left t + length all ≡ left s + length rest
