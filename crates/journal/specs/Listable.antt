-- Which values can be listed.
use Rattle.std.specs.Prelude.{◌≡◌, ℕ, ◌+◌, ◌<◌, ◌≤◌, false, List, [], ◌++◌, length, codes, slice_index_or}
use Rattle.std.specs.Fmt.{decimal}
use Rattle.journal.specs.declared.values.Unlisted.{Unlisted}
use Rattle.journal.specs.declared.values.Unlisted.TheVariants.{NoText, Long, NoMemory}
use Rattle.util.specs.Text.{is_text, IsText}

-- a value is listed if it is a text and its length has two bytes
abbrev pub Listable : List ℕ → Type 0
Listable t = IsText t × (length t ≤ 65535)

-- why a value is not, which goes by the number n; to be no text comes first, want of memory last
abbrev pub WhyNot : List ℕ → ℕ → Unlisted → Type 0
WhyNot t n (NoText m) = (m ≡ n) × (is_text t ≡ false)
WhyNot t n (Long m) = (m ≡ n) × IsText t × (65535 < length t)
WhyNot t n NoMemory = Listable t

-- the words for it
abbrev pub unlisted_text : Unlisted → List ℕ
unlisted_text (NoText n) = codes "value " ++ decimal n ++ codes " is no text"
unlisted_text (Long n) = codes "value " ++ decimal n ++ codes " has more than 65,535 bytes"
unlisted_text NoMemory = codes "no memory"

-- why values are not: the first that cannot be listed, by its number from 1 on, or want of memory
abbrev pub Fault : List (List ℕ) → Unlisted → Type 0
Fault ts e = (k : ℕ) × (k < length ts) × ((i : ℕ) → i < k → Listable (slice_index_or ts i [])) × WhyNot (slice_index_or ts k []) (k + 1) e
