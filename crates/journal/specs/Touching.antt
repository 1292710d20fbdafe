-- Which blocks of a record a put touches, and what seals a block.
use Rattle.std.specs.Prelude.{◌≡◌, ℕ, ◌+◌, ◌*◌, cond, List, [], ◌∷◌, ◌==◌, slice_index}
use Rattle.journal.specs.declared.record.Touched.{Touched}
use Rattle.sink.specs.Layout.{full, used}

-- from the first block that was not full to the last that is used; where nothing is put, none
pub record Touches (held more : ℕ) (t : Touched) : Type 0 where
  pub from : t.from ≡ full held
  pub to : t.to ≡ cond (more == 0) (full held) (used (held + more))

-- bytes 508 to 511 of the block: its count and its check
abbrev pub seal_at : List ℕ → ℕ → List ℕ
seal_at bs n = slice_index bs (512 * n + 508) ∷ slice_index bs (512 * n + 509) ∷ slice_index bs (512 * n + 510) ∷ slice_index bs (512 * n + 511) ∷ []
