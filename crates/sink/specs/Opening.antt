-- When bytes are a block file.
use Rattle.std.specs.Prelude.{◌≡◌, ℕ, ◌*◌, ◌≤◌, List, length}
use Rattle.sink.specs.Layout.{encode}
use Rattle.sink.specs.declared.fault.Refusal.{Refusal}
use Rattle.sink.specs.declared.fault.Refusal.TheVariants.{Size, Room, Damaged}

-- the bytes are n blocks, 1 to 2,048
pub record Blocks (bs : List ℕ) (n : ℕ) : Type 0 where
  pub some : 1 ≤ n
  pub few : n ≤ 2048
  pub size : length bs ≡ 512 * n

-- the bytes are n blocks that hold the text
pub record Holds (bs : List ℕ) (n : ℕ) (t : List ℕ) : Type 0 where
  pub blocks : Blocks bs n
  pub fits : length t ≤ 508 * n
  pub is : bs ≡ encode n t

-- bytes hold one text at most
abbrev pub OneText : List ℕ → Type 0
OneText bs = (m n : ℕ) (t u : List ℕ) → Holds bs m t → Holds bs n u → (m ≡ n) × (t ≡ u)

-- why bytes are not opened: they are no number of blocks in the rule, or the blocks hold no text
abbrev pub Why : List ℕ → Refusal → Type 0
Why bs Size = (n : ℕ) → Blocks bs n → ⊥
Why bs (Room fault) = ⊥
Why bs Damaged = (n : ℕ) × Blocks bs n × ((t : List ℕ) → Holds bs n t → ⊥)
