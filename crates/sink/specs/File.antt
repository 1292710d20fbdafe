-- What a block file means.
use Rattle.std.specs.Prelude.{◌≡◌, ℕ, ◌-◌, ◌*◌, ◌/◌, List, take, drop, vec_items, vec_len}
use Rattle.sink.specs.Layout.{texts}
use Rattle.sink.specs.declared.block_file.BlockFile.{BlockFile}

-- how many blocks it has
abbrev pub file_blocks : BlockFile → ℕ
file_blocks f = vec_len f.bytes / 512

-- the bytes held: the first of the places for text
abbrev pub file_held : BlockFile → List ℕ
file_held f = take f.held (texts (file_blocks f) (vec_items f.bytes))

-- how many are left: 508 for each block, less those held
abbrev pub file_left : BlockFile → ℕ
file_left f = 508 * file_blocks f - f.held

-- The blocks before `from` and those from `to` on are as they were.
pub record Kept (from to : ℕ) (old new : List ℕ) : Type 0 where
  pub before : take (512 * from) new ≡ take (512 * from) old
  pub after : drop (512 * to) new ≡ drop (512 * to) old
