-- What a byte area means.
use Rattle.std.specs.Prelude.{ℕ, ◌-◌, List, take, vec_items, vec_len}
use Rattle.sink.specs.declared.byte_area.ByteArea.{ByteArea}

-- the bytes held: the first of its memory
abbrev pub area_held : ByteArea → List ℕ
area_held a = take a.fill.held (vec_items a.bytes)

-- how many are left
abbrev pub area_left : ByteArea → ℕ
area_left a = vec_len a.bytes - a.fill.held
