-- What ready text in lent memory means.
use Rattle.std.specs.Prelude.{◌≡◌, ℕ, ◌-◌, ◌≤◌, List, length, take, drop}
use Rattle.builder.specs.declared.styled_str.StyledStr.{StyledStr}

-- the text so far: the first of its memory
abbrev pub text_of : StyledStr → List ℕ
text_of s = take s.len s.bytes.now

-- how many bytes are left
abbrev pub room_of : StyledStr → ℕ
room_of s = length s.bytes.now - s.len

-- the text s' is no shorter than s, in the same memory, which behind it holds what it held
pub record Stays (s s' : StyledStr) : Type 0 where
  pub longer : s.len ≤ s'.len
  pub memory : s'.bytes.ghost_name ≡ s.bytes.ghost_name
  pub size : length s'.bytes.now ≡ length s.bytes.now
  pub behind : drop s'.len s'.bytes.now ≡ drop s'.len s.bytes.now
