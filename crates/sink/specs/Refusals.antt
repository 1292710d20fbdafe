-- The refusals by number.
use Rattle.std.specs.Prelude.{ℕ}
use Rattle.sink.specs.declared.fault.Refusal.{Refusal}
use Rattle.sink.specs.declared.fault.Refusal.TheVariants.{Size, Room, Damaged}

-- 1: a size outside the rule; 7: more bytes than are left, with the numbers of both; 8: no block file
abbrev pub number_of : Refusal → ℕ
number_of Size = 1
number_of (Room fault) = 7
number_of Damaged = 8
