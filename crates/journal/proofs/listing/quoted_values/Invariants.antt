use Rattle.std.proofs.Common.{◌≡◌, ◌+◌, ◌++◌, vec_items}
use Rattle.std.specs.Iterator.Adapters.{enumerate_source, enumerate_count}
use Rattle.journal.specs.Numbered.{quoted_from}
use Rattle.util.specs.Packed.{items, unread}
use Rattle.journal.proofs.listing.quoted_values.Given as goal

abbrev pub invariant-loop-i : goal.invariant-loop-i
invariant-loop-i l = vec_items l.quoted ++ quoted_from (enumerate_count l.i-iterator + 1) (unread (enumerate_source l.i-iterator)) ≡ quoted_from 1 (items l.list)
