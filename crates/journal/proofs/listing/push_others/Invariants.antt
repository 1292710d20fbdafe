use Rattle.std.proofs.Common.{◌≡◌, ◌++◌, vec_items}
use Rattle.journal.specs.Listing.{others}
use Rattle.util.specs.Packed.{unread}
use Rattle.journal.proofs.listing.push_others.Given as goal

abbrev pub invariant-loop-value : goal.invariant-loop-value
invariant-loop-value l = vec_items l.line ++ others (unread l.value-iterator) ≡ vec_items l.initial.line ++ others (unread l.fn.values)
