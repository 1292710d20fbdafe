use Rattle.std.proofs.Common.{◌≡◌, ◌++◌, map, vec_items}
use Rattle.journal.specs.Shown.{SomeLong}
use Rattle.util.specs.Packed.{items, pack, unread}
use Rattle.util.specs.Shown.{shown}
use Rattle.journal.proofs.message.shown_forms.Given as goal

abbrev pub invariant-loop-value : goal.invariant-loop-value
invariant-loop-value l =
    (vec_items l.forms ++ pack (map shown (unread l.value-iterator)) ≡ pack (map shown (items l.list))) × (SomeLong (unread l.value-iterator) → SomeLong (items l.list))
