use Rattle.std.specs.List.{flat_map}
use Rattle.journal.specs.Shown.{next}
use Rattle.parts.proofs.Leads.{Leads}
use Rattle.util.specs.Packed.{unread}
use Rattle.journal.proofs.message.tell_others.Given as goal

abbrev pub invariant-loop-value : goal.invariant-loop-value
invariant-loop-value g l = Leads g.T.Taker.steps g.T.Taker.fails l.initial.to (flat_map next (unread l.fn.values)) l.to (flat_map next (unread l.value-iterator))
