use Rattle.std.proofs.Common.{drop}
use Rattle.parts.specs.Told.{parts_of}
use Rattle.parts.proofs.Leads.{Leads}
use Rattle.parts.proofs.say.Given as goal

abbrev pub invariant-loop-part : goal.invariant-loop-part
invariant-loop-part g l = Leads g.T.Taker.steps g.T.Taker.fails l.initial.to (parts_of l.parts) l.to (parts_of (drop l.part-index l.parts))
