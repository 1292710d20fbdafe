use Rattle.std.proofs.Common.{◌≡◌, ◌+◌, [], length, take}
use Rattle.std.specs.List.{flat_map}
use Rattle.sheet.specs.Frames.{edge}
use Rattle.sheet.specs.Roles.{part_of}
use Rattle.sheet.proofs.markup.AnySheet.measure.Given as goal

abbrev pub invariant-loop-b : goal.invariant-loop-b
invariant-loop-b g l =
    l.total ≡ length (edge (g.M.Markup.before l.self) (part_of l.part.role [])) + length (flat_map (g.M.Markup.coded l.self) (take l.b-index l.part.text.now))
