use Rattle.sheet.specs.Symbols.{tidy_tidies, tidy_says, tidy_shows}
use Rattle.sheet.proofs.laws.part_laws.Goals as goal

pub returns : goal.returns
returns c = record { tidies = tidy_tidies; says = tidy_says; shows = tidy_shows }
