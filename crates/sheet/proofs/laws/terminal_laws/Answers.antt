use Rattle.sheet.proofs.Renders.{terminal_renders}
use Rattle.sheet.proofs.Terminals.{terminal_illegible, terminal_tells, standard_tells}
use Rattle.sheet.proofs.laws.terminal_laws.Goals as goal

pub returns : goal.returns
returns c = record { renders = terminal_renders; illegible = terminal_illegible; tells = terminal_tells; standard = standard_tells }
