use Rattle.sheet.specs.Pages.{pages_legible, page_elements}
use Rattle.sheet.proofs.laws.page_laws.Goals as goal

pub returns : goal.returns
returns c = record { legible = pages_legible; elements = page_elements }
