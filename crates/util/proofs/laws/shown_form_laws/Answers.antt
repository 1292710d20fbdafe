use Rattle.util.proofs.Literals.{literal_quoted}
use Rattle.util.proofs.Shows.{quoted_prints, shown_in_line, shown_text, shown_bound, shown_alike}
use Rattle.util.proofs.laws.shown_form_laws.Goals as goal

pub returns : goal.returns
returns c = record {
  reads = literal_quoted;
  prints = quoted_prints;
  in_line = shown_in_line;
  text = shown_text;
  bound = shown_bound;
  alike = shown_alike;
}
