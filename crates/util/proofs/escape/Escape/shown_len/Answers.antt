use Rattle.std.proofs.Common.{ℕ, List, length, sym, ap, ◌∙◌, rules}
use Rattle.util.specs.Lengths.{exact}
use Rattle.util.proofs.Lengths.{exact_within}
use Rattle.util.proofs.Shows.{shown_quoted, shown_plain}
use Rattle.util.proofs.escape.Escape.shown_len.Goals as goal

pub returns-then-needs_escaping : goal.returns-then-needs_escaping
returns-then-needs_escaping c =
    c.quoted_len.ensures ∙ ap (λ (l : List ℕ). exact (length l)) (sym (shown_quoted c.args.self.now.0.now (sym c.if-needs_escaping.ensures)))

pub returns-else-needs_escaping : goal.returns-else-needs_escaping
returns-else-needs_escaping c =
    let v = c.args.self.now.0.now in
    sym (exact_within (length v) (search rules)) ∙ ap (λ (l : List ℕ). exact (length l)) (sym (shown_plain v (sym c.if-needs_escaping.ensures)))
