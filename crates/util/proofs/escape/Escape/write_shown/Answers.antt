use Rattle.std.proofs.Common.{◌≡◌, ℕ, List, ◌++◌, length, drop, sym, ap, ◌∙◌, arith}
use Rattle.std.proofs.lemmas.List.{length-take-le}
use Rattle.util.specs.Shown.{shown}
use Rattle.util.proofs.Lengths.{from_exact}
use Rattle.util.proofs.Shows.{shown_quoted, shown_plain}
use Rattle.util.proofs.escape.Escape.write_shown.Goals as goal

pub quote-requires : goal.quote-requires
quote-requires c =
    let v = c.args.self.now.0.now in
    let e : c.in_ok-len.len ≡ length (shown v) = from_exact (length (shown v)) c.in_ok-len.len c.in_ok-len.ensures in
    omega (arith, ap length (shown_quoted v (sym c.if-needs_escaping.ensures)), c.if-len-out.false)

pub copy_from_slice-requires : goal.copy_from_slice-requires
copy_from_slice-requires c =
    let v = c.args.self.now.0.now in
    let e : c.in_ok-len.len ≡ length (shown v) = from_exact (length (shown v)) c.in_ok-len.len c.in_ok-len.ensures in
    length-take-le _ c.args.out.now (omega (arith, c.if-len-out.false)) ∙ e ∙ ap length (shown_plain v (sym c.if-needs_escaping.ensures))

pub returns-then-needs_escaping : goal.returns-then-needs_escaping
returns-then-needs_escaping c =
    let v = c.args.self.now.0.now in
    let e : c.in_ok-len.len ≡ length (shown v) = from_exact (length (shown v)) c.in_ok-len.len c.in_ok-len.ensures in
    let q = sym (shown_quoted v (sym c.if-needs_escaping.ensures)) in
    (e, c.quote.ensures ∙ ap (λ (l : List ℕ). l ++ drop (length l) c.args.out.now) q ∙ ap (λ (k : ℕ). shown v ++ drop k c.args.out.now) (sym e))

pub returns-else-needs_escaping : goal.returns-else-needs_escaping
returns-else-needs_escaping c =
    let v = c.args.self.now.0.now in
    let e : c.in_ok-len.len ≡ length (shown v) = from_exact (length (shown v)) c.in_ok-len.len c.in_ok-len.ensures in
    let q = sym (shown_plain v (sym c.if-needs_escaping.ensures)) in (
      e,
      ap (λ (l : List ℕ). l ++ drop c.in_ok-len.len c.args.out.now) (c.copy_from_slice.ensures.after ∙ q),
    )
