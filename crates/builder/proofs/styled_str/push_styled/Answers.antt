use Rattle.std.proofs.Common.{◌≡◌, ℕ, ◌+◌, ◌≤◌, List, ◌++◌, length, sym, ap, ◌∙◌, subst, append_assoc, arith, length-append, rules}
use Rattle.builder.specs.Marks.{marks, reset}
use Rattle.builder.specs.Writing.{Writes}
use Rattle.builder.proofs.Pieces.{styled_marked, length_marked, written_both, writes_last}
use Rattle.util.proofs.Lengths.{from_exact}
use Rattle.builder.proofs.styled_str.push_styled.Goals as goal

pub returns-in_err-at-2 : goal.returns-in_err-at-2
returns-in_err-at-2 c =
    let t = c.args.text.now in
    let m : length c.as_bytes.result.now ≡ length (marks c.args.style) = ap length (c.as_bytes.ensures ∙ c.render-marks.ensures) in
    let l : length c.push_str-2.new.out ≡ length c.args.out.now = search rules in
    let n = from_exact _ _ c.in_ok-styled_len.ensures in
    absurd (omega (arith, c.in_err-at-2.ensures.0, c.in_ok-at.ensures.ends, c.in_ok-end.ensures.1, length_marked c.args.style t (sym c.if-is_plain.ensures)))

pub returns : goal.returns
returns c =
    let t = c.args.text.now in
    let was = c.args.out.now in
    let ms = c.as_bytes.result.now in
    let a = c.in_ok-at.ensures in
    let b = c.in_ok-at-2.ensures in
    let e : ms ≡ marks c.args.style = c.as_bytes.ensures ∙ c.render-marks.ensures in
    let lm = ap length e in
    let lo : length c.push_str-3.new.out ≡ length was = search rules in
    let n = from_exact _ _ c.in_ok-styled_len.ensures in
    let all = length_marked c.args.style t (sym c.if-is_plain.ensures) in
    let fit : c.args.at + length ((ms ++ t) ++ reset) ≤ length was =
    omega (arith, c.in_ok-end.ensures.1, all, length-append (ms ++ t) reset, length-append ms t) in
    let two = written_both was ms t c.push_str-2.new.out c.push_str-3.new.out c.args.at c.in_ok-at.at (omega (arith, length-append (ms ++ t) reset, length-append ms t)) a.ends a.memory b.memory in
    let end : c.in_ok-at-2.at ≡ c.args.at + length (ms ++ t) = omega (arith, a.ends, b.ends, length-append ms t) in
    subst (λ (l : List ℕ). Writes was c.args.at l c.push_str-4.new.out c.push_str-4.result)
    (append_assoc ms t reset ∙ ap (λ (l : List ℕ). l ++ (t ++ reset)) e ∙ sym (styled_marked c.args.style t (sym c.if-is_plain.ensures)))
    (writes_last was (ms ++ t) reset c.push_str-3.new.out c.push_str-4.new.out c.args.at c.in_ok-at-2.at c.push_str-4.result fit lo end two c.push_str-4.ensures)
