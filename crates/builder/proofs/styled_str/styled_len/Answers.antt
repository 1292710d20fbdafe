use Rattle.std.proofs.Common.{◌≡◌, ◌+◌, length, sym, ap, ◌∙◌, arith}
use Rattle.builder.specs.Marks.{marks, styled_text}
use Rattle.builder.proofs.Pieces.{length_marked}
use Rattle.util.specs.Lengths.{exact}
use Rattle.util.proofs.Lengths.{exact_checked}
use Rattle.builder.proofs.styled_str.styled_len.Goals as goal

pub returns : goal.returns
returns c =
    let t = c.args.text.now in
    let m : length c.as_bytes.result.now ≡ length (marks c.args.style) = ap length (c.as_bytes.ensures ∙ c.render.ensures) in
    let l : length t + (length c.as_bytes.result.now + 4) ≡ length (styled_text c.args.style t) =
    omega (arith, length_marked c.args.style t (sym c.if-is_plain.ensures)) in
    exact_checked c.checked_add.result _ c.checked_add.ensures ∙ ap exact l
