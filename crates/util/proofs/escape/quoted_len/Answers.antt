use Rattle.std.proofs.Common.{length, sym, ap, ◌∙◌, arith}
use Rattle.util.specs.Shown.{quoted}
use Rattle.util.proofs.Lengths.{exact_beyond}
use Rattle.util.proofs.Quotes.{byte_fits}
use Rattle.util.proofs.escape.quoted_len.Goals as goal

pub returns-in_err-len : goal.returns-in_err-len
returns-in_err-len c =
    let v = c.args.value.now in
    let i = c.loop-b.b-index in
    c.from_residual.ensures ∙ sym (exact_beyond (length (quoted v)) (omega (arith, byte_fits v i c.loop-b-test.true, c.in_err-len.ensures, ap length (c.as_bytes.ensures ∙ c.quote_byte.ensures), c.loop-b.invariant.0)))
