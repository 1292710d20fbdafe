use Rattle.std.proofs.Common.{◌∷◌, [], length, ap, ◌∙◌, rules, arith}
use Rattle.util.proofs.Quotes.{inner, byte_fits, inner_more, inner_all, written_more, written_all}
use Rattle.util.proofs.escape.quote.Goals as goal

pub put-requires-in-loop-b : goal.put-requires-in-loop-b
put-requires-in-loop-b c =
    omega (
      arith,
      byte_fits c.args.value.now c.loop-b.b-index c.loop-b-test.true,
      ap length (c.as_bytes.ensures ∙ c.quote_byte.ensures),
      c.loop-b.invariant.written.place,
    )

pub loop-b-preserved : goal.loop-b-preserved
loop-b-preserved c =
    let v = c.args.value.now in
    let i = c.loop-b.b-index in
    let w = written_more (34 ∷ inner i v) c.as_bytes.result.now c.args.out.now c.loop-b.front.out.now c.put-in-loop-b.new.self.out.now c.loop-b.front.len c.put-in-loop-b.new.self.len c.loop-b.invariant.written c.put-in-loop-b.ensures.len c.put-in-loop-b.ensures.written c.put-in-loop-b.ensures.free in
    let e = c.as_bytes.ensures ∙ c.quote_byte.ensures in
    record { same = c.put-in-loop-b.ensures.same_reference ∙ c.loop-b.invariant.same; size = c.put-in-loop-b.ensures.size ∙ c.loop-b.invariant.size; written = rw (inner_more v i c.loop-b-test.true, ← e) w }

pub returns : goal.returns
returns c =
    let v = c.args.value.now in
    let i = c.loop-b.b-index in
    let w = written_more (34 ∷ inner i v) (34 ∷ []) c.args.out.now c.loop-b.front.out.now c.put-2.new.self.out.now c.loop-b.front.len c.put-2.new.self.len c.loop-b.invariant.written c.put-2.ensures.len c.put-2.ensures.written c.put-2.ensures.free in
    let whole = written_all _ _ _ _ (rw (inner_all v i c.loop-b-test.false) at w) in
    let same = c.put-2.ensures.same_reference ∙ c.loop-b.invariant.same ∙ c.put.ensures.same_reference in
    search rules
