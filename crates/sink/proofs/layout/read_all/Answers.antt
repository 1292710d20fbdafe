use Rattle.std.proofs.Common.{◌≡◌, ℕ, ◌+◌, ◌-◌, ◌*◌, ◌/◌, ◌%◌, ◌<◌, List, [], length, get_or, arith}
use Rattle.std.proofs.lemmas.List.Edits.{get_or-between}
use Rattle.std.specs.List.{between}
use Rattle.sink.proofs.Reading.{read_more}
use Rattle.sink.proofs.layout.read_all.Goals as goal

pub loop-block-preserved : goal.loop-block-preserved
loop-block-preserved c =
    let bs = c.args.blocks.now in
    let from = c.args.from in
    let done = c.loop-block.done in
    let b : ℕ = from / 508 + c.loop-block.block-index in
    let used : ℕ = (from + done) % 508 in
    let l : b < length bs = omega arith in
    let x : List ℕ = get_or (between (from / 508) c.div_ceil.result bs) c.loop-block.block-index [] in
    let w : x ≡ get_or bs b [] = get_or-between bs (from / 508) c.div_ceil.result c.loop-block.block-index [] (omega arith) in
    let e : from + done ≡ 508 * b + used = omega (arith, c.loop-block.invariant.0) in (
      omega (arith, c.loop-block.invariant.0),
      read_more bs from done b used c.min-more.result (used + c.min-more.result - used) _ x c.loop-block.out c.copy_from_slice.new.self c.told-blocks l w e (omega arith) (omega arith) (omega arith) (omega arith) c.loop-block.invariant.1 c.copy_from_slice.ensures.after,
    )
