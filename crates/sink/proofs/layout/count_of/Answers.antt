use Rattle.std.proofs.Common.{ℕ, get_or, sym, refl, ◌∙◌, arith}
use Rattle.sink.proofs.Blocks.{count_at, unused_zeros, check_at}
use Rattle.sink.proofs.Checks.{same_check, other_check}
use Rattle.sink.proofs.Sealing.{block_from, zeros_from}
use Rattle.sink.proofs.layout.count_of.Goals as goal
use Rattle.sink.proofs.layout.count_of.Goals.{then-count-gt508-via-then-count-gt508, then-count-gt508-via-else-count-gt508+then-not-blank, then-count-gt508-via-else-count-gt508+else-not-blank+then-ne}

pub returns-then-count-gt508 : goal.returns-then-count-gt508
returns-then-count-gt508 c u h e =
    let d = c.args.block.now in
    let n : ℕ = c.from-count.result in elim c.then-count-gt508.branch [
      | then-count-gt508-via-then-count-gt508 w ↦ omega (arith, w.if-count-gt508.true, count_at d u h e)
      | then-count-gt508-via-else-count-gt508+then-not-blank w ↦ (
          let z = unused_zeros d u n h (omega (arith, count_at d u h e)) e in
          let f = w.if-not-blank.ensures.1 z in
          cc)
      | then-count-gt508-via-else-count-gt508+else-not-blank+then-ne w ↦ other_check w.check_of.result (get_or d 510 0, get_or d 511 0) w.if-ne.ensures (w.check_of.ensures ∙ check_at d u h e)
    ]

pub returns : goal.returns
returns c =
    let d = c.args.block.now in
    let n : ℕ = c.from-count.result in
    let k = same_check c.check_of.result (get_or d 510 0, get_or d 511 0) c.if-ne.ensures in
    let m = c.if-count-gt508.false in
    (m, block_from d n c.told-block m (omega arith) (c.fits-block 509) (zeros_from d n c.told-block m (c.if-not-blank.ensures.0 refl)) (sym k ∙ c.check_of.ensures))
