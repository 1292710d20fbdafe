use Rattle.std.proofs.Common.{◌≡◌, ◌++◌, length, ap, arith}
use Rattle.std.specs.List.{flat_map}
use Rattle.std.proofs.lemmas.Result.{MatchResult-from_err}
use Rattle.sheet.proofs.Puts.{coded_split, length_split, leaves_others, plain_front, run_not_empty}
use Rattle.sheet.proofs.markup.put_front.Goals as goal

pub returns-in_err-put-in-None : goal.returns-in_err-put-in-None
returns-in_err-put-in-None g c =
    let code = g.M.Markup.coded c.args.markup.now in
    let t = c.args.text.now in
    let run = c.plain_run.result in
    let put = c.split_at.result.0.now in
    let front = plain_front code t run put c.split_at.ensures.front c.plain_run.ensures.plain in
    MatchResult-from_err _ _ _ c.from_residual-in_err-put-in-None.ensures.0
    (λ y. omega (arith, c.in_err-put-in-None.ensures.short.over, ap length front, length_split code t run))

pub returns-in_ok-put-in-None : goal.returns-in_ok-put-in-None
returns-in_ok-put-in-None g c =
    let code = g.M.Markup.coded c.args.markup.now in
    let t = c.args.text.now in
    let run = c.plain_run.result in
    let put = c.split_at.result.0.now in
    let rest = c.split_at.result.1.now in
    let front = plain_front code t run put c.split_at.ensures.front c.plain_run.ensures.plain in
    let parts : flat_map code t ≡ put ++ flat_map code rest = rw (front, c.split_at.ensures.back) (coded_split code t run) in
    let some = run_not_empty code t run c.plain_run.ensures.longest c.requires c.in-None.ensures in
    (omega (arith, some, c.split_at.ensures.back_len), leaves_others put (flat_map code rest) (flat_map code t) parts c.in_ok-put-in-None.ensures)
