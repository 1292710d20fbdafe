use Rattle.std.proofs.Common.{◌<◌, take, sym, ◌∙◌, arith, length-take}
use Rattle.std.proofs.lemmas.List.{get_or-take}
use Rattle.std.proofs.lemmas.Option.{slice_get_read, slice_get_past}
use Rattle.flat_map.proofs.Closes.{closed_past, closed_by_turn}
use Rattle.flat_map.proofs.close_up.Goals as goal

pub returns-then-i-n : goal.returns-then-i-n
returns-then-i-n g c =
    let xs = c.args.items.now in
    record {
      value = sym (slice_get_past (take c.args.n xs) c.args.i (omega (arith, length-take c.args.n xs)));
      after = sym (closed_past xs c.args.i c.args.n c.min-n.result c.args.cleared c.min-n.ensures c.if-i-n.true);
    }

pub returns : goal.returns
returns g c =
    let xs = c.args.items.now in
    let lt : c.args.i < c.args.n = omega (arith, c.min-n.ensures) in
    record {
      value = sym (slice_get_read (take c.args.n xs) c.min-n.result c.args.i c.index-items-i.result (c.min-n.ensures ∙ sym (length-take c.args.n xs)) c.if-i-n.false
          (c.index-items-i.is ∙ sym (get_or-take c.args.n xs c.args.i c.index-items-i.result lt)));
      after = closed_by_turn xs c.rotate_left.new.self c.args.i c.args.n c.min-n.result c.args.cleared c.min-n.ensures c.if-i-n.false c.rotate_left.ensures.after;
    }
