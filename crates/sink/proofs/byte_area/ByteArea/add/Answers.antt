use Rattle.std.proofs.Common.{ℕ, ◌+◌, ◌≤◌, List, length, arith}
use Rattle.sink.proofs.Areas.{filled, held_more, beyond_same}
use Rattle.sink.proofs.byte_area.ByteArea.add.Goals as goal

pub returns : goal.returns
returns c =
    let f = c.args.self.now in
    let bs = c.args.bytes.now in
    let s = c.as_mut_slice in
    let u = f.fill.held in
    let ys : List ℕ = f.bytes.items in
    let h : u ≤ length ys = omega (arith, f.within, f.bytes.ok.0) in
    let e = filled u _ s.result.now ys bs c.write_front.new.dst _ s.ensures.value s.ensures.len (omega (arith, c.requires, f.within, s.ensures.len)) c.write_front.ensures in
    record {
      took = record {
        fits = c.requires;
        holds = held_more u (u + length bs) ys bs _ h (omega arith) e;
        rest = omega (arith, c.requires, f.within);
      };
      beyond = beyond_same u (u + length bs) ys bs _ h (omega arith) e;
    }
