use Rattle.std.proofs.Common.{arith}
use Rattle.builder.proofs.Pieces.{written_at}
use Rattle.builder.proofs.styled_str.push_str.Goals as goal

pub returns : goal.returns
returns c =
    let e = c.in_ok-end.ensures in
    record {
      room = omega (arith, e.1);
      ends = e.1;
      memory = written_at c.args.out.now c.args.text.now c.copy_from_slice.new.self c.args.at _ c.copy_from_slice.ensures.after (omega (arith, e.1));
    }
