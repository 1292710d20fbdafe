use Rattle.std.proofs.Common.{ap, length, refl, arith, rules}
use Rattle.std.proofs.lemmas.Slice.{drop-put_mid}
use Rattle.sink.proofs.Fits.{fits}
use Rattle.builder.proofs.styled_str.StyledStr.push_str.Goals as goal

pub slice_bounds-copy_from_slice-end : goal.slice_bounds-copy_from_slice-end
slice_bounds-copy_from_slice-end c =
    omega (arith, fits (length c.args.text.now) c.bytes_left.result (omega arith) c.in_ok-within.ensures, c.args.self.now.within)

pub returns-clause-stays : goal.returns-clause-stays
returns-clause-stays c = record {
  longer = omega arith;
  memory = refl;
  size = search rules;
  behind = drop-put_mid c.args.self.now.len _ c.args.self.now.bytes.now c.copy_from_slice.new.self _ (omega arith) c.args.self.now.within (omega (arith, ap length c.copy_from_slice.ensures.after));
}
