use Rattle.std.proofs.Common.{ℕ, List, ◌++◌, length, take, refl, ap, ◌∙◌, arith}
use Rattle.std.proofs.lemmas.Slice.{take-put_mid}
use Rattle.builder.proofs.styling.Marks.and.Goals as goal

pub returns : goal.returns
returns c =
    let m = c.args.self in
    let e = c.copy_from_slice.ensures.after in
    record {
      bytes = take-put_mid m.len _ m.bytes c.copy_from_slice.new.self _ (omega (arith, ap length e)) (omega (arith, m.within)) ∙ ap (λ (l : List ℕ). take m.len m.bytes ++ l) e;
      len = refl;
    }
