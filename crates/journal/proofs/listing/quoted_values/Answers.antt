use Rattle.std.proofs.Common.{length, ap, inl, arith}
use Rattle.std.specs.Iterator.Adapters.{enumerate_source}
use Rattle.util.specs.declared.packed.Items.{Items}
use Rattle.util.proofs.Unpacks.{few_items}
use Rattle.journal.proofs.listing.quoted_values.Goals as goal

pub loop-i-init-derived : goal.loop-i-init-derived
loop-i-init-derived c =
    let from = ap (λ (s : Items). length s.rest.now) c.enumerate-i-items.ensures.source in
    rw c.into_iter-i-iterator.ensures.into_iter_gives
    ((tt, tt, inl (omega (arith, c.enumerate-i-items.ensures.count, few_items (enumerate_source c.enumerate-i-items.result).rest.now, ap length c.new.ensures))), tt)
