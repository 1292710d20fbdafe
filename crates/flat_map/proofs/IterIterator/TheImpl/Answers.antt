use Rattle.flat_map.proofs.Entries.{yields_first, goes_on}
use Rattle.flat_map.proofs.IterIterator.TheImpl.Goals as goal

pub next-tells : goal.next-tells
next-tells g x c =
    let h = yields_first c.args.self.now c.new.self.now c.result c.ensures in
    record { steps = h; goes = goes_on c.args.self.now c.new.self.now c.result h }
