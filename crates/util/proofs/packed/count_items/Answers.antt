use Rattle.std.proofs.Common.{length, ap, inl, arith}
use Rattle.std.proofs.lemmas.Iterator.Consumers.{count_from_yields_List}
use Rattle.util.proofs.Unpacks.{few_items, reads_items}
use Rattle.util.proofs.packed.count_items.Goals as goal

pub count-requires-clause-fits : goal.count-requires-clause-fits
count-requires-clause-fits c = inl (omega (arith, few_items c.new.result.rest.now, ap length c.new.ensures))

pub returns : goal.returns
returns c = count_from_yields_List c.new.result c.count.result c.count.ensures.ran (reads_items c.new.result c.args.list.now c.new.ensures)
