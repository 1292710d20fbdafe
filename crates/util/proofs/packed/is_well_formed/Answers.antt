use Rattle.std.proofs.Common.{length, eqb, ap, ◌∙◌, rules, arith}
use borrow.Author.Tests.{tests}
use Rattle.std.proofs.lemmas.Iterator.{YieldsList-from_map}
use Rattle.std.proofs.lemmas.Iterator.Consumers.{YieldsList-at, sum_by_from_yields_List, fits_by_from_yields_list}
use Rattle.util.specs.Packed.{items}
use Rattle.util.proofs.Packs.{items_are, pack_unpacked}
use Rattle.util.proofs.Unpacks.{packed_size, items_fit, items_fill, reads_items}
use Rattle.util.proofs.packed.is_well_formed.Goals as goal

pub sum-filled-requires-clause-fits : goal.sum-filled-requires-clause-fits
sum-filled-requires-clause-fits c =
    fits_by_from_yields_list packed_size (items c.args.list.now) c.map.result _
    (YieldsList-from_map _ packed_size (YieldsList-at c.map.ensures.source (reads_items c.new.result c.args.list.now c.new.ensures)) c.map.ensures.closure (λ x r q k. search (rules, tests)))
    (omega (arith, items_fit c.args.list.now))

pub returns-clause-value : goal.returns-clause-value
returns-clause-value c =
    let sum = sum_by_from_yields_List packed_size (items c.args.list.now) c.map.result c.sum-filled.result c.sum-filled.ensures.ran
    (YieldsList-from_map _ packed_size (YieldsList-at c.map.ensures.source (reads_items c.new.result c.args.list.now c.new.ensures)) c.map.ensures.closure (λ x r q k. search (rules, tests))) in
    ap (λ n. eqb n (length c.args.list.now)) sum ∙ items_fill c.args.list.now

pub returns-clause-back : goal.returns-clause-back
returns-clause-back c = λ ts q. (items_are c.args.list.now ts q, pack_unpacked c.args.list.now ts (λ k. omega (arith, c.type_inv.list k)) q)
