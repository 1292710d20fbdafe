use Rattle.std.proofs.Common.{rules}
use borrow.Author.Tests.{tests}
use Rattle.std.proofs.lemmas.Iterator.Search.{all_from_yields_List}
use Rattle.util.specs.Text.{is_text}
use Rattle.util.proofs.Unpacks.{reads_items}
use Rattle.util.proofs.packed.items_are_text.Goals as goal

pub returns : goal.returns
returns c = all_from_yields_List is_text c.all.new.self _ c.all.result c.all.ensures.ran (reads_items c.new.result c.args.list.now c.new.ensures) (λ x b q k. search (rules, tests))
