use Rattle.std.proofs.Common.{rules, tests}
use Rattle.std.proofs.lemmas.Iterator.Search.{find_from_yields_List}
use Rattle.std.proofs.lemmas.Iterator.Consumers.{YieldsList-from_first}
use Rattle.flat_map.specs.Maps.{rest_of}
use Rattle.flat_map.proofs.Entries.{lookup_found}
use Rattle.flat_map.proofs.get_in.Goals as goal

pub returns : goal.returns
returns g c =
    lookup_found g.K.PartialEq.eq c.args.key _ c.find.result c.map.result
    (find_from_yields_List (λ p. g.K.PartialEq.eq p.0 c.args.key) c.find.new.self _ c.find.result c.find.ensures.ran
    (YieldsList-from_first (λ p. (p.0.now, p.1.now)) rest_of _ c.iter_in.ensures) (λ x b q k. search (rules, tests)))
    (search rules)
