use Rattle.std.proofs.Common.{sym, refl, ◌∙◌, arith}
use Rattle.std.proofs.lemmas.List.{length-set, drop-set-lt}
use Rattle.std.proofs.lemmas.Result.{err_from_is_err_and}
use Rattle.flat_map.proofs.Entries.{placed, lookup_held, lookup_past, put_held, put_length, put_new}
use Rattle.flat_map.specs.Maps.{entries_of}
use Rattle.flat_map.proofs.FlatMap.insert.Goals as goal

pub returns-in-Some : goal.returns-in-Some
returns-in-Some g c =
    let m = c.args.self.now in
    let h = placed g.K.PartialEq.eq c.args.key (entries_of m) _ c.in-Some.ensures.first in
    record {
      cases = (
        put_held g.K.PartialEq.eq c.args.key m.keys.now m.values.now m.count c.in-Some.i c.args.value h.0 h.1,
        lookup_held g.K.PartialEq.eq c.args.key m.keys.now m.values.now m.count c.in-Some.i _ h.0 h.1,
      );
      spare = record { keys = refl; values = drop-set-lt _ m.values.now c.in-Some.i c.args.value (omega (arith, h.1, put_length g.K.PartialEq.eq c.args.key m.keys.now m.values.now m.count c.in-Some.i c.args.value)) };
      memory = record { keys_name = refl; values_name = refl; keys_len = refl; values_len = length-set _ _ _; cleared = refl };
    }

pub returns-in_err-insert_unchecked : goal.returns-in_err-insert_unchecked
returns-in_err-insert_unchecked g c =
    let p = err_from_is_err_and c.from_residual.result c.from_residual.ensures.1 in
    let e = c.in_err-insert_unchecked.ensures in
    rw p.1
    record {
      cases = (lookup_past g.K.PartialEq.eq c.args.key _ (placed g.K.PartialEq.eq c.args.key _ _ c.in_default.ensures.first), e.cases.0, e.cases.1);
      spare = e.spare;
      memory = e.memory;
    }

pub returns : goal.returns
returns g c =
    let e = c.in_ok-insert_unchecked.ensures in
    let h = placed g.K.PartialEq.eq c.args.key _ _ c.in_default.ensures.first in
    record {
      cases = (e.cases ∙ sym (put_new g.K.PartialEq.eq c.args.key _ c.args.value h), sym (lookup_past g.K.PartialEq.eq c.args.key _ h));
      spare = e.spare;
      memory = e.memory;
    }
