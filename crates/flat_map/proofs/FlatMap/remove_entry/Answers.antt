use Rattle.std.proofs.Common.{ℕ, sym, ap, ◌∙◌, arith, rules}
use Rattle.std.specs.Option.{option_map}
use Rattle.std.specs.List.{remove}
use Rattle.flat_map.specs.Maps.{entries_of}
use Rattle.flat_map.proofs.Entries.{placed, lookup_held, lookup_past, without_held, without_none, entries_closed}
use Rattle.flat_map.proofs.FlatMap.remove_entry.Goals as goal

pub returns-in_err-i : goal.returns-in_err-i
returns-in_err-i g c =
    let h = placed g.K.PartialEq.eq c.args.key (entries_of c.args.self.now) _ c.in_err-i.ensures.first in
    record {
      value = c.from_residual.ensures ∙ ap (option_map (λ v. (c.args.key, v))) (sym (lookup_past g.K.PartialEq.eq c.args.key _ h));
      entries = sym (without_none g.K.PartialEq.eq c.args.key _ h);
      spare = search rules;
      memory = search rules;
    }

pub returns : goal.returns
returns g c =
    let m = c.args.self.now in
    let h = placed g.K.PartialEq.eq c.args.key (entries_of m) _ c.in_ok-i.ensures.first in
    let p = entries_closed m.keys.now c.close_up.new.items m.values.now c.close_up-2.new.items m.count c.len-n.result c.in_ok-i.i _ _
    c.len-n.ensures.value (omega (arith, h.1, c.len-n.ensures.value)) c.close_up.ensures.after c.close_up-2.ensures.after in
    record {
      value = ap (option_map (λ v. (c.args.key, v))) (lookup_held g.K.PartialEq.eq c.args.key m.keys.now m.values.now m.count c.in_ok-i.i _ h.0 h.1);
      entries = p.is ∙ ap (λ (j : ℕ). remove (entries_of m) j) h.0 ∙ without_held g.K.PartialEq.eq c.args.key (entries_of m) (omega (arith, h));
      spare = record { keys = p.spare_keys_lem; values = p.spare_values_lem };
      memory = search rules;
    }
