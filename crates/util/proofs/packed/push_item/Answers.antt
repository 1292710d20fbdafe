use Rattle.std.proofs.Common.{◌≡◌, ◌++◌, vec_items, ap, ◌∙◌, arith}
use Rattle.std.proofs.lemmas.Grind.{common_steps}
use Rattle.util.specs.Packed.{pack_item, unpack}
use Rattle.util.proofs.Packs.{unpack_push}
use Rattle.util.proofs.packed.push_item.Goals as goal

pub returns-clause-unpacks : goal.returns-clause-unpacks
returns-clause-unpacks c =
    let e : vec_items c.extend_from_slice-2.new.self ≡ vec_items c.args.list.now ++ pack_item c.args.item.now = grind (arith, common_steps) in
    λ ts q _. ap unpack e ∙ unpack_push (vec_items c.args.list.now) c.args.item.now ts q
