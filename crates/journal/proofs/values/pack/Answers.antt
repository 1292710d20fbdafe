use Rattle.std.proofs.Common.{◌≡◌, ℕ, ◌+◌, ◌<◌, List, [], map, length, get_or, string_bytes, sym, subst, below_more}
use Rattle.std.proofs.lemmas.List.{length-map}
use Rattle.std.proofs.lemmas.Result.{err_from_is_err_and}
use Rattle.journal.specs.declared.values.Unlisted.{Unlisted}
use Rattle.journal.specs.Listable.{Listable, WhyNot}
use Rattle.journal.proofs.Packing.{pack_more, value_at}
use Rattle.journal.proofs.values.pack.Goals as goal

pub returns-in_err-push_value : goal.returns-in_err-push_value
returns-in_err-push_value c =
    let xs = c.args.values.now in
    let i = c.loop-i.i in
    let p = err_from_is_err_and c.from_residual.result c.from_residual.ensures.1 in
    let lt : i < length (map string_bytes xs) = simp length-map c.loop-i-test.true in
    let at : c.as_bytes.result.now ≡ get_or (map string_bytes xs) i [] =
    value_at string_bytes xs i c.index-values-i.result c.as_bytes.result.now c.loop-i-test.true c.index-values-i.is c.as_bytes.ensures.value in
    rw p.1 (
      i,
      lt,
      c.loop-i.invariant.1,
      subst (λ (e : Unlisted). WhyNot (get_or (map string_bytes xs) i []) (i + 1) e) (sym p.2)
          (subst (λ (t : List ℕ). WhyNot t (i + 1) c.in_err-push_value.field-0.0) at c.in_err-push_value.ensures),
    )

pub loop-i-preserved : goal.loop-i-preserved
loop-i-preserved c =
    let xs = c.args.values.now in
    let i = c.loop-i.i in
    let e = c.in_ok-push_value.ensures in
    let at : c.as_bytes.result.now ≡ get_or (map string_bytes xs) i [] =
    value_at string_bytes xs i c.index-values-i.result c.as_bytes.result.now c.loop-i-test.true c.index-values-i.is c.as_bytes.ensures.value in (
      pack_more string_bytes xs i c.index-values-i.result _ _ c.as_bytes.result.now
          c.loop-i-test.true c.index-values-i.is c.as_bytes.ensures.value c.loop-i.invariant.0 e.1,
      below_more (λ (k : ℕ). Listable (get_or (map string_bytes xs) k [])) i c.loop-i.invariant.1 (subst Listable at e.0),
    )
