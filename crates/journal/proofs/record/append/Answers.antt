use Rattle.std.proofs.Common.{◌≡◌, ℕ, vec_items, sym, ap, ◌∙◌, subst, arith}
use Rattle.sink.specs.File.{Kept}
use Rattle.sink.specs.Layout.{full, used}
use Rattle.sink.proofs.Files.{held_is}
use Rattle.journal.proofs.record.append.Goals as goal

pub returns-clause-kept : goal.returns-clause-kept
returns-clause-kept c =
    let old = c.args.file.now in
    let new = c.put.new.self in
    let from : full old.held ≡ full c.len-from.result = ap full (held_is old ∙ sym c.len-from.ensures) in
    let to : used new.held ≡ c.div_ceil-to.result = ap used (held_is new ∙ sym c.len.ensures) ∙ omega arith in
    subst (λ (n : ℕ). Kept n c.div_ceil-to.result (vec_items old.bytes) (vec_items new.bytes)) from
    (subst (λ (n : ℕ). Kept (full old.held) n (vec_items old.bytes) (vec_items new.bytes)) to c.put.ensures.kept)
