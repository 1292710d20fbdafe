use Rattle.std.proofs.Common.{◌≡◌, ℕ, ◌+◌, ◌-◌, ◌*◌, List, length, get_or, take, drop, refl, ap, ◌∙◌, arith, rules}
use Rattle.std.proofs.lemmas.List.{take_rest}
use Rattle.util.proofs.Unpacks.{reads_none, reads_some, reads_progress, first_is}
use Rattle.util.proofs.packed.ItemsIterator.next.Goals as goal

pub returns-in_default : goal.returns-in_default
returns-in_default c =
    let read = reads_none c.args.self.now _ (search rules) (search rules) in
    record { steps = read; goes = reads_progress _ _ _ read }

pub returns-in_err-item : goal.returns-in_err-item
returns-in_err-item c =
    let read = reads_none c.args.self.now c.from_residual.result (search rules) (search rules) in
    record { steps = read; goes = reads_progress _ _ _ read }

pub returns : goal.returns
returns c =
    let bs = c.args.self.now.rest.now in
    let rest : List ℕ = take (length bs - 2) (drop 2 bs) in
    let n : c.from.result ≡ get_or bs 0 0 * 256 + get_or bs 1 0 = search rules in
    let cut = c.in_ok-item.ensures.cases in
    let e = first_is bs rest (get_or bs 0 0) (get_or bs 1 0) c.in_ok-item.item.now c.in_ok-item.after.now (take_rest bs 2) (search rules) refl refl
    (omega (arith, n, cut.0)) (cut.1 ∙ ap (λ (k : ℕ). take k rest) n) (cut.2 ∙ ap (λ (k : ℕ). drop k rest) n) in
    let read = reads_some c.args.self.now record { rest = c.in_ok-item.after } c.in_ok-item.item e (search rules) in
    record { steps = read; goes = reads_progress _ _ _ read }
