use Rattle.std.proofs.Common.{ℕ, ◌/◌, ◌%◌, ◌≡◌, List, [], ◌∷◌, get_or, take, set, ap, ◌∙◌, arith, rules}
use Rattle.std.proofs.lemmas.List.{length-take-le}
use Rattle.sink.specs.Check.{check}
use Rattle.sink.proofs.Sealing.{sealed}
use Rattle.sink.proofs.layout.seal.Goals as goal

pub returns : goal.returns
returns c =
    let block = c.args.block.now in
    let count = c.args.count in
    let e : c.to_be_bytes.result ≡ count / 256 ∷ count % 256 ∷ [] = search rules in
    let f = c.check_of-sum.ensures ∙ ap (λ (bytes : List ℕ). check (take 510 (set (set block 508 (get_or bytes 0 0)) 509 (get_or bytes 1 0)))) e in
    let sum = c.check_of-sum.result in
    ap (λ (bytes : List ℕ). set (set (set (set block 508 (get_or bytes 0 0)) 509 (get_or bytes 1 0)) 510 sum.0) 511 sum.1) e
    ∙ sealed block (take count block) count sum c.told-block (length-take-le count block (omega arith)) c.requires.fits c.requires.text f
