use Rattle.std.proofs.Common.{◌≡◌, ℕ, ◌*◌, ◌⊎◌, List, [], ◌++◌, take, drop, length, get_or, sym, refl, ap, ◌∙◌, inl, inr, arith}
use Rattle.std.proofs.lemmas.List.{take_all}
use Rattle.std.specs.List.{concat}
use Rattle.sink.specs.Layout.{encode, texts}
use Rattle.sink.proofs.Encoding.{block_at, piece_length, texts_encode}
use Rattle.sink.proofs.Joined.{joined_at, length_joined}
use Rattle.sink.proofs.Opening.{no_gap, one_more}
use Rattle.sink.proofs.layout.held_of.Goals as goal
use Rattle.sink.proofs.layout.held_of.Goals.{else-count-gt0-via-then-count-gt0+else-held-i, else-count-gt0-via-else-count-gt0}

pub loop-i-init : goal.loop-i-init
unfolding encode
loop-i-init c = ([], refl, omega arith, refl)

pub returns-in_err-count : goal.returns-in_err-count
returns-in_err-count c = rw c.from_residual.ensures (λ t h e.
    let i = c.loop-i.i in
    let bs = c.args.blocks.now in
    let u : List ℕ = drop (508 * i) t in
    c.in_err-count.ensures (take 508 u) (piece_length u) (joined_at bs i c.told-blocks c.loop-i-test.true ∙ block_at (length bs) i t (concat bs) c.loop-i-test.true e))

pub returns-then-held-i : goal.returns-then-held-i
returns-then-held-i c t h e =
    let i = c.loop-i.i in
    let bs = c.args.blocks.now in
    let m = c.loop-i.invariant in
    let b = c.in_ok-count.ensures in
    no_gap (length bs) i c.loop-i.held c.in_ok-count.count (concat bs) m.0 (get_or bs i []) c.loop-i-test.true m.1 (omega (arith, c.if-held-i.true)) m.3
    (joined_at bs i c.told-blocks c.loop-i-test.true) b.0 (omega (arith, c.if-count-gt0.true)) b.1 t h e

pub loop-i-preserved : goal.loop-i-preserved
loop-i-preserved c =
    let i = c.loop-i.i in
    let bs = c.args.blocks.now in
    let held = c.loop-i.held in
    let count = c.in_ok-count.count in
    let m = c.loop-i.invariant in
    let b = c.in_ok-count.ensures in
    let o : (held ≡ 508 * i) ⊎ (count ≡ 0) = elim c.else-count-gt0.branch [
      | else-count-gt0-via-then-count-gt0+else-held-i w ↦ inl (omega (arith, w.if-held-i.false, m.2))
      | else-count-gt0-via-else-count-gt0 w ↦ inr (omega (arith, w.if-count-gt0.false))
    ] in
    let x : List ℕ = get_or bs i [] in
    let s = one_more i held count (concat bs) m.0 x m.1 m.2 m.3 (joined_at bs i c.told-blocks c.loop-i-test.true) b.0 b.1 o in
    (m.0 ++ take count x, s.0, omega (arith, m.2, b.0), s.1)

pub returns : goal.returns
returns c =
    let bs = c.args.blocks.now in
    let n : ℕ = length bs in
    let d : List ℕ = concat bs in
    let m = c.loop-i.invariant in
    let q : c.loop-i.i ≡ n = omega arith in
    let e : d ≡ encode n m.0 = sym (take_all (512 * c.loop-i.i) d (omega (arith, length_joined bs c.told-blocks))) ∙ m.3 ∙ ap (λ (j : ℕ). encode j m.0) q in
    let f : take c.loop-i.held (texts n d) ≡ m.0 = ap (λ (y : List ℕ). take c.loop-i.held (texts n y)) e ∙ texts_encode n m.0 c.loop-i.held m.1 (omega (arith, m.2)) in
    (omega (arith, m.2), e ∙ ap (λ (y : List ℕ). encode n y) (sym f))
