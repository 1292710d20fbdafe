use Rattle.std.proofs.Common.{◌≡◌, ℕ, ◌*◌, ◌/◌, ◌%◌, ◌<◌, List, ◌++◌, length, take, sym, refl, ap, ap₂, ◌∙◌, arith, length-append}
use Rattle.std.proofs.lemmas.List.{take_rest}
use Rattle.sink.specs.Layout.{block_of, texts}
use Rattle.sink.proofs.Adding.{in_use_sound, in_use_more, piece_moved, put_rest}
use Rattle.sink.proofs.Encoding.{length_encode, length_held}
use Rattle.sink.proofs.layout.add_all.Goals as goal

pub loop-left-init : goal.loop-left-init
loop-left-init c =
    let bytes = c.args.bytes.now in
    let n : ℕ = length bytes / 512 in
    let h : length bytes ≡ 512 * n = ap length c.requires.sound ∙ length_encode n _ in
    (take c.args.held (texts n bytes), length_held n c.args.held bytes h (omega (arith, c.requires.room)), c.requires.room, c.requires.sound, refl)

pub add_text-requires-clause-sound : goal.add_text-requires-clause-sound
add_text-requires-clause-sound c =
    let m = c.loop-left.invariant in
    let at = c.loop-left.held in
    let bytes = c.loop-left.bytes in
    let n : ℕ = length c.args.bytes.now / 512 in
    let e = take_rest bytes (512 * (at / 508)) in
    let l : at < 508 * n = grind (arith, m.2) in
    ap (λ (x : List ℕ). take 512 x) e ∙ in_use_sound n at m.0 bytes m.1 l m.3 ∙ ap (λ (x : List ℕ). block_of (take (at % 508) x)) (sym e)

pub loop-left-preserved : goal.loop-left-preserved
loop-left-preserved c =
    let m = c.loop-left.invariant in
    let at = c.loop-left.held in
    let bytes = c.loop-left.bytes in
    let left = c.loop-left.left.now in
    let k = c.min.result in
    let now = c.split_at.result.0.now in
    let s = c.split_at.ensures in
    let n : ℕ = length c.args.bytes.now / 512 in
    let l : at < 508 * n = grind (arith, m.2) in (
      m.0 ++ now,
      omega (arith, length-append m.0 now),
      omega (arith, m.2),
      put_rest (512 * (at / 508)) bytes c.add_text.new.bytes ∙ in_use_more n at m.0 now bytes _ c.add_text.new.bytes m.1 l m.3 (omega arith) (take_rest bytes (512 * (at / 508))) c.add_text.ensures,
      ap₂ (λ (x y : List ℕ). (m.0 ++ x) ++ y) s.front s.back ∙ piece_moved m.0 left k ∙ m.4,
    )
