use Rattle.std.proofs.Common.{◌≡◌, ℕ, ◌*◌, ◌/◌, ◌%◌, ◌≤◌, length, vec_len, refl, ◌∙◌, arith}
use Rattle.std.specs.List.{concat}
use Rattle.sink.proofs.Files.{joined_sound}
use Rattle.sink.proofs.Joined.{cut_joined}
use Rattle.sink.proofs.Opening.{one_text}
use Rattle.sink.proofs.block_file.BlockFile.open.Goals as goal

pub returns-in-None : goal.returns-in-None
returns-in-None c =
    let bs = c.as_chunks.result.0.now in
    let xs = c.as_slice.result.now in
    let n : ℕ = length bs in
    let f : n ≡ length xs / 512 = c.as_chunks.ensures.front_len in
    let b : length c.as_chunks.result.1.now ≡ length xs % 512 = c.as_chunks.ensures.back_len in
    let z : length c.as_chunks.result.1.now ≡ 0 = grind (arith, c.if-not-is_empty.ensures) in
    let k : 1 ≤ n = grind (arith, c.if-is_empty.ensures) in
    let l : length c.args.bytes.items ≡ 512 * n = omega (arith, c.args.bytes.ok.0) in
    let e = cut_joined n bs xs c.args.bytes.items c.as_chunks.ensures.front c.as_slice.ensures.value l in
    record {
      cases = (refl, (n, record { some = k; few = c.if-blocks-gt2048.false; size = l }, (λ t h. c.in-None.ensures t h.fits (e ∙ h.is))));
      only = one_text c.args.bytes.items;
    }

pub invariant_of-result : goal.invariant_of-result
invariant_of-result c =
    let bs = c.as_chunks.result.0.now in
    let xs = c.as_slice.result.now in
    let n : ℕ = vec_len c.args.bytes / 512 in
    let f : length bs ≡ length xs / 512 = c.as_chunks.ensures.front_len in
    let b : length c.as_chunks.result.1.now ≡ length xs % 512 = c.as_chunks.ensures.back_len in
    let z : length c.as_chunks.result.1.now ≡ 0 = grind (arith, c.if-not-is_empty.ensures) in
    let k : 1 ≤ length bs = grind (arith, c.if-is_empty.ensures) in
    let q : length bs ≡ n = omega arith in
    let l : length c.args.bytes.items ≡ 512 * n = omega (arith, c.args.bytes.ok.0) in
    let e = cut_joined n bs xs c.args.bytes.items c.as_chunks.ensures.front c.as_slice.ensures.value l in
    let h = c.in-Some.ensures in
    record {
      some = omega arith;
      few = omega arith;
      size = omega arith;
      room = omega (arith, h.0);
      sound = joined_sound (length bs) n c.in-Some.held (concat bs) c.args.bytes.items q e h.1;
    }
