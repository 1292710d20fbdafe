use Rattle.std.proofs.Common.{ℕ, ◌+◌, ◌*◌, ◌/◌, ◌≤◌, List, length, take, vec_len, refl, arith}
use Rattle.sink.specs.Layout.{texts}
use Rattle.sink.proofs.Adding.{kept}
use Rattle.sink.proofs.Encoding.{length_held}
use Rattle.sink.proofs.Files.{added, file_size}
use Rattle.sink.proofs.block_file.BlockFile.add.Goals as goal

pub invariant_of-self : goal.invariant_of-self
invariant_of-self c =
    let f = c.args.self.now in
    let n : ℕ = vec_len f.bytes / 512 in
    let s = c.as_mut_slice in
    let bs = c.args.bytes.now in
    let m : f.held + length bs ≤ 508 * n = omega (arith, c.requires, f.room) in
    let a = added n f.held f.bytes.len s.result.now f.bytes.items bs c.add_all.new.bytes _ s.ensures.value (file_size f) f.size m c.add_all.ensures in
    record { some = f.some; few = f.few; size = f.size; room = m; sound = a.2 }

pub returns : goal.returns
returns c =
    let f = c.args.self.now in
    let n : ℕ = vec_len f.bytes / 512 in
    let s = c.as_mut_slice in
    let bs = c.args.bytes.now in
    let m : f.held + length bs ≤ 508 * n = omega (arith, c.requires, f.room) in
    let a = added n f.held f.bytes.len s.result.now f.bytes.items bs c.add_all.new.bytes _ s.ensures.value (file_size f) f.size m c.add_all.ensures in
    let old : List ℕ = f.bytes.items in
    record {
      took = record { fits = c.requires; holds = a.1; rest = omega (arith, c.requires, f.room) };
      bytes = a.0;
      kept = kept n f.held (f.held + length bs) (take f.held (texts n old)) bs old _ (length_held n f.held old (file_size f) f.room) refl m f.sound a.0;
      blocks = refl;
    }
