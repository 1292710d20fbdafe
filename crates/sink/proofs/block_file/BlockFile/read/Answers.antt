use Rattle.std.proofs.Common.{◌≡◌, ℕ, ◌-◌, ◌*◌, ◌/◌, List, length, take, drop, vec_len, ap, ◌∙◌, arith, length-take, rules}
use Rattle.std.proofs.lemmas.Slice.{overwrites}
use Rattle.std.specs.List.{concat}
use Rattle.sink.specs.Layout.{texts}
use Rattle.sink.proofs.Encoding.{length_held}
use Rattle.sink.proofs.Joined.{cut_joined}
use Rattle.sink.proofs.Reading.{read_front}
use Rattle.sink.proofs.block_file.BlockFile.read.Goals as goal

pub returns : goal.returns
returns c =
    let f = c.args.self.now in
    let items : List ℕ = f.bytes.items in
    let blocks : ℕ = vec_len f.bytes / 512 in
    let bs = c.as_chunks.result.0.now in
    let n : ℕ = c.min-n.result in
    let start : ℕ = c.min-start.result in
    let h : length items ≡ 512 * blocks = omega (arith, f.bytes.ok.0, f.size) in
    let q : length bs ≡ blocks = omega arith in
    let d = cut_joined blocks bs c.as_slice.result.now items c.as_chunks.ensures.front c.as_slice.ensures.value h in
    let l = length_held blocks f.held items h f.room in
    let k : ℕ = length (take (n - 0) c.args.out.now) in
    let j : k ≡ n = simp length-take (omega arith) in
    let e = c.read_all.ensures ∙ ap (λ (i : ℕ). take k (drop start (texts i (concat bs)))) q ∙ ap (λ (x : List ℕ). take k (drop start (texts blocks x))) d in
    record {
      value = omega arith;
      front = read_front blocks c.args.from f.held start n k items c.read_all.new.out _ h f.room (omega arith) (omega arith) j e;
      back = search (rules, overwrites);
    }
