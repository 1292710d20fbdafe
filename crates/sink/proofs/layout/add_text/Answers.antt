use Rattle.std.proofs.Common.{◌≡◌, ℕ, ◌≤◌, List, ◌++◌, length, take, drop, ap, ◌∙◌, arith, rules}
use Rattle.sink.specs.Layout.{block_of}
use Rattle.sink.proofs.Sealing.{copied_text, copied_front, block_whole, first_block}
use Rattle.sink.proofs.layout.add_text.Goals as goal

pub unwrap-block-requires : goal.unwrap-block-requires
unwrap-block-requires c =
    let h : 512 ≤ length c.args.bytes.now = block_whole c.args.bytes.now c.args.used (omega (arith, c.requires.room)) c.requires.sound in
    search rules

pub seal-requires : goal.seal-requires
seal-requires c =
    let block = c.unwrap-block.result.now in
    let e : block ≡ take 512 c.args.bytes.now = search rules in
    let f = first_block c.args.bytes.now block c.args.used (omega (arith, c.requires.room)) c.requires.sound e in
    record {
      fits = c.requires.room;
      text = copied_front block c.args.text.now _ c.args.used _ f.0 f.1 c.requires.room c.copy_from_slice.ensures.after (omega arith);
    }

pub returns : goal.returns
returns c =
    let block = c.unwrap-block.result.now in
    let e : block ≡ take 512 c.args.bytes.now = search rules in
    let f = first_block c.args.bytes.now block c.args.used (omega (arith, c.requires.room)) c.requires.sound e in
    ap (λ (l : List ℕ). l ++ drop 512 c.args.bytes.now)
    (c.seal.ensures ∙ ap block_of (copied_text block c.args.text.now _ c.args.used _ (omega arith) c.copy_from_slice.ensures.after ∙ ap (λ (l : List ℕ). l ++ c.args.text.now) f.2))
