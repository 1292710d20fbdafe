-- Of texts in a style, of ready text that grows, and of pieces of text that are written into memory one after the other.
use Rattle.std.proofs.Common.{◌-◌, take, drop, ◌∙◌, sym, ◌≡◌, ℕ, ◌+◌, ◌≤◌, false, List, ◌++◌, length, Some, None, Option, ap, append_assoc, arith, length-append}
use borrow.Rule.Slice.PartMut.{put_mid}
use Rattle.std.proofs.lemmas.Bool.{cond-false}
use Rattle.builder.specs.Marks.{is_plain, marks, reset, styled_text}
use Rattle.std.proofs.lemmas.List.{drop-drop, take_at, drop_at, length-take-le}
use Rattle.builder.specs.Writing.{Writes}
use Rattle.builder.specs.Written.{Stays}
use Rattle.builder.specs.declared.styled_str.StyledStr.{StyledStr}
use Rattle.builder.specs.declared.styling.Style.{Style}

-- a text in a style that is not plain
pub styled_marked : (s : Style) (t : List ℕ) → is_plain s ≡ false → styled_text s t ≡ marks s ++ (t ++ reset)
styled_marked s t e = cond-false (is_plain s) t (marks s ++ (t ++ reset)) e

pub length_marked : (s : Style) (t : List ℕ) → is_plain s ≡ false → length (styled_text s t) ≡ length t + (length (marks s) + 4)
length_marked s t e = omega (arith, ap length (styled_marked s t e), length-append (marks s) (t ++ reset), length-append t reset)

-- one piece after another
pub stays_more : (s t u : StyledStr) → Stays s t → Stays t u → Stays s u
stays_more s t u p q =
    let k : ℕ = u.len - t.len in
    let e : u.len ≡ t.len + k = omega (arith, q.longer) in
    record {
      longer = omega (arith, p.longer, q.longer);
      memory = q.memory ∙ p.memory;
      size = q.size ∙ p.size;
      behind = q.behind ∙ ap (λ (j : ℕ). drop j t.bytes.now) e ∙ sym (drop-drop k t.len t.bytes.now) ∙ ap (drop k) p.behind
          ∙ drop-drop k t.len s.bytes.now ∙ ap (λ (j : ℕ). drop j s.bytes.now) (sym e);
    }

-- one piece: q is what the part of length k holds then
pub written_at : (was bs q : List ℕ) (at k : ℕ) → q ≡ bs → k ≡ length bs → put_mid at k was q ≡ take at was ++ (bs ++ drop (at + length bs) was)
written_at was bs q at k e f =
    ap (λ (l : List ℕ). take at was ++ (l ++ drop k (drop at was))) e
    ∙ ap (λ (l : List ℕ). take at was ++ (bs ++ l)) (drop-drop k at was ∙ ap (λ (n : ℕ). drop (at + n) was) f)

-- two pieces, of which the first ends at e
pub written_both : (was a b o out : List ℕ) (at e : ℕ) → at + length a ≤ length was → e ≡ at + length a → o ≡ take at was ++ (a ++ drop (at + length a) was)
    → out ≡ take e o ++ (b ++ drop (e + length b) o) → out ≡ take at was ++ ((a ++ b) ++ drop (at + length (a ++ b)) was)
written_both was a b o out at e h f g k =
    let z : List ℕ = drop (at + length a) was in
    let l : length (take at was ++ a) ≡ e = omega (arith, length-append (take at was) a, length-take-le at was (omega arith)) in
    let p : o ≡ (take at was ++ a) ++ z = g ∙ sym (append_assoc (take at was) a z) in
    let front : take e o ≡ take at was ++ a = ap (take e) p ∙ take_at (take at was ++ a) z e l in
    let n : at + length a + length b ≡ at + length (a ++ b) = omega (arith, length-append a b) in
    let back : drop (e + length b) o ≡ drop (at + length (a ++ b)) was =
    sym (drop-drop (length b) e o) ∙ ap (drop (length b)) (ap (drop e) p ∙ drop_at (take at was ++ a) z e l) ∙ drop-drop (length b) (at + length a) was ∙ ap (λ (j : ℕ). drop j was) n in
    k ∙ ap (λ (x : List ℕ). x ++ (b ++ drop (e + length b) o)) front ∙ ap (λ (x : List ℕ). (take at was ++ a) ++ (b ++ x)) back
    ∙ append_assoc (take at was) a (b ++ drop (at + length (a ++ b)) was)
    ∙ ap (λ (x : List ℕ). take at was ++ x) (sym (append_assoc a b (drop (at + length (a ++ b)) was)))

-- the last piece: what came of it says what came of all, since they fit
pub writes_last : (was a b o out : List ℕ) (at e : ℕ) (r : Option ℕ) → at + length (a ++ b) ≤ length was → length o ≡ length was → e ≡ at + length a → o ≡ take at was ++ (a ++ drop (at + length a) was)
    → Writes o e b out r → Writes was at (a ++ b) out r
writes_last was a b o out at e None h l f g w = absurd (omega (arith, w.0, length-append a b))
writes_last was a b o out at e (Some end) h l f g w = record {
  room = h;
  ends = omega (arith, w.ends, length-append a b);
  memory = written_both was a b o out at e (omega (arith, length-append a b)) f g w.memory;
}
