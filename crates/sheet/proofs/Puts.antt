-- One put after another, and texts that are put byte by byte.
use Rattle.std.specs.Prelude.{◌≡◌, ℕ, zero, suc, ◌+◌, ◌-◌, ◌<◌, ◌≢◌, true, List, [], ◌∷◌, ◌++◌, length, take, drop, is_err, Result, slice_index, refl}
use Rattle.std.proofs.Common.{sym, ap, ap₂, ◌∙◌, append_assoc, append-nil, arith, length-append, take-add}
use Rattle.std.specs.List.{flat_map}
use Rattle.std.proofs.lemmas.List.{take_more, take_rest, take-append-drop}
use Rattle.std.proofs.lemmas.Result.{MatchResult-weaker, MatchResult-from_err}
use Rattle.sink.specs.Outcome.{Adds, Took}
use Rattle.sink.specs.declared.fault.SinkFault.{SinkFault}
use Rattle.sheet.specs.Frames.{framing, edge, Puts, Leaves}
use Rattle.sheet.specs.Parts.{Label}
use Rattle.sheet.specs.Roles.{part_of}
use Rattle.sheet.specs.declared.role.Role.{Role}
use Rattle.sheet.specs.declared.role.Role.TheVariants.{Error, Valid, Invalid, Literal, Fixed, Given, Ready}
use Rattle.std.proofs.lemmas.Grind.{flat_map-append}

-- a put of the first bytes leaves the others
pub leaves_others : {K : Type 0} {held : K → List ℕ} {left : K → ℕ} {s t : K} (a b all : List ℕ) → all ≡ a ++ b → Took held left s a t → Leaves held left s all t b
leaves_others {held = held} {s = s} a b all e p = record {
  holds = ap (λ (r : List ℕ). r ++ b) p.holds ∙ append_assoc (held s) a b ∙ ap (λ (r : List ℕ). held s ++ r) (sym e);
  room = omega (arith, p.rest, ap length e, length-append a b);
}

-- to put nothing changes nothing
pub took_none : {K : Type 0} (held : K → List ℕ) (left : K → ℕ) (s : K) → Took held left s [] s
took_none held left s = record { fits = omega arith; holds = sym (append-nil (held s)); rest = omega arith }

-- two puts are one of all their bytes
pub took_more : {K : Type 0} {held : K → List ℕ} {left : K → ℕ} {s t u : K} (a b : List ℕ) →
    Took held left s a t → Took held left t b u → Took held left s (a ++ b) u
took_more {held = held} {s = s} a b p q = record {
  fits = omega (arith, p.fits, p.rest, q.fits, length-append a b);
  holds = q.holds ∙ ap (λ (r : List ℕ). r ++ b) p.holds ∙ append_assoc (held s) a b;
  rest = omega (arith, p.rest, q.rest, length-append a b);
}

-- what is put after that
pub puts_after : {K X E : Type 0} {held : K → List ℕ} {left : K → ℕ} {s t : K} (a b : List ℕ) (u : K) (r : Result X E) →
    Took held left s a t → Puts held left t b u r → Puts held left s (a ++ b) u r
puts_after a b u r p q = MatchResult-weaker r q (λ x h. took_more a b p h) (λ e h. omega (arith, p.rest, length-append a b))

-- what a single put did
pub puts_from_adds : {K X : Type 0} (held : K → List ℕ) (left : K → ℕ) (s : K) (bs : List ℕ) (t : K) (r : Result X SinkFault) →
    Adds (λ e. e) held left s bs t r → Puts held left s bs t r
puts_from_adds held left s bs t r h = MatchResult-weaker r h (λ x k. k) (λ e k. k.short.over)

-- where there was no room for all of it
pub puts_short : {K X E : Type 0} (held : K → List ℕ) (left : K → ℕ) (s t : K) (bs : List ℕ) (r : Result X E) → is_err r ≡ true → left s < length bs → Puts held left s bs t r
puts_short held left s t bs r e h = MatchResult-from_err r _ _ e (λ y. h)

module _ (code : ℕ → List ℕ) (t : List ℕ) where
  -- one byte more
  pub coded_more : (i : ℕ) → i < length t → flat_map code (take (i + 1) t) ≡ flat_map code (take i t) ++ code (slice_index t i)
  coded_more i h =
      ap (flat_map code) (take_more t i 0 h) ∙ flat_map-append code (take i t) (slice_index t i ∷ [])
      ∙ ap (λ (l : List ℕ). flat_map code (take i t) ++ l) (append-nil (code (slice_index t i)))

  -- some bytes, and the others
  pub coded_split : (i : ℕ) → flat_map code t ≡ flat_map code (take i t) ++ flat_map code (drop i t)
  coded_split i = ap (flat_map code) (sym (take-append-drop i t)) ∙ flat_map-append code (take i t) (drop i t)

  -- some bytes, and some of the part behind them
  pub coded_part : (i n : ℕ) → flat_map code (take (i + n) t) ≡ flat_map code (take i t) ++ flat_map code (take n (take (length t - i) (drop i t)))
  coded_part i n =
      ap (flat_map code) (take-add i n t ∙ ap (λ (l : List ℕ). take i t ++ take n l) (sym (take_rest t i)))
      ∙ flat_map-append code (take i t) (take n (take (length t - i) (drop i t)))

  -- plain bytes at the front stay as they are
  coded_plain : (n : ℕ) (u : List ℕ) → ((k : ℕ) → k < n → code (slice_index u k) ≡ slice_index u k ∷ []) → flat_map code (take n u) ≡ take n u
  coded_plain zero u h = refl
  coded_plain (suc n) [] h = refl
  coded_plain (suc n) (b ∷ u) h = ap₂ ◌++◌ (h 0 (omega arith)) (coded_plain n u (λ k p. h (suc k) (omega arith)))

  -- so a run of them that was put is what their codes are
  pub plain_front : (n : ℕ) (run : List ℕ) → run ≡ take n t → ((k : ℕ) → k < n → code (slice_index t k) ≡ slice_index t k ∷ []) → run ≡ flat_map code (take n t)
  plain_front n run e h = e ∙ sym (coded_plain n t h)

  -- a run that ends at a byte with a code is not empty where the first byte is plain
  pub run_not_empty : (n : ℕ) → (n < length t → code (slice_index t n) ≢ slice_index t n ∷ []) → 0 < length t → code (slice_index t 0) ≡ slice_index t 0 ∷ [] → 0 < n
  run_not_empty zero h l e = absurd (h l e)
  run_not_empty (suc n) h l e = omega arith

  pub length_split : (i : ℕ) → length (flat_map code t) ≡ length (flat_map code (take i t)) + length (flat_map code (drop i t))
  length_split i = ap length (coded_split i) ∙ length-append (flat_map code (take i t)) (flat_map code (drop i t))

  -- a part's length, with what stands before it
  pub length_part : (i : ℕ) → length (flat_map code t) ≡ length (flat_map code (take i t)) + length (flat_map code (take (length t - i) (drop i t)))
  length_part i = length_split i ∙ ap (λ (l : List ℕ). length (flat_map code (take i t)) + length (flat_map code l)) (sym (take_rest t i))

  pub length_more : (i : ℕ) → i < length t → length (flat_map code (take (i + 1) t)) ≡ length (flat_map code (take i t)) + length (code (slice_index t i))
  length_more i h = ap length (coded_more i h) ∙ length-append (flat_map code (take i t)) (code (slice_index t i))

-- a framed part from its front to its end
pub framing_is : (before : Label → List ℕ) (code : ℕ → List ℕ) (after : Label → List ℕ) (r : Role) (t : List ℕ) →
    framing before code after (part_of r t) ≡ edge before (part_of r []) ++ (flat_map code t ++ edge after (part_of r []))
framing_is before code after Error t = refl
framing_is before code after Valid t = refl
framing_is before code after Invalid t = refl
framing_is before code after Literal t = refl
framing_is before code after Fixed t = sym (append-nil (flat_map code t))
framing_is before code after Given t = refl
framing_is before code after Ready t = refl

pub length_framing : (before : Label → List ℕ) (code : ℕ → List ℕ) (after : Label → List ℕ) (r : Role) (t : List ℕ) →
    length (framing before code after (part_of r t)) ≡ length (edge before (part_of r [])) + length (flat_map code t) + length (edge after (part_of r []))
length_framing before code after r t =
    let a = edge before (part_of r []) in
    let b = edge after (part_of r []) in
    omega (arith, ap length (framing_is before code after r t), length-append a (flat_map code t ++ b), length-append (flat_map code t) b)
