-- Tips are read back.
use Rattle.std.proofs.Common.{◌≡◌, List, [], ◌∷◌, ◌++◌, codes, refl, ap, ◌∙◌, arith}
use mathlib.Core.Option.{Option, none, some}
use Rattle.std.specs.List.{flat_map}
use Rattle.sheet.specs.Loops.{many, many_reads}
use Rattle.sheet.specs.Parts.{Text, byte, erased}
use Rattle.account.specs.Account.{Word, subcommand, argument, value, Tip, similar, bare_tip, ready_tip}
use Rattle.account.specs.Wording.{next_similar, tip, advised}
use Rattle.account.proofs.Closings.{no_usage, usage, no_ending, line_end, sentence, AtGap, no_gap, gap}
use Rattle.account.proofs.Readers.{Stream, Reader, else, first_of, lit, hole, erased_joined}
use Rattle.account.proofs.Segments.{Segment}

-- what may follow a tip: nothing, or a line's end
pub data Follows : Stream → Type 0 where
  ends : Follows []
  goes_on : {s : Stream} → Follows (byte 10 ∷ s)

-- where tips may stand: nothing, a line's end and no more, or an empty line
pub data AtTips : Stream → Type 0 where
  no_line : AtTips []
  line : AtTips (byte 10 ∷ [])
  empty_line : {s : Stream} → AtTips (byte 10 ∷ byte 10 ∷ s)

abbrev pub read_word : {Z : Type 0} → (Word → Stream → Option Z) → Stream → Option Z
read_word k = first_of (lit (codes "subcommand") (k subcommand) ∷ lit (codes "argument") (k argument) ∷ lit (codes "value") (k value) ∷ [])

abbrev pub read_name : Reader Text
read_name = lit (codes ", '") (hole λ n. lit (codes "'") (λ s. some (n, s)))

abbrev pub read_names : Stream → List Text × Stream
read_names s =
    else (lit (codes "'") (hole λ n. lit (codes "'") (λ s. let r = many read_name s in some (n ∷ r.0, r.1))) s) ([], s)

abbrev pub read_tip : Reader Tip
read_tip = lit (10 ∷ 32 ∷ 32 ∷ []) (hole λ label. first_of
    (lit (codes " a similar ") (read_word λ w. lit (codes " exists: '") (hole λ n. lit (codes "'") (λ s. some (similar w (n ∷ []), s))))
    ∷ lit (codes " some similar ") (read_word λ w. lit (codes "s exist: ") (λ s. let r = read_names s in some (similar w r.0, r.1)))
    ∷ lit (codes " ") (hole λ t s. some (ready_tip t, s))
    ∷ (λ s. some (bare_tip, s))
    ∷ []))

name_stops : {s : Stream} → Follows s → read_name s ≡ none
name_stops ends = refl
name_stops goes_on = refl

names_read : (ns : List Text) {s : Stream} → Follows s → many read_name (erased (flat_map next_similar ns) ++ s) ≡ (ns, s)
names_read ns {s} f =
    ap (λ (z : Stream). many read_name (z ++ s)) (erased_joined next_similar ns) ∙
    many_reads read_name (λ n. erased (next_similar n)) (λ z. Unit {0}) (λ n z u. refl) (λ n. omega arith) s (name_stops f) (λ xs. tt) ns

similar_reads : (w : Word) (ns : List Text) {s : Stream} → Follows s → read_tip (erased (tip (similar w ns)) ++ s) ≡ some (similar w ns, s)
similar_reads subcommand [] ends = refl
similar_reads subcommand [] goes_on = refl
similar_reads subcommand (n ∷ []) f = refl
similar_reads subcommand (n ∷ m ∷ ns) f = ap (λ (r : List Text × Stream). some (similar subcommand (n ∷ r.0), r.1)) (names_read (m ∷ ns) f)
similar_reads argument [] ends = refl
similar_reads argument [] goes_on = refl
similar_reads argument (n ∷ []) f = refl
similar_reads argument (n ∷ m ∷ ns) f = ap (λ (r : List Text × Stream). some (similar argument (n ∷ r.0), r.1)) (names_read (m ∷ ns) f)
similar_reads value [] ends = refl
similar_reads value [] goes_on = refl
similar_reads value (n ∷ []) f = refl
similar_reads value (n ∷ m ∷ ns) f = ap (λ (r : List Text × Stream). some (similar value (n ∷ r.0), r.1)) (names_read (m ∷ ns) f)

tip_reads : (t : Tip) (s : Stream) → Follows s → read_tip (erased (tip t) ++ s) ≡ some (t, s)
tip_reads (similar w ns) s f = similar_reads w ns f
tip_reads bare_tip s ends = refl
tip_reads bare_tip s goes_on = refl
tip_reads (ready_tip t) s f = refl

-- tips stand behind an empty line; where there is none, nothing is taken
abbrev pub kept : Stream → List Tip × Stream → List Tip × Stream
kept s r = elim r.0 [ [] ↦ ([], s) | t ∷ ts ↦ r ]

abbrev pub read_tips : Reader (List Tip)
read_tips [] = some ([], [])
read_tips (x ∷ s) = some (kept (x ∷ s) (many read_tip s))

pub tips_begin : (ts : List Tip) (s : Stream) → AtGap s → AtTips (erased (advised ts) ++ s)
tips_begin [] s (no_gap (no_usage no_ending)) = no_line
tips_begin [] s (no_gap (no_usage line_end)) = line
tips_begin [] s (no_gap (no_usage sentence)) = empty_line
tips_begin [] s (no_gap usage) = empty_line
tips_begin [] s (gap (no_usage no_ending)) = line
tips_begin [] s (gap (no_usage line_end)) = empty_line
tips_begin [] s (gap (no_usage sentence)) = empty_line
tips_begin [] s (gap usage) = empty_line
tips_begin (t ∷ ts) s h = empty_line

tip_stops : {s : Stream} → AtTips s → read_tip s ≡ none
tip_stops no_line = refl
tip_stops line = refl
tip_stops empty_line = refl

follows : {s : Stream} → AtTips s → Follows s
follows no_line = ends
follows line = goes_on
follows empty_line = goes_on

some_tips_read : (ts : List Tip) {s : Stream} → AtTips s → many read_tip (erased (flat_map tip ts) ++ s) ≡ (ts, s)
some_tips_read ts {s} h =
    ap (λ (z : Stream). many read_tip (z ++ s)) (erased_joined tip ts) ∙
    many_reads read_tip (λ t. erased (tip t)) Follows tip_reads (λ t. omega arith) s (tip_stops h) behind ts
  where
    behind : (xs : List Tip) → Follows (flat_map (λ t. erased (tip t)) xs ++ s)
    behind [] = follows h
    behind (x ∷ xs) = goes_on

pub tips_read : (ts : List Tip) (s : Stream) → AtGap s → Unit {0} → read_tips (erased (advised ts) ++ s) ≡ some (ts, s)
tips_read [] s (no_gap (no_usage no_ending)) u = refl
tips_read [] s (no_gap (no_usage line_end)) u = refl
tips_read [] s (no_gap (no_usage sentence)) u = refl
tips_read [] s (no_gap usage) u = refl
tips_read [] s (gap (no_usage no_ending)) u = refl
tips_read [] s (gap (no_usage line_end)) u = refl
tips_read [] s (gap (no_usage sentence)) u = refl
tips_read [] s (gap usage) u = refl
tips_read (t ∷ ts) s h u =
    ap (λ (r : List Tip × Stream). some (kept (erased (advised (t ∷ ts)) ++ s) r)) (some_tips_read (t ∷ ts) (tips_begin [] s h))

abbrev pub tips_segment : Segment (List Tip) AtTips AtGap
tips_segment = record {
  write = λ ts. erased (advised ts);
  read = read_tips;
  Fits = λ ts s. Unit {0};
  begins = tips_begin;
  reads = tips_read;
}
