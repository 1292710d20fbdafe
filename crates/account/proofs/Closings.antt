-- What closes a message: a gap, a usage, an ending. Each is read back.
use Rattle.std.proofs.Common.{◌≡◌, Bool, true, false, [], ◌∷◌, ◌++◌, Some, None, codes, refl}
use mathlib.Core.Option.{none, some}
use Rattle.std.specs.declared.option.Option as std
use Rattle.sheet.specs.Parts.{Text, byte, whole, erased}
use Rattle.account.specs.Account.{Ending, flag, closed, bare}
use Rattle.account.specs.Wording.{gapped, used, ended}
use Rattle.account.proofs.Readers.{Stream, Reader, first_of, lit, hole}
use Rattle.account.proofs.Segments.{Segment}

-- the end of the message
pub data AtEnd : Stream → Type 0 where
  at_end : AtEnd []

-- where an ending may stand: nothing, a line's end and no more, or an empty line and the F of its sentence
pub data AtEnding : Stream → Type 0 where
  no_ending : AtEnding []
  line_end : AtEnding (byte 10 ∷ [])
  sentence : {s : Stream} → AtEnding (byte 10 ∷ byte 10 ∷ byte 70 ∷ s)

abbrev pub read_ending : Reader Ending
read_ending = first_of
    (lit (10 ∷ 10 ∷ codes "For more information, try '") (hole λ f. lit (codes "'.") (lit (10 ∷ []) (λ s. some (flag f, s))))
    ∷ lit (10 ∷ []) (λ s. some (closed, s))
    ∷ (λ s. some (bare, s))
    ∷ [])

pub ending_begins : (e : Ending) (s : Stream) → AtEnd s → AtEnding (erased (ended e) ++ s)
ending_begins (flag f) s at_end = sentence
ending_begins closed s at_end = line_end
ending_begins bare s at_end = no_ending

pub ending_reads : (e : Ending) (s : Stream) → AtEnd s → Unit {0} → read_ending (erased (ended e) ++ s) ≡ some (e, s)
ending_reads (flag f) s at_end h = refl
ending_reads closed s at_end h = refl
ending_reads bare s at_end h = refl

abbrev pub ending_segment : Segment Ending AtEnding AtEnd
ending_segment = record {
  write = λ e. erased (ended e);
  read = read_ending;
  Fits = λ e s. Unit {0};
  begins = ending_begins;
  reads = ending_reads;
}

-- where a usage may stand: what an ending begins with, or an empty line and a ready text
pub data AtUsage : Stream → Type 0 where
  no_usage : {s : Stream} → AtEnding s → AtUsage s
  usage : {u : Text} {s : Stream} → AtUsage (byte 10 ∷ byte 10 ∷ whole tt u ∷ s)

abbrev pub read_usage : Reader (std.Option Text)
read_usage = first_of
    (lit (10 ∷ 10 ∷ []) (hole λ u s. some (Some u, s))
    ∷ (λ s. some (None, s))
    ∷ [])

pub usage_begins : (u : std.Option Text) (s : Stream) → AtEnding s → AtUsage (erased (used u) ++ s)
usage_begins None s h = no_usage h
usage_begins (Some u) s h = usage

pub usage_reads : (u : std.Option Text) (s : Stream) → AtEnding s → Unit {0} → read_usage (erased (used u) ++ s) ≡ some (u, s)
usage_reads None s no_ending h = refl
usage_reads None s line_end h = refl
usage_reads None s sentence h = refl
usage_reads (Some u) s k h = refl

abbrev pub usage_segment : Segment (std.Option Text) AtUsage AtEnding
usage_segment = record {
  write = λ u. erased (used u);
  read = read_usage;
  Fits = λ u s. Unit {0};
  begins = usage_begins;
  reads = usage_reads;
}

-- where a gap may stand: what a usage begins with, or that behind a line's end
pub data AtGap : Stream → Type 0 where
  no_gap : {s : Stream} → AtUsage s → AtGap s
  gap : {s : Stream} → AtUsage s → AtGap (byte 10 ∷ s)

-- a gap has something behind it
abbrev pub SomeRest : Bool → Stream → Type 0
SomeRest true [] = ⊥
SomeRest true (x ∷ s) = Unit {0}
SomeRest false s = Unit {0}

-- a line's end is a gap if an empty line follows it, or if it is followed by the message's last line's end
abbrev pub last_line : Reader Bool
last_line [] = some (true, byte 10 ∷ [])
last_line (x ∷ s) = none

abbrev pub read_gap : Reader Bool
read_gap = first_of
    (lit (10 ∷ 10 ∷ 10 ∷ []) (λ s. some (true, byte 10 ∷ byte 10 ∷ s))
    ∷ lit (10 ∷ 10 ∷ []) last_line
    ∷ (λ s. some (false, s))
    ∷ [])

pub gap_begins : (g : Bool) (s : Stream) → AtUsage s → AtGap (erased (gapped g) ++ s)
gap_begins true s h = gap h
gap_begins false s h = no_gap h

pub gap_reads : (g : Bool) (s : Stream) → AtUsage s → SomeRest g s → read_gap (erased (gapped g) ++ s) ≡ some (g, s)
gap_reads true s (no_usage no_ending) h = absurd h
gap_reads true s (no_usage line_end) h = refl
gap_reads true s (no_usage sentence) h = refl
gap_reads true s usage h = refl
gap_reads false s (no_usage no_ending) h = refl
gap_reads false s (no_usage line_end) h = refl
gap_reads false s (no_usage sentence) h = refl
gap_reads false s usage h = refl

abbrev pub gap_segment : Segment Bool AtGap AtUsage
gap_segment = record {
  write = λ g. erased (gapped g);
  read = read_gap;
  Fits = SomeRest;
  begins = gap_begins;
  reads = gap_reads;
}
