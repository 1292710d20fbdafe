-- Segments of a message, one behind the other: each is read back whatever stands behind it, and so are all of them.
use Rattle.std.proofs.Common.{◌≡◌, ◌++◌, sym, ap, ◌∙◌, subst}
use mathlib.Core.Option.{Option, none, some}
use Rattle.std.proofs.lemmas.List.{append_assoc}
use Rattle.account.proofs.Readers.{Stream, Reader}

-- A segment that tells an A. Next is what may stand behind it, and Here what then stands in its place. Fits is what else is asked of an A and of what stands behind it.
pub record Segment (A : Type 0) (Here Next : Stream → Type 0) : Type 1 where
  pub write : A → Stream
  pub read : Reader A
  pub Fits : A → Stream → Type 0
  pub begins : (x : A) (s : Stream) → Next s → Here (write x ++ s)
  pub reads : (x : A) (s : Stream) → Next s → Fits x s → read (write x ++ s) ≡ some (x, s)

-- what was read first, with what is read behind it
abbrev both : {A B : Type 0} → A → Option (B × Stream) → Option ((A × B) × Stream)
both a none = none
both a (some q) = some ((a, q.0), q.1)

abbrev read_on : {A B : Type 0} → Reader B → Option (A × Stream) → Option ((A × B) × Stream)
read_on g none = none
read_on g (some r) = both r.0 (g r.1)

module _ {A B : Type 0} {Here Middle Next : Stream → Type 0} (p : Segment A Here Middle) (q : Segment B Middle Next) where
  abbrev write_then : A × B → Stream
  write_then x = p.write x.0 ++ q.write x.1

  pub begins_then : (x : A × B) (s : Stream) → Next s → Here (write_then x ++ s)
  begins_then x s h = subst Here (sym (append_assoc (p.write x.0) (q.write x.1) s)) (p.begins x.0 (q.write x.1 ++ s) (q.begins x.1 s h))

  pub reads_then : (x : A × B) (s : Stream) → Next s → p.Fits x.0 (q.write x.1 ++ s) × q.Fits x.1 s → read_on q.read (p.read (write_then x ++ s)) ≡ some (x, s)
  reads_then x s h f =
      ap (λ (z : Stream). read_on q.read (p.read z)) (append_assoc (p.write x.0) (q.write x.1) s) ∙
      ap (read_on q.read) (p.reads x.0 (q.write x.1 ++ s) (q.begins x.1 s h) f.0) ∙
      ap (both x.0) (q.reads x.1 s h f.1)

  -- one segment and then another
  abbrev pub then : Segment (A × B) Here Next
  then = record {
    write = write_then;
    read = λ s. read_on q.read (p.read s);
    Fits = λ x s. p.Fits x.0 (q.write x.1 ++ s) × q.Fits x.1 s;
    begins = begins_then;
    reads = reads_then;
  }
