-- What came of bytes that were to be added to a sink.
use Rattle.std.specs.Prelude.{◌≡◌, ℕ, ◌+◌, ◌<◌, ◌≤◌, List, ◌++◌, length, Result, MatchResult}
use Rattle.sink.specs.declared.fault.SinkFault.{SinkFault}
use Rattle.util.specs.Lengths.{told}

-- the fault that names n bytes wanted where fewer are left
pub record Short (n left : ℕ) (e : SinkFault) : Type 0 where
  pub over : left < n
  pub wanted : e.wanted ≡ told n
  pub room : e.left ≡ left

-- all of the bytes joined the held ones at the end
pub record Took {K : Type 0} (held : K → List ℕ) (left : K → ℕ) (s : K) (bs : List ℕ) (t : K) : Type 0 where
  pub fits : length bs ≤ left s
  pub holds : held t ≡ held s ++ bs
  pub rest : left t + length bs ≡ left s

-- they were more than are left, and the sink is as it was
pub record Refuses {K : Type 0} (left : K → ℕ) (s : K) (bs : List ℕ) (t : K) (e : SinkFault) : Type 0 where
  pub short : Short (length bs) (left s) e
  pub same : t ≡ s

-- From the sink s bytes were to be added, which left t and answered r; an error names a sink's fault.
abbrev pub Adds : {K X E : Type 0} → (E → SinkFault) → (K → List ℕ) → (K → ℕ) → K → List ℕ → K → Result X E → Type 0
Adds fault held left s bs t r = MatchResult r (λ _. Took held left s bs t) (λ e. Refuses left s bs t (fault e))
