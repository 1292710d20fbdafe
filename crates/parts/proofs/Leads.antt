-- What is still to be told of a list of parts.
use Rattle.std.proofs.Common.{◌≡◌, ℕ, ◌+◌, ◌<◌, List, [], ◌∷◌, ◌++◌, length, get_or, drop, IsErrAnd, Ok, Err, Result, sym, subst, MatchResult}
use Rattle.std.proofs.lemmas.Result.{err_from_is_err_and}
use Rattle.std.proofs.lemmas.List.{at_drop_more}
use Rattle.sheet.specs.Parts.{Part}
use Rattle.sheet.specs.Roles.{told_part}
use Rattle.sheet.specs.declared.part.Part.{Part as Piece}
use Rattle.parts.specs.Takers.{Laws, Tells}
use Rattle.parts.specs.Told.{parts_of}

-- `all` is told from s on; at t there is `rest` to tell.
pub record Leads {C : Type 0} (steps : C → List Part → C → Type 0) (fails : C → List Part → Type 0) (s : C) (all : List Part) (t : C) (rest : List Part) : Type 0 where
  pub done : (u : C) → steps t rest u → steps s all u
  pub halt : fails t rest → fails s all

module _ {C : Type 0} {steps : C → List Part → C → Type 0} {fails : C → List Part → Type 0} (laws : Laws steps fails) {s : C} {all : List Part} where
  -- a call that told `ps` leaves the rest
  pub next : {t u : C} (ps rest : List Part) → Leads steps fails s all t (ps ++ rest) → steps t ps u → Leads steps fails s all u rest
  next {t = t} {u = u} ps rest l p = record { done = λ v q. l.done v (laws.more t u v ps rest p q); halt = λ f. l.halt (laws.after t u ps rest p f) }

  -- a call that fails
  pub stop : {t : C} (ps rest : List Part) → Leads steps fails s all t (ps ++ rest) → fails t ps → fails s all
  stop {t = t} ps rest l f = l.halt (laws.ahead t ps rest f)

  -- the exit of a `?`
  pub exit : {T E : Type 0} (Q : E → Type 0) {t : C} (ps rest : List Part) (u : C) (r : Result T E) → Leads steps fails s all t (ps ++ rest) → fails t ps → IsErrAnd r Q → Tells steps fails s all u r
  exit Q ps rest u r l f b = let p = err_from_is_err_and r b in rw p.1 (stop ps rest l f)

  -- all is told
  pub end : {t : C} → Leads steps fails s all t [] → steps s all t
  end {t = t} l = l.done t (laws.none t)

  -- the last call, whose answer is handed on
  pub last : {T E : Type 0} {t : C} {rest : List Part} (u : C) (r : Result T E) → Leads steps fails s all t rest → Tells steps fails t rest u r → Tells steps fails s all u r
  last u (Ok x) l p = l.done u p
  last u (Err e) l f = l.halt f

  -- one part of several
  pub at_part : {t : C} (xs : List Piece) (i : ℕ) (d : Piece) → i < length xs → Leads steps fails s all t (parts_of (drop i xs))
      → Leads steps fails s all t ((told_part (get_or xs i d) ∷ []) ++ parts_of (drop (i + 1) xs))
  at_part xs i d h l = rw (at_drop_more parts_of xs i d h) at l

-- what is to tell, in other words
pub begin : {C : Type 0} {steps : C → List Part → C → Type 0} {fails : C → List Part → Type 0} {s : C} (all rest : List Part) → all ≡ rest → Leads steps fails s all s rest
begin {C = C} {steps = steps} {fails = fails} {s = s} all rest e = record {
  done = λ u p. (let P : List Part → Type 0 = λ k. steps s k u in subst P (sym e) p);
  halt = λ f. (let P : List Part → Type 0 = λ k. fails s k in subst P (sym e) f);
}

-- a taker that refuses nothing has taken it
pub never_refused : {T E : Type 0} (P : Type 0) (r : Result T E) → MatchResult r (λ _. P) (λ _. ⊥) → P
never_refused P (Ok x) h = h
never_refused P (Err e) h = absurd h
