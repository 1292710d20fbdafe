-- Readers of a message's symbols, roles erased: fixed words, one labelled text, the first reader of several that reads.
use Rattle.std.proofs.Common.{◌≡◌, true, false, eqb, List, [], ◌∷◌, ◌++◌, refl, ap, ◌∙◌}
use mathlib.Core.Option.{Option, none, some}
use Rattle.std.specs.List.{flat_map}
use Rattle.sheet.specs.Parts.{Text, Part, Symbol, byte, whole, erased}
use Rattle.sheet.specs.Symbols.{symbols_by_append}

abbrev pub Stream : Type 0
Stream = List (Symbol (Unit {0}))

-- what is read, and what is left
abbrev pub Reader : Type 0 → Type 0
Reader X = Stream → Option (X × Stream)

abbrev pub or : {Z : Type 0} → Option Z → Option Z → Option Z
or (some z) o = some z
or none o = o

abbrev pub else : {Z : Type 0} → Option Z → Z → Z
else (some z) d = z
else none d = d

abbrev pub first_of : {Z : Type 0} → List (Stream → Option Z) → Stream → Option Z
first_of [] s = none
first_of (f ∷ fs) s = or (f s) (first_of fs s)

-- these words, and then what k reads
abbrev pub lit : {Z : Type 0} → Text → (Stream → Option Z) → Stream → Option Z
lit [] k s = k s
lit (c ∷ cs) k [] = none
lit (c ∷ cs) k (byte b ∷ s) = elim (eqb b c) [ true ↦ lit cs k s | false ↦ none ]
lit (c ∷ cs) k (whole l t ∷ s) = none

-- a labelled text, and then what k reads
abbrev pub hole : {Z : Type 0} → (Text → Stream → Option Z) → Stream → Option Z
hole k [] = none
hole k (byte b ∷ s) = none
hole k (whole l t ∷ s) = k t s

pub erased_append : (p q : List Part) → erased (p ++ q) ≡ erased p ++ erased q
erased_append p q = symbols_by_append (λ l. tt) p q

pub erased_joined : {X : Type 0} (f : X → List Part) (xs : List X) → erased (flat_map f xs) ≡ flat_map (λ x. erased (f x)) xs
erased_joined f [] = refl
erased_joined f (x ∷ xs) = erased_append (f x) (flat_map f xs) ∙ ap (λ (z : Stream). erased (f x) ++ z) (erased_joined f xs)
