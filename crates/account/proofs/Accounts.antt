-- A message is read back, segment by segment, so accounts that are said alike are equal.
use Rattle.std.proofs.Common.{◌≡◌, Bool, true, false, List, [], ◌++◌, map, Some, None, sym, refl, ap, ◌∙◌}
use mathlib.Core.Option.{Option, none, some, some-injective}
use Rattle.std.specs.declared.option.Option as std
use Rattle.std.proofs.lemmas.List.{append-nil}
use Rattle.std.proofs.lemmas.Bool.{true≢false}
use Rattle.sheet.specs.Symbols.{same_symbols}
use Rattle.sheet.specs.Parts.{Text, relabel, erased}
use Rattle.account.specs.Account.{Opening, Tip, Ending, flag, closed, bare, Account, Proper}
use Rattle.account.specs.Laws.{OneReading, ReadingWithoutRoles, GapAsLine}
use Rattle.account.specs.Wording.{opened, advised, gapped, used, ended, parts}
use Rattle.account.proofs.Closings.{AtEnd, at_end, SomeRest, gap_segment, usage_segment, ending_segment}
use Rattle.account.proofs.Openings.{Anything, opening_segment}
use Rattle.account.proofs.Readers.{Stream, erased_append}
use Rattle.account.proofs.Segments.{Segment, then}
use Rattle.account.proofs.Tips.{tips_segment}

-- the fields of an account, in the order in which they stand in a message
abbrev Fields : Type 0
Fields = Opening × (List Tip × (Bool × (std.Option Text × Ending)))

abbrev fields_of : Account → Fields
fields_of a = (a.opening, (a.tips, (a.gap, (a.usage, a.ending))))

abbrev account_of : Fields → Account
account_of f = record { opening = f.0; tips = f.1.0; gap = f.1.1.0; usage = f.1.1.1.0; ending = f.1.1.1.1 }

abbrev message : Segment Fields Anything AtEnd
message = then opening_segment (then tips_segment (then gap_segment (then usage_segment ending_segment)))

writes : (a : Account) → erased (parts a) ≡ message.write (fields_of a)
writes a =
    erased_append (opened a.opening) _ ∙ ap (λ (z : Stream). erased (opened a.opening) ++ z)
    (erased_append (advised a.tips) _ ∙ ap (λ (z : Stream). erased (advised a.tips) ++ z)
    (erased_append (gapped a.gap) _ ∙ ap (λ (z : Stream). erased (gapped a.gap) ++ z)
    (erased_append (used a.usage) (ended a.ending))))

-- something stands behind a proper account's gap
gap_fits : (g : Bool) (u : std.Option Text) (e : Ending) → (g ≡ true → e ≡ bare → ⊥) → SomeRest g ((erased (used u) ++ erased (ended e)) ++ [])
gap_fits true None (flag f) h = tt
gap_fits true None closed h = tt
gap_fits true None bare h = h refl refl
gap_fits true (Some u) e h = tt
gap_fits false u e h = tt

abbrev told : Option (Fields × Stream) → Option Account
told none = none
told (some r) = some (account_of r.0)

abbrev read : Stream → Option Account
read s = told (message.read s)

reads : (a : Account) → Proper a → read (erased (parts a)) ≡ some a
reads a h =
    ap read (writes a ∙ sym (append-nil (message.write (fields_of a)))) ∙
    ap told (message.reads (fields_of a) [] at_end (h.numbers, (tt, (gap_fits a.gap a.usage a.ending h.ends, (tt, tt)))))

pub reading_without_roles : ReadingWithoutRoles
reading_without_roles a b g h e = some-injective a b (sym (reads a g) ∙ ap read e ∙ reads b h)

pub one_reading : OneReading
one_reading a b g h e = reading_without_roles a b g h (ap (map (relabel (λ l. tt))) (same_symbols (parts a) (parts b) e))

pub gap_as_line : GapAsLine
gap_as_line = (refl, λ e. let f : true ≡ false = ap (λ (a : Account). a.gap) e in true≢false f)
