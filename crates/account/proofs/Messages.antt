-- Printed messages tell their accounts.
use Rattle.std.proofs.Common.{◌≡◌, ℕ, List, [], ◌∷◌, map, sym, refl, ap, ◌∙◌}
use Rattle.builder.specs.declared.styling.Styles.{Styles}
use Rattle.sheet.specs.Symbols.{showing_tidy, tidy_is_tidy}
use Rattle.sheet.proofs.Terminals.{terminal_tells, standard_tells}
use Rattle.sheet.specs.Kept.{terminal_joins}
use Rattle.sheet.specs.Parts.{Text, Label, Part, fixed, labelled, OfTexts, ahead, tidy, Symbol, byte, whole, relabel, symbols, symbols_by, erased}
use Rattle.sheet.specs.Sheets.{showing}
use Rattle.sheet.specs.Terminal.{style_for, terminal}
use Rattle.util.proofs.Texts.{text_append}
use Rattle.util.specs.Text.{IsText}
use Rattle.account.specs.Account.{Account}
use Rattle.account.specs.Laws.{Tells, LegibleTells, TerminalMessages, StandardMessages}
use Rattle.account.specs.Wording.{parts, printed}
use Rattle.account.proofs.Accounts.{one_reading, reading_without_roles}

-- equal accounts print alike
tells : (show : Part → List ℕ) (a b : Account) → (printed show a ≡ printed show b → a ≡ b) → Tells show a b
tells show a b h = (h, λ e. ap (printed show) e)

-- tidying keeps texts
ahead_texts : (t : Text) (ps : List Part) → IsText t → OfTexts ps → OfTexts (ahead t ps)
ahead_texts [] ps h k = k
ahead_texts (b ∷ t) [] h k = (h, tt)
ahead_texts (b ∷ t) (fixed u ∷ ps) h k = (text_append (b ∷ t) u h k.0, k.1)
ahead_texts (b ∷ t) (labelled l u ∷ ps) h k = (h, k)

tidy_texts : (ps : List Part) → OfTexts ps → OfTexts (tidy ps)
tidy_texts [] h = tt
tidy_texts (fixed t ∷ ps) h = ahead_texts t (tidy ps) h.0 (tidy_texts ps h.1)
tidy_texts (labelled l t ∷ ps) h = (h.0, tidy_texts ps h.1)

pub legible_tells : LegibleTells
legible_tells show legible a b g h p q =
    tells show a b (λ e. one_reading a b g h
    (legible (tidy (parts a)) (tidy (parts b)) (tidy_is_tidy (parts a)) (tidy_is_tidy (parts b)) (tidy_texts (parts a) p) (tidy_texts (parts b) q) e))

-- what is known of labels can be forgotten
abbrev unlabelled : {L : Type 0} → List (Symbol L) → List (Symbol (Unit {0}))
unlabelled s = map (relabel (λ l. tt)) s

forgotten : {L : Type 0} (f : Label → L) (s : List (Symbol Label)) → unlabelled (map (relabel f) s) ≡ unlabelled s
forgotten f [] = refl
forgotten f (byte b ∷ s) = ap (λ (z : List (Symbol (Unit {0}))). byte b ∷ z) (forgotten f s)
forgotten f (whole l t ∷ s) = ap (λ (z : List (Symbol (Unit {0}))). whole tt t ∷ z) (forgotten f s)

same_erased : {L : Type 0} (f : Label → L) (p q : List Part) → symbols_by f p ≡ symbols_by f q → erased p ≡ erased q
same_erased f p q e = sym (forgotten f (symbols p)) ∙ ap unlabelled e ∙ forgotten f (symbols q)

-- the showing of a tidy list is that of the list
untidied : (s : Styles) (p q : List Part) → showing (terminal s) (tidy p) ≡ showing (terminal s) (tidy q) → showing (terminal s) p ≡ showing (terminal s) q
untidied s p q e = sym (showing_tidy (terminal s) (terminal_joins s) p) ∙ e ∙ showing_tidy (terminal s) (terminal_joins s) q

pub terminal_messages : TerminalMessages
terminal_messages s styled a b g h p q =
    tells (terminal s) a b (λ e. reading_without_roles a b g h
    (same_erased (style_for s) (parts a) (parts b) (terminal_tells s styled (parts a) (parts b) p q (untidied s (parts a) (parts b) e))))

pub standard_messages : StandardMessages
standard_messages s colours a b g h p q =
    tells (terminal s) a b (λ e. one_reading a b g h (standard_tells s colours (parts a) (parts b) p q (untidied s (parts a) (parts b) e)))
