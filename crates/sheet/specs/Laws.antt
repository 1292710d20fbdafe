-- What holds of parts and of the three sheets.
use Rattle.std.specs.Prelude.{◌≡◌, ℕ, List, ◌++◌}
use Rattle.std.specs.List.{AllByRecursion}
use Rattle.builder.specs.Roles.{style_of, standard}
use Rattle.builder.specs.declared.styling.StyledRole.{StyledRole}
use Rattle.builder.specs.declared.styling.Styles.{Styles}
use Rattle.sheet.specs.Ecma48.{reading, all_in}
use Rattle.sheet.specs.Page.{Elements, element, page_by}
use Rattle.sheet.specs.Parts.{Text, Label, Part, labelled, tidy, Tidy, symbols, symbols_by, fixed}
use Rattle.sheet.specs.Sheets.{showing, Legible}
use Rattle.sheet.specs.Terminal.{style_for, terminal, Clear, Readable, NonePlain}

-- the tidy list of any list is tidy, and a tidy list is its own
abbrev pub TidyTidies : Type 0
TidyTidies = ((ps : List Part) → Tidy (tidy ps)) × ((ps : List Part) → Tidy ps → tidy ps ≡ ps)

-- two lists have one tidy list exactly if they say the same symbols
abbrev pub TidySays : Type 0
TidySays = (p q : List Part) → (tidy p ≡ tidy q → symbols p ≡ symbols q) × (symbols p ≡ symbols q → tidy p ≡ tidy q)

-- tidying changes no showing, where two fixed texts joined show as their showings joined
abbrev pub TidyShows : Type 0
TidyShows =
    (show : Part → List ℕ) → ((a b : Text) → show (fixed (a ++ b)) ≡ show (fixed a) ++ show (fixed b)) →
    (ps : List Part) → showing show (tidy ps) ≡ showing show ps

-- a page is legible under any six names that it may have
abbrev pub PagesLegible : Type 0
PagesLegible = (name : Label → Text) → Elements name → Legible (page_by name)

-- the page sheet's six are such names
abbrev pub PageElements : Type 0
PageElements = Elements element

-- a terminal shows a part's text in its role's style, and is in the default rendition before and after
abbrev pub TerminalRenders : Type 0
TerminalRenders = (s : Styles) (l : Label) (t : Text) → Clear t → reading (terminal s (labelled l t)) ≡ all_in (style_for s l) t

-- it is legible under no styles: fixed wording and a given text can look alike
abbrev pub TerminalIllegible : Type 0
TerminalIllegible = (s : Styles) → Legible (terminal s) → ⊥

-- where no style is plain, a terminal tells what was said, up to roles of one style
abbrev pub TerminalTells : Type 0
TerminalTells =
    (s : Styles) → NonePlain s → (p q : List Part) → AllByRecursion Readable p → AllByRecursion Readable q →
    showing (terminal s) p ≡ showing (terminal s) q → symbols_by (style_for s) p ≡ symbols_by (style_for s) q

-- in the standard colours it tells the roles too
abbrev pub StandardTells : Type 0
StandardTells =
    (s : Styles) → ((q : StyledRole) → style_of s q ≡ standard q) → (p q : List Part) → AllByRecursion Readable p → AllByRecursion Readable q →
    showing (terminal s) p ≡ showing (terminal s) q → tidy p ≡ tidy q
