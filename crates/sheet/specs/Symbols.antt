-- Lists of parts by their symbols: tidying keeps them, and they tell a tidy list. Proofs, and nothing to know of a sheet.
use Rattle.std.specs.Prelude.{◌≡◌, ℕ, List, [], ◌∷◌, ◌++◌, map, length, refl}
use Rattle.std.proofs.Common.{sym, ◌∙◌, ap, ap₂, arith}
use Rattle.std.specs.List.{flat_map}
use Rattle.std.proofs.lemmas.List.{append-nil, length-append, map-append, nil_from_length}
use Rattle.std.proofs.lemmas.Grind.{flat_map-append}
use Rattle.sheet.specs.Parts.{Text, Label, Part, fixed, labelled, ahead, tidy, Tidy, Symbol, byte, whole, symbols_of, symbols, relabel, symbols_by}
use Rattle.sheet.specs.Sheets.{showing}
use Rattle.sheet.specs.Laws.{TidyTidies, TidySays, TidyShows}

pub symbols_append : (p q : List Part) → symbols (p ++ q) ≡ symbols p ++ symbols q
symbols_append p q = flat_map-append symbols_of p q

pub symbols_by_append : {L : Type 0} (f : Label → L) (p q : List Part) → symbols_by f (p ++ q) ≡ symbols_by f p ++ symbols_by f q
symbols_by_append f p q = ap (map (relabel f)) (symbols_append p q) ∙ map-append (relabel f) (symbols p) (symbols q)

-- the tidy list of symbols, byte by byte
abbrev before : ℕ → List Part → List Part
before b [] = fixed (b ∷ []) ∷ []
before b (fixed t ∷ ps) = fixed (b ∷ t) ∷ ps
before b (labelled l t ∷ ps) = fixed (b ∷ []) ∷ labelled l t ∷ ps

abbrev gather : List (Symbol Label) → List Part
gather [] = []
gather (byte b ∷ s) = before b (gather s)
gather (whole l t ∷ s) = labelled l t ∷ gather s

before_ahead : (b : ℕ) (t : Text) (ps : List Part) → before b (ahead t ps) ≡ ahead (b ∷ t) ps
before_ahead b [] [] = refl
before_ahead b [] (fixed u ∷ ps) = refl
before_ahead b [] (labelled l u ∷ ps) = refl
before_ahead b (c ∷ t) [] = refl
before_ahead b (c ∷ t) (fixed u ∷ ps) = refl
before_ahead b (c ∷ t) (labelled l u ∷ ps) = refl

gather_bytes : (t : Text) (s : List (Symbol Label)) → gather (map byte t ++ s) ≡ ahead t (gather s)
gather_bytes [] s = refl
gather_bytes (b ∷ t) s = ap (before b) (gather_bytes t s) ∙ before_ahead b t (gather s)

gather_symbols : (ps : List Part) → gather (symbols ps) ≡ tidy ps
gather_symbols [] = refl
gather_symbols (fixed t ∷ ps) = gather_bytes t (symbols ps) ∙ ap (ahead t) (gather_symbols ps)
gather_symbols (labelled l t ∷ ps) = ap (λ (z : List Part). labelled l t ∷ z) (gather_symbols ps)

symbols_before : (b : ℕ) (ps : List Part) → symbols (before b ps) ≡ byte b ∷ symbols ps
symbols_before b [] = refl
symbols_before b (fixed t ∷ ps) = refl
symbols_before b (labelled l t ∷ ps) = refl

symbols_gather : (s : List (Symbol Label)) → symbols (gather s) ≡ s
symbols_gather [] = refl
symbols_gather (byte b ∷ s) = symbols_before b (gather s) ∙ ap (λ (z : List (Symbol Label)). byte b ∷ z) (symbols_gather s)
symbols_gather (whole l t ∷ s) = ap (λ (z : List (Symbol Label)). whole l t ∷ z) (symbols_gather s)

-- a tidy list says what the list says
pub symbols_tidy : (ps : List Part) → symbols (tidy ps) ≡ symbols ps
symbols_tidy ps = ap symbols (sym (gather_symbols ps)) ∙ symbols_gather (symbols ps)

pub same_symbols : (p q : List Part) → tidy p ≡ tidy q → symbols p ≡ symbols q
same_symbols p q e = sym (symbols_tidy p) ∙ ap symbols e ∙ symbols_tidy q

pub same_tidy : (p q : List Part) → symbols p ≡ symbols q → tidy p ≡ tidy q
same_tidy p q e = sym (gather_symbols p) ∙ ap gather e ∙ gather_symbols q

-- tidy lists are tidy
before_tidy : (b : ℕ) (ps : List Part) → Tidy ps → Tidy (before b ps)
before_tidy b [] h = tt
before_tidy b (fixed [] ∷ ps) h = absurd h
before_tidy b (fixed (c ∷ t) ∷ []) h = tt
before_tidy b (fixed (c ∷ t) ∷ fixed u ∷ ps) h = absurd h
before_tidy b (fixed (c ∷ t) ∷ labelled l u ∷ ps) h = h
before_tidy b (labelled l t ∷ ps) h = h

gather_tidy : (s : List (Symbol Label)) → Tidy (gather s)
gather_tidy [] = tt
gather_tidy (byte b ∷ s) = before_tidy b (gather s) (gather_tidy s)
gather_tidy (whole l t ∷ s) = gather_tidy s

pub tidy_is_tidy : (ps : List Part) → Tidy (tidy ps)
tidy_is_tidy ps = rw (← gather_symbols ps) (gather_tidy (symbols ps))

-- and their own
pub tidy_own : (ps : List Part) → Tidy ps → tidy ps ≡ ps
tidy_own [] h = refl
tidy_own (labelled l t ∷ ps) h = ap (λ (z : List Part). labelled l t ∷ z) (tidy_own ps h)
tidy_own (fixed [] ∷ ps) h = absurd h
tidy_own (fixed (b ∷ t) ∷ []) h = refl
tidy_own (fixed (b ∷ t) ∷ fixed u ∷ ps) h = absurd h
tidy_own (fixed (b ∷ t) ∷ labelled l u ∷ ps) h = ap (λ (z : List Part). fixed (b ∷ t) ∷ labelled l u ∷ z) (tidy_own ps h)

pub tidy_tidies : TidyTidies
tidy_tidies = (tidy_is_tidy, tidy_own)

pub tidy_says : TidySays
tidy_says p q = (same_symbols p q, same_tidy p q)

-- what a sheet shows of a symbol
abbrev pub shown_symbol : (Part → List ℕ) → Symbol Label → List ℕ
shown_symbol show (byte b) = show (fixed (b ∷ []))
shown_symbol show (whole l t) = show (labelled l t)

module _ (show : Part → List ℕ) (joins : (a b : Text) → show (fixed (a ++ b)) ≡ show (fixed a) ++ show (fixed b)) where
  empty_shows : show (fixed []) ≡ []
  empty_shows = nil_from_length (show (fixed [])) (let e = ap (λ (r : List ℕ). length r) (joins [] []) in omega (arith, length-append (show (fixed [])) (show (fixed []))))

  fixed_shows : (t : Text) → show (fixed t) ≡ flat_map (shown_symbol show) (map byte t)
  fixed_shows [] = empty_shows
  fixed_shows (b ∷ t) = joins (b ∷ []) t ∙ ap (λ (r : List ℕ). show (fixed (b ∷ [])) ++ r) (fixed_shows t)

  part_shows : (p : Part) → show p ≡ flat_map (shown_symbol show) (symbols_of p)
  part_shows (fixed t) = fixed_shows t
  part_shows (labelled l t) = sym (append-nil (show (labelled l t)))

  -- the showing of a list of parts is that of its symbols
  pub showing_symbols : (ps : List Part) → showing show ps ≡ flat_map (shown_symbol show) (symbols ps)
  showing_symbols [] = refl
  showing_symbols (p ∷ ps) = ap₂ ◌++◌ (part_shows p) (showing_symbols ps) ∙ sym (flat_map-append (shown_symbol show) (symbols_of p) (symbols ps))

  pub showing_alike : (p q : List Part) → symbols p ≡ symbols q → showing show p ≡ showing show q
  showing_alike p q e = showing_symbols p ∙ ap (flat_map (shown_symbol show)) e ∙ sym (showing_symbols q)

  pub showing_tidy : (ps : List Part) → showing show (tidy ps) ≡ showing show ps
  showing_tidy ps = showing_alike (tidy ps) ps (symbols_tidy ps)

pub tidy_shows : TidyShows
tidy_shows show joins ps = showing_tidy show joins ps
