-- What a message is made of: parts, and when two lists of parts are one message.
use Rattle.std.specs.Prelude.{ℕ, List, [], ◌∷◌, ◌++◌, map}
use Rattle.std.specs.List.{flat_map, AllByRecursion}
use Rattle.util.specs.Text.{IsText}

abbrev pub Text : Type 0
Text = List ℕ

-- the roles of what stands among the fixed wording
pub data Label : Type 0 where
  error valid invalid literal given ready : Label

-- a part: fixed wording, or a text in one of the other roles
pub data Part : Type 0 where
  fixed : Text → Part
  labelled : Label → Text → Part

abbrev pub text_of : Part → Text
text_of (fixed t) = t
text_of (labelled l t) = t

-- every part has a text, 7-bit bytes
abbrev pub OfTexts : List Part → Type 0
OfTexts ps = AllByRecursion (λ p. IsText (text_of p)) ps

-- fixed wording before a tidy list: it joins the fixed part that it meets, and where it is empty it is no part
abbrev pub ahead : Text → List Part → List Part
ahead [] ps = ps
ahead (b ∷ t) [] = fixed (b ∷ t) ∷ []
ahead (b ∷ t) (fixed u ∷ ps) = fixed (b ∷ (t ++ u)) ∷ ps
ahead (b ∷ t) (labelled l u ∷ ps) = fixed (b ∷ t) ∷ labelled l u ∷ ps

-- the tidy list: neighbouring fixed parts are one, an empty one is none, and every other part stays
abbrev pub tidy : List Part → List Part
tidy [] = []
tidy (fixed t ∷ ps) = ahead t (tidy ps)
tidy (labelled l t ∷ ps) = labelled l t ∷ tidy ps

-- a list is tidy: no fixed part is empty, and none stands before another
abbrev pub Tidy : List Part → Type 0
Tidy [] = Unit {0}
Tidy (labelled l t ∷ ps) = Tidy ps
Tidy (fixed [] ∷ ps) = ⊥
Tidy (fixed (b ∷ t) ∷ []) = Unit {0}
Tidy (fixed (b ∷ t) ∷ fixed u ∷ ps) = ⊥
Tidy (fixed (b ∷ t) ∷ labelled l u ∷ ps) = Tidy ps

-- What a list of parts says, whatever its fixed wording is cut into: the bytes of the wording one by one, and each labelled text whole. L is what is known of a label.
pub data Symbol (L : Type 0) : Type 0 where
  byte : ℕ → Symbol L
  whole : L → Text → Symbol L

abbrev pub symbols_of : Part → List (Symbol Label)
symbols_of (fixed t) = map byte t
symbols_of (labelled l t) = whole l t ∷ []

abbrev pub symbols : List Part → List (Symbol Label)
symbols ps = flat_map symbols_of ps

-- the same symbols, with something else known of their labels
abbrev pub relabel : {L M : Type 0} → (L → M) → Symbol L → Symbol M
relabel f (byte b) = byte b
relabel f (whole l t) = whole (f l) t

-- the symbols of a list of parts, by what f tells of a label
abbrev pub symbols_by : {L : Type 0} → (Label → L) → List Part → List (Symbol L)
symbols_by f ps = map (relabel f) (symbols ps)

-- with the roles erased
abbrev pub erased : List Part → List (Symbol (Unit {0}))
erased ps = symbols_by (λ l. tt) ps
