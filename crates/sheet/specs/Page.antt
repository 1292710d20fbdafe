-- The page sheet: labelled parts are elements, and what would be read as markup is written as a reference.
use Rattle.std.specs.Prelude.{◌≡◌, ℕ, ◌/◌, ◌%◌, ◌≤◌, Bool, cond, not, ◌&&◌, ◌||◌, List, [], ◌∷◌, ◌++◌, codes, ◌==◌, ◌≢◌, nat_lt}
use Rattle.std.specs.List.{AllByRecursion}
use Rattle.util.specs.Shown.{hex_digit}
use Rattle.sheet.specs.Frames.{framing}
use Rattle.sheet.specs.Parts.{Text, Label, error, valid, invalid, literal, given, ready, Part}

-- bytes that a page cannot show: 7F, and those below 20 but for the line break
abbrev pub control : ℕ → Bool
control b = b == 127 || (nat_lt b 32 && not (b == 10))

-- & < > become &amp; &lt; &gt;, and a control byte <s>hh</s> with two hexadecimal digits
abbrev pub page_byte : ℕ → List ℕ
page_byte b =
    cond (b == 38) (codes "&amp;")
    (cond (b == 60) (codes "&lt;")
    (cond (b == 62) (codes "&gt;")
    (cond (control b) (codes "<s>" ++ (hex_digit (b / 16) ∷ hex_digit (b % 16) ∷ codes "</s>")) (b ∷ []))))

-- an element's start tag and its end tag
abbrev pub start_tag : Text → List ℕ
start_tag name = 60 ∷ (name ++ (62 ∷ []))

abbrev pub end_tag : Text → List ℕ
end_tag name = 60 ∷ 47 ∷ (name ++ (62 ∷ []))

-- a page with an element name for each label
abbrev pub page_by : (Label → Text) → Part → List ℕ
page_by name p = framing (λ l. start_tag (name l)) page_byte (λ l. end_tag (name l)) p

-- names that a page may have: words of a to z, not empty, that differ, and none is s
pub record Elements (name : Label → Text) : Type 0 where
  pub letters : (l : Label) → AllByRecursion (λ c. (97 ≤ c) × (c ≤ 122)) (name l)
  pub not_empty : (l : Label) → name l ≢ []
  pub none_is_s : (l : Label) → name l ≢ codes "s"
  pub differ : (l m : Label) → name l ≡ name m → l ≡ m

-- the page sheet's names
abbrev pub element : Label → Text
element error = codes "b"
element valid = codes "i"
element invalid = codes "u"
element literal = codes "kbd"
element given = codes "q"
element ready = codes "samp"

abbrev pub page : Part → List ℕ
page p = page_by element p
