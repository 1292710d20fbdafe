-- What holds of kinds and keys, and the one reading of a message.
use Rattle.std.specs.Prelude.{◌≡◌, ℕ, Bool, true, false, List, [], ◌∷◌, None, Decides, ◌≢◌}
use Rattle.std.specs.Option.{option_map}
use Rattle.std.specs.List.{AllByRecursion}
use Rattle.builder.specs.Roles.{style_of, standard}
use Rattle.builder.specs.declared.styling.StyledRole.{StyledRole}
use Rattle.builder.specs.declared.styling.Styles.{Styles}
use Rattle.sheet.specs.Parts.{Part, fixed, tidy, OfTexts, erased}
use Rattle.sheet.specs.Sheets.{Legible}
use Rattle.sheet.specs.Terminal.{terminal, Readable, NonePlain}
use Rattle.account.specs.Account.{Account, says, unknown, closed, bare, worded, Proper}
use Rattle.account.specs.Kinds.{wording_of}
use Rattle.account.specs.Wording.{stated, parts, printed}
use Rattle.account.specs.declared.context.ContextKind.{ContextKind}
use Rattle.account.specs.declared.kind.ErrorKind.{ErrorKind}

-- what a test of two kinds, or of two keys, answers: whether they are the same
abbrev pub KindsTold : (ErrorKind → ErrorKind → Bool) → Type 0
KindsTold same = (x y : ErrorKind) → Decides (same x y) (x ≡ y)

abbrev pub KeysTold : (ContextKind → ContextKind → Bool) → Type 0
KeysTold same = (x y : ContextKind) → Decides (same x y) (x ≡ y)

-- what a kind's wording says is said by that wording and nothing else
abbrev pub WordingStated : Type 0
WordingStated = (k : ErrorKind) → option_map stated (worded k) ≡ option_map (λ t. fixed t ∷ []) (wording_of k)

-- a message has one reading: proper accounts with one tidy list are one account
abbrev pub OneReading : Type 0
OneReading = (a b : Account) → Proper a → Proper b → tidy (parts a) ≡ tidy (parts b) → a ≡ b

-- and no role is needed to tell it
abbrev pub ReadingWithoutRoles : Type 0
ReadingWithoutRoles = (a b : Account) → Proper a → Proper b → erased (parts a) ≡ erased (parts b) → a ≡ b

-- Why a gap may not stand with a bare ending: it would be read as the end of a line.
abbrev pub gap_bare : Account
gap_bare = record { opening = says unknown; tips = []; gap = true; usage = None; ending = bare }

abbrev pub just_closed : Account
just_closed = record { opening = says unknown; tips = []; gap = false; usage = None; ending = closed }

abbrev pub GapAsLine : Type 0
GapAsLine = (tidy (parts gap_bare) ≡ tidy (parts just_closed)) × (gap_bare ≢ just_closed)

-- two messages tell their accounts apart: they print alike exactly if those are equal
abbrev pub Tells : (Part → List ℕ) → Account → Account → Type 0
Tells show a b = (printed show a ≡ printed show b → a ≡ b) × (a ≡ b → printed show a ≡ printed show b)

-- so do all messages of texts
abbrev pub MessagesTell : (Part → List ℕ) → Type 0
MessagesTell show = (a b : Account) → Proper a → Proper b → OfTexts (parts a) → OfTexts (parts b) → Tells show a b

-- on every legible sheet
abbrev pub LegibleTells : Type 0
LegibleTells = (show : Part → List ℕ) → Legible show → MessagesTell show

-- on a terminal whose styles are not plain, messages tell if they have no loose text and no byte 1B
abbrev pub MessagesTellOnTerminal : Styles → Type 0
MessagesTellOnTerminal s = (a b : Account) → Proper a → Proper b → AllByRecursion Readable (parts a) → AllByRecursion Readable (parts b) → Tells (terminal s) a b

abbrev pub TerminalMessages : Type 0
TerminalMessages = (s : Styles) → NonePlain s → MessagesTellOnTerminal s

-- as in the standard colours
abbrev pub StandardMessages : Type 0
StandardMessages = (s : Styles) → ((q : StyledRole) → style_of s q ≡ standard q) → MessagesTellOnTerminal s
