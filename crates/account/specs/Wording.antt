-- How an account is worded: all parts of its message, in order.
use Rattle.std.specs.Prelude.{ℕ, Bool, true, false, cond, List, [], ◌∷◌, ◌++◌, ℤ, pos, negsuc, Some, None, codes, Option, nat_lt}
use Prim.Native.String.{String}
use Rattle.std.specs.Fmt.{signed_decimal}
use Rattle.std.specs.List.{flat_map}
use Rattle.sheet.specs.Parts.{Text, Label, error, valid, invalid, literal, given, ready, Part, fixed, labelled, tidy}
use Rattle.sheet.specs.Sheets.{showing}
use Rattle.account.specs.Account.{Who, the_argument, the_subcommand, nobody, Prior, absent, several, one, others, Detail, listed, because, kind_of}
use Rattle.account.specs.Account.{Statement, repeat, clash, equals, empty, pair, strange, missing, childless, extra, few, count, found, wording, given_text, unknown}
use Rattle.account.specs.Account.{Opening, says, ready_text, Word, subcommand, argument, value, Tip, similar, bare_tip, ready_tip, Ending, flag, closed, bare, Account}
use Rattle.account.specs.Kinds.{wording_of}
use Rattle.account.specs.declared.kind.ErrorKind.TheVariants.{ArgumentConflict}

-- the crate's own words
abbrev pub words : String → Part
words s = fixed (codes s)

-- a line's end
abbrev pub newline : Part
newline = fixed (10 ∷ [])

-- a new line that is set in by two blanks
abbrev pub indent : Part
indent = fixed (10 ∷ 32 ∷ 32 ∷ [])

-- a kind's wording, if it has one
abbrev pub sentence : Option Text → List Part
sentence None = []
sentence (Some t) = fixed t ∷ []

-- a text on a line of its own
abbrev pub item : Label → Text → List Part
item l t = indent ∷ labelled l t ∷ []

-- one more listed value
abbrev pub next_listed : Text → List Part
next_listed v = words ", " ∷ labelled valid v ∷ []

-- values in brackets under a name, or nothing where there is none
abbrev pub listing : String → List Text → List Part
listing name [] = []
listing name (v ∷ vs) = indent ∷ words "[" ∷ words name ∷ words ": " ∷ labelled valid v ∷ (flat_map next_listed vs ++ (words "]" ∷ []))

abbrev pub who_clashes : Who → List Part
who_clashes (the_argument a) = words "the argument '" ∷ labelled invalid a ∷ words "' cannot be used with" ∷ []
who_clashes (the_subcommand s) = words "the subcommand '" ∷ labelled invalid s ∷ words "' cannot be used with" ∷ []
who_clashes nobody = sentence (wording_of ArgumentConflict)

abbrev pub with_what : Prior → List Part
with_what absent = []
with_what (several ns) = words ":" ∷ flat_map (item invalid) ns
with_what (one n) = words " '" ∷ labelled invalid n ∷ words "'" ∷ []
with_what others = words " one or more of the other specified arguments" ∷ []

abbrev pub detailed : Detail → List Part
detailed (listed vs) = listing "possible values" vs
detailed (because t) = words ": " ∷ labelled given t ∷ []

-- were, for more than one and for less than none
abbrev pub is_plural : ℤ → Bool
is_plural (pos n) = nat_lt 1 n
is_plural (negsuc n) = true

abbrev pub provided : ℤ → Part
provided n = cond (is_plural n) (words " were provided") (words " was provided")

abbrev pub stated : Statement → List Part
stated (repeat a) = words "the argument '" ∷ labelled invalid a ∷ words "' cannot be used multiple times" ∷ []
stated (clash w p) = who_clashes w ++ with_what p
stated (equals a) = words "equal sign is needed when assigning values to '" ∷ labelled invalid a ∷ words "'" ∷ []
stated (empty a vs) = words "a value is required for '" ∷ labelled invalid a ∷ words "' but none was supplied" ∷ listing "possible values" vs
stated (pair v a d) = words "invalid value '" ∷ labelled invalid v ∷ words "' for '" ∷ labelled literal a ∷ words "'" ∷ detailed d
stated (strange s) = words "unrecognized subcommand '" ∷ labelled invalid s ∷ words "'" ∷ []
stated (missing ns) = words "the following required arguments were not provided:" ∷ flat_map (item valid) ns
stated (childless s ss) = words "'" ∷ labelled invalid s ∷ words "' requires a subcommand but one was not provided" ∷ listing "subcommands" ss
stated (extra v a) = words "unexpected value '" ∷ labelled invalid v ∷ words "' for '" ∷ labelled literal a ∷ words "' found; no more were expected" ∷ []
stated (few m a c) = labelled valid (signed_decimal m) ∷ words " values required by '" ∷ labelled literal a ∷ words "'; only " ∷ labelled invalid (signed_decimal c) ∷ provided c ∷ []
stated (count m a c) = labelled valid (signed_decimal m) ∷ words " values required for '" ∷ labelled literal a ∷ words "' but " ∷ labelled invalid (signed_decimal c) ∷ provided c ∷ []
stated (found a) = words "unexpected argument '" ∷ labelled invalid a ∷ words "' found" ∷ []
stated (wording w) = sentence (wording_of (kind_of w))
stated (given_text t) = labelled given t ∷ []
stated unknown = words "unknown cause" ∷ []

abbrev pub opened : Opening → List Part
opened (says s) = labelled error (codes "error:") ∷ words " " ∷ stated s
opened (ready_text t) = labelled ready t ∷ []

abbrev pub word_of : Word → String
word_of subcommand = "subcommand"
word_of argument = "argument"
word_of value = "value"

-- one more similar name
abbrev pub next_similar : Text → List Part
next_similar n = words ", '" ∷ labelled valid n ∷ words "'" ∷ []

-- one name exists, and any other number of them exist
abbrev pub similar_names : Word → List Text → List Part
similar_names w [] = words " some similar " ∷ words (word_of w) ∷ words "s exist: " ∷ []
similar_names w (n ∷ []) = words " a similar " ∷ words (word_of w) ∷ words " exists: '" ∷ labelled valid n ∷ words "'" ∷ []
similar_names w (n ∷ m ∷ ns) = words " some similar " ∷ words (word_of w) ∷ words "s exist: '" ∷ labelled valid n ∷ words "'" ∷ flat_map next_similar (m ∷ ns)

abbrev pub tip_text : Tip → List Part
tip_text (similar w ns) = similar_names w ns
tip_text bare_tip = []
tip_text (ready_tip t) = words " " ∷ labelled ready t ∷ []

abbrev pub tip : Tip → List Part
tip t = indent ∷ labelled valid (codes "tip:") ∷ tip_text t

-- tips stand behind an empty line
abbrev pub advised : List Tip → List Part
advised [] = []
advised (t ∷ ts) = newline ∷ flat_map tip (t ∷ ts)

abbrev pub gapped : Bool → List Part
gapped true = newline ∷ []
gapped false = []

abbrev pub used : Option Text → List Part
used None = []
used (Some u) = newline ∷ newline ∷ labelled ready u ∷ []

abbrev pub ended : Ending → List Part
ended (flag f) = newline ∷ newline ∷ words "For more information, try '" ∷ labelled literal f ∷ words "'." ∷ newline ∷ []
ended closed = newline ∷ []
ended bare = []

-- the parts of a message with this account
abbrev pub parts : Account → List Part
parts a = opened a.opening ++ (advised a.tips ++ (gapped a.gap ++ (used a.usage ++ ended a.ending)))

-- the message on a sheet that shows parts so: the showings of its tidy list, joined
abbrev pub printed : (Part → List ℕ) → Account → List ℕ
printed show a = showing show (tidy (parts a))
