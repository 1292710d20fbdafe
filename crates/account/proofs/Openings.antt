-- An opening is read back.
use Rattle.std.proofs.Common.{◌≡◌, Bool, true, false, cond, List, [], ◌∷◌, ◌++◌, codes, unwrap_or, refl, ap, ◌∙◌, ap₂, arith}
use mathlib.Core.Option.{Option, none, some}
use Prim.Native.String.{String}
use Rattle.std.specs.Fmt.{signed_decimal}
use Rattle.std.specs.List.{flat_map, AllByRecursion}
use Rattle.std.proofs.lemmas.List.{append_assoc}
use Rattle.sheet.specs.Loops.{many, many_reads}
use Rattle.sheet.specs.Parts.{Text, Label, valid, invalid, literal, Part, labelled, byte, erased}
use Rattle.account.specs.Account.{the_argument, the_subcommand, nobody, Prior, absent, several, one, others, Detail, listed, because, kind_of, Signed64, numbers_of, numbers_in}
use Rattle.account.specs.Account.{Worded, invalid_value, unknown_argument, invalid_subcommand, no_equals, value_validation, too_many_values, too_few_values, wrong_number_of_values, missing_required_argument, missing_subcommand, invalid_utf8}
use Rattle.account.specs.Account.{Statement, repeat, clash, equals, empty, pair, strange, missing, childless, extra, few, count, found, wording, given_text, unknown}
use Rattle.account.specs.Account.{Opening, says, ready_text}
use Rattle.account.specs.Kinds.{wording_of}
use Rattle.account.specs.Wording.{words, item, next_listed, listing, with_what, detailed, is_plural, stated, opened}
use Rattle.account.specs.declared.kind.ErrorKind.{ErrorKind}
use Rattle.account.specs.declared.kind.ErrorKind.TheVariants.{ArgumentConflict}
use Rattle.account.proofs.Numbers.{number, number_signed}
use Rattle.account.proofs.Readers.{Stream, Reader, or, else, first_of, lit, hole, erased_append, erased_joined}
use Rattle.account.proofs.Segments.{Segment}
use Rattle.account.proofs.Tips.{AtTips, no_line, line, empty_line}

-- texts, one to a line
abbrev pub read_item : Reader Text
read_item = lit (10 ∷ 32 ∷ 32 ∷ []) (hole λ t s. some (t, s))

item_stops : {s : Stream} → AtTips s → read_item s ≡ none
item_stops no_line = refl
item_stops line = refl
item_stops empty_line = refl

items_read : (l : Label) (ts : List Text) {s : Stream} → AtTips s → many read_item (erased (flat_map (item l) ts) ++ s) ≡ (ts, s)
items_read l ts {s} h =
    ap (λ (z : Stream). many read_item (z ++ s)) (erased_joined (item l) ts) ∙
    many_reads read_item (λ t. erased (item l t)) (λ z. Unit {0}) (λ t z u. refl) (λ t. omega arith) s (item_stops h) (λ xs. tt) ts

-- values in brackets
abbrev pub read_next : Reader Text
read_next = lit (codes ", ") (hole λ t s. some (t, s))

abbrev pub read_values : Reader (List Text)
read_values = hole λ v s. let r = many read_next s in lit (codes "]") (λ s. some (v ∷ r.0, s)) r.1

abbrev pub read_listing : String → Stream → List Text × Stream
read_listing name s = else (lit (10 ∷ 32 ∷ 32 ∷ codes "[") (lit (codes name) (lit (codes ": ") read_values)) s) ([], s)

nexts_read : (vs : List Text) (s : Stream) → many read_next (erased (flat_map next_listed vs ++ (words "]" ∷ [])) ++ s) ≡ (vs, byte 93 ∷ s)
nexts_read vs s =
    ap (λ (z : Stream). many read_next (z ++ s)) (erased_append (flat_map next_listed vs) (words "]" ∷ [])) ∙
    ap (many read_next) (append_assoc (erased (flat_map next_listed vs)) (byte 93 ∷ []) s) ∙
    ap (λ (z : Stream). many read_next (z ++ (byte 93 ∷ s))) (erased_joined next_listed vs) ∙
    many_reads read_next (λ v. erased (next_listed v)) (λ z. Unit {0}) (λ v z u. refl) (λ v. omega arith) (byte 93 ∷ s) refl (λ xs. tt) vs

-- under a name that is read where it is written
listing_reads : (name : String) → ((k : Reader (List Text)) (ps : List Part) (s : Stream) → lit (codes name) k (erased (words name ∷ ps) ++ s) ≡ k (erased ps ++ s)) →
    (vs : List Text) {s : Stream} → AtTips s → read_listing name (erased (listing name vs) ++ s) ≡ (vs, s)
listing_reads name named [] no_line = refl
listing_reads name named [] line = refl
listing_reads name named [] empty_line = refl
listing_reads name named (v ∷ vs) {s} h =
    ap (λ (o : Option (List Text × Stream)). else o ([], erased (listing name (v ∷ vs)) ++ s)) (named (lit (codes ": ") read_values) (words ": " ∷ labelled valid v ∷ (flat_map next_listed vs ++ (words "]" ∷ []))) s) ∙
    ap (λ (r : List Text × Stream). else (lit (codes "]") (λ z. some (v ∷ r.0, z)) r.1) ([], erased (listing name (v ∷ vs)) ++ s)) (nexts_read vs s)

values_read : (vs : List Text) {s : Stream} → AtTips s → read_listing "possible values" (erased (listing "possible values" vs) ++ s) ≡ (vs, s)
values_read vs h = listing_reads "possible values" (λ k ps s. refl) vs h

-- what came before
abbrev pub read_prior : Stream → Prior × Stream
read_prior s =
    else (first_of
    (lit (codes ":") (λ s. let r = many read_item s in some (several r.0, r.1))
    ∷ lit (codes " '") (hole λ n. lit (codes "'") (λ s. some (one n, s)))
    ∷ lit (codes " one or more of the other specified arguments") (λ s. some (others, s))
    ∷ []) s) (absent, s)

prior_reads : (p : Prior) {s : Stream} → AtTips s → read_prior (erased (with_what p) ++ s) ≡ (p, s)
prior_reads absent no_line = refl
prior_reads absent line = refl
prior_reads absent empty_line = refl
prior_reads (several ns) h = ap (λ (r : List Text × Stream). (several r.0, r.1)) (items_read invalid ns h)
prior_reads (one n) h = refl
prior_reads others h = refl

-- what stands behind an invalid value
abbrev pub read_detail : Stream → Detail × Stream
read_detail s =
    else (lit (codes ": ") (hole λ t s. some (because t, s)) s) (let r = read_listing "possible values" s in (listed r.0, r.1))

detail_reads : (d : Detail) {s : Stream} → AtTips s → read_detail (erased (detailed d) ++ s) ≡ (d, s)
detail_reads (because t) h = refl
detail_reads (listed []) no_line = refl
detail_reads (listed []) line = refl
detail_reads (listed []) empty_line = refl
detail_reads (listed (v ∷ vs)) h = ap (λ (r : List Text × Stream). (listed r.0, r.1)) (values_read (v ∷ vs) h)

abbrev pub read_provided : {Z : Type 0} → (Stream → Option Z) → Stream → Option Z
read_provided k = first_of (lit (codes " were provided") k ∷ lit (codes " was provided") k ∷ [])

-- a kind's wording
abbrev pub wording_text : ErrorKind → Text
wording_text k = unwrap_or (wording_of k) []

abbrev pub read_wording : Worded → Reader Statement
read_wording w = lit (wording_text (kind_of w)) (λ s. some (wording w, s))

-- the texts of some statements begin others, which then stand first
abbrev pub read_statement : Reader Statement
read_statement = first_of
    (lit (codes "the argument '") (hole λ a. lit (codes "' cannot be used multiple times") (λ s. some (repeat a, s)))
    ∷ lit (codes "the argument '") (hole λ a. lit (codes "' cannot be used with") (λ s. let r = read_prior s in some (clash (the_argument a) r.0, r.1)))
    ∷ lit (codes "the subcommand '") (hole λ a. lit (codes "' cannot be used with") (λ s. let r = read_prior s in some (clash (the_subcommand a) r.0, r.1)))
    ∷ lit (wording_text ArgumentConflict) (λ s. let r = read_prior s in some (clash nobody r.0, r.1))
    ∷ lit (codes "equal sign is needed when assigning values to '") (hole λ a. lit (codes "'") (λ s. some (equals a, s)))
    ∷ lit (codes "a value is required for '") (hole λ a. lit (codes "' but none was supplied") (λ s. let r = read_listing "possible values" s in some (empty a r.0, r.1)))
    ∷ lit (codes "invalid value '") (hole λ v. lit (codes "' for '") (hole λ a. lit (codes "'") (λ s. let r = read_detail s in some (pair v a r.0, r.1))))
    ∷ lit (codes "unrecognized subcommand '") (hole λ a. lit (codes "'") (λ s. some (strange a, s)))
    ∷ lit (codes "the following required arguments were not provided:") (λ s. let r = many read_item s in some (missing r.0, r.1))
    ∷ lit (codes "'") (hole λ a. lit (codes "' requires a subcommand but one was not provided") (λ s. let r = read_listing "subcommands" s in some (childless a r.0, r.1)))
    ∷ lit (codes "unexpected value '") (hole λ v. lit (codes "' for '") (hole λ a. lit (codes "' found; no more were expected") (λ s. some (extra v a, s))))
    ∷ lit (codes "unexpected argument '") (hole λ a. lit (codes "' found") (λ s. some (found a, s)))
    ∷ lit (codes "unknown cause") (λ s. some (unknown, s))
    ∷ read_wording invalid_value ∷ read_wording unknown_argument ∷ read_wording invalid_subcommand ∷ read_wording no_equals ∷ read_wording value_validation ∷ read_wording too_many_values
    ∷ read_wording too_few_values ∷ read_wording wrong_number_of_values ∷ read_wording missing_required_argument ∷ read_wording missing_subcommand ∷ read_wording invalid_utf8
    ∷ hole (λ m. lit (codes " values required by '") (hole λ a. lit (codes "'; only ") (hole λ c. read_provided (λ s. some (few (number m) a (number c), s)))))
    ∷ hole (λ m. lit (codes " values required for '") (hole λ a. lit (codes "' but ") (hole λ c. read_provided (λ s. some (count (number m) a (number c), s)))))
    ∷ hole (λ t s. some (given_text t, s))
    ∷ [])

few_reads : (m a c : Text) (v : Bool) (s : Stream) →
    read_statement (erased (labelled valid m ∷ words " values required by '" ∷ labelled literal a ∷ words "'; only " ∷ labelled invalid c ∷ cond v (words " were provided") (words " was provided") ∷ []) ++ s)
    ≡ some (few (number m) a (number c), s)
few_reads m a c true s = refl
few_reads m a c false s = refl

count_reads : (m a c : Text) (v : Bool) (s : Stream) →
    read_statement (erased (labelled valid m ∷ words " values required for '" ∷ labelled literal a ∷ words "' but " ∷ labelled invalid c ∷ cond v (words " were provided") (words " was provided") ∷ []) ++ s)
    ≡ some (count (number m) a (number c), s)
count_reads m a c true s = refl
count_reads m a c false s = refl

wording_reads : (w : Worded) {s : Stream} → AtTips s → read_statement (erased (stated (wording w)) ++ s) ≡ some (wording w, s)
wording_reads invalid_value h = refl
wording_reads unknown_argument h = refl
wording_reads invalid_subcommand no_line = refl
wording_reads invalid_subcommand line = refl
wording_reads invalid_subcommand empty_line = refl
wording_reads no_equals h = refl
wording_reads value_validation h = refl
wording_reads too_many_values h = refl
wording_reads too_few_values h = refl
wording_reads wrong_number_of_values h = refl
wording_reads missing_required_argument h = refl
wording_reads missing_subcommand h = refl
wording_reads invalid_utf8 h = refl

statement_reads : (x : Statement) {s : Stream} → AtTips s → AllByRecursion Signed64 (numbers_of x) → read_statement (erased (stated x) ++ s) ≡ some (x, s)
statement_reads (repeat a) h f = refl
statement_reads (clash (the_argument a) p) h f = ap (λ (r : Prior × Stream). some (clash (the_argument a) r.0, r.1)) (prior_reads p h)
statement_reads (clash (the_subcommand a) p) h f = ap (λ (r : Prior × Stream). some (clash (the_subcommand a) r.0, r.1)) (prior_reads p h)
statement_reads (clash nobody p) h f = ap (λ (r : Prior × Stream). some (clash nobody r.0, r.1)) (prior_reads p h)
statement_reads (equals a) h f = refl
statement_reads (empty a vs) h f = ap (λ (r : List Text × Stream). some (empty a r.0, r.1)) (values_read vs h)
statement_reads (pair v a d) h f = ap (λ (r : Detail × Stream). some (pair v a r.0, r.1)) (detail_reads d h)
statement_reads (strange a) h f = refl
statement_reads (missing ns) h f = ap (λ (r : List Text × Stream). some (missing r.0, r.1)) (items_read valid ns h)
statement_reads (childless a vs) h f = ap (λ (r : List Text × Stream). some (childless a r.0, r.1)) (listing_reads "subcommands" (λ k ps s. refl) vs h)
statement_reads (extra v a) h f = refl
statement_reads (few m a c) {s} h f =
    few_reads (signed_decimal m) a (signed_decimal c) (is_plural c) s ∙ ap₂ (λ x y. some (few x a y, s)) (number_signed m f.0) (number_signed c f.1.0)
statement_reads (count m a c) {s} h f =
    count_reads (signed_decimal m) a (signed_decimal c) (is_plural c) s ∙ ap₂ (λ x y. some (count x a y, s)) (number_signed m f.0) (number_signed c f.1.0)
statement_reads (found a) h f = refl
statement_reads (wording w) h f = wording_reads w h
statement_reads (given_text t) no_line f = refl
statement_reads (given_text t) line f = refl
statement_reads (given_text t) empty_line f = refl
statement_reads unknown h f = refl

abbrev pub said : Option (Statement × Stream) → Option (Opening × Stream)
said none = none
said (some r) = some (says r.0, r.1)

-- the word error and a statement, or one ready text
abbrev pub read_opening : Reader Opening
read_opening = hole (λ t. first_of (lit (codes " ") (λ s. said (read_statement s)) ∷ (λ s. some (ready_text t, s)) ∷ []))

-- anything may begin a message
abbrev pub Anything : Stream → Type 0
Anything s = Unit {0}

pub opening_reads : (o : Opening) (s : Stream) → AtTips s → AllByRecursion Signed64 (numbers_in o) → read_opening (erased (opened o) ++ s) ≡ some (o, s)
opening_reads (says x) s h f =
    ap (λ (z : Option (Statement × Stream)). or (said z) (or (some (ready_text (codes "error:"), erased (words " " ∷ stated x) ++ s)) none)) (statement_reads x h f)
opening_reads (ready_text t) s no_line f = refl
opening_reads (ready_text t) s line f = refl
opening_reads (ready_text t) s empty_line f = refl

abbrev pub opening_segment : Segment Opening Anything AtTips
opening_segment = record {
  write = λ o. erased (opened o);
  read = read_opening;
  Fits = λ o s. AllByRecursion Signed64 (numbers_in o);
  begins = λ o s h. tt;
  reads = opening_reads;
}
