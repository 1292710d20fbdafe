-- Of packed lists: one item, and all of them.
use Rattle.std.proofs.Common.{◌≡◌, ℕ, zero, suc, ◌+◌, ◌*◌, ◌/◌, ◌%◌, ◌≤◌, Bool, true, false, cond, eqb, leb, List, [], ◌∷◌, ◌++◌, length, get_or, take, drop, is_some, Some, None, Option, unwrap_or, sym, refl, ap, ◌∙◌, append_assoc, arith, length-append, sum_by, Bor}
use Rattle.std.proofs.lemmas.List.{take-append-drop, take_at, drop_at, length-take-le}
use Rattle.std.proofs.lemmas.Iterator.{YieldsList}
use Rattle.std.proofs.lemmas.Iterator.Consumers.{YieldsList-from_shown}
use Rattle.std.proofs.lemmas.List.Sums.{sum_by-cons}
use Rattle.std.proofs.lemmas.Bool.Decides.{nat_tests}
use Rattle.std.proofs.lemmas.Bool.{le-leb, leb-true, ne_eqb}
use Rattle.std.specs.Bool.{⊤}
use Rattle.std.specs.Iterator.{MakesProgress, item_count}
use Rattle.std.specs.Option.{option_map}
use Rattle.util.specs.declared.packed.Items.{Items}
use Rattle.util.specs.Packed.{first_item, unpack_from, unpack_by, unpack, items_from, items_by, items, pack_item, unread, ReadsItem}

-- where the two length bytes and enough bytes behind them are found
pub first_is : (bs ts : List ℕ) (h l : ℕ) (x y : List ℕ) → ts ≡ drop 2 bs → 2 ≤ length bs → h ≡ get_or bs 0 0 → l ≡ get_or bs 1 0
    → h * 256 + l ≤ length ts → x ≡ take (h * 256 + l) ts → y ≡ drop (h * 256 + l) ts → first_item bs ≡ Some (x, y)
first_is [] ts h l x y t two p q le xe ye = absurd (omega arith)
first_is (a ∷ []) ts h l x y t two p q le xe ye = absurd (omega arith)
first_is (a ∷ (b ∷ cs)) ts h l x y t two p q le xe ye =
    let n : h * 256 + l ≡ a * 256 + b = cc in
    let m : length ts ≡ length cs = ap length t in
    let S : Option (List ℕ × List ℕ) = Some (take (a * 256 + b) cs, drop (a * 256 + b) cs) in
    let z : cond (leb (a * 256 + b) (length cs)) S None ≡ S = ap (λ (w : Bool). cond w S None) (le-leb (a * 256 + b) (length cs) (omega arith)) in
    let x2 : x ≡ take (a * 256 + b) cs = xe ∙ ap (λ (k : ℕ). take k ts) n ∙ ap (take (a * 256 + b)) t in
    let y2 : y ≡ drop (a * 256 + b) cs = ye ∙ ap (λ (k : ℕ). drop k ts) n ∙ ap (drop (a * 256 + b)) t in
    z ∙ ap (λ (u : List ℕ). Some (u, drop (a * 256 + b) cs)) (sym x2) ∙ ap (λ (u : List ℕ). Some (x, u)) (sym y2)

-- what bytes are that begin with an item
pub record Begins (bs x y : List ℕ) : Type 0 where
  pub high : ℕ
  pub low : ℕ
  pub count : high * 256 + low ≡ length x
  pub is : bs ≡ high ∷ low ∷ (x ++ y)

pub begins : (bs x y : List ℕ) → first_item bs ≡ Some (x, y) → Begins bs x y
begins [] x y e = cc
begins (h ∷ []) x y e = cc
begins (h ∷ (l ∷ bs)) x y e = at (leb (h * 256 + l) (length bs)) refl e
  where
    at : (v : Bool) → leb (h * 256 + l) (length bs) ≡ v → cond {A = Option (List ℕ × List ℕ)} v (Some (take (h * 256 + l) bs, drop (h * 256 + l) bs)) None ≡ Some (x, y) → Begins (h ∷ (l ∷ bs)) x y
    at true t w =
        let p : take (h * 256 + l) bs ≡ x = ap (λ (o : Option (List ℕ × List ℕ)). (unwrap_or o (x, y)).0) w in
        let q : drop (h * 256 + l) bs ≡ y = ap (λ (o : Option (List ℕ × List ℕ)). (unwrap_or o (x, y)).1) w in
        record {
          high = h;
          low = l;
          count = sym (ap length (sym p) ∙ length-take-le (h * 256 + l) bs (leb-true (h * 256 + l) (length bs) t));
          is = ap (λ (r : List ℕ). h ∷ l ∷ r) (sym (take-append-drop (h * 256 + l) bs) ∙ ap (λ (r : List ℕ). r ++ drop (h * 256 + l) bs) p ∙ ap (λ (r : List ℕ). x ++ r) q);
        }
    at false t w = cc

pub length_begins : (bs x y : List ℕ) → Begins bs x y → length bs ≡ 2 + (length x + length y)
length_begins bs x y b = omega (arith, ap length b.is, length-append x y)

pub first_begins : (bs x y : List ℕ) → Begins bs x y → first_item bs ≡ Some (x, y)
first_begins bs x y b =
    let h : ℕ = b.high in
    let l : ℕ = b.low in
    let e : first_item (h ∷ l ∷ (x ++ y)) ≡ Some (x, y) =
    first_is (h ∷ l ∷ (x ++ y)) (x ++ y) h l x y refl (omega arith) refl refl (omega (arith, b.count, length-append x y))
    (sym (take_at x y (h * 256 + l) (sym b.count))) (sym (drop_at x y (h * 256 + l) (sym b.count))) in
    ap first_item b.is ∙ e

-- a packed item in front of any bytes
pub first_packed : (t bs : List ℕ) → first_item (pack_item t ++ bs) ≡ Some (t, bs)
first_packed t bs = first_begins (pack_item t ++ bs) t bs record { high = length t / 256; low = length t % 256; count = omega arith; is = refl }

-- bytes behind make the rest longer
pub first_append : (bs x y cs : List ℕ) → first_item bs ≡ Some (x, y) → first_item (bs ++ cs) ≡ Some (x, y ++ cs)
first_append bs x y cs e =
    let b = begins bs x y e in
    first_begins (bs ++ cs) x (y ++ cs)
    record {
      high = b.high;
      low = b.low;
      count = b.count;
      is = ap (λ (l : List ℕ). l ++ cs) b.is ∙ ap (λ (l : List ℕ). b.high ∷ b.low ∷ l) (append_assoc x y cs);
    }

-- more steps than bytes change nothing
unpack_steps : (m n : ℕ) (bs : List ℕ) → length bs ≤ m → length bs ≤ n → unpack_by m bs ≡ unpack_by n bs
unpack_steps m n [] p q = refl
unpack_steps zero n (b ∷ bs) p q = absurd (omega arith)
unpack_steps (suc m) zero (b ∷ bs) p q = absurd (omega arith)
unpack_steps (suc m) (suc n) (b ∷ bs) p q = at (first_item (b ∷ bs)) refl (λ ys. unpack_steps m n ys)
  where
    at : (o : Option (List ℕ × List ℕ)) → first_item (b ∷ bs) ≡ o → ((ys : List ℕ) → length ys ≤ m → length ys ≤ n → unpack_by m ys ≡ unpack_by n ys) → unpack_from (unpack_by m) o ≡ unpack_from (unpack_by n) o
    at None e again = refl
    at (Some w) e again =
        let l = length_begins (b ∷ bs) w.0 w.1 (begins (b ∷ bs) w.0 w.1 e) in
        ap (option_map (λ ts. w.0 ∷ ts)) (again w.1 (omega arith) (omega arith))

items_steps : (m n : ℕ) (bs : List ℕ) → length bs ≤ m → length bs ≤ n → items_by m bs ≡ items_by n bs
items_steps zero zero bs p q = refl
items_steps zero (suc n) [] p q = refl
items_steps zero (suc n) (b ∷ bs) p q = absurd (omega arith)
items_steps (suc m) zero [] p q = refl
items_steps (suc m) zero (b ∷ bs) p q = absurd (omega arith)
items_steps (suc m) (suc n) bs p q = at (first_item bs) refl (λ ys. items_steps m n ys)
  where
    at : (o : Option (List ℕ × List ℕ)) → first_item bs ≡ o → ((ys : List ℕ) → length ys ≤ m → length ys ≤ n → items_by m ys ≡ items_by n ys) → items_from (items_by m) o ≡ items_from (items_by n) o
    at None e again = refl
    at (Some w) e again =
        let l = length_begins bs w.0 w.1 (begins bs w.0 w.1 e) in
        ap (λ ts. w.0 ∷ ts) (again w.1 (omega arith) (omega arith))

-- past an item
pub unpack_next : (bs x y : List ℕ) → first_item bs ≡ Some (x, y) → unpack bs ≡ option_map (λ ts. x ∷ ts) (unpack y)
unfolding unpack
unpack_next [] x y e = cc
unpack_next (b ∷ bs) x y e =
    let l = length_begins (b ∷ bs) x y (begins (b ∷ bs) x y e) in
    ap (unpack_from (unpack_by (length bs))) e ∙ ap (option_map (λ ts. x ∷ ts)) (unpack_steps (length bs) (length y) y (omega arith) (omega arith))

pub items_next : (bs x y : List ℕ) → first_item bs ≡ Some (x, y) → items bs ≡ x ∷ items y
unfolding items
items_next [] x y e = cc
items_next (b ∷ bs) x y e =
    let l = length_begins (b ∷ bs) x y (begins (b ∷ bs) x y e) in
    ap (items_from (items_by (length bs))) e ∙ ap (λ ts. x ∷ ts) (items_steps (length bs) (length y) y (omega arith) (omega arith))

-- where no item follows, the list has ended or is malformed
pub unpack_none : unpack [] ≡ Some []
unfolding unpack
unpack_none = refl

pub unpack_stop : (b : ℕ) (bs : List ℕ) → first_item (b ∷ bs) ≡ None → unpack (b ∷ bs) ≡ None
unfolding unpack
unpack_stop b bs e = ap (unpack_from (unpack_by (length bs))) e

pub items_stop : (bs : List ℕ) → first_item bs ≡ None → items bs ≡ []
unfolding items
items_stop [] e = refl
items_stop (b ∷ bs) e = ap (items_from (items_by (length bs))) e

-- What holds of bytes where no item follows, and of bytes if it holds of what is behind their first item, holds of all bytes.
pub by_reading : (P : List ℕ → Type 0) → ((bs : List ℕ) → first_item bs ≡ None → P bs)
    → ((bs x y : List ℕ) → first_item bs ≡ Some (x, y) → P y → P bs) → (bs : List ℕ) → P bs
by_reading P stop more bs = by (length bs) bs (omega arith)
  where
    by : (n : ℕ) (bs : List ℕ) → length bs ≤ n → P bs
    by zero [] le = stop [] refl
    by zero (b ∷ bs) le = absurd (omega arith)
    by (suc n) bs le = at (first_item bs) refl (by n)
      where
        at : (o : Option (List ℕ × List ℕ)) → first_item bs ≡ o → ((ys : List ℕ) → length ys ≤ n → P ys) → P bs
        at None e again = stop bs e
        at (Some w) e again = let l = length_begins bs w.0 w.1 (begins bs w.0 w.1 e) in more bs w.0 w.1 e (again w.1 (omega arith))

-- how many bytes an item takes up
abbrev pub packed_size : List ℕ → ℕ
packed_size t = 2 + length t

-- the items of bytes take up no more than those
pub items_fit : (bs : List ℕ) → sum_by packed_size (items bs) ≤ length bs
items_fit bs =
    by_reading (λ bs. sum_by packed_size (items bs) ≤ length bs)
    (λ bs e. rw (items_stop bs e) (omega arith))
    (λ bs x y e h. rw (items_next bs x y e) (omega (arith, h, sum_by-cons packed_size x (items y), length_begins bs x y (begins bs x y e)))) bs

-- and just those where they are well formed
pub items_fill : (bs : List ℕ) → eqb (sum_by packed_size (items bs)) (length bs) ≡ is_some (unpack bs)
items_fill bs = by_reading (λ bs. eqb (sum_by packed_size (items bs)) (length bs) ≡ is_some (unpack bs)) stop more bs
  where
    stop : (bs : List ℕ) → first_item bs ≡ None → eqb (sum_by packed_size (items bs)) (length bs) ≡ is_some (unpack bs)
    stop [] e = rw (items_stop [] e, unpack_none) refl
    stop (b ∷ bs) e = rw (items_stop (b ∷ bs) e, unpack_stop b bs e) (ne_eqb 0 (suc (length bs)) (λ q. omega arith))

    more : (bs x y : List ℕ) → first_item bs ≡ Some (x, y) → eqb (sum_by packed_size (items y)) (length y) ≡ is_some (unpack y) → eqb (sum_by packed_size (items bs)) (length bs) ≡ is_some (unpack bs)
    more bs x y e h =
        rw (items_next bs x y e, sum_by-cons packed_size x (items y), length_begins bs x y (begins bs x y e), unpack_next bs x y e)
        (same (length x) (sum_by packed_size (items y)) (length y) ∙ h ∙ sym (still (unpack y)))
      where
        same : (n a b : ℕ) → eqb (2 + n + a) (2 + (n + b)) ≡ eqb a b
        same n a b = grind (arith, nat_tests)

        still : (o : Option (List (List ℕ))) → is_some (option_map (λ ts. x ∷ ts) o) ≡ is_some o
        still None = refl
        still (Some ts) = refl

-- every item has its two length bytes
pub few_items : (bs : List ℕ) → length (items bs) ≤ length bs
few_items bs =
    by_reading (λ bs. length (items bs) ≤ length bs)
    (λ bs e. rw (items_stop bs e) (omega arith))
    (λ bs x y e h. rw (items_next bs x y e) (omega (arith, h, length_begins bs x y (begins bs x y e)))) bs

-- where no item follows the reader stays as it is
pub reads_none : (s : Items) (r : Option (Bor (List ℕ))) → r ≡ None → first_item s.rest.now ≡ None → ReadsItem s r s
reads_none s r e f = rw e record { first = (f, refl); items = (items_stop s.rest.now f, items_stop s.rest.now f); bound = tt }

-- past an item
pub reads_some : (s t : Items) (x : Bor (List ℕ)) → first_item s.rest.now ≡ Some (x.now, t.rest.now) → length x.now ≤ 65535 → ReadsItem s (Some x) t
reads_some s t x f le =
    let l = length_begins s.rest.now x.now t.rest.now (begins s.rest.now x.now t.rest.now f) in
    record { first = f; items = items_next s.rest.now x.now t.rest.now f; bound = (le, omega arith) }

-- with each item fewer are left
pub reads_progress : (s : Items) (r : Option (Bor (List ℕ))) (t : Items) → ReadsItem s r t → MakesProgress (λ _. ⊤) (item_count unread) s r t
reads_progress s None t h = record { on = λ _. tt; keeps = tt; rests = λ _. tt }
reads_progress s (Some x) t h = record { on = λ _. (tt, tt, omega (arith, ap length h.items)); keeps = tt; rests = λ _. tt }

-- the reader gives the items of the bytes that it has left
pub reads_items : (s : Items) (bs : List ℕ) → s.rest.now ≡ bs → YieldsList ReadsItem (λ x. x.now) s (items bs)
reads_items s bs e = rw (← e) (YieldsList-from_shown ReadsItem (λ x. x.now) unread (λ t u h. ap length h.items.0) (λ t x u h. h.items) s)
