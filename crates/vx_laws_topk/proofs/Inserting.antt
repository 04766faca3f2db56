-- Putting rows in the order of their keys: what holds of all stays so, none stands before an earlier one, and a test takes out of the ordered rows
-- the ordered ones of those that it takes.
use Rattle.std.proofs.Common.{◌≡◌, refl, ap, sym, ◌∙◌, suc, ◌+◌, Bool, true, false, cond, not, List, [], ◌∷◌, length, arith}
use Rattle.std.specs.List.{filter, list_all, list_any, AllByRecursion}
use Rattle.std.proofs.lemmas.Bool.{and_parts, and_from, or_from, not_from_false}
use Rattle.vx_dtype.specs.Types.{Ty}
use Rattle.vx_dtype.specs.TypeRules.{is_plain}
use Rattle.vx_dtype.proofs.DistinctLemmas.{not_found}
use Rattle.vx_laws.proofs.EachNode.{all-then}
use Rattle.vx_laws_stats.proofs.Extremes.{is_of}
use Rattle.vx_laws_topk.specs.TopRows.{Keyed, stands_before, put_in_key_order, in_key_order}
use Rattle.vx_laws_topk.specs.TopLaws.{keys_of, HaveKeys, is_in_key_order, is_tied, OrderKeepsRows, OrderIsSorted, OrderIsStable}
use Rattle.vx_laws_topk.proofs.KeyOrder.{before-apart, not_before-chain}

-- a row whose key is null or of a type
abbrev pub OfType : Ty → Keyed → Type 0
OfType t r = is_of t r.key ≡ true

-- rows of which none stands before a row; rows of which none stands before an earlier one
abbrev pub NotBefore : Bool → Keyed → Keyed → Type 0
NotBefore d r s = stands_before d s.key r.key ≡ false

abbrev pub NoneBefore : Bool → Keyed → List Keyed → Type 0
NoneBefore d r rs = AllByRecursion (NotBefore d r) rs

abbrev pub Sorted : Bool → List Keyed → Type 0
Sorted d [] = Unit {0}
Sorted d (r ∷ rs) = NoneBefore d r rs × Sorted d rs

pub have-keys : (t : Ty) (rows : List Keyed) → HaveKeys t rows → AllByRecursion (OfType t) rows
have-keys t rows h = each rows h.fit
  where
    each : (rows : List Keyed) → list_all (is_of t) (keys_of rows) ≡ true → AllByRecursion (OfType t) rows
    each [] k = tt
    each (r ∷ rows) k = let parts = and_parts (is_of t r.key) (list_all (is_of t) (keys_of rows)) k in (parts.0, each rows parts.1)

-- the two places of a row beside the first of ordered ones
pub put-behind : (d : Bool) (r s : Keyed) (ss : List Keyed) → stands_before d s.key r.key ≡ true → put_in_key_order d r (s ∷ ss) ≡ s ∷ put_in_key_order d r ss
put-behind d r s ss h = ap (λ (b : Bool). cond b (s ∷ put_in_key_order d r ss) (r ∷ s ∷ ss)) h

pub put-ahead : (d : Bool) (r s : Keyed) (ss : List Keyed) → stands_before d s.key r.key ≡ false → put_in_key_order d r (s ∷ ss) ≡ r ∷ s ∷ ss
put-ahead d r s ss h = ap (λ (b : Bool). cond b (s ∷ put_in_key_order d r ss) (r ∷ s ∷ ss)) h

pub put-first : (d : Bool) (r : Keyed) (ss : List Keyed) → NoneBefore d r ss → put_in_key_order d r ss ≡ r ∷ ss
put-first d r [] h = refl
put-first d r (s ∷ ss) h = put-ahead d r s ss h.0

-- what holds of all rows holds of all in order
put-all : (P : Keyed → Type 0) (d : Bool) (r : Keyed) (ss : List Keyed) → P r → AllByRecursion P ss → AllByRecursion P (put_in_key_order d r ss)
put-all P d r [] p h = (p, tt)
put-all P d r (s ∷ ss) p h = by-test (stands_before d s.key r.key) (put-all P d r ss p h.1)
  where
    by-test : (b : Bool) → AllByRecursion P (put_in_key_order d r ss) → AllByRecursion P (cond b (s ∷ put_in_key_order d r ss) (r ∷ s ∷ ss))
    by-test true k = (h.0, k)
    by-test false k = (p, h)

pub order-all : (P : Keyed → Type 0) (d : Bool) (rows : List Keyed) → AllByRecursion P rows → AllByRecursion P (in_key_order d rows)
order-all P d [] h = tt
order-all P d (r ∷ rows) h = put-all P d r (in_key_order d rows) h.0 (order-all P d rows h.1)

-- as many rows pass a test
passing-more : (test : Keyed → Bool) (r : Keyed) (rows : List Keyed) → length (filter test (r ∷ rows)) ≡ cond (test r) 1 0 + length (filter test rows)
passing-more test r rows = by-test (test r)
  where
    by-test : (b : Bool) → length (cond b (r ∷ filter test rows) (filter test rows)) ≡ cond b 1 0 + length (filter test rows)
    by-test true = omega arith
    by-test false = omega arith

put-keeps : (test : Keyed → Bool) (d : Bool) (r : Keyed) (ss : List Keyed) → length (filter test (put_in_key_order d r ss)) ≡ length (filter test (r ∷ ss))
put-keeps test d r [] = refl
put-keeps test d r (s ∷ ss) = by-test (stands_before d s.key r.key) (put-keeps test d r ss)
  where
    by-test : (b : Bool) → length (filter test (put_in_key_order d r ss)) ≡ length (filter test (r ∷ ss))
        → length (filter test (cond b (s ∷ put_in_key_order d r ss) (r ∷ s ∷ ss))) ≡ length (filter test (r ∷ s ∷ ss))
    by-test true k =
        omega (arith, k, passing-more test s (put_in_key_order d r ss), passing-more test r ss, passing-more test s ss, passing-more test r (s ∷ ss))
    by-test false k = refl

pub keeps_rows : OrderKeepsRows
keeps_rows d [] test = refl
keeps_rows d (r ∷ rows) test =
    put-keeps test d r (in_key_order d rows)
    ∙ omega (arith, passing-more test r (in_key_order d rows), passing-more test r rows, keeps_rows d rows test)

pub length-in_key_order : (d : Bool) (rows : List Keyed) → length (in_key_order d rows) ≡ length rows
length-in_key_order d rows = sym (all-pass (in_key_order d rows)) ∙ keeps_rows d rows (λ r. true) ∙ all-pass rows
  where
    all-pass : (rs : List Keyed) → length (filter (λ (r : Keyed). true) rs) ≡ length rs
    all-pass [] = refl
    all-pass (r ∷ rs) = ap suc (all-pass rs)

pub filter-all : (P : Keyed → Type 0) (test : Keyed → Bool) (rows : List Keyed) → AllByRecursion P rows → AllByRecursion P (filter test rows)
filter-all P test [] h = tt
filter-all P test (r ∷ rows) h = by-test (test r) (filter-all P test rows h.1)
  where
    by-test : (b : Bool) → AllByRecursion P (filter test rows) → AllByRecursion P (cond b (r ∷ filter test rows) (filter test rows))
    by-test true k = (h.0, k)
    by-test false k = k

-- ordered rows stay as they are
pub sorted-stays : (d : Bool) (rows : List Keyed) → Sorted d rows → in_key_order d rows ≡ rows
sorted-stays d [] h = refl
sorted-stays d (r ∷ rows) h = ap (put_in_key_order d r) (sorted-stays d rows h.1) ∙ put-first d r rows h.0

module _ (d : Bool) (t : Ty) (plain : is_plain t ≡ true) where
  -- what isn't before a row isn't before one that the row isn't before
  none-before : (r s : Keyed) (ss : List Keyed) → OfType t r → OfType t s → AllByRecursion (OfType t) ss → NotBefore d r s → NoneBefore d s ss → NoneBefore d r ss
  none-before r s ss fr fs f h k =
      all-then (OfType t) (NotBefore d s) (NotBefore d r) ss (λ x fx n. not_before-chain d t plain x.key s.key r.key fx fs fr n h) f k

  put-sorted : (r : Keyed) (ss : List Keyed) → OfType t r → AllByRecursion (OfType t) ss → Sorted d ss → Sorted d (put_in_key_order d r ss)
  put-sorted r [] fr f h = (tt, tt)
  put-sorted r (s ∷ ss) fr f h = by-test (stands_before d s.key r.key) refl (put-sorted r ss fr f.1 h.1)
    where
      by-test : (b : Bool) → stands_before d s.key r.key ≡ b → Sorted d (put_in_key_order d r ss) → Sorted d (cond b (s ∷ put_in_key_order d r ss) (r ∷ s ∷ ss))
      by-test true e k = (put-all (NotBefore d s) d r ss (before-apart d s.key r.key e) h.0, k)
      by-test false e k = ((e, none-before r s ss fr f.0 f.1 e h.0), h)

  pub order-sorted : (rows : List Keyed) → AllByRecursion (OfType t) rows → Sorted d (in_key_order d rows)
  order-sorted [] f = tt
  order-sorted (r ∷ rows) f = put-sorted r (in_key_order d rows) f.0 (order-all (OfType t) d rows f.1) (order-sorted rows f.1)

  -- a test takes a row out of ordered ones, and puts it where it would be put among those that it takes
  put-filter : (test : Keyed → Bool) (r : Keyed) (ss : List Keyed) → OfType t r → AllByRecursion (OfType t) ss → Sorted d ss
      → filter test (put_in_key_order d r ss) ≡ cond (test r) (put_in_key_order d r (filter test ss)) (filter test ss)
  put-filter test r [] fr f h = refl
  put-filter test r (s ∷ ss) fr f h =
      by-test (stands_before d s.key r.key) refl (put-filter test r ss fr f.1 h.1)
    where
      behind : (a b : Bool) → stands_before d s.key r.key ≡ true
          → cond b (s ∷ cond a (put_in_key_order d r (filter test ss)) (filter test ss)) (cond a (put_in_key_order d r (filter test ss)) (filter test ss))
          ≡ cond a (put_in_key_order d r (cond b (s ∷ filter test ss) (filter test ss))) (cond b (s ∷ filter test ss) (filter test ss))
      behind true true e = sym (put-behind d r s (filter test ss) e)
      behind true false e = refl
      behind false true e = refl
      behind false false e = refl

      ahead : (a : Bool) → NoneBefore d r (filter test (s ∷ ss)) → cond a (r ∷ filter test (s ∷ ss)) (filter test (s ∷ ss)) ≡ cond a (put_in_key_order d r (filter test (s ∷ ss))) (filter test (s ∷ ss))
      ahead true k = sym (put-first d r (filter test (s ∷ ss)) k)
      ahead false k = refl

      by-test : (b : Bool) → stands_before d s.key r.key ≡ b
          → filter test (put_in_key_order d r ss) ≡ cond (test r) (put_in_key_order d r (filter test ss)) (filter test ss)
          → filter test (cond b (s ∷ put_in_key_order d r ss) (r ∷ s ∷ ss)) ≡ cond (test r) (put_in_key_order d r (filter test (s ∷ ss))) (filter test (s ∷ ss))
      by-test true e k = ap (λ (rs : List Keyed). cond (test s) (s ∷ rs) rs) k ∙ behind (test r) (test s) e
      by-test false e k = ahead (test r) (filter-all (NotBefore d r) test (s ∷ ss) (e, none-before r s ss fr f.0 f.1 e h.0))

  pub filter-in_key_order : (test : Keyed → Bool) (rows : List Keyed) → AllByRecursion (OfType t) rows → filter test (in_key_order d rows) ≡ in_key_order d (filter test rows)
  filter-in_key_order test [] f = refl
  filter-in_key_order test (r ∷ rows) f =
      put-filter test r (in_key_order d rows) f.0 (order-all (OfType t) d rows f.1) (order-sorted rows f.1)
      ∙ by-test (test r) (filter-in_key_order test rows f.1)
    where
      by-test : (b : Bool) → filter test (in_key_order d rows) ≡ in_key_order d (filter test rows)
          → cond b (put_in_key_order d r (filter test (in_key_order d rows))) (filter test (in_key_order d rows)) ≡ in_key_order d (cond b (r ∷ filter test rows) (filter test rows))
      by-test true k = ap (put_in_key_order d r) k
      by-test false k = k

  -- rows that are tied with one row are ordered
  abbrev Tied : Keyed → Keyed → Type 0
  Tied r s = is_tied d r s ≡ true

  tied-pair : (r s x : Keyed) → OfType t r → OfType t s → OfType t x → Tied r s → Tied r x → NotBefore d s x
  tied-pair r s x fr fs fx h k =
      let a = and_parts (not (stands_before d r.key s.key)) (not (stands_before d s.key r.key)) h in
      let b = and_parts (not (stands_before d r.key x.key)) (not (stands_before d x.key r.key)) k in
      not_before-chain d t plain x.key r.key s.key fx fr fs (not_found (stands_before d x.key r.key) b.1) (not_found (stands_before d r.key s.key) a.0)

  tied-sorted : (r : Keyed) (ss : List Keyed) → OfType t r → AllByRecursion (OfType t) ss → AllByRecursion (Tied r) ss → Sorted d ss
  tied-sorted r [] fr f h = tt
  tied-sorted r (s ∷ ss) fr f h =
      (all-then (OfType t) (Tied r) (NotBefore d s) ss (λ x fx k. tied-pair r s x fr f.0 fx h.0 k) f.1 h.1, tied-sorted r ss fr f.1 h.1)

filter-passes : (test : Keyed → Bool) (rows : List Keyed) → AllByRecursion (λ r. test r ≡ true) (filter test rows)
filter-passes test [] = tt
filter-passes test (r ∷ rows) = by-test (test r) refl (filter-passes test rows)
  where
    by-test : (b : Bool) → test r ≡ b → AllByRecursion (λ (s : Keyed). test s ≡ true) (filter test rows) → AllByRecursion (λ (s : Keyed). test s ≡ true) (cond b (r ∷ filter test rows) (filter test rows))
    by-test true e k = (e, k)
    by-test false e k = k

pub is_stable : OrderIsStable
is_stable t d r rows h =
    let all = have-keys t (r ∷ rows) h in
    let own = filter (is_tied d r) rows in
    filter-in_key_order d t h.plain (is_tied d r) rows all.1
    ∙ sorted-stays d own
    (tied-sorted d t h.plain r own all.0 (filter-all (OfType t) (is_tied d r) rows all.1) (filter-passes (is_tied d r) rows))

-- that none stands before an earlier one, as a test
none-any : (d : Bool) (r : Keyed) (rs : List Keyed) → NoneBefore d r rs → list_any (λ s. stands_before d s.key r.key) rs ≡ false
none-any d r [] h = refl
none-any d r (s ∷ rs) h = or_from (stands_before d s.key r.key) (list_any (λ (x : Keyed). stands_before d x.key r.key) rs) h.0 (none-any d r rs h.1)

sorted-tested : (d : Bool) (rows : List Keyed) → Sorted d rows → is_in_key_order d rows ≡ true
sorted-tested d [] h = refl
sorted-tested d (r ∷ rows) h =
    and_from (not (list_any (λ (s : Keyed). stands_before d s.key r.key) rows)) (is_in_key_order d rows)
    (not_from_false (list_any (λ (s : Keyed). stands_before d s.key r.key) rows) (none-any d r rows h.0)) (sorted-tested d rows h.1)

pub is_sorted : OrderIsSorted
is_sorted t d rows h = sorted-tested d (in_key_order d rows) (order-sorted d t h.plain rows (have-keys t rows h))
