-- The first of rows and of further rows: those of both in order are the two merged, and of a merge's first rows the first list gives only its own first.
use Rattle.std.proofs.Common.{◌≡◌, refl, ap, sym, ◌∙◌, subst, ℕ, zero, suc, ◌≤◌, Bool, true, false, cond, Some, None, List, [], ◌∷◌, ◌++◌, length, take, arith, ⊎_elim}
use Rattle.std.specs.Prelude.{nat_le}
use Rattle.std.specs.List.{filter, AllByRecursion}
use Rattle.std.proofs.lemmas.Bool.{cases_Bool, leb-true}
use Rattle.vx_dtype.specs.Types.{Ty}
use Rattle.vx_dtype.specs.TypeRules.{is_plain}
use Rattle.vx_dtype.specs.Values.{Val, null_val}
use Rattle.vx_dtype.specs.Logic.{is_null_val}
use Rattle.vx_semantics.specs.Pruning.{known}
use Rattle.vx_laws.proofs.EachNode.{all-apart}
use Rattle.vx_laws_stats.proofs.Extremes.{is_of}
use Rattle.vx_laws_topk.specs.TopRows.{Keyed, TopAsk, stands_before, put_in_key_order, in_key_order, top, first_rows, known_last, bound_before}
use Rattle.vx_laws_topk.specs.TopLaws.{TopOfTop, BoundLosesNone}
use Rattle.vx_laws_topk.proofs.KeyOrder.{before-itself, before-chain, not_before-chain}
use Rattle.vx_laws_topk.proofs.Inserting.{OfType, NotBefore, NoneBefore, Sorted, have-keys, put-behind, put-ahead, order-all, length-in_key_order, sorted-stays, filter-all, order-sorted, filter-in_key_order}

-- two lists of ordered rows merged, those of the first before those of the second that don't stand before them
abbrev pub merged : Bool → List Keyed → List Keyed → List Keyed
merged d [] ys = ys
merged d (x ∷ xs) [] = x ∷ xs
merged d (x ∷ xs) (y ∷ ys) = cond (stands_before d y.key x.key) (y ∷ merged d (x ∷ xs) ys) (x ∷ merged d xs (y ∷ ys))

pub merged-none : (d : Bool) (xs : List Keyed) → merged d xs [] ≡ xs
merged-none d [] = refl
merged-none d (x ∷ xs) = refl

merged-behind : (d : Bool) (x : Keyed) (xs : List Keyed) (y : Keyed) (ys : List Keyed) → stands_before d y.key x.key ≡ true → merged d (x ∷ xs) (y ∷ ys) ≡ y ∷ merged d (x ∷ xs) ys
merged-behind d x xs y ys h = ap (λ (b : Bool). cond b (y ∷ merged d (x ∷ xs) ys) (x ∷ merged d xs (y ∷ ys))) h

merged-ahead : (d : Bool) (x : Keyed) (xs : List Keyed) (y : Keyed) (ys : List Keyed) → stands_before d y.key x.key ≡ false → merged d (x ∷ xs) (y ∷ ys) ≡ x ∷ merged d xs (y ∷ ys)
merged-ahead d x xs y ys h = ap (λ (b : Bool). cond b (y ∷ merged d (x ∷ xs) ys) (x ∷ merged d xs (y ∷ ys))) h

-- the first of a merge need no more of the first list
take-merged : (d : Bool) (j k : ℕ) (xs ys : List Keyed) → j ≤ k → take j (merged d (take k xs) ys) ≡ take j (merged d xs ys)
take-merged d zero k xs ys h = refl
take-merged d (suc j) zero xs ys h = absurd (omega (arith, h))
take-merged d (suc j) (suc k) [] ys h = refl
take-merged d (suc j) (suc k) (x ∷ xs) [] h =
    ap (λ (rs : List Keyed). x ∷ rs)
    (ap (take j) (sym (merged-none d (take k xs))) ∙ take-merged d j k xs [] (omega (arith, h)) ∙ ap (take j) (merged-none d xs))
take-merged d (suc j) (suc k) (x ∷ xs) (y ∷ ys) h =
    by-test (stands_before d y.key x.key) (take-merged d j (suc k) (x ∷ xs) ys (omega (arith, h))) (take-merged d j k xs (y ∷ ys) (omega (arith, h)))
  where
    by-test : (b : Bool) → take j (merged d (x ∷ take k xs) ys) ≡ take j (merged d (x ∷ xs) ys) → take j (merged d (take k xs) (y ∷ ys)) ≡ take j (merged d xs (y ∷ ys))
        → take (suc j) (cond b (y ∷ merged d (x ∷ take k xs) ys) (x ∷ merged d (take k xs) (y ∷ ys))) ≡ take (suc j) (cond b (y ∷ merged d (x ∷ xs) ys) (x ∷ merged d xs (y ∷ ys)))
    by-test true a b = ap (λ (rs : List Keyed). y ∷ rs) a
    by-test false a b = ap (λ (rs : List Keyed). x ∷ rs) b

pub all-take : (P : Keyed → Type 0) (k : ℕ) (rows : List Keyed) → AllByRecursion P rows → AllByRecursion P (take k rows)
all-take P zero rows h = tt
all-take P (suc k) [] h = tt
all-take P (suc k) (r ∷ rows) h = (h.0, all-take P k rows h.1)

take-less : (P : Keyed → Type 0) (k : ℕ) (rows : List Keyed) → AllByRecursion P (take (suc k) rows) → AllByRecursion P (take k rows)
take-less P zero rows h = tt
take-less P (suc k) [] h = tt
take-less P (suc k) (r ∷ rows) h = (h.0, take-less P k rows h.1)

pub sorted-take : (d : Bool) (k : ℕ) (rows : List Keyed) → Sorted d rows → Sorted d (take k rows)
sorted-take d zero rows h = tt
sorted-take d (suc k) [] h = tt
sorted-take d (suc k) (r ∷ rows) h = (all-take (NotBefore d r) k rows h.0, sorted-take d k rows h.1)

module _ (d : Bool) (t : Ty) (plain : is_plain t ≡ true) where
  -- a row put into a merge is put into its first list
  put-merged : (r : Keyed) (xs ys : List Keyed) → OfType t r → AllByRecursion (OfType t) xs → AllByRecursion (OfType t) ys
      → put_in_key_order d r (merged d xs ys) ≡ merged d (put_in_key_order d r xs) ys
  put-merged r [] [] fr f g = refl
  put-merged r [] (y ∷ ys) fr f g = by-test (stands_before d y.key r.key) (put-merged r [] ys fr f g.1)
    where
      by-test : (b : Bool) → put_in_key_order d r ys ≡ merged d (r ∷ []) ys → cond b (y ∷ put_in_key_order d r ys) (r ∷ y ∷ ys) ≡ cond b (y ∷ merged d (r ∷ []) ys) (r ∷ y ∷ ys)
      by-test true k = ap (λ (rs : List Keyed). y ∷ rs) k
      by-test false k = refl
  put-merged r (s ∷ ss) [] fr f g = sym (merged-none d (put_in_key_order d r (s ∷ ss)))
  put-merged r (s ∷ ss) (y ∷ ys) fr f g =
      by-test (stands_before d y.key s.key) (stands_before d s.key r.key) (stands_before d y.key r.key) refl refl refl
      (put-merged r (s ∷ ss) ys fr f g.1) (put-merged r ss (y ∷ ys) fr f.1 g)
    where
      by-test : (a b c : Bool) → stands_before d y.key s.key ≡ a → stands_before d s.key r.key ≡ b → stands_before d y.key r.key ≡ c
          → put_in_key_order d r (merged d (s ∷ ss) ys) ≡ merged d (put_in_key_order d r (s ∷ ss)) ys
          → put_in_key_order d r (merged d ss (y ∷ ys)) ≡ merged d (put_in_key_order d r ss) (y ∷ ys)
          → put_in_key_order d r (merged d (s ∷ ss) (y ∷ ys)) ≡ merged d (put_in_key_order d r (s ∷ ss)) (y ∷ ys)
      by-test true true true a b c k l =
          ap (put_in_key_order d r) (merged-behind d s ss y ys a)
          ∙ put-behind d r y (merged d (s ∷ ss) ys) c
          ∙ ap (λ (rs : List Keyed). y ∷ rs) (k ∙ ap (λ (rs : List Keyed). merged d rs ys) (put-behind d r s ss b))
          ∙ sym (merged-behind d s (put_in_key_order d r ss) y ys a)
          ∙ ap (λ (rs : List Keyed). merged d rs (y ∷ ys)) (sym (put-behind d r s ss b))
      by-test true true false a b c k l =
          let yes = before-chain d t plain y.key s.key r.key g.0 f.0 fr a b in
          let no : ⊥ = cc in absurd no
      by-test true false true a b c k l =
          ap (put_in_key_order d r) (merged-behind d s ss y ys a)
          ∙ put-behind d r y (merged d (s ∷ ss) ys) c
          ∙ ap (λ (rs : List Keyed). y ∷ rs) (k ∙ ap (λ (rs : List Keyed). merged d rs ys) (put-ahead d r s ss b))
          ∙ sym (merged-behind d r (s ∷ ss) y ys c)
          ∙ ap (λ (rs : List Keyed). merged d rs (y ∷ ys)) (sym (put-ahead d r s ss b))
      by-test true false false a b c k l =
          ap (put_in_key_order d r) (merged-behind d s ss y ys a)
          ∙ put-ahead d r y (merged d (s ∷ ss) ys) c
          ∙ ap (λ (rs : List Keyed). r ∷ rs) (sym (merged-behind d s ss y ys a))
          ∙ sym (merged-ahead d r (s ∷ ss) y ys c)
          ∙ ap (λ (rs : List Keyed). merged d rs (y ∷ ys)) (sym (put-ahead d r s ss b))
      by-test false true c a b e k l =
          ap (put_in_key_order d r) (merged-ahead d s ss y ys a)
          ∙ put-behind d r s (merged d ss (y ∷ ys)) b
          ∙ ap (λ (rs : List Keyed). s ∷ rs) l
          ∙ sym (merged-ahead d s (put_in_key_order d r ss) y ys a)
          ∙ ap (λ (rs : List Keyed). merged d rs (y ∷ ys)) (sym (put-behind d r s ss b))
      by-test false false c a b e k l =
          let later = not_before-chain d t plain y.key s.key r.key g.0 f.0 fr a b in
          ap (put_in_key_order d r) (merged-ahead d s ss y ys a)
          ∙ put-ahead d r s (merged d ss (y ∷ ys)) b
          ∙ ap (λ (rs : List Keyed). r ∷ rs) (sym (merged-ahead d s ss y ys a))
          ∙ sym (merged-ahead d r (s ∷ ss) y ys later)
          ∙ ap (λ (rs : List Keyed). merged d rs (y ∷ ys)) (sym (put-ahead d r s ss b))

  pub order-both : (xs ys : List Keyed) → AllByRecursion (OfType t) xs → AllByRecursion (OfType t) ys
      → in_key_order d (xs ++ ys) ≡ merged d (in_key_order d xs) (in_key_order d ys)
  order-both [] ys f g = refl
  order-both (x ∷ xs) ys f g =
      ap (put_in_key_order d x) (order-both xs ys f.1 g)
      ∙ put-merged x (in_key_order d xs) (in_key_order d ys) f.0 (order-all (OfType t) d xs f.1) (order-all (OfType t) d ys g)

  pub top-again : (k : ℕ) (xs ys : List Keyed) → AllByRecursion (OfType t) xs → AllByRecursion (OfType t) ys → top d k (top d k xs ++ ys) ≡ top d k (xs ++ ys)
  top-again k xs ys f g =
      let first = in_key_order d xs in
      let all = order-all (OfType t) d xs f in
      ap (take k) (order-both (take k first) ys (all-take (OfType t) k first all) g)
      ∙ ap (λ (rs : List Keyed). take k (merged d rs (in_key_order d ys))) (sorted-stays d (take k first) (sorted-take d k first (order-sorted d t plain xs f)))
      ∙ take-merged d k k first (in_key_order d ys) (omega arith)
      ∙ ap (take k) (sym (order-both xs ys f g))

  -- behind a row that doesn't stand before a key, no ordered row does
  none-passes : (bound : Val) (r : Keyed) (rows : List Keyed) → is_of t bound ≡ true → OfType t r → AllByRecursion (OfType t) rows → NoneBefore d r rows → stands_before d r.key bound ≡ false
      → filter (λ s. stands_before d s.key bound) rows ≡ []
  none-passes bound r [] fb fr f n h = refl
  none-passes bound r (s ∷ rows) fb fr f n h =
      let here = not_before-chain d t plain s.key r.key bound f.0 fr fb n.0 h in
      rw here (none-passes bound r rows fb fr f.1 n.1 h)

  -- where none of the first rows stands behind a bound, those of the second list that don't stand before it are not among the merge's first
  cut-merged : (k : ℕ) (bound : Val) (xs ys : List Keyed) → is_of t bound ≡ true → AllByRecursion (OfType t) xs → AllByRecursion (OfType t) ys → Sorted d ys
      → k ≤ length xs → AllByRecursion (λ x. stands_before d bound x.key ≡ false) (take k xs)
      → take k (merged d xs (filter (λ y. stands_before d y.key bound) ys)) ≡ take k (merged d xs ys)
  cut-merged zero bound xs ys fb f g s h n = refl
  cut-merged (suc k) bound [] ys fb f g s h n = absurd (omega (arith, h))
  cut-merged (suc k) bound (x ∷ xs) [] fb f g s h n = refl
  cut-merged (suc k) bound (x ∷ xs) (y ∷ ys) fb f g s h n =
      by-test (stands_before d y.key bound) refl
      (cut-merged k bound (x ∷ xs) ys fb f g.1 s.1 (omega (arith, h)) (take-less (λ r. stands_before d bound r.key ≡ false) k (x ∷ xs) n))
      (cut-merged k bound xs (y ∷ ys) fb f.1 g s (omega (arith, h)) n.1)
    where
      passing : List Keyed → List Keyed
      passing rows = filter (λ r. stands_before d r.key bound) rows

      both : (b : Bool) → take k (merged d (x ∷ xs) (passing ys)) ≡ take k (merged d (x ∷ xs) ys)
          → take k (merged d xs (y ∷ passing ys)) ≡ take k (merged d xs (y ∷ ys))
          → take (suc k) (cond b (y ∷ merged d (x ∷ xs) (passing ys)) (x ∷ merged d xs (y ∷ passing ys))) ≡ take (suc k) (cond b (y ∷ merged d (x ∷ xs) ys) (x ∷ merged d xs (y ∷ ys)))
      both true a b = ap (λ (rs : List Keyed). y ∷ rs) a
      both false a b = ap (λ (rs : List Keyed). x ∷ rs) b

      by-test : (b : Bool) → stands_before d y.key bound ≡ b
          → take k (merged d (x ∷ xs) (passing ys)) ≡ take k (merged d (x ∷ xs) ys)
          → take k (merged d xs (passing (y ∷ ys))) ≡ take k (merged d xs (y ∷ ys))
          → take (suc k) (merged d (x ∷ xs) (passing (y ∷ ys))) ≡ take (suc k) (merged d (x ∷ xs) (y ∷ ys))
      by-test true e a b =
          let kept : passing (y ∷ ys) ≡ y ∷ passing ys = ap (λ (c : Bool). cond c (y ∷ passing ys) (passing ys)) e in
          ap (λ (rs : List Keyed). take (suc k) (merged d (x ∷ xs) rs)) kept
          ∙ both (stands_before d y.key x.key) a (ap (λ (rs : List Keyed). take k (merged d xs rs)) (sym kept) ∙ b)
      by-test false e a b =
          let later = not_before-chain d t plain y.key bound x.key g.0 fb f.0 e n.0 in
          let none : passing (y ∷ ys) ≡ [] = ap (λ (c : Bool). cond c (y ∷ passing ys) (passing ys)) e ∙ none-passes bound y ys fb g.0 g.1 s.0 e in
          ap (λ (rs : List Keyed). take (suc k) (merged d (x ∷ xs) rs)) none
          ∙ ap (λ (rs : List Keyed). x ∷ rs)
          (ap (take k) (sym (merged-none d xs)) ∙ ap (λ (rs : List Keyed). take k (merged d xs rs)) (sym none) ∙ b)
          ∙ ap (take (suc k)) (sym (merged-ahead d x xs y ys later))

-- the last of ordered rows: what holds of the key of each holds of the key of the last
known-is : (v b : Val) → known v ≡ Some b → v ≡ b
known-is null_val b h = let no : ⊥ = cc in absurd no
known-is _ b h = cc

known-not_null : (v b : Val) → known v ≡ Some b → is_null_val b ≡ false
known-not_null null_val b h = let no : ⊥ = cc in absurd no
known-not_null v b h =
    ⊎_elim (λ (a : is_null_val b ≡ true). let no : ⊥ = cc in absurd no) (λ (a : is_null_val b ≡ false). a) (cases_Bool (is_null_val b))

last-so : (P : Val → Type 0) (b : Val) (rows : List Keyed) → known_last rows ≡ Some b → AllByRecursion (λ r. P r.key) rows → P b
last-so P b [] e h = let no : ⊥ = cc in absurd no
last-so P b (r ∷ []) e h = subst P (known-is r.key b e) h.0
last-so P b (r ∷ s ∷ rows) e h = last-so P b (s ∷ rows) e h.1

last-not_null : (b : Val) (rows : List Keyed) → known_last rows ≡ Some b → is_null_val b ≡ false
last-not_null b [] e = let no : ⊥ = cc in absurd no
last-not_null b (r ∷ []) e = known-not_null r.key b e
last-not_null b (r ∷ s ∷ rows) e = last-not_null b (s ∷ rows) e

-- it stands before none of them
last-behind : (d : Bool) (b : Val) (rows : List Keyed) → known_last rows ≡ Some b → Sorted d rows → AllByRecursion (λ r. stands_before d b r.key ≡ false) rows
last-behind d b [] e h = tt
last-behind d b (r ∷ []) e h = (subst (λ (v : Val). stands_before d b v ≡ false) (sym (known-is r.key b e)) (before-itself d b), tt)
last-behind d b (r ∷ s ∷ rows) e h =
    (last-so (λ v. stands_before d v r.key ≡ false) b (s ∷ rows) e h.0, last-behind d b (s ∷ rows) e h.1)

-- what a bound says of the rows that were found
pub record Bounds (ask : TopAsk) (found : List Keyed) (bound : Val) : Type 0 where
  pub enough : ask.count ≤ length found
  pub last : known_last (first_rows ask found) ≡ Some bound

pub bound-so : (ask : TopAsk) (found : List Keyed) (bound : Val) → bound_before ask found ≡ Some bound → Bounds ask found bound
bound-so ask found bound h = by-test (nat_le ask.count (length found)) refl h
  where
    by-test : (b : Bool) → nat_le ask.count (length found) ≡ b → cond b (known_last (first_rows ask found)) None ≡ Some bound → Bounds ask found bound
    by-test true e k = record { enough = leb-true ask.count (length found) e; last = k }
    by-test false e k = let no : ⊥ = cc in absurd no

pub bound-of-type : (ask : TopAsk) (t : Ty) (found : List Keyed) (bound : Val) → Bounds ask found bound → AllByRecursion (OfType t) found → is_of t bound ≡ true
bound-of-type ask t found bound h f =
    last-so (λ v. is_of t v ≡ true) bound (first_rows ask found) h.last
    (all-take (OfType t) ask.count (in_key_order ask.descending found) (order-all (OfType t) ask.descending found f))

pub bound-not_null : (ask : TopAsk) (found : List Keyed) (bound : Val) → Bounds ask found bound → is_null_val bound ≡ false
bound-not_null ask found bound h = last-not_null bound (first_rows ask found) h.last

-- rows that don't stand before the bound are not among the first
pub bounded-top : (ask : TopAsk) (t : Ty) (bound : Val) (found more : List Keyed) → is_plain t ≡ true → Bounds ask found bound
    → AllByRecursion (OfType t) found → AllByRecursion (OfType t) more
    → first_rows ask (found ++ filter (λ r. stands_before ask.descending r.key bound) more) ≡ first_rows ask (found ++ more)
bounded-top ask t bound found more plain h f g =
    let d = ask.descending in
    let first = in_key_order d found in
    let further = in_key_order d more in
    let test : Keyed → Bool = λ r. stands_before d r.key bound in
    let sorted = order-sorted d t plain found f in
    let enough : ask.count ≤ length first = omega (arith, h.enough, length-in_key_order d found) in
    ap (take ask.count) (order-both d t plain found (filter test more) f (filter-all (OfType t) test more g))
    ∙ ap (λ (rs : List Keyed). take ask.count (merged d first rs)) (sym (filter-in_key_order d t plain test more g))
    ∙ cut-merged d t plain ask.count bound first further (bound-of-type ask t found bound h f) (order-all (OfType t) d found f) (order-all (OfType t) d more g)
    (order-sorted d t plain more g) enough (last-behind d bound (take ask.count first) h.last (sorted-take d ask.count first sorted))
    ∙ ap (take ask.count) (sym (order-both d t plain found more f g))

pub top_of_top : TopOfTop
top_of_top t d k rows more h =
    let parts = all-apart (OfType t) rows more (have-keys t (rows ++ more) h) in
    top-again d t h.plain k rows more parts.0 parts.1

pub bound_loses_none : BoundLosesNone
bound_loses_none ask bound found more h e =
    let parts = all-apart (OfType ask.key_type) found more (have-keys ask.key_type (found ++ more) h) in
    bounded-top ask ask.key_type bound found more h.plain (bound-so ask found bound e) parts.0 parts.1
