-- What honest statistics say of each row of a block.
use Rattle.std.proofs.Common.{◌≡◌, ℕ, zero, suc, refl, ap, sym, Bool, true, false, cond, ◌||◌, Option, Some, None, subst, List, [], ◌∷◌, arith}
use Rattle.std.specs.declared.cmp.Ordering.{Ordering}
use Rattle.std.specs.declared.cmp.Ordering.TheVariants.{Less, Equal, Greater}
use Rattle.std.specs.Prelude.{◌<ℤ◌, pos, nat_eq, length, slice_get}
use Rattle.std.specs.List.{list_all, filter, find, AllByRecursion}
use Rattle.std.specs.Ordering.{int_cmp, MatchOrdering}
use Rattle.std.proofs.lemmas.Cmp.{int_ranked}
use Rattle.std.proofs.lemmas.Int.{ints}
use Rattle.vx_dtype.specs.Order.{meets, compares}
use Rattle.std.proofs.lemmas.Bool.{and_parts}
use Rattle.vx_dtype.specs.declared.PType.TheVariants.{U64}
use Rattle.vx_dtype.specs.declared.CompareOperator.TheVariants.{Eq, Gte, Lte}
use Rattle.vx_dtype.specs.declared.Stat.{Stat}
use Rattle.vx_dtype.specs.declared.Stat.TheVariants.{Min, Max, NaNCount, NullCount}
use Rattle.vx_dtype.specs.Types.{Bytes, Ty}
use Rattle.vx_dtype.specs.Values.{Val, null_val, bool_val, int_val, text_val, list_val, struct_val, fault, Typed, value_of}
use Rattle.vx_expr.specs.Trees.{Tree, literal}
use Rattle.vx_semantics.specs.Meaning.{Slots, mean}
use Rattle.vx_dtype.specs.Equal.{names_eq}
use Rattle.vx_dtype.specs.EqualLaws.{names_decides}
use Rattle.vx_semantics.specs.Tables.{Table, ZoneStat, Zones, same_stat, joined_name}
use Rattle.vx_semantics.specs.Honest.{null_rows, honest_value, honest_values, IsHonest}
use Rattle.vx_semantics.specs.Paths.{path_value, path_of}
use Rattle.vx_dtype.specs.Logic.{is_null_val}
use Rattle.vx_semantics.specs.Pruning.{is_joined, is_statistic, available, known, value_in, known_in, known_at, known_bound}
use Rattle.vx_laws.proofs.Paths.{path_of-means}
use Rattle.vx_laws_scan.proofs.Ordered.{compares-stands, IsAtMost, IsAtMost-trans, IsAtMost-from_gte, IsAtMost-from_eq, is_ordered}
use Rattle.vx_laws_scan.proofs.Bounds.{IsWithin, itself-within}

-- what the known value of a statistic says of the value of its path at a row
abbrev pub HonestAt : Stat → List Bytes → Val → Val → Type 0
HonestAt Min path v row = is_ordered (path_value path row) ≡ true → IsAtMost v (path_value path row)
HonestAt Max path v row = is_ordered (path_value path row) ≡ true → IsAtMost (path_value path row) v
HonestAt NaNCount path v row = Unit {0}
HonestAt NullCount path v row = compares Eq v (int_val U64 (pos 0)) ≡ true → is_null_val (path_value path row) ≡ false

-- the known statistics of a block say so of a row
pub record RowHonest (zones : Zones) (block : ℕ) (row : Val) : Type 0 where
  pub at : (stat : Stat) (path : List Bytes) (v : Val) → known_at zones block stat (Some path) ≡ Some v → HonestAt stat path v row

other-part : (a b : Bool) → a ≡ false → (a || b) ≡ true → b ≡ true
other-part true b e h = let no : ⊥ = cc in absurd no
other-part false b e h = h

ordered-not_null : (v : Val) → is_ordered v ≡ true → is_null_val v ≡ false
ordered-not_null null_val h = let no : ⊥ = cc in absurd no
ordered-not_null _ h = refl

least-each : (path : List Bytes) (v : Val) (rows : List Val) → list_all (λ row. is_null_val (path_value path row) || compares Lte v (path_value path row)) rows ≡ true → AllByRecursion (HonestAt Min path v) rows
least-each path v [] h = tt
least-each path v (row ∷ rows) h =
    let parts = and_parts (is_null_val (path_value path row) || compares Lte v (path_value path row)) (list_all (λ r. is_null_val (path_value path r) || compares Lte v (path_value path r)) rows) h in
    (λ o. other-part (is_null_val (path_value path row)) (compares Lte v (path_value path row)) (ordered-not_null (path_value path row) o) parts.0, least-each path v rows parts.1)

greatest-each : (path : List Bytes) (v : Val) (rows : List Val) → list_all (λ row. is_null_val (path_value path row) || compares Gte v (path_value path row)) rows ≡ true → AllByRecursion (HonestAt Max path v) rows
greatest-each path v [] h = tt
greatest-each path v (row ∷ rows) h =
    let parts = and_parts (is_null_val (path_value path row) || compares Gte v (path_value path row)) (list_all (λ r. is_null_val (path_value path r) || compares Gte v (path_value path r)) rows) h in
    (λ o. IsAtMost-from_gte v (path_value path row) (other-part (is_null_val (path_value path row)) (compares Gte v (path_value path row)) (ordered-not_null (path_value path row) o) parts.0), greatest-each path v rows parts.1)

-- a count that is at most zero is zero
at_most_zero : (n : ℕ) → IsAtMost (int_val U64 (pos n)) (int_val U64 (pos 0)) → n ≡ 0
at_most_zero n h =
    let a = compares-stands Lte (int_val U64 (pos n)) (int_val U64 (pos 0)) h in
    let same : a.stand ≡ int_cmp (pos n) (pos 0) = cc (a.is) in
    by-stand a.stand (int_ranked (pos n) (pos 0) a.stand same) a.meeting
  where
    by-stand : (o : Ordering) → MatchOrdering o (pos n <ℤ pos 0) (pos n ≡ pos 0) (pos 0 <ℤ pos n) → meets Lte o ≡ true → n ≡ 0
    by-stand Less r m = omega (arith, ints, r)
    by-stand Equal r m = omega (arith, ints, r)
    by-stand Greater r m = let no : ⊥ = cc in absurd no

no_null_rows : (path : List Bytes) (rows : List Val) → null_rows path rows ≡ 0 → AllByRecursion (λ row. is_null_val (path_value path row) ≡ false) rows
no_null_rows path [] h = tt
no_null_rows path (row ∷ rows) h = by-test (is_null_val (path_value path row)) refl h (no_null_rows path rows)
  where
    by-test : (b : Bool) → is_null_val (path_value path row) ≡ b
        → length (cond b (row ∷ filter (λ r. is_null_val (path_value path r)) rows) (filter (λ r. is_null_val (path_value path r)) rows)) ≡ 0
        → (null_rows path rows ≡ 0 → AllByRecursion (λ r. is_null_val (path_value path r) ≡ false) rows) → AllByRecursion (λ r. is_null_val (path_value path r) ≡ false) (row ∷ rows)
    by-test true e k r = absurd (omega (arith, k))
    by-test false e k r = (e, r k)

always : (P Q : Val → Type 0) (rows : List Val) → ((row : Val) → P row → Q row) → AllByRecursion P rows → AllByRecursion Q rows
always P Q [] w h = tt
always P Q (row ∷ rows) w h = (w row h.0, always P Q rows w h.1)

-- where a count isn't zero, it says nothing
anyway : (P : Val → Type 0) (rows : List Val) → ((row : Val) → P row) → AllByRecursion P rows
anyway P [] w = tt
anyway P (row ∷ rows) w = (w row, anyway P rows w)

counts-each : (path : List Bytes) (v : Val) (rows : List Val) → compares Gte v (int_val U64 (pos (null_rows path rows))) ≡ true → AllByRecursion (HonestAt NullCount path v) rows
counts-each path v rows h = by-test (compares Eq v (int_val U64 (pos 0))) refl
  where
    by-test : (b : Bool) → compares Eq v (int_val U64 (pos 0)) ≡ b → AllByRecursion (HonestAt NullCount path v) rows
    by-test true e =
        let n = int_val U64 (pos (null_rows path rows)) in
        always (λ row. is_null_val (path_value path row) ≡ false) (HonestAt NullCount path v) rows (λ row k _. k)
        (no_null_rows path rows (at_most_zero (null_rows path rows) (IsAtMost-trans n v (int_val U64 (pos 0)) (IsAtMost-from_gte v n h) (IsAtMost-from_eq v (int_val U64 (pos 0)) e))))
    by-test false e = anyway (HonestAt NullCount path v) rows (λ row k. let no : ⊥ = cc in absurd no)

pub honest-each : (stat : Stat) (path : List Bytes) (v : Val) (rows : List Val) → is_null_val v ≡ false → honest_value stat path v rows ≡ true → AllByRecursion (HonestAt stat path v) rows
honest-each Min path v rows n h = least-each path v rows (other-part (is_null_val v) (list_all (λ row. is_null_val (path_value path row) || compares Lte v (path_value path row)) rows) n h)
honest-each Max path v rows n h = greatest-each path v rows (other-part (is_null_val v) (list_all (λ row. is_null_val (path_value path row) || compares Gte v (path_value path row)) rows) n h)
honest-each NaNCount path v rows n h = anyway (HonestAt NaNCount path v) rows (λ row. tt)
honest-each NullCount path v rows n h = counts-each path v rows (other-part (is_null_val v) (compares Gte v (int_val U64 (pos (null_rows path rows)))) n h)

honest-block : (stat : Stat) (path : List Bytes) (ss : List Typed) (blocks : List (List Val)) (block : ℕ) (s : Typed) (rows : List Val) → honest_values stat path ss blocks ≡ true
    → slice_get ss block ≡ Some s → slice_get blocks block ≡ Some rows → honest_value stat path (value_of s) rows ≡ true
honest-block stat path [] blocks block s rows h e k = let no : ⊥ = cc in absurd no
honest-block stat path (c ∷ ss) [] block s rows h e k = let no : ⊥ = cc in absurd no
honest-block stat path (c ∷ ss) (xs ∷ blocks) zero s rows h e k =
    let parts = and_parts (honest_value stat path (value_of c) xs) (honest_values stat path ss blocks) h in
    let first : c ≡ s = cc in
    let second : xs ≡ rows = cc in
    subst (λ (z : List Val). honest_value stat path (value_of s) z ≡ true) second (subst (λ (z : Typed). honest_value stat path (value_of z) xs ≡ true) first parts.0)
honest-block stat path (c ∷ ss) (xs ∷ blocks) (suc block) s rows h e k =
    let parts = and_parts (honest_value stat path (value_of c) xs) (honest_values stat path ss blocks) h in
    honest-block stat path ss blocks block s rows parts.1 e k

-- what a search finds passes its test, and what holds of all holds of it
pub record Found {X : Type 0} (test holds : X → Bool) (x : X) : Type 0 where
  pub passes : test x ≡ true
  pub own : holds x ≡ true

find-found : {X : Type 0} (test holds : X → Bool) (xs : List X) (x : X) → find test xs ≡ Some x → list_all holds xs ≡ true → Found test holds x
find-found test holds [] x e h = let no : ⊥ = cc in absurd no
find-found test holds (y ∷ xs) x e h =
    let parts = and_parts (holds y) (list_all holds xs) h in
    by-test (test y) refl e parts.0 (λ k. find-found test holds xs x k parts.1)
  where
    by-test : (b : Bool) → test y ≡ b → cond b (Some y) (find test xs) ≡ Some x → holds y ≡ true → (find test xs ≡ Some x → Found test holds x) → Found test holds x
    by-test true k f o r =
        let same : y ≡ x = cc in
        record { passes = subst (λ z. test z ≡ true) same k; own = subst (λ z. holds z ≡ true) same o }
    by-test false k f o r = r f

pub same_stat-same : (a b : Stat) → same_stat a b ≡ true → a ≡ b
same_stat-same Min Min h = refl
same_stat-same Max Max h = refl
same_stat-same NaNCount NaNCount h = refl
same_stat-same NullCount NullCount h = refl
same_stat-same _ _ h = let no : ⊥ = cc in absurd no

cond-some : {X : Type 0} (b : Bool) (o : Option X) (x : X) → cond b o None ≡ Some x → o ≡ Some x
cond-some true o x h = h
cond-some false o x h = let no : ⊥ = cc in absurd no

-- a known value is the statistic's in the block, and not null
pub record KnownIn (z : ZoneStat) (block : ℕ) (v : Val) : Type 0 where
  pub constant : Typed
  pub there : slice_get z.values block ≡ Some constant
  pub is : value_of constant ≡ v
  pub not_null : is_null_val v ≡ false

known-not_null : (v m : Val) → known v ≡ Some m → (v ≡ m) × (is_null_val m ≡ false)
known-not_null null_val m h = let no : ⊥ = cc in absurd no
known-not_null (bool_val b) m h = let e : bool_val b ≡ m = cc in (e, ap is_null_val (sym e))
known-not_null (int_val p b) m h = let e : int_val p b ≡ m = cc in (e, ap is_null_val (sym e))
known-not_null (text_val b) m h = let e : text_val b ≡ m = cc in (e, ap is_null_val (sym e))
known-not_null (list_val b) m h = let e : list_val b ≡ m = cc in (e, ap is_null_val (sym e))
known-not_null (struct_val b) m h = let e : struct_val b ≡ m = cc in (e, ap is_null_val (sym e))
known-not_null fault m h = let e : fault ≡ m = cc in (e, ap is_null_val (sym e))

pub known_in-ok : (z : ZoneStat) (block : ℕ) (v : Val) → known_in (Some z) block ≡ Some v → KnownIn z block v
known_in-ok z block v h = by-value (slice_get z.values block) refl h
  where
    by-value : (o : Option Typed) → slice_get z.values block ≡ o → value_in o ≡ Some v → KnownIn z block v
    by-value None e k = let no : ⊥ = cc in absurd no
    by-value (Some s) e k = let both = known-not_null (value_of s) v k in record { constant = s; there = e; is = both.0; not_null = both.1 }

-- a known value of a path comes from one of its statistics
pub record KnownAt (zones : Zones) (block : ℕ) (stat : Stat) (path : List Bytes) (v : Val) : Type 0 where
  pub statistic : ZoneStat
  pub found : find (is_statistic path stat) zones.stats ≡ Some statistic
  pub value : KnownIn statistic block v

pub known_at-ok : (zones : Zones) (block : ℕ) (stat : Stat) (path : List Bytes) (v : Val) → known_at zones block stat (Some path) ≡ Some v → KnownAt zones block stat path v
known_at-ok zones block stat path v h = by-statistic (available zones path stat) refl h
  where
    by-statistic : (o : Option ZoneStat) → available zones path stat ≡ o → known_in o block ≡ Some v → KnownAt zones block stat path v
    by-statistic None e k = let no : ⊥ = cc in absurd no
    by-statistic (Some z) e k = record {
      statistic = z;
      found = cond-some (nat_eq (length (filter (is_joined (joined_name path stat)) zones.stats)) 1) (find (is_statistic path stat) zones.stats) z e;
      value = known_in-ok z block v k;
    }

-- a known value of a path is honest at each row of the block
known_at-honest : (zones : Zones) (table : Table) (block : ℕ) (rows : List Val) → IsHonest zones table → slice_get table.blocks block ≡ Some rows
    → (stat : Stat) (path : List Bytes) (v : Val) → known_at zones block stat (Some path) ≡ Some v → AllByRecursion (HonestAt stat path v) rows
known_at-honest zones table block rows h e stat path v k =
    let at = known_at-ok zones block stat path v k in
    let z = at.statistic in
    let found = find-found (is_statistic path stat) (λ (y : ZoneStat). honest_values y.stat y.path y.values table.blocks) zones.stats z at.found h in
    let parts = and_parts (names_eq path z.path) (same_stat stat z.stat) found.passes in
    let own = honest-block z.stat z.path z.values table.blocks block at.value.constant rows found.own at.value.there e in
    let path_same = (names_decides path z.path).0 parts.0 in
    let stat_same = same_stat-same stat z.stat parts.1 in
    honest-each stat path v rows at.value.not_null
    (subst (λ (y : Val). honest_value stat path y rows ≡ true) at.value.is
    (subst (λ (p : List Bytes). honest_value stat p (value_of at.value.constant) rows ≡ true) (sym path_same)
    (subst (λ (s : Stat). honest_value s z.path (value_of at.value.constant) rows ≡ true) (sym stat_same) own)))

-- the facts of each row, from facts of all rows
each_row : {A : Type 0} (P : A → Val → Type 0) (rows : List Val) → ((a : A) → AllByRecursion (P a) rows) → AllByRecursion (λ row. (a : A) → P a row) rows
each_row P [] h = tt
each_row P (row ∷ rows) h = (λ a. (h a).0, each_row P rows (λ a. (h a).1))

-- a known value, as one thing
record Fact (zones : Zones) (block : ℕ) : Type 0 where
  stat : Stat
  path : List Bytes
  value : Val
  is : known_at zones block stat (Some path) ≡ Some value

pub rows-honest : (zones : Zones) (table : Table) (block : ℕ) (rows : List Val) → IsHonest zones table → slice_get table.blocks block ≡ Some rows → AllByRecursion (RowHonest zones block) rows
rows-honest zones table block rows h e =
    always (λ row. (a : Fact zones block) → HonestAt a.stat a.path a.value row) (RowHonest zones block) rows
    (λ row all. record { at = λ stat path v k. all (record { stat = stat; path = path; value = v; is = k }) })
    (each_row (λ (a : Fact zones block) row. HonestAt a.stat a.path a.value row) rows (λ a. known_at-honest zones table block rows h e a.stat a.path a.value a.is))

-- what an operand means at a row lies within its known bounds
path-within : (zones : Zones) (block : ℕ) (row : Val) (v : Val) (o : Option (List Bytes)) → RowHonest zones block row → ((path : List Bytes) → o ≡ Some path → v ≡ path_value path row)
    → IsWithin (λ s. known_at zones block s o) v
path-within zones block row v None h m = record { least = λ x k p. let no : ⊥ = cc in absurd no; greatest = λ x k p. let no : ⊥ = cc in absurd no }
path-within zones block row v (Some path) h m =
    let same = m path refl in
    record {
      least = λ x k p. subst (IsAtMost x) (sym same) (h.at Min path x k (subst (λ (z : Val). is_ordered z ≡ true) same p));
      greatest = λ x k p. subst (λ (z : Val). IsAtMost z x) (sym same) (h.at Max path x k (subst (λ (z : Val). is_ordered z ≡ true) same p));
    }

pub operand-within : (zones : Zones) (block : ℕ) (t : Ty) (slots : Slots) (row : Val) (e : Tree) → RowHonest zones block row → IsWithin (λ s. known_bound zones block s e) (mean t slots row e)
unfolding mean
operand-within zones block t slots row (literal s) h = itself-within (λ _. known (value_of s)) (value_of s) refl refl
operand-within zones block t slots row e h = path-within zones block row (mean t slots row e) (path_of e) h (path_of-means t slots row e)
