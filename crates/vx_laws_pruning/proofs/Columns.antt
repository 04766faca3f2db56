-- The columns of the available statistics of zones: which a catalog answers, and what they mean.
use Rattle.std.proofs.Common.{◌≡◌, ℕ, suc, refl, ap, sym, ◌∙◌, Bool, true, false, cond, ◌&&◌, ◌||◌, Option, Some, None, subst, List, [], ◌∷◌, ◌++◌, arith}
use Rattle.std.specs.Prelude.{codes, is_some, option_map, unwrap_or, nat_eq, length, map, slice_get}
use Rattle.std.specs.List.{filter, find, list_any, list_all}
use Rattle.std.specs.Str.{bytes_eq}
use Rattle.std.specs.Cmp.{unsigned_Decides}
use Rattle.std.proofs.Math.Bool.{and-true, and_assoc}
use Rattle.std.proofs.lemmas.Bool.{and_parts}
use Rattle.vx_dtype.specs.declared.Stat.{Stat}
use Rattle.vx_dtype.specs.declared.Stat.TheVariants.{Min, Max, NaNCount, NullCount}
use Rattle.vx_dtype.specs.StatNames.{stat_name}
use Rattle.vx_dtype.specs.Types.{Bytes}
use Rattle.vx_dtype.specs.Equal.{names_eq}
use Rattle.vx_dtype.specs.EqualLaws.{names_decides}
use Rattle.vx_dtype.specs.Values.{Val, fault}
use Rattle.vx_dtype.specs.Structs.{member_named, field_of}
use Rattle.vx_semantics.specs.Tables.{Zones, ZoneStat, same_stat, joined_name, statistic_path, joined_path}
use Rattle.vx_semantics.specs.Pruning.{is_joined, is_statistic, available}
use Rattle.vx_passes.specs.Catalogs.{statistic_column, statistics_among, available_paths}
use Rattle.vx_passes.specs.PruningTables.{available_statistics, value_or_null, statistics_members, pruning_row}
use Rattle.vx_laws.proofs.Inverting.{bytes_eq-itself}
use Rattle.vx_laws_scan.proofs.HonestRows.{same_stat-same}

-- the joined name of a statistic's path
pub joined_path-behind : (path : List Bytes) (stat : Stat) → joined_path (statistic_path path stat) ≡ joined_name path stat
joined_path-behind [] stat = refl
joined_path-behind (f ∷ []) stat = refl
joined_path-behind (f ∷ g ∷ fs) stat = ap (λ (rest : Bytes). f ++ (codes "_" ++ rest)) (joined_path-behind (g ∷ fs) stat)

-- the names of statistics are distinct
stat_name-same : (s t : Stat) → bytes_eq (stat_name s) (stat_name t) ≡ same_stat s t
stat_name-same Min Min = refl
stat_name-same Max Max = refl
stat_name-same NaNCount NaNCount = refl
stat_name-same NullCount NullCount = refl
stat_name-same _ _ = refl

and-false : (b : Bool) → (b && false) ≡ false
and-false true = refl
and-false false = refl

names_eq-behind : (p q : List Bytes) (a b : Bytes) → names_eq (p ++ a ∷ []) (q ++ b ∷ []) ≡ (names_eq p q && bytes_eq a b)
names_eq-behind [] [] a b = and-true (bytes_eq a b)
names_eq-behind [] (g ∷ []) a b = and-false (bytes_eq a g)
names_eq-behind [] (g ∷ h ∷ gs) a b = and-false (bytes_eq a g)
names_eq-behind (f ∷ []) [] a b = and-false (bytes_eq f b)
names_eq-behind (f ∷ g ∷ fs) [] a b = and-false (bytes_eq f b)
names_eq-behind (f ∷ fs) (g ∷ gs) a b = ap (λ (x : Bool). bytes_eq f g && x) (names_eq-behind fs gs a b) ∙ sym (and_assoc (bytes_eq f g) (names_eq fs gs) (bytes_eq a b))

-- two statistics have one path where they are of one path and kind
pub statistic_path-same : (path : List Bytes) (stat : Stat) (z : ZoneStat) → names_eq (statistic_path path stat) (statistic_path z.path z.stat) ≡ is_statistic path stat z
statistic_path-same path stat z =
    names_eq-behind path z.path (stat_name stat) (stat_name z.stat) ∙ ap (λ (x : Bool). names_eq path z.path && x) (stat_name-same stat z.stat)

joined_path-same : (path : List Bytes) (stat : Stat) (z : ZoneStat)
    → bytes_eq (joined_path (statistic_path path stat)) (joined_path (statistic_path z.path z.stat)) ≡ is_joined (joined_name path stat) z
joined_path-same path stat z = λ i. bytes_eq (joined_path-behind path stat i) (joined_path-behind z.path z.stat i)

some-among : (path : List Bytes) (stat : Stat) (zs : List ZoneStat)
    → list_any (names_eq (statistic_path path stat)) (map (λ z. statistic_path z.path z.stat) zs) ≡ is_some (find (is_statistic path stat) zs)
some-among path stat [] = refl
some-among path stat (z ∷ zs) =
    ap (λ (b : Bool). b || list_any (names_eq (statistic_path path stat)) (map (λ z. statistic_path z.path z.stat) zs)) (statistic_path-same path stat z)
    ∙ by-test (is_statistic path stat z) (some-among path stat zs)
  where
    by-test : (b : Bool) → list_any (names_eq (statistic_path path stat)) (map (λ z. statistic_path z.path z.stat) zs) ≡ is_some (find (is_statistic path stat) zs)
        → (b || list_any (names_eq (statistic_path path stat)) (map (λ z. statistic_path z.path z.stat) zs)) ≡ is_some (cond b (Some z) (find (is_statistic path stat) zs))
    by-test true h = refl
    by-test false h = h

count-among : (path : List Bytes) (stat : Stat) (zs : List ZoneStat)
    → length (filter (λ p. bytes_eq (joined_path (statistic_path path stat)) (joined_path p)) (map (λ z. statistic_path z.path z.stat) zs))
    ≡ length (filter (is_joined (joined_name path stat)) zs)
count-among path stat [] = refl
count-among path stat (z ∷ zs) =
    by-tests (bytes_eq (joined_path (statistic_path path stat)) (joined_path (statistic_path z.path z.stat))) (is_joined (joined_name path stat) z)
    (joined_path-same path stat z) (count-among path stat zs)
  where
    rest : List (List Bytes)
    rest = filter (λ p. bytes_eq (joined_path (statistic_path path stat)) (joined_path p)) (map (λ z. statistic_path z.path z.stat) zs)

    by-tests : (b c : Bool) → b ≡ c → length rest ≡ length (filter (is_joined (joined_name path stat)) zs)
        → length (cond b (statistic_path z.path z.stat ∷ rest) rest) ≡ length (cond c (z ∷ filter (is_joined (joined_name path stat)) zs) (filter (is_joined (joined_name path stat)) zs))
    by-tests true true e h = ap suc h
    by-tests false false e h = h
    by-tests _ _ e h = let no : ⊥ = cc in absurd no

-- a catalog of the statistics of zones answers those that are available
pub answered : (zones : Zones) (path : List Bytes) (stat : Stat)
    → statistics_among (available_paths zones) path stat ≡ cond (is_some (available zones path stat)) (Some (statistic_column path stat)) None
answered zones path stat =
    ap (λ (b : Bool). cond b (Some (statistic_column path stat)) None)
    ((λ i. some-among path stat zones.stats i && nat_eq (count-among path stat zones.stats i) 1)
    ∙ by-count (nat_eq (length (filter (is_joined (joined_name path stat)) zones.stats)) 1) (find (is_statistic path stat) zones.stats))
  where
    by-count : (b : Bool) (o : Option ZoneStat) → (is_some o && b) ≡ is_some (cond b o None)
    by-count true o = and-true (is_some o)
    by-count false o = and-false (is_some o)

-- a statistic of a path has its joined name
pub statistic-is : (path : List Bytes) (stat : Stat) (z : ZoneStat) → is_statistic path stat z ≡ true → (path ≡ z.path) × (stat ≡ z.stat)
statistic-is path stat z h =
    let parts = and_parts (names_eq path z.path) (same_stat stat z.stat) h in
    ((names_decides path z.path).0 parts.0, same_stat-same stat z.stat parts.1)

pub statistic-joined : (path : List Bytes) (stat : Stat) (z : ZoneStat) → is_statistic path stat z ≡ true → is_joined (joined_name path stat) z ≡ true
statistic-joined path stat z h =
    let is = statistic-is path stat z h in
    ap (λ (n : Bytes). bytes_eq n (joined_name z.path z.stat)) (λ i. joined_name (is.0 i) (is.1 i)) ∙ bytes_eq-itself (joined_name z.path z.stat)

-- what a search finds passes the test
pub find-passes : {X : Type 0} (test : X → Bool) (xs : List X) (x : X) → find test xs ≡ Some x → test x ≡ true
find-passes test [] x h = let no : ⊥ = cc in absurd no
find-passes test (y ∷ ys) x h = by-test (test y) refl h (find-passes test ys x)
  where
    by-test : (b : Bool) → test y ≡ b → cond b (Some y) (find test ys) ≡ Some x → (find test ys ≡ Some x → test x ≡ true) → test x ≡ true
    by-test true e k r = let same : y ≡ x = cc in subst (λ z. test z ≡ true) same e
    by-test false e k r = r k

-- and what holds of all
pub find-holds : {X : Type 0} (test holds : X → Bool) (xs : List X) (x : X) → find test xs ≡ Some x → list_all holds xs ≡ true → holds x ≡ true
find-holds test holds [] x h k = let no : ⊥ = cc in absurd no
find-holds test holds (y ∷ ys) x h k = let parts = and_parts (holds y) (list_all holds ys) k in by-test (test y) h parts.0 (λ f. find-holds test holds ys x f parts.1)
  where
    by-test : (b : Bool) → cond b (Some y) (find test ys) ≡ Some x → holds y ≡ true → (find test ys ≡ Some x → holds x ≡ true) → holds x ≡ true
    by-test true f o r = let same : y ≡ x = cc in subst (λ z. holds z ≡ true) same o
    by-test false f o r = r f

pub none-left : {X : Type 0} (test : X → Bool) (xs : List X) → length (filter test xs) ≡ 0 → find test xs ≡ None
none-left test [] h = refl
none-left test (y ∷ ys) h = by-test (test y) h (none-left test ys)
  where
    by-test : (b : Bool) → length (cond b (y ∷ filter test ys) (filter test ys)) ≡ 0 → (length (filter test ys) ≡ 0 → find test ys ≡ None) → cond b (Some y) (find test ys) ≡ None
    by-test true k r = absurd (omega (arith, k))
    by-test false k r = r k

-- what the stronger of two tests finds, the weaker one finds too
weak-none : {X : Type 0} (strong weak : X → Bool) → ((x : X) → strong x ≡ true → weak x ≡ true) → (xs : List X) (x : X) → find strong xs ≡ Some x → find weak xs ≡ None → ⊥
weak-none strong weak w [] x f g = cc
weak-none strong weak w (z ∷ zs) x f g = by-test (strong z) refl (weak z) refl f g (weak-none strong weak w zs x)
  where
    by-test : (b : Bool) → strong z ≡ b → (c : Bool) → weak z ≡ c → cond b (Some z) (find strong zs) ≡ Some x → cond c (Some z) (find weak zs) ≡ None
        → (find strong zs ≡ Some x → find weak zs ≡ None → ⊥) → ⊥
    by-test b p true q f g r = cc
    by-test true p false q f g r = let yes = w z p in cc
    by-test false p false q f g r = r f g

-- the search behind a filter
kept-first : {X : Type 0} (weak keeps : X → Bool) (y : X) (ys : List X) → keeps y ≡ true → weak y ≡ true → find weak (filter keeps (y ∷ ys)) ≡ Some y
kept-first weak keeps y ys a b = ap (λ (c : Bool). find weak (cond c (y ∷ filter keeps ys) (filter keeps ys))) a ∙ ap (λ (c : Bool). cond c (Some y) (find weak (filter keeps ys))) b

kept-past : {X : Type 0} (weak keeps : X → Bool) (y : X) (ys : List X) (o : Option X) → weak y ≡ false → find weak (filter keeps ys) ≡ o → find weak (filter keeps (y ∷ ys)) ≡ o
kept-past weak keeps y ys o e f = by-test (keeps y)
  where
    by-test : (c : Bool) → find weak (cond c (y ∷ filter keeps ys) (filter keeps ys)) ≡ o
    by-test true = ap (λ (d : Bool). cond d (Some y) (find weak (filter keeps ys))) e ∙ f
    by-test false = f

-- where a weaker test is passed by one alone, it finds what the stronger one finds, and so behind a filter that keeps that one
pub one-found : {X : Type 0} (strong weak keeps : X → Bool) → ((x : X) → strong x ≡ true → weak x ≡ true) → (xs : List X) (x : X) → length (filter weak xs) ≡ 1
    → find strong xs ≡ Some x → keeps x ≡ true → find weak (filter keeps xs) ≡ Some x
one-found strong weak keeps w [] x n h k = let no : ⊥ = cc in absurd no
one-found strong weak keeps w (y ∷ ys) x n h k = by-weak (weak y) refl (strong y) refl n h (λ m g. one-found strong weak keeps w ys x m g k)
  where
    by-weak : (b : Bool) → weak y ≡ b → (c : Bool) → strong y ≡ c → length (cond b (y ∷ filter weak ys) (filter weak ys)) ≡ 1 → cond c (Some y) (find strong ys) ≡ Some x
        → (length (filter weak ys) ≡ 1 → find strong ys ≡ Some x → find weak (filter keeps ys) ≡ Some x) → find weak (filter keeps (y ∷ ys)) ≡ Some x
    by-weak true e true f m g r =
        let same : y ≡ x = cc in
        subst (λ z. find weak (filter keeps (y ∷ ys)) ≡ Some z) same (kept-first weak keeps y ys (subst (λ z. keeps z ≡ true) (sym same) k) e)
    by-weak true e false f m g r = absurd (weak-none strong weak w ys x g (none-left weak ys (omega (arith, m))))
    by-weak false e true f m g r = let yes = w y f in let no : ⊥ = cc in absurd no
    by-weak false e false f m g r = kept-past weak keeps y ys (Some x) e (r m g)

-- an available statistic: the only one of its joined name
pub record IsAvailable (zones : Zones) (path : List Bytes) (stat : Stat) (z : ZoneStat) : Type 0 where
  pub alone : length (filter (is_joined (joined_name path stat)) zones.stats) ≡ 1
  pub found : find (is_statistic path stat) zones.stats ≡ Some z

pub available-is : (zones : Zones) (path : List Bytes) (stat : Stat) (z : ZoneStat) → available zones path stat ≡ Some z → IsAvailable zones path stat z
available-is zones path stat z h = by-test (nat_eq (length (filter (is_joined (joined_name path stat)) zones.stats)) 1) refl h
  where
    by-test : (b : Bool) → nat_eq (length (filter (is_joined (joined_name path stat)) zones.stats)) 1 ≡ b → cond b (find (is_statistic path stat) zones.stats) None ≡ Some z
        → IsAvailable zones path stat z
    by-test true e k = record { alone = (unsigned_Decides (length (filter (is_joined (joined_name path stat)) zones.stats)) 1).0 e; found = k }
    by-test false e k = let no : ⊥ = cc in absurd no

member-found : (name : Bytes) (zs : List ZoneStat) (block : ℕ)
    → member_named name (statistics_members zs block) ≡ option_map (λ z. value_or_null (slice_get z.values block)) (find (is_joined name) zs)
member-found name [] block = refl
member-found name (z ∷ zs) block = by-test (is_joined name z) (member-found name zs block)
  where
    by-test : (b : Bool) → member_named name (statistics_members zs block) ≡ option_map (λ z. value_or_null (slice_get z.values block)) (find (is_joined name) zs)
        → cond b (Some (value_or_null (slice_get z.values block))) (member_named name (statistics_members zs block))
        ≡ option_map (λ z. value_or_null (slice_get z.values block)) (cond b (Some z) (find (is_joined name) zs))
    by-test true h = refl
    by-test false h = h

-- the statistic itself is kept
pub own-kept : (zones : Zones) (path : List Bytes) (stat : Stat) (z : ZoneStat) → available zones path stat ≡ Some z → is_some (available zones z.path z.stat) ≡ true
own-kept zones path stat z h =
    let is = statistic-is path stat z (find-passes (is_statistic path stat) zones.stats z (available-is zones path stat z h).found) in
    (λ i. is_some (available zones (sym is.0 i) (sym is.1 i))) ∙ ap is_some h

pub kept-found : (zones : Zones) (path : List Bytes) (stat : Stat) (z : ZoneStat) → available zones path stat ≡ Some z
    → find (is_joined (joined_name path stat)) (available_statistics zones) ≡ Some z
kept-found zones path stat z h =
    let a = available-is zones path stat z h in
    one-found (is_statistic path stat) (is_joined (joined_name path stat)) (λ (y : ZoneStat). is_some (available zones y.path y.stat)) (statistic-joined path stat) zones.stats z a.alone a.found
    (own-kept zones path stat z h)

-- the column of an available statistic holds its value in the block
pub column-value : (zones : Zones) (path : List Bytes) (stat : Stat) (z : ZoneStat) (block : ℕ) → available zones path stat ≡ Some z
    → field_of (joined_name path stat) (pruning_row zones block) ≡ value_or_null (slice_get z.values block)
column-value zones path stat z block h =
    ap (λ (o : Option Val). unwrap_or o fault)
    (member-found (joined_name path stat) (available_statistics zones) block
    ∙ ap (option_map (λ (y : ZoneStat). value_or_null (slice_get y.values block))) (kept-found zones path stat z h))
