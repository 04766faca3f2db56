-- The statistics that the rows of a block have are honest for them.
use Rattle.std.proofs.Common.{◌≡◌, refl, ap, sym, ◌∙◌, ℕ, Bool, true, false, cond, ◌&&◌, Option, Some, None, subst, List, [], ◌∷◌, map, suc}
use Rattle.std.specs.Prelude.{pos, unwrap_or, length}
use Rattle.std.specs.List.{list_all, filter, flat_map, AllByRecursion}
use Rattle.std.specs.Option.{option_and_then}
use Rattle.std.specs.Str.{bytes_eq}
use Rattle.std.specs.declared.cmp.Ordering.TheVariants.{Equal}
use Rattle.std.proofs.lemmas.Bool.{and_parts, and_from}
use Rattle.std.proofs.lemmas.Cmp.{int_cmp_total, tied_itself}
use Rattle.std.proofs.lemmas.Slice.Eq.{bytes_eq-Decides}
use Rattle.vx_dtype.specs.declared.PType.TheVariants.{U64}
use Rattle.vx_dtype.specs.declared.Nullability.TheVariants.{Nullable}
use Rattle.vx_dtype.specs.declared.CompareOperator.{CompareOperator}
use Rattle.vx_dtype.specs.declared.CompareOperator.TheVariants.{Gte, Lte}
use Rattle.vx_dtype.specs.declared.Stat.{Stat}
use Rattle.vx_dtype.specs.declared.Stat.TheVariants.{Min, Max, NaNCount, NullCount}
use Rattle.vx_dtype.specs.Types.{Bytes, Ty, bool_ty, int_ty, text_ty, struct_ty, Fields, no_fields, field}
use Rattle.vx_dtype.specs.TypeRules.{is_plain, with_nullability, field_type, same_ptype}
use Rattle.vx_dtype.specs.Values.{Val, null_val, bool_val, int_val, text_val, struct_val, fault, Members, no_members, member, valued, value_of}
use Rattle.vx_dtype.specs.Fits.{val_fits, members_fit, in_range}
use Rattle.vx_dtype.specs.Logic.{is_null_val}
use Rattle.vx_dtype.specs.Structs.{member_named}
use Rattle.vx_semantics.specs.Paths.{path_value}
use Rattle.vx_semantics.specs.Tables.{row_type}
use Rattle.vx_semantics.specs.Honest.{bounds_all, null_rows, counts_nulls, honest_value, honest_values}
use Rattle.vx_zones.specs.Zoning.{type_at}
use Rattle.vx_laws.proofs.Comparing.{same_ptype-same}
use Rattle.vx_laws_scan.specs.Agreeing.{all_rows_fit}
use Rattle.vx_laws_scan.proofs.Keeping.{kept_rows_are_all}
use Rattle.vx_laws_scan.proofs.Ordered.{stands-compares}
use Rattle.vx_laws_stats.specs.BuiltStatistics.{Leaf, leaves_below, first_of, values_at, null_count, raw_of, built_scalar, statistics_at, built_zones}
use Rattle.vx_laws_stats.specs.BuiltLaws.{AreOfType, BuiltStatisticsAreHonest, BuiltStatisticsLoseNoRow}
use Rattle.vx_laws_stats.proofs.Extremes.{is_of, covers, IsOrder, lte_is_order, gte_is_order, or_second, first-of}
use Rattle.vx_laws_stats.proofs.LeafFacts.{IsLeaf, table-leaves}

pub path-null : (path : List Bytes) → path_value path null_val ≡ null_val
path-null [] = refl
path-null (f ∷ path) = path-null path

-- what a struct type has under a name, a value of it has there
field-fits : (f : Bytes) (ms : Members) (fs : Fields) (w : Ty) → members_fit ms fs ≡ true → field_type f fs ≡ Some w → val_fits (unwrap_or (member_named f ms) fault) w ≡ true
unfolding val_fits
field-fits f no_members no_fields w h e = let no : ⊥ = cc in absurd no
field-fits f no_members (field g t fs) w h e = let no : ⊥ = cc in absurd no
field-fits f (member g x ms) no_fields w h e = let no : ⊥ = cc in absurd no
field-fits f (member g x ms) (field k t fs) w h e =
    let parts = and_parts (bytes_eq g k) (val_fits x t && members_fit ms fs) h in
    let more = and_parts (val_fits x t) (members_fit ms fs) parts.1 in
    let same : g ≡ k = (bytes_eq-Decides g k).0 parts.0 in
    by-test (bytes_eq f g) (subst (λ (z : Bytes). cond (bytes_eq f z) (Some t) (field_type f fs) ≡ Some w) (sym same) e) more.0 (field-fits f ms fs w more.1)
  where
    by-test : (b : Bool) → cond b (Some t) (field_type f fs) ≡ Some w → val_fits x t ≡ true → (field_type f fs ≡ Some w → val_fits (unwrap_or (member_named f ms) fault) w ≡ true)
        → val_fits (unwrap_or (cond b (Some x) (member_named f ms)) fault) w ≡ true
    by-test true d a r = let same : t ≡ w = cc in subst (λ (z : Ty). val_fits x z ≡ true) same a
    by-test false d a r = r d

-- the value of a path at a value of a type is null or of the type that the path leads to
pub path-fits : (path : List Bytes) (t : Ty) (v : Val) (u : Ty) → val_fits v t ≡ true → type_at path t ≡ Some u → is_of u (path_value path v) ≡ true
unfolding val_fits
path-fits [] t v u h e = let same : t ≡ u = cc in or_second (is_null_val v) (val_fits v u) (subst (λ (z : Ty). val_fits v z ≡ true) same h)
path-fits (f ∷ path) (struct_ty fs n) null_val u h e = ap (is_of u) (path-null path)
path-fits (f ∷ path) (struct_ty fs n) (struct_val ms) u h e =
    by-type (field_type f fs) refl e (λ w k c. path-fits path w (unwrap_or (member_named f ms) fault) u k c)
  where
    by-type : (o : Option Ty) → field_type f fs ≡ o → option_and_then (type_at path) o ≡ Some u
        → ((w : Ty) → val_fits (unwrap_or (member_named f ms) fault) w ≡ true → type_at path w ≡ Some u → is_of u (path_value path (unwrap_or (member_named f ms) fault)) ≡ true)
        → is_of u (path_value path (unwrap_or (member_named f ms) fault)) ≡ true
    by-type None d k r = let no : ⊥ = cc in absurd no
    by-type (Some w) d k r = r w (field-fits f ms fs w h d) k
path-fits (f ∷ path) _ _ u h e = let no : ⊥ = cc in absurd no

pub values-fit : (path : List Bytes) (t u : Ty) (rows : List Val) → type_at path t ≡ Some u → list_all (λ row. val_fits row t) rows ≡ true → AreOfType u (values_at path rows)
values-fit path t u [] e h = refl
values-fit path t u (row ∷ rows) e h =
    let parts = and_parts (val_fits row t) (list_all (λ (v : Val). val_fits v t) rows) h in
    and_from (is_of u (path_value path row)) (list_all (is_of u) (values_at path rows)) (path-fits path t row u parts.0 e) (values-fit path t u rows e parts.1)

-- the raw value of a plain value stands for it
pub valued-again : (t : Ty) (v : Val) → is_plain t ≡ true → is_of t v ≡ true → valued (raw_of v) (with_nullability t Nullable) ≡ v
unfolding valued val_fits
valued-again (bool_ty n) null_val p h = refl
valued-again (bool_ty n) (bool_val b) p h = refl
valued-again (int_ty q n) null_val p h = refl
valued-again (int_ty q n) (int_val r i) p h =
    let same : r ≡ q = same_ptype-same r q (and_parts (same_ptype r q) (in_range q i) h).0 in
    ap (λ s. int_val s i) (sym same)
valued-again (text_ty n) null_val p h = refl
valued-again (text_ty n) (text_val s) p h = refl
valued-again _ _ p h = let no : ⊥ = cc in absurd no

all-at : (p : Val → Bool) (path : List Bytes) (rows : List Val) → list_all p (values_at path rows) ≡ list_all (λ row. p (path_value path row)) rows
all-at p path [] = refl
all-at p path (row ∷ rows) = ap (λ b. p (path_value path row) && b) (all-at p path rows)

-- a bound that is the first value by an order bounds each
bounding : (op : CompareOperator) (t : Ty) (path : List Bytes) (rows : List Val) → IsOrder op → is_plain t ≡ true → AreOfType t (values_at path rows)
    → bounds_all op (valued (raw_of (first_of op (values_at path rows))) (with_nullability t Nullable)) path rows ≡ true
bounding op t path rows total p h =
    let bound = first_of op (values_at path rows) in
    let first = first-of op t total p (values_at path rows) h in
    subst (λ (b : Val). bounds_all op b path rows ≡ true) (sym (valued-again t bound p first.own))
    (or_second (is_null_val bound) (list_all (λ row. covers op bound (path_value path row)) rows) (sym (all-at (covers op bound) path rows) ∙ first.covering))

-- as many values of a path are null as rows at which it is null
nulls-at : (path : List Bytes) (rows : List Val) → null_count (values_at path rows) ≡ null_rows path rows
nulls-at path [] = refl
nulls-at path (row ∷ rows) = by-test (is_null_val (path_value path row)) (nulls-at path rows)
  where
    by-test : (b : Bool) → null_count (values_at path rows) ≡ null_rows path rows
        → length (cond b (path_value path row ∷ filter is_null_val (values_at path rows)) (filter is_null_val (values_at path rows)))
        ≡ length (cond b (row ∷ filter (λ (r : Val). is_null_val (path_value path r)) rows) (filter (λ (r : Val). is_null_val (path_value path r)) rows))
    by-test true h = ap suc h
    by-test false h = h

counting : (path : List Bytes) (rows : List Val) → counts_nulls (int_val U64 (pos (null_count (values_at path rows)))) path rows ≡ true
counting path rows =
    let n = int_val U64 (pos (null_rows path rows)) in
    ap (λ (k : ℕ). counts_nulls (int_val U64 (pos k)) path rows) (nulls-at path rows)
    ∙ stands-compares Gte n n Equal (ap Some (tied_itself int_cmp_total (pos (null_rows path rows)))) refl

-- each of the three statistics is honest in a block
honest-block : (columns : Fields) (l : Leaf) (stat : Stat) (rows : List Val) → IsLeaf columns l → list_all (λ row. val_fits row (row_type columns)) rows ≡ true
    → honest_value stat l.path (value_of (built_scalar stat l.ty (values_at l.path rows))) rows ≡ true
unfolding valued
honest-block columns l Min rows h f = bounding Lte l.ty l.path rows lte_is_order h.plain (values-fit l.path (row_type columns) l.ty rows h.found f)
honest-block columns l Max rows h f = bounding Gte l.ty l.path rows gte_is_order h.plain (values-fit l.path (row_type columns) l.ty rows h.found f)
honest-block columns l NaNCount rows h f = refl
honest-block columns l NullCount rows h f = counting l.path rows

honest-blocks : (columns : Fields) (l : Leaf) (stat : Stat) (blocks : List (List Val)) → IsLeaf columns l → all_rows_fit (row_type columns) blocks ≡ true
    → honest_values stat l.path (map (built_scalar stat l.ty) (map (values_at l.path) blocks)) blocks ≡ true
honest-blocks columns l stat [] h f = refl
honest-blocks columns l stat (rows ∷ blocks) h f =
    let parts = and_parts (list_all (λ (row : Val). val_fits row (row_type columns)) rows) (all_rows_fit (row_type columns) blocks) f in
    and_from (honest_value stat l.path (value_of (built_scalar stat l.ty (values_at l.path rows))) rows)
    (honest_values stat l.path (map (built_scalar stat l.ty) (map (values_at l.path) blocks)) blocks)
    (honest-block columns l stat rows h parts.0) (honest-blocks columns l stat blocks h parts.1)

honest-leaves : (columns : Fields) (blocks : List (List Val)) (ls : List Leaf) → AllByRecursion (IsLeaf columns) ls → all_rows_fit (row_type columns) blocks ≡ true
    → list_all (λ z. honest_values z.stat z.path z.values blocks) (flat_map (statistics_at blocks) ls) ≡ true
honest-leaves columns blocks [] h f = refl
honest-leaves columns blocks (l ∷ ls) h f =
    rw (honest-blocks columns l Min blocks h.0 f, honest-blocks columns l Max blocks h.0 f, honest-blocks columns l NullCount blocks h.0 f)
    (honest-leaves columns blocks ls h.1 f)

pub honest : BuiltStatisticsAreHonest
honest table h = honest-leaves table.columns table.blocks (leaves_below table.columns) (table-leaves table.columns h.names) h.fit

pub no_row_lost : BuiltStatisticsLoseNoRow
no_row_lost table slots f p h = kept_rows_are_all (built_zones table) table slots f p (honest table h)
