-- The types of the columns of the available statistics of accepted zones.
use Rattle.std.proofs.Common.{◌≡◌, ℕ, zero, ◌<◌, ◌≤◌, refl, ap, sym, ◌∙◌, Bool, true, false, cond, not, Option, Some, None, List, [], ◌∷◌, Ok, arith}
use Rattle.std.specs.Prelude.{is_some, option_map, ok_or, length, slice_get}
use Rattle.std.specs.Option.{option_and_then}
use Rattle.std.specs.List.{filter, find, list_all}
use Rattle.std.proofs.lemmas.Bool.{and_parts, and_from, or_from}
use Rattle.std.proofs.lemmas.Bool.Decides.{Decides-eqb}
use Rattle.vx_dtype.specs.declared.PType.TheVariants.{U64}
use Rattle.vx_dtype.specs.declared.Nullability.TheVariants.{NonNullable, Nullable}
use Rattle.vx_dtype.specs.declared.Stat.{Stat}
use Rattle.vx_dtype.specs.declared.Stat.TheVariants.{Min, Max, NaNCount, NullCount}
use Rattle.vx_dtype.specs.Types.{Bytes, Ty, bool_ty, int_ty, text_ty, list_ty, struct_ty, Fields}
use Rattle.vx_dtype.specs.TypeRules.{with_nullability, widened, is_plain, field_names, field_type, has_name, distinct_names, no_name_twice, no_name_twice_below}
use Rattle.vx_dtype.specs.Values.{Typed}
use Rattle.vx_dtype.specs.Equal.{ty_eq}
use Rattle.vx_dtype.specs.EqualLaws.{ty_decides}
use Rattle.vx_semantics.specs.Typing.{and_then, unless, duplicate_field, unknown_field, item_type, typed_of}
use Rattle.vx_semantics.specs.Tables.{Zones, ZoneStat, row_type, joined_name}
use Rattle.vx_semantics.specs.Pruning.{is_joined, is_statistic, available}
use Rattle.vx_passes.specs.Catalogs.{statistic_column}
use Rattle.vx_passes.specs.PruningTables.{available_statistics, first_type, statistics_fields, pruning_fields}
use Rattle.vx_zones.specs.Zoning.{plain_only, type_at, leaf_type, statistic_type, type_of_statistic, counts_blocks, values_have, has_its_type}
use Rattle.vx_laws.proofs.Inverting.{bytes_eq-itself}
use Rattle.vx_laws.proofs.Distinct.{has-not}
use Rattle.vx_laws_pruning.specs.PruningLaws.{AreAccepted}
use Rattle.vx_laws_pruning.proofs.Columns.{find-holds, available-is, kept-found}
use Rattle.vx_laws_pruning.proofs.Accepted.{follows_rules, value-typed, plain-nullability}

field-found : (name : Bytes) (zs : List ZoneStat) → field_type name (statistics_fields zs) ≡ option_map (λ z. first_type z.values (int_ty U64 Nullable)) (find (is_joined name) zs)
field-found name [] = refl
field-found name (z ∷ zs) = by-test (is_joined name z) (field-found name zs)
  where
    by-test : (b : Bool) → field_type name (statistics_fields zs) ≡ option_map (λ z. first_type z.values (int_ty U64 Nullable)) (find (is_joined name) zs)
        → cond b (Some (first_type z.values (int_ty U64 Nullable))) (field_type name (statistics_fields zs))
        ≡ option_map (λ z. first_type z.values (int_ty U64 Nullable)) (cond b (Some z) (find (is_joined name) zs))
    by-test true h = refl
    by-test false h = h

-- no name that no statistic has is a column's
no-column : (name : Bytes) (keeps : ZoneStat → Bool) (zs : List ZoneStat) → length (filter (is_joined name) zs) ≡ 0 → has_name name (field_names (statistics_fields (filter keeps zs))) ≡ false
no-column name keeps [] h = refl
no-column name keeps (z ∷ zs) h = by-joined (is_joined name z) refl h (no-column name keeps zs)
  where
    by-kept : (c : Bool) → is_joined name z ≡ false → has_name name (field_names (statistics_fields (filter keeps zs))) ≡ false
        → has_name name (field_names (statistics_fields (cond c (z ∷ filter keeps zs) (filter keeps zs)))) ≡ false
    by-kept true e r = or_from (is_joined name z) (has_name name (field_names (statistics_fields (filter keeps zs)))) e r
    by-kept false e r = r

    by-joined : (b : Bool) → is_joined name z ≡ b → length (cond b (z ∷ filter (is_joined name) zs) (filter (is_joined name) zs)) ≡ 0
        → (length (filter (is_joined name) zs) ≡ 0 → has_name name (field_names (statistics_fields (filter keeps zs))) ≡ false)
        → has_name name (field_names (statistics_fields (filter keeps (z ∷ zs)))) ≡ false
    by-joined true e k r = absurd (omega (arith, k))
    by-joined false e k r = by-kept (keeps z) e (r k)

-- the joined name of a statistic
abbrev name_of : ZoneStat → Bytes
name_of z = joined_name z.path z.stat

fewer : (name : Bytes) (z : ZoneStat) (zs : List ZoneStat) → length (filter (is_joined name) (z ∷ zs)) ≤ 1 → length (filter (is_joined name) zs) ≤ 1
fewer name z zs h = by-test (is_joined name z) h
  where
    by-test : (b : Bool) → length (cond b (z ∷ filter (is_joined name) zs) (filter (is_joined name) zs)) ≤ 1 → length (filter (is_joined name) zs) ≤ 1
    by-test true k = omega (arith, k)
    by-test false k = k

only-first : (z : ZoneStat) (zs : List ZoneStat) → length (filter (is_joined (name_of z)) (z ∷ zs)) ≤ 1 → length (filter (is_joined (name_of z)) zs) ≡ 0
only-first z zs h = by-test (is_joined (name_of z) z) (bytes_eq-itself (name_of z)) h
  where
    by-test : (b : Bool) → b ≡ true → length (cond b (z ∷ filter (is_joined (name_of z)) zs) (filter (is_joined (name_of z)) zs)) ≤ 1 → length (filter (is_joined (name_of z)) zs) ≡ 0
    by-test true e k = omega (arith, k)
    by-test false e k = let no : ⊥ = cc in absurd no

distinct-columns : (keeps : ZoneStat → Bool) (zs : List ZoneStat) → ((z : ZoneStat) → keeps z ≡ true → length (filter (is_joined (name_of z)) zs) ≤ 1)
    → distinct_names (field_names (statistics_fields (filter keeps zs))) ≡ true
distinct-columns keeps [] h = refl
distinct-columns keeps (z ∷ zs) h = by-kept (keeps z) refl (distinct-columns keeps zs (λ y k. fewer (name_of y) z zs (h y k)))
  where
    by-kept : (c : Bool) → keeps z ≡ c → distinct_names (field_names (statistics_fields (filter keeps zs))) ≡ true
        → distinct_names (field_names (statistics_fields (cond c (z ∷ filter keeps zs) (filter keeps zs)))) ≡ true
    by-kept true e r =
        and_from (not (has_name (name_of z) (field_names (statistics_fields (filter keeps zs))))) (distinct_names (field_names (statistics_fields (filter keeps zs))))
        (has-not (has_name (name_of z) (field_names (statistics_fields (filter keeps zs)))) (no-column (name_of z) keeps zs (only-first z zs (h z e)))) r
    by-kept false e r = r

-- what is kept stands alone under its joined name
kept-alone : (zones : Zones) (z : ZoneStat) → is_some (available zones z.path z.stat) ≡ true → length (filter (is_joined (name_of z)) zones.stats) ≤ 1
kept-alone zones z h = by-statistic (available zones z.path z.stat) refl h
  where
    by-statistic : (o : Option ZoneStat) → available zones z.path z.stat ≡ o → is_some o ≡ true → length (filter (is_joined (name_of z)) zones.stats) ≤ 1
    by-statistic None e k = let no : ⊥ = cc in absurd no
    by-statistic (Some y) e k = let alone = (available-is zones z.path z.stat y e).alone in omega (arith, alone)

pub plain-distinct : (t : Ty) → is_plain t ≡ true → no_name_twice t ≡ true
unfolding no_name_twice
plain-distinct (bool_ty n) h = refl
plain-distinct (int_ty p n) h = refl
plain-distinct (text_ty n) h = refl
plain-distinct (list_ty e n) h = let no : ⊥ = cc (h) in absurd no
plain-distinct (struct_ty fs n) h = let no : ⊥ = cc (h) in absurd no

-- a statistic's type is plain
pub plain-statistic : (stat : Stat) (o : Option Ty) (w : Ty) → option_and_then (statistic_type stat) (option_and_then plain_only o) ≡ Some w → is_plain w ≡ true
plain-statistic stat None w h = let no : ⊥ = cc in absurd no
plain-statistic stat (Some t) w h = by-plain (is_plain t) refl h
  where
    by-stat : (s : Stat) → is_plain t ≡ true → statistic_type s t ≡ Some w → is_plain w ≡ true
    by-stat Min p e = let same : t ≡ w = cc in ap is_plain (sym same) ∙ p
    by-stat Max p e = let same : t ≡ w = cc in ap is_plain (sym same) ∙ p
    by-stat NullCount p e = let same : int_ty U64 NonNullable ≡ w = cc in ap is_plain (sym same)
    by-stat NaNCount p e = let no : ⊥ = cc in absurd no

    by-plain : (b : Bool) → is_plain t ≡ b → option_and_then (statistic_type stat) (cond b (Some t) None) ≡ Some w → is_plain w ≡ true
    by-plain true p e = by-stat stat p e
    by-plain false p e = let no : ⊥ = cc in absurd no

-- the type of the column of a statistic has no struct with a name twice
pub first-plain : (columns : Fields) (z : ZoneStat) → has_its_type columns z ≡ true → no_name_twice (first_type z.values (int_ty U64 Nullable)) ≡ true
first-plain columns z h = by-values z.values (type_of_statistic columns z) refl h
  where
    by-values : (values : List Typed) (o : Option Ty) → type_of_statistic columns z ≡ o → values_have values o ≡ true → no_name_twice (first_type values (int_ty U64 Nullable)) ≡ true
    by-values values None e k = let no : ⊥ = cc in absurd no
    by-values [] (Some w) e k = plain-distinct (int_ty U64 Nullable) refl
    by-values (s ∷ ss) (Some w) e k =
        let parts = and_parts (ty_eq s.ty (with_nullability w Nullable)) (list_all (λ (c : Typed). ty_eq c.ty (with_nullability w Nullable)) ss) k in
        let same = (ty_decides s.ty (with_nullability w Nullable)).0 parts.0 in
        plain-distinct s.ty (ap is_plain same ∙ (plain-nullability w Nullable ∙ plain-statistic z.stat (type_at z.path (row_type columns)) w e))

all-plain : (columns : Fields) (keeps : ZoneStat → Bool) (zs : List ZoneStat) → list_all (has_its_type columns) zs ≡ true → no_name_twice_below (statistics_fields (filter keeps zs)) ≡ true
unfolding no_name_twice
all-plain columns keeps [] h = refl
all-plain columns keeps (z ∷ zs) h =
    let parts = and_parts (has_its_type columns z) (list_all (has_its_type columns) zs) h in
    by-kept (keeps z) (first-plain columns z parts.0) (all-plain columns keeps zs parts.1)
  where
    by-kept : (c : Bool) → no_name_twice (first_type z.values (int_ty U64 Nullable)) ≡ true → no_name_twice_below (statistics_fields (filter keeps zs)) ≡ true
        → no_name_twice_below (statistics_fields (cond c (z ∷ filter keeps zs) (filter keeps zs))) ≡ true
    by-kept true e r = and_from (no_name_twice (first_type z.values (int_ty U64 Nullable))) (no_name_twice_below (statistics_fields (filter keeps zs))) e r
    by-kept false e r = r

-- the row of statistics has no name twice
pub distinct-row : (zones : Zones) → AreAccepted zones → no_name_twice (row_type (pruning_fields zones)) ≡ true
unfolding no_name_twice
distinct-row zones a =
    let keeps : ZoneStat → Bool = λ z. is_some (available zones z.path z.stat) in
    and_from (distinct_names (field_names (pruning_fields zones))) (no_name_twice_below (pruning_fields zones)) (distinct-columns keeps zones.stats (kept-alone zones))
    (all-plain zones.columns keeps zones.stats (follows_rules zones a.lawful).have)

-- zones of one block at least
pub record HasBlocks (zones : Zones) : Type 0 where
  pub block : ℕ
  pub within : block < length zones.lengths

first-typed : (values : List Typed) (n block : ℕ) (w : Ty) → length values ≡ n → block < n → ((s : Typed) → slice_get values zero ≡ Some s → s.ty ≡ w) → first_type values (int_ty U64 Nullable) ≡ w
first-typed [] n block w e h k = absurd (omega (arith, e, h))
first-typed (s ∷ ss) n block w e h k = k s refl

widened-nullable : (w : Ty) → widened (with_nullability w Nullable) NonNullable ≡ with_nullability w Nullable
widened-nullable (bool_ty n) = refl
widened-nullable (int_ty p n) = refl
widened-nullable (text_ty n) = refl
widened-nullable (list_ty e n) = refl
widened-nullable (struct_ty fs n) = refl

-- the column of an available statistic has the statistic's type, made nullable
pub column-typed : (zones : Zones) → AreAccepted zones → HasBlocks zones → (path : List Bytes) (stat : Stat) (z : ZoneStat) (w : Ty) → available zones path stat ≡ Some z
    → option_and_then (statistic_type stat) (leaf_type zones.columns path) ≡ Some w → typed_of (row_type (pruning_fields zones)) (statistic_column path stat) ≡ Ok (with_nullability w Nullable)
unfolding typed_of
column-typed zones a b path stat z w h e =
    let name = joined_name path stat in
    let rt = row_type (pruning_fields zones) in
    let found = (available-is zones path stat z h).found in
    let many = (Decides-eqb (length z.values) (length zones.lengths)).0 (find-holds (is_statistic path stat) (counts_blocks zones.lengths) zones.stats z found (follows_rules zones a.lawful).counts) in
    let first : first_type z.values (int_ty U64 Nullable) ≡ with_nullability w Nullable =
    first-typed z.values (length zones.lengths) b.block (with_nullability w Nullable) many b.within (λ s k. (value-typed zones a path stat z zero s w h k e).is) in
    let own : field_type name (pruning_fields zones) ≡ Some (with_nullability w Nullable) =
    field-found name (available_statistics zones)
    ∙ (ap (option_map (λ (y : ZoneStat). first_type y.values (int_ty U64 Nullable))) (kept-found zones path stat z h) ∙ ap Some first) in
    ap (λ (c : Bool). and_then (unless c duplicate_field (Ok rt)) (item_type name)) (distinct-row zones a)
    ∙ (ap (λ (o : Option Ty). ok_or (option_map (λ u. widened u NonNullable) o) unknown_field) own ∙ ap Ok (widened-nullable w))
