-- What accepted zones say of the values of their statistics.
use Rattle.std.proofs.Common.{◌≡◌, ℕ, zero, suc, refl, ap, sym, ◌∙◌, Bool, true, false, cond, not, Option, Some, None, subst, List, [], ◌∷◌, ◌++◌, Ok}
use Rattle.std.specs.Prelude.{is_some, option_map, ok_or, slice_get}
use Rattle.std.specs.Option.{option_and_then}
use Rattle.std.specs.List.{list_all}
use Rattle.std.proofs.lemmas.Bool.{and_parts}
use Rattle.vx_dtype.specs.declared.PType.TheVariants.{U64}
use Rattle.vx_dtype.specs.declared.Nullability.{Nullability}
use Rattle.vx_dtype.specs.declared.Nullability.TheVariants.{NonNullable, Nullable}
use Rattle.vx_dtype.specs.declared.Stat.{Stat}
use Rattle.vx_dtype.specs.declared.Stat.TheVariants.{NaNCount, NullCount}
use Rattle.vx_dtype.specs.Types.{Bytes, Ty, bool_ty, int_ty, text_ty, list_ty, struct_ty, Fields}
use Rattle.vx_dtype.specs.TypeRules.{with_nullability, nullability_of, widened, union, is_plain, field_type, no_name_twice}
use Rattle.vx_dtype.specs.Values.{Typed, value_of}
use Rattle.vx_dtype.specs.Fits.{fits}
use Rattle.vx_dtype.specs.Equal.{ty_eq}
use Rattle.vx_dtype.specs.EqualLaws.{ty_decides}
use Rattle.vx_expr.specs.Trees.{Tree, root, get_item}
use Rattle.vx_semantics.specs.Typing.{item_type, duplicate_field, unknown_field, typed_of}
use Rattle.vx_semantics.specs.Tables.{Zones, ZoneStat, row_type}
use Rattle.vx_semantics.specs.Paths.{path_of}
use Rattle.vx_semantics.specs.Pruning.{is_statistic, available}
use Rattle.vx_zones.specs.declared.errors.ZoneError.{ZoneError}
use Rattle.vx_zones.specs.declared.errors.ZoneError.TheVariants as errors
use Rattle.vx_zones.specs.Zoning.{are_shallow, type_at, plain_only, leaf_type, statistic_type, type_of_statistic, distinct_statistics, counts_blocks, values_have, has_its_type, broken_rule}
use Rattle.vx_laws.proofs.Inverting.{and_then-ok, unless-ok, Ok-same}
use Rattle.vx_laws_pruning.specs.PruningLaws.{AreAccepted}
use Rattle.vx_laws_pruning.proofs.PlainKinds.{is_kind, kind-nullability, kind-valued}
use Rattle.vx_laws_pruning.proofs.Columns.{find-holds, statistic-is, find-passes, available-is}

cond-none : (b : Bool) (e : ZoneError) (o : Option ZoneError) → cond (not b) (Some e) o ≡ None → (b ≡ true) × (o ≡ None)
cond-none true e o h = (refl, h)
cond-none false e o h = let no : ⊥ = cc in absurd no

-- no struct of the table has a name twice, each statistic is of a plain field, stands once and has one value per block, and each of its values has its type
pub record FollowsRules (zones : Zones) : Type 0 where
  pub distinct : no_name_twice (row_type zones.columns) ≡ true
  pub counts : list_all (counts_blocks zones.lengths) zones.stats ≡ true
  pub leads : list_all (λ s. is_some (type_of_statistic zones.columns s)) zones.stats ≡ true
  pub apart : distinct_statistics zones.stats ≡ true
  pub have : list_all (has_its_type zones.columns) zones.stats ≡ true

pub follows_rules : (zones : Zones) → broken_rule zones ≡ None → FollowsRules zones
unfolding broken_rule
follows_rules zones h =
    let a = cond-none (no_name_twice (row_type zones.columns)) errors.DuplicateName _ h in
    let b = cond-none (are_shallow zones.columns) errors.DeepType _ a.1 in
    let c = cond-none (list_all (λ (s : ZoneStat). is_some (type_of_statistic zones.columns s)) zones.stats) errors.BadStatPath _ b.1 in
    let d = cond-none (distinct_statistics zones.stats) errors.DuplicateStat _ c.1 in
    let e = cond-none (list_all (counts_blocks zones.lengths) zones.stats) errors.WrongStatCount _ d.1 in
    let f = cond-none (list_all (has_its_type zones.columns) zones.stats) errors.WrongStatType _ e.1 in
    record { distinct = a.0; counts = e.0; leads = c.0; apart = d.0; have = f.0 }

-- what holds of all holds at a place
list-at : {X : Type 0} (holds : X → Bool) (xs : List X) (i : ℕ) (x : X) → slice_get xs i ≡ Some x → list_all holds xs ≡ true → holds x ≡ true
list-at holds [] i x h k = let no : ⊥ = cc in absurd no
list-at holds (y ∷ ys) zero x h k =
    let parts = and_parts (holds y) (list_all holds ys) k in
    let same : y ≡ x = cc in
    subst (λ z. holds z ≡ true) same parts.0
list-at holds (y ∷ ys) (suc i) x h k = list-at holds ys i x h (and_parts (holds y) (list_all holds ys) k).1

-- a value of an available statistic has the statistic's type, made nullable, and fits
pub record HasType (s : Typed) (w : Ty) : Type 0 where
  pub is : s.ty ≡ with_nullability w Nullable
  pub fitting : fits s.value s.ty ≡ true

pub value-typed : (zones : Zones) → AreAccepted zones → (path : List Bytes) (stat : Stat) (z : ZoneStat) (block : ℕ) (s : Typed) (w : Ty) → available zones path stat ≡ Some z
    → slice_get z.values block ≡ Some s → option_and_then (statistic_type stat) (leaf_type zones.columns path) ≡ Some w → HasType s w
value-typed zones a path stat z block s w h k e =
    let found = (available-is zones path stat z h).found in
    let is = statistic-is path stat z (find-passes (is_statistic path stat) zones.stats z found) in
    let rules = follows_rules zones a.lawful in
    let typed : type_of_statistic zones.columns z ≡ Some w = (λ i. option_and_then (statistic_type (sym is.1 i)) (leaf_type zones.columns (sym is.0 i))) ∙ e in
    let have = find-holds (is_statistic path stat) (has_its_type zones.columns) zones.stats z found rules.have in
    let all : values_have z.values (Some w) ≡ true = subst (λ (o : Option Ty). values_have z.values o ≡ true) typed have in
    let fit = find-holds (is_statistic path stat) (λ (y : ZoneStat). list_all (λ (c : Typed). fits c.value c.ty) y.values) zones.stats z found a.fitting in
    record {
      is = (ty_decides s.ty (with_nullability w Nullable)).0 (list-at (λ (c : Typed). ty_eq c.ty (with_nullability w Nullable)) z.values block s k all);
      fitting = list-at (λ (c : Typed). fits c.value c.ty) z.values block s k fit;
    }

pub plain-nullability : (t : Ty) (n : Nullability) → is_plain (with_nullability t n) ≡ is_plain t
plain-nullability (bool_ty m) n = refl
plain-nullability (int_ty p m) n = refl
plain-nullability (text_ty m) n = refl
plain-nullability (list_ty e m) n = refl
plain-nullability (struct_ty fs m) n = refl

pub typed-kind : (s : Typed) (w : Ty) → HasType s w → is_plain w ≡ true → is_kind w (value_of s) ≡ true
typed-kind s w h p =
    sym (kind-nullability w Nullable (value_of s))
    ∙ subst (λ (t : Ty). is_kind t (value_of s) ≡ true) h.is (kind-valued s.value s.ty (ap is_plain h.is ∙ (plain-nullability w Nullable ∙ p)) h.fitting)

-- the type of a statistic of zones
pub statistic-leads : (zones : Zones) → AreAccepted zones → (path : List Bytes) (stat : Stat) (z : ZoneStat) → available zones path stat ≡ Some z
    → is_some (option_and_then (statistic_type stat) (leaf_type zones.columns path)) ≡ true
statistic-leads zones a path stat z h =
    let found = (available-is zones path stat z h).found in
    let is = statistic-is path stat z (find-passes (is_statistic path stat) zones.stats z found) in
    (λ i. is_some (option_and_then (statistic_type (is.1 i)) (leaf_type zones.columns (is.0 i))))
    ∙ find-holds (is_statistic path stat) (λ (y : ZoneStat). is_some (type_of_statistic zones.columns y)) zones.stats z found (follows_rules zones a.lawful).leads

-- a count of nulls is a number
pub count-kind : (zones : Zones) → AreAccepted zones → (path : List Bytes) (z : ZoneStat) (block : ℕ) (s : Typed) → available zones path NullCount ≡ Some z → slice_get z.values block ≡ Some s
    → is_kind (int_ty U64 NonNullable) (value_of s) ≡ true
count-kind zones a path z block s h k =
    typed-kind s (int_ty U64 NonNullable) (value-typed zones a path NullCount z block s (int_ty U64 NonNullable) h k (by-type (leaf_type zones.columns path) (statistic-leads zones a path NullCount z h))) refl
  where
    by-type : (o : Option Ty) → is_some (option_and_then (statistic_type NullCount) o) ≡ true → option_and_then (statistic_type NullCount) o ≡ Some (int_ty U64 NonNullable)
    by-type None e = let no : ⊥ = cc in absurd no
    by-type (Some t) e = refl

-- no count of what is no number is available
pub no_nan_count : (zones : Zones) → AreAccepted zones → (path : List Bytes) → available zones path NaNCount ≡ None
no_nan_count zones a path = by-statistic (available zones path NaNCount) refl
  where
    by-type : (o : Option Ty) → is_some (option_and_then (statistic_type NaNCount) o) ≡ true → ⊥
    by-type None e = cc
    by-type (Some t) e = cc

    by-statistic : (o : Option ZoneStat) → available zones path NaNCount ≡ o → o ≡ None
    by-statistic None e = refl
    by-statistic (Some z) e = absurd (by-type (leaf_type zones.columns path) (statistic-leads zones a path NaNCount z e))

-- the type that a path leads to, from the row on, is the expression's but for nullability
pub record PathType (columns : Fields) (path : List Bytes) (t : Ty) : Type 0 where
  pub own : Ty
  pub found : type_at path (row_type columns) ≡ Some own
  pub null : Nullability
  pub is : t ≡ with_nullability own null

pub type_at-behind : (p q : List Bytes) (t : Ty) → type_at (p ++ q) t ≡ option_and_then (type_at q) (type_at p t)
type_at-behind [] q t = refl
type_at-behind (f ∷ p) q (struct_ty fs n) = by-type (field_type f fs) (type_at-behind p q)
  where
    by-type : (o : Option Ty) → ((u : Ty) → type_at (p ++ q) u ≡ option_and_then (type_at q) (type_at p u))
        → option_and_then (type_at (p ++ q)) o ≡ option_and_then (type_at q) (option_and_then (type_at p) o)
    by-type None r = refl
    by-type (Some u) r = r u
type_at-behind (f ∷ p) q (bool_ty n) = refl
type_at-behind (f ∷ p) q (int_ty o n) = refl
type_at-behind (f ∷ p) q (text_ty n) = refl
type_at-behind (f ∷ p) q (list_ty e n) = refl

struct-own : (fs : Fields) (m : Nullability) (own : Ty) (n : Nullability) → struct_ty fs m ≡ with_nullability own n → own ≡ struct_ty fs (nullability_of own)
struct-own fs m (bool_ty k) n h = let no : ⊥ = cc in absurd no
struct-own fs m (int_ty p k) n h = let no : ⊥ = cc in absurd no
struct-own fs m (text_ty k) n h = let no : ⊥ = cc in absurd no
struct-own fs m (list_ty e k) n h = let no : ⊥ = cc in absurd no
struct-own fs m (struct_ty gs k) n h = let same : gs ≡ fs = cc in ap (λ (x : Fields). struct_ty x k) same

item-typed : (columns : Fields) (names : List Bytes) (f : Bytes) (a t : Ty) → PathType columns names a → item_type f a ≡ Ok t → PathType columns (names ++ f ∷ []) t
item-typed columns names f (struct_ty fs m) t p h = by-field (field_type f fs) refl h
  where
    by-field : (o : Option Ty) → field_type f fs ≡ o → ok_or (option_map (λ u. widened u m) o) unknown_field ≡ Ok t → PathType columns (names ++ f ∷ []) t
    by-field None e k = let no : ⊥ = cc in absurd no
    by-field (Some u) e k = record {
      own = u;
      found =
          type_at-behind names (f ∷ []) (row_type columns)
          ∙ (ap (option_and_then (type_at (f ∷ []))) p.found
          ∙ (ap (type_at (f ∷ [])) (struct-own fs m p.own p.null p.is) ∙ ap (option_and_then (type_at [])) e));
      null = union (nullability_of u) m;
      is = Ok-same (Ok t) t (widened u m) refl (sym k);
    }
item-typed columns names f (bool_ty n) t p h = let no : ⊥ = cc in absurd no
item-typed columns names f (int_ty o n) t p h = let no : ⊥ = cc in absurd no
item-typed columns names f (text_ty n) t p h = let no : ⊥ = cc in absurd no
item-typed columns names f (list_ty e n) t p h = let no : ⊥ = cc in absurd no

pub path-typed : (columns : Fields) (e : Tree) (t : Ty) (path : List Bytes) → path_of e ≡ Some path → typed_of (row_type columns) e ≡ Ok t → PathType columns path t
unfolding typed_of
path-typed columns root t path h k =
    let same : [] ≡ path = cc in
    let made = unless-ok (no_name_twice (row_type columns)) duplicate_field (Ok (row_type columns)) t k in
    subst (λ (p : List Bytes). PathType columns p t) same
    (record { own = row_type columns; found = refl; null = NonNullable; is = Ok-same (Ok t) t (row_type columns) refl (sym made.gave) })
path-typed columns (get_item f e) t path h k = by-path (path_of e) refl h (path-typed columns e)
  where
    by-path : (o : Option (List Bytes)) → path_of e ≡ o → option_map (λ names. names ++ f ∷ []) o ≡ Some path
        → ((a : Ty) (names : List Bytes) → path_of e ≡ Some names → typed_of (row_type columns) e ≡ Ok a → PathType columns names a) → PathType columns path t
    by-path None i j r = let no : ⊥ = cc in absurd no
    by-path (Some names) i j r =
        let same : names ++ f ∷ [] ≡ path = cc in
        let x = and_then-ok (typed_of (row_type columns) e) (item_type f) t k in
        subst (λ (p : List Bytes). PathType columns p t) same (item-typed columns names f x.given t (r x.given names i x.was) x.gave)
path-typed columns _ t path h k = let no : ⊥ = cc (h) in absurd no

-- a bound of the path of a strictly typed expression is of the expression's kind
pub record BoundType (columns : Fields) (path : List Bytes) (t : Ty) : Type 0 where
  pub own : Ty
  pub leaf : leaf_type columns path ≡ Some own
  pub plain : is_plain own ≡ true
  pub null : Nullability
  pub is : t ≡ with_nullability own null

pub bound-type : (columns : Fields) (e : Tree) (t : Ty) (path : List Bytes) → path_of e ≡ Some path → typed_of (row_type columns) e ≡ Ok t → is_plain t ≡ true → BoundType columns path t
bound-type columns e t path h k p =
    let x = path-typed columns e t path h k in
    let plain : is_plain x.own ≡ true = sym (plain-nullability x.own x.null) ∙ (ap is_plain (sym x.is) ∙ p) in
    record {
      own = x.own;
      leaf = ap (option_and_then plain_only) x.found ∙ ap (λ (b : Bool). cond b (Some x.own) None) plain;
      plain = plain;
      null = x.null;
      is = x.is;
    }

pub bound-kind : (zones : Zones) → AreAccepted zones → (stat : Stat) → ((u : Ty) → statistic_type stat u ≡ Some u) → (e : Tree) (t : Ty) (path : List Bytes) (z : ZoneStat) (block : ℕ) (s : Typed)
    → path_of e ≡ Some path → typed_of (row_type zones.columns) e ≡ Ok t → is_plain t ≡ true → available zones path stat ≡ Some z → slice_get z.values block ≡ Some s → is_kind t (value_of s) ≡ true
bound-kind zones a stat b e t path z block s h k p v i =
    let x = bound-type zones.columns e t path h k p in
    let typed = value-typed zones a path stat z block s x.own v i (ap (option_and_then (statistic_type stat)) x.leaf ∙ b x.own) in
    ap (λ (u : Ty). is_kind u (value_of s)) x.is ∙ (kind-nullability x.own x.null (value_of s) ∙ typed-kind s x.own typed x.plain)
