-- The known bounds of a path of accepted zones are values of the path's type, so pruning by them is exact on its class.
use Rattle.std.proofs.Common.{◌≡◌, ℕ, refl, ap, sym, ◌∙◌, Bool, true, false, cond, Option, Some, None, subst, List, [], ◌∷◌, ◌++◌, Ok}
use Rattle.std.specs.Prelude.{is_some, option_map, ok_or}
use Rattle.std.specs.Option.{option_and_then}
use Rattle.vx_dtype.specs.declared.Nullability.{Nullability}
use Rattle.vx_dtype.specs.declared.Nullability.TheVariants.{NonNullable, Nullable}
use Rattle.vx_dtype.specs.declared.CompareOperator.TheVariants.{Lte}
use Rattle.vx_dtype.specs.declared.Stat.{Stat}
use Rattle.vx_dtype.specs.declared.Stat.TheVariants.{Min, Max}
use Rattle.vx_dtype.specs.Types.{Bytes, Ty, bool_ty, int_ty, text_ty, list_ty, struct_ty, Fields}
use Rattle.vx_dtype.specs.TypeRules.{with_nullability, nullability_of, widened, union, is_plain, field_type, no_name_twice}
use Rattle.vx_dtype.specs.Values.{Raw, raw_null, raw_bool, raw_int, raw_text, raw_list, raw_struct, Val, valued}
use Rattle.vx_dtype.specs.Fits.{fits}
use Rattle.vx_dtype.specs.Logic.{is_null_val}
use Rattle.vx_dtype.specs.Order.{compares}
use Rattle.vx_expr.specs.Trees.{Tree, root, get_item, binary, not_of, between, list_contains}
use Rattle.vx_semantics.specs.Typing.{and_then, unless, duplicate_field, unknown_field, item_type, typed_of}
use Rattle.vx_semantics.specs.Tables.{Zones, ZoneStat, row_type}
use Rattle.vx_semantics.specs.Paths.{path_of}
use Rattle.vx_semantics.specs.Pruning.{available, known_in, known_at}
use Rattle.vx_zones.specs.Zoning.{type_at, plain_only, leaf_type, statistic_type}
use Rattle.vx_laws_scan.specs.Exactness.{IsBounded, PathsAreBounded}
use Rattle.vx_laws_scan.proofs.Exacting.{pruning_is_exact}
use Rattle.vx_laws_scan.proofs.HonestRows.{KnownIn, known_in-ok}
use Rattle.vx_laws_pruning.specs.PruningLaws.{AreAccepted}
use Rattle.vx_laws_pruning.specs.KnownBounds.{KnownBoundsAreBounds, PathsHaveKnownBounds, AcceptedPruningIsExact}
use Rattle.vx_laws_pruning.proofs.Accepted.{follows_rules, value-typed, statistic-leads, type_at-behind}

-- the strict type of a chain of field accesses is that to which its path leads, but for nullability
record PathTyped (columns : Fields) (e : Tree) (own : Ty) : Type 0 where
  null : Nullability
  typed : typed_of (row_type columns) e ≡ Ok (with_nullability own null)

row-typed : (columns : Fields) (own : Ty) → no_name_twice (row_type columns) ≡ true → type_at [] (row_type columns) ≡ Some own → PathTyped columns root own
unfolding typed_of
row-typed columns own d h =
    let same : row_type columns ≡ own = cc in
    record {
      null = NonNullable;
      typed =
          ap (λ (b : Bool). unless b duplicate_field (Ok (row_type columns))) d
          ∙ ap (λ (u : Ty). Ok (with_nullability u NonNullable)) same;
    }

item-has_type : (columns : Fields) (f : Bytes) (e : Tree) (own : Ty) (w : Ty) → PathTyped columns e w → type_at (f ∷ []) w ≡ Some own → PathTyped columns (get_item f e) own
unfolding typed_of
item-has_type columns f e own (struct_ty fs m) p h = by-field (field_type f fs) refl h
  where
    by-field : (o : Option Ty) → field_type f fs ≡ o → option_and_then (type_at []) o ≡ Some own → PathTyped columns (get_item f e) own
    by-field None i j = let no : ⊥ = cc in absurd no
    by-field (Some u) i j =
        let same : u ≡ own = cc in
        record {
          null = union (nullability_of own) p.null;
          typed =
              ap (λ r. and_then r (item_type f)) p.typed
              ∙ (ap (λ (o : Option Ty). ok_or (option_map (λ v. widened v p.null) o) unknown_field) i ∙ ap (λ (v : Ty). Ok (widened v p.null)) same);
        }
item-has_type columns f e own (bool_ty n) p h = let no : ⊥ = cc in absurd no
item-has_type columns f e own (int_ty o n) p h = let no : ⊥ = cc in absurd no
item-has_type columns f e own (text_ty n) p h = let no : ⊥ = cc in absurd no
item-has_type columns f e own (list_ty d n) p h = let no : ⊥ = cc in absurd no

path-has_type : (columns : Fields) → no_name_twice (row_type columns) ≡ true → (e : Tree) (path : List Bytes) (own : Ty) → path_of e ≡ Some path → type_at path (row_type columns) ≡ Some own
    → PathTyped columns e own
path-has_type columns d root path own h k =
    let same : path ≡ [] = cc in
    row-typed columns own d (subst (λ (p : List Bytes). type_at p (row_type columns) ≡ Some own) same k)
path-has_type columns d (get_item f e) path own h k = by-path (path_of e) refl h (path-has_type columns d e)
  where
    by-type : (names : List Bytes) (o : Option Ty) → type_at names (row_type columns) ≡ o → option_and_then (type_at (f ∷ [])) o ≡ Some own
        → ((w : Ty) → type_at names (row_type columns) ≡ Some w → PathTyped columns e w) → PathTyped columns (get_item f e) own
    by-type names None i j r = let no : ⊥ = cc in absurd no
    by-type names (Some w) i j r = item-has_type columns f e own w (r w i) j

    by-path : (o : Option (List Bytes)) → path_of e ≡ o → option_map (λ names. names ++ f ∷ []) o ≡ Some path
        → ((names : List Bytes) (w : Ty) → path_of e ≡ Some names → type_at names (row_type columns) ≡ Some w → PathTyped columns e w) → PathTyped columns (get_item f e) own
    by-path None i j r = let no : ⊥ = cc in absurd no
    by-path (Some names) i j r =
        let same : path ≡ names ++ f ∷ [] = cc in
        by-type names (type_at names (row_type columns)) refl
        (sym (type_at-behind names (f ∷ []) (row_type columns)) ∙ subst (λ (p : List Bytes). type_at p (row_type columns) ≡ Some own) same k) (λ w. r names w i)
path-has_type columns d _ path own h k = let no : ⊥ = cc (h) in absurd no

-- a known value, and the statistic from which it comes
record KnownFrom (zones : Zones) (block : ℕ) (stat : Stat) (path : List Bytes) (v : Val) : Type 0 where
  statistic : ZoneStat
  is_available : available zones path stat ≡ Some statistic
  value : KnownIn statistic block v

known-from : (zones : Zones) (block : ℕ) (stat : Stat) (path : List Bytes) (v : Val) → known_at zones block stat (Some path) ≡ Some v → KnownFrom zones block stat path v
known-from zones block stat path v h = by-statistic (available zones path stat) refl h
  where
    by-statistic : (o : Option ZoneStat) → available zones path stat ≡ o → known_in o block ≡ Some v → KnownFrom zones block stat path v
    by-statistic None e k = let no : ⊥ = cc in absurd no
    by-statistic (Some z) e k = record { statistic = z; is_available = e; value = known_in-ok z block v k }

-- what a raw value stands for does not hang on nullability, and unless null it fits whatever the nullability
valued-nullability : (r : Raw) (t : Ty) (n m : Nullability) → is_plain t ≡ true → valued r (with_nullability t n) ≡ valued r (with_nullability t m)
unfolding valued
valued-nullability raw_null t n m p = refl
valued-nullability (raw_bool b) (bool_ty k) n m p = refl
valued-nullability (raw_int b) (bool_ty k) n m p = refl
valued-nullability (raw_text b) (bool_ty k) n m p = refl
valued-nullability (raw_list b) (bool_ty k) n m p = refl
valued-nullability (raw_struct b) (bool_ty k) n m p = refl
valued-nullability _ (list_ty e k) n m p = let no : ⊥ = cc in absurd no
valued-nullability _ (struct_ty fs k) n m p = let no : ⊥ = cc in absurd no
valued-nullability _ _ n m p = refl

fits-nullability : (r : Raw) (t : Ty) (n m : Nullability) → is_plain t ≡ true → is_null_val (valued r (with_nullability t n)) ≡ false → fits r (with_nullability t n) ≡ true → fits r (with_nullability t m) ≡ true
unfolding valued fits
fits-nullability raw_null t n m p k h = let no : ⊥ = cc in absurd no
fits-nullability r (list_ty e o) n m p k h = let no : ⊥ = cc in absurd no
fits-nullability r (struct_ty fs o) n m p k h = let no : ⊥ = cc in absurd no
fits-nullability (raw_bool b) (bool_ty o) n m p k h = h
fits-nullability (raw_int b) (bool_ty o) n m p k h = h
fits-nullability (raw_text b) (bool_ty o) n m p k h = h
fits-nullability (raw_list b) (bool_ty o) n m p k h = h
fits-nullability (raw_struct b) (bool_ty o) n m p k h = h
fits-nullability _ _ n m p k h = h

-- a known bound of a path is a value of the path's type
record BoundOf (v : Val) (t : Ty) : Type 0 where
  given : Raw
  fitting : fits given t ≡ true
  is : v ≡ valued given t

bound-of : (zones : Zones) → AreAccepted zones → (stat : Stat) → ((u : Ty) → statistic_type stat u ≡ Some u) → (block : ℕ) (path : List Bytes) (v : Val) (own : Ty) (n : Nullability)
    → leaf_type zones.columns path ≡ Some own → is_plain own ≡ true → known_at zones block stat (Some path) ≡ Some v → BoundOf v (with_nullability own n)
bound-of zones a stat b block path v own n l p h =
    let x = known-from zones block stat path v h in
    let s = x.value.constant in
    let typed = value-typed zones a path stat x.statistic block s own x.is_available x.value.there (ap (option_and_then (statistic_type stat)) l ∙ b own) in
    let is : v ≡ valued s.value (with_nullability own Nullable) = sym x.value.is ∙ ap (valued s.value) typed.is in
    record {
      given = s.value;
      fitting = fits-nullability s.value own Nullable n p (ap is_null_val (sym is) ∙ x.value.not_null) (ap (fits s.value) (sym typed.is) ∙ typed.fitting);
      is = is ∙ valued-nullability s.value own Nullable n p;
    }

-- the plain type to which a path with a bound leads
record PlainAt (columns : Fields) (path : List Bytes) : Type 0 where
  own : Ty
  found : type_at path (row_type columns) ≡ Some own
  leaf : leaf_type columns path ≡ Some own
  plain : is_plain own ≡ true

plain-at : (columns : Fields) (path : List Bytes) → is_some (option_and_then (statistic_type Min) (leaf_type columns path)) ≡ true → PlainAt columns path
plain-at columns path h = by-type (type_at path (row_type columns)) refl h
  where
    by-plain : (u : Ty) (b : Bool) → is_plain u ≡ b → type_at path (row_type columns) ≡ Some u → is_some (option_and_then (statistic_type Min) (cond b (Some u) None)) ≡ true → PlainAt columns path
    by-plain u true i e k = record { own = u; found = e; leaf = ap (option_and_then plain_only) e ∙ ap (λ (c : Bool). cond c (Some u) None) i; plain = i }
    by-plain u false i e k = let no : ⊥ = cc in absurd no

    by-type : (o : Option Ty) → type_at path (row_type columns) ≡ o → is_some (option_and_then (statistic_type Min) (option_and_then plain_only o)) ≡ true → PlainAt columns path
    by-type None e k = let no : ⊥ = cc in absurd no
    by-type (Some u) e k = by-plain u (is_plain u) refl e k

bounded-at : (zones : Zones) (block : ℕ) (e : Tree) (low high : Val) → AreAccepted zones → (path : List Bytes) → path_of e ≡ Some path → known_at zones block Min (Some path) ≡ Some low
    → known_at zones block Max (Some path) ≡ Some high → compares Lte low high ≡ true → IsBounded zones block e
bounded-at zones block e low high a path i h k o =
    let x = known-from zones block Min path low h in
    let at = plain-at zones.columns path (statistic-leads zones a path Min x.statistic x.is_available) in
    let typed = path-has_type zones.columns (follows_rules zones a.lawful).distinct e path at.own i at.found in
    let l = bound-of zones a Min (λ u. refl) block path low at.own typed.null at.leaf at.plain h in
    let g = bound-of zones a Max (λ u. refl) block path high at.own typed.null at.leaf at.plain k in
    record {
      ty = with_nullability at.own typed.null;
      of_its_type = typed.typed;
      low = l.given;
      high = g.given;
      low_fits = l.fitting;
      high_fits = g.fitting;
      least = ap (known_at zones block Min) i ∙ (h ∙ ap Some l.is);
      greatest = ap (known_at zones block Max) i ∙ (k ∙ ap Some g.is);
      in_order = (λ j. compares Lte (sym l.is j) (sym g.is j)) ∙ o;
    }

pub known_bounds_are_bounds : KnownBoundsAreBounds
known_bounds_are_bounds zones block e a b = by-path (path_of e) refl b.least b.greatest
  where
    by-path : (p : Option (List Bytes)) → path_of e ≡ p → known_at zones block Min p ≡ Some b.low → known_at zones block Max p ≡ Some b.high → IsBounded zones block e
    by-path None i l g = let no : ⊥ = cc in absurd no
    by-path (Some path) i l g = bounded-at zones block e b.low b.high a path i l g b.in_order

paths-bounded : (zones : Zones) (block : ℕ) (e : Tree) → AreAccepted zones → PathsHaveKnownBounds zones block e → PathsAreBounded zones block e
unfolding PathsHaveKnownBounds PathsAreBounded
paths-bounded zones block root a h = known_bounds_are_bounds zones block root a h
paths-bounded zones block (get_item f e) a h = known_bounds_are_bounds zones block (get_item f e) a h
paths-bounded zones block (binary l op r) a h = (paths-bounded zones block l a h.0, paths-bounded zones block r a h.1)
paths-bounded zones block (not_of e) a h = paths-bounded zones block e a h
paths-bounded zones block (between e lower upper options) a h =
    (paths-bounded zones block e a h.0, paths-bounded zones block lower a h.1, paths-bounded zones block upper a h.2)
paths-bounded zones block (list_contains l e) a h = paths-bounded zones block e a h
paths-bounded zones block _ a h = tt

pub accepted_pruning_is_exact : AcceptedPruningIsExact
accepted_pruning_is_exact zones slots block row e u a h k b = pruning_is_exact zones slots block row e u h k (paths-bounded zones block e a b)
