-- What a strictly typed expression means with any slots: a value that fits its type, but for faults, and nulls at plain types.
-- For a comparison with a slot that holds null is null, whatever its type says; but no struct and no list comes of a slot.
use Rattle.std.proofs.Common.{◌≡◌, refl, ap, sym, ◌∙◌, Bool, true, false, cond, ◌&&◌, Option, Some, None, subst, List, [], ◌∷◌, ◌++◌, map, Result, Ok}
use Rattle.std.specs.Prelude.{option_map}
use Rattle.std.specs.Str.{bytes_eq}
use Rattle.std.specs.List.{list_all, flat_map}
use Rattle.std.proofs.lemmas.Bool.{and_parts, and_from}
use Rattle.vx_dtype.specs.declared.Nullability.{Nullability}
use Rattle.vx_dtype.specs.declared.Nullability.TheVariants.{NonNullable, Nullable}
use Rattle.vx_dtype.specs.declared.PType.{PType}
use Rattle.vx_dtype.specs.declared.CompareOperator.{CompareOperator}
use Rattle.vx_dtype.specs.declared.CompareOperator.TheVariants.{Eq, NotEq, Gt, Gte, Lt, Lte}
use Rattle.vx_dtype.specs.Types.{Bytes, Ty, bool_ty, int_ty, text_ty, list_ty, struct_ty, Fields, no_fields, field}
use Rattle.vx_dtype.specs.TypeRules.{union, nullability_of, with_nullability, widened, alike, is_bool_ty, is_int_ty, is_text_ty, is_plain, field_names, field_type, has_name, distinct_names}
use Rattle.vx_dtype.specs.StructTypes.{is_struct_ty, with_field, fields_at, all_known}
use Rattle.vx_dtype.specs.Zipped.{zipped}
use Rattle.vx_dtype.specs.Values.{Val, null_val, bool_val, int_val, text_val, list_val, struct_val, fault, Vals, no_vals, val, Members, no_members, member, value_of}
use Rattle.vx_dtype.specs.Fits.{fits_but_for_faults, vals_fit_but_for_faults, members_fit_but_for_faults}
use Rattle.vx_dtype.specs.Logic.{and3, or3, not3, is_null3}
use Rattle.vx_dtype.specs.Order.{compare3, between3}
use Rattle.vx_dtype.specs.Sums.{add3, sub3}
use Rattle.vx_dtype.specs.Like.{like3}
use Rattle.vx_dtype.specs.Casts.{takes_cast, cast3}
use Rattle.vx_dtype.specs.Lists.{contains3}
use Rattle.vx_dtype.specs.Structs.{field_of, members_at, members_without, first_names}
use Rattle.vx_expr.specs.declared.Operator.{Operator}
use Rattle.vx_expr.specs.declared.FieldSelection.{FieldSelection}
use Rattle.vx_expr.specs.declared.FieldSelection.TheVariants.{Include, Exclude}
use Rattle.vx_expr.specs.Selections.{listed_names}
use Rattle.vx_expr.specs.Trees.{Tree, root, literal, get_item, binary, not_of, is_null_of, like, between, cast, list_contains, pack, merge, select, dynamic, Trees, no_trees, tree}
use Rattle.vx_semantics.specs.Typing.{Refusal, not_struct, type_mismatch, and_then, unless, item_type, fields_without, selected_fields, select_type, pack_type, names_in, type_in, merged_type_at, merged_fields_at, merge_type, union_of, equal_plain, compare_type, sum_type, binary_type, not_type, like_type, between_type, contains_type, cast_type, dynamic_type, typed_of, all_typed, type_or_empty, given_names}
use Rattle.vx_semantics.specs.Merging.{merged_names}
use Rattle.vx_semantics.specs.Meaning.{Slots, Source, select3, binary3, dynamic3, slot_value, merged, zip_members, mean, meanings, sources}
use Rattle.vx_laws.specs.Values.{plain_nullable, fields_nullable, MeaningFitsWithAnySlots, FaultsArePlain}
use Rattle.vx_laws.proofs.Inverting.{and_then-ok, unless-ok, Ok-same}
use Rattle.vx_laws.proofs.Fitting.{null_ok, compare3-fits, and3-fits, or3-fits, not3-fits, is_null3-fits, like3-fits, contains3-fits, between3-fits, add3-fits, sub3-fits, takes_cast-plain, cast3-fits, dynamic3-fits}
use Rattle.vx_laws.proofs.Merging.{some_gives, some_gives-step, merged_type_at-step}
use Rattle.vx_laws.proofs.Structs.{struct-fits, field_of-fits, IsStructOf, struct-value, item_type-ok, members_at-fit, members_without-fit, select_type-ok, AllFit, zip-fit, AllSourcesFit, merged-fits}
use Rattle.vx_laws.proofs.Preserving.{FitsButFaults, distinct_type-ok, literal-fits, one_test}
use Rattle.vx_laws.proofs.Distinct.{members_at-own}
use Rattle.vx_laws.proofs.Faultless.{pack_type-ok}

-- a value that fits a type, but for faults, and nulls at plain types
abbrev pub FitsButNulls : Val → Ty → Type 0
FitsButNulls v t = FitsButFaults v (plain_nullable t)

-- a struct whose members fit these fields so
abbrev pub StructButNulls : Val → Fields → Type 0
StructButNulls v fs = IsStructOf v (fields_nullable fs)

mutual
  unfolding fits_but_for_faults plain_nullable

  -- what fits but for faults fits so too
  pub fits-but_nulls : (v : Val) (t : Ty) → FitsButFaults v t → FitsButNulls v t
  fits-but_nulls null_val (bool_ty n) h = refl
  fits-but_nulls null_val (int_ty p n) h = refl
  fits-but_nulls null_val (text_ty n) h = refl
  fits-but_nulls null_val (list_ty e n) h = h
  fits-but_nulls null_val (struct_ty fs n) h = h
  fits-but_nulls (bool_val b) (bool_ty n) h = h
  fits-but_nulls (int_val p i) (bool_ty n) h = h
  fits-but_nulls (text_val s) (bool_ty n) h = h
  fits-but_nulls (list_val xs) (list_ty e n) h = vals-but_nulls xs e h
  fits-but_nulls (struct_val ms) (struct_ty fs n) h = members-but_nulls ms fs h
  fits-but_nulls fault (bool_ty n) h = h
  fits-but_nulls _ _ h = h

  vals-but_nulls : (xs : Vals) (e : Ty) → vals_fit_but_for_faults xs e ≡ true → vals_fit_but_for_faults xs (plain_nullable e) ≡ true
  vals-but_nulls no_vals e h = refl
  vals-but_nulls (val x xs) e h =
      let parts = and_parts (fits_but_for_faults x e) (vals_fit_but_for_faults xs e) h in
      and_from (fits_but_for_faults x (plain_nullable e)) (vals_fit_but_for_faults xs (plain_nullable e)) (fits-but_nulls x e parts.0) (vals-but_nulls xs e parts.1)

  members-but_nulls : (ms : Members) (fs : Fields) → members_fit_but_for_faults ms fs ≡ true → members_fit_but_for_faults ms (fields_nullable fs) ≡ true
  members-but_nulls no_members no_fields h = refl
  members-but_nulls (member f x ms) (field g t fs) h =
      let parts = and_parts (bytes_eq f g) (fits_but_for_faults x t && members_fit_but_for_faults ms fs) h in
      let more = and_parts (fits_but_for_faults x t) (members_fit_but_for_faults ms fs) parts.1 in
      and_from (bytes_eq f g) (fits_but_for_faults x (plain_nullable t) && members_fit_but_for_faults ms (fields_nullable fs)) parts.0
      (and_from (fits_but_for_faults x (plain_nullable t)) (members_fit_but_for_faults ms (fields_nullable fs)) (fits-but_nulls x t more.0) (members-but_nulls ms fs more.1))
  members-but_nulls _ _ h = let no : ⊥ = cc in absurd no

-- a struct type that isn't nullable has structs alone
pub struct-but_nulls : (v : Val) (fs : Fields) → FitsButNulls v (struct_ty fs NonNullable) → StructButNulls v fs
unfolding plain_nullable
struct-but_nulls v fs h = struct-value v (fields_nullable fs) h

-- ---- plain answers

null_ok-Nullable : (v : Val) → null_ok v Nullable ≡ true
null_ok-Nullable null_val = refl
null_ok-Nullable _ = refl

-- a boolean answer behind one test
answered : (v : Val) (b : Bool) (n : Nullability) (u : Ty) → FitsButFaults v (bool_ty Nullable) → unless b type_mismatch (Ok (bool_ty n)) ≡ Ok u → FitsButNulls v u
unfolding plain_nullable
answered v b n u h e = subst (λ (z : Ty). FitsButNulls v z) (one_test b (bool_ty n) u e).1 h

compared-fits : (op : CompareOperator) (l r : Val) → FitsButFaults (compare3 op l r) (bool_ty Nullable)
compared-fits op l r = compare3-fits op l r Nullable Nullable (null_ok-Nullable l) (null_ok-Nullable r)

compare-but_nulls : (op : CompareOperator) (l r : Val) (a b u : Ty) → compare_type a b ≡ Ok u → FitsButNulls (compare3 op l r) u
compare-but_nulls op l r a b u e = answered (compare3 op l r) (equal_plain a b) (union_of a b) u (compared-fits op l r) e

-- a sum or a difference is of the integer type of its first operand
sum-but_nulls : (v l : Val) (a b u : Ty) → ((p : PType) → FitsButFaults l (int_ty p Nullable) → FitsButFaults v (int_ty p Nullable)) → FitsButNulls l a → sum_type a b ≡ Ok u → FitsButNulls v u
unfolding plain_nullable
sum-but_nulls v l (int_ty p n) b u rule h e =
    subst (λ (z : Ty). FitsButNulls v z) (one_test (alike (int_ty p n) b && true) (int_ty p (union n (nullability_of b))) u e).1 (rule p h)
sum-but_nulls v l a b u rule h e =
    let t = one_test (alike a b && is_int_ty a) (with_nullability a (union_of a b)) u e in
    let int = and_parts (alike a b) (is_int_ty a) t.0 in
    let no : ⊥ = cc (int.1) in
    absurd no

binary-but_nulls : (op : Operator) (l r : Val) (a b u : Ty) → FitsButNulls l a → binary_type op a b ≡ Ok u → FitsButNulls (binary3 op l r) u
binary-but_nulls Operator.Eq l r a b u h e = compare-but_nulls Eq l r a b u e
binary-but_nulls Operator.NotEq l r a b u h e = compare-but_nulls NotEq l r a b u e
binary-but_nulls Operator.Gt l r a b u h e = compare-but_nulls Gt l r a b u e
binary-but_nulls Operator.Gte l r a b u h e = compare-but_nulls Gte l r a b u e
binary-but_nulls Operator.Lt l r a b u h e = compare-but_nulls Lt l r a b u e
binary-but_nulls Operator.Lte l r a b u h e = compare-but_nulls Lte l r a b u e
binary-but_nulls Operator.And l r a b u h e =
    answered (and3 l r) (is_bool_ty a && is_bool_ty b) (union_of a b) u (and3-fits l r Nullable Nullable (null_ok-Nullable l) (null_ok-Nullable r)) e
binary-but_nulls Operator.Or l r a b u h e =
    answered (or3 l r) (is_bool_ty a && is_bool_ty b) (union_of a b) u (or3-fits l r Nullable Nullable (null_ok-Nullable l) (null_ok-Nullable r)) e
binary-but_nulls Operator.Add l r a b u h e = sum-but_nulls (add3 l r) l a b u (λ p k. add3-fits l r p Nullable Nullable k (null_ok-Nullable r)) h e
binary-but_nulls Operator.Sub l r a b u h e = sum-but_nulls (sub3 l r) l a b u (λ p k. sub3-fits l r p Nullable Nullable k (null_ok-Nullable r)) h e

not-but_nulls : (v : Val) (a u : Ty) → not_type a ≡ Ok u → FitsButNulls (not3 v) u
not-but_nulls v (bool_ty n) u e = answered (not3 v) true n u (not3-fits v Nullable (null_ok-Nullable v)) e
not-but_nulls v _ u e = let no : ⊥ = cc in absurd no

is_null-but_nulls : (v : Val) → FitsButNulls (is_null3 v) (bool_ty NonNullable)
unfolding plain_nullable
is_null-but_nulls v = is_null3-fits v Nullable

contains-but_nulls : (l v : Val) (a b u : Ty) → contains_type a b ≡ Ok u → FitsButNulls (contains3 l v) u
contains-but_nulls l v (list_ty d n) b u e =
    answered (contains3 l v) (equal_plain d b) (union n (nullability_of b)) u (contains3-fits l v Nullable Nullable (null_ok-Nullable l) (null_ok-Nullable v)) e
contains-but_nulls l v _ b u e = let no : ⊥ = cc in absurd no

cast-but_nulls : (target : Ty) (v : Val) (a u : Ty) → cast_type target a ≡ Ok u → FitsButNulls (cast3 target v) u
cast-but_nulls target v a u e =
    let t = one_test (takes_cast a target) target u e in
    fits-but_nulls (cast3 target v) u (subst (λ (z : Ty). FitsButFaults (cast3 target v) z) t.1 (cast3-fits target v (takes_cast-plain a target t.0)))

-- what a slot holds may be any value
held-fits : (op : CompareOperator) (default : Bool) (v : Val) (held : Option Val) → FitsButFaults (dynamic3 op default v held) (bool_ty Nullable)
held-fits op default v (Some w) = compared-fits op v w
held-fits op default v None = dynamic3-fits op default v None (bool_ty Nullable) Nullable (null_ok-Nullable v) refl

dynamic-but_nulls : (op : CompareOperator) (default : Bool) (v : Val) (held : Option Val) (slot a u : Ty) → dynamic_type slot a ≡ Ok u → FitsButNulls (dynamic3 op default v held) u
dynamic-but_nulls op default v held slot a u e = answered (dynamic3 op default v held) (equal_plain a slot) (union_of a slot) u (held-fits op default v held) e

-- ---- fields of such types

field_names-nullable : (fs : Fields) → field_names (fields_nullable fs) ≡ field_names fs
unfolding plain_nullable
field_names-nullable no_fields = refl
field_names-nullable (field f t fs) = ap (λ (ns : List Bytes). f ∷ ns) (field_names-nullable fs)

-- a struct whose members fit so is that of its fields
pub own-fields : (v : Val) (fs : Fields) → StructButNulls v fs → distinct_names (field_names fs) ≡ true → struct_val (members_at (field_names fs) v) ≡ v
own-fields v fs s d =
    let distinct : distinct_names (field_names (fields_nullable fs)) ≡ true = subst (λ (ns : List Bytes). distinct_names ns ≡ true) (sym (field_names-nullable fs)) d in
    let own : members_at (field_names fs) (struct_val s.members) ≡ s.members =
    subst (λ (ns : List Bytes). members_at ns (struct_val s.members) ≡ s.members) (field_names-nullable fs) (members_at-own s.members (fields_nullable fs) s.fit distinct) in
    ap (λ (z : Val). struct_val (members_at (field_names fs) z)) s.is ∙ (ap struct_val own ∙ sym s.is)

field_type-nullable : (f : Bytes) (fs : Fields) → field_type f (fields_nullable fs) ≡ option_map plain_nullable (field_type f fs)
unfolding plain_nullable
field_type-nullable f no_fields = refl
field_type-nullable f (field g t fs) = by-test (bytes_eq f g) (field_type-nullable f fs)
  where
    by-test : (b : Bool) → field_type f (fields_nullable fs) ≡ option_map plain_nullable (field_type f fs)
        → cond b (Some (plain_nullable t)) (field_type f (fields_nullable fs)) ≡ option_map plain_nullable (cond b (Some t) (field_type f fs))
    by-test true r = refl
    by-test false r = r

widened-nullable : (t : Ty) (n : Nullability) → widened (plain_nullable t) n ≡ plain_nullable (widened t n)
unfolding plain_nullable
widened-nullable (bool_ty m) n = refl
widened-nullable (int_ty p m) n = refl
widened-nullable (text_ty m) n = refl
widened-nullable (list_ty e m) n = refl
widened-nullable (struct_ty fs m) n = refl

item-but_nulls : (f : Bytes) (v : Val) (a u : Ty) → FitsButNulls v a → item_type f a ≡ Ok u → FitsButNulls (field_of f v) u
unfolding plain_nullable
item-but_nulls f v a u h e =
    let k = item_type-ok f a u e in
    let found : field_type f (fields_nullable k.fields) ≡ Some (plain_nullable k.own) = field_type-nullable f k.fields ∙ ap (option_map plain_nullable) k.found in
    subst (λ (z : Ty). FitsButNulls (field_of f v) z) (sym k.gives)
    (subst (λ (z : Ty). FitsButFaults (field_of f v) z) (widened-nullable k.own k.nullability)
    (field_of-fits f v (fields_nullable k.fields) k.nullability (plain_nullable k.own) (subst (λ (z : Ty). FitsButNulls v z) k.is h) found))

with_field-nullable : (f : Bytes) (o : Option Ty) (fs : Fields) → with_field f (option_map plain_nullable o) (fields_nullable fs) ≡ fields_nullable (with_field f o fs)
unfolding plain_nullable
with_field-nullable f None fs = refl
with_field-nullable f (Some t) fs = refl

fields_at-nullable : (names : List Bytes) (fs : Fields) → fields_at names (fields_nullable fs) ≡ fields_nullable (fields_at names fs)
unfolding plain_nullable
fields_at-nullable [] fs = refl
fields_at-nullable (f ∷ names) fs =
    ap (λ (o : Option Ty). with_field f o (fields_at names (fields_nullable fs))) (field_type-nullable f fs)
    ∙ (ap (with_field f (option_map plain_nullable (field_type f fs))) (fields_at-nullable names fs) ∙ with_field-nullable f (field_type f fs) (fields_at names fs))

fields_without-nullable : (names : List Bytes) (fs : Fields) → fields_without names (fields_nullable fs) ≡ fields_nullable (fields_without names fs)
unfolding plain_nullable
fields_without-nullable names no_fields = refl
fields_without-nullable names (field f t fs) = by-test (has_name f names) (fields_without-nullable names fs)
  where
    by-test : (b : Bool) → fields_without names (fields_nullable fs) ≡ fields_nullable (fields_without names fs)
        → cond b (fields_without names (fields_nullable fs)) (field f (plain_nullable t) (fields_without names (fields_nullable fs)))
        ≡ fields_nullable (cond b (fields_without names fs) (field f t (fields_without names fs)))
    by-test true r = r
    by-test false r = ap (field f (plain_nullable t)) r

selected-but_nulls : (s : FieldSelection) (ms : Members) (fs : Fields) → members_fit_but_for_faults ms (fields_nullable fs) ≡ true → all_known (listed_names s) fs ≡ true
    → FitsButNulls (select3 s (struct_val ms)) (struct_ty (selected_fields s fs) NonNullable)
unfolding plain_nullable
selected-but_nulls (Include names) ms fs h k =
    struct-fits (members_at names (struct_val ms)) (fields_nullable (fields_at names fs)) NonNullable
    (subst (λ (z : Fields). members_fit_but_for_faults (members_at names (struct_val ms)) z ≡ true) (fields_at-nullable names fs)
    (members_at-fit names ms (fields_nullable fs) h (ap (λ (ns : List Bytes). list_all (λ f. has_name f ns) names) (field_names-nullable fs) ∙ k)))
selected-but_nulls (Exclude names) ms fs h k =
    struct-fits (members_without names ms) (fields_nullable (fields_without names fs)) NonNullable
    (subst (λ (z : Fields). members_fit_but_for_faults (members_without names ms) z ≡ true) (fields_without-nullable names fs) (members_without-fit names ms (fields_nullable fs) h))

pub select-but_nulls : (s : FieldSelection) (v : Val) (a u : Ty) → FitsButNulls v a → select_type s a ≡ Ok u → FitsButNulls (select3 s v) u
select-but_nulls s v a u h e =
    let k = select_type-ok s a u e in
    let is = struct-but_nulls v k.fields (subst (λ (z : Ty). FitsButNulls v z) k.is h) in
    subst (λ (z : Ty). FitsButNulls (select3 s v) z) (sym k.gives)
    (subst (λ (z : Val). FitsButNulls (select3 s z) (struct_ty (selected_fields s k.fields) NonNullable)) (sym is.is) (selected-but_nulls s is.members k.fields is.fit k.known))

-- ---- packs and merges of such types

zipped-nullable : (names : List Bytes) (us : List Ty) → fields_nullable (zipped names us) ≡ zipped names (map plain_nullable us)
unfolding plain_nullable
zipped-nullable [] us = refl
zipped-nullable (f ∷ names) [] = refl
zipped-nullable (f ∷ names) (u ∷ us) = ap (field f (plain_nullable u)) (zipped-nullable names us)

pack-but_nulls : (names : List Bytes) (n : Nullability) (vs : List Val) (us : List Ty) (u : Ty) → AllFit vs (map plain_nullable us) → pack_type names n us ≡ Ok u
    → FitsButNulls (struct_val (zip_members names vs)) u
unfolding plain_nullable
pack-but_nulls names n vs us u h e =
    subst (λ (z : Ty). FitsButNulls (struct_val (zip_members names vs)) z) (sym (pack_type-ok names n us u e))
    (struct-fits (zip_members names vs) (fields_nullable (zipped names us)) n
    (subst (λ (z : Fields). members_fit_but_for_faults (zip_members names vs) z ≡ true) (sym (zipped-nullable names us)) (zip-fit names vs (map plain_nullable us) h)))

names_in-nullable : (t : Ty) → names_in (plain_nullable t) ≡ names_in t
unfolding plain_nullable
names_in-nullable (struct_ty fs n) = field_names-nullable fs
names_in-nullable _ = refl

type_in-nullable : (f : Bytes) (t : Ty) → type_in f (plain_nullable t) ≡ option_map plain_nullable (type_in f t)
unfolding plain_nullable
type_in-nullable f (struct_ty fs n) = ap (option_map (λ (w : Ty). widened w n)) (field_type-nullable f fs) ∙ by-type (field_type f fs)
  where
    by-type : (o : Option Ty) → option_map (λ (w : Ty). widened w n) (option_map plain_nullable o) ≡ option_map plain_nullable (option_map (λ (w : Ty). widened w n) o)
    by-type None = refl
    by-type (Some w) = ap Some (widened-nullable w n)
type_in-nullable f _ = refl

some_gives-nullable : (f : Bytes) (us : List Ty) → some_gives names_in f (map plain_nullable us) ≡ some_gives names_in f us
some_gives-nullable f [] = refl
some_gives-nullable f (u ∷ us) =
    some_gives-step names_in f (plain_nullable u) (map plain_nullable us)
    ∙ (ap (λ (b : Bool). cond b true (has_name f (names_in (plain_nullable u)))) (some_gives-nullable f us)
    ∙ (ap (λ (ns : List Bytes). cond (some_gives names_in f us) true (has_name f ns)) (names_in-nullable u) ∙ sym (some_gives-step names_in f u us)))

merged_type_at-nullable : (f : Bytes) (us : List Ty) → merged_type_at f (map plain_nullable us) ≡ option_map plain_nullable (merged_type_at f us)
merged_type_at-nullable f [] = refl
merged_type_at-nullable f (u ∷ us) =
    merged_type_at-step f (plain_nullable u) (map plain_nullable us)
    ∙ (ap (λ (b : Bool). cond b (merged_type_at f (map plain_nullable us)) (type_in f (plain_nullable u))) (some_gives-nullable f us)
    ∙ (ap (λ (o : Option Ty). cond (some_gives names_in f us) o (type_in f (plain_nullable u))) (merged_type_at-nullable f us)
    ∙ (ap (λ (o : Option Ty). cond (some_gives names_in f us) (option_map plain_nullable (merged_type_at f us)) o) (type_in-nullable f u)
    ∙ (by-test (some_gives names_in f us) ∙ ap (option_map plain_nullable) (sym (merged_type_at-step f u us))))))
  where
    by-test : (b : Bool) → cond b (option_map plain_nullable (merged_type_at f us)) (option_map plain_nullable (type_in f u)) ≡ option_map plain_nullable (cond b (merged_type_at f us) (type_in f u))
    by-test true = refl
    by-test false = refl

merged_fields-nullable : (names : List Bytes) (us : List Ty) → merged_fields_at names (map plain_nullable us) ≡ fields_nullable (merged_fields_at names us)
unfolding plain_nullable
merged_fields-nullable [] us = refl
merged_fields-nullable (f ∷ names) us =
    ap (λ (o : Option Ty). with_field f o (merged_fields_at names (map plain_nullable us))) (merged_type_at-nullable f us)
    ∙ (ap (with_field f (option_map plain_nullable (merged_type_at f us))) (merged_fields-nullable names us) ∙ with_field-nullable f (merged_type_at f us) (merged_fields_at names us))

all_names-nullable : (us : List Ty) → flat_map names_in (map plain_nullable us) ≡ flat_map names_in us
all_names-nullable [] = refl
all_names-nullable (u ∷ us) =
    ap (λ (ns : List Bytes). ns ++ flat_map names_in (map plain_nullable us)) (names_in-nullable u) ∙ ap (λ (ns : List Bytes). names_in u ++ ns) (all_names-nullable us)

is_struct-nullable : (t : Ty) → is_struct_ty (plain_nullable t) ≡ is_struct_ty t
unfolding plain_nullable
is_struct-nullable (struct_ty fs n) = refl
is_struct-nullable _ = refl

all_structs-nullable : (us : List Ty) → list_all is_struct_ty (map plain_nullable us) ≡ list_all is_struct_ty us
all_structs-nullable [] = refl
all_structs-nullable (u ∷ us) =
    ap (λ (b : Bool). b && list_all is_struct_ty (map plain_nullable us)) (is_struct-nullable u) ∙ ap (λ (b : Bool). is_struct_ty u && b) (all_structs-nullable us)

merge-but_nulls : (n : Nullability) (ss : List Source) (us : List Ty) (u : Ty) → AllSourcesFit ss (map plain_nullable us) → merge_type n us ≡ Ok u → FitsButNulls (merged ss) u
unfolding plain_nullable
merge-but_nulls n ss us u h e =
    let ws = map plain_nullable us in
    let fs = merged_fields_at (merged_names names_in us) us in
    let made : Result Ty Refusal = Ok (struct_ty fs n) in
    let a = unless-ok (list_all is_struct_ty us) not_struct made u e in
    let over = struct_ty (merged_fields_at (merged_names names_in ws) ws) n in
    let others : Result Ty Refusal = Ok over in
    let typed : merge_type n ws ≡ Ok over = ap (λ (b : Bool). unless b not_struct others) (all_structs-nullable us ∙ a.holds) in
    let same : over ≡ struct_ty (fields_nullable fs) n =
    ap (λ (ns : List Bytes). struct_ty (merged_fields_at (first_names ns) ws) n) (all_names-nullable us)
    ∙ ap (λ (z : Fields). struct_ty z n) (merged_fields-nullable (merged_names names_in us) us) in
    subst (λ (z : Ty). FitsButNulls (merged ss) z) (Ok-same (Ok u) (struct_ty fs n) u (sym a.gave) refl)
    (subst (λ (z : Ty). FitsButFaults (merged ss) z) same (merged-fits n ss ws over h typed))

-- ---- expressions

mutual
  unfolding mean typed_of

  pub mean-but_nulls : (t : Ty) (slots : Slots) (row : Val) (e : Tree) (u : Ty) → FitsButNulls row t → typed_of t e ≡ Ok u → FitsButNulls (mean t slots row e) u
  mean-but_nulls t slots row root u h e = subst (λ (z : Ty). FitsButNulls row z) (distinct_type-ok t u e) h
  mean-but_nulls t slots row (literal c) u h e = fits-but_nulls (value_of c) u (literal-fits c u e)
  mean-but_nulls t slots row (get_item f d) u h e =
      let a = and_then-ok (typed_of t d) (item_type f) u e in
      item-but_nulls f (mean t slots row d) a.given u (mean-but_nulls t slots row d a.given h a.was) a.gave
  mean-but_nulls t slots row (binary l op r) u h e =
      let a = and_then-ok (typed_of t l) (λ x. and_then (typed_of t r) (binary_type op x)) u e in
      let b = and_then-ok (typed_of t r) (binary_type op a.given) u a.gave in
      binary-but_nulls op (mean t slots row l) (mean t slots row r) a.given b.given u (mean-but_nulls t slots row l a.given h a.was) b.gave
  mean-but_nulls t slots row (not_of d) u h e = let a = and_then-ok (typed_of t d) not_type u e in not-but_nulls (mean t slots row d) a.given u a.gave
  mean-but_nulls t slots row (is_null_of d) u h e =
      let a = and_then-ok (typed_of t d) (λ x. Ok (bool_ty NonNullable)) u e in
      subst (λ (z : Ty). FitsButNulls (is_null3 (mean t slots row d)) z) (Ok-same (Ok u) (bool_ty NonNullable) u (sym a.gave) refl) (is_null-but_nulls (mean t slots row d))
  mean-but_nulls t slots row (like d p negated fold_case) u h e =
      let a = and_then-ok (typed_of t d) (λ x. and_then (typed_of t p) (like_type x)) u e in
      let b = and_then-ok (typed_of t p) (like_type a.given) u a.gave in
      let v = mean t slots row d in
      let w = mean t slots row p in
      answered (like3 negated fold_case v w) (is_text_ty a.given && is_text_ty b.given) (union_of a.given b.given) u
      (like3-fits negated fold_case v w Nullable Nullable (null_ok-Nullable v) (null_ok-Nullable w)) b.gave
  mean-but_nulls t slots row (between d lower upper options) u h e =
      let a = and_then-ok (typed_of t d) (λ x. and_then (typed_of t lower) (λ y. and_then (typed_of t upper) (between_type x y))) u e in
      let b = and_then-ok (typed_of t lower) (λ y. and_then (typed_of t upper) (between_type a.given y)) u a.gave in
      let c = and_then-ok (typed_of t upper) (between_type a.given b.given) u b.gave in
      let v = mean t slots row d in
      let low = mean t slots row lower in
      let high = mean t slots row upper in
      answered (between3 options v low high) (equal_plain a.given b.given && equal_plain a.given c.given) (union (nullability_of a.given) (union_of b.given c.given)) u
      (between3-fits options v low high Nullable Nullable Nullable (null_ok-Nullable v) (null_ok-Nullable low) (null_ok-Nullable high)) c.gave
  mean-but_nulls t slots row (cast d target) u h e = let a = and_then-ok (typed_of t d) (cast_type target) u e in cast-but_nulls target (mean t slots row d) a.given u a.gave
  mean-but_nulls t slots row (list_contains l v) u h e =
      let a = and_then-ok (typed_of t l) (λ x. and_then (typed_of t v) (contains_type x)) u e in
      let b = and_then-ok (typed_of t v) (contains_type a.given) u a.gave in
      contains-but_nulls (mean t slots row l) (mean t slots row v) a.given b.given u b.gave
  mean-but_nulls t slots row (pack names es n) u h e =
      let a = and_then-ok (all_typed t es) (pack_type names n) u e in
      pack-but_nulls names n (meanings t slots row es) a.given u (meanings-but_nulls t slots row es a.given h a.was) a.gave
  mean-but_nulls t slots row (merge es n) u h e =
      let a = and_then-ok (all_typed t es) (merge_type n) u e in
      merge-but_nulls n (sources t slots row es) a.given u (sources-but_nulls t slots row es a.given h a.was) a.gave
  mean-but_nulls t slots row (select c d) u h e =
      let a = and_then-ok (typed_of t d) (select_type c) u e in
      select-but_nulls c (mean t slots row d) a.given u (mean-but_nulls t slots row d a.given h a.was) a.gave
  mean-but_nulls t slots row (dynamic d op k slot default) u h e =
      let a = and_then-ok (typed_of t d) (dynamic_type slot) u e in
      dynamic-but_nulls op default (mean t slots row d) (slot_value slots k) slot a.given u a.gave

  meanings-but_nulls : (t : Ty) (slots : Slots) (row : Val) (es : Trees) (us : List Ty) → FitsButNulls row t → all_typed t es ≡ Ok us → AllFit (meanings t slots row es) (map plain_nullable us)
  meanings-but_nulls t slots row no_trees us h e = subst (λ (z : List Ty). AllFit [] (map plain_nullable z)) (Ok-same (Ok us) [] us (sym e) refl) tt
  meanings-but_nulls t slots row (tree d ds) us h e =
      let a = and_then-ok (typed_of t d) (λ x. and_then (all_typed t ds) (λ xs. Ok (x ∷ xs))) us e in
      let b = and_then-ok (all_typed t ds) (λ xs. Ok (a.given ∷ xs)) us a.gave in
      subst (λ (z : List Ty). AllFit (meanings t slots row (tree d ds)) (map plain_nullable z)) (Ok-same (Ok us) (a.given ∷ b.given) us (sym b.gave) refl)
      (mean-but_nulls t slots row d a.given h a.was, meanings-but_nulls t slots row ds b.given h b.was)

  sources-but_nulls : (t : Ty) (slots : Slots) (row : Val) (es : Trees) (us : List Ty) → FitsButNulls row t → all_typed t es ≡ Ok us → AllSourcesFit (sources t slots row es) (map plain_nullable us)
  sources-but_nulls t slots row no_trees us h e = subst (λ (z : List Ty). AllSourcesFit [] (map plain_nullable z)) (Ok-same (Ok us) [] us (sym e) refl) tt
  sources-but_nulls t slots row (tree d ds) us h e =
      let a = and_then-ok (typed_of t d) (λ x. and_then (all_typed t ds) (λ xs. Ok (x ∷ xs))) us e in
      let b = and_then-ok (all_typed t ds) (λ xs. Ok (a.given ∷ xs)) us a.gave in
      let named : given_names t d ≡ names_in (plain_nullable a.given) = ap (λ (r : Result Ty Refusal). names_in (type_or_empty r)) a.was ∙ sym (names_in-nullable a.given) in
      subst (λ (z : List Ty). AllSourcesFit (sources t slots row (tree d ds)) (map plain_nullable z)) (Ok-same (Ok us) (a.given ∷ b.given) us (sym b.gave) refl)
      (record { value = mean-but_nulls t slots row d a.given h a.was; named = named }, sources-but_nulls t slots row ds b.given h b.was)

pub meaning_fits_with_any_slots : MeaningFitsWithAnySlots
meaning_fits_with_any_slots t slots row e u h k = mean-but_nulls t slots row e u (fits-but_nulls row t h) k

pub faults_are_plain : FaultsArePlain
unfolding fits_but_for_faults plain_nullable
faults_are_plain t slots row e u h k b = by-type u (subst (λ (v : Val). FitsButNulls v u) b (mean-but_nulls t slots row e u (fits-but_nulls row t h) k))
  where
    by-type : (a : Ty) → FitsButNulls fault a → is_plain a ≡ true
    by-type (bool_ty n) i = i
    by-type (int_ty p n) i = i
    by-type (text_ty n) i = i
    by-type (list_ty d n) i = i
    by-type (struct_ty fs n) i = i
