-- Where no asked node breaks, what an expression means along an asked path holds no fault.
use Rattle.std.proofs.Common.{◌≡◌, refl, ap, sym, ◌∙◌, Bool, true, false, cond, not, ◌&&◌, ◌||◌, Option, Some, None, subst, List, [], ◌∷◌, ◌++◌, Result, Ok}
use Rattle.std.specs.Prelude.{unwrap_or, option_map, nat_eq, length}
use Rattle.std.specs.Str.{bytes_eq}
use Rattle.std.specs.List.{list_any, list_all, flat_map, AllByRecursion}
use Rattle.std.proofs.lemmas.Bool.{and_parts, and_from, or_parts, or_from}
use Rattle.vx_dtype.specs.declared.Nullability.{Nullability}
use Rattle.vx_dtype.specs.declared.Nullability.TheVariants.{NonNullable}
use Rattle.vx_dtype.specs.declared.CompareOperator.{CompareOperator}
use Rattle.vx_dtype.specs.declared.CompareOperator.TheVariants.{Eq, NotEq, Gt, Gte, Lt, Lte}
use Rattle.vx_dtype.specs.Types.{Bytes, Ty, bool_ty, int_ty, text_ty, list_ty, struct_ty, Fields, no_fields, field}
use Rattle.vx_dtype.specs.TypeRules.{nullability_of, union, with_nullability, widened, alike, is_plain, is_bool_ty, is_int_ty, is_text_ty, fields_of, field_names, field_type, has_name, distinct_names, no_name_twice}
use Rattle.vx_dtype.specs.Values.{Val, struct_val, fault, value_of}
use Rattle.vx_dtype.specs.Fits.{val_fits, fits_but_for_faults, holds_fault, member_holds_fault}
use Rattle.vx_dtype.specs.Logic.{not3}
use Rattle.vx_dtype.specs.Like.{like3}
use Rattle.vx_dtype.specs.Lists.{contains3}
use Rattle.vx_dtype.specs.Casts.{takes_cast}
use Rattle.vx_dtype.specs.Order.{compare3}
use Rattle.vx_dtype.specs.Structs.{member_named, field_of, first_names}
use Rattle.vx_expr.specs.declared.Operator.{Operator}
use Rattle.vx_expr.specs.declared.FieldSelection.{FieldSelection}
use Rattle.vx_expr.specs.Trees.{Tree, root, literal, get_item, binary, not_of, is_null_of, like, between, cast, list_contains, pack, merge, select, dynamic, Trees, no_trees, tree}
use Rattle.vx_dtype.specs.StructTypes.{is_struct_ty}
use Rattle.vx_dtype.specs.Zipped.{zipped}
use Rattle.vx_semantics.specs.Typing.{Refusal, type_mismatch, not_struct, duplicate_field, and_then, unless, item_type, selected_fields, select_type, pack_type, names_in, type_in, merged_type_at, merged_fields_at, merge_type, union_of, equal_plain, compare_type, binary_type, not_type, like_type, between_type, contains_type, cast_type, dynamic_type, typed_of, all_typed, type_or_empty, given_names}
use Rattle.vx_semantics.specs.Meaning.{Slots, mean, meanings, sources, Source, source_names, merged_value, merged_members, merged, zip_members, select3}
use Rattle.vx_semantics.specs.Breaks.{by_sum, by_cast, is_fault, breaks}
use Rattle.vx_semantics.specs.Merging.{merged_names}
use Rattle.vx_semantics.specs.Asked.{Giver, giver_names, givers, path_or_each, asked, asked_in_pack, asked_of_giver}
use Rattle.vx_expr.specs.Slots.{slot_held}
use Rattle.vx_semantics.specs.Paths.{path_value}
use Rattle.vx_semantics.specs.Slots.{held_fits, slots_fit, all_slots_fit}
use Rattle.vx_laws.specs.Faults.{NoBreakNoFault}
use Rattle.vx_laws.proofs.Inverting.{and_then-ok, unless-ok, Ok-same}
use Rattle.vx_laws.proofs.Fitting.{takes_cast-plain, valued-fits, fits-but_for_faults}
use Rattle.vx_laws.proofs.Structs.{IsStructOf, struct-value, item_type-ok, select_type-ok, select3-fits, AllSourcesFit, merged-fits, all-own_names, source_names-same, some_gives-same}
use Rattle.vx_laws.proofs.Merging.{some_gives, merged_type_at-step, merged_value-step, asked_of_giver-step, givers-same, giver_names-same}
use Rattle.vx_laws.proofs.Preserving.{FitsButFaults, distinct_type-ok, literal_type-ok, literal-fits, one_test, mean-fits, sources-fit}
use Rattle.vx_laws.proofs.Distinct.{AreDistinct, struct-distinct, typed-distinct, field_names-merged}
use Rattle.vx_laws.proofs.Lookups.{merged_fields-type, merged_members-value, select-chosen}
use Rattle.vx_laws.proofs.Sound.{IsNoFault, HoldsNoFault, HoldsNoFault-IsNoFault, fits-HoldsNoFault, compare-IsNoFault, equal_plain-parts, and-IsNoFault, or-IsNoFault, not-IsNoFault, is_null-IsNoFault, like-IsNoFault, contains-IsNoFault, between-IsNoFault, dynamic-IsNoFault, unbroken}
use Rattle.vx_laws.proofs.Paths.{in_option, path_in, first_of_path, path_in-first, path_in-widened, plain-path-HoldsNoFault, path-HoldsNoFault, asking_breaks, Quiet, quiet-parts, some_asked-same, each-quiet, fields-HoldsNoFault, each-path}

-- what an expression of a type means along each asked path holds no fault where nothing asked breaks
abbrev pub Faultless : Ty → Slots → Val → Tree → Ty → Type 0
Faultless t slots row e u = (path : List Bytes) → path_in path u ≡ true → Quiet t slots row (asked t e path) → HoldsNoFault (path_value path (mean t slots row e))

not-false : (b : Bool) → b ≡ false → not b ≡ true
not-false false h = refl
not-false true h = let no : ⊥ = cc in absurd no

both-sound : (l r : Val) → IsNoFault l → IsNoFault r → (not (is_fault l) && not (is_fault r)) ≡ true
both-sound l r h k = and_from (not (is_fault l)) (not (is_fault r)) (not-false (is_fault l) h) (not-false (is_fault r) k)

pub is_bool-nullability : (a : Ty) → is_bool_ty a ≡ true → (n : Nullability) × (a ≡ bool_ty n)
is_bool-nullability (bool_ty n) h = (n, refl)
is_bool-nullability _ h = let no : ⊥ = cc in absurd no

is_text-nullability : (a : Ty) → is_text_ty a ≡ true → (n : Nullability) × (a ≡ text_ty n)
is_text-nullability (text_ty n) h = (n, refl)
is_text-nullability _ h = let no : ⊥ = cc in absurd no

int-plain : (a : Ty) (n : Nullability) → is_int_ty a ≡ true → is_plain (with_nullability a n) ≡ true
int-plain (int_ty p m) n h = refl
int-plain _ n h = let no : ⊥ = cc in absurd no

by-compare : (op : CompareOperator) (a b u : Ty) (l r : Val) → FitsButFaults l a → FitsButFaults r b → IsNoFault l → IsNoFault r → compare_type a b ≡ Ok u → IsNoFault (compare3 op l r) × (is_plain u ≡ true)
by-compare op a b u l r h k i j e =
    let x = one_test (equal_plain a b) (bool_ty (union_of a b)) u e in
    let p = equal_plain-parts a b x.0 in
    (compare-IsNoFault op l r a b p.0 p.1 h k i j, subst (λ (z : Ty). is_plain z ≡ true) x.1 refl)

-- an operator whose operands are no faults, and that doesn't break, is none; and its type is plain
pub binary-IsNoFault : (t : Ty) (slots : Slots) (row : Val) (l : Tree) (op : Operator) (r : Tree) (a b u : Ty)
    → FitsButFaults (mean t slots row l) a → FitsButFaults (mean t slots row r) b → IsNoFault (mean t slots row l) → IsNoFault (mean t slots row r) → breaks t slots row (binary l op r) ≡ false → binary_type op a b ≡ Ok u
    → IsNoFault (mean t slots row (binary l op r)) × (is_plain u ≡ true)
unfolding mean
binary-IsNoFault t slots row l Operator.Add r a b u h k i j q e =
    let x = one_test (alike a b && is_int_ty a) (with_nullability a (union_of a b)) u e in (
      unbroken (not (is_fault (mean t slots row l)) && not (is_fault (mean t slots row r))) (mean t slots row (binary l Operator.Add r)) by_sum q (both-sound (mean t slots row l) (mean t slots row r) i j),
      subst (λ (z : Ty). is_plain z ≡ true) x.1 (int-plain a (union_of a b) (and_parts (alike a b) (is_int_ty a) x.0).1),
    )
binary-IsNoFault t slots row l Operator.Sub r a b u h k i j q e =
    let x = one_test (alike a b && is_int_ty a) (with_nullability a (union_of a b)) u e in (
      unbroken (not (is_fault (mean t slots row l)) && not (is_fault (mean t slots row r))) (mean t slots row (binary l Operator.Sub r)) by_sum q (both-sound (mean t slots row l) (mean t slots row r) i j),
      subst (λ (z : Ty). is_plain z ≡ true) x.1 (int-plain a (union_of a b) (and_parts (alike a b) (is_int_ty a) x.0).1),
    )
binary-IsNoFault t slots row l Operator.And r a b u h k i j q e =
    let x = one_test (is_bool_ty a && is_bool_ty b) (bool_ty (union_of a b)) u e in
    let parts = and_parts (is_bool_ty a) (is_bool_ty b) x.0 in
    let n = is_bool-nullability a parts.0 in
    let m = is_bool-nullability b parts.1 in
    (and-IsNoFault (mean t slots row l) (mean t slots row r) n.0 m.0 (subst (FitsButFaults (mean t slots row l)) n.1 h) (subst (FitsButFaults (mean t slots row r)) m.1 k) i j, subst (λ (z : Ty). is_plain z ≡ true) x.1 refl)
binary-IsNoFault t slots row l Operator.Or r a b u h k i j q e =
    let x = one_test (is_bool_ty a && is_bool_ty b) (bool_ty (union_of a b)) u e in
    let parts = and_parts (is_bool_ty a) (is_bool_ty b) x.0 in
    let n = is_bool-nullability a parts.0 in
    let m = is_bool-nullability b parts.1 in
    (or-IsNoFault (mean t slots row l) (mean t slots row r) n.0 m.0 (subst (FitsButFaults (mean t slots row l)) n.1 h) (subst (FitsButFaults (mean t slots row r)) m.1 k) i j, subst (λ (z : Ty). is_plain z ≡ true) x.1 refl)
binary-IsNoFault t slots row l Operator.Eq r a b u h k i j q e = by-compare Eq a b u (mean t slots row l) (mean t slots row r) h k i j e
binary-IsNoFault t slots row l Operator.NotEq r a b u h k i j q e = by-compare NotEq a b u (mean t slots row l) (mean t slots row r) h k i j e
binary-IsNoFault t slots row l Operator.Gt r a b u h k i j q e = by-compare Gt a b u (mean t slots row l) (mean t slots row r) h k i j e
binary-IsNoFault t slots row l Operator.Gte r a b u h k i j q e = by-compare Gte a b u (mean t slots row l) (mean t slots row r) h k i j e
binary-IsNoFault t slots row l Operator.Lt r a b u h k i j q e = by-compare Lt a b u (mean t slots row l) (mean t slots row r) h k i j e
binary-IsNoFault t slots row l Operator.Lte r a b u h k i j q e = by-compare Lte a b u (mean t slots row l) (mean t slots row r) h k i j e

-- the first field of a path in a struct of a name
get_item-faultless : (t : Ty) (slots : Slots) (row : Val) (f : Bytes) (d : Tree) (a u : Ty) → item_type f a ≡ Ok u → Faultless t slots row d a
    → (path : List Bytes) → path_in path u ≡ true → Quiet t slots row (asked t d (f ∷ path)) → HoldsNoFault (path_value path (field_of f (mean t slots row d)))
get_item-faultless t slots row f d a u e r path p q =
    let k = item_type-ok f a u e in
    let inner : path_in path k.own ≡ true = sym (path_in-widened path k.own k.nullability) ∙ subst (λ (z : Ty). path_in path z ≡ true) k.gives p in
    r (f ∷ path) (subst (λ (z : Ty). path_in (f ∷ path) z ≡ true) (sym k.is) (path_in-first f path k.fields k.own k.found inner)) q

select-one : (t : Ty) (slots : Slots) (row : Val) (s : FieldSelection) (d : Tree) (a u : Ty) → select_type s a ≡ Ok u → FitsButFaults (mean t slots row d) a → Faultless t slots row d a
    → (f : Bytes) (path : List Bytes) → path_in (f ∷ path) u ≡ true → Quiet t slots row (asked t d (f ∷ path)) → HoldsNoFault (path_value path (field_of f (select3 s (mean t slots row d))))
select-one t slots row s d a u e h r f path p q =
    let k = select_type-ok s a u e in
    let v = struct-value (mean t slots row d) k.fields (subst (FitsButFaults (mean t slots row d)) k.is h) in
    let first = first_of_path f path (selected_fields s k.fields) (subst (λ (z : Ty). path_in (f ∷ path) z ≡ true) k.gives p) in
    let chosen = select-chosen s f k.fields v.members first.own first.found in
    let inner = r (f ∷ path) (subst (λ (z : Ty). path_in (f ∷ path) z ≡ true) (sym k.is) (path_in-first f path k.fields first.own chosen.type first.rest)) q in
    let same : field_of f (select3 s (mean t slots row d)) ≡ field_of f (mean t slots row d) =
    ap (λ (z : Val). field_of f (select3 s z)) v.is ∙ (chosen.value ∙ ap (field_of f) (sym v.is)) in
    subst (λ (z : Val). HoldsNoFault (path_value path z)) (sym same) inner

-- a struct whose type has distinct names, from each of its fields
struct-each : (v : Val) (fs : Fields) (P : Bytes → Type 0) → IsStructOf v fs → AreDistinct fs → AllByRecursion P (field_names fs)
    → ((f : Bytes) → in_option (path_in []) (field_type f fs) ≡ true → P f → HoldsNoFault (field_of f v)) → HoldsNoFault v
struct-each v fs P s d ps r = fields-HoldsNoFault v fs s d.names (each-path P (λ f. HoldsNoFault (field_of f v)) fs (field_names fs) r (all-own_names (field_names fs)) ps)

pub names_in-select : (t : Ty) (e : Tree) (u : Ty) (fs : Fields) (n : Nullability) → typed_of t e ≡ Ok u → u ≡ struct_ty fs n → given_names t e ≡ field_names fs
names_in-select t e u fs n h k = ap (λ (r : Result Ty Refusal). names_in (type_or_empty r)) h ∙ ap names_in k

select-faultless : (t : Ty) (slots : Slots) (row : Val) (s : FieldSelection) (d : Tree) (a u : Ty) → typed_of t (select s d) ≡ Ok u → select_type s a ≡ Ok u → FitsButFaults (mean t slots row d) a
    → Faultless t slots row d a
    → (path : List Bytes) → path_in path u ≡ true → Quiet t slots row (path_or_each (asked t d) (given_names t (select s d)) path) → HoldsNoFault (path_value path (select3 s (mean t slots row d)))
select-faultless t slots row s d a u e g h r (f ∷ path) p q = select-one t slots row s d a u g h r f path p q
select-faultless t slots row s d a u e g h r [] p q =
    let k = select_type-ok s a u g in
    let fs = selected_fields s k.fields in
    let v = select3 s (mean t slots row d) in
    let is = struct-value v fs (subst (FitsButFaults v) k.gives (select3-fits s (mean t slots row d) a u h g)) in
    let distinct = struct-distinct fs NonNullable (subst (λ (z : Ty). no_name_twice z ≡ true) k.gives (typed-distinct t (select s d) u e)) in
    let quiet = each-quiet t slots row (asked t d) (given_names t (select s d)) q in
    struct-each v fs (λ f. Quiet t slots row (asked t d (f ∷ []))) is distinct
    (subst (AllByRecursion (λ f. Quiet t slots row (asked t d (f ∷ [])))) (names_in-select t (select s d) u fs NonNullable e k.gives) quiet)
    (λ f found one. select-one t slots row s d a u g h r f [] (subst (λ (z : Ty). path_in (f ∷ []) z ≡ true) (sym k.gives) found) one)

-- what a merge takes from its last giver holds no fault
abbrev pub GiversFaultless : Ty → Slots → Val → Trees → List Ty → Type 0
GiversFaultless t slots row es us =
    (f : Bytes) (path : List Bytes) (w : Ty) → merged_type_at f us ≡ Some w → path_in path w ≡ true → Quiet t slots row (asked_of_giver (givers t es) (f ∷ path))
    → HoldsNoFault (path_value path (merged_value f (sources t slots row es)))

-- of a merge with a type, its fields
pub record Merges (us : List Ty) (n : Nullability) (u : Ty) : Type 0 where
  pub gives : u ≡ struct_ty (merged_fields_at (merged_names names_in us) us) n

pub merge_type-ok : (us : List Ty) (n : Nullability) (u : Ty) → merge_type n us ≡ Ok u → Merges us n u
merge_type-ok us n u e =
    let made : Result Ty Refusal = Ok (struct_ty (merged_fields_at (merged_names names_in us) us) n) in
    let a = unless-ok (list_all is_struct_ty us) not_struct made u e in
    record { gives = Ok-same (Ok u) u (struct_ty (merged_fields_at (merged_names names_in us) us) n) refl (sym a.gave) }

merge-one : (t : Ty) (slots : Slots) (row : Val) (es : Trees) (n : Nullability) (us : List Ty) (u : Ty) → merge_type n us ≡ Ok u → AllSourcesFit (sources t slots row es) us
    → GiversFaultless t slots row es us
    → (f : Bytes) (path : List Bytes) → path_in (f ∷ path) u ≡ true → Quiet t slots row (asked_of_giver (givers t es) (f ∷ path)) → HoldsNoFault (path_value path (field_of f (merged (sources t slots row es))))
merge-one t slots row es n us u e h r f path p q =
    let k = merge_type-ok us n u e in
    let ss = sources t slots row es in
    let first = first_of_path f path (merged_fields_at (merged_names names_in us) us) (subst (λ (z : Ty). path_in (f ∷ path) z ≡ true) k.gives p) in
    let found = merged_fields-type (merged_names names_in us) us f first.own first.found in
    let names = first_names (flat_map source_names ss) in
    let named : has_name f names ≡ true = ap (λ (z : List Bytes). has_name f (first_names z)) (source_names-same ss us h) ∙ found.name in
    subst (λ (z : Val). HoldsNoFault (path_value path z)) (sym (merged_members-value names ss f named)) (r f path first.own found.type first.rest q)

merge-faultless : (t : Ty) (slots : Slots) (row : Val) (es : Trees) (n : Nullability) (us : List Ty) (u : Ty) → typed_of t (merge es n) ≡ Ok u → merge_type n us ≡ Ok u
    → AllSourcesFit (sources t slots row es) us → GiversFaultless t slots row es us
    → (path : List Bytes) → path_in path u ≡ true → Quiet t slots row (path_or_each (asked_of_giver (givers t es)) (merged_names giver_names (givers t es)) path)
    → HoldsNoFault (path_value path (merged (sources t slots row es)))
unfolding fits_but_for_faults
merge-faultless t slots row es n us u e g h r (f ∷ path) p q = merge-one t slots row es n us u g h r f path p q
merge-faultless t slots row es n us u e g h r [] p q =
    let k = merge_type-ok us n u g in
    let fs = merged_fields_at (merged_names names_in us) us in
    let ss = sources t slots row es in
    let names = first_names (flat_map source_names ss) in
    let fit = subst (FitsButFaults (merged ss)) k.gives (merged-fits n ss us u h g) in
    let is : IsStructOf (merged ss) fs = record { members = merged_members names ss; is = refl; fit = fit } in
    let distinct = struct-distinct fs n (subst (λ (z : Ty). no_name_twice z ≡ true) k.gives (typed-distinct t (merge es n) u e)) in
    let quiet = each-quiet t slots row (asked_of_giver (givers t es)) (merged_names giver_names (givers t es)) q in
    let same : merged_names giver_names (givers t es) ≡ field_names fs = ap first_names (giver_names-same t slots row es ∙ source_names-same ss us h) ∙ sym (field_names-merged us) in
    struct-each (merged ss) fs (λ f. Quiet t slots row (asked_of_giver (givers t es) (f ∷ []))) is distinct (subst (AllByRecursion (λ f. Quiet t slots row (asked_of_giver (givers t es) (f ∷ [])))) same quiet)
    (λ f found one. merge-one t slots row es n us u g h r f [] (subst (λ (z : Ty). path_in (f ∷ []) z ≡ true) (sym k.gives) found) one)

-- of a pack with a type, its fields
pub pack_type-ok : (names : List Bytes) (n : Nullability) (us : List Ty) (u : Ty) → pack_type names n us ≡ Ok u → u ≡ struct_ty (zipped names us) n
pack_type-ok names n us u e =
    let made : Result Ty Refusal = Ok (struct_ty (zipped names us) n) in
    let sized = unless (nat_eq (length names) (length us)) type_mismatch made in
    let a = unless-ok (distinct_names names) duplicate_field sized u e in
    let b = unless-ok (nat_eq (length names) (length us)) type_mismatch made u a.gave in
    Ok-same (Ok u) u (struct_ty (zipped names us) n) refl (sym b.gave)

-- the first of two merged structs' fields, and the rest
giver-own : (t : Ty) (slots : Slots) (row : Val) (d : Tree) (a : Ty) (f : Bytes) (path : List Bytes) (w : Ty) → type_in f a ≡ Some w → path_in path w ≡ true
    → Faultless t slots row d a → Quiet t slots row (asked t d (f ∷ path)) → HoldsNoFault (path_value path (field_of f (mean t slots row d)))
giver-own t slots row d a f path w e p r q = by-type (field_type f (fields_of a)) refl e
  where
    by-type : (o : Option Ty) → field_type f (fields_of a) ≡ o → option_map (λ (v : Ty). widened v (nullability_of a)) o ≡ Some w → HoldsNoFault (path_value path (field_of f (mean t slots row d)))
    by-type None j k = let no : ⊥ = cc in absurd no
    by-type (Some v) j k =
        let same : widened v (nullability_of a) ≡ w = cc in
        let inner : path_in path v ≡ true = sym (path_in-widened path v (nullability_of a)) ∙ subst (λ (z : Ty). path_in path z ≡ true) (sym same) p in
        r (f ∷ path) (path_in-first f path (fields_of a) v j inner) q

-- a struct that has the field gives its name
pub type_in-named : (f : Bytes) (a : Ty) (w : Ty) → type_in f a ≡ Some w → has_name f (names_in a) ≡ true
type_in-named f a w e = by-fields (fields_of a) e
  where
    by-fields : (fs : Fields) → option_map (λ (v : Ty). widened v (nullability_of a)) (field_type f fs) ≡ Some w → has_name f (field_names fs) ≡ true
    by-fields no_fields k = let no : ⊥ = cc in absurd no
    by-fields (field g u fs) k = by-test (bytes_eq f g) k (by-fields fs)
      where
        by-test : (b : Bool) → option_map (λ (v : Ty). widened v (nullability_of a)) (cond b (Some u) (field_type f fs)) ≡ Some w
            → (option_map (λ (v : Ty). widened v (nullability_of a)) (field_type f fs) ≡ Some w → has_name f (field_names fs) ≡ true) → (b || has_name f (field_names fs)) ≡ true
        by-test true j r = refl
        by-test false j r = r j

givers-faultless : (t : Ty) (slots : Slots) (row : Val) (d : Tree) (ds : Trees) (a : Ty) (us : List Ty) → given_names t d ≡ names_in a → AllSourcesFit (sources t slots row ds) us
    → Faultless t slots row d a → GiversFaultless t slots row ds us → GiversFaultless t slots row (tree d ds) (a ∷ us)
unfolding mean asked
givers-faultless t slots row d ds a us named fit own rest f path w e p q =
    let same = some_gives-same f (sources t slots row ds) us fit in
    let first : Source = record { names = given_names t d; whole = mean t slots row d } in
    let asks : Giver = record { names = given_names t d; asks = asked t d } in
    let value = merged_value-step f first (sources t slots row ds)
    ∙ ap (λ (b : Bool). cond b (merged_value f (sources t slots row ds)) (cond (has_name f (given_names t d)) (field_of f (mean t slots row d)) fault)) same in
    let ask = asked_of_giver-step f path asks (givers t ds)
    ∙ ap (λ (b : Bool). cond b (asked_of_giver (givers t ds) (f ∷ path)) (cond (has_name f (given_names t d)) (asked t d (f ∷ path)) [])) (givers-same t slots row f ds ∙ same) in
    subst (λ (v : Val). HoldsNoFault (path_value path v)) (sym value)
    (by-test (some_gives names_in f us) (sym (merged_type_at-step f a us) ∙ e) (subst (Quiet t slots row) ask q))
  where
    by-test : (b : Bool) → cond b (merged_type_at f us) (type_in f a) ≡ Some w
        → Quiet t slots row (cond b (asked_of_giver (givers t ds) (f ∷ path)) (cond (has_name f (given_names t d)) (asked t d (f ∷ path)) []))
        → HoldsNoFault (path_value path (cond b (merged_value f (sources t slots row ds)) (cond (has_name f (given_names t d)) (field_of f (mean t slots row d)) fault)))
    by-test true k j = rest f path w k p j
    by-test false k j =
        let here : has_name f (given_names t d) ≡ true = ap (has_name f) named ∙ type_in-named f a w k in
        subst (λ (b : Bool). HoldsNoFault (path_value path (cond b (field_of f (mean t slots row d)) fault))) (sym here)
        (giver-own t slots row d a f path w k p own (subst (λ (b : Bool). Quiet t slots row (cond b (asked t d (f ∷ path)) [])) here j))

-- what a pack takes from its values holds no fault
abbrev pub PackFaultless : Ty → Slots → Val → List Bytes → Trees → List Ty → Type 0
PackFaultless t slots row names es us =
    (Quiet t slots row (asked_in_pack t names es []) → member_holds_fault (zip_members names (meanings t slots row es)) ≡ false)
    × ((f : Bytes) (path : List Bytes) → in_option (path_in path) (field_type f (zipped names us)) ≡ true → Quiet t slots row (asked_in_pack t names es (f ∷ path))
    → HoldsNoFault (path_value path (unwrap_or (member_named f (zip_members names (meanings t slots row es))) fault)))

pack-none : (t : Ty) (slots : Slots) (row : Val) (names : List Bytes) → PackFaultless t slots row names no_trees []
unfolding mean holds_fault
pack-none t slots row [] = (λ q. refl, λ f path p q. let no : ⊥ = cc in absurd no)
pack-none t slots row (g ∷ names) = (λ q. refl, λ f path p q. let no : ⊥ = cc in absurd no)

pack-unnamed : (t : Ty) (slots : Slots) (row : Val) (es : Trees) (us : List Ty) → PackFaultless t slots row [] es us
unfolding mean holds_fault
pack-unnamed t slots row es us = (λ q. refl, λ f path p q. let no : ⊥ = cc in absurd no)

pack-more : (t : Ty) (slots : Slots) (row : Val) (g : Bytes) (names : List Bytes) (d : Tree) (ds : Trees) (a : Ty) (us : List Ty) → Faultless t slots row d a → PackFaultless t slots row names ds us
    → PackFaultless t slots row (g ∷ names) (tree d ds) (a ∷ us)
unfolding mean asked holds_fault
pack-more t slots row g names d ds a us own rest = (
  λ q. let parts = quiet-parts t slots row (asked t d []) (asked_in_pack t names ds []) q in
      or_from (holds_fault (mean t slots row d)) (member_holds_fault (zip_members names (meanings t slots row ds))) (own [] refl parts.0) (rest.0 parts.1),
  λ f path p q. by-test (bytes_eq f g) f path p q,
)
  where
    by-test : (b : Bool) (f : Bytes) (path : List Bytes) → in_option (path_in path) (cond b (Some a) (field_type f (zipped names us))) ≡ true
        → Quiet t slots row (cond b (asked t d path) (asked_in_pack t names ds (f ∷ path)))
        → HoldsNoFault (path_value path (unwrap_or (cond b (Some (mean t slots row d)) (member_named f (zip_members names (meanings t slots row ds)))) fault))
    by-test true f path p q = own path p q
    by-test false f path p q = rest.1 f path p q

pack-faultless : (t : Ty) (slots : Slots) (row : Val) (names : List Bytes) (es : Trees) (n : Nullability) (us : List Ty) (u : Ty) → pack_type names n us ≡ Ok u → PackFaultless t slots row names es us
    → (path : List Bytes) → path_in path u ≡ true → Quiet t slots row (asked_in_pack t names es path) → HoldsNoFault (path_value path (struct_val (zip_members names (meanings t slots row es))))
unfolding holds_fault
pack-faultless t slots row names es n us u e r [] p q = r.0 q
pack-faultless t slots row names es n us u e r (f ∷ path) p q = r.1 f path (subst (λ (z : Ty). path_in (f ∷ path) z ≡ true) (pack_type-ok names n us u e) p) q

-- a boolean answer behind one test is plain
bool-plain : (b : Bool) (n : Nullability) (u : Ty) → unless b type_mismatch (Ok (bool_ty n)) ≡ Ok u → is_plain u ≡ true
bool-plain b n u h = subst (λ (z : Ty). is_plain z ≡ true) (one_test b (bool_ty n) u h).1 refl

not-sound : (v : Val) (a u : Ty) → not_type a ≡ Ok u → FitsButFaults v a → IsNoFault v → IsNoFault (not3 v) × (is_plain u ≡ true)
not-sound v a u e h i =
    let x = one_test (is_bool_ty a) a u e in
    let n = is_bool-nullability a x.0 in
    (not-IsNoFault v n.0 (subst (FitsButFaults v) n.1 h) i, subst (λ (z : Ty). is_plain z ≡ true) (sym n.1 ∙ x.1) refl)

like-sound : (negated fold_case : Bool) (l r : Val) (a b u : Ty) → like_type a b ≡ Ok u → FitsButFaults l a → FitsButFaults r b → IsNoFault l → IsNoFault r → IsNoFault (like3 negated fold_case l r)
like-sound negated fold_case l r a b u e h k i j =
    let x = one_test (is_text_ty a && is_text_ty b) (bool_ty (union_of a b)) u e in
    let parts = and_parts (is_text_ty a) (is_text_ty b) x.0 in
    let n = is_text-nullability a parts.0 in
    let m = is_text-nullability b parts.1 in
    like-IsNoFault negated fold_case l r n.0 m.0 (subst (FitsButFaults l) n.1 h) (subst (FitsButFaults r) m.1 k) i j

contains-sound : (l v : Val) (a b u : Ty) → contains_type a b ≡ Ok u → FitsButFaults l a → IsNoFault l → IsNoFault v → IsNoFault (contains3 l v) × (is_plain u ≡ true)
contains-sound l v (list_ty d n) b u e h i j = (contains-IsNoFault l v d n h i j, bool-plain (equal_plain d b) (union n (nullability_of b)) u e)
contains-sound l v _ b u e h i j = let no : ⊥ = cc in absurd no

mutual
  unfolding mean typed_of slots_fit asked

  pub mean-faultless : (t : Ty) (slots : Slots) (row : Val) (e : Tree) (u : Ty) → val_fits row t ≡ true → slots_fit slots e ≡ true → typed_of t e ≡ Ok u → Faultless t slots row e u
  mean-faultless t slots row root u h s e path p q =
      let same = distinct_type-ok t u e in
      path-HoldsNoFault path row u (subst (FitsButFaults row) same (fits-but_for_faults row t h)) (fits-HoldsNoFault row t h) p
  mean-faultless t slots row (literal c) u h s e path p q =
      let k = literal_type-ok c u e in
      path-HoldsNoFault path (value_of c) u (literal-fits c u e) (fits-HoldsNoFault (value_of c) c.ty (valued-fits c.value c.ty k.is_value)) p
  mean-faultless t slots row (get_item f d) u h s e path p q =
      let a = and_then-ok (typed_of t d) (item_type f) u e in
      get_item-faultless t slots row f d a.given u a.gave (mean-faultless t slots row d a.given h s a.was) path p q
  mean-faultless t slots row (binary l op r) u h s e path p q =
      let parts = and_parts (slots_fit slots l) (slots_fit slots r) s in
      let a = and_then-ok (typed_of t l) (λ x. and_then (typed_of t r) (binary_type op x)) u e in
      let b = and_then-ok (typed_of t r) (binary_type op a.given) u a.gave in
      let own = or_parts (breaks t slots row (binary l op r)) (list_any (asking_breaks t slots row) (asked t l [] ++ asked t r [])) q in
      let more = quiet-parts t slots row (asked t l []) (asked t r []) own.1 in
      let fb = fits-but_for_faults row t h in
      let x = HoldsNoFault-IsNoFault (mean t slots row l) (mean-faultless t slots row l a.given h parts.0 a.was [] refl more.0) in
      let y = HoldsNoFault-IsNoFault (mean t slots row r) (mean-faultless t slots row r b.given h parts.1 b.was [] refl more.1) in
      let sound = binary-IsNoFault t slots row l op r a.given b.given u (mean-fits t slots row l a.given fb parts.0 a.was) (mean-fits t slots row r b.given fb parts.1 b.was) x y own.0 b.gave in
      plain-path-HoldsNoFault path u (mean t slots row (binary l op r)) sound.1 p (mean-fits t slots row (binary l op r) u fb s e) sound.0
  mean-faultless t slots row (not_of d) u h s e path p q =
      let a = and_then-ok (typed_of t d) not_type u e in
      let fb = fits-but_for_faults row t h in
      let x = HoldsNoFault-IsNoFault (mean t slots row d) (mean-faultless t slots row d a.given h s a.was [] refl q) in
      let sound = not-sound (mean t slots row d) a.given u a.gave (mean-fits t slots row d a.given fb s a.was) x in
      plain-path-HoldsNoFault path u (mean t slots row (not_of d)) sound.1 p (mean-fits t slots row (not_of d) u fb s e) sound.0
  mean-faultless t slots row (is_null_of d) u h s e path p q =
      let a = and_then-ok (typed_of t d) (λ x. Ok (bool_ty NonNullable)) u e in
      let x = HoldsNoFault-IsNoFault (mean t slots row d) (mean-faultless t slots row d a.given h s a.was [] refl q) in
      let plain = subst (λ (z : Ty). is_plain z ≡ true) (Ok-same (Ok u) (bool_ty NonNullable) u (sym a.gave) refl) refl in
      plain-path-HoldsNoFault path u (mean t slots row (is_null_of d)) plain p (mean-fits t slots row (is_null_of d) u (fits-but_for_faults row t h) s e) (is_null-IsNoFault (mean t slots row d) x)
  mean-faultless t slots row (like d g negated fold_case) u h s e path p q =
      let parts = and_parts (slots_fit slots d) (slots_fit slots g) s in
      let a = and_then-ok (typed_of t d) (λ x. and_then (typed_of t g) (like_type x)) u e in
      let b = and_then-ok (typed_of t g) (like_type a.given) u a.gave in
      let more = quiet-parts t slots row (asked t d []) (asked t g []) q in
      let fb = fits-but_for_faults row t h in
      let x = HoldsNoFault-IsNoFault (mean t slots row d) (mean-faultless t slots row d a.given h parts.0 a.was [] refl more.0) in
      let y = HoldsNoFault-IsNoFault (mean t slots row g) (mean-faultless t slots row g b.given h parts.1 b.was [] refl more.1) in
      let sound = like-sound negated fold_case (mean t slots row d) (mean t slots row g) a.given b.given u b.gave (mean-fits t slots row d a.given fb parts.0 a.was) (mean-fits t slots row g b.given fb parts.1 b.was) x y in
      plain-path-HoldsNoFault path u (mean t slots row (like d g negated fold_case)) (bool-plain (is_text_ty a.given && is_text_ty b.given) (union_of a.given b.given) u b.gave) p
      (mean-fits t slots row (like d g negated fold_case) u fb s e) sound
  mean-faultless t slots row (between d lower upper options) u h s e path p q =
      let parts = and_parts (slots_fit slots d) (slots_fit slots lower && slots_fit slots upper) s in
      let fits = and_parts (slots_fit slots lower) (slots_fit slots upper) parts.1 in
      let a = and_then-ok (typed_of t d) (λ x. and_then (typed_of t lower) (λ y. and_then (typed_of t upper) (between_type x y))) u e in
      let b = and_then-ok (typed_of t lower) (λ y. and_then (typed_of t upper) (between_type a.given y)) u a.gave in
      let c = and_then-ok (typed_of t upper) (between_type a.given b.given) u b.gave in
      let first = quiet-parts t slots row (asked t d []) (asked t lower [] ++ asked t upper []) q in
      let more = quiet-parts t slots row (asked t lower []) (asked t upper []) first.1 in
      let fb = fits-but_for_faults row t h in
      let x = HoldsNoFault-IsNoFault (mean t slots row d) (mean-faultless t slots row d a.given h parts.0 a.was [] refl first.0) in
      let y = HoldsNoFault-IsNoFault (mean t slots row lower) (mean-faultless t slots row lower b.given h fits.0 b.was [] refl more.0) in
      let z = HoldsNoFault-IsNoFault (mean t slots row upper) (mean-faultless t slots row upper c.given h fits.1 c.was [] refl more.1) in
      let test = one_test (equal_plain a.given b.given && equal_plain a.given c.given) (bool_ty (union (nullability_of a.given) (union_of b.given c.given))) u c.gave in
      let equal = and_parts (equal_plain a.given b.given) (equal_plain a.given c.given) test.0 in
      let sound = between-IsNoFault options (mean t slots row d) (mean t slots row lower) (mean t slots row upper) a.given b.given c.given equal.0 equal.1
      (mean-fits t slots row d a.given fb parts.0 a.was) (mean-fits t slots row lower b.given fb fits.0 b.was) (mean-fits t slots row upper c.given fb fits.1 c.was) x y z in
      plain-path-HoldsNoFault path u (mean t slots row (between d lower upper options))
      (bool-plain (equal_plain a.given b.given && equal_plain a.given c.given) (union (nullability_of a.given) (union_of b.given c.given)) u c.gave) p
      (mean-fits t slots row (between d lower upper options) u fb s e) sound
  mean-faultless t slots row (cast d target) u h s e path p q =
      let a = and_then-ok (typed_of t d) (cast_type target) u e in
      let own = or_parts (breaks t slots row (cast d target)) (list_any (asking_breaks t slots row) (asked t d [])) q in
      let x = HoldsNoFault-IsNoFault (mean t slots row d) (mean-faultless t slots row d a.given h s a.was [] refl own.1) in
      let sound = unbroken (not (is_fault (mean t slots row d))) (mean t slots row (cast d target)) by_cast own.0 (not-false (is_fault (mean t slots row d)) x) in
      let test = one_test (takes_cast a.given target) target u a.gave in
      let plain = subst (λ (z : Ty). is_plain z ≡ true) test.1 (takes_cast-plain a.given target test.0) in
      plain-path-HoldsNoFault path u (mean t slots row (cast d target)) plain p (mean-fits t slots row (cast d target) u (fits-but_for_faults row t h) s e) sound
  mean-faultless t slots row (list_contains l v) u h s e path p q =
      let parts = and_parts (slots_fit slots l) (slots_fit slots v) s in
      let a = and_then-ok (typed_of t l) (λ x. and_then (typed_of t v) (contains_type x)) u e in
      let b = and_then-ok (typed_of t v) (contains_type a.given) u a.gave in
      let more = quiet-parts t slots row (asked t l []) (asked t v []) q in
      let fb = fits-but_for_faults row t h in
      let x = HoldsNoFault-IsNoFault (mean t slots row l) (mean-faultless t slots row l a.given h parts.0 a.was [] refl more.0) in
      let y = HoldsNoFault-IsNoFault (mean t slots row v) (mean-faultless t slots row v b.given h parts.1 b.was [] refl more.1) in
      let sound = contains-sound (mean t slots row l) (mean t slots row v) a.given b.given u b.gave (mean-fits t slots row l a.given fb parts.0 a.was) x y in
      plain-path-HoldsNoFault path u (mean t slots row (list_contains l v)) sound.1 p (mean-fits t slots row (list_contains l v) u fb s e) sound.0
  mean-faultless t slots row (pack names es n) u h s e path p q =
      let a = and_then-ok (all_typed t es) (pack_type names n) u e in
      pack-faultless t slots row names es n a.given u a.gave (packed-faultless t slots row names es a.given h s a.was) path p q
  mean-faultless t slots row (merge es n) u h s e path p q =
      let a = and_then-ok (all_typed t es) (merge_type n) u e in
      merge-faultless t slots row es n a.given u e a.gave (sources-fit t slots row es a.given (fits-but_for_faults row t h) s a.was) (merged-faultless t slots row es a.given h s a.was) path p q
  mean-faultless t slots row (select c d) u h s e path p q =
      let a = and_then-ok (typed_of t d) (select_type c) u e in
      select-faultless t slots row c d a.given u e a.gave (mean-fits t slots row d a.given (fits-but_for_faults row t h) s a.was) (mean-faultless t slots row d a.given h s a.was) path p q
  mean-faultless t slots row (dynamic d op k slot default) u h s e path p q =
      let parts = and_parts (held_fits (slot_held slots k) slot) (slots_fit slots d) s in
      let a = and_then-ok (typed_of t d) (dynamic_type slot) u e in
      let fb = fits-but_for_faults row t h in
      let x = HoldsNoFault-IsNoFault (mean t slots row d) (mean-faultless t slots row d a.given h parts.1 a.was [] refl q) in
      let test = one_test (equal_plain a.given slot) (bool_ty (union_of a.given slot)) u a.gave in
      let sound = dynamic-IsNoFault op default (mean t slots row d) (slot_held slots k) slot a.given test.0 parts.0 (mean-fits t slots row d a.given fb parts.1 a.was) x in
      plain-path-HoldsNoFault path u (mean t slots row (dynamic d op k slot default)) (bool-plain (equal_plain a.given slot) (union_of a.given slot) u a.gave) p
      (mean-fits t slots row (dynamic d op k slot default) u fb s e) sound

  packed-faultless : (t : Ty) (slots : Slots) (row : Val) (names : List Bytes) (es : Trees) (us : List Ty) → val_fits row t ≡ true → all_slots_fit slots es ≡ true → all_typed t es ≡ Ok us
      → PackFaultless t slots row names es us
  packed-faultless t slots row names no_trees us h s e = subst (λ (z : List Ty). PackFaultless t slots row names no_trees z) (Ok-same (Ok us) [] us (sym e) refl) (pack-none t slots row names)
  packed-faultless t slots row [] (tree d ds) us h s e = pack-unnamed t slots row (tree d ds) us
  packed-faultless t slots row (g ∷ names) (tree d ds) us h s e =
      let parts = and_parts (slots_fit slots d) (all_slots_fit slots ds) s in
      let a = and_then-ok (typed_of t d) (λ x. and_then (all_typed t ds) (λ xs. Ok (x ∷ xs))) us e in
      let b = and_then-ok (all_typed t ds) (λ xs. Ok (a.given ∷ xs)) us a.gave in
      subst (λ (z : List Ty). PackFaultless t slots row (g ∷ names) (tree d ds) z) (Ok-same (Ok us) (a.given ∷ b.given) us (sym b.gave) refl)
      (pack-more t slots row g names d ds a.given b.given (mean-faultless t slots row d a.given h parts.0 a.was) (packed-faultless t slots row names ds b.given h parts.1 b.was))

  merged-faultless : (t : Ty) (slots : Slots) (row : Val) (es : Trees) (us : List Ty) → val_fits row t ≡ true → all_slots_fit slots es ≡ true → all_typed t es ≡ Ok us → GiversFaultless t slots row es us
  merged-faultless t slots row no_trees us h s e =
      subst (λ (z : List Ty). GiversFaultless t slots row no_trees z) (Ok-same (Ok us) [] us (sym e) refl) (λ f path w k p q. let no : ⊥ = cc in absurd no)
  merged-faultless t slots row (tree d ds) us h s e =
      let parts = and_parts (slots_fit slots d) (all_slots_fit slots ds) s in
      let a = and_then-ok (typed_of t d) (λ x. and_then (all_typed t ds) (λ xs. Ok (x ∷ xs))) us e in
      let b = and_then-ok (all_typed t ds) (λ xs. Ok (a.given ∷ xs)) us a.gave in
      subst (λ (z : List Ty). GiversFaultless t slots row (tree d ds) z) (Ok-same (Ok us) (a.given ∷ b.given) us (sym b.gave) refl)
      (givers-faultless t slots row d ds a.given b.given (ap (λ (r : Result Ty Refusal). names_in (type_or_empty r)) a.was) (sources-fit t slots row ds b.given (fits-but_for_faults row t h) parts.1 b.was) (mean-faultless t slots row d a.given h parts.0 a.was)
      (merged-faultless t slots row ds b.given h parts.1 b.was))

pub no_break_no_fault : NoBreakNoFault
no_break_no_fault t slots row e u h s k q =
    mean-faultless t slots row e u h s k [] refl (sym (some_asked-same t slots row (asked t e [])) ∙ q)
