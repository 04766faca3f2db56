-- The looser typing gives a strictly typed expression its strict type.
use Rattle.std.proofs.Common.{◌≡◌, refl, ap, sym, ◌∙◌, Bool, true, false, ◌&&◌, subst, List, ◌∷◌, Result, Ok}
use Rattle.std.specs.Prelude.{nat_eq, length}
use Rattle.std.proofs.lemmas.Bool.{and_parts, and_from}
use Rattle.vx_dtype.specs.declared.Nullability.{Nullability}
use Rattle.vx_dtype.specs.declared.Nullability.TheVariants.{NonNullable}
use Rattle.vx_dtype.specs.Types.{Bytes, Ty, bool_ty, list_ty, struct_ty, Fields}
use Rattle.vx_dtype.specs.TypeRules.{union, nullability_of, alike, is_plain, is_bool_ty, is_text_ty, distinct_names}
use Rattle.vx_dtype.specs.StructTypes.{all_known}
use Rattle.vx_dtype.specs.Zipped.{zipped}
use Rattle.vx_dtype.specs.Casts.{takes_cast}
use Rattle.vx_expr.specs.declared.Operator.{Operator}
use Rattle.vx_expr.specs.declared.FieldSelection.{FieldSelection}
use Rattle.vx_expr.specs.declared.FieldSelection.TheVariants.{Include, Exclude}
use Rattle.vx_expr.specs.Selections.{listed_names}
use Rattle.vx_expr.specs.Trees.{Tree, root, literal, get_item, binary, not_of, is_null_of, like, between, cast, list_contains, pack, merge, select, dynamic, Trees, no_trees, tree}
use Rattle.vx_semantics.specs.Typing.{Refusal, unknown_field, duplicate_field, type_mismatch, and_then, unless, item_type, selected_fields, select_type, pack_type, merge_type, union_of, equal_plain, binary_type, not_type, like_type, between_type, contains_type, cast_type, dynamic_type, typed_of, all_typed}
use Rattle.vx_semantics.specs.LooseTyping.{included_known, loose_select_type, loose_pack_type, loose_binary_type, loose_between_type, loose_dynamic_type, loosely_typed, all_loosely_typed}
use Rattle.vx_laws.proofs.Inverting.{and_then-ok, unless-ok}
use Rattle.vx_laws.proofs.Preserving.{distinct_type-ok, literal_type-ok, one_test}
use Rattle.vx_laws.proofs.Structs.{select_type-ok}
use Rattle.vx_laws_removing.specs.LooseTypes.{StrictTypesAreLoose}

plain-alike : (a b : Ty) → equal_plain a b ≡ true → alike a b ≡ true
plain-alike a b h = (and_parts (alike a b) (is_plain a) h).0

behind : (b : Bool) (r : Refusal) (x : Result Ty Refusal) (u : Ty) → b ≡ true → x ≡ Ok u → unless b r x ≡ Ok u
behind true r x u h e = e
behind false r x u h e = let no : ⊥ = cc in absurd no

loose-binary : (op : Operator) (a b u : Ty) → binary_type op a b ≡ Ok u → loose_binary_type op a b ≡ Ok u
loose-binary Operator.Add a b u h = h
loose-binary Operator.Sub a b u h = h
loose-binary Operator.And a b u h = ap (λ (z : Ty). Ok z) (one_test (is_bool_ty a && is_bool_ty b) (bool_ty (union_of a b)) u h).1
loose-binary Operator.Or a b u h = ap (λ (z : Ty). Ok z) (one_test (is_bool_ty a && is_bool_ty b) (bool_ty (union_of a b)) u h).1
loose-binary _ a b u h = ap (λ (z : Ty). Ok z) (one_test (equal_plain a b) (bool_ty (union_of a b)) u h).1

loose-between : (a b c u : Ty) → between_type a b c ≡ Ok u → loose_between_type a b c ≡ Ok u
loose-between a b c u h =
    let made = bool_ty (union (nullability_of a) (union_of b c)) in
    let k = one_test (equal_plain a b && equal_plain a c) made u h in
    let parts = and_parts (equal_plain a b) (equal_plain a c) k.0 in
    behind (alike a b && alike a c) type_mismatch (Ok made) u (and_from (alike a b) (alike a c) (plain-alike a b parts.0) (plain-alike a c parts.1)) (ap (λ (z : Ty). Ok z) k.1)

loose-contains : (a b u : Ty) → contains_type a b ≡ Ok u → ◌≡◌ {A = Result Ty Refusal} (Ok (bool_ty (union_of a b))) (Ok u)
loose-contains (list_ty e n) b u h = ap (λ (z : Ty). Ok z) (one_test (equal_plain e b) (bool_ty (union n (nullability_of b))) u h).1
loose-contains _ b u h = let no : ⊥ = cc in absurd no

loose-pack : (names : List Bytes) (n : Nullability) (ts : List Ty) (u : Ty) → pack_type names n ts ≡ Ok u → loose_pack_type names n ts ≡ Ok u
loose-pack names n ts u h = (unless-ok (distinct_names names) duplicate_field (unless (nat_eq (length names) (length ts)) type_mismatch (Ok (struct_ty (zipped names ts) n))) u h).gave

included : (s : FieldSelection) (fs : Fields) → all_known (listed_names s) fs ≡ true → included_known s fs ≡ true
included (Include names) fs h = h
included (Exclude names) fs h = refl

loose-select : (s : FieldSelection) (a u : Ty) → select_type s a ≡ Ok u → loose_select_type s a ≡ Ok u
loose-select s a u h =
    let k = select_type-ok s a u h in
    subst (λ (z : Ty). loose_select_type s z ≡ Ok u) (sym k.is)
    (behind (included_known s k.fields) unknown_field (Ok (struct_ty (selected_fields s k.fields) NonNullable)) u (included s k.fields k.known) (ap (λ (z : Ty). Ok z) (sym k.gives)))

loose-dynamic : (s a u : Ty) → dynamic_type s a ≡ Ok u → loose_dynamic_type s a ≡ Ok u
loose-dynamic s a u h =
    let k = one_test (equal_plain a s) (bool_ty (union_of a s)) u h in
    behind (alike a s) type_mismatch (Ok (bool_ty (union_of a s))) u (plain-alike a s k.0) (ap (λ (z : Ty). Ok z) k.1)

mutual
  unfolding typed_of loosely_typed

  pub loosened : (t : Ty) (e : Tree) (u : Ty) → typed_of t e ≡ Ok u → loosely_typed t e ≡ Ok u
  loosened t root u h = ap (λ (z : Ty). Ok z) (distinct_type-ok t u h)
  loosened t (literal s) u h = ap (λ (z : Ty). Ok z) (literal_type-ok s u h).same
  loosened t (get_item f d) u h =
      let a = and_then-ok (typed_of t d) (item_type f) u h in
      ap (λ (x : Result Ty Refusal). and_then x (item_type f)) (loosened t d a.given a.was) ∙ a.gave
  loosened t (binary l op r) u h =
      let a = and_then-ok (typed_of t l) (λ x. and_then (typed_of t r) (binary_type op x)) u h in
      let b = and_then-ok (typed_of t r) (binary_type op a.given) u a.gave in
      ap (λ (x : Result Ty Refusal). and_then x (λ y. and_then (loosely_typed t r) (loose_binary_type op y))) (loosened t l a.given a.was)
      ∙ (ap (λ (x : Result Ty Refusal). and_then x (loose_binary_type op a.given)) (loosened t r b.given b.was) ∙ loose-binary op a.given b.given u b.gave)
  loosened t (not_of d) u h =
      let a = and_then-ok (typed_of t d) not_type u h in
      ap (λ (x : Result Ty Refusal). and_then x not_type) (loosened t d a.given a.was) ∙ a.gave
  loosened t (is_null_of d) u h = (and_then-ok (typed_of t d) (λ x. Ok (bool_ty NonNullable)) u h).gave
  loosened t (like d p negated fold_case) u h =
      let a = and_then-ok (typed_of t d) (λ x. and_then (typed_of t p) (like_type x)) u h in
      let b = and_then-ok (typed_of t p) (like_type a.given) u a.gave in
      ap (λ (x : Result Ty Refusal). and_then x (λ y. and_then (loosely_typed t p) (λ z. Ok (bool_ty (union_of y z))))) (loosened t d a.given a.was)
      ∙ (ap (λ (x : Result Ty Refusal). and_then x (λ z. Ok (bool_ty (union_of a.given z)))) (loosened t p b.given b.was)
      ∙ ap (λ (z : Ty). Ok z) (one_test (is_text_ty a.given && is_text_ty b.given) (bool_ty (union_of a.given b.given)) u b.gave).1)
  loosened t (between d lower upper options) u h =
      let a = and_then-ok (typed_of t d) (λ x. and_then (typed_of t lower) (λ y. and_then (typed_of t upper) (between_type x y))) u h in
      let b = and_then-ok (typed_of t lower) (λ y. and_then (typed_of t upper) (between_type a.given y)) u a.gave in
      let c = and_then-ok (typed_of t upper) (between_type a.given b.given) u b.gave in
      ap (λ (x : Result Ty Refusal). and_then x (λ y. and_then (loosely_typed t lower) (λ z. and_then (loosely_typed t upper) (loose_between_type y z)))) (loosened t d a.given a.was)
      ∙ (ap (λ (x : Result Ty Refusal). and_then x (λ z. and_then (loosely_typed t upper) (loose_between_type a.given z))) (loosened t lower b.given b.was)
      ∙ (ap (λ (x : Result Ty Refusal). and_then x (loose_between_type a.given b.given)) (loosened t upper c.given c.was) ∙ loose-between a.given b.given c.given u c.gave))
  loosened t (cast d target) u h =
      let a = and_then-ok (typed_of t d) (cast_type target) u h in
      ap (λ (z : Ty). Ok z) (one_test (takes_cast a.given target) target u a.gave).1
  loosened t (list_contains l v) u h =
      let a = and_then-ok (typed_of t l) (λ x. and_then (typed_of t v) (contains_type x)) u h in
      let b = and_then-ok (typed_of t v) (contains_type a.given) u a.gave in
      ap (λ (x : Result Ty Refusal). and_then x (λ y. and_then (loosely_typed t v) (λ z. Ok (bool_ty (union_of y z))))) (loosened t l a.given a.was)
      ∙ (ap (λ (x : Result Ty Refusal). and_then x (λ z. Ok (bool_ty (union_of a.given z)))) (loosened t v b.given b.was) ∙ loose-contains a.given b.given u b.gave)
  loosened t (pack names es n) u h =
      let a = and_then-ok (all_typed t es) (pack_type names n) u h in
      ap (λ (x : Result (List Ty) Refusal). and_then x (loose_pack_type names n)) (all_loosened t es a.given a.was) ∙ loose-pack names n a.given u a.gave
  loosened t (merge es n) u h =
      let a = and_then-ok (all_typed t es) (merge_type n) u h in
      ap (λ (x : Result (List Ty) Refusal). and_then x (merge_type n)) (all_loosened t es a.given a.was) ∙ a.gave
  loosened t (select s d) u h =
      let a = and_then-ok (typed_of t d) (select_type s) u h in
      ap (λ (x : Result Ty Refusal). and_then x (loose_select_type s)) (loosened t d a.given a.was) ∙ loose-select s a.given u a.gave
  loosened t (dynamic d op k slot default) u h =
      let a = and_then-ok (typed_of t d) (dynamic_type slot) u h in
      ap (λ (x : Result Ty Refusal). and_then x (loose_dynamic_type slot)) (loosened t d a.given a.was) ∙ loose-dynamic slot a.given u a.gave

  all_loosened : (t : Ty) (es : Trees) (us : List Ty) → all_typed t es ≡ Ok us → all_loosely_typed t es ≡ Ok us
  all_loosened t no_trees us h = h
  all_loosened t (tree d ds) us h =
      let a = and_then-ok (typed_of t d) (λ x. and_then (all_typed t ds) (λ xs. Ok (x ∷ xs))) us h in
      let b = and_then-ok (all_typed t ds) (λ xs. Ok (a.given ∷ xs)) us a.gave in
      ap (λ (x : Result Ty Refusal). and_then x (λ y. and_then (all_loosely_typed t ds) (λ ys. Ok (y ∷ ys)))) (loosened t d a.given a.was)
      ∙ (ap (λ (x : Result (List Ty) Refusal). and_then x (λ ys. Ok (a.given ∷ ys))) (all_loosened t ds b.given b.was) ∙ b.gave)

pub strict_types_are_loose : StrictTypesAreLoose
strict_types_are_loose t e u h = loosened t e u h
