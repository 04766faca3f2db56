-- The type of an expression by the types of its children, and the refusal that it takes from one of them.
use Rattle.std.proofs.Common.{◌≡◌, List, [], ◌∷◌, ◌++◌, map, Result, Ok, Err, refl, ap, sym, ◌∙◌}
use Rattle.vx_dtype.specs.Types.{Bytes, Ty}
use Rattle.vx_dtype.specs.declared.Nullability.{Nullability}
use Rattle.vx_dtype.specs.TypeViews.{type_view}
use Rattle.vx_dtype.specs.declared.types.DType.{DType}
use Rattle.vx_expr.specs.Trees.{Tree, root, literal, get_item, binary, not_of, is_null_of, like, between, cast, list_contains, pack, merge, select, dynamic}
use Rattle.vx_expr.specs.Trees.{Trees, trees_of, listed, children_of}
use Rattle.vx_expr.proofs.TreeLemmas.{trees_of_listed}
use Rattle.vx_expr.proofs.PostOrderLemmas.{Every}
use Rattle.vx_semantics.specs.Typing.{Refusal, and_then, item_type, binary_type, not_type, like_type, between_type, contains_type, cast_type, pack_type, merge_type, select_type, dynamic_type, typed_of, all_typed}
use Rattle.vx_typing.specs.declared.errors.TypeError.{TypeError}
use Rattle.vx_typing.specs.declared.errors.TypeError.TheVariants.{NoMemory, NotStruct, NullableSelect, UnknownField, DuplicateField, TypeMismatch}
use Rattle.vx_typing.specs.OperandTypes.{AreTyped}
use Rattle.vx_typing.specs.TypingAnswers.{Refuses}

-- ---- one, two and three answers in turn, of which one is a refusal

pub one_refused : {X : Type 0} (o : Result Ty Refusal) (rule : Ty → Result X Refusal) (r : Refusal) → and_then o (λ a. Ok (a ∷ [])) ≡ Err r → and_then o rule ≡ Err r
one_refused (Ok a) rule r h = let no : ⊥ = cc in absurd no
one_refused (Err q) rule r h = let same : q ≡ r = cc in ap Err same

pub two_refused : (o p : Result Ty Refusal) (rule : Ty → Ty → Result Ty Refusal) (r : Refusal)
    → and_then o (λ a. and_then (and_then p (λ b. Ok (b ∷ []))) (λ ts. Ok (a ∷ ts))) ≡ Err r → and_then o (λ a. and_then p (rule a)) ≡ Err r
two_refused (Ok a) (Ok b) rule r h = let no : ⊥ = cc in absurd no
two_refused (Ok a) (Err q) rule r h = let same : q ≡ r = cc in ap Err same
two_refused (Err q) p rule r h = let same : q ≡ r = cc in ap Err same

pub three_refused : (o p q : Result Ty Refusal) (rule : Ty → Ty → Ty → Result Ty Refusal) (r : Refusal)
    → and_then o (λ a. and_then (and_then p (λ b. and_then (and_then q (λ c. Ok (c ∷ []))) (λ ts. Ok (b ∷ ts)))) (λ ts. Ok (a ∷ ts))) ≡ Err r
    → and_then o (λ a. and_then p (λ b. and_then q (rule a b))) ≡ Err r
three_refused (Ok a) (Ok b) (Ok c) rule r h = let no : ⊥ = cc in absurd no
three_refused (Ok a) (Ok b) (Err s) rule r h = let same : s ≡ r = cc in ap Err same
three_refused (Ok a) (Err s) q rule r h = let same : s ≡ r = cc in ap Err same
three_refused (Err s) p q rule r h = let same : s ≡ r = cc in ap Err same

module _ (t : Ty) where
  -- the types of children that are typed one by one
  all_of : (es : List Tree) (ds : List DType) → AreTyped t es ds → all_typed t (trees_of es) ≡ Ok (map type_view ds)
  unfolding typed_of
  all_of [] [] h = refl
  all_of [] (d ∷ ds) h = absurd h
  all_of (e ∷ es) [] h = absurd h
  all_of (e ∷ es) (d ∷ ds) h =
      ap (λ o. and_then o (λ a. and_then (all_typed t (trees_of es)) (λ ts. Ok (a ∷ ts)))) h.0 ∙ ap (λ o. and_then o (λ ts. Ok (type_view d ∷ ts))) (all_of es ds h.1)

  -- so the types of structs of named values, and of merged structs
  pub packed : (names : List Bytes) (es : Trees) (n : Nullability) (ds : List DType) → AreTyped t (listed es) ds → typed_of t (pack names es n) ≡ pack_type names n (map type_view ds)
  unfolding typed_of
  packed names es n ds h = ap (λ cs. and_then (all_typed t cs) (pack_type names n)) (sym (trees_of_listed es)) ∙ ap (λ o. and_then o (pack_type names n)) (all_of (listed es) ds h)

  pub merged : (es : Trees) (n : Nullability) (ds : List DType) → AreTyped t (listed es) ds → typed_of t (merge es n) ≡ merge_type n (map type_view ds)
  unfolding typed_of
  merged es n ds h = ap (λ cs. and_then (all_typed t cs) (merge_type n)) (sym (trees_of_listed es)) ∙ ap (λ o. and_then o (merge_type n)) (all_of (listed es) ds h)

  -- a node is refused as its children are
  refused_below : (e : Tree) (r : Refusal) → all_typed t (trees_of (children_of e)) ≡ Err r → typed_of t e ≡ Err r
  unfolding typed_of
  refused_below root r h = let no : ⊥ = cc in absurd no
  refused_below (literal s) r h = let no : ⊥ = cc in absurd no
  refused_below (get_item f e) r h = one_refused (typed_of t e) (item_type f) r h
  refused_below (binary l op q) r h = two_refused (typed_of t l) (typed_of t q) (binary_type op) r h
  refused_below (not_of e) r h = one_refused (typed_of t e) not_type r h
  refused_below (is_null_of e) r h = one_refused (typed_of t e) _ r h
  refused_below (like e p negated fold_case) r h = two_refused (typed_of t e) (typed_of t p) like_type r h
  refused_below (between e lower upper options) r h = three_refused (typed_of t e) (typed_of t lower) (typed_of t upper) between_type r h
  refused_below (cast e target) r h = one_refused (typed_of t e) (cast_type target) r h
  refused_below (list_contains l v) r h = two_refused (typed_of t l) (typed_of t v) contains_type r h
  refused_below (pack names es n) r h = ap (λ ds. and_then (all_typed t ds) (pack_type names n)) (sym (trees_of_listed es)) ∙ ap (λ o. and_then o (pack_type names n)) h
  refused_below (merge es n) r h = ap (λ ds. and_then (all_typed t ds) (merge_type n)) (sym (trees_of_listed es)) ∙ ap (λ o. and_then o (merge_type n)) h
  refused_below (select s e) r h = one_refused (typed_of t e) (select_type s) r h
  refused_below (dynamic e op k slot default) r h = one_refused (typed_of t e) (dynamic_type slot) r h

  -- the expression has a type
  abbrev pub HasType : Tree → Type 0
  HasType e = (a : Ty) × (typed_of t e ≡ Ok a)

  first_refused : (before : List Tree) (c : Tree) (after : List Tree) (r : Refusal) → Every HasType before → typed_of t c ≡ Err r → all_typed t (trees_of (before ++ c ∷ after)) ≡ Err r
  unfolding typed_of
  first_refused [] c after r typed h = ap (λ o. and_then o (λ a. and_then (all_typed t (trees_of after)) (λ ts. Ok (a ∷ ts)))) h
  first_refused (b ∷ before) c after r typed h =
      ap (λ o. and_then o (λ a. and_then (all_typed t (trees_of (before ++ c ∷ after))) (λ ts. Ok (a ∷ ts)))) typed.0.1
      ∙ ap (λ o. and_then o (λ ts. Ok (typed.0.0 ∷ ts))) (first_refused before c after r typed.1 h)

  refused_as : (e : Tree) (before : List Tree) (c : Tree) (after : List Tree) (r : Refusal) → children_of e ≡ before ++ c ∷ after → Every HasType before → typed_of t c ≡ Err r → typed_of t e ≡ Err r
  refused_as e before c after r are typed h = refused_below e r (ap (λ es. all_typed t (trees_of es)) are ∙ first_refused before c after r typed h)

  -- the refusal of the first child that has none is the node's
  pub refused_by : (f : TypeError) (e : Tree) (before : List Tree) (c : Tree) (after : List Tree) → children_of e ≡ before ++ c ∷ after → Every HasType before → Refuses (typed_of t c) f → Refuses (typed_of t e) f
  refused_by NoMemory e before c after are typed h = tt
  refused_by NotStruct e before c after are typed h = refused_as e before c after _ are typed h
  refused_by NullableSelect e before c after are typed h = refused_as e before c after _ are typed h
  refused_by UnknownField e before c after are typed h = refused_as e before c after _ are typed h
  refused_by DuplicateField e before c after are typed h = refused_as e before c after _ are typed h
  refused_by TypeMismatch e before c after are typed h = refused_as e before c after _ are typed h
