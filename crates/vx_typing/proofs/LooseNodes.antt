-- The type of an expression by the looser rules, by what its children answer, and the refusal that it takes from one of them.
use Rattle.std.proofs.Common.{◌≡◌, ℕ, zero, suc, ◌+◌, add-one, ◌<◌, ◌≤◌, arith, List, [], ◌∷◌, ◌++◌, length, map, take, get_or, Result, Ok, Err, refl, ap, sym, ◌∙◌, subst}
use Rattle.std.proofs.lemmas.List.{take_all}
use Rattle.std.proofs.lemmas.Slice.Zip.{AllZip-long}
use Rattle.vx_dtype.specs.Types.{Bytes, Ty}
use Rattle.vx_dtype.specs.declared.Nullability.{Nullability}
use Rattle.vx_dtype.specs.TypeViews.{type_view}
use Rattle.vx_dtype.specs.declared.types.DType.{DType}
use Rattle.vx_expr.specs.Trees.{Tree, root, literal, get_item, binary, not_of, is_null_of, like, between, cast, list_contains, pack, merge, select, dynamic}
use Rattle.vx_expr.specs.Trees.{Trees, trees_of, listed}
use Rattle.vx_expr.proofs.TreeLemmas.{trees_of_listed}
use Rattle.vx_semantics.specs.Typing.{Refusal, and_then, item_type, not_type, merge_type}
use Rattle.vx_semantics.specs.LooseTyping.{loosely_typed, all_loosely_typed, loose_binary_type, loose_between_type, loose_pack_type, loose_select_type, loose_dynamic_type}
use Rattle.vx_typing.specs.declared.errors.TypeError.{TypeError}
use Rattle.vx_typing.specs.declared.errors.TypeError.TheVariants.{NoMemory, NotStruct, NullableSelect, UnknownField, DuplicateField, TypeMismatch}
use Rattle.vx_typing.specs.OperandTypes.{AreLooselyTyped, IsLooselyAnswered, AreLooselyAnswered, asked_operands}
use Rattle.vx_typing.specs.TypingAnswers.{Refuses}
use Rattle.vx_typing.proofs.NodeTypes.{one_refused, two_refused, three_refused}
use Rattle.vx_typing.proofs.TypeLists.{handed_on}

module _ (t : Ty) where
  all_of : (es : List Tree) (ds : List DType) → AreLooselyTyped t es ds → all_loosely_typed t (trees_of es) ≡ Ok (map type_view ds)
  unfolding loosely_typed
  all_of [] [] h = refl
  all_of [] (d ∷ ds) h = absurd h
  all_of (e ∷ es) [] h = absurd h
  all_of (e ∷ es) (d ∷ ds) h =
      ap (λ o. and_then o (λ a. and_then (all_loosely_typed t (trees_of es)) (λ ts. Ok (a ∷ ts)))) h.0 ∙ ap (λ o. and_then o (λ ts. Ok (type_view d ∷ ts))) (all_of es ds h.1)

  -- the types of structs of named values, and of merged structs
  pub loosely_packed : (names : List Bytes) (es : Trees) (n : Nullability) (ds : List DType) → AreLooselyTyped t (listed es) ds → loosely_typed t (pack names es n) ≡ loose_pack_type names n (map type_view ds)
  unfolding loosely_typed
  loosely_packed names es n ds h =
      ap (λ cs. and_then (all_loosely_typed t cs) (loose_pack_type names n)) (sym (trees_of_listed es)) ∙ ap (λ o. and_then o (loose_pack_type names n)) (all_of (listed es) ds h)

  pub loosely_merged : (es : Trees) (n : Nullability) (ds : List DType) → AreLooselyTyped t (listed es) ds → loosely_typed t (merge es n) ≡ merge_type n (map type_view ds)
  unfolding loosely_typed
  loosely_merged es n ds h = ap (λ cs. and_then (all_loosely_typed t cs) (merge_type n)) (sym (trees_of_listed es)) ∙ ap (λ o. and_then o (merge_type n)) (all_of (listed es) ds h)

  -- ---- the answers of operands

  -- the type of one more operand
  more : (es : List Tree) (rs : List (Result DType TypeError)) (i : ℕ) (d b : DType) (ds : List DType) (r : Result DType TypeError) → AreLooselyAnswered t es rs → i < length rs → Ok d ≡ get_or rs i r
      → type_view b ≡ type_view d → AreLooselyTyped t (take i es) ds → AreLooselyTyped t (take (suc i) es) (ds ++ b ∷ [])
  more [] [] i d b ds r h within is same typed = absurd (omega (arith, within))
  more [] (q ∷ rs) i d b ds r h within is same typed = absurd h
  more (e ∷ es) [] i d b ds r h within is same typed = absurd h
  more (e ∷ es) (q ∷ rs) zero d b [] r h within is same typed = (subst (IsLooselyAnswered t e) (sym is) h.0 ∙ ap Ok (sym same), tt)
  more (e ∷ es) (q ∷ rs) zero d b (a ∷ ds) r h within is same typed = absurd typed
  more (e ∷ es) (q ∷ rs) (suc i) d b [] r h within is same typed = absurd typed
  more (e ∷ es) (q ∷ rs) (suc i) d b (a ∷ ds) r h within is same typed = (typed.0, more es rs i d b ds r h.1 (omega (arith, within)) is same typed.1)

  pub one_typed : (es : List Tree) (rs : List (Result DType TypeError)) (i : ℕ) (d b : DType) (ds with_b : List DType) (r : Result DType TypeError) → AreLooselyAnswered t es rs → i < length rs → r ≡ get_or rs i r → r ≡ Ok d
      → type_view b ≡ type_view d → with_b ≡ ds ++ b ∷ [] → AreLooselyTyped t (take i es) ds → AreLooselyTyped t (take (i + 1) es) with_b
  one_typed es rs i d b ds with_b r h within is ok same are typed = rw (are, add-one) (more es rs i d b ds r h within (sym ok ∙ is) same typed)

  -- the refusal of one where those before are typed is that of all
  refused : (es : List Tree) (rs : List (Result DType TypeError)) (i : ℕ) (f : TypeError) (ds : List DType) (r : Result DType TypeError) → AreLooselyAnswered t es rs → i < length rs → Err f ≡ get_or rs i r
      → AreLooselyTyped t (take i es) ds → Refuses (all_loosely_typed t (trees_of es)) f
  unfolding loosely_typed
  refused [] [] i f ds r h within is typed = absurd (omega (arith, within))
  refused [] (q ∷ rs) i f ds r h within is typed = absurd h
  refused (e ∷ es) [] i f ds r h within is typed = absurd h
  refused (e ∷ es) (q ∷ rs) zero f ds r h within is typed =
      handed_on (loosely_typed t e) (λ a. and_then (all_loosely_typed t (trees_of es)) (λ ts. Ok (a ∷ ts))) f (subst (IsLooselyAnswered t e) (sym is) h.0)
  refused (e ∷ es) (q ∷ rs) (suc i) f [] r h within is typed = absurd typed
  refused (e ∷ es) (q ∷ rs) (suc i) f (b ∷ ds) r h within is typed =
      subst (λ o. Refuses (and_then o (λ a. and_then (all_loosely_typed t (trees_of es)) (λ ts. Ok (a ∷ ts)))) f) (sym typed.0)
      (handed_on (all_loosely_typed t (trees_of es)) (λ ts. Ok (type_view b ∷ ts)) f (refused es rs i f ds r h.1 (omega (arith, within)) is typed.1))

  pub one_refuses : (es : List Tree) (rs : List (Result DType TypeError)) (i : ℕ) (f : TypeError) (ds : List DType) (r : Result DType TypeError) → AreLooselyAnswered t es rs → i < length rs → r ≡ get_or rs i r → r ≡ Err f
      → AreLooselyTyped t (take i es) ds → Refuses (all_loosely_typed t (trees_of es)) f
  one_refuses es rs i f ds r h within is err typed = refused es rs i f ds r h within (sym err ∙ is) typed

  -- past the last all are typed
  pub all_answered : (es : List Tree) (rs : List (Result DType TypeError)) (i : ℕ) (ds : List DType) → AreLooselyAnswered t es rs → length rs ≤ i → AreLooselyTyped t (take i es) ds → AreLooselyTyped t es ds
  all_answered es rs i ds h past typed = subst (λ cs. AreLooselyTyped t cs ds) (take_all i es (omega (arith, AllZip-long (IsLooselyAnswered t) es rs h, past))) typed

  -- ---- a node's refusal

  refused_as : (e : Tree) (r : Refusal) → all_loosely_typed t (trees_of (asked_operands e)) ≡ Err r → loosely_typed t e ≡ Err r
  unfolding loosely_typed
  refused_as root r h = let no : ⊥ = cc in absurd no
  refused_as (literal s) r h = let no : ⊥ = cc in absurd no
  refused_as (get_item f e) r h = one_refused (loosely_typed t e) (item_type f) r h
  refused_as (binary l op q) r h = two_refused (loosely_typed t l) (loosely_typed t q) (loose_binary_type op) r h
  refused_as (not_of e) r h = one_refused (loosely_typed t e) not_type r h
  refused_as (is_null_of e) r h = let no : ⊥ = cc in absurd no
  refused_as (like e p negated fold_case) r h = two_refused (loosely_typed t e) (loosely_typed t p) _ r h
  refused_as (between e lower upper options) r h = three_refused (loosely_typed t e) (loosely_typed t lower) (loosely_typed t upper) loose_between_type r h
  refused_as (cast e target) r h = let no : ⊥ = cc in absurd no
  refused_as (list_contains l v) r h = two_refused (loosely_typed t l) (loosely_typed t v) _ r h
  refused_as (pack names es n) r h = ap (λ ds. and_then (all_loosely_typed t ds) (loose_pack_type names n)) (sym (trees_of_listed es)) ∙ ap (λ o. and_then o (loose_pack_type names n)) h
  refused_as (merge es n) r h = ap (λ ds. and_then (all_loosely_typed t ds) (merge_type n)) (sym (trees_of_listed es)) ∙ ap (λ o. and_then o (merge_type n)) h
  refused_as (select s e) r h = one_refused (loosely_typed t e) (loose_select_type s) r h
  refused_as (dynamic e op k slot default) r h = one_refused (loosely_typed t e) (loose_dynamic_type slot) r h

  -- the refusal of the operands that a node looks at is the node's
  pub loosely_refused : (f : TypeError) (e : Tree) → Refuses (all_loosely_typed t (trees_of (asked_operands e))) f → Refuses (loosely_typed t e) f
  loosely_refused NoMemory e h = tt
  loosely_refused NotStruct e h = refused_as e _ h
  loosely_refused NullableSelect e h = refused_as e _ h
  loosely_refused UnknownField e h = refused_as e _ h
  loosely_refused DuplicateField e h = refused_as e _ h
  loosely_refused TypeMismatch e h = refused_as e _ h
