-- A change of nodes that keeps types and meanings keeps them in the whole.
use Rattle.std.proofs.Common.{◌≡◌, refl, ap, ◌∙◌, List, ◌∷◌, Result, Ok}
use Rattle.vx_dtype.specs.declared.Nullability.TheVariants.{NonNullable}
use Rattle.vx_dtype.specs.Types.{Ty, bool_ty}
use Rattle.vx_dtype.specs.Values.{Val, struct_val}
use Rattle.vx_dtype.specs.Structs.{field_of}
use Rattle.vx_dtype.specs.Logic.{not3, is_null3}
use Rattle.vx_dtype.specs.Order.{between3}
use Rattle.vx_dtype.specs.Like.{like3}
use Rattle.vx_dtype.specs.Casts.{cast3}
use Rattle.vx_dtype.specs.Lists.{contains3}
use Rattle.vx_expr.specs.Trees.{Tree, root, literal, get_item, binary, not_of, is_null_of, like, between, cast, list_contains, pack, merge, select, dynamic, Trees, no_trees, tree}
use Rattle.vx_semantics.specs.Typing.{Refusal, and_then, item_type, select_type, pack_type, merge_type, binary_type, not_type, like_type, between_type, contains_type, cast_type, dynamic_type, typed_of, all_typed, names_in, type_or_empty, given_names}
use Rattle.vx_semantics.specs.Meaning.{Slots, Source, binary3, dynamic3, select3, slot_value, merged, zip_members, mean, meanings, sources}
use Rattle.vx_passes.specs.Replacing.{changed_by, all_changed_by}

mutual
  unfolding changed_by typed_of

  pub typed_of-changed : (t : Ty) (change : Tree → Tree) → ((n : Tree) → typed_of t (change n) ≡ typed_of t n) → (e : Tree) → typed_of t (changed_by change e) ≡ typed_of t e
  typed_of-changed t change k root = k root
  typed_of-changed t change k (literal s) = k (literal s)
  typed_of-changed t change k (get_item f d) = k (get_item f (changed_by change d)) ∙ ap (λ (x : Result Ty Refusal). and_then x (item_type f)) (typed_of-changed t change k d)
  typed_of-changed t change k (binary l op r) =
      k (binary (changed_by change l) op (changed_by change r))
      ∙ (ap (λ (x : Result Ty Refusal). and_then x (λ a. and_then (typed_of t (changed_by change r)) (binary_type op a))) (typed_of-changed t change k l)
      ∙ ap (λ (y : Result Ty Refusal). and_then (typed_of t l) (λ a. and_then y (binary_type op a))) (typed_of-changed t change k r))
  typed_of-changed t change k (not_of d) = k (not_of (changed_by change d)) ∙ ap (λ (x : Result Ty Refusal). and_then x not_type) (typed_of-changed t change k d)
  typed_of-changed t change k (is_null_of d) =
      k (is_null_of (changed_by change d)) ∙ ap (λ (x : Result Ty Refusal). and_then x (λ a. Ok (bool_ty NonNullable))) (typed_of-changed t change k d)
  typed_of-changed t change k (like d p negated fold_case) =
      k (like (changed_by change d) (changed_by change p) negated fold_case)
      ∙ (ap (λ (x : Result Ty Refusal). and_then x (λ a. and_then (typed_of t (changed_by change p)) (like_type a))) (typed_of-changed t change k d)
      ∙ ap (λ (y : Result Ty Refusal). and_then (typed_of t d) (λ a. and_then y (like_type a))) (typed_of-changed t change k p))
  typed_of-changed t change k (between d lower upper options) =
      k (between (changed_by change d) (changed_by change lower) (changed_by change upper) options)
      ∙ (ap (λ (x : Result Ty Refusal). and_then x (λ a. and_then (typed_of t (changed_by change lower)) (λ b. and_then (typed_of t (changed_by change upper)) (between_type a b)))) (typed_of-changed t change k d)
      ∙ (ap (λ (y : Result Ty Refusal). and_then (typed_of t d) (λ a. and_then y (λ b. and_then (typed_of t (changed_by change upper)) (between_type a b)))) (typed_of-changed t change k lower)
      ∙ ap (λ (z : Result Ty Refusal). and_then (typed_of t d) (λ a. and_then (typed_of t lower) (λ b. and_then z (between_type a b)))) (typed_of-changed t change k upper)))
  typed_of-changed t change k (cast d target) = k (cast (changed_by change d) target) ∙ ap (λ (x : Result Ty Refusal). and_then x (cast_type target)) (typed_of-changed t change k d)
  typed_of-changed t change k (list_contains l v) =
      k (list_contains (changed_by change l) (changed_by change v))
      ∙ (ap (λ (x : Result Ty Refusal). and_then x (λ a. and_then (typed_of t (changed_by change v)) (contains_type a))) (typed_of-changed t change k l)
      ∙ ap (λ (y : Result Ty Refusal). and_then (typed_of t l) (λ a. and_then y (contains_type a))) (typed_of-changed t change k v))
  typed_of-changed t change k (pack names es n) =
      k (pack names (all_changed_by change es) n) ∙ ap (λ (x : Result (List Ty) Refusal). and_then x (pack_type names n)) (all_typed-changed t change k es)
  typed_of-changed t change k (merge es n) = k (merge (all_changed_by change es) n) ∙ ap (λ (x : Result (List Ty) Refusal). and_then x (merge_type n)) (all_typed-changed t change k es)
  typed_of-changed t change k (select s d) = k (select s (changed_by change d)) ∙ ap (λ (x : Result Ty Refusal). and_then x (select_type s)) (typed_of-changed t change k d)
  typed_of-changed t change k (dynamic d op i slot default) =
      k (dynamic (changed_by change d) op i slot default) ∙ ap (λ (x : Result Ty Refusal). and_then x (dynamic_type slot)) (typed_of-changed t change k d)

  pub all_typed-changed : (t : Ty) (change : Tree → Tree) → ((n : Tree) → typed_of t (change n) ≡ typed_of t n) → (es : Trees) → all_typed t (all_changed_by change es) ≡ all_typed t es
  all_typed-changed t change k no_trees = refl
  all_typed-changed t change k (tree d ds) =
      ap (λ (x : Result Ty Refusal). and_then x (λ a. and_then (all_typed t (all_changed_by change ds)) (λ ts. Ok (a ∷ ts)))) (typed_of-changed t change k d)
      ∙ ap (λ (y : Result (List Ty) Refusal). and_then (typed_of t d) (λ a. and_then y (λ ts. Ok (a ∷ ts)))) (all_typed-changed t change k ds)

-- a change that keeps the type and the meaning of each node
pub record KeepsNodes (t : Ty) (slots : Slots) (row : Val) (change : Tree → Tree) : Type 0 where
  pub types : (n : Tree) → typed_of t (change n) ≡ typed_of t n
  pub meanings : (n : Tree) → mean t slots row (change n) ≡ mean t slots row n

mutual
  unfolding changed_by mean

  pub mean-changed : (t : Ty) (slots : Slots) (row : Val) (change : Tree → Tree) → KeepsNodes t slots row change → (e : Tree) → mean t slots row (changed_by change e) ≡ mean t slots row e
  mean-changed t slots row change k root = k.meanings root
  mean-changed t slots row change k (literal s) = k.meanings (literal s)
  mean-changed t slots row change k (get_item f d) = k.meanings (get_item f (changed_by change d)) ∙ ap (field_of f) (mean-changed t slots row change k d)
  mean-changed t slots row change k (binary l op r) =
      k.meanings (binary (changed_by change l) op (changed_by change r))
      ∙ (ap (λ (v : Val). binary3 op v (mean t slots row (changed_by change r))) (mean-changed t slots row change k l) ∙ ap (binary3 op (mean t slots row l)) (mean-changed t slots row change k r))
  mean-changed t slots row change k (not_of d) = k.meanings (not_of (changed_by change d)) ∙ ap not3 (mean-changed t slots row change k d)
  mean-changed t slots row change k (is_null_of d) = k.meanings (is_null_of (changed_by change d)) ∙ ap is_null3 (mean-changed t slots row change k d)
  mean-changed t slots row change k (like d p negated fold_case) =
      k.meanings (like (changed_by change d) (changed_by change p) negated fold_case)
      ∙ (ap (λ (v : Val). like3 negated fold_case v (mean t slots row (changed_by change p))) (mean-changed t slots row change k d)
      ∙ ap (like3 negated fold_case (mean t slots row d)) (mean-changed t slots row change k p))
  mean-changed t slots row change k (between d lower upper options) =
      k.meanings (between (changed_by change d) (changed_by change lower) (changed_by change upper) options)
      ∙ (ap (λ (v : Val). between3 options v (mean t slots row (changed_by change lower)) (mean t slots row (changed_by change upper))) (mean-changed t slots row change k d)
      ∙ (ap (λ (v : Val). between3 options (mean t slots row d) v (mean t slots row (changed_by change upper))) (mean-changed t slots row change k lower)
      ∙ ap (between3 options (mean t slots row d) (mean t slots row lower)) (mean-changed t slots row change k upper)))
  mean-changed t slots row change k (cast d target) = k.meanings (cast (changed_by change d) target) ∙ ap (cast3 target) (mean-changed t slots row change k d)
  mean-changed t slots row change k (list_contains l v) =
      k.meanings (list_contains (changed_by change l) (changed_by change v))
      ∙ (ap (λ (x : Val). contains3 x (mean t slots row (changed_by change v))) (mean-changed t slots row change k l) ∙ ap (contains3 (mean t slots row l)) (mean-changed t slots row change k v))
  mean-changed t slots row change k (pack names es n) =
      k.meanings (pack names (all_changed_by change es) n) ∙ ap (λ (vs : List Val). struct_val (zip_members names vs)) (meanings-changed t slots row change k es)
  mean-changed t slots row change k (merge es n) = k.meanings (merge (all_changed_by change es) n) ∙ ap merged (sources-changed t slots row change k es)
  mean-changed t slots row change k (select s d) = k.meanings (select s (changed_by change d)) ∙ ap (select3 s) (mean-changed t slots row change k d)
  mean-changed t slots row change k (dynamic d op i slot default) =
      k.meanings (dynamic (changed_by change d) op i slot default) ∙ ap (λ (v : Val). dynamic3 op default v (slot_value slots i)) (mean-changed t slots row change k d)

  pub meanings-changed : (t : Ty) (slots : Slots) (row : Val) (change : Tree → Tree) → KeepsNodes t slots row change → (es : Trees) → meanings t slots row (all_changed_by change es) ≡ meanings t slots row es
  meanings-changed t slots row change k no_trees = refl
  meanings-changed t slots row change k (tree d ds) =
      ap (λ (v : Val). v ∷ meanings t slots row (all_changed_by change ds)) (mean-changed t slots row change k d)
      ∙ ap (λ (vs : List Val). mean t slots row d ∷ vs) (meanings-changed t slots row change k ds)

  pub sources-changed : (t : Ty) (slots : Slots) (row : Val) (change : Tree → Tree) → KeepsNodes t slots row change → (es : Trees) → sources t slots row (all_changed_by change es) ≡ sources t slots row es
  sources-changed t slots row change k no_trees = refl
  sources-changed t slots row change k (tree d ds) =
      let here : Source = record { names = given_names t d; whole = mean t slots row d } in
      ap (λ (r : Result Ty Refusal). record { names = names_in (type_or_empty r); whole = mean t slots row (changed_by change d) } ∷ sources t slots row (all_changed_by change ds)) (typed_of-changed t change k.types d)
      ∙ (ap (λ (v : Val). record { names = given_names t d; whole = v } ∷ sources t slots row (all_changed_by change ds)) (mean-changed t slots row change k d)
      ∙ ap (λ (ss : List Source). here ∷ ss) (sources-changed t slots row change k ds))
