-- Replacing by an expression of a type equal but for nullability keeps types but for nullability; where it means the same, the whole does.
use Rattle.std.proofs.Common.{◌≡◌, refl, ap, sym, ◌∙◌, Bool, true, false, cond, ◌&&◌, subst, List, [], ◌∷◌, Result, Ok}
use Rattle.std.specs.Str.{bytes_eq}
use Rattle.std.proofs.lemmas.Bool.{and_parts, and_from}
use Rattle.vx_dtype.specs.declared.Nullability.{Nullability}
use Rattle.vx_dtype.specs.declared.Nullability.TheVariants.{NonNullable}
use Rattle.vx_dtype.specs.declared.PType.{PType}
use Rattle.vx_dtype.specs.Types.{Bytes, Ty, bool_ty, int_ty, text_ty, list_ty, struct_ty, Fields, no_fields, field}
use Rattle.vx_dtype.specs.TypeRules.{is_nullable, nullability_of, alike, alike_fields}
use Rattle.vx_dtype.specs.Values.{Val, struct_val}
use Rattle.vx_dtype.specs.Logic.{not3, is_null3}
use Rattle.vx_dtype.specs.Order.{between3}
use Rattle.vx_dtype.specs.Like.{like3}
use Rattle.vx_dtype.specs.Casts.{cast3}
use Rattle.vx_dtype.specs.Lists.{contains3}
use Rattle.vx_dtype.specs.Structs.{field_of}
use Rattle.vx_expr.specs.declared.FieldSelection.{FieldSelection}
use Rattle.vx_expr.specs.Equal.{tree_eq}
use Rattle.vx_expr.specs.EqualLaws.{tree_eq-same}
use Rattle.vx_expr.specs.Trees.{Tree, root, literal, get_item, binary, not_of, is_null_of, like, between, cast, list_contains, pack, merge, select, dynamic, Trees, no_trees, tree}
use Rattle.vx_semantics.specs.Typing.{Refusal, and_then, item_type, select_type, pack_type, merge_type, binary_type, not_type, like_type, between_type, contains_type, cast_type, dynamic_type, typed_of, all_typed, names_in, type_or_empty, given_names}
use Rattle.vx_semantics.specs.Meaning.{Slots, Source, binary3, dynamic3, select3, slot_value, merged, zip_members, mean, meanings, sources}
use Rattle.vx_passes.specs.Replacing.{changed_by, all_changed_by, replaced_where_equal}
use Rattle.vx_laws.proofs.Inverting.{and_then-ok, Ok-same, bytes_same, bytes_eq-itself}
use Rattle.vx_laws.proofs.Comparing.{same_ptype-same}
use Rattle.vx_laws.proofs.Fitting.{same_ptype-itself}
use Rattle.vx_laws.proofs.Structs.{select_type-ok}
use Rattle.vx_laws_simplifying.specs.Replaced.{MayReplace, ReplacingKeepsType, ReplacingKeepsMeaning}
use Rattle.vx_laws_simplifying.proofs.Under.{Nulling, Under, bools, ints, texts, lists, structs, UnderFields, no_more, one_more, UnderList, ended, further, Ranked, under-own, names_in-under, item-under, binary-under, not-under, like-under, between-under, cast-under, contains-under, dynamic-under, select-under, pack-under, merge-under}

-- any two nullabilities
abbrev pub any_null : Nullability → Nullability → Bool
any_null n m = true

any_nulling : Nulling any_null
any_nulling = record { own = λ n. refl; unions = λ a b c d h k. refl }

abbrev pub Same : Ty → Ty → Type 0
Same a b = Under any_null a b

mutual
  same-then : (a b c : Ty) → Same a b → Same b c → Same a c
  same-then _ _ _ (bools n m h) (bools _ l g) = bools n l refl
  same-then _ _ _ (ints p n m h) (ints _ _ l g) = ints p n l refl
  same-then _ _ _ (texts n m h) (texts _ l g) = texts n l refl
  same-then _ _ _ (lists e d n m x h) (lists _ f _ l y g) = lists e f n l (same-then e d f x y) refl
  same-then _ _ _ (structs fs gs n m x h) (structs _ is _ l y g) = structs fs is n l (same-fields-then fs gs is x y) refl

  same-fields-then : (fs gs is : Fields) → UnderFields any_null fs gs → UnderFields any_null gs is → UnderFields any_null fs is
  same-fields-then _ _ _ no_more no_more = no_more
  same-fields-then _ _ _ (one_more f t u fs gs x y) (one_more _ _ w _ is z v) = one_more f t w fs is (same-then t u w x z) (same-fields-then fs gs is y v)

mutual
  unfolding alike

  alike-same : (a b : Ty) → alike a b ≡ true → Same a b
  alike-same (bool_ty n) (bool_ty m) h = bools n m refl
  alike-same (int_ty p n) (int_ty q m) h = subst (λ (z : PType). Same (int_ty p n) (int_ty z m)) (same_ptype-same p q h) (ints p n m refl)
  alike-same (text_ty n) (text_ty m) h = texts n m refl
  alike-same (list_ty e n) (list_ty d m) h = lists e d n m (alike-same e d h) refl
  alike-same (struct_ty fs n) (struct_ty gs m) h = structs fs gs n m (alike-fields fs gs h) refl
  alike-same _ _ h = let no : ⊥ = cc in absurd no

  alike-fields : (fs gs : Fields) → alike_fields fs gs ≡ true → UnderFields any_null fs gs
  alike-fields no_fields no_fields h = no_more
  alike-fields (field f t fs) (field g u gs) h =
      let p = and_parts (bytes_eq f g) (alike t u && alike_fields fs gs) h in
      let m = and_parts (alike t u) (alike_fields fs gs) p.1 in
      subst (λ (z : Bytes). UnderFields any_null (field f t fs) (field z u gs)) (bytes_same f g p.0) (one_more f t u fs gs (alike-same t u m.0) (alike-fields fs gs m.1))
  alike-fields _ _ h = let no : ⊥ = cc in absurd no

mutual
  unfolding alike

  same-alike : (a b : Ty) → Same a b → alike a b ≡ true
  same-alike _ _ (bools n m h) = refl
  same-alike _ _ (ints p n m h) = same_ptype-itself p
  same-alike _ _ (texts n m h) = refl
  same-alike _ _ (lists e d n m x h) = same-alike e d x
  same-alike _ _ (structs fs gs n m x h) = same-fields fs gs x

  same-fields : (fs gs : Fields) → UnderFields any_null fs gs → alike_fields fs gs ≡ true
  same-fields _ _ no_more = refl
  same-fields _ _ (one_more f t u fs gs x y) =
      and_from (bytes_eq f f) (alike t u && alike_fields fs gs) (bytes_eq-itself f) (and_from (alike t u) (alike_fields fs gs) (same-alike t u x) (same-fields fs gs y))

-- an answer under a type, where it is known
ranked-same : (r : Result Ty Refusal) (u w : Ty) → Ranked any_null r u → r ≡ Ok w → Same w u
ranked-same r u w k h = subst (λ (z : Ty). Same z u) (Ok-same r k.ty w k.is h) k.under

module _ (t : Ty) (change : Tree → Tree) where
  -- a node has a type too where it has one changed, equal but for nullability
  pub record Back (n : Tree) (v : Ty) : Type 0 where
    pub ty : Ty
    pub typed : typed_of t n ≡ Ok ty
    pub same : Same v ty

  abbrev pub GoesBack : Type 0
  GoesBack = (n : Tree) (v : Ty) → typed_of t (change n) ≡ Ok v → Back n v

  -- the type of a changed node, from that of the node over changed children
  same-back : (n : Tree) (v u : Ty) (b : Back n v) → Same b.ty u → Same v u
  same-back n v u b x = same-then v b.ty u b.same x

  one-same : (n : Tree) (d e : Tree) (rule : Ty → Result Ty Refusal) (u v : Ty) → ((a c w : Ty) → Same a c → rule c ≡ Ok w → Ranked any_null (rule a) w)
      → (b : Back n v) → and_then (typed_of t d) rule ≡ Ok b.ty → and_then (typed_of t e) rule ≡ Ok u
      → ((x y : Ty) → typed_of t e ≡ Ok x → typed_of t d ≡ Ok y → Same y x) → Same v u
  one-same n d e rule u v under b h i r =
      let x = and_then-ok (typed_of t e) rule u i in
      let y = and_then-ok (typed_of t d) rule b.ty h in
      same-back n v u b (ranked-same (rule y.given) u b.ty (under y.given x.given u (r x.given y.given x.was y.was) x.gave) y.gave)

  two-same : (n : Tree) (d e k l : Tree) (rule : Ty → Ty → Result Ty Refusal) (u v : Ty)
      → ((a c f g w : Ty) → Same a c → Same f g → rule c g ≡ Ok w → Ranked any_null (rule a f) w)
      → (b : Back n v) → and_then (typed_of t d) (λ x. and_then (typed_of t k) (rule x)) ≡ Ok b.ty → and_then (typed_of t e) (λ x. and_then (typed_of t l) (rule x)) ≡ Ok u
      → ((x y : Ty) → typed_of t e ≡ Ok x → typed_of t d ≡ Ok y → Same y x) → ((x y : Ty) → typed_of t l ≡ Ok x → typed_of t k ≡ Ok y → Same y x) → Same v u
  two-same n d e k l rule u v under b h i r s =
      let x = and_then-ok (typed_of t e) (λ z. and_then (typed_of t l) (rule z)) u i in
      let y = and_then-ok (typed_of t d) (λ z. and_then (typed_of t k) (rule z)) b.ty h in
      let p = and_then-ok (typed_of t l) (rule x.given) u x.gave in
      let q = and_then-ok (typed_of t k) (rule y.given) b.ty y.gave in
      same-back n v u b (ranked-same (rule y.given q.given) u b.ty (under y.given x.given q.given p.given u (r x.given y.given x.was y.was) (s p.given q.given p.was q.was) p.gave) q.gave)

  select-same : (s : FieldSelection) (a c u w : Ty) → Same a c → select_type s c ≡ Ok u → select_type s a ≡ Ok w → Same w u
  select-same s a c u w x h i =
      let k = select_type-ok s c u h in
      let l = select_type-ok s a w i in
      ranked-same (select_type s a) u w (select-under any_null any_nulling s a c u x (ap (λ (z : Ty). is_nullable (nullability_of z)) l.is ∙ sym (ap (λ (z : Ty). is_nullable (nullability_of z)) k.is)) h) i

  mutual
    unfolding changed_by typed_of

    pub changed-same : GoesBack → (e : Tree) (u v : Ty) → typed_of t e ≡ Ok u → typed_of t (changed_by change e) ≡ Ok v → Same v u
    changed-same k root u v h i =
        let b = k root v i in
        same-back root v u b (subst (Same b.ty) (Ok-same (typed_of t root) b.ty u b.typed h) (under-own any_null any_nulling b.ty))
    changed-same k (literal c) u v h i =
        let b = k (literal c) v i in
        same-back (literal c) v u b (subst (Same b.ty) (Ok-same (typed_of t (literal c)) b.ty u b.typed h) (under-own any_null any_nulling b.ty))
    changed-same k (get_item f d) u v h i =
        let n = get_item f (changed_by change d) in
        let b = k n v i in
        one-same n (changed_by change d) d (item_type f) u v (item-under any_null any_nulling f) b b.typed h (λ x y p q. changed-same k d x y p q)
    changed-same k (binary l op r) u v h i =
        let n = binary (changed_by change l) op (changed_by change r) in
        let b = k n v i in
        two-same n (changed_by change l) l (changed_by change r) r (binary_type op) u v (binary-under any_null any_nulling op) b b.typed h
        (λ x y p q. changed-same k l x y p q) (λ x y p q. changed-same k r x y p q)
    changed-same k (not_of d) u v h i =
        let n = not_of (changed_by change d) in
        let b = k n v i in
        one-same n (changed_by change d) d not_type u v (not-under any_null any_nulling) b b.typed h (λ x y p q. changed-same k d x y p q)
    changed-same k (is_null_of d) u v h i =
        let n = is_null_of (changed_by change d) in
        let b = k n v i in
        let x = and_then-ok (typed_of t d) (λ z. Ok (bool_ty NonNullable)) u h in
        let y = and_then-ok (typed_of t (changed_by change d)) (λ z. Ok (bool_ty NonNullable)) b.ty b.typed in
        same-back n v u b (subst (Same b.ty) (Ok-same (Ok (bool_ty NonNullable)) b.ty u y.gave x.gave) (under-own any_null any_nulling b.ty))
    changed-same k (like d p negated fold_case) u v h i =
        let n = like (changed_by change d) (changed_by change p) negated fold_case in
        let b = k n v i in
        two-same n (changed_by change d) d (changed_by change p) p like_type u v (like-under any_null any_nulling) b b.typed h
        (λ x y w q. changed-same k d x y w q) (λ x y w q. changed-same k p x y w q)
    changed-same k (between d lower upper options) u v h i =
        let n = between (changed_by change d) (changed_by change lower) (changed_by change upper) options in
        let b = k n v i in
        let x = and_then-ok (typed_of t d) (λ a. and_then (typed_of t lower) (λ c. and_then (typed_of t upper) (between_type a c))) u h in
        let y = and_then-ok (typed_of t lower) (λ c. and_then (typed_of t upper) (between_type x.given c)) u x.gave in
        let z = and_then-ok (typed_of t upper) (between_type x.given y.given) u y.gave in
        let o = and_then-ok (typed_of t (changed_by change d)) (λ a. and_then (typed_of t (changed_by change lower)) (λ c. and_then (typed_of t (changed_by change upper)) (between_type a c))) b.ty b.typed in
        let p = and_then-ok (typed_of t (changed_by change lower)) (λ c. and_then (typed_of t (changed_by change upper)) (between_type o.given c)) b.ty o.gave in
        let q = and_then-ok (typed_of t (changed_by change upper)) (between_type o.given p.given) b.ty p.gave in
        same-back n v u b (ranked-same (between_type o.given p.given q.given) u b.ty
        (between-under any_null any_nulling o.given x.given p.given y.given q.given z.given u (changed-same k d x.given o.given x.was o.was) (changed-same k lower y.given p.given y.was p.was)
        (changed-same k upper z.given q.given z.was q.was) z.gave) q.gave)
    changed-same k (cast d target) u v h i =
        let n = cast (changed_by change d) target in
        let b = k n v i in
        one-same n (changed_by change d) d (cast_type target) u v (cast-under any_null any_nulling target) b b.typed h (λ x y p q. changed-same k d x y p q)
    changed-same k (list_contains l r) u v h i =
        let n = list_contains (changed_by change l) (changed_by change r) in
        let b = k n v i in
        two-same n (changed_by change l) l (changed_by change r) r contains_type u v (contains-under any_null any_nulling) b b.typed h
        (λ x y p q. changed-same k l x y p q) (λ x y p q. changed-same k r x y p q)
    changed-same k (pack names es m) u v h i =
        let n = pack names (all_changed_by change es) m in
        let b = k n v i in
        let x = and_then-ok (all_typed t es) (pack_type names m) u h in
        let y = and_then-ok (all_typed t (all_changed_by change es)) (pack_type names m) b.ty b.typed in
        same-back n v u b (ranked-same (pack_type names m y.given) u b.ty (pack-under any_null any_nulling names m y.given x.given u (all_changed-same k es x.given y.given x.was y.was) x.gave) y.gave)
    changed-same k (merge es m) u v h i =
        let n = merge (all_changed_by change es) m in
        let b = k n v i in
        let x = and_then-ok (all_typed t es) (merge_type m) u h in
        let y = and_then-ok (all_typed t (all_changed_by change es)) (merge_type m) b.ty b.typed in
        same-back n v u b (ranked-same (merge_type m y.given) u b.ty (merge-under any_null any_nulling m y.given x.given u (all_changed-same k es x.given y.given x.was y.was) x.gave) y.gave)
    changed-same k (select s d) u v h i =
        let n = select s (changed_by change d) in
        let b = k n v i in
        let x = and_then-ok (typed_of t d) (select_type s) u h in
        let y = and_then-ok (typed_of t (changed_by change d)) (select_type s) b.ty b.typed in
        same-back n v u b (select-same s y.given x.given u b.ty (changed-same k d x.given y.given x.was y.was) x.gave y.gave)
    changed-same k (dynamic d op j slot default) u v h i =
        let n = dynamic (changed_by change d) op j slot default in
        let b = k n v i in
        one-same n (changed_by change d) d (dynamic_type slot) u v (dynamic-under any_null any_nulling slot) b b.typed h (λ x y p q. changed-same k d x y p q)

    all_changed-same : GoesBack → (es : Trees) (us vs : List Ty) → all_typed t es ≡ Ok us → all_typed t (all_changed_by change es) ≡ Ok vs → UnderList any_null vs us
    all_changed-same k no_trees us vs h i =
        subst (λ (z : List Ty). UnderList any_null z us) (Ok-same (Ok []) [] vs refl i) (subst (UnderList any_null []) (Ok-same (Ok []) [] us refl h) ended)
    all_changed-same k (tree d ds) us vs h i =
        let x = and_then-ok (typed_of t d) (λ a. and_then (all_typed t ds) (λ ts. Ok (a ∷ ts))) us h in
        let y = and_then-ok (all_typed t ds) (λ ts. Ok (x.given ∷ ts)) us x.gave in
        let o = and_then-ok (typed_of t (changed_by change d)) (λ a. and_then (all_typed t (all_changed_by change ds)) (λ ts. Ok (a ∷ ts))) vs i in
        let p = and_then-ok (all_typed t (all_changed_by change ds)) (λ ts. Ok (o.given ∷ ts)) vs o.gave in
        subst (λ (z : List Ty). UnderList any_null z us) (Ok-same (Ok vs) (o.given ∷ p.given) vs (sym p.gave) refl)
        (subst (UnderList any_null (o.given ∷ p.given)) (Ok-same (Ok us) (x.given ∷ y.given) us (sym y.gave) refl)
        (further o.given x.given p.given y.given (changed-same k d x.given o.given x.was o.was) (all_changed-same k ds y.given p.given y.was p.was)))

  module _ (slots : Slots) (row : Val) where
    -- whatever the node, its change means the same
    abbrev pub MeansSame : Type 0
    MeansSame = (n : Tree) → mean t slots row (change n) ≡ mean t slots row n

    mutual
      unfolding changed_by typed_of mean

      pub changed-means : GoesBack → MeansSame → (e : Tree) (u v : Ty) → typed_of t e ≡ Ok u → typed_of t (changed_by change e) ≡ Ok v → mean t slots row (changed_by change e) ≡ mean t slots row e
      changed-means k m root u v h i = m root
      changed-means k m (literal c) u v h i = m (literal c)
      changed-means k m (get_item f d) u v h i =
          let n = get_item f (changed_by change d) in
          let b = k n v i in
          let x = and_then-ok (typed_of t d) (item_type f) u h in
          let y = and_then-ok (typed_of t (changed_by change d)) (item_type f) b.ty b.typed in
          m n ∙ ap (field_of f) (changed-means k m d x.given y.given x.was y.was)
      changed-means k m (binary l op r) u v h i =
          let n = binary (changed_by change l) op (changed_by change r) in
          let b = k n v i in
          let x = and_then-ok (typed_of t l) (λ a. and_then (typed_of t r) (binary_type op a)) u h in
          let y = and_then-ok (typed_of t (changed_by change l)) (λ a. and_then (typed_of t (changed_by change r)) (binary_type op a)) b.ty b.typed in
          let p = and_then-ok (typed_of t r) (binary_type op x.given) u x.gave in
          let q = and_then-ok (typed_of t (changed_by change r)) (binary_type op y.given) b.ty y.gave in
          m n ∙ (ap (λ (z : Val). binary3 op z (mean t slots row (changed_by change r))) (changed-means k m l x.given y.given x.was y.was)
          ∙ ap (binary3 op (mean t slots row l)) (changed-means k m r p.given q.given p.was q.was))
      changed-means k m (not_of d) u v h i =
          let n = not_of (changed_by change d) in
          let b = k n v i in
          let x = and_then-ok (typed_of t d) not_type u h in
          let y = and_then-ok (typed_of t (changed_by change d)) not_type b.ty b.typed in
          m n ∙ ap not3 (changed-means k m d x.given y.given x.was y.was)
      changed-means k m (is_null_of d) u v h i =
          let n = is_null_of (changed_by change d) in
          let b = k n v i in
          let x = and_then-ok (typed_of t d) (λ z. Ok (bool_ty NonNullable)) u h in
          let y = and_then-ok (typed_of t (changed_by change d)) (λ z. Ok (bool_ty NonNullable)) b.ty b.typed in
          m n ∙ ap is_null3 (changed-means k m d x.given y.given x.was y.was)
      changed-means k m (like l r negated fold_case) u v h i =
          let n = like (changed_by change l) (changed_by change r) negated fold_case in
          let b = k n v i in
          let x = and_then-ok (typed_of t l) (λ a. and_then (typed_of t r) (like_type a)) u h in
          let y = and_then-ok (typed_of t (changed_by change l)) (λ a. and_then (typed_of t (changed_by change r)) (like_type a)) b.ty b.typed in
          let p = and_then-ok (typed_of t r) (like_type x.given) u x.gave in
          let q = and_then-ok (typed_of t (changed_by change r)) (like_type y.given) b.ty y.gave in
          m n ∙ (ap (λ (z : Val). like3 negated fold_case z (mean t slots row (changed_by change r))) (changed-means k m l x.given y.given x.was y.was)
          ∙ ap (like3 negated fold_case (mean t slots row l)) (changed-means k m r p.given q.given p.was q.was))
      changed-means k m (between d l r options) u v h i =
          let n = between (changed_by change d) (changed_by change l) (changed_by change r) options in
          let b = k n v i in
          let x = and_then-ok (typed_of t d) (λ a. and_then (typed_of t l) (λ c. and_then (typed_of t r) (between_type a c))) u h in
          let y = and_then-ok (typed_of t l) (λ c. and_then (typed_of t r) (between_type x.given c)) u x.gave in
          let z = and_then-ok (typed_of t r) (between_type x.given y.given) u y.gave in
          let o = and_then-ok (typed_of t (changed_by change d)) (λ a. and_then (typed_of t (changed_by change l)) (λ c. and_then (typed_of t (changed_by change r)) (between_type a c))) b.ty b.typed in
          let p = and_then-ok (typed_of t (changed_by change l)) (λ c. and_then (typed_of t (changed_by change r)) (between_type o.given c)) b.ty o.gave in
          let q = and_then-ok (typed_of t (changed_by change r)) (between_type o.given p.given) b.ty p.gave in
          m n ∙ (ap (λ (w : Val). between3 options w (mean t slots row (changed_by change l)) (mean t slots row (changed_by change r))) (changed-means k m d x.given o.given x.was o.was)
          ∙ (ap (λ (w : Val). between3 options (mean t slots row d) w (mean t slots row (changed_by change r))) (changed-means k m l y.given p.given y.was p.was)
          ∙ ap (between3 options (mean t slots row d) (mean t slots row l)) (changed-means k m r z.given q.given z.was q.was)))
      changed-means k m (cast d target) u v h i =
          let n = cast (changed_by change d) target in
          let b = k n v i in
          let x = and_then-ok (typed_of t d) (cast_type target) u h in
          let y = and_then-ok (typed_of t (changed_by change d)) (cast_type target) b.ty b.typed in
          m n ∙ ap (cast3 target) (changed-means k m d x.given y.given x.was y.was)
      changed-means k m (list_contains l r) u v h i =
          let n = list_contains (changed_by change l) (changed_by change r) in
          let b = k n v i in
          let x = and_then-ok (typed_of t l) (λ a. and_then (typed_of t r) (contains_type a)) u h in
          let y = and_then-ok (typed_of t (changed_by change l)) (λ a. and_then (typed_of t (changed_by change r)) (contains_type a)) b.ty b.typed in
          let p = and_then-ok (typed_of t r) (contains_type x.given) u x.gave in
          let q = and_then-ok (typed_of t (changed_by change r)) (contains_type y.given) b.ty y.gave in
          m n ∙ (ap (λ (z : Val). contains3 z (mean t slots row (changed_by change r))) (changed-means k m l x.given y.given x.was y.was)
          ∙ ap (contains3 (mean t slots row l)) (changed-means k m r p.given q.given p.was q.was))
      changed-means k m (pack names es nn) u v h i =
          let n = pack names (all_changed_by change es) nn in
          let b = k n v i in
          let x = and_then-ok (all_typed t es) (pack_type names nn) u h in
          let y = and_then-ok (all_typed t (all_changed_by change es)) (pack_type names nn) b.ty b.typed in
          m n ∙ ap (λ (ws : List Val). struct_val (zip_members names ws)) (all_changed-means k m es x.given y.given x.was y.was)
      changed-means k m (merge es nn) u v h i =
          let n = merge (all_changed_by change es) nn in
          let b = k n v i in
          let x = and_then-ok (all_typed t es) (merge_type nn) u h in
          let y = and_then-ok (all_typed t (all_changed_by change es)) (merge_type nn) b.ty b.typed in
          m n ∙ ap merged (sources-changed-means k m es x.given y.given x.was y.was)
      changed-means k m (select s d) u v h i =
          let n = select s (changed_by change d) in
          let b = k n v i in
          let x = and_then-ok (typed_of t d) (select_type s) u h in
          let y = and_then-ok (typed_of t (changed_by change d)) (select_type s) b.ty b.typed in
          m n ∙ ap (select3 s) (changed-means k m d x.given y.given x.was y.was)
      changed-means k m (dynamic d op j slot default) u v h i =
          let n = dynamic (changed_by change d) op j slot default in
          let b = k n v i in
          let x = and_then-ok (typed_of t d) (dynamic_type slot) u h in
          let y = and_then-ok (typed_of t (changed_by change d)) (dynamic_type slot) b.ty b.typed in
          m n ∙ ap (λ (z : Val). dynamic3 op default z (slot_value slots j)) (changed-means k m d x.given y.given x.was y.was)

      all_changed-means : GoesBack → MeansSame → (es : Trees) (us vs : List Ty) → all_typed t es ≡ Ok us → all_typed t (all_changed_by change es) ≡ Ok vs
          → meanings t slots row (all_changed_by change es) ≡ meanings t slots row es
      all_changed-means k m no_trees us vs h i = refl
      all_changed-means k m (tree d ds) us vs h i =
          let x = and_then-ok (typed_of t d) (λ a. and_then (all_typed t ds) (λ ts. Ok (a ∷ ts))) us h in
          let y = and_then-ok (all_typed t ds) (λ ts. Ok (x.given ∷ ts)) us x.gave in
          let o = and_then-ok (typed_of t (changed_by change d)) (λ a. and_then (all_typed t (all_changed_by change ds)) (λ ts. Ok (a ∷ ts))) vs i in
          let p = and_then-ok (all_typed t (all_changed_by change ds)) (λ ts. Ok (o.given ∷ ts)) vs o.gave in
          ap (λ (z : Val). z ∷ meanings t slots row (all_changed_by change ds)) (changed-means k m d x.given o.given x.was o.was)
          ∙ ap (λ (zs : List Val). mean t slots row d ∷ zs) (all_changed-means k m ds y.given p.given y.was p.was)

      sources-changed-means : GoesBack → MeansSame → (es : Trees) (us vs : List Ty) → all_typed t es ≡ Ok us → all_typed t (all_changed_by change es) ≡ Ok vs
          → sources t slots row (all_changed_by change es) ≡ sources t slots row es
      sources-changed-means k m no_trees us vs h i = refl
      sources-changed-means k m (tree d ds) us vs h i =
          let x = and_then-ok (typed_of t d) (λ a. and_then (all_typed t ds) (λ ts. Ok (a ∷ ts))) us h in
          let y = and_then-ok (all_typed t ds) (λ ts. Ok (x.given ∷ ts)) us x.gave in
          let o = and_then-ok (typed_of t (changed_by change d)) (λ a. and_then (all_typed t (all_changed_by change ds)) (λ ts. Ok (a ∷ ts))) vs i in
          let p = and_then-ok (all_typed t (all_changed_by change ds)) (λ ts. Ok (o.given ∷ ts)) vs o.gave in
          let names : given_names t (changed_by change d) ≡ given_names t d =
          ap (λ (r : Result Ty Refusal). names_in (type_or_empty r)) o.was
          ∙ (names_in-under any_null any_nulling o.given x.given (changed-same k d x.given o.given x.was o.was) ∙ sym (ap (λ (r : Result Ty Refusal). names_in (type_or_empty r)) x.was)) in
          let here : Source = record { names = given_names t d; whole = mean t slots row d } in
          ap (λ (ns : List Bytes). record { names = ns; whole = mean t slots row (changed_by change d) } ∷ sources t slots row (all_changed_by change ds)) names
          ∙ (ap (λ (z : Val). record { names = given_names t d; whole = z } ∷ sources t slots row (all_changed_by change ds)) (changed-means k m d x.given o.given x.was o.was)
          ∙ ap (λ (ss : List Source). here ∷ ss) (sources-changed-means k m ds y.given p.given y.was p.was))

replaced-back : (t : Ty) (needle replacement : Tree) → MayReplace t needle replacement → GoesBack t (replaced_where_equal needle replacement)
replaced-back t needle replacement r n v h = by-test (tree_eq n needle) refl h
  where
    by-test : (b : Bool) → tree_eq n needle ≡ b → typed_of t (cond b replacement n) ≡ Ok v → Back t (replaced_where_equal needle replacement) n v
    by-test true e i =
        let same : r.replacement_type ≡ v = Ok-same (typed_of t replacement) r.replacement_type v r.replacement_typed i in
        record {
          ty = r.needle_type;
          typed = ap (typed_of t) (tree_eq-same n needle e) ∙ r.needle_typed;
          same = subst (λ (z : Ty). Same z r.needle_type) same (alike-same r.replacement_type r.needle_type r.alike_types);
        }
    by-test false e i = record { ty = v; typed = i; same = under-own any_null any_nulling v }

replaced-mean : (t : Ty) (slots : Slots) (row : Val) (needle replacement : Tree) → mean t slots row replacement ≡ mean t slots row needle → MeansSame t (replaced_where_equal needle replacement) slots row
replaced-mean t slots row needle replacement h n = by-test (tree_eq n needle) refl
  where
    by-test : (b : Bool) → tree_eq n needle ≡ b → mean t slots row (cond b replacement n) ≡ mean t slots row n
    by-test true e = h ∙ ap (mean t slots row) (sym (tree_eq-same n needle e))
    by-test false e = refl

pub replacing_typed : ReplacingKeepsType
replacing_typed t needle replacement e u v r h i = same-alike v u (changed-same t (replaced_where_equal needle replacement) (replaced-back t needle replacement r) e u v h i)

pub replacing_means : ReplacingKeepsMeaning
replacing_means t slots row needle replacement e u v r m h i =
    changed-means t (replaced_where_equal needle replacement) slots row (replaced-back t needle replacement r) (replaced-mean t slots row needle replacement m) e u v h i
