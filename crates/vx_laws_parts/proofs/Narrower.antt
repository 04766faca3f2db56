-- Over a scope whose type is perhaps less nullable, an expression keeps its type, but perhaps less nullable, and means the same.
use Rattle.std.proofs.Common.{◌≡◌, refl, ap, sym, ◌∙◌, true, subst, List, [], ◌∷◌, Result, Ok}
use Rattle.vx_dtype.specs.declared.Nullability.{Nullability}
use Rattle.vx_dtype.specs.declared.Nullability.TheVariants.{NonNullable}
use Rattle.vx_dtype.specs.Types.{Bytes, Ty, bool_ty}
use Rattle.vx_dtype.specs.TypeRules.{is_nullable, nullability_of, no_name_twice}
use Rattle.vx_dtype.specs.Values.{Val, struct_val}
use Rattle.vx_dtype.specs.Logic.{not3, is_null3}
use Rattle.vx_dtype.specs.Order.{between3}
use Rattle.vx_dtype.specs.Like.{like3}
use Rattle.vx_dtype.specs.Casts.{cast3}
use Rattle.vx_dtype.specs.Lists.{contains3}
use Rattle.vx_dtype.specs.Structs.{field_of}
use Rattle.vx_expr.specs.declared.FieldSelection.{FieldSelection}
use Rattle.vx_expr.specs.Trees.{Tree, root, literal, get_item, binary, not_of, is_null_of, like, between, cast, list_contains, pack, merge, select, dynamic, Trees, no_trees, tree}
use Rattle.vx_semantics.specs.Typing.{Refusal, duplicate_field, and_then, item_type, select_type, pack_type, merge_type, binary_type, not_type, like_type, between_type, contains_type, cast_type, dynamic_type, typed_of, all_typed, names_in, type_or_empty, given_names}
use Rattle.vx_semantics.specs.Meaning.{Slots, Source, binary3, dynamic3, select3, slot_value, merged, zip_members, mean, meanings, sources}
use Rattle.vx_laws.proofs.Inverting.{and_then-ok, unless-ok, Ok-same}
use Rattle.vx_laws.proofs.Structs.{select_type-ok}
use Rattle.vx_laws_simplifying.specs.Narrowing.{no_more_nullable}
use Rattle.vx_laws_simplifying.proofs.Narrows.{narrowing, Narrow, not_nullable}
use Rattle.vx_laws_simplifying.proofs.Under.{Ranked, UnderList, ended, further, null-under, under-own, names_in-under, item-under, binary-under, not-under, like-under, between-under, cast-under, contains-under, dynamic-under, select-under, pack-under, merge-under}

select-narrow : (s : FieldSelection) (a b w : Ty) → Narrow a b → select_type s b ≡ Ok w → Ranked no_more_nullable (select_type s a) w
select-narrow s a b w x h =
    let k = select_type-ok s b w h in
    let whole : nullability_of b ≡ NonNullable = ap nullability_of k.is in
    let n : nullability_of a ≡ NonNullable =
    not_nullable (nullability_of a) (subst (λ (z : Nullability). no_more_nullable (nullability_of a) z ≡ true) whole (null-under no_more_nullable narrowing a b x)) in
    select-under no_more_nullable narrowing s a b w x (ap is_nullable (n ∙ sym whole)) h

module _ (u v : Ty) (slots : Slots) (made : Val) where
  pub record Narrower (d : Tree) (w : Ty) : Type 0 where
    pub ty : Ty
    pub typed : typed_of v d ≡ Ok ty
    pub narrow : Narrow ty w
    pub means : mean v slots made d ≡ mean u slots made d

  pub record AllNarrower (ds : Trees) (ws : List Ty) : Type 0 where
    pub tys : List Ty
    pub typed : all_typed v ds ≡ Ok tys
    pub narrow : UnderList no_more_nullable tys ws
    pub mean_same : meanings v slots made ds ≡ meanings u slots made ds
    pub same_sources : sources v slots made ds ≡ sources u slots made ds

  ranked : (n : Tree) (w : Ty) (r : Result Ty Refusal) → typed_of v n ≡ r → Ranked no_more_nullable r w → mean v slots made n ≡ mean u slots made n → Narrower n w
  ranked n w r h k m = record { ty = k.ty; typed = h ∙ k.is; narrow = k.under; means = m }

  one-ranked : (n d : Tree) (c w : Ty) (rule : Ty → Result Ty Refusal) (x : Narrower d c) → typed_of v n ≡ and_then (typed_of v d) rule
      → Ranked no_more_nullable (rule x.ty) w → mean v slots made n ≡ mean u slots made n → Narrower n w
  one-ranked n d c w rule x h k m = ranked n w (rule x.ty) (h ∙ ap (λ (r : Result Ty Refusal). and_then r rule) x.typed) k m

  two-ranked : (n d e : Tree) (c f w : Ty) (rule : Ty → Ty → Result Ty Refusal) (x : Narrower d c) (y : Narrower e f)
      → typed_of v n ≡ and_then (typed_of v d) (λ a. and_then (typed_of v e) (rule a))
      → Ranked no_more_nullable (rule x.ty y.ty) w → mean v slots made n ≡ mean u slots made n → Narrower n w
  two-ranked n d e c f w rule x y h k m =
      ranked n w (rule x.ty y.ty)
      (h ∙ (ap (λ (r : Result Ty Refusal). and_then r (λ a. and_then (typed_of v e) (rule a))) x.typed ∙ ap (λ (r : Result Ty Refusal). and_then r (rule x.ty)) y.typed)) k m

  two-mean : (d e : Tree) (c f : Ty) (rule : Val → Val → Val) → Narrower d c → Narrower e f
      → rule (mean v slots made d) (mean v slots made e) ≡ rule (mean u slots made d) (mean u slots made e)
  two-mean d e c f rule x y = ap (λ (z : Val). rule z (mean v slots made e)) x.means ∙ ap (rule (mean u slots made d)) y.means

  mutual
    unfolding typed_of mean

    pub narrower : typed_of v root ≡ Ok v → Narrow v u → (d : Tree) (w : Ty) → typed_of u d ≡ Ok w → Narrower d w
    narrower o p root w h =
        let k = unless-ok (no_name_twice u) duplicate_field (Ok u) w h in
        record { ty = v; typed = o; narrow = subst (Narrow v) (Ok-same (Ok u) u w refl k.gave) p; means = refl }
    narrower o p (literal s) w h = record { ty = w; typed = h; narrow = under-own no_more_nullable narrowing w; means = refl }
    narrower o p (get_item f d) w h =
        let a = and_then-ok (typed_of u d) (item_type f) w h in
        let x = narrower o p d a.given a.was in
        one-ranked (get_item f d) d a.given w (item_type f) x refl (item-under no_more_nullable narrowing f x.ty a.given w x.narrow a.gave) (ap (field_of f) x.means)
    narrower o p (binary l op r) w h =
        let a = and_then-ok (typed_of u l) (λ c. and_then (typed_of u r) (binary_type op c)) w h in
        let b = and_then-ok (typed_of u r) (binary_type op a.given) w a.gave in
        let x = narrower o p l a.given a.was in
        let y = narrower o p r b.given b.was in
        two-ranked (binary l op r) l r a.given b.given w (binary_type op) x y refl
        (binary-under no_more_nullable narrowing op x.ty a.given y.ty b.given w x.narrow y.narrow b.gave) (two-mean l r a.given b.given (binary3 op) x y)
    narrower o p (not_of d) w h =
        let a = and_then-ok (typed_of u d) not_type w h in
        let x = narrower o p d a.given a.was in
        one-ranked (not_of d) d a.given w not_type x refl (not-under no_more_nullable narrowing x.ty a.given w x.narrow a.gave) (ap not3 x.means)
    narrower o p (is_null_of d) w h =
        let a = and_then-ok (typed_of u d) (λ c. Ok (bool_ty NonNullable)) w h in
        let x = narrower o p d a.given a.was in
        let own = under-own no_more_nullable narrowing w in
        one-ranked (is_null_of d) d a.given w (λ c. Ok (bool_ty NonNullable)) x refl (record { ty = w; is = a.gave; under = own }) (ap is_null3 x.means)
    narrower o p (like l r negated fold_case) w h =
        let a = and_then-ok (typed_of u l) (λ c. and_then (typed_of u r) (like_type c)) w h in
        let b = and_then-ok (typed_of u r) (like_type a.given) w a.gave in
        let x = narrower o p l a.given a.was in
        let y = narrower o p r b.given b.was in
        two-ranked (like l r negated fold_case) l r a.given b.given w like_type x y refl
        (like-under no_more_nullable narrowing x.ty a.given y.ty b.given w x.narrow y.narrow b.gave) (two-mean l r a.given b.given (like3 negated fold_case) x y)
    narrower o p (between d l r options) w h =
        let a = and_then-ok (typed_of u d) (λ e. and_then (typed_of u l) (λ c. and_then (typed_of u r) (between_type e c))) w h in
        let b = and_then-ok (typed_of u l) (λ c. and_then (typed_of u r) (between_type a.given c)) w a.gave in
        let c = and_then-ok (typed_of u r) (between_type a.given b.given) w b.gave in
        let x = narrower o p d a.given a.was in
        let y = narrower o p l b.given b.was in
        let z = narrower o p r c.given c.was in
        ranked (between d l r options) w (between_type x.ty y.ty z.ty)
        (ap (λ (q : Result Ty Refusal). and_then q (λ e. and_then (typed_of v l) (λ f. and_then (typed_of v r) (between_type e f)))) x.typed
        ∙ (ap (λ (q : Result Ty Refusal). and_then q (λ f. and_then (typed_of v r) (between_type x.ty f))) y.typed
        ∙ ap (λ (q : Result Ty Refusal). and_then q (between_type x.ty y.ty)) z.typed))
        (between-under no_more_nullable narrowing x.ty a.given y.ty b.given z.ty c.given w x.narrow y.narrow z.narrow c.gave)
        (ap (λ (q : Val). between3 options q (mean v slots made l) (mean v slots made r)) x.means
        ∙ (ap (λ (q : Val). between3 options (mean u slots made d) q (mean v slots made r)) y.means
        ∙ ap (between3 options (mean u slots made d) (mean u slots made l)) z.means))
    narrower o p (cast d target) w h =
        let a = and_then-ok (typed_of u d) (cast_type target) w h in
        let x = narrower o p d a.given a.was in
        one-ranked (cast d target) d a.given w (cast_type target) x refl (cast-under no_more_nullable narrowing target x.ty a.given w x.narrow a.gave) (ap (cast3 target) x.means)
    narrower o p (list_contains l r) w h =
        let a = and_then-ok (typed_of u l) (λ c. and_then (typed_of u r) (contains_type c)) w h in
        let b = and_then-ok (typed_of u r) (contains_type a.given) w a.gave in
        let x = narrower o p l a.given a.was in
        let y = narrower o p r b.given b.was in
        two-ranked (list_contains l r) l r a.given b.given w contains_type x y refl
        (contains-under no_more_nullable narrowing x.ty a.given y.ty b.given w x.narrow y.narrow b.gave) (two-mean l r a.given b.given contains3 x y)
    narrower o p (pack names es n) w h =
        let a = and_then-ok (all_typed u es) (pack_type names n) w h in
        let x = all_narrower o p es a.given a.was in
        ranked (pack names es n) w (pack_type names n x.tys) (ap (λ (q : Result (List Ty) Refusal). and_then q (pack_type names n)) x.typed)
        (pack-under no_more_nullable narrowing names n x.tys a.given w x.narrow a.gave) (ap (λ (vs : List Val). struct_val (zip_members names vs)) x.mean_same)
    narrower o p (merge es n) w h =
        let a = and_then-ok (all_typed u es) (merge_type n) w h in
        let x = all_narrower o p es a.given a.was in
        ranked (merge es n) w (merge_type n x.tys) (ap (λ (q : Result (List Ty) Refusal). and_then q (merge_type n)) x.typed)
        (merge-under no_more_nullable narrowing n x.tys a.given w x.narrow a.gave) (ap merged x.same_sources)
    narrower o p (select s d) w h =
        let a = and_then-ok (typed_of u d) (select_type s) w h in
        let x = narrower o p d a.given a.was in
        one-ranked (select s d) d a.given w (select_type s) x refl (select-narrow s x.ty a.given w x.narrow a.gave) (ap (select3 s) x.means)
    narrower o p (dynamic d op j slot default) w h =
        let a = and_then-ok (typed_of u d) (dynamic_type slot) w h in
        let x = narrower o p d a.given a.was in
        one-ranked (dynamic d op j slot default) d a.given w (dynamic_type slot) x refl
        (dynamic-under no_more_nullable narrowing slot x.ty a.given w x.narrow a.gave) (ap (λ (z : Val). dynamic3 op default z (slot_value slots j)) x.means)

    all_narrower : typed_of v root ≡ Ok v → Narrow v u → (ds : Trees) (ws : List Ty) → all_typed u ds ≡ Ok ws → AllNarrower ds ws
    all_narrower o p no_trees ws h =
        record { tys = []; typed = refl; narrow = subst (UnderList no_more_nullable []) (Ok-same (Ok []) [] ws refl h) ended; mean_same = refl; same_sources = refl }
    all_narrower o p (tree d ds) ws h =
        let a = and_then-ok (typed_of u d) (λ c. and_then (all_typed u ds) (λ cs. Ok (c ∷ cs))) ws h in
        let b = and_then-ok (all_typed u ds) (λ cs. Ok (a.given ∷ cs)) ws a.gave in
        let x = narrower o p d a.given a.was in
        let y = all_narrower o p ds b.given b.was in
        let names : given_names v d ≡ given_names u d =
        ap (λ (r : Result Ty Refusal). names_in (type_or_empty r)) x.typed
        ∙ (names_in-under no_more_nullable narrowing x.ty a.given x.narrow ∙ sym (ap (λ (r : Result Ty Refusal). names_in (type_or_empty r)) a.was)) in
        let here : Source = record { names = given_names u d; whole = mean u slots made d } in
        record {
          tys = x.ty ∷ y.tys;
          typed =
              ap (λ (r : Result Ty Refusal). and_then r (λ c. and_then (all_typed v ds) (λ cs. Ok (c ∷ cs)))) x.typed
              ∙ ap (λ (r : Result (List Ty) Refusal). and_then r (λ cs. Ok (x.ty ∷ cs))) y.typed;
          narrow =
              subst (UnderList no_more_nullable (x.ty ∷ y.tys)) (Ok-same (Ok ws) (a.given ∷ b.given) ws (sym b.gave) refl)
              (further x.ty a.given y.tys b.given x.narrow y.narrow);
          mean_same = ap (λ (z : Val). z ∷ meanings v slots made ds) x.means ∙ ap (λ (zs : List Val). mean u slots made d ∷ zs) y.mean_same;
          same_sources =
              ap (λ (ns : List Bytes). record { names = ns; whole = mean v slots made d } ∷ sources v slots made ds) names
              ∙ (ap (λ (z : Val). record { names = given_names u d; whole = z } ∷ sources v slots made ds) x.means ∙ ap (λ (ss : List Source). here ∷ ss) y.same_sources);
        }
