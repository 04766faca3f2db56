-- The places of the kinds tell them apart.
use Rattle.std.proofs.Common.{◌≡◌, ℕ, ◌<◌, ◌≤◌, ◌+◌, Bool, true, false, cond, Option, ◌||◌, List, [], ◌∷◌, length, get_or, drop, Some, refl, sym, ap, ◌∙◌}
use Rattle.std.proofs.lemmas.Option.{same_Some}
use Rattle.std.proofs.lemmas.List.{drop_all, drop_more}
use Rattle.std.proofs.lemmas.Slice.Eq.{bytes_eq-Decides}
use Rattle.std.specs.Str.{bytes_eq}
use Rattle.std.specs.List.{find}
use Rattle.vx_dtype.specs.Types.{Bytes}
use Rattle.vx_expr.specs.Trees.{Tree, root, literal, get_item, binary, not_of, is_null_of, like, between, cast, list_contains, pack, merge, select, dynamic}
use Rattle.vx_expr.specs.Children.{id_of}
use Rattle.vx_wire.specs.Encodings.{all_kinds, encoding_id, encoding_of, kind_named, same_kind}
use Rattle.vx_wire.specs.Registries.{held_after}
use Rattle.vx_wire.specs.declared.encodings.ExprEncoding.{ExprEncoding}
use Rattle.vx_wire.specs.declared.encodings.ExprEncoding.TheVariants as kinds

pub named_again : (e : ExprEncoding) → kind_named (encoding_id e) ≡ Some e
unfolding kind_named
named_again kinds.Between = refl
named_again kinds.Binary = refl
named_again kinds.Cast = refl
named_again kinds.Dynamic = refl
named_again kinds.GetItem = refl
named_again kinds.IsNull = refl
named_again kinds.Like = refl
named_again kinds.ListContains = refl
named_again kinds.Literal = refl
named_again kinds.Merge = refl
named_again kinds.Not = refl
named_again kinds.Pack = refl
named_again kinds.Root = refl
named_again kinds.Select = refl

pub encoding_id-encoding_of : (e : Tree) → encoding_id (encoding_of e) ≡ id_of e
encoding_id-encoding_of (between e lower upper options) = refl
encoding_id-encoding_of (binary l op r) = refl
encoding_id-encoding_of (cast e t) = refl
encoding_id-encoding_of (dynamic e op k t default) = refl
encoding_id-encoding_of (get_item f e) = refl
encoding_id-encoding_of (is_null_of e) = refl
encoding_id-encoding_of (like e p negated fold_case) = refl
encoding_id-encoding_of (list_contains l v) = refl
encoding_id-encoding_of (literal s) = refl
encoding_id-encoding_of (merge es n) = refl
encoding_id-encoding_of (not_of e) = refl
encoding_id-encoding_of (pack names es n) = refl
encoding_id-encoding_of root = refl
encoding_id-encoding_of (select s e) = refl

first_passes : (test : ExprEncoding → Bool) (k e : ExprEncoding) (others : Option ExprEncoding) (b : Bool) → test k ≡ b → (others ≡ Some e → test e ≡ true) → cond b (Some k) others ≡ Some e → test e ≡ true
first_passes test k e others true is rest h = ap test (sym (same_Some k e h)) ∙ is
first_passes test k e others false is rest h = rest h

-- what is found passes the test
found_passes : (test : ExprEncoding → Bool) (ks : List ExprEncoding) (e : ExprEncoding) → find test ks ≡ Some e → test e ≡ true
found_passes test [] e h = absurd cc
found_passes test (k ∷ ks) e h = first_passes test k e (find test ks) (test k) refl (found_passes test ks e) h

pub named_is : (id : Bytes) (e : ExprEncoding) → kind_named id ≡ Some e → id ≡ encoding_id e
unfolding kind_named
named_is id e h = (bytes_eq-Decides id (encoding_id e)).0 (found_passes (λ k. bytes_eq id (encoding_id k)) all_kinds e h)

drop_step : (es : List ExprEncoding) (i : ℕ) (x : ExprEncoding) → i < length es → x ≡ get_or es i x → drop i es ≡ x ∷ drop (i + 1) es
drop_step es i x lt is = drop_more es i x lt ∙ ap (λ y. y ∷ drop (i + 1) es) (sym is)

-- registering goes on
pub held_step : (es : List ExprEncoding) (i : ℕ) (x e : ExprEncoding) (before : Bool) → i < length es → x ≡ get_or es i x → held_after (drop (i + 1) es) e (same_kind x e || before) ≡ held_after (drop i es) e before
held_step es i x e before lt is = sym (ap (λ xs. held_after xs e before) (drop_step es i x lt is))

pub held_all : (es : List ExprEncoding) (i : ℕ) (e : ExprEncoding) (before : Bool) → length es ≤ i → held_after (drop i es) e before ≡ before
held_all es i e before le = ap (λ xs. held_after xs e before) (drop_all i es le)
