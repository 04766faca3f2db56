-- A field's columns: its name where it is a field of the row; and names as a set.
use Rattle.std.proofs.Common.{◌≡◌, ◌||◌, ℕ, ◌+◌, ◌<◌, Bool, true, false, List, [], ◌∷◌, ◌++◌, length, take, cond, refl, ap, sym, ◌∙◌, true≢false}
use Rattle.std.specs.HashSet.{HashSet, contains}
use Rattle.std.specs.List.{list_any}
use Rattle.std.specs.Str.{bytes_eq}
use Rattle.std.proofs.Math.ListN.{get_or}
use Rattle.std.proofs.lemmas.List.{take_more}
use Rattle.std.proofs.lemmas.List.Folds.{list_any-append}
use Rattle.std.proofs.lemmas.Slice.Eq.{bytes_eq-Decides}
use Rattle.vx_dtype.specs.Types.{Bytes, Fields}
use Rattle.vx_expr.specs.Children.{is_root_tree}
use Rattle.vx_expr.specs.Trees.{Tree, root, literal, get_item, binary, not_of, is_null_of, like, between, cast, list_contains, pack, merge, select, dynamic}
use Rattle.vx_partition.specs.Scopes.{columns_of, HasJust}
use Rattle.vx_partition.proofs.EntryLemmas.{alike}

pub field_columns : (scope : Fields) (f : Bytes) (e : Tree) → columns_of scope (get_item f e) ≡ cond (is_root_tree e) (f ∷ []) []
field_columns scope f root = refl
field_columns scope f (literal s) = refl
field_columns scope f (get_item g e) = refl
field_columns scope f (binary l op r) = refl
field_columns scope f (not_of e) = refl
field_columns scope f (is_null_of e) = refl
field_columns scope f (like e p negated fold_case) = refl
field_columns scope f (between e lower upper options) = refl
field_columns scope f (cast e t) = refl
field_columns scope f (list_contains l v) = refl
field_columns scope f (pack names es n) = refl
field_columns scope f (merge es n) = refl
field_columns scope f (select s e) = refl
field_columns scope f (dynamic e op k t default) = refl

either : (b c x : Bool) → b ≡ c → cond b true x ≡ (x || (c || false))
either true true true is = refl
either true true false is = refl
either true false x is = absurd (true≢false is)
either false true x is = absurd (true≢false (sym is))
either false false true is = refl
either false false false is = refl

same_either_way : (v w : List ℕ) → bytes_eq v w ≡ bytes_eq w v
same_either_way v w = alike (v ≡ w) (w ≡ v) (bytes_eq v w) (bytes_eq w v) (bytes_eq-Decides v w) (bytes_eq-Decides w v) sym sym

module _ {S : Type 0} (names : List Bytes) (i : ℕ) (v : Bytes) (was now : HashSet Bytes S) where
  -- with one more name a set has just the names so far and this one
  pub one_more_name : i < length names → v ≡ get_or names i v → HasJust (take i names) was
      → ((w : Bytes) → contains bytes_eq now w ≡ cond (bytes_eq v w) true (contains bytes_eq was w)) → HasJust (take (i + 1) names) now
  one_more_name within is just put w =
      put w ∙ ap (cond (bytes_eq v w) true) (just w) ∙ either (bytes_eq v w) (bytes_eq w v) (list_any (bytes_eq w) (take i names)) (same_either_way v w)
      ∙ sym (list_any-append (bytes_eq w) (take i names) (v ∷ []))
      ∙ sym (ap (list_any (bytes_eq w)) (take_more names i v within ∙ ap (λ y. take i names ++ y ∷ []) (sym is)))
