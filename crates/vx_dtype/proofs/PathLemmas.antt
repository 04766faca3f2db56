-- Paths as lists of names: their parts compared and fed one by one, and sets of them.
use Rattle.std.proofs.Common.{◌≡◌, Bool, true, false, ◌&&◌, ◌||◌, not, cond, if◌then◌else◌, refl, ap, ◌∙◌, length, map, List, [], ◌∷◌, ◌++◌}
use Rattle.std.specs.Cmp.Lexicographic.{pointwise}
use Rattle.std.specs.Str.{bytes_eq}
use Rattle.std.specs.List.{flat_map, list_any, AllByRecursion, IsDistinct}
use Rattle.std.specs.Hash as fed
use Rattle.std.specs.Cmp.Derive.{both_true}
use Rattle.std.proofs.lemmas.Map.Keys.{IsDistinct-head, IsDistinct-tail}
use Rattle.vx_dtype.specs.Types.{Bytes}
use Rattle.vx_dtype.specs.Equal.{names_eq}
use Rattle.vx_dtype.specs.EqualLaws.{names_eq_equiv}
use Rattle.vx_dtype.specs.Feeds.{bytes_feed, names_feed}
use Rattle.vx_dtype.specs.Paths.{has_path, distinct_paths, with_path}
use Rattle.indexmap.specs.IndexSet.{insert_key}

module _ {A : Type 0} (see : A → Bytes) where
  -- the names are the same where each part has the same
  pub names_eq_parts : (xs ys : List A) → pointwise (λ x y. bytes_eq (see x) (see y)) xs ys ≡ names_eq (map see xs) (map see ys)
  names_eq_parts [] [] = refl
  names_eq_parts [] (y ∷ ys) = refl
  names_eq_parts (x ∷ xs) [] = refl
  names_eq_parts (x ∷ xs) (y ∷ ys) = ap (λ b. bytes_eq (see x) (see y) && b) (names_eq_parts xs ys)

  feed_each : (xs : List A) → flat_map (λ x. bytes_feed (see x)) xs ≡ flat_map fed.str (map see xs)
  feed_each [] = refl
  feed_each (x ∷ xs) = ap (λ ws. bytes_feed (see x) ++ ws) (feed_each xs)

  length_map : (xs : List A) → length xs ≡ length (map see xs)
  length_map [] = refl
  length_map (x ∷ xs) = search (length_map xs)

  -- the names are fed as the parts are
  pub names_feed_parts : (xs : List A) → fed.slice (λ x. bytes_feed (see x)) xs ≡ names_feed (map see xs)
  names_feed_parts xs = λ i. fed.usize (length_map xs i) ++ feed_each xs i

-- a set that compares a path with each of its own has just the paths of its list
pub has_path_known : (p : List Bytes) (ps : List (List Bytes)) → list_any (names_eq p) ps ≡ has_path p ps
has_path_known p [] = refl
has_path_known p (q ∷ ps) = λ i. names_eq_equiv.symm p q i || has_path_known p ps i

chosen : {X : Type 0} (b : Bool) (x y : X) → (if b then x else y) ≡ cond b x y
chosen true x y = refl
chosen false x y = refl

-- and a path that it puts behind its own, where it hasn't it, is one more of the list
pub with_path_inserted : (p : List Bytes) (ps : List (List Bytes)) → insert_key names_eq ps p ≡ with_path p ps
with_path_inserted p ps =
    chosen (list_any (names_eq p) ps) ps (ps ++ p ∷ []) ∙ ap (λ b. cond b ps (ps ++ p ∷ [])) (has_path_known p ps)

none_equal : (p : List Bytes) (ps : List (List Bytes)) → AllByRecursion (λ q. names_eq p q ≡ false) ps → has_path p ps ≡ false
none_equal p [] h = refl
none_equal p (q ∷ ps) h = λ i. (names_eq_equiv.symm q p ∙ h.0) i || none_equal p ps h.1 i

-- and no path of its list stands twice
pub distinct_paths_unique : (ps : List (List Bytes)) → IsDistinct names_eq ps → distinct_paths ps ≡ true
distinct_paths_unique [] h = refl
distinct_paths_unique (p ∷ ps) h =
    both_true (ap not (none_equal p ps (IsDistinct-head names_eq p ps h))) (distinct_paths_unique ps (IsDistinct-tail names_eq p ps h))
