-- The paths of a table's statistics are the plain ones, and each has three.
use Rattle.std.proofs.Common.{◌≡◌, refl, ap, sym, ◌∙◌, Bool, true, false, cond, not, ◌&&◌, ◌||◌, Option, Some, None, subst, List, [], ◌∷◌, ◌++◌, map}
use Rattle.std.specs.Prelude.{is_some}
use Rattle.std.specs.List.{list_any, flat_map}
use Rattle.std.specs.Option.{option_and_then}
use Rattle.std.specs.Str.{bytes_eq}
use Rattle.std.proofs.lemmas.Bool.{and_parts}
use Rattle.std.proofs.lemmas.Slice.Eq.{bytes_eq-Decides}
use Rattle.vx_dtype.specs.declared.Nullability.TheVariants.{NonNullable}
use Rattle.vx_dtype.specs.declared.Stat.TheVariants.{Min, Max, NullCount}
use Rattle.vx_dtype.specs.Types.{Bytes, Ty, bool_ty, int_ty, text_ty, list_ty, struct_ty, Fields, no_fields, field}
use Rattle.vx_dtype.specs.TypeRules.{field_names, field_type, has_name, distinct_names, no_name_twice, no_name_twice_below}
use Rattle.vx_dtype.specs.Equal.{names_eq}
use Rattle.vx_dtype.specs.Values.{Val}
use Rattle.vx_dtype.proofs.DistinctLemmas.{not_found}
use Rattle.vx_zones.specs.Zoning.{type_at, plain_only}
use Rattle.vx_laws_stats.specs.BuiltStatistics.{Leaf, under, leaves_of, leaves_below, statistics_at}
use Rattle.vx_laws_stats.specs.BuiltLaws.{StatPathsArePlain, BuiltStatisticsFollowPaths, path_and_stat, three_of}

-- whether some plain field has this path
abbrev has_path : List Bytes → List Leaf → Bool
has_path path ls = list_any (names_eq path) (map (λ l. l.path) ls)

-- whether a type is one that a path leads to, and plain
abbrev leads_plain : Option Ty → Bool
leads_plain o = is_some (option_and_then plain_only o)

either-part : (path : List Bytes) (ls ms : List Leaf) → has_path path (ls ++ ms) ≡ (has_path path ls || has_path path ms)
either-part path [] ms = refl
either-part path (l ∷ ls) ms = by-test (names_eq path l.path) (either-part path ls ms)
  where
    by-test : (b : Bool) → has_path path (ls ++ ms) ≡ (has_path path ls || has_path path ms) → (b || has_path path (ls ++ ms)) ≡ ((b || has_path path ls) || has_path path ms)
    by-test true e = refl
    by-test false e = e

-- a path under a field is one whose first name is the field's, and whose rest is one of them
under-first : (g f : Bytes) (path : List Bytes) (ls : List Leaf) → has_path (g ∷ path) (map (under f) ls) ≡ (bytes_eq g f && has_path path ls)
under-first g f path [] = sym (none (bytes_eq g f))
  where
    none : (b : Bool) → (b && false) ≡ false
    none true = refl
    none false = refl
under-first g f path (l ∷ ls) = ap (λ (b : Bool). (bytes_eq g f && names_eq path l.path) || b) (under-first g f path ls) ∙ by-test (bytes_eq g f) (names_eq path l.path) (has_path path ls)
  where
    by-test : (a b c : Bool) → ((a && b) || (a && c)) ≡ (a && (b || c))
    by-test true b c = refl
    by-test false b c = refl

no-root-under : (f : Bytes) (ls : List Leaf) → has_path [] (map (under f) ls) ≡ false
no-root-under f [] = refl
no-root-under f (l ∷ ls) = no-root-under f ls

no-root : (fs : Fields) → has_path [] (leaves_below fs) ≡ false
no-root no_fields = refl
no-root (field f t fs) =
    either-part [] (map (under f) (leaves_of t)) (leaves_below fs)
    ∙ ap (λ (b : Bool). b || has_path [] (leaves_below fs)) (no-root-under f (leaves_of t))
    ∙ no-root fs

no_type-of : (g : Bytes) (fs : Fields) → has_name g (field_names fs) ≡ false → field_type g fs ≡ None
no_type-of g no_fields h = refl
no_type-of g (field f t fs) h = by-test (bytes_eq g f) h (no_type-of g fs)
  where
    by-test : (b : Bool) → (b || has_name g (field_names fs)) ≡ false → (has_name g (field_names fs) ≡ false → field_type g fs ≡ None) → cond b (Some t) (field_type g fs) ≡ None
    by-test true k r = let no : ⊥ = cc in absurd no
    by-test false k r = r k

one-field : (f : Bytes) (t : Ty) (fs : Fields) (g : Bytes) (path : List Bytes) (first rest : Bool) → has_name f (field_names fs) ≡ false
    → first ≡ leads_plain (type_at path t) → rest ≡ leads_plain (option_and_then (type_at path) (field_type g fs))
    → ((bytes_eq g f && first) || rest) ≡ leads_plain (option_and_then (type_at path) (cond (bytes_eq g f) (Some t) (field_type g fs)))
one-field f t fs g path first rest alone a b = by-test (bytes_eq g f) refl
  where
    or_none : (c d : Bool) → d ≡ false → (c || d) ≡ c
    or_none true d e = refl
    or_none false d e = e

    by-test : (c : Bool) → bytes_eq g f ≡ c → ((c && first) || rest) ≡ leads_plain (option_and_then (type_at path) (cond c (Some t) (field_type g fs)))
    by-test true e =
        let same : g ≡ f = (bytes_eq-Decides g f).0 e in
        let none : field_type g fs ≡ None = no_type-of g fs (subst (λ (z : Bytes). has_name z (field_names fs) ≡ false) (sym same) alone) in
        or_none first rest (b ∙ ap (λ (o : Option Ty). leads_plain (option_and_then (type_at path) o)) none) ∙ a
    by-test false e = b

mutual
  unfolding no_name_twice

  plain-paths : (t : Ty) (path : List Bytes) → no_name_twice t ≡ true → has_path path (leaves_of t) ≡ leads_plain (type_at path t)
  plain-paths (bool_ty n) [] h = refl
  plain-paths (bool_ty n) (f ∷ path) h = refl
  plain-paths (int_ty p n) [] h = refl
  plain-paths (int_ty p n) (f ∷ path) h = refl
  plain-paths (text_ty n) [] h = refl
  plain-paths (text_ty n) (f ∷ path) h = refl
  plain-paths (list_ty e n) [] h = refl
  plain-paths (list_ty e n) (f ∷ path) h = refl
  plain-paths (struct_ty fs n) [] h = no-root fs
  plain-paths (struct_ty fs n) (g ∷ path) h =
      let parts = and_parts (distinct_names (field_names fs)) (no_name_twice_below fs) h in
      plain-below fs g path parts.0 parts.1

  plain-below : (fs : Fields) (g : Bytes) (path : List Bytes) → distinct_names (field_names fs) ≡ true → no_name_twice_below fs ≡ true
      → has_path (g ∷ path) (leaves_below fs) ≡ leads_plain (option_and_then (type_at path) (field_type g fs))
  plain-below no_fields g path d h = refl
  plain-below (field f t fs) g path d h =
      let names = and_parts (not (has_name f (field_names fs))) (distinct_names (field_names fs)) d in
      let types = and_parts (no_name_twice t) (no_name_twice_below fs) h in
      let alone = not_found (has_name f (field_names fs)) names.0 in
      either-part (g ∷ path) (map (under f) (leaves_of t)) (leaves_below fs)
      ∙ ap (λ (b : Bool). b || has_path (g ∷ path) (leaves_below fs)) (under-first g f path (leaves_of t))
      ∙ one-field f t fs g path (has_path path (leaves_of t)) (has_path (g ∷ path) (leaves_below fs)) alone (plain-paths t path types.0) (plain-below fs g path names.1 types.1)

pub paths_are_plain : StatPathsArePlain
paths_are_plain columns path h = plain-paths (struct_ty columns NonNullable) path h

three-each : (blocks : List (List Val)) (ls : List Leaf)
    → map path_and_stat (flat_map (statistics_at blocks) ls) ≡ flat_map three_of (map (λ l. l.path) ls)
three-each blocks [] = refl
three-each blocks (l ∷ ls) = ap (λ ps. (l.path, Min) ∷ (l.path, Max) ∷ (l.path, NullCount) ∷ ps) (three-each blocks ls)

pub follow_paths : BuiltStatisticsFollowPaths
follow_paths table = three-each table.blocks (leaves_below table.columns)
