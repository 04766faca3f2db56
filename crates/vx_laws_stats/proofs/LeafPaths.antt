-- No two plain fields of a table have one path.
use Rattle.std.proofs.Common.{◌≡◌, refl, ap, ◌∙◌, Bool, true, false, not, ◌&&◌, ◌||◌, List, [], ◌∷◌, ◌++◌, map}
use Rattle.std.specs.List.{list_any, AllByRecursion}
use Rattle.std.specs.Str.{bytes_eq}
use Rattle.std.proofs.lemmas.Bool.{and_parts, and_from, or_parts, or_from}
use Rattle.vx_dtype.specs.EqualLaws.{bytes_eq_equiv}
use Rattle.vx_dtype.specs.Types.{Bytes, Ty, bool_ty, int_ty, text_ty, list_ty, struct_ty, Fields, no_fields, field}
use Rattle.vx_dtype.specs.TypeRules.{field_names, has_name, distinct_names, no_name_twice, no_name_twice_below}
use Rattle.vx_dtype.specs.Equal.{names_eq}
use Rattle.vx_dtype.proofs.DistinctLemmas.{not_found}
use Rattle.vx_dtype.proofs.ValuedLemmas.{bytes_eq_refl}
use Rattle.vx_laws_stats.specs.BuiltStatistics.{Leaf, under, leaves_of, leaves_below}
use Rattle.vx_laws_stats.proofs.LeafFacts.{LeadsBelow, leads_below, other-name}

-- whether some of these has this path
abbrev pub has_path : List Bytes → List Leaf → Bool
has_path path ls = list_any (λ (l : Leaf). names_eq path l.path) ls

-- whether no two have one path
abbrev pub distinct_paths : List Leaf → Bool
distinct_paths [] = true
distinct_paths (l ∷ ls) = not (has_path l.path ls) && distinct_paths ls

none-more : (path : List Bytes) (ls ms : List Leaf) → has_path path ls ≡ false → has_path path ms ≡ false → has_path path (ls ++ ms) ≡ false
none-more path [] ms h k = k
none-more path (l ∷ ls) ms h k =
    let parts = or_parts (names_eq path l.path) (has_path path ls) h in
    or_from (names_eq path l.path) (has_path path (ls ++ ms)) parts.0 (none-more path ls ms parts.1 k)

-- a path through another field is none of those through these
other-paths : (f : Bytes) (path : List Bytes) (fs : Fields) (ls : List Leaf) → has_name f (field_names fs) ≡ false → AllByRecursion (LeadsBelow fs) ls → has_path (f ∷ path) ls ≡ false
other-paths f path fs [] alone h = refl
other-paths f path fs (l ∷ ls) alone h =
    let b = h.0 in
    let apart : bytes_eq f b.first ≡ false = bytes_eq_equiv.symm f b.first ∙ other-name f b.first (field_names fs) alone b.named in
    or_from (names_eq (f ∷ path) l.path) (has_path (f ∷ path) ls)
    (ap (names_eq (f ∷ path)) b.is ∙ ap (λ (c : Bool). c && names_eq path b.rest) apart)
    (other-paths f path fs ls alone h.1)

under-path : (f : Bytes) (path : List Bytes) (ls : List Leaf) → has_path (f ∷ path) (map (under f) ls) ≡ has_path path ls
under-path f path [] = refl
under-path f path (l ∷ ls) =
    ap (λ (b : Bool). (b && names_eq path l.path) || has_path (f ∷ path) (map (under f) ls)) (bytes_eq_refl f)
    ∙ ap (λ (b : Bool). names_eq path l.path || b) (under-path f path ls)

joined : (f : Bytes) (ls ms : List Leaf) → distinct_paths ls ≡ true → distinct_paths ms ≡ true → ((path : List Bytes) → has_path (f ∷ path) ms ≡ false) → distinct_paths (map (under f) ls ++ ms) ≡ true
joined f [] ms h k apart = k
joined f (l ∷ ls) ms h k apart =
    let parts = and_parts (not (has_path l.path ls)) (distinct_paths ls) h in
    let here = none-more (f ∷ l.path) (map (under f) ls) ms (under-path f l.path ls ∙ not_found (has_path l.path ls) parts.0) (apart l.path) in
    and_from (not (has_path (f ∷ l.path) (map (under f) ls ++ ms))) (distinct_paths (map (under f) ls ++ ms)) (ap not here) (joined f ls ms parts.1 k apart)

mutual
  unfolding no_name_twice

  pub distinct-of : (t : Ty) → no_name_twice t ≡ true → distinct_paths (leaves_of t) ≡ true
  distinct-of (bool_ty n) h = refl
  distinct-of (int_ty p n) h = refl
  distinct-of (text_ty n) h = refl
  distinct-of (list_ty e n) h = refl
  distinct-of (struct_ty fs n) h =
      let parts = and_parts (distinct_names (field_names fs)) (no_name_twice_below fs) h in
      distinct-below fs parts.0 parts.1

  pub distinct-below : (fs : Fields) → distinct_names (field_names fs) ≡ true → no_name_twice_below fs ≡ true → distinct_paths (leaves_below fs) ≡ true
  distinct-below no_fields d h = refl
  distinct-below (field f t fs) d h =
      let names = and_parts (not (has_name f (field_names fs))) (distinct_names (field_names fs)) d in
      let types = and_parts (no_name_twice t) (no_name_twice_below fs) h in
      joined f (leaves_of t) (leaves_below fs) (distinct-of t types.0) (distinct-below fs names.1 types.1)
      (λ path. other-paths f path fs (leaves_below fs) (not_found (has_name f (field_names fs)) names.0) (leads_below fs names.1 types.1))
