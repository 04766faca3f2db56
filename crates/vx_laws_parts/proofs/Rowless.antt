-- The passes leave the row below fields alone.
use Rattle.std.proofs.Common.{◌⊎◌, inl, inr, ◌≡◌, refl, ap, sym, ◌∙◌, Bool, true, false, cond, ◌&&◌, Option, Some, None, subst, List, [], ◌∷◌, Result, Ok}
use Rattle.std.specs.Prelude.{map, option_map, unwrap_or}
use Rattle.std.specs.Option.{option_or}
use Rattle.std.specs.Str.{bytes_eq}
use Rattle.std.proofs.lemmas.Bool.{and_parts, and_from, or_right}
use Rattle.vx_dtype.specs.declared.Nullability.TheVariants.{NonNullable, Nullable}
use Rattle.vx_dtype.specs.Types.{Bytes, Ty, struct_ty, Fields}
use Rattle.vx_dtype.specs.TypeRules.{field_names, has_name}
use Rattle.vx_dtype.specs.Values.{Typed}
use Rattle.vx_expr.specs.declared.FieldSelection.{FieldSelection}
use Rattle.vx_expr.specs.Selections.{names_where_known}
use Rattle.vx_expr.specs.Children.{is_root_tree, packed_value}
use Rattle.vx_expr.specs.Trees.{Tree, root, literal, get_item, binary, not_of, is_null_of, like, between, cast, list_contains, pack, merge, select, dynamic, Trees, no_trees, tree, trees_of}
use Rattle.vx_semantics.specs.Typing.{Refusal, and_then}
use Rattle.vx_semantics.specs.LooseTyping.{loosely_typed}
use Rattle.vx_semantics.specs.Merging.{merged_names, last_giver}
use Rattle.vx_passes.specs.Rebuilding.{rebuilt, all_rebuilt}
use Rattle.vx_passes.specs.Replacing.{changed_by, all_changed_by, column, packed_row, packed_where_root}
use Rattle.vx_passes.specs.Ranges.{Reading, range_of, ranged}
use Rattle.vx_passes.specs.Simplifying.{known_field, field_of_pack, without_packed_fields, simplified}
use Rattle.vx_passes.specs.Selecting.{fields_pack, select_as_pack, select_removed, without_select}
use Rattle.vx_passes.specs.Merging.{Giving, giving_names, giving_of, givings, given_field, givings_pack, merge_removed, without_merge}
use Rattle.vx_passes.specs.TypedSimplifying.{simplified_typed}
use Rattle.vx_laws.proofs.Inverting.{and_then-ok, Ok-same}
use Rattle.vx_laws_simplifying.proofs.Observing.{and-assoc, and-comm, and-twice}
use Rattle.vx_laws_simplifying.proofs.RangeParts.{Reads, left_read, right_read, Bounds, RangeParts, range_of-parts}
use Rattle.vx_laws_simplifying.proofs.Chains.{Measure, alone-ranged}
use Rattle.vx_laws_parts.specs.Preserved.{rowless, all_rowless}

-- below a field the row may stand
item-rowless : (f : Bytes) (e : Tree) → rowless e ≡ true → rowless (get_item f e) ≡ true
unfolding rowless
item-rowless f e h = or_right (is_root_tree e) (rowless e) h

-- packs of the columns for the row
items-rowless : (item : Bytes → Tree) → ((f : Bytes) → rowless (item f) ≡ true) → (names : List Bytes) → all_rowless (trees_of (map item names)) ≡ true
unfolding rowless
items-rowless item k [] = refl
items-rowless item k (f ∷ names) = and_from (rowless (item f)) (all_rowless (trees_of (map item names))) (k f) (items-rowless item k names)

column-rowless : (f : Bytes) → rowless (column f) ≡ true
unfolding rowless
column-rowless f = refl

packed_row-rowless : (fs : Fields) → rowless (packed_row fs) ≡ true
unfolding rowless
packed_row-rowless fs = items-rowless column column-rowless (field_names fs)

mutual
  unfolding rowless changed_by

  pub root_replaced-rowless : (fs : Fields) (e : Tree) → rowless (changed_by (packed_where_root fs) e) ≡ true
  root_replaced-rowless fs root = packed_row-rowless fs
  root_replaced-rowless fs (literal s) = refl
  root_replaced-rowless fs (get_item f d) = item-rowless f (changed_by (packed_where_root fs) d) (root_replaced-rowless fs d)
  root_replaced-rowless fs (binary l op r) =
      and_from (rowless (changed_by (packed_where_root fs) l)) (rowless (changed_by (packed_where_root fs) r)) (root_replaced-rowless fs l) (root_replaced-rowless fs r)
  root_replaced-rowless fs (not_of d) = root_replaced-rowless fs d
  root_replaced-rowless fs (is_null_of d) = root_replaced-rowless fs d
  root_replaced-rowless fs (like l r negated fold_case) =
      and_from (rowless (changed_by (packed_where_root fs) l)) (rowless (changed_by (packed_where_root fs) r)) (root_replaced-rowless fs l) (root_replaced-rowless fs r)
  root_replaced-rowless fs (between d l r options) =
      let low = rowless (changed_by (packed_where_root fs) l) in
      let high = rowless (changed_by (packed_where_root fs) r) in
      and_from (rowless (changed_by (packed_where_root fs) d)) (low && high) (root_replaced-rowless fs d) (and_from low high (root_replaced-rowless fs l) (root_replaced-rowless fs r))
  root_replaced-rowless fs (cast d t) = root_replaced-rowless fs d
  root_replaced-rowless fs (list_contains l r) =
      and_from (rowless (changed_by (packed_where_root fs) l)) (rowless (changed_by (packed_where_root fs) r)) (root_replaced-rowless fs l) (root_replaced-rowless fs r)
  root_replaced-rowless fs (pack names es n) = all_replaced-rowless fs es
  root_replaced-rowless fs (merge es n) = all_replaced-rowless fs es
  root_replaced-rowless fs (select s d) = root_replaced-rowless fs d
  root_replaced-rowless fs (dynamic d op k t default) = root_replaced-rowless fs d

  all_replaced-rowless : (fs : Fields) (es : Trees) → all_rowless (all_changed_by (packed_where_root fs) es) ≡ true
  all_replaced-rowless fs no_trees = refl
  all_replaced-rowless fs (tree d ds) =
      and_from (rowless (changed_by (packed_where_root fs) d)) (all_rowless (all_changed_by (packed_where_root fs) ds)) (root_replaced-rowless fs d) (all_replaced-rowless fs ds)

-- a step that leaves the row, and keeps it below fields alone
pub record KeepsRowless (step : Tree → Result Tree Refusal) : Type 0 where
  pub row : step root ≡ Ok root
  pub nodes : (n d : Tree) → rowless n ≡ true → step n ≡ Ok d → rowless d ≡ true

module _ (step : Tree → Result Tree Refusal) (k : KeepsRowless step) where
  mutual
    unfolding rowless rebuilt

    pub rebuilt-rowless : (e d : Tree) → rowless e ≡ true → rebuilt step e ≡ Ok d → rowless d ≡ true
    rebuilt-rowless root d r h = let no : ⊥ = cc in absurd no
    rebuilt-rowless (literal c) d r h = k.nodes (literal c) d refl h
    rebuilt-rowless (get_item f root) d r h = k.nodes (get_item f root) d refl (sym (ap (λ (x : Result Tree Refusal). and_then x (λ c. step (get_item f c))) k.row) ∙ h)
    rebuilt-rowless (get_item f e) d r h =
        let a = and_then-ok (rebuilt step e) (λ c. step (get_item f c)) d h in
        k.nodes (get_item f a.given) d (item-rowless f a.given (rebuilt-rowless e a.given r a.was)) a.gave
    rebuilt-rowless (binary l op q) d r h =
        let w = and_parts (rowless l) (rowless q) r in
        let a = and_then-ok (rebuilt step l) (λ x. and_then (rebuilt step q) (λ y. step (binary x op y))) d h in
        let b = and_then-ok (rebuilt step q) (λ y. step (binary a.given op y)) d a.gave in
        k.nodes (binary a.given op b.given) d (and_from (rowless a.given) (rowless b.given) (rebuilt-rowless l a.given w.0 a.was) (rebuilt-rowless q b.given w.1 b.was)) b.gave
    rebuilt-rowless (not_of e) d r h =
        let a = and_then-ok (rebuilt step e) (λ c. step (not_of c)) d h in
        k.nodes (not_of a.given) d (rebuilt-rowless e a.given r a.was) a.gave
    rebuilt-rowless (is_null_of e) d r h =
        let a = and_then-ok (rebuilt step e) (λ c. step (is_null_of c)) d h in
        k.nodes (is_null_of a.given) d (rebuilt-rowless e a.given r a.was) a.gave
    rebuilt-rowless (like l q negated fold_case) d r h =
        let w = and_parts (rowless l) (rowless q) r in
        let a = and_then-ok (rebuilt step l) (λ x. and_then (rebuilt step q) (λ y. step (like x y negated fold_case))) d h in
        let b = and_then-ok (rebuilt step q) (λ y. step (like a.given y negated fold_case)) d a.gave in
        k.nodes (like a.given b.given negated fold_case) d (and_from (rowless a.given) (rowless b.given) (rebuilt-rowless l a.given w.0 a.was) (rebuilt-rowless q b.given w.1 b.was)) b.gave
    rebuilt-rowless (between e l q options) d r h =
        let w = and_parts (rowless e) (rowless l && rowless q) r in
        let v = and_parts (rowless l) (rowless q) w.1 in
        let a = and_then-ok (rebuilt step e) (λ x. and_then (rebuilt step l) (λ y. and_then (rebuilt step q) (λ z. step (between x y z options)))) d h in
        let b = and_then-ok (rebuilt step l) (λ y. and_then (rebuilt step q) (λ z. step (between a.given y z options))) d a.gave in
        let c = and_then-ok (rebuilt step q) (λ z. step (between a.given b.given z options)) d b.gave in
        k.nodes (between a.given b.given c.given options) d
        (and_from (rowless a.given) (rowless b.given && rowless c.given) (rebuilt-rowless e a.given w.0 a.was)
        (and_from (rowless b.given) (rowless c.given) (rebuilt-rowless l b.given v.0 b.was) (rebuilt-rowless q c.given v.1 c.was))) c.gave
    rebuilt-rowless (cast e t) d r h =
        let a = and_then-ok (rebuilt step e) (λ c. step (cast c t)) d h in
        k.nodes (cast a.given t) d (rebuilt-rowless e a.given r a.was) a.gave
    rebuilt-rowless (list_contains l q) d r h =
        let w = and_parts (rowless l) (rowless q) r in
        let a = and_then-ok (rebuilt step l) (λ x. and_then (rebuilt step q) (λ y. step (list_contains x y))) d h in
        let b = and_then-ok (rebuilt step q) (λ y. step (list_contains a.given y)) d a.gave in
        k.nodes (list_contains a.given b.given) d (and_from (rowless a.given) (rowless b.given) (rebuilt-rowless l a.given w.0 a.was) (rebuilt-rowless q b.given w.1 b.was)) b.gave
    rebuilt-rowless (pack names es n) d r h =
        let a = and_then-ok (all_rebuilt step es) (λ cs. step (pack names cs n)) d h in
        k.nodes (pack names a.given n) d (all_rebuilt-rowless es a.given r a.was) a.gave
    rebuilt-rowless (merge es n) d r h =
        let a = and_then-ok (all_rebuilt step es) (λ cs. step (merge cs n)) d h in
        k.nodes (merge a.given n) d (all_rebuilt-rowless es a.given r a.was) a.gave
    rebuilt-rowless (select s e) d r h =
        let a = and_then-ok (rebuilt step e) (λ c. step (select s c)) d h in
        k.nodes (select s a.given) d (rebuilt-rowless e a.given r a.was) a.gave
    rebuilt-rowless (dynamic e op j t default) d r h =
        let a = and_then-ok (rebuilt step e) (λ c. step (dynamic c op j t default)) d h in
        k.nodes (dynamic a.given op j t default) d (rebuilt-rowless e a.given r a.was) a.gave

    all_rebuilt-rowless : (es ds : Trees) → all_rowless es ≡ true → all_rebuilt step es ≡ Ok ds → all_rowless ds ≡ true
    all_rebuilt-rowless no_trees ds r h = subst (λ (z : Trees). all_rowless z ≡ true) (Ok-same (Ok ds) no_trees ds (sym h) refl) refl
    all_rebuilt-rowless (tree e es) ds r h =
        let w = and_parts (rowless e) (all_rowless es) r in
        let a = and_then-ok (rebuilt step e) (λ c. and_then (all_rebuilt step es) (λ cs. Ok (tree c cs))) ds h in
        let b = and_then-ok (all_rebuilt step es) (λ cs. Ok (tree a.given cs)) ds a.gave in
        subst (λ (z : Trees). all_rowless z ≡ true) (Ok-same (Ok ds) (tree a.given b.given) ds (sym b.gave) refl)
        (and_from (rowless a.given) (all_rowless b.given) (rebuilt-rowless e a.given w.0 a.was) (all_rebuilt-rowless es b.given w.1 b.was))

stays : (n d : Tree) → rowless n ≡ true → ◌≡◌ {A = Result Tree Refusal} (Ok n) (Ok d) → rowless d ≡ true
stays n d r h = subst (λ (z : Tree). rowless z ≡ true) (Ok-same (Ok d) n d (sym h) refl) r

-- fields straight on packs
packed-rowless : (f : Bytes) (names : List Bytes) (es : Trees) (d : Tree) → all_rowless es ≡ true → known_field (packed_value f names es) ≡ Ok d → rowless d ≡ true
unfolding rowless
packed-rowless f [] es d r h = let no : ⊥ = cc in absurd no
packed-rowless f (n ∷ names) no_trees d r h = let no : ⊥ = cc in absurd no
packed-rowless f (n ∷ names) (tree e es) d r h = let w = and_parts (rowless e) (all_rowless es) r in by-test (bytes_eq f n) h w.0 (packed-rowless f names es d w.1)
  where
    by-test : (b : Bool) → known_field (cond b (Some e) (packed_value f names es)) ≡ Ok d → rowless e ≡ true → (known_field (packed_value f names es) ≡ Ok d → rowless d ≡ true) → rowless d ≡ true
    by-test true i j q = stays e d j i
    by-test false i j q = q i

field_of_pack-nodes : (n d : Tree) → rowless n ≡ true → field_of_pack n ≡ Ok d → rowless d ≡ true
unfolding rowless
field_of_pack-nodes (get_item f (pack names es n)) d r h = packed-rowless f names es d r h
field_of_pack-nodes n d r h = stays n d r h

without_packed_fields-rowless : (e d : Tree) → rowless e ≡ true → without_packed_fields e ≡ Ok d → rowless d ≡ true
without_packed_fields-rowless e d r h = rebuilt-rowless field_of_pack (record { row = refl; nodes = field_of_pack-nodes }) e d r h

-- selects
select-pack-rowless : (s : FieldSelection) (e : Tree) (a : Ty) (d : Tree) → rowless e ≡ true → select_as_pack s e a ≡ Ok d → rowless d ≡ true
unfolding rowless
select-pack-rowless s e (struct_ty fs NonNullable) d r h = by-names (names_where_known s (field_names fs)) h
  where
    by-names : (p : Option (List Bytes)) → fields_pack e p ≡ Ok d → rowless d ≡ true
    by-names None i = let no : ⊥ = cc in absurd no
    by-names (Some names) i = stays (pack names (trees_of (map (λ f. get_item f e) names)) NonNullable) d (items-rowless (λ f. get_item f e) (λ f. item-rowless f e r) names) i
select-pack-rowless s e (struct_ty fs Nullable) d r h = let no : ⊥ = cc in absurd no
select-pack-rowless s e _ d r h = let no : ⊥ = cc in absurd no

select-nodes : (t : Ty) (n d : Tree) → rowless n ≡ true → select_removed t n ≡ Ok d → rowless d ≡ true
unfolding rowless
select-nodes t (select s e) d r h = let a = and_then-ok (loosely_typed t e) (select_as_pack s e) d h in select-pack-rowless s e a.given d r a.gave
select-nodes t n d r h = stays n d r h

without_select-rowless : (t : Ty) (e d : Tree) → rowless e ≡ true → without_select t e ≡ Ok d → rowless d ≡ true
without_select-rowless t e d r h = rebuilt-rowless (select_removed t) (record { row = refl; nodes = select-nodes t }) e d r h

-- merges
AllRowless : List Giving → Type 0
AllRowless [] = Unit {0}
AllRowless (x ∷ xs) = (rowless x.expression ≡ true) × AllRowless xs

giving_of-same : (e : Tree) (a : Ty) (x : Giving) → giving_of e a ≡ Ok x → x.expression ≡ e
giving_of-same e (struct_ty fs n) x h =
    let same : record { names = field_names fs; expression = e } ≡ x = Ok-same (Ok x) (record { names = field_names fs; expression = e }) x (sym h) refl in
    ap (λ (z : Giving). z.expression) (sym same)
giving_of-same e _ x h = let no : ⊥ = cc in absurd no

givings-rowless : (t : Ty) (es : Trees) (gs : List Giving) → all_rowless es ≡ true → givings t es ≡ Ok gs → AllRowless gs
unfolding rowless AllRowless
givings-rowless t no_trees gs r h = subst AllRowless (Ok-same (Ok gs) [] gs (sym h) refl) tt
givings-rowless t (tree e es) gs r h =
    let w = and_parts (rowless e) (all_rowless es) r in
    let a = and_then-ok (and_then (loosely_typed t e) (giving_of e)) (λ x. and_then (givings t es) (λ xs. Ok (x ∷ xs))) gs h in
    let b = and_then-ok (givings t es) (λ xs. Ok (a.given ∷ xs)) gs a.gave in
    let c = and_then-ok (loosely_typed t e) (giving_of e) a.given a.was in
    subst AllRowless (Ok-same (Ok gs) (a.given ∷ b.given) gs (sym b.gave) refl)
    (subst (λ (z : Tree). rowless z ≡ true) (sym (giving_of-same e c.given a.given c.gave)) w.0, givings-rowless t es b.given w.1 b.was)

-- a field of the last giver, or of the row
given-rowless : (f : Bytes) (gs : List Giving) → AllRowless gs → rowless (given_field gs f) ≡ true
unfolding rowless AllRowless
given-rowless f [] h = refl
given-rowless f (x ∷ gs) h = by-last (last_giver giving_names f gs) (has_name f x.names) (given-rowless f gs h.1)
  where
    by-last : (p : Option Giving) (b : Bool) → rowless (get_item f (unwrap_or (option_map (λ (y : Giving). y.expression) p) root)) ≡ true
        → rowless (get_item f (unwrap_or (option_map (λ (y : Giving). y.expression) (option_or p (cond b (Some x) None))) root)) ≡ true
    by-last (Some z) b r = r
    by-last None true r = item-rowless f x.expression h.0
    by-last None false r = refl

merge-nodes : (t : Ty) (n d : Tree) → rowless n ≡ true → merge_removed t n ≡ Ok d → rowless d ≡ true
unfolding rowless
merge-nodes t (merge es n) d r h =
    let a = and_then-ok (givings t es) (λ gs. Ok (givings_pack n gs)) d h in
    stays (givings_pack n a.given) d (items-rowless (given_field a.given) (λ f. given-rowless f a.given (givings-rowless t es a.given r a.was)) (merged_names giving_names a.given)) a.gave
merge-nodes t n d r h = stays n d r h

without_merge-rowless : (t : Ty) (e d : Tree) → rowless e ≡ true → without_merge t e ≡ Ok d → rowless d ≡ true
without_merge-rowless t e d r h = rebuilt-rowless (merge_removed t) (record { row = refl; nodes = merge-nodes t }) e d r h

-- ranges
read-rowless : (c : Tree) (a : Reading) (s : Typed) → Reads c a → a.other ≡ literal s → rowless c ≡ rowless a.operand
unfolding rowless
read-rowless c a s (left_read l op r) e = ap (λ (z : Tree). rowless l && rowless z) e ∙ and-comm (rowless l) true
read-rowless c a s (right_read l op r) e = ap (λ (z : Tree). rowless z && rowless r) e

between-rowless : (a b : Reading) (x : Tree) → Bounds a b x → rowless x ≡ rowless a.operand
unfolding rowless
between-rowless a b x k = ap rowless k.is ∙ and-comm (rowless a.operand) true

range-rowless : (c d x : Tree) → range_of c d ≡ Some x → rowless x ≡ (rowless c && rowless d)
range-rowless c d x h = let p = range_of-parts c d x h in by-bounds p p.bounds
  where
    both : (a b : Reading) (e f : Tree) → Reads e a → Reads f b → Bounds a b x → rowless x ≡ (rowless e && rowless f)
    both a b e f i j k =
        between-rowless a b x k
        ∙ (sym (and-twice (rowless a.operand))
        ∙ (ap (λ (y : Bool). y && rowless a.operand) (sym (read-rowless e a k.lower i k.is_lower))
        ∙ ap (λ (y : Bool). rowless e && y) (ap rowless k.shared ∙ sym (read-rowless f b k.upper j k.is_upper))))

    by-bounds : (p : RangeParts c d x) → Bounds p.first p.second x ⊎ Bounds p.second p.first x → rowless x ≡ (rowless c && rowless d)
    by-bounds p (inl k) = both p.first p.second c d p.reads_first p.reads_second k
    by-bounds p (inr k) = both p.second p.first d c p.reads_second p.reads_first k ∙ and-comm (rowless d) (rowless c)

rows : Measure Bool
unfolding rowless
rows = record {
  join = λ a b. a && b;
  assoc = and-assoc;
  comm = and-comm;
  alone = rowless;
  within = rowless;
  and_alone = λ l r. refl;
  and_within = λ l r. refl;
  range_alone = range-rowless;
  range_within = range-rowless;
}

ranged-rowless : (e : Tree) → rowless (ranged e) ≡ rowless e
unfolding rows
ranged-rowless e = alone-ranged Bool rows e

simplified-rowless : (e d : Tree) → rowless e ≡ true → simplified e ≡ Ok d → rowless d ≡ true
simplified-rowless e d r h =
    let a = and_then-ok (without_packed_fields e) (λ x. Ok (ranged x)) d h in
    stays (ranged a.given) d (ranged-rowless a.given ∙ without_packed_fields-rowless e a.given r a.was) a.gave

pub simplified_typed-rowless : (t : Ty) (e d : Tree) → rowless e ≡ true → simplified_typed t e ≡ Ok d → rowless d ≡ true
simplified_typed-rowless t e d r h =
    let a = and_then-ok (simplified e) (λ x. and_then (without_select t x) (λ y. and_then (without_merge t y) simplified)) d h in
    let b = and_then-ok (without_select t a.given) (λ y. and_then (without_merge t y) simplified) d a.gave in
    let c = and_then-ok (without_merge t b.given) simplified d b.gave in
    simplified-rowless c.given d
    (without_merge-rowless t b.given c.given (without_select-rowless t a.given b.given (simplified-rowless e a.given r a.was) b.was) c.was) c.gave
