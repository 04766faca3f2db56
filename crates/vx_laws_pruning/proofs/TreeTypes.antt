-- The pruning expression of a filter is a strictly typed boolean, and none of its nodes breaks.
use Rattle.std.proofs.Common.{◌≡◌, ℕ, refl, ap, sym, ◌∙◌, Bool, true, cond, not, ◌&&◌, Option, Some, None, subst, List, Ok}
use Rattle.std.specs.Prelude.{pos, is_some, option_map, MatchOption}
use Rattle.std.specs.Option.{option_and_then}
use Rattle.std.proofs.lemmas.Bool.{and_parts, and_from}
use Rattle.vx_dtype.specs.declared.PType.TheVariants.{U64}
use Rattle.vx_dtype.specs.declared.Nullability.{Nullability}
use Rattle.vx_dtype.specs.declared.Nullability.TheVariants.{NonNullable, Nullable}
use Rattle.vx_dtype.specs.declared.CompareOperator.{CompareOperator}
use Rattle.vx_dtype.specs.declared.CompareOperator.TheVariants.{Eq, NotEq, Gt, Gte, Lt, Lte}
use Rattle.vx_dtype.specs.declared.Stat.{Stat}
use Rattle.vx_dtype.specs.declared.Stat.TheVariants.{Min, Max, NullCount}
use Rattle.vx_dtype.specs.Types.{Bytes, Ty, bool_ty, int_ty, text_ty, list_ty, struct_ty}
use Rattle.vx_dtype.specs.TypeRules.{no_name_twice, alike, is_plain, same_ptype, with_nullability, union}
use Rattle.vx_dtype.specs.Values.{Raw, raw_null, raw_bool, raw_int, raw_text, raw_list, raw_struct, Raws, no_raws, raw, Val}
use Rattle.vx_dtype.specs.Fits.{fits, all_fit}
use Rattle.vx_dtype.specs.Order.{bound_operator}
use Rattle.vx_expr.specs.declared.Operator.{Operator}
use Rattle.vx_expr.specs.Operators.{inverse_comparison, operator_of}
use Rattle.vx_expr.specs.Trees.{Tree, literal, binary, not_of, is_null_of, between, list_contains, dynamic}
use Rattle.vx_semantics.specs.Typing.{and_then, unless, type_mismatch, duplicate_field, equal_plain, union_of, compare_type, logic_type, between_type, contains_type, dynamic_type, not_type, binary_type, typed_of}
use Rattle.vx_semantics.specs.Breaks.{break_of}
use Rattle.vx_semantics.specs.Tables.{Zones, ZoneStat, row_type}
use Rattle.vx_semantics.specs.Paths.{path_of}
use Rattle.vx_semantics.specs.Pruning.{available}
use Rattle.vx_zones.specs.Zoning.{leaf_type, statistic_type}
use Rattle.vx_passes.specs.Catalogs.{statistic_column, available_paths}
use Rattle.vx_passes.specs.Falsifying.{Question, Found, found_by, found_in, unasked, asked_for, count_of, is_zero_count, bound_of, compared_by, compared_where, one_value, bounds_falsified, are_numbers, behind_guard, comparison_falsified, outside, all_outside_after, and_of, or_of, joined_known, elements_falsified, list_falsified, contains_falsified, dynamic_falsified, falsified, negation_falsified}
use Rattle.vx_passes.specs.PruningTables.{pruning_where, pruning_over, pruning_fields}
use Rattle.vx_laws.proofs.Comparing.{same_ptype-same}
use Rattle.vx_laws.proofs.Fitting.{same_ptype-itself}
use Rattle.vx_laws.proofs.Inverting.{and_then-ok, unless-ok}
use Rattle.vx_laws_pruning.specs.PruningLaws.{AreAccepted}
use Rattle.vx_laws_pruning.specs.PruningTypes.{IsBooleanOver, node_at, PruningTreeIsTyped, PruningTreeNeverBreaks}
use Rattle.vx_laws_pruning.proofs.Columns.{answered}
use Rattle.vx_laws_pruning.proofs.Accepted.{statistic-leads, bound-type}
use Rattle.vx_laws_pruning.proofs.Bounding.{catalog_of, literal-typed, no-guard}
use Rattle.vx_laws_pruning.proofs.Ruling.{plain-alike}
use Rattle.vx_laws_pruning.proofs.Calmness.{is_calm, no_node_breaks}
use Rattle.vx_laws_pruning.proofs.ColumnTypes.{HasBlocks, column-typed, plain-distinct}

-- the type of the row of statistics
abbrev scope_of : Zones → Ty
scope_of zones = row_type (pruning_fields zones)

-- an expression that is a boolean where there are blocks, and whose nodes do not break
record IsTest (zones : Zones) (e : Tree) : Type 0 where
  typed : HasBlocks zones → IsBooleanOver (scope_of zones) e
  calm : is_calm e ≡ true

abbrev Tested : Zones → Option Tree → Type 0
Tested zones None = Unit {0}
Tested zones (Some e) = IsTest zones e

-- the same of a bound, of a type equal to this one but for nullability
record AlikeTyped (zones : Zones) (t : Ty) (e : Tree) : Type 0 where
  ty : Ty
  typed : typed_of (scope_of zones) e ≡ Ok ty
  same : alike t ty ≡ true

record IsBoundTree (zones : Zones) (t : Ty) (e : Tree) : Type 0 where
  typed : HasBlocks zones → AlikeTyped zones t e
  calm : is_calm e ≡ true

abbrev Bounding : Zones → Ty → Option Tree → Type 0
Bounding zones t None = Unit {0}
Bounding zones t (Some e) = IsBoundTree zones t e

binary-typed : (t : Ty) (op : Operator) (l r : Tree) (a b : Ty) → typed_of t l ≡ Ok a → typed_of t r ≡ Ok b → typed_of t (binary l op r) ≡ binary_type op a b
unfolding typed_of
binary-typed t op l r a b h k = ap (λ x. and_then x (λ z. and_then (typed_of t r) (binary_type op z))) h ∙ ap (λ y. and_then y (binary_type op a)) k

and-test : (zones : Zones) (x y : Tree) → IsTest zones x → IsTest zones y → IsTest zones (and_of x y)
and-test zones x y h k = record {
  typed = λ b.
      let p = h.typed b in
      let q = k.typed b in
      record { null = union p.null q.null; typed = binary-typed (scope_of zones) Operator.And x y (bool_ty p.null) (bool_ty q.null) p.typed q.typed };
  calm = and_from (is_calm x) (is_calm y) h.calm k.calm;
}

or-test : (zones : Zones) (x y : Tree) → IsTest zones x → IsTest zones y → IsTest zones (or_of x y)
or-test zones x y h k = record {
  typed = λ b.
      let p = h.typed b in
      let q = k.typed b in
      record { null = union p.null q.null; typed = binary-typed (scope_of zones) Operator.Or x y (bool_ty p.null) (bool_ty q.null) p.typed q.typed };
  calm = and_from (is_calm x) (is_calm y) h.calm k.calm;
}

either-tested : (zones : Zones) (o p : Option Tree) → Tested zones o → Tested zones p → Tested zones (joined_known or_of o p)
either-tested zones (Some x) (Some y) h k = or-test zones x y h k
either-tested zones (Some x) None h k = h
either-tested zones None p h k = k

both-tested : (zones : Zones) (o : Option Tree) (asked : List Question) (y : Found) → Tested zones o → Tested zones y.tree → Tested zones (found_by (λ x. found_in (and_of x) y) o asked).tree
both-tested zones None asked y h k = tt
both-tested zones (Some x) asked y h k = by-second y.tree k
  where
    by-second : (p : Option Tree) → Tested zones p → Tested zones (option_map (and_of x) p)
    by-second None i = tt
    by-second (Some z) i = and-test zones x z h i

-- types that are equal to a plain one but for nullability
equal_plain-both : (t a b : Ty) → is_plain t ≡ true → alike t a ≡ true → alike t b ≡ true → equal_plain a b ≡ true
unfolding alike
equal_plain-both (bool_ty n) (bool_ty m) (bool_ty k) p h i = refl
equal_plain-both (int_ty o n) (int_ty q m) (int_ty r k) p h i =
    and_from (same_ptype q r) true (subst (λ (x : _). same_ptype x r ≡ true) (same_ptype-same o q h) i) refl
equal_plain-both (text_ty n) (text_ty m) (text_ty k) p h i = refl
equal_plain-both (list_ty e n) a b p h i = let no : ⊥ = cc (p) in absurd no
equal_plain-both (struct_ty fs n) a b p h i = let no : ⊥ = cc (p) in absurd no
equal_plain-both _ _ _ p h i = let no : ⊥ = cc in absurd no

alike-nullability : (t : Ty) (n m : Nullability) → is_plain t ≡ true → alike (with_nullability t n) (with_nullability t m) ≡ true
unfolding alike
alike-nullability (bool_ty k) n m p = refl
alike-nullability (int_ty q k) n m p = same_ptype-itself q
alike-nullability (text_ty k) n m p = refl
alike-nullability (list_ty e k) n m p = let no : ⊥ = cc (p) in absurd no
alike-nullability (struct_ty fs k) n m p = let no : ⊥ = cc (p) in absurd no

alike-itself : (t : Ty) → is_plain t ≡ true → alike t t ≡ true
unfolding alike
alike-itself (bool_ty k) p = refl
alike-itself (int_ty q k) p = same_ptype-itself q
alike-itself (text_ty k) p = refl
alike-itself (list_ty e k) p = let no : ⊥ = cc (p) in absurd no
alike-itself (struct_ty fs k) p = let no : ⊥ = cc (p) in absurd no

alike-past : (t u w : Ty) → alike t u ≡ true → is_plain t ≡ true → alike u w ≡ true → alike t w ≡ true
unfolding alike
alike-past (bool_ty n) (bool_ty m) (bool_ty k) h p i = refl
alike-past (int_ty o n) (int_ty q m) (int_ty r k) h p i = subst (λ (x : _). same_ptype x r ≡ true) (sym (same_ptype-same o q h)) i
alike-past (text_ty n) (text_ty m) (text_ty k) h p i = refl
alike-past (list_ty e n) u w h p i = let no : ⊥ = cc (p) in absurd no
alike-past (struct_ty fs n) u w h p i = let no : ⊥ = cc (p) in absurd no
alike-past _ _ _ h p i = let no : ⊥ = cc in absurd no

comparison-type : (op : CompareOperator) (a b : Ty) → binary_type (operator_of op) a b ≡ compare_type a b
comparison-type Eq a b = refl
comparison-type NotEq a b = refl
comparison-type Gt a b = refl
comparison-type Gte a b = refl
comparison-type Lt a b = refl
comparison-type Lte a b = refl

comparison-calm : (op : CompareOperator) (x y : Tree) → is_calm (compared_by op x y) ≡ (is_calm x && is_calm y)
comparison-calm Eq x y = refl
comparison-calm NotEq x y = refl
comparison-calm Gt x y = refl
comparison-calm Gte x y = refl
comparison-calm Lt x y = refl
comparison-calm Lte x y = refl

compare-test : (zones : Zones) (t : Ty) (op : CompareOperator) (x y : Tree) → is_plain t ≡ true → IsBoundTree zones t x → IsBoundTree zones t y → IsTest zones (compared_by op x y)
compare-test zones t op x y p h k = record {
  typed = λ b.
      let q = h.typed b in
      let r = k.typed b in
      record {
        null = union_of q.ty r.ty;
        typed =
            binary-typed (scope_of zones) (operator_of op) x y q.ty r.ty q.typed r.typed
            ∙ (comparison-type op q.ty r.ty ∙ ap (λ (c : Bool). unless c type_mismatch (Ok (bool_ty (union_of q.ty r.ty)))) (equal_plain-both t q.ty r.ty p q.same r.same));
      };
  calm = comparison-calm op x y ∙ and_from (is_calm x) (is_calm y) h.calm k.calm;
}

compared-tested : (zones : Zones) (t : Ty) (op : CompareOperator) (o p : Option Tree) → is_plain t ≡ true → Bounding zones t o → Bounding zones t p → Tested zones (compared_where op o p)
compared-tested zones t op (Some x) (Some y) q h k = compare-test zones t op x y q h k
compared-tested zones t op (Some x) None q h k = tt
compared-tested zones t op None p q h k = tt

both-compared : (zones : Zones) (t : Ty) (op : CompareOperator) (o : Option Tree) (asked : List Question) (y : Found) → is_plain t ≡ true → Bounding zones t o → Bounding zones t y.tree
    → Tested zones (found_by (λ x. found_in (compared_by op x) y) o asked).tree
both-compared zones t op None asked y q h k = tt
both-compared zones t op (Some x) asked y q h k = by-second y.tree k
  where
    by-second : (p : Option Tree) → Bounding zones t p → Tested zones (option_map (compared_by op x) p)
    by-second None i = tt
    by-second (Some z) i = compare-test zones t op x z q h i

inequality-tested : (zones : Zones) (t : Ty) (o p q : Option Tree) (asked more most : List Question) (y : Found) → is_plain t ≡ true → Bounding zones t o → Bounding zones t p → Bounding zones t q
    → Bounding zones t y.tree → Tested zones (found_by (λ u. found_by (λ v. found_by (λ w. found_in (one_value u v w) y) q most) p more) o asked).tree
inequality-tested zones t None p q asked more most y s e f g h = tt
inequality-tested zones t (Some u) None q asked more most y s e f g h = tt
inequality-tested zones t (Some u) (Some v) None asked more most y s e f g h = tt
inequality-tested zones t (Some u) (Some v) (Some w) asked more most y s e f g h = by-last y.tree h
  where
    by-last : (r : Option Tree) → Bounding zones t r → Tested zones (option_map (one_value u v w) r)
    by-last None i = tt
    by-last (Some x) i = and-test zones (compared_by Eq u x) (compared_by Eq v w) (compare-test zones t Eq u x s e i) (compare-test zones t Eq v w s f g)

-- what stands for the bounds of an operand
path-tree : (zones : Zones) (stat : Stat) (t : Ty) (o : Option (List Bytes))
    → ((path : List Bytes) → o ≡ Some path → (z : ZoneStat) → available zones path stat ≡ Some z → HasBlocks zones → AlikeTyped zones t (statistic_column path stat))
    → Bounding zones t (asked_for (catalog_of zones) stat o).tree
path-tree zones stat t None h = tt
path-tree zones stat t (Some path) h = subst (Bounding zones t) (sym (answered zones path stat)) (by-statistic (available zones path stat) refl)
  where
    by-statistic : (o : Option ZoneStat) → available zones path stat ≡ o → Bounding zones t (cond (is_some o) (Some (statistic_column path stat)) None)
    by-statistic None e = tt
    by-statistic (Some z) e = record { typed = h path refl z e; calm = refl }

operand-tree : (zones : Zones) (stat : Stat) (t : Ty) (e : Tree) → AreAccepted zones → ((u : Ty) → statistic_type stat u ≡ Some u) → typed_of (row_type zones.columns) e ≡ Ok t → is_plain t ≡ true
    → Bounding zones t (bound_of (catalog_of zones) stat e).tree
unfolding typed_of
operand-tree zones stat t (literal s) a b h p = record { typed = λ _. record { ty = t; typed = h; same = alike-itself t p }; calm = refl }
operand-tree zones stat t e a b h p =
    path-tree zones stat t (path_of e) (λ path i z v c.
    let x = bound-type zones.columns e t path i h p in
    record {
      ty = with_nullability x.own Nullable;
      typed = column-typed zones a c path stat z x.own v (ap (option_and_then (statistic_type stat)) x.leaf ∙ b x.own);
      same = ap (λ (u : Ty). alike u (with_nullability x.own Nullable)) x.is ∙ alike-nullability x.own x.null Nullable x.plain;
    })

-- both bounds of an operand of a plain type
record OperandTrees (zones : Zones) (t : Ty) (e : Tree) : Type 0 where
  least : Bounding zones t (bound_of (catalog_of zones) Min e).tree
  greatest : Bounding zones t (bound_of (catalog_of zones) Max e).tree

operand-trees : (zones : Zones) (t : Ty) (e : Tree) → AreAccepted zones → typed_of (row_type zones.columns) e ≡ Ok t → is_plain t ≡ true → OperandTrees zones t e
operand-trees zones t e a h p = record { least = operand-tree zones Min t e a (λ u. refl) h p; greatest = operand-tree zones Max t e a (λ u. refl) h p }

bounding-alike : (zones : Zones) (t u : Ty) (o : Option Tree) → alike t u ≡ true → is_plain t ≡ true → Bounding zones u o → Bounding zones t o
bounding-alike zones t u None h p i = tt
bounding-alike zones t u (Some e) h p i = record {
  typed = λ b. let x = i.typed b in record { ty = x.ty; typed = x.typed; same = alike-past t u x.ty h p x.same };
  calm = i.calm;
}

other-trees : (zones : Zones) (t u : Ty) (e : Tree) → AreAccepted zones → equal_plain t u ≡ true → typed_of (row_type zones.columns) e ≡ Ok u → OperandTrees zones t e
other-trees zones t u e a h k =
    let parts = and_parts (alike t u) (is_plain t) h in
    let own = operand-trees zones u e a k (plain-alike t u parts.0 parts.1) in
    record {
      least = bounding-alike zones t u (bound_of (catalog_of zones) Min e).tree parts.0 parts.1 own.least;
      greatest = bounding-alike zones t u (bound_of (catalog_of zones) Max e).tree parts.0 parts.1 own.greatest;
    }

-- the two operands of a comparison
record Compared (zones : Zones) (l r : Tree) : Type 0 where
  ty : Ty
  plain : is_plain ty ≡ true
  left : OperandTrees zones ty l
  right : OperandTrees zones ty r

compared-operands : (zones : Zones) (l r : Tree) (u : Ty) → AreAccepted zones
    → and_then (typed_of (row_type zones.columns) l) (λ a. and_then (typed_of (row_type zones.columns) r) (compare_type a)) ≡ Ok u → Compared zones l r
compared-operands zones l r u a h =
    let t = row_type zones.columns in
    let x = and_then-ok (typed_of t l) (λ z. and_then (typed_of t r) (compare_type z)) u h in
    let y = and_then-ok (typed_of t r) (compare_type x.given) u x.gave in
    let z = unless-ok (equal_plain x.given y.given) type_mismatch (Ok (bool_ty (union_of x.given y.given))) u y.gave in
    let plain = (and_parts (alike x.given y.given) (is_plain x.given) z.holds).1 in
    record { ty = x.given; plain = plain; left = operand-trees zones x.given l a x.was plain; right = other-trees zones x.given y.given r a z.holds y.was }

-- the three operands of a range
record Ranged (zones : Zones) (e lower upper : Tree) : Type 0 where
  low : Compared zones lower e
  high : Compared zones e upper

ranged-operands : (zones : Zones) (e lower upper : Tree) (u : Ty) → AreAccepted zones
    → and_then (typed_of (row_type zones.columns) e) (λ a. and_then (typed_of (row_type zones.columns) lower) (λ b. and_then (typed_of (row_type zones.columns) upper) (between_type a b))) ≡ Ok u
    → Ranged zones e lower upper
ranged-operands zones e lower upper u a h =
    let t = row_type zones.columns in
    let x = and_then-ok (typed_of t e) (λ v. and_then (typed_of t lower) (λ w. and_then (typed_of t upper) (between_type v w))) u h in
    let y = and_then-ok (typed_of t lower) (λ w. and_then (typed_of t upper) (between_type x.given w)) u x.gave in
    let z = and_then-ok (typed_of t upper) (between_type x.given y.given) u y.gave in
    let made = unless-ok (equal_plain x.given y.given && equal_plain x.given z.given) type_mismatch _ u z.gave in
    let parts = and_parts (equal_plain x.given y.given) (equal_plain x.given z.given) made.holds in
    let plain = (and_parts (alike x.given y.given) (is_plain x.given) parts.0).1 in
    let own = operand-trees zones x.given e a x.was plain in
    record {
      low = record { ty = x.given; plain = plain; left = other-trees zones x.given y.given lower a parts.0 y.was; right = own };
      high = record { ty = x.given; plain = plain; left = own; right = other-trees zones x.given z.given upper a parts.1 z.was };
    }

bounds-tested : (zones : Zones) (t : Ty) (op : CompareOperator) (l r : Tree) → is_plain t ≡ true → OperandTrees zones t l → OperandTrees zones t r → Tested zones (bounds_falsified (catalog_of zones) op l r).tree
bounds-tested zones t Gt l r p h k = both-compared zones t Lte (bound_of (catalog_of zones) Max l).tree _ (bound_of (catalog_of zones) Min r) p h.greatest k.least
bounds-tested zones t Gte l r p h k = both-compared zones t Lt (bound_of (catalog_of zones) Max l).tree _ (bound_of (catalog_of zones) Min r) p h.greatest k.least
bounds-tested zones t Lt l r p h k = both-compared zones t Gte (bound_of (catalog_of zones) Min l).tree _ (bound_of (catalog_of zones) Max r) p h.least k.greatest
bounds-tested zones t Lte l r p h k = both-compared zones t Gt (bound_of (catalog_of zones) Min l).tree _ (bound_of (catalog_of zones) Max r) p h.least k.greatest
bounds-tested zones t Eq l r p h k =
    either-tested zones (compared_where Gt (bound_of (catalog_of zones) Min l).tree (bound_of (catalog_of zones) Max r).tree)
    (compared_where Gt (bound_of (catalog_of zones) Min r).tree (bound_of (catalog_of zones) Max l).tree)
    (compared-tested zones t Gt (bound_of (catalog_of zones) Min l).tree (bound_of (catalog_of zones) Max r).tree p h.least k.greatest)
    (compared-tested zones t Gt (bound_of (catalog_of zones) Min r).tree (bound_of (catalog_of zones) Max l).tree p k.least h.greatest)
bounds-tested zones t NotEq l r p h k =
    inequality-tested zones t (bound_of (catalog_of zones) Min l).tree (bound_of (catalog_of zones) Max l).tree (bound_of (catalog_of zones) Min r).tree _ _ _ (bound_of (catalog_of zones) Max r) p
    h.least h.greatest k.least k.greatest

compares-tested : (zones : Zones) (op : CompareOperator) (l r : Tree) → AreAccepted zones → Compared zones l r → Tested zones (comparison_falsified (catalog_of zones) l r op).tree
compares-tested zones op l r a c =
    behind (bounds_falsified (catalog_of zones) op l r).tree (are_numbers (catalog_of zones) l r).tree _ _ (no-guard zones l r a) (bounds-tested zones c.ty op l r c.plain c.left c.right)
  where
    behind : (o guard : Option Tree) (asked more : List Question) → guard ≡ None → Tested zones o → Tested zones (found_by (λ e. record { tree = Some (behind_guard guard e); asked = more }) o asked).tree
    behind None guard asked more e i = tt
    behind (Some x) guard asked more e i = subst (λ (g : Option Tree). IsTest zones (behind_guard g x)) (sym e) i

-- constants
constant-tree : (zones : Zones) (t u : Ty) (x : Raw) → is_plain u ≡ true → fits x u ≡ true → alike t u ≡ true → IsBoundTree zones t (literal (record { ty = u; value = x }))
unfolding typed_of
constant-tree zones t u x p f h = record {
  typed = λ _. record {
    ty = u;
    typed =
        ap (λ (c : Bool). and_then (unless c duplicate_field (Ok u)) (λ v. unless (fits x v) type_mismatch (Ok v))) (plain-distinct u p)
        ∙ ap (λ (c : Bool). unless c type_mismatch (Ok u)) f;
    same = h;
  };
  calm = refl;
}

-- a null test, by the count of nulls
count-type : (o : Option Ty) → is_some (option_and_then (statistic_type NullCount) o) ≡ true → option_and_then (statistic_type NullCount) o ≡ Some (int_ty U64 NonNullable)
count-type None e = let no : ⊥ = cc in absurd no
count-type (Some t) e = refl

null-tested : (zones : Zones) (e : Tree) → AreAccepted zones → Tested zones (found_in is_zero_count (count_of (catalog_of zones) NullCount e)).tree
unfolding fits alike
null-tested zones e a =
    by-count (count_of (catalog_of zones) NullCount e).tree
    (path-tree zones NullCount (int_ty U64 NonNullable) (path_of e) (λ path i z v c.
    record {
      ty = int_ty U64 Nullable;
      typed = column-typed zones a c path NullCount z (int_ty U64 NonNullable) v (count-type (leaf_type zones.columns path) (statistic-leads zones a path NullCount z v));
      same = refl;
    }))
  where
    by-count : (o : Option Tree) → Bounding zones (int_ty U64 NonNullable) o → Tested zones (option_map is_zero_count o)
    by-count None h = tt
    by-count (Some x) h =
        compare-test zones (int_ty U64 NonNullable) Eq x (literal (record { ty = int_ty U64 NonNullable; value = raw_int (pos 0) })) refl h
        (constant-tree zones (int_ty U64 NonNullable) (int_ty U64 NonNullable) (raw_int (pos 0)) refl refl refl)

-- membership in a constant list
outside-test : (zones : Zones) (t u : Ty) (greatest least : Tree) (x : Raw) → is_plain t ≡ true → alike t u ≡ true → IsBoundTree zones t greatest → IsBoundTree zones t least → fits x u ≡ true
    → IsTest zones (outside greatest least (literal (record { ty = u; value = x })))
outside-test zones t u greatest least x p h g l f =
    let c = constant-tree zones t u x (plain-alike t u h p) f h in
    let v = literal (record { ty = u; value = x }) in
    or-test zones (compared_by Lt greatest v) (compared_by Gt least v) (compare-test zones t Lt greatest v p g c) (compare-test zones t Gt least v p l c)

outside-all : (zones : Zones) (t u : Ty) (greatest least : Tree) → is_plain t ≡ true → alike t u ≡ true → IsBoundTree zones t greatest → IsBoundTree zones t least → (xs : Raws) → all_fit xs u ≡ true
    → (e : Tree) → IsTest zones e → IsTest zones (all_outside_after greatest least u e xs)
unfolding fits
outside-all zones t u greatest least p h g l no_raws f e i = i
outside-all zones t u greatest least p h g l (raw x xs) f e i =
    let parts = and_parts (fits x u) (all_fit xs u) f in
    let out = outside greatest least (literal (record { ty = u; value = x })) in
    outside-all zones t u greatest least p h g l xs parts.1 (and_of e out) (and-test zones e out i (outside-test zones t u greatest least x p h g l parts.0))

elements-by : (zones : Zones) (t u : Ty) (x : Raw) (xs : Raws) → is_plain t ≡ true → alike t u ≡ true → all_fit (raw x xs) u ≡ true → (o p : Option Tree) (asked more : List Question)
    → Bounding zones t o → Bounding zones t p
    → Tested zones
    (found_by (λ greatest. found_by (λ least. unasked (all_outside_after greatest least u (outside greatest least (literal (record { ty = u; value = x }))) xs)) p more) o asked).tree
unfolding fits
elements-by zones t u x xs q h f None p asked more i j = tt
elements-by zones t u x xs q h f (Some g) None asked more i j = tt
elements-by zones t u x xs q h f (Some g) (Some l) asked more i j =
    let parts = and_parts (fits x u) (all_fit xs u) f in
    outside-all zones t u g l q h i j xs parts.1 (outside g l (literal (record { ty = u; value = x }))) (outside-test zones t u g l x q h i j parts.0)

elements-tested : (zones : Zones) (t u : Ty) (e : Tree) (xs : Raws) → is_plain t ≡ true → alike t u ≡ true → all_fit xs u ≡ true → OperandTrees zones t e
    → Tested zones (elements_falsified (catalog_of zones) e u xs).tree
unfolding typed_of fits no_name_twice
elements-tested zones t u e no_raws p h f o = record { typed = λ _. record { null = NonNullable; typed = refl }; calm = refl }
elements-tested zones t u e (raw x xs) p h f o =
    elements-by zones t u x xs p h f (bound_of (catalog_of zones) Max e).tree (bound_of (catalog_of zones) Min e).tree _ _ o.greatest o.least

list-tested : (zones : Zones) (t u w : Ty) (e : Tree) (v : Raw) → AreAccepted zones → contains_type t u ≡ Ok w → fits v t ≡ true → typed_of (row_type zones.columns) e ≡ Ok u
    → Tested zones (list_falsified (catalog_of zones) e t v).tree
unfolding fits
list-tested zones (list_ty d n) u w e (raw_list xs) a h f k =
    let made = unless-ok (equal_plain d u) type_mismatch _ w h in
    let parts = and_parts (alike d u) (is_plain d) made.holds in
    elements-tested zones d d e xs parts.1 (alike-itself d parts.1) f (other-trees zones d u e a made.holds k)
list-tested zones (list_ty d n) u w e raw_null a h f k = tt
list-tested zones (list_ty d n) u w e (raw_bool b) a h f k = tt
list-tested zones (list_ty d n) u w e (raw_int i) a h f k = tt
list-tested zones (list_ty d n) u w e (raw_text s) a h f k = tt
list-tested zones (list_ty d n) u w e (raw_struct xs) a h f k = tt
list-tested zones _ u w e v a h f k = let no : ⊥ = cc (h) in absurd no

contains-tested : (zones : Zones) (l e : Tree) (w : Ty) → AreAccepted zones
    → and_then (typed_of (row_type zones.columns) l) (λ a. and_then (typed_of (row_type zones.columns) e) (contains_type a)) ≡ Ok w → Tested zones (contains_falsified (catalog_of zones) l e).tree
contains-tested zones (literal s) e w a h =
    let t = row_type zones.columns in
    let x = and_then-ok (typed_of t (literal s)) (λ v. and_then (typed_of t e) (contains_type v)) w h in
    let y = and_then-ok (typed_of t e) (contains_type x.given) w x.gave in
    let c = literal-typed t s x.given x.was in
    list-tested zones s.ty y.given w e s.value a (ap (λ (v : Ty). contains_type v y.given) c.is ∙ y.gave) c.fitting y.was
contains-tested zones _ e w a h = tt

-- a comparison with a slot
slot-tested : (zones : Zones) (t u : Ty) (op : CompareOperator) (n : ℕ) (default : Bool) (o : Option Tree) → equal_plain t u ≡ true → Bounding zones t o
    → Tested zones (option_map (λ b. dynamic b op n u (not default)) o)
unfolding typed_of
slot-tested zones t u op n default None h i = tt
slot-tested zones t u op n default (Some x) h i =
    let parts = and_parts (alike t u) (is_plain t) h in
    record {
      typed = λ b.
          let y = i.typed b in
          record {
            null = union_of y.ty u;
            typed =
                ap (λ r. and_then r (dynamic_type u)) y.typed
                ∙ ap (λ (c : Bool). unless c type_mismatch (Ok (bool_ty (union_of y.ty u)))) (equal_plain-both t y.ty u parts.1 y.same parts.0);
          };
      calm = i.calm;
    }

dynamic-tested : (zones : Zones) (u w : Ty) (e : Tree) (op : CompareOperator) (n : ℕ) (default : Bool) → AreAccepted zones → and_then (typed_of (row_type zones.columns) e) (dynamic_type u) ≡ Ok w
    → Tested zones (dynamic_falsified (catalog_of zones) e op (λ o. λ b. dynamic b o n u (not default))).tree
dynamic-tested zones u w e op n default a h =
    let x = and_then-ok (typed_of (row_type zones.columns) e) (dynamic_type u) w h in
    let y = unless-ok (equal_plain x.given u) type_mismatch _ w x.gave in
    by-operator op x.given y.holds (operand-trees zones x.given e a x.was (and_parts (alike x.given u) (is_plain x.given) y.holds).1)
  where
    by-operator : (o : CompareOperator) (t : Ty) → equal_plain t u ≡ true → OperandTrees zones t e → Tested zones (dynamic_falsified (catalog_of zones) e o (λ c. λ b. dynamic b c n u (not default))).tree
    by-operator Gt t i j = slot-tested zones t u Lte n default (bound_of (catalog_of zones) Max e).tree i j.greatest
    by-operator Gte t i j = slot-tested zones t u Lt n default (bound_of (catalog_of zones) Max e).tree i j.greatest
    by-operator Lt t i j = slot-tested zones t u Gte n default (bound_of (catalog_of zones) Min e).tree i j.least
    by-operator Lte t i j = slot-tested zones t u Gt n default (bound_of (catalog_of zones) Min e).tree i j.least
    by-operator Eq t i j = tt
    by-operator NotEq t i j = tt

-- the types of the two sides of a connective
record Sides (t : Ty) (l r : Tree) : Type 0 where
  left : Ty
  right : Ty
  is_left : typed_of t l ≡ Ok left
  is_right : typed_of t r ≡ Ok right

sides : (t : Ty) (l r : Tree) (u : Ty) → and_then (typed_of t l) (λ a. and_then (typed_of t r) (logic_type a)) ≡ Ok u → Sides t l r
sides t l r u h =
    let x = and_then-ok (typed_of t l) (λ z. and_then (typed_of t r) (logic_type z)) u h in
    let y = and_then-ok (typed_of t r) (logic_type x.given) u x.gave in
    record { left = x.given; right = y.given; is_left = x.was; is_right = y.was }

mutual
  unfolding falsified typed_of

  falsified-tested : (zones : Zones) (e : Tree) (u : Ty) → AreAccepted zones → typed_of (row_type zones.columns) e ≡ Ok u → Tested zones (falsified (catalog_of zones) e).tree
  falsified-tested zones (binary l Operator.And r) u a h =
      let s = sides (row_type zones.columns) l r u h in
      either-tested zones (falsified (catalog_of zones) l).tree (falsified (catalog_of zones) r).tree (falsified-tested zones l s.left a s.is_left) (falsified-tested zones r s.right a s.is_right)
  falsified-tested zones (binary l Operator.Or r) u a h =
      let s = sides (row_type zones.columns) l r u h in
      both-tested zones (falsified (catalog_of zones) l).tree (falsified (catalog_of zones) l).asked (falsified (catalog_of zones) r) (falsified-tested zones l s.left a s.is_left) (falsified-tested zones r s.right a s.is_right)
  falsified-tested zones (binary l Operator.Eq r) u a h = compares-tested zones Eq l r a (compared-operands zones l r u a h)
  falsified-tested zones (binary l Operator.NotEq r) u a h = compares-tested zones NotEq l r a (compared-operands zones l r u a h)
  falsified-tested zones (binary l Operator.Gt r) u a h = compares-tested zones Gt l r a (compared-operands zones l r u a h)
  falsified-tested zones (binary l Operator.Gte r) u a h = compares-tested zones Gte l r a (compared-operands zones l r u a h)
  falsified-tested zones (binary l Operator.Lt r) u a h = compares-tested zones Lt l r a (compared-operands zones l r u a h)
  falsified-tested zones (binary l Operator.Lte r) u a h = compares-tested zones Lte l r a (compared-operands zones l r u a h)
  falsified-tested zones (binary l Operator.Add r) u a h = tt
  falsified-tested zones (binary l Operator.Sub r) u a h = tt
  falsified-tested zones (between e lower upper options) u a h =
      let o = ranged-operands zones e lower upper u a h in
      either-tested zones (comparison_falsified (catalog_of zones) lower e (bound_operator options.lower_strict)).tree (comparison_falsified (catalog_of zones) e upper (bound_operator options.upper_strict)).tree
      (compares-tested zones (bound_operator options.lower_strict) lower e a o.low) (compares-tested zones (bound_operator options.upper_strict) e upper a o.high)
  falsified-tested zones (is_null_of e) u a h = null-tested zones e a
  falsified-tested zones (list_contains l e) u a h = contains-tested zones l e u a h
  falsified-tested zones (dynamic e op n t default) u a h = dynamic-tested zones t u e op n default a h
  falsified-tested zones (not_of e) u a h =
      let x = and_then-ok (typed_of (row_type zones.columns) e) not_type u h in
      negation-tested zones e x.given a x.was
  falsified-tested zones _ u a h = tt

  negation-tested : (zones : Zones) (e : Tree) (u : Ty) → AreAccepted zones → typed_of (row_type zones.columns) e ≡ Ok u → Tested zones (negation_falsified (catalog_of zones) e).tree
  negation-tested zones (binary l Operator.And r) u a h =
      let s = sides (row_type zones.columns) l r u h in
      both-tested zones (negation_falsified (catalog_of zones) l).tree (negation_falsified (catalog_of zones) l).asked (negation_falsified (catalog_of zones) r) (negation-tested zones l s.left a s.is_left) (negation-tested zones r s.right a s.is_right)
  negation-tested zones (binary l Operator.Or r) u a h =
      let s = sides (row_type zones.columns) l r u h in
      either-tested zones (negation_falsified (catalog_of zones) l).tree (negation_falsified (catalog_of zones) r).tree (negation-tested zones l s.left a s.is_left) (negation-tested zones r s.right a s.is_right)
  negation-tested zones (binary l Operator.Eq r) u a h = compares-tested zones NotEq l r a (compared-operands zones l r u a h)
  negation-tested zones (binary l Operator.NotEq r) u a h = compares-tested zones Eq l r a (compared-operands zones l r u a h)
  negation-tested zones (binary l Operator.Gt r) u a h = compares-tested zones Lte l r a (compared-operands zones l r u a h)
  negation-tested zones (binary l Operator.Gte r) u a h = compares-tested zones Lt l r a (compared-operands zones l r u a h)
  negation-tested zones (binary l Operator.Lt r) u a h = compares-tested zones Gte l r a (compared-operands zones l r u a h)
  negation-tested zones (binary l Operator.Lte r) u a h = compares-tested zones Gt l r a (compared-operands zones l r u a h)
  negation-tested zones (binary l Operator.Add r) u a h = tt
  negation-tested zones (binary l Operator.Sub r) u a h = tt
  negation-tested zones (between e lower upper options) u a h =
      let o = ranged-operands zones e lower upper u a h in
      both-tested zones (comparison_falsified (catalog_of zones) lower e (inverse_comparison (bound_operator options.lower_strict))).tree
      (comparison_falsified (catalog_of zones) lower e (inverse_comparison (bound_operator options.lower_strict))).asked
      (comparison_falsified (catalog_of zones) e upper (inverse_comparison (bound_operator options.upper_strict)))
      (compares-tested zones (inverse_comparison (bound_operator options.lower_strict)) lower e a o.low) (compares-tested zones (inverse_comparison (bound_operator options.upper_strict)) e upper a o.high)
  negation-tested zones (not_of e) u a h =
      let x = and_then-ok (typed_of (row_type zones.columns) e) not_type u h in
      falsified-tested zones e x.given a x.was
  negation-tested zones _ u a h = tt

pub pruning_tree_is_typed : PruningTreeIsTyped
pruning_tree_is_typed zones slots e block p h =
    by-tree (falsified (catalog_of zones) e).tree (falsified (catalog_of zones) e).asked (falsified-tested zones e p.ty p.accepted p.typed)
  where
    by-tree : (o : Option Tree) (asked : List Question) → Tested zones o → MatchOption (pruning_where (catalog_of zones) o asked) (Unit {0}) (λ x. IsBooleanOver (scope_of zones) x.tree)
    by-tree None asked i = tt
    by-tree (Some x) asked i = i.typed (record { block = block; within = h })

pub pruning_tree_never_breaks : PruningTreeNeverBreaks
pruning_tree_never_breaks zones slots e p =
    by-tree (falsified (catalog_of zones) e).tree (falsified (catalog_of zones) e).asked (falsified-tested zones e p.ty p.accepted p.typed)
  where
    by-tree : (o : Option Tree) (asked : List Question) → Tested zones o
        → MatchOption (pruning_where (catalog_of zones) o asked) (Unit {0}) (λ x. (row : Val) (places : List ℕ) (node : Tree) → node_at places x.tree ≡ Some node → break_of (scope_of zones) slots row node ≡ None)
    by-tree None asked i = tt
    by-tree (Some x) asked i = λ row places node h. no_node_breaks (scope_of zones) slots row places x node i.calm h

-- the pruning expression has no sum, difference or cast
pub pruning_tree_is_calm : (zones : Zones) (e : Tree) (u : Ty) → AreAccepted zones → typed_of (row_type zones.columns) e ≡ Ok u → MatchOption (pruning_over (available_paths zones) e) (Unit {0}) (λ p. is_calm p.tree ≡ true)
pruning_tree_is_calm zones e u a h = by-tree (falsified (catalog_of zones) e).tree (falsified (catalog_of zones) e).asked (falsified-tested zones e u a h)
  where
    by-tree : (o : Option Tree) (asked : List Question) → Tested zones o → MatchOption (pruning_where (catalog_of zones) o asked) (Unit {0}) (λ x. is_calm x.tree ≡ true)
    by-tree None asked i = tt
    by-tree (Some x) asked i = i.calm
