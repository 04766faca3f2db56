-- Two conjuncts make a range exactly where both are bounds of one field access, one from below and one from above.
use Rattle.std.proofs.Common.{◌≡◌, refl, ap, sym, ◌∙◌, Bool, true, false, cond, not, ◌&&◌, ◌||◌, Option, Some, None}
use Rattle.std.specs.Prelude.{is_some}
use Rattle.std.specs.Option.{option_and_then, option_or}
use Rattle.std.proofs.lemmas.Bool.{and_parts}
use Rattle.vx_dtype.specs.declared.StrictComparison.{StrictComparison}
use Rattle.vx_expr.specs.declared.Operator.{Operator}
use Rattle.vx_expr.specs.Children.{is_get_item, literal_of}
use Rattle.vx_expr.specs.Equal.{tree_eq}
use Rattle.vx_expr.specs.EqualLaws.{tree_eq-same}
use Rattle.vx_expr.specs.Trees.{Tree, get_item, binary, between}
use Rattle.vx_passes.specs.Ranges.{Reading, from_left, from_right, share_access, bound_below, bound_above, range_where, range_between, range_of_readings, range_of_four, range_of}
use Rattle.vx_transform.specs.Pairs.{is_bound, as_bound, bound_of, range_of_bounds, range_of_both, is_from_below, bounds_by, bounds_below, bounds_above}

-- ---- tests of one reading

-- no operator bounds from both sides
pub one_sided : (op : Operator) → is_some (bound_below op) ≡ true → bound_above op ≡ None
one_sided Operator.Gt h = refl
one_sided Operator.Gte h = refl
one_sided _ h = let no : ⊥ = cc in absurd no

-- nor does one bound from below that bounds from above
pub other_sided : (op : Operator) → is_some (bound_above op) ≡ true → bound_below op ≡ None
other_sided Operator.Lt h = refl
other_sided Operator.Lte h = refl
other_sided _ h = let no : ⊥ = cc in absurd no

item_no_literal : (e : Tree) → is_get_item e ≡ true → is_some (literal_of e) ≡ false
item_no_literal (get_item f e) h = refl
item_no_literal _ h = let no : ⊥ = cc in absurd no

-- what is compared with a field access is no bound
item_no_bound : (a : Reading) → is_get_item a.other ≡ true → as_bound a ≡ None
item_no_bound a h = by-item (is_get_item a.operand)
  where
    by-item : (b : Bool) → cond (b && (is_some (literal_of a.other) && (is_some (bound_below a.operator) || is_some (bound_above a.operator)))) (Some a) None ≡ None
    by-item true = ap (λ (c : Bool). cond (c && (is_some (bound_below a.operator) || is_some (bound_above a.operator))) (Some a) None) (item_no_literal a.other h)
    by-item false = refl

-- nor is what is compared with itself
same_no_bound : (a : Reading) → a.operand ≡ a.other → as_bound a ≡ None
same_no_bound a same = by-item (is_get_item a.operand) refl
  where
    by-item : (b : Bool) → is_get_item a.operand ≡ b → as_bound a ≡ None
    by-item true e = item_no_bound a (ap is_get_item (sym same) ∙ e)
    by-item false e = ap (λ (c : Bool). cond (c && (is_some (literal_of a.other) && (is_some (bound_below a.operator) || is_some (bound_above a.operator)))) (Some a) None) e

-- ---- two readings

no_lower : (e lower upper : Tree) (above : Option StrictComparison) → range_where e lower upper None above ≡ None
no_lower e lower upper above = refl

no_upper : (e lower upper : Tree) (below : Option StrictComparison) → range_where e lower upper below None ≡ None
no_upper e lower upper None = refl
no_upper e lower upper (Some s) = refl

-- no range where an operator bounds from no side
no_first : (a b : Reading) → (is_some (bound_below a.operator) || is_some (bound_above a.operator)) ≡ false → option_or (range_between a b) (range_between b a) ≡ None
no_first a b h = by-sides (bound_below a.operator) (bound_above a.operator) h
  where
    by-sides : (o p : Option StrictComparison) → (is_some o || is_some p) ≡ false
        → option_or (range_where a.operand a.other b.other o (bound_above b.operator)) (range_where b.operand b.other a.other (bound_below b.operator) p) ≡ None
    by-sides None None i = no_upper b.operand b.other a.other (bound_below b.operator)
    by-sides None (Some s) i = let no : ⊥ = cc in absurd no
    by-sides (Some s) p i = let no : ⊥ = cc in absurd no

no_second : (a b : Reading) → (is_some (bound_below b.operator) || is_some (bound_above b.operator)) ≡ false → option_or (range_between a b) (range_between b a) ≡ None
no_second a b h = by-sides (bound_below b.operator) (bound_above b.operator) h
  where
    by-sides : (o p : Option StrictComparison) → (is_some o || is_some p) ≡ false
        → option_or (range_where a.operand a.other b.other (bound_below a.operator) p) (range_where b.operand b.other a.other o (bound_above a.operator)) ≡ None
    by-sides None None i = ap (λ (o : Option Tree). option_or o None) (no_upper a.operand a.other b.other (bound_below a.operator))
    by-sides None (Some s) i = let no : ⊥ = cc in absurd no
    by-sides (Some s) p i = let no : ⊥ = cc in absurd no

both_by : (p q : Bool) (a b : Reading) → range_of_both (cond p (Some a) None) (cond q (Some b) None) ≡ cond (p && q) (range_of_bounds a b) None
both_by true true a b = refl
both_by true false a b = refl
both_by false q a b = refl

cond-same : (b : Bool) (x : Option Tree) → x ≡ cond b x x
cond-same true x = refl
cond-same false x = refl

-- one access, the same operand, the other access; constants on both sides; operators that bound on both sides
by_tests : (g t h l m s u : Bool) (x : Option Tree) → (t ≡ true → h ≡ g) → (s ≡ false → x ≡ None) → (u ≡ false → x ≡ None)
    → cond (g && t) (cond (l && m) x None) None ≡ cond ((g && (l && s)) && (h && (m && u))) (cond t x None) None
by_tests false t h l m s u x i j k = refl
by_tests true false h l m s u x i j k = cond-same ((l && s) && (h && (m && u))) None
by_tests true true false l m s u x i j k = let e : false ≡ true = i refl in let no : ⊥ = cc in absurd no
by_tests true true true false m s u x i j k = refl
by_tests true true true true false s u x i j k = by-side s
  where
    by-side : (b : Bool) → None ≡ cond (b && false) x None
    by-side true = refl
    by-side false = refl
by_tests true true true true true true true x i j k = refl
by_tests true true true true true true false x i j k = k refl
by_tests true true true true true false u x i j k = j refl

-- the range of two readings, where they share a field access, is that of the bounds that they are
shared_range : (a b : Reading) → cond (share_access (a, b)) (range_of_readings (a, b)) None ≡ range_of_both (as_bound a) (as_bound b)
shared_range a b =
    by_tests (is_get_item a.operand) (tree_eq a.operand b.operand) (is_get_item b.operand) (is_some (literal_of a.other)) (is_some (literal_of b.other))
    (is_some (bound_below a.operator) || is_some (bound_above a.operator)) (is_some (bound_below b.operator) || is_some (bound_above b.operator))
    (option_or (range_between a b) (range_between b a)) (λ e. sym (ap is_get_item (tree_eq-same a.operand b.operand e))) (no_first a b) (no_second a b)
    ∙ sym (both_by (is_bound a) (is_bound b) a b)

-- ---- two conjuncts

or_none : (x : Option Reading) → option_or x None ≡ x
or_none None = refl
or_none (Some a) = refl

none_of_four : (w x y z : Option Reading) → range_of_both w y ≡ None → range_of_both w z ≡ None → range_of_both x y ≡ None → range_of_both x z ≡ None
    → range_of_both (option_or w x) (option_or y z) ≡ None
none_of_four (Some a) x (Some b) z h i j k = h
none_of_four (Some a) x None z h i j k = i
none_of_four None x (Some b) z h i j k = j
none_of_four None x None z h i j k = k

both_same : (v w x y : Option Reading) → v ≡ w → x ≡ y → range_of_both v x ≡ range_of_both w y
both_same v w x y h i = ap (λ (o : Option Reading). range_of_both o x) h ∙ ap (range_of_both w) i

both_none : (x : Option Reading) → range_of_both x None ≡ None
both_none None = refl
both_none (Some a) = refl

module _ (l : Tree) (op : Operator) (r k : Tree) (oq : Operator) (q : Tree) where
  abbrev a : Reading
  a = from_left l op r

  abbrev b : Reading
  b = from_right l op r

  abbrev c : Reading
  c = from_left k oq q

  abbrev d : Reading
  d = from_right k oq q

  item_of : (x y : Reading) → share_access (x, y) ≡ true → (is_get_item x.operand ≡ true) × (is_get_item y.operand ≡ true)
  item_of x y h =
      let parts = and_parts (is_get_item x.operand) (tree_eq x.operand y.operand) h in
      (parts.0, ap is_get_item (sym (tree_eq-same x.operand y.operand parts.1)) ∙ parts.0)

  given_by : (x y : Reading) → share_access (x, y) ≡ true → range_of_readings (x, y) ≡ range_of_both (as_bound x) (as_bound y)
  given_by x y h = ap (λ (z : Bool). cond z (range_of_readings (x, y)) None) (sym h) ∙ shared_range x y

  none_by : (x y : Reading) → share_access (x, y) ≡ false → range_of_both (as_bound x) (as_bound y) ≡ None
  none_by x y h = sym (shared_range x y) ∙ ap (λ (z : Bool). cond z (range_of_readings (x, y)) None) h

  first_only : as_bound b ≡ None → as_bound a ≡ option_or (as_bound a) (as_bound b)
  first_only h = sym (or_none (as_bound a)) ∙ ap (option_or (as_bound a)) (sym h)

  first_other : as_bound a ≡ None → as_bound b ≡ option_or (as_bound a) (as_bound b)
  first_other h = ap (λ (o : Option Reading). option_or o (as_bound b)) (sym h)

  later_only : as_bound d ≡ None → as_bound c ≡ option_or (as_bound c) (as_bound d)
  later_only h = sym (or_none (as_bound c)) ∙ ap (option_or (as_bound c)) (sym h)

  later_other : as_bound c ≡ None → as_bound d ≡ option_or (as_bound c) (as_bound d)
  later_other h = ap (λ (o : Option Reading). option_or o (as_bound d)) (sym h)

  abbrev whole : Option Tree
  whole = range_of_both (option_or (as_bound a) (as_bound b)) (option_or (as_bound c) (as_bound d))

  of_four : range_of_four a b c d ≡ whole
  of_four = by-tests (share_access (a, c)) (share_access (a, d)) (share_access (b, c)) (share_access (b, d)) refl refl refl refl
    where
      by-tests : (s t u v : Bool) → share_access (a, c) ≡ s → share_access (a, d) ≡ t → share_access (b, c) ≡ u → share_access (b, d) ≡ v
          → option_and_then range_of_readings (cond s (Some (a, c)) (cond t (Some (a, d)) (cond u (Some (b, c)) (cond v (Some (b, d)) None)))) ≡ whole
      by-tests true t u v e f g h =
          let items = item_of a c e in
          given_by a c e
          ∙ both_same (as_bound a) (option_or (as_bound a) (as_bound b)) (as_bound c) (option_or (as_bound c) (as_bound d))
          (first_only (item_no_bound b items.0)) (later_only (item_no_bound d items.1))
      by-tests false true u v e f g h =
          let items = item_of a d f in
          given_by a d f
          ∙ both_same (as_bound a) (option_or (as_bound a) (as_bound b)) (as_bound d) (option_or (as_bound c) (as_bound d))
          (first_only (item_no_bound b items.0)) (later_other (item_no_bound c items.1))
      by-tests false false true v e f g h =
          let items = item_of b c g in
          given_by b c g
          ∙ both_same (as_bound b) (option_or (as_bound a) (as_bound b)) (as_bound c) (option_or (as_bound c) (as_bound d))
          (first_other (item_no_bound a items.0)) (later_only (item_no_bound d items.1))
      by-tests false false false true e f g h =
          let items = item_of b d h in
          given_by b d h
          ∙ both_same (as_bound b) (option_or (as_bound a) (as_bound b)) (as_bound d) (option_or (as_bound c) (as_bound d))
          (first_other (item_no_bound a items.0)) (later_other (item_no_bound c items.1))
      by-tests false false false false e f g h =
          sym (none_of_four (as_bound a) (as_bound b) (as_bound c) (as_bound d) (none_by a c e) (none_by a d f) (none_by b c g) (none_by b d h))

  of_two : range_of (binary l op r) (binary k oq q) ≡ whole
  of_two = by-tests (tree_eq l r) (tree_eq k q) refl refl
    where
      by-tests : (s t : Bool) → tree_eq l r ≡ s → tree_eq k q ≡ t → cond (not s && not t) (range_of_four a b c d) None ≡ whole
      by-tests true t e f =
          let same : l ≡ r = tree_eq-same l r e in
          let none : option_or (as_bound a) (as_bound b) ≡ None = sym (first_other (same_no_bound a same)) ∙ same_no_bound b (sym same) in
          ap (λ (o : Option Reading). range_of_both o (option_or (as_bound c) (as_bound d))) (sym none)
      by-tests false true e f =
          let same : k ≡ q = tree_eq-same k q f in
          let none : option_or (as_bound c) (as_bound d) ≡ None = sym (later_other (same_no_bound c same)) ∙ same_no_bound d (sym same) in
          sym (both_none (option_or (as_bound a) (as_bound b))) ∙ ap (range_of_both (option_or (as_bound a) (as_bound b))) (sym none)
      by-tests false false e f = of_four

-- the range of two conjuncts is that of the bounds that they are
pub range_by_bounds : (c d : Tree) → range_of c d ≡ range_of_both (bound_of c) (bound_of d)
range_by_bounds (binary l op r) (binary k oq q) = of_two l op r k oq q
range_by_bounds (binary l op r) _ = sym (both_none (option_or (as_bound (from_left l op r)) (as_bound (from_right l op r))))
range_by_bounds _ d = refl

-- ---- which conjuncts make a range with a bound

as_bound-is : (a b : Reading) → as_bound a ≡ Some b → is_bound b ≡ true
as_bound-is a b h = by-test (is_bound a) refl h
  where
    by-test : (t : Bool) → is_bound a ≡ t → cond t (Some a) None ≡ Some b → is_bound b ≡ true
    by-test true e g =
        let same : a ≡ b = cc in
        ap is_bound (sym same) ∙ e
    by-test false e g = let no : ⊥ = cc in absurd no

bound_of-is : (d : Tree) (b : Reading) → bound_of d ≡ Some b → is_bound b ≡ true
bound_of-is (binary l op r) b h = by-first (as_bound (from_left l op r)) refl h
  where
    by-first : (o : Option Reading) → as_bound (from_left l op r) ≡ o → option_or o (as_bound (from_right l op r)) ≡ Some b → is_bound b ≡ true
    by-first (Some a) e g = as_bound-is (from_left l op r) b (e ∙ g)
    by-first None e g = as_bound-is (from_right l op r) b g
bound_of-is _ b h = let no : ⊥ = cc in absurd no

-- a bound that isn't from below is from above
pub bound-above : (d : Tree) (b : Reading) → bound_of d ≡ Some b → is_from_below b ≡ false → is_some (bound_above b.operator) ≡ true
bound-above d b h below =
    let all = bound_of-is d b h in
    let some = (and_parts (is_some (literal_of b.other)) (is_some (bound_below b.operator) || is_some (bound_above b.operator))
    (and_parts (is_get_item b.operand) (is_some (literal_of b.other) && (is_some (bound_below b.operator) || is_some (bound_above b.operator))) all).1).1 in
    ap (λ (t : Bool). t || is_some (bound_above b.operator)) (sym below) ∙ some

-- one from below isn't from above
pub bound-below : (b : Reading) → is_from_below b ≡ true → is_some (bound_above b.operator) ≡ false
bound-below b h = ap is_some (one_sided b.operator h)

some_upper : (e lower upper : Tree) (s : StrictComparison) (above : Option StrictComparison) → is_some (range_where e lower upper (Some s) above) ≡ is_some above
some_upper e lower upper s None = refl
some_upper e lower upper s (Some u) = refl

cond-some : (t : Bool) (x : Option Tree) (s : Bool) → is_some x ≡ s → is_some (cond t x None) ≡ t && s
cond-some true x s h = h
cond-some false x s h = refl

-- with a bound from below the bounds of its operand from above do
with_lower : (a b : Reading) → is_from_below b ≡ true → is_some (range_of_bounds a b) ≡ tree_eq a.operand b.operand && is_some (bound_above a.operator)
with_lower a b h =
    cond-some (tree_eq a.operand b.operand) (option_or (range_between a b) (range_between b a)) (is_some (bound_above a.operator))
    (by-sides (bound_below b.operator) (bound_above b.operator) h (one_sided b.operator h))
  where
    by-sides : (o p : Option StrictComparison) → is_some o ≡ true → p ≡ None
        → is_some (option_or (range_where a.operand a.other b.other (bound_below a.operator) p) (range_where b.operand b.other a.other o (bound_above a.operator))) ≡ is_some (bound_above a.operator)
    by-sides (Some s) None i j =
        ap (λ (x : Option Tree). is_some (option_or x (range_where b.operand b.other a.other (Some s) (bound_above a.operator)))) (no_upper a.operand a.other b.other (bound_below a.operator))
        ∙ some_upper b.operand b.other a.other s (bound_above a.operator)
    by-sides None p i j = let no : ⊥ = cc in absurd no
    by-sides (Some s) (Some u) i j = let no : ⊥ = cc in absurd no

-- with a bound from above those from below do
with_upper : (a b : Reading) → is_some (bound_above b.operator) ≡ true → is_some (range_of_bounds a b) ≡ tree_eq a.operand b.operand && is_some (bound_below a.operator)
with_upper a b h =
    cond-some (tree_eq a.operand b.operand) (option_or (range_between a b) (range_between b a)) (is_some (bound_below a.operator))
    (by-sides (bound_below a.operator) (bound_above b.operator) (bound_below b.operator) h (other_sided b.operator h))
  where
    by-sides : (n p o : Option StrictComparison) → is_some p ≡ true → o ≡ None
        → is_some (option_or (range_where a.operand a.other b.other n p) (range_where b.operand b.other a.other o (bound_above a.operator))) ≡ is_some n
    by-sides (Some s) (Some u) None i j = refl
    by-sides None (Some u) None i j = refl
    by-sides n None o i j = let no : ⊥ = cc in absurd no
    by-sides n (Some u) (Some s) i j = let no : ⊥ = cc in absurd no

module _ (d : Tree) (b : Reading) (is : bound_of d ≡ Some b) where
  range_by : (c : Tree) → range_of c d ≡ range_of_both (bound_of c) (Some b)
  range_by c = range_by_bounds c d ∙ ap (range_of_both (bound_of c)) is

  -- which conjuncts make a range with a bound from below
  pub ranges_below : is_from_below b ≡ true → (c : Tree) → is_some (range_of c d) ≡ bounds_above b.operand c
  ranges_below h c = ap is_some (range_by c) ∙ by-bound (bound_of c)
    where
      by-bound : (o : Option Reading) → is_some (range_of_both o (Some b)) ≡ bounds_by bound_above b.operand o
      by-bound None = refl
      by-bound (Some a) = with_lower a b h

  -- and with one from above
  pub ranges_above : is_from_below b ≡ false → (c : Tree) → is_some (range_of c d) ≡ bounds_below b.operand c
  ranges_above h c = ap is_some (range_by c) ∙ by-bound (bound_of c)
    where
      by-bound : (o : Option Reading) → is_some (range_of_both o (Some b)) ≡ bounds_by bound_below b.operand o
      by-bound None = refl
      by-bound (Some a) = with_upper a b (bound-above d b is h)

-- with what is no bound no conjunct does
pub ranges_none : (d : Tree) → bound_of d ≡ None → (c : Tree) → range_of c d ≡ None
ranges_none d is c = range_by_bounds c d ∙ ap (range_of_both (bound_of c)) is ∙ both_none (bound_of c)

-- ---- a range is no bound

no_bound : (e lower upper x : Tree) (o p : Option StrictComparison) → range_where e lower upper o p ≡ Some x → bound_of x ≡ None
no_bound e lower upper x (Some s) (Some u) h =
    let same : x ≡ between e lower upper (record { lower_strict = s; upper_strict = u }) = cc in
    ap bound_of same
no_bound e lower upper x None p h = let no : ⊥ = cc in absurd no
no_bound e lower upper x (Some s) None h = let no : ⊥ = cc in absurd no

bounds_range : (a b : Reading) (x : Tree) → range_of_bounds a b ≡ Some x → bound_of x ≡ None
bounds_range a b x h = by-test (tree_eq a.operand b.operand) h
  where
    by-first : (o : Option Tree) → range_between a b ≡ o → option_or o (range_between b a) ≡ Some x → bound_of x ≡ None
    by-first (Some y) e g = no_bound a.operand a.other b.other x (bound_below a.operator) (bound_above b.operator) (e ∙ g)
    by-first None e g = no_bound b.operand b.other a.other x (bound_below b.operator) (bound_above a.operator) g

    by-test : (t : Bool) → cond t (option_or (range_between a b) (range_between b a)) None ≡ Some x → bound_of x ≡ None
    by-test true g = by-first (range_between a b) refl g
    by-test false g = let no : ⊥ = cc in absurd no

pub range_no_bound : (c d x : Tree) → range_of c d ≡ Some x → bound_of x ≡ None
range_no_bound c d x h = by-bounds (bound_of c) (bound_of d) (sym (range_by_bounds c d) ∙ h)
  where
    by-bounds : (o p : Option Reading) → range_of_both o p ≡ Some x → bound_of x ≡ None
    by-bounds (Some a) (Some b) g = bounds_range a b x g
    by-bounds None p g = let no : ⊥ = cc in absurd no
    by-bounds (Some a) None g = let no : ⊥ = cc in absurd no

-- so it makes no range with a later conjunct
pub range_makes_none : (c d x : Tree) → range_of c d ≡ Some x → (e : Tree) → range_of x e ≡ None
range_makes_none c d x h e = range_by_bounds x e ∙ ap (λ (o : Option Reading). range_of_both o (bound_of e)) (range_no_bound c d x h)
