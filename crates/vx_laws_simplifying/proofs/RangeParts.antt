-- The two comparisons that make a range, each read with the shared field access on the left.
use Rattle.std.proofs.Common.{◌⊎◌, inl, inr, ◌≡◌, refl, ap, sym, ◌∙◌, Bool, true, false, cond, not, ◌&&◌, Option, Some, None}
use Rattle.std.specs.Prelude.{is_some}
use Rattle.std.specs.Option.{option_and_then, option_or}
use Rattle.std.proofs.lemmas.Bool.{and_parts}
use Rattle.vx_dtype.specs.declared.StrictComparison.{StrictComparison}
use Rattle.vx_dtype.specs.Values.{Typed}
use Rattle.vx_expr.specs.declared.Operator.{Operator}
use Rattle.vx_expr.specs.Children.{is_get_item, literal_of}
use Rattle.vx_expr.specs.Equal.{tree_eq}
use Rattle.vx_expr.specs.EqualLaws.{tree_eq-same}
use Rattle.vx_expr.specs.Trees.{Tree, literal, binary, between}
use Rattle.vx_passes.specs.Ranges.{Reading, from_left, from_right, share_access, bound_below, bound_above, range_where, range_between, range_of_readings, range_of_four, range_of}

-- a reading of a conjunct of two operands, from the left or from the right one
pub data Reads : Tree → Reading → Type 0 where
  left_read : (l : Tree) (op : Operator) (r : Tree) → Reads (binary l op r) (from_left l op r)
  right_read : (l : Tree) (op : Operator) (r : Tree) → Reads (binary l op r) (from_right l op r)

-- a range of one operand, which the first reading bounds from below and the second from above by constants
pub record Bounds (a b : Reading) (x : Tree) : Type 0 where
  pub below : StrictComparison
  pub above : StrictComparison
  pub lower : Typed
  pub upper : Typed
  pub is_below : bound_below a.operator ≡ Some below
  pub is_above : bound_above b.operator ≡ Some above
  pub is_lower : a.other ≡ literal lower
  pub is_upper : b.other ≡ literal upper
  pub shared : a.operand ≡ b.operand
  pub is : x ≡ between a.operand (literal lower) (literal upper) (record { lower_strict = below; upper_strict = above })

-- either conjunct gives the lower bound
pub record RangeParts (c d x : Tree) : Type 0 where
  pub first : Reading
  pub second : Reading
  pub reads_first : Reads c first
  pub reads_second : Reads d second
  pub bounds : Bounds first second x ⊎ Bounds second first x

literal_of-some : (e : Tree) → is_some (literal_of e) ≡ true → (s : Typed) × (e ≡ literal s)
literal_of-some (literal s) h = (s, refl)
literal_of-some _ h = let no : ⊥ = cc in absurd no

range_between-bounds : (a b : Reading) (x : Tree) → a.operand ≡ b.operand → is_some (literal_of a.other) ≡ true → is_some (literal_of b.other) ≡ true → range_between a b ≡ Some x → Bounds a b x
range_between-bounds a b x e i j h = by-bounds (bound_below a.operator) (bound_above b.operator) refl refl h
  where
    by-bounds : (o p : Option StrictComparison) → bound_below a.operator ≡ o → bound_above b.operator ≡ p → range_where a.operand a.other b.other o p ≡ Some x → Bounds a b x
    by-bounds (Some s) (Some u) k m g =
        let lower = literal_of-some a.other i in
        let upper = literal_of-some b.other j in
        record {
          below = s;
          above = u;
          lower = lower.0;
          upper = upper.0;
          is_below = k;
          is_above = m;
          is_lower = lower.1;
          is_upper = upper.1;
          shared = e;
          is = let same : between a.operand a.other b.other (record { lower_strict = s; upper_strict = u }) ≡ x = cc in
              sym same ∙ (ap (λ (z : Tree). between a.operand z b.other (record { lower_strict = s; upper_strict = u })) lower.1
              ∙ ap (λ (z : Tree). between a.operand (literal lower.0) z (record { lower_strict = s; upper_strict = u })) upper.1);
        }
    by-bounds None p k m g = let no : ⊥ = cc in absurd no
    by-bounds (Some s) None k m g = let no : ⊥ = cc in absurd no

either-bounds : (a b : Reading) (x : Tree) → a.operand ≡ b.operand → range_of_readings (a, b) ≡ Some x → Bounds a b x ⊎ Bounds b a x
either-bounds a b x e h = by-literals (is_some (literal_of a.other)) (is_some (literal_of b.other)) refl refl h
  where
    by-first : (o : Option Tree) → range_between a b ≡ o → is_some (literal_of a.other) ≡ true → is_some (literal_of b.other) ≡ true → option_or o (range_between b a) ≡ Some x
        → Bounds a b x ⊎ Bounds b a x
    by-first (Some y) k i j g = inl (range_between-bounds a b x e i j (k ∙ g))
    by-first None k i j g = inr (range_between-bounds b a x (sym e) j i g)

    by-literals : (y z : Bool) → is_some (literal_of a.other) ≡ y → is_some (literal_of b.other) ≡ z → cond (y && z) (option_or (range_between a b) (range_between b a)) None ≡ Some x
        → Bounds a b x ⊎ Bounds b a x
    by-literals true true i j g = by-first (range_between a b) refl i j g
    by-literals true false i j g = let no : ⊥ = cc in absurd no
    by-literals false z i j g = let no : ⊥ = cc in absurd no

shared-operand : (a b : Reading) → share_access (a, b) ≡ true → a.operand ≡ b.operand
shared-operand a b h = tree_eq-same a.operand b.operand (and_parts (is_get_item a.operand) (tree_eq a.operand b.operand) h).1

-- the readings of two conjuncts of which a range is made
pair-parts : (c d x : Tree) (a b : Reading) → Reads c a → Reads d b → share_access (a, b) ≡ true → range_of_readings (a, b) ≡ Some x → RangeParts c d x
pair-parts c d x a b i j s h = record { first = a; second = b; reads_first = i; reads_second = j; bounds = either-bounds a b x (shared-operand a b s) h }

four-parts : (c d x : Tree) (cl cr dl dr : Reading) → Reads c cl → Reads c cr → Reads d dl → Reads d dr → range_of_four cl cr dl dr ≡ Some x → RangeParts c d x
four-parts c d x cl cr dl dr i j k m h = by-tests (share_access (cl, dl)) (share_access (cl, dr)) (share_access (cr, dl)) (share_access (cr, dr)) refl refl refl refl h
  where
    by-tests : (p q r s : Bool) → share_access (cl, dl) ≡ p → share_access (cl, dr) ≡ q → share_access (cr, dl) ≡ r → share_access (cr, dr) ≡ s
        → option_and_then range_of_readings (cond p (Some (cl, dl)) (cond q (Some (cl, dr)) (cond r (Some (cr, dl)) (cond s (Some (cr, dr)) None)))) ≡ Some x → RangeParts c d x
    by-tests true q r s a b e f g = pair-parts c d x cl dl i k a g
    by-tests false true r s a b e f g = pair-parts c d x cl dr i m b g
    by-tests false false true s a b e f g = pair-parts c d x cr dl j k e g
    by-tests false false false true a b e f g = pair-parts c d x cr dr j m f g
    by-tests false false false false a b e f g = let no : ⊥ = cc in absurd no

pub range_of-parts : (c d x : Tree) → range_of c d ≡ Some x → RangeParts c d x
range_of-parts (binary l op r) (binary k oq q) x h = by-test (not (tree_eq l r) && not (tree_eq k q)) h
  where
    by-test : (b : Bool) → cond b (range_of_four (from_left l op r) (from_right l op r) (from_left k oq q) (from_right k oq q)) None ≡ Some x → RangeParts (binary l op r) (binary k oq q) x
    by-test true g =
        four-parts (binary l op r) (binary k oq q) x (from_left l op r) (from_right l op r) (from_left k oq q) (from_right k oq q)
        (left_read l op r) (right_read l op r) (left_read k oq q) (right_read k oq q) g
    by-test false g = let no : ⊥ = cc in absurd no
range_of-parts (binary l op r) _ x h = let no : ⊥ = cc in absurd no
range_of-parts _ d x h = let no : ⊥ = cc in absurd no
