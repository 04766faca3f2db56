-- An expression with its ranges has no more nodes, and what held of each node holds of each, where it holds of every `and` and every range.
use Rattle.std.proofs.Common.{◌⊎◌, inl, inr, ◌≡◌, ◌≤◌, ℕ, zero, suc, ◌+◌, refl, ap, sym, ◌∙◌, Option, Some, None, subst, List, [], ◌∷◌, ◌++◌, length, arith}
use Rattle.std.specs.Prelude.{option_map, unwrap_or}
use Rattle.vx_dtype.specs.Types.{Ty, bool_ty, int_ty, text_ty, list_ty, struct_ty}
use Rattle.vx_dtype.specs.declared.BetweenOptions.{BetweenOptions}
use Rattle.vx_expr.specs.declared.Operator.{Operator}
use Rattle.vx_expr.specs.Conjuncts.{conjuncts_of}
use Rattle.vx_expr.specs.Trees.{Tree, literal, binary, between}
use Rattle.vx_semantics.specs.Nodes.{nodes_of}
use Rattle.vx_build.specs.Collectors.{joined_left, joined_after}
use Rattle.vx_passes.specs.Ranges.{Reading, range_of, Paired, behind, paired_or, paired, placed, with_ranges, ranged}
use Rattle.vx_laws_simplifying.proofs.RangeParts.{Reads, left_read, right_read, Bounds, RangeParts, range_of-parts}
use Rattle.vx_laws_removing.proofs.Counted.{weight, size, Each, each-append, each-split}
use Rattle.vx_laws_removing.proofs.Slim.{Within, Plainly, binary-plain, between-plain}

-- the nodes of a list's expressions, and one for each
total : List Tree → ℕ
total [] = 0
total (e ∷ es) = suc (size e) + total es

total-append : (xs ys : List Tree) → total (xs ++ ys) ≡ total xs + total ys
unfolding total
total-append [] ys = omega arith
total-append (x ∷ xs) ys = let a = total-append xs ys in omega (arith, a)

total-conjuncts : (e : Tree) → total (conjuncts_of e) ≡ suc (size e)
unfolding total conjuncts_of weight
total-conjuncts (binary l Operator.And r) =
    let a = total-conjuncts l in let b = total-conjuncts r in let c = total-append (conjuncts_of l) (conjuncts_of r) in omega (arith, a, b, c)
total-conjuncts e = omega arith

joined-size : (e : Tree) (es : List Tree) → size (joined_after Operator.And e es) ≡ size e + total es
unfolding total weight
joined-size e [] = omega arith
joined-size e (f ∷ fs) = let a = joined-size (binary e Operator.And f) fs in omega (arith, a)

read-size : (c : Tree) (a : Reading) → Reads c a → size c ≡ 1 + (size a.operand + size a.other)
unfolding weight
read-size _ _ (left_read l op r) = refl
read-size _ _ (right_read l op r) = omega arith

between-size : (a b : Reading) (x : Tree) → Bounds a b x → size x ≡ size a.operand + 3
unfolding weight
between-size a b x k = ap size k.is ∙ omega arith

range-small : (c d x : Tree) → range_of c d ≡ Some x → suc (size x) ≤ suc (size c) + suc (size d)
range-small c d x h = let p = range_of-parts c d x h in by-bounds p p.bounds
  where
    by-bounds : (p : RangeParts c d x) → Bounds p.first p.second x ⊎ Bounds p.second p.first x → suc (size x) ≤ suc (size c) + suc (size d)
    by-bounds p (inl k) =
        let e = between-size p.first p.second x k in
        let f = read-size c p.first p.reads_first in
        let g = read-size d p.second p.reads_second in
        let i = ap size k.shared in
        omega (arith, e, f, g, i)
    by-bounds p (inr k) =
        let e = between-size p.second p.first x k in
        let f = read-size c p.first p.reads_first in
        let g = read-size d p.second p.reads_second in
        let i = ap size k.shared in
        omega (arith, e, f, g, i)

module _ (Q : Tree → Type 0) (ands : (l r : Tree) → Q (binary l Operator.And r)) (betweens : (e l u : Tree) (options : BetweenOptions) → Q (between e l u options)) where
  -- an expression of whose nodes this holds
  abbrev Fits : Tree → Type 0
  Fits e = Each Q (nodes_of e)

  conjuncts-fit : (e : Tree) → Fits e → Each Fits (conjuncts_of e)
  unfolding conjuncts_of nodes_of
  conjuncts-fit (binary l Operator.And r) h =
      let p = each-split Q (nodes_of l) (nodes_of r) h.1 in
      each-append Fits (conjuncts_of l) (conjuncts_of r) (conjuncts-fit l p.0) (conjuncts-fit r p.1)
  conjuncts-fit e h = (h, tt)

  joined-fits : (e : Tree) (es : List Tree) → Fits e → Each Fits es → Fits (joined_after Operator.And e es)
  unfolding nodes_of
  joined-fits e [] h k = h
  joined-fits e (f ∷ fs) h k =
      joined-fits (binary e Operator.And f) fs
      (ands e f, each-append Q (nodes_of e) (nodes_of f) h k.0) k.1

  read-fits : (c : Tree) (a : Reading) → Reads c a → Fits c → Fits a.operand × Fits a.other
  unfolding nodes_of
  read-fits _ _ (left_read l op r) h = each-split Q (nodes_of l) (nodes_of r) h.1
  read-fits _ _ (right_read l op r) h = let p = each-split Q (nodes_of l) (nodes_of r) h.1 in (p.1, p.0)

  between-fits : (a b : Reading) (x : Tree) → Bounds a b x → Fits a.operand × Fits a.other → Fits b.operand × Fits b.other → Fits x
  unfolding nodes_of
  between-fits a b x k i j =
      let lower = subst Fits k.is_lower i.1 in
      let upper = subst Fits k.is_upper j.1 in
      subst Fits (sym k.is) (
        betweens a.operand (literal k.lower) (literal k.upper) (record { lower_strict = k.below; upper_strict = k.above }),
        each-append Q (nodes_of a.operand) (nodes_of (literal k.lower) ++ nodes_of (literal k.upper)) i.0
            (each-append Q (nodes_of (literal k.lower)) (nodes_of (literal k.upper)) lower upper),
      )

  range-fits : (c e x : Tree) → range_of c e ≡ Some x → Fits c → Fits e → Fits x
  range-fits c e x h i j = let p = range_of-parts c e x h in by-bounds p p.bounds
    where
      by-bounds : (p : RangeParts c e x) → Bounds p.first p.second x ⊎ Bounds p.second p.first x → Fits x
      by-bounds p (inl k) = between-fits p.first p.second x k (read-fits c p.first p.reads_first i) (read-fits e p.second p.reads_second j)
      by-bounds p (inr k) = between-fits p.second p.first x k (read-fits e p.second p.reads_second j) (read-fits c p.first p.reads_first i)

  -- what a pair leaves
  record Lighter (c : Tree) (cs : List Tree) (p : Paired) : Type 0 where
    pub small : suc (size p.range) + total p.others ≤ suc (size c) + total cs
    pub range_fits : Fits p.range
    pub others_fit : Each Fits p.others

  lighter-later : (c e : Tree) (es : List Tree) (q : Paired) → Fits e → Lighter c es q → Lighter c (e ∷ es) (behind e q)
  unfolding total
  lighter-later c e es q h l = record { small = let a = l.small in omega (arith, a); range_fits = l.range_fits; others_fit = (h, l.others_fit) }

  lighter-range : (c e x : Tree) (es : List Tree) → range_of c e ≡ Some x → Fits c → Fits e → Each Fits es → Lighter c (e ∷ es) (record { range = x; others = es })
  unfolding total
  lighter-range c e x es h i j k = record { small = let a = range-small c e x h in omega (arith, a); range_fits = range-fits c e x h i j; others_fit = k }

  lighter : (c : Tree) (cs : List Tree) (p : Paired) → Fits c → Each Fits cs → paired c cs ≡ Some p → Lighter c cs p
  lighter c [] p i h e = let no : ⊥ = cc in absurd no
  lighter c (f ∷ fs) p i h e = by-range (range_of c f) refl e (λ q j. lighter c fs q i h.1 j)
    where
      by-later : (o : Option Paired) → paired c fs ≡ o → option_map (behind f) o ≡ Some p → ((q : Paired) → paired c fs ≡ Some q → Lighter c fs q) → Lighter c (f ∷ fs) p
      by-later None k j r = let no : ⊥ = cc in absurd no
      by-later (Some q) k j r =
          let same : behind f q ≡ p = cc in
          subst (Lighter c (f ∷ fs)) same (lighter-later c f fs q h.0 (r q k))

      by-range : (o : Option Tree) → range_of c f ≡ o → paired_or o fs (option_map (behind f) (paired c fs)) ≡ Some p → ((q : Paired) → paired c fs ≡ Some q → Lighter c fs q) → Lighter c (f ∷ fs) p
      by-range None k j r = by-later (paired c fs) refl j r
      by-range (Some x) k j r =
          let same : record { range = x; others = fs } ≡ p = cc in
          subst (Lighter c (f ∷ fs)) same (lighter-range c f x fs k i h.0 h.1)

  -- a list that is no heavier than another, with expressions that fit
  record Fewer (es cs : List Tree) : Type 0 where
    pub small : total es ≤ total cs
    pub fit : Each Fits es

  fewer-one : (c : Tree) (es cs : List Tree) → Fits c → Fewer es cs → Fewer (c ∷ es) (c ∷ cs)
  unfolding total
  fewer-one c es cs h f = record { small = let a = f.small in omega (arith, a); fit = (h, f.fit) }

  fewer-pair : (c : Tree) (cs es : List Tree) (p : Paired) → Lighter c cs p → Fewer es p.others → Fewer (p.range ∷ es) (c ∷ cs)
  unfolding total
  fewer-pair c cs es p l f = record { small = let a = l.small in let b = f.small in omega (arith, a, b); fit = (l.range_fits, f.fit) }

  fewer : (n : ℕ) (cs : List Tree) → Each Fits cs → Fewer (with_ranges n cs) cs
  fewer zero cs h = record { small = omega arith; fit = h }
  fewer (suc n) [] h = record { small = omega arith; fit = h }
  fewer (suc n) (c ∷ cs) h = by-pair (paired c cs) refl (λ es i. fewer n es i)
    where
      by-pair : (o : Option Paired) → paired c cs ≡ o → ((es : List Tree) → Each Fits es → Fewer (with_ranges n es) es) → Fewer (placed (with_ranges n) c cs o) (c ∷ cs)
      by-pair None e r = fewer-one c (with_ranges n cs) cs h.0 (r cs h.1)
      by-pair (Some p) e r = let l = lighter c cs p h.0 h.1 e in fewer-pair c cs (with_ranges n p.others) p l (r p.others l.others_fit)

  -- an expression with its ranges
  pub record RangedSmall (e d : Tree) : Type 0 where
    pub small : size d ≤ size e
    pub fits : Fits d

  rejoined : (es : List Tree) (e : Tree) → total es ≤ suc (size e) → Each Fits es → Fits e → RangedSmall e (unwrap_or (joined_left Operator.And es) e)
  unfolding total
  rejoined [] e h k i = record { small = omega arith; fits = i }
  rejoined (g ∷ gs) e h k i = record { small = let a = joined-size g gs in omega (arith, a, h); fits = joined-fits g gs k.0 k.1 }

  pub ranged-small : (e : Tree) → Fits e → RangedSmall e (ranged e)
  ranged-small e h =
      let f = fewer (length (conjuncts_of e)) (conjuncts_of e) (conjuncts-fit e h) in
      rejoined (with_ranges (length (conjuncts_of e)) (conjuncts_of e)) e (let a = f.small in let b = total-conjuncts e in omega (arith, a, b)) f.fit h

-- any expression with its ranges has no more nodes
any-node : (ns : List Tree) → Each (λ (n : Tree). Unit {0}) ns
any-node [] = tt
any-node (n ∷ ns) = (tt, any-node ns)

pub ranged-lighter : (e : Tree) → size (ranged e) ≤ size e
ranged-lighter e = (ranged-small (λ n. Unit {0}) (λ l r. tt) (λ e l u options. tt) e (any-node (nodes_of e))).small

module _ (w d : ℕ) (t : Ty) where
  within-plain : (n : Tree) → Plainly t n → Within w d t n
  within-plain n p (struct_ty fs k) h = absurd (p fs k h)
  within-plain n p (bool_ty k) h = tt
  within-plain n p (int_ty q k) h = tt
  within-plain n p (text_ty k) h = tt
  within-plain n p (list_ty e k) h = tt

  -- an expression each of whose nodes has a type within the bounds
  abbrev pub AllWithin : Tree → Type 0
  AllWithin e = Each (Within w d t) (nodes_of e)

  pub ranged-within : (e : Tree) → AllWithin e → AllWithin (ranged e)
  ranged-within e h =
      (ranged-small (Within w d t) (λ l r. within-plain (binary l Operator.And r) (binary-plain t l Operator.And r))
      (λ x l u options. within-plain (between x l u options) (between-plain t x l u options)) e h).fits
