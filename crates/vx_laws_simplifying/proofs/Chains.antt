-- Conjuncts and their ranges, under any measure of expressions that `and` joins by an associative and commutative rule.
use Rattle.std.proofs.Common.{◌≡◌, ℕ, zero, suc, refl, ap, sym, ◌∙◌, Option, Some, None, List, [], ◌∷◌, ◌++◌}
use Rattle.std.specs.Prelude.{length, option_map, unwrap_or}
use Rattle.vx_expr.specs.declared.Operator.{Operator}
use Rattle.vx_expr.specs.Conjuncts.{conjuncts_of}
use Rattle.vx_expr.specs.Trees.{Tree, binary}
use Rattle.vx_build.specs.Collectors.{joined_left, joined_after}
use Rattle.vx_passes.specs.Ranges.{range_of, Paired, behind, paired_or, paired, placed, with_ranges, ranged}

-- a measure of an expression that is the whole, and of one that is a conjunct among several
pub record Measure (X : Type 0) : Type 0 where
  pub join : X → X → X
  pub assoc : (a b c : X) → join (join a b) c ≡ join a (join b c)
  pub comm : (a b : X) → join a b ≡ join b a
  pub alone : Tree → X
  pub within : Tree → X
  pub and_alone : (l r : Tree) → alone (binary l Operator.And r) ≡ join (within l) (within r)
  pub and_within : (l r : Tree) → within (binary l Operator.And r) ≡ join (within l) (within r)
  pub range_alone : (c d x : Tree) → range_of c d ≡ Some x → alone x ≡ join (within c) (within d)
  pub range_within : (c d x : Tree) → range_of c d ≡ Some x → within x ≡ join (within c) (within d)

module _ (X : Type 0) (m : Measure X) where
  -- the measure of a conjunct before others; `single` measures it where there are no others
  chained : (Tree → X) → Tree → List Tree → X
  chained single e [] = single e
  chained single e (d ∷ ds) = m.join (m.within e) (chained m.within d ds)

  exchanged : (a b c : X) → m.join a (m.join b c) ≡ m.join b (m.join a c)
  exchanged a b c = sym (m.assoc a b c) ∙ (ap (λ (x : X). m.join x c) (m.comm a b) ∙ m.assoc b a c)

  -- conjuncts joined to the left
  alone-joined : (e : Tree) (ds : List Tree) → m.alone (joined_after Operator.And e ds) ≡ chained m.alone e ds
  unfolding chained
  alone-joined e [] = refl
  alone-joined e (d ∷ []) = m.and_alone e d
  alone-joined e (d ∷ f ∷ fs) =
      alone-joined (binary e Operator.And d) (f ∷ fs)
      ∙ (ap (λ (x : X). m.join x (chained m.within f fs)) (m.and_within e d) ∙ m.assoc (m.within e) (m.within d) (chained m.within f fs))

  chained-append : (single : Tree → X) (e : Tree) (ds : List Tree) (f : Tree) (fs : List Tree) → chained single e (ds ++ f ∷ fs) ≡ m.join (chained m.within e ds) (chained m.within f fs)
  unfolding chained
  chained-append single e [] f fs = refl
  chained-append single e (d ∷ ds) f fs =
      ap (m.join (m.within e)) (chained-append m.within d ds f fs) ∙ sym (m.assoc (m.within e) (chained m.within d ds) (chained m.within f fs))

  -- a list of conjuncts is not empty, and has a measure as the whole and among others
  record Conjoined (es : List Tree) (e : Tree) : Type 0 where
    pub first : Tree
    pub rest : List Tree
    pub is : es ≡ first ∷ rest
    pub whole : chained m.alone first rest ≡ m.alone e
    pub part : chained m.within first rest ≡ m.within e

  conjoined-alone : (e : Tree) → Conjoined (e ∷ []) e
  unfolding chained
  conjoined-alone e = record { first = e; rest = []; is = refl; whole = refl; part = refl }

  conjoined : (e : Tree) → Conjoined (conjuncts_of e) e
  unfolding conjuncts_of
  conjoined (binary l Operator.And r) =
      let a = conjoined l in
      let b = conjoined r in
      let joined : m.join (chained m.within a.first a.rest) (chained m.within b.first b.rest) ≡ m.join (m.within l) (m.within r) =
      ap (λ (x : X). m.join x (chained m.within b.first b.rest)) a.part ∙ ap (m.join (m.within l)) b.part in
      record {
        first = a.first;
        rest = a.rest ++ b.first ∷ b.rest;
        is = ap (λ (xs : List Tree). xs ++ conjuncts_of r) a.is ∙ ap (λ (ys : List Tree). (a.first ∷ a.rest) ++ ys) b.is;
        whole = chained-append m.alone a.first a.rest b.first b.rest ∙ (joined ∙ sym (m.and_alone l r));
        part = chained-append m.within a.first a.rest b.first b.rest ∙ (joined ∙ sym (m.and_within l r));
      }
  conjoined e = conjoined-alone e

  -- a conjunct may go behind the next
  chained-behind : (single : Tree → X) (e d : Tree) (os : List Tree) → chained single e (d ∷ os) ≡ m.join (m.within d) (chained m.within e os)
  unfolding chained
  chained-behind single e d [] = m.comm (m.within e) (m.within d)
  chained-behind single e d (f ∷ fs) = exchanged (m.within e) (m.within d) (chained m.within f fs)

  -- a range in the place of two conjuncts
  chained-range : (single : Tree → X) → ((c d x : Tree) → range_of c d ≡ Some x → single x ≡ m.join (m.within c) (m.within d))
      → (c d x : Tree) (ds : List Tree) → range_of c d ≡ Some x → chained single x ds ≡ m.join (m.within c) (chained m.within d ds)
  unfolding chained
  chained-range single k c d x [] h = k c d x h
  chained-range single k c d x (f ∷ fs) h =
      ap (λ (y : X). m.join y (chained m.within f fs)) (m.range_within c d x h) ∙ m.assoc (m.within c) (m.within d) (chained m.within f fs)

  chained-paired : (single : Tree → X) → ((c d x : Tree) → range_of c d ≡ Some x → single x ≡ m.join (m.within c) (m.within d))
      → (c : Tree) (cs : List Tree) (p : Paired) → paired c cs ≡ Some p → chained single p.range p.others ≡ chained m.within c cs
  unfolding chained
  chained-paired single k c [] p h = let no : ⊥ = cc in absurd no
  chained-paired single k c (d ∷ ds) p h = by-range (range_of c d) refl (λ q e. chained-paired m.within m.range_within c ds q e) h
    where
      by-later : ((q : Paired) → paired c ds ≡ Some q → chained m.within q.range q.others ≡ chained m.within c ds) → (o : Option Paired) → paired c ds ≡ o → option_map (behind d) o ≡ Some p → chained single p.range p.others ≡ m.join (m.within c) (chained m.within d ds)
      by-later later None e i = let no : ⊥ = cc in absurd no
      by-later later (Some q) e i =
          let same : behind d q ≡ p = cc in
          ap (λ (z : Paired). chained single z.range z.others) (sym same)
          ∙ (chained-behind single q.range d q.others
          ∙ (ap (m.join (m.within d)) (later q e) ∙ sym (chained-behind m.within c d ds)))

      by-range : (o : Option Tree) → range_of c d ≡ o → ((q : Paired) → paired c ds ≡ Some q → chained m.within q.range q.others ≡ chained m.within c ds) → paired_or o ds (option_map (behind d) (paired c ds)) ≡ Some p
          → chained single p.range p.others ≡ m.join (m.within c) (chained m.within d ds)
      by-range None e later i = by-later later (paired c ds) refl i
      by-range (Some x) e later i =
          let same : record { range = x; others = ds } ≡ p = cc in
          ap (λ (z : Paired). chained single z.range z.others) (sym same) ∙ chained-range single k c d x ds e

  -- the conjuncts behind the first
  chained-ranges : (n : ℕ) (single : Tree → X) (e : Tree) (cs : List Tree) → chained single e (with_ranges n cs) ≡ chained single e cs
  unfolding chained
  chained-ranges zero single e cs = refl
  chained-ranges (suc n) single e [] = refl
  chained-ranges (suc n) single e (c ∷ cs) = by-pair (paired c cs) refl (λ d ds. chained-ranges n m.within d ds)
    where
      by-pair : (o : Option Paired) → paired c cs ≡ o → ((d : Tree) (ds : List Tree) → chained m.within d (with_ranges n ds) ≡ chained m.within d ds) → chained single e (placed (with_ranges n) c cs o) ≡ m.join (m.within e) (chained m.within c cs)
      by-pair None h kept = ap (m.join (m.within e)) (kept c cs)
      by-pair (Some p) h kept =
          ap (m.join (m.within e)) (kept p.range p.others ∙ chained-paired m.within m.range_within c cs p h)

  chained-more : (c : Tree) (cs : List Tree) (p : Paired) → paired c cs ≡ Some p → chained m.within c cs ≡ chained m.alone c cs
  unfolding chained
  chained-more c [] p h = let no : ⊥ = cc in absurd no
  chained-more c (d ∷ ds) p h = refl

  ranges-alone : (n : ℕ) (c : Tree) (cs : List Tree) (e : Tree) → m.alone (unwrap_or (joined_left Operator.And (with_ranges (suc n) (c ∷ cs))) e) ≡ chained m.alone c cs
  ranges-alone n c cs e = by-pair (paired c cs) refl
    where
      by-pair : (o : Option Paired) → paired c cs ≡ o → m.alone (unwrap_or (joined_left Operator.And (placed (with_ranges n) c cs o)) e) ≡ chained m.alone c cs
      by-pair None h = alone-joined c (with_ranges n cs) ∙ chained-ranges n m.alone c cs
      by-pair (Some p) h =
          alone-joined p.range (with_ranges n p.others)
          ∙ (chained-ranges n m.alone p.range p.others ∙ (chained-paired m.alone m.range_alone c cs p h ∙ chained-more c cs p h))

  -- an expression with its ranges measures what it measures
  pub alone-ranged : (e : Tree) → m.alone (ranged e) ≡ m.alone e
  alone-ranged e =
      let c = conjoined e in
      ap (λ (es : List Tree). m.alone (unwrap_or (joined_left Operator.And (with_ranges (length es) es)) e)) c.is
      ∙ (ranges-alone (length c.rest) c.first c.rest e ∙ c.whole)
