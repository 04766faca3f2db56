-- Exact filters under `and`, `or` and `not`.
use Rattle.std.proofs.Common.{◌≡◌, ℕ, refl, ap, sym, ◌∙◌, true, false, subst, ⊎_elim}
use Rattle.std.proofs.lemmas.Bool.{and_parts, and_cases, or_cases, or_parts}
use Rattle.vx_dtype.specs.Values.{Val, bool_val}
use Rattle.vx_dtype.specs.Logic.{Tri, holds, fails, broken, tri, truth, and_tri, or_tri, not_tri, and3, or3, not3}
use Rattle.vx_expr.specs.declared.Operator.{Operator}
use Rattle.vx_expr.specs.Trees.{Tree, binary, not_of}
use Rattle.vx_semantics.specs.Meaning.{Slots, mean}
use Rattle.vx_semantics.specs.Tables.{Zones, row_type}
use Rattle.vx_semantics.specs.Pruning.{rules_out, rules_out_negation}
use Rattle.vx_semantics.specs.Instances.{without_ranges, IsReplaced}
use Rattle.vx_laws.proofs.Kleene.{tri-truth}
use Rattle.vx_laws.proofs.Sound.{is_broken, and_tri-sound, or_tri-sound, not_tri-sound}
use Rattle.vx_laws_scan.proofs.Ruling.{Holds, is_holds, true-truth, and3-both, or3-either, not_and3-either, not_or3-both, not3-not3}
use Rattle.vx_laws_scan.proofs.Constants.{Witness}

-- a value that is a truth value or null
abbrev pub IsUnbroken : Val → Type 0
IsUnbroken v = is_broken (tri v) ≡ false

pub holds-tri : (v : Val) → Holds v → tri v ≡ holds
holds-tri (bool_val true) h = refl
holds-tri (bool_val false) h = let no : ⊥ = cc in absurd no
holds-tri _ h = let no : ⊥ = cc in absurd no

pub not-tri : (v : Val) → Holds (not3 v) → tri v ≡ fails
not-tri v h = by-tri (tri v) (sym (true-truth (not_tri (tri v))) ∙ h)
  where
    by-tri : (x : Tri) → is_holds (not_tri x) ≡ true → x ≡ fails
    by-tri fails k = refl
    by-tri _ k = let no : ⊥ = cc in absurd no

pub or-left : (v w : Val) → Holds v → IsUnbroken w → Holds (or3 v w)
or-left v w h k = true-truth (or_tri (tri v) (tri w)) ∙ (ap (λ (x : Tri). is_holds (or_tri x (tri w))) (holds-tri v h) ∙ by-tri (tri w) k)
  where
    by-tri : (y : Tri) → is_broken y ≡ false → is_holds (or_tri holds y) ≡ true
    by-tri broken i = let no : ⊥ = cc in absurd no
    by-tri _ i = refl

pub or-right : (v w : Val) → IsUnbroken v → Holds w → Holds (or3 v w)
or-right v w k h = true-truth (or_tri (tri v) (tri w)) ∙ (ap (λ (x : Tri). is_holds (or_tri (tri v) x)) (holds-tri w h) ∙ by-tri (tri v) k)
  where
    by-tri : (x : Tri) → is_broken x ≡ false → is_holds (or_tri x holds) ≡ true
    by-tri broken i = let no : ⊥ = cc in absurd no
    by-tri _ i = refl

pub and-both : (v w : Val) → Holds v → Holds w → Holds (and3 v w)
and-both v w h k =
    true-truth (and_tri (tri v) (tri w)) ∙ (ap (λ (x : Tri). is_holds (and_tri x (tri w))) (holds-tri v h) ∙ ap (λ (x : Tri). is_holds (and_tri holds x)) (holds-tri w k))

-- the negation of a connective, by the truth values
pub not-by : (x : Tri) → is_holds (not_tri x) ≡ true → Holds (not3 (truth x))
not-by x h = true-truth (not_tri (tri (truth x))) ∙ (ap (λ (z : Tri). is_holds (not_tri z)) (tri-truth x) ∙ h)

pub not-and-left : (v w : Val) → Holds (not3 v) → IsUnbroken w → Holds (not3 (and3 v w))
not-and-left v w h k = not-by (and_tri (tri v) (tri w)) (ap (λ (x : Tri). is_holds (not_tri (and_tri x (tri w)))) (not-tri v h) ∙ by-tri (tri w) k)
  where
    by-tri : (y : Tri) → is_broken y ≡ false → is_holds (not_tri (and_tri fails y)) ≡ true
    by-tri broken i = let no : ⊥ = cc in absurd no
    by-tri _ i = refl

pub not-and-right : (v w : Val) → IsUnbroken v → Holds (not3 w) → Holds (not3 (and3 v w))
not-and-right v w k h = not-by (and_tri (tri v) (tri w)) (ap (λ (x : Tri). is_holds (not_tri (and_tri (tri v) x))) (not-tri w h) ∙ by-tri (tri v) k)
  where
    by-tri : (x : Tri) → is_broken x ≡ false → is_holds (not_tri (and_tri x fails)) ≡ true
    by-tri broken i = let no : ⊥ = cc in absurd no
    by-tri _ i = refl

pub not-or-both : (v w : Val) → Holds (not3 v) → Holds (not3 w) → Holds (not3 (or3 v w))
not-or-both v w h k =
    not-by (or_tri (tri v) (tri w)) (ap (λ (x : Tri). is_holds (not_tri (or_tri x (tri w)))) (not-tri v h) ∙ ap (λ (x : Tri). is_holds (not_tri (or_tri fails x))) (not-tri w k))

pub not-not : (v : Val) → Holds v → Holds (not3 (not3 v))
not-not v h = not-by (not_tri (tri v)) (ap (λ (x : Tri). is_holds (not_tri (not_tri x))) (holds-tri v h))

pub and-IsUnbroken : (v w : Val) → IsUnbroken v → IsUnbroken w → IsUnbroken (and3 v w)
and-IsUnbroken v w h k = ap is_broken (tri-truth (and_tri (tri v) (tri w))) ∙ and_tri-sound (tri v) (tri w) h k

pub or-IsUnbroken : (v w : Val) → IsUnbroken v → IsUnbroken w → IsUnbroken (or3 v w)
or-IsUnbroken v w h k = ap is_broken (tri-truth (or_tri (tri v) (tri w))) ∙ or_tri-sound (tri v) (tri w) h k

pub not-IsUnbroken : (v : Val) → IsUnbroken v → IsUnbroken (not3 v)
not-IsUnbroken v h = ap is_broken (tri-truth (not_tri (tri v))) ∙ not_tri-sound (tri v) h

-- a filter is exact: ruled out, no instance is true; else one is; and one is a truth value or null
pub record IsExact (zones : Zones) (slots : Slots) (block : ℕ) (row : Val) (e : Tree) : Type 0 where
  pub sound : rules_out zones slots block e ≡ true → (i : Tree) → IsReplaced zones block (without_ranges e) i → Holds (mean (row_type zones.columns) slots row i) → ⊥
  pub complete : rules_out zones slots block e ≡ false → Witness zones block slots row (without_ranges e) Holds
  pub some : Witness zones block slots row (without_ranges e) IsUnbroken

-- its negation is too
pub record IsExactNegated (zones : Zones) (slots : Slots) (block : ℕ) (row : Val) (e : Tree) : Type 0 where
  pub sound : rules_out_negation zones slots block e ≡ true → (i : Tree) → IsReplaced zones block (without_ranges e) i → Holds (not3 (mean (row_type zones.columns) slots row i)) → ⊥
  pub complete : rules_out_negation zones slots block e ≡ false → Witness zones block slots row (without_ranges e) (λ v. Holds (not3 v))

-- both of a plain filter
pub record IsPlainExact (zones : Zones) (slots : Slots) (block : ℕ) (row : Val) (e : Tree) : Type 0 where
  pub own : IsExact zones slots block row e
  pub negated : IsExactNegated zones slots block row e

pub and-exact : (zones : Zones) (slots : Slots) (block : ℕ) (row : Val) (l r : Tree) → IsExact zones slots block row l → IsExact zones slots block row r → IsExact zones slots block row (binary l Operator.And r)
unfolding mean rules_out without_ranges IsReplaced
and-exact zones slots block row l r x y =
    let t = row_type zones.columns in
    record {
      sound = λ k i (a, b, e, p, q) c.
          let both = and3-both (mean t slots row a) (mean t slots row b) (subst (λ (z : Tree). Holds (mean t slots row z)) e c) in
          ⊎_elim (λ (j : rules_out zones slots block l ≡ true). x.sound j a p both.0) (λ (j : rules_out zones slots block r ≡ true). y.sound j b q both.1)
          (or_cases (rules_out zones slots block l) (rules_out zones slots block r) k);
      complete = λ k.
          let parts = or_parts (rules_out zones slots block l) (rules_out zones slots block r) k in
          let a = x.complete parts.0 in
          let b = y.complete parts.1 in
          record { tree = binary a.tree Operator.And b.tree; replaced = (a.tree, b.tree, refl, a.replaced, b.replaced); fact = and-both (mean t slots row a.tree) (mean t slots row b.tree) a.fact b.fact };
      some =
          let a = x.some in
          let b = y.some in
          record { tree = binary a.tree Operator.And b.tree; replaced = (a.tree, b.tree, refl, a.replaced, b.replaced); fact = and-IsUnbroken (mean t slots row a.tree) (mean t slots row b.tree) a.fact b.fact };
    }

pub or-exact : (zones : Zones) (slots : Slots) (block : ℕ) (row : Val) (l r : Tree) → IsExact zones slots block row l → IsExact zones slots block row r → IsExact zones slots block row (binary l Operator.Or r)
unfolding mean rules_out without_ranges IsReplaced
or-exact zones slots block row l r x y =
    let t = row_type zones.columns in
    record {
      sound = λ k i (a, b, e, p, q) c.
          let parts = and_parts (rules_out zones slots block l) (rules_out zones slots block r) k in
          ⊎_elim (λ (j : Holds (mean t slots row a)). x.sound parts.0 a p j) (λ (j : Holds (mean t slots row b)). y.sound parts.1 b q j)
          (or3-either (mean t slots row a) (mean t slots row b) (subst (λ (z : Tree). Holds (mean t slots row z)) e c));
      complete = λ k.
          ⊎_elim
          (λ (j : rules_out zones slots block l ≡ false).
          let a = x.complete j in
          let b = y.some in
          record { tree = binary a.tree Operator.Or b.tree; replaced = (a.tree, b.tree, refl, a.replaced, b.replaced); fact = or-left (mean t slots row a.tree) (mean t slots row b.tree) a.fact b.fact })
          (λ (j : rules_out zones slots block r ≡ false).
          let a = x.some in
          let b = y.complete j in
          record { tree = binary a.tree Operator.Or b.tree; replaced = (a.tree, b.tree, refl, a.replaced, b.replaced); fact = or-right (mean t slots row a.tree) (mean t slots row b.tree) a.fact b.fact })
          (and_cases (rules_out zones slots block l) (rules_out zones slots block r) k);
      some =
          let a = x.some in
          let b = y.some in
          record { tree = binary a.tree Operator.Or b.tree; replaced = (a.tree, b.tree, refl, a.replaced, b.replaced); fact = or-IsUnbroken (mean t slots row a.tree) (mean t slots row b.tree) a.fact b.fact };
    }

pub and-negated : (zones : Zones) (slots : Slots) (block : ℕ) (row : Val) (l r : Tree) → IsPlainExact zones slots block row l → IsPlainExact zones slots block row r
    → IsExactNegated zones slots block row (binary l Operator.And r)
unfolding mean rules_out without_ranges IsReplaced
and-negated zones slots block row l r x y =
    let t = row_type zones.columns in
    record {
      sound = λ k i (a, b, e, p, q) c.
          let parts = and_parts (rules_out_negation zones slots block l) (rules_out_negation zones slots block r) k in
          ⊎_elim (λ (j : Holds (not3 (mean t slots row a))). x.negated.sound parts.0 a p j) (λ (j : Holds (not3 (mean t slots row b))). y.negated.sound parts.1 b q j)
          (not_and3-either (mean t slots row a) (mean t slots row b) (subst (λ (z : Tree). Holds (not3 (mean t slots row z))) e c));
      complete = λ k.
          ⊎_elim
          (λ (j : rules_out_negation zones slots block l ≡ false).
          let a = x.negated.complete j in
          let b = y.own.some in
          record { tree = binary a.tree Operator.And b.tree; replaced = (a.tree, b.tree, refl, a.replaced, b.replaced); fact = not-and-left (mean t slots row a.tree) (mean t slots row b.tree) a.fact b.fact })
          (λ (j : rules_out_negation zones slots block r ≡ false).
          let a = x.own.some in
          let b = y.negated.complete j in
          record { tree = binary a.tree Operator.And b.tree; replaced = (a.tree, b.tree, refl, a.replaced, b.replaced); fact = not-and-right (mean t slots row a.tree) (mean t slots row b.tree) a.fact b.fact })
          (and_cases (rules_out_negation zones slots block l) (rules_out_negation zones slots block r) k);
    }

pub or-negated : (zones : Zones) (slots : Slots) (block : ℕ) (row : Val) (l r : Tree) → IsPlainExact zones slots block row l → IsPlainExact zones slots block row r
    → IsExactNegated zones slots block row (binary l Operator.Or r)
unfolding mean rules_out without_ranges IsReplaced
or-negated zones slots block row l r x y =
    let t = row_type zones.columns in
    record {
      sound = λ k i (a, b, e, p, q) c.
          let both = not_or3-both (mean t slots row a) (mean t slots row b) (subst (λ (z : Tree). Holds (not3 (mean t slots row z))) e c) in
          ⊎_elim (λ (j : rules_out_negation zones slots block l ≡ true). x.negated.sound j a p both.0) (λ (j : rules_out_negation zones slots block r ≡ true). y.negated.sound j b q both.1)
          (or_cases (rules_out_negation zones slots block l) (rules_out_negation zones slots block r) k);
      complete = λ k.
          let parts = or_parts (rules_out_negation zones slots block l) (rules_out_negation zones slots block r) k in
          let a = x.negated.complete parts.0 in
          let b = y.negated.complete parts.1 in
          record { tree = binary a.tree Operator.Or b.tree; replaced = (a.tree, b.tree, refl, a.replaced, b.replaced); fact = not-or-both (mean t slots row a.tree) (mean t slots row b.tree) a.fact b.fact };
    }

pub and-plain : (zones : Zones) (slots : Slots) (block : ℕ) (row : Val) (l r : Tree) → IsPlainExact zones slots block row l → IsPlainExact zones slots block row r
    → IsPlainExact zones slots block row (binary l Operator.And r)
and-plain zones slots block row l r x y = record { own = and-exact zones slots block row l r x.own y.own; negated = and-negated zones slots block row l r x y }

pub or-plain : (zones : Zones) (slots : Slots) (block : ℕ) (row : Val) (l r : Tree) → IsPlainExact zones slots block row l → IsPlainExact zones slots block row r → IsPlainExact zones slots block row (binary l Operator.Or r)
or-plain zones slots block row l r x y = record { own = or-exact zones slots block row l r x.own y.own; negated = or-negated zones slots block row l r x y }

pub not-plain : (zones : Zones) (slots : Slots) (block : ℕ) (row : Val) (d : Tree) → IsPlainExact zones slots block row d → IsPlainExact zones slots block row (not_of d)
unfolding mean rules_out without_ranges IsReplaced
not-plain zones slots block row d x =
    let t = row_type zones.columns in
    record {
      own = record {
        sound = λ k i (a, e, p) c. x.negated.sound k a p (subst (λ (z : Tree). Holds (mean t slots row z)) e c);
        complete = λ k. let a = x.negated.complete k in record { tree = not_of a.tree; replaced = (a.tree, refl, a.replaced); fact = a.fact };
        some = let a = x.own.some in record { tree = not_of a.tree; replaced = (a.tree, refl, a.replaced); fact = not-IsUnbroken (mean t slots row a.tree) a.fact };
      };
      negated = record {
        sound = λ k i (a, e, p) c. x.own.sound k a p (not3-not3 (mean t slots row a) (subst (λ (z : Tree). Holds (not3 (mean t slots row z))) e c));
        complete = λ k. let a = x.own.complete k in record { tree = not_of a.tree; replaced = (a.tree, refl, a.replaced); fact = not-not (mean t slots row a.tree) a.fact };
      };
    }
