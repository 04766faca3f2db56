-- A tree of numbers, the second node beside expressions.
use Rattle.std.proofs.Common.{◌≡◌, ℕ, zero, suc, ◌+◌, ◌<◌, ◌≤◌, max, List, [], ◌∷◌, length, Contains, slice_index_or, refl, ap, arith}
use Rattle.std.specs.Coded.{Coded, coded_ℕ}
use base.Stored.{Gv, gnil, gcons}
use denote.Param.Weighed.{most}

mutual
  -- a number with trees below it
  pub data NumberTree : Type 0 where
    number : ℕ → NumberTrees → NumberTree

  -- trees in order
  pub data NumberTrees : Type 0 where
    no_trees : NumberTrees
    tree_before : NumberTree → NumberTrees → NumberTrees

abbrev pub list_of_trees : NumberTrees → List NumberTree
list_of_trees no_trees = []
list_of_trees (tree_before t ts) = t ∷ list_of_trees ts

abbrev pub trees_of_list : List NumberTree → NumberTrees
trees_of_list [] = no_trees
trees_of_list (t ∷ ts) = tree_before t (trees_of_list ts)

abbrev pub number_at : NumberTree → ℕ
number_at (number n ts) = n

abbrev pub trees_below : NumberTree → List NumberTree
trees_below (number n ts) = list_of_trees ts

abbrev mutual
  -- 1 without trees below, else one more than the highest of them
  pub number_height : NumberTree → ℕ
  number_height (number n ts) = highest_tree ts + 1

  pub highest_tree : NumberTrees → ℕ
  highest_tree no_trees = 0
  highest_tree (tree_before t ts) = max (number_height t) (highest_tree ts)

-- the tree with another number at its top
abbrev pub renumbered : ℕ → NumberTree → NumberTree
renumbered m (number n ts) = number m ts

-- the number with other trees below it
abbrev pub number_with : NumberTree → List NumberTree → NumberTree
number_with t ts = number (number_at t) (trees_of_list ts)

abbrev mutual
  pub number_code : NumberTree → Gv
  number_code (number n ts) = gcons (coded_ℕ.code n) (trees_code ts)

  pub trees_code : NumberTrees → Gv
  trees_code no_trees = gnil
  trees_code (tree_before t ts) = gcons (number_code t) (trees_code ts)

mutual
  pub number_code_inj : (s t : NumberTree) → number_code s ≡ number_code t → s ≡ t
  number_code_inj (number n ss) (number m ts) p =
      let a : coded_ℕ.code n ≡ coded_ℕ.code m = cc in
      let b : trees_code ss ≡ trees_code ts = cc in
      λ i. number (coded_ℕ.inj n m a i) (trees_code_inj ss ts b i)

  pub trees_code_inj : (ss ts : NumberTrees) → trees_code ss ≡ trees_code ts → ss ≡ ts
  trees_code_inj no_trees no_trees p = refl
  trees_code_inj (tree_before s ss) (tree_before t ts) p =
      let a : number_code s ≡ number_code t = cc in
      let b : trees_code ss ≡ trees_code ts = cc in
      λ i. tree_before (number_code_inj s t a i) (trees_code_inj ss ts b i)
  trees_code_inj _ _ p = cc

abbrev pub coded_numbers : Coded NumberTree
coded_numbers = record { code = number_code; inj = number_code_inj }

pub list_of-trees_of : (ts : List NumberTree) → list_of_trees (trees_of_list ts) ≡ ts
list_of-trees_of [] = refl
list_of-trees_of (t ∷ ts) = ap (λ us. t ∷ us) (list_of-trees_of ts)

-- no tree below is as high as the number
pub most_le-highest : (ts : List NumberTree) → most (λ t. number_height t + 1) ts ≤ highest_tree (trees_of_list ts) + 1
most_le-highest [] = omega arith
most_le-highest (t ∷ ts) = omega (arith, most_le-highest ts)

lower_in : (ts : NumberTrees) (k : ℕ) (t : NumberTree) → k < length (list_of_trees ts) → slice_index_or (list_of_trees ts) k t ≡ t
    → number_height t < highest_tree ts + 1
lower_in no_trees k t lt is = absurd (omega arith)
lower_in (tree_before u ts) zero t lt is = let e : number_height u ≡ number_height t = ap number_height is in omega (arith, e)
lower_in (tree_before u ts) (suc k) t lt is = omega (arith, lower_in ts k t (omega arith) is)

pub below_is_lower : (t c : NumberTree) → Contains (trees_below t) c → number_height c < number_height t
below_is_lower (number n ts) c (k, lt, is) = lower_in ts k c lt is
