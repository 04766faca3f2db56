-- Of each block it is told whether a scan skips it.
use Rattle.std.proofs.Common.{◌≡◌, refl, ap, ℕ, suc, Bool, true, false, cond, not, List, [], ◌∷◌, length, map}
use Rattle.std.specs.List.{filter}
use Rattle.vx_semantics.specs.Pruning.{rules_out}
use Rattle.vx_semantics.specs.Tables.{numbered_from}
use Rattle.vx_laws_shell.specs.Wants.{condition_tree}
use Rattle.vx_laws_explaining.specs.ExplainingLaws.{EachBlockIsTold, NumberIsSkipped, SkippedAreScans}

module _ (test : ℕ → Bool) where
  abbrev pub flags : ℕ → List ℕ → List Bool
  flags n xs = map (λ (b : ℕ × ℕ). test b.0) (numbered_from n xs)

  -- an item that is taken stands before the others that are
  one_picked : (t : Bool) (n x : ℕ) (b : Bool) (bs : List (ℕ × Bool)) (ys : List (ℕ × ℕ)) → map (λ (b : ℕ × Bool). b.0) bs ≡ map (λ (b : ℕ × ℕ). b.0) ys
      → map (λ (b : ℕ × Bool). b.0) (cond t ((n, b) ∷ bs) bs) ≡ map (λ (b : ℕ × ℕ). b.0) (cond t ((n, x) ∷ ys) ys)
  one_picked true n x b bs ys e = ap (λ ns. n ∷ ns) e
  one_picked false n x b bs ys e = e

  picked : (own : Bool → Bool) (n : ℕ) (xs : List ℕ)
      → map (λ (b : ℕ × Bool). b.0) (filter (λ (b : ℕ × Bool). own b.1) (numbered_from n (flags n xs)))
      ≡ map (λ (b : ℕ × ℕ). b.0) (filter (λ (b : ℕ × ℕ). own (test b.0)) (numbered_from n xs))
  picked own n [] = refl
  picked own n (x ∷ xs) =
      one_picked (own (test n)) n x (test n) (filter (λ (b : ℕ × Bool). own b.1) (numbered_from (suc n) (flags (suc n) xs)))
      (filter (λ (b : ℕ × ℕ). own (test b.0)) (numbered_from (suc n) xs)) (picked own (suc n) xs)

  -- and counts one more
  one_counted : (t : Bool) (n x : ℕ) (bs : List Bool) (ys : List (ℕ × ℕ)) → length bs ≡ length (map (λ (b : ℕ × ℕ). b.0) ys)
      → length (cond t (t ∷ bs) bs) ≡ length (map (λ (b : ℕ × ℕ). b.0) (cond t ((n, x) ∷ ys) ys))
  one_counted true n x bs ys e = ap suc e
  one_counted false n x bs ys e = e

  counted : (n : ℕ) (xs : List ℕ) → length (filter (λ out. out) (flags n xs)) ≡ length (map (λ (b : ℕ × ℕ). b.0) (filter (λ (b : ℕ × ℕ). test b.0) (numbered_from n xs)))
  counted n [] = refl
  counted n (x ∷ xs) =
      one_counted (test n) n x (filter (λ out. out) (flags (suc n) xs)) (filter (λ (b : ℕ × ℕ). test b.0) (numbered_from (suc n) xs)) (counted (suc n) xs)

  pub as_many : (n : ℕ) (xs : List ℕ) → length (flags n xs) ≡ length xs
  as_many n [] = refl
  as_many n (x ∷ xs) = ap suc (as_many (suc n) xs)

pub skipped_are_scans : SkippedAreScans
skipped_are_scans zones plan =
    let f = condition_tree plan.filter in
    (picked (λ n. rules_out zones [] n f) (λ out. out) 0 zones.lengths, picked (λ n. rules_out zones [] n f) not 0 zones.lengths)

pub number_is_skipped : NumberIsSkipped
number_is_skipped zones plan = counted (λ n. rules_out zones [] n (condition_tree plan.filter)) 0 zones.lengths

pub each_block_is_told : EachBlockIsTold
each_block_is_told zones plan = as_many (λ n. rules_out zones [] n (condition_tree plan.filter)) 0 zones.lengths
