-- What calls make of a part of a store is one relation: a part may stay as it is, and goes on by it.
use Rattle.std.proofs.Common.{◌≡◌, refl, sym, ap, ◌∙◌, subst, ◌⊎◌, inl, inr, ℕ, Bool, true, Option, Some, List, [], ◌∷◌, ◌++◌}
use Rattle.std.specs.List.{list_all}
use Rattle.std.proofs.lemmas.Bool.{and_parts, and_from}
use Rattle.std.proofs.lemmas.List.{append_assoc, append-nil}
use Rattle.vx_scan.specs.Stores.{Read, StoreSeen, IsSameStore}
use Rattle.vx_scan.proofs.ScanLemmas.{same_store, same_after}
use Rattle.vx_block_parts.specs.Parts.{Part, is_between}

-- the last read that failed is the same, or one of one of these blocks
abbrev pub FailsBetween : ℕ → ℕ → Option Read → Option Read → Type 0
FailsBetween from up_to before after = (after ≡ before) ⊎ ((read : Read) × (after ≡ Some read) × (is_between from up_to read ≡ true))

-- what calls make of a store by these blocks alone: it stays the same store, and what is read of it is of one of them
pub record MovesBetween (from up_to : ℕ) (before after : StoreSeen) : Type 0 where
  pub same : IsSameStore before after
  pub made : List Read
  pub grown : after.log ≡ before.log ++ made
  pub between : list_all (is_between from up_to) made ≡ true
  pub failed : FailsBetween from up_to before.failed after.failed

-- what calls make of a part: its blocks stay, and its store moves as it may, by these blocks alone
pub record MovesPart {S : Type 0} (seen : S → StoreSeen) (moves : S → S → Type 0) (before after : Part S) : Type 0 where
  pub from : after.from ≡ before.from
  pub up_to : after.up_to ≡ before.up_to
  pub store : moves before.store after.store
  pub within : MovesBetween before.from before.up_to (seen before.store) (seen after.store)

-- ---- the laws

stays_between : (from up_to : ℕ) (s : StoreSeen) → MovesBetween from up_to s s
stays_between from up_to s = record { same = same_store s; made = []; grown = sym (append-nil s.log); between = refl; failed = inl refl }

all_joined : (test : Read → Bool) (xs ys : List Read) → list_all test xs ≡ true → list_all test ys ≡ true → list_all test (xs ++ ys) ≡ true
all_joined test [] ys h k = k
all_joined test (x ∷ xs) ys h k =
    let parts = and_parts (test x) (list_all test xs) h in and_from (test x) (list_all test (xs ++ ys)) parts.0 (all_joined test xs ys parts.1 k)

fails_on : (from up_to : ℕ) (a b c : Option Read) → FailsBetween from up_to a b → FailsBetween from up_to b c → FailsBetween from up_to a c
fails_on from up_to a b c h (inr k) = inr k
fails_on from up_to a b c (inl h) (inl k) = inl (k ∙ h)
fails_on from up_to a b c (inr h) (inl k) = inr (h.0, k ∙ h.1, h.2)

goes_on_between : (from up_to : ℕ) (a b c : StoreSeen) → MovesBetween from up_to a b → MovesBetween from up_to b c → MovesBetween from up_to a c
goes_on_between from up_to a b c h k = record {
  same = same_after a b c h.same k.same;
  made = h.made ++ k.made;
  grown = k.grown ∙ ap (λ (rs : List Read). rs ++ k.made) h.grown ∙ append_assoc a.log h.made k.made;
  between = all_joined (is_between from up_to) h.made k.made h.between k.between;
  failed = fails_on from up_to a.failed b.failed c.failed h.failed k.failed;
}

module _ {S : Type 0} (seen : S → StoreSeen) (moves : S → S → Type 0) where
  pub part_stays : ((s : S) → moves s s) → (p : Part S) → MovesPart seen moves p p
  part_stays stays p = record { from = refl; up_to = refl; store = stays p.store; within = stays_between p.from p.up_to (seen p.store) }

  pub part_goes_on : ((r s t : S) → moves r s → moves s t → moves r t) → (a b c : Part S) → MovesPart seen moves a b → MovesPart seen moves b c
      → MovesPart seen moves a c
  part_goes_on goes_on a b c h k = record {
    from = k.from ∙ h.from;
    up_to = k.up_to ∙ h.up_to;
    store = goes_on a.store b.store c.store h.store k.store;
    within =
        goes_on_between a.from a.up_to (seen a.store) (seen b.store) (seen c.store) h.within
        (subst (λ (n : ℕ). MovesBetween n a.up_to (seen b.store) (seen c.store)) h.from
        (subst (λ (n : ℕ). MovesBetween b.from n (seen b.store) (seen c.store)) h.up_to k.within));
  }
