-- A relation after a value was put beside a key, and after the keys without a value were taken out.
use Rattle.std.proofs.Common.{◌≡◌, ℕ, suc, Bool, true, false, ◌&&◌, ◌||◌, cond, ltb, List, [], ◌∷◌, length, filter, Option, Some, None, refl, sym, ap, ◌∙◌, arith, true≢false}
use Rattle.std.specs.Prelude.{Result, Ok, Err, IsErr, OnErr}
use Rattle.std.specs.List.{list_any}
use Rattle.std.specs.Cmp.{IsEquivalence}
use Rattle.std.specs.Option.{UnwrapsOrElse}
use Rattle.std.proofs.lemmas.Bool.Decides.{nat_tests}
use Rattle.std.proofs.lemmas.Map.Entries.{lookup-filter-values, option_filter}
use Rattle.std.proofs.lemmas.Option.{same_Some, none-some}
use Rattle.std.specs.HashMap as map
use Rattle.std.specs.HashMap.{HashMap}
use Rattle.std.specs.HashSet as set
use Rattle.std.specs.Map.{lookup}
use Rattle.std.specs.HashSet.{HashSet}
use Rattle.vx_prune.specs.Relations.{is_in, has_pair, AddsNoBareKey, HasNoBareKey}

-- a fact for an error
pub on_err : {A E P : Type 0} (result : Result A E) → IsErr result → P → OnErr result P
on_err (Ok x) h p = tt
on_err (Err e) h p = p

either : (a b : Bool) → cond a true b ≡ (a || b)
either true b = refl
either false b = refl

-- a set that is empty where there is none has what the set has, if there is one
lent_or_empty : {V S : Type 0} (same_value : V → V → Bool) (found : Option (HashSet V S)) (was : HashSet V S) → UnwrapsOrElse found (λ s. set.IsEmpty s × set.IsUnique same_value s) was
    → (w : V) → set.contains same_value was w ≡ is_in same_value found w
lent_or_empty same_value None was h w = ap (list_any (same_value w)) h.0
lent_or_empty same_value (Some s) was h w = ap (λ x. set.contains same_value x w) h

-- the set that an entry lends has what the set beside its key has
pub lent_set : {V S : Type 0} (same_value : V → V → Bool) (lent found : Option (HashSet V S)) (was : HashSet V S) → lent ≡ found → UnwrapsOrElse lent (λ s. set.IsEmpty s × set.IsUnique same_value s) was
    → (w : V) → set.contains same_value was w ≡ is_in same_value found w
lent_set same_value lent found was e h w = lent_or_empty same_value lent was h w ∙ ap (λ o. is_in same_value o w) e

module _ {K V S T : Type 0} {same_key : K → K → Bool} (laws : IsEquivalence same_key) (same_value : V → V → Bool) where
  -- the set beside a key is that beside an equal one
  same_get : (m : HashMap K (HashSet V S) T) (k q : K) → same_key k q ≡ true → map.get same_key m k ≡ map.get same_key m q
  same_get m k q e = ap (λ test. map.get_by test m) (λ i x. laws.congr k q x e i)

  module _ (old known new : HashMap K (HashSet V S) T) (k : K) (was now : HashSet V S) (written : new ≡ known)
      (get_known : (q : K) → map.get same_key known q ≡ cond (same_key k q) (Some now) (map.get same_key old q))
      (was_in : (w : V) → set.contains same_value was w ≡ is_in same_value (map.get same_key old k) w) where
    at_key : (b : Bool) (q : K) (w : V) → same_key k q ≡ b → has_pair same_key same_value new q w ≡ is_in same_value (cond b (Some now) (map.get same_key old q)) w
    at_key b q w e =
        ap (λ m. has_pair same_key same_value m q w) written ∙ ap (λ o. is_in same_value o w) (get_known q)
        ∙ ap (λ c. is_in same_value (cond c (Some now) (map.get same_key old q)) w) e

    put_by : (b : Bool) (v : V) (q : K) (w : V) → set.contains same_value now w ≡ cond (same_value v w) true (set.contains same_value was w) → same_key k q ≡ b
        → has_pair same_key same_value new q w ≡ (b && same_value v w || has_pair same_key same_value old q w)
    put_by true v q w h e =
        at_key true q w e ∙ h ∙ ap (cond (same_value v w) true) (was_in w ∙ ap (λ o. is_in same_value o w) (same_get old k q e))
        ∙ either (same_value v w) (has_pair same_key same_value old q w)
    put_by false v q w h e = at_key false q w e

    -- the value stands beside the key, and else what stood there
    pub has_pair-put : (v : V) → ((w : V) → set.contains same_value now w ≡ cond (same_value v w) true (set.contains same_value was w)) → (q : K) (w : V)
        → has_pair same_key same_value new q w ≡ (same_key k q && same_value v w || has_pair same_key same_value old q w)
    has_pair-put v h q w = put_by (same_key k q) v q w (h w) refl

    kept_by : (b : Bool) (q : K) (w : V) → set.contains same_value now w ≡ set.contains same_value was w → same_key k q ≡ b
        → has_pair same_key same_value new q w ≡ has_pair same_key same_value old q w
    kept_by true q w h e = at_key true q w e ∙ h ∙ was_in w ∙ ap (λ o. is_in same_value o w) (same_get old k q e)
    kept_by false q w h e = at_key false q w e

    -- where the value was not put, what stood there stands there
    pub has_pair-kept : now.keys ≡ was.keys → (q : K) (w : V) → has_pair same_key same_value new q w ≡ has_pair same_key same_value old q w
    has_pair-kept h q w = kept_by (same_key k q) q w (ap (list_any (same_value w)) h) refl

    got : (b : Bool) (q : K) → same_key k q ≡ b → map.get same_key new q ≡ cond b (Some now) (map.get same_key old q)
    got b q e = ap (λ m. map.get same_key m q) written ∙ get_known q ∙ ap (λ c. cond c (Some now) (map.get same_key old q)) e

    bare_by : (b : Bool) (v : V) (q : K) (s : HashSet V S) → set.contains same_value now v ≡ true → same_key k q ≡ b
        → map.get same_key new q ≡ Some s → s.keys ≡ [] → map.get same_key old q ≡ Some s
    bare_by true v q s has e at bare =
        absurd (true≢false (sym has ∙ ap (λ x. set.contains same_value x v) (same_Some now s (sym (got true q e) ∙ at)) ∙ ap (list_any (same_value v)) bare))
    bare_by false v q s has e at bare = sym (got false q e) ∙ at

    -- where the key has a value now, no other key lost one
    pub adds_no_bare : (v : V) → set.contains same_value now v ≡ true → AddsNoBareKey same_key old new
    adds_no_bare v has q s at bare = bare_by (same_key k q) v q s has refl at bare

-- ---- keys without a value

-- whether a set has a value
abbrev pub has_value : {V S : Type 0} → HashSet V S → Bool
has_value s = ltb 0 (length s.keys)

some_longer : (n : ℕ) → ltb 0 (suc n) ≡ false → ⊥
some_longer n h = grind (arith, nat_tests, h)

no_value : {V : Type 0} (vs : List V) → ltb 0 (length vs) ≡ false → vs ≡ []
no_value [] h = refl
no_value (v ∷ vs) h = absurd (some_longer (length vs) h)

module _ {V S : Type 0} (same_value : V → V → Bool) where
  kept_by_value : (b : Bool) (s : HashSet V S) (w : V) → has_value s ≡ b → is_in same_value (cond b (Some s) None) w ≡ set.contains same_value s w
  kept_by_value true s w e = refl
  kept_by_value false s w e = sym (ap (list_any (same_value w)) (no_value s.keys e))

  kept_in : (o : Option (HashSet V S)) (w : V) → is_in same_value (option_filter has_value o) w ≡ is_in same_value o w
  kept_in None w = refl
  kept_in (Some s) w = kept_by_value (has_value s) s w refl

bare_by_value : {V S : Type 0} (b : Bool) (x s : HashSet V S) → has_value x ≡ b → cond b (Some x) None ≡ Some s → s.keys ≡ [] → ⊥
bare_by_value true x s e at bare = true≢false (sym e ∙ ap has_value (same_Some x s at) ∙ ap (λ vs. ltb 0 (length vs)) bare)
bare_by_value false x s e at bare = none-some s at

none_bare : {V S : Type 0} (o : Option (HashSet V S)) (s : HashSet V S) → option_filter has_value o ≡ Some s → s.keys ≡ [] → ⊥
none_bare None s at bare = none-some s at
none_bare (Some x) s at bare = bare_by_value (has_value x) x s refl at bare

module _ {K V S T : Type 0} {same_key : K → K → Bool} (laws : IsEquivalence same_key) (old new : HashMap K (HashSet V S) T)
    (unique : map.IsUnique same_key old) (is : new.entries ≡ filter (λ e. has_value e.1) old.entries) where
  left_in : (q : K) → map.get same_key new q ≡ option_filter has_value (map.get same_key old q)
  left_in q = ap (lookup (same_key q)) is ∙ lookup-filter-values laws has_value q old.entries unique

  -- without the keys that have no value the pairs stay
  pub pairs_stay : (same_value : V → V → Bool) (q : K) (w : V) → has_pair same_key same_value new q w ≡ has_pair same_key same_value old q w
  pairs_stay same_value q w = ap (λ o. is_in same_value o w) (left_in q) ∙ kept_in same_value (map.get same_key old q) w

  -- and each key has a value
  pub no_bare_left : HasNoBareKey same_key new
  no_bare_left q s at bare = none_bare (map.get same_key old q) s (sym (left_in q) ∙ at) bare
