-- Values that are looked up among keys in order.
use Rattle.std.proofs.Common.{◌≡◌, refl, ap, ◌∙◌, sym, ℕ, zero, suc, Bool, false, ◌||◌, List, [], ◌∷◌, length, None, arith, inl, inr}
use Rattle.std.proofs.lemmas.Bool.{cases_lt}
use Rattle.std.specs.Result.{is_ok}
use Rattle.std.specs.declared.result.Result.{Result}
use Rattle.std.specs.declared.result.Result.TheVariants.{Ok, Err}
use Rattle.std.specs.declared.cmp.Ordering.{Ordering}
use Rattle.std.specs.Ordering.{is_eq}
use Rattle.std.specs.Cmp.{IsTotalOrder}
use Rattle.std.specs.List.{list_any}
use Rattle.std.specs.List.Sorted.{IsSorted, IsBinarySearchResult, IsSearchInRange, IsPermutation}
use Rattle.std.proofs.lemmas.List.Sorted.{searchable_from_sorted, list_any-IsPermutation}
use Rattle.std.proofs.lemmas.List.Folds.{list_any_none, list_any_at}
use Rattle.std.proofs.Math.ListN.{replicate}
use Rattle.vx_column.specs.Columns.{zip_rows}
use Rattle.vx_dtype.specs.Values.{Val, Raw, raw_null, raw_list, raw_struct}
use Rattle.vx_kernels.specs.RawRules.{raw_equal}
use Rattle.vx_kernels.specs.Lookups.{key_raw, plain_part, list_has, keys_have, AreKeysOf}
use Rattle.vx_kernels.specs.declared.lookups.Key.{Key}
use Rattle.vx_kernels.specs.declared.lookups.Key.TheVariants.{Truth, Number, Text}

-- what has no key equals no key
unequal : (k : Key) (v : Raw) → plain_part v ≡ None → raw_equal (key_raw k) v ≡ false
unequal (Truth b) raw_null e = refl
unequal (Truth b) (raw_list xs) e = refl
unequal (Truth b) (raw_struct xs) e = refl
unequal (Number i) raw_null e = refl
unequal (Number i) (raw_list xs) e = refl
unequal (Number i) (raw_struct xs) e = refl
unequal (Text s) raw_null e = refl
unequal (Text s) (raw_list xs) e = refl
unequal (Text s) (raw_struct xs) e = refl
unequal k _ e = cc

pub none_have : (keys : List Key) (v : Raw) → plain_part v ≡ None → keys_have keys v ≡ false
none_have [] v e = refl
none_have (k ∷ keys) v e = ap (λ b. b || keys_have keys v) (unequal k v e) ∙ none_have keys v e

-- the same keys in another order
pub keys_moved : (list : Raw) (has : Raw → Bool) (keys moved : List Key) → list_has list ≡ has → ((v : Raw) → has v ≡ keys_have keys v) → IsPermutation keys moved → AreKeysOf list moved
keys_moved list has keys moved e h p v = ap (λ (f : Raw → Bool). f v) e ∙ h v ∙ list_any-IsPermutation (λ k. raw_equal (key_raw k) v) keys moved p

-- a binary search of what is sorted finds an equal one exactly where there is one
pub searched_any : {X : Type 0} {R : X → X → Ordering} → IsTotalOrder R → (xs : List X) (x : X) (r : Result ℕ ℕ) → IsSorted R xs
    → IsSearchInRange r (length xs) → IsBinarySearchResult (λ y. R y x) xs r → is_ok r ≡ list_any (λ y. is_eq (R y x)) xs
searched_any {X} {R} o xs x (Ok i) s b h = sym (list_any_at (λ y. is_eq (R y x)) xs i x b (ap is_eq (h x)))
searched_any {X} {R} o xs x (Err i) s b h =
    let point = h (searchable_from_sorted o (λ (y : X). y) xs x s) in
    sym (list_any_none (λ y. is_eq (R y x)) xs (λ k d less. elim (cases_lt k i) [
      | inl before ↦ ap is_eq (point.0 k d (omega arith) before)
      | inr behind ↦ ap is_eq (point.1 k d behind less)
    ]))

-- rows of one value beside others: a rule may take that value from elsewhere
shared_repeated : (rule : Val → Val → Val) (n : ℕ) (x : Val) (vs : List Val) → zip_rows (λ _ v. rule x v) (replicate n x) vs ≡ zip_rows rule (replicate n x) vs
shared_repeated rule zero x vs = refl
shared_repeated rule (suc n) x [] = refl
shared_repeated rule (suc n) x (v ∷ vs) = ap (λ ws. rule x v ∷ ws) (shared_repeated rule n x vs)

pub shared_rows : (rule : Val → Val → Val) (n : ℕ) (x y : Val) (ls vs : List Val) → x ≡ y → ls ≡ replicate n y → zip_rows (λ _ v. rule x v) ls vs ≡ zip_rows rule ls vs
shared_rows rule n x y ls vs e h =
    (λ j. zip_rows (λ _ v. rule (e j) v) (h j) vs) ∙ shared_repeated rule n y vs ∙ ap (λ ks. zip_rows rule ks vs) (sym h)
