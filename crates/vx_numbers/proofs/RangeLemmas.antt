-- Numbers that are kept of numbers of a type are numbers of the type; totals that leave it.
use Rattle.std.proofs.Common.{◌≡◌, ℕ, ◌+◌, ◌<◌, ◌≤◌, List, [], ◌∷◌, ◌++◌, get_or, length, take, Bool, true, false, ◌&&◌, cond, Option, Some, None, refl, ◌∙◌, sym, ap, subst, arith}
use Rattle.std.proofs.lemmas.List.{take_more, take_all}
use Rattle.std.proofs.lemmas.List.Folds.{list_all-append}
use Rattle.std.specs.Option.{option_map}
use Rattle.std.specs.Prelude.{ℤ, zero, suc, replicate}
use Rattle.std.specs.Simd.Lanes.{zip2}
use Rattle.vx_dtype.specs.Fits.{in_range}
use Rattle.vx_dtype.specs.declared.PType.{PType}
use Rattle.vx_words.specs.Truths.{is_true, hidden_if, kept_items}
use Rattle.vx_words.proofs.BitLemmas.{and_false}
use Rattle.vx_numbers.specs.Numbers.{NumberList, number_list, fits_ptype, all_in_range, on_both, total_in, if_in_range}

both_true : (x y : Bool) → (x && y) ≡ true → (x ≡ true) × (y ≡ true)
both_true true y e = (refl, e)
both_true false y e = cc

kept_first : (p : PType) (keep : Bool) (n : Option ℤ) (ns : List (Option ℤ)) → fits_ptype p n ≡ true → all_in_range p ns ≡ true
    → all_in_range p (cond keep (n ∷ ns) ns) ≡ true
kept_first p true n ns f e = rw f e
kept_first p false n ns f e = e

masked_fits : (p : PType) (n : Option ℤ) (hidden : Bool) → fits_ptype p n ≡ true → fits_ptype p (cond hidden None n) ≡ true
masked_fits p n true e = refl
masked_fits p n false e = e

pub kept_in_range : (p : PType) (ns : List (Option ℤ)) (ks : List (Option Bool)) → all_in_range p ns ≡ true
    → all_in_range p (kept_items ns ks) ≡ true
kept_in_range p [] ks e = refl
kept_in_range p (n ∷ ns) [] e = refl
kept_in_range p (n ∷ ns) (k ∷ ks) e =
    let fits = both_true (fits_ptype p n) (all_in_range p ns) e in
    kept_first p (is_true k) n (kept_items ns ks) fits.0 (kept_in_range p ns ks fits.1)

pub masked_in_range : (p : PType) (ns : List (Option ℤ)) (ts : List (Option Bool)) → all_in_range p ns ≡ true
    → all_in_range p (zip2 hidden_if ns ts) ≡ true
masked_in_range p [] ts e = refl
masked_in_range p (n ∷ ns) [] e = refl
masked_in_range p (n ∷ ns) (t ∷ ts) e =
    let fits = both_true (fits_ptype p n) (all_in_range p ns) e in
    rw (masked_fits p n (is_true t) fits.0) (masked_in_range p ns ts fits.1)

pub repeated_in_range : (p : PType) (n : Option ℤ) (len : ℕ) → fits_ptype p n ≡ true → all_in_range p (replicate len n) ≡ true
repeated_in_range p n zero e = refl
repeated_in_range p n (suc len) e = rw e (repeated_in_range p n len e)

-- ---- totals, one after another
total_there : (b : Bool) (i : ℤ) (t : Option ℤ) → Some t ≡ option_map Some (cond b (Some i) None) → (t ≡ Some i) × (b ≡ true)
total_there true i t e = (let same : t ≡ Some i = cc in same, refl)
total_there false i t e = cc

total_missing : (b : Bool) (i : ℤ) → ◌≡◌ {A = Option (Option ℤ)} None (option_map Some (cond b (Some i) None)) → b ≡ false
total_missing true i e = cc
total_missing false i e = refl

fits_seen : (p : PType) (t s : Option ℤ) → Some t ≡ total_in p s → (t ≡ s) × (fits_ptype p s ≡ true)
fits_seen p t None e = (let same : t ≡ None = cc in same, refl)
fits_seen p t (Some i) e = total_there (in_range p i) i t e

leaves_type : (p : PType) (s : Option ℤ) → None ≡ total_in p s → fits_ptype p s ≡ false
leaves_type p None e = cc
leaves_type p (Some i) e = total_missing (in_range p i) i e

fails_at : (p : PType) (ts : List (Option ℤ)) (i : ℕ) → i < length ts → fits_ptype p (get_or ts i None) ≡ false → all_in_range p ts ≡ false
fails_at p [] i h f = absurd (omega arith)
fails_at p (t ∷ ts) zero h f = ap (λ x. x && all_in_range p ts) f
fails_at p (t ∷ ts) (suc i) h f = ap (λ x. fits_ptype p t && x) (fails_at p ts i (omega arith) f) ∙ and_false (fits_ptype p t)

module _ (p : PType) (ts : List (Option ℤ)) where
  pub totals_more : (i : ℕ) (t : Option ℤ) → i < length ts → Some t ≡ total_in p (get_or ts i None) → all_in_range p (take i ts) ≡ true
      → (take i ts ++ t ∷ [] ≡ take (i + 1) ts) × (all_in_range p (take (i + 1) ts) ≡ true)
  totals_more i t h e before =
      let seen = fits_seen p t (get_or ts i None) e in
      let more = take_more ts i None h in (
        ap (λ x. take i ts ++ x ∷ []) seen.0 ∙ sym more,
        ap (all_in_range p) more ∙ list_all-append (fits_ptype p) (take i ts) (get_or ts i None ∷ []) ∙ λ k. before k && (seen.1 k && true),
      )

  pub totals_stop : (i : ℕ) → i < length ts → None ≡ total_in p (get_or ts i None) → None ≡ if_in_range p ts
  totals_stop i h e = sym (ap (λ b. cond b (Some ts) None) (fails_at p ts i h (leaves_type p (get_or ts i None) e)))

  pub totals_all : (n : ℕ) (ns : List (Option ℤ)) → length ts ≤ n → ns ≡ take n ts → all_in_range p (take n ts) ≡ true → Some ns ≡ if_in_range p ts
  totals_all n ns h e before =
      let whole = take_all n ts h in
      ap Some (e ∙ whole) ∙ sym (ap (λ b. cond b (Some ts) None) (ap (all_in_range p) (sym whole) ∙ before))

-- ---- the list of totals, if there is one
made_of : (p : PType) (ts : List (Option ℤ)) (l : NumberList) (b : Bool) → all_in_range p ts ≡ b
    → Some l ≡ option_map (number_list p) (cond b (Some ts) None) → all_in_range l.ptype l.numbers ≡ true
made_of p ts l true fits e =
    let same : number_list p ts ≡ l = cc in
    subst (λ (list : NumberList). all_in_range list.ptype list.numbers ≡ true) same fits
made_of p ts l false fits e = cc

pub made_in_range : (p : PType) (ts : List (Option ℤ)) (l : NumberList) → Some l ≡ option_map (number_list p) (if_in_range p ts)
    → all_in_range l.ptype l.numbers ≡ true
made_in_range p ts l e = made_of p ts l (all_in_range p ts) refl e

pub totals_seen : (rule : ℤ → ℤ → ℤ) (l r l' r' : NumberList) → l ≡ l' → r ≡ r'
    → option_map (number_list l.ptype) (if_in_range l.ptype (zip2 (on_both rule) l.numbers r.numbers))
    ≡ option_map (number_list l'.ptype) (if_in_range l'.ptype (zip2 (on_both rule) l'.numbers r'.numbers))
totals_seen rule l r l' r' p q =
    λ k. option_map (number_list (p k).ptype) (if_in_range (p k).ptype (zip2 (on_both rule) (p k).numbers (q k).numbers))
