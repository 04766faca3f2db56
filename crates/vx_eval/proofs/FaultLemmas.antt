-- Rows that are faults, and where a node breaks.
use Rattle.std.proofs.Common.{◌≡◌, Bool, true, false, not, cond, ◌&&◌, ◌||◌, List, [], ◌∷◌, map, Ok, Err, Some, None, refl, ap, sym, ◌∙◌}
use Rattle.std.specs.List.{list_any, list_all}
use Rattle.std.proofs.lemmas.Bool.{and_parts}
use Rattle.vx_dtype.specs.Types.{Ty}
use Rattle.vx_dtype.specs.Values.{Val, null_val, bool_val, int_val, text_val, list_val, struct_val, fault}
use Rattle.vx_dtype.specs.Fits.{val_fits}
use Rattle.vx_column.specs.Columns.{Column, rows_fit}
use Rattle.vx_column.specs.Answers.{no_faults, unless}
use Rattle.vx_column.specs.declared.errors.ColumnError.{ColumnError}
use Rattle.vx_semantics.specs.Breaks.{Cause, by_sum, by_cast, is_fault, is_cause, cause_where}

-- ---- tests

pub of_both : (a b : Bool) → a ≡ true → b ≡ true → (a && b) ≡ true
of_both true b p q = q
of_both false b p q = absurd cc

pub or_right : (a b : Bool) → b ≡ true → (a || b) ≡ true
or_right true b e = refl
or_right false b e = e

pub or_left : (a b : Bool) → a ≡ true → (a || b) ≡ true
or_left true b e = refl
or_left false b e = absurd cc

pub neither : (a b : Bool) → a ≡ false → b ≡ false → (a || b) ≡ false
neither true b p q = absurd cc
neither false b p q = q

-- where two tests ask more than two others, of which one fails, one of the two fails
pub one_fails : (a b p q : Bool) → (a ≡ true → p ≡ true) → (b ≡ true → q ≡ true) → (p && q) ≡ false → (a && b) ≡ false
one_fails true true p q f g h = sym (of_both p q (f refl) (g refl)) ∙ h
one_fails true false p q f g h = refl
one_fails false b p q f g h = refl

pub none_any : {A : Type 0} (p : A → Bool) (xs : List A) → ((x : A) → p x ≡ false) → list_any p xs ≡ false
none_any p [] h = refl
none_any p (x ∷ xs) h = neither (p x) (list_any p xs) (h x) (none_any p xs h)

pub all_both : {A : Type 0} (p q : A → Bool) (xs : List A) → list_all p xs ≡ true → list_all q xs ≡ true → list_all (λ x. p x && q x) xs ≡ true
all_both p q [] e d = refl
all_both p q (x ∷ xs) e d =
    let a = and_parts (p x) (list_all p xs) e in
    let b = and_parts (q x) (list_all q xs) d in
    of_both (p x && q x) (list_all (λ y. p y && q y) xs) (of_both (p x) (q x) a.0 b.0) (all_both p q xs a.1 b.1)

-- ---- rows without a fault

pub first_row : (v : Val) (vs : List Val) → no_faults (v ∷ vs) ≡ (not (is_fault v) && no_faults vs)
first_row null_val vs = refl
first_row (bool_val b) vs = refl
first_row (int_val p i) vs = refl
first_row (text_val s) vs = refl
first_row (list_val xs) vs = refl
first_row (struct_val ms) vs = refl
first_row fault vs = refl

pub no_faults_all : {A : Type 0} (f : A → Val) (xs : List A) → no_faults (map f xs) ≡ list_all (λ x. not (is_fault (f x))) xs
no_faults_all f [] = refl
no_faults_all f (x ∷ xs) = first_row (f x) (map f xs) ∙ ap (λ b. not (is_fault (f x)) && b) (no_faults_all f xs)

-- rows that are of a type hold no fault
pub no_faults_fit : (t : Ty) (vs : List Val) → rows_fit t vs ≡ true → no_faults vs ≡ true
unfolding val_fits
no_faults_fit t [] e = refl
no_faults_fit t (null_val ∷ vs) e = no_faults_fit t vs (and_parts _ _ e).1
no_faults_fit t (bool_val b ∷ vs) e = no_faults_fit t vs (and_parts _ _ e).1
no_faults_fit t (int_val p i ∷ vs) e = no_faults_fit t vs (and_parts _ _ e).1
no_faults_fit t (text_val s ∷ vs) e = no_faults_fit t vs (and_parts _ _ e).1
no_faults_fit t (list_val xs ∷ vs) e = no_faults_fit t vs (and_parts _ _ e).1
no_faults_fit t (struct_val ms ∷ vs) e = no_faults_fit t vs (and_parts _ _ e).1
no_faults_fit t (fault ∷ vs) e = cc

-- what an answer tells of the test that it depends on
pub told_ok : (b : Bool) (e : ColumnError) (c made : Column) → Ok c ≡ unless b e (Ok made) → (b ≡ true) × (c ≡ made)
told_ok true e c made h = (refl, cc)
told_ok false e c made h = absurd cc

pub told_err : (b : Bool) (e f : ColumnError) (made : Column) → Err f ≡ unless b e (Ok made) → (b ≡ false) × (f ≡ e)
told_err true e f made h = absurd cc
told_err false e f made h = (refl, cc)

-- ---- breaks

pub no_cause : (c : Cause) → is_cause c None ≡ false
no_cause by_sum = refl
no_cause by_cast = refl

quiet : (d c : Cause) (s b : Bool) → not b ≡ true → is_cause d (cond (s && b) (Some c) None) ≡ false
quiet d c s true e = absurd cc
quiet d c true false e = no_cause d
quiet d c false false e = no_cause d

loud : (c : Cause) → is_cause c (Some c) ≡ true
loud by_sum = refl
loud by_cast = refl

some_step : (c : Cause) (s b n rest : Bool) → s ≡ true → (not b && n) ≡ false → (n ≡ false → rest ≡ true) → (is_cause c (cond (s && b) (Some c) None) || rest) ≡ true
some_step c true true n rest e h k = or_left _ rest (loud c)
some_step c true false n rest e h k = or_right _ rest (k h)
some_step c false b n rest e h k = absurd cc

module _ {A : Type 0} (c : Cause) (sound : A → Bool) (f : A → Val) where
  -- a node breaks at no row where none of its values is a fault
  pub none_broken : (d : Cause) (xs : List A) → no_faults (map f xs) ≡ true → list_any (λ x. is_cause d (cause_where (sound x) (f x) c)) xs ≡ false
  none_broken d [] h = refl
  none_broken d (x ∷ xs) h =
      let k = and_parts (not (is_fault (f x))) (no_faults (map f xs)) (sym (first_row (f x) (map f xs)) ∙ h) in
      neither (is_cause d (cause_where (sound x) (f x) c)) (list_any (λ y. is_cause d (cause_where (sound y) (f y) c)) xs)
      (quiet d c (sound x) (is_fault (f x)) k.0) (none_broken d xs k.1)

  -- and at some row where one of them is and no operand is one
  pub some_broken : (xs : List A) → list_all sound xs ≡ true → no_faults (map f xs) ≡ false → list_any (λ x. is_cause c (cause_where (sound x) (f x) c)) xs ≡ true
  some_broken [] e h = absurd cc
  some_broken (x ∷ xs) e h =
      let s = and_parts (sound x) (list_all sound xs) e in
      some_step c (sound x) (is_fault (f x)) (no_faults (map f xs)) (list_any (λ y. is_cause c (cause_where (sound y) (f y) c)) xs)
      s.0 (sym (first_row (f x) (map f xs)) ∙ h) (some_broken xs s.1)
