-- The first value by an order of those that are not null: it is one of them, and stands so to each.
use Rattle.std.proofs.Common.{◌≡◌, refl, ap, sym, ◌∙◌, suc, Bool, true, false, cond, ◌||◌, Some, subst, List, [], ◌∷◌, ◌⊎◌, inl, inr, ⊎_elim}
use Rattle.std.specs.List.{list_all}
use Rattle.std.specs.declared.cmp.Ordering.{Ordering}
use Rattle.std.specs.declared.cmp.Ordering.TheVariants.{Less, Greater}
use Rattle.std.specs.Ordering.{nat_cmp, int_cmp, bool_cmp, ordering_reverse}
use Rattle.std.specs.Cmp.Lexicographic.{slice_cmp}
use Rattle.std.proofs.lemmas.Bool.{and_parts, and_from, cases_Bool, cases_cond}
use Rattle.vx_dtype.specs.declared.CompareOperator.{CompareOperator}
use Rattle.vx_dtype.specs.declared.CompareOperator.TheVariants.{Gte, Lte}
use Rattle.vx_dtype.specs.Types.{Ty, bool_ty, int_ty, text_ty}
use Rattle.vx_dtype.specs.TypeRules.{is_plain}
use Rattle.vx_dtype.specs.Values.{Val, null_val, bool_val, int_val, text_val, list_val, struct_val, fault}
use Rattle.vx_dtype.specs.Fits.{val_fits}
use Rattle.vx_dtype.specs.Logic.{is_null_val}
use Rattle.vx_dtype.specs.Order.{order, meets, compares}
use Rattle.vx_laws.proofs.Comparing.{order-swap, reversed, compare3-swap}
use Rattle.vx_laws_scan.proofs.Ordered.{compares-order, stands-compares, compares-swap, IsAtMost-trans, IsAtMost-itself, is_ordered}
use Rattle.vx_laws_stats.specs.BuiltStatistics.{first_by, first_of}
use Rattle.vx_laws_stats.specs.BuiltLaws.{AreOfType, IsAmong, BuiltBoundsAreExtreme}

-- whether a value is null or of the type
abbrev pub is_of : Ty → Val → Bool
is_of t v = is_null_val v || val_fits v t

-- whether a value is null, or another stands so to it
abbrev pub covers : CompareOperator → Val → Val → Bool
covers op bound v = is_null_val v || compares op bound v

pub or_second : (a b : Bool) → b ≡ true → (a || b) ≡ true
or_second true b h = refl
or_second false b h = h

pub known_part : (a b : Bool) → (a || b) ≡ true → a ≡ false → b ≡ true
known_part true b h k = let no : ⊥ = cc in absurd no
known_part false b h k = h

pub is_null : (v : Val) → is_null_val v ≡ true → v ≡ null_val
is_null null_val h = refl
is_null _ h = let no : ⊥ = cc in absurd no

-- how two values of a plain type stand
pub record Standing (x y : Val) : Type 0 where
  pub stand : Ordering
  pub is : order x y ≡ Some stand

pub standing : (t : Ty) (x y : Val) → is_plain t ≡ true → val_fits x t ≡ true → is_null_val x ≡ false → val_fits y t ≡ true → is_null_val y ≡ false → Standing x y
unfolding val_fits
standing (bool_ty n) (bool_val a) (bool_val b) p h k i j = record { stand = bool_cmp a b; is = refl }
standing (int_ty q n) (int_val r a) (int_val s b) p h k i j = record { stand = int_cmp a b; is = refl }
standing (text_ty n) (text_val a) (text_val b) p h k i j = record { stand = slice_cmp nat_cmp a b; is = refl }
standing _ _ _ p h k i j = let no : ⊥ = cc in absurd no

pub ordered : (t : Ty) (v : Val) → is_plain t ≡ true → val_fits v t ≡ true → is_null_val v ≡ false → is_ordered v ≡ true
unfolding val_fits
ordered (bool_ty n) (bool_val a) p h k = refl
ordered (int_ty q n) (int_val r a) p h k = refl
ordered (text_ty n) (text_val a) p h k = refl
ordered _ _ p h k = let no : ⊥ = cc in absurd no

-- a comparison by which plain values of one type stand in an order
pub record IsOrder (op : CompareOperator) : Type 0 where
  pub itself : (v : Val) → is_ordered v ≡ true → compares op v v ≡ true
  pub chain : (x y z : Val) → compares op x y ≡ true → compares op y z ≡ true → compares op x z ≡ true
  pub either : (x y : Val) → Standing x y → compares op x y ≡ false → compares op y x ≡ true

turned : (x y : Val) (o : Ordering) → order x y ≡ Some o → order y x ≡ Some (ordering_reverse o)
turned x y o e = order-swap y x ∙ ap reversed e

either-way : (op : CompareOperator) (x y : Val) (o : Ordering) → ((p : Ordering) → meets op p ≡ false → meets op (ordering_reverse p) ≡ true) → order x y ≡ Some o → compares op x y ≡ false → compares op y x ≡ true
either-way op x y o turn e h =
    stands-compares op y x (ordering_reverse o) (turned x y o e) (turn o (sym (compares-order op x y o e) ∙ h))

turn-lte : (p : Ordering) → meets Lte p ≡ false → meets Lte (ordering_reverse p) ≡ true
turn-lte Greater h = refl
turn-lte _ h = let no : ⊥ = cc in absurd no

turn-gte : (p : Ordering) → meets Gte p ≡ false → meets Gte (ordering_reverse p) ≡ true
turn-gte Less h = refl
turn-gte _ h = let no : ⊥ = cc in absurd no

to_gte : (x y : Val) → compares Lte y x ≡ true → compares Gte x y ≡ true
to_gte x y h = compares-swap Lte Gte y x (compare3-swap Lte y x) h

to_lte : (x y : Val) → compares Gte x y ≡ true → compares Lte y x ≡ true
to_lte x y h = compares-swap Gte Lte x y (compare3-swap Gte x y) h

pub lte_is_order : IsOrder Lte
lte_is_order = record {
  itself = IsAtMost-itself;
  chain = IsAtMost-trans;
  either = λ x y s h. either-way Lte x y s.stand turn-lte s.is h;
}

pub gte_is_order : IsOrder Gte
gte_is_order = record {
  itself = λ v h. to_gte v v (IsAtMost-itself v h);
  chain = λ x y z h k. to_gte x z (IsAtMost-trans z y x (to_lte y z k) (to_lte x y h));
  either = λ x y s h. either-way Gte x y s.stand turn-gte s.is h;
}

-- the first of two values
pub first_by-known : (op : CompareOperator) (v w : Val) → is_null_val v ≡ false → is_null_val w ≡ false → first_by op v w ≡ cond (compares op v w) v w
first_by-known op null_val w h k = let no : ⊥ = cc in absurd no
first_by-known op (bool_val a) null_val h k = let no : ⊥ = cc in absurd no
first_by-known op (int_val p a) null_val h k = let no : ⊥ = cc in absurd no
first_by-known op (text_val a) null_val h k = let no : ⊥ = cc in absurd no
first_by-known op (list_val a) null_val h k = let no : ⊥ = cc in absurd no
first_by-known op (struct_val a) null_val h k = let no : ⊥ = cc in absurd no
first_by-known op fault null_val h k = let no : ⊥ = cc in absurd no
first_by-known op _ _ h k = refl

pub first_by-null : (op : CompareOperator) (v : Val) → first_by op v null_val ≡ v
first_by-null op null_val = refl
first_by-null op _ = refl

null-compares : (op : CompareOperator) (w : Val) → compares op null_val w ≡ false
null-compares op fault = refl
null-compares op _ = refl

null-covers : (op : CompareOperator) (w : Val) → covers op null_val w ≡ true → is_null_val w ≡ true
null-covers op w h = by-test (is_null_val w) (compares op null_val w) (null-compares op w) h
  where
    by-test : (a b : Bool) → b ≡ false → (a || b) ≡ true → a ≡ true
    by-test true b e k = refl
    by-test false b e k = let no : ⊥ = cc in absurd no

or_first : (a b : Bool) → a ≡ true → (a || b) ≡ true
or_first true b h = refl
or_first false b h = let no : ⊥ = cc in absurd no

pub all-so : {X : Type 0} (p q : X → Bool) (xs : List X) → ((x : X) → p x ≡ true → q x ≡ true) → list_all p xs ≡ true → list_all q xs ≡ true
all-so p q [] f h = refl
all-so p q (x ∷ xs) f h =
    let parts = and_parts (p x) (list_all p xs) h in
    and_from (q x) (list_all q xs) (f x parts.0) (all-so p q xs f parts.1)

-- the first value covers all, and is of their type
pub record First (op : CompareOperator) (t : Ty) (vs : List Val) (bound : Val) : Type 0 where
  pub covering : list_all (covers op bound) vs ≡ true
  pub own : is_of t bound ≡ true

module _ (op : CompareOperator) (t : Ty) (total : IsOrder op) (plain : is_plain t ≡ true) where
  covers-itself : (v : Val) → is_of t v ≡ true → covers op v v ≡ true
  covers-itself v h =
      ⊎_elim (λ (k : is_null_val v ≡ true). or_first (is_null_val v) (compares op v v) k)
      (λ (k : is_null_val v ≡ false).
      or_second (is_null_val v) (compares op v v) (total.itself v (ordered t v plain (known_part (is_null_val v) (val_fits v t) h k) k)))
      (cases_Bool (is_null_val v))

  covers-more : (v w : Val) (vs : List Val) → compares op v w ≡ true → list_all (covers op w) vs ≡ true → list_all (covers op v) vs ≡ true
  covers-more v w vs h k = all-so (covers op w) (covers op v) vs each k
    where
      each : (x : Val) → covers op w x ≡ true → covers op v x ≡ true
      each x c =
          ⊎_elim (λ (e : is_null_val x ≡ true). or_first (is_null_val x) (compares op v x) e)
          (λ (e : is_null_val x ≡ false).
          or_second (is_null_val x) (compares op v x) (total.chain v w x h (known_part (is_null_val x) (compares op w x) c e)))
          (cases_Bool (is_null_val x))

  with-first : (v : Val) (vs : List Val) → is_of t v ≡ true → list_all (covers op v) vs ≡ true → First op t (v ∷ vs) v
  with-first v vs h k = record { covering = and_from (covers op v v) (list_all (covers op v) vs) (covers-itself v h) k; own = h }

  first-known : (v w : Val) (vs : List Val) → is_of t v ≡ true → is_of t w ≡ true → is_null_val v ≡ false → is_null_val w ≡ false → list_all (covers op w) vs ≡ true
      → First op t (v ∷ vs) (cond (compares op v w) v w)
  first-known v w vs h k a b c = by-test (compares op v w) refl
    where
      by-test : (d : Bool) → compares op v w ≡ d → First op t (v ∷ vs) (cond d v w)
      by-test true e = with-first v vs h (covers-more v w vs e c)
      by-test false e =
          let stand = standing t v w plain (known_part (is_null_val v) (val_fits v t) h a) a (known_part (is_null_val w) (val_fits w t) k b) b in
          record { covering = and_from (covers op w v) (list_all (covers op w) vs) (or_second (is_null_val v) (compares op w v) (total.either v w stand e)) c; own = k }

  first-more : (v w : Val) (vs : List Val) → is_of t v ≡ true → First op t vs w → First op t (v ∷ vs) (first_by op v w)
  first-more v w vs h f =
      ⊎_elim
      (λ (a : is_null_val v ≡ true).
      subst (λ (z : Val). First op t (z ∷ vs) (first_by op z w)) (sym (is_null v a)) (record { covering = f.covering; own = f.own }))
      (λ (a : is_null_val v ≡ false).
      ⊎_elim
      (λ (b : is_null_val w ≡ true).
      let nil = is_null w b in
      let covered = subst (λ (z : Val). list_all (covers op z) vs ≡ true) nil f.covering in
      let all = all-so (covers op null_val) (covers op v) vs (λ x c. or_first (is_null_val x) (compares op v x) (null-covers op x c)) covered in
      subst (λ (z : Val). First op t (v ∷ vs) (first_by op v z)) (sym nil) (subst (First op t (v ∷ vs)) (sym (first_by-null op v)) (with-first v vs h all)))
      (λ (b : is_null_val w ≡ false).
      subst (First op t (v ∷ vs)) (sym (first_by-known op v w a b)) (first-known v w vs h f.own a b f.covering))
      (cases_Bool (is_null_val w)))
      (cases_Bool (is_null_val v))

  pub first-of : (vs : List Val) → AreOfType t vs → First op t vs (first_of op vs)
  first-of [] h = record { covering = refl; own = refl }
  first-of (v ∷ vs) h =
      let parts = and_parts (is_of t v) (list_all (is_of t) vs) h in
      first-more v (first_of op vs) vs parts.0 (first-of vs parts.1)

-- the first of two values is one of both
first-either : (op : CompareOperator) (v w : Val) → (first_by op v w ≡ v) ⊎ (first_by op v w ≡ w)
first-either op v w =
    ⊎_elim (λ (a : is_null_val v ≡ true). inr (ap (λ (z : Val). first_by op z w) (is_null v a)))
    (λ (a : is_null_val v ≡ false).
    ⊎_elim (λ (b : is_null_val w ≡ true). inl (ap (first_by op v) (is_null w b) ∙ first_by-null op v))
    (λ (b : is_null_val w ≡ false). cases_cond (compares op v w) v w (first_by op v w) (first_by-known op v w a b))
    (cases_Bool (is_null_val w)))
    (cases_Bool (is_null_val v))

pub among : (op : CompareOperator) (vs : List Val) → IsAmong vs (first_of op vs)
among op [] h = let no : ⊥ = cc in absurd no
among op (v ∷ vs) h =
    ⊎_elim (λ (e : first_by op v (first_of op vs) ≡ v). (0, ap Some (sym e)))
    (λ (e : first_by op v (first_of op vs) ≡ first_of op vs).
    let rest = among op vs (sym (ap is_null_val e) ∙ h) in
    (suc rest.0, rest.1 ∙ ap Some (sym e)))
    (first-either op v (first_of op vs))

pub extreme : BuiltBoundsAreExtreme
extreme t vs p h = record {
  least_among = among Lte vs;
  least = (first-of Lte t lte_is_order p vs h).covering;
  greatest_among = among Gte vs;
  greatest = (first-of Gte t gte_is_order p vs h).covering;
}
