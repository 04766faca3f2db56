-- The places of those of a list that pass a test, where one is put behind them and where the first of them is replaced.
use Rattle.std.proofs.Common.{◌≡◌, refl, ap, sym, ◌∙◌, ℕ, suc, ◌+◌, Bool, true, false, cond, List, [], ◌∷◌, ◌++◌, length, set, Option, Some, None, arith}
use Rattle.std.specs.Prelude.{is_some, slice_get}
use Rattle.vx_transform.specs.Pairs.{places, put_or, first_replaced}

-- the places before and behind one whose test is known
one_here : (n : ℕ) (b : Bool) (ks : List ℕ) (p : ℕ) (ps : List ℕ) → b ≡ true → cond b (n ∷ ks) ks ≡ p ∷ ps → (n ≡ p) × (ks ≡ ps)
one_here n true ks p ps e h = (cc, cc)
one_here n false ks p ps e h = let no : ⊥ = cc in absurd no

none_here : (n : ℕ) (b : Bool) (ks ps : List ℕ) → b ≡ false → cond b (n ∷ ks) ks ≡ ps → ks ≡ ps
none_here n true ks ps e h = let no : ⊥ = cc in absurd no
none_here n false ks ps e h = h

no_places : (n : ℕ) (b : Bool) (ks : List ℕ) → cond b (n ∷ ks) ks ≡ [] → (b ≡ false) × (ks ≡ [])
no_places n true ks h = let no : ⊥ = cc in absurd no
no_places n false ks h = (refl, h)

cond-append : (n : ℕ) (b : Bool) (ks ms : List ℕ) → cond b (n ∷ (ks ++ ms)) (ks ++ ms) ≡ cond b (n ∷ ks) ks ++ ms
cond-append n true ks ms = refl
cond-append n false ks ms = refl

module _ {A : Type 0} where
  -- one behind the others
  pub places-behind : (test : A → Bool) (n : ℕ) (xs : List A) (x : A) → places test n (xs ++ x ∷ []) ≡ places test n xs ++ cond (test x) ((n + length xs) ∷ []) []
  places-behind test n [] x = ap (λ (k : ℕ). cond (test x) (k ∷ []) []) (omega arith)
  places-behind test n (y ∷ ys) x =
      let counted : suc n + length ys ≡ n + suc (length ys) = omega arith in
      ap (λ (ks : List ℕ). cond (test y) (n ∷ ks) ks) (places-behind test (suc n) ys x ∙ ap (λ (k : ℕ). places test (suc n) ys ++ cond (test x) (k ∷ []) []) counted)
      ∙ cond-append n (test y) (places test (suc n) ys) (cond (test x) ((n + suc (length ys)) ∷ []) [])

  -- where there is another for none, the last one stands behind them
  pub none-known : (other : A → Option A) (last : A) → ((x : A) → other x ≡ None) → (xs : List A) → first_replaced other last xs ≡ xs ++ last ∷ []
  none-known other last none [] = refl
  none-known other last none (x ∷ xs) = ap (λ (o : Option A). put_or o x xs (first_replaced other last xs)) (none x) ∙ ap (λ (ys : List A). x ∷ ys) (none-known other last none xs)

  -- the first that is replaced, and its place among them
  pub record Replaced (other : A → Option A) (last : A) (n : ℕ) (xs : List A) (p : ℕ) : Type 0 where
    pub place : ℕ
    pub counted : p ≡ n + place
    pub was : A
    pub stood : slice_get xs place ≡ Some was
    pub became : A
    pub makes : other was ≡ Some became
    pub is : first_replaced other last xs ≡ set xs place became

  module _ (other : A → Option A) (last : A) (test : A → Bool) (same : (x : A) → is_some (other x) ≡ test x) where
    -- whether one passes, by whether there is another for it
    passes_by : (x : A) (o : Option A) → other x ≡ o → test x ≡ is_some o
    passes_by x o e = sym (same x) ∙ ap is_some e

    -- where none passes, the last one stands behind them
    pub none-replaced : (n : ℕ) (xs : List A) → places test n xs ≡ [] → first_replaced other last xs ≡ xs ++ last ∷ []
    none-replaced n [] h = refl
    none-replaced n (x ∷ xs) h =
        let no_more = no_places n (test x) (places test (suc n) xs) h in
        by-other (other x) refl no_more.0 (none-replaced (suc n) xs no_more.1)
      where
        by-other : (o : Option A) → other x ≡ o → test x ≡ false → first_replaced other last xs ≡ xs ++ last ∷ [] → put_or o x xs (first_replaced other last xs) ≡ x ∷ (xs ++ last ∷ [])
        by-other None e fails rest = ap (λ (ys : List A). x ∷ ys) rest
        by-other (Some y) e fails rest =
            let passes = passes_by x (Some y) e in
            let no : ⊥ = cc in absurd no

    -- where one passes, the first that does is replaced
    pub one-replaced : (n : ℕ) (xs : List A) (p : ℕ) (ps : List ℕ) → places test n xs ≡ p ∷ ps → Replaced other last n xs p
    one-replaced n [] p ps h = let no : ⊥ = cc in absurd no
    one-replaced n (x ∷ xs) p ps h =
        by-other (other x) refl
        (λ fails. one-replaced (suc n) xs p ps (none_here n (test x) (places test (suc n) xs) (p ∷ ps) fails h))
      where
        by-other : (o : Option A) → other x ≡ o → (test x ≡ false → Replaced other last (suc n) xs p) → Replaced other last n (x ∷ xs) p
        by-other (Some y) e rest =
            let at = one_here n (test x) (places test (suc n) xs) p ps (passes_by x (Some y) e) h in
            record { place = 0; counted = omega (arith, at.0); was = x; stood = refl; became = y; makes = e; is = ap (λ (o : Option A). put_or o x xs (first_replaced other last xs)) e }
        by-other None e rest =
            let later = rest (passes_by x None e) in
            record {
              place = suc later.place;
              counted = omega (arith, later.counted);
              was = later.was;
              stood = later.stood;
              became = later.became;
              makes = later.makes;
              is = ap (λ (o : Option A). put_or o x xs (first_replaced other last xs)) e ∙ ap (λ (ys : List A). x ∷ ys) later.is;
            }

    -- the places of what passes another test, which holds of none that is replaced and of no replacement, stay
    pub places-kept : (kept : A → Bool) → ((x : A) → test x ≡ true → kept x ≡ false) → ((x y : A) → other x ≡ Some y → kept y ≡ false)
        → (n : ℕ) (xs : List A) (p : ℕ) (ps : List ℕ) → places test n xs ≡ p ∷ ps → places kept n (first_replaced other last xs) ≡ places kept n xs
    places-kept kept apart new n [] p ps h = let no : ⊥ = cc in absurd no
    places-kept kept apart new n (x ∷ xs) p ps h =
        by-other (other x) refl
        (λ fails. places-kept kept apart new (suc n) xs p ps (none_here n (test x) (places test (suc n) xs) (p ∷ ps) fails h))
      where
        by-other : (o : Option A) → other x ≡ o → (test x ≡ false → places kept (suc n) (first_replaced other last xs) ≡ places kept (suc n) xs)
            → places kept n (put_or o x xs (first_replaced other last xs)) ≡ cond (kept x) (n ∷ places kept (suc n) xs) (places kept (suc n) xs)
        by-other (Some y) e rest = ap (λ (b : Bool). cond b (n ∷ places kept (suc n) xs) (places kept (suc n) xs)) (new x y e ∙ sym (apart x (passes_by x (Some y) e)))
        by-other None e rest = ap (λ (ks : List ℕ). cond (kept x) (n ∷ ks) ks) (rest (passes_by x None e))

    -- the places of what passes the test itself lose their first
    pub places-dropped : ((x y : A) → other x ≡ Some y → test y ≡ false)
        → (n : ℕ) (xs : List A) (p : ℕ) (ps : List ℕ) → places test n xs ≡ p ∷ ps → places test n (first_replaced other last xs) ≡ ps
    places-dropped new n [] p ps h = let no : ⊥ = cc in absurd no
    places-dropped new n (x ∷ xs) p ps h =
        by-other (other x) refl
        (λ fails. places-dropped new (suc n) xs p ps (none_here n (test x) (places test (suc n) xs) (p ∷ ps) fails h))
      where
        by-other : (o : Option A) → other x ≡ o → (test x ≡ false → places test (suc n) (first_replaced other last xs) ≡ ps) → places test n (put_or o x xs (first_replaced other last xs)) ≡ ps
        by-other (Some y) e rest =
            let at = one_here n (test x) (places test (suc n) xs) p ps (passes_by x (Some y) e) h in
            ap (λ (b : Bool). cond b (n ∷ places test (suc n) xs) (places test (suc n) xs)) (new x y e) ∙ at.1
        by-other None e rest =
            let fails = passes_by x None e in
            let ks = places test (suc n) (first_replaced other last xs) in
            ap (λ (b : Bool). cond b (n ∷ ks) ks) fails ∙ rest fails
