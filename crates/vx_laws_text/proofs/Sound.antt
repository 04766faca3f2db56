-- What is read of tokens stands at their front by the productions of the grammar.
use Rattle.std.proofs.Common.{◌≡◌, ℕ, zero, suc, Bool, true, false, List, [], ◌∷◌, ◌++◌, refl, sym, ap, subst, ◌∙◌, append_assoc, append-nil, Option, Some, None, arith, ◌⊎◌, inl, inr}
use Rattle.std.specs.Prelude.{if◌then◌else◌, ◌==◌}
use Rattle.std.proofs.lemmas.Bool.Decides.{nat_tests}
use Rattle.vx_dtype.specs.Types.{Bytes}
use Rattle.vx_tokens.specs.declared.tokens.Sign.{Sign}
use Rattle.vx_tokens.specs.declared.tokens.Sign.TheVariants as signs
use Rattle.vx_tokens.specs.declared.tokens.Token.{Token}
use Rattle.vx_tokens.specs.declared.tokens.Token.TheVariants.{Reserved, Word, Quoted, Quote, Number, Mark}
use Rattle.vx_tokens.specs.Tokens.{◌>>=◌, sign_number, is_sign}
use Rattle.vx_text.specs.Grammar.{Read, after, choose, closed, most_tokens, more_parts, parts, and_then, name_at, names_at, labelled}
use Rattle.vx_laws_text.specs.Productions.{gathered, IsName, word_name, quoted_name, AreNames, no_names, one_name, more_names}

-- tokens at the front of others, that are a part and give something
pub record Front {A : Type 0} (P : List Token → A → Type 0) (tokens : List Token) (x : A × List Token) : Type 0 where
  pub taken : List Token
  pub split : tokens ≡ taken ++ x.1
  pub is : P taken x.0

pub record Sound {A : Type 0} (p : List Token → Read A) (P : List Token → A → Type 0) : Type 0 where
  pub sound : (tokens : List Token) (x : A × List Token) → p tokens ≡ Some x → Front P tokens x

-- ---- steps one after another

pub record Bound {A B : Type 0} (o : Option A) (f : A → Option B) (y : B) : Type 0 where
  pub x : A
  pub is : o ≡ Some x
  pub gives : f x ≡ Some y

pub bound : {A B : Type 0} (o : Option A) (f : A → Option B) (y : B) → (o >>= f) ≡ Some y → Bound o f y
bound None f y e = absurd cc
bound (Some x) f y e = record { x = x; is = refl; gives = e }

sign_at : ℕ → Sign
sign_at n =
    if n == 0 then signs.RoundOpen else (if n == 1 then signs.RoundClose else (if n == 2 then signs.SquareOpen else (if n == 3 then signs.SquareClose else (if n == 4 then signs.CurlyOpen else
    (if n == 5 then signs.CurlyClose else (if n == 6 then signs.Comma else (if n == 7 then signs.Colon else (if n == 8 then signs.Dot else (if n == 9 then signs.Dollar else
    (if n == 10 then signs.Question else (if n == 11 then signs.Tilde else (if n == 12 then signs.Plus else (if n == 13 then signs.Minus else (if n == 14 then signs.Eq else
    (if n == 15 then signs.NotEq else (if n == 16 then signs.Gt else (if n == 17 then signs.Gte else (if n == 18 then signs.Lt else signs.Lte))))))))))))))))))

sign_at-number : (s : Sign) → sign_at (sign_number s) ≡ s
unfolding sign_at
sign_at-number signs.RoundOpen = refl
sign_at-number signs.RoundClose = refl
sign_at-number signs.SquareOpen = refl
sign_at-number signs.SquareClose = refl
sign_at-number signs.CurlyOpen = refl
sign_at-number signs.CurlyClose = refl
sign_at-number signs.Comma = refl
sign_at-number signs.Colon = refl
sign_at-number signs.Dot = refl
sign_at-number signs.Dollar = refl
sign_at-number signs.Question = refl
sign_at-number signs.Tilde = refl
sign_at-number signs.Plus = refl
sign_at-number signs.Minus = refl
sign_at-number signs.Eq = refl
sign_at-number signs.NotEq = refl
sign_at-number signs.Gt = refl
sign_at-number signs.Gte = refl
sign_at-number signs.Lt = refl
sign_at-number signs.Lte = refl

pub equal : (m n : ℕ) → (m == n) ≡ true → m ≡ n
equal m n e = grind (arith, nat_tests)

sign_is : (s : Sign) (t : Token) → is_sign s t ≡ true → t ≡ Mark s
sign_is s (Mark u) e = ap Mark (sym (sign_at-number u) ∙ (ap sign_at (sym (equal (sign_number s) (sign_number u) e)) ∙ sign_at-number s))
sign_is s (Reserved k) e = absurd cc
sign_is s (Word f) e = absurd cc
sign_is s (Quoted f) e = absurd cc
sign_is s (Quote x) e = absurd cc
sign_is s (Number digits suffix) e = absurd cc

-- what stands behind a sign stands behind it
pub after_is : (s : Sign) (tokens rest : List Token) → after s tokens ≡ Some rest → tokens ≡ Mark s ∷ rest
unfolding after
after_is s [] rest e = absurd cc
after_is s (t ∷ tokens) rest e = go (is_sign s t) refl e
  where
    go : (b : Bool) → is_sign s t ≡ b → (if b then Some tokens else None) ≡ Some rest → t ∷ tokens ≡ Mark s ∷ rest
    go true is e =
        let same : tokens ≡ rest = cc in
        λ i. sign_is s t is i ∷ same i
    go false is e = absurd cc

pub record Chosen {A : Type 0} (s : Sign) (tokens : List Token) (f : List Token → Option A) (y : A) : Type 0 where
  pub rest : List Token
  pub is : tokens ≡ Mark s ∷ rest
  pub gives : f rest ≡ Some y

pub chosen : {A : Type 0} (s : Sign) (tokens : List Token) (f : List Token → Option A) (a : Option A) (y : A) → choose (after s tokens) f a ≡ Some y → Chosen s tokens f y ⊎ (a ≡ Some y)
chosen {A} s tokens f a y e = go (after s tokens) (λ rest is. after_is s tokens rest is) e
  where
    go : (o : Option (List Token)) → ((rest : List Token) → o ≡ Some rest → tokens ≡ Mark s ∷ rest) → choose o f a ≡ Some y → Chosen s tokens f y ⊎ (a ≡ Some y)
    go None h e = inr e
    go (Some rest) h e = inl (record { rest = rest; is = h rest refl; gives = e })

pub record Closed {A : Type 0} (s : Sign) (x : A × List Token) (y : A × List Token) : Type 0 where
  pub is : x.1 ≡ Mark s ∷ y.1
  pub same : x.0 ≡ y.0

pub closed_is : {A : Type 0} (s : Sign) (x y : A × List Token) → closed s x ≡ Some y → Closed s x y
closed_is {A} s x y e =
    let b = bound (after s x.1) (λ rest. Some (x.0, rest)) y e in
    let pair : ◌≡◌ {A = A × List Token} (x.0, b.x) y = let h = b.gives in cc in
    record { is = after_is s x.1 b.x b.is ∙ ap (λ (z : A × List Token). Mark s ∷ z.1) pair; same = ap (λ (z : A × List Token). z.0) pair }

-- ---- parts with a comma between any two

abbrev pub PartsFrom : {A : Type 0} → (List Token → A → Type 0) → List Token → A → List A → Type 0
PartsFrom P ts x [] = P ts x
PartsFrom P ts x (y ∷ ys) = (front : List Token) × (others : List Token) × (ts ≡ front ++ Mark signs.Comma ∷ others) × P front x × PartsFrom P others y ys

-- one part or more, up to a sign
pub record SomeParts {A S : Type 0} (P : List Token → A → Type 0) (add : S → A → S) (close : Sign) (so_far : S) (tokens : List Token) (y : S × List Token) : Type 0 where
  pub x : A
  pub xs : List A
  pub taken : List Token
  pub split : tokens ≡ taken ++ Mark close ∷ y.1
  pub are : PartsFrom P taken x xs
  pub gives : gathered add (add so_far x) xs ≡ y.0

module _ {A S : Type 0} (part : List Token → Read A) (P : List Token → A → Type 0) (add : S → A → S) (close : Sign) (k : Sound part P) where
  more_sound : (n : ℕ) (so_far : S) (tokens : List Token) (y : S × List Token) → more_parts part add close n so_far tokens ≡ Some y → SomeParts P add close so_far tokens y
  unfolding more_parts
  more_sound zero so_far tokens y e = absurd cc
  more_sound (suc n) so_far tokens y e =
      let b = bound (part tokens) (λ x. choose (after signs.Comma x.1) (more_parts part add close n (add so_far x.0)) (closed close (add so_far x.0, x.1))) y e in
      go b.x (k.sound tokens b.x b.is) (λ s others h. more_sound n s others y h) (chosen signs.Comma b.x.1 (more_parts part add close n (add so_far b.x.0)) (closed close (add so_far b.x.0, b.x.1)) y b.gives)
    where
      go : (x : A × List Token) → Front P tokens x → ((s : S) (others : List Token) → more_parts part add close n s others ≡ Some y → SomeParts P add close s others y)
          → Chosen signs.Comma x.1 (more_parts part add close n (add so_far x.0)) y ⊎ (closed close (add so_far x.0, x.1) ≡ Some y) → SomeParts P add close so_far tokens y
      go x f more (inl c) =
          let m = more (add so_far x.0) c.rest c.gives in
          record {
            x = x.0;
            xs = m.x ∷ m.xs;
            taken = f.taken ++ Mark signs.Comma ∷ m.taken;
            split = f.split ∙ (ap (λ (z : List Token). f.taken ++ z) (c.is ∙ ap (λ (z : List Token). Mark signs.Comma ∷ z) m.split) ∙ sym (append_assoc f.taken (Mark signs.Comma ∷ m.taken) (Mark close ∷ y.1)));
            are = (f.taken, m.taken, refl, f.is, m.are);
            gives = m.gives;
          }
      go x f more (inr e) =
          let c = closed_is close (add so_far x.0, x.1) y e in
          record { x = x.0; xs = []; taken = f.taken; split = f.split ∙ ap (λ (z : List Token). f.taken ++ z) c.is; are = f.is; gives = c.same }

-- parts, none or some, up to a sign
pub record AllParts {A S : Type 0} (P : List Token → A → Type 0) (Are : List Token → List A → Type 0) (add : S → A → S) (close : Sign) (none : S) (tokens : List Token) (y : S × List Token) : Type 0 where
  pub xs : List A
  pub taken : List Token
  pub split : tokens ≡ taken ++ Mark close ∷ y.1
  pub are : Are taken xs
  pub gives : gathered add none xs ≡ y.0

pub parts_sound : {A S : Type 0} (part : List Token → Read A) (P : List Token → A → Type 0) (Are : List Token → List A → Type 0) (add : S → A → S) (close : Sign) (none : S) → Sound part P → Are [] []
    → ((ts : List Token) (x : A) (xs : List A) → PartsFrom P ts x xs → Are ts (x ∷ xs))
    → (tokens : List Token) (y : S × List Token) → parts part add none close tokens ≡ Some y → AllParts P Are add close none tokens y
parts_sound {A} {S} part P Are add close none k empty some tokens y e =
    go (chosen close tokens (λ rest. Some (none, rest)) (more_parts part add close most_tokens none tokens) y e)
  where
    go : Chosen close tokens (λ rest. Some (none, rest)) y ⊎ (more_parts part add close most_tokens none tokens ≡ Some y) → AllParts P Are add close none tokens y
    go (inl c) =
        let pair : ◌≡◌ {A = S × List Token} (none, c.rest) y = let h = c.gives in cc in
        record { xs = []; taken = []; split = c.is ∙ ap (λ (z : S × List Token). Mark close ∷ z.1) pair; are = empty; gives = ap (λ (z : S × List Token). z.0) pair }
    go (inr h) =
        let m = more_sound part P add close k most_tokens none tokens y h in
        record { xs = m.x ∷ m.xs; taken = m.taken; split = m.split; are = some m.taken m.x m.xs m.are; gives = m.gives }

-- ---- names

name_front : (t : Token) (f : Bytes) (rest : List Token) (x : Bytes × List Token) → IsName (t ∷ []) f → Some (f, rest) ≡ Some x → Front IsName (t ∷ rest) x
name_front t f rest x is e =
    let pair : ◌≡◌ {A = Bytes × List Token} (f, rest) x = cc in
    record { taken = t ∷ []; split = ap (λ (z : Bytes × List Token). t ∷ z.1) pair; is = subst (λ (z : Bytes × List Token). IsName (t ∷ []) z.0) pair is }

name_sound : (tokens : List Token) (x : Bytes × List Token) → name_at tokens ≡ Some x → Front IsName tokens x
unfolding name_at
name_sound [] x e = absurd cc
name_sound (Word f ∷ rest) x e = name_front (Word f) f rest x (word_name f) e
name_sound (Quoted f ∷ rest) x e = name_front (Quoted f) f rest x (quoted_name f) e
name_sound (Reserved k ∷ rest) x e = absurd cc
name_sound (Quote s ∷ rest) x e = absurd cc
name_sound (Number digits suffix ∷ rest) x e = absurd cc
name_sound (Mark s ∷ rest) x e = absurd cc

pub names_sound_one : Sound name_at IsName
names_sound_one = record { sound = name_sound }

names_from : (ts : List Token) (f : Bytes) (fs : List Bytes) → PartsFrom IsName ts f fs → AreNames ts (f ∷ fs)
names_from ts f [] p = one_name ts f p
names_from ts f (g ∷ gs) p = subst (λ (z : List Token). AreNames z (f ∷ g ∷ gs)) (sym p.2) (more_names p.0 p.1 f g gs p.3 (names_from p.1 g gs p.4))

gathered_names : (so_far fs : List Bytes) → gathered and_then so_far fs ≡ so_far ++ fs
gathered_names so_far [] = sym (append-nil so_far)
gathered_names so_far (f ∷ fs) = gathered_names (so_far ++ f ∷ []) fs ∙ append_assoc so_far (f ∷ []) fs

-- names up to the closing brace
pub record Named_by (tokens : List Token) (x : List Bytes × List Token) : Type 0 where
  pub taken : List Token
  pub split : tokens ≡ taken ++ Mark signs.CurlyClose ∷ x.1
  pub are : AreNames taken x.0

pub names_sound : (tokens : List Token) (x : List Bytes × List Token) → names_at tokens ≡ Some x → Named_by tokens x
names_sound tokens x e =
    let k = parts_sound name_at IsName AreNames and_then signs.CurlyClose [] names_sound_one no_names names_from tokens x e in
    record { taken = k.taken; split = k.split; are = subst (AreNames k.taken) (sym (gathered_names [] k.xs) ∙ k.gives) k.are }

-- a name and a part behind it
abbrev pub IsLabelled : {A : Type 0} → (List Token → A → Type 0) → List Token → Bytes × A → Type 0
IsLabelled P ts x = (ns : List Token) × (us : List Token) × (ts ≡ ns ++ Mark signs.Colon ∷ us) × IsName ns x.0 × P us x.1

pub labelled_sound : {A : Type 0} (part : List Token → Read A) (P : List Token → A → Type 0) → Sound part P → Sound (labelled part) (IsLabelled P)
labelled_sound {A} part P k = record {
  sound = λ tokens x e.
      let f = bound (name_at tokens) (λ f. after signs.Colon f.1 >>= λ rest. part rest >>= λ x. Some ((f.0, x.0), x.1)) x e in
      let c = bound (after signs.Colon f.x.1) (λ rest. part rest >>= λ x. Some ((f.x.0, x.0), x.1)) x f.gives in
      let p = bound (part c.x) (λ x. Some ((f.x.0, x.0), x.1)) x c.gives in
      let n = name_sound tokens f.x f.is in
      let u = k.sound c.x p.x p.is in
      let colon = after_is signs.Colon f.x.1 c.x c.is in
      let pair : ◌≡◌ {A = (Bytes × A) × List Token} ((f.x.0, p.x.0), p.x.1) x = let h = p.gives in cc in
      let taken = n.taken ++ Mark signs.Colon ∷ u.taken in
      record {
        taken = taken;
        split = n.split ∙ (ap (λ (z : List Token). n.taken ++ z) (colon ∙ ap (λ (z : List Token). Mark signs.Colon ∷ z) u.split) ∙ (sym (append_assoc n.taken (Mark signs.Colon ∷ u.taken) p.x.1)
            ∙ ap (λ (z : (Bytes × A) × List Token). taken ++ z.1) pair));
        is = subst (λ (z : (Bytes × A) × List Token). IsLabelled P taken z.0) pair (n.taken, u.taken, refl, n.is, u.is);
      };
}
