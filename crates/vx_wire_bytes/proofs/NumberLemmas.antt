-- A number that is read is the number that was written, and what was written is read again.
use Rattle.std.proofs.Common.{◌≡◌, ◌≢◌, ℕ, zero, suc, ◌+◌, ◌*◌, ◌-◌, ◌/◌, ◌%◌, ◌^◌, ◌<◌, ◌≤◌, Bool, true, false, cond, ltb, eqb, [], ◌∷◌, ◌++◌, length, get_or, Option, Some, None, refl, sym, ap, subst, ◌∙◌, append_assoc, arith, inl, inr}
use Rattle.std.proofs.lemmas.Bool.{cases_lt, lt-ltb, le-ltb, eqb-true, eqb-false}
use Rattle.vx_dtype.specs.Types.{Bytes}
use Rattle.vx_wire_bytes.specs.Numbers.{sevens, bound, number_bytes}
use Rattle.vx_wire_bytes.specs.Reading.{◌>>=◌, with_low, sevens_at, number_at}

-- each is a byte
abbrev pub IsBytes : Bytes → Type 0
IsBytes bytes = (i : ℕ) → get_or bytes i 0 < 256

pub IsBytes-rest : (b : ℕ) (bytes : Bytes) → IsBytes (b ∷ bytes) → IsBytes bytes
IsBytes-rest b bytes h i = h (suc i)

-- the value of a step that was made
pub bind_some : {A B : Type 0} (o : Option A) (f : A → Option B) (y : B) → (o >>= f) ≡ Some y → (x : A) × (o ≡ Some x) × (f x ≡ Some y)
bind_some (Some x) f y e = (x, refl, e)
bind_some None f y e = absurd cc

-- a test that was passed
pub guard_some : {A : Type 0} (b : Bool) (x y : A) → cond b None (Some x) ≡ Some y → (b ≡ false) × (x ≡ y)
guard_some true x y e = absurd cc
guard_some false x y e = (refl, cc)

abbrev found : {A : Type 0} → A → Option A
found x = Some x

pub some_is : {A : Type 0} (x y : A) → found x ≡ found y → x ≡ y
some_is x y e = cc

-- what a reader took from the front
pub record Takes (bytes text rest : Bytes) : Type 0 where
  pub parts : bytes ≡ text ++ rest
  pub fits : IsBytes rest

pub Takes-then : (a x b y c : Bytes) → Takes a x b → Takes b y c → Takes a (x ++ y) c
Takes-then a x b y c p q = record { parts = p.parts ∙ ap (λ (t : Bytes). x ++ t) q.parts ∙ sym (append_assoc x y c); fits = q.fits }

pub sevens-small : (more n : ℕ) → n < 128 → sevens (suc more) n ≡ n ∷ []
sevens-small more n lt = rw (lt-ltb n 128 lt) refl

pub sevens-large : (more n : ℕ) → 128 ≤ n → sevens (suc more) n ≡ (n % 128 + 128) ∷ sevens more (n / 128)
sevens-large more n le = rw (le-ltb n 128 le) refl

pub sevens_takes : (more : ℕ) (bytes : Bytes) (x : ℕ × Bytes) → IsBytes bytes → sevens_at more bytes ≡ Some x → Takes bytes (sevens more x.0) x.1 × (x.0 < bound more)
unfolding sevens_at
sevens_takes zero [] x fits e = absurd cc
sevens_takes (suc more) [] x fits e = absurd cc
sevens_takes zero (b ∷ bytes) x fits e =
    elim (cases_lt b 16) [
      | inl lt ↦
          let e' : found (b, bytes) ≡ Some x = rw (lt-ltb b 16 lt) at e in
          subst (λ (y : ℕ × Bytes). Takes (b ∷ bytes) (sevens zero y.0) y.1 × (y.0 < 16)) (some_is (b, bytes) x e') (record { parts = refl; fits = IsBytes-rest b bytes fits }, lt)
      | inr le ↦
          let e' : None ≡ found x = rw (le-ltb b 16 le) at e in
          absurd cc
    ]
sevens_takes (suc more) (b ∷ bytes) x fits e =
    elim (cases_lt b 128) [
      | inl lt ↦
          let e' : found (b, bytes) ≡ Some x = rw (lt-ltb b 128 lt) at e in
          subst (λ (y : ℕ × Bytes). Takes (b ∷ bytes) (sevens (suc more) y.0) y.1 × (y.0 < bound (suc more))) (some_is (b, bytes) x e')
          (record { parts = rw (sevens-small more b lt) refl; fits = IsBytes-rest b bytes fits }, above more b lt)
      | inr le ↦
          let e' : (sevens_at more bytes >>= with_low (b - 128)) ≡ found x = rw (le-ltb b 128 le) at e in
          let s = bind_some (sevens_at more bytes) (with_low (b - 128)) x e' in
          let t = sevens_takes more bytes s.0 (IsBytes-rest b bytes fits) s.1 in
          let g = guard_some (eqb s.0.0 0) (b - 128 + 128 * s.0.0, s.0.1) x s.2 in
          let some : 0 < s.0.0 = omega (arith, eqb-false s.0.0 0 g.0) in
          let byte : b < 256 = fits 0 in
          subst (λ (y : ℕ × Bytes). Takes (b ∷ bytes) (sevens (suc more) y.0) y.1 × (y.0 < bound (suc more))) g.1
          (record { parts = split more b s.0.0 le byte some bytes s.0.1 t.0.parts; fits = t.0.fits }, omega (arith, t.1))
    ]
  where
    above : (more n : ℕ) → n < 128 → n < 128 * bound more
    above zero n lt = omega arith
    above (suc more) n lt = omega (arith, above more n lt)

    split : (more b high : ℕ) → 128 ≤ b → b < 256 → 0 < high → (bytes rest : Bytes) → bytes ≡ sevens more high ++ rest → b ∷ bytes ≡ sevens (suc more) (b - 128 + 128 * high) ++ rest
    split more b high le lt some bytes rest e =
        let n = b - 128 + 128 * high in
        let low : n % 128 + 128 ≡ b = omega arith in
        let up : n / 128 ≡ high = omega arith in
        rw (sevens-large more (b - 128 + 128 * high) (omega arith), low, up, e) refl

pub sevens_again : (more n : ℕ) (rest : Bytes) → n < bound more → sevens_at more (sevens more n ++ rest) ≡ Some (n, rest)
unfolding sevens_at
sevens_again zero n rest lt = rw (lt-ltb n 16 lt) refl
sevens_again (suc more) n rest lt =
    elim (cases_lt n 128) [
      | inl small ↦ ap (λ (s : Bytes). sevens_at (suc more) (s ++ rest)) (sevens-small more n small) ∙ rw (lt-ltb n 128 small) refl
      | inr large ↦
          let high : ltb (n % 128 + 128) 128 ≡ false = le-ltb _ _ (omega arith) in
          let some : eqb (n / 128) 0 ≡ false = grind (arith, eqb-true) in
          let again = sevens_again more (n / 128) rest (omega arith) in
          let sum : n % 128 + 128 - 128 + 128 * (n / 128) ≡ n = omega arith in
          ap (λ (s : Bytes). sevens_at (suc more) (s ++ rest)) (sevens-large more n large) ∙ rw (high, again, some, sum) refl
    ]

pub number_takes : (bytes : Bytes) (x : ℕ × Bytes) → IsBytes bytes → number_at bytes ≡ Some x → Takes bytes (number_bytes x.0) x.1 × (x.0 < 2 ^ 32)
unfolding number_at number_bytes
number_takes bytes x fits e = sevens_takes 4 bytes x fits e

pub number_again : (n : ℕ) (rest : Bytes) → n < 2 ^ 32 → number_at (number_bytes n ++ rest) ≡ Some (n, rest)
unfolding number_at number_bytes
number_again n rest lt = sevens_again 4 n rest lt

pub number_some : (n : ℕ) → 0 < length (number_bytes n)
unfolding number_bytes
number_some n = elim (cases_lt n 128) [
  | inl lt ↦ rw (sevens-small 3 n lt) (omega arith)
  | inr le ↦ rw (sevens-large 3 n le) (omega arith)
]

-- a byte below 128 is a number of its own
pub low_bound : (more n : ℕ) → more ≢ 0 → n < 128 → n < bound more
low_bound zero n some lt = absurd (some refl)
low_bound (suc zero) n some lt = omega arith
low_bound (suc (suc more)) n some lt = omega (arith, low_bound (suc more) n (omega arith) lt)

pub bound_step : (more : ℕ) → more ≢ 0 → bound more ≡ 128 * bound (more - 1)
bound_step zero some = absurd (some refl)
bound_step (suc more) some =
    let e : suc more - 1 ≡ more = omega arith in
    ap (λ m. 128 * bound m) (sym e)

pub bound_most : (more : ℕ) → more ≤ 4 → bound more ≤ 2 ^ 32
bound_most zero le = omega arith
bound_most (suc zero) le = omega arith
bound_most (suc (suc zero)) le = omega arith
bound_most (suc (suc (suc zero))) le = omega arith
bound_most (suc (suc (suc (suc zero)))) le = omega arith
bound_most (suc (suc (suc (suc (suc more))))) le = absurd (omega arith)
