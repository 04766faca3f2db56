-- Chains of steps, the first of which that is refused tells the refusal.
use Rattle.std.proofs.Common.{◌≡◌, ap, refl, sym, Bool, true, false, Option, Some, None, Result, Ok, Err, ok_or, true≢false}
use Rattle.vx_request.specs.Requests.{◌>>=◌, ensured}

-- a chain of steps is refused by the first of them, or by the next ones after what it gave
pub data Stop {A B E : Type 0} (r : Result A E) (f : A → Result B E) (e : E) : Type 0 where
  here : r ≡ Err e → Stop r f e
  later : (x : A) → r ≡ Ok x → f x ≡ Err e → Stop r f e

pub stop_of : {A B E : Type 0} (r : Result A E) (f : A → Result B E) (e : E) → (r >>= f) ≡ Err e → Stop r f e
stop_of (Ok x) f e h = later x refl h
stop_of (Err g) f e h = let same : g ≡ e = cc h in here (ap Err same)

pub stops_here : {A B E : Type 0} (r : Result A E) (f : A → Result B E) (e : E) → r ≡ Err e → (r >>= f) ≡ Err e
stops_here (Ok x) f e h = absurd (cc h)
stops_here (Err g) f e h = let same : g ≡ e = cc h in ap Err same

pub goes_on : {A B E : Type 0} (r : Result A E) (f : A → Result B E) (x : A) → r ≡ Ok x → (r >>= f) ≡ f x
goes_on (Ok y) f x h = let same : y ≡ x = cc h in ap f same
goes_on (Err g) f x h = absurd (cc h)

-- what is found, or else the refusal
pub found_or : {A E : Type 0} (o : Option A) (g e : E) → ok_or o g ≡ Err e → (o ≡ None) × (g ≡ e)
found_or None g e h = (refl, cc h)
found_or (Some x) g e h = absurd (cc h)

pub none_or : {A E : Type 0} (o : Option A) (g : E) → o ≡ None → ok_or o g ≡ Err g
none_or None g h = refl
none_or (Some x) g h = absurd (cc h)

pub ok_found : {A E : Type 0} (o : Option A) (g : E) (x : A) → ok_or o g ≡ Ok x → o ≡ Some x
ok_found None g x h = absurd (cc h)
ok_found (Some y) g x h = let same : y ≡ x = cc h in ap Some same

pub some_found : {A E : Type 0} (o : Option A) (g : E) (x : A) → o ≡ Some x → ok_or o g ≡ Ok x
some_found None g x h = absurd (cc h)
some_found (Some y) g x h = let same : y ≡ x = cc h in ap Ok same

-- a condition, or else the refusal
pub ensured_or : {E : Type 0} (b : Bool) (g e : E) → ensured b g ≡ Err e → (b ≡ false) × (g ≡ e)
ensured_or true g e h = absurd (cc h)
ensured_or false g e h = (refl, cc h)

pub ensured_ok : {E : Type 0} (b : Bool) (g : E) (x : Unit {0}) → ensured b g ≡ Ok x → b ≡ true
ensured_ok true g x h = refl
ensured_ok false g x h = absurd (cc h)

pub ensured_so : {E : Type 0} (b : Bool) (g : E) → b ≡ true → ensured b g ≡ Ok tt
ensured_so true g h = refl
ensured_so false g h = absurd (true≢false (sym h))

pub ensured_not : {E : Type 0} (b : Bool) (g : E) → b ≡ false → ensured b g ≡ Err g
ensured_not true g h = absurd (true≢false h)
ensured_not false g h = refl
