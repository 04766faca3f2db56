-- What an answer of a typing step says of the steps before it.
use Rattle.std.proofs.Common.{◌≡◌, refl, Bool, true, false, Result, Ok, Err}
use Rattle.vx_dtype.specs.Types.{Bytes}
use Rattle.std.specs.Str.{bytes_eq}
use Rattle.std.proofs.lemmas.Slice.Eq.{bytes_eq-Decides}
use Rattle.vx_semantics.specs.Typing.{Refusal, and_then, unless}

-- the step before gave x, and the next gave the answer from it
pub record Stepped {X Y : Type 0} (first : Result X Refusal) (next : X → Result Y Refusal) (y : Y) : Type 0 where
  pub given : X
  pub was : first ≡ Ok given
  pub gave : next given ≡ Ok y

pub and_then-ok : {X Y : Type 0} (first : Result X Refusal) (next : X → Result Y Refusal) (y : Y) → and_then first next ≡ Ok y → Stepped first next y
and_then-ok (Ok x) next y h = record { given = x; was = refl; gave = h }
and_then-ok (Err r) next y h = let no : ⊥ = cc in absurd no

-- the test holds, and the answer is the one behind it
pub record Passed {X : Type 0} (test : Bool) (answer : Result X Refusal) (x : X) : Type 0 where
  pub holds : test ≡ true
  pub gave : answer ≡ Ok x

pub unless-ok : {X : Type 0} (test : Bool) (r : Refusal) (answer : Result X Refusal) (x : X) → unless test r answer ≡ Ok x → Passed test answer x
unless-ok true r answer x h = record { holds = refl; gave = h }
unless-ok false r answer x h = let no : ⊥ = cc in absurd no

pub Ok-same : {X : Type 0} (r : Result X Refusal) (x y : X) → r ≡ Ok x → r ≡ Ok y → x ≡ y
Ok-same r x y h k = cc

pub bytes_same : (f g : Bytes) → bytes_eq f g ≡ true → f ≡ g
bytes_same f g h = (bytes_eq-Decides f g).0 h

pub bytes_eq-itself : (f : Bytes) → bytes_eq f f ≡ true
bytes_eq-itself f = (bytes_eq-Decides f f).1 refl
