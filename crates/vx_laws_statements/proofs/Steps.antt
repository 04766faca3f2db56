-- What an answer says of the steps before it.
use Rattle.std.proofs.Common.{◌≡◌, refl, Bool, true, false, Option, Some, None, Result, Ok, Err}
use Rattle.vx_laws_statements.specs.Refusals.{◌>>=◌, unless, there, refused_as}

-- the step before gave this, and the next gave the answer from it
pub record Stepped {X Y E : Type 0} (first : Result X E) (next : X → Result Y E) (y : Y) : Type 0 where
  pub given : X
  pub was : first ≡ Ok given
  pub gave : next given ≡ Ok y

pub stepped : {X Y E : Type 0} (first : Result X E) (next : X → Result Y E) (y : Y) → (first >>= next) ≡ Ok y → Stepped first next y
stepped (Ok x) next y h = record { given = x; was = refl; gave = h }
stepped (Err r) next y h = let no : ⊥ = cc in absurd no

-- the test holds, and the answer is the one behind it
pub record Passed {X E : Type 0} (test : Bool) (answer : Result X E) (x : X) : Type 0 where
  pub holds : test ≡ true
  pub gave : answer ≡ Ok x

pub passed : {X E : Type 0} (test : Bool) (r : E) (answer : Result X E) (x : X) → unless test r answer ≡ Ok x → Passed test answer x
passed true r answer x h = record { holds = refl; gave = h }
passed false r answer x h = let no : ⊥ = cc in absurd no

pub was_there : {X E : Type 0} (r : E) (o : Option X) (x : X) → there r o ≡ Ok x → o ≡ Some x
was_there r (Some y) x h = cc
was_there r None x h = let no : ⊥ = cc in absurd no

pub was_refused_as : {X E F : Type 0} (name : E → F) (answer : Result X E) (x : X) → refused_as name answer ≡ Ok x → answer ≡ Ok x
was_refused_as name (Ok y) x h = cc
was_refused_as name (Err r) x h = let no : ⊥ = cc in absurd no

pub same_answer : {X E : Type 0} (r : Result X E) (x y : X) → r ≡ Ok x → r ≡ Ok y → x ≡ y
same_answer r x y h k = cc
