-- What an answer of a form says of the steps before it.
use Rattle.std.proofs.Common.{◌≡◌, refl, Bool, true, false, Result, Ok, Err}
use Rattle.vx_laws_sql.specs.Operands.{Mismatch, ◌>>=◌, where_it}

-- the step before gave this, and the next gave the answer from it
pub record Stepped {X Y : Type 0} (first : Result X Mismatch) (next : X → Result Y Mismatch) (y : Y) : Type 0 where
  pub given : X
  pub was : first ≡ Ok given
  pub gave : next given ≡ Ok y

pub stepped : {X Y : Type 0} (first : Result X Mismatch) (next : X → Result Y Mismatch) (y : Y) → (first >>= next) ≡ Ok y → Stepped first next y
stepped (Ok x) next y h = record { given = x; was = refl; gave = h }
stepped (Err r) next y h = let no : ⊥ = cc in absurd no

-- the test holds, and the answer is the one behind it
pub record Passed {X : Type 0} (test : Bool) (answer : Result X Mismatch) (x : X) : Type 0 where
  pub holds : test ≡ true
  pub gave : answer ≡ Ok x

pub passed : {X : Type 0} (test : Bool) (r : Mismatch) (answer : Result X Mismatch) (x : X) → where_it test r answer ≡ Ok x → Passed test answer x
passed true r answer x h = record { holds = refl; gave = h }
passed false r answer x h = let no : ⊥ = cc in absurd no

pub same_answer : {X : Type 0} (r : Result X Mismatch) (x y : X) → r ≡ Ok x → r ≡ Ok y → x ≡ y
same_answer r x y h k = cc
