-- Steps of loops: what was made so far stands before what is left, and a test of what is left is the answer.
use Rattle.std.proofs.Common.{◌≡◌, ◌∙◌, sym, ap, List, [], ◌∷◌, ◌++◌, append_assoc, append-nil, Bool, true, false, cond, Option, Some, None}
use Rattle.std.specs.Option.{option_or}

pub one-more : {A : Type 0} (whole so_far now later rest : List A) (x : A) → whole ≡ so_far ++ rest → rest ≡ x ∷ later → now ≡ so_far ++ x ∷ [] → whole ≡ now ++ later
one-more whole so_far now later rest x h e k =
    h ∙ ap (λ ys. so_far ++ ys) e ∙ sym (append_assoc so_far (x ∷ []) later) ∙ ap (λ ys. ys ++ later) (sym k)

pub nothing-left : {A : Type 0} (whole so_far rest : List A) → whole ≡ so_far ++ rest → rest ≡ [] → so_far ≡ whole
nothing-left whole so_far rest h e = sym (h ∙ ap (λ ys. so_far ++ ys) e ∙ append-nil so_far)

-- the first refusal is told, and where there is none what is left is asked
pub first-told : {A : Type 0} (whole here later : Option A) (x : A) → whole ≡ option_or here later → Some x ≡ here → Some x ≡ whole
first-told whole here later x h e = sym (h ∙ ap (λ o. option_or o later) (sym e))

pub none-here : {A : Type 0} (whole here later : Option A) → whole ≡ option_or here later → None ≡ here → whole ≡ later
none-here whole here later h e = h ∙ ap (λ o. option_or o later) (sym e)

-- the same by a test
pub test-holds : {A : Type 0} (whole later : Option A) (here : Bool) (x : A) → whole ≡ cond here later (Some x) → here ≡ true → whole ≡ later
test-holds whole later here x h e = h ∙ ap (λ b. cond b later (Some x)) e

pub test-fails : {A : Type 0} (whole later : Option A) (here : Bool) (x : A) → whole ≡ cond here later (Some x) → here ≡ false → Some x ≡ whole
test-fails whole later here x h e = sym (h ∙ ap (λ b. cond b later (Some x)) e)
