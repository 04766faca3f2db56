-- An expression that is typed, and whose slots fit, has a type to be evaluated at.
use Rattle.std.proofs.Common.{◌≡◌, Bool, true, Ok, sym, ◌∙◌}
use Rattle.vx_dtype.specs.Types.{Ty}
use Rattle.vx_expr.specs.Trees.{Tree}
use Rattle.vx_semantics.specs.Typing.{and_then, unless, type_mismatch, typed_of}
use Rattle.vx_semantics.specs.Slots.{slots_fit}
use Rattle.vx_semantics.specs.Meaning.{Slots}
use Rattle.vx_eval.specs.Evaluating.{checked_type}

pub checked : (t seen : Ty) (slots held : Slots) (e : Tree) (u : Ty) (b : Bool) → seen ≡ t → held ≡ slots → typed_of seen e ≡ Ok u → b ≡ slots_fit held e → b ≡ true → checked_type t slots e ≡ Ok u
checked t seen slots held e u b p q typed fits held_so =
    let fit : slots_fit held e ≡ true = sym fits ∙ held_so in
    let whole : checked_type seen held e ≡ Ok u = λ i. and_then (typed i) (λ v. unless (fit i) type_mismatch (Ok v)) in
    (λ i. checked_type (sym p i) (sym q i) e) ∙ whole
