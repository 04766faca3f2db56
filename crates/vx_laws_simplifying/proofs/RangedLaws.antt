-- An expression with its ranges has the type of the expression, means what it means and asks what it asks.
use Rattle.std.proofs.Common.{◌≡◌, ap, sym, ◌∙◌, Bool, ◌&&◌, Option, Some, List, [], Result, Ok, Err}
use Rattle.vx_dtype.specs.declared.Nullability.{Nullability}
use Rattle.vx_dtype.specs.Types.{Bytes, Ty, bool_ty}
use Rattle.vx_dtype.specs.TypeRules.{is_bool_ty}
use Rattle.vx_dtype.specs.Values.{Val, fault}
use Rattle.vx_expr.specs.declared.Operator.{Operator}
use Rattle.vx_expr.specs.Conjuncts.{conjuncts_of}
use Rattle.vx_expr.specs.Trees.{Tree, binary}
use Rattle.vx_semantics.specs.Typing.{Refusal, and_then, union_of, logic_type, typed_of}
use Rattle.vx_semantics.specs.Meaning.{Slots}
use Rattle.vx_semantics.specs.Slots.{slots_fit}
use Rattle.vx_semantics.specs.Asked.{Asking}
use Rattle.vx_passes.specs.Ranges.{ranged}
use Rattle.vx_laws.proofs.Inverting.{and_then-ok}
use Rattle.vx_laws.proofs.Preserving.{one_test}
use Rattle.vx_laws_simplifying.specs.Ranged.{RangesKeepType, RangesKeepMeaning, RangesKeepBreaks, RangesKeepColumns, RangesKeepAskedColumns}
use Rattle.vx_laws_simplifying.proofs.Chains.{alone-ranged}
use Rattle.vx_laws_simplifying.proofs.Observing.{Observes, seen, breaking, is_column, breaking-observes, is_column-observes, breaks-kept, columns-kept, asked_columns-kept}
use Rattle.vx_laws_simplifying.proofs.RangedMeasures.{meaning, asking, fitting}
use Rattle.vx_laws_simplifying.proofs.RangedTypes.{bool_answer, typing}

answer-bool : (r : Result Ty Refusal) (n : Nullability) → bool_answer r ≡ Some n → r ≡ Ok (bool_ty n)
answer-bool (Ok (bool_ty m)) n h = let same : m ≡ n = cc in ap (λ (z : Nullability). Ok (bool_ty z)) same
answer-bool (Ok _) n h = let no : ⊥ = cc in absurd no
answer-bool (Err r) n h = let no : ⊥ = cc in absurd no

pub ranges_typed : RangesKeepType
unfolding typed_of conjuncts_of typing
ranges_typed t (binary l Operator.And r) u h =
    let a = and_then-ok (typed_of t l) (λ x. and_then (typed_of t r) (logic_type x)) u h in
    let b = and_then-ok (typed_of t r) (logic_type a.given) u a.gave in
    let n = union_of a.given b.given in
    let is : bool_ty n ≡ u = (one_test (is_bool_ty a.given && is_bool_ty b.given) (bool_ty n) u b.gave).1 in
    let own : bool_answer (typed_of t (binary l Operator.And r)) ≡ Some n = ap bool_answer h ∙ ap (λ (z : Ty). bool_answer (Ok z)) (sym is) in
    answer-bool (typed_of t (ranged (binary l Operator.And r))) n (alone-ranged (Option Nullability) (typing t) (binary l Operator.And r) ∙ own) ∙ ap Ok is
ranges_typed t e u h = h

pub ranges_mean : RangesKeepMeaning
unfolding meaning
ranges_mean t slots row e = alone-ranged Val (meaning t slots row) e

pub ranges-seen : (t : Ty) (slots : Slots) (row : Val) (test : Asking → Bool) → Observes t slots row test → (e : Tree) (path : List Bytes) → seen test t (ranged e) path ≡ seen test t e path
unfolding asking
ranges-seen t slots row test o e path = alone-ranged Bool (asking t slots row test o path) e

pub ranges-fitting : (slots : Slots) (e : Tree) → slots_fit slots (ranged e) ≡ slots_fit slots e
unfolding fitting
ranges-fitting slots e = alone-ranged Bool (fitting slots) e

pub ranges_break : RangesKeepBreaks
ranges_break cause t slots row e path =
    breaks-kept cause t slots row e (ranged e) path (ranges-seen t slots row (breaking cause t slots row) (breaking-observes cause t slots row) e path)

-- any slots and row serve, as columns don't hang on them
pub ranges_columns : RangesKeepColumns
ranges_columns t e path c = columns-kept t e (ranged e) path c (ranges-seen t [] fault (is_column c) (is_column-observes c t [] fault) e path)

pub ranges_asked_columns : RangesKeepAskedColumns
ranges_asked_columns t e = asked_columns-kept t e (ranged e) (λ c. ranges_columns t e [] c)
