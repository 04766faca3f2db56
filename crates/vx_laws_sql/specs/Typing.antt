-- What the forms of SQL give is strictly typed.
use Rattle.std.specs.Prelude.{◌≡◌, true, List, Result, Ok}
use Rattle.vx_dtype.specs.declared.CompareOperator.{CompareOperator}
use Rattle.vx_dtype.specs.Types.{Ty}
use Rattle.vx_dtype.specs.TypeRules.{is_bool_ty}
use Rattle.vx_dtype.specs.Values.{Raw}
use Rattle.vx_semantics.specs.Typing.{typed_of}
use Rattle.vx_laws_sql.specs.Operands.{TypedTree, Operand, known, number, untyped_null, Mismatch}
use Rattle.vx_laws_sql.specs.Forms.{comparison, sum, difference, conjunction, disjunction, negation, null_test, not_null_test, pattern_test, range_test}
use Rattle.vx_laws_sql.specs.Forms.{cast_to}
use Rattle.vx_laws_sql.specs.Membership.{membership}

-- an expression that has its type over the scope
abbrev pub HasItsType : Ty → TypedTree → Type 0
HasItsType t e = typed_of t e.tree ≡ Ok e.ty

-- a test: such an expression of boolean type
abbrev pub IsTest : Ty → TypedTree → Type 0
IsTest t e = HasItsType t e × (is_bool_ty e.ty ≡ true)

-- an operand whose expression, where it is one, has its type
abbrev pub IsTyped : Ty → Operand → Type 0
IsTyped t (known e) = HasItsType t e
IsTyped t (number i) = Unit {0}
IsTyped t untyped_null = Unit {0}

-- each form of typed operands gives such an expression
abbrev pub OneOperandGives : (Ty → TypedTree → Type 0) → (Operand → Result TypedTree Mismatch) → Type 0
OneOperandGives Given form = (t : Ty) (o : Operand) (x : TypedTree) → IsTyped t o → form o ≡ Ok x → Given t x

abbrev pub TwoOperandsGive : (Ty → TypedTree → Type 0) → (Operand → Operand → Result TypedTree Mismatch) → Type 0
TwoOperandsGive Given form = (t : Ty) (l r : Operand) (x : TypedTree) → IsTyped t l → IsTyped t r → form l r ≡ Ok x → Given t x

abbrev pub ComparisonsAreTests : Type 0
ComparisonsAreTests = (op : CompareOperator) → TwoOperandsGive IsTest (comparison op)

abbrev pub ConjunctionsAreTests : Type 0
ConjunctionsAreTests = TwoOperandsGive IsTest conjunction

abbrev pub DisjunctionsAreTests : Type 0
DisjunctionsAreTests = TwoOperandsGive IsTest disjunction

abbrev pub NegationsAreTests : Type 0
NegationsAreTests = OneOperandGives IsTest negation

abbrev pub NullTestsAreTests : Type 0
NullTestsAreTests = OneOperandGives IsTest null_test

abbrev pub NotNullTestsAreTests : Type 0
NotNullTestsAreTests = OneOperandGives IsTest not_null_test

abbrev pub PatternsAreTests : Type 0
PatternsAreTests = TwoOperandsGive IsTest pattern_test

abbrev pub RangesAreTests : Type 0
RangesAreTests =
    (t : Ty) (o lower upper : Operand) (x : TypedTree)
    → IsTyped t o → IsTyped t lower → IsTyped t upper → range_test o lower upper ≡ Ok x → IsTest t x

abbrev pub MembershipsAreTests : Type 0
MembershipsAreTests = (cs : List Raw) → OneOperandGives IsTest (λ o. membership o cs)

abbrev pub SumsAreTyped : Type 0
SumsAreTyped = TwoOperandsGive HasItsType sum

abbrev pub DifferencesAreTyped : Type 0
DifferencesAreTyped = TwoOperandsGive HasItsType difference

abbrev pub CastsAreTyped : Type 0
CastsAreTyped = (target : Ty) → OneOperandGives HasItsType (cast_to target)
