-- Metadata that is read back: the bytes of the parts that a kind has beside its children, each as a whole.
use Rattle.std.specs.Prelude.{◌≡◌, ◌≢◌, Bool, List, [], ◌∷◌, ◌++◌, Option, Some, None}
use Rattle.vx_dtype.specs.Types.{Bytes}
use Rattle.vx_dtype.specs.Values.{Typed}
use Rattle.vx_dtype.specs.declared.Nullability.{Nullability}
use Rattle.vx_dtype.specs.declared.BetweenOptions.{BetweenOptions}
use Rattle.vx_expr.specs.declared.operators.Operator.{Operator}
use Rattle.vx_expr.specs.declared.selections.FieldSelection.{FieldSelection}
use Rattle.vx_expr.specs.Operators.{operator_number}
use Rattle.vx_expr.specs.Selections.{is_included, listed_names}
use Rattle.vx_wire_bytes.specs.TypeForms.{type_bytes, IsType}
use Rattle.vx_dtype.specs.TypeRules.{null_number}
use Rattle.vx_wire_bytes.specs.ValueForms.{truth_byte, value_bytes, IsValue}
use Rattle.vx_wire.specs.Metadata.{strictness_byte, choice_byte, names_bytes, AreNames}

-- the answer is the value that is spelled so, or none where none is
abbrev pub IsReadBack : {A B : Type 0} → (A → B) → (A → Type 0) → B → Option A → Type 0
IsReadBack spelling HasSpelling spelled (Some x) = HasSpelling x × (spelled ≡ spelling x)
IsReadBack {A} spelling HasSpelling spelled None = (x : A) → HasSpelling x → spelled ≢ spelling x

-- what always has a spelling
abbrev pub IsAny : {A : Type 0} → A → Type 0
IsAny x = Unit {0}

-- the byte of an operator
abbrev pub operator_bytes : Operator → Bytes
operator_bytes op = operator_number op ∷ []

-- the two bytes of a range's bounds
abbrev pub bounds_bytes : BetweenOptions → Bytes
bounds_bytes options = strictness_byte options.lower_strict ∷ strictness_byte options.upper_strict ∷ []

-- the two bytes of two truth values
abbrev pub truths_bytes : Bool × Bool → Bytes
truths_bytes b = truth_byte b.0 ∷ truth_byte b.1 ∷ []

-- the byte of a nullability
abbrev pub null_bytes : Nullability → Bytes
null_bytes n = null_number n ∷ []

-- the bytes of a nullability and names
abbrev pub packing_bytes : Nullability × List Bytes → Bytes
packing_bytes p = null_number p.0 ∷ names_bytes p.1

-- a nullability and names that have a spelling
abbrev pub IsPacking : Nullability × List Bytes → Type 0
IsPacking p = AreNames p.1

-- the bytes of a choice of fields: how it chooses, and the names that it lists
abbrev pub selection_bytes : FieldSelection → Bytes
selection_bytes s = choice_byte (is_included s) ∷ names_bytes (listed_names s)

-- a choice of fields whose names have a spelling
abbrev pub IsSelection : FieldSelection → Type 0
IsSelection s = AreNames (listed_names s)

-- the bytes of a type, and of a value of it
abbrev pub literal_bytes : Typed → Bytes
literal_bytes s = type_bytes s.ty ++ value_bytes s.ty s.value

-- a type and a value of it that have a spelling
abbrev pub IsLiteral : Typed → Type 0
IsLiteral s = IsType s.ty × IsValue s.ty s.value
