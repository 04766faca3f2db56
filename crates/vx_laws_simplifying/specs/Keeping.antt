-- What a pass keeps of the strictly typed expressions that it takes.
use Rattle.std.specs.Prelude.{◌≡◌, Bool, true, false, List, [], ◌∷◌, option_map, unwrap_or, Result, Ok}
use Rattle.vx_dtype.specs.Types.{Bytes, Ty}
use Rattle.vx_dtype.specs.TypeRules.{fields_of, field_type}
use Rattle.vx_dtype.specs.Values.{Val}
use Rattle.vx_dtype.specs.Fits.{fits_but_for_faults}
use Rattle.vx_expr.specs.Trees.{Tree}
use Rattle.vx_semantics.specs.Typing.{Refusal, typed_of}
use Rattle.vx_semantics.specs.Meaning.{Slots, mean}
use Rattle.vx_semantics.specs.Slots.{slots_fit}
use Rattle.vx_semantics.specs.Breaks.{Cause}
use Rattle.vx_semantics.specs.Asked.{asked_columns}
use Rattle.vx_laws_simplifying.specs.Asking.{breaks_along, asks_along}
use Rattle.vx_laws_simplifying.specs.Narrowing.{narrows}

-- a pass over the expressions of a scope's type
abbrev pub Pass : Type 0
Pass = Ty → Tree → Result Tree Refusal

-- whether a path leads to a field in a type
abbrev pub has_path : List Bytes → Ty → Bool
has_path [] t = true
has_path (f ∷ path) t = unwrap_or (option_map (has_path path) (field_type f (fields_of t))) false

-- it refuses no strictly typed expression, and what it makes has a strict type that is the same but perhaps less nullable
abbrev pub KeepsType : Pass → Type 0
KeepsType pass =
    (t : Ty) (e : Tree) (u : Ty) → typed_of t e ≡ Ok u
    → (d : Tree) × (v : Ty) × (pass t e ≡ Ok d) × (typed_of t d ≡ Ok v) × (narrows v u ≡ true)

-- what it makes asks along each path of the type the same columns, and in the whole the same in the same order
abbrev pub KeepsColumns : Pass → Type 0
KeepsColumns pass =
    (t : Ty) (e : Tree) (u : Ty) (d : Tree) → typed_of t e ≡ Ok u → pass t e ≡ Ok d
    → (path : List Bytes) (c : Bytes) → has_path path u ≡ true → asks_along t d path c ≡ asks_along t e path c

abbrev pub KeepsAskedColumns : Pass → Type 0
KeepsAskedColumns pass = (t : Ty) (e : Tree) (u : Ty) (d : Tree) → typed_of t e ≡ Ok u → pass t e ≡ Ok d → asked_columns t d ≡ asked_columns t e

-- slots that fit keep fitting
abbrev pub KeepsSlots : Pass → Type 0
KeepsSlots pass =
    (t : Ty) (slots : Slots) (e : Tree) (u : Ty) (d : Tree)
    → typed_of t e ≡ Ok u → pass t e ≡ Ok d → slots_fit slots e ≡ true → slots_fit slots d ≡ true

-- what it makes means the same at each row that fits but for faults, with any slots
abbrev pub KeepsMeaning : Pass → Type 0
KeepsMeaning pass =
    (t : Ty) (slots : Slots) (row : Val) (e : Tree) (u : Ty) (d : Tree)
    → typed_of t e ≡ Ok u → pass t e ≡ Ok d → fits_but_for_faults row t ≡ true
    → mean t slots row d ≡ mean t slots row e

-- there a node that it asks along a path of the type breaks by a cause where one does that was asked
abbrev pub KeepsBreaks : Pass → Type 0
KeepsBreaks pass =
    (t : Ty) (slots : Slots) (row : Val) (e : Tree) (u : Ty) (d : Tree)
    → typed_of t e ≡ Ok u → pass t e ≡ Ok d → fits_but_for_faults row t ≡ true
    → (cause : Cause) (path : List Bytes) → has_path path u ≡ true → breaks_along cause t slots row d path ≡ breaks_along cause t slots row e path
