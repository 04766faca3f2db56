-- What the values of a strictly typed expression are, and of a chain of field accesses.
use Rattle.std.specs.Prelude.{◌≡◌, true, List, Some, Ok}
use Rattle.vx_dtype.specs.declared.Nullability.TheVariants.{Nullable}
use Rattle.vx_dtype.specs.Types.{Bytes, Ty, bool_ty, int_ty, text_ty, list_ty, struct_ty, Fields, no_fields, field}
use Rattle.vx_dtype.specs.TypeRules.{is_plain}
use Rattle.vx_dtype.specs.Values.{Val, fault}
use Rattle.vx_dtype.specs.Fits.{fits_but_for_faults}
use Rattle.vx_expr.specs.Trees.{Tree}
use Rattle.vx_semantics.specs.Slots.{slots_fit}
use Rattle.vx_semantics.specs.Typing.{typed_of}
use Rattle.vx_semantics.specs.Meaning.{Slots, mean}
use Rattle.vx_semantics.specs.Paths.{path_of, path_value}

-- at a row that fits the scope's type but for faults, with slots that fit, a strictly typed expression means a value that fits its type but for faults
abbrev pub MeaningFits : Type 0
MeaningFits =
    (t : Ty) (slots : Slots) (row : Val) (e : Tree) (u : Ty)
    → fits_but_for_faults row t ≡ true → slots_fit slots e ≡ true → typed_of t e ≡ Ok u → fits_but_for_faults (mean t slots row e) u ≡ true

unfoldable mutual
  -- a type with each plain type in it nullable, at any depth
  pub plain_nullable : Ty → Ty
  plain_nullable (bool_ty n) = bool_ty Nullable
  plain_nullable (int_ty p n) = int_ty p Nullable
  plain_nullable (text_ty n) = text_ty Nullable
  plain_nullable (list_ty e n) = list_ty (plain_nullable e) n
  plain_nullable (struct_ty fs n) = struct_ty (fields_nullable fs) n

  -- the same of the types of fields
  pub fields_nullable : Fields → Fields
  fields_nullable no_fields = no_fields
  fields_nullable (field f t fs) = field f (plain_nullable t) (fields_nullable fs)

-- with any slots it means there a value that fits its type but for faults, and for nulls at plain types: a comparison with a slot that holds null
-- is null, whatever its type says
abbrev pub MeaningFitsWithAnySlots : Type 0
MeaningFitsWithAnySlots =
    (t : Ty) (slots : Slots) (row : Val) (e : Tree) (u : Ty)
    → fits_but_for_faults row t ≡ true → typed_of t e ≡ Ok u → fits_but_for_faults (mean t slots row e) (plain_nullable u) ≡ true

-- and a fault itself only where its type is plain
abbrev pub FaultsArePlain : Type 0
FaultsArePlain =
    (t : Ty) (slots : Slots) (row : Val) (e : Tree) (u : Ty)
    → fits_but_for_faults row t ≡ true → typed_of t e ≡ Ok u → mean t slots row e ≡ fault → is_plain u ≡ true

-- a chain of field accesses over the row means the value of its path
abbrev pub AccessesMeanTheirPath : Type 0
AccessesMeanTheirPath =
    (t : Ty) (slots : Slots) (row : Val) (e : Tree) (path : List Bytes) → path_of e ≡ Some path → mean t slots row e ≡ path_value path row
