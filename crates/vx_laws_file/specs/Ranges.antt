-- What the range of a column of a block says: its values, or that it is damaged.
use Rattle.std.specs.Prelude.{◌≡◌, ℕ, cond, List, ◌∷◌, length, Option, Some, None}
use Rattle.std.specs.List.{AllByRecursion, slice_get}
use Rattle.std.specs.Option.{option_and_then}
use Rattle.std.specs.Str.{bytes_eq}
use Rattle.vx_dtype.specs.Types.{Bytes, Ty, Fields, field}
use Rattle.vx_dtype.specs.TypeRules.{field_type}
use Rattle.vx_dtype.specs.Values.{Val}
use Rattle.vx_laws_file.specs.Cells.{IsCell, range_bytes}
use Rattle.vx_laws_file.specs.FileForms.{FileContent}

-- a range is exactly these values of the type, which are so many
pub record SpellsRange (t : Ty) (n : ℕ) (range : Bytes) (values : List Val) : Type 0 where
  pub number : length values ≡ n
  pub cells : AllByRecursion (IsCell t) values
  pub spelled : range ≡ range_bytes t values

-- the range of the first column of this name
abbrev pub range_named : Bytes → Fields → List Bytes → Option Bytes
range_named f (field g t fs) (r ∷ rs) = cond (bytes_eq f g) (Some r) (range_named f fs rs)
range_named f _ _ = None

-- a block has so many rows, and the column of this name has this type and this range there
pub record HasRange (content : FileContent) (block : ℕ) (name : Bytes) (t : Ty) (n : ℕ) (range : Bytes) : Type 0 where
  pub number : slice_get content.zones.lengths block ≡ Some n
  pub ty : field_type name content.zones.columns ≡ Some t
  pub stands : option_and_then (range_named name content.zones.columns) (slice_get content.ranges block) ≡ Some range

-- the pair of a block and a column is read as these values
abbrev pub IsReadAs : FileContent → ℕ → Bytes → List Val → Type 0
IsReadAs content block name values =
    (t : Ty) × (n : ℕ) × (range : Bytes) × HasRange content block name t n range × SpellsRange t n range values

-- the pair of a block and a column is damaged: its range is no values of the column's type, as many as the block has rows
abbrev pub IsDamaged : FileContent → ℕ → Bytes → Type 0
IsDamaged content block name =
    (t : Ty) × (n : ℕ) × (range : Bytes) × HasRange content block name t n range × ((values : List Val) → ¬ (SpellsRange t n range values))
