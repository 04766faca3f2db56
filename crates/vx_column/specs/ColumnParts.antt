-- What a column may be kept as, for work that goes over all rows at once: one value, the truths of a boolean type, the numbers of an integer type, or
-- values beside truths that tell which rows are null. Which of them a column is kept as no clause says.
use Rattle.std.specs.Prelude.{◌≡◌, ⊤, ℤ, Bool, true, false, ◌&&◌, List, [], ◌∷◌, map, length, Option}
use Rattle.std.proofs.Math.ListN.{replicate}
use Rattle.vx_dtype.specs.Types.{Ty, int_ty, struct_ty}
use Rattle.vx_dtype.specs.declared.Nullability.{Nullability}
use Rattle.vx_dtype.specs.declared.PType.{PType}
use Rattle.vx_dtype.specs.TypeRules.{is_bool_ty, is_nullable, nullability_of}
use Rattle.vx_dtype.specs.Values.{Val, bool_val}
use Rattle.vx_dtype.specs.Logic.{is_null3}
use Rattle.vx_dtype.specs.Fits.{fits}
use Rattle.vx_dtype.specs.RawViews.{raw_view}
use Rattle.vx_words.specs.Truths.{is_true, vals_of}
use Rattle.vx_numbers.specs.Numbers.{NumberList}
use Rattle.vx_column.specs.declared.parts.ColumnParts.{ColumnParts}
use Rattle.vx_column.specs.declared.parts.ColumnParts.TheVariants.{Constant, Truths, Numbers, Whole, Masked}
use Rattle.vx_column.specs.Columns.{Column, seen}
use Rattle.vx_column.specs.RawParts.{truth_fits}
use Rattle.vx_column.specs.PlainValues.{number_fits, numbers_vals}

-- whether a boolean type of this nullability has each of the truths, and the null where there is none
abbrev pub truths_fit : Nullability → List (Option Bool) → Bool
truths_fit n [] = true
truths_fit n (t ∷ ts) = truth_fits n t && truths_fit n ts

-- whether an integer type of this nullability has each of the numbers, and the null where there is none
abbrev pub numbers_fit : PType → Nullability → List (Option ℤ) → Bool
numbers_fit p n [] = true
numbers_fit p n (i ∷ is) = number_fits p n i && numbers_fit p n is

-- the truths are those of a boolean type
pub record AreTruthsOf (t : Ty) (ts : List (Option Bool)) : Type 0 where
  pub kind : is_bool_ty t ≡ true
  pub fit : truths_fit (nullability_of t) ts ≡ true

-- the numbers are those of an integer type
pub record AreNumbersOf (t : Ty) (ns : NumberList) : Type 0 where
  pub kind : t ≡ int_ty ns.ptype (nullability_of t)
  pub fit : numbers_fit ns.ptype (nullability_of t) ns.numbers ≡ true

-- whether values of a type are no structs, so that each can be read without making one
abbrev pub keeps_values : Ty → Bool
keeps_values (struct_ty fs n) = false
keeps_values _ = true

-- a boolean: whether a row is null by a truth that tells of it
abbrev pub null_by : Option Bool → Val
null_by t = bool_val (is_true t)

-- the rows are those that the parts stand for; truths beside values tell which rows are null
abbrev pub PartsHaveRows : Column → ColumnParts → Type 0
PartsHaveRows c (Constant x) = c.rows ≡ replicate (length c.rows) (seen c.ty x.now)
PartsHaveRows c (Truths ts) = vals_of ts.now ≡ c.rows
PartsHaveRows c (Numbers ns) = numbers_vals ns.now ≡ c.rows
PartsHaveRows c Whole = ⊤
PartsHaveRows c (Masked ts) = map null_by ts.now ≡ map is_null3 c.rows

-- the parts are those of a column of the type; where nothing tells which rows are null, none is
abbrev pub PartsHaveType : Ty → ColumnParts → Type 0
PartsHaveType t (Constant x) = fits (raw_view x.now) t ≡ true
PartsHaveType t (Truths ts) = AreTruthsOf t ts.now
PartsHaveType t (Numbers ns) = AreNumbersOf t ns.now
PartsHaveType t Whole = is_nullable (nullability_of t) ≡ false
PartsHaveType t (Masked ts) = is_nullable (nullability_of t) ≡ true
