-- Parts of a file: why they are too long, the values of cells, and the depth of columns' types.
use Rattle.std.proofs.Common.{◌≡◌, refl, sym, ap, ◌∙◌, subst, ℕ, zero, suc, ◌≤◌, Bool, true, false, cond, not, nat_le, Option, Some, None}
use Rattle.std.specs.List.{slice_get}
use Rattle.std.proofs.lemmas.Bool.{and_parts, leb-true}
use Rattle.std.proofs.lemmas.Option.{same_Some}
use Rattle.vx_dtype.specs.Types.{Ty, Fields, no_fields, field}
use Rattle.vx_dtype.specs.TypeRules.{depth_of, most_deep}
use Rattle.vx_dtype.specs.StructTypes.{field_types}
use Rattle.vx_dtype.specs.Values.{Val, Typed, value_of}
use Rattle.vx_dtype.specs.Fits.{fits}
use Rattle.vx_dtype.specs.TypeRules.{no_name_twice}
use Rattle.vx_semantics.specs.Tables.{Zones, row_type}
use Rattle.vx_zones.specs.Zoning.{are_shallow, broken_rule}
use Rattle.vx_zones.specs.declared.errors.ZoneError.TheVariants as rules
use Rattle.vx_laws_file.specs.Cells.{raw_value}
use Rattle.vx_laws_file.proofs.CellLemmas.{raw_valued}
use Rattle.vx_file_bytes.specs.declared.errors.WriteFileError.{WriteFileError}
use Rattle.vx_file_bytes.specs.declared.errors.WriteFileError.TheVariants.{NoMemory, WrongLength, WrongType, TooLong}
use Rattle.vx_file_bytes.specs.WritingParts.{IsTooLong}

-- what is too long for a part is too long for the whole
pub too_long : (P Q : Type 0) (e : WriteFileError) → (P → Q) → IsTooLong Q e → IsTooLong P e
too_long P Q NoMemory f h = tt
too_long P Q TooLong f h = λ p. h (f p)
too_long P Q WrongLength f h = absurd h
too_long P Q WrongType f h = absurd h

-- the raw value of what a scalar stands for is the scalar's
pub cell_raw : (s : Typed) (v : Val) → value_of s ≡ v → fits s.value s.ty ≡ true → raw_value v ≡ s.value
cell_raw s v e f = ap raw_value (sym e) ∙ raw_valued s.value s.ty f

pub shallow_at : (fs : Fields) (i : ℕ) (t : Ty) → slice_get (field_types fs) i ≡ Some t → are_shallow fs ≡ true → depth_of t ≤ most_deep
shallow_at no_fields zero t e h = absurd cc
shallow_at no_fields (suc i) t e h = absurd cc
shallow_at (field f u fs) zero t e h =
    let same : u ≡ t = same_Some u t e in
    let parts = and_parts (nat_le (depth_of u) most_deep) (are_shallow fs) h in
    subst (λ (v : Ty). depth_of v ≤ most_deep) same (leb-true (depth_of u) most_deep parts.0)
shallow_at (field f u fs) (suc i) t e h = shallow_at fs i t e (and_parts (nat_le (depth_of u) most_deep) (are_shallow fs) h).1

not_refused : {E : Type 0} (b : Bool) (x : E) (r : Option E) → cond (not b) (Some x) r ≡ None → (b ≡ true) × (r ≡ None)
not_refused true x r h = (refl, h)
not_refused false x r h = absurd cc

-- no column's type is too deep in zones that break no rule
pub shallow_zones : (zones : Zones) → broken_rule zones ≡ None → are_shallow zones.columns ≡ true
unfolding broken_rule
shallow_zones zones h =
    let names = not_refused (no_name_twice (row_type zones.columns)) rules.DuplicateName _ h in
    (not_refused (are_shallow zones.columns) rules.DeepType _ names.1).0
