-- What a scan makes ready, against its type.
use Rattle.std.proofs.Common.{◌≡◌, refl, ap, ◌∙◌, Bool, true, false, cond, not, Option, Some, None, Result, Ok, Err}
use Rattle.vx_dtype.specs.TypeRules.{is_bool_ty, no_name_twice}
use Rattle.vx_dtype.specs.TypeViews.{type_view}
use Rattle.vx_dtype.specs.Types.{Ty, Fields}
use Rattle.vx_expr.specs.Trees.{Tree}
use Rattle.vx_semantics.specs.Meaning.{Slots}
use Rattle.vx_semantics.specs.Slots.{slots_fit}
use Rattle.vx_semantics.specs.Tables.{Zones, row_type}
use Rattle.vx_semantics.specs.Typing.{Refusal, typed_of, and_then, unless, type_mismatch}
use Rattle.vx_eval.specs.Evaluating.{checked_type}
use Rattle.vx_zones.specs.Zoning.{broken_rule}
use Rattle.vx_zones.specs.declared.errors.ZoneError.{ZoneError}
use Rattle.vx_zones.specs.declared.errors.ZoneError.TheVariants as zone_errors
use Rattle.vx_prepare.specs.Preparing.{IsPrepared}
use Rattle.vx_prepare.specs.declared.prepared.PreparedExpr.{PreparedExpr}
use Rattle.vx_scan.specs.Scanning.{on_side, after_filter, scan_type}
use Rattle.vx_scan.specs.Opening.{ArePrepared, IsPreparedScan, OtherSlotsServe}
use Rattle.vx_scan.specs.declared.errors.Side.TheVariants.{Filter, Projection}
use Rattle.vx_scan.specs.declared.errors.ScanError.TheVariants as errors
use Rattle.vx_scan.specs.declared.preparing.PreparedScan.{PreparedScan}

-- in no type of the columns of zones a name stands twice
passed : (b : Bool) (e : ZoneError) (o : Option ZoneError) → cond (not b) (Some e) o ≡ None → b ≡ true
passed true e o h = refl
passed false e o h = let no : ⊥ = cc in absurd no

pub names_once : (zones : Zones) → broken_rule zones ≡ None → no_name_twice (row_type zones.columns) ≡ true
unfolding broken_rule
names_once zones h = passed (no_name_twice (row_type zones.columns)) zone_errors.DuplicateName _ h

-- a checked type is the expression's, and its slots fit
then_step : (r : Result Ty Refusal) (b : Bool) (u : Ty) → and_then r (λ v. unless b type_mismatch (Ok v)) ≡ Ok u → (r ≡ Ok u) × (b ≡ true)
then_step (Ok v) true u h = (h, refl)
then_step (Ok v) false u h = let no : ⊥ = cc in absurd no
then_step (Err e) b u h = let no : ⊥ = cc in absurd no

pub checked_parts : (t : Ty) (slots : Slots) (e : Tree) (u : Ty) → checked_type t slots e ≡ Ok u → (typed_of t e ≡ Ok u) × (slots_fit slots e ≡ true)
checked_parts t slots e u h = then_step (typed_of t e) (slots_fit slots e) u h

-- with other slots that fit it is the same type
checked_with : (t : Ty) (slots others : Slots) (e : Tree) (u : Ty) → checked_type t slots e ≡ Ok u → slots_fit others e ≡ true → checked_type t others e ≡ Ok u
checked_with t slots others e u h k =
    ap (λ (r : Result Ty Refusal). and_then r (λ v. unless (slots_fit others e) type_mismatch (Ok v))) (checked_parts t slots e u h).0
    ∙ ap (λ (b : Bool). unless b type_mismatch (Ok u)) k

-- what is prepared with some slots is prepared with others that fit
prepared_with : (fs : Fields) (slots others : Slots) (e : Tree) (p : PreparedExpr) → IsPrepared fs slots e p → slots_fit others e ≡ true → IsPrepared fs others e p
prepared_with fs slots others e p h k = record {
  typed = checked_with (row_type fs) slots others e (type_view p.dtype) h.typed k;
  columns = h.columns;
  simplified = h.simplified;
  parts = h.parts;
  splits = h.splits;
  held = h.held;
}

pub other_slots : OtherSlotsServe
other_slots zones slots others f p scan h fits_filter fits_projection = record {
  distinct = h.distinct;
  filter = prepared_with zones.columns slots others f scan.filter h.filter fits_filter;
  boolean = h.boolean;
  projection = prepared_with zones.columns slots others p scan.projection h.projection fits_projection;
}

-- the type of a scan, or its first refusal
filter_passes : (t : Ty) (slots : Slots) (f p : Tree) (u : Ty) → checked_type t slots f ≡ Ok u
    → scan_type t slots f p ≡ cond (is_bool_ty u) (on_side Projection (checked_type t slots p)) (Err errors.FilterNotBool)
filter_passes t slots f p u h = ap (λ (r : Result Ty Refusal). after_filter (on_side Filter r) (on_side Projection (checked_type t slots p))) h

filter_bool : (t : Ty) (slots : Slots) (f p : Tree) (u : Ty) → checked_type t slots f ≡ Ok u → is_bool_ty u ≡ true → scan_type t slots f p ≡ on_side Projection (checked_type t slots p)
filter_bool t slots f p u h k =
    filter_passes t slots f p u h ∙ ap (λ (b : Bool). cond b (on_side Projection (checked_type t slots p)) (Err errors.FilterNotBool)) k

pub scan_typed : (zones : Zones) (slots : Slots) (f p : Tree) (scan : PreparedScan) → IsPreparedScan zones slots f p scan
    → scan_type (row_type zones.columns) slots f p ≡ Ok (type_view scan.projection.dtype)
scan_typed zones slots f p scan h =
    let t = row_type zones.columns in
    filter_bool t slots f p (type_view scan.filter.dtype) h.filter.typed h.boolean
    ∙ ap (on_side Projection) h.projection.typed

-- and of both expressions that are prepared
pub both_typed : (fs : Fields) (slots : Slots) (f p : Tree) (both : PreparedExpr × PreparedExpr) → ArePrepared fs slots f p both
    → scan_type (row_type fs) slots f p ≡ Ok (type_view both.1.dtype)
both_typed fs slots f p both h =
    filter_bool (row_type fs) slots f p (type_view both.0.dtype) h.filter.typed h.boolean ∙ ap (on_side Projection) h.projection.typed
