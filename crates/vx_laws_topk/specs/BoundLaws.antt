-- The bounded filter and the packed key and projection: their types, their slots, what they mean, what they ask, and what they rule out. And how the
-- first rows, the phases and the skipped blocks grow by one row or one block.
use Rattle.std.specs.Prelude.{ℕ, ◌≡◌, Bool, true, false, cond, List, [], ◌∷◌, ◌++◌, map, take, codes, Option, Some, None, Ok}
use Rattle.std.specs.List.{list_any}
use Rattle.vx_dtype.specs.declared.CompareOperator.{CompareOperator}
use Rattle.vx_dtype.specs.declared.Nullability.{Nullability}
use Rattle.vx_dtype.specs.declared.Nullability.TheVariants.{NonNullable}
use Rattle.vx_dtype.specs.Types.{Bytes, Ty, bool_ty, struct_ty, Fields, no_fields, field}
use Rattle.vx_dtype.specs.TypeRules.{is_plain, is_bool_ty, field_type, no_name_twice}
use Rattle.vx_dtype.specs.Values.{Val, struct_val, no_members, member}
use Rattle.vx_dtype.specs.Fits.{val_fits}
use Rattle.vx_dtype.specs.Logic.{is_null_val}
use Rattle.vx_dtype.specs.Structs.{field_of}
use Rattle.vx_expr.specs.declared.Operator.{Operator}
use Rattle.vx_expr.specs.Trees.{Tree, Trees, get_item, binary, pack, dynamic}
use Rattle.vx_semantics.specs.Typing.{typed_of, union_of}
use Rattle.vx_semantics.specs.Meaning.{Slots, mean}
use Rattle.vx_semantics.specs.Asked.{asked_nodes}
use Rattle.vx_semantics.specs.Slots.{slots_fit}
use Rattle.vx_semantics.specs.Tables.{Zones, row_type}
use Rattle.vx_semantics.specs.Pruning.{rules_out}
use Rattle.vx_semantics.specs.Scans.{block_rows}
use Rattle.vx_laws_topk.specs.TopRows.{Keyed, TopAsk, stands_before, in_key_order, top, bounded_filter, bound_slots, keyed, block_keyed, found_over}
use Rattle.vx_laws_topk.specs.TopRows.{skipped_over}
use Rattle.vx_laws_topk.specs.TopLaws.{HaveKeys, has_no_slot}
use Rattle.vx_laws_topk.specs.TopPhases.{keyed_projection, phases_over}

-- what is asked of the rows of columns: in their type no name stands twice, the key is a column of a plain type, and filter and projection are strictly
-- typed, the filter as a boolean
pub record IsTypedAsk (columns : Fields) (ask : TopAsk) (filter_type projection_type : Ty) : Type 0 where
  pub names : no_name_twice (row_type columns) ≡ true
  pub column : field_type ask.key columns ≡ Some ask.key_type
  pub plain : is_plain ask.key_type ≡ true
  pub filter_typed : typed_of (row_type columns) ask.filter_expr ≡ Ok filter_type
  pub boolean : is_bool_ty filter_type ≡ true
  pub projection_typed : typed_of (row_type columns) ask.projection ≡ Ok projection_type

-- no bound, or one that is a value of the type and not null
abbrev pub IsBoundOf : Ty → Option Val → Type 0
IsBoundOf t None = Unit {0}
IsBoundOf t (Some bound) = (val_fits bound t ≡ true) × (is_null_val bound ≡ false)

-- the type of the packed key and projection, and a row as its value
abbrev pub keyed_type : Ty → Ty → Ty
keyed_type k p = struct_ty (field (codes "key") k (field (codes "value") p no_fields)) NonNullable

abbrev pub packed : Keyed → Val
packed r = struct_val (member (codes "key") r.key (member (codes "value") r.value no_members))

abbrev pub unpacked : Val → Keyed
unpacked v = record { key = field_of (codes "key") v; value = field_of (codes "value") v }

-- an expression that compares with no slot means the same with any slots, which fit it
abbrev pub SlotlessMeansTheSame : Type 0
SlotlessMeansTheSame = (t : Ty) (slots others : Slots) (row : Val) (e : Tree) → has_no_slot e ≡ true → mean t slots row e ≡ mean t others row e

abbrev pub SlotlessFitsAnySlots : Type 0
SlotlessFitsAnySlots = (slots : Slots) (e : Tree) → has_no_slot e ≡ true → slots_fit slots e ≡ true

-- and rules out the same blocks
abbrev pub SlotlessRulesOutTheSame : Type 0
SlotlessRulesOutTheSame =
    (zones : Zones) (slots others : Slots) (block : ℕ) (e : Tree) → has_no_slot e ≡ true → rules_out zones slots block e ≡ rules_out zones others block e

-- the bounded filter is a boolean, nullable where the filter or the key is
abbrev pub BoundedFilterIsBoolean : Type 0
BoundedFilterIsBoolean =
    (columns : Fields) (ask : TopAsk) (filter_type projection_type : Ty) → IsTypedAsk columns ask filter_type projection_type
    → typed_of (row_type columns) (bounded_filter ask) ≡ Ok (bool_ty (union_of filter_type ask.key_type))

-- the slots with a bound fit it
abbrev pub BoundSlotsFit : Type 0
BoundSlotsFit =
    (ask : TopAsk) (bound : Option Val) → is_plain ask.key_type ≡ true → has_no_slot ask.filter_expr ≡ true → IsBoundOf ask.key_type bound
    → slots_fit (bound_slots ask bound) (bounded_filter ask) ≡ true

-- what the filter alone rules out the bounded filter rules out, with any slots
abbrev pub BoundedFilterRulesOutMore : Type 0
BoundedFilterRulesOutMore =
    (zones : Zones) (slots : Slots) (block : ℕ) (ask : TopAsk) → has_no_slot ask.filter_expr ≡ true → rules_out zones [] block ask.filter_expr ≡ true
    → rules_out zones slots block (bounded_filter ask) ≡ true

-- the packed key and projection is a struct of the two, whatever the slots: its type, the slots that fit it, and its meaning
abbrev pub KeyedProjectionIsStruct : Type 0
KeyedProjectionIsStruct =
    (columns : Fields) (ask : TopAsk) (filter_type projection_type : Ty) → IsTypedAsk columns ask filter_type projection_type
    → typed_of (row_type columns) (keyed_projection ask) ≡ Ok (keyed_type ask.key_type projection_type)

abbrev pub KeyedProjectionFitsAnySlots : Type 0
KeyedProjectionFitsAnySlots = (slots : Slots) (ask : TopAsk) → has_no_slot ask.projection ≡ true → slots_fit slots (keyed_projection ask) ≡ true

abbrev pub KeyedProjectionMeansBoth : Type 0
KeyedProjectionMeansBoth =
    (ask : TopAsk) (t : Ty) (slots : Slots) (row : Val) → mean t slots row (keyed_projection ask) ≡ packed (keyed ask t slots row)

-- so the rows of a scan of a block by it are the rows with their keys, packed, and can be unpacked
abbrev pub BlockRowsArePacked : Type 0
BlockRowsArePacked =
    (ask : TopAsk) (t : Ty) (slots : Slots) (filter_expr : Tree) (rows : List Val)
    → block_rows t slots filter_expr (keyed_projection ask) rows ≡ map packed (block_keyed ask t slots filter_expr rows)

abbrev pub PackedIsUnpacked : Type 0
PackedIsUnpacked = (rows : List Keyed) → map unpacked (map packed rows) ≡ rows

-- a test that no node passes which stands in the bounded filter beside the filter, or in the packed key and projection beside the projection
pub record PassesNoFurther (test : Tree → Bool) : Type 0 where
  pub conjunction : (l r : Tree) → test (binary l Operator.And r) ≡ false
  pub comparison : (e : Tree) (op : CompareOperator) (k : ℕ) (t : Ty) (default : Bool) → test (dynamic e op k t default) ≡ false
  pub access : (f : Bytes) (e : Tree) → test (get_item f e) ≡ false
  pub packing : (names : List Bytes) (es : Trees) (n : Nullability) → test (pack names es n) ≡ false

-- such a node is asked by the bounded filter exactly where the filter asks one, and by the packed key and projection exactly where the projection does
abbrev pub BoundedFilterAsksTheSame : Type 0
BoundedFilterAsksTheSame =
    (test : Tree → Bool) (t : Ty) (ask : TopAsk) → PassesNoFurther test
    → list_any test (asked_nodes t (bounded_filter ask)) ≡ list_any test (asked_nodes t ask.filter_expr)

abbrev pub KeyedProjectionAsksTheSame : Type 0
KeyedProjectionAsksTheSame =
    (test : Tree → Bool) (t : Ty) (ask : TopAsk) → PassesNoFurther test
    → list_any test (asked_nodes t (keyed_projection ask)) ≡ list_any test (asked_nodes t ask.projection)

-- a row put behind the ordered rows that it doesn't stand before: it came after them all, so it goes behind those of its own key
abbrev pub put_behind_ties : Bool → Keyed → List Keyed → List Keyed
put_behind_ties descending r [] = r ∷ []
put_behind_ties descending r (s ∷ ss) = cond (stands_before descending r.key s.key) (r ∷ s ∷ ss) (s ∷ put_behind_ties descending r ss)

-- so a further row goes into the order, and among the first rows
abbrev pub FurtherRowGoesBehindTies : Type 0
FurtherRowGoesBehindTies =
    (t : Ty) (descending : Bool) (rows : List Keyed) (r : Keyed) → HaveKeys t (rows ++ r ∷ [])
    → in_key_order descending (rows ++ r ∷ []) ≡ put_behind_ties descending r (in_key_order descending rows)

abbrev pub FurtherRowAmongFirst : Type 0
FurtherRowAmongFirst =
    (t : Ty) (descending : Bool) (count : ℕ) (rows : List Keyed) (r : Keyed) → HaveKeys t (rows ++ r ∷ [])
    → top descending count (rows ++ r ∷ []) ≡ take count (put_behind_ties descending r (top descending count rows))

-- the rows found, the phases and the skipped blocks over further blocks follow those over the blocks before
abbrev pub FoundOverMore : Type 0
FoundOverMore =
    (ask : TopAsk) (t : Ty) (zones : Zones) (found : List Keyed) (bs cs : List (ℕ × List Val))
    → found_over ask t zones found (bs ++ cs) ≡ found_over ask t zones (found_over ask t zones found bs) cs

abbrev pub PhasesOverMore : Type 0
PhasesOverMore =
    (ask : TopAsk) (t : Ty) (zones : Zones) (found : List Keyed) (bs cs : List (ℕ × List Val))
    → phases_over ask t zones found (bs ++ cs) ≡ phases_over ask t zones found bs ++ phases_over ask t zones (found_over ask t zones found bs) cs

abbrev pub SkippedOverMore : Type 0
SkippedOverMore =
    (ask : TopAsk) (t : Ty) (zones : Zones) (found : List Keyed) (bs cs : List (ℕ × List Val))
    → skipped_over ask t zones found (bs ++ cs) ≡ skipped_over ask t zones found bs ++ skipped_over ask t zones (found_over ask t zones found bs) cs
