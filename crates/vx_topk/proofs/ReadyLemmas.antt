-- What is asked can be made ready: the bounded filter and the packed key and projection are typed, with any bound.
use Rattle.std.proofs.Common.{◌≡◌, refl, ap, sym, ◌∙◌, subst, ℕ, Bool, true, Option, Some, None, List, [], ◌∷◌, Result, Ok, Err}
use Rattle.vx_dtype.specs.Types.{Bytes, Ty, bool_ty}
use Rattle.vx_dtype.specs.TypeRules.{is_bool_ty, is_plain, field_type}
use Rattle.vx_dtype.specs.TypeViews.{type_view}
use Rattle.vx_dtype.specs.Values.{Val}
use Rattle.vx_expr.specs.Trees.{Tree}
use Rattle.vx_semantics.specs.Meaning.{Slots}
use Rattle.vx_semantics.specs.Slots.{slots_fit}
use Rattle.vx_semantics.specs.Typing.{Refusal, and_then, unless, type_mismatch, typed_of, union_of}
use Rattle.vx_semantics.specs.Tables.{Zones, row_type}
use Rattle.vx_eval.specs.Evaluating.{checked_type}
use Rattle.vx_laws.proofs.Inverting.{Ok-same}
use Rattle.vx_laws_topk.specs.TopRows.{TopAsk, Keyed, bounded_filter, bound_before, bound_slots}
use Rattle.vx_laws_topk.specs.TopPhases.{keyed_projection}
use Rattle.vx_laws_topk.specs.BoundLaws.{IsTypedAsk, IsBoundOf, keyed_type}
use Rattle.vx_laws_topk.proofs.BoundedFilters.{bounded_filter_is_boolean, bound_slots_fit, keyed_projection_is_struct, keyed_projection_fits}
use Rattle.vx_scan.specs.ErrorKinds.{ErrorKind, of_memory, of_text, of_types, of_break, of_read, kind_of, OnlyOfTypes}
use Rattle.vx_scan.specs.Scanning.{on_side, after_filter, scan_type}
use Rattle.vx_scan.specs.Opening.{IsPreparedScan, PreparesScan}
use Rattle.vx_scan.specs.declared.errors.Side.TheVariants.{Filter, Projection}
use Rattle.vx_scan.specs.declared.errors.ScanError.{ScanError}
use Rattle.vx_scan.specs.declared.errors.ScanError.TheVariants as errors
use Rattle.vx_scan.specs.declared.preparing.PreparedScan.{PreparedScan}
use Rattle.vx_scan.proofs.KindLemmas.{memory_alone}
use Rattle.vx_scan.proofs.PrepareLemmas.{checked_parts, other_slots}
use Rattle.vx_scan.specs.Stores.{StoreSeen}
use Rattle.vx_topk.specs.TopEnds.{IsTypedTop, top_ask}
use Rattle.vx_topk.specs.Ready.{AreTyped, CanBeReady, IsReady}
use Rattle.vx_topk.specs.declared.ready.TopScan.{TopScan}
use Rattle.vx_laws_topk.specs.TopLaws.{has_no_slot}
use Rattle.vx_laws_topk.proofs.SlotlessRules.{slotless_fits}

checked : (t : Ty) (slots : Slots) (e : Tree) (u : Ty) → typed_of t e ≡ Ok u → slots_fit slots e ≡ true → checked_type t slots e ≡ Ok u
checked t slots e u h k =
    ap (λ (r : Result Ty Refusal). and_then r (λ v. unless (slots_fit slots e) type_mismatch (Ok v))) h
    ∙ ap (λ (b : Bool). unless b type_mismatch (Ok u)) k

scan-typed : (t : Ty) (slots : Slots) (f p : Tree) (u w : Ty) → checked_type t slots f ≡ Ok u → is_bool_ty u ≡ true → checked_type t slots p ≡ Ok w → scan_type t slots f p ≡ Ok w
scan-typed t slots f p u w h b k = rw (h, k, b) refl

-- the two are typed as a scan with any bound in the slots
pub bounded-typed : (zones : Zones) (ask : TopAsk) (v : Ty) (bound : Option Val) → CanBeReady zones ask v → IsBoundOf ask.key_type bound
    → scan_type (row_type zones.columns) (bound_slots ask bound) (bounded_filter ask) (keyed_projection ask) ≡ Ok (keyed_type ask.key_type v)
bounded-typed zones ask v bound can fine =
    let t = row_type zones.columns in
    let slots = bound_slots ask bound in
    scan-typed t slots (bounded_filter ask) (keyed_projection ask) (bool_ty (union_of can.filter_type ask.key_type)) (keyed_type ask.key_type v)
    (checked t slots (bounded_filter ask) (bool_ty (union_of can.filter_type ask.key_type)) (bounded_filter_is_boolean zones.columns ask can.filter_type v can.typed)
    (bound_slots_fit ask bound can.typed.plain can.filter_slots fine))
    refl
    (checked t slots (keyed_projection ask) (keyed_type ask.key_type v) (keyed_projection_is_struct zones.columns ask can.filter_type v can.typed)
    (keyed_projection_fits slots ask can.projection_slots))

-- typed expressions are refused by want of memory alone
pub only-memory : (zones : Zones) (slots : Slots) (f p : Tree) (u : Ty) (e : ScanError) → scan_type (row_type zones.columns) slots f p ≡ Ok u → PreparesScan zones slots f p (Err e)
    → e ≡ errors.NoMemory
only-memory zones slots f p u e typed h = by-kind (kind_of e) refl h
  where
    by-kind : (k : ErrorKind) → kind_of e ≡ k → OnlyOfTypes k (scan_type (row_type zones.columns) slots f p ≡ Err e) → e ≡ errors.NoMemory
    by-kind of_memory same r = memory_alone e same
    by-kind of_text same r = absurd r
    by-kind of_types same r = let no : ⊥ = cc in absurd no
    by-kind (of_break cause) same r = absurd r
    by-kind of_read same r = absurd r

-- the rows of the scan that is ready are packed
pub packed-rows : (zones : Zones) (ask : TopAsk) (v : Ty) (scan : PreparedScan) → CanBeReady zones ask v → IsPreparedScan zones (None ∷ []) (bounded_filter ask) (keyed_projection ask) scan
    → type_view scan.projection.dtype ≡ keyed_type ask.key_type v
packed-rows zones ask v scan can h =
    let t = row_type zones.columns in
    Ok-same (typed_of t (keyed_projection ask)) (type_view scan.projection.dtype) (keyed_type ask.key_type v)
    (checked_parts t (None ∷ []) (keyed_projection ask) (type_view scan.projection.dtype) h.projection.typed).0
    (keyed_projection_is_struct zones.columns ask can.filter_type v can.typed)

-- it is ready with any bound
pub ready-with : (zones : Zones) (ask : TopAsk) (v : Ty) (scan : PreparedScan) (bound : Option Val) → CanBeReady zones ask v → IsBoundOf ask.key_type bound
    → IsPreparedScan zones (None ∷ []) (bounded_filter ask) (keyed_projection ask) scan → IsPreparedScan zones (bound_slots ask bound) (bounded_filter ask) (keyed_projection ask) scan
ready-with zones ask v scan bound can fine h =
    let slots = bound_slots ask bound in
    other_slots zones (None ∷ []) slots (bounded_filter ask) (keyed_projection ask) scan h (bound_slots_fit ask bound can.typed.plain can.filter_slots fine)
    (keyed_projection_fits slots ask can.projection_slots)

-- what is asked of a table and typed can be made ready
pub can-be-ready : (zones : Zones) (ask : TopAsk) (v : Ty) → IsTypedTop zones ask v → AreTyped zones ask.filter_expr ask.projection v → has_no_slot ask.filter_expr ≡ true
    → has_no_slot ask.projection ≡ true → CanBeReady zones ask v
can-be-ready zones ask v top both f p =
    record {
      filter_type = both.filter_type;
      typed = record {
        names = both.names;
        column = top.column;
        plain = top.plain;
        filter_typed = both.filter_typed;
        boolean = both.boolean;
        projection_typed = both.projection_typed;
      };
      filter_slots = f;
      projection_slots = p;
    }

-- and what is ready is typed
pub typed-top : (zones : Zones) (ask : TopAsk) (v : Ty) → CanBeReady zones ask v → IsTypedTop zones ask v
typed-top zones ask v can =
    let t = row_type zones.columns in
    record {
      column = can.typed.column;
      plain = can.typed.plain;
      typed = scan-typed t [] ask.filter_expr ask.projection can.filter_type v
          (checked t [] ask.filter_expr can.filter_type can.typed.filter_typed (slotless_fits [] ask.filter_expr can.filter_slots))
          can.typed.boolean
          (checked t [] ask.projection v can.typed.projection_typed (slotless_fits [] ask.projection can.projection_slots));
    }

-- what was told of a store's zones before
pub typed-here : (f p : Tree) (key : Bytes) (descending : Bool) (count : ℕ) (seen : StoreSeen) (zones again : Zones) (t v : Ty) → zones ≡ seen.zones → again ≡ seen.zones
    → field_type key zones.columns ≡ Some t → is_plain t ≡ true → AreTyped again f p v → IsTypedTop seen.zones (top_ask f p key descending count t) v
typed-here f p key descending count seen zones again t v z w column plain both =
    record {
      column = ap (λ (x : Zones). field_type key x.columns) (sym z) ∙ column;
      plain = plain;
      typed = ap (λ (x : Zones). scan_type (row_type x.columns) [] f p) (sym w) ∙ both.scanned;
    }

-- what is typed and made ready over a store's zones as they were told is ready over them
pub ready-there : (zones told : Zones) (ask : TopAsk) (v : Ty) (top : TopScan) → told ≡ zones → IsTypedTop zones ask v → AreTyped zones ask.filter_expr ask.projection v
    → has_no_slot ask.filter_expr ≡ true → has_no_slot ask.projection ≡ true → (CanBeReady told ask v → IsReady told ask v top) → IsReady zones ask v top
ready-there zones told ask v top z typed both f p makes =
    subst (λ (x : Zones). IsReady x ask v top) z (makes (subst (λ (x : Zones). CanBeReady x ask v) (sym z) (can-be-ready zones ask v typed both f p)))
