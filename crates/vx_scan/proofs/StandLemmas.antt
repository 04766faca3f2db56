-- How a scan stands after each block, and how it ends.
use Rattle.std.proofs.Common.{◌≡◌, refl, ap, ◌∙◌, sym, ℕ, zero, suc, ◌+◌, ◌<◌, Bool, true, false, List, [], ◌∷◌, ◌++◌, map, length, get_or, Result, Ok, Err, arith, subst, inl, inr}
use Rattle.vx_dtype.specs.TypeViews.{type_view}
use Rattle.vx_dtype.specs.Types.{Bytes, Ty}
use Rattle.vx_dtype.specs.Values.{Val}
use Rattle.vx_expr.specs.Trees.{Tree}
use Rattle.vx_semantics.specs.Meaning.{Slots}
use Rattle.vx_semantics.specs.Pruning.{rules_out}
use Rattle.vx_semantics.specs.Slots.{slots_fit}
use Rattle.vx_semantics.specs.Typing.{typed_of}
use Rattle.vx_semantics.specs.Tables.{Zones, row_type, numbered_from}
use Rattle.vx_wire.specs.declared.encodings.ExprEncoding.{ExprEncoding}
use Rattle.vx_block_pruning.specs.BlocksRuledOut.{blocks_ruled_out}
use Rattle.vx_scan.specs.ErrorKinds.{kind_of}
use Rattle.vx_scan.specs.Stores.{StoreSeen, WhereTold, AgreesWith}
use Rattle.vx_scan.specs.Texts.{SpellsTree, IsTextRefused, AreRefused}
use Rattle.vx_scan.specs.Scanning.{IsScanOf, IsUnspelled, IsReport}
use Rattle.vx_scan.specs.Reports.{Report}
use Rattle.vx_scan.specs.BlockRuns.{RunsBlock}
use Rattle.vx_scan.specs.Runs.{IsScannedTo}
use Rattle.vx_scan.specs.Opening.{Decodes, IsPreparedScan}
use Rattle.vx_scan.specs.Steps.{IsRuledScan, Finding, TakesTurn, StandsAt}
use Rattle.vx_scan.specs.declared.errors.Side.TheVariants.{Filter, Projection}
use Rattle.vx_scan.specs.declared.errors.ScanError.{ScanError}
use Rattle.vx_scan.specs.declared.errors.ScanError.TheVariants as errors
use Rattle.vx_scan.specs.declared.preparing.PreparedScan.{PreparedScan}
use Rattle.vx_scan.proofs.KindLemmas.{text_refused_so}
use Rattle.vx_scan.proofs.PrepareLemmas.{scan_typed, checked_parts}
use Rattle.vx_scan.proofs.ScanLemmas.{scan_skips, scan_keeps, scan_report, scan_stops, scan_stops_between}

-- what is known of a store is known of it in each state
pub prepared_moved : (a b : StoreSeen) (slots : Slots) (f p : Tree) (scan : PreparedScan) → b.zones ≡ a.zones → IsPreparedScan a.zones slots f p scan → IsPreparedScan b.zones slots f p scan
prepared_moved a b slots f p scan e h = subst (λ (z : Zones). IsPreparedScan z slots f p scan) (sym e) h

-- whether a block is ruled out stands at its place
length_flags : (p : ℕ → Bool) (n : ℕ) (xs : List ℕ) → length (map (λ (b : ℕ × ℕ). p b.0) (numbered_from n xs)) ≡ length xs
length_flags p n [] = refl
length_flags p n (x ∷ xs) = ap suc (length_flags p (suc n) xs)

flag_from : (p : ℕ → Bool) (n : ℕ) (xs : List ℕ) (i : ℕ) (d : Bool) → i < length xs → get_or (map (λ (b : ℕ × ℕ). p b.0) (numbered_from n xs)) i d ≡ p (n + i)
flag_from p n [] i d h = let no : ⊥ = omega arith in absurd no
flag_from p n (x ∷ xs) zero d h = let e : n ≡ n + 0 = omega arith in ap p e
flag_from p n (x ∷ xs) (suc i) d h = let e : suc n + i ≡ n + suc i = omega arith in flag_from p (suc n) xs i d (omega arith) ∙ ap p e

pub flags_long : (zones : Zones) (slots : Slots) (f p : Tree) (scan : PreparedScan) (flags : List Bool) → IsRuledScan zones slots f p scan flags → length flags ≡ length zones.lengths
flags_long zones slots f p scan flags h = ap length h.ruled_out ∙ length_flags (λ n. rules_out zones slots n f) 0 zones.lengths

pub flag_is : (zones : Zones) (slots : Slots) (f p : Tree) (scan : PreparedScan) (flags : List Bool) (i : ℕ) (flag d : Bool) → IsRuledScan zones slots f p scan flags → i < length zones.lengths → flag ≡ get_or flags i d → rules_out zones slots i f ≡ flag
flag_is zones slots f p scan flags i flag d h l e =
    let place : 0 + i ≡ i = omega arith in
    sym (
    e
    ∙ ap (λ (all : List Bool). get_or all i d) h.ruled_out
    ∙ flag_from (λ n. rules_out zones slots n f) 0 zones.lengths i d l
    ∙ ap (λ (n : ℕ). rules_out zones slots n f) place)

-- a scan that is ready, and what is ruled out of the blocks of a store
pub ruled_here : (slots : Slots) (f p : Tree) (scan : PreparedScan) (seen : StoreSeen) (zones again : Zones) (flags given : List Bool) → zones ≡ seen.zones → again ≡ seen.zones
    → IsPreparedScan zones slots f p scan → flags ≡ given → given ≡ blocks_ruled_out again slots f → IsRuledScan seen.zones slots f p scan flags
ruled_here slots f p scan seen zones again flags given e k h same ruled = record {
  prepared = subst (λ (z : Zones). IsPreparedScan z slots f p scan) e h;
  ruled_out = same ∙ ruled ∙ ap (λ (z : Zones). blocks_ruled_out z slots f) k;
}

-- the filter of a scan that is ready is typed, and its slots fit
pub filter_checked : (slots : Slots) (f p : Tree) (scan : PreparedScan) (seen : StoreSeen) (zones again : Zones) → zones ≡ seen.zones → again ≡ seen.zones
    → IsPreparedScan zones slots f p scan → ((u : Ty) × (typed_of (row_type again.columns) f ≡ Ok u)) × (slots_fit slots f ≡ true)
filter_checked slots f p scan seen zones again e k h =
    let here : IsPreparedScan again slots f p scan = subst (λ (z : Zones). IsPreparedScan z slots f p scan) (e ∙ sym k) h in
    let parts = checked_parts (row_type again.columns) slots f (type_view scan.filter.dtype) here.filter.typed in
    ((type_view scan.filter.dtype, parts.0), parts.1)

-- a block's turn before which there was no memory
pub turn_uncounted : (out : Bool) (slots : Slots) (f p : Tree) (i : ℕ) (seen : StoreSeen) (was now : Finding) → TakesTurn out slots f p i seen seen was now (Err errors.NoMemory)
turn_uncounted true slots f p i seen was now = (refl, refl)
turn_uncounted false slots f p i seen was now = inl (refl, refl)

-- the turn of a block that is skipped, and of one that is run
pub turn_skips : (out : Bool) (slots : Slots) (f p : Tree) (i : ℕ) (seen : StoreSeen) (was now : Finding) → out ≡ true
    → now.rows ≡ was.rows → now.kept ≡ was.kept → now.skipped ≡ was.skipped ++ (i ∷ []) → TakesTurn out slots f p i seen seen was now (Ok tt)
turn_skips true slots f p i seen was now e rows kept skipped = (refl, rows, kept, skipped)
turn_skips false slots f p i seen was now e rows kept skipped = absurd cc

pub turn_runs : (out : Bool) (slots : Slots) (f p : Tree) (i : ℕ) (before after : StoreSeen) (was now : Finding) (result : Result (Unit {0}) ScanError) → out ≡ false
    → now.kept ≡ was.kept ++ (i ∷ []) → now.skipped ≡ was.skipped → RunsBlock slots f p i before after was.rows now.rows result → TakesTurn out slots f p i before after was now result
turn_runs true slots f p i before after was now result e kept skipped run = absurd cc
turn_runs false slots f p i before after was now (Ok u) e kept skipped run = (run, kept, skipped)
turn_runs false slots f p i before after was now (Err err) e kept skipped run = inr run

-- no memory between two blocks ends a scan
pub step_cut : (slots : Slots) (f p : Tree) (scan : PreparedScan) (i : ℕ) (start now : StoreSeen) (rows : List Val) (keeps skips : List ℕ) → IsPreparedScan start.zones slots f p scan → IsScannedTo slots f p i start now rows keeps skips
    → IsScanOf slots f p start now (Err errors.NoMemory)
step_cut slots f p scan i start now rows keeps skips h s =
    inr (scan_stops_between slots f p i start now rows keeps skips (type_view scan.projection.dtype) (scan_typed start.zones slots f p scan h) s)

-- and behind a block's turn before it ran
turn_cut : (slots : Slots) (f p : Tree) (scan : PreparedScan) (i : ℕ) (start middle after : StoreSeen) (was : Finding) (e : ScanError) → IsPreparedScan start.zones slots f p scan
    → IsScannedTo slots f p i start middle was.rows was.kept was.skipped → after ≡ middle → e ≡ errors.NoMemory → IsScanOf slots f p start after (Err e)
turn_cut slots f p scan i start middle after was e h s same why =
    subst (λ (d : ScanError). IsScanOf slots f p start after (Err d)) (sym why)
    (subst (λ (seen : StoreSeen). IsScanOf slots f p start seen (Err errors.NoMemory)) (sym same)
    (step_cut slots f p scan i start middle was.rows was.kept was.skipped h s))

-- where a scan stands after a block's turn
pub turn_stands : (out : Bool) (slots : Slots) (f p : Tree) (scan : PreparedScan) (i : ℕ) (start middle after : StoreSeen) (was now : Finding) (result : Result (Unit {0}) ScanError)
    → IsPreparedScan start.zones slots f p scan → WhereTold start.held (AgreesWith start.zones) → i < length start.zones.lengths → rules_out start.zones slots i f ≡ out
    → TakesTurn out slots f p i middle after was now result → IsScannedTo slots f p i start middle was.rows was.kept was.skipped
    → StandsAt slots f p (i + 1) start after now.rows now.kept now.skipped result
turn_stands true slots f p scan i start middle after was now (Ok u) h agrees l out t s =
    subst (λ (seen : StoreSeen). IsScannedTo slots f p (i + 1) start seen now.rows now.kept now.skipped) (sym t.0)
    (subst (λ (rows : List Val). IsScannedTo slots f p (i + 1) start middle rows now.kept now.skipped) (sym t.1)
    (subst (λ (keeps : List ℕ). IsScannedTo slots f p (i + 1) start middle was.rows keeps now.skipped) (sym t.2)
    (scan_skips slots f p i start middle was.rows was.kept was.skipped now.skipped agrees l out t.3 s)))
turn_stands true slots f p scan i start middle after was now (Err e) h agrees l out t s = turn_cut slots f p scan i start middle after was e h s t.0 t.1
turn_stands false slots f p scan i start middle after was now (Ok u) h agrees l out t s =
    subst (λ (skips : List ℕ). IsScannedTo slots f p (i + 1) start after now.rows now.kept skips) (sym t.2)
    (scan_keeps slots f p i start middle after was.rows now.rows was.kept was.skipped now.kept l out t.1 s t.0)
turn_stands false slots f p scan i start middle after was now (Err e) h agrees l out (inl t) s = turn_cut slots f p scan i start middle after was e h s t.0 t.1
turn_stands false slots f p scan i start middle after was now (Err e) h agrees l out (inr t) s =
    scan_stops slots f p i start middle after was.rows now.rows was.kept was.skipped (type_view scan.projection.dtype) e (scan_typed start.zones slots f p scan h) l out s t

-- the report of a scan that is at its end
pub report_of : (slots : Slots) (f p : Tree) (scan : PreparedScan) (before after : StoreSeen) (rows : List Val) (keeps skips : List ℕ) (report : Report) → IsPreparedScan before.zones slots f p scan → WhereTold before.held (AgreesWith before.zones)
    → IsScannedTo slots f p (length before.zones.lengths) before after rows keeps skips → report.ty ≡ type_view scan.projection.dtype → report.rows ≡ rows → report.kept ≡ keeps → report.skipped ≡ skips
    → report.filter_columns ≡ scan.filter.columns → report.projection_columns ≡ scan.projection.columns → IsReport slots f p before after report
report_of slots f p scan before after rows keeps skips report h agrees s ty values kept skipped asked projected =
    scan_report slots f p before after rows keeps skips report agrees s (scan_typed before.zones slots f p scan h ∙ ap (λ (u : Ty). Ok u) (sym ty)) values kept skipped
    (asked ∙ h.filter.columns) (projected ∙ h.projection.columns)

-- texts that are refused
pub filter_unspelled : (holds : ExprEncoding → Bool) (ft pt : Bytes) (seen : StoreSeen) (e : ScanError) → Decodes holds Filter ft (Err e)
    → IsUnspelled holds ft pt seen seen (Err e)
filter_unspelled holds ft pt seen e h =
    (refl, text_refused_so (kind_of e) (IsTextRefused holds Filter ft e) (AreRefused holds ft pt e) (λ r. inl r) h)

pub projection_unspelled : (holds : ExprEncoding → Bool) (ft pt : Bytes) (f : Tree) (seen : StoreSeen) (e : ScanError) → SpellsTree holds ft f
    → Decodes holds Projection pt (Err e) → IsUnspelled holds ft pt seen seen (Err e)
projection_unspelled holds ft pt f seen e k h =
    (refl, text_refused_so (kind_of e) (IsTextRefused holds Projection pt e) (AreRefused holds ft pt e) (λ r. inr ((f, k), r)) h)
