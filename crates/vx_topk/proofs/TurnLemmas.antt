-- The turn of a block: the bound that its rows come under, and what the turn is in each way that it goes.
use Rattle.std.proofs.Common.{◌≡◌, refl, ap, sym, ◌∙◌, subst, ℕ, suc, ◌+◌, Bool, true, false, ◌||◌, Option, Some, None, List, [], ◌∷◌, ◌++◌, map, Result, Ok, Err, arith, inl, inr}
use Rattle.std.specs.Prelude.{nat_eq}
use Rattle.std.specs.List.{AllByRecursion}
use Rattle.std.specs.Result.{IsErr, IsErrAnd}
use Rattle.vx_dtype.specs.Types.{Ty}
use Rattle.vx_dtype.specs.TypeViews.{type_view}
use Rattle.vx_dtype.specs.Values.{Val}
use Rattle.vx_dtype.specs.Fits.{val_fits}
use Rattle.vx_dtype.specs.Logic.{is_null_val}
use Rattle.vx_dtype.specs.declared.values.ScalarValue.{ScalarValue}
use Rattle.vx_column.specs.Columns.{seen_rows}
use Rattle.vx_expr.specs.Trees.{Tree}
use Rattle.vx_semantics.specs.Meaning.{Slots}
use Rattle.vx_semantics.specs.Slots.{slots_fit}
use Rattle.vx_semantics.specs.Pruning.{rules_out}
use Rattle.vx_semantics.specs.Tables.{Zones}
use Rattle.vx_laws_stats.proofs.Extremes.{known_part}
use Rattle.vx_laws_topk.specs.TopRows.{Keyed, TopAsk, bounded_filter, bound_before, bound_slots, top_skips}
use Rattle.vx_laws_topk.specs.TopPhases.{keyed_projection}
use Rattle.vx_laws_topk.specs.BoundLaws.{IsBoundOf, keyed_type, unpacked}
use Rattle.vx_laws_topk.proofs.BoundedFilters.{bound_slots_fit}
use Rattle.vx_laws_topk.proofs.Inserting.{OfType}
use Rattle.vx_laws_topk.proofs.Firsts.{bound-so, bound-of-type, bound-not_null}
use Rattle.vx_block_pruning.specs.PruningRules.{IsRuleOf}
use Rattle.vx_scan.specs.Stores.{StoreSeen}
use Rattle.vx_scan.specs.BlockRuns.{RunsBlock}
use Rattle.vx_scan.specs.Opening.{IsPreparedScan}
use Rattle.vx_scan.specs.declared.errors.ScanError.{ScanError}
use Rattle.vx_scan.specs.declared.errors.ScanError.TheVariants as errors
use Rattle.vx_topk.specs.FirstRows.{HoldFirst, IsAskedBy, start_of}
use Rattle.vx_topk.specs.Ready.{IsReady}
use Rattle.vx_topk.specs.RuledRuns.{AreTold, AreRuledBehind}
use Rattle.vx_topk.specs.TopRuns.{TakesTurn}
use Rattle.vx_topk.specs.declared.finding.Finding.{Finding}
use Rattle.vx_topk.specs.declared.first_rows.FirstRows.{FirstRows}
use Rattle.vx_topk.specs.declared.row_keys.RowPlace.{RowPlace}
use Rattle.vx_topk.specs.declared.ready.TopScan.{TopScan}
use Rattle.vx_topk.specs.declared.ruled_runs.RuledRun.{RuledRun}
use Rattle.vx_topk.proofs.HoldLemmas.{hold-next-block}
use Rattle.vx_topk.proofs.ReadyLemmas.{ready-with}

-- the error that comes out is the one that went in
pub the-error : {X E : Type 0} (r : Result X E) (e : E) → IsErr r → IsErrAnd r (λ x. x ≡ e) → r ≡ Err e
the-error (Ok x) e h k = let no : ⊥ = cc in absurd no
the-error (Err x) e h k = ap (λ y. Err y) k

-- the bound behind rows that were found is one of the key's type
pub bound-fine : (ask : TopAsk) (found : List Keyed) → AllByRecursion (OfType ask.key_type) found → IsBoundOf ask.key_type (bound_before ask found)
bound-fine ask found f = by-bound (bound_before ask found) refl
  where
    by-bound : (o : Option Val) → bound_before ask found ≡ o → IsBoundOf ask.key_type o
    by-bound None e = tt
    by-bound (Some b) e =
        let h = bound-so ask found b e in
        let known = bound-not_null ask found b h in
        (known_part (is_null_val b) (val_fits b ask.key_type) (bound-of-type ask ask.key_type found b h f) known, known)

module _ (zones : Zones) (ask : TopAsk) (v : Ty) (top : TopScan) (found : List Keyed) (next : RowPlace) (first : FirstRows) (ready : IsReady zones ask v top)
    (h : HoldFirst ask.key_type v found next first) where
  -- what says of any first rows that are held what the bound is says it of these
  pub bound-there : (slots : Slots) → IsAskedBy ask ask.key_type first
      → ((a : TopAsk) (w : Ty) (rs : List Keyed) (p : RowPlace) → IsAskedBy a (type_view top.key_dtype) first → HoldFirst (type_view top.key_dtype) w rs p first
      → slots ≡ bound_slots a (bound_before a rs))
      → slots ≡ bound_slots ask (bound_before ask found)
  bound-there slots a says =
      says ask v found next (record { ty = sym ready.key; count = a.count; descending = a.descending }) (subst (λ (t : Ty). HoldFirst t v found next first) (sym ready.key) h)

  pub fine : IsBoundOf ask.key_type (bound_before ask found)
  fine = bound-fine ask found h.keys

  -- the slots with the bound fit, and the scan is ready with them
  pub slots-fine : (slots : Slots) → slots ≡ bound_slots ask (bound_before ask found) → slots_fit slots (bounded_filter ask) ≡ true
  slots-fine slots e =
      ap (λ (s : Slots). slots_fit s (bounded_filter ask)) e ∙ bound_slots_fit ask (bound_before ask found) ready.can.typed.plain ready.can.filter_slots fine

  pub scan-fine : (slots : Slots) → slots ≡ bound_slots ask (bound_before ask found) → IsPreparedScan zones slots (bounded_filter ask) (keyed_projection ask) top.scan
  scan-fine slots e =
      subst (λ (s : Slots). IsPreparedScan zones s (bounded_filter ask) (keyed_projection ask) top.scan) (sym e)
      (ready-with zones ask v top.scan (bound_before ask found) ready.can fine ready.prepared)

  -- the rule is that of a store's zones
  pub rule-there : (told : Zones) → told ≡ zones → IsRuleOf told (bounded_filter ask) top.rule
  rule-there told z = subst (λ (x : Zones). IsRuleOf x (bounded_filter ask) top.rule) (sym z) ready.rule

  -- whether a block is skipped is what the rule says, and what is held then is what the rule says too
  pub skips-as-ruled : (i : ℕ) (told : Zones) (slots : Slots) (was now : RuledRun) (out b : Bool) → nat_eq ask.count 0 ≡ false → slots ≡ bound_slots ask (bound_before ask found) → told ≡ zones
      → AreRuledBehind ask zones found was
      → ((filter : Tree) → IsRuleOf told filter top.rule → slots_fit slots filter ≡ true → AreTold (λ n. rules_out told slots n filter) was
      → (out ≡ rules_out told slots i filter) × AreTold (λ n. rules_out told slots n filter) now)
      → out ≡ b → (top_skips ask zones found i ≡ b) × AreRuledBehind ask zones found now
  skips-as-ruled i told slots was now out b some e z held says is =
      let f = bounded_filter ask in
      let own : AreTold (λ (n : ℕ). rules_out told slots n f) was =
      subst (λ (x : Zones × Slots). AreTold (λ (n : ℕ). rules_out x.0 x.1 n f) was) (λ j. (sym z j, sym e j)) held in
      let said = says f (rule-there told z) (slots-fine slots e) own in (
        ap (λ (c : Bool). c || rules_out zones (bound_slots ask (bound_before ask found)) i f) some
            ∙ ap (λ (s : Slots). rules_out zones s i f) (sym e)
            ∙ ap (λ (x : Zones). rules_out x slots i f) (sym z)
            ∙ sym said.0 ∙ is,
        subst (λ (x : Zones × Slots). AreTold (λ (n : ℕ). rules_out x.0 x.1 n f) now) (λ j. (z j, e j)) said.1,
      )

pub hold-next : (k v : Ty) (found : List Keyed) (i : ℕ) (first : FirstRows) → HoldFirst k v found (start_of i) first → HoldFirst k v found (start_of (i + 1)) first
hold-next k v found i first h =
    let next : suc i ≡ i + 1 = omega arith in
    subst (λ (n : ℕ). HoldFirst k v found (start_of n) first) next (hold-next-block k v found (start_of i) first h)

-- a block that is skipped
pub turn-out : (ask : TopAsk) (v : Ty) (found : List Keyed) (i : ℕ) (seen : StoreSeen) (was now : Finding) (u : Unit {0}) → top_skips ask seen.zones found i ≡ true
    → HoldFirst ask.key_type v found (start_of i) was.first → now.first ≡ was.first → now.skipped.items ≡ was.skipped.items ++ i ∷ [] → AreRuledBehind ask seen.zones found now.ruled
    → TakesTurn ask v found i seen seen was now (Ok u)
turn-out ask v found i seen was now u out h same skipped ruled =
    inl (record {
      out = out;
      stays = refl;
      holds = subst (λ (first : FirstRows). HoldFirst ask.key_type v found (start_of (i + 1)) first) (sym same) (hold-next ask.key_type v found i was.first h);
      skipped = skipped;
      ruled = ruled;
    })

-- a block whose rows are put in
pub turn-in : (ask : TopAsk) (v : Ty) (found : List Keyed) (i : ℕ) (before after : StoreSeen) (was now : Finding) (u : Unit {0}) (slots : Slots) (t : Ty) (rows : List ScalarValue)
    → top_skips ask before.zones found i ≡ false → slots ≡ bound_slots ask (bound_before ask found) → t ≡ keyed_type ask.key_type v
    → RunsBlock slots (bounded_filter ask) (keyed_projection ask) i before after [] (seen_rows t rows) (Ok tt)
    → HoldFirst ask.key_type v (found ++ map unpacked (seen_rows (keyed_type ask.key_type v) rows)) (start_of (i + 1)) now.first → now.skipped.items ≡ was.skipped.items
    → ((says : ℕ → Bool) → AreTold says now.ruled) → TakesTurn ask v found i before after was now (Ok u)
turn-in ask v found i before after was now u slots t rows kept e ty ran h same none =
    let behind = found ++ map unpacked (seen_rows (keyed_type ask.key_type v) rows) in
    inr (record {
      kept = kept;
      given = seen_rows (keyed_type ask.key_type v) rows;
      ran = subst (λ (s : Slots). RunsBlock s (bounded_filter ask) (keyed_projection ask) i before after [] (seen_rows (keyed_type ask.key_type v) rows) (Ok tt)) e
          (subst (λ (w : Ty). RunsBlock slots (bounded_filter ask) (keyed_projection ask) i before after [] (seen_rows w rows) (Ok tt)) ty ran);
      holds = h;
      skipped = same;
      ruled = none (λ (n : ℕ). rules_out before.zones (bound_slots ask (bound_before ask behind)) n (bounded_filter ask));
    })

-- there was no memory before a block's run
pub turn-cut : (ask : TopAsk) (v : Ty) (found : List Keyed) (i : ℕ) (seen : StoreSeen) (was now : Finding) (e : ScanError) → e ≡ errors.NoMemory → TakesTurn ask v found i seen seen was now (Err e)
turn-cut ask v found i seen was now e h = inl (refl, h)

-- the run of a block ended before its end
pub turn-ends : (ask : TopAsk) (v : Ty) (found : List Keyed) (i : ℕ) (before after : StoreSeen) (was now : Finding) (slots : Slots) (e d : ScanError) (rows : List Val)
    → top_skips ask before.zones found i ≡ false → slots ≡ bound_slots ask (bound_before ask found) → d ≡ e
    → RunsBlock slots (bounded_filter ask) (keyed_projection ask) i before after [] rows (Err e) → TakesTurn ask v found i before after was now (Err d)
turn-ends ask v found i before after was now slots e d rows kept same why ran =
    subst (λ (x : ScanError). TakesTurn ask v found i before after was now (Err x)) (sym why)
    (inr (inl (record {
      kept = kept;
      given = rows;
      ran = subst (λ (s : Slots). RunsBlock s (bounded_filter ask) (keyed_projection ask) i before after [] rows (Err e)) same ran;
    })))

-- there was no memory behind it
pub turn-ends-behind : (ask : TopAsk) (v : Ty) (found : List Keyed) (i : ℕ) (before after : StoreSeen) (was now : Finding) (slots : Slots) (e : ScanError) (rows : List Val)
    → top_skips ask before.zones found i ≡ false → slots ≡ bound_slots ask (bound_before ask found) → e ≡ errors.NoMemory
    → RunsBlock slots (bounded_filter ask) (keyed_projection ask) i before after [] rows (Ok tt) → TakesTurn ask v found i before after was now (Err e)
turn-ends-behind ask v found i before after was now slots e rows kept same why ran =
    inr (inr (record {
      kept = kept;
      given = rows;
      ran = subst (λ (s : Slots). RunsBlock s (bounded_filter ask) (keyed_projection ask) i before after [] rows (Ok tt)) same ran;
      memory = why;
    }))
