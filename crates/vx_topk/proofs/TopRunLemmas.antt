-- Runs through the phases of first rows: through none, through those of a block, and through some before others.
use Rattle.std.proofs.Common.{◌≡◌, refl, ap, sym, ◌∙◌, Bool, true, false, cond, ◌||◌, Option, List, [], ◌∷◌, ◌++◌, map, Result, Ok, Err, append-nil, append_assoc}
use Rattle.std.specs.List.{list_any}
use Rattle.std.proofs.lemmas.Bool.{or_parts, or_from}
use Rattle.std.proofs.lemmas.List.Folds.{list_any-append}
use Rattle.vx_dtype.specs.Types.{Ty}
use Rattle.vx_semantics.specs.Meaning.{Slots}
use Rattle.vx_semantics.specs.Breaks.{Cause, by_sum, by_cast}
use Rattle.vx_semantics.specs.Scans.{Phase, phase_breaks, phase_breaks_by, phases_to_break, first_breaks_by, phase_reads}
use Rattle.vx_laws_topk.specs.TopPhases.{SlottedPhase, slotted_breaks, slotted_breaks_by, slotted_to_break, first_slotted_breaks_by, slotted_reads}
use Rattle.vx_scan.specs.Stores.{Read}
use Rattle.vx_scan.specs.BlockRuns.{Runs}
use Rattle.vx_scan.specs.declared.errors.ScanError.{ScanError}
use Rattle.vx_scan.specs.declared.errors.ScanError.TheVariants as errors
use Rattle.vx_scan.proofs.RunLemmas.{logged, by_end}
use Rattle.vx_topk.specs.TopRuns.{TopRuns}

-- a run ends in one of five ways: what each of them gives, every run gives
pub by_top_end : (t : Ty) (phases : List SlottedPhase) (before after : List Read) (failed : Option Read) (Gives : Result (Unit {0}) ScanError → Type 0)
    → ((u : Unit {0}) → TopRuns t phases before after failed (Ok u) → Gives (Ok u))
    → (TopRuns t phases before after failed (Err errors.Overflow) → Gives (Err errors.Overflow))
    → (TopRuns t phases before after failed (Err errors.BadCast) → Gives (Err errors.BadCast))
    → (TopRuns t phases before after failed (Err errors.StoreFault) → Gives (Err errors.StoreFault))
    → (TopRuns t phases before after failed (Err errors.NoMemory) → Gives (Err errors.NoMemory))
    → (result : Result (Unit {0}) ScanError) → TopRuns t phases before after failed result → Gives result
by_top_end t phases before after failed Gives ok sum cast fault memory (Ok u) h = ok u h
by_top_end t phases before after failed Gives ok sum cast fault memory (Err errors.Overflow) h = sum h
by_top_end t phases before after failed Gives ok sum cast fault memory (Err errors.BadCast) h = cast h
by_top_end t phases before after failed Gives ok sum cast fault memory (Err errors.StoreFault) h = fault h
by_top_end t phases before after failed Gives ok sum cast fault memory (Err errors.NoMemory) h = memory h
by_top_end t phases before after failed Gives ok sum cast fault memory (Err (errors.BadWire s)) h = absurd h
by_top_end t phases before after failed Gives ok sum cast fault memory (Err (errors.TooDeep s)) h = absurd h
by_top_end t phases before after failed Gives ok sum cast fault memory (Err (errors.TooManyNodes s)) h = absurd h
by_top_end t phases before after failed Gives ok sum cast fault memory (Err (errors.UnknownExpr s)) h = absurd h
by_top_end t phases before after failed Gives ok sum cast fault memory (Err (errors.BadMetadata s)) h = absurd h
by_top_end t phases before after failed Gives ok sum cast fault memory (Err (errors.WrongChildren s)) h = absurd h
by_top_end t phases before after failed Gives ok sum cast fault memory (Err (errors.NotStruct s)) h = absurd h
by_top_end t phases before after failed Gives ok sum cast fault memory (Err (errors.NullableSelect s)) h = absurd h
by_top_end t phases before after failed Gives ok sum cast fault memory (Err (errors.UnknownField s)) h = absurd h
by_top_end t phases before after failed Gives ok sum cast fault memory (Err (errors.DuplicateField s)) h = absurd h
by_top_end t phases before after failed Gives ok sum cast fault memory (Err (errors.TypeMismatch s)) h = absurd h
by_top_end t phases before after failed Gives ok sum cast fault memory (Err errors.FilterNotBool) h = absurd h

pub top_reads_append : (ps qs : List SlottedPhase) → slotted_reads (ps ++ qs) ≡ slotted_reads ps ++ slotted_reads qs
top_reads_append [] qs = refl
top_reads_append (p ∷ ps) qs =
    ap (λ (rs : List Read). p.phase.reads ++ rs) (top_reads_append ps qs) ∙ sym (append_assoc p.phase.reads (slotted_reads ps) (slotted_reads qs))

-- phases of which none breaks are run through before those that follow
on_phases : (t : Ty) (ps qs : List SlottedPhase) → list_any (slotted_breaks t) ps ≡ false → slotted_to_break t (ps ++ qs) ≡ ps ++ slotted_to_break t qs
on_phases t [] qs h = refl
on_phases t (p ∷ ps) qs h =
    let parts = or_parts (slotted_breaks t p) (list_any (slotted_breaks t) ps) h in
    ap (λ (b : Bool). p ∷ cond b [] (slotted_to_break t (ps ++ qs))) parts.0 ∙ ap (λ (rest : List SlottedPhase). p ∷ rest) (on_phases t ps qs parts.1)

on_first : (c : Cause) (t : Ty) (ps qs : List SlottedPhase) → list_any (slotted_breaks t) ps ≡ false → first_slotted_breaks_by c t (ps ++ qs) ≡ first_slotted_breaks_by c t qs
on_first c t [] qs h = refl
on_first c t (p ∷ ps) qs h =
    let parts = or_parts (slotted_breaks t p) (list_any (slotted_breaks t) ps) h in
    ap (λ (b : Bool). cond b (slotted_breaks_by c t p) (first_slotted_breaks_by c t (ps ++ qs))) parts.0 ∙ on_first c t ps qs parts.1

pub on_top_reads : (t : Ty) (ps qs : List SlottedPhase) → list_any (slotted_breaks t) ps ≡ false
    → slotted_reads (slotted_to_break t (ps ++ qs)) ≡ slotted_reads ps ++ slotted_reads (slotted_to_break t qs)
on_top_reads t ps qs h = ap slotted_reads (on_phases t ps qs h) ∙ top_reads_append ps (slotted_to_break t qs)

-- the first phase that breaks stays the first, whatever follows
more_first : (c : Cause) (t : Ty) (ps qs : List SlottedPhase) → first_slotted_breaks_by c t ps ≡ true
    → (slotted_to_break t (ps ++ qs) ≡ slotted_to_break t ps) × (first_slotted_breaks_by c t (ps ++ qs) ≡ true)
more_first c t [] qs h = absurd cc
more_first c t (p ∷ ps) qs h = by-test (slotted_breaks t p) h (more_first c t ps qs)
  where
    by-test : (b : Bool) → cond b (slotted_breaks_by c t p) (first_slotted_breaks_by c t ps) ≡ true
        → (first_slotted_breaks_by c t ps ≡ true → (slotted_to_break t (ps ++ qs) ≡ slotted_to_break t ps) × (first_slotted_breaks_by c t (ps ++ qs) ≡ true))
        → (p ∷ cond b [] (slotted_to_break t (ps ++ qs)) ≡ p ∷ cond b [] (slotted_to_break t ps)) × (cond b (slotted_breaks_by c t p) (first_slotted_breaks_by c t (ps ++ qs)) ≡ true)
    by-test true k r = (refl, k)
    by-test false k r = (ap (λ (rest : List SlottedPhase). p ∷ rest) (r k).0, (r k).1)

-- the reads up to the first phase that breaks are the first ones of those with more phases
more_reads : (t : Ty) (ps qs : List SlottedPhase) → (left : List Read) × (slotted_reads (slotted_to_break t (ps ++ qs)) ≡ slotted_reads (slotted_to_break t ps) ++ left)
more_reads t [] qs = (slotted_reads (slotted_to_break t qs), refl)
more_reads t (p ∷ ps) qs = by-test (slotted_breaks t p) (more_reads t ps qs)
  where
    own : List Read
    own = p.phase.reads

    by-test : (b : Bool) → ((left : List Read) × (slotted_reads (slotted_to_break t (ps ++ qs)) ≡ slotted_reads (slotted_to_break t ps) ++ left))
        → (left : List Read) × (own ++ slotted_reads (cond b [] (slotted_to_break t (ps ++ qs))) ≡ (own ++ slotted_reads (cond b [] (slotted_to_break t ps))) ++ left)
    by-test true r = ([], sym (append-nil (own ++ [])))
    by-test false r = (r.0, ap (λ (rs : List Read). own ++ rs) r.1 ∙ sym (append_assoc own (slotted_reads (slotted_to_break t ps)) r.0))

-- through no phases
pub top_run_nothing : (t : Ty) (log : List Read) (failed : Option Read) → TopRuns t [] log log failed (Ok tt)
top_run_nothing t log failed = (sym (append-nil log), refl)

-- through phases of which none breaks, and then on through others
pub top_run_on : (t : Ty) (ps qs : List SlottedPhase) (before middle after : List Read) (was failed : Option Read) (result : Result (Unit {0}) ScanError)
    → TopRuns t ps before middle was (Ok tt) → TopRuns t qs middle after failed result → TopRuns t (ps ++ qs) before after failed result
top_run_on t ps qs before middle after was failed result h =
    by_top_end t qs middle after failed (TopRuns t (ps ++ qs) before after failed)
    (λ u k. (
      logged before middle after (slotted_reads ps) (slotted_reads qs) h.0 k.0 ∙ ap (λ (rs : List Read). before ++ rs) (sym (top_reads_append ps qs)),
      list_any-append (slotted_breaks t) ps qs ∙ or_from (list_any (slotted_breaks t) ps) (list_any (slotted_breaks t) qs) h.1 k.1,
    ))
    (λ k. (broke k.0, on_first by_sum t ps qs h.1 ∙ k.1))
    (λ k. (broke k.0, on_first by_cast t ps qs h.1 ∙ k.1))
    (λ k. (
      k.0,
      slotted_reads ps ++ k.1,
      k.2,
      k.3,
      logged before middle after (slotted_reads ps) k.1 h.0 k.4,
      on_top_reads t ps qs h.1 ∙ ap (λ (rs : List Read). slotted_reads ps ++ rs) k.5 ∙ sym (append_assoc (slotted_reads ps) k.1 (k.0 ∷ k.2)),
    ))
    (λ k. (
      slotted_reads ps ++ k.0,
      k.1,
      logged before middle after (slotted_reads ps) k.0 h.0 k.2,
      on_top_reads t ps qs h.1 ∙ ap (λ (rs : List Read). slotted_reads ps ++ rs) k.3 ∙ sym (append_assoc (slotted_reads ps) k.0 k.1),
    ))
    result
  where
    broke : after ≡ middle ++ slotted_reads (slotted_to_break t qs) → after ≡ before ++ slotted_reads (slotted_to_break t (ps ++ qs))
    broke k =
        logged before middle after (slotted_reads ps) (slotted_reads (slotted_to_break t qs)) h.0 k
        ∙ ap (λ (rs : List Read). before ++ rs) (sym (on_top_reads t ps qs h.1))

-- a run that ended before its end, with more phases behind
abbrev StaysEnded : Ty → List SlottedPhase → List Read → List Read → Option Read → Result (Unit {0}) ScanError → Type 0
StaysEnded t phases before after failed (Ok u) = Unit {0}
StaysEnded t phases before after failed (Err e) = TopRuns t phases before after failed (Err e)

pub top_run_more : (t : Ty) (ps qs : List SlottedPhase) (before after : List Read) (failed : Option Read) (e : ScanError)
    → TopRuns t ps before after failed (Err e) → TopRuns t (ps ++ qs) before after failed (Err e)
top_run_more t ps qs before after failed e =
    by_top_end t ps before after failed (StaysEnded t (ps ++ qs) before after failed)
    (λ u k. tt)
    (λ k. broke by_sum k.0 k.1)
    (λ k. broke by_cast k.0 k.1)
    (λ k. (k.0, k.1, k.2 ++ more.0, k.3, k.4, more.1 ∙ ap (λ (rs : List Read). rs ++ more.0) k.5 ∙ append_assoc k.1 (k.0 ∷ k.2) more.0))
    (λ k. (k.0, k.1 ++ more.0, k.2, more.1 ∙ ap (λ (rs : List Read). rs ++ more.0) k.3 ∙ append_assoc k.0 k.1 more.0))
    (Err e)
  where
    more : (left : List Read) × (slotted_reads (slotted_to_break t (ps ++ qs)) ≡ slotted_reads (slotted_to_break t ps) ++ left)
    more = more_reads t ps qs

    broke : (c : Cause) → after ≡ before ++ slotted_reads (slotted_to_break t ps) → first_slotted_breaks_by c t ps ≡ true
        → (after ≡ before ++ slotted_reads (slotted_to_break t (ps ++ qs))) × (first_slotted_breaks_by c t (ps ++ qs) ≡ true)
    broke c k b =
        let same = more_first c t ps qs b in
        (k ∙ ap (λ (phases : List SlottedPhase). before ++ slotted_reads phases) (sym same.0), same.1)

-- where none breaks, a run to the end without memory for what follows has made the reads of all
pub top_run_cut : (t : Ty) (ps qs : List SlottedPhase) (before after : List Read) (was failed : Option Read) → TopRuns t ps before after was (Ok tt)
    → TopRuns t (ps ++ qs) before after failed (Err errors.NoMemory)
top_run_cut t ps qs before after was failed h = (slotted_reads ps, slotted_reads (slotted_to_break t qs), h.0, on_top_reads t ps qs h.1)

-- ---- the phases of a block, all with one bound in the slots

abbrev pub slotted : Slots → Phase → SlottedPhase
slotted slots phase = record { slots = slots; phase = phase }

slotted-reads : (slots : Slots) (ps : List Phase) → slotted_reads (map (slotted slots) ps) ≡ phase_reads ps
slotted-reads slots [] = refl
slotted-reads slots (p ∷ ps) = ap (λ (rs : List Read). p.reads ++ rs) (slotted-reads slots ps)

slotted-any : (t : Ty) (slots : Slots) (ps : List Phase) → list_any (slotted_breaks t) (map (slotted slots) ps) ≡ list_any (phase_breaks t slots) ps
slotted-any t slots [] = refl
slotted-any t slots (p ∷ ps) = ap (λ (b : Bool). phase_breaks t slots p || b) (slotted-any t slots ps)

slotted-to : (t : Ty) (slots : Slots) (ps : List Phase) → slotted_to_break t (map (slotted slots) ps) ≡ map (slotted slots) (phases_to_break t slots ps)
slotted-to t slots [] = refl
slotted-to t slots (p ∷ ps) = ap (λ (rest : List SlottedPhase). slotted slots p ∷ rest) (by-test (phase_breaks t slots p) (slotted-to t slots ps))
  where
    by-test : (b : Bool) → slotted_to_break t (map (slotted slots) ps) ≡ map (slotted slots) (phases_to_break t slots ps)
        → cond b [] (slotted_to_break t (map (slotted slots) ps)) ≡ map (slotted slots) (cond b [] (phases_to_break t slots ps))
    by-test true k = refl
    by-test false k = k

slotted-first : (c : Cause) (t : Ty) (slots : Slots) (ps : List Phase) → first_slotted_breaks_by c t (map (slotted slots) ps) ≡ first_breaks_by c t slots ps
slotted-first c t slots [] = refl
slotted-first c t slots (p ∷ ps) = ap (λ (b : Bool). cond (phase_breaks t slots p) (phase_breaks_by c t slots p) b) (slotted-first c t slots ps)

slotted-to-reads : (t : Ty) (slots : Slots) (ps : List Phase) → slotted_reads (slotted_to_break t (map (slotted slots) ps)) ≡ phase_reads (phases_to_break t slots ps)
slotted-to-reads t slots ps = ap slotted_reads (slotted-to t slots ps) ∙ slotted-reads slots (phases_to_break t slots ps)

pub top_runs : (t : Ty) (slots : Slots) (ps : List Phase) (before after : List Read) (failed : Option Read) (result : Result (Unit {0}) ScanError)
    → Runs t slots ps before after failed result → TopRuns t (map (slotted slots) ps) before after failed result
top_runs t slots ps before after failed =
    by_end t slots ps before after failed (TopRuns t (map (slotted slots) ps) before after failed)
    (λ u k. (k.0 ∙ ap (λ (rs : List Read). before ++ rs) (sym (slotted-reads slots ps)), slotted-any t slots ps ∙ k.1))
    (λ k. (k.0 ∙ ap (λ (rs : List Read). before ++ rs) (sym (slotted-to-reads t slots ps)), slotted-first by_sum t slots ps ∙ k.1))
    (λ k. (k.0 ∙ ap (λ (rs : List Read). before ++ rs) (sym (slotted-to-reads t slots ps)), slotted-first by_cast t slots ps ∙ k.1))
    (λ k. (k.0, k.1, k.2, k.3, k.4, slotted-to-reads t slots ps ∙ k.5))
    (λ k. (k.0, k.1, k.2, slotted-to-reads t slots ps ∙ k.3))
