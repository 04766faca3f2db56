-- Runs through phases: through none, through one, and through some before others.
use Rattle.std.proofs.Common.{◌≡◌, refl, ap, sym, ◌∙◌, Bool, true, false, cond, ◌||◌, Option, Some, None, List, [], ◌∷◌, ◌++◌, Result, Ok, Err}
use Rattle.std.specs.Prelude.{is_some}
use Rattle.std.specs.List.{list_any}
use Rattle.std.proofs.lemmas.Bool.{or_parts, or_from, or_left, or_right}
use Rattle.std.proofs.lemmas.List.{append-nil, append_assoc}
use Rattle.std.proofs.lemmas.List.Folds.{list_any-append}
use Rattle.vx_dtype.specs.Types.{Ty}
use Rattle.vx_semantics.specs.Meaning.{Slots}
use Rattle.vx_semantics.specs.Breaks.{Cause, by_sum, by_cast, is_cause, breaks, breaks_by, break_of}
use Rattle.vx_semantics.specs.Asked.{asked_nodes, some_asked_breaks}
use Rattle.vx_semantics.specs.Scans.{Phase, phase_breaks, phase_breaks_by, phases_to_break, first_breaks_by, phase_reads}
use Rattle.vx_laws_scan.proofs.BlockReads.{reads_append}
use Rattle.vx_scan.specs.Stores.{Read}
use Rattle.vx_scan.specs.BlockRuns.{Runs}
use Rattle.vx_scan.specs.declared.errors.ScanError.{ScanError}
use Rattle.vx_scan.specs.declared.errors.ScanError.TheVariants as errors

-- a run ends in one of five ways: what each of them gives, every run gives
pub by_end : (t : Ty) (slots : Slots) (phases : List Phase) (before after : List Read) (failed : Option Read) (Gives : Result (Unit {0}) ScanError → Type 0)
    → ((u : Unit {0}) → Runs t slots phases before after failed (Ok u) → Gives (Ok u))
    → (Runs t slots phases before after failed (Err errors.Overflow) → Gives (Err errors.Overflow))
    → (Runs t slots phases before after failed (Err errors.BadCast) → Gives (Err errors.BadCast))
    → (Runs t slots phases before after failed (Err errors.StoreFault) → Gives (Err errors.StoreFault))
    → (Runs t slots phases before after failed (Err errors.NoMemory) → Gives (Err errors.NoMemory))
    → (result : Result (Unit {0}) ScanError) → Runs t slots phases before after failed result → Gives result
by_end t slots phases before after failed Gives ok sum cast fault memory (Ok u) h = ok u h
by_end t slots phases before after failed Gives ok sum cast fault memory (Err errors.Overflow) h = sum h
by_end t slots phases before after failed Gives ok sum cast fault memory (Err errors.BadCast) h = cast h
by_end t slots phases before after failed Gives ok sum cast fault memory (Err errors.StoreFault) h = fault h
by_end t slots phases before after failed Gives ok sum cast fault memory (Err errors.NoMemory) h = memory h
by_end t slots phases before after failed Gives ok sum cast fault memory (Err _) h = absurd h

-- the log after some reads and then others
pub logged : (before middle after xs ys : List Read) → middle ≡ before ++ xs → after ≡ middle ++ ys → after ≡ before ++ (xs ++ ys)
logged before middle after xs ys h k = k ∙ ap (λ (log : List Read). log ++ ys) h ∙ append_assoc before xs ys

-- phases of which none breaks are run through before those that follow
on_phases : (t : Ty) (slots : Slots) (ps qs : List Phase) → list_any (phase_breaks t slots) ps ≡ false → phases_to_break t slots (ps ++ qs) ≡ ps ++ phases_to_break t slots qs
on_phases t slots [] qs h = refl
on_phases t slots (p ∷ ps) qs h =
    let parts = or_parts (phase_breaks t slots p) (list_any (phase_breaks t slots) ps) h in
    ap (λ (b : Bool). p ∷ cond b [] (phases_to_break t slots (ps ++ qs))) parts.0 ∙ ap (λ (rest : List Phase). p ∷ rest) (on_phases t slots ps qs parts.1)

pub on_first : (c : Cause) (t : Ty) (slots : Slots) (ps qs : List Phase) → list_any (phase_breaks t slots) ps ≡ false → first_breaks_by c t slots (ps ++ qs) ≡ first_breaks_by c t slots qs
on_first c t slots [] qs h = refl
on_first c t slots (p ∷ ps) qs h =
    let parts = or_parts (phase_breaks t slots p) (list_any (phase_breaks t slots) ps) h in
    ap (λ (b : Bool). cond b (phase_breaks_by c t slots p) (first_breaks_by c t slots (ps ++ qs))) parts.0 ∙ on_first c t slots ps qs parts.1

pub on_reads : (t : Ty) (slots : Slots) (ps qs : List Phase) → list_any (phase_breaks t slots) ps ≡ false
    → phase_reads (phases_to_break t slots (ps ++ qs)) ≡ phase_reads ps ++ phase_reads (phases_to_break t slots qs)
on_reads t slots ps qs h = ap phase_reads (on_phases t slots ps qs h) ∙ reads_append ps (phases_to_break t slots qs)

-- the first phase that breaks stays the first, whatever follows
pub more_first : (c : Cause) (t : Ty) (slots : Slots) (ps qs : List Phase) → first_breaks_by c t slots ps ≡ true
    → (phases_to_break t slots (ps ++ qs) ≡ phases_to_break t slots ps) × (first_breaks_by c t slots (ps ++ qs) ≡ true)
more_first c t slots [] qs h = absurd cc
more_first c t slots (p ∷ ps) qs h = by-test (phase_breaks t slots p) h (more_first c t slots ps qs)
  where
    by-test : (b : Bool) → cond b (phase_breaks_by c t slots p) (first_breaks_by c t slots ps) ≡ true
        → (first_breaks_by c t slots ps ≡ true → (phases_to_break t slots (ps ++ qs) ≡ phases_to_break t slots ps) × (first_breaks_by c t slots (ps ++ qs) ≡ true))
        → (p ∷ cond b [] (phases_to_break t slots (ps ++ qs)) ≡ p ∷ cond b [] (phases_to_break t slots ps)) × (cond b (phase_breaks_by c t slots p) (first_breaks_by c t slots (ps ++ qs)) ≡ true)
    by-test true k r = (refl, k)
    by-test false k r = (ap (λ (rest : List Phase). p ∷ rest) (r k).0, (r k).1)

-- the reads up to the first phase that breaks are the first ones of those with more phases
pub more_reads : (t : Ty) (slots : Slots) (ps qs : List Phase) → (left : List Read) × (phase_reads (phases_to_break t slots (ps ++ qs)) ≡ phase_reads (phases_to_break t slots ps) ++ left)
more_reads t slots [] qs = (phase_reads (phases_to_break t slots qs), refl)
more_reads t slots (p ∷ ps) qs = by-test (phase_breaks t slots p) (more_reads t slots ps qs)
  where
    by-test : (b : Bool) → ((left : List Read) × (phase_reads (phases_to_break t slots (ps ++ qs)) ≡ phase_reads (phases_to_break t slots ps) ++ left))
        → (left : List Read) × (p.reads ++ phase_reads (cond b [] (phases_to_break t slots (ps ++ qs))) ≡ (p.reads ++ phase_reads (cond b [] (phases_to_break t slots ps))) ++ left)
    by-test true r = ([], sym (append-nil (p.reads ++ [])))
    by-test false r = (r.0, ap (λ (rs : List Read). p.reads ++ rs) r.1 ∙ sym (append_assoc p.reads (phase_reads (phases_to_break t slots ps)) r.0))

-- through no phases
pub run_nothing : (t : Ty) (slots : Slots) (log : List Read) (failed : Option Read) → Runs t slots [] log log failed (Ok tt)
run_nothing t slots log failed = (sym (append-nil log), refl)

-- through phases of which none breaks, and then on through others
pub run_on : (t : Ty) (slots : Slots) (ps qs : List Phase) (before middle after : List Read) (was failed : Option Read) (result : Result (Unit {0}) ScanError)
    → Runs t slots ps before middle was (Ok tt) → Runs t slots qs middle after failed result → Runs t slots (ps ++ qs) before after failed result
run_on t slots ps qs before middle after was failed result h =
    by_end t slots qs middle after failed (Runs t slots (ps ++ qs) before after failed)
    (λ u k. (
      logged before middle after (phase_reads ps) (phase_reads qs) h.0 k.0 ∙ ap (λ (rs : List Read). before ++ rs) (sym (reads_append ps qs)),
      list_any-append (phase_breaks t slots) ps qs ∙ or_from (list_any (phase_breaks t slots) ps) (list_any (phase_breaks t slots) qs) h.1 k.1,
    ))
    (λ k. (broke k.0, on_first by_sum t slots ps qs h.1 ∙ k.1))
    (λ k. (broke k.0, on_first by_cast t slots ps qs h.1 ∙ k.1))
    (λ k. (
      k.0,
      phase_reads ps ++ k.1,
      k.2,
      k.3,
      logged before middle after (phase_reads ps) k.1 h.0 k.4,
      on_reads t slots ps qs h.1 ∙ ap (λ (rs : List Read). phase_reads ps ++ rs) k.5 ∙ sym (append_assoc (phase_reads ps) k.1 (k.0 ∷ k.2)),
    ))
    (λ k. (
      phase_reads ps ++ k.0,
      k.1,
      logged before middle after (phase_reads ps) k.0 h.0 k.2,
      on_reads t slots ps qs h.1 ∙ ap (λ (rs : List Read). phase_reads ps ++ rs) k.3 ∙ sym (append_assoc (phase_reads ps) k.0 k.1),
    ))
    result
  where
    broke : after ≡ middle ++ phase_reads (phases_to_break t slots qs) → after ≡ before ++ phase_reads (phases_to_break t slots (ps ++ qs))
    broke k =
        logged before middle after (phase_reads ps) (phase_reads (phases_to_break t slots qs)) h.0 k
        ∙ ap (λ (rs : List Read). before ++ rs) (sym (on_reads t slots ps qs h.1))

-- a run that ended before its end, with more phases behind
abbrev StaysEnded : Ty → Slots → List Phase → List Read → List Read → Option Read → Result (Unit {0}) ScanError → Type 0
StaysEnded t slots phases before after failed (Ok u) = Unit {0}
StaysEnded t slots phases before after failed (Err e) = Runs t slots phases before after failed (Err e)

pub run_more : (t : Ty) (slots : Slots) (ps qs : List Phase) (before after : List Read) (failed : Option Read) (e : ScanError)
    → Runs t slots ps before after failed (Err e) → Runs t slots (ps ++ qs) before after failed (Err e)
run_more t slots ps qs before after failed e =
    by_end t slots ps before after failed (StaysEnded t slots (ps ++ qs) before after failed)
    (λ u k. tt)
    (λ k. broke by_sum k.0 k.1)
    (λ k. broke by_cast k.0 k.1)
    (λ k. (k.0, k.1, k.2 ++ more.0, k.3, k.4, more.1 ∙ ap (λ (rs : List Read). rs ++ more.0) k.5 ∙ append_assoc k.1 (k.0 ∷ k.2) more.0))
    (λ k. (k.0, k.1 ++ more.0, k.2, more.1 ∙ ap (λ (rs : List Read). rs ++ more.0) k.3 ∙ append_assoc k.0 k.1 more.0))
    (Err e)
  where
    more : (left : List Read) × (phase_reads (phases_to_break t slots (ps ++ qs)) ≡ phase_reads (phases_to_break t slots ps) ++ left)
    more = more_reads t slots ps qs

    broke : (c : Cause) → after ≡ before ++ phase_reads (phases_to_break t slots ps) → first_breaks_by c t slots ps ≡ true
        → (after ≡ before ++ phase_reads (phases_to_break t slots (ps ++ qs))) × (first_breaks_by c t slots (ps ++ qs) ≡ true)
    broke c k b =
        let same = more_first c t slots ps qs b in
        (k ∙ ap (λ (phases : List Phase). before ++ phase_reads phases) (sym same.0), same.1)

-- the reads of one phase, up to its end
one_reads : (t : Ty) (slots : Slots) (phase : Phase) → phase_reads (phases_to_break t slots (phase ∷ [])) ≡ phase.reads
one_reads t slots phase = by-test (phase_breaks t slots phase)
  where
    by-test : (b : Bool) → phase.reads ++ phase_reads (cond b [] []) ≡ phase.reads
    by-test true = append-nil phase.reads
    by-test false = append-nil phase.reads

-- what breaks by a cause breaks
cause_breaks : (c : Cause) (o : Option Cause) → is_cause c o ≡ true → is_some o ≡ true
cause_breaks by_sum None h = absurd cc
cause_breaks by_cast None h = absurd cc
cause_breaks by_sum (Some d) h = refl
cause_breaks by_cast (Some d) h = refl

any_so : {X : Type 0} (p q : X → Bool) → ((x : X) → p x ≡ true → q x ≡ true) → (xs : List X) → list_any p xs ≡ true → list_any q xs ≡ true
any_so p q e [] h = h
any_so p q e (x ∷ xs) h = by-test (p x) (e x) h (any_so p q e xs)
  where
    by-test : (b : Bool) → (b ≡ true → q x ≡ true) → (b || list_any p xs) ≡ true → (list_any p xs ≡ true → list_any q xs ≡ true) → (q x || list_any q xs) ≡ true
    by-test true d k r = or_left (q x) (list_any q xs) (d refl)
    by-test false d k r = or_right (q x) (list_any q xs) (r k)

pub breaks_by_cause : (c : Cause) (t : Ty) (slots : Slots) (phase : Phase) → phase_breaks_by c t slots phase ≡ true → phase_breaks t slots phase ≡ true
breaks_by_cause c t slots phase =
    any_so (λ row. list_any (breaks_by c t slots row) (asked_nodes t phase.expression)) (λ row. some_asked_breaks t slots row phase.expression)
    (λ row. any_so (breaks_by c t slots row) (breaks t slots row) (λ e. cause_breaks c (break_of t slots row e)) (asked_nodes t phase.expression))
    phase.rows

-- one phase that was read whole and doesn't break
pub phase_ran : (t : Ty) (slots : Slots) (phase : Phase) (before after : List Read) (failed : Option Read)
    → after ≡ before ++ phase.reads → phase_breaks t slots phase ≡ false → Runs t slots (phase ∷ []) before after failed (Ok tt)
phase_ran t slots phase before after failed h k =
    (h ∙ ap (λ (rs : List Read). before ++ rs) (sym (append-nil phase.reads)), or_from (phase_breaks t slots phase) false k refl)

-- and one that breaks, by a sum or by a cast
one_broke : (c : Cause) (t : Ty) (slots : Slots) (phase : Phase) (before after : List Read) → after ≡ before ++ phase.reads → phase_breaks_by c t slots phase ≡ true
    → (after ≡ before ++ phase_reads (phases_to_break t slots (phase ∷ []))) × (first_breaks_by c t slots (phase ∷ []) ≡ true)
one_broke c t slots phase before after h k = (
  h ∙ ap (λ (rs : List Read). before ++ rs) (sym (one_reads t slots phase)),
  ap (λ (b : Bool). cond b (phase_breaks_by c t slots phase) false) (breaks_by_cause c t slots phase k) ∙ k,
)

pub phase_broke_by_sum : (t : Ty) (slots : Slots) (phase : Phase) (before after : List Read) (failed : Option Read)
    → after ≡ before ++ phase.reads → phase_breaks_by by_sum t slots phase ≡ true → Runs t slots (phase ∷ []) before after failed (Err errors.Overflow)
phase_broke_by_sum t slots phase before after failed h k = one_broke by_sum t slots phase before after h k

pub phase_broke_by_cast : (t : Ty) (slots : Slots) (phase : Phase) (before after : List Read) (failed : Option Read)
    → after ≡ before ++ phase.reads → phase_breaks_by by_cast t slots phase ≡ true → Runs t slots (phase ∷ []) before after failed (Err errors.BadCast)
phase_broke_by_cast t slots phase before after failed h k = one_broke by_cast t slots phase before after h k

-- one phase of which a read failed, after those that were done
pub phase_read_failed : (t : Ty) (slots : Slots) (phase : Phase) (before after : List Read) (failed : Option Read) (read : Read) (done left : List Read)
    → failed ≡ Some read → after ≡ before ++ done → phase.reads ≡ done ++ (read ∷ left) → Runs t slots (phase ∷ []) before after failed (Err errors.StoreFault)
phase_read_failed t slots phase before after failed read done left h k e = (read, done, left, h, k, one_reads t slots phase ∙ e)

-- one phase of which some reads were done when there was no memory
pub phase_read_partly : (t : Ty) (slots : Slots) (phase : Phase) (before after : List Read) (failed : Option Read) (done left : List Read)
    → after ≡ before ++ done → phase.reads ≡ done ++ left → Runs t slots (phase ∷ []) before after failed (Err errors.NoMemory)
phase_read_partly t slots phase before after failed done left k e = (done, left, k, one_reads t slots phase ∙ e)
