-- How phases stop a run: by the reads that were made of them, and by the first of them that breaks.
use Rattle.std.proofs.Common.{◌≡◌, refl, ap, sym, ◌∙◌, Bool, true, false, cond, ◌||◌, Option, Some, None, List, [], ◌∷◌, ◌++◌, map}
use Rattle.std.specs.List.{list_any}
use Rattle.std.specs.Option.{option_or}
use Rattle.std.proofs.lemmas.Bool.{or_parts}
use Rattle.std.proofs.lemmas.List.Folds.{list_any-append}
use Rattle.vx_dtype.specs.Types.{Ty}
use Rattle.vx_semantics.specs.Breaks.{Cause}
use Rattle.vx_semantics.specs.Scans.{Phase, phase_breaks, phase_breaks_by, phase_reads, phases_to_break, first_breaks_by}
use Rattle.vx_laws_topk.specs.TopPhases.{SlottedPhase, slotted_breaks, slotted_breaks_by, slotted_reads, slotted_to_break, first_slotted_breaks_by}
use Rattle.vx_scan.specs.Stores.{Read}
use Rattle.vx_laws_shell.specs.Answers.{Stop, damaged, broken, phase_stop, first_stop, unslotted}

-- of reads some of which aren't damaged, neither part is
pub undamaged_parts : (is_damaged : Read → Bool) (xs ys : List Read) → list_any is_damaged (xs ++ ys) ≡ false
    → (list_any is_damaged xs ≡ false) × (list_any is_damaged ys ≡ false)
undamaged_parts is_damaged xs ys h = or_parts (list_any is_damaged xs) (list_any is_damaged ys) (sym (list_any-append is_damaged xs ys) ∙ h)

-- phases before others stop a run first
or_either : {A : Type 0} (a b c : Option A) → option_or a (option_or b c) ≡ option_or (option_or a b) c
or_either None b c = refl
or_either (Some x) b c = refl

pub stop_append : (is_damaged : Read → Bool) (t : Ty) (ss us : List SlottedPhase)
    → first_stop is_damaged t (ss ++ us) ≡ option_or (first_stop is_damaged t ss) (first_stop is_damaged t us)
stop_append is_damaged t [] us = refl
stop_append is_damaged t (s ∷ ss) us =
    ap (option_or (phase_stop is_damaged t s)) (stop_append is_damaged t ss us)
    ∙ or_either (phase_stop is_damaged t s) (first_stop is_damaged t ss) (first_stop is_damaged t us)

-- how a phase stops a run, by its reads and by whether it breaks
abbrev stop_by : Bool → Bool → Option Stop
stop_by is_damaged breaks = cond is_damaged (Some damaged) (cond breaks (Some broken) None)

-- phases that were read whole, of which none breaks, stop nothing
pub stop_none : (is_damaged : Read → Bool) (t : Ty) (ss : List SlottedPhase) → list_any is_damaged (slotted_reads ss) ≡ false
    → list_any (slotted_breaks t) ss ≡ false → first_stop is_damaged t ss ≡ None
stop_none is_damaged t [] h k = refl
stop_none is_damaged t (s ∷ ss) h k =
    let clean = undamaged_parts is_damaged s.phase.reads (slotted_reads ss) h in
    let whole = or_parts (slotted_breaks t s) (list_any (slotted_breaks t) ss) k in
    ap (λ (b : Bool). option_or (stop_by b (slotted_breaks t s)) (first_stop is_damaged t ss)) clean.0
    ∙ ap (λ (b : Bool). option_or (stop_by false b) (first_stop is_damaged t ss)) whole.0
    ∙ stop_none is_damaged t ss clean.1 whole.1

-- phases that were read up to the end of the first that breaks stop a run as broken
pub stop_broken : (is_damaged : Read → Bool) (t : Ty) (cause : Cause) (ss : List SlottedPhase) → list_any is_damaged (slotted_reads (slotted_to_break t ss)) ≡ false
    → first_slotted_breaks_by cause t ss ≡ true → first_stop is_damaged t ss ≡ Some broken
stop_broken is_damaged t cause [] h k = let no : ⊥ = cc in absurd no
stop_broken is_damaged t cause (s ∷ ss) h k = by-test (slotted_breaks t s) h k (stop_broken is_damaged t cause ss)
  where
    by-test : (b : Bool) → list_any is_damaged (s.phase.reads ++ slotted_reads (cond b [] (slotted_to_break t ss))) ≡ false
        → cond b (slotted_breaks_by cause t s) (first_slotted_breaks_by cause t ss) ≡ true
        → (list_any is_damaged (slotted_reads (slotted_to_break t ss)) ≡ false → first_slotted_breaks_by cause t ss ≡ true → first_stop is_damaged t ss ≡ Some broken)
        → option_or (stop_by (list_any is_damaged s.phase.reads) b) (first_stop is_damaged t ss) ≡ Some broken
    by-test true h k rest =
        let clean = undamaged_parts is_damaged s.phase.reads [] h in
        ap (λ (d : Bool). option_or (stop_by d true) (first_stop is_damaged t ss)) clean.0
    by-test false h k rest =
        let clean = undamaged_parts is_damaged s.phase.reads (slotted_reads (slotted_to_break t ss)) h in
        ap (λ (d : Bool). option_or (stop_by d false) (first_stop is_damaged t ss)) clean.0 ∙ rest clean.1 k

-- a read behind others, none of which is damaged, stands behind the first ones of them too
behind_undamaged : (is_damaged : Read → Bool) (xs rest done left : List Read) (read : Read) → list_any is_damaged xs ≡ false → list_any is_damaged done ≡ false
    → is_damaged read ≡ true → xs ++ rest ≡ done ++ (read ∷ left)
    → (more : List Read) × (rest ≡ more ++ (read ∷ left)) × (list_any is_damaged more ≡ false)
behind_undamaged is_damaged [] rest done left read clean made h e = (done, e, made)
behind_undamaged is_damaged (x ∷ xs) rest [] left read clean made h e =
    let same : x ≡ read = cc in
    let no : ⊥ = (let own : is_damaged x ≡ false = (or_parts (is_damaged x) (list_any is_damaged xs) clean).0 in cc) in
    absurd no
behind_undamaged is_damaged (x ∷ xs) rest (d ∷ done) left read clean made h e =
    let tails : xs ++ rest ≡ done ++ (read ∷ left) = cc in
    behind_undamaged is_damaged xs rest done left read (or_parts (is_damaged x) (list_any is_damaged xs) clean).1
    (or_parts (is_damaged d) (list_any is_damaged done) made).1 h tails

not_behind : (done left : List Read) (read : Read) → [] ≡ done ++ (read ∷ left) → ⊥
not_behind [] left read e = cc
not_behind (d ∷ done) left read e = cc

-- phases that were read up to a damaged column, before which none broke, stop a run as damaged
pub stop_damaged : (is_damaged : Read → Bool) (t : Ty) (ss : List SlottedPhase) (done left : List Read) (read : Read)
    → slotted_reads (slotted_to_break t ss) ≡ done ++ (read ∷ left) → list_any is_damaged done ≡ false → is_damaged read ≡ true
    → first_stop is_damaged t ss ≡ Some damaged
stop_damaged is_damaged t [] done left read e made h = absurd (not_behind done left read e)
stop_damaged is_damaged t (s ∷ ss) done left read e made h =
    by-damage (list_any is_damaged s.phase.reads) refl (stop_damaged is_damaged t ss)
  where
    by-break : (b : Bool) (first : List Read) → slotted_reads (cond b [] (slotted_to_break t ss)) ≡ first ++ (read ∷ left)
        → (slotted_reads (slotted_to_break t ss) ≡ first ++ (read ∷ left) → first_stop is_damaged t ss ≡ Some damaged)
        → option_or (stop_by false b) (first_stop is_damaged t ss) ≡ Some damaged
    by-break true first k rest = absurd (not_behind first left read k)
    by-break false first k rest = rest k

    by-damage : (d : Bool) → list_any is_damaged s.phase.reads ≡ d
        → ((first more : List Read) (other : Read) → slotted_reads (slotted_to_break t ss) ≡ first ++ (other ∷ more) → list_any is_damaged first ≡ false
        → is_damaged other ≡ true → first_stop is_damaged t ss ≡ Some damaged)
        → option_or (stop_by d (slotted_breaks t s)) (first_stop is_damaged t ss) ≡ Some damaged
    by-damage true clean rest = refl
    by-damage false clean rest =
        let behind = behind_undamaged is_damaged s.phase.reads (slotted_reads (cond (slotted_breaks t s) [] (slotted_to_break t ss))) done left read clean made h e in
        by-break (slotted_breaks t s) behind.0 behind.1 (λ k. rest behind.0 left read k behind.2 h)

-- ---- phases without slots

pub unslotted_reads : (phases : List Phase) → slotted_reads (map unslotted phases) ≡ phase_reads phases
unslotted_reads [] = refl
unslotted_reads (phase ∷ phases) = ap (λ (rs : List Read). phase.reads ++ rs) (unslotted_reads phases)

unslotted_breaks : (t : Ty) (phases : List Phase) → list_any (slotted_breaks t) (map unslotted phases) ≡ list_any (phase_breaks t []) phases
unslotted_breaks t [] = refl
unslotted_breaks t (phase ∷ phases) = ap (λ (b : Bool). phase_breaks t [] phase || b) (unslotted_breaks t phases)

unslotted_to_break : (t : Ty) (phases : List Phase) → slotted_to_break t (map unslotted phases) ≡ map unslotted (phases_to_break t [] phases)
unslotted_to_break t [] = refl
unslotted_to_break t (phase ∷ phases) = by-test (phase_breaks t [] phase) (unslotted_to_break t phases)
  where
    by-test : (b : Bool) → slotted_to_break t (map unslotted phases) ≡ map unslotted (phases_to_break t [] phases)
        → unslotted phase ∷ cond b [] (slotted_to_break t (map unslotted phases)) ≡ map unslotted (phase ∷ cond b [] (phases_to_break t [] phases))
    by-test true rest = refl
    by-test false rest = ap (λ (ss : List SlottedPhase). unslotted phase ∷ ss) rest

unslotted_first : (t : Ty) (cause : Cause) (phases : List Phase) → first_slotted_breaks_by cause t (map unslotted phases) ≡ first_breaks_by cause t [] phases
unslotted_first t cause [] = refl
unslotted_first t cause (phase ∷ phases) = ap (cond (phase_breaks t [] phase) (phase_breaks_by cause t [] phase)) (unslotted_first t cause phases)

reads_to_break : (t : Ty) (phases : List Phase) → slotted_reads (slotted_to_break t (map unslotted phases)) ≡ phase_reads (phases_to_break t [] phases)
reads_to_break t phases = ap slotted_reads (unslotted_to_break t phases) ∙ unslotted_reads (phases_to_break t [] phases)

pub unslotted_none : (is_damaged : Read → Bool) (t : Ty) (phases : List Phase) → list_any is_damaged (phase_reads phases) ≡ false
    → list_any (phase_breaks t []) phases ≡ false → first_stop is_damaged t (map unslotted phases) ≡ None
unslotted_none is_damaged t phases h k =
    stop_none is_damaged t (map unslotted phases) (ap (list_any is_damaged) (unslotted_reads phases) ∙ h) (unslotted_breaks t phases ∙ k)

pub unslotted_broken : (is_damaged : Read → Bool) (t : Ty) (cause : Cause) (phases : List Phase)
    → list_any is_damaged (phase_reads (phases_to_break t [] phases)) ≡ false → first_breaks_by cause t [] phases ≡ true
    → first_stop is_damaged t (map unslotted phases) ≡ Some broken
unslotted_broken is_damaged t cause phases h k =
    stop_broken is_damaged t cause (map unslotted phases) (ap (list_any is_damaged) (reads_to_break t phases) ∙ h) (unslotted_first t cause phases ∙ k)

pub unslotted_damaged : (is_damaged : Read → Bool) (t : Ty) (phases : List Phase) (done left : List Read) (read : Read)
    → phase_reads (phases_to_break t [] phases) ≡ done ++ (read ∷ left) → list_any is_damaged done ≡ false → is_damaged read ≡ true
    → first_stop is_damaged t (map unslotted phases) ≡ Some damaged
unslotted_damaged is_damaged t phases done left read e made h =
    stop_damaged is_damaged t (map unslotted phases) done left read (reads_to_break t phases ∙ e) made h
