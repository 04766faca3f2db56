-- What runs have in common with scans: without a limit they find what these do, and with one the first of their rows.
use Rattle.std.proofs.Common.{◌≡◌, refl, ap, sym, ◌∙◌, ℕ, ◌+◌, ◌-◌, nat_eq, suc, Bool, true, false, cond, not, ◌||◌, Option, Some, None, is_some, List, [], ◌∷◌, ◌++◌, map, length, take, arith}
use Rattle.std.specs.List.{list_any, flat_map, filter}
use Rattle.std.specs.Option.{option_or}
use Rattle.std.proofs.lemmas.Bool.{eqb-true}
use Rattle.std.proofs.lemmas.List.{length-map, map-append}
use Rattle.vx_dtype.specs.Types.{Ty}
use Rattle.vx_dtype.specs.Values.{Val}
use Rattle.vx_expr.specs.Trees.{Tree}
use Rattle.vx_semantics.specs.Pruning.{rules_out}
use Rattle.vx_semantics.specs.Tables.{Table, Zones, row_type, numbered_from}
use Rattle.vx_semantics.specs.Scans.{Phase, block_phases, phase_breaks, kept_of, skipped_blocks, phases_of}
use Rattle.vx_laws_scan.proofs.Keeping.{kept_rows_are_all}
use Rattle.vx_laws_topk.specs.TopPhases.{SlottedPhase, slotted_reads}
use Rattle.vx_scan.specs.Stores.{Read}
use Rattle.vx_laws_shell.specs.Answers.{Stop, damaged, broken, first_stop, unslotted, phases_in, rows_in, scanned_for, before_stop}
use Rattle.vx_laws_shell.specs.AnswerLaws.{RunsAreScans, LimitsGiveFirstRows, HonestLimitsGiveFirstRows}
use Rattle.vx_laws_shell.specs.Damage.{is_never_damaged}
use Rattle.vx_laws_shell.proofs.OrderedRuns.{take_both}
use Rattle.vx_laws_shell.proofs.Stops.{stop_append, unslotted_reads}

-- ---- phases

phases_unslotted : (t : Ty) (f p : Tree) (blocks : List (ℕ × List Val))
    → flat_map (phases_in t f p) blocks ≡ map unslotted (flat_map (block_phases t [] f p) blocks)
phases_unslotted t f p [] = refl
phases_unslotted t f p (block ∷ blocks) =
    ap (λ (ss : List SlottedPhase). phases_in t f p block ++ ss) (phases_unslotted t f p blocks)
    ∙ sym (map-append unslotted (block_phases t [] f p block) (flat_map (block_phases t [] f p) blocks))

never : (reads : List Read) → list_any is_never_damaged reads ≡ false
never [] = refl
never (read ∷ reads) = never reads

-- over a table in memory a run is stopped exactly where a phase breaks
stops_so : (t : Ty) (phases : List Phase) → is_some (first_stop is_never_damaged t (map unslotted phases)) ≡ list_any (phase_breaks t []) phases
stops_so t [] = refl
stops_so t (phase ∷ phases) =
    ap (λ (d : Bool). is_some (option_or (cond d (Some damaged) (cond (phase_breaks t [] phase) (Some broken) None)) (first_stop is_never_damaged t (map unslotted phases))))
    (never phase.reads)
    ∙ by-test (phase_breaks t [] phase) (stops_so t phases)
  where
    by-test : (b : Bool) → is_some (first_stop is_never_damaged t (map unslotted phases)) ≡ list_any (phase_breaks t []) phases
        → is_some (option_or (cond b (Some broken) None) (first_stop is_never_damaged t (map unslotted phases))) ≡ (b || list_any (phase_breaks t []) phases)
    by-test true h = refl
    by-test false h = h

-- ---- blocks

-- of two lists of one length as many items are left out of one as are kept of the other
kept_and_left : {X Y : Type 0} (test : ℕ → Bool) (n : ℕ) (xs : List X) (ys : List Y) → length xs ≡ length ys
    → length (filter (λ (b : ℕ × X). not (test b.0)) (numbered_from n xs)) + length (filter (λ (b : ℕ × Y). test b.0) (numbered_from n ys)) ≡ length xs
kept_and_left test n [] [] same = refl
kept_and_left test n [] (y ∷ ys) same = let no : ⊥ = omega (arith, same) in absurd no
kept_and_left test n (x ∷ xs) [] same = let no : ⊥ = omega (arith, same) in absurd no
kept_and_left {X} {Y} test n (x ∷ xs) (y ∷ ys) same = by-test (test n) (kept_and_left test (suc n) xs ys (omega (arith, same)))
  where
    kept : List (ℕ × X)
    kept = filter (λ (b : ℕ × X). not (test b.0)) (numbered_from (suc n) xs)

    left : List (ℕ × Y)
    left = filter (λ (b : ℕ × Y). test b.0) (numbered_from (suc n) ys)

    by-test : (b : Bool) → length kept + length left ≡ length xs
        → length (cond (not b) ((n, x) ∷ kept) kept) + length (cond b ((n, y) ∷ left) left) ≡ suc (length xs)
    by-test true h = omega (arith, h)
    by-test false h = omega (arith, h)

skipped_so : (table : Table) (zones : Zones) (f : Tree) → length table.blocks ≡ length zones.lengths
    → length table.blocks - length (kept_of table zones [] f) ≡ length (skipped_blocks zones [] f)
skipped_so table zones f same =
    omega (
      arith,
      kept_and_left (λ n. rules_out zones [] n f) 0 table.blocks zones.lengths same,
      length-map (filter (λ (b : ℕ × ℕ). rules_out zones [] b.0 f) (numbered_from 0 zones.lengths)) (λ (b : ℕ × ℕ). b.0),
    )

-- ---- rows

-- where nothing stops a run, all its blocks are before the stop
none_stopped : (t : Ty) (f p : Tree) (blocks : List (ℕ × List Val)) → first_stop is_never_damaged t (flat_map (phases_in t f p) blocks) ≡ None
    → before_stop is_never_damaged t f p blocks ≡ blocks
none_stopped t f p [] h = refl
none_stopped t f p (block ∷ blocks) h =
    by-stop (first_stop is_never_damaged t (phases_in t f p block)) (sym (stop_append is_never_damaged t (phases_in t f p block) (flat_map (phases_in t f p) blocks)) ∙ h)
    (none_stopped t f p blocks)
  where
    by-stop : (o : Option Stop) → option_or o (first_stop is_never_damaged t (flat_map (phases_in t f p) blocks)) ≡ None
        → (first_stop is_never_damaged t (flat_map (phases_in t f p) blocks) ≡ None → before_stop is_never_damaged t f p blocks ≡ blocks)
        → cond (is_some o) [] (block ∷ before_stop is_never_damaged t f p blocks) ≡ block ∷ blocks
    by-stop None k rest = ap (λ (bs : List (ℕ × List Val)). block ∷ bs) (rest k)
    by-stop (Some s) k rest = let no : ⊥ = cc (k) in absurd no

-- the first rows of the blocks that are scanned for them are the first of all
first_scanned : (t : Ty) (f p : Tree) (n : ℕ) (blocks : List (ℕ × List Val))
    → take n (flat_map (rows_in t f p) (scanned_for t f p n blocks)) ≡ take n (flat_map (rows_in t f p) blocks)
first_scanned t f p n [] = refl
first_scanned t f p n (block ∷ blocks) = by-test (nat_eq n 0) refl (first_scanned t f p (n - length (rows_in t f p block)) blocks)
  where
    own : List Val
    own = rows_in t f p block

    by-test : (b : Bool) → nat_eq n 0 ≡ b
        → take (n - length own) (flat_map (rows_in t f p) (scanned_for t f p (n - length own) blocks)) ≡ take (n - length own) (flat_map (rows_in t f p) blocks)
        → take n (flat_map (rows_in t f p) (cond b [] (block ∷ scanned_for t f p (n - length own) blocks))) ≡ take n (own ++ flat_map (rows_in t f p) blocks)
    by-test true e h =
        let none : n ≡ 0 = eqb-true n 0 e in
        let nothing : List Val = [] in
        ap (λ (k : ℕ). take k nothing) none ∙ sym (ap (λ (k : ℕ). take k (own ++ flat_map (rows_in t f p) blocks)) none)
    by-test false e h =
        take_both n own (flat_map (rows_in t f p) (scanned_for t f p (n - length own) blocks)) ∙ ap (λ (rows : List Val). take n own ++ rows) h
        ∙ sym (take_both n own (flat_map (rows_in t f p) blocks))

-- ---- the laws

pub runs_are_scans : RunsAreScans
runs_are_scans table zones f p same =
    let t = row_type table.columns in
    let kept = kept_of table zones [] f in
    let unslotted_so = phases_unslotted t f p kept in
    let phases = phases_of table zones [] f p in
    record {
      reads = ap slotted_reads unslotted_so ∙ unslotted_reads phases;
      skipped = skipped_so table zones f same;
      stopped = ap (λ (ss : List SlottedPhase). is_some (first_stop is_never_damaged t ss)) unslotted_so ∙ stops_so t phases;
      rows = λ h. ap (flat_map (rows_in t f p)) (none_stopped t f p kept h);
    }

pub limits_give_first_rows : LimitsGiveFirstRows
limits_give_first_rows table zones f p limit same h =
    let t = row_type table.columns in
    let kept = kept_of table zones [] f in
    ap (λ (bs : List (ℕ × List Val)). take limit (flat_map (rows_in t f p) bs)) (none_stopped t f p (scanned_for t f p limit kept) h)
    ∙ first_scanned t f p limit kept

pub honest_limits_give_first_rows : HonestLimitsGiveFirstRows
honest_limits_give_first_rows table zones f p limit honest h =
    let t = row_type table.columns in
    let kept = kept_of table zones [] f in
    ap (λ (bs : List (ℕ × List Val)). take limit (flat_map (rows_in t f p) bs)) (none_stopped t f p (scanned_for t f p limit kept) h)
    ∙ first_scanned t f p limit kept ∙ ap (take limit) (kept_rows_are_all zones table [] f p honest)
