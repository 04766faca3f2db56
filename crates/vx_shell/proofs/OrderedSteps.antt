-- How a run in the table's order goes on from block to block, and that it writes the answer.
use Rattle.std.proofs.Common.{◌≡◌, refl, ap, sym, ◌∙◌, ◌⊎◌, ℕ, ◌+◌, ◌-◌, ◌^◌, ◌<◌, ◌≤◌, nat_eq, min, suc, zero, Bool, true, false, cond, not, Option, Some, None, List, [], ◌∷◌, ◌++◌, length, take, drop, get_or, Result, Ok, Err, IfOk, inl, inr, arith, append-nil, subst}
use Rattle.std.specs.List.{list_any, filter, slice_get, sum}
use Rattle.std.proofs.lemmas.Bool.{and_parts, and_from}
use Rattle.std.proofs.lemmas.List.{take_all, length-take, length-map}
use Rattle.vx_column.specs.Columns.{seen, seen_rows, values_fit}
use Rattle.vx_dtype.specs.Fits.{fits}
use Rattle.vx_dtype.specs.RawViews.{raw_view}
use Rattle.vx_dtype.specs.Types.{Ty}
use Rattle.vx_dtype.specs.Values.{Val}
use Rattle.vx_dtype.specs.declared.values.ScalarValue.{ScalarValue}
use Rattle.vx_expr.specs.Trees.{Tree}
use Rattle.vx_io.specs.Ends.{Added, AddedPrefix}
use Rattle.vx_laws_shell.specs.Answers.{Answer, answer_found, first_of_rows, found_in_order, rows_in, scanned_for, scanned_of}
use Rattle.vx_laws_shell.specs.Lines.{row_lines}
use Rattle.vx_laws_shell.specs.OrderedRuns.{Progress, RunEnd, finished, without_value, without_column, without_room, without_output, StopsBy, CutsBy, more_rows, wanted_among, limit_behind}
use Rattle.vx_laws_shell.specs.OrderedRuns.{BlockRan, RunsOver, counts_by, WritesAnswer}
use Rattle.vx_laws_shell.specs.Running.{End}
use Rattle.vx_laws_shell.proofs.Adding.{added_nothing, added_none_of, added_some, added_both}
use Rattle.vx_laws_shell.proofs.OrderedRuns.{ordered_runs_write_answers}
use Rattle.vx_scan.specs.BlockRuns.{RunsBlock, RunsBlockOf, StopsBlock}
use Rattle.vx_scan.specs.ErrorKinds.{ErrorKind, of_memory, of_text, of_types, of_break, of_read, kind_of, OnlyOfTypes}
use Rattle.vx_scan.specs.Opening.{PreparesScan}
use Rattle.vx_scan.specs.Scanning.{scan_type}
use Rattle.vx_scan.specs.Steps.{IsRuledScan}
use Rattle.vx_scan.specs.Stores.{Read, StoreSeen, WhereTold, AgreesWith, IsSameStore}
use Rattle.vx_scan.specs.declared.errors.ScanError.{ScanError}
use Rattle.vx_scan.specs.declared.preparing.PreparedScan.{PreparedScan}
use Rattle.vx_scan.proofs.ColumnLemmas.{some_same}
use Rattle.vx_scan.proofs.ReadLemmas.{one_more_later}
use Rattle.vx_scan.proofs.RunLemmas.{logged}
use Rattle.vx_scan.proofs.ScanLemmas.{same_store, same_after, told_so, told_all, told_both}
use Rattle.vx_scan.proofs.StandLemmas.{flag_is}
use Rattle.vx_scan.proofs.StepLemmas.{block_there}
use Rattle.vx_semantics.specs.Breaks.{by_sum, by_cast}
use Rattle.vx_semantics.specs.Pruning.{rules_out}
use Rattle.vx_semantics.specs.Tables.{Table, Zones, row_type, numbered_from}
use Rattle.vx_semantics.specs.Scans.{block_rows}
use Rattle.vx_shell.specs.declared.answers.Found.{Found}
use Rattle.vx_shell.specs.declared.errors.Refusal.{Refusal}
use Rattle.vx_shell.specs.declared.errors.Refusal.TheVariants as refusals
use Rattle.vx_shell.specs.declared.rows_in_order.Written.{Written}
use Rattle.vx_shell.specs.Founds.{counts_found, CountsFault, IsWritten, FindsAnswer, FindsInOrder}
use Rattle.vx_shell.specs.OrderedSteps.{wants_none, progress_at, run_start, Goes, RunsKept, WritesWanted, TakesTurn, kept_from, HasComeTo, CountsFound, RunsToEnd}
use Rattle.vx_shell.specs.Refusals.{ComesInBlock, IsScanRefusal, CutsRows, EndsRun, IsEndOf}

-- ---- what a run keeps and makes

pub goes_nowhere : (store : StoreSeen) (output : End) → Goes store store output output
goes_nowhere store output =
    record {
      same = same_store store;
      made = [];
      grown = sym (append-nil store.log);
      lines = [];
      added = added_nothing output.bytes;
      later = omega arith;
    }

pub goes_on : (a b c : StoreSeen) (x y z : End) → Goes a b x y → Goes b c y z → Goes a c x z
goes_on a b c x y z h k =
    record {
      same = same_after a b c h.same k.same;
      made = h.made ++ k.made;
      grown = logged a.log b.log c.log h.made k.made h.grown k.grown;
      lines = h.lines ++ k.lines;
      added = added_both x.bytes y.bytes z.bytes h.lines k.lines h.added k.added;
      later = omega (arith, h.later, k.later);
    }

-- the run of a block reads, and writes nothing
pub block_goes : (f p : Tree) (block : ℕ) (a b : StoreSeen) (output : End) (rows : List Val) (result : Result (Unit {0}) ScanError)
    → RunsBlock [] f p block a b [] rows result → Goes a b output output
block_goes f p block a b output rows result h =
    record { same = h.same; made = h.made; grown = h.grown; lines = []; added = added_nothing output.bytes; later = omega arith }

-- and what is written of its rows behind it, whole or not
pub lines_go : (f p : Tree) (block : ℕ) (a b : StoreSeen) (before after : End) (rows : List Val) (result : Result (Unit {0}) ScanError) (lines : List ℕ)
    → RunsBlock [] f p block a b [] rows result → Added before.bytes after.bytes lines → before.faults ≤ after.faults → Goes a b before after
lines_go f p block a b before after rows result lines h added later =
    record { same = h.same; made = h.made; grown = h.grown; lines = lines; added = added; later = later }

-- ---- the refusals of a run

pub scan_end : (kind : ErrorKind) (refusal : Refusal) → IsScanRefusal kind refusal → (end : RunEnd) × EndsRun refusal end × StopsBy kind end
scan_end of_memory refusal h = (without_room, subst (λ (r : Refusal). EndsRun r without_room) (sym h) refl, refl)
scan_end (of_break by_sum) refusal h = (without_value, subst (λ (r : Refusal). EndsRun r without_value) (sym h) refl, refl)
scan_end (of_break by_cast) refusal h = (without_value, subst (λ (r : Refusal). EndsRun r without_value) (sym h) refl, refl)
scan_end of_read refusal h = (without_column, subst (λ (r : Refusal). EndsRun r without_column) (sym h) refl, refl)
scan_end of_text refusal h = absurd h
scan_end of_types refusal h = absurd h

pub cut_end : (refusal : Refusal) (before after : End) → CutsRows refusal before.faults after.faults
    → (end : RunEnd) × EndsRun refusal end × CutsBy end before after
cut_end refusals.NoMemory before after h = (without_room, refl, tt)
cut_end refusals.Unwritten before after h = (without_output, refl, h)
cut_end _ before after h = absurd h

-- the errors that come in a block
pub block_comes : (kind : ErrorKind) (f p : Tree) (block : ℕ) (a b : StoreSeen) (made : List Read) → StopsBlock kind f p block a b made → ComesInBlock kind
block_comes of_memory f p block a b made h = tt
block_comes of_text f p block a b made h = h
block_comes of_types f p block a b made h = h
block_comes (of_break cause) f p block a b made h = tt
block_comes of_read f p block a b made h = tt

-- faults that were counted
pub stop_counts : (A : Type 0) (kind : ErrorKind) (refusal : Refusal) (f p : Tree) (block : ℕ) (a b : StoreSeen) (x y : End) (made : List Read)
    → IsScanRefusal kind refusal → StopsBlock kind f p block a b made → CountsFault {A = A} (Err refusal) a b x y
stop_counts A of_memory refusal f p block a b x y made is h = subst (λ (r : Refusal). CountsFault {A = A} (Err r) a b x y) (sym is) tt
stop_counts A (of_break by_sum) refusal f p block a b x y made is h = subst (λ (r : Refusal). CountsFault {A = A} (Err r) a b x y) (sym is) tt
stop_counts A (of_break by_cast) refusal f p block a b x y made is h = subst (λ (r : Refusal). CountsFault {A = A} (Err r) a b x y) (sym is) tt
stop_counts A of_read refusal f p block a b x y made is h = subst (λ (r : Refusal). CountsFault {A = A} (Err r) a b x y) (sym is) h.0
stop_counts A of_text refusal f p block a b x y made is h = absurd is
stop_counts A of_types refusal f p block a b x y made is h = absurd is

pub cut_counts : (A : Type 0) (refusal : Refusal) (a b : StoreSeen) (x y : End) → CutsRows refusal x.faults y.faults → CountsFault {A = A} (Err refusal) a b x y
cut_counts A refusals.NoMemory a b x y h = tt
cut_counts A refusals.Unwritten a b x y h = h
cut_counts A _ a b x y h = absurd h

-- and those that were counted later were not counted before
pub counts_on : (A B : Type 0) (refusal : Refusal) (a b c : StoreSeen) (x y z : End) → a.faults ≤ b.faults → x.faults ≤ y.faults
    → CountsFault {A = A} (Err refusal) b c y z → CountsFault {A = B} (Err refusal) a c x z
counts_on A B refusals.StoreFault a b c x y z h k m = one_more_later a.faults b.faults c.faults h m
counts_on A B refusals.Unwritten a b c x y z h k m = one_more_later x.faults y.faults z.faults k m
counts_on A B refusals.Unread a b c x y z h k m = m
counts_on A B _ a b c x y z h k m = tt

-- ---- the blocks of a run

scanned_none : (t : Ty) (f p : Tree) (n : ℕ) (blocks : List (ℕ × List Val)) → nat_eq n 0 ≡ true → scanned_for t f p n blocks ≡ []
scanned_none t f p n [] h = refl
scanned_none t f p n (block ∷ blocks) h = ap (λ (b : Bool). cond b [] (block ∷ scanned_for t f p (n - length (rows_in t f p block)) blocks)) h

-- no more rows are wanted
scanned_full : (t : Ty) (f p : Tree) (limit : Option ℕ) (blocks : List (ℕ × List Val)) → wants_none limit ≡ true → scanned_of t f p limit blocks ≡ []
scanned_full t f p None blocks h = let no : ⊥ = cc in absurd no
scanned_full t f p (Some n) blocks h = scanned_none t f p n blocks h

-- some are
scanned_more : (t : Ty) (f p : Tree) (limit : Option ℕ) (block : ℕ × List Val) (blocks : List (ℕ × List Val)) → wants_none limit ≡ false
    → scanned_of t f p limit (block ∷ blocks) ≡ block ∷ scanned_of t f p (limit_behind limit (length (rows_in t f p block))) blocks
scanned_more t f p None block blocks h = refl
scanned_more t f p (Some n) block blocks h = ap (λ (b : Bool). cond b [] (block ∷ scanned_for t f p (n - length (rows_in t f p block)) blocks)) h

no_block : (t : Ty) (f p : Tree) (limit : Option ℕ) → scanned_of t f p limit [] ≡ []
no_block t f p None = refl
no_block t f p (Some n) = refl

-- ---- the turns of a block

pub turn_out : (f p : Tree) (block : ℕ) (was : Written) (store : StoreSeen) (output : End) (table : Table)
    → TakesTurn f p true block was store store output output (Ok was) table
turn_out f p block was store output table = λ rows there others last end h. h

pub turn_full : (f p : Tree) (block : ℕ) (was : Written) (store : StoreSeen) (output : End) (table : Table) → wants_none was.left ≡ true
    → TakesTurn f p false block was store store output output (Ok was) table
turn_full f p block was store output table full = λ rows there others last end h.
    let t = row_type table.columns in
    let same : scanned_of t f p was.left others ≡ scanned_of t f p was.left ((block, rows) ∷ others) =
    scanned_full t f p was.left others full ∙ sym (scanned_full t f p was.left ((block, rows) ∷ others) full) in
    subst (λ (blocks : List (ℕ × List Val)). RunsOver t f p was.left blocks (progress_at store output was) last end) same h

pub turn_stopped : (f p : Tree) (block : ℕ) (was : Written) (a b : StoreSeen) (output : End) (error : ScanError) (given : List Val) (refusal : Refusal) (table : Table)
    → wants_none was.left ≡ false → IsScanRefusal (kind_of error) refusal → RunsBlockOf [] f p block table a b [] given (Err error)
    → TakesTurn f p false block was a b output output (Err refusal) table
turn_stopped f p block was a b output error given refusal table some is run = λ rows there others.
    let t = row_type table.columns in
    let own : run.held_rows ≡ rows = some_same (sym run.there ∙ there) in
    let why = scan_end (kind_of error) refusal is in
    let before = progress_at a output was in
    let after = progress_at b output was in (
      why.0,
      why.1,
      subst (λ (blocks : List (ℕ × List Val)). RunsOver t f p was.left blocks before after why.0) (sym (scanned_more t f p was.left (block, rows) others some))
          (inl (record {
            error = error;
            ran = subst (λ (held : List Val). BlockRan t f p (block, held) before after (Err error)) own run.ran;
            stops = why.2;
            unwritten = refl;
          })),
    )

-- the rows that a block gave are what it gives
given_rows : (f p : Tree) (block : ℕ) (a b : StoreSeen) (given rows : List Val) (table : Table) (run : RunsBlockOf [] f p block table a b [] given (Ok tt))
    → slice_get table.blocks block ≡ Some rows → given ≡ rows_in (row_type table.columns) f p (block, rows)
given_rows f p block a b given rows table run there =
    run.adds ∙ ap (λ (held : List Val). block_rows (row_type table.columns) [] f p held) (some_same (sym run.there ∙ there))

pub turn_cut : (f p : Tree) (block : ℕ) (was : Written) (a b : StoreSeen) (x y : End) (given : List Val) (refusal : Refusal) (table : Table)
    → wants_none was.left ≡ false → AddedPrefix x.bytes y.bytes (row_lines (first_of_rows was.left given)) → CutsRows refusal x.faults y.faults
    → RunsBlockOf [] f p block table a b [] given (Ok tt) → TakesTurn f p false block was a b x y (Err refusal) table
turn_cut f p block was a b x y given refusal table some part cuts run = λ rows there others.
    let t = row_type table.columns in
    let own : run.held_rows ≡ rows = some_same (sym run.there ∙ there) in
    let why = cut_end refusal x y cuts in
    let before = progress_at a x was in
    let after = progress_at b y was in (
      why.0,
      why.1,
      subst (λ (blocks : List (ℕ × List Val)). RunsOver t f p was.left blocks before after why.0) (sym (scanned_more t f p was.left (block, rows) others some))
          (inr (inl (record {
            ran = subst (λ (held : List Val). BlockRan t f p (block, held) before after (Ok tt)) own run.ran;
            part = subst (λ (rs : List Val). AddedPrefix x.bytes y.bytes (row_lines (first_of_rows was.left rs))) (given_rows f p block a b given rows table run there) part;
            cuts = why.2;
          }))),
    )

wanted_length : (limit : Option ℕ) (rows : List Val) → length (first_of_rows limit rows) ≡ wanted_among limit (length rows)
wanted_length None rows = refl
wanted_length (Some n) rows = length-take n rows

pub turn_written : (f p : Tree) (block : ℕ) (was now : Written) (a b : StoreSeen) (x y : End) (given : List Val) (table : Table)
    → wants_none was.left ≡ false → Added x.bytes y.bytes (row_lines (first_of_rows was.left given)) → x.faults ≤ y.faults
    → now.rows ≡ more_rows was.rows (wanted_among was.left (length given)) → now.scanned ≡ was.scanned + 1
    → now.left ≡ limit_behind was.left (length given) → RunsBlockOf [] f p block table a b [] given (Ok tt)
    → TakesTurn f p false block was a b x y (Ok now) table
turn_written f p block was now a b x y given table some whole later counted one left run = λ rows there others last end h.
    let t = row_type table.columns in
    let own : run.held_rows ≡ rows = some_same (sym run.there ∙ there) in
    let gives : given ≡ rows_in t f p (block, rows) = given_rows f p block a b given rows table run there in
    let before = progress_at a x was in
    let after = progress_at b y now in
    let behind : now.left ≡ limit_behind was.left (length (rows_in t f p (block, rows))) = left ∙ ap (λ (rs : List Val). limit_behind was.left (length rs)) gives in
    subst (λ (blocks : List (ℕ × List Val)). RunsOver t f p was.left blocks before last end) (sym (scanned_more t f p was.left (block, rows) others some))
    (inr (inr (
      after,
      record {
        ran = subst (λ (held : List Val). BlockRan t f p (block, held) before after (Ok tt)) own run.ran;
        whole = subst (λ (rs : List Val). Added x.bytes y.bytes (row_lines (first_of_rows was.left rs))) gives whole;
        later = later;
        rows = counted ∙ ap (more_rows was.rows) (sym (wanted_length was.left given)) ∙ ap (λ (rs : List Val). more_rows was.rows (length (first_of_rows was.left rs))) gives;
        scanned = one;
      },
      subst (λ (limit : Option ℕ). RunsKept t f p limit others after last end) behind h,
    )))

-- the first rows of values of the code
pub first_seen : (t : Ty) (limit : Option ℕ) (values : List ScalarValue) (n : ℕ) → n ≡ wanted_among limit (length values)
    → seen_rows t (take n values) ≡ first_of_rows limit (seen_rows t values)
first_seen t limit values n e = ap (λ (k : ℕ). seen_rows t (take k values)) e ∙ by-limit limit
  where
    seen_take : (k : ℕ) (xs : List ScalarValue) → seen_rows t (take k xs) ≡ take k (seen_rows t xs)
    seen_take zero xs = refl
    seen_take (suc k) [] = refl
    seen_take (suc k) (x ∷ xs) = ap (λ (rest : List Val). seen t x ∷ rest) (seen_take k xs)

    take_min : (k : ℕ) (xs : List Val) → take (min k (length xs)) xs ≡ take k xs
    take_min zero xs = let e : min 0 (length xs) ≡ 0 = omega arith in ap (λ (j : ℕ). take j xs) e
    take_min (suc k) [] = let e : min (suc k) 0 ≡ 0 = omega arith in let nothing : List Val = [] in ap (λ (j : ℕ). take j nothing) e
    take_min (suc k) (x ∷ xs) =
        let e : min (suc k) (suc (length xs)) ≡ suc (min k (length xs)) = omega arith in
        ap (λ (j : ℕ). take j (x ∷ xs)) e ∙ ap (λ (rest : List Val). x ∷ rest) (take_min k xs)

    seen_long : (xs : List ScalarValue) → length xs ≡ length (seen_rows t xs)
    seen_long [] = refl
    seen_long (x ∷ xs) = ap suc (seen_long xs)

    by-limit : (limit : Option ℕ) → seen_rows t (take (wanted_among limit (length values)) values) ≡ first_of_rows limit (seen_rows t values)
    by-limit None = ap (seen_rows t) (take_all (length values) values (omega arith))
    by-limit (Some k) =
        seen_take (min k (length values)) values ∙ ap (λ (j : ℕ). take (min k j) (seen_rows t values)) (seen_long values) ∙ take_min k (seen_rows t values)

-- there are so many, and they are of the type
pub wanted_few : (limit : Option ℕ) (n : ℕ) → wanted_among limit n ≤ n
wanted_few None n = omega arith
wanted_few (Some k) n = omega arith

pub first_fit : (t : Ty) (n : ℕ) (values : List ScalarValue) → values_fit t values ≡ true → values_fit t (take n values) ≡ true
first_fit t zero values h = refl
first_fit t (suc n) [] h = refl
first_fit t (suc n) (x ∷ xs) h =
    let parts = and_parts (fits (raw_view x) t) (values_fit t xs) h in
    and_from (fits (raw_view x) t) (values_fit t (take n xs)) parts.0 (first_fit t n xs parts.1)

pub seen_length : (t : Ty) (values : List ScalarValue) → length (seen_rows t values) ≡ length values
seen_length t [] = refl
seen_length t (x ∷ xs) = ap suc (seen_length t xs)

-- ---- what is written of a block

-- of the rows that are wanted, by the values that were written
pub wanted_whole : (t u : Ty) (values rows : List ScalarValue) (limit : Option ℕ) (before after : Option (List ℕ)) → u ≡ t
    → seen_rows t values ≡ first_of_rows limit (seen_rows t rows) → Added before after (row_lines (seen_rows u values))
    → Added before after (row_lines (first_of_rows limit (seen_rows t rows)))
wanted_whole t u values rows limit before after same wanted h =
    subst (λ (vs : List Val). Added before after (row_lines vs)) (ap (λ (w : Ty). seen_rows w values) same ∙ wanted) h

pub wanted_part : (t u : Ty) (values rows : List ScalarValue) (limit : Option ℕ) (before after : Option (List ℕ)) → u ≡ t
    → seen_rows t values ≡ first_of_rows limit (seen_rows t rows) → AddedPrefix before after (row_lines (seen_rows u values))
    → AddedPrefix before after (row_lines (first_of_rows limit (seen_rows t rows)))
wanted_part t u values rows limit before after same wanted h =
    subst (λ (vs : List Val). AddedPrefix before after (row_lines vs)) (ap (λ (w : Ty). seen_rows w values) same ∙ wanted) h

pub wanted_written : (t : Ty) (rows : List ScalarValue) (was now : Written) (x y : End) (n : ℕ) → n ≡ length rows
    → Added x.bytes y.bytes (row_lines (first_of_rows was.left (seen_rows t rows))) → now.rows ≡ more_rows was.rows (wanted_among was.left n)
    → now.scanned ≡ was.scanned + 1 → now.left ≡ limit_behind was.left n → WritesWanted (seen_rows t rows) was x y (Ok now)
wanted_written t rows was now x y n long whole counted one left =
    let same : n ≡ length (seen_rows t rows) = long ∙ sym (seen_length t rows) in (
      whole,
      counted ∙ ap (λ (k : ℕ). more_rows was.rows (wanted_among was.left k)) same,
      one,
      left ∙ ap (limit_behind was.left) same,
    )

-- the lines that were added
wanted_lines : (given : List Val) (was : Written) (x y : End) (result : Result Written Refusal) → WritesWanted given was x y result
    → (lines : List ℕ) × Added x.bytes y.bytes lines
wanted_lines given was x y (Ok now) h = (row_lines (first_of_rows was.left given), h.0)
wanted_lines given was x y (Err refusal) h = added_some x.bytes y.bytes (row_lines (first_of_rows was.left given)) h.0

pub wanted_go : (f p : Tree) (block : ℕ) (a b : StoreSeen) (x y : End) (given : List Val) (was : Written) (result : Result Written Refusal)
    → RunsBlock [] f p block a b [] given (Ok tt) → WritesWanted given was x y result → x.faults ≤ y.faults → Goes a b x y
wanted_go f p block a b x y given was result run writes later =
    let some = wanted_lines given was x y result writes in
    lines_go f p block a b x y given (Ok tt) some.0 run some.1 later

pub wanted_counts : (a b : StoreSeen) (x y : End) (given : List Val) (was : Written) (result : Result Written Refusal) → WritesWanted given was x y result
    → CountsFault result a b x y
wanted_counts a b x y given was (Ok now) h = tt
wanted_counts a b x y given was (Err refusal) h = cut_counts Written refusal a b x y h.1

pub wanted_scanned : (x y : End) (given : List Val) (was : Written) (result : Result Written Refusal) → WritesWanted given was x y result
    → IfOk result (λ now. now.scanned ≤ was.scanned + 1)
wanted_scanned x y given was (Ok now) h = omega (arith, h.2)
wanted_scanned x y given was (Err refusal) h = tt

wanted_turn : (f p : Tree) (block : ℕ) (was : Written) (a b : StoreSeen) (x y : End) (given : List Val) (result : Result Written Refusal) (table : Table)
    → wants_none was.left ≡ false → x.faults ≤ y.faults → WritesWanted given was x y result → RunsBlockOf [] f p block table a b [] given (Ok tt)
    → TakesTurn f p false block was a b x y result table
wanted_turn f p block was a b x y given (Ok now) table some later h run = turn_written f p block was now a b x y given table some h.0 later h.1 h.2 h.3 run
wanted_turn f p block was a b x y given (Err refusal) table some later h run = turn_cut f p block was a b x y given refusal table some h.0 h.1 run

pub wanted_told : (f p : Tree) (block : ℕ) (was : Written) (a b : StoreSeen) (x y : End) (given : List Val) (result : Result Written Refusal)
    → wants_none was.left ≡ false → x.faults ≤ y.faults → WritesWanted given was x y result → RunsBlock [] f p block a b [] given (Ok tt)
    → WhereTold a.held (TakesTurn f p false block was a b x y result)
wanted_told f p block was a b x y given result some later h run =
    told_so a.held (λ table. RunsBlockOf [] f p block table a b [] given (Ok tt)) (TakesTurn f p false block was a b x y result)
    (λ table k. wanted_turn f p block was a b x y given result table some later h k) run.told

pub stopped_told : (f p : Tree) (block : ℕ) (was : Written) (a b : StoreSeen) (output : End) (error : ScanError) (given : List Val) (refusal : Refusal)
    → wants_none was.left ≡ false → IsScanRefusal (kind_of error) refusal → RunsBlock [] f p block a b [] given (Err error)
    → WhereTold a.held (TakesTurn f p false block was a b output output (Err refusal))
stopped_told f p block was a b output error given refusal some is run =
    told_so a.held (λ table. RunsBlockOf [] f p block table a b [] given (Err error)) (TakesTurn f p false block was a b output output (Err refusal))
    (λ table k. turn_stopped f p block was a b output error given refusal table some is k) run.told

-- a block that isn't scanned
turn_unscanned : (f p : Tree) (is_out : Bool) (block : ℕ) (was : Written) (store : StoreSeen) (output : End) (table : Table)
    → (is_out ≡ true) ⊎ (wants_none was.left ≡ true) → TakesTurn f p is_out block was store store output output (Ok was) table
turn_unscanned f p true block was store output table h = turn_out f p block was store output table
turn_unscanned f p false block was store output table (inl h) = let no : ⊥ = cc in absurd no
turn_unscanned f p false block was store output table (inr h) = turn_full f p block was store output table h

pub unscanned_told : (f p : Tree) (is_out : Bool) (block : ℕ) (was : Written) (store : StoreSeen) (output : End)
    → (is_out ≡ true) ⊎ (wants_none was.left ≡ true) → WhereTold store.held (TakesTurn f p is_out block was store store output output (Ok was))
unscanned_told f p is_out block was store output h =
    told_all store.held (TakesTurn f p is_out block was store store output output (Ok was)) (λ table. turn_unscanned f p is_out block was store output table h)

pub kept_told : (f p : Tree) (is_out : Bool) (block : ℕ) (was : Written) (a b : StoreSeen) (x y : End) (result : Result Written Refusal) → is_out ≡ false
    → WhereTold a.held (TakesTurn f p false block was a b x y result) → WhereTold a.held (TakesTurn f p is_out block was a b x y result)
kept_told f p is_out block was a b x y result same h =
    subst (λ (out : Bool). WhereTold a.held (TakesTurn f p out block was a b x y result)) (sym same) h

-- ---- from block to block

drop_at : {X : Type 0} (xs : List X) (i : ℕ) (x : X) → slice_get xs i ≡ Some x → drop i xs ≡ x ∷ drop (i + 1) xs
drop_at [] i x h = let no : ⊥ = cc in absurd no
drop_at (y ∷ ys) zero x h = let same : y ≡ x = cc in ap (λ z. z ∷ ys) same
drop_at (y ∷ ys) (suc i) x h =
    let next : suc (i + 1) ≡ suc i + 1 = omega arith in
    drop_at ys i x h ∙ ap (λ (n : ℕ). x ∷ drop n (y ∷ ys)) next

kept_at : (table : Table) (zones : Zones) (f : Tree) (i : ℕ) (rows : List Val) (is_out : Bool) → slice_get table.blocks i ≡ Some rows
    → rules_out zones [] i f ≡ is_out → kept_from table zones f i ≡ cond is_out [] ((i, rows) ∷ []) ++ kept_from table zones f (i + 1)
kept_at table zones f i rows is_out there out =
    let next : suc i ≡ i + 1 = omega arith in
    ap (λ (blocks : List (List Val)). filter (λ b. not (rules_out zones [] b.0 f)) (numbered_from i blocks)) (drop_at table.blocks i rows there)
    ∙ ap (λ (n : ℕ). by n) next ∙ ap (λ (b : Bool). cond (not b) ((i, rows) ∷ kept_from table zones f (i + 1)) (kept_from table zones f (i + 1))) out
    ∙ by-out is_out
  where
    by : ℕ → List (ℕ × List Val)
    by n =
        cond (not (rules_out zones [] i f)) ((i, rows) ∷ filter (λ b. not (rules_out zones [] b.0 f)) (numbered_from n (drop (i + 1) table.blocks)))
        (filter (λ b. not (rules_out zones [] b.0 f)) (numbered_from n (drop (i + 1) table.blocks)))

    by-out : (out : Bool) → cond (not out) ((i, rows) ∷ kept_from table zones f (i + 1)) (kept_from table zones f (i + 1))
        ≡ cond out [] ((i, rows) ∷ []) ++ kept_from table zones f (i + 1)
    by-out true = refl
    by-out false = refl

pub come_to_start : (f p : Tree) (limit : Option ℕ) (start : Progress) (zones : Zones) (table : Table) → HasComeTo f p 0 limit limit start start zones table
come_to_start f p limit start zones table = λ last end h. h

pub come_on : (f p : Tree) (i : ℕ) (limit : Option ℕ) (is_out : Bool) (start : Progress) (was now : Written) (a b : StoreSeen) (x y : End) (zones : Zones) (table : Table)
    (rows : List Val) → slice_get table.blocks i ≡ Some rows → rules_out zones [] i f ≡ is_out
    → HasComeTo f p i limit was.left start (progress_at a x was) zones table → TakesTurn f p is_out i was a b x y (Ok now) table
    → HasComeTo f p (i + 1) limit now.left start (progress_at b y now) zones table
come_on f p i limit is_out start was now a b x y zones table rows there out so_far turn = λ last end h.
    so_far last end
    (subst (λ (kept : List (ℕ × List Val)). RunsKept (row_type table.columns) f p was.left kept (progress_at a x was) last end)
    (sym (kept_at table zones f i rows is_out there out))
    (turn rows there (kept_from table zones f (i + 1)) last end h))

-- a refusal in a block's turn ends the run
pub come_ended : (f p : Tree) (i : ℕ) (limit : Option ℕ) (is_out : Bool) (was : Written) (first a b : StoreSeen) (start x y : End) (refusal : Refusal) (table : Table)
    (rows : List Val) → slice_get table.blocks i ≡ Some rows → rules_out first.zones [] i f ≡ is_out
    → HasComeTo f p i limit was.left (run_start first start) (progress_at a x was) first.zones table
    → TakesTurn f p is_out i was a b x y (Err refusal) table → RunsToEnd f p limit first b start y (Err refusal) table
come_ended f p i limit is_out was first a b start x y refusal table rows there out so_far turn =
    let ended = turn rows there (kept_from table first.zones f (i + 1)) in (
      was.rows,
      was.scanned,
      ended.0,
      ended.1,
      tt,
      so_far (progress_at b y was) ended.0
          (subst (λ (kept : List (ℕ × List Val)). RunsKept (row_type table.columns) f p was.left kept (progress_at a x was) (progress_at b y was) ended.0)
          (sym (kept_at table first.zones f i rows is_out there out)) ended.2),
    )

drop_past : {X : Type 0} (xs : List X) (n : ℕ) → length xs ≤ n → drop n xs ≡ []
drop_past [] zero h = refl
drop_past [] (suc n) h = refl
drop_past (x ∷ xs) zero h = let no : ⊥ = omega (arith, h) in absurd no
drop_past (x ∷ xs) (suc n) h = drop_past xs n (omega (arith, h))

-- behind the last block the run has ended
pub come_to_end : (f p : Tree) (n : ℕ) (limit : Option ℕ) (was : Written) (first a : StoreSeen) (start x : End) (found : Found) (table : Table)
    → AgreesWith first.zones table → length first.zones.lengths ≤ n
    → found.blocks ≡ length first.zones.lengths → found.skipped ≡ found.blocks - was.scanned → found.rows ≡ was.rows
    → HasComeTo f p n limit was.left (run_start first start) (progress_at a x was) first.zones table
    → RunsToEnd f p limit first a start x (Ok found) table
come_to_end f p n limit was first a start x found table agrees past blocks skipped rows so_far =
    let t = row_type table.columns in
    let now = progress_at a x was in
    let long : length table.blocks ≡ length first.zones.lengths = sym (length-map table.blocks (λ (b : List Val). length b)) ∙ ap (λ (ns : List ℕ). length ns) agrees.lengths in
    let none : kept_from table first.zones f n ≡ [] =
    ap (λ (bs : List (List Val)). filter (λ b. not (rules_out first.zones [] b.0 f)) (numbered_from n bs)) (drop_past table.blocks n (omega (arith, long, past))) in (
      was.rows,
      was.scanned,
      finished,
      refl,
      (blocks, skipped ∙ ap (λ (k : ℕ). k - was.scanned) blocks, rows),
      so_far now finished
          (subst (λ (kept : List (ℕ × List Val)). RunsKept t f p was.left kept now now finished) (sym none)
          (subst (λ (scanned : List (ℕ × List Val)). RunsOver t f p was.left scanned now now finished) (sym (no_block t f p was.left)) (refl, refl))),
    )

-- the same where the table is told
told_three : (held : Option Table) (P Q R S : Table → Type 0) → ((table : Table) → P table → Q table → R table → S table) → WhereTold held P → WhereTold held Q
    → WhereTold held R → WhereTold held S
told_three None P Q R S h a b c = tt
told_three (Some table) P Q R S h a b c = h table a b c

-- what is told of a store is told of it before
told_before : (first a : StoreSeen) (T : Table → Type 0) → IsSameStore first a → WhereTold a.held T → WhereTold first.held T
told_before first a T same turn = subst (λ (o : Option Table). WhereTold o T) same.held turn

pub start_told : (f p : Tree) (limit : Option ℕ) (first : StoreSeen) (start : End)
    → WhereTold first.held (HasComeTo f p 0 limit limit (run_start first start) (run_start first start) first.zones)
start_told f p limit first start =
    told_all first.held (HasComeTo f p 0 limit limit (run_start first start) (run_start first start) first.zones)
    (λ table. come_to_start f p limit (run_start first start) first.zones table)

pub come_on_told : (f p : Tree) (scan : PreparedScan) (flags : List Bool) (i : ℕ) (limit : Option ℕ) (is_out d : Bool) (first a b : StoreSeen) (start x y : End)
    (was now : Written) → IsRuledScan first.zones [] f p scan flags → i < length first.zones.lengths → is_out ≡ get_or flags i d → IsSameStore first a
    → WhereTold first.held (AgreesWith first.zones)
    → WhereTold first.held (HasComeTo f p i limit was.left (run_start first start) (progress_at a x was) first.zones)
    → WhereTold a.held (TakesTurn f p is_out i was a b x y (Ok now))
    → WhereTold first.held (HasComeTo f p (i + 1) limit now.left (run_start first start) (progress_at b y now) first.zones)
come_on_told f p scan flags i limit is_out d first a b start x y was now ruled within flag same agrees so_far turn =
    let here = told_before first a (TakesTurn f p is_out i was a b x y (Ok now)) same turn in
    told_three first.held (AgreesWith first.zones) (HasComeTo f p i limit was.left (run_start first start) (progress_at a x was) first.zones)
    (TakesTurn f p is_out i was a b x y (Ok now)) (HasComeTo f p (i + 1) limit now.left (run_start first start) (progress_at b y now) first.zones)
    (λ table agree come took.
    come_on f p i limit is_out (run_start first start) was now a b x y first.zones table (get_or table.blocks i []) (block_there first.zones table i agree within)
    (flag_is first.zones [] f p scan flags i is_out d ruled within flag) come took)
    agrees so_far here

pub come_ended_told : (f p : Tree) (scan : PreparedScan) (flags : List Bool) (i : ℕ) (limit : Option ℕ) (is_out d : Bool) (first a b : StoreSeen) (start x y : End)
    (was : Written) (refusal : Refusal) → IsRuledScan first.zones [] f p scan flags → i < length first.zones.lengths → is_out ≡ get_or flags i d
    → IsSameStore first a → WhereTold first.held (AgreesWith first.zones)
    → WhereTold first.held (HasComeTo f p i limit was.left (run_start first start) (progress_at a x was) first.zones)
    → WhereTold a.held (TakesTurn f p is_out i was a b x y (Err refusal)) → WhereTold first.held (RunsToEnd f p limit first b start y (Err refusal))
come_ended_told f p scan flags i limit is_out d first a b start x y was refusal ruled within flag same agrees so_far turn =
    let here = told_before first a (TakesTurn f p is_out i was a b x y (Err refusal)) same turn in
    told_three first.held (AgreesWith first.zones) (HasComeTo f p i limit was.left (run_start first start) (progress_at a x was) first.zones)
    (TakesTurn f p is_out i was a b x y (Err refusal)) (RunsToEnd f p limit first b start y (Err refusal))
    (λ table agree come took.
    come_ended f p i limit is_out was first a b start x y refusal table (get_or table.blocks i []) (block_there first.zones table i agree within)
    (flag_is first.zones [] f p scan flags i is_out d ruled within flag) come took)
    agrees so_far here

pub come_to_end_told : (f p : Tree) (n : ℕ) (limit : Option ℕ) (was : Written) (first a : StoreSeen) (start x : End) (found : Found)
    → length first.zones.lengths ≤ n → found.blocks ≡ length first.zones.lengths → found.skipped ≡ found.blocks - was.scanned → found.rows ≡ was.rows
    → WhereTold first.held (AgreesWith first.zones)
    → WhereTold first.held (HasComeTo f p n limit was.left (run_start first start) (progress_at a x was) first.zones)
    → WhereTold first.held (RunsToEnd f p limit first a start x (Ok found))
come_to_end_told f p n limit was first a start x found past blocks skipped rows agrees so_far =
    told_both first.held (AgreesWith first.zones) (HasComeTo f p n limit was.left (run_start first start) (progress_at a x was) first.zones)
    (RunsToEnd f p limit first a start x (Ok found))
    (λ table agree come. come_to_end f p n limit was first a start x found table agree past blocks skipped rows come) agrees so_far

-- ---- the answer

-- what was found is counted in a table
abbrev pub IsCounted : Result Found Refusal → Table → ℕ → ℕ → Type 0
IsCounted (Ok found) table skipped rows = (found.blocks ≡ length table.blocks) × (found.skipped ≡ skipped) × (found.rows ≡ rows)
IsCounted (Err refusal) table skipped rows = Unit {0}

counted_in : (result : Result Found Refusal) (table : Table) (blocks rows scanned : ℕ) → length table.blocks ≡ blocks → CountsFound result blocks rows scanned
    → IsCounted result table (length table.blocks - scanned) rows
counted_in (Ok found) table blocks rows scanned long h = (h.0 ∙ sym long, h.1 ∙ ap (λ (k : ℕ). k - scanned) (sym long), h.2)
counted_in (Err refusal) table blocks rows scanned long h = tt

-- by how a run ended
pub written_as : (result : Result Found Refusal) (end : RunEnd) (is_damaged : Read → Bool) (answer : Answer) (table : Table) (made : List Read) (failed : Option Read)
    (x y : End) (skipped rows : ℕ) → IsEndOf result end → IsCounted result table skipped rows
    → WritesAnswer end is_damaged answer (counts_by table made skipped rows) failed x y → IsWritten is_damaged answer table made failed x y result
written_as (Ok found) end is_damaged answer table made failed x y skipped rows is counted h =
    let w = subst (λ (e : RunEnd). WritesAnswer e is_damaged answer (counts_by table made skipped rows) failed x y) is h in
    let all : counts_by table made skipped rows ≡ counts_found table made found =
    (λ i. record (counts_found table made found) { blocks = sym counted.0 i; skipped = sym counted.1 i; rows = sym counted.2 i }) in
    (w.0, w.1, w.2 ∙ ap Some all)
written_as (Err refusals.NoMemory) end is_damaged answer table made failed x y skipped rows is counted h =
    (subst (λ (e : RunEnd). WritesAnswer e is_damaged answer (counts_by table made skipped rows) failed x y) is h, tt)
written_as (Err refusals.Overflow) end is_damaged answer table made failed x y skipped rows is counted h =
    subst (λ (e : RunEnd). WritesAnswer e is_damaged answer (counts_by table made skipped rows) failed x y) is h
written_as (Err refusals.BadCast) end is_damaged answer table made failed x y skipped rows is counted h =
    subst (λ (e : RunEnd). WritesAnswer e is_damaged answer (counts_by table made skipped rows) failed x y) is h
written_as (Err refusals.StoreFault) end is_damaged answer table made failed x y skipped rows is counted h =
    subst (λ (e : RunEnd). WritesAnswer e is_damaged answer (counts_by table made skipped rows) failed x y) is h
written_as (Err refusals.Unwritten) end is_damaged answer table made failed x y skipped rows is counted h =
    subst (λ (e : RunEnd). WritesAnswer e is_damaged answer (counts_by table made skipped rows) failed x y) is h
written_as (Err _) end is_damaged answer table made failed x y skipped rows is counted h = absurd is

pub runs_written : (f p : Tree) (limit : Option ℕ) (a b : StoreSeen) (x y : End) (result : Result Found Refusal) (made : List Read) (table : Table)
    → AgreesWith a.zones table → sum a.zones.lengths < 2 ^ 64 → b.log ≡ a.log ++ made → RunsToEnd f p limit a b x y result table
    → (is_damaged : Read → Bool) → list_any is_damaged made ≡ false
    → IsWritten is_damaged (answer_found is_damaged table (found_in_order is_damaged table a.zones f p limit)) table made b.failed x y result
runs_written f p limit a b x y result made table agrees few grown run is_damaged clean =
    let start : Progress = run_start a x in
    let last : Progress = record { store = b; output = y; rows = run.0; scanned = run.1 } in
    let long : length table.blocks ≡ length a.zones.lengths = sym (length-map table.blocks (λ (rows : List Val). length rows)) ∙ ap (λ (ns : List ℕ). length ns) agrees.lengths in
    written_as result run.2 is_damaged (answer_found is_damaged table (found_in_order is_damaged table a.zones f p limit)) table made b.failed x y
    (length table.blocks - run.1) run.0 run.3 (counted_in result table (length a.zones.lengths) run.0 run.1 long run.4)
    (ordered_runs_write_answers is_damaged table a.zones f p limit start last made run.2 (subst (λ (ns : List ℕ). sum ns < 2 ^ 64) (sym agrees.lengths) few) refl refl
    run.5 grown clean)

-- there was no memory before the first block
pub finds_no_room : (answer_over : (Read → Bool) → Table → Answer) (store : StoreSeen) (output : End)
    → FindsAnswer answer_over store store output output (Err refusals.NoMemory)
finds_no_room answer_over store output =
    record {
      made = [];
      grown = sym (append-nil store.log);
      lines = [];
      added = added_nothing output.bytes;
      cause = tt;
      told = told_all store.held
          (λ table. (is_damaged : Read → Bool) → list_any is_damaged [] ≡ false
          → IsWritten is_damaged (answer_over is_damaged table) table [] store.failed output output (Err refusals.NoMemory))
          (λ table is_damaged clean. (added_none_of output.bytes (answer_over is_damaged table).output, tt));
    }

-- what is prepared of typed expressions is refused for want of memory alone
pub prepare_comes : (zones : Zones) (f p : Tree) (ty : Ty) (error : ScanError) → scan_type (row_type zones.columns) [] f p ≡ Ok ty
    → PreparesScan zones [] f p (Err error) → ComesInBlock (kind_of error)
prepare_comes zones f p ty error typed h = by (kind_of error) h
  where
    by : (kind : ErrorKind) → OnlyOfTypes kind (scan_type (row_type zones.columns) [] f p ≡ Err error) → ComesInBlock kind
    by of_memory k = tt
    by of_text k = k
    by of_types k = let no : ⊥ = cc in absurd no
    by (of_break cause) k = absurd k
    by of_read k = absurd k

pub prepare_refused : (zones : Zones) (f p : Tree) (ty : Ty) (error : ScanError) (refusal : Refusal) → scan_type (row_type zones.columns) [] f p ≡ Ok ty
    → PreparesScan zones [] f p (Err error) → IsScanRefusal (kind_of error) refusal → refusal ≡ refusals.NoMemory
prepare_refused zones f p ty error refusal typed h is = by (kind_of error) h is
  where
    by : (kind : ErrorKind) → OnlyOfTypes kind (scan_type (row_type zones.columns) [] f p ≡ Err error) → IsScanRefusal kind refusal → refusal ≡ refusals.NoMemory
    by of_memory k same = same
    by of_text k same = absurd k
    by of_types k same = absurd same
    by (of_break cause) k same = absurd k
    by of_read k same = absurd k

pub finds_no_room_as : (answer_over : (Read → Bool) → Table → Answer) (store : StoreSeen) (output : End) (refusal : Refusal) → refusal ≡ refusals.NoMemory
    → FindsAnswer answer_over store store output output (Err refusal)
finds_no_room_as answer_over store output refusal same =
    subst (λ (r : Refusal). FindsAnswer answer_over store store output output (Err r)) (sym same) (finds_no_room answer_over store output)

-- a run through all blocks finds the answer
pub ordered_finds : (f p : Tree) (limit : Option ℕ) (a b : StoreSeen) (x y : End) (result : Result Found Refusal) → Goes a b x y → CountsFault result a b x y
    → sum a.zones.lengths < 2 ^ 64 → WhereTold a.held (AgreesWith a.zones) → WhereTold a.held (RunsToEnd f p limit a b x y result)
    → FindsInOrder f p limit a b x y result
ordered_finds f p limit a b x y result goes cause few agrees runs =
    record {
      made = goes.made;
      grown = goes.grown;
      lines = goes.lines;
      added = goes.added;
      cause = cause;
      told = told_both a.held (AgreesWith a.zones) (RunsToEnd f p limit a b x y result)
          (λ table. (is_damaged : Read → Bool) → list_any is_damaged goes.made ≡ false
          → IsWritten is_damaged (answer_found is_damaged table (found_in_order is_damaged table a.zones f p limit)) table goes.made b.failed x y result)
          (λ table agree run. runs_written f p limit a b x y result goes.made table agree few goes.grown run)
          agrees runs;
    }
