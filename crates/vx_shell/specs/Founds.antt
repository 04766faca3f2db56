-- What is found over a store, and how the answer over its table is written, where it tells that.
use Rattle.std.specs.Prelude.{◌≡◌, ℕ, ◌≤◌, Bool, true, false, List, ◌++◌, length, Option, Some, Result, Ok, Err}
use Rattle.std.specs.List.{list_any}
use Rattle.vx_dtype.specs.Types.{Bytes}
use Rattle.vx_dtype.specs.TypeRules.{field_names}
use Rattle.vx_expr.specs.Trees.{Tree}
use Rattle.vx_io.specs.Ends.{Added, AddedPrefix}
use Rattle.vx_io.specs.Counts.{one_more}
use Rattle.vx_laws_statements.specs.Clauses.{Key}
use Rattle.vx_laws_topk.specs.TopRows.{TopAsk}
use Rattle.vx_laws_shell.specs.Answers.{Answer, answer_found, answer_of, answer_of_statement, answer_wanted, answer_within, found_in_order, found_by_key}
use Rattle.vx_laws_shell.specs.Lines as lines
use Rattle.vx_laws_shell.specs.Running.{Cut, unwritten, End}
use Rattle.vx_laws_shell.specs.Wants.{key_type, wanted_of}
use Rattle.vx_laws_shell.specs.Words.{Asked, BlockRange}
use Rattle.vx_laws_statements.specs.Statements.{Plan}
use Rattle.vx_scan.specs.Stores.{Read, StoreSeen, WhereTold}
use Rattle.vx_semantics.specs.Tables.{Table, Zones}
use Rattle.vx_semantics.specs.Scans.{read_columns}
use Rattle.vx_shell.specs.declared.answers.Found.{Found}
use Rattle.vx_shell.specs.declared.errors.Refusal.{Refusal}
use Rattle.vx_shell.specs.declared.errors.Refusal.TheVariants.{StoreFault, Unread, Unwritten}
use Rattle.vx_shell.specs.Refusals.{RefusalKind, settled, cut, refusal_kind}

-- the counts of what was found in a table by these reads
abbrev pub counts_found : Table → List Read → Found → lines.Counts
counts_found table made found =
    record {
      blocks = found.blocks;
      skipped = found.skipped;
      columns = length (field_names table.columns);
      columns_read = length (read_columns table made);
      rows = found.rows;
    }

-- the output was cut by a write that failed, and counted a fault; or for another reason
abbrev pub IsCutBy : Cut → End → End → Type 0
IsCutBy unwritten before after = one_more before.faults ≤ after.faults
IsCutBy why before after = Unit {0}

-- how an answer is written that ends by a refusal: it has its status, and is written whole; or first bytes of it are written
abbrev pub EndsBy : RefusalKind → Answer → End → End → Type 0
EndsBy (settled status) answer before after = (answer.status ≡ status) × Added before.bytes after.bytes answer.output
EndsBy (cut why) answer before after = AddedPrefix before.bytes after.bytes answer.output × IsCutBy why before after

-- how an answer over a table is written, by these reads and with this last read that failed: where a column wasn't read that is damaged, it is whole
abbrev pub IsWritten : (Read → Bool) → Answer → Table → List Read → Option Read → End → End → Result Found Refusal → Type 0
IsWritten is_damaged answer table made failed before after (Ok found) =
    (answer.status ≡ 0) × Added before.bytes after.bytes answer.output × (answer.counts ≡ Some (counts_found table made found))
IsWritten is_damaged answer table made failed before after (Err StoreFault) =
    (read : Read) × (failed ≡ Some read) × AddedPrefix before.bytes after.bytes answer.output
    × (is_damaged read ≡ true → (answer.status ≡ 3) × Added before.bytes after.bytes answer.output)
IsWritten is_damaged answer table made failed before after (Err refusal) = EndsBy (refusal_kind refusal) answer before after

-- a column that wasn't read, and a write that failed, were counted as faults; no other read is made
abbrev pub CountsFault : {A : Type 0} → Result A Refusal → StoreSeen → StoreSeen → End → End → Type 0
CountsFault (Err StoreFault) store_before store_after before after = one_more store_before.faults ≤ store_after.faults
CountsFault (Err Unwritten) store_before store_after before after = one_more before.faults ≤ after.faults
CountsFault (Err Unread) store_before store_after before after = ⊥
CountsFault _ store_before store_after before after = Unit {0}

-- what a run makes of a store and of the output: its reads, and lines that are added; where the table is told these are those of the answer over it,
-- whichever columns are damaged that were not read
pub record FindsAnswer (answer_over : (Read → Bool) → Table → Answer) (store_before store_after : StoreSeen) (before after : End) (result : Result Found Refusal) : Type 0 where
  pub made : List Read
  pub grown : store_after.log ≡ store_before.log ++ made
  pub lines : Bytes
  pub added : Added before.bytes after.bytes lines
  pub cause : CountsFault result store_before store_after before after
  pub told : WhereTold store_before.held
      (λ table. (is_damaged : Read → Bool) → list_any is_damaged made ≡ false
      → IsWritten is_damaged (answer_over is_damaged table) table made store_after.failed before after result)

-- the rows of a filter and a projection, in the table's order
abbrev pub FindsInOrder : Tree → Tree → Option ℕ → StoreSeen → StoreSeen → End → End → Result Found Refusal → Type 0
FindsInOrder f p limit store_before store_after before after result =
    FindsAnswer (λ is_damaged table. answer_found is_damaged table (found_in_order is_damaged table store_before.zones f p limit))
    store_before store_after before after result

-- the first of them by a key
abbrev pub asked_by : Zones → Tree → Tree → Key → ℕ → TopAsk
asked_by zones f p key count =
    record {
      filter_expr = f;
      projection = p;
      key = key.column;
      key_type = key_type zones.columns key.column;
      descending = key.descending;
      count = count;
    }

abbrev pub FindsByKey : Tree → Tree → Key → ℕ → StoreSeen → StoreSeen → End → End → Result Found Refusal → Type 0
FindsByKey f p key count store_before store_after before after result =
    FindsAnswer (λ is_damaged table. answer_found is_damaged table (found_by_key is_damaged table store_before.zones (asked_by store_before.zones f p key count)))
    store_before store_after before after result

-- the rows of a plan
abbrev pub FindsPlanned : Plan → StoreSeen → StoreSeen → End → End → Result Found Refusal → Type 0
FindsPlanned plan store_before store_after before after result =
    FindsAnswer (λ is_damaged table. answer_wanted is_damaged table store_before.zones plan (wanted_of store_before.zones.columns plan))
    store_before store_after before after result

-- those that a statement names
abbrev pub FindsStatement : Bytes → StoreSeen → StoreSeen → End → End → Result Found Refusal → Type 0
FindsStatement statement store_before store_after before after result =
    FindsAnswer (λ is_damaged table. answer_of_statement is_damaged table store_before.zones statement) store_before store_after before after result

-- and those that it names over some blocks
abbrev pub FindsWithin : Bytes → BlockRange → StoreSeen → StoreSeen → End → End → Result Found Refusal → Type 0
FindsWithin statement range store_before store_after before after result =
    FindsAnswer (λ is_damaged table. answer_within is_damaged table store_before.zones statement range) store_before store_after before after result

-- the answer to what words ask
abbrev pub AnswersStore : Asked → StoreSeen → StoreSeen → End → End → Result Found Refusal → Type 0
AnswersStore asked store_before store_after before after result =
    FindsAnswer (λ is_damaged table. answer_of is_damaged table store_before.zones asked) store_before store_after before after result
