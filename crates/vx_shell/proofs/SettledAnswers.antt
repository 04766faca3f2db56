-- Refusals before the first row: nothing is read and nothing written, and the answer has their status, or there was no memory.
use Rattle.std.proofs.Common.{◌≡◌, ap, sym, ◌∙◌, subst, ℕ, Bool, false, Option, Err, List, [], append-nil}
use Rattle.std.specs.List.{list_any}
use Rattle.vx_io.specs.Ends.{Added}
use Rattle.vx_laws_shell.specs.Answers.{Answer, refused_with}
use Rattle.vx_laws_shell.specs.Running.{End}
use Rattle.vx_laws_shell.proofs.Adding.{added_nothing, added_none_of}
use Rattle.vx_scan.specs.Stores.{Read, StoreSeen, WhereTold}
use Rattle.vx_scan.proofs.ScanLemmas.{told_so}
use Rattle.vx_semantics.specs.Tables.{Table}
use Rattle.vx_shell.specs.declared.answers.Found.{Found}
use Rattle.vx_shell.specs.declared.errors.Refusal.{Refusal}
use Rattle.vx_shell.specs.declared.errors.Refusal.TheVariants as refusals
use Rattle.vx_shell.specs.Founds.{CountsFault, IsWritten, FindsAnswer}
use Rattle.vx_shell.specs.Refusals.{refusal_kind, IsSettled}

settled_cause : (status : ℕ) (refusal : Refusal) (a : StoreSeen) (x : End) → IsSettled status (refusal_kind refusal) → CountsFault {A = Found} (Err refusal) a a x x
settled_cause status refusals.StoreFault a x h = let no : ⊥ = cc in absurd no
settled_cause status refusals.Unread a x h = let no : ⊥ = cc in absurd no
settled_cause status refusals.Unwritten a x h = let no : ⊥ = cc in absurd no
settled_cause status _ a x h = tt

-- the status of an answer, and that nothing is written of it
refused_output : (answer : Answer) (status : ℕ) (x : End) → answer ≡ refused_with status → Added x.bytes x.bytes answer.output
refused_output answer status x same = subst (λ (bytes : List ℕ). Added x.bytes x.bytes bytes) (ap (λ (a : Answer). a.output) (sym same)) (added_nothing x.bytes)

settled_written : (status : ℕ) (refusal : Refusal) (is_damaged : Read → Bool) (answer : Answer) (table : Table) (failed : Option Read) (x : End)
    → IsSettled status (refusal_kind refusal) → answer ≡ refused_with status → IsWritten is_damaged answer table [] failed x x (Err refusal)
settled_written status refusals.NoMemory is_damaged answer table failed x h same = (added_none_of x.bytes answer.output, tt)
settled_written status refusals.Unread is_damaged answer table failed x h same = let no : ⊥ = cc in absurd no
settled_written status refusals.StoreFault is_damaged answer table failed x h same = let no : ⊥ = cc in absurd no
settled_written status refusals.Unwritten is_damaged answer table failed x h same = let no : ⊥ = cc in absurd no
settled_written status _ is_damaged answer table failed x h same = (ap (λ (a : Answer). a.status) same ∙ sym h, refused_output answer status x same)

pub finds_settled : (answer_over : (Read → Bool) → Table → Answer) (a : StoreSeen) (x : End) (status : ℕ) (refusal : Refusal)
    → IsSettled status (refusal_kind refusal) → WhereTold a.held (λ table. (is_damaged : Read → Bool) → answer_over is_damaged table ≡ refused_with status)
    → FindsAnswer answer_over a a x x (Err refusal)
finds_settled answer_over a x status refusal h same =
    record {
      made = [];
      grown = sym (append-nil a.log);
      lines = [];
      added = added_nothing x.bytes;
      cause = settled_cause status refusal a x h;
      told = told_so a.held (λ table. (is_damaged : Read → Bool) → answer_over is_damaged table ≡ refused_with status)
          (λ table. (is_damaged : Read → Bool) → list_any is_damaged [] ≡ false
          → IsWritten is_damaged (answer_over is_damaged table) table [] a.failed x x (Err refusal))
          (λ table e is_damaged clean. settled_written status refusal is_damaged (answer_over is_damaged table) table a.failed x h (e is_damaged))
          same;
    }
