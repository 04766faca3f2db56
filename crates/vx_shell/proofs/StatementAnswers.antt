-- What a statement finds over a store, by the plan that it names, or by its refusal.
use Rattle.std.proofs.Common.{◌≡◌, refl, ap, sym, ◌∙◌, Bool, Result, Ok, Err}
use Rattle.vx_dtype.specs.Types.{Bytes, Fields, Ty}
use Rattle.vx_laws_shell.specs.Answers.{answer_of_statement, answer_planned, answer_wanted, refused_with}
use Rattle.vx_laws_shell.specs.Running.{End}
use Rattle.vx_laws_shell.specs.Wants.{wanted_of}
use Rattle.vx_laws_statements.specs.Refusals.{StatementRefusal}
use Rattle.vx_laws_statements.specs.Statements.{Plan, plan_of}
use Rattle.vx_scan.specs.Stores.{Read, StoreSeen, WhereTold, AgreesWith}
use Rattle.vx_scan.proofs.ScanLemmas.{told_so}
use Rattle.vx_semantics.specs.Tables.{Table, Zones, row_type}
use Rattle.vx_sql_lines.specs.Told.{TellsRefusal}
use Rattle.vx_sql_lines.specs.declared.told.ToldError.{ToldError}
use Rattle.vx_sql_lines.specs.declared.told.ToldError.TheVariants as tells
use Rattle.vx_shell.specs.declared.answers.Found.{Found}
use Rattle.vx_shell.specs.declared.errors.Refusal.{Refusal}
use Rattle.vx_shell.specs.declared.errors.Refusal.TheVariants as refusals
use Rattle.vx_shell.specs.Founds.{FindsPlanned, FindsStatement}
use Rattle.vx_shell.specs.Refusals.{refusal_kind, statement_refusal, IsSettled}
use Rattle.vx_shell.specs.RunParts.{IsStatementRefusal}
use Rattle.vx_shell.proofs.OrderedSteps.{finds_no_room_as}
use Rattle.vx_shell.proofs.PartAnswers.{finds_same}
use Rattle.vx_shell.proofs.SettledAnswers.{finds_settled}

-- the answer of a plan over the columns of a table
planned_answer : (zones : Zones) (statement : Bytes) (plan : Plan) (is_damaged : Read → Bool) (table : Table) → AgreesWith zones table
    → plan_of (row_type zones.columns) statement ≡ Ok plan
    → answer_wanted is_damaged table zones plan (wanted_of zones.columns plan) ≡ answer_of_statement is_damaged table zones statement
planned_answer zones statement plan is_damaged table agrees named =
    let here : plan_of (row_type table.columns) statement ≡ Ok plan = ap (λ (fs : Fields). plan_of (row_type fs) statement) agrees.columns ∙ named in
    ap (λ (fs : Fields). answer_wanted is_damaged table zones plan (wanted_of fs plan)) (sym agrees.columns)
    ∙ sym (ap (λ (given : Result Plan StatementRefusal). answer_planned is_damaged table zones given) here)

refused_answer : (zones : Zones) (statement : Bytes) (r : StatementRefusal) (is_damaged : Read → Bool) (table : Table) → AgreesWith zones table
    → plan_of (row_type zones.columns) statement ≡ Err r → answer_of_statement is_damaged table zones statement ≡ refused_with 4
refused_answer zones statement r is_damaged table agrees named =
    let here : plan_of (row_type table.columns) statement ≡ Err r = ap (λ (fs : Fields). plan_of (row_type fs) statement) agrees.columns ∙ named in
    ap (λ (given : Result Plan StatementRefusal). answer_planned is_damaged table zones given) here

pub planned_finds : (statement : Bytes) (plan : Plan) (a b : StoreSeen) (x y : End) (result : Result Found Refusal) → WhereTold a.held (AgreesWith a.zones)
    → plan_of (row_type a.zones.columns) statement ≡ Ok plan → FindsPlanned plan a b x y result → FindsStatement statement a b x y result
planned_finds statement plan a b x y result agrees named h =
    finds_same (λ is_damaged table. answer_wanted is_damaged table a.zones plan (wanted_of a.zones.columns plan))
    (λ is_damaged table. answer_of_statement is_damaged table a.zones statement) a b x y result
    (told_so a.held (AgreesWith a.zones)
    (λ table. (is_damaged : Read → Bool)
    → answer_wanted is_damaged table a.zones plan (wanted_of a.zones.columns plan) ≡ answer_of_statement is_damaged table a.zones statement)
    (λ table agree is_damaged. planned_answer a.zones statement plan is_damaged table agree named) agrees)
    h

-- a refusal of the rules with its line, or want of memory
pub statement_refused : {A : Type 0} (text : Bytes) (t : Ty) (given : Result A StatementRefusal) (error : ToldError) → TellsRefusal text t given error
    → IsStatementRefusal given (refusal_kind (statement_refusal error))
statement_refused text t given tells.NoMemory h = refl
statement_refused text t given (tells.Refused line) h = (refl, (h.0, h.1))

-- a statement that the rules refuse
refused_finds : (statement : Bytes) (refusal : Refusal) (a : StoreSeen) (x : End) (r : StatementRefusal) → WhereTold a.held (AgreesWith a.zones)
    → IsSettled 4 (refusal_kind refusal) → plan_of (row_type a.zones.columns) statement ≡ Err r → FindsStatement statement a a x x (Err refusal)
refused_finds statement refusal a x r agrees settled_so named =
    finds_settled (λ is_damaged table. answer_of_statement is_damaged table a.zones statement) a x 4 refusal settled_so
    (told_so a.held (AgreesWith a.zones) (λ table. (is_damaged : Read → Bool) → answer_of_statement is_damaged table a.zones statement ≡ refused_with 4)
    (λ table agree is_damaged. refused_answer a.zones statement r is_damaged table agree named) agrees)

pub unplanned_finds : (statement : Bytes) (refusal : Refusal) (a : StoreSeen) (x : End) → WhereTold a.held (AgreesWith a.zones)
    → IsStatementRefusal (plan_of (row_type a.zones.columns) statement) (refusal_kind refusal) → FindsStatement statement a a x x (Err refusal)
unplanned_finds statement refusals.NoMemory a x agrees h =
    finds_no_room_as (λ is_damaged table. answer_of_statement is_damaged table a.zones statement) a x refusals.NoMemory refl
unplanned_finds statement refusals.Unread a x agrees h = let no : ⊥ = cc in absurd no
unplanned_finds statement refusals.StoreFault a x agrees h = let no : ⊥ = cc in absurd no
unplanned_finds statement refusals.Unwritten a x agrees h = let no : ⊥ = cc in absurd no
unplanned_finds statement refusal a x agrees h = refused_finds statement refusal a x h.1.0 agrees h.0 h.1.1
