-- What is explained of a plan, and why a statement isn't explained.
use Rattle.std.proofs.Common.{◌≡◌, refl, ap, ◌∙◌, inl, inr, ℕ, Option, Some, None, Result, Ok, Err, arith, None}
use Rattle.vx_dtype.specs.Types.{Bytes, Fields}
use Rattle.vx_semantics.specs.Tables.{Zones, row_type}
use Rattle.vx_laws_statements.specs.Clauses.{Key}
use Rattle.vx_laws_statements.specs.Statements.{Plan, plan_of}
use Rattle.vx_laws_shell.specs.Running.{End}
use Rattle.vx_laws_shell.specs.Wants.{OrderRefusal, Wanted, in_order, too_many, wanted_by, wanted_in, wanted_of}
use Rattle.vx_sql_lines.specs.Told.{TellsRefusal}
use Rattle.vx_sql_lines.specs.declared.told.ToldError.{ToldError}
use Rattle.vx_sql_lines.specs.declared.told.ToldError.TheVariants as tells
use Rattle.vx_laws_explaining.specs.ExplainingWords.{Asked}
use Rattle.vx_laws_explaining.specs.Explained.{explained_of}
use Rattle.vx_laws_explaining.specs.Explanations.{unplanned, unwanted, explained_planned, explained_wanted, explanation_in, explanation_of}
use Rattle.vx_laws_explaining.specs.Explaining.{error_line, unwanted_line}
use Rattle.vx_explaining.specs.ExplainingSteps.{AnswersWanted, ExplainsZones, RefusesStatement, Writes}
use Rattle.vx_explaining.specs.PlanSteps.{ExplainsPlan, IsLineOf, TellsCount}
use Rattle.vx_explaining.specs.Refusals.{piece_refusal, refusal_line, refusal_status}
use Rattle.vx_explaining.specs.declared.errors.PieceError.{PieceError}
use Rattle.vx_explaining.specs.declared.errors.PieceError.TheVariants as pieces
use Rattle.vx_explaining.specs.declared.errors.Refusal.{Refusal}
use Rattle.vx_explaining.specs.declared.errors.Refusal.TheVariants as refusals

-- the explanation of a plan whose rows are wanted
pub explanation_is : (zones : Zones) (asked : Asked) (plan : Plan) (wanted : Wanted) → plan_of (row_type zones.columns) asked.statement ≡ Ok plan
    → wanted_of zones.columns plan ≡ Ok wanted → explanation_of zones asked ≡ Ok (explanation_in asked.form (explained_of zones plan))
explanation_is zones asked plan wanted h k = ap (explained_planned asked.form zones) h ∙ ap (explained_wanted asked.form zones plan) k

pub plan_explained : (zones : Zones) (asked : Asked) (text : Bytes) (o p : End) (result : Result (Unit {0}) Refusal) → explanation_of zones asked ≡ Ok text
    → ExplainsPlan text o p result → ExplainsZones zones asked o p result
plan_explained zones asked text o p (Ok done) is h = (text, is, h)
plan_explained zones asked text o p (Err refusals.NoMemory) is h = inr (text, is, h)
plan_explained zones asked text o p (Err refusals.Unwritten) is h = (text, is, h.0, h.1)
plan_explained zones asked text o p (Err _) is h = absurd h

-- a plan whose rows aren't wanted
unwanted_so : (zones : Zones) (asked : Asked) (plan : Plan) (o : End) (why : OrderRefusal) (refusal : Refusal)
    → plan_of (row_type zones.columns) asked.statement ≡ Ok plan → wanted_of zones.columns plan ≡ Err why → refusal_status refusal ≡ 4
    → refusal_line refusal ≡ Some (unwanted_line why) → RefusesStatement zones asked o o refusal
unwanted_so zones asked plan o why refusal h k status line = (
  unwanted why,
  ap (explained_planned asked.form zones) h ∙ ap (explained_wanted asked.form zones plan) k,
  refl,
  record { status = status; line = line },
)

pub plan_unwanted : (zones : Zones) (asked : Asked) (plan : Plan) (o : End) (refusal : Refusal) → plan_of (row_type zones.columns) asked.statement ≡ Ok plan
    → AnswersWanted (wanted_of zones.columns plan) (Err refusal) → ExplainsZones zones asked o o (Err refusal)
plan_unwanted zones asked plan o refusals.NoMemory h k = inl refl
plan_unwanted zones asked plan o refusals.Unwritten h k = let no : ⊥ = omega (arith, k.2) in absurd no
plan_unwanted zones asked plan o refusals.Usage h k = unwanted_so zones asked plan o k.0 refusals.Usage h k.1 k.2 k.3
plan_unwanted zones asked plan o (refusals.NotOpened l) h k = unwanted_so zones asked plan o k.0 (refusals.NotOpened l) h k.1 k.2 k.3
plan_unwanted zones asked plan o refusals.Unlisted h k = unwanted_so zones asked plan o k.0 refusals.Unlisted h k.1 k.2 k.3
plan_unwanted zones asked plan o refusals.Unread h k = unwanted_so zones asked plan o k.0 refusals.Unread h k.1 k.2 k.3
plan_unwanted zones asked plan o (refusals.NoTable e) h k = unwanted_so zones asked plan o k.0 (refusals.NoTable e) h k.1 k.2 k.3
plan_unwanted zones asked plan o refusals.BadMagic h k = unwanted_so zones asked plan o k.0 refusals.BadMagic h k.1 k.2 k.3
plan_unwanted zones asked plan o refusals.BadHeader h k = unwanted_so zones asked plan o k.0 refusals.BadHeader h k.1 k.2 k.3
plan_unwanted zones asked plan o refusals.BadZones h k = unwanted_so zones asked plan o k.0 refusals.BadZones h k.1 k.2 k.3
plan_unwanted zones asked plan o refusals.BadEnd h k = unwanted_so zones asked plan o k.0 refusals.BadEnd h k.1 k.2 k.3
plan_unwanted zones asked plan o (refusals.Mixed l) h k = unwanted_so zones asked plan o k.0 (refusals.Mixed l) h k.1 k.2 k.3
plan_unwanted zones asked plan o (refusals.Statement l) h k = unwanted_so zones asked plan o k.0 (refusals.Statement l) h k.1 k.2 k.3
plan_unwanted zones asked plan o refusals.Unlimited h k = unwanted_so zones asked plan o k.0 refusals.Unlimited h k.1 k.2 k.3

-- more rows are wanted by a key than can be held
pub too_many_told : (count : ℕ) (given : Result Wanted OrderRefusal) (refusal : Refusal) → given ≡ Err (too_many count) → TellsCount count refusal
    → AnswersWanted given (Err refusal)
too_many_told count given refusals.NoMemory h k = tt
too_many_told count given (refusals.Statement line) h k = (too_many count, h, refl, ap Some k)
too_many_told count given _ h k = absurd k

-- a statement that isn't taken
pub unplanned_told : (zones : Zones) (asked : Asked) (o : End) (error : ToldError) (refusal : Refusal)
    → TellsRefusal asked.statement (row_type zones.columns) (plan_of (row_type zones.columns) asked.statement) error → IsLineOf error refusal
    → ExplainsZones zones asked o o (Err refusal)
unplanned_told zones asked o error refusals.NoMemory told h = inl refl
unplanned_told zones asked o (tells.Refused line) (refusals.Statement whole) told h = (
  unplanned told.0,
  ap (explained_planned asked.form zones) told.1,
  refl,
  record { status = refl; line = ap Some (h ∙ ap error_line told.2) },
)
unplanned_told zones asked o tells.NoMemory (refusals.Statement whole) told h = absurd h
unplanned_told zones asked o error _ told h = absurd h

-- what is written of an explanation that isn't written whole
pub piece_explained : (text : Bytes) (o p : End) (e : PieceError) → Writes text o p (Err e) → ExplainsPlan text o p (Err (piece_refusal e))
piece_explained text o p pieces.NoMemory h = h
piece_explained text o p pieces.Unwritten h = h

-- what a plan with a key wants
pub wanted_keyed : (columns : Fields) (plan : Plan) (key : Key) → plan.order ≡ Some key → wanted_of columns plan ≡ wanted_by columns plan key plan.limit
unfolding wanted_of
wanted_keyed columns plan key h = ap (λ (order : Option Key). wanted_in columns plan order) h

-- and one without
pub wanted_unkeyed : (columns : Fields) (plan : Plan) → plan.order ≡ None → wanted_of columns plan ≡ Ok (in_order plan.limit)
unfolding wanted_of
wanted_unkeyed columns plan h = ap (λ (order : Option Key). wanted_in columns plan order) h
