-- What the steps of a run answer: the pieces that are written, the plan that is explained, and the end of the run.
use Rattle.std.specs.Prelude.{◌≡◌, ◌⊎◌, ◌≤◌, List, Some, Result, Ok, Err}
use Rattle.vx_dtype.specs.Types.{Bytes}
use Rattle.vx_semantics.specs.Tables.{Zones}
use Rattle.vx_io.specs.Counts.{one_more}
use Rattle.vx_io.specs.Ends.{Added, AddedPrefix}
use Rattle.vx_laws_shell.specs.Paths.{Paths}
use Rattle.vx_laws_shell.specs.Running.{End}
use Rattle.vx_laws_shell.specs.Wants.{OrderRefusal, Wanted}
use Rattle.vx_laws_explaining.specs.ExplainingWords.{Asked}
use Rattle.vx_laws_explaining.specs.Explanations.{Unexplained, explanation_of}
use Rattle.vx_laws_explaining.specs.Explaining.{ExplainingEnd, unexplained, explained, IsExplainingEnd, unwanted_line}
use Rattle.vx_explaining.specs.Refusals.{TellsEnd, refusal_line, refusal_status}
use Rattle.vx_explaining.specs.declared.errors.PieceError.{PieceError}
use Rattle.vx_explaining.specs.declared.errors.PieceError.TheVariants as pieces
use Rattle.vx_explaining.specs.declared.errors.Refusal.{Refusal}
use Rattle.vx_explaining.specs.declared.errors.Refusal.TheVariants as refusals

-- a text is written whole, or its first bytes are
abbrev pub Writes : Bytes → End → End → Result (Unit {0}) PieceError → Type 0
Writes text before after (Ok done) = Added before.bytes after.bytes text
Writes text before after (Err pieces.NoMemory) = AddedPrefix before.bytes after.bytes text
Writes text before after (Err pieces.Unwritten) = AddedPrefix before.bytes after.bytes text × (one_more before.faults ≤ after.faults)

-- and no fault of the output is taken back
pub record WritesText (text : Bytes) (before after : End) (result : Result (Unit {0}) PieceError) : Type 0 where
  pub later : before.faults ≤ after.faults
  pub writes : Writes text before after result

-- the rows of a plan are wanted, or why they aren't; want of memory may be answered at any time
abbrev pub AnswersWanted : Result Wanted OrderRefusal → Result (Unit {0}) Refusal → Type 0
AnswersWanted given (Ok done) = (wanted : Wanted) × (given ≡ Ok wanted)
AnswersWanted given (Err refusals.NoMemory) = Unit {0}
AnswersWanted given (Err refusal) =
    (why : OrderRefusal) × (given ≡ Err why) × (refusal_status refusal ≡ 4) × (refusal_line refusal ≡ Some (unwanted_line why))

-- why a statement isn't explained over zones: a refusal tells it, and nothing is written
abbrev pub RefusesStatement : Zones → Asked → End → End → Refusal → Type 0
RefusesStatement zones asked before after refusal =
    (r : Unexplained) × (explanation_of zones asked ≡ Err r) × (after ≡ before) × TellsEnd (unexplained asked.statement zones.columns r) refusal

-- what is asked is explained over zones, or why it isn't
abbrev pub ExplainsZones : Zones → Asked → End → End → Result (Unit {0}) Refusal → Type 0
ExplainsZones zones asked before after (Ok done) =
    (text : Bytes) × (explanation_of zones asked ≡ Ok text) × Added before.bytes after.bytes text
ExplainsZones zones asked before after (Err refusals.NoMemory) =
    (after ≡ before) ⊎ ((text : Bytes) × (explanation_of zones asked ≡ Ok text) × AddedPrefix before.bytes after.bytes text)
ExplainsZones zones asked before after (Err refusals.Unwritten) =
    (text : Bytes) × (explanation_of zones asked ≡ Ok text) × AddedPrefix before.bytes after.bytes text × (one_more before.faults ≤ after.faults)
ExplainsZones zones asked before after (Err refusal) = RefusesStatement zones asked before after refusal

-- how the words are answered: the explanation is written, or a refusal tells how the run ends
abbrev pub AnswersWords : List Bytes → Paths → End → End → End → End → Result (Unit {0}) Refusal → Type 0
AnswersWords words paths i j o p (Ok done) = IsExplainingEnd words paths i j o p explained
AnswersWords words paths i j o p (Err refusal) = (end : ExplainingEnd) × IsExplainingEnd words paths i j o p end × TellsEnd end refusal
