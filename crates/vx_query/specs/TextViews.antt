-- For the checker: no public clause cites this. Texts that answer an input or a word, and the lines of refusals in their place.
use Rattle.std.specs.Prelude.{◌≡◌, ℕ, Option, None, Result, Ok, Err}
use Rattle.std.specs.String.{string_bytes}
use Rattle.std.specs.declared.string.String.{String}
use Rattle.std.specs.declared.alloc.Global.{Global}
use Rattle.vx_dtype.specs.Types.{Bytes}
use Rattle.vx_expr.specs.Trees.{Tree}
use Rattle.vx_explain.specs.Explanations.{explain_text}
use Rattle.vx_request.specs.Requests.{RequestedScan}
use Rattle.vx_request.specs.FileRequests.{RequestedFile}
use Rattle.vx_laws_file.specs.FileForms.{FileContent}
use Rattle.vx_file_query.specs.FileEndings.{FileEnds, file_reported}
use Rattle.vx_query.specs.Running.{End, Form, HoldsScan, HoldsFile, file_line, held_scan, scan_report, WordSpells, Names, HasBytes, bytes_line}
use Rattle.vx_query.specs.Running.{Outcome, IsOutcome, status_of, outcome_text, used_by}
use Rattle.vx_query.specs.RefusalViews.{refusal_status, refusal_text, IsUnanswered, IsFileUnanswered, IsFileUnscanned, IsWordUnshown, IsQueryRefused}
use Rattle.vx_query.specs.declared.refusals.Refusal.{Refusal}

-- the exit status of an answer, and the text that is written
abbrev pub answer_status : Result (String Global) Refusal → ℕ
answer_status (Ok text) = 0
answer_status (Err r) = refusal_status r

abbrev pub answer_text : Result (String Global) Refusal → Bytes
answer_text (Ok text) = string_bytes text
answer_text (Err r) = refusal_text r

-- the explanation of the scan that an input holds
pub record IsExplanation (input text : Bytes) : Type 0 where
  pub asked : RequestedScan
  pub filter : Tree
  pub projection : Tree
  pub holds : HoldsScan input asked filter projection
  pub told : text ≡ explain_text asked.zones filter projection

-- an input is answered by an explanation, or by a refusal
abbrev pub ExplainsInput : Bytes → Result (String Global) Refusal → Type 0
ExplainsInput input (Ok text) = IsExplanation input (string_bytes text)
ExplainsInput input (Err r) = IsUnanswered input r

-- a word is shown so, or is refused
abbrev pub ShowsWord : (Tree → Bytes) → Bytes → Result (String Global) Refusal → Type 0
ShowsWord told word (Ok text) = (e : Tree) × WordSpells word e × (string_bytes text ≡ told e)
ShowsWord told word (Err r) = IsWordUnshown word r

-- a query is answered by the bytes of the expression that it names, or is refused
abbrev pub AnswersQuery : Bytes → Result (String Global) Refusal → Type 0
AnswersQuery query (Ok text) = (e : Tree) × Names query e × HasBytes e × (string_bytes text ≡ bytes_line e)
AnswersQuery query (Err r) = IsQueryRefused query r

-- an input is answered by the block file of its table, or is refused
abbrev pub FilesInput : Bytes → Result (String Global) Refusal → Type 0
FilesInput input (Ok text) = (a : RequestedScan) × HoldsFile input a × (string_bytes text ≡ file_line a)
FilesInput input (Err r) = IsFileUnanswered input r

-- an input is answered by the report of the scan of the block file that it asks, or is refused
abbrev pub ReportsFile : Bytes → Result (String Global) Refusal → Type 0
ReportsFile input (Ok text) =
    (a : RequestedFile) × (content : FileContent) × (f : Tree) × (p : Tree) × FileEnds input (file_reported a content f p)
    × (string_bytes text ≡ scan_report (held_scan a content) f p)
ReportsFile input (Err r) = IsFileUnscanned input r

-- an outcome that an answer stands for; no store is held
pub record IsAnsweredBy (form : Option Form) (before after : End) (answer : Result (String Global) Refusal) : Type 0 where
  pub outcome : Outcome
  pub comes : IsOutcome form before after outcome
  pub status : status_of outcome ≡ answer_status answer
  pub text : outcome_text outcome ≡ answer_text answer
  pub unheld : used_by outcome ≡ None
