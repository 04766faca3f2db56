-- The steps of a run, put together.
use Rattle.std.proofs.Common.{◌≡◌, refl, ap, sym, ◌∙◌, inl, inr, ℕ, ◌+◌, ◌≤◌, Option, Some, None, Result, Ok, Err, List, arith}
use Rattle.vx_dtype.specs.Types.{Bytes, no_fields}
use Rattle.vx_semantics.specs.Tables.{Zones, row_type}
use Rattle.vx_io.specs.Counts.{one_more}
use Rattle.vx_io.specs.Ends.{TookPart}
use Rattle.vx_io.specs.declared.reading.InputError.{InputError}
use Rattle.vx_io.specs.declared.reading.InputError.TheVariants as inputs
use Rattle.vx_request.specs.RequestViews.{RequestAnswers, told_view}
use Rattle.vx_request.specs.Requests.{most_bytes}
use Rattle.vx_request.specs.Tables.{ToldTable, told_table}
use Rattle.vx_request.specs.declared.errors.RequestError.{RequestError}
use Rattle.vx_request.specs.declared.errors.RequestError.TheVariants as requests
use Rattle.vx_laws_statements.specs.TableNames.{table_named}
use Rattle.vx_sql_lines.specs.Told.{TellsRefusal}
use Rattle.vx_sql_lines.specs.declared.told.ToldError.{ToldError}
use Rattle.vx_sql_lines.specs.declared.told.ToldError.TheVariants as tells
use Rattle.vx_laws_shell.specs.Origins.{Origin, standard_input, origin_of}
use Rattle.vx_laws_shell.specs.Paths.{Paths}
use Rattle.vx_laws_shell.specs.Running.{End}
use Rattle.vx_laws_explaining.specs.ExplainingWords.{Asked, explaining_asked_of}
use Rattle.vx_laws_explaining.specs.Explanations.{explanation_of}
use Rattle.vx_laws_explaining.specs.Explaining as ends
use Rattle.vx_laws_explaining.specs.Explaining.{AreAskedZones, AskOrigin, AskTable, ExplainingEnd, IsAskedText, TakesTable, error_line}
use Rattle.vx_explaining.specs.ExplainingSteps.{AnswersWords, ExplainsZones, RefusesStatement}
use Rattle.vx_explaining.specs.PlanSteps.{IsLineOf}
use Rattle.vx_explaining.specs.Refusals.{TellsEnd, input_refusal, refusal_line, refusal_status, table_refusal}
use Rattle.vx_explaining.specs.declared.errors.Refusal.{Refusal}
use Rattle.vx_explaining.specs.declared.errors.Refusal.TheVariants as refusals

-- ---- nothing is taken, and nothing is written

pub took_nothing : (most : ℕ) (at : Option Bytes) → TookPart most at at
took_nothing most None = refl
took_nothing most (Some all) = (0, omega arith, omega arith, refl)

-- a refusal is told as itself
pub as_told : (end : ExplainingEnd) (refusal : Refusal) → refusal_status refusal ≡ ends.explaining_status end → refusal_line refusal ≡ ends.explaining_told end
    → TellsEnd end refusal
as_told end refusal s l = record { status = s; line = l }

pub no_room : (words : List Bytes) (paths : Paths) (i j o : End) → TookPart (most_bytes + 1) i.bytes j.bytes
    → AnswersWords words paths i j o o (Err refusals.NoMemory)
no_room words paths i j o part = (ends.without_memory, (part, inl refl), as_told ends.without_memory refusals.NoMemory refl refl)

-- ---- zones

asked_text : (words : List Bytes) (paths : Paths) (i j : End) (asked : Asked) (zones : Zones) (text : Bytes) → AreAskedZones words paths i j asked zones
    → explanation_of zones asked ≡ Ok text → IsAskedText words paths i j text
asked_text words paths i j asked zones text are is = record { asked = asked; zones = zones; are = are; text_is = is }

refused : (words : List Bytes) (paths : Paths) (i j o p : End) (asked : Asked) (zones : Zones) (refusal : Refusal) → AreAskedZones words paths i j asked zones
    → RefusesStatement zones asked o p refusal → AnswersWords words paths i j o p (Err refusal)
refused words paths i j o p asked zones refusal are h =
    (ends.unexplained asked.statement zones.columns h.0, (asked, zones, are, refl, refl, h.1, h.2), h.3)

-- what is answered over the zones that the words ask
pub zones_answer : (words : List Bytes) (paths : Paths) (i j o p : End) (asked : Asked) (zones : Zones) (result : Result (Unit {0}) Refusal)
    → TookPart (most_bytes + 1) i.bytes j.bytes → AreAskedZones words paths i j asked zones → ExplainsZones zones asked o p result
    → AnswersWords words paths i j o p result
zones_answer words paths i j o p asked zones (Ok done) part are h = (h.0, asked_text words paths i j asked zones h.0 are h.1, h.2)
zones_answer words paths i j o p asked zones (Err refusals.NoMemory) part are (inl same) =
    (ends.without_memory, (part, inl same), as_told ends.without_memory refusals.NoMemory refl refl)
zones_answer words paths i j o p asked zones (Err refusals.NoMemory) part are (inr h) = (
  ends.without_memory,
  (part, inr (h.0, asked_text words paths i j asked zones h.0 are h.1, h.2)),
  as_told ends.without_memory refusals.NoMemory refl refl,
)
zones_answer words paths i j o p asked zones (Err refusals.Unwritten) part are h =
    (ends.unwritten, (h.0, asked_text words paths i j asked zones h.0 are h.1, h.2, h.3), as_told ends.unwritten refusals.Unwritten refl refl)
zones_answer words paths i j o p asked zones (Err refusals.Usage) part are h = refused words paths i j o p asked zones refusals.Usage are h
zones_answer words paths i j o p asked zones (Err (refusals.NotOpened l)) part are h = refused words paths i j o p asked zones (refusals.NotOpened l) are h
zones_answer words paths i j o p asked zones (Err refusals.Unlisted) part are h = refused words paths i j o p asked zones refusals.Unlisted are h
zones_answer words paths i j o p asked zones (Err refusals.Unread) part are h = refused words paths i j o p asked zones refusals.Unread are h
zones_answer words paths i j o p asked zones (Err (refusals.NoTable e)) part are h = refused words paths i j o p asked zones (refusals.NoTable e) are h
zones_answer words paths i j o p asked zones (Err refusals.BadMagic) part are h = refused words paths i j o p asked zones refusals.BadMagic are h
zones_answer words paths i j o p asked zones (Err refusals.BadHeader) part are h = refused words paths i j o p asked zones refusals.BadHeader are h
zones_answer words paths i j o p asked zones (Err refusals.BadZones) part are h = refused words paths i j o p asked zones refusals.BadZones are h
zones_answer words paths i j o p asked zones (Err refusals.BadEnd) part are h = refused words paths i j o p asked zones refusals.BadEnd are h
zones_answer words paths i j o p asked zones (Err (refusals.Mixed l)) part are h = refused words paths i j o p asked zones (refusals.Mixed l) are h
zones_answer words paths i j o p asked zones (Err (refusals.Statement l)) part are h = refused words paths i j o p asked zones (refusals.Statement l) are h
zones_answer words paths i j o p asked zones (Err refusals.Unlimited) part are h = refused words paths i j o p asked zones refusals.Unlimited are h

-- ---- the standard input

untold : (words : List Bytes) (paths : Paths) (i j o : End) (asked : Asked) (input : Bytes) (e : RequestError) → TakesTable words i j asked input
    → told_table input ≡ Err e → AnswersWords words paths i j o o (Err (refusals.NoTable e))
untold words paths i j o asked input e takes h =
    (ends.untold e, (asked, input, takes, h, refl), as_told (ends.untold e) (refusals.NoTable e) refl refl)

-- bytes that tell no table, or for which there was no memory
abbrev pub IsUntold : Bytes → RequestError → Type 0
IsUntold input requests.NoMemory = Unit {0}
IsUntold input e = told_table input ≡ Err e

pub untold_so : (input : Bytes) (e : RequestError) → RequestAnswers told_view (told_table input) (Err e) → IsUntold input e
untold_so input requests.NoMemory h = tt
untold_so input requests.InputTooLong h = h
untold_so input requests.BadJson h = h
untold_so input (requests.BadRequest place) h = h
untold_so input (requests.BadHex side) h = h
untold_so input (requests.BadTable r) h = h

pub untold_answer : (words : List Bytes) (paths : Paths) (i j o : End) (asked : Asked) (input : Bytes) (e : RequestError)
    → TookPart (most_bytes + 1) i.bytes j.bytes → TakesTable words i j asked input → IsUntold input e
    → AnswersWords words paths i j o o (Err (table_refusal e))
untold_answer words paths i j o asked input requests.NoMemory part takes h = no_room words paths i j o part
untold_answer words paths i j o asked input requests.InputTooLong part takes h = untold words paths i j o asked input requests.InputTooLong takes h
untold_answer words paths i j o asked input requests.BadJson part takes h = untold words paths i j o asked input requests.BadJson takes h
untold_answer words paths i j o asked input (requests.BadRequest place) part takes h = untold words paths i j o asked input (requests.BadRequest place) takes h
untold_answer words paths i j o asked input (requests.BadHex side) part takes h = untold words paths i j o asked input (requests.BadHex side) takes h
untold_answer words paths i j o asked input (requests.BadTable r) part takes h = untold words paths i j o asked input (requests.BadTable r) takes h

-- the table that bytes tell
pub told_zones : (words : List Bytes) (paths : Paths) (i j : End) (asked : Asked) (input : Bytes) (told : ToldTable) → TakesTable words i j asked input
    → told_table input ≡ Ok told → AreAskedZones words paths i j asked told.zones
told_zones words paths i j asked input told takes h = inl (input, told, takes, h, refl)

-- an input that isn't read
pub input_answer : (words : List Bytes) (paths : Paths) (i j o : End) (asked : Asked) (e : InputError) → AskOrigin words asked standard_input
    → TookPart (most_bytes + 1) i.bytes j.bytes → (e ≡ inputs.ReadFault → one_more i.faults ≤ j.faults)
    → AnswersWords words paths i j o o (Err (input_refusal e))
input_answer words paths i j o asked inputs.NoMemory asks part risen = no_room words paths i j o part
input_answer words paths i j o asked inputs.ReadFault asks part risen =
    (ends.unread, (inl (asked, asks, part, risen refl), refl), as_told ends.unread refusals.Unread refl refl)

-- ---- the table that a statement names

pub ask_origin : (words : List Bytes) (asked : Asked) (name : Bytes) (origin : Origin) → AskTable words asked name → origin ≡ origin_of name
    → AskOrigin words asked origin
ask_origin words asked name origin asks is = record { name = name; asks = asks; is = sym is }

-- a statement that names no table
pub unnamed_answer : (words : List Bytes) (paths : Paths) (i o : End) (asked : Asked) (error : ToldError) (refusal : Refusal)
    → explaining_asked_of words ≡ Some asked → TellsRefusal asked.statement (row_type no_fields) (table_named asked.statement) error → IsLineOf error refusal
    → AnswersWords words paths i i o o (Err refusal)
unnamed_answer words paths i o asked error refusals.NoMemory form told h = no_room words paths i i o (took_nothing (most_bytes + 1) i.bytes)
unnamed_answer words paths i o asked (tells.Refused line) (refusals.Statement whole) form told h = (
  ends.unnamed asked.statement told.0,
  (asked, form, refl, told.1, refl, refl),
  as_told (ends.unnamed asked.statement told.0) (refusals.Statement whole) refl (ap Some (h ∙ ap error_line told.2)),
)
unnamed_answer words paths i o asked tells.NoMemory (refusals.Statement whole) form told h = absurd h
unnamed_answer words paths i o asked error _ form told h = absurd h

-- words of no form
pub misused_answer : (words : List Bytes) (paths : Paths) (i o : End) → explaining_asked_of words ≡ None
    → AnswersWords words paths i i o o (Err refusals.Usage)
misused_answer words paths i o form = (ends.misused, (form, refl, refl), as_told ends.misused refusals.Usage refl refl)
