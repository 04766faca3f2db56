-- For the checker: no public clause cites this.
-- The reading of a text byte by byte: what each byte makes of what was read before it, by the kit's machine.
use Rattle.std.specs.Prelude.{ℕ, List, [], ◌∷◌, ◌++◌, map, if◌then◌else◌}
use Rattle.csv.specs.Machine.{step, ends_at_end}
use Rattle.csv.specs.Reading.{default_config}
use Rattle.csv.specs.Records.{fields_of, partial_of}
use Rattle.csv.specs.declared.parser.State.{State}
use Rattle.csv.specs.declared.parser.State.TheVariants as st
use Rattle.csv.specs.declared.parser.Action.{Action}
use Rattle.csv.specs.declared.parser.Action.TheVariants as act
use Rattle.vx_dtype.specs.Types.{Bytes}
use Rattle.vx_csv.specs.declared.places.Place.{Place}
use Rattle.vx_csv.specs.declared.places.Place.TheVariants as places
use Rattle.vx_csv.specs.declared.places.Deed.{Deed}
use Rattle.vx_csv.specs.declared.places.Deed.TheVariants as deeds
use Rattle.vx_csv.specs.declared.reading.Reading.{Reading}

-- the state of a place, and the action of a deed
abbrev pub state_of : Place → State
state_of places.Record = st.StartRecord
state_of places.Return = st.AfterCr
state_of places.Cell = st.StartField
state_of places.Plain = st.InField
state_of places.Quoted = st.InQuoted
state_of places.Behind = st.AfterQuote

abbrev pub action_of : Deed → Action
action_of deeds.Skip = act.Skip
action_of deeds.Join = act.Copy
action_of deeds.EndCell = act.EndField
action_of deeds.EndRecord = act.EndRecord

abbrev pub step_view : Place × Deed → State × Action
step_view x = (state_of x.0, action_of x.1)

-- what was read of a text: its records, the cells of the record at hand, the bytes of the cell at hand, and the state
pub record Seen : Type 0 where
  pub records : List (List Bytes)
  pub cells : List Bytes
  pub cell : Bytes
  pub state : State

-- nothing
abbrev pub nothing_read : Seen
nothing_read = record { records = []; cells = []; cell = []; state = st.StartRecord }

-- what a byte that joins the cell makes of it, and one that ends the cell, or the record
abbrev pub joined : ℕ → Seen → Seen
joined c r = record r { cell = r.cell ++ c ∷ [] }

abbrev pub cell_ended : Seen → Seen
cell_ended r = record r { cells = r.cells ++ r.cell ∷ []; cell = [] }

abbrev pub record_ended : Seen → Seen
record_ended r = record r { records = r.records ++ (r.cells ++ r.cell ∷ []) ∷ []; cells = []; cell = [] }

abbrev pub acted : Action → ℕ → Seen → Seen
acted act.Skip c r = r
acted act.Copy c r = joined c r
acted act.EndField c r = cell_ended r
acted act.EndRecord c r = record_ended r

-- what a byte makes of it
abbrev pub taken : Seen → ℕ → Seen
taken r c = record (acted (step default_config r.state c).1 c r) { state = (step default_config r.state c).0 }

-- and a text
unfoldable pub read_behind : Seen → Bytes → Seen
read_behind r [] = r
read_behind r (c ∷ text) = read_behind (taken r c) text

-- what the end of the text makes of it: a record that is at hand is ended
abbrev pub ended : Seen → List (List Bytes)
ended r = if ends_at_end r.state then r.records ++ (r.cells ++ r.cell ∷ []) ∷ [] else r.records

-- what was read, as the code holds it
abbrev pub seen : Reading → Seen
seen r = record { records = map fields_of r.records.items; cells = fields_of r.record; cell = partial_of r.record ++ r.cell.items; state = state_of r.place }
