-- Runs of the program over memory: its words and its input are bytes, and so is what it writes.
use Rattle.std.specs.Prelude.{◌==◌, cond, List, [], Option, Some, None}
use Rattle.std.specs.List.{slice_split}
use Rattle.std.specs.Str.{is_utf8}
use Rattle.vx_dtype.specs.Types.{Bytes}
use Rattle.vx_scan.specs.Stores.{StoreSeen}
use Rattle.vx_query.specs.Running.{End, Form, IsRun, form_of}
use Rattle.vx_calls.specs.Answers.{Told}

-- the words that a text is, with a byte 0 between any two
abbrev pub words_of : Bytes → List Bytes
words_of text = slice_split (λ b. b == 0) text

-- the form of the words that bytes are; they have none where they aren't UTF-8
abbrev pub form_in : Bytes → Option Form
form_in words = cond (is_utf8 words) (form_of (words_of words)) None

-- an end of the program in memory, without faults
abbrev pub in_memory : Bytes → End
in_memory bytes = record { bytes = Some bytes; faults = 0 }

-- a run of a form over an input: its exit status, and what it wrote
pub record IsRunOf (form : Option Form) (input : Bytes) (told : Told) : Type 0 where
  pub left : End
  pub used : Option StoreSeen
  pub run : IsRun form (in_memory input) left (in_memory []) (in_memory told.bytes) used told.status

-- a run of words over an input
abbrev pub IsMemoryRun : Bytes → Bytes → Told → Type 0
IsMemoryRun words input told = IsRunOf (form_in words) input told
