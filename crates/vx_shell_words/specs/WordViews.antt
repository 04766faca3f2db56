-- How words are seen.
use Rattle.std.specs.Prelude.{ℕ, List, option_map}
use Rattle.std.specs.String.{string_bytes}
use denote.Ref.{Bor}
use Rattle.vx_laws_shell.specs.Words as words
use Rattle.vx_laws_writing.specs.WriteWords as writes
use Rattle.vx_shell_words.specs.declared.asked.BlockRange.{BlockRange}
use Rattle.vx_shell_words.specs.declared.asked.Asked.{Asked}
use Rattle.vx_shell_words.specs.declared.writes.Options.{Options}
use Rattle.vx_shell_words.specs.declared.writes.InputForm.{InputForm}
use Rattle.vx_shell_words.specs.declared.writes.InputForm.TheVariants as forms
use Rattle.vx_shell_words.specs.declared.writes.WriteAsk.{WriteAsk}

-- blocks, one behind another
abbrev pub range_view : BlockRange → words.BlockRange
range_view range = record { from = range.from; up_to = range.up_to }

-- what words ask
abbrev pub asked_view : Asked → words.Asked
asked_view asked = record { statement = asked.statement.now; counts = asked.counts; blocks = option_map range_view asked.blocks }

-- what options of `write` say
abbrev pub text_word : Bor (List ℕ) → List ℕ
text_word word = word.now

abbrev pub options_view : Options → writes.Options
options_view o = record { rows = o.rows; null = option_map text_word o.null; types = option_map text_word o.types; replaces = o.replaces }

-- what words ask of the table on the standard input
abbrev pub form_view : InputForm → writes.InputForm
form_view forms.Json = writes.of_json
form_view (forms.Csv null columns) = writes.of_csv (string_bytes null) columns

abbrev pub write_view : WriteAsk → writes.WriteAsk
write_view ask = record { path = string_bytes ask.path; form = form_view ask.form; rows = ask.rows; replaces = ask.replaces }
