-- Which forms the program's words are of: the first two of them say it.
use Rattle.std.specs.Prelude.{◌||◌, ◌&&◌, Bool, cond, List, [], ◌∷◌, codes}
use Rattle.std.specs.Str.{bytes_eq}
use Rattle.vx_dtype.specs.Types.{Bytes}
use Rattle.vx_program.specs.declared.words.Words.{Words}
use Rattle.vx_program.specs.declared.words.Words.TheVariants.{Requests, Writing, Statements, Explaining, Listing, Help, Version}

-- no argument of a request is the first word of another form, but `explain`
abbrev pub words_named : Bytes → Words
words_named word =
    cond (bytes_eq word (codes "write")) Writing (
    cond (bytes_eq word (codes "sql")) Statements (
    cond (bytes_eq word (codes "blocks")) Listing Requests))

-- whether a word alone asks the forms
abbrev pub is_help : Bytes → Bool
is_help word = bytes_eq word (codes "--help") || (bytes_eq word (codes "-h") || bytes_eq word (codes "help"))

abbrev pub words_alone : Bytes → Words
words_alone word = cond (is_help word) Help (cond (bytes_eq word (codes "-V")) Version (words_named word))

abbrev pub words_two : Bytes → Bytes → Words
words_two word next = cond (bytes_eq word (codes "explain") && bytes_eq next (codes "sql")) Explaining (words_named word)

abbrev pub words_of : List Bytes → Words
words_of [] = Requests
words_of (word ∷ []) = words_alone word
words_of (word ∷ next ∷ words) = words_two word next
