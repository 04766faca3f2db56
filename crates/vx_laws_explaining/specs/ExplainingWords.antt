-- What the words of `explain sql` ask: a statement, and the form in which it is explained.
use Rattle.std.specs.Prelude.{◌&&◌, cond, List, [], ◌∷◌, codes, Option, Some, None, option_map}
use Rattle.std.specs.Str.{bytes_eq}
use Rattle.vx_dtype.specs.Types.{Bytes}

-- the form of an explanation: lines of text, an object of JSON in a line, or a picture
pub data Form : Type 0 where
  as_text : Form
  as_json : Form
  as_picture : Form

-- what words ask: a statement, and in which form it is explained
pub record Asked : Type 0 where
  pub statement : Bytes
  pub form : Form

abbrev pub asked_in : Bytes → Form → Asked
asked_in statement form = record { statement = statement; form = form }

-- the form that an option names
abbrev pub form_of_word : Bytes → Option Form
form_of_word word = cond (bytes_eq word (codes "--json")) (Some as_json) (cond (bytes_eq word (codes "--svg")) (Some as_picture) None)

-- what is asked behind `explain sql` by a statement, and by an option where there is one
abbrev pub asked_behind : List Bytes → Option Asked
asked_behind (statement ∷ []) = Some (asked_in statement as_text)
asked_behind (statement ∷ option ∷ []) = option_map (asked_in statement) (form_of_word option)
asked_behind _ = None

-- what words ask; none where they have not this form
unfoldable pub explaining_asked_of : List Bytes → Option Asked
explaining_asked_of (first ∷ second ∷ words) = cond (bytes_eq first (codes "explain") && bytes_eq second (codes "sql")) (asked_behind words) None
explaining_asked_of _ = None
