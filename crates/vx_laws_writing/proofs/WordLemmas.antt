-- The rows that words of `write` name are at least one.
use Rattle.std.proofs.Common.{◌≡◌, refl, subst, ℕ, ◌<◌, nat_le, Bool, true, false, cond, ◌&&◌, ◌||◌, is_some, List, [], ◌∷◌, Option, Some, None, option_map, codes, arith}
use Rattle.std.specs.Option.{option_and_then}
use Rattle.std.specs.Str.{bytes_eq}
use Rattle.std.proofs.lemmas.Bool.{and_parts}
use Rattle.std.proofs.lemmas.Bool.Decides.{nat_tests}
use Rattle.vx_dtype.specs.Types.{Bytes, Fields}
use Rattle.vx_laws_file.specs.FileForms.{most_rows}
use Rattle.vx_laws_shell.specs.Words.{number_of_word}
use Rattle.vx_laws_writing.specs.WriteWords.{of_json, WriteAsk, Options, no_options, rows_within, rows_of_word, and_force, and_rows, and_null, and_types, and_option, is_force_word, options_behind}
use Rattle.vx_laws_writing.specs.WriteWords.{write_json, write_csv_at, write_csv, columns_asked, is_csv_word, json_behind, csv_behind, write_behind, write_asked_of}
use Rattle.vx_laws_writing.specs.WriteLaws.{Cuts}

-- options whose rows cut, and what is asked that does
abbrev OptionsCut : Option Options → Type 0
OptionsCut None = Unit {0}
OptionsCut (Some o) = Cuts o.rows

abbrev AllCut : Option WriteAsk → Type 0
AllCut None = Unit {0}
AllCut (Some ask) = Cuts ask.rows

either_cuts : (b : Bool) (x y : Option Options) → OptionsCut x → OptionsCut y → OptionsCut (cond b x y)
either_cuts true x y h k = h
either_cuts false x y h k = k

unless_cuts : (b : Bool) (ask : WriteAsk) → Cuts ask.rows → AllCut (cond b None (Some ask))
unless_cuts true ask h = tt
unless_cuts false ask h = h

-- one more option
some_row : (n : ℕ) → nat_le 1 n ≡ true → 0 < n
some_row n h = grind (arith, nat_tests)

tested_cuts : (o : Options) (n : ℕ) (b : Bool) → (b ≡ true → 0 < n) → OptionsCut (option_map (λ m. record o { rows = Some m }) (cond b (Some n) None))
tested_cuts o n true h = h refl
tested_cuts o n false h = tt

number_cuts : (o : Options) (found : Option ℕ) → OptionsCut (option_map (λ m. record o { rows = Some m }) (option_and_then rows_within found))
number_cuts o None = tt
number_cuts o (Some n) = tested_cuts o n (nat_le 1 n && nat_le n most_rows) (λ h. some_row n (and_parts (nat_le 1 n) (nat_le n most_rows) h).0)

force_cuts : (o : Options) → Cuts o.rows → OptionsCut (and_force o)
force_cuts o h = either_cuts o.replaces None (Some (record o { replaces = true })) tt h

option_cuts : (o : Options) (option word : Bytes) → Cuts o.rows → OptionsCut (and_option o option word)
option_cuts o option word h =
    let types = cond (bytes_eq option (codes "--types")) (and_types o word) None in
    either_cuts (bytes_eq option (codes "--rows")) (and_rows o word) (cond (bytes_eq option (codes "--null")) (and_null o word) types)
    (either_cuts (is_some o.rows) None (option_map (λ n. record o { rows = Some n }) (rows_of_word word)) tt (number_cuts o (number_of_word word)))
    (either_cuts (bytes_eq option (codes "--null")) (and_null o word) types (either_cuts (is_some o.null) None (Some (record o { null = Some word })) tt h)
    (either_cuts (bytes_eq option (codes "--types")) (and_types o word) None (either_cuts (is_some o.types) None (Some (record o { types = Some word })) tt h) tt))

then_cuts : (found : Option Options) (next : Options → Option Options) → OptionsCut found → ((o : Options) → Cuts o.rows → OptionsCut (next o)) → OptionsCut (option_and_then next found)
then_cuts None next h more = tt
then_cuts (Some o) next h more = more o h

options_cut : (words : List Bytes) (o : Options) → Cuts o.rows → OptionsCut (options_behind o words)
unfolding options_behind
options_cut [] o h = h
options_cut (option ∷ []) o h = either_cuts (is_force_word option) (and_force o) None (force_cuts o h) tt
options_cut (option ∷ word ∷ words) o h =
    either_cuts (is_force_word option) (option_and_then (λ more. options_behind more (word ∷ words)) (and_force o))
    (option_and_then (λ more. options_behind more words) (and_option o option word))
    (then_cuts (and_force o) (λ more. options_behind more (word ∷ words)) (force_cuts o h) (options_cut (word ∷ words)))
    (then_cuts (and_option o option word) (λ more. options_behind more words) (option_cuts o option word h) (options_cut words))

-- what is asked
columns_cut : (path : Bytes) (o : Options) (columns : Option (Option Fields)) → Cuts o.rows → AllCut (option_map (write_csv_at path o) columns)
columns_cut path o None h = tt
columns_cut path o (Some fs) h = h

asked_cut : (found : Option Options) (next : Options → Option WriteAsk) → OptionsCut found → ((o : Options) → Cuts o.rows → AllCut (next o)) → AllCut (option_and_then next found)
asked_cut None next h more = tt
asked_cut (Some o) next h more = more o h

json_cut : (path : Bytes) (words : List Bytes) → AllCut (json_behind path words)
json_cut path words =
    asked_cut (options_behind no_options words) (write_json path) (options_cut words no_options tt)
    (λ o h. unless_cuts (is_some o.null || is_some o.types) (record { path = path; form = of_json; rows = o.rows; replaces = o.replaces }) h)

csv_cut : (path : Bytes) (words : List Bytes) → AllCut (csv_behind path words)
csv_cut path words = asked_cut (options_behind no_options words) (write_csv path) (options_cut words no_options tt) (λ o h. columns_cut path o (columns_asked o.types) h)

choice_cuts : (b : Bool) (x y : Option WriteAsk) → AllCut x → AllCut y → AllCut (cond b x y)
choice_cuts true x y h k = h
choice_cuts false x y h k = k

behind_cut : (words : List Bytes) → AllCut (write_behind words)
behind_cut [] = tt
behind_cut (path ∷ []) = json_cut path []
behind_cut (path ∷ word ∷ words) = choice_cuts (is_csv_word word) (csv_behind path words) (json_behind path (word ∷ words)) (csv_cut path words) (json_cut path (word ∷ words))

words_cut : (words : List Bytes) → AllCut (write_asked_of words)
unfolding write_asked_of
words_cut [] = tt
words_cut (word ∷ words) = choice_cuts (bytes_eq word (codes "write")) (write_behind words) None (behind_cut words) tt

pub asked_cuts : (words : List Bytes) (ask : WriteAsk) → write_asked_of words ≡ Some ask → Cuts ask.rows
asked_cuts words ask h = subst AllCut h (words_cut words)
