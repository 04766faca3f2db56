-- Texts between marks, and names, as they are written.
use Rattle.std.specs.Prelude.{ℕ, ◌==◌, Bool, true, false, ◌&&◌, List, [], ◌∷◌, ◌++◌, Option, Some, None, if◌then◌else◌, codes}
use Rattle.std.specs.List.{flat_map, list_all}
use Rattle.vx_dtype.specs.Types.{Bytes}
use Rattle.vx_tokens.specs.declared.tokens.Keyword.{Keyword}
use Rattle.vx_tokens.specs.Tokens.{is_first, is_inner, keyword_of}

-- a text between two marks, each mark in it twice
abbrev pub doubled : ℕ → ℕ → Bytes
doubled mark b = if b == mark then mark ∷ mark ∷ [] else b ∷ []

abbrev pub within_marks : ℕ → Bytes → Bytes
within_marks mark s = mark ∷ [] ++ (flat_map (doubled mark) s ++ mark ∷ [])

-- whether a name can be a word: it has the characters of one, and isn't reserved
abbrev pub is_word : Bytes → Bool
is_word [] = false
is_word (b ∷ s) = is_first b && list_all is_inner s

abbrev pub is_free : Option Keyword → Bool
is_free (Some k) = false
is_free None = true

abbrev pub is_plain_word : Bytes → Bool
is_plain_word s = is_word s && is_free (keyword_of s)

-- a name: a word where it can be one, else between `"`
unfoldable pub name_text : Bytes → Bytes
name_text s = if is_plain_word s then s else within_marks 34 s

-- names, the first behind the separator, each other one behind `, `
unfoldable pub names_text : Bytes → List Bytes → Bytes
names_text separator [] = []
names_text separator (f ∷ fs) = separator ++ (name_text f ++ names_text (codes ", ") fs)
