-- LIKE: `%` matches any run of characters, `_` one character, `\` makes the next character stand for itself, and a last `\` stands for itself.
-- Where case is folded, ASCII letters alone are.
use Rattle.std.specs.Prelude.{ℕ, ◌+◌, ◌==◌, nat_le, Bool, true, false, cond, not, ◌&&◌, ◌||◌, List, [], ◌∷◌, map}
use Rattle.std.specs.Str.{chars}
use Rattle.vx_dtype.specs.Types.{Bytes}
use Rattle.vx_dtype.specs.Values.{Val, bool_val, text_val, fault}
use Rattle.vx_dtype.specs.Logic.{on_known}

-- a part of a pattern: any run of characters, any one character, or this character
pub data Wildcard : Type 0 where
  any_run : Wildcard
  any_one : Wildcard
  just : ℕ → Wildcard

-- what a character of a pattern means where nothing stands before it that changes it: 37 is `%`, 95 is `_`
abbrev pub plain_wildcard : ℕ → Wildcard
plain_wildcard c = cond (c == 37) any_run (cond (c == 95) any_one (just c))

-- the parts of a pattern; 92 is `\`
abbrev pub wildcards : List ℕ → List Wildcard
wildcards [] = []
wildcards (c ∷ []) = plain_wildcard c ∷ []
wildcards (c ∷ d ∷ cs) = cond (c == 92) (just d ∷ wildcards cs) (plain_wildcard c ∷ wildcards (d ∷ cs))

-- whether a test holds of the list or of what is left after some of its first characters
abbrev pub some_suffix : (List ℕ → Bool) → List ℕ → Bool
some_suffix test [] = test []
some_suffix test (c ∷ cs) = test (c ∷ cs) || some_suffix test cs

-- whether the first character passes a test and the rest another
abbrev pub first_and_rest : (ℕ → Bool) → (List ℕ → Bool) → List ℕ → Bool
first_and_rest first rest [] = false
first_and_rest first rest (c ∷ cs) = first c && rest cs

-- whether there is no character
abbrev pub is_empty : List ℕ → Bool
is_empty [] = true
is_empty (c ∷ cs) = false

-- whether the characters match the parts of a pattern
unfoldable pub matches : List Wildcard → List ℕ → Bool
matches [] cs = is_empty cs
matches (any_run ∷ ws) cs = some_suffix (matches ws) cs
matches (any_one ∷ ws) cs = first_and_rest (λ _. true) (matches ws) cs
matches (just c ∷ ws) cs = first_and_rest (λ d. d == c) (matches ws) cs

-- the character, a capital ASCII letter as its small one
abbrev pub folded : ℕ → ℕ
folded c = cond (nat_le 65 c && nat_le c 90) (c + 32) c

-- the part of a pattern with its character so folded
abbrev pub folded_wildcard : Wildcard → Wildcard
folded_wildcard any_run = any_run
folded_wildcard any_one = any_one
folded_wildcard (just c) = just (folded c)

-- whether a text matches a pattern, with or without regard to case
abbrev pub text_matches : Bool → Bytes → Bytes → Bool
text_matches false text pattern = matches (wildcards (chars pattern)) (chars text)
text_matches true text pattern = matches (map folded_wildcard (wildcards (chars pattern))) (map folded (chars text))

-- the answer, true and false exchanged where it is negated
abbrev pub inverted_if : Bool → Bool → Bool
inverted_if negated b = cond negated (not b) b

-- the match of two texts, inverted where it is negated; what is no text matches nothing
abbrev pub like_of : Bool → Bool → Val → Val → Val
like_of negated fold_case (text_val s) (text_val p) = bool_val (inverted_if negated (text_matches fold_case s p))
like_of negated fold_case _ _ = fault

-- whether a value matches a pattern
abbrev pub like3 : Bool → Bool → Val → Val → Val
like3 negated fold_case v pattern = on_known (like_of negated fold_case) v pattern
