-- That a run ends with an exit status and a text exactly where something holds.
use Rattle.std.specs.Prelude.{◌≡◌, ℕ, ◌+◌, Bool, true, ◌++◌, take, Option, Some}
use Rattle.vx_dtype.specs.Types.{Bytes}
use Rattle.vx_io.specs.Ends.{Added}
use Rattle.vx_scan.specs.Stores.{StoreSeen}
use Rattle.vx_request.specs.Requests.{most_bytes}
use Rattle.vx_query.specs.Refusals.{refusal_line}
use Rattle.vx_query.specs.TopWords.{AskedTop}
use Rattle.vx_query.specs.Running.{End, Form, IsTaken, IsRun, HasNoKey, uses_expressions, shown_word, text_form, top_form}
use Rattle.vx_query.specs.Causes.{HasRisen}

-- a run whose sink tells what it wrote: this text
pub record Tells (form : Option Form) (i i' o o' : End) (used : Option StoreSeen) (status : ℕ) (text : Bytes) : Type 0 where
  pub run : IsRun form i i' o o' used status
  pub before : Bytes
  pub stood : o.bytes ≡ Some before
  pub written : o'.bytes ≡ Some (before ++ text)

-- a run that had memory, and whose sink counted no fault
pub record RunsWell (form : Option Form) (i i' o o' : End) (used : Option StoreSeen) (status : ℕ) : Type 0 where
  pub run : IsRun form i i' o o' used status
  pub memory : ¬ (status ≡ 8)
  pub quiet : ¬ (HasRisen o o')

-- it ended with this exit status, and wrote this text
abbrev pub EndsWith : ℕ → Bytes → End → End → ℕ → Type 0
EndsWith told text o o' status = (status ≡ told) × Added o.bytes o'.bytes text

-- what is taken of an input
abbrev pub taken_of : Bytes → Bytes
taken_of input = take (most_bytes + 1) input

-- Of arguments of such forms, all of which read an input: a run that ends with this exit status and tells the line of this name took an input
-- that has this cause; and where what is taken of the input that a source tells has it, a run ends so that had memory, and in which no end counted a fault.
pub record RequestsEndSo (of_form : Option Form → Bool) (told : ℕ) (name : Bytes) (Cause : Bytes → Type 0) : Type 0 where
  pub only : (form : Option Form) (i i' o o' : End) (used : Option StoreSeen) → of_form form ≡ true
      → Tells form i i' o o' used told (refusal_line name) → (input : Bytes) × IsTaken i i' input × Cause input
  pub always : (form : Option Form) (i i' o o' : End) (used : Option StoreSeen) (status : ℕ) (input : Bytes) → of_form form ≡ true
      → i.bytes ≡ Some input → Cause (taken_of input) → RunsWell form i i' o o' used status → ¬ (HasRisen i i')
      → EndsWith told (refusal_line name) o o' status

-- the same of arguments that use expressions, of a cause that comes behind the key, where they ask one: it is told where the key isn't refused, and a run
-- ends so where that is so
pub record ExpressionsEndSo (told : ℕ) (name : Bytes) (Cause : Bytes → Type 0) : Type 0 where
  pub only : (form : Option Form) (i i' o o' : End) (used : Option StoreSeen) → uses_expressions form ≡ true
      → Tells form i i' o o' used told (refusal_line name) → (input : Bytes) × IsTaken i i' input × Cause input × (¬ (HasNoKey form input))
  pub always : (form : Option Form) (i i' o o' : End) (used : Option StoreSeen) (status : ℕ) (input : Bytes) → uses_expressions form ≡ true
      → i.bytes ≡ Some input → Cause (taken_of input) → ¬ (HasNoKey form (taken_of input)) → RunsWell form i i' o o' used status → ¬ (HasRisen i i')
      → EndsWith told (refusal_line name) o o' status

-- the same of arguments that ask first rows, by the key and the input
pub record KeysEndSo (told : ℕ) (name : Bytes) (Cause : Bytes → Bytes → Type 0) : Type 0 where
  pub only : (top : AskedTop) (i i' o o' : End) (used : Option StoreSeen) → Tells (Some (top_form top)) i i' o o' used told (refusal_line name)
      → (input : Bytes) × IsTaken i i' input × Cause top.key input
  pub always : (top : AskedTop) (i i' o o' : End) (used : Option StoreSeen) (status : ℕ) (input : Bytes) → i.bytes ≡ Some input
      → Cause top.key (taken_of input) → RunsWell (Some (top_form top)) i i' o o' used status → ¬ (HasRisen i i')
      → EndsWith told (refusal_line name) o o' status

-- the same of arguments that show a word, by the word
pub record WordsEndSo (told : ℕ) (name : Bytes) (Cause : Bytes → Type 0) : Type 0 where
  pub only : (form : Option Form) (word : Bytes) (i i' o o' : End) (used : Option StoreSeen) → shown_word form ≡ Some word
      → Tells form i i' o o' used told (refusal_line name) → Cause word
  pub always : (form : Option Form) (word : Bytes) (i i' o o' : End) (used : Option StoreSeen) (status : ℕ) → shown_word form ≡ Some word → Cause word
      → RunsWell form i i' o o' used status → EndsWith told (refusal_line name) o o' status

-- and of arguments that ask the bytes of a query, by the query
pub record QueriesEndSo (told : ℕ) (name : Bytes) (Cause : Bytes → Type 0) : Type 0 where
  pub only : (query : Bytes) (i i' o o' : End) (used : Option StoreSeen) → Tells (Some (text_form query)) i i' o o' used told (refusal_line name)
      → Cause query
  pub always : (query : Bytes) (i i' o o' : End) (used : Option StoreSeen) (status : ℕ) → Cause query
      → RunsWell (Some (text_form query)) i i' o o' used status → EndsWith told (refusal_line name) o o' status
