-- Records that take a text to its end one after the other are all its records: each read takes a byte of the text, but for one at its end.
use Rattle.std.proofs.Common.{◌≡◌, ◌∙◌, refl, sym, ap, subst, ℕ, zero, suc, ◌+◌, ◌<◌, ◌≤◌, Bool, true, false, List, [], ◌∷◌, ◌++◌, length, Option, Some, None, if◌then◌else◌, arith}
use Rattle.std.proofs.lemmas.Option.{same_Some}
use Rattle.csv.specs.Machine.{Read, step, is_end, ends_at_end, fields_after, field_after, next_record}
use Rattle.csv.specs.Reading.{Reached, default_config, records_next, records_from}
use Rattle.csv.specs.declared.parser.State.{State}
use Rattle.csv.specs.declared.parser.State.TheVariants as st
use Rattle.vx_dtype.specs.Types.{Bytes}
use Rattle.vx_laws_csv.specs.CsvLaws.{TheseAreAllRecords}

-- a read at the end of the text leaves the reader between records, at the end
record LeavesNothing (p : Read) : Type 0 where
  state : p.1 ≡ st.StartRecord
  rest : p.2 ≡ []

at-end : (b : Bool) (fields : List (List ℕ)) (p : Read) → (if b then Some (fields, st.StartRecord, []) else None) ≡ Some p → LeavesNothing p
at-end true fields p e =
    let same = same_Some (fields, st.StartRecord, []) p e in
    record { state = sym (ap (λ (q : Read). q.1) same); rest = sym (ap (λ (q : Read). q.2) same) }
at-end false fields p e = absurd cc

ends : (s : State) (p : Read) → next_record default_config s [] [] [] ≡ Some p → LeavesNothing p
unfolding next_record
ends s p e = at-end (ends_at_end s) ([] ++ [] ∷ []) p e

-- a read of a text that isn't at its end takes a byte at least
here : (b : Bool) (fields : List (List ℕ)) (s : State) (rest : Bytes) (more : Option Read) (p : Read) → (if b then Some (fields, s, rest) else more) ≡ Some p
    → (more ≡ Some p → length p.2 ≤ length rest) → length p.2 ≤ length rest
here true fields s rest more p e later =
    let same : rest ≡ p.2 = ap (λ (q : Read). q.2) (same_Some (fields, s, rest) p e) in
    let long : length rest ≡ length p.2 = ap (λ (xs : Bytes). length xs) same in
    omega (arith, long)
here false fields s rest more p e later = later e

no-longer : (s : State) (fields : List (List ℕ)) (partial xs : Bytes) (p : Read) → next_record default_config s fields partial xs ≡ Some p → length p.2 ≤ length xs
unfolding next_record
no-longer s fields partial [] p e =
    let none = (at-end (ends_at_end s) (fields ++ partial ∷ []) p e).rest in
    let long : length p.2 ≡ 0 = ap (λ (xs : Bytes). length xs) none in
    omega (arith, long)
no-longer s fields partial (c ∷ rest) p e =
    let own = here (is_end (step default_config s c).1) (fields_after (step default_config s c).1 fields partial) (step default_config s c).0 rest
    (next_record default_config (step default_config s c).0 (fields_after (step default_config s c).1 fields partial) (field_after (step default_config s c).1 c partial) rest) p e
    (no-longer (step default_config s c).0 (fields_after (step default_config s c).1 fields partial) (field_after (step default_config s c).1 c partial) rest p) in
    omega (arith, own)

shorter : (s : State) (c : ℕ) (rest : Bytes) (p : Read) → next_record default_config s [] [] (c ∷ rest) ≡ Some p → length p.2 ≤ length rest
unfolding next_record
shorter s c rest p e =
    here (is_end (step default_config s c).1) (fields_after (step default_config s c).1 [] []) (step default_config s c).0 rest
    (next_record default_config (step default_config s c).0 (fields_after (step default_config s c).1 [] []) (field_after (step default_config s c).1 c []) rest) p e
    (no-longer (step default_config s c).0 (fields_after (step default_config s c).1 [] []) (field_after (step default_config s c).1 c []) rest p)

-- at the end there are no more records
no-more : (rows : List (List Bytes)) (s2 : State) (ys : Bytes) → Reached default_config st.StartRecord [] rows s2 ys → rows ≡ []
unfolding Reached next_record
no-more [] s2 ys h = refl
no-more (r ∷ rows) s2 ys h = let found = h.1 in absurd cc

from-none : (more : State → List ℕ → List (List (List ℕ))) (o : Option Read) → o ≡ None → records_next more o ≡ []
from-none more None e = refl
from-none more (Some p) e = absurd cc

-- at the end of the text, between records, none is read
at-start : (n : ℕ) → records_from default_config n st.StartRecord [] ≡ []
unfolding records_from next_record
at-start zero = refl
at-start (suc n) = refl

nothing : (n : ℕ) (s : State) (xs : Bytes) → s ≡ st.StartRecord → xs ≡ [] → records_from default_config n s xs ≡ []
nothing n s xs e k = (λ j. records_from default_config n (e j) (k j)) ∙ at-start n

-- records that take a text to its end are all that are read of it in as many steps as it has bytes, and one
all-of : (n : ℕ) (s : State) (xs : Bytes) (rows : List (List Bytes)) (s2 : State) (ys : Bytes) → length xs < n
    → Reached default_config s xs rows s2 ys → next_record default_config s2 [] [] ys ≡ None → records_from default_config n s xs ≡ rows
unfolding Reached records_from
all-of zero s xs rows s2 ys long h none = absurd (omega (arith, long))
all-of (suc n) s xs [] s2 ys long h none =
    let over : next_record default_config s [] [] xs ≡ None = (λ j. next_record default_config (h.0 j) [] [] (h.1 j)) ∙ none in
    from-none (records_from default_config n) (next_record default_config s [] [] xs) over
all-of (suc n) s [] (r ∷ rows) s2 ys long h none =
    let left = ends s h.0 h.1 in
    let rest : Reached default_config st.StartRecord [] rows s2 ys = subst (λ (xs : Bytes). Reached default_config st.StartRecord xs rows s2 ys) left.rest (subst (λ (q : State). Reached default_config q h.0.2 rows s2 ys) left.state h.3) in
    let over : rows ≡ [] = no-more rows s2 ys rest in
    let again : records_from default_config n h.0.1 h.0.2 ≡ [] = nothing n h.0.1 h.0.2 left.state left.rest in
    ap (records_next (records_from default_config n)) h.1 ∙ (λ j. sym h.2 j ∷ (again ∙ sym over) j)
all-of (suc n) s (c ∷ xs) (r ∷ rows) s2 ys long h none =
    let less = shorter s c xs h.0 h.1 in
    ap (records_next (records_from default_config n)) h.1 ∙ (λ j. sym h.2 j ∷ all-of n h.0.1 h.0.2 rows s2 ys (omega (arith, less, long)) h.3 none j)

pub these_are_all_records : TheseAreAllRecords
these_are_all_records text rows are = all-of (length text + 1) st.StartRecord text rows are.0 are.1 (omega arith) are.2 are.3
