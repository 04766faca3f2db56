-- What is read of a text byte by byte is its records, by the kit's definition, and leaves the state behind it.
use Rattle.std.proofs.Common.{◌≡◌, ◌∙◌, refl, sym, ap, ℕ, zero, suc, ◌+◌, ◌<◌, ◌≤◌, Bool, true, false, List, [], ◌∷◌, ◌++◌, length, drop, get_or, Some, None, Ok, Err, cond, if◌then◌else◌, append_assoc, append-nil, arith}
use Rattle.std.proofs.lemmas.List.{drop_more, drop_all}
use Rattle.csv.specs.Machine.{step, is_end, ends_at_end, fields_after, field_after, next_record}
use Rattle.csv.specs.Reading.{default_config, records, records_next, records_from, strip_bom}
use Rattle.csv.specs.declared.parser.State.{State}
use Rattle.csv.specs.declared.parser.State.TheVariants as st
use Rattle.csv.specs.declared.parser.Action.{Action}
use Rattle.csv.specs.declared.parser.Action.TheVariants as act
use Rattle.vx_dtype.specs.Types.{Bytes}
use Rattle.vx_laws_csv.specs.Refusals.{quote_left_open}
use Rattle.vx_laws_csv.specs.Sheets.{is_quoted, leaves_quote_open, records_of, state_behind}
use Rattle.vx_csv.specs.ByteReading.{Seen, acted, ended, nothing_read, read_behind, taken}

-- the state behind a text
pub state-read : (r : Seen) (text : Bytes) → (read_behind r text).state ≡ state_behind r.state text
unfolding read_behind state_behind
state-read r [] = refl
state-read r (c ∷ text) = state-read (taken r c) text

-- at the end of the text, between records, none is read
at-start : (n : ℕ) → records_from default_config n st.StartRecord [] ≡ []
unfolding records_from next_record
at-start zero = refl
at-start (suc n) = refl

-- the records that are read of a text behind what was read before it, in so many steps
abbrev still-read : ℕ → Seen → Bytes → List (List Bytes)
still-read n r text = r.records ++ records_next (records_from default_config n) (next_record default_config r.state r.cells r.cell text)

last-record : (n : ℕ) (b : Bool) (so_far : List (List Bytes)) (last : List Bytes)
    → (if b then so_far ++ last ∷ [] else so_far) ≡ so_far ++ records_next (records_from default_config n) (if b then Some (last, st.StartRecord, []) else None)
last-record n true so_far last = ap (λ (more : List (List Bytes)). so_far ++ last ∷ more) (sym (at-start n))
last-record n false so_far last = sym (append-nil so_far)

-- what an action makes of what was read, with the state behind it
abbrev acted-to : State → Action → ℕ → Seen → Seen
acted-to s a c r = record (acted a c r) { state = s }

-- one byte more: where it ends a record, the records behind it take a step less
step-read : (m : ℕ) (a : Action) (s : State) (c : ℕ) (r : Seen) (text : Bytes) (whole : List (List Bytes)) → length text ≤ m
    → ((n : ℕ) → length text ≤ n → whole ≡ still-read n (acted-to s a c r) text)
    → whole
    ≡ r.records ++ records_next (records_from default_config (suc m))
    (if is_end a then Some (fields_after a r.cells r.cell, s, text) else next_record default_config s (fields_after a r.cells r.cell) (field_after a c r.cell) text)
unfolding records_from
step-read m act.Skip s c r text whole h more = more (suc m) (omega (arith, h))
step-read m act.Copy s c r text whole h more = more (suc m) (omega (arith, h))
step-read m act.EndField s c r text whole h more = more (suc m) (omega (arith, h))
step-read m act.EndRecord s c r text whole h more =
    more m h ∙ append_assoc r.records ((r.cells ++ r.cell ∷ []) ∷ []) (records_next (records_from default_config m) (next_record default_config s [] [] text))

read-all : (n : ℕ) (r : Seen) (text : Bytes) → length text ≤ n → ended (read_behind r text) ≡ still-read n r text
unfolding read_behind next_record
read-all n r [] h = last-record n (ends_at_end r.state) r.records (r.cells ++ r.cell ∷ [])
read-all zero r (c ∷ text) h = absurd (omega (arith, h))
read-all (suc m) r (c ∷ text) h =
    let now = step default_config r.state c in
    step-read m now.1 now.0 c r text (ended (read_behind (taken r c) text)) (omega (arith, h)) (λ n. read-all n (taken r c) text)

-- a text's records
pub all-read : (text : Bytes) → ended (read_behind nothing_read text) ≡ records default_config text
unfolding records_from
all-read text =
    let one : length text + 1 ≡ suc (length text) = omega arith in
    read-all (length text) nothing_read text (omega arith) ∙ ap (λ (n : ℕ). records_from default_config n st.StartRecord text) (sym one)

-- one byte more of a text
pub read_more : (text : Bytes) (r : Seen) (i : ℕ) → i < length text → read_behind r (drop i text) ≡ read_behind (taken r (get_or text i 0)) (drop (i + 1) text)
unfolding read_behind
read_more text r i within = ap (read_behind r) (drop_more text i 0 within)

pub read_end : (text : Bytes) (r : Seen) (i : ℕ) → length text ≤ i → read_behind r (drop i text) ≡ r
unfolding read_behind
read_end text r i over = ap (read_behind r) (drop_all i text over)

-- a text that leaves a quote open is refused, and of one that doesn't what was read are its records
open-or : (b : Bool) (rows : List (List Bytes)) → b ≡ true → cond b (Err quote_left_open) (Ok rows) ≡ Err quote_left_open
open-or true rows h = refl
open-or false rows h = absurd cc

closed-or : (b : Bool) (rows : List (List Bytes)) → b ≡ false → cond b (Err quote_left_open) (Ok rows) ≡ Ok rows
closed-or true rows h = absurd cc
closed-or false rows h = refl

quoted-state : (r : Seen) (text : Bytes) → r ≡ read_behind nothing_read (strip_bom text) → is_quoted r.state ≡ leaves_quote_open (strip_bom text)
quoted-state r text h = ap (λ (s : Seen). is_quoted s.state) h ∙ ap is_quoted (state-read nothing_read (strip_bom text))

pub refused-open : (r : Seen) (text : Bytes) → r ≡ read_behind nothing_read (strip_bom text) → is_quoted r.state ≡ true → records_of text ≡ Err quote_left_open
refused-open r text h quoted = open-or (leaves_quote_open (strip_bom text)) (records default_config (strip_bom text)) (sym (quoted-state r text h) ∙ quoted)

pub given-closed : (r : Seen) (text : Bytes) → r ≡ read_behind nothing_read (strip_bom text) → is_quoted r.state ≡ false → records_of text ≡ Ok (ended r)
given-closed r text h quoted =
    closed-or (leaves_quote_open (strip_bom text)) (records default_config (strip_bom text)) (sym (quoted-state r text h) ∙ quoted)
    ∙ ap Ok (sym (all-read (strip_bom text)) ∙ ap ended (sym h))
