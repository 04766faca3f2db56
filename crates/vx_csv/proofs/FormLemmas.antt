-- What a form that isn't refused has: cells that are UTF-8, and names that are distinct.
use Rattle.std.proofs.Common.{◌≡◌, ◌∙◌, refl, sym, ap, Bool, true, false, cond, List, length, Option, Some, None, Ok, Err, Result}
use Rattle.std.specs.Option.{option_or}
use Rattle.vx_dtype.specs.Types.{Bytes}
use Rattle.vx_dtype.specs.TypeRules.{distinct_names}
use Rattle.vx_laws_csv.specs.Refusals.{Refusal, name_twice, unless_refused}
use Rattle.vx_laws_csv.specs.Sheets.{text_refusal, names_refusal, rows_refusal, form_refusal, are_texts}
use Rattle.vx_laws_csv.specs.CsvTables.{names_in}
use Rattle.vx_csv.proofs.Texts.{neither, rows-texts}

-- an answer that isn't refused, and one that is
pub not-refused : {A : Type 0} (o : Option Refusal) (x y : A) → unless_refused o (Ok x) ≡ Ok y → (o ≡ None) × (x ≡ y)
not-refused None x y h = (refl, cc)
not-refused (Some r) x y h = absurd cc

pub refused : {A : Type 0} (o : Option Refusal) (r : Refusal) (x : Result A Refusal) → Some r ≡ o → unless_refused o x ≡ Err r
refused o r x h = ap (λ (p : Option Refusal). unless_refused p x) (sym h)

pub unrefused : {A : Type 0} (o : Option Refusal) (x : Result A Refusal) → o ≡ None → unless_refused o x ≡ x
unrefused o x h = ap (λ (p : Option Refusal). unless_refused p x) h

-- of several refusals the first
pub second-of : {A : Type 0} (first second : Option A) → first ≡ None → option_or first second ≡ second
second-of first second h = ap (λ o. option_or o second) h

pub both-none : {A : Type 0} (first second : Option A) → first ≡ None → second ≡ None → option_or first second ≡ None
both-none first second h k = second-of first second h ∙ k

unnamed : (b : Bool) → cond b None (Some name_twice) ≡ None → b ≡ true
unnamed true h = refl
unnamed false h = absurd cc

pub record HasForm (names : List Bytes) (rows : List (List Bytes)) : Type 0 where
  pub distinct : distinct_names names ≡ true
  pub texts : are_texts rows ≡ true

pub has-form : (names : List Bytes) (rows : List (List Bytes)) → form_refusal names rows ≡ None → HasForm names rows
has-form names rows h =
    let first = neither (text_refusal 0 1 names) (option_or (names_refusal names) (rows_refusal (length names) 1 rows)) h in
    let second = neither (names_refusal names) (rows_refusal (length names) 1 rows) first.1 in
    record { distinct = unnamed (distinct_names names) second.0; texts = rows-texts (length names) 1 rows second.1 }

pub named : (cells : List Bytes) (rows : List (List Bytes)) (names : List Bytes) → names_in cells rows ≡ Ok names → HasForm names rows
named cells rows names e =
    let own = not-refused (form_refusal cells rows) cells names e in
    let form = has-form cells rows own.0 in
    record { distinct = ap distinct_names (sym own.1) ∙ form.distinct; texts = form.texts }
