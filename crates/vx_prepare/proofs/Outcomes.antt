-- What an expression gives over rows, by its meaning and its breaks at each row.
use Rattle.std.proofs.Common.{◌≡◌, ap, sym, ◌∙◌, Bool, true, false, List, map, Result, Ok, Err, is_ok}
use Rattle.std.specs.List.{list_any}
use Rattle.std.proofs.lemmas.Bool.{true≢false}
use Rattle.vx_dtype.specs.Types.{Ty}
use Rattle.vx_dtype.specs.Values.{Val}
use Rattle.vx_expr.specs.Trees.{Tree}
use Rattle.vx_column.specs.Columns.{Column, column}
use Rattle.vx_column.specs.declared.columns.ColumnRef.{ColumnRef}
use Rattle.vx_semantics.specs.Typing.{Refusal, typed_of, and_then, unless, not_struct, nullable_select, unknown_field, duplicate_field, type_mismatch}
use Rattle.vx_semantics.specs.Slots.{slots_fit}
use Rattle.vx_semantics.specs.Meaning.{Slots, mean}
use Rattle.vx_semantics.specs.Breaks.{Cause, by_sum, by_cast, breaks_by}
use Rattle.vx_semantics.specs.Nodes.{nodes_of, some_node_breaks}
use Rattle.vx_eval.specs.Evaluating.{checked_type}
use Rattle.vx_eval.specs.declared.errors.EvalError.{EvalError}
use Rattle.vx_eval.specs.declared.errors.EvalError.TheVariants.{NoMemory, Typing, Overflow, BadCast}
use Rattle.vx_typing.specs.declared.errors.TypeError.TheVariants as refusals
use Rattle.vx_laws_columns.specs.Evaluable.{node_breaks_at}
use Rattle.vx_prepare.specs.Parts.{GivenBy}
use Rattle.vx_prepare.proofs.ListLemmas.{any_swap, any_mapped, map_mapped}

abbrev ok_or_else : {A E : Type 0} → A → Result A E → A
ok_or_else d (Ok x) = x
ok_or_else d (Err r) = d

pub same_Ok : (x y : Ty) → ◌≡◌ {A = Result Ty Refusal} (Ok x) (Ok y) → x ≡ y
same_Ok x y e = ap (ok_or_else x) e

pub ok-err : (x : Ty) (r : Refusal) → ◌≡◌ {A = Result Ty Refusal} (Ok x) (Err r) → ⊥
ok-err x r e = true≢false (ap is_ok e)

-- a column of a type with a meaning at each row, where nothing breaks at one, else by which cause something does
abbrev pub Outcome : (Val → Val) → (Cause → Val → Bool) → Ty → List Val → Result ColumnRef EvalError → Type 0
Outcome meaning breaking u rows (Ok c) = (c.ty ≡ u) × (c.rows ≡ map meaning rows) × ((cause : Cause) → list_any (breaking cause) rows ≡ false)
Outcome meaning breaking u rows (Err Overflow) = list_any (breaking by_sum) rows ≡ true
Outcome meaning breaking u rows (Err BadCast) = list_any (breaking by_cast) rows ≡ true
Outcome meaning breaking u rows (Err NoMemory) = Unit {0}
Outcome meaning breaking u rows (Err (Typing r)) = ⊥

-- the same of the rows that others are made of
pub carried :
    (made : Val → Val) (meaning other : Val → Val) (breaking others : Cause → Val → Bool) (u : Ty) (rows : List Val) (r : Result ColumnRef EvalError)
    → ((row : Val) → meaning (made row) ≡ other row) → ((cause : Cause) (row : Val) → breaking cause (made row) ≡ others cause row)
    → Outcome meaning breaking u (map made rows) r → Outcome other others u rows r
carried made meaning other breaking others u rows (Ok c) means breaks o =
    (o.0, o.1 ∙ map_mapped meaning made other means rows, λ cause. sym (any_mapped (breaking cause) made (others cause) (breaks cause) rows) ∙ o.2 cause)
carried made meaning other breaking others u rows (Err Overflow) means breaks o = sym (any_mapped (breaking by_sum) made (others by_sum) (breaks by_sum) rows) ∙ o
carried made meaning other breaking others u rows (Err BadCast) means breaks o = sym (any_mapped (breaking by_cast) made (others by_cast) (breaks by_cast) rows) ∙ o
carried made meaning other breaking others u rows (Err NoMemory) means breaks o = tt
carried made meaning other breaking others u rows (Err (Typing r)) means breaks o = absurd o

module _ (t : Ty) (slots : Slots) (rows : List Val) (e : Tree) (u : Ty) (typed : typed_of t e ≡ Ok u) (fit : slots_fit slots e ≡ true) where
  checked : checked_type t slots e ≡ Ok u
  checked = ap (λ x. and_then x (λ w. unless (slots_fit slots e) type_mismatch (Ok w))) typed ∙ ap (λ b. unless b type_mismatch (Ok u)) fit

  by_row : (cause : Cause) → some_node_breaks cause t slots rows e ≡ list_any (λ row. node_breaks_at cause t slots row e) rows
  by_row cause = any_swap (λ n. λ row. breaks_by cause t slots row n) (nodes_of e) rows

  each_cause : some_node_breaks by_sum t slots rows e ≡ false → some_node_breaks by_cast t slots rows e ≡ false → (cause : Cause) → list_any (λ row. node_breaks_at cause t slots row e) rows ≡ false
  each_cause sums casts by_sum = sym (by_row by_sum) ∙ sums
  each_cause sums casts by_cast = sym (by_row by_cast) ∙ casts

  -- a typed expression whose slots fit
  pub outcome : (r : Result ColumnRef EvalError) → GivenBy slots (column t rows) e r → Outcome (λ row. mean t slots row e) (λ cause. λ row. node_breaks_at cause t slots row e) u rows r
  outcome (Ok c) g = (same_Ok c.ty u (sym g.0 ∙ checked), ap (λ (d : Column). d.rows) g.1, each_cause g.2 g.3)
  outcome (Err NoMemory) g = tt
  outcome (Err Overflow) g = sym (by_row by_sum) ∙ g.1
  outcome (Err BadCast) g = sym (by_row by_cast) ∙ g.1
  outcome (Err (Typing refusals.NoMemory)) g = absurd g
  outcome (Err (Typing refusals.NotStruct)) g = absurd (ok-err u not_struct (sym checked ∙ g))
  outcome (Err (Typing refusals.NullableSelect)) g = absurd (ok-err u nullable_select (sym checked ∙ g))
  outcome (Err (Typing refusals.UnknownField)) g = absurd (ok-err u unknown_field (sym checked ∙ g))
  outcome (Err (Typing refusals.DuplicateField)) g = absurd (ok-err u duplicate_field (sym checked ∙ g))
  outcome (Err (Typing refusals.TypeMismatch)) g = absurd (ok-err u type_mismatch (sym checked ∙ g))
