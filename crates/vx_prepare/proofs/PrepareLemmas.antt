-- What the passes that prepare an expression make, and that they refuse no typed one.
use Rattle.std.proofs.Common.{◌≡◌, refl, ap, sym, ◌∙◌, ℕ, ◌<◌, ◌^◌, Bool, true, false, length, Result, Ok, Err, is_ok, filter, subst}
use Rattle.vx_dtype.specs.Types.{Ty, Fields}
use Rattle.vx_dtype.specs.TypeRules.{field_names, has_name}
use Rattle.vx_dtype.specs.TypeViews.{type_view}
use Rattle.vx_expr.specs.Trees.{Tree}
use Rattle.vx_semantics.specs.Tables.{row_type}
use Rattle.vx_semantics.specs.Typing.{Refusal, and_then, unless, type_mismatch, typed_of}
use Rattle.vx_semantics.specs.Slots.{slots_fit}
use Rattle.vx_semantics.specs.Meaning.{Slots}
use Rattle.vx_semantics.specs.Nodes.{nodes_of}
use Rattle.vx_eval.specs.Evaluating.{checked_type}
use Rattle.vx_typing.specs.TypingAnswers.{Refuses}
use Rattle.vx_typing.specs.declared.errors.TypeError.{TypeError}
use Rattle.vx_typing.specs.declared.errors.TypeError.TheVariants as refusals
use Rattle.vx_passes.specs.Replacing.{root_replaced}
use Rattle.vx_passes.specs.TypedSimplifying.{simplified_typed}
use Rattle.vx_partition.specs.Splits.{split_view}
use Rattle.vx_laws_parts.proofs.Outcomes.{preserved_type}
use Rattle.vx_laws_columns.specs.Columns.{Prepared, SplitByColumns, split_by_columns}
use Rattle.vx_laws_columns.proofs.ByColumn.{splits_by_columns, partitions_of_asked_columns}
use Rattle.vx_prepare.specs.Parts.{IsSplitAs}
use Rattle.vx_prepare.specs.Preparing.{IsPrepared}
use Rattle.vx_prepare.specs.declared.prepared.PreparedExpr.{PreparedExpr}
use Rattle.vx_prepare.proofs.ColumnLemmas.{columns_asked}
use Rattle.vx_prepare.proofs.Outcomes.{ok-err}

fits_by : (v : Ty) (r : Result Ty Refusal) (b : Bool) → and_then r (λ u. unless b type_mismatch (Ok u)) ≡ Ok v → b ≡ true
fits_by v (Err x) b h = absurd (ok-err v x (sym h))
fits_by v (Ok u) true h = refl
fits_by v (Ok u) false h = absurd (ok-err v type_mismatch (sym h))

-- where an expression is checked, its slots fit
pub checked_fits : (t : Ty) (slots : Slots) (e : Tree) (v : Ty) → checked_type t slots e ≡ Ok v → slots_fit slots e ≡ true
checked_fits t slots e v h = fits_by v (typed_of t e) (slots_fit slots e) h

typed_by : (v : Ty) (r : Result Ty Refusal) (b : Bool) → and_then r (λ u. unless b type_mismatch (Ok u)) ≡ Ok v → r ≡ Ok v
typed_by v (Err x) b h = absurd (ok-err v x (sym h))
typed_by v (Ok u) true h = h
typed_by v (Ok u) false h = absurd (ok-err v type_mismatch (sym h))

-- and it is typed
pub checked_typed : (t : Ty) (slots : Slots) (e : Tree) (v : Ty) → checked_type t slots e ≡ Ok v → typed_of t e ≡ Ok v
checked_typed t slots e v h = typed_by v (typed_of t e) (slots_fit slots e) h

-- where it is typed and they don't, that is the refusal
pub unfit_refused : (t : Ty) (slots : Slots) (e : Tree) (u : Ty) → typed_of t e ≡ Ok u → slots_fit slots e ≡ false → checked_type t slots e ≡ Err type_mismatch
unfit_refused t slots e u typed h = ap (λ r. and_then r (λ w. unless (slots_fit slots e) type_mismatch (Ok w))) typed ∙ ap (λ b. unless b type_mismatch (Ok u)) h

refused_by : (t : Ty) (slots : Slots) (e : Tree) (r : Refusal) → typed_of t e ≡ Err r → checked_type t slots e ≡ Err r
refused_by t slots e r typed = ap (λ x. and_then x (λ w. unless (slots_fit slots e) type_mismatch (Ok w))) typed

-- a refusal of typing is one of checking
pub typing_refused : (t : Ty) (slots : Slots) (e : Tree) (r : TypeError) → Refuses (typed_of t e) r → Refuses (checked_type t slots e) r
typing_refused t slots e refusals.NoMemory h = tt
typing_refused t slots e refusals.NotStruct h = refused_by t slots e _ h
typing_refused t slots e refusals.NullableSelect h = refused_by t slots e _ h
typing_refused t slots e refusals.UnknownField h = refused_by t slots e _ h
typing_refused t slots e refusals.DuplicateField h = refused_by t slots e _ h
typing_refused t slots e refusals.TypeMismatch h = refused_by t slots e _ h

module _ (fs : Fields) (e : Tree) (u : Ty) (typed : typed_of (row_type fs) e ≡ Ok u) where
  -- simplifying refuses no typed expression
  pub simplifies : is_ok (simplified_typed (row_type fs) (root_replaced fs e)) ≡ true
  simplifies = ap is_ok (preserved_type fs e u typed).2

  module _ (d : Tree) (made : simplified_typed (row_type fs) (root_replaced fs e) ≡ Ok d) (n : ℕ) (counted : n ≡ length (nodes_of d)) (below : n < 2 ^ 64) where
    simplified : Prepared fs e u d
    simplified = record { simplifies = record { typed = typed; made = made }; few = subst (λ k. k < 2 ^ 64) counted below }

    -- and splitting none that is simplified
    pub splits : is_ok (split_by_columns (row_type fs) d) ≡ true
    splits = ap is_ok (splits_by_columns fs e u d simplified).1

    pub is_prepared : (slots : Slots) → slots_fit slots e ≡ true → (p : PreparedExpr) → u ≡ type_view p.dtype → IsSplitAs (split_by_columns (row_type fs) d) (split_view p.split)
        → p.columns ≡ filter (λ name. has_name name p.split.partition_annotations.items) (field_names fs) → IsPrepared fs slots e p
    is_prepared slots fit p is split columns =
        let by : SplitByColumns fs e u d split.0 = record { prepared = simplified; made = split.1 } in
        let checked : checked_type (row_type fs) slots e ≡ Ok u =
        ap (λ r. and_then r (λ w. unless (slots_fit slots e) type_mismatch (Ok w))) typed ∙ ap (λ b. unless b type_mismatch (Ok u)) fit in
        let annotations = ap (λ v. filter (λ name. has_name name v.annotations) (field_names fs)) split.2 in
        record {
          typed = checked ∙ ap Ok is;
          columns = columns ∙ annotations ∙ columns_asked partitions_of_asked_columns fs e u d split.0 by;
          simplified = d;
          parts = split.0;
          splits = subst (λ w. SplitByColumns fs e w d split.0) is by;
          held = split.2;
        }
