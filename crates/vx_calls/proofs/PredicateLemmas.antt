-- What a predicate names.
use Rattle.std.proofs.Common.{◌≡◌, refl, ℕ, Bool, true, false, List, Option, Some, None, option_map, Result, Ok, Err}
use Rattle.std.specs.Prelude.{is_some}
use Rattle.std.specs.Str.{IsUtf8, is_utf8}
use Rattle.std.proofs.lemmas.Str.{IsUtf8-from_is_utf8, is_utf8-from_IsUtf8}
use Rattle.vx_dtype.specs.declared.Nullability.TheVariants.{NonNullable}
use Rattle.vx_dtype.specs.Fits.{fits}
use Rattle.vx_dtype.specs.TypeRules.{no_name_twice, is_bool_ty}
use Rattle.vx_dtype.specs.Types.{Bytes, Ty, bool_ty}
use Rattle.vx_expr.specs.Trees.{Tree}
use Rattle.vx_semantics.specs.Tables.{row_type}
use Rattle.vx_semantics.specs.Typing.{typed_of}
use Rattle.vx_laws_pruning.specs.PruningTypes.{IsBooleanOver}
use Rattle.vx_laws_sql.specs.Operands.{TypedTree}
use Rattle.vx_laws_statements.specs.Statements.{Plan}
use Rattle.vx_laws_statements.specs.Typing.{FilterIsTest}
use Rattle.vx_laws_statements.proofs.TypedStatements.{plans-typed}
use Rattle.vx_calls.specs.Predicates.{NamesFilter, TellsFilterBytes, filter_tree, statement_of}
use Rattle.vx_calls.specs.Steps.{IsPlanOf, TellsBytes}
use Rattle.vx_calls.specs.declared.errors.CallError.{CallError}
use Rattle.vx_calls.specs.declared.errors.CallError.TheVariants as errors

pub known_text : (bs : List ℕ) → IsUtf8 bs → is_utf8 bs ≡ true
known_text bs h = is_utf8-from_IsUtf8 bs h

pub no_text : (bs : List ℕ) → (IsUtf8 bs → ⊥) → is_utf8 bs ≡ false
no_text bs h = by-test (is_utf8 bs) refl where
  by-test : (b : Bool) → is_utf8 bs ≡ b → b ≡ false
  by-test true is = absurd (h (IsUtf8-from_is_utf8 bs is))
  by-test false is = refl

-- ---- options that are seen

pub nothing : {A : Type 0} (o : Option A) → is_some o ≡ false → o ≡ None
nothing None h = refl
nothing (Some x) h = let no : ⊥ = cc in absurd no

pub nothing_seen : {A B : Type 0} (see : A → B) (o : Option A) → is_some o ≡ false → option_map see o ≡ None
nothing_seen see None h = refl
nothing_seen see (Some x) h = let no : ⊥ = cc in absurd no

-- ---- the filter of a plan

-- an expression of boolean type is a boolean
boolean_is : (t : Ty) (tree : Tree) (u : Ty) → typed_of t tree ≡ Ok u → is_bool_ty u ≡ true → IsBooleanOver t tree
boolean_is t tree (bool_ty n) h k = record { null = n; typed = h }
boolean_is t tree _ h k = let no : ⊥ = cc in absurd no

filter_is_boolean : (t : Ty) (filter : Option TypedTree) → FilterIsTest t filter → IsBooleanOver t (filter_tree filter)
unfolding typed_of no_name_twice fits
filter_is_boolean t None h = record { null = NonNullable; typed = refl }
filter_is_boolean t (Some x) h = boolean_is t x.tree x.ty h.0 h.1

-- a plan that orders and limits nothing names its filter
names : (schema predicate : Bytes) (plan : Plan) → (p : IsPlanOf schema predicate plan) → plan.order ≡ None → plan.limit ≡ None
    → NamesFilter p.columns predicate (filter_tree plan.filter)
names schema predicate plan p o l =
    let t = row_type p.columns in
    let typed = plans-typed t (statement_of predicate) plan p.distinct p.planned in
    record { text = p.text; plan = plan; planned = p.planned; unordered = o; unlimited = l; named = refl; typed = filter_is_boolean t plan.filter typed.0 }

pub plan_named : (schema predicate : Bytes) (plan : Plan) (given : Result Bytes CallError) → IsPlanOf schema predicate plan → plan.order ≡ None
    → plan.limit ≡ None → TellsBytes (filter_tree plan.filter) given → TellsFilterBytes schema predicate given
plan_named schema predicate plan (Ok bytes) p o l h =
    record { columns = p.columns; told = p.told; tree = filter_tree plan.filter; filter = names schema predicate plan p o l; shallow = h.0; spelled = h.1 }
plan_named schema predicate plan (Err errors.NoMemory) p o l h = tt
plan_named schema predicate plan (Err errors.NotSerializable) p o l h = (p.columns, p.told, (filter_tree plan.filter, names schema predicate plan p o l, h))
plan_named schema predicate plan (Err errors.TooLong) p o l h = (p.columns, p.told, (filter_tree plan.filter, names schema predicate plan p o l, h))
plan_named schema predicate plan (Err _) p o l h = absurd h
