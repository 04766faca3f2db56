-- The columns of an answer.
use Rattle.std.proofs.Common.{◌≡◌, refl, ap, sym, ◌∙◌, Bool, true, false, cond, ◌||◌, List, [], ◌∷◌, ◌++◌, map}
use Rattle.std.proofs.lemmas.Map.Text.{is_eq-slice_cmp}
use Rattle.std.specs.Str.{bytes_eq}
use Rattle.std.specs.Ordering.{nat_cmp, is_eq}
use Rattle.std.specs.Cmp.Lexicographic.{slice_cmp}
use Rattle.vx_dtype.specs.EqualLaws.{bytes_eq_equiv}
use Rattle.vx_dtype.specs.declared.Nullability.{Nullability}
use Rattle.vx_dtype.specs.Types.{Bytes, struct_ty, Fields, no_fields, field}
use Rattle.vx_dtype.specs.TypeRules.{field_names, has_name, widened}
use Rattle.vx_dtype.specs.StructTypes.{field_types}
use Rattle.vx_expr.specs.Trees.{get_item, root}
use Rattle.vx_laws_statements.specs.Clauses.{each_column}
use Rattle.vx_sql_forms.specs.declared.TypedExpr.{TypedExpr}
use Rattle.vx_sql.specs.SelectLists.{named_view, named_columns}

columns_named : (all fs : Fields) (n : Nullability) → each_column (struct_ty all n) fs ≡ named_columns n (field_names fs) (field_types fs)
columns_named all no_fields n = refl
columns_named all (field f u fs) n = ap (λ xs. (f, record { ty = widened u n; tree = get_item f root }) ∷ xs) (columns_named all fs n)

pub each_column_named : (fs : Fields) (n : Nullability) → each_column (struct_ty fs n) fs ≡ named_columns n (field_names fs) (field_types fs)
each_column_named fs n = columns_named fs fs n

has-append : (q f : Bytes) (gs : List Bytes) → has_name q (gs ++ f ∷ []) ≡ (has_name q gs || bytes_eq q f)
has-append q f [] = either (bytes_eq q f) where
  either : (b : Bool) → (b || false) ≡ (false || b)
  either true = refl
  either false = refl
has-append q f (g ∷ gs) = ap (λ b. bytes_eq q g || b) (has-append q f gs) ∙ assoc (bytes_eq q g) (has_name q gs) (bytes_eq q f) where
  assoc : (a b c : Bool) → (a || (b || c)) ≡ ((a || b) || c)
  assoc true b c = refl
  assoc false b c = refl

-- a set of names, with one more, has the names with it behind them
pub one_more : (f q : Bytes) (gs : List Bytes) (was now : Bool) → was ≡ has_name q gs → now ≡ cond (is_eq (slice_cmp nat_cmp f q)) true was
    → now ≡ has_name q (gs ++ f ∷ [])
one_more f q gs was now h e =
    let same : is_eq (slice_cmp nat_cmp f q) ≡ bytes_eq q f = is_eq-slice_cmp f q ∙ bytes_eq_equiv.symm f q in
    e ∙ ap (λ b. cond b true was) same ∙ either (bytes_eq q f) was ∙ ap (λ b. b || bytes_eq q f) h ∙ sym (has-append q f gs) where
      either : (a b : Bool) → cond a true b ≡ (b || a)
      either true true = refl
      either true false = refl
      either false true = refl
      either false false = refl

-- the names of columns with one more behind them
pub names_behind : (xs : List (Bytes × TypedExpr)) (f : Bytes) (v : TypedExpr)
    → map (λ y. y.0) (map named_view (xs ++ (f, v) ∷ [])) ≡ map (λ y. y.0) (map named_view xs) ++ f ∷ []
names_behind [] f v = refl
names_behind (x ∷ xs) f v = ap (λ fs. x.0 ∷ fs) (names_behind xs f v)
