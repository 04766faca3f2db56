-- The fields that a selection takes are those with the names that it takes.
use Rattle.std.proofs.Common.{◌≡◌, refl, ap, sym, subst, ◌∙◌, Bool, true, false, ◌&&◌, ◌||◌, not, cond, List, [], ◌∷◌, map, Some, None, Ok, Err}
use Rattle.std.specs.Prelude.{unwrap_or, is_ok}
use Rattle.std.specs.List.{filter}
use Rattle.std.specs.Str.{bytes_eq}
use Rattle.std.proofs.lemmas.Bool.{and_parts, and_from}
use Rattle.std.proofs.lemmas.Slice.Eq.{bytes_eq-Decides}
use Rattle.vx_dtype.specs.EqualLaws.{bytes_eq_equiv}
use Rattle.std.proofs.lemmas.Option.{same_Some}
use Rattle.vx_dtype.specs.declared.Nullability.TheVariants.{NonNullable, Nullable}
use Rattle.vx_dtype.specs.Types.{Bytes, Ty, bool_ty, int_ty, text_ty, list_ty, struct_ty, Fields, no_fields, field}
use Rattle.vx_dtype.specs.TypeRules.{is_nullable, nullability_of, has_name, distinct_names, field_names, field_type, no_name_twice, no_name_twice_below}
use Rattle.vx_dtype.specs.StructTypes.{struct_fields, fields_at, with_field, all_named, all_known}
use Rattle.vx_dtype.specs.Values.{Val, null_val, bool_val, int_val, text_val, list_val, struct_val, fault, Members, no_members, member}
use Rattle.vx_dtype.specs.Fits.{val_fits, members_fit}
use Rattle.vx_dtype.specs.Structs.{member_named, members_at, selected, members_without, deselected}
use Rattle.vx_dtype.proofs.DistinctLemmas.{not_found}
use Rattle.vx_expr.specs.declared.FieldSelection.{FieldSelection}
use Rattle.vx_expr.specs.declared.FieldSelection.TheVariants.{Include, Exclude}
use Rattle.vx_expr.specs.Children.{where_so}
use Rattle.vx_expr.specs.Selections.{listed_names, taken_names, names_where_known}
use Rattle.vx_column.specs.Columns.{Column, column, rows_fit}
use Rattle.vx_column.specs.Answers.{AnswersColumn, unless as unless_column}
use Rattle.vx_column.specs.StructColumns.{found_fields, projected_column}
use Rattle.vx_column.specs.declared.errors.ColumnError.{ColumnError}
use Rattle.vx_column.specs.declared.errors.ColumnError.TheVariants.{DuplicateField}
use Rattle.vx_eval.specs.Steps.{Makes}
use Rattle.vx_eval.specs.Failures.{failure_of, NamesTaken}
use Rattle.vx_eval.specs.declared.errors.Failure.{Failure}
use Rattle.vx_eval.specs.declared.errors.Failure.TheVariants as failures
use Rattle.vx_semantics.specs.Typing.{unknown_field, duplicate_field, unless, fields_without, selected_fields, included_once, select_type}
use Rattle.vx_semantics.specs.Meaning.{select3}
use Rattle.vx_eval.proofs.FailureLemmas.{fails_as, fails_not}
use Rattle.vx_typing.proofs.NameLemmas.{left_false, right_false, has_name_itself, none_kept, distinct_kept}

-- whether a name is none of these
abbrev pub is_left : List Bytes → Bytes → Bool
is_left names g = not (has_name g names)

-- ---- the fields with names among which the first field's isn't

other_field : (f g : Bytes) (names : List Bytes) → has_name f (g ∷ names) ≡ false → bytes_eq g f ≡ false
other_field f g names h = bytes_eq_equiv.symm g f ∙ left_false (bytes_eq f g) (has_name f names) h

fields_at-others : (f : Bytes) (t : Ty) (fs : Fields) (names : List Bytes) → has_name f names ≡ false → fields_at names (field f t fs) ≡ fields_at names fs
fields_at-others f t fs [] h = refl
fields_at-others f t fs (g ∷ names) h =
    ap (λ b. with_field g (cond b (Some t) (field_type g fs)) (fields_at names (field f t fs))) (other_field f g names h)
    ∙ ap (with_field g (field_type g fs)) (fields_at-others f t fs names (right_false (bytes_eq f g) (has_name f names) h))

members_at-others : (f : Bytes) (v : Val) (ms : Members) (names : List Bytes) → has_name f names ≡ false → members_at names (struct_val (member f v ms)) ≡ members_at names (struct_val ms)
members_at-others f v ms [] h = refl
members_at-others f v ms (g ∷ names) h =
    ap (λ b. member g (unwrap_or (cond b (Some v) (member_named g ms)) fault) (members_at names (struct_val (member f v ms)))) (other_field f g names h)
    ∙ ap (member g (unwrap_or (member_named g ms) fault)) (members_at-others f v ms names (right_false (bytes_eq f g) (has_name f names) h))

-- ---- the fields without some

-- the fields with the names that are left are those without the others
pub fields_left : (names : List Bytes) (fs : Fields) → distinct_names (field_names fs) ≡ true → fields_at (filter (is_left names) (field_names fs)) fs ≡ fields_without names fs
fields_left names no_fields h = refl
fields_left names (field f t fs) h =
    let parts = and_parts (not (has_name f (field_names fs))) (distinct_names (field_names fs)) h in
    by_test (has_name f names) (none_kept (is_left names) f (field_names fs) (not_found (has_name f (field_names fs)) parts.0)) (fields_left names fs parts.1)
  where
    left : List Bytes
    left = filter (is_left names) (field_names fs)

    by_test : (b : Bool) → has_name f left ≡ false → fields_at left fs ≡ fields_without names fs
        → fields_at (cond (not b) (f ∷ left) left) (field f t fs) ≡ cond b (fields_without names fs) (field f t (fields_without names fs))
    by_test true none rest = fields_at-others f t fs left none ∙ rest
    by_test false none rest =
        ap (λ b. with_field f (cond b (Some t) (field_type f fs)) (fields_at left (field f t fs))) (has_name_itself f)
        ∙ ap (field f t) (fields_at-others f t fs left none ∙ rest)

-- the names of members
abbrev pub member_names : Members → List Bytes
member_names no_members = []
member_names (member f v ms) = f ∷ member_names ms

-- members that fit have the fields' names
named_alike : (ms : Members) (fs : Fields) → members_fit ms fs ≡ true → member_names ms ≡ field_names fs
unfolding val_fits
named_alike no_members no_fields h = refl
named_alike no_members (field g t fs) h = absurd cc
named_alike (member f v ms) no_fields h = absurd cc
named_alike (member f v ms) (field g t fs) h =
    let parts = and_parts (bytes_eq f g) (val_fits v t && members_fit ms fs) h in
    let more = and_parts (val_fits v t) (members_fit ms fs) parts.1 in
    λ i. (bytes_eq-Decides f g).0 parts.0 i ∷ named_alike ms fs more.1 i

members_left : (names : List Bytes) (ms : Members) → distinct_names (member_names ms) ≡ true
    → members_at (filter (is_left names) (member_names ms)) (struct_val ms) ≡ members_without names ms
members_left names no_members h = refl
members_left names (member f v ms) h =
    let parts = and_parts (not (has_name f (member_names ms))) (distinct_names (member_names ms)) h in
    by_test (has_name f names) (none_kept (is_left names) f (member_names ms) (not_found (has_name f (member_names ms)) parts.0)) (members_left names ms parts.1)
  where
    left : List Bytes
    left = filter (is_left names) (member_names ms)

    by_test : (b : Bool) → has_name f left ≡ false → members_at left (struct_val ms) ≡ members_without names ms
        → members_at (cond (not b) (f ∷ left) left) (struct_val (member f v ms)) ≡ cond b (members_without names ms) (member f v (members_without names ms))
    by_test true none rest = members_at-others f v ms left none ∙ rest
    by_test false none rest =
        ap (λ b. member f (unwrap_or (cond b (Some v) (member_named f ms)) fault) (members_at left (struct_val (member f v ms)))) (has_name_itself f)
        ∙ ap (member f v) (members_at-others f v ms left none ∙ rest)

-- of a value of the struct type, the fields without some are those with the names that are left
pub deselected_left : (names : List Bytes) (fs : Fields) (v : Val) → distinct_names (field_names fs) ≡ true → val_fits v (struct_ty fs NonNullable) ≡ true
    → selected (filter (is_left names) (field_names fs)) v ≡ deselected names v
unfolding val_fits
deselected_left names fs null_val d h = refl
deselected_left names fs (struct_val ms) d h =
    let same = named_alike ms fs h in
    ap (λ ns. struct_val (members_at (filter (is_left names) ns) (struct_val ms))) (sym same) ∙ ap struct_val (members_left names ms (ap distinct_names same ∙ d))
deselected_left names fs (bool_val b) d h = refl
deselected_left names fs (int_val p i) d h = refl
deselected_left names fs (text_val s) d h = refl
deselected_left names fs (list_val xs) d h = refl
deselected_left names fs fault d h = refl

pub deselected_rows : (names : List Bytes) (fs : Fields) (vs : List Val) → distinct_names (field_names fs) ≡ true → rows_fit (struct_ty fs NonNullable) vs ≡ true
    → map (selected (filter (is_left names) (field_names fs))) vs ≡ map (deselected names) vs
deselected_rows names fs [] d h = refl
deselected_rows names fs (v ∷ vs) d h =
    let parts = and_parts (val_fits v (struct_ty fs NonNullable)) (rows_fit (struct_ty fs NonNullable) vs) h in
    λ i. deselected_left names fs v d parts.0 i ∷ deselected_rows names fs vs d parts.1 i

-- ---- the names that a selection takes

-- what is known of names that a selection takes of those of fields
pub record Takes (s : FieldSelection) (fs : Fields) (taken : List Bytes) : Type 0 where
  pub listed : all_known (listed_names s) fs ≡ true
  pub is : taken ≡ taken_names s (field_names fs)

pub takes : (s : FieldSelection) (fs : Fields) (taken : List Bytes) → names_where_known s (field_names fs) ≡ Some taken → Takes s fs taken
takes s fs taken h = by_test (all_named (listed_names s) (field_names fs)) refl h
  where
    by_test : (b : Bool) → all_named (listed_names s) (field_names fs) ≡ b → where_so b (taken_names s (field_names fs)) ≡ Some taken → Takes s fs taken
    by_test true e k = record { listed = e; is = cc }
    by_test false e k = absurd cc

-- none are taken where a listed name isn't known
pub takes_none : (s : FieldSelection) (fs : Fields) → names_where_known s (field_names fs) ≡ None → all_known (listed_names s) fs ≡ false
takes_none s fs h = by_test (all_named (listed_names s) (field_names fs)) refl h
  where
    by_test : (b : Bool) → all_named (listed_names s) (field_names fs) ≡ b → where_so b (taken_names s (field_names fs)) ≡ None → b ≡ false
    by_test true e k = absurd cc
    by_test false e k = refl

either : (a b : Bool) → b ≡ true → (a || b) ≡ true
either true b h = refl
either false b h = h

all_behind : (f : Bytes) (fs gs : List Bytes) → all_named gs fs ≡ true → all_named gs (f ∷ fs) ≡ true
all_behind f fs [] h = refl
all_behind f fs (g ∷ gs) h =
    let parts = and_parts (has_name g fs) (all_named gs fs) h in
    and_from (has_name g (f ∷ fs)) (all_named gs (f ∷ fs)) (either (bytes_eq g f) (has_name g fs) parts.0) (all_behind f fs gs parts.1)

all_own : (fs : List Bytes) → all_named fs fs ≡ true
all_own [] = refl
all_own (f ∷ fs) =
    and_from (has_name f (f ∷ fs)) (all_named fs (f ∷ fs)) (ap (λ b. b || has_name f fs) (has_name_itself f)) (all_behind f fs fs (all_own fs))

all_kept : (p : Bytes → Bool) (all fs : List Bytes) → all_named fs all ≡ true → all_named (filter p fs) all ≡ true
all_kept p all [] h = refl
all_kept p all (f ∷ fs) h =
    let parts = and_parts (has_name f all) (all_named fs all) h in
    by_test (p f) parts.0 (all_kept p all fs parts.1)
  where
    by_test : (b : Bool) → has_name f all ≡ true → all_named (filter p fs) all ≡ true → all_named (cond b (f ∷ filter p fs) (filter p fs)) all ≡ true
    by_test true here rest = and_from (has_name f all) (all_named (filter p fs) all) here rest
    by_test false here rest = rest

-- the names that are taken are fields', and stand once where the selection asks each once
taken_known : (s : FieldSelection) (fs : Fields) (taken : List Bytes) → Takes s fs taken → all_known taken fs ≡ true
taken_known (Include names) fs taken h = ap (λ ns. all_named ns (field_names fs)) h.is ∙ h.listed
taken_known (Exclude names) fs taken h =
    ap (λ ns. all_named ns (field_names fs)) h.is ∙ all_kept (is_left names) (field_names fs) (field_names fs) (all_own (field_names fs))

taken_once : (s : FieldSelection) (fs : Fields) (taken : List Bytes) → Takes s fs taken → distinct_names (field_names fs) ≡ true → distinct_names taken ≡ included_once s
taken_once (Include names) fs taken h d = ap distinct_names h.is
taken_once (Exclude names) fs taken h d = ap distinct_names h.is ∙ distinct_kept (is_left names) (field_names fs) d

fields_taken : (s : FieldSelection) (fs : Fields) (taken : List Bytes) → Takes s fs taken → distinct_names (field_names fs) ≡ true → fields_at taken fs ≡ selected_fields s fs
fields_taken (Include names) fs taken h d = ap (λ ns. fields_at ns fs) h.is
fields_taken (Exclude names) fs taken h d = ap (λ ns. fields_at ns fs) h.is ∙ fields_left names fs d

rows_taken : (s : FieldSelection) (fs : Fields) (taken : List Bytes) (vs : List Val) → Takes s fs taken → distinct_names (field_names fs) ≡ true
    → rows_fit (struct_ty fs NonNullable) vs ≡ true → map (selected taken) vs ≡ map (select3 s) vs
rows_taken (Include names) fs taken vs h d k = ap (λ ns. map (selected ns) vs) h.is
rows_taken (Exclude names) fs taken vs h d k = ap (λ ns. map (selected ns) vs) h.is ∙ deselected_rows names fs vs d k

names_once : (fs : Fields) → no_name_twice (struct_ty fs NonNullable) ≡ true → distinct_names (field_names fs) ≡ true
unfolding no_name_twice
names_once fs h = (and_parts (distinct_names (field_names fs)) (no_name_twice_below fs) h).0

-- ---- what is told of the column

select_told : (s : FieldSelection) (fs : Fields) → all_known (listed_names s) fs ≡ true
    → select_type s (struct_ty fs NonNullable) ≡ unless (included_once s) duplicate_field (Ok (struct_ty (selected_fields s fs) NonNullable))
select_told s fs h = ap (λ b. unless b unknown_field (unless (included_once s) duplicate_field (Ok (struct_ty (selected_fields s fs) NonNullable)))) h

project_told : (taken : List Bytes) (fs : Fields) (vs : List Val) → all_known taken fs ≡ true
    → projected_column taken (column (struct_ty fs NonNullable) vs)
    ≡ unless_column (distinct_names taken) DuplicateField (Ok (column (struct_ty (fields_at taken fs) NonNullable) (map (selected taken) vs)))
project_told taken fs vs h = ap (λ b. found_fields taken (column (struct_ty fs NonNullable) vs) (cond b (Some (fields_at taken fs)) None)) h

module _ (s : FieldSelection) (fs : Fields) (taken : List Bytes) (vs : List Val) (h : Takes s fs taken) (once : no_name_twice (struct_ty fs NonNullable) ≡ true)
    (fit : rows_fit (struct_ty fs NonNullable) vs ≡ true) where
  told_by : (b : Bool) → included_once s ≡ b
      → projected_column taken (column (struct_ty fs NonNullable) vs) ≡ unless_column b DuplicateField (Ok (column (struct_ty (selected_fields s fs) NonNullable) (map (select3 s) vs)))
  told_by b e =
      let d = names_once fs once in
      project_told taken fs vs (taken_known s fs taken h)
      ∙ ap (λ c. unless_column c DuplicateField (Ok (column (struct_ty (fields_at taken fs) NonNullable) (map (selected taken) vs)))) (taken_once s fs taken h d ∙ e)
      ∙ (λ i. unless_column b DuplicateField (Ok (column (struct_ty (fields_taken s fs taken h d i) NonNullable) (rows_taken s fs taken vs h d fit i))))

  chosen_by : (b : Bool) → included_once s ≡ b → (c : Column)
      → Ok c ≡ unless_column b DuplicateField (Ok (column (struct_ty (selected_fields s fs) NonNullable) (map (select3 s) vs)))
      → Makes (select_type s (struct_ty fs NonNullable)) (map (select3 s) vs) (Ok c)
  chosen_by true e c k =
      let same : c ≡ column (struct_ty (selected_fields s fs) NonNullable) (map (select3 s) vs) = cc in (
        select_told s fs h.listed ∙ ap (λ b. unless b duplicate_field (Ok (struct_ty (selected_fields s fs) NonNullable))) e ∙ ap (λ (d : Column). Ok d.ty) (sym same),
        ap (λ (d : Column). d.rows) same,
      )
  chosen_by false e c k = absurd cc

  refused_by : (b : Bool) → included_once s ≡ b → (x : ColumnError)
      → AnswersColumn (Err x) (unless_column b DuplicateField (Ok (column (struct_ty (selected_fields s fs) NonNullable) (map (select3 s) vs))))
      → Makes (select_type s (struct_ty fs NonNullable)) (map (select3 s) vs) (Err (failure_of x))
  refused_by true e x k = fails_not (select_type s (struct_ty fs NonNullable)) (map (select3 s) vs) x (column (struct_ty (selected_fields s fs) NonNullable) (map (select3 s) vs)) k
  refused_by false e x k =
      fails_as (select_type s (struct_ty fs NonNullable)) (map (select3 s) vs) x DuplicateField refl
      (ap is_ok (select_told s fs h.listed ∙ ap (λ b. unless b duplicate_field (Ok (struct_ty (selected_fields s fs) NonNullable))) e)) k

  -- the structs of the fields with the names are those that the selection gives
  pub chosen : (c : Column) → Ok c ≡ projected_column taken (column (struct_ty fs NonNullable) vs) → Makes (select_type s (struct_ty fs NonNullable)) (map (select3 s) vs) (Ok c)
  chosen c k = chosen_by (included_once s) refl c (k ∙ told_by (included_once s) refl)

  -- and are refused where the rule refuses
  pub refused : (e : ColumnError) → AnswersColumn (Err e) (projected_column taken (column (struct_ty fs NonNullable) vs))
      → Makes (select_type s (struct_ty fs NonNullable)) (map (select3 s) vs) (Err (failure_of e))
  refused e k = refused_by (included_once s) refl e (subst (AnswersColumn (Err e)) (told_by (included_once s) refl) k)

-- ---- the answers of the step

-- what is no struct, or may be null, is refused
pub not_struct_refused : (s : FieldSelection) (t : Ty) → struct_fields t ≡ None → is_ok (select_type s t) ≡ false
not_struct_refused s (bool_ty n) h = refl
not_struct_refused s (int_ty p n) h = refl
not_struct_refused s (text_ty n) h = refl
not_struct_refused s (list_ty e n) h = refl
not_struct_refused s (struct_ty fs n) h = absurd cc

pub nullable_refused : (s : FieldSelection) (t : Ty) → is_nullable (nullability_of t) ≡ true → is_ok (select_type s t) ≡ false
nullable_refused s (bool_ty n) h = refl
nullable_refused s (int_ty p n) h = refl
nullable_refused s (text_ty n) h = refl
nullable_refused s (list_ty e n) h = refl
nullable_refused s (struct_ty fs Nullable) h = refl
nullable_refused s (struct_ty fs NonNullable) h = absurd cc

pub struct_so : (t : Ty) (fs : Fields) → struct_fields t ≡ Some fs → is_nullable (nullability_of t) ≡ false → t ≡ struct_ty fs NonNullable
struct_so (bool_ty n) fs h k = absurd cc
struct_so (int_ty p n) fs h k = absurd cc
struct_so (text_ty n) fs h k = absurd cc
struct_so (list_ty e n) fs h k = absurd cc
struct_so (struct_ty gs Nullable) fs h k = absurd cc
struct_so (struct_ty gs NonNullable) fs h k = ap (λ ms. struct_ty ms NonNullable) (same_Some gs fs h)

-- names that aren't told are refused
pub names_refused : (s : FieldSelection) (t : Ty) (fs : Fields) (rows : List Val) (e : Failure) → t ≡ struct_ty fs NonNullable → NamesTaken (names_where_known s (field_names fs)) (Err e)
    → Makes (select_type s t) rows (Err e)
names_refused s t fs rows failures.NoMemory at h = tt
names_refused s t fs rows failures.Mistyped at h =
    ap (λ u. is_ok (select_type s u)) at
    ∙ ap (λ b. is_ok (unless b unknown_field (unless (included_once s) duplicate_field (Ok (struct_ty (selected_fields s fs) NonNullable))))) (takes_none s fs h)
names_refused s t fs rows failures.Overflow at h = absurd h
names_refused s t fs rows failures.BadCast at h = absurd h

module _ (s : FieldSelection) (fs : Fields) (taken : List Bytes) (col : Column) (at : col.ty ≡ struct_ty fs NonNullable) (named : names_where_known s (field_names fs) ≡ Some taken)
    (once : no_name_twice col.ty ≡ true) (fit : rows_fit col.ty col.rows ≡ true) where
  here : projected_column taken col ≡ projected_column taken (column (struct_ty fs NonNullable) col.rows)
  here = ap (λ t. projected_column taken (column t col.rows)) at

  once_here : no_name_twice (struct_ty fs NonNullable) ≡ true
  once_here = ap no_name_twice (sym at) ∙ once

  fit_here : rows_fit (struct_ty fs NonNullable) col.rows ≡ true
  fit_here = ap (λ t. rows_fit t col.rows) (sym at) ∙ fit

  pub selects : (c : Column) → Ok c ≡ projected_column taken col → Makes (select_type s col.ty) (map (select3 s) col.rows) (Ok c)
  selects c k =
      subst (λ t. Makes (select_type s t) (map (select3 s) col.rows) (Ok c)) (sym at) (chosen s fs taken col.rows (takes s fs taken named) once_here fit_here c (k ∙ here))

  pub selects_not : (e : ColumnError) → AnswersColumn (Err e) (projected_column taken col) → Makes (select_type s col.ty) (map (select3 s) col.rows) (Err (failure_of e))
  selects_not e k =
      subst (λ t. Makes (select_type s t) (map (select3 s) col.rows) (Err (failure_of e))) (sym at)
      (refused s fs taken col.rows (takes s fs taken named) once_here fit_here e (subst (AnswersColumn (Err e)) here k))
