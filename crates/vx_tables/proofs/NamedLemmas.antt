-- The column of a name: where it is, its type, its length, and its values in the rows of the block.
use Rattle.std.proofs.Common.{◌≡◌, refl, ap, ◌∙◌, sym, ℕ, suc, ◌+◌, Bool, true, false, not, ◌||◌, cond, nat_eq, nat_lt, Option, Some, None, IsSome, Bor, option_copied, subst, List, [], ◌∷◌, map, length, arith}
use Rattle.std.specs.Cmp.{first_so, second_so}
use Rattle.std.specs.List.{list_all, slice_get, position, position_or_len}
use Rattle.std.specs.Str.{bytes_eq}
use Rattle.std.proofs.lemmas.Option.{slice_get_past}
use Rattle.vx_dtype.specs.Types.{Bytes, Ty, Fields, no_fields, field}
use Rattle.vx_dtype.specs.TypeRules.{has_name, field_names, field_type}
use Rattle.vx_dtype.specs.StructTypes.{field_types}
use Rattle.vx_dtype.specs.Equal.{ty_eq}
use Rattle.vx_dtype.specs.EqualLaws.{ty_decides}
use Rattle.vx_dtype.specs.Values.{struct_val, Members, member}
use Rattle.vx_dtype.specs.Structs.{field_of}
use Rattle.vx_column.specs.Columns.{Column, zip_rows}
use Rattle.vx_tables.specs.Blocks.{block_typed, block_members, rows_of_columns, column_named}
use Rattle.vx_tables.proofs.MemberLemmas.{equal_numbers, members_count, first_of, rest_of}

-- the column of a name stands at the place of the name
named_or : (f : Bytes) (fs : Fields) (cs : List Column) → length cs ≡ length (field_names fs) → column_named f fs cs ≡ slice_get cs (position_or_len (bytes_eq f) (field_names fs))
named_or f no_fields [] e = refl
named_or f no_fields (c ∷ cs) e = absurd (omega (arith, e))
named_or f (field g t fs) [] e = absurd (omega (arith, e))
named_or f (field g t fs) (c ∷ cs) e =
    let n = position_or_len (bytes_eq f) (field_names fs) in
    let rest = named_or f fs cs (omega (arith, e)) in
    let one : suc n ≡ 1 + n = omega arith in
    let next = ap (λ m. slice_get (c ∷ cs) m) one in
    elim (bytes_eq f g) as (λ b. cond b (Some c) (column_named f fs cs) ≡ slice_get (c ∷ cs) (cond (not b) (1 + n) 0)) [ true ↦ refl | false ↦ rest ∙ next ]

placed : (b : Bool) (n i : ℕ) → cond b (Some n) None ≡ Some i → n ≡ i
placed true n i h = cc
placed false n i h = absurd cc

not_placed : (b : Bool) (n : ℕ) → cond b (Some n) None ≡ None → b ≡ false
not_placed true n h = cc
not_placed false n h = refl

pub named_at : (f : Bytes) (fs : Fields) (cs : List Column) (i : ℕ) → length cs ≡ length (field_names fs) → position (bytes_eq f) (field_names fs) ≡ Some i → slice_get cs i ≡ column_named f fs cs
named_at f fs cs i e h =
    let n = position_or_len (bytes_eq f) (field_names fs) in
    let same : n ≡ i = placed (nat_lt n (length (field_names fs))) n i h in
    sym (named_or f fs cs e ∙ ap (slice_get cs) same)

pub named_nowhere : (f : Bytes) (fs : Fields) (cs : List Column) → length cs ≡ length (field_names fs) → position (bytes_eq f) (field_names fs) ≡ None → column_named f fs cs ≡ None
named_nowhere f fs cs e h =
    let n = position_or_len (bytes_eq f) (field_names fs) in
    let past : nat_lt n (length (field_names fs)) ≡ false = not_placed (nat_lt n (length (field_names fs))) n h in
    named_or f fs cs e ∙ slice_get_past cs n (grind (arith, past, e))

-- a name that is there has a column
there_step : (b r : Bool) (c : Column) (o : Option Column) → (b || r) ≡ true → (r ≡ true → IsSome o) → IsSome (cond b (Some c) o)
there_step true r c o h k = refl
there_step false r c o h k = k h

pub named_there : (f : Bytes) (fs : Fields) (cs : List Column) → length cs ≡ length (field_names fs) → has_name f (field_names fs) ≡ true → IsSome (column_named f fs cs)
named_there f no_fields cs e h = absurd cc
named_there f (field g t fs) [] e h = absurd (omega (arith, e))
named_there f (field g t fs) (c ∷ cs) e h =
    there_step (bytes_eq f g) (has_name f (field_names fs)) c (column_named f fs cs) h (λ k. named_there f fs cs (omega (arith, e)) k)

-- the value behind a reference is there where the reference is
pub copied_some : {X : Type 0} (o : Option (Bor X)) (p : Option X) → option_copied o ≡ p → IsSome p → IsSome o
copied_some None p e h = subst IsSome (sym e) h
copied_some (Some x) p e h = refl

-- its type is that of the field
typed_step : (b : Bool) (d c : Column) (t : Ty) (o : Option Column) (u : Option Ty) → cond b (Some d) o ≡ Some c → d.ty ≡ t → (o ≡ Some c → u ≡ Some c.ty) → cond b (Some t) u ≡ Some c.ty
typed_step true d c t o u h e k = let same : d ≡ c = cc in ap (λ v. Some v) (sym e ∙ ap (λ (x : Column). x.ty) same)
typed_step false d c t o u h e k = k h

pub named_typed : (f : Bytes) (fs : Fields) (cs : List Column) (c : Column) → block_typed (field_types fs) cs ≡ true → column_named f fs cs ≡ Some c → field_type f fs ≡ Some c.ty
named_typed f no_fields cs c h e = absurd cc
named_typed f (field g t fs) [] c h e = absurd cc
named_typed f (field g t fs) (d ∷ cs) c h e =
    let same : d.ty ≡ t = (ty_decides d.ty t).0 (first_so (ty_eq d.ty t) (block_typed (field_types fs) cs) h) in
    typed_step (bytes_eq f g) d c t (column_named f fs cs) (field_type f fs) e same (λ k. named_typed f fs cs c (second_so (ty_eq d.ty t) (block_typed (field_types fs) cs) h) k)

-- it has as many rows as the block
counted_step : (b : Bool) (d c : Column) (n : ℕ) (o : Option Column) → cond b (Some d) o ≡ Some c → length d.rows ≡ n → (o ≡ Some c → length c.rows ≡ n) → length c.rows ≡ n
counted_step true d c n o h e k = let same : d ≡ c = cc in sym (ap (λ (x : Column). length x.rows) same) ∙ e
counted_step false d c n o h e k = k h

pub named_counted : (f : Bytes) (fs : Fields) (n : ℕ) (cs : List Column) (c : Column) → list_all (λ c. nat_eq (length c.rows) n) cs ≡ true → column_named f fs cs ≡ Some c → length c.rows ≡ n
named_counted f no_fields n cs c h e = absurd cc
named_counted f (field g t fs) n [] c h e = absurd cc
named_counted f (field g t fs) n (d ∷ cs) c h e =
    counted_step (bytes_eq f g) d c n (column_named f fs cs) e (equal_numbers (length d.rows) n (first_so _ _ h)) (λ k. named_counted f fs n cs c (second_so _ _ h) k)

-- and its values are the fields of the rows
rows_step : (f g : Bytes) (b : Bool) → bytes_eq f g ≡ b → (d c : Column) (o : Option Column) (ms : List Members) → length d.rows ≡ length ms → cond b (Some d) o ≡ Some c → (o ≡ Some c → map (field_of f) (map struct_val ms) ≡ c.rows) → map (field_of f) (map struct_val (zip_rows (member g) d.rows ms)) ≡ c.rows
rows_step f g true e d c o ms h q k = let same : d ≡ c = cc in first_of f g e d.rows ms h ∙ ap (λ (x : Column). x.rows) same
rows_step f g false e d c o ms h q k = rest_of f g e d.rows ms h ∙ k q

pub named_rows : (f : Bytes) (fs : Fields) (n : ℕ) (cs : List Column) (c : Column) → list_all (λ c. nat_eq (length c.rows) n) cs ≡ true → column_named f fs cs ≡ Some c → map (field_of f) (rows_of_columns fs n cs) ≡ c.rows
named_rows f no_fields n cs c h e = absurd cc
named_rows f (field g t fs) n [] c h e = absurd cc
named_rows f (field g t fs) n (d ∷ cs) c h e =
    let long : length d.rows ≡ n = equal_numbers (length d.rows) n (first_so _ _ h) in
    let rest : length (block_members fs n cs) ≡ n = members_count fs n cs (second_so _ _ h) in
    rows_step f g (bytes_eq f g) refl d c (column_named f fs cs) (block_members fs n cs) (long ∙ sym rest) e (λ k. named_rows f fs n cs c (second_so _ _ h) k)
