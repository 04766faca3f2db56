-- The table that a file holds: as long and of the types that its header says, with the values of each range.
use Rattle.std.proofs.Common.{◌≡◌, refl, sym, ap, ◌∙◌, subst, ℕ, zero, suc, Bool, true, false, cond, not, ◌&&◌, nat_eq, pos, Option, Some, None, List, [], ◌∷◌, map, length, replicate, unwrap_or, arith}
use Rattle.std.specs.List.{AllByRecursion, list_all, concat, slice_get}
use Rattle.std.specs.Option.{option_and_then}
use Rattle.std.specs.Str.{bytes_eq}
use Rattle.std.proofs.lemmas.Bool.{and_from, eq-eqb}
use Rattle.std.proofs.lemmas.Option.{same_Some, slice_get_within}
use Rattle.vx_dtype.specs.declared.PType.{PType}
use Rattle.vx_dtype.specs.declared.PType.TheVariants.{U8, U16, U32, U64, I8, I16, I32, I64}
use Rattle.vx_dtype.specs.declared.Nullability.TheVariants.{NonNullable, Nullable}
use Rattle.vx_dtype.specs.Types.{Bytes, Ty, bool_ty, int_ty, text_ty, list_ty, struct_ty, Fields, no_fields, field}
use Rattle.vx_dtype.specs.TypeRules.{field_names, field_type}
use Rattle.vx_dtype.specs.StructTypes.{field_types}
use Rattle.vx_dtype.specs.Equal.{ty_eq}
use Rattle.vx_dtype.specs.EqualLaws.{ty_decides}
use Rattle.vx_dtype.specs.Values.{Val}
use Rattle.vx_dtype.specs.Fits.{int_val_fits, val_fits, members_fit}
use Rattle.vx_dtype.proofs.ValuedLemmas.{bytes_eq_refl}
use Rattle.vx_column.specs.Columns.{Column, column, rows_fit, zip_rows}
use Rattle.vx_tables.specs.Blocks.{block_long, blocks_long, block_typed, block_fits, have_lengths, have_types, column_named}
use Rattle.vx_tables.proofs.MemberLemmas.{length_replicate, length_mapped}
use Rattle.vx_tables.proofs.BlockLemmas.{held}
use Rattle.vx_wire_bytes.proofs.NumberLemmas.{IsBytes}
use Rattle.vx_laws_file.specs.Cells.{IsCell}
use Rattle.vx_laws_file.specs.FileForms.{AreRangeLengths, front_bytes, FileContent, lengths_of, header_of, ranges_bytes}
use Rattle.vx_laws_file.specs.Opening.{IsOpened}
use Rattle.vx_laws_file.specs.Ranges.{SpellsRange, range_named, HasRange}
use Rattle.vx_laws_file.specs.HeldTables.{filler, fillers, range_values, held_values, held_block, held_blocks}
use Rattle.vx_laws_file.specs.FileLaws.{ReadIsNotDamaged, ReadAsOne, HeldIsTable, HeldIsRead}
use Rattle.vx_laws_file.proofs.Lists.{bytes_behind, bytes_before}
use Rattle.vx_laws_file.proofs.RangeLemmas.{one_range, values_spelled, range_count}

-- ---- fillers

zero_fits : (p : PType) → int_val_fits p (pos 0) (int_ty p NonNullable) ≡ true
zero_fits U8 = refl
zero_fits U16 = refl
zero_fits U32 = refl
zero_fits U64 = refl
zero_fits I8 = refl
zero_fits I16 = refl
zero_fits I32 = refl
zero_fits I64 = refl

mutual
  unfolding val_fits

  filler_fits : (t : Ty) → val_fits (filler t) t ≡ true
  filler_fits (bool_ty NonNullable) = refl
  filler_fits (bool_ty Nullable) = refl
  filler_fits (int_ty p NonNullable) = zero_fits p
  filler_fits (int_ty p Nullable) = refl
  filler_fits (text_ty NonNullable) = refl
  filler_fits (text_ty Nullable) = refl
  filler_fits (list_ty e NonNullable) = refl
  filler_fits (list_ty e Nullable) = refl
  filler_fits (struct_ty fs NonNullable) = fillers_fit fs
  filler_fits (struct_ty fs Nullable) = refl

  fillers_fit : (fs : Fields) → members_fit (fillers fs) fs ≡ true
  fillers_fit no_fields = refl
  fillers_fit (field f t fs) =
      and_from (bytes_eq f f) (val_fits (filler t) t && members_fit (fillers fs) fs) (bytes_eq_refl f)
      (and_from (val_fits (filler t) t) (members_fit (fillers fs) fs) (filler_fits t) (fillers_fit fs))

fillers_are_rows : (t : Ty) (n : ℕ) → rows_fit t (replicate n (filler t)) ≡ true
fillers_are_rows t zero = refl
fillers_are_rows t (suc n) = and_from (val_fits (filler t) t) (rows_fit t (replicate n (filler t))) (filler_fits t) (fillers_are_rows t n)

-- ---- one column

cells_are_rows : (t : Ty) (vs : List Val) → AllByRecursion (IsCell t) vs → rows_fit t vs ≡ true
cells_are_rows t [] p = refl
cells_are_rows t (v ∷ vs) p = and_from (val_fits v t) (rows_fit t vs) p.0.fit (cells_are_rows t vs p.1)

held_length : (t : Ty) (n : ℕ) (range : Bytes) → length (held_values t n range) ≡ n
held_length t n range = by (range_values t n range) refl
  where
    by : (o : Option (List Val)) → range_values t n range ≡ o → length (unwrap_or o (replicate n (filler t))) ≡ n
    by None e = length_replicate n (filler t)
    by (Some vs) e = range_count t n range vs e

held_fits : (t : Ty) (n : ℕ) (range : Bytes) → IsBytes range → rows_fit t (held_values t n range) ≡ true
held_fits t n range here = by (range_values t n range) refl
  where
    by : (o : Option (List Val)) → range_values t n range ≡ o → rows_fit t (unwrap_or o (replicate n (filler t))) ≡ true
    by None e = fillers_are_rows t n
    by (Some vs) e = cells_are_rows t vs (values_spelled t n range vs here e).cells

-- ---- one block

held_count : (fs : Fields) (n : ℕ) (rs : List Bytes) → length rs ≡ length (field_names fs) → length (held_block fs n rs) ≡ length (field_names fs)
held_count no_fields n rs e = refl
held_count (field f t fs) n [] e = absurd (omega (arith, e))
held_count (field f t fs) n (r ∷ rs) e = ap suc (held_count fs n rs (omega (arith, e)))

held_rows : (fs : Fields) (n : ℕ) (rs : List Bytes) → list_all (λ c. nat_eq (length c.rows) n) (held_block fs n rs) ≡ true
held_rows no_fields n rs = refl
held_rows (field f t fs) n [] = refl
held_rows (field f t fs) n (r ∷ rs) =
    and_from (nat_eq (length (held_values t n r)) n) (list_all (λ (c : Column). nat_eq (length c.rows) n) (held_block fs n rs))
    (eq-eqb (length (held_values t n r)) n (held_length t n r)) (held_rows fs n rs)

held_typed : (fs : Fields) (n : ℕ) (rs : List Bytes) → block_typed (field_types fs) (held_block fs n rs) ≡ true
held_typed no_fields n rs = refl
held_typed (field f t fs) n [] = refl
held_typed (field f t fs) n (r ∷ rs) =
    and_from (ty_eq t t) (block_typed (field_types fs) (held_block fs n rs)) ((ty_decides t t).1 refl) (held_typed fs n rs)

held_all_fit : (fs : Fields) (n : ℕ) (rs : List Bytes) → AllByRecursion IsBytes rs → block_fits (held_block fs n rs) ≡ true
held_all_fit no_fields n rs h = refl
held_all_fit (field f t fs) n [] h = refl
held_all_fit (field f t fs) n (r ∷ rs) h =
    and_from (rows_fit t (held_values t n r)) (block_fits (held_block fs n rs)) (held_fits t n r h.0) (held_all_fit fs n rs h.1)

-- ---- all blocks

blocks_are_long : (fs : Fields) (ns : List ℕ) (rss : List (List Bytes)) → length rss ≡ length ns → AllByRecursion (λ rs. length rs ≡ length (field_names fs)) rss
    → blocks_long (length (field_names fs)) ns (zip_rows (held_block fs) ns rss) ≡ true
blocks_are_long fs [] [] e h = refl
blocks_are_long fs [] (rs ∷ rss) e h = absurd (omega (arith, e))
blocks_are_long fs (n ∷ ns) [] e h = absurd (omega (arith, e))
blocks_are_long fs (n ∷ ns) (rs ∷ rss) e h =
    let width = length (field_names fs) in
    let cs = held_block fs n rs in
    let own : block_long width n cs ≡ true =
    and_from (nat_eq (length cs) width) (list_all (λ (c : Column). nat_eq (length c.rows) n) cs) (eq-eqb (length cs) width (held_count fs n rs h.0)) (held_rows fs n rs) in
    and_from (block_long width n cs) (blocks_long width ns (zip_rows (held_block fs) ns rss)) own (blocks_are_long fs ns rss (omega (arith, e)) h.1)

blocks_are_typed : (fs : Fields) (ns : List ℕ) (rss : List (List Bytes)) → list_all (block_typed (field_types fs)) (zip_rows (held_block fs) ns rss) ≡ true
blocks_are_typed fs [] rss = refl
blocks_are_typed fs (n ∷ ns) [] = refl
blocks_are_typed fs (n ∷ ns) (rs ∷ rss) =
    and_from (block_typed (field_types fs) (held_block fs n rs)) (list_all (block_typed (field_types fs)) (zip_rows (held_block fs) ns rss)) (held_typed fs n rs) (blocks_are_typed fs ns rss)

blocks_all_fit : (fs : Fields) (ns : List ℕ) (rss : List (List Bytes)) → AllByRecursion (λ rs. AllByRecursion IsBytes rs) rss → list_all block_fits (zip_rows (held_block fs) ns rss) ≡ true
blocks_all_fit fs [] rss h = refl
blocks_all_fit fs (n ∷ ns) [] h = refl
blocks_all_fit fs (n ∷ ns) (rs ∷ rss) h =
    and_from (block_fits (held_block fs n rs)) (list_all block_fits (zip_rows (held_block fs) ns rss)) (held_all_fit fs n rs h.0) (blocks_all_fit fs ns rss h.1)

-- ---- what a header says of the ranges

pub lengths_count : (rs : List Bytes) → length (lengths_of rs) ≡ length rs
lengths_count [] = refl
lengths_count (r ∷ rs) = ap suc (lengths_count rs)

pub have_widths : (w : ℕ) (rss : List (List Bytes)) → AllByRecursion (AreRangeLengths w) (map lengths_of rss) → AllByRecursion (λ rs. length rs ≡ w) rss
have_widths w [] h = tt
have_widths w (rs ∷ rss) h = (sym (lengths_count rs) ∙ h.0.0, have_widths w rss h.1)

opened_lengths : (bytes : Bytes) (content : FileContent) → IsOpened bytes content → have_lengths content.zones (held_blocks content) ≡ true
opened_lengths bytes content p =
    let h = p.header.header in
    blocks_are_long content.zones.columns content.zones.lengths content.ranges (sym (length_mapped lengths_of content.ranges) ∙ h.each_block)
    (have_widths (length (field_names content.zones.columns)) content.ranges h.each_range)

opened_types : (content : FileContent) → have_types content.zones (held_blocks content) ≡ true
opened_types content = blocks_are_typed content.zones.columns content.zones.lengths content.ranges

pieces_are_bytes : (rs : List Bytes) → IsBytes (concat rs) → AllByRecursion IsBytes rs
pieces_are_bytes [] h = tt
pieces_are_bytes (r ∷ rs) h = (bytes_before r (concat rs) h, pieces_are_bytes rs (bytes_behind r (concat rs) h))

pub ranges_are_bytes : (rss : List (List Bytes)) → IsBytes (ranges_bytes rss) → AllByRecursion (λ rs. AllByRecursion IsBytes rs) rss
ranges_are_bytes [] h = tt
ranges_are_bytes (rs ∷ rss) h =
    (pieces_are_bytes rs (bytes_before (concat rs) (ranges_bytes rss) h), ranges_are_bytes rss (bytes_behind (concat rs) (ranges_bytes rss) h))

passed : {X : Type 0} (a : Bool) (x y : X) → a ≡ true → cond (not a) x y ≡ y
passed true x y h = refl
passed false x y h = absurd cc

pub held_is_table : HeldIsTable
held_is_table bytes content here p =
    let ranges = bytes_behind (front_bytes (header_of content)) (ranges_bytes content.ranges) (subst IsBytes p.header.stands here) in
    let lengths = opened_lengths bytes content p in
    let types = opened_types content in (
      passed (have_lengths content.zones (held_blocks content)) _ _ lengths ∙ passed (have_types content.zones (held_blocks content)) _ _ types,
      blocks_all_fit content.zones.columns content.zones.lengths content.ranges (ranges_are_bytes content.ranges ranges),
    )

-- ---- one pair

-- what is made of two lists stands at the place of both
zip_at : {A B C : Type 0} (f : A → B → C) (xs : List A) (ys : List B) (i : ℕ) (x : A) (y : B) → slice_get xs i ≡ Some x → slice_get ys i ≡ Some y → slice_get (zip_rows f xs ys) i ≡ Some (f x y)
zip_at f [] ys i x y h k = absurd cc
zip_at f (a ∷ xs) [] i x y h k = absurd cc
zip_at f (a ∷ xs) (b ∷ ys) zero x y h k =
    let p = same_Some a x h in
    let q = same_Some b y k in
    λ j. Some (f (p j) (q j))
zip_at f (a ∷ xs) (b ∷ ys) (suc i) x y h k = zip_at f xs ys i x y h k

pub and_then_parts : {A B : Type 0} (f : A → Option B) (o : Option A) (y : B) → option_and_then f o ≡ Some y → (x : A) × (o ≡ Some x) × (f x ≡ Some y)
and_then_parts f None y e = absurd cc
and_then_parts f (Some x) y e = (x, refl, e)

held_named : (f : Bytes) (fs : Fields) (n : ℕ) (rs : List Bytes) (t : Ty) (r : Bytes) → field_type f fs ≡ Some t → range_named f fs rs ≡ Some r
    → column_named f fs (held_block fs n rs) ≡ Some (column t (held_values t n r))
held_named f no_fields n rs t r a b = absurd cc
held_named f (field g u fs) n [] t r a b = absurd cc
held_named f (field g u fs) n (s ∷ rs) t r a b = by (bytes_eq f g) a b (held_named f fs n rs t r)
  where
    by : (x : Bool) → cond x (Some u) (field_type f fs) ≡ Some t → cond x (Some s) (range_named f fs rs) ≡ Some r
        → (field_type f fs ≡ Some t → range_named f fs rs ≡ Some r → column_named f fs (held_block fs n rs) ≡ Some (column t (held_values t n r)))
        → cond x (Some (column u (held_values u n s))) (column_named f fs (held_block fs n rs)) ≡ Some (column t (held_values t n r))
    by true a b k =
        let types : u ≡ t = same_Some u t a in
        let ranges : s ≡ r = same_Some s r b in
        λ i. Some (column (types i) (held_values (types i) n (ranges i)))
    by false a b k = k a b

pub held_is_read : HeldIsRead
held_is_read bytes content block name t n range p q =
    let parts = and_then_parts (range_named name content.zones.columns) (slice_get content.ranges block) range q.stands in
    let fs = content.zones.columns in
    let there = zip_at (held_block fs) content.zones.lengths content.ranges block n parts.0 q.number parts.1 in
    let named = held_named name fs n parts.0 t range q.ty parts.2 in
    (held content.zones (held_blocks content) block name (held_block fs n parts.0) (column t (held_values t n range))
    (opened_lengths bytes content p) (opened_types content) (slice_get_within content.zones.lengths block n q.number) there named).rows

-- a pair has one type, one number of rows and one range
one_pair : (content : FileContent) (block : ℕ) (name : Bytes) (t u : Ty) (n m : ℕ) (r s : Bytes) (vs : List Val) → HasRange content block name t n r → HasRange content block name u m s
    → SpellsRange t n r vs → SpellsRange u m s vs
one_pair content block name t u n m r s vs p q h =
    let types = same_Some t u (sym p.ty ∙ q.ty) in
    let numbers = same_Some n m (sym p.number ∙ q.number) in
    let ranges = same_Some r s (sym p.stands ∙ q.stands) in
    subst (λ k. SpellsRange u m k vs) ranges (subst (λ k. SpellsRange u k r vs) numbers (subst (λ k. SpellsRange k n r vs) types h))

pub read_is_not_damaged : ReadIsNotDamaged
read_is_not_damaged content block name vs p q = q.4 vs (one_pair content block name p.0 q.0 p.1 q.1 p.2 q.2 vs p.3 q.3 p.4)

pub read_as_one : ReadAsOne
read_as_one content block name vs ws p q = one_range q.0 q.1 q.2 vs ws (one_pair content block name p.0 q.0 p.1 q.1 p.2 q.2 vs p.3 q.3 p.4) q.4
