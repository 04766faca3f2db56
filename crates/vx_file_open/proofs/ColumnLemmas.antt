-- The column of a name, and its range.
use Rattle.std.proofs.Common.{◌≡◌, refl, sym, ap, ◌∙◌, subst, ℕ, zero, suc, ◌+◌, ◌<◌, Bool, true, false, not, ◌||◌, cond, nat_lt, Option, Some, None, IsSome, option_map, List, [], ◌∷◌, map, length, take, drop, get_or, arith}
use Rattle.std.specs.Prelude.{IfSome}
use Rattle.std.specs.Cmp.{first_so, second_so}
use Rattle.std.specs.List.{slice_get, position, position_or_len}
use Rattle.std.specs.Option.{option_and_then}
use Rattle.std.specs.Str.{bytes_eq}
use Rattle.std.proofs.lemmas.Option.{same_Some, none-some, slice_get-get_or, slice_get_within, slice_get-map, get_or_from_slice_get}
use Rattle.vx_dtype.specs.Types.{Bytes, Ty, Fields, no_fields, field}
use Rattle.vx_dtype.specs.TypeRules.{has_name, field_names, field_type, distinct_names, no_name_twice, no_name_twice_below}
use Rattle.vx_dtype.specs.StructTypes.{field_types}
use Rattle.vx_dtype.specs.Values.{Val}
use Rattle.vx_column.specs.Columns.{Column, column}
use Rattle.vx_semantics.specs.Tables.{Zones, row_type}
use Rattle.vx_zones.specs.declared.errors.ZoneError.{ZoneError}
use Rattle.vx_zones.specs.declared.errors.ZoneError.TheVariants as errors
use Rattle.vx_zones.specs.Zoning.{broken_rule}
use Rattle.vx_tables.proofs.MemberLemmas.{length_mapped}
use Rattle.vx_laws_file.specs.FileForms.{Header, AreRangeLengths, lengths_of, header_of}
use Rattle.vx_laws_file.specs.Opening.{range_place}
use Rattle.vx_laws_file.specs.Ranges.{range_named, HasRange}
use Rattle.vx_laws_file.specs.HeldTables.{range_values}
use Rattle.vx_laws_file.proofs.Openings.{range_stands}
use Rattle.vx_laws_file.proofs.RangeLemmas.{range_count}
use Rattle.vx_file_ranges.specs.Places.{IsPieceAt}
use Rattle.vx_file_open.specs.Layouts.{content_at, IsFileWith, WhereBytes}
use Rattle.vx_file_open.specs.ColumnAnswers.{IsColumnIn, IsRangeRead}
use Rattle.vx_file_open.proofs.LayoutLemmas.{each_at}

-- ---- the place of a name

-- a name that is there stands before the end
name_before : (f : Bytes) (gs : List Bytes) → has_name f gs ≡ true → position_or_len (bytes_eq f) gs < length gs
name_before f [] h = absurd cc
name_before f (g ∷ gs) h = by (bytes_eq f g) h (name_before f gs)
  where
    by : (b : Bool) → (b || has_name f gs) ≡ true → (has_name f gs ≡ true → position_or_len (bytes_eq f) gs < length gs)
        → cond (not b) (1 + position_or_len (bytes_eq f) gs) 0 < suc (length gs)
    by true h rest = omega arith
    by false h rest = omega (arith, rest h)

some_where : (b : Bool) (n : ℕ) → b ≡ true → IsSome (cond b (Some n) None)
some_where true n h = refl
some_where false n h = absurd cc

pub position_there : (f : Bytes) (gs : List Bytes) → has_name f gs ≡ true → IsSome (position (bytes_eq f) gs)
position_there f gs h = some_where (nat_lt (position_or_len (bytes_eq f) gs) (length gs)) (position_or_len (bytes_eq f) gs) (grind (arith, name_before f gs h))

placed : (n m i : ℕ) → cond (nat_lt n m) (Some n) None ≡ Some i → (n ≡ i) × (i < m)
placed n m i h = by (nat_lt n m) refl h
  where
    by : (b : Bool) → nat_lt n m ≡ b → cond b (Some n) None ≡ Some i → (n ≡ i) × (i < m)
    by true e k = let same : n ≡ i = same_Some n i k in (same, grind (arith, e, same))
    by false e k = absurd (none-some i k)

types_count : (fs : Fields) → length (field_types fs) ≡ length (field_names fs)
types_count no_fields = refl
types_count (field g t fs) = ap suc (types_count fs)

type_at : (f : Bytes) (fs : Fields) → field_type f fs ≡ slice_get (field_types fs) (position_or_len (bytes_eq f) (field_names fs))
type_at f no_fields = refl
type_at f (field g t fs) =
    let n = position_or_len (bytes_eq f) (field_names fs) in
    let one : suc n ≡ 1 + n = omega arith in
    let next = ap (λ m. slice_get (t ∷ field_types fs) m) one in
    elim (bytes_eq f g) as (λ b. cond b (Some t) (field_type f fs) ≡ slice_get (t ∷ field_types fs) (cond (not b) (1 + n) 0)) [ true ↦ refl | false ↦ type_at f fs ∙ next ]

range_at : (f : Bytes) (fs : Fields) (rs : List Bytes) → length rs ≡ length (field_names fs) → range_named f fs rs ≡ slice_get rs (position_or_len (bytes_eq f) (field_names fs))
range_at f no_fields [] e = refl
range_at f no_fields (r ∷ rs) e = absurd (omega (arith, e))
range_at f (field g t fs) [] e = absurd (omega (arith, e))
range_at f (field g t fs) (r ∷ rs) e =
    let n = position_or_len (bytes_eq f) (field_names fs) in
    let rest = range_at f fs rs (omega (arith, e)) in
    let one : suc n ≡ 1 + n = omega arith in
    let next = ap (λ m. slice_get (r ∷ rs) m) one in
    elim (bytes_eq f g) as (λ b. cond b (Some r) (range_named f fs rs) ≡ slice_get (r ∷ rs) (cond (not b) (1 + n) 0)) [ true ↦ refl | false ↦ rest ∙ next ]

-- ---- the type of a column

-- the column of a name stands at this place and is of this type
pub record IsNamedAt (f : Bytes) (fs : Fields) (i : ℕ) (t : Ty) : Type 0 where
  pub at : position (bytes_eq f) (field_names fs) ≡ Some i
  pub ty : slice_get (field_types fs) i ≡ Some t

pub named_within : (f : Bytes) (fs : Fields) (i : ℕ) → position (bytes_eq f) (field_names fs) ≡ Some i → i < length (field_names fs)
named_within f fs i e = (placed (position_or_len (bytes_eq f) (field_names fs)) (length (field_names fs)) i e).1

is_there : {A : Type 0} (o : Option A) (x : A) → o ≡ Some x → IsSome o
is_there o x e = subst IsSome (sym e) refl

there_mapped : {A B : Type 0} (f : A → B) (o : Option A) → IsSome (option_map f o) → IsSome o
there_mapped f None h = h
there_mapped f (Some x) h = refl

pub type_there : {A : Type 0} (view : A → Ty) (f : Bytes) (fs : Fields) (i : ℕ) (found : Option A) → position (bytes_eq f) (field_names fs) ≡ Some i
    → option_map view found ≡ slice_get (field_types fs) i → IsSome found
type_there view f fs i found e is =
    let lt : i < length (field_types fs) = omega (arith, named_within f fs i e, types_count fs) in
    let any : Ty = row_type fs in
    there_mapped view found (is_there (option_map view found) (get_or (field_types fs) i any) (is ∙ slice_get-get_or (field_types fs) i any lt))

named_type : (f : Bytes) (fs : Fields) (i : ℕ) (t : Ty) → IsNamedAt f fs i t → field_type f fs ≡ Some t
named_type f fs i t h =
    type_at f fs ∙ ap (slice_get (field_types fs)) (placed (position_or_len (bytes_eq f) (field_names fs)) (length (field_names fs)) i h.at).0 ∙ h.ty

below_at : (fs : Fields) (i : ℕ) (t : Ty) → no_name_twice_below fs ≡ true → slice_get (field_types fs) i ≡ Some t → no_name_twice t ≡ true
unfolding no_name_twice
below_at no_fields i t h e = absurd cc
below_at (field g u fs) zero t h e = ap no_name_twice (sym (same_Some u t e)) ∙ first_so (no_name_twice u) (no_name_twice_below fs) h
below_at (field g u fs) (suc i) t h e = below_at fs i t (second_so (no_name_twice u) (no_name_twice_below fs) h) e

distinct_first : (a : Bool) (o : Option ZoneError) → cond (not a) (Some errors.DuplicateName) o ≡ None → a ≡ true
distinct_first true o e = refl
distinct_first false o e = absurd (none-some errors.DuplicateName (sym e))

-- in zones that break no rule no name stands twice in it
pub no_twice : (zones : Zones) (i : ℕ) (t : Ty) → broken_rule zones ≡ None → slice_get (field_types zones.columns) i ≡ Some t → no_name_twice t ≡ true
unfolding broken_rule no_name_twice
no_twice zones i t rules e =
    let all : no_name_twice (row_type zones.columns) ≡ true = distinct_first (no_name_twice (row_type zones.columns)) _ rules in
    below_at zones.columns i t (second_so (distinct_names (field_names zones.columns)) (no_name_twice_below zones.columns) all) e

-- ---- what is read

pub column_in : (zones : Zones) (block : ℕ) (f : Bytes) (i : ℕ) (t : Ty) (rows : ℕ) (range : Bytes) (found : Option Column) → IsNamedAt f zones.columns i t
    → slice_get zones.lengths block ≡ Some rows → found ≡ option_map (column t) (range_values t rows range) → IfSome found (IsColumnIn zones block f)
column_in zones block f i t rows range found named number is = subst (λ o. IfSome o (IsColumnIn zones block f)) (sym is) (by (range_values t rows range) refl)
  where
    by : (o : Option (List Val)) → range_values t rows range ≡ o → IfSome (option_map (column t) o) (IsColumnIn zones block f)
    by None e = tt
    by (Some vs) e = record { ty = named_type f zones.columns i t named; len = number ∙ ap Some (sym (range_count t rows range vs e)) }

-- the range that a piece is
pub record IsPieceOf (h : Header) (bytes : Bytes) (block : ℕ) (f : Bytes) (t : Ty) (rows count : ℕ) (piece : Bytes) : Type 0 where
  pub there : HasRange (content_at h bytes) block f t rows piece
  pub long : length piece ≡ count

piece_is : (h : Header) (bytes : Bytes) (block : ℕ) (f : Bytes) (i : ℕ) (t : Ty) (rows place count : ℕ) (piece : Bytes) → IsFileWith h bytes → IsNamedAt f h.zones.columns i t
    → slice_get h.zones.lengths block ≡ Some rows → place ≡ range_place h block i → slice_get (get_or h.range_lengths block []) i ≡ Some count
    → piece ≡ take count (drop place bytes) → IsPieceOf h bytes block f t rows count piece
piece_is h bytes block f i t rows place count piece w named number at counted p =
    let content = content_at h bytes in
    let header = w.opened.header.header in
    let same : map lengths_of content.ranges ≡ h.range_lengths = ap (λ (g : Header). g.range_lengths) w.same_header in
    let blocks : length content.ranges ≡ length h.zones.lengths = sym (length_mapped lengths_of content.ranges) ∙ header.each_block in
    let lt : block < length content.ranges = omega (arith, blocks, slice_get_within h.zones.lengths block rows number) in
    let ranges = get_or content.ranges block [] in
    let listed : slice_get content.ranges block ≡ Some ranges = slice_get-get_or content.ranges block [] lt in
    let lengths : slice_get (map lengths_of content.ranges) block ≡ Some (lengths_of ranges) = slice_get-map lengths_of content.ranges block ∙ ap (option_map lengths_of) listed in
    let own : get_or h.range_lengths block [] ≡ lengths_of ranges =
    ap (λ (nss : List (List ℕ)). get_or nss block []) (sym same) ∙ get_or_from_slice_get (map lengths_of content.ranges) block (lengths_of ranges) [] lengths in
    let wide : length ranges ≡ length (field_names h.zones.columns) =
    sym (length_mapped length ranges) ∙ (each_at (AreRangeLengths (length (field_names h.zones.columns))) (map lengths_of content.ranges) block (lengths_of ranges) header.each_range lengths).0 in
    let inside : i < length ranges = omega (arith, wide, named_within f h.zones.columns i named.at) in
    let range = get_or ranges i [] in
    let there : slice_get ranges i ≡ Some range = slice_get-get_or ranges i [] inside in
    let long : length range ≡ count =
    same_Some (length range) count (sym (slice_get-map length ranges i ∙ ap (option_map length) there) ∙ ap (λ (ns : List ℕ). slice_get ns i) (sym own) ∙ counted) in
    let stands : take (length range) (drop (range_place (header_of content) block i) bytes) ≡ range = range_stands bytes content block i ranges range w.opened listed there in
    let places : place ≡ range_place (header_of content) block i = at ∙ ap (λ (g : Header). range_place g block i) (sym w.same_header) in
    let is : piece ≡ range = p ∙ ap (λ k. take k (drop place bytes)) (sym long) ∙ ap (λ k. take (length range) (drop k bytes)) places ∙ stands in
    let found : range_named f h.zones.columns ranges ≡ Some range =
    range_at f h.zones.columns ranges wide
    ∙ ap (slice_get ranges) (placed (position_or_len (bytes_eq f) (field_names h.zones.columns)) (length (field_names h.zones.columns)) i named.at).0 ∙ there in
    subst (IsPieceOf h bytes block f t rows count) (sym is) (record {
      there = record {
        number = number;
        ty = named_type f h.zones.columns i t named;
        stands = ap (option_and_then (range_named f h.zones.columns)) listed ∙ found;
      };
      long = long;
    })

pub range_read : (told : Option Bytes) (h : Header) (block : ℕ) (f : Bytes) (i : ℕ) (t : Ty) (rows place count : ℕ) (piece : Bytes) (found : Option Column)
    → WhereBytes told (IsFileWith h) → IsNamedAt f h.zones.columns i t → slice_get h.zones.lengths block ≡ Some rows → place ≡ range_place h block i
    → slice_get (get_or h.range_lengths block []) i ≡ Some count → IsPieceAt told place count piece → found ≡ option_map (column t) (range_values t rows piece)
    → WhereBytes told (λ bytes. IsRangeRead (content_at h bytes) block f found)
range_read None h block f i t rows place count piece found w named number at counted p is = tt
range_read (Some bytes) h block f i t rows place count piece found w named number at counted p is =
    let own = piece_is h bytes block f i t rows place count piece w named number at counted p in
    (t, rows, piece, own.there, is)

-- a piece is no shorter than the range
pub never_short : (told : Option Bytes) (h : Header) (block : ℕ) (f : Bytes) (i : ℕ) (t : Ty) (rows place count : ℕ) (piece : Bytes)
    → WhereBytes told (IsFileWith h) → IsNamedAt f h.zones.columns i t → slice_get h.zones.lengths block ≡ Some rows → place ≡ range_place h block i
    → slice_get (get_or h.range_lengths block []) i ≡ Some count → IsPieceAt told place count piece → length piece < count
    → WhereBytes told (λ bytes. IsRangeRead (content_at h bytes) block f None)
never_short None h block f i t rows place count piece w named number at counted p short = tt
never_short (Some bytes) h block f i t rows place count piece w named number at counted p short =
    let own = piece_is h bytes block f i t rows place count piece w named number at counted p in
    absurd (omega (arith, own.long, short))
