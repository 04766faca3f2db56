-- What is read of a block file, and what its table is.
use Rattle.std.proofs.Common.{◌≡◌, refl, sym, ap, ◌∙◌, subst, ℕ, Bool, true, false, cond, not, Option, Some, None, option_map, unwrap_or, List, [], ◌∷◌, ◌++◌, map, length, replicate}
use Rattle.std.specs.List.{AllByRecursion, slice_get}
use Rattle.std.specs.Str.{bytes_eq}
use Rattle.std.proofs.lemmas.List.{map-append}
use Rattle.std.proofs.lemmas.Option.{same_Some, none-some}
use Rattle.vx_dtype.specs.Types.{Bytes, Ty, Fields, no_fields, field}
use Rattle.vx_dtype.specs.TypeRules.{field_names}
use Rattle.vx_dtype.specs.Values.{Val}
use Rattle.vx_column.specs.Columns.{Column, column}
use Rattle.vx_tables.specs.declared.errors.TableError.TheVariants as refusals
use Rattle.vx_tables.specs.Blocks.{have_lengths, have_types}
use Rattle.vx_tables.proofs.BlockLemmas.{table_lengths}
use Rattle.vx_tables.proofs.FitLemmas.{table_fit}
use Rattle.vx_wire_bytes.proofs.NumberLemmas.{IsBytes}
use Rattle.vx_laws_file.specs.FileForms.{Header, front_bytes, FileContent, header_of, ranges_bytes}
use Rattle.vx_laws_file.specs.Opening.{IsOpened}
use Rattle.vx_laws_file.specs.Ranges.{range_named, HasRange, IsReadAs, IsDamaged}
use Rattle.vx_laws_file.specs.HeldTables.{filler, range_values, held_blocks}
use Rattle.vx_laws_file.proofs.Lists.{bytes_behind}
use Rattle.vx_laws_file.proofs.RangeLemmas.{values_read, values_spelled}
use Rattle.vx_laws_file.proofs.HeldLemmas.{and_then_parts, ranges_are_bytes, held_is_table, held_is_read}
use Rattle.vx_scan.specs.Stores.{Read, WhereTold, AgreesWith, AreHeld}
use Rattle.vx_scan.specs.StoreViews.{entry_view}
use Rattle.vx_scan.specs.declared.stores.ReadEntry.{ReadEntry}
use Rattle.vx_file_open.specs.Layouts.{content_at, IsFileWith, WhereBytes}
use Rattle.vx_file_open.specs.ColumnAnswers.{IsRangeRead}
use Rattle.vx_file_open.proofs.LayoutLemmas.{each_at}
use Rattle.vx_file.specs.FileStates.{FileState, held_at, IsSound, IsSpoilt, IsKept}

-- what holds of told bytes makes another thing hold
pub where_so : (told : Option Bytes) (P Q : Bytes → Type 0) → ((bytes : Bytes) → P bytes → Q bytes) → WhereBytes told P → WhereBytes told Q
where_so None P Q f h = tt
where_so (Some bytes) P Q f h = f bytes h

pub where_both : (told : Option Bytes) (P Q R : Bytes → Type 0) → ((bytes : Bytes) → P bytes → Q bytes → R bytes) → WhereBytes told P → WhereBytes told Q → WhereBytes told R
where_both None P Q R f h k = tt
where_both (Some bytes) P Q R f h k = f bytes h k

-- ---- the table

both_hold : (a b : Bool) → cond (not a) (Some refusals.WrongLength) (cond (not b) (Some refusals.WrongType) None) ≡ None → (a ≡ true) × (b ≡ true)
both_hold true true e = (refl, refl)
both_hold true false e = absurd (none-some refusals.WrongType (sym e))
both_hold false b e = absurd (none-some refusals.WrongLength (sym e))

-- the table that is held agrees with the zones
pub held_agrees : (h : Header) (told : Option Bytes) → WhereBytes told (IsFileWith h) → WhereTold (option_map (held_at h) told) (AgreesWith h.zones)
held_agrees h None w = tt
held_agrees h (Some bytes) w =
    let content = content_at h bytes in
    let blocks = held_blocks content in
    let table = held_is_table bytes content w.are_bytes w.opened in
    let whole = both_hold (have_lengths h.zones blocks) (have_types h.zones blocks) table.0 in
    let columns = h.zones.columns in
    record {
      columns = refl;
      lengths = table_lengths columns (length (field_names columns)) h.zones.lengths blocks whole.0;
      fit = table_fit columns h.zones.lengths blocks whole.0 whole.1 table.1;
    }

-- ---- what a range says

named_is : (P : Bytes → Type 0) (f : Bytes) (fs : Fields) (rs : List Bytes) (r : Bytes) → AllByRecursion P rs → range_named f fs rs ≡ Some r → P r
named_is P f no_fields rs r h e = absurd (none-some r e)
named_is P f (field g t fs) [] r h e = absurd (none-some r e)
named_is P f (field g t fs) (q ∷ rs) r h e = by (bytes_eq f g) e (named_is P f fs rs r h.1)
  where
    by : (b : Bool) → cond b (Some q) (range_named f fs rs) ≡ Some r → (range_named f fs rs ≡ Some r → P r) → P r
    by true k rest = subst P (same_Some q r k) h.0
    by false k rest = rest k

range_is_bytes : (bytes : Bytes) (content : FileContent) (block : ℕ) (name : Bytes) (t : Ty) (n : ℕ) (range : Bytes) → IsBytes bytes → IsOpened bytes content
    → HasRange content block name t n range → IsBytes range
range_is_bytes bytes content block name t n range are opened has =
    let front = front_bytes (header_of content) in
    let behind : IsBytes (ranges_bytes content.ranges) = bytes_behind front (ranges_bytes content.ranges) (subst IsBytes opened.header.stands are) in
    let all = ranges_are_bytes content.ranges behind in
    let parts = and_then_parts (range_named name content.zones.columns) (slice_get content.ranges block) range has.stands in
    let own : AllByRecursion IsBytes parts.0 = each_at (λ rs. AllByRecursion IsBytes rs) content.ranges block parts.0 all parts.1 in
    named_is IsBytes name content.zones.columns parts.0 range own parts.2

-- values that were found, and what they are
pub record IsFound (t : Ty) (n : ℕ) (range : Bytes) (c : Column) : Type 0 where
  pub read : range_values t n range ≡ Some c.rows

found_is : (t : Ty) (n : ℕ) (range : Bytes) (c : Column) → Some c ≡ option_map (column t) (range_values t n range) → IsFound t n range c
found_is t n range c e = by (range_values t n range) refl e
  where
    by : (o : Option (List Val)) → range_values t n range ≡ o → Some c ≡ option_map (column t) o → IsFound t n range c
    by None k e = absurd (none-some c (sym e))
    by (Some vs) k e = record { read = k ∙ ap Some (ap (λ (d : Column). d.rows) (sym (same_Some c (column t vs) e))) }

-- a column that was read has the values of its pair
pub sound_is : (h : Header) (bytes : Bytes) (block : ℕ) (name : Bytes) (c : Column) → IsFileWith h bytes → IsRangeRead (content_at h bytes) block name (Some c)
    → IsReadAs (content_at h bytes) block name c.rows
sound_is h bytes block name c w x =
    let found = found_is x.0 x.1 x.2 c x.4 in
    let are = range_is_bytes bytes (content_at h bytes) block name x.0 x.1 x.2 w.are_bytes w.opened x.3 in
    (x.0, x.1, x.2, x.3, values_spelled x.0 x.1 x.2 c.rows are found.read)

-- and those that are held
pub held_rows : (h : Header) (bytes : Bytes) (block : ℕ) (name : Bytes) (c : Column) → IsFileWith h bytes → IsRangeRead (content_at h bytes) block name (Some c)
    → AreHeld block name c.rows (held_at h bytes)
held_rows h bytes block name c w x =
    let found = found_is x.0 x.1 x.2 c x.4 in
    held_is_read bytes (content_at h bytes) block name x.0 x.1 x.2 w.opened x.3
    ∙ ap (λ (o : Option (List Val)). Some (unwrap_or o (replicate x.1 (filler x.0)))) found.read

-- a pair of which no column was read is damaged
pub spoilt_is : (h : Header) (bytes : Bytes) (block : ℕ) (name : Bytes) → IsRangeRead (content_at h bytes) block name None → IsDamaged (content_at h bytes) block name
spoilt_is h bytes block name x = (
  x.0,
  x.1,
  x.2,
  x.3,
  λ values spelled.
      none-some (column x.0 values) (x.4 ∙ ap (option_map (column x.0)) (values_read x.0 x.1 x.2 values spelled)),
)

pub told_rows : (h : Header) (told : Option Bytes) (block : ℕ) (name : Bytes) (c : Column) → WhereBytes told (IsFileWith h)
    → WhereBytes told (λ bytes. IsRangeRead (content_at h bytes) block name (Some c)) → WhereTold (option_map (held_at h) told) (AreHeld block name c.rows)
told_rows h None block name c w x = tt
told_rows h (Some bytes) block name c w x = held_rows h bytes block name c w x

-- ---- what holds of each file

all_more : (P : Read → Type 0) (rs : List Read) (r : Read) → AllByRecursion P rs → P r → AllByRecursion P (rs ++ r ∷ [])
all_more P [] r h own = (own, tt)
all_more P (q ∷ rs) r h own = (h.0, all_more P rs r h.1 own)

pub kept_file : (s : FileState) → WhereBytes s.bytes (IsKept s) → WhereBytes s.bytes (IsFileWith s.header)
kept_file s k = where_so s.bytes (IsKept s) (IsFileWith s.header) (λ bytes h. h.file) k

-- it is known of the file as it is seen
pub kept_now : (s t : FileState) → s ≡ t → WhereBytes s.bytes (IsKept s) → WhereBytes t.bytes (IsKept t)
kept_now s t e k = subst (λ (u : FileState). WhereBytes u.bytes (IsKept u)) e k

-- entries of which one more was put behind others stand for one more read
pub reads_more : (reads : List Read) (old now : List ReadEntry) (e : ReadEntry) → now ≡ old ++ e ∷ [] → map entry_view old ≡ reads → map entry_view now ≡ reads ++ entry_view e ∷ []
reads_more reads old now e more was = ap (map entry_view) more ∙ map-append entry_view old (e ∷ []) ∙ ap (λ (rs : List Read). rs ++ entry_view e ∷ []) was

-- where a sound read was put behind those that succeeded
pub kept_read : (s t : FileState) (r : Read) → t.header ≡ s.header → t.bytes ≡ s.bytes → t.reads ≡ s.reads ++ r ∷ [] → t.damaged ≡ s.damaged
    → WhereBytes s.bytes (λ bytes. IsSound s.header bytes r) → WhereBytes s.bytes (IsKept s) → WhereBytes t.bytes (IsKept t)
kept_read s t r header bytes reads damaged own k =
    subst (λ o. WhereBytes o (IsKept t)) (sym bytes) (where_both s.bytes (λ b. IsSound s.header b r) (IsKept s) (IsKept t) (λ b e h. record {
      file = subst (λ (g : Header). IsFileWith g b) (sym header) h.file;
      sound = subst (λ (g : Header). AllByRecursion (IsSound g b) t.reads) (sym header)
          (subst (AllByRecursion (IsSound s.header b)) (sym reads) (all_more (IsSound s.header b) s.reads r h.sound e));
      spoilt = subst (λ (g : Header). AllByRecursion (IsSpoilt g b) t.damaged) (sym header) (subst (AllByRecursion (IsSpoilt s.header b)) (sym damaged) h.spoilt);
    }) own k)

-- where a damaged one was put behind those that failed so
pub kept_damaged : (s t : FileState) (r : Read) → t.header ≡ s.header → t.bytes ≡ s.bytes → t.reads ≡ s.reads → t.damaged ≡ s.damaged ++ r ∷ []
    → WhereBytes s.bytes (λ bytes. IsSpoilt s.header bytes r) → WhereBytes s.bytes (IsKept s) → WhereBytes t.bytes (IsKept t)
kept_damaged s t r header bytes reads damaged own k =
    subst (λ o. WhereBytes o (IsKept t)) (sym bytes) (where_both s.bytes (λ b. IsSpoilt s.header b r) (IsKept s) (IsKept t) (λ b e h. record {
      file = subst (λ (g : Header). IsFileWith g b) (sym header) h.file;
      sound = subst (λ (g : Header). AllByRecursion (IsSound g b) t.reads) (sym header) (subst (AllByRecursion (IsSound s.header b)) (sym reads) h.sound);
      spoilt = subst (λ (g : Header). AllByRecursion (IsSpoilt g b) t.damaged) (sym header)
          (subst (AllByRecursion (IsSpoilt s.header b)) (sym damaged) (all_more (IsSpoilt s.header b) s.damaged r h.spoilt e));
    }) own k)
