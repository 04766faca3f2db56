-- What is read of a folder, and what its table is.
use Rattle.std.proofs.Common.{◌≡◌, refl, sym, ap, ◌∙◌, subst, ℕ, zero, suc, Bool, true, false, cond, Option, Some, None, option_map, unwrap_or, List, [], ◌∷◌, ◌++◌, map, replicate, slice_get}
use Rattle.std.specs.List.{AllByRecursion}
use Rattle.std.specs.Str.{bytes_eq}
use Rattle.std.proofs.lemmas.List.{map-append}
use Rattle.std.proofs.lemmas.Option.{same_Some, none-some, slice_get_within}
use Rattle.vx_dtype.specs.Types.{Bytes, Ty, Fields, no_fields, field}
use Rattle.vx_dtype.specs.TypeRules.{field_type}
use Rattle.vx_dtype.specs.Values.{Val}
use Rattle.vx_column.specs.Columns.{Column, column, zip_rows}
use Rattle.vx_semantics.specs.Tables.{Zones}
use Rattle.vx_tables.specs.Blocks.{column_named}
use Rattle.vx_tables.proofs.BlockLemmas.{held}
use Rattle.vx_wire_bytes.proofs.NumberLemmas.{IsBytes}
use Rattle.vx_laws_file.specs.FileForms.{front_bytes, FileContent, header_of, ranges_bytes}
use Rattle.vx_laws_file.specs.FileLaws.{AreBytes}
use Rattle.vx_laws_file.specs.HeldTables.{filler, range_values, held_values, held_block, held_blocks, held_table}
use Rattle.vx_laws_file.specs.Opening.{IsOpened}
use Rattle.vx_laws_file.specs.Ranges.{range_named, HasRange, IsReadAs, IsDamaged}
use Rattle.vx_laws_file.proofs.Lists.{bytes_behind}
use Rattle.vx_laws_file.proofs.RangeLemmas.{values_read, values_spelled}
use Rattle.vx_laws_file.proofs.HeldLemmas.{and_then_parts, ranges_are_bytes}
use Rattle.vx_scan.specs.Stores.{Read, WhereTold, AgreesWith, AreHeld}
use Rattle.vx_scan.specs.StoreViews.{entry_view}
use Rattle.vx_scan.specs.declared.stores.ReadEntry.{ReadEntry}
use Rattle.vx_file_open.specs.ColumnAnswers.{IsRangeRead}
use Rattle.vx_file_open.proofs.LayoutLemmas.{each_at}
use Rattle.vx_laws_shell.specs.FolderContents.{contents_joined, AreOpened}
use Rattle.vx_folder.specs.FolderStates.{FolderState, WhereHeld, IsOfFiles, IsSound, IsSpoilt, IsKeptFolder}
use Rattle.vx_folder.proofs.WholeLemmas.{agrees_of_files, whole_of_files}

-- what holds of what is held makes another thing hold
pub where_so : (held : Option FileContent) (P Q : FileContent → Type 0) → ((content : FileContent) → P content → Q content) → WhereHeld held P → WhereHeld held Q
where_so None P Q f h = tt
where_so (Some content) P Q f h = f content h

pub where_both : (held : Option FileContent) (P Q R : FileContent → Type 0) → ((content : FileContent) → P content → Q content → R content) → WhereHeld held P → WhereHeld held Q
    → WhereHeld held R
where_both None P Q R f h k = tt
where_both (Some content) P Q R f h k = f content h k

-- ---- the table

agrees_at : (s : FolderState) (held : Option FileContent) → WhereHeld held (IsKeptFolder s) → WhereTold (option_map held_table held) (AgreesWith s.zones)
agrees_at s None k = tt
agrees_at s (Some content) k = subst (λ (z : Zones). AgreesWith z (held_table content)) k.zones (agrees_of_files content k.files)

-- the table that is held agrees with the statistics
pub held_agrees : (s : FolderState) → WhereHeld s.content (IsKeptFolder s) → WhereTold (option_map held_table s.content) (AgreesWith s.zones)
held_agrees s k = agrees_at s s.content k

-- ---- ranges are bytes

abbrev AreByteRanges : FileContent → Type 0
AreByteRanges content = AllByRecursion (λ rs. AllByRecursion IsBytes rs) content.ranges

byte_ranges : (bytes : Bytes) (content : FileContent) → IsBytes bytes → IsOpened bytes content → AreByteRanges content
byte_ranges bytes content are opened =
    let front = front_bytes (header_of content) in
    ranges_are_bytes content.ranges (bytes_behind front (ranges_bytes content.ranges) (subst IsBytes opened.header.stands are))

each_joined : {X : Type 0} (P : X → Type 0) (xs ys : List X) → AllByRecursion P xs → AllByRecursion P ys → AllByRecursion P (xs ++ ys)
each_joined P [] ys h k = k
each_joined P (x ∷ xs) ys h k = (h.0, each_joined P xs ys h.1 k)

joined_ranges : (files : List Bytes) (first : FileContent) (contents : List FileContent) → AllByRecursion AreBytes files → AreOpened files (first ∷ contents)
    → AreByteRanges (contents_joined first contents)
joined_ranges [] first contents are opened = absurd opened
joined_ranges (bytes ∷ files) first [] are opened = byte_ranges bytes first are.0 opened.0
joined_ranges (bytes ∷ files) first (next ∷ contents) are opened =
    each_joined (λ rs. AllByRecursion IsBytes rs) first.ranges (contents_joined next contents).ranges (byte_ranges bytes first are.0 opened.0)
    (joined_ranges files next contents are.1 opened.1)

-- ---- what a range says

named_is : (P : Bytes → Type 0) (f : Bytes) (fs : Fields) (rs : List Bytes) (r : Bytes) → AllByRecursion P rs → range_named f fs rs ≡ Some r → P r
named_is P f no_fields rs r h e = absurd (none-some r e)
named_is P f (field g t fs) [] r h e = absurd (none-some r e)
named_is P f (field g t fs) (q ∷ rs) r h e = by (bytes_eq f g) e (named_is P f fs rs r h.1)
  where
    by : (b : Bool) → cond b (Some q) (range_named f fs rs) ≡ Some r → (range_named f fs rs ≡ Some r → P r) → P r
    by true k rest = subst P (same_Some q r k) h.0
    by false k rest = rest k

range_is_bytes : (content : FileContent) (block : ℕ) (name : Bytes) (t : Ty) (n : ℕ) (range : Bytes) → IsOfFiles content → HasRange content block name t n range → IsBytes range
range_is_bytes content block name t n range h has =
    let all = subst AreByteRanges (sym h.content_is) (joined_ranges h.files h.first h.contents h.are_bytes h.together.opened) in
    let parts = and_then_parts (range_named name content.zones.columns) (slice_get content.ranges block) range has.stands in
    let own : AllByRecursion IsBytes parts.0 = each_at (λ rs. AllByRecursion IsBytes rs) content.ranges block parts.0 all parts.1 in
    named_is IsBytes name content.zones.columns parts.0 range own parts.2

-- values that were found, and what they are
pub record IsFound (t : Ty) (n : ℕ) (range : Bytes) (c : Column) : Type 0 where
  pub read : range_values t n range ≡ Some c.rows

found_is : (t : Ty) (n : ℕ) (range : Bytes) (c : Column) → Some c ≡ option_map (column t) (range_values t n range) → IsFound t n range c
found_is t n range c e = by (range_values t n range) refl e
  where
    by : (o : Option (List Val)) → range_values t n range ≡ o → Some c ≡ option_map (column t) o → IsFound t n range c
    by None k e = absurd (none-some c (sym e))
    by (Some vs) k e = record { read = k ∙ ap Some (ap (λ (d : Column). d.rows) (sym (same_Some c (column t vs) e))) }

-- a column that was read has the values of its pair
pub sound_is : (content : FileContent) (block : ℕ) (name : Bytes) (c : Column) → IsOfFiles content → IsRangeRead content block name (Some c)
    → IsReadAs content block name c.rows
sound_is content block name c h x =
    let found = found_is x.0 x.1 x.2 c x.4 in
    let are = range_is_bytes content block name x.0 x.1 x.2 h x.3 in
    (x.0, x.1, x.2, x.3, values_spelled x.0 x.1 x.2 c.rows are found.read)

-- ---- the rows that are held

-- what is made of two lists stands at the place of both
zip_at : {A B C : Type 0} (f : A → B → C) (xs : List A) (ys : List B) (i : ℕ) (x : A) (y : B) → slice_get xs i ≡ Some x → slice_get ys i ≡ Some y → slice_get (zip_rows f xs ys) i ≡ Some (f x y)
zip_at f [] ys i x y h k = absurd cc
zip_at f (a ∷ xs) [] i x y h k = absurd cc
zip_at f (a ∷ xs) (b ∷ ys) zero x y h k =
    let p = same_Some a x h in
    let q = same_Some b y k in
    λ j. Some (f (p j) (q j))
zip_at f (a ∷ xs) (b ∷ ys) (suc i) x y h k = zip_at f xs ys i x y h k

held_named : (f : Bytes) (fs : Fields) (n : ℕ) (rs : List Bytes) (t : Ty) (r : Bytes) → field_type f fs ≡ Some t → range_named f fs rs ≡ Some r
    → column_named f fs (held_block fs n rs) ≡ Some (column t (held_values t n r))
held_named f no_fields n rs t r a b = absurd cc
held_named f (field g u fs) n [] t r a b = absurd cc
held_named f (field g u fs) n (s ∷ rs) t r a b = by (bytes_eq f g) a b (held_named f fs n rs t r)
  where
    by : (x : Bool) → cond x (Some u) (field_type f fs) ≡ Some t → cond x (Some s) (range_named f fs rs) ≡ Some r
        → (field_type f fs ≡ Some t → range_named f fs rs ≡ Some r → column_named f fs (held_block fs n rs) ≡ Some (column t (held_values t n r)))
        → cond x (Some (column u (held_values u n s))) (column_named f fs (held_block fs n rs)) ≡ Some (column t (held_values t n r))
    by true a b k =
        let types : u ≡ t = same_Some u t a in
        let ranges : s ≡ r = same_Some s r b in
        λ i. Some (column (types i) (held_values (types i) n (ranges i)))
    by false a b k = k a b

held_rows : (content : FileContent) (block : ℕ) (name : Bytes) (c : Column) → IsOfFiles content → IsRangeRead content block name (Some c)
    → AreHeld block name c.rows (held_table content)
held_rows content block name c h x =
    let t = x.0 in
    let n = x.1 in
    let q = x.3 in
    let parts = and_then_parts (range_named name content.zones.columns) (slice_get content.ranges block) x.2 q.stands in
    let fs = content.zones.columns in
    let there = zip_at (held_block fs) content.zones.lengths content.ranges block n parts.0 q.number parts.1 in
    let named = held_named name fs n parts.0 t x.2 q.ty parts.2 in
    let whole = whole_of_files content h in
    let found = found_is t n x.2 c x.4 in
    (held content.zones (held_blocks content) block name (held_block fs n parts.0) (column t (held_values t n x.2)) whole.0 whole.1
    (slice_get_within content.zones.lengths block n q.number) there named).rows
    ∙ ap (λ (o : Option (List Val)). Some (unwrap_or o (replicate n (filler t)))) found.read

-- a pair of which no column was read is damaged
pub spoilt_is : (content : FileContent) (block : ℕ) (name : Bytes) → IsRangeRead content block name None → IsDamaged content block name
spoilt_is content block name x = (
  x.0,
  x.1,
  x.2,
  x.3,
  λ values spelled.
      none-some (column x.0 values) (x.4 ∙ ap (option_map (column x.0)) (values_read x.0 x.1 x.2 values spelled)),
)

pub told_rows : (s : FolderState) (held : Option FileContent) (block : ℕ) (name : Bytes) (c : Column) → WhereHeld held (IsKeptFolder s)
    → WhereHeld held (λ content. IsRangeRead content block name (Some c)) → WhereTold (option_map held_table held) (AreHeld block name c.rows)
told_rows s None block name c k x = tt
told_rows s (Some content) block name c k x = held_rows content block name c k.files x

-- ---- what holds of each folder

all_more : (P : Read → Type 0) (rs : List Read) (r : Read) → AllByRecursion P rs → P r → AllByRecursion P (rs ++ r ∷ [])
all_more P [] r h own = (own, tt)
all_more P (q ∷ rs) r h own = (h.0, all_more P rs r h.1 own)

-- it is known of the folder as it is seen
pub kept_now : (s t : FolderState) → s ≡ t → WhereHeld s.content (IsKeptFolder s) → WhereHeld t.content (IsKeptFolder t)
kept_now s t e k = subst (λ (u : FolderState). WhereHeld u.content (IsKeptFolder u)) e k

-- entries of which one more was put behind others stand for one more read
pub reads_more : (reads : List Read) (old now : List ReadEntry) (e : ReadEntry) → now ≡ old ++ e ∷ [] → map entry_view old ≡ reads → map entry_view now ≡ reads ++ entry_view e ∷ []
reads_more reads old now e more was = ap (map entry_view) more ∙ map-append entry_view old (e ∷ []) ∙ ap (λ (rs : List Read). rs ++ entry_view e ∷ []) was

-- where a sound read was put behind those that succeeded
pub kept_read : (s t : FolderState) (r : Read) → t.zones ≡ s.zones → t.content ≡ s.content → t.reads ≡ s.reads ++ r ∷ [] → t.damaged ≡ s.damaged
    → WhereHeld s.content (λ content. IsSound content r) → WhereHeld s.content (IsKeptFolder s) → WhereHeld t.content (IsKeptFolder t)
kept_read s t r zones content reads damaged own k =
    subst (λ o. WhereHeld o (IsKeptFolder t)) (sym content) (where_both s.content (λ c. IsSound c r) (IsKeptFolder s) (IsKeptFolder t) (λ c e h. record {
      files = h.files;
      zones = h.zones ∙ sym zones;
      sound = subst (AllByRecursion (IsSound c)) (sym reads) (all_more (IsSound c) s.reads r h.sound e);
      spoilt = subst (AllByRecursion (IsSpoilt c)) (sym damaged) h.spoilt;
    }) own k)

-- where a damaged one was put behind those that failed so
pub kept_damaged : (s t : FolderState) (r : Read) → t.zones ≡ s.zones → t.content ≡ s.content → t.reads ≡ s.reads → t.damaged ≡ s.damaged ++ r ∷ []
    → WhereHeld s.content (λ content. IsSpoilt content r) → WhereHeld s.content (IsKeptFolder s) → WhereHeld t.content (IsKeptFolder t)
kept_damaged s t r zones content reads damaged own k =
    subst (λ o. WhereHeld o (IsKeptFolder t)) (sym content) (where_both s.content (λ c. IsSpoilt c r) (IsKeptFolder s) (IsKeptFolder t) (λ c e h. record {
      files = h.files;
      zones = h.zones ∙ sym zones;
      sound = subst (AllByRecursion (IsSound c)) (sym reads) h.sound;
      spoilt = subst (AllByRecursion (IsSpoilt c)) (sym damaged) (all_more (IsSpoilt c) s.damaged r h.spoilt e);
    }) own k)
