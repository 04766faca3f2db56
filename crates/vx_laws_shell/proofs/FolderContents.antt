-- Files that hold a table together: it is their tables as one, and which reads of it are damaged is told by the files, and decided.
use Rattle.std.proofs.Common.{◌≡◌, refl, ap, sym, ◌∙◌, subst, ℕ, zero, suc, ◌-◌, ◌<◌, ◌≤◌, nat_lt, Bool, true, false, cond, List, [], ◌∷◌, ◌++◌, map, length, arith}
use Rattle.std.specs.List.{AllByRecursion, slice_get}
use Rattle.std.specs.Option.{option_and_then}
use Rattle.std.proofs.lemmas.Bool.{ltb-true, ltb-false}
use Rattle.vx_dtype.specs.Types.{Bytes, Fields}
use Rattle.vx_dtype.specs.TypeRules.{field_type}
use Rattle.vx_column.specs.Columns.{zip_rows}
use Rattle.vx_semantics.specs.Tables.{Table}
use Rattle.vx_tables.specs.Blocks.{rows_of_columns}
use Rattle.vx_tables.proofs.MemberLemmas.{length_mapped}
use Rattle.vx_scan.specs.Stores.{Read}
use Rattle.vx_laws_file.specs.FileForms.{front_bytes, FileContent, header_of, lengths_of, ranges_bytes}
use Rattle.vx_laws_file.specs.FileLaws.{AreBytes}
use Rattle.vx_laws_file.specs.HeldTables.{held_block, held_table}
use Rattle.vx_laws_file.specs.Opening.{IsOpened}
use Rattle.vx_laws_file.specs.Ranges.{range_named}
use Rattle.vx_laws_file.proofs.HeldLemmas.{ranges_are_bytes}
use Rattle.vx_laws_file.proofs.Lists.{bytes_behind}
use Rattle.vx_laws_shell.specs.Damage.{is_range_damaged, is_damaged_in}
use Rattle.vx_laws_shell.specs.Folders.{table_before}
use Rattle.vx_laws_shell.specs.FolderContents.{content_before, contents_joined, file_held, AreOpened}
use Rattle.vx_laws_shell.specs.FolderContents.{JoinedContentsAreFiles, JoinedDamageIsOfFiles, JoinedDamageIsDecided}
use Rattle.vx_laws_shell.proofs.Damage.{HasBytes, damage_so}
use Rattle.vx_laws_shell.proofs.FolderFiles.{others_are}

-- ---- lists before others

zip_before : {A B C : Type 0} (f : A → B → C) (xs more : List A) (ys others : List B) → length xs ≡ length ys
    → zip_rows f (xs ++ more) (ys ++ others) ≡ zip_rows f xs ys ++ zip_rows f more others
zip_before f [] more [] others e = refl
zip_before f [] more (y ∷ ys) others e = absurd (omega (arith, e))
zip_before f (x ∷ xs) more [] others e = absurd (omega (arith, e))
zip_before {A} {B} {C} f (x ∷ xs) more (y ∷ ys) others e =
    ap (λ (zs : List C). f x y ∷ zs) (zip_before f xs more ys others (omega (arith, e)))

zip_count : {A B C : Type 0} (f : A → B → C) (xs : List A) (ys : List B) → length xs ≡ length ys → length (zip_rows f xs ys) ≡ length xs
zip_count f [] ys e = refl
zip_count f (x ∷ xs) [] e = absurd (omega (arith, e))
zip_count f (x ∷ xs) (y ∷ ys) e = ap suc (zip_count f xs ys (omega (arith, e)))

all_before : {X : Type 0} (P : X → Type 0) (xs ys : List X) → AllByRecursion P xs → AllByRecursion P ys → AllByRecursion P (xs ++ ys)
all_before P [] ys h k = k
all_before P (x ∷ xs) ys h k = (h.0, all_before P xs ys h.1 k)

pub get_first : {X : Type 0} (xs ys : List X) (i : ℕ) → i < length xs → slice_get (xs ++ ys) i ≡ slice_get xs i
get_first [] ys i h = absurd (omega (arith, h))
get_first (x ∷ xs) ys zero h = refl
get_first (x ∷ xs) ys (suc i) h = get_first xs ys i (omega (arith, h))

pub get_behind : {X : Type 0} (xs ys : List X) (i : ℕ) → length xs ≤ i → slice_get (xs ++ ys) i ≡ slice_get ys (i - length xs)
get_behind [] ys i h = let e : i ≡ i - 0 = omega arith in ap (slice_get ys) e
get_behind (x ∷ xs) ys zero h = absurd (omega (arith, h))
get_behind (x ∷ xs) ys (suc i) h =
    let e : i - length xs ≡ suc i - suc (length xs) = omega arith in
    get_behind xs ys i (omega (arith, h)) ∙ ap (slice_get ys) e

-- ---- the table

-- a file has as many blocks of ranges as its header says
pub opened_count : (bytes : Bytes) (content : FileContent) → IsOpened bytes content → length content.ranges ≡ length content.zones.lengths
opened_count bytes content opened = sym (length_mapped lengths_of content.ranges) ∙ opened.header.header.each_block

-- files as one have the columns of the first
pub joined_columns : (first : FileContent) (contents : List FileContent) → (contents_joined first contents).zones.columns ≡ first.zones.columns
joined_columns first [] = refl
joined_columns first (next ∷ contents) = refl

-- the table of a file before others of its columns
held_before : (first rest : FileContent) → rest.zones.columns ≡ first.zones.columns → length first.ranges ≡ length first.zones.lengths
    → held_table (content_before first rest) ≡ table_before (held_table first) (held_table rest)
held_before first rest same counted =
    let fs = first.zones.columns in
    let own = zip_rows (held_block fs) first.zones.lengths first.ranges in
    let more = zip_rows (held_block fs) rest.zones.lengths rest.ranges in
    let cut = zip_before (held_block fs) first.zones.lengths rest.zones.lengths first.ranges rest.ranges (sym counted) in
    let number = zip_count (held_block fs) first.zones.lengths first.ranges (sym counted) in
    let rows = zip_before (rows_of_columns fs) first.zones.lengths rest.zones.lengths own more (sym number) in
    let renamed = ap
    (λ (gs : Fields). zip_rows (rows_of_columns fs) first.zones.lengths own
    ++ zip_rows (rows_of_columns gs) rest.zones.lengths (zip_rows (held_block gs) rest.zones.lengths rest.ranges)) (sym same) in
    let blocks = ap (zip_rows (rows_of_columns fs) (first.zones.lengths ++ rest.zones.lengths)) cut ∙ rows ∙ renamed in
    λ i. record { columns = fs; blocks = blocks i }

pub joined_contents_are_files : JoinedContentsAreFiles
joined_contents_are_files files first [] opened alike = refl
joined_contents_are_files [] first (next ∷ contents) opened alike = absurd opened
joined_contents_are_files (bytes ∷ files) first (next ∷ contents) opened alike =
    let columns = joined_columns next contents ∙ alike.forms.0.columns in
    let others = others_are (file_held first) (file_held next) (map file_held contents) alike in
    held_before first (contents_joined next contents) columns (opened_count bytes first opened.0)
    ∙ ap (λ (table : Table). table_before (held_table first) table) (joined_contents_are_files files next contents opened.1 others)

-- ---- damage

-- a read of the blocks of a file before others
damaged_first : (first rest : FileContent) (read : Read) → length first.ranges ≡ length first.zones.lengths → read.0 < length first.ranges
    → is_damaged_in (content_before first rest) read ≡ is_damaged_in first read
unfolding is_damaged_in
damaged_first first rest read counted within =
    let fs = first.zones.columns in
    let lengths = get_first first.zones.lengths rest.zones.lengths read.0 (omega (arith, counted, within)) in
    let ranges = get_first first.ranges rest.ranges read.0 within in
    λ i. is_range_damaged (field_type read.1 fs) (lengths i) (option_and_then (range_named read.1 fs) (ranges i))

-- and one behind them
damaged_later : (first rest : FileContent) (read : Read) → rest.zones.columns ≡ first.zones.columns
    → length first.ranges ≡ length first.zones.lengths → length first.ranges ≤ read.0
    → is_damaged_in (content_before first rest) read ≡ is_damaged_in rest (read.0 - length first.ranges, read.1)
unfolding is_damaged_in
damaged_later first rest read same counted behind =
    let columns = sym same in
    let place = ap (λ (n : ℕ). slice_get rest.zones.lengths (read.0 - n)) (sym counted) in
    let lengths = get_behind first.zones.lengths rest.zones.lengths read.0 (omega (arith, counted, behind)) ∙ place in
    let ranges = get_behind first.ranges rest.ranges read.0 behind in
    λ i. is_range_damaged (field_type read.1 (columns i)) (lengths i) (option_and_then (range_named read.1 (columns i)) (ranges i))

pub joined_damage_is_of_files : JoinedDamageIsOfFiles
joined_damage_is_of_files bytes first next contents read opened alike = by-place (nat_lt read.0 (length first.ranges)) refl
  where
    rest : FileContent
    rest = contents_joined next contents

    counted : length first.ranges ≡ length first.zones.lengths
    counted = opened_count bytes first opened

    by-place : (b : Bool) → nat_lt read.0 (length first.ranges) ≡ b
        → is_damaged_in (content_before first rest) read
        ≡ cond b (is_damaged_in first read) (is_damaged_in rest (read.0 - length first.ranges, read.1))
    by-place true e = damaged_first first rest read counted (ltb-true read.0 (length first.ranges) e)
    by-place false e =
        damaged_later first rest read (joined_columns next contents ∙ alike.forms.0.columns) counted (ltb-false read.0 (length first.ranges) e)

-- each range of a file is bytes
opened_has_bytes : (bytes : Bytes) (content : FileContent) → AreBytes bytes → IsOpened bytes content → HasBytes content
opened_has_bytes bytes content here opened =
    ranges_are_bytes content.ranges
    (bytes_behind (front_bytes (header_of content)) (ranges_bytes content.ranges) (subst AreBytes opened.header.stands here))

-- and each of files as one is
pub joined_has_bytes : (files : List Bytes) (first : FileContent) (contents : List FileContent) → AllByRecursion AreBytes files
    → AreOpened files (first ∷ contents) → HasBytes (contents_joined first contents)
joined_has_bytes [] first contents here opened = absurd opened
joined_has_bytes (bytes ∷ files) first [] here opened = opened_has_bytes bytes first here.0 opened.0
joined_has_bytes (bytes ∷ files) first (next ∷ contents) here opened =
    all_before (λ (rs : List Bytes). AllByRecursion AreBytes rs) first.ranges (contents_joined next contents).ranges
    (opened_has_bytes bytes first here.0 opened.0) (joined_has_bytes files next contents here.1 opened.1)

pub joined_damage_is_decided : JoinedDamageIsDecided
joined_damage_is_decided files first contents read here opened =
    damage_so (contents_joined first contents) read (joined_has_bytes files first contents here opened)
