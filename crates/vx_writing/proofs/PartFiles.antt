-- The files of the parts of a told table.
use Rattle.std.proofs.Common.{◌≡◌, ap, sym, ◌∙◌, subst, inl, inr, ℕ, ◌+◌, ◌<◌, ◌≤◌, ◌^◌, List, [], ◌∷◌, ◌++◌, map, length, drop, get_or, Option, None, Result, Ok, Err, arith}
use Rattle.std.proofs.lemmas.List.{append-nil, append_assoc, drop_all, drop_more, length-map, map_push}
use Rattle.std.specs.List.{AllByRecursion}
use Rattle.std.specs.declared.vec.Vec.{Vec}
use Rattle.std.specs.declared.alloc.Global.{Global}
use Rattle.vx_dtype.specs.Types.{Bytes}
use Rattle.vx_dtype.specs.TypeRules.{field_names}
use Rattle.vx_column.specs.Columns.{Column}
use Rattle.vx_semantics.specs.Tables.{Zones}
use Rattle.vx_tables.specs.Blocks.{table_refusal}
use Rattle.vx_request.specs.RequestViews.{told_view}
use Rattle.vx_request.specs.Tables.{ToldTable}
use Rattle.vx_request.specs.declared.tables.ToldTable.{ToldTable as ToldCode}
use Rattle.vx_cutting.specs.CutLaws.{IsTable}
use Rattle.vx_cutting.specs.Parting.{Parted, tables_in_parts}
use Rattle.vx_cutting.proofs.PartLemmas.{parts_are_the_table}
use Rattle.vx_files.specs.FolderKeeping.{NamedFile}
use Rattle.vx_laws_writing.specs.Writing.{AreFilesOf, HasItsFile, IsFileOf, file_name, numbered_from, told_part}
use Rattle.vx_laws_writing.proofs.WrittenTables.{is_table, no_refusal}
use Rattle.vx_laws_writing.proofs.FolderTables.{same_number}
use Rattle.vx_writing.specs.Making.{AreBlocksOf, AreTables, ArePartsOf, KeepsParts, MakesBlocks, MakesFile, MakesFiles, MakesParts, bytes_at}
use Rattle.vx_writing.specs.declared.errors.Refusal.{Refusal}
use Rattle.vx_writing.specs.declared.errors.Refusal.TheVariants as refusals

-- a table has as many lengths as blocks
pub numbers_agree : (zones : Zones) (blocks : List (List Column)) → table_refusal zones blocks ≡ None → length zones.lengths ≡ length blocks
numbers_agree zones blocks h = same_number (length (field_names zones.columns)) zones.lengths blocks (is_table zones blocks h).lengths

-- the tables of the parts of a table have no refusal
each_unrefused : (parts : List Parted) → AllByRecursion (λ (part : Parted). IsTable part.zones part.blocks) parts → AreTables (map told_part parts)
each_unrefused [] h = tt
each_unrefused (part ∷ parts) h = (no_refusal part.zones part.blocks h.0, each_unrefused parts h.1)

-- the tables that blocks are put into are those of the files
pub parts_made : (most : ℕ) (rows : Option ℕ) (told made : ToldTable) (tables : List ToldTable) → AreBlocksOf rows told made → length made.zones.lengths < 2 ^ 32
    → tables ≡ map told_part (tables_in_parts most made.zones made.blocks) → ArePartsOf most rows told tables
parts_made most rows told made tables is few e =
    let count = numbers_agree made.zones made.blocks is.table in
    let number : length made.blocks < 2 ^ 32 = omega (arith, count, few) in
    let whole = each_unrefused (tables_in_parts most made.zones made.blocks) (parts_are_the_table most made.zones made.blocks (is_table made.zones made.blocks is.table)).tables in
    record {
      tables_are = e ∙ (λ i. map told_part (tables_in_parts most (is.zones i) (is.blocks i)));
      few = subst (λ (blocks : List (List Column)). length blocks < 2 ^ 32) is.blocks number;
      whole = subst AreTables (sym e) whole;
    }

-- and where they aren't cut, why
pub uncut : (most : ℕ) (rows : Option ℕ) (told : ToldTable) (r : Refusal) → MakesBlocks rows told (Err r) → MakesParts most rows told (Err r)
uncut most rows told refusals.NoMemory h = tt
uncut most rows told refusals.TooLong h = h.1
uncut most rows told refusals.Usage h = absurd h
uncut most rows told refusals.Unread h = absurd h
uncut most rows told (refusals.NoTable e) h = absurd h
uncut most rows told refusals.Exists h = absurd h
uncut most rows told refusals.NotKept h = absurd h

-- a table of a list, and those behind it
here : (tables : List ToldCode) (i : ℕ) (table : ToldCode) → i < length tables → table ≡ get_or tables i table → drop i tables ≡ table ∷ drop (i + 1) tables
here tables i table h is = drop_more tables i table h ∙ ap (λ (t : ToldCode). t ∷ drop (i + 1) tables) (sym is)

pub whole_here : (tables : List ToldCode) (i : ℕ) (table : ToldCode) → i < length tables → table ≡ get_or tables i table → AreTables (map told_view (drop i tables))
    → (table_refusal (told_view table).zones (told_view table).blocks ≡ None) × AreTables (map told_view (drop (i + 1) tables))
whole_here tables i table h is whole = subst (λ (ts : List ToldCode). AreTables (map told_view ts)) (here tables i table h is) whole

pub file_here : (tables : List ToldCode) (i : ℕ) (table : ToldCode) → i < length tables → table ≡ get_or tables i table
    → AllByRecursion HasItsFile (map told_view (drop i tables)) → HasItsFile (told_view table) × AllByRecursion HasItsFile (map told_view (drop (i + 1) tables))
file_here tables i table h is all = subst (λ (ts : List ToldCode). AllByRecursion HasItsFile (map told_view ts)) (here tables i table h is) all

-- the files so far stand before those of the tables that are left
abbrev pub StandBefore : List ToldCode → ℕ → List (Vec ℕ Global) → Type 0
StandBefore tables i files = (rest : List Bytes) → AreFilesOf (map told_view (drop i tables)) rest → AreFilesOf (map told_view tables) (map bytes_at files ++ rest)

pub none_before : (tables : List ToldCode) (files : List (Vec ℕ Global)) → files ≡ [] → StandBefore tables 0 files
none_before tables files e = λ rest h. subst (λ (fs : List (Vec ℕ Global)). AreFilesOf (map told_view tables) (map bytes_at fs ++ rest)) (sym e) h

pub one_more_file : (tables : List ToldCode) (i : ℕ) (table : ToldCode) (files now : List (Vec ℕ Global)) (bytes : Vec ℕ Global) → i < length tables → table ≡ get_or tables i table
    → IsFileOf None (told_view table) bytes.items → now ≡ files ++ bytes ∷ [] → StandBefore tables i files → StandBefore tables (i + 1) now
one_more_file tables i table files now bytes h is file e before = λ rest behind.
    let front : AreFilesOf (map told_view (drop i tables)) (bytes_at bytes ∷ rest) =
    subst (λ (ts : List ToldCode). AreFilesOf (map told_view ts) (bytes_at bytes ∷ rest)) (sym (here tables i table h is)) (file, behind) in
    let same : map bytes_at now ++ rest ≡ map bytes_at files ++ bytes_at bytes ∷ rest =
    ap (λ (fs : List (Vec ℕ Global)). map bytes_at fs ++ rest) e ∙ ap (λ (bs : List Bytes). bs ++ rest) (map_push bytes_at files bytes) ∙ append_assoc (map bytes_at files) (bytes_at bytes ∷ []) rest in
    subst (AreFilesOf (map told_view tables)) (sym same) (before (bytes_at bytes ∷ rest) front)

pub all_files : (tables : List ToldCode) (i : ℕ) (files : List (Vec ℕ Global)) → length tables ≤ i → StandBefore tables i files → AreFilesOf (map told_view tables) (map bytes_at files)
all_files tables i files h before =
    let none : AreFilesOf (map told_view (drop i tables)) [] = subst (λ (ts : List ToldCode). AreFilesOf (map told_view ts) []) (sym (drop_all i tables h)) tt in
    subst (AreFilesOf (map told_view tables)) (append-nil (map bytes_at files)) (before [] none)

-- a table without a file among others
pub no_file_here : (tables : List ToldCode) (i : ℕ) (table : ToldCode) (r : Refusal) → i < length tables → table ≡ get_or tables i table
    → (AllByRecursion HasItsFile (map told_view tables) → AllByRecursion HasItsFile (map told_view (drop i tables))) → MakesFile None (told_view table) (Err r)
    → MakesFiles (map told_view tables) (Err r)
no_file_here tables i table refusals.NoMemory h is left none = tt
no_file_here tables i table refusals.TooLong h is left none = λ all. none (file_here tables i table h is (left all)).0
no_file_here tables i table refusals.Usage h is left none = absurd none
no_file_here tables i table refusals.Unread h is left none = absurd none
no_file_here tables i table (refusals.NoTable e) h is left none = absurd none
no_file_here tables i table refusals.Exists h is left none = absurd none
no_file_here tables i table refusals.NotKept h is left none = absurd none

-- the files of the parts of a table
pub parts_filed : (most : ℕ) (rows : Option ℕ) (told : ToldTable) (tables : List ToldTable) (r : Result (Vec (Vec ℕ Global) Global) Refusal) → ArePartsOf most rows told tables
    → MakesFiles tables r → KeepsParts most rows told r
parts_filed most rows told tables (Ok files) is h = record { few = is.few; files_are = subst (λ (ts : List ToldTable). AreFilesOf ts (map bytes_at files.items)) is.tables_are h }
parts_filed most rows told tables (Err refusals.NoMemory) is h = tt
parts_filed most rows told tables (Err refusals.TooLong) is h = inr (λ all. h (subst (AllByRecursion HasItsFile) (sym is.tables_are) all))
parts_filed most rows told tables (Err refusals.Usage) is h = absurd h
parts_filed most rows told tables (Err refusals.Unread) is h = absurd h
parts_filed most rows told tables (Err (refusals.NoTable e)) is h = absurd h
parts_filed most rows told tables (Err refusals.Exists) is h = absurd h
parts_filed most rows told tables (Err refusals.NotKept) is h = absurd h

pub unparted : (most : ℕ) (rows : Option ℕ) (told : ToldTable) (r : Refusal) → MakesParts most rows told (Err r) → KeepsParts most rows told (Err r)
unparted most rows told refusals.NoMemory h = tt
unparted most rows told refusals.TooLong h = inl h
unparted most rows told refusals.Usage h = absurd h
unparted most rows told refusals.Unread h = absurd h
unparted most rows told (refusals.NoTable e) h = absurd h
unparted most rows told refusals.Exists h = absurd h
unparted most rows told refusals.NotKept h = absurd h

-- one more numbered file
numbered_push : (number : ℕ) (files : List Bytes) (bytes : Bytes)
    → numbered_from number (files ++ bytes ∷ []) ≡ numbered_from number files ++ record { name = file_name (number + length files); bytes = bytes } ∷ []
numbered_push number [] bytes = let same : number ≡ number + 0 = omega arith in λ i. record { name = file_name (same i); bytes = bytes } ∷ []
numbered_push number (first ∷ files) bytes =
    let same : (number + 1) + length files ≡ number + length (first ∷ files) = omega arith in
    let rest : numbered_from (number + 1) (files ++ bytes ∷ []) ≡ numbered_from (number + 1) files ++ record { name = file_name (number + length (first ∷ files)); bytes = bytes } ∷ [] =
    numbered_push (number + 1) files bytes ∙ (λ i. numbered_from (number + 1) files ++ record { name = file_name (same i); bytes = bytes } ∷ []) in
    ap (λ (named : List NamedFile). record { name = file_name number; bytes = first } ∷ named) rest

pub one_more_named : (files : List (Vec ℕ Global)) (bytes : Vec ℕ Global) (named : List NamedFile) (name : Bytes) → named ≡ numbered_from 0 (map bytes_at files)
    → name ≡ file_name (length files) → named ++ record { name = name; bytes = bytes.items } ∷ [] ≡ numbered_from 0 (map bytes_at (files ++ bytes ∷ []))
one_more_named files bytes named name e is =
    let number : length files ≡ 0 + length (map bytes_at files) = sym (length-map files bytes_at) ∙ omega arith in
    (λ i. e i ++ record { name = (is ∙ ap file_name number) i; bytes = bytes.items } ∷ []) ∙ sym (numbered_push 0 (map bytes_at files) (bytes_at bytes))
    ∙ ap (numbered_from 0) (sym (map_push bytes_at files bytes))
