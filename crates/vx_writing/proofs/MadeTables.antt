-- The blocks that are kept of a told table, and their file.
use Rattle.std.proofs.Common.{◌≡◌, ap, sym, ◌∙◌, subst, ℕ, ◌<◌, ◌≤◌, ◌^◌, true, List, length, Option, Some, None, Err, arith}
use Rattle.std.specs.List.{sum}
use Rattle.std.proofs.lemmas.List.FromFn.{length-map-range_with_len}
use Rattle.vx_dtype.specs.TypeRules.{field_names}
use Rattle.vx_column.specs.Columns.{Column}
use Rattle.vx_semantics.specs.Tables.{Zones}
use Rattle.vx_tables.specs.Blocks.{have_lengths, table_of_blocks, table_refusal}
use Rattle.vx_tables.specs.declared.errors.TableError.{TableError}
use Rattle.vx_tables.specs.declared.errors.TableError.TheVariants as refusals
use Rattle.vx_tables.proofs.BlockLemmas.{table_lengths}
use Rattle.vx_laws_stats.specs.BuiltStatistics.{built_zones}
use Rattle.vx_laws_file.specs.FileForms.{file_bytes}
use Rattle.vx_laws_file.specs.Lengths.{HasFile, IsShortTable}
use Rattle.vx_request.specs.Tables.{ToldTable}
use Rattle.vx_cutting.specs.Cutting.{block_cut, blocks_cut, joined_columns, length_cut, zones_cut, blocks_anew}
use Rattle.vx_cutting.specs.CutAnswers.{AnswersCut}
use Rattle.vx_cutting.specs.CutLaws.{IsTable}
use Rattle.vx_cutting.specs.declared.errors.CutError.{CutError}
use Rattle.vx_cutting.specs.declared.errors.CutError.TheVariants as cuts
use Rattle.vx_file_bytes.specs.WritingAnswers.{IsUnwritten}
use Rattle.vx_file_bytes.specs.declared.errors.WriteFileError.{WriteFileError}
use Rattle.vx_file_bytes.specs.declared.errors.WriteFileError.TheVariants as writes
use Rattle.vx_laws_writing.specs.Writing.{blocks_kept, zones_kept, HasNoFile, IsFileOf}
use Rattle.vx_laws_writing.proofs.WrittenTables.{is_table, no_refusal, kept_is_table}
use Rattle.vx_writing.specs.Making.{AreBlocksOf, MakesBlocks, MakesFile}
use Rattle.vx_writing.specs.WriteRefusals.{IsOfCutting, IsOfFile, cut_refusal, file_refusal}

-- a table has no refusal
never : (zones : Zones) (blocks : List (List Column)) (e : TableError) → table_refusal zones blocks ≡ None → table_refusal zones blocks ≡ Some e → ⊥
never zones blocks e h k = let no : None ≡ Some e = sym h ∙ k in cc

-- the zones that are built of a table are zones of it
built_is_table : (zones : Zones) (blocks : List (List Column)) → IsTable zones blocks → IsTable (built_zones (table_of_blocks zones blocks)) blocks
built_is_table zones blocks is =
    let fs = zones.columns in
    let lengths = table_lengths fs (length (field_names fs)) zones.lengths blocks is.lengths in
    record { lengths = subst (λ (ns : List ℕ). have_lengths (record zones { lengths = ns }) blocks ≡ true) (sym lengths) is.lengths; types = is.types }

pub built_unrefused : (zones : Zones) (blocks : List (List Column)) → table_refusal zones blocks ≡ None → table_refusal (built_zones (table_of_blocks zones blocks)) blocks ≡ None
built_unrefused zones blocks h = no_refusal (built_zones (table_of_blocks zones blocks)) blocks (built_is_table zones blocks (is_table zones blocks h))

-- too many blocks are too many for a file
pub too_many : (n : ℕ) (told : ToldTable) → 0 < n → table_refusal told.zones told.blocks ≡ None → 2 ^ 32 ≤ blocks_cut n (sum told.zones.lengths) → HasNoFile (Some n) told
too_many n told some h many short =
    let zones = zones_cut n told.zones in
    let blocks = blocks_anew n told.zones told.blocks in
    let fs = zones.columns in
    let own = kept_is_table (Some n) told some h in
    let lengths = table_lengths fs (length (field_names fs)) zones.lengths blocks own.lengths in
    let count = ap length lengths ∙ length-map-range_with_len (length_cut n (sum told.zones.lengths)) 0 (blocks_cut n (sum told.zones.lengths)) in
    omega (arith, short.number_of_blocks, count, many)

pub too_many_blocks : (n : ℕ) (told : ToldTable) → 2 ^ 32 ≤ blocks_cut n (sum told.zones.lengths) → 2 ^ 32 ≤ length (blocks_kept (Some n) told)
too_many_blocks n told many =
    subst (λ (k : ℕ). 2 ^ 32 ≤ k)
    (sym (length-map-range_with_len (block_cut n (joined_columns told.zones told.blocks)) 0 (blocks_cut n (sum told.zones.lengths)))) many

-- why a table isn't cut
pub of_cutting : (zones : Zones) (blocks : List (List Column)) (n : ℕ) (e : CutError) → table_refusal zones blocks ≡ None → AnswersCut zones blocks n (Err e) → IsOfCutting e
of_cutting zones blocks n cuts.NoMemory h a = tt
of_cutting zones blocks n cuts.TooMany h a = tt
of_cutting zones blocks n cuts.WrongLength h a = never zones blocks refusals.WrongLength h a
of_cutting zones blocks n cuts.WrongType h a = never zones blocks refusals.WrongType h a

-- why it has no file
pub of_file : (zones : Zones) (blocks : List (List Column)) (e : WriteFileError) → table_refusal zones blocks ≡ None → IsUnwritten zones blocks e → IsOfFile e
of_file zones blocks writes.NoMemory h a = tt
of_file zones blocks writes.TooLong h a = tt
of_file zones blocks writes.WrongLength h a = never zones blocks refusals.WrongLength h a
of_file zones blocks writes.WrongType h a = never zones blocks refusals.WrongType h a

-- blocks that were cut are those that are kept
pub cut_blocks : (n : ℕ) (told : ToldTable) (zones : Zones) (blocks : List (List Column)) → 0 < n → table_refusal told.zones told.blocks ≡ None → zones ≡ zones_cut n told.zones
    → blocks ≡ blocks_anew n told.zones told.blocks → AreBlocksOf (Some n) told (record { zones = zones; blocks = blocks })
cut_blocks n told zones blocks some h z b = record {
  zones = z;
  blocks = b;
  table = (λ i. table_refusal (z i) (b i)) ∙ no_refusal (zones_cut n told.zones) (blocks_anew n told.zones told.blocks) (kept_is_table (Some n) told some h);
}

-- the file of what is kept is the file of the table
zones_same : (rows : Option ℕ) (told made : ToldTable) → AreBlocksOf rows told made → zones_kept None made ≡ zones_kept rows told
zones_same rows told made is = λ i. built_zones (table_of_blocks (is.zones i) (is.blocks i))

pub file_same : (rows : Option ℕ) (told made : ToldTable) (bytes : List ℕ) → AreBlocksOf rows told made → IsFileOf None made bytes → IsFileOf rows told bytes
file_same rows told made bytes is file = record {
  file = subst (λ (x : Zones × List (List Column)). HasFile x.0 x.1) (λ i. (zones_same rows told made is i, is.blocks i)) file.file;
  bytes_are = file.bytes_are ∙ (λ i. file_bytes (zones_same rows told made is i) (is.blocks i));
}

pub no_file_same : (rows : Option ℕ) (told made : ToldTable) → AreBlocksOf rows told made → HasNoFile None made → HasNoFile rows told
no_file_same rows told made is none = subst (λ (x : Zones × List (List Column)). ¬ (IsShortTable x.0 x.1)) (λ i. (zones_same rows told made is i, is.blocks i)) none

-- why a told table isn't cut, and why it has no file, as refusals
pub cut_refused : (n : ℕ) (told : ToldTable) (e : CutError) → 0 < n → table_refusal told.zones told.blocks ≡ None → AnswersCut told.zones told.blocks n (Err e) → MakesBlocks (Some n) told (Err (cut_refusal e))
cut_refused n told cuts.NoMemory some h a = tt
cut_refused n told cuts.TooMany some h a = (too_many n told some h a.1, too_many_blocks n told a.1)
cut_refused n told cuts.WrongLength some h a = absurd (never told.zones told.blocks refusals.WrongLength h a)
cut_refused n told cuts.WrongType some h a = absurd (never told.zones told.blocks refusals.WrongType h a)

pub file_refused : (told : ToldTable) (zones : Zones) (blocks : List (List Column)) (e : WriteFileError) → zones ≡ zones_kept None told → blocks ≡ told.blocks → table_refusal zones blocks ≡ None → IsUnwritten zones blocks e
    → MakesFile None told (Err (file_refusal e))
file_refused told zones blocks writes.NoMemory z b h a = tt
file_refused told zones blocks writes.TooLong z b h a = subst (λ (x : Zones × List (List Column)). ¬ (IsShortTable x.0 x.1)) (λ i. (z i, b i)) a.1
file_refused told zones blocks writes.WrongLength z b h a = absurd (never zones blocks refusals.WrongLength h a)
file_refused told zones blocks writes.WrongType z b h a = absurd (never zones blocks refusals.WrongType h a)
