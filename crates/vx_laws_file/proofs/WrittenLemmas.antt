-- What is written is opened, and holds what was written.
use Rattle.std.proofs.Common.{◌≡◌, refl, sym, ap, ◌∙◌, subst, ℕ, zero, suc, Bool, true, false, cond, not, nat_eq, Option, Some, None, List, [], ◌∷◌, map, length, is_some, arith}
use Rattle.std.specs.List.{AllByRecursion, list_all, slice_get}
use Rattle.std.specs.Str.{bytes_eq}
use Rattle.std.proofs.lemmas.Bool.{and_parts}
use Rattle.std.proofs.lemmas.Option.{same_Some}
use Rattle.vx_dtype.specs.Types.{Bytes, Ty, bool_ty, int_ty, text_ty, list_ty, struct_ty, Fields, no_fields, field}
use Rattle.vx_dtype.specs.TypeRules.{no_name_twice, field_names, field_type}
use Rattle.vx_dtype.specs.StructTypes.{field_types}
use Rattle.vx_dtype.specs.Equal.{ty_eq}
use Rattle.vx_dtype.specs.EqualLaws.{ty_decides}
use Rattle.vx_dtype.specs.Values.{Val, Typed}
use Rattle.vx_dtype.specs.Fits.{fits, val_fits}
use Rattle.vx_column.specs.Columns.{Column, column, rows_fit, zip_rows}
use Rattle.vx_semantics.specs.Tables.{ZoneStat, Zones, row_type}
use Rattle.vx_zones.specs.declared.errors.ZoneError.TheVariants as rules
use Rattle.vx_zones.specs.Zoning.{are_shallow, type_of_statistic, distinct_statistics, counts_blocks, has_its_type, scalars_fit, broken_rule}
use Rattle.vx_tables.specs.Blocks.{block_long, blocks_long, block_typed, block_fits, have_lengths, have_types, table_refusal}
use Rattle.vx_tables.specs.declared.errors.TableError.TheVariants as errors
use Rattle.vx_tables.proofs.MemberLemmas.{length_mapped, equal_numbers}
use Rattle.vx_tables.proofs.BlockLemmas.{blocks_count}
use Rattle.vx_wire_bytes.specs.Fields.{IsNumber, IsShort, IsText}
use Rattle.vx_wire_bytes.specs.TypeForms.{NamesAre, FieldNamesAre}
use Rattle.vx_wire_bytes.specs.ValueForms.{TextsAre, IsValue}
use Rattle.vx_wire_bytes.proofs.LengthLemmas.{texts_short}
use Rattle.vx_laws_file.specs.Cells.{raw_value, IsCell}
use Rattle.vx_laws_file.specs.FileForms.{IsStatistic, AreRangeLengths, IsHeader, FileContent, lengths_of, header_of, column_bytes, content_of, file_bytes}
use Rattle.vx_laws_file.specs.Opening.{IsOpened}
use Rattle.vx_laws_file.specs.Ranges.{SpellsRange, range_named}
use Rattle.vx_laws_file.specs.HeldTables.{held_values, held_block, held_blocks}
use Rattle.vx_laws_file.specs.Lengths.{StatisticTextsAre, ColumnTextsAre, HasFile}
use Rattle.vx_laws_file.specs.FileLaws.{OneTable, WrittenIsOpened, WrittenIsHeld, WrittenIsWhole, FilesAreShort}
use Rattle.vx_laws_file.proofs.Lists.{each_so}
use Rattle.vx_laws_file.proofs.Openings.{one_content}
use Rattle.vx_laws_file.proofs.RangeLemmas.{held_values_read}
use Rattle.vx_laws_file.proofs.HeldLemmas.{lengths_count, and_then_parts}

-- ---- rules that aren't broken

pub no_refusal : {E : Type 0} (b : Bool) (x : E) (r : Option E) → cond (not b) (Some x) r ≡ None → (b ≡ true) × (r ≡ None)
no_refusal true x r h = (refl, h)
no_refusal false x r h = absurd cc

-- zones that break no rule on depth, on the number of values, and on their types
record Unbroken (zones : Zones) : Type 0 where
  shallow : are_shallow zones.columns ≡ true
  counts : list_all (counts_blocks zones.lengths) zones.stats ≡ true
  types : list_all (has_its_type zones.columns) zones.stats ≡ true

unbroken : (zones : Zones) → broken_rule zones ≡ None → Unbroken zones
unfolding broken_rule
unbroken zones h =
    let names = no_refusal (no_name_twice (row_type zones.columns)) rules.DuplicateName _ h in
    let depths = no_refusal (are_shallow zones.columns) rules.DeepType _ names.1 in
    let paths = no_refusal (list_all (λ s. is_some (type_of_statistic zones.columns s)) zones.stats) rules.BadStatPath _ depths.1 in
    let doubles = no_refusal (distinct_statistics zones.stats) rules.DuplicateStat _ paths.1 in
    let counts = no_refusal (list_all (counts_blocks zones.lengths) zones.stats) rules.WrongStatCount _ doubles.1 in
    let types = no_refusal (list_all (has_its_type zones.columns) zones.stats) rules.WrongStatType _ counts.1 in
    record { shallow = depths.0; counts = counts.0; types = types.0 }

-- blocks that are a table with zones
have_both : (zones : Zones) (blocks : List (List Column)) → table_refusal zones blocks ≡ None → (have_lengths zones blocks ≡ true) × (have_types zones blocks ≡ true)
have_both zones blocks h =
    let lengths = no_refusal (have_lengths zones blocks) errors.WrongLength _ h in
    let types = no_refusal (have_types zones blocks) errors.WrongType _ lengths.1 in
    (lengths.0, types.0)

-- ---- the header

scalars_are_values : (vs : List Typed) → scalars_fit vs ≡ true → AllByRecursion (λ s. TextsAre IsText s.value) vs → AllByRecursion (λ s. IsValue s.ty s.value) vs
scalars_are_values [] h p = tt
scalars_are_values (s ∷ vs) h p =
    let parts = and_parts (fits s.value s.ty) (scalars_fit vs) h in
    (record { fit = parts.0; texts = p.0 }, scalars_are_values vs parts.1 p.1)

are_statistics : (columns : Fields) (lengths : List ℕ) (zs : List ZoneStat) → list_all (counts_blocks lengths) zs ≡ true → list_all (has_its_type columns) zs ≡ true
    → list_all (λ z. scalars_fit z.values) zs ≡ true → AllByRecursion (StatisticTextsAre IsText) zs → AllByRecursion (IsStatistic columns lengths) zs
are_statistics columns lengths [] c t f p = tt
are_statistics columns lengths (z ∷ zs) c t f p =
    let counts = and_parts (counts_blocks lengths z) (list_all (counts_blocks lengths) zs) c in
    let types = and_parts (has_its_type columns z) (list_all (has_its_type columns) zs) t in
    let values = and_parts (scalars_fit z.values) (list_all (λ (y : ZoneStat). scalars_fit y.values) zs) f in (
      record { path = p.0.0; counted = counts.0; typed = types.0; values = scalars_are_values z.values values.0 p.0.1 },
      are_statistics columns lengths zs counts.1 types.1 values.1 p.1,
    )

short_are_numbers : (rs : List Bytes) → AllByRecursion IsShort rs → AllByRecursion IsNumber (lengths_of rs)
short_are_numbers [] h = tt
short_are_numbers (r ∷ rs) h = (h.0, short_are_numbers rs h.1)

ranges_are_long : (w : ℕ) (ns : List ℕ) (bs : List (List Column)) → blocks_long w ns bs ≡ true → AllByRecursion (λ rs. AllByRecursion IsShort rs) (map (λ cs. map column_bytes cs) bs)
    → AllByRecursion (AreRangeLengths w) (map lengths_of (map (λ cs. map column_bytes cs) bs))
ranges_are_long w [] [] h p = tt
ranges_are_long w [] (cs ∷ bs) h p = absurd cc
ranges_are_long w (n ∷ ns) [] h p = absurd cc
ranges_are_long w (n ∷ ns) (cs ∷ bs) h p =
    let parts = and_parts (block_long w n cs) (blocks_long w ns bs) h in
    let own = and_parts (nat_eq (length cs) w) (list_all (λ (c : Column). nat_eq (length c.rows) n) cs) parts.0 in
    let count = lengths_count (map column_bytes cs) ∙ length_mapped column_bytes cs ∙ equal_numbers (length cs) w own.0 in
    ((count, short_are_numbers (map column_bytes cs) p.0), ranges_are_long w ns bs parts.1 p.1)

pub written_header : (zones : Zones) (blocks : List (List Column)) → HasFile zones blocks → IsHeader (header_of (content_of zones blocks))
written_header zones blocks p =
    let rules_hold = unbroken zones p.rules in
    let both = have_both zones blocks p.table in
    let width = length (field_names zones.columns) in
    record {
      names = p.parts.names;
      shallow = rules_hold.shallow;
      number_of_blocks = p.parts.number_of_blocks;
      rows = p.parts.rows;
      statistics = (p.parts.statistics.0, are_statistics zones.columns zones.lengths zones.stats rules_hold.counts rules_hold.types p.statistics_fit p.parts.statistics.1);
      each_block = length_mapped lengths_of (map (λ (cs : List Column). map column_bytes cs) blocks) ∙ length_mapped (λ (cs : List Column). map column_bytes cs) blocks
          ∙ sym (blocks_count width zones.lengths blocks both.0);
      each_range = ranges_are_long width zones.lengths blocks both.0 p.parts.ranges;
    }

pub written_is_opened : WrittenIsOpened
written_is_opened zones blocks p =
    record { rules = p.rules; header = record { header = written_header zones blocks p; short = p.parts.header; stands = refl } }

-- ---- the columns

-- the columns of a block: of the fields' types, with cells for so many rows
abbrev pub IsBlockOf : Fields → ℕ → List Column → Type 0
IsBlockOf no_fields n [] = Unit {0}
IsBlockOf (field f t fs) n (c ∷ cs) = (t ≡ c.ty) × (length c.rows ≡ n) × AllByRecursion (IsCell c.ty) c.rows × IsBlockOf fs n cs
IsBlockOf _ n _ = ⊥

abbrev pub AreBlocksOf : Fields → List ℕ → List (List Column) → Type 0
AreBlocksOf fs [] [] = Unit {0}
AreBlocksOf fs (n ∷ ns) (cs ∷ bs) = IsBlockOf fs n cs × AreBlocksOf fs ns bs
AreBlocksOf fs _ _ = ⊥

rows_are_cells : (t : Ty) (vs : List Val) → rows_fit t vs ≡ true → AllByRecursion (λ v. TextsAre IsText (raw_value v)) vs → AllByRecursion (IsCell t) vs
rows_are_cells t [] h p = tt
rows_are_cells t (v ∷ vs) h p =
    let parts = and_parts (val_fits v t) (rows_fit t vs) h in
    (record { fit = parts.0; texts = p.0 }, rows_are_cells t vs parts.1 p.1)

is_block : (fs : Fields) (n : ℕ) (cs : List Column) → length cs ≡ length (field_names fs) → list_all (λ c. nat_eq (length c.rows) n) cs ≡ true
    → block_typed (field_types fs) cs ≡ true → block_fits cs ≡ true → AllByRecursion (ColumnTextsAre IsText) cs → IsBlockOf fs n cs
is_block no_fields n [] e l t f p = tt
is_block no_fields n (c ∷ cs) e l t f p = absurd (omega (arith, e))
is_block (field g u fs) n [] e l t f p = absurd (omega (arith, e))
is_block (field g u fs) n (c ∷ cs) e l t f p =
    let lengths = and_parts (nat_eq (length c.rows) n) (list_all (λ (d : Column). nat_eq (length d.rows) n) cs) l in
    let types = and_parts (ty_eq c.ty u) (block_typed (field_types fs) cs) t in
    let fitting = and_parts (rows_fit c.ty c.rows) (block_fits cs) f in (
      sym ((ty_decides c.ty u).0 types.0),
      equal_numbers (length c.rows) n lengths.0,
      rows_are_cells c.ty c.rows fitting.0 p.0,
      is_block fs n cs (omega (arith, e)) lengths.1 types.1 fitting.1 p.1,
    )

are_blocks : (fs : Fields) (ns : List ℕ) (bs : List (List Column)) → blocks_long (length (field_names fs)) ns bs ≡ true → list_all (block_typed (field_types fs)) bs ≡ true
    → list_all block_fits bs ≡ true → AllByRecursion (λ cs. AllByRecursion (ColumnTextsAre IsText) cs) bs → AreBlocksOf fs ns bs
are_blocks fs [] [] l t f p = tt
are_blocks fs [] (cs ∷ bs) l t f p = absurd cc
are_blocks fs (n ∷ ns) [] l t f p = absurd cc
are_blocks fs (n ∷ ns) (cs ∷ bs) l t f p =
    let width = length (field_names fs) in
    let lengths = and_parts (block_long width n cs) (blocks_long width ns bs) l in
    let own = and_parts (nat_eq (length cs) width) (list_all (λ (c : Column). nat_eq (length c.rows) n) cs) lengths.0 in
    let types = and_parts (block_typed (field_types fs) cs) (list_all (block_typed (field_types fs)) bs) t in
    let fitting = and_parts (block_fits cs) (list_all block_fits bs) f in
    (is_block fs n cs (equal_numbers (length cs) width own.0) own.1 types.0 fitting.0 p.0, are_blocks fs ns bs lengths.1 types.1 fitting.1 p.1)

written_blocks : (zones : Zones) (blocks : List (List Column)) → HasFile zones blocks → AreBlocksOf zones.columns zones.lengths blocks
written_blocks zones blocks p =
    let both = have_both zones blocks p.table in
    are_blocks zones.columns zones.lengths blocks both.0 both.1 p.cells_fit p.parts.values

spells_column : (n : ℕ) (c : Column) → length c.rows ≡ n → AllByRecursion (IsCell c.ty) c.rows → SpellsRange c.ty n (column_bytes c) c.rows
spells_column n c e p = record { number = e; cells = p; spelled = refl }

block_again : (fs : Fields) (n : ℕ) (cs : List Column) → IsBlockOf fs n cs → held_block fs n (map column_bytes cs) ≡ cs
block_again no_fields n [] p = refl
block_again no_fields n (c ∷ cs) p = absurd p
block_again (field f t fs) n [] p = absurd p
block_again (field f t fs) n (c ∷ cs) p =
    let here : held_values t n (column_bytes c) ≡ c.rows =
    ap (λ u. held_values u n (column_bytes c)) p.0 ∙ held_values_read c.ty n (column_bytes c) c.rows (spells_column n c p.1 p.2) in
    let rest = block_again fs n cs p.3 in
    λ i. column (p.0 i) (here i) ∷ rest i

blocks_again : (fs : Fields) (ns : List ℕ) (bs : List (List Column)) → AreBlocksOf fs ns bs → zip_rows (held_block fs) ns (map (λ cs. map column_bytes cs) bs) ≡ bs
blocks_again fs [] [] p = refl
blocks_again fs [] (cs ∷ bs) p = absurd p
blocks_again fs (n ∷ ns) [] p = absurd p
blocks_again fs (n ∷ ns) (cs ∷ bs) p =
    let here = block_again fs n cs p.0 in
    let rest = blocks_again fs ns bs p.1 in
    λ i. here i ∷ rest i

pub written_is_held : WrittenIsHeld
written_is_held zones blocks p = blocks_again zones.columns zones.lengths blocks (written_blocks zones blocks p)

-- ---- no pair is damaged

block_there : (fs : Fields) (ns : List ℕ) (bs : List (List Column)) (i n : ℕ) (rs : List Bytes) → AreBlocksOf fs ns bs → slice_get ns i ≡ Some n
    → slice_get (map (λ cs. map column_bytes cs) bs) i ≡ Some rs → (cs : List Column) × IsBlockOf fs n cs × (map column_bytes cs ≡ rs)
block_there fs [] bs i n rs p a b = absurd cc
block_there fs (m ∷ ns) [] i n rs p a b = absurd p
block_there fs (m ∷ ns) (cs ∷ bs) zero n rs p a b =
    let number : m ≡ n = same_Some m n a in
    (cs, subst (λ k. IsBlockOf fs k cs) number p.0, same_Some (map column_bytes cs) rs b)
block_there fs (m ∷ ns) (cs ∷ bs) (suc i) n rs p a b = block_there fs ns bs i n rs p.1 a b

block_spells : (f : Bytes) (fs : Fields) (n : ℕ) (cs : List Column) (t : Ty) (r : Bytes) → IsBlockOf fs n cs → field_type f fs ≡ Some t → range_named f fs (map column_bytes cs) ≡ Some r
    → (vs : List Val) × SpellsRange t n r vs
block_spells f no_fields n cs t r p a b = absurd cc
block_spells f (field g u fs) n [] t r p a b = absurd p
block_spells f (field g u fs) n (c ∷ cs) t r p a b = by (bytes_eq f g) a b (block_spells f fs n cs t r p.3)
  where
    by : (x : Bool) → cond x (Some u) (field_type f fs) ≡ Some t → cond x (Some (column_bytes c)) (range_named f fs (map column_bytes cs)) ≡ Some r
        → (field_type f fs ≡ Some t → range_named f fs (map column_bytes cs) ≡ Some r → (vs : List Val) × SpellsRange t n r vs) → (vs : List Val) × SpellsRange t n r vs
    by true a b k =
        let types : c.ty ≡ t = sym p.0 ∙ same_Some u t a in
        let ranges : column_bytes c ≡ r = same_Some (column_bytes c) r b in
        (c.rows, subst (λ s. SpellsRange t n s c.rows) ranges (subst (λ y. SpellsRange y n (column_bytes c) c.rows) types (spells_column n c p.1 p.2)))
    by false a b k = k a b

pub written_is_whole : WrittenIsWhole
written_is_whole zones blocks block name p d =
    let parts = and_then_parts (range_named name zones.columns) (slice_get (content_of zones blocks).ranges block) d.2 d.3.stands in
    let there = block_there zones.columns zones.lengths blocks block d.1 parts.0 (written_blocks zones blocks p) d.3.number parts.1 in
    let spelled = block_spells name zones.columns d.1 there.0 d.0 d.2 there.1 d.3.ty (ap (range_named name zones.columns) there.2 ∙ parts.2) in
    d.4 spelled.0 spelled.1

-- ---- one table

pub one_table : OneTable
one_table zones others blocks more p q e =
    let f = content_of zones blocks in
    let g = content_of others more in
    let same : f ≡ g =
    one_content (file_bytes zones blocks) f g (written_is_opened zones blocks p) (subst (λ (b : Bytes). IsOpened b g) (sym e) (written_is_opened others more q)) in
    (ap (λ (c : FileContent). c.zones) same, sym (written_is_held zones blocks p) ∙ ap held_blocks same ∙ written_is_held others more q)

-- ---- nothing is too long

mutual
  names_short : (t : Ty) → NamesAre IsText t → NamesAre IsShort t
  names_short (bool_ty n) h = tt
  names_short (int_ty p n) h = tt
  names_short (text_ty n) h = tt
  names_short (list_ty e n) h = names_short e h
  names_short (struct_ty fs n) h = (h.0, field_names_short fs h.1)

  field_names_short : (fs : Fields) → FieldNamesAre IsText fs → FieldNamesAre IsShort fs
  field_names_short no_fields h = tt
  field_names_short (field f t fs) h = (h.0.short, names_short t h.1, field_names_short fs h.2)

statistic_short : (z : ZoneStat) → StatisticTextsAre IsText z → StatisticTextsAre IsShort z
statistic_short z h = (
  (h.0.0, each_so IsText IsShort z.path (λ s k. k.short) h.0.1),
  each_so (λ (s : Typed). TextsAre IsText s.value) (λ (s : Typed). TextsAre IsShort s.value) z.values (λ s k. texts_short s.value k) h.1,
)

column_short : (c : Column) → ColumnTextsAre IsText c → ColumnTextsAre IsShort c
column_short c h = each_so (λ (v : Val). TextsAre IsText (raw_value v)) (λ (v : Val). TextsAre IsShort (raw_value v)) c.rows (λ v k. texts_short (raw_value v) k) h

pub files_are_short : FilesAreShort
files_are_short zones blocks p = record {
  names = names_short (row_type zones.columns) p.parts.names;
  number_of_blocks = p.parts.number_of_blocks;
  statistics = (p.parts.statistics.0, each_so (StatisticTextsAre IsText) (StatisticTextsAre IsShort) zones.stats statistic_short p.parts.statistics.1);
  values = each_so (λ (cs : List Column). AllByRecursion (ColumnTextsAre IsText) cs) (λ (cs : List Column). AllByRecursion (ColumnTextsAre IsShort) cs) blocks
      (λ cs k. each_so (ColumnTextsAre IsText) (ColumnTextsAre IsShort) cs column_short k) p.parts.values;
  rows = p.parts.rows;
  ranges = p.parts.ranges;
  header = p.parts.header;
}
