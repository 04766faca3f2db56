-- What files hold as one is a table with its statistics.
use Rattle.std.proofs.Common.{◌≡◌, refl, sym, ap, ◌∙◌, subst, ℕ, Bool, true, false, cond, not, Some, None, List, [], ◌∷◌, ◌++◌, map, length, length-append, arith}
use Rattle.std.specs.List.{AllByRecursion, list_all}
use Rattle.std.proofs.lemmas.Bool.{and_parts, and_from}
use Rattle.std.proofs.lemmas.List.{length-map}
use Rattle.std.proofs.lemmas.Option.{none-some}
use Rattle.vx_dtype.specs.Types.{Bytes, Fields}
use Rattle.vx_dtype.specs.TypeRules.{field_names}
use Rattle.vx_dtype.specs.StructTypes.{field_types}
use Rattle.vx_column.specs.Columns.{Column, zip_rows}
use Rattle.vx_tables.specs.declared.errors.TableError.TheVariants as refusals
use Rattle.vx_tables.specs.Blocks.{block_long, blocks_long, block_typed, block_fits, have_lengths, have_types}
use Rattle.vx_tables.proofs.BlockLemmas.{table_lengths}
use Rattle.vx_tables.proofs.FitLemmas.{table_fit}
use Rattle.vx_laws_file.specs.FileForms.{FileContent, lengths_of}
use Rattle.vx_laws_file.specs.FileLaws.{AreBytes}
use Rattle.vx_laws_file.specs.HeldTables.{held_block, held_blocks, held_table}
use Rattle.vx_laws_file.specs.Opening.{IsOpened}
use Rattle.vx_laws_file.proofs.HeldLemmas.{held_is_table}
use Rattle.vx_scan.specs.Stores.{AgreesWith}
use Rattle.vx_laws_shell.specs.Folders.{TableFile, IsOfForm}
use Rattle.vx_laws_shell.specs.FolderContents.{content_before, contents_joined, file_held, AreOpened, AreAlike}
use Rattle.vx_folder.specs.FolderStates.{IsOfFiles}
use Rattle.vx_folder.proofs.PlaceLemmas.{HasItsRanges}

-- the blocks that ranges hold at columns
abbrev blocks_at : Fields → FileContent → List (List Column)
blocks_at columns content = zip_rows (held_block columns) content.zones.lengths content.ranges

-- what is held at columns is a table
pub record IsWhole (columns : Fields) (content : FileContent) : Type 0 where
  pub columns_are : content.zones.columns ≡ columns
  pub long : blocks_long (length (field_names columns)) content.zones.lengths (blocks_at columns content) ≡ true
  pub typed : list_all (block_typed (field_types columns)) (blocks_at columns content) ≡ true
  pub fit : list_all block_fits (blocks_at columns content) ≡ true
  pub ranges : HasItsRanges content

-- ---- one file

both_hold : (a b : Bool) → cond (not a) (Some refusals.WrongLength) (cond (not b) (Some refusals.WrongType) None) ≡ None → (a ≡ true) × (b ≡ true)
both_hold true true e = (refl, refl)
both_hold true false e = absurd (none-some refusals.WrongType (sym e))
both_hold false b e = absurd (none-some refusals.WrongLength (sym e))

pub its_ranges : (bytes : Bytes) (content : FileContent) → IsOpened bytes content → HasItsRanges content
its_ranges bytes content opened = sym (length-map content.ranges lengths_of) ∙ opened.header.header.each_block

whole_file : (columns : Fields) (bytes : Bytes) (content : FileContent) → AreBytes bytes → IsOpened bytes content → content.zones.columns ≡ columns → IsWhole columns content
whole_file columns bytes content are opened same =
    let table = held_is_table bytes content are opened in
    let whole = both_hold (have_lengths content.zones (held_blocks content)) (have_types content.zones (held_blocks content)) table.0 in
    record {
      columns_are = same;
      long = subst (λ (fs : Fields). blocks_long (length (field_names fs)) content.zones.lengths (blocks_at fs content) ≡ true) same whole.0;
      typed = subst (λ (fs : Fields). list_all (block_typed (field_types fs)) (blocks_at fs content) ≡ true) same whole.1;
      fit = subst (λ (fs : Fields). list_all block_fits (blocks_at fs content) ≡ true) same table.1;
      ranges = its_ranges bytes content opened;
    }

-- ---- one behind another

zip_behind : {A B C : Type 0} (f : A → B → C) (xs zs : List A) (ys ws : List B) → length ys ≡ length xs → zip_rows f (xs ++ zs) (ys ++ ws) ≡ zip_rows f xs ys ++ zip_rows f zs ws
zip_behind f [] zs [] ws e = refl
zip_behind f [] zs (y ∷ ys) ws e = let no : ⊥ = omega (arith, e) in absurd no
zip_behind f (x ∷ xs) zs [] ws e = let no : ⊥ = omega (arith, e) in absurd no
zip_behind {A} {B} {C} f (x ∷ xs) zs (y ∷ ys) ws e = ap (λ (cs : List C). f x y ∷ cs) (zip_behind f xs zs ys ws (omega (arith, e)))

pub all_joined : {X : Type 0} (test : X → Bool) (xs ys : List X) → list_all test xs ≡ true → list_all test ys ≡ true → list_all test (xs ++ ys) ≡ true
all_joined test [] ys h k = k
all_joined test (x ∷ xs) ys h k =
    let parts = and_parts (test x) (list_all test xs) h in and_from (test x) (list_all test (xs ++ ys)) parts.0 (all_joined test xs ys parts.1 k)

long_joined : (w : ℕ) (ns ms : List ℕ) (bs cs : List (List Column)) → blocks_long w ns bs ≡ true → blocks_long w ms cs ≡ true → blocks_long w (ns ++ ms) (bs ++ cs) ≡ true
long_joined w [] ms [] cs h k = k
long_joined w [] ms (b ∷ bs) cs h k = absurd cc
long_joined w (n ∷ ns) ms [] cs h k = absurd cc
long_joined w (n ∷ ns) ms (b ∷ bs) cs h k =
    let parts = and_parts (block_long w n b) (blocks_long w ns bs) h in
    and_from (block_long w n b) (blocks_long w (ns ++ ms) (bs ++ cs)) parts.0 (long_joined w ns ms bs cs parts.1 k)

whole_before : (columns : Fields) (content other : FileContent) → IsWhole columns content → IsWhole columns other → IsWhole columns (content_before content other)
whole_before columns content other h k =
    let blocks = blocks_at columns content in
    let more = blocks_at columns other in
    let joined : blocks_at columns (content_before content other) ≡ blocks ++ more =
    zip_behind (held_block columns) content.zones.lengths other.zones.lengths content.ranges other.ranges h.ranges in
    let width = length (field_names columns) in
    record {
      columns_are = h.columns_are;
      long = ap (blocks_long width (content.zones.lengths ++ other.zones.lengths)) joined
          ∙ long_joined width content.zones.lengths other.zones.lengths blocks more h.long k.long;
      typed = ap (list_all (block_typed (field_types columns))) joined ∙ all_joined (block_typed (field_types columns)) blocks more h.typed k.typed;
      fit = ap (list_all block_fits) joined ∙ all_joined block_fits blocks more h.fit k.fit;
      ranges = omega (arith, length-append content.ranges other.ranges, length-append content.zones.lengths other.zones.lengths, h.ranges, k.ranges);
    }

whole_joined : (columns : Fields) (form : TableFile) (files : List Bytes) (first : FileContent) (contents : List FileContent) → AllByRecursion AreBytes files
    → AreOpened files (first ∷ contents) → first.zones.columns ≡ columns → form.table.columns ≡ columns → AllByRecursion (IsOfForm form) (map file_held contents)
    → IsWhole columns (contents_joined first contents)
whole_joined columns form [] first contents are opened same of_form forms = absurd opened
whole_joined columns form (bytes ∷ files) first [] are opened same of_form forms = whole_file columns bytes first are.0 opened.0 same
whole_joined columns form (bytes ∷ files) first (next ∷ contents) are opened same of_form forms =
    whole_before columns first (contents_joined next contents) (whole_file columns bytes first are.0 opened.0 same)
    (whole_joined columns form files next contents are.1 opened.1 (forms.0.columns ∙ of_form) of_form forms.1)

-- ---- files that are alike

pub whole_alike : (files : List Bytes) (first : FileContent) (contents : List FileContent) → AllByRecursion AreBytes files → AreOpened files (first ∷ contents)
    → AreAlike first contents → IsWhole first.zones.columns (contents_joined first contents)
whole_alike files first contents are opened alike =
    whole_joined first.zones.columns (file_held first) files first contents are opened refl refl alike.forms

whole_by : (columns : Fields) (content : FileContent) → IsWhole columns content → content.zones.columns ≡ columns
    → (have_lengths content.zones (held_blocks content) ≡ true) × (have_types content.zones (held_blocks content) ≡ true)
whole_by columns content h same = (
  subst (λ (gs : Fields). blocks_long (length (field_names gs)) content.zones.lengths (blocks_at gs content) ≡ true) (sym same) h.long,
  subst (λ (gs : Fields). list_all (block_typed (field_types gs)) (blocks_at gs content) ≡ true) (sym same) h.typed,
)

agrees_by : (columns : Fields) (content : FileContent) → IsWhole columns content → content.zones.columns ≡ columns → AgreesWith content.zones (held_table content)
agrees_by columns content h same =
    let blocks = held_blocks content in
    let fs = content.zones.columns in
    let long = subst (λ (gs : Fields). blocks_long (length (field_names gs)) content.zones.lengths (blocks_at gs content) ≡ true) (sym same) h.long in
    let typed = subst (λ (gs : Fields). list_all (block_typed (field_types gs)) (blocks_at gs content) ≡ true) (sym same) h.typed in
    let fit = subst (λ (gs : Fields). list_all block_fits (blocks_at gs content) ≡ true) (sym same) h.fit in
    record {
      columns = refl;
      lengths = table_lengths fs (length (field_names fs)) content.zones.lengths blocks long;
      fit = table_fit fs content.zones.lengths blocks long typed fit;
    }

-- what files hold has as many columns and rows as it says, of their types
pub whole_of_files : (content : FileContent) → IsOfFiles content → (have_lengths content.zones (held_blocks content) ≡ true) × (have_types content.zones (held_blocks content) ≡ true)
whole_of_files content h =
    let whole = whole_alike h.files h.first h.contents h.are_bytes h.together.opened h.together.alike in
    subst (λ (c : FileContent). (have_lengths c.zones (held_blocks c) ≡ true) × (have_types c.zones (held_blocks c) ≡ true)) (sym h.content_is)
    (whole_by h.first.zones.columns (contents_joined h.first h.contents) whole whole.columns_are)

-- the table of what files hold agrees with its statistics
pub agrees_of_files : (content : FileContent) → IsOfFiles content → AgreesWith content.zones (held_table content)
agrees_of_files content h =
    let whole = whole_alike h.files h.first h.contents h.are_bytes h.together.opened h.together.alike in
    subst (λ (c : FileContent). AgreesWith c.zones (held_table c)) (sym h.content_is)
    (agrees_by h.first.zones.columns (contents_joined h.first h.contents) whole whole.columns_are)

pub agrees_of_file : (bytes : Bytes) (content : FileContent) → AreBytes bytes → IsOpened bytes content → AgreesWith content.zones (held_table content)
agrees_of_file bytes content are opened = agrees_by content.zones.columns content (whole_file content.zones.columns bytes content are opened refl) refl

-- each of them has its ranges
pub each_has_ranges : (files : List Bytes) (contents : List FileContent) → AreOpened files contents → AllByRecursion HasItsRanges contents
each_has_ranges [] [] opened = tt
each_has_ranges [] (content ∷ contents) opened = absurd opened
each_has_ranges (bytes ∷ files) [] opened = absurd opened
each_has_ranges (bytes ∷ files) (content ∷ contents) opened = (its_ranges bytes content opened.0, each_has_ranges files contents opened.1)
