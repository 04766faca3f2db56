-- A file with no pair damaged is the file of the table that it holds.
use Rattle.std.proofs.Common.{◌≡◌, refl, sym, ap, ◌∙◌, subst, ℕ, zero, suc, Bool, true, false, cond, not, ◌||◌, true≢false, Option, Some, None, List, [], ◌∷◌, map, length, arith}
use Rattle.std.specs.List.{AllByRecursion, list_all, slice_get}
use Rattle.std.specs.Option.{option_and_then}
use Rattle.std.specs.Str.{bytes_eq}
use Rattle.std.proofs.lemmas.Bool.{and_parts, and_from}
use Rattle.std.proofs.lemmas.Option.{none-some, same_Some}
use Rattle.std.proofs.lemmas.Slice.Eq.{bytes_eq-Decides}
use Rattle.vx_dtype.specs.Types.{Bytes, Ty, Fields, no_fields, field}
use Rattle.vx_dtype.specs.TypeRules.{no_name_twice, no_name_twice_below, distinct_names, has_name, field_names, field_type}
use Rattle.vx_dtype.specs.Values.{Val, Typed}
use Rattle.vx_dtype.specs.Fits.{fits}
use Rattle.vx_dtype.proofs.DistinctLemmas.{not_found}
use Rattle.vx_dtype.proofs.ValuedLemmas.{bytes_eq_refl}
use Rattle.vx_column.specs.Columns.{zip_rows}
use Rattle.vx_semantics.specs.Tables.{ZoneStat, Zones, row_type}
use Rattle.vx_zones.specs.declared.errors.ZoneError.TheVariants as rules
use Rattle.vx_zones.specs.Zoning.{scalars_fit, broken_rule}
use Rattle.vx_wire_bytes.specs.Fields.{IsNumber, IsShort, IsText}
use Rattle.vx_wire_bytes.specs.ValueForms.{TextsAre, IsValue}
use Rattle.vx_wire_bytes.proofs.NumberLemmas.{IsBytes}
use Rattle.vx_laws_file.specs.Cells.{raw_value, IsCell, range_bytes}
use Rattle.vx_laws_file.specs.FileForms.{IsStatistic, AreRangeLengths, front_bytes, FileContent, lengths_of, header_bytes, header_of, ranges_bytes, content_bytes, column_bytes, content_of}
use Rattle.vx_laws_file.specs.Ranges.{SpellsRange, range_named, IsDamaged}
use Rattle.vx_laws_file.specs.HeldTables.{range_values, held_values, held_block, held_blocks}
use Rattle.vx_laws_file.specs.Lengths.{StatisticTextsAre, ColumnTextsAre}
use Rattle.vx_laws_file.specs.FileLaws.{WholeIsFile}
use Rattle.vx_laws_file.proofs.Lists.{each_so, bytes_behind}
use Rattle.vx_laws_file.proofs.RangeLemmas.{values_read, values_spelled, held_values_read}
use Rattle.vx_laws_file.proofs.HeldLemmas.{have_widths, ranges_are_bytes, held_is_table}
use Rattle.vx_laws_file.proofs.WrittenLemmas.{no_refusal}

-- ---- each range spells values

abbrev RangesAreValues : Fields → ℕ → List Bytes → Type 0
RangesAreValues no_fields n [] = Unit {0}
RangesAreValues (field f t fs) n (r ∷ rs) = ((vs : List Val) × SpellsRange t n r vs) × RangesAreValues fs n rs
RangesAreValues _ n _ = ⊥

abbrev BlocksAreValues : Fields → List ℕ → List (List Bytes) → Type 0
BlocksAreValues fs [] [] = Unit {0}
BlocksAreValues fs (n ∷ ns) (rs ∷ rss) = RangesAreValues fs n rs × BlocksAreValues fs ns rss
BlocksAreValues fs _ _ = ⊥

-- the range of each name spells values
abbrev NamedAreValues : Fields → ℕ → List Bytes → Type 0
NamedAreValues fs n rs = (f : Bytes) (t : Ty) (r : Bytes) → field_type f fs ≡ Some t → range_named f fs rs ≡ Some r → (vs : List Val) × SpellsRange t n r vs

is_named : (f : Bytes) (fs : Fields) (t : Ty) → field_type f fs ≡ Some t → has_name f (field_names fs) ≡ true
is_named f no_fields t e = absurd (none-some t e)
is_named f (field g u fs) t e = by (bytes_eq f g) e (is_named f fs t)
  where
    by : (b : Bool) → cond b (Some u) (field_type f fs) ≡ Some t → (field_type f fs ≡ Some t → has_name f (field_names fs) ≡ true) → (b || has_name f (field_names fs)) ≡ true
    by true e k = refl
    by false e k = k e

-- a name among others is another one than a name that isn't among them
other_name : (f g : Bytes) (names : List Bytes) → has_name f names ≡ false → has_name g names ≡ true → bytes_eq g f ≡ false
other_name f g names h k = by (bytes_eq g f) refl
  where
    by : (b : Bool) → bytes_eq g f ≡ b → b ≡ false
    by true e = absurd (true≢false (sym k ∙ ap (λ (x : Bytes). has_name x names) ((bytes_eq-Decides g f).0 e) ∙ h))
    by false e = refl

-- where no name stands twice, the range of each column is that of its name
named_ranges : (fs : Fields) (n : ℕ) (rs : List Bytes) → distinct_names (field_names fs) ≡ true → length rs ≡ length (field_names fs) → NamedAreValues fs n rs → RangesAreValues fs n rs
named_ranges no_fields n [] d l u = tt
named_ranges no_fields n (r ∷ rs) d l u = absurd (omega (arith, l))
named_ranges (field f t fs) n [] d l u = absurd (omega (arith, l))
named_ranges (field f t fs) n (r ∷ rs) d l u =
    let parts = and_parts (not (has_name f (field_names fs))) (distinct_names (field_names fs)) d in
    let alone = not_found (has_name f (field_names fs)) parts.0 in
    let first = u f t r (ap (λ b. cond b (Some t) (field_type f fs)) (bytes_eq_refl f)) (ap (λ b. cond b (Some r) (range_named f fs rs)) (bytes_eq_refl f)) in
    let others : NamedAreValues fs n rs = λ g v s a b.
    let apart = other_name f g (field_names fs) alone (is_named g fs v a) in
    u g v s (ap (λ c. cond c (Some t) (field_type g fs)) apart ∙ a) (ap (λ c. cond c (Some r) (range_named g fs rs)) apart ∙ b) in
    (first, named_ranges fs n rs parts.1 (omega (arith, l)) others)

-- a range that is found by name is one of the block's
named_bytes : (f : Bytes) (fs : Fields) (rs : List Bytes) (r : Bytes) → AllByRecursion IsBytes rs → range_named f fs rs ≡ Some r → IsBytes r
named_bytes f no_fields rs r h e = absurd (none-some r e)
named_bytes f (field g t fs) [] r h e = absurd (none-some r e)
named_bytes f (field g t fs) (s ∷ rs) r h e = by (bytes_eq f g) e (named_bytes f fs rs r h.1)
  where
    by : (b : Bool) → cond b (Some s) (range_named f fs rs) ≡ Some r → (range_named f fs rs ≡ Some r → IsBytes r) → IsBytes r
    by true e k = subst IsBytes (same_Some s r e) h.0
    by false e k = k e

each_at : {X : Type 0} (P : X → Type 0) (xs : List X) (i : ℕ) (x : X) → AllByRecursion P xs → slice_get xs i ≡ Some x → P x
each_at P [] i x h e = absurd (none-some x e)
each_at P (y ∷ xs) zero x h e = subst P (same_Some y x e) h.0
each_at P (y ∷ xs) (suc i) x h e = each_at P xs i x h.1 e

by_place : (fs : Fields) (ns : List ℕ) (rss : List (List Bytes)) → length rss ≡ length ns
    → ((i n : ℕ) (rs : List Bytes) → slice_get ns i ≡ Some n → slice_get rss i ≡ Some rs → RangesAreValues fs n rs) → BlocksAreValues fs ns rss
by_place fs [] [] l u = tt
by_place fs [] (rs ∷ rss) l u = absurd (omega (arith, l))
by_place fs (n ∷ ns) [] l u = absurd (omega (arith, l))
by_place fs (n ∷ ns) (rs ∷ rss) l u = (u 0 n rs refl refl, by_place fs ns rss (omega (arith, l)) (λ i. u (suc i)))

-- ---- what is held then

ranges_again : (fs : Fields) (n : ℕ) (rs : List Bytes) → RangesAreValues fs n rs → map column_bytes (held_block fs n rs) ≡ rs
ranges_again no_fields n [] p = refl
ranges_again no_fields n (r ∷ rs) p = absurd p
ranges_again (field f t fs) n [] p = absurd p
ranges_again (field f t fs) n (r ∷ rs) p =
    let here : range_bytes t (held_values t n r) ≡ r = ap (range_bytes t) (held_values_read t n r p.0.0 p.0.1) ∙ sym p.0.1.spelled in
    let rest = ranges_again fs n rs p.1 in
    λ i. here i ∷ rest i

blocks_again : (fs : Fields) (ns : List ℕ) (rss : List (List Bytes)) → BlocksAreValues fs ns rss → map (λ cs. map column_bytes cs) (zip_rows (held_block fs) ns rss) ≡ rss
blocks_again fs [] [] p = refl
blocks_again fs [] (rs ∷ rss) p = absurd p
blocks_again fs (n ∷ ns) [] p = absurd p
blocks_again fs (n ∷ ns) (rs ∷ rss) p =
    let here = ranges_again fs n rs p.0 in
    let rest = blocks_again fs ns rss p.1 in
    λ i. here i ∷ rest i

ranges_have_texts : (fs : Fields) (n : ℕ) (rs : List Bytes) → RangesAreValues fs n rs → AllByRecursion (ColumnTextsAre IsText) (held_block fs n rs)
ranges_have_texts no_fields n [] p = tt
ranges_have_texts no_fields n (r ∷ rs) p = absurd p
ranges_have_texts (field f t fs) n [] p = absurd p
ranges_have_texts (field f t fs) n (r ∷ rs) p =
    let texts = each_so (IsCell t) (λ (v : Val). TextsAre IsText (raw_value v)) p.0.0 (λ v c. c.texts) p.0.1.cells in
    let here = subst (AllByRecursion (λ v. TextsAre IsText (raw_value v))) (sym (held_values_read t n r p.0.0 p.0.1)) texts in
    (here, ranges_have_texts fs n rs p.1)

blocks_have_texts : (fs : Fields) (ns : List ℕ) (rss : List (List Bytes)) → BlocksAreValues fs ns rss
    → AllByRecursion (λ cs. AllByRecursion (ColumnTextsAre IsText) cs) (zip_rows (held_block fs) ns rss)
blocks_have_texts fs [] [] p = tt
blocks_have_texts fs [] (rs ∷ rss) p = absurd p
blocks_have_texts fs (n ∷ ns) [] p = absurd p
blocks_have_texts fs (n ∷ ns) (rs ∷ rss) p = (ranges_have_texts fs n rs p.0, blocks_have_texts fs ns rss p.1)

-- ---- what a header says of statistics and of lengths

values_fit_scalars : (vs : List Typed) → AllByRecursion (λ s. IsValue s.ty s.value) vs → scalars_fit vs ≡ true
values_fit_scalars [] h = refl
values_fit_scalars (s ∷ vs) h = and_from (fits s.value s.ty) (scalars_fit vs) h.0.fit (values_fit_scalars vs h.1)

statistics_fit : (columns : Fields) (lengths : List ℕ) (zs : List ZoneStat) → AllByRecursion (IsStatistic columns lengths) zs → list_all (λ z. scalars_fit z.values) zs ≡ true
statistics_fit columns lengths [] h = refl
statistics_fit columns lengths (z ∷ zs) h =
    and_from (scalars_fit z.values) (list_all (λ (y : ZoneStat). scalars_fit y.values) zs) (values_fit_scalars z.values h.0.values) (statistics_fit columns lengths zs h.1)

statistic_texts : (columns : Fields) (lengths : List ℕ) (z : ZoneStat) → IsStatistic columns lengths z → StatisticTextsAre IsText z
statistic_texts columns lengths z h = (h.path, each_so (λ (s : Typed). IsValue s.ty s.value) (λ (s : Typed). TextsAre IsText s.value) z.values (λ s v. v.texts) h.values)

numbers_are_short : (rs : List Bytes) → AllByRecursion IsNumber (lengths_of rs) → AllByRecursion IsShort rs
numbers_are_short [] h = tt
numbers_are_short (r ∷ rs) h = (h.0, numbers_are_short rs h.1)

lengths_are_short : (w : ℕ) (rss : List (List Bytes)) → AllByRecursion (AreRangeLengths w) (map lengths_of rss) → AllByRecursion (λ rs. AllByRecursion IsShort rs) rss
lengths_are_short w [] h = tt
lengths_are_short w (rs ∷ rss) h = (numbers_are_short rs h.0.1, lengths_are_short w rss h.1)

distinct_columns : (zones : Zones) → broken_rule zones ≡ None → distinct_names (field_names zones.columns) ≡ true
unfolding broken_rule no_name_twice
distinct_columns zones h =
    let names = no_refusal (no_name_twice (row_type zones.columns)) rules.DuplicateName _ h in
    (and_parts (distinct_names (field_names zones.columns)) (no_name_twice_below zones.columns) names.0).0

-- ---- the file

count_lengths : (rss : List (List Bytes)) → length (map lengths_of rss) ≡ length rss
count_lengths [] = refl
count_lengths (rs ∷ rss) = ap suc (count_lengths rss)

-- a pair that isn't damaged is read
pair_is_read : (content : FileContent) (block : ℕ) (name : Bytes) (t : Ty) (n : ℕ) (rs : List Bytes) (r : Bytes) → ¬ (IsDamaged content block name) → IsBytes r
    → slice_get content.zones.lengths block ≡ Some n → slice_get content.ranges block ≡ Some rs → field_type name content.zones.columns ≡ Some t
    → range_named name content.zones.columns rs ≡ Some r → (vs : List Val) × SpellsRange t n r vs
pair_is_read content block name t n rs r whole here number there ty named = by (range_values t n r) refl
  where
    by : (o : Option (List Val)) → range_values t n r ≡ o → (vs : List Val) × SpellsRange t n r vs
    by None e = absurd (whole (
      t,
      n,
      r,
      record { number = number; ty = ty; stands = ap (option_and_then (range_named name content.zones.columns)) there ∙ named },
      λ vs p. none-some vs (sym e ∙ values_read t n r vs p),
    ))
    by (Some vs) e = (vs, values_spelled t n r vs here e)

pub whole_is_file : WholeIsFile
whole_is_file bytes content here p whole =
    let zones = content.zones in
    let columns = zones.columns in
    let h = p.header.header in
    let width = length (field_names columns) in
    let count : length content.ranges ≡ length zones.lengths = sym (count_lengths content.ranges) ∙ h.each_block in
    let widths = have_widths width content.ranges h.each_range in
    let all = ranges_are_bytes content.ranges (bytes_behind (front_bytes (header_of content)) (ranges_bytes content.ranges) (subst IsBytes p.header.stands here)) in
    let distinct = distinct_columns zones p.rules in
    let spelled : BlocksAreValues columns zones.lengths content.ranges = by_place columns zones.lengths content.ranges count (λ i n rs a b.
    let long : length rs ≡ width = each_at (λ (xs : List Bytes). length xs ≡ width) content.ranges i rs widths b in
    let own = each_at (λ (xs : List Bytes). AllByRecursion IsBytes xs) content.ranges i rs all b in
    named_ranges columns n rs distinct long (λ f t r x y. pair_is_read content i f t n rs r (whole i f) (named_bytes f columns rs r own y) a b x y)) in
    let ranges = blocks_again columns zones.lengths content.ranges spelled in
    let same : content_of zones (held_blocks content) ≡ content = λ i. record { zones = zones; ranges = ranges i } in
    let table = held_is_table bytes content here p in (
      record {
        rules = p.rules;
        statistics_fit = statistics_fit columns zones.lengths zones.stats h.statistics.1;
        table = table.0;
        cells_fit = table.1;
        parts = record {
          names = h.names;
          number_of_blocks = h.number_of_blocks;
          statistics = (
            h.statistics.0,
            each_so (IsStatistic columns zones.lengths) (StatisticTextsAre IsText) zones.stats (statistic_texts columns zones.lengths) h.statistics.1,
          );
          values = blocks_have_texts columns zones.lengths content.ranges spelled;
          rows = h.rows;
          ranges = subst (AllByRecursion (λ rs. AllByRecursion IsShort rs)) (sym ranges) (lengths_are_short width content.ranges h.each_range);
          header = subst (λ (c : FileContent). IsShort (header_bytes (header_of c))) (sym same) p.header.short;
        };
      },
      p.header.stands ∙ sym (ap content_bytes same),
    )
