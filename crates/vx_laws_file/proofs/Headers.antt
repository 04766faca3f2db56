-- No header begins another one.
use Rattle.std.proofs.Common.{◌≡◌, refl, sym, ap, ◌∙◌, subst, append_assoc, ℕ, zero, suc, ◌≤◌, nat_le, true, Option, Some, None, List, [], ◌∷◌, ◌++◌, length, sum, arith}
use Rattle.std.specs.List.{AllByRecursion, flat_map, list_all}
use Rattle.std.specs.Option.{option_and_then}
use Rattle.std.proofs.lemmas.Bool.{and_parts, leb-true, eqb-true}
use Rattle.std.proofs.lemmas.List.{append_cancel_left}
use Rattle.std.proofs.lemmas.Option.{same_Some}
use Rattle.vx_dtype.specs.declared.Nullability.TheVariants.{Nullable}
use Rattle.vx_dtype.specs.declared.Stat.{Stat}
use Rattle.vx_dtype.specs.declared.Stat.TheVariants.{Min, Max, NaNCount, NullCount}
use Rattle.vx_dtype.specs.Types.{Bytes, Ty, Fields, no_fields, field}
use Rattle.vx_dtype.specs.TypeRules.{depth_of, depth_below, most_deep, with_nullability, fields_of, field_names}
use Rattle.vx_dtype.specs.Equal.{ty_eq}
use Rattle.vx_dtype.specs.EqualLaws.{ty_decides}
use Rattle.vx_dtype.specs.Values.{Typed}
use Rattle.vx_semantics.specs.Tables.{row_type}
use Rattle.vx_zones.specs.Zoning.{are_shallow, statistic_type, leaf_type, type_of_statistic, values_have}
use Rattle.vx_wire_bytes.specs.Numbers.{number_bytes, piece_bytes}
use Rattle.vx_wire_bytes.specs.Fields.{IsNumber, IsShort, IsText}
use Rattle.vx_wire_bytes.specs.Reading.{piece_at}
use Rattle.vx_wire_bytes.specs.TypeForms.{type_bytes, HasNames}
use Rattle.vx_wire_bytes.specs.TypeReading.{type_at}
use Rattle.vx_wire_bytes.specs.ValueForms.{value_bytes, IsValue}
use Rattle.vx_wire_bytes.proofs.HeadLemmas.{piece_again}
use Rattle.vx_wire_bytes.proofs.TypeLemmas.{type_again}
use Rattle.vx_wire.proofs.FieldLemmas.{IsPrefixFree, same_found, number_free, text_free}
use Rattle.vx_wire.proofs.LiteralLemmas.{value_free}
use Rattle.vx_laws_file.specs.FileForms.{mark, most_rows, counted_bytes, AreCounted, stat_byte, scalar_bytes, statistic_bytes, IsStatistic, Header, lengths_bytes, header_bytes, AreRangeLengths, IsHeader, front_bytes}
use Rattle.vx_laws_file.proofs.Lists.{each_both, each_free, counted_free, sum_cons}

-- ---- the type of the rows

pub shallow_below : (fs : Fields) → are_shallow fs ≡ true → depth_below fs ≤ 64
unfolding depth_of
shallow_below no_fields h = omega arith
shallow_below (field f t fs) h =
    let parts = and_parts (nat_le (depth_of t) most_deep) (are_shallow fs) h in
    let own : depth_of t ≤ 64 = leb-true (depth_of t) most_deep parts.0 in
    let rest = shallow_below fs parts.1 in
    omega (arith, own, rest)

row_depth : (fs : Fields) → are_shallow fs ≡ true → depth_of (row_type fs) ≤ 65
unfolding depth_of
row_depth fs h = let below = shallow_below fs h in omega (arith, below)

row_type_free : (c d : Fields) (x y : Bytes) → HasNames (row_type c) → HasNames (row_type d) → are_shallow c ≡ true → are_shallow d ≡ true
    → type_bytes (row_type c) ++ x ≡ type_bytes (row_type d) ++ y → (c ≡ d) × (x ≡ y)
row_type_free c d x y p q h k e =
    let found = same_found (row_type c, x) (row_type d, y)
    (sym (type_again (row_type c) 65 x p (row_depth c h)) ∙ ap (type_at 65) e ∙ type_again (row_type d) 65 y q (row_depth d k)) in
    (ap fields_of found.0, found.1)

-- ---- statistics

stat_of : ℕ → Stat
stat_of zero = Min
stat_of (suc zero) = Max
stat_of (suc (suc zero)) = NullCount
stat_of (suc (suc (suc n))) = NaNCount

stat_again : (s : Stat) → stat_of (stat_byte s) ≡ s
unfolding stat_of
stat_again Min = refl
stat_again Max = refl
stat_again NullCount = refl
stat_again NaNCount = refl

same_stat_byte : (a b : Stat) → stat_byte a ≡ stat_byte b → a ≡ b
same_stat_byte a b e = sym (stat_again a) ∙ ap stat_of e ∙ stat_again b

heads : (a b : ℕ) (x y : Bytes) → a ∷ x ≡ b ∷ y → (a ≡ b) × (x ≡ y)
heads a b x y e = (cc, cc)

-- a value of a known type that has a spelling
abbrev pub IsScalarOf : Ty → Typed → Type 0
IsScalarOf u s = (s.ty ≡ u) × IsValue s.ty s.value

scalar_free : (u : Ty) → IsPrefixFree scalar_bytes (IsScalarOf u)
scalar_free u a b x y p q e =
    let values = value_free u a.value b.value x y (subst (λ t. IsValue t a.value) p.0 p.1) (subst (λ t. IsValue t b.value) q.0 q.1)
    (ap (λ t. value_bytes t a.value ++ x) (sym p.0) ∙ e ∙ ap (λ t. value_bytes t b.value ++ y) q.0) in
    let types : a.ty ≡ b.ty = p.0 ∙ sym q.0 in
    ((λ i. record { ty = types i; value = values.0 i }), values.1)

all_of_type : (t : Ty) (vs : List Typed) → list_all (λ s. ty_eq s.ty (with_nullability t Nullable)) vs ≡ true → AllByRecursion (λ s. s.ty ≡ with_nullability t Nullable) vs
all_of_type t [] h = tt
all_of_type t (s ∷ vs) h =
    let parts = and_parts (ty_eq s.ty (with_nullability t Nullable)) _ h in
    ((ty_decides s.ty (with_nullability t Nullable)).0 parts.0, all_of_type t vs parts.1)

-- the type of a statistic whose values have it
pub record HasType (o : Option Ty) (vs : List Typed) : Type 0 where
  pub ty : Ty
  pub is : o ≡ Some ty
  pub each : AllByRecursion (λ s. s.ty ≡ with_nullability ty Nullable) vs

pub has_type : (vs : List Typed) (o : Option Ty) → values_have vs o ≡ true → HasType o vs
has_type vs None h = absurd cc
has_type vs (Some t) h = record { ty = t; is = refl; each = all_of_type t vs h }

statistic_free : (columns : Fields) (lengths : List ℕ) → IsPrefixFree statistic_bytes (IsStatistic columns lengths)
statistic_free columns lengths a b x y p q e =
    let va = flat_map scalar_bytes a.values in
    let vb = flat_map scalar_bytes b.values in
    let paths = counted_free piece_bytes IsText text_free a.path b.path (stat_byte a.stat ∷ (va ++ x)) (stat_byte b.stat ∷ (vb ++ y)) p.path q.path
    (sym (append_assoc (counted_bytes piece_bytes a.path) (stat_byte a.stat ∷ va) x) ∙ e ∙ append_assoc (counted_bytes piece_bytes b.path) (stat_byte b.stat ∷ vb) y) in
    let kinds = heads (stat_byte a.stat) (stat_byte b.stat) (va ++ x) (vb ++ y) paths.1 in
    let stats = same_stat_byte a.stat b.stat kinds.0 in
    let ta = has_type a.values (type_of_statistic columns a) p.typed in
    let tb = has_type b.values (type_of_statistic columns b) q.typed in
    let alike : type_of_statistic columns a ≡ type_of_statistic columns b = λ i. option_and_then (statistic_type (stats i)) (leaf_type columns (paths.0 i)) in
    let same : ta.ty ≡ tb.ty = same_Some ta.ty tb.ty (sym ta.is ∙ alike ∙ tb.is) in
    let u = with_nullability tb.ty Nullable in
    let of_a : AllByRecursion (λ s. s.ty ≡ u) a.values = subst (λ t. AllByRecursion (λ s. s.ty ≡ with_nullability t Nullable) a.values) same ta.each in
    let pa : AllByRecursion (IsScalarOf u) a.values = each_both (λ s. s.ty ≡ u) (λ s. IsValue s.ty s.value) a.values of_a p.values in
    let pb : AllByRecursion (IsScalarOf u) b.values = each_both (λ s. s.ty ≡ u) (λ s. IsValue s.ty s.value) b.values tb.each q.values in
    let count : length a.values ≡ length b.values = eqb-true (length a.values) (length lengths) p.counted ∙ sym (eqb-true (length b.values) (length lengths) q.counted) in
    let values = each_free scalar_bytes (IsScalarOf u) (scalar_free u) a.values b.values x y pa pb count kinds.1 in
    ((λ i. record { path = paths.0 i; stat = stats i; values = values.0 i }), values.1)

-- ---- numbers

pub small_each : (ns : List ℕ) → sum ns ≤ most_rows → AllByRecursion IsNumber ns
small_each [] le = tt
small_each (n ∷ ns) le = let both = sum_cons n ns in (omega (arith, le, both), small_each ns (omega (arith, le, both)))

lengths_free : (width : ℕ) → IsPrefixFree lengths_bytes (AreRangeLengths width)
lengths_free width a b x y p q e = each_free number_bytes IsNumber number_free a b x y p.1 q.1 (p.0 ∙ sym q.0) e

-- ---- headers

-- the parts of a header behind its columns, behind the lengths of its blocks, and behind its statistics
abbrev pub ranges_part : Header → Bytes
ranges_part h = flat_map lengths_bytes h.range_lengths

abbrev pub statistics_part : Header → Bytes
statistics_part h = counted_bytes statistic_bytes h.zones.stats ++ ranges_part h

abbrev pub blocks_part : Header → Bytes
blocks_part h = counted_bytes number_bytes h.zones.lengths ++ statistics_part h

header_same : (g h : Header) → IsHeader g → IsHeader h → header_bytes g ≡ header_bytes h → g ≡ h
header_same g h p q e =
    let columns = row_type_free g.zones.columns h.zones.columns (blocks_part g) (blocks_part h) p.names q.names p.shallow q.shallow e in
    let lengths = counted_free number_bytes IsNumber number_free g.zones.lengths h.zones.lengths (statistics_part g) (statistics_part h)
    (p.number_of_blocks, small_each g.zones.lengths p.rows) (q.number_of_blocks, small_each h.zones.lengths q.rows) columns.1 in
    let of_columns : AreCounted (IsStatistic h.zones.columns g.zones.lengths) g.zones.stats =
    subst (λ c. AreCounted (IsStatistic c g.zones.lengths) g.zones.stats) columns.0 p.statistics in
    let of_lengths : AreCounted (IsStatistic h.zones.columns h.zones.lengths) g.zones.stats =
    subst (λ l. AreCounted (IsStatistic h.zones.columns l) g.zones.stats) lengths.0 of_columns in
    let stats = counted_free statistic_bytes (IsStatistic h.zones.columns h.zones.lengths) (statistic_free h.zones.columns h.zones.lengths)
    g.zones.stats h.zones.stats (ranges_part g) (ranges_part h) of_lengths q.statistics lengths.1 in
    let width = length (field_names h.zones.columns) in
    let of_width : AllByRecursion (AreRangeLengths width) g.range_lengths = subst (λ c. AllByRecursion (AreRangeLengths (length (field_names c))) g.range_lengths) columns.0 p.each_range in
    let count : length g.range_lengths ≡ length h.range_lengths = p.each_block ∙ ap length lengths.0 ∙ sym q.each_block in
    let ranges = each_free lengths_bytes (AreRangeLengths width) (lengths_free width) g.range_lengths h.range_lengths [] [] of_width q.each_range count
    (ap (λ (b : Bytes). b ++ []) stats.1) in
    λ i. record { zones = record { columns = columns.0 i; lengths = lengths.0 i; stats = stats.0 i }; range_lengths = ranges.0 i }

piece_free : IsPrefixFree piece_bytes IsShort
piece_free a b x y p q e = same_found (a, x) (b, y) (sym (piece_again a x p) ∙ ap piece_at e ∙ piece_again b y q)

pub front_free : (g h : Header) (x y : Bytes) → IsHeader g → IsHeader h → IsShort (header_bytes g) → IsShort (header_bytes h) → front_bytes g ++ x ≡ front_bytes h ++ y → (g ≡ h) × (x ≡ y)
front_free g h x y p q l m e =
    let behind = append_cancel_left mark (piece_bytes (header_bytes g) ++ x) (piece_bytes (header_bytes h) ++ y)
    (sym (append_assoc mark (piece_bytes (header_bytes g)) x) ∙ e ∙ append_assoc mark (piece_bytes (header_bytes h)) y) in
    let pieces = piece_free (header_bytes g) (header_bytes h) x y l m behind in
    (header_same g h p q pieces.0, pieces.1)
