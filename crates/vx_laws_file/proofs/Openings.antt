-- What bytes hold as a file, and why they are none: one answer each.
use Rattle.std.proofs.Common.{◌≡◌, ◌⊎◌, inl, inr, refl, sym, ap, ◌∙◌, subst, append_assoc, append-nil, ℕ, ◌+◌, Bool, true, false, cond, not, Option, Some, None, List, [], ◌∷◌, ◌++◌, map, length, take, drop, get_or, sum, is_some, arith}
use Rattle.std.specs.List.{AllByRecursion, list_all, concat}
use Rattle.std.proofs.lemmas.Bool.{and_from}
use Rattle.std.proofs.lemmas.List.{drop_at, drop-drop, drop_all}
use Rattle.std.proofs.lemmas.Option.{none-some, same_Some}
use Rattle.vx_dtype.specs.Types.{Bytes, Ty, Fields}
use Rattle.vx_dtype.specs.TypeRules.{no_name_twice}
use Rattle.vx_dtype.specs.Values.{Typed}
use Rattle.vx_semantics.specs.Tables.{ZoneStat, row_type}
use Rattle.vx_zones.specs.declared.errors.ZoneError.{ZoneError}
use Rattle.vx_zones.specs.declared.errors.ZoneError.TheVariants as errors
use Rattle.vx_zones.specs.Zoning.{are_shallow, type_of_statistic, values_have, distinct_statistics, counts_blocks, has_its_type, broken_rule}
use Rattle.vx_wire_bytes.specs.Numbers.{piece_bytes}
use Rattle.vx_laws_file.specs.FileForms.{mark, IsStatistic, Header, header_bytes, front_bytes, lengths_of, header_of, ranges_bytes}
use Rattle.vx_laws_file.specs.Opening.{HasMark, HasHeader, bad_magic, bad_header, bad_zones, bad_end, all_lengths, cut_blocks, content_with, range_place}
use Rattle.vx_laws_file.specs.FileLaws.{OneHeader, OneContent, NoFileBeginsAnother, OneRefusal, OpenedIsNotRefused, RefusedZonesHaveDoubles, HeaderAndEndOpen, RangeStandsAtItsPlace}
use Rattle.vx_laws_file.proofs.Lists.{ranges_same, ranges_length, cut_blocks_are, piece_stands, block_stands}
use Rattle.vx_laws_file.proofs.Headers.{front_free}

-- ---- one header, one content

pub one_header : OneHeader
one_header bytes g h x y p q = front_free g h x y p.header q.header p.short q.short (sym p.stands ∙ q.stands)

pub no_file_begins_another : NoFileBeginsAnother
no_file_begins_another a b f g x y p q e =
    let front_f = front_bytes (header_of f) in
    let front_g = front_bytes (header_of g) in
    let same = sym (append_assoc front_f (ranges_bytes f.ranges) x) ∙ ap (λ (c : Bytes). c ++ x) (sym p.header.stands) ∙ e
    ∙ ap (λ (c : Bytes). c ++ y) q.header.stands ∙ append_assoc front_g (ranges_bytes g.ranges) y in
    let fronts = front_free (header_of f) (header_of g) (ranges_bytes f.ranges ++ x) (ranges_bytes g.ranges ++ y) p.header.header q.header.header p.header.short q.header.short same in
    let ranges = ranges_same f.ranges g.ranges x y (ap (λ (h : Header). h.range_lengths) fronts.0) fronts.1 in
    let zones : f.zones ≡ g.zones = ap (λ (h : Header). h.zones) fronts.0 in
    ((λ i. record { zones = zones i; ranges = ranges.0 i }), ranges.1)

pub one_content : OneContent
one_content bytes f g p q = (no_file_begins_another bytes bytes f g [] [] p q refl).0

-- ---- one refusal

has_mark : (bytes : Bytes) (h : Header) (rest : Bytes) → HasHeader bytes h rest → HasMark bytes
has_mark bytes h rest p = (piece_bytes (header_bytes h) ++ rest, p.stands ∙ append_assoc mark (piece_bytes (header_bytes h)) rest)

pub one_refusal : OneRefusal
one_refusal bytes bad_magic bad_magic p q = refl
one_refusal bytes bad_magic bad_header p q = absurd (p q.0)
one_refusal bytes bad_magic (bad_zones e) p q = absurd (p (has_mark bytes q.0 q.1 q.2))
one_refusal bytes bad_magic bad_end p q = absurd (p (has_mark bytes q.0 q.1 q.2))
one_refusal bytes bad_header bad_magic p q = absurd (q p.0)
one_refusal bytes bad_header bad_header p q = refl
one_refusal bytes bad_header (bad_zones e) p q = absurd (p.1 q.0 q.1 q.2)
one_refusal bytes bad_header bad_end p q = absurd (p.1 q.0 q.1 q.2)
one_refusal bytes (bad_zones d) bad_magic p q = absurd (q (has_mark bytes p.0 p.1 p.2))
one_refusal bytes (bad_zones d) bad_header p q = absurd (q.1 p.0 p.1 p.2)
one_refusal bytes (bad_zones d) (bad_zones e) p q =
    let same = one_header bytes p.0 q.0 p.1 q.1 p.2 q.2 in
    ap bad_zones (same_Some d e (sym p.3 ∙ ap (λ (h : Header). broken_rule h.zones) same.0 ∙ q.3))
one_refusal bytes (bad_zones d) bad_end p q =
    let same = one_header bytes q.0 p.0 q.1 p.1 q.2 p.2 in
    absurd (none-some d (sym q.3 ∙ ap (λ (h : Header). broken_rule h.zones) same.0 ∙ p.3))
one_refusal bytes bad_end bad_magic p q = absurd (q (has_mark bytes p.0 p.1 p.2))
one_refusal bytes bad_end bad_header p q = absurd (q.1 p.0 p.1 p.2)
one_refusal bytes bad_end (bad_zones e) p q =
    let same = one_header bytes p.0 q.0 p.1 q.1 p.2 q.2 in
    absurd (none-some e (sym p.3 ∙ ap (λ (h : Header). broken_rule h.zones) same.0 ∙ q.3))
one_refusal bytes bad_end bad_end p q = refl

pub opened_is_not_refused : OpenedIsNotRefused
opened_is_not_refused bytes f bad_magic p k = k (has_mark bytes (header_of f) (ranges_bytes f.ranges) p.header)
opened_is_not_refused bytes f bad_header p k = k.1 (header_of f) (ranges_bytes f.ranges) p.header
opened_is_not_refused bytes f (bad_zones e) p k =
    let same = one_header bytes (header_of f) k.0 (ranges_bytes f.ranges) k.1 p.header k.2 in
    none-some e (sym p.rules ∙ ap (λ (h : Header). broken_rule h.zones) same.0 ∙ k.3)
opened_is_not_refused bytes f bad_end p k =
    let same = one_header bytes (header_of f) k.0 (ranges_bytes f.ranges) k.1 p.header k.2 in
    k.4 (ap length (sym same.1) ∙ ranges_length f.ranges ∙ ap all_lengths same.0)

-- ---- which rules a header's statistics can break

two_rules : (a b c d e f : Bool) (r : ZoneError) → b ≡ true → c ≡ true → e ≡ true → f ≡ true
    → cond (not a) (Some errors.DuplicateName) (cond (not b) (Some errors.DeepType) (cond (not c) (Some errors.BadStatPath)
    (cond (not d) (Some errors.DuplicateStat) (cond (not e) (Some errors.WrongStatCount) (cond (not f) (Some errors.WrongStatType) None))))) ≡ Some r
    → (r ≡ errors.DuplicateName) ⊎ (r ≡ errors.DuplicateStat)
two_rules false b c d e f r pb pc pe pf h = inl (sym (same_Some errors.DuplicateName r h))
two_rules true false c d e f r pb pc pe pf h = absurd cc
two_rules true true false d e f r pb pc pe pf h = absurd cc
two_rules true true true false e f r pb pc pe pf h = inr (sym (same_Some errors.DuplicateStat r h))
two_rules true true true true false f r pb pc pe pf h = absurd cc
two_rules true true true true true false r pb pc pe pf h = absurd cc
two_rules true true true true true true r pb pc pe pf h = absurd (none-some r h)

have_types : (columns : Fields) (lengths : List ℕ) (zs : List ZoneStat) → AllByRecursion (IsStatistic columns lengths) zs → list_all (has_its_type columns) zs ≡ true
have_types columns lengths [] h = refl
have_types columns lengths (z ∷ zs) h = and_from (has_its_type columns z) (list_all (has_its_type columns) zs) h.0.typed (have_types columns lengths zs h.1)

have_counts : (columns : Fields) (lengths : List ℕ) (zs : List ZoneStat) → AllByRecursion (IsStatistic columns lengths) zs → list_all (counts_blocks lengths) zs ≡ true
have_counts columns lengths [] h = refl
have_counts columns lengths (z ∷ zs) h = and_from (counts_blocks lengths z) (list_all (counts_blocks lengths) zs) h.0.counted (have_counts columns lengths zs h.1)

leads : (o : Option Ty) (vs : List Typed) → values_have vs o ≡ true → is_some o ≡ true
leads None vs h = absurd cc
leads (Some t) vs h = refl

have_paths : (columns : Fields) (lengths : List ℕ) (zs : List ZoneStat) → AllByRecursion (IsStatistic columns lengths) zs → list_all (λ s. is_some (type_of_statistic columns s)) zs ≡ true
have_paths columns lengths [] h = refl
have_paths columns lengths (z ∷ zs) h =
    and_from (is_some (type_of_statistic columns z)) (list_all (λ s. is_some (type_of_statistic columns s)) zs)
    (leads (type_of_statistic columns z) z.values h.0.typed) (have_paths columns lengths zs h.1)

pub refused_zones_have_doubles : RefusedZonesHaveDoubles
unfolding broken_rule
refused_zones_have_doubles bytes e p =
    let zones = p.0.zones in
    let h = p.2.header in
    two_rules (no_name_twice (row_type zones.columns)) (are_shallow zones.columns) (list_all (λ s. is_some (type_of_statistic zones.columns s)) zones.stats)
    (distinct_statistics zones.stats) (list_all (counts_blocks zones.lengths) zones.stats) (list_all (has_its_type zones.columns) zones.stats) e
    h.shallow (have_paths zones.columns zones.lengths zones.stats h.statistics.1) (have_counts zones.columns zones.lengths zones.stats h.statistics.1)
    (have_types zones.columns zones.lengths zones.stats h.statistics.1) p.3

-- ---- bytes that are cut into ranges

pub header_and_end_open : HeaderAndEndOpen
header_and_end_open bytes h rest p rules ends =
    let parts = cut_blocks_are h.range_lengths rest (omega (arith, ends)) in
    let gone : drop (all_lengths h) rest ≡ [] = drop_all (all_lengths h) rest (omega (arith, ends)) in
    let whole : rest ≡ ranges_bytes (cut_blocks h.range_lengths rest) =
    sym parts.1 ∙ ap (λ (b : Bytes). ranges_bytes (cut_blocks h.range_lengths rest) ++ b) gone ∙ append-nil (ranges_bytes (cut_blocks h.range_lengths rest)) in
    let header : h ≡ header_of (content_with h rest) = λ i. record { zones = h.zones; range_lengths = sym parts.0 i } in
    record {
      rules = rules;
      header = subst (λ (g : Header). HasHeader bytes g (ranges_bytes (cut_blocks h.range_lengths rest))) header (subst (λ (b : Bytes). HasHeader bytes h b) whole p);
    }

pub range_stands : RangeStandsAtItsPlace
range_stands bytes f block column ranges range p e d =
    let h = header_of f in
    let front = front_bytes h in
    let before = sum (map sum (take block h.range_lengths)) in
    let inside = sum (take column (get_or h.range_lengths block [])) in
    let there = block_stands f.ranges block ranges e in
    let past : drop (length front) bytes ≡ ranges_bytes f.ranges = ap (drop (length front)) p.header.stands ∙ drop_at front (ranges_bytes f.ranges) (length front) refl in
    let place : length front + before + inside ≡ range_place h block column = omega arith in
    let one : drop (range_place h block column) bytes ≡ drop inside (drop before (drop (length front) bytes)) =
    sym (ap (drop inside) (drop-drop before (length front) bytes) ∙ drop-drop inside (length front + before) bytes ∙ ap (λ k. drop k bytes) place) in
    let two : drop inside (drop before (drop (length front) bytes)) ≡ drop (sum (take column (lengths_of ranges))) (concat ranges ++ there.behind) =
    ap (λ (b : Bytes). drop inside (drop before b)) past ∙ ap (drop inside) there.stands ∙ ap (λ (ns : List ℕ). drop (sum (take column ns)) (concat ranges ++ there.behind)) there.lengths in
    ap (take (length range)) (one ∙ two) ∙ piece_stands ranges column range there.behind d
