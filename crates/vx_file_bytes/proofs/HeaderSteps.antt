-- The parts of a header, read one after the other.
use Rattle.std.proofs.Common.{cond, ◌≡◌, refl, sym, ap, ◌∙◌, ℕ, nat_le, Bool, Option, Some, None, List, length, sum}
use Rattle.std.specs.Prelude.{option_map}
use Rattle.std.specs.Option.{option_and_then}
use Rattle.std.proofs.lemmas.Option.{same_Some}
use Rattle.vx_dtype.specs.declared.Stat.{Stat}
use Rattle.vx_dtype.specs.Types.{Bytes, Ty, Fields}
use Rattle.vx_dtype.specs.TypeRules.{field_names}
use Rattle.vx_dtype.specs.Values.{Typed}
use Rattle.vx_semantics.specs.Tables.{ZoneStat}
use Rattle.vx_wire_bytes.specs.Reading.{◌>>=◌, number_at, text_at}
use Rattle.vx_zones.specs.LeafTypes.{nullable}
use Rattle.vx_zones.specs.Zoning.{statistic_type}
use Rattle.vx_laws_file.specs.FileForms.{most_rows, Header}
use Rattle.vx_laws_file.specs.HeaderReading.{items_with, counted_with, columns_at, stat_at, scalar_at, statistic_of, scalars_with, statistic_by, statistic_at, lengths_at, range_lengths_at, header_with, header_at}

-- ---- items behind their number

pub not_counted : {A : Type 0} (read : Bytes → Option (A × Bytes)) (bytes : Bytes) → None ≡ number_at bytes → None ≡ counted_with read bytes
unfolding counted_with
not_counted read bytes e = ap (λ o. o >>= λ k. items_with read k.0 k.1) e

pub counted_are : {A : Type 0} (read : Bytes → Option (A × Bytes)) (bytes : Bytes) (n : ℕ) (rest : Bytes) → Some (n, rest) ≡ number_at bytes → items_with read n rest ≡ counted_with read bytes
unfolding counted_with
counted_are read bytes n rest e = ap (λ o. o >>= λ k. items_with read k.0 k.1) e

-- ---- the lengths of blocks

few_rows : Option (List ℕ × Bytes) → Option (List ℕ × Bytes)
few_rows o = o >>= λ ns. cond (nat_le (sum ns.0) most_rows) (Some ns) None

pub no_lengths_there : (bytes : Bytes) → None ≡ counted_with number_at bytes → None ≡ lengths_at bytes
unfolding lengths_at few_rows
no_lengths_there bytes e = ap few_rows e

pub lengths_there : (bytes : Bytes) (ns : List ℕ) (rest : Bytes) (b : Bool) → Some (ns, rest) ≡ counted_with number_at bytes → nat_le (sum ns) most_rows ≡ b
    → ◌≡◌ {A = Option (List ℕ × Bytes)} (cond b (Some (ns, rest)) None) (lengths_at bytes)
unfolding lengths_at few_rows
lengths_there bytes ns rest b e few =
    let found : Option (List ℕ × Bytes) = Some (ns, rest) in
    ap (λ c. cond c found None) (sym few) ∙ ap few_rows e

-- ---- one statistic

kind_then : (List Bytes → Option Ty) → List ℕ → List Bytes → Option (Stat × Bytes) → Option (ZoneStat × Bytes)
kind_then types lengths names o = o >>= λ s. scalars_with names s.0 (option_and_then (statistic_type s.0) (types names)) (length lengths) s.1

path_then : (List Bytes → Option Ty) → List ℕ → Option (List Bytes × Bytes) → Option (ZoneStat × Bytes)
path_then types lengths o = o >>= λ p. kind_then types lengths p.0 (stat_at p.1)

path_first : (types : List Bytes → Option Ty) (lengths : List ℕ) (bytes : Bytes) → path_then types lengths (counted_with text_at bytes) ≡ statistic_by types lengths bytes
unfolding statistic_by path_then kind_then
path_first types lengths bytes = refl

pub no_path : (types : List Bytes → Option Ty) (lengths : List ℕ) (bytes : Bytes) → None ≡ counted_with text_at bytes → None ≡ statistic_by types lengths bytes
unfolding path_then
no_path types lengths bytes e = ap (path_then types lengths) e ∙ path_first types lengths bytes

kind_next : (types : List Bytes → Option Ty) (lengths : List ℕ) (bytes : Bytes) (names : List Bytes) (rest : Bytes) → Some (names, rest) ≡ counted_with text_at bytes
    → kind_then types lengths names (stat_at rest) ≡ statistic_by types lengths bytes
unfolding path_then
kind_next types lengths bytes names rest e = ap (path_then types lengths) e ∙ path_first types lengths bytes

pub no_kind : (types : List Bytes → Option Ty) (lengths : List ℕ) (bytes : Bytes) (names : List Bytes) (rest : Bytes) → Some (names, rest) ≡ counted_with text_at bytes → None ≡ stat_at rest
    → None ≡ statistic_by types lengths bytes
unfolding kind_then
no_kind types lengths bytes names rest e h = ap (kind_then types lengths names) h ∙ kind_next types lengths bytes names rest e

-- the path and the kind of a statistic stand at the front, before its values
pub record IsBegun (types : List Bytes → Option Ty) (lengths : List ℕ) (bytes : Bytes) (names : List Bytes) (stat : Stat) (after : Bytes) : Type 0 where
  pub between : Bytes
  pub path : Some (names, between) ≡ counted_with text_at bytes
  pub kind : Some (stat, after) ≡ stat_at between

values_next : (types : List Bytes → Option Ty) (lengths : List ℕ) (bytes : Bytes) (names : List Bytes) (stat : Stat) (after : Bytes) → IsBegun types lengths bytes names stat after
    → scalars_with names stat (option_and_then (statistic_type stat) (types names)) (length lengths) after ≡ statistic_by types lengths bytes
unfolding kind_then
values_next types lengths bytes names stat after h = ap (kind_then types lengths names) h.kind ∙ kind_next types lengths bytes names h.between h.path

untyped : (names : List Bytes) (stat : Stat) (o : Option Ty) (k : ℕ) (bytes : Bytes) → None ≡ option_map nullable o → None ≡ scalars_with names stat o k bytes
unfolding scalars_with
untyped names stat None k bytes e = refl
untyped names stat (Some t) k bytes e = absurd cc

no_values : (names : List Bytes) (stat : Stat) (o : Option Ty) (t : Ty) (k : ℕ) (bytes : Bytes) → Some t ≡ option_map nullable o → None ≡ items_with (scalar_at t) k bytes
    → None ≡ scalars_with names stat o k bytes
unfolding scalars_with
no_values names stat None t k bytes e h = absurd cc
no_values names stat (Some u) t k bytes e h =
    ap (λ o. o >>= λ vs. Some (statistic_of names stat vs.0, vs.1)) (h ∙ ap (λ w. items_with (scalar_at w) k bytes) (same_Some t (nullable u) e))

all_values : (names : List Bytes) (stat : Stat) (o : Option Ty) (t : Ty) (k : ℕ) (bytes : Bytes) (vs : List Typed) (rest : Bytes) → Some t ≡ option_map nullable o
    → Some (vs, rest) ≡ items_with (scalar_at t) k bytes → Some (statistic_of names stat vs, rest) ≡ scalars_with names stat o k bytes
unfolding scalars_with
all_values names stat None t k bytes vs rest e h = absurd cc
all_values names stat (Some u) t k bytes vs rest e h =
    ap (λ o. o >>= λ ws. Some (statistic_of names stat ws.0, ws.1)) (h ∙ ap (λ w. items_with (scalar_at w) k bytes) (same_Some t (nullable u) e))

pub no_leaf : (types : List Bytes → Option Ty) (lengths : List ℕ) (bytes : Bytes) (names : List Bytes) (stat : Stat) (after : Bytes) → IsBegun types lengths bytes names stat after
    → None ≡ option_map nullable (option_and_then (statistic_type stat) (types names)) → None ≡ statistic_by types lengths bytes
no_leaf types lengths bytes names stat after h e =
    untyped names stat (option_and_then (statistic_type stat) (types names)) (length lengths) after e ∙ values_next types lengths bytes names stat after h

pub no_scalars : (types : List Bytes → Option Ty) (lengths : List ℕ) (bytes : Bytes) (names : List Bytes) (stat : Stat) (after : Bytes) (t : Ty) → IsBegun types lengths bytes names stat after
    → Some t ≡ option_map nullable (option_and_then (statistic_type stat) (types names)) → None ≡ items_with (scalar_at t) (length lengths) after
    → None ≡ statistic_by types lengths bytes
no_scalars types lengths bytes names stat after t h e none =
    no_values names stat (option_and_then (statistic_type stat) (types names)) t (length lengths) after e none ∙ values_next types lengths bytes names stat after h

pub statistic_whole : (types : List Bytes → Option Ty) (lengths : List ℕ) (bytes : Bytes) (names : List Bytes) (stat : Stat) (after : Bytes) (t : Ty) (vs : List Typed) (rest : Bytes)
    → IsBegun types lengths bytes names stat after → Some t ≡ option_map nullable (option_and_then (statistic_type stat) (types names))
    → Some (vs, rest) ≡ items_with (scalar_at t) (length lengths) after → Some (statistic_of names stat vs, rest) ≡ statistic_by types lengths bytes
statistic_whole types lengths bytes names stat after t vs rest h e all =
    all_values names stat (option_and_then (statistic_type stat) (types names)) t (length lengths) after vs rest e all ∙ values_next types lengths bytes names stat after h

-- ---- a header

ranges_then : Fields → List ℕ → List ZoneStat → Option (List (List ℕ) × Bytes) → Option (Header × Bytes)
ranges_then fs ns zs o = o >>= λ rs. Some (header_with fs ns zs rs.0, rs.1)

statistics_then : Fields → List ℕ → Option (List ZoneStat × Bytes) → Option (Header × Bytes)
statistics_then fs ns o = o >>= λ zs. ranges_then fs ns zs.0 (range_lengths_at (length ns) (length (field_names fs)) zs.1)

lengths_then : Fields → Option (List ℕ × Bytes) → Option (Header × Bytes)
lengths_then fs o = o >>= λ ns. statistics_then fs ns.0 (counted_with (statistic_at fs ns.0) ns.1)

columns_then : Option (Fields × Bytes) → Option (Header × Bytes)
columns_then o = o >>= λ c. lengths_then c.0 (lengths_at c.1)

columns_first : (bytes : Bytes) → columns_then (columns_at bytes) ≡ header_at bytes
unfolding header_at columns_then lengths_then statistics_then ranges_then
columns_first bytes = refl

pub no_columns : (bytes : Bytes) → None ≡ columns_at bytes → None ≡ header_at bytes
unfolding columns_then
no_columns bytes e = ap columns_then e ∙ columns_first bytes

lengths_next : (bytes : Bytes) (fs : Fields) (a : Bytes) → Some (fs, a) ≡ columns_at bytes → lengths_then fs (lengths_at a) ≡ header_at bytes
unfolding columns_then
lengths_next bytes fs a e = ap columns_then e ∙ columns_first bytes

pub no_lengths : (bytes : Bytes) (fs : Fields) (a : Bytes) → Some (fs, a) ≡ columns_at bytes → None ≡ lengths_at a → None ≡ header_at bytes
unfolding lengths_then
no_lengths bytes fs a e h = ap (lengths_then fs) h ∙ lengths_next bytes fs a e

statistics_next : (bytes : Bytes) (fs : Fields) (a : Bytes) (ns : List ℕ) (b : Bytes) → Some (fs, a) ≡ columns_at bytes → Some (ns, b) ≡ lengths_at a
    → statistics_then fs ns (counted_with (statistic_at fs ns) b) ≡ header_at bytes
unfolding lengths_then
statistics_next bytes fs a ns b e h = ap (lengths_then fs) h ∙ lengths_next bytes fs a e

pub no_statistics : (bytes : Bytes) (fs : Fields) (a : Bytes) (ns : List ℕ) (b : Bytes) → Some (fs, a) ≡ columns_at bytes → Some (ns, b) ≡ lengths_at a
    → None ≡ counted_with (statistic_at fs ns) b → None ≡ header_at bytes
unfolding statistics_then
no_statistics bytes fs a ns b e h none = ap (statistics_then fs ns) none ∙ statistics_next bytes fs a ns b e h

ranges_next : (bytes : Bytes) (fs : Fields) (a : Bytes) (ns : List ℕ) (b : Bytes) (zs : List ZoneStat) (c : Bytes) → Some (fs, a) ≡ columns_at bytes → Some (ns, b) ≡ lengths_at a
    → Some (zs, c) ≡ counted_with (statistic_at fs ns) b → ranges_then fs ns zs (range_lengths_at (length ns) (length (field_names fs)) c) ≡ header_at bytes
unfolding statistics_then
ranges_next bytes fs a ns b zs c e h k = ap (statistics_then fs ns) k ∙ statistics_next bytes fs a ns b e h

pub no_ranges : (bytes : Bytes) (fs : Fields) (a : Bytes) (ns : List ℕ) (b : Bytes) (zs : List ZoneStat) (c : Bytes) → Some (fs, a) ≡ columns_at bytes → Some (ns, b) ≡ lengths_at a
    → Some (zs, c) ≡ counted_with (statistic_at fs ns) b → None ≡ range_lengths_at (length ns) (length (field_names fs)) c → None ≡ header_at bytes
unfolding ranges_then
no_ranges bytes fs a ns b zs c e h k none = ap (ranges_then fs ns zs) none ∙ ranges_next bytes fs a ns b zs c e h k

pub header_there : (bytes : Bytes) (fs : Fields) (a : Bytes) (ns : List ℕ) (b : Bytes) (zs : List ZoneStat) (c : Bytes) (rs : List (List ℕ)) (d : Bytes) → Some (fs, a) ≡ columns_at bytes
    → Some (ns, b) ≡ lengths_at a → Some (zs, c) ≡ counted_with (statistic_at fs ns) b → Some (rs, d) ≡ range_lengths_at (length ns) (length (field_names fs)) c
    → Some (header_with fs ns zs rs, d) ≡ header_at bytes
unfolding ranges_then
header_there bytes fs a ns b zs c rs d e h k l = ap (ranges_then fs ns zs) l ∙ ranges_next bytes fs a ns b zs c e h k
