-- Statistics of a request that can't be read are refused by what they are of and by how many cells they have.
use Rattle.std.proofs.Common.{◌≡◌, refl, ap, sym, ◌∙◌, ℕ, suc, Bool, true, false, cond, not, ◌&&◌, List, [], ◌∷◌, map, length, Option, Some, None}
use Rattle.std.specs.Prelude.{◌==◌, is_some, Err}
use Rattle.std.specs.Option.{option_and_then}
use Rattle.std.specs.List.{list_all}
use Rattle.std.proofs.lemmas.Bool.{and_parts}
use Rattle.serde_json.specs.Data.{Items, no_items, item}
use Rattle.serde_json.specs.Events.{items_len}
use Rattle.vx_dtype.specs.declared.Stat.TheVariants.{NaNCount}
use Rattle.vx_dtype.specs.Types.{Bytes, Ty, Fields}
use Rattle.vx_dtype.specs.TypeRules.{no_name_twice}
use Rattle.vx_semantics.specs.Tables.{Zones, ZoneStat, row_type}
use Rattle.vx_zones.specs.declared.errors.ZoneError.{ZoneError}
use Rattle.vx_zones.specs.declared.errors.ZoneError.TheVariants as errors
use Rattle.vx_zones.specs.Heads.{Head, head_of, bare, head_rule, statistic_rule}
use Rattle.vx_zones.specs.LeafTypes.{nullable, type_by}
use Rattle.vx_zones.specs.ZoneAnswers.{MakesZones}
use Rattle.vx_zones.specs.Zoning.{are_shallow, leaf_type, statistic_type, has_its_type, distinct_statistics}
use Rattle.vx_zones.proofs.HeadLemmas.{refused_by_heads, refused_by_types}
use Rattle.vx_request.specs.RequestMembers.{StatText}
use Rattle.vx_request.specs.Cells.{cells_from}
use Rattle.vx_request.specs.Requests.{typed_stat, stat_of}
use Rattle.vx_request.specs.ReadStatistics.{text_head}

cells-counted : (t : Ty) (cells : Items) → items_len cells ≡ length (cells_from t cells)
cells-counted t no_items = refl
cells-counted t (item d ds) = ap suc (cells-counted t ds)

module _ (columns : Fields) where
  abbrev types : List Bytes → Option Ty
  types = leaf_type columns

  -- the type of a statistic, and whether there is one by its head
  abbrev own_type : StatText → Option Ty
  own_type s = option_and_then (statistic_type s.stat) (types s.path)

  abbrev leads : Head → Bool
  leads h = is_some (type_by types (bare h))

  no_count : (o : Option Ty) → option_and_then (statistic_type NaNCount) o ≡ None
  no_count None = refl
  no_count (Some t) = refl

  leads-by : (s : StatText) (o : Option Ty) → own_type s ≡ o → leads (text_head s) ≡ leads (head_of (typed_stat s o))
  leads-by s None e = ap is_some e ∙ sym (ap is_some (no_count (types [])))
  leads-by s (Some t) e = refl

  all-lead : (ss : List StatText) → list_all leads (map text_head ss) ≡ list_all leads (map head_of (map (stat_of columns) ss))
  all-lead [] = refl
  all-lead (s ∷ ss) = λ i. leads-by s (own_type s) refl i && all-lead ss i

  -- where the paths lead to plain fields the heads are those of the statistics
  head-by : (s : StatText) (o : Option Ty) → own_type s ≡ o → is_some o ≡ true → text_head s ≡ head_of (typed_stat s o)
  head-by s None e h = absurd cc
  head-by s (Some t) e h =
      let counted = cells-counted (nullable t) s.values in
      λ i. record { path = s.path; stat = s.stat; count = counted i }

  heads-by : (ss : List StatText) → list_all leads (map text_head ss) ≡ true → map text_head ss ≡ map head_of (map (stat_of columns) ss)
  heads-by [] h = refl
  heads-by (s ∷ ss) h =
      let parts = and_parts (leads (text_head s)) (list_all leads (map text_head ss)) h in
      let here = head-by s (own_type s) refl parts.0 in
      let rest = heads-by ss parts.1 in
      λ i. here i ∷ rest i

  -- the rules on paths, kinds and numbers of values, behind the first
  abbrev later : List ℕ → List Head → Option ZoneError
  later lengths hs =
      cond (not (distinct_statistics (map bare hs))) (Some errors.DuplicateStat) (cond (not (list_all (λ h. h.count == length lengths) hs)) (Some errors.WrongStatCount) None)

  by-leads : (lengths : List ℕ) (gs hs : List Head) (b : Bool) → list_all leads gs ≡ b → list_all leads hs ≡ b → (b ≡ true → gs ≡ hs)
      → statistic_rule types lengths gs ≡ statistic_rule types lengths hs
  by-leads lengths gs hs true g h same = ap (statistic_rule types lengths) (same refl)
  by-leads lengths gs hs false g h same =
      ap (λ (b : Bool). cond (not b) (Some errors.BadStatPath) (later lengths gs)) g ∙ sym (ap (λ (b : Bool). cond (not b) (Some errors.BadStatPath) (later lengths hs)) h)

  same-rule : (lengths : List ℕ) (ss : List StatText) → head_rule columns lengths (map text_head ss) ≡ head_rule columns lengths (map head_of (map (stat_of columns) ss))
  unfolding head_rule
  same-rule lengths ss =
      ap (λ (rule : Option ZoneError). cond (not (no_name_twice (row_type columns))) (Some errors.DuplicateName) (cond (not (are_shallow columns)) (Some errors.DeepType) rule))
      (by-leads lengths (map text_head ss) (map head_of (map (stat_of columns) ss)) (list_all leads (map text_head ss)) refl (sym (all-lead ss)) (heads-by ss))

  -- the zones of the statistics
  abbrev zones_by : List ℕ → List StatText → Zones
  zones_by lengths ss = record { columns = columns; lengths = lengths; stats = map (stat_of columns) ss }

  pub refused_so : (lengths : List ℕ) (ss : List StatText) (hs : List Head) (e : ZoneError) → hs ≡ map text_head ss → Some e ≡ head_rule columns lengths hs → MakesZones (zones_by lengths ss) (Err e)
  refused_so lengths ss hs e h rule = refused_by_heads (zones_by lengths ss) e (rule ∙ ap (head_rule columns lengths) h ∙ same-rule lengths ss)

  pub refused_by_cells : (lengths : List ℕ) (ss : List StatText) (hs : List Head) → hs ≡ map text_head ss → None ≡ head_rule columns lengths hs
      → list_all (has_its_type columns) (map (stat_of columns) ss) ≡ false → MakesZones (zones_by lengths ss) (Err errors.WrongStatType)
  refused_by_cells lengths ss hs h rule have = refused_by_types (zones_by lengths ss) (rule ∙ ap (head_rule columns lengths) h ∙ same-rule lengths ss) have
