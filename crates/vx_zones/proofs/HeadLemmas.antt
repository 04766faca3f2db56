-- The first rule that columns, lengths and statistics break, by the statistics' heads and by the types of their values.
use Rattle.std.proofs.Common.{◌≡◌, refl, ap, sym, ◌∙◌, ℕ, Bool, true, false, cond, not, ◌&&◌, ◌||◌, List, [], ◌∷◌, map, length, Option, Some, None}
use Rattle.std.specs.Prelude.{◌==◌, is_some, Err}
use Rattle.std.specs.List.{list_all, list_any}
use Rattle.vx_dtype.specs.declared.Stat.{Stat}
use Rattle.vx_dtype.specs.Types.{Bytes, Ty}
use Rattle.vx_dtype.specs.TypeRules.{no_name_twice}
use Rattle.vx_semantics.specs.Tables.{ZoneStat, Zones, row_type}
use Rattle.vx_semantics.specs.Pruning.{is_statistic}
use Rattle.vx_zones.specs.declared.errors.ZoneError.{ZoneError}
use Rattle.vx_zones.specs.declared.errors.ZoneError.TheVariants as errors
use Rattle.vx_zones.specs.Heads.{head_of, bare, head_rule}
use Rattle.vx_zones.specs.LeafTypes.{type_by}
use Rattle.vx_zones.specs.ZoneAnswers.{MakesZones}
use Rattle.vx_zones.specs.Zoning.{are_shallow, leaf_type, type_of_statistic, distinct_statistics, counts_blocks, has_its_type, broken_rule}

leads_by_heads : (types : List Bytes → Option Ty) (zs : List ZoneStat) → list_all (λ h. is_some (type_by types (bare h))) (map head_of zs) ≡ list_all (λ z. is_some (type_by types z)) zs
leads_by_heads types [] = refl
leads_by_heads types (z ∷ zs) = ap (λ (b : Bool). is_some (type_by types z) && b) (leads_by_heads types zs)

counts_by_heads : (lengths : List ℕ) (zs : List ZoneStat) → list_all (λ h. h.count == length lengths) (map head_of zs) ≡ list_all (counts_blocks lengths) zs
counts_by_heads lengths [] = refl
counts_by_heads lengths (z ∷ zs) = ap (λ (b : Bool). (length z.values == length lengths) && b) (counts_by_heads lengths zs)

any_by_heads : (path : List Bytes) (stat : Stat) (zs : List ZoneStat) → list_any (is_statistic path stat) (map bare (map head_of zs)) ≡ list_any (is_statistic path stat) zs
any_by_heads path stat [] = refl
any_by_heads path stat (z ∷ zs) = ap (λ (b : Bool). is_statistic path stat z || b) (any_by_heads path stat zs)

distinct_by_heads : (zs : List ZoneStat) → distinct_statistics (map bare (map head_of zs)) ≡ distinct_statistics zs
distinct_by_heads [] = refl
distinct_by_heads (z ∷ zs) = λ i. not (any_by_heads z.path z.stat zs i) && distinct_by_heads zs i

-- the rules in their order, with and without the last
abbrev five : Bool → Bool → Bool → Bool → Bool → Option ZoneError
five n s p d c =
    cond (not n) (Some errors.DuplicateName)
    (cond (not s) (Some errors.DeepType) (cond (not p) (Some errors.BadStatPath) (cond (not d) (Some errors.DuplicateStat) (cond (not c) (Some errors.WrongStatCount) None))))

abbrev six : Bool → Bool → Bool → Bool → Bool → Bool → Option ZoneError
six n s p d c t =
    cond (not n) (Some errors.DuplicateName)
    (cond (not s) (Some errors.DeepType)
    (cond (not p) (Some errors.BadStatPath)
    (cond (not d) (Some errors.DuplicateStat) (cond (not c) (Some errors.WrongStatCount) (cond (not t) (Some errors.WrongStatType) None)))))

last-rule : (n s p d c t : Bool) → five n s p d c ≡ None → six n s p d c t ≡ cond (not t) (Some errors.WrongStatType) None
last-rule false s p d c t h = absurd cc
last-rule true false p d c t h = absurd cc
last-rule true true false d c t h = absurd cc
last-rule true true true false c t h = absurd cc
last-rule true true true true false t h = absurd cc
last-rule true true true true true t h = refl

earlier-rule : (n s p d c t : Bool) (e : ZoneError) → five n s p d c ≡ Some e → six n s p d c t ≡ Some e
earlier-rule false s p d c t e h = h
earlier-rule true false p d c t e h = h
earlier-rule true true false d c t e h = h
earlier-rule true true true false c t e h = h
earlier-rule true true true true false t e h = h
earlier-rule true true true true true t e h = absurd cc

module _ (z : Zones) where
  -- the tests of the statistics
  abbrev leads : Bool
  leads = list_all (λ s. is_some (type_of_statistic z.columns s)) z.stats

  abbrev counts : Bool
  counts = list_all (counts_blocks z.lengths) z.stats

  abbrev have : Bool
  have = list_all (has_its_type z.columns) z.stats

  by-heads : head_rule z.columns z.lengths (map head_of z.stats) ≡ five (no_name_twice (row_type z.columns)) (are_shallow z.columns) leads (distinct_statistics z.stats) counts
  unfolding head_rule
  by-heads =
      λ i. five (no_name_twice (row_type z.columns)) (are_shallow z.columns) (leads_by_heads (leaf_type z.columns) z.stats i) (distinct_by_heads z.stats i) (counts_by_heads z.lengths z.stats i)

  -- where no rule on the heads is broken, the types of the values decide
  pub types_decide : head_rule z.columns z.lengths (map head_of z.stats) ≡ None → broken_rule z ≡ cond (not have) (Some errors.WrongStatType) None
  unfolding broken_rule
  types_decide h = last-rule (no_name_twice (row_type z.columns)) (are_shallow z.columns) leads (distinct_statistics z.stats) counts have (sym by-heads ∙ h)

  heads_decide : (e : ZoneError) → head_rule z.columns z.lengths (map head_of z.stats) ≡ Some e → broken_rule z ≡ Some e
  unfolding broken_rule
  heads_decide e h = earlier-rule (no_name_twice (row_type z.columns)) (are_shallow z.columns) leads (distinct_statistics z.stats) counts have e (sym by-heads ∙ h)

  -- the first rule on the heads that is broken is the refusal
  pub refused_by_heads : (e : ZoneError) → Some e ≡ head_rule z.columns z.lengths (map head_of z.stats) → MakesZones z (Err e)
  refused_by_heads errors.NoMemory h = tt
  refused_by_heads errors.DuplicateName h = heads_decide errors.DuplicateName (sym h)
  refused_by_heads errors.DeepType h = heads_decide errors.DeepType (sym h)
  refused_by_heads errors.BadStatPath h = heads_decide errors.BadStatPath (sym h)
  refused_by_heads errors.DuplicateStat h = heads_decide errors.DuplicateStat (sym h)
  refused_by_heads errors.WrongStatCount h = heads_decide errors.WrongStatCount (sym h)
  refused_by_heads errors.WrongStatType h = heads_decide errors.WrongStatType (sym h)

  -- and where none is, that on the types of the values
  pub refused_by_types : None ≡ head_rule z.columns z.lengths (map head_of z.stats) → have ≡ false → broken_rule z ≡ Some errors.WrongStatType
  refused_by_types h k = types_decide (sym h) ∙ ap (λ (b : Bool). cond (not b) (Some errors.WrongStatType) None) k

  pub no_rule_broken : None ≡ head_rule z.columns z.lengths (map head_of z.stats) → have ≡ true → broken_rule z ≡ None
  no_rule_broken h k = types_decide (sym h) ∙ ap (λ (b : Bool). cond (not b) (Some errors.WrongStatType) None) k
