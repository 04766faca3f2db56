-- Whether the statistics of a file are of the paths and kinds of those before it.
use Rattle.std.proofs.Common.{◌≡◌, refl, sym, ap, ◌∙◌, ℕ, ◌+◌, ◌≤◌, Bool, true, false, not, Decides, Some, List, [], ◌∷◌, ◌++◌, map, length, take, take_all, arith, slice_get}
use Rattle.std.proofs.lemmas.List.{length-map, map_push}
use Rattle.std.proofs.lemmas.Option.{same_Some}
use Rattle.vx_dtype.specs.Equal.{fields_eq, names_eq}
use Rattle.vx_dtype.specs.EqualLaws.{names_decides, fields_decides}
use Rattle.vx_dtype.specs.Types.{Bytes, Fields}
use Rattle.vx_semantics.specs.Tables.{ZoneStat, Zones}
use Rattle.vx_laws_stats.specs.BuiltLaws.{path_and_stat}
use Rattle.vx_folder.specs.FolderAnswers.{AreOfForm}
use Rattle.vx_folder.proofs.FetchLemmas.{get_mapped}
use Rattle.vx_folder.proofs.JoinLemmas.{Kind, kinds_of}
use Rattle.vx_folder.proofs.OpenLemmas.{taken_more}

-- what doesn't hold is decided
pub is_not : (P : Type 0) → ¬ P → Decides false P
is_not P fails = (λ e. let none : ⊥ = cc in absurd none, λ p. absurd (fails p))

module _ {X Y : Type 0} (v : X → ZoneStat) (w : Y → ZoneStat) (xs : List X) (ys : List Y) where
  -- statistics that aren't as many are of other kinds
  pub other_count : ¬ (length ys ≡ length xs) → ¬ (kinds_of (map v xs) ≡ kinds_of (map w ys))
  other_count fails all =
      fails (sym (length-map ys w) ∙ sym (length-map (map w ys) path_and_stat) ∙ ap length (sym all) ∙ length-map (map v xs) path_and_stat ∙ length-map xs v)

  -- and so are those of which two at one place are
  pub one_unlike : (i : ℕ) (x : X) (y : Y) → slice_get xs i ≡ Some x → slice_get ys i ≡ Some y → ¬ (path_and_stat (v x) ≡ path_and_stat (w y))
      → ¬ (kinds_of (map v xs) ≡ kinds_of (map w ys))
  one_unlike i x y a b fails all =
      let own = get_mapped path_and_stat (map v xs) i (v x) (get_mapped v xs i x a) in
      let other = get_mapped path_and_stat (map w ys) i (w y) (get_mapped w ys i y b) in
      fails (same_Some (path_and_stat (v x)) (path_and_stat (w y)) (sym own ∙ ap (λ ks. slice_get ks i) all ∙ other))

  pub one_more_alike : (i : ℕ) (x : X) (y : Y) → slice_get xs i ≡ Some x → slice_get ys i ≡ Some y → path_and_stat (v x) ≡ path_and_stat (w y)
      → kinds_of (map v (take i xs)) ≡ kinds_of (map w (take i ys)) → kinds_of (map v (take (i + 1) xs)) ≡ kinds_of (map w (take (i + 1) ys))
  one_more_alike i x y a b e h =
      ap kinds_of (taken_more v xs i x a) ∙ map_push path_and_stat (map v (take i xs)) (v x) ∙ (λ k. h k ++ e k ∷ [])
      ∙ sym (map_push path_and_stat (map w (take i ys)) (w y)) ∙ ap kinds_of (sym (taken_more w ys i y b))

  -- all are alike of which the first so many are, where there are no more
  pub all_alike : (i : ℕ) → length ys ≡ length xs → length xs ≤ i → kinds_of (map v (take i xs)) ≡ kinds_of (map w (take i ys))
      → kinds_of (map v xs) ≡ kinds_of (map w ys)
  all_alike i same past h =
      ap (λ (zs : List X). kinds_of (map v zs)) (sym (take_all i xs past)) ∙ h ∙ ap (λ (zs : List Y). kinds_of (map w zs)) (take_all i ys (omega (arith, same, past)))

-- zones of one form: the columns and the statistics
pub of_form : (form zones : Zones) (same : Bool) → zones.columns ≡ form.columns → Decides same (kinds_of zones.stats ≡ kinds_of form.stats) → Decides same (AreOfForm form zones)
of_form form zones same columns d = (λ e. record { columns = columns; stats = d.0 e }, λ f. d.1 f.stats)

pub other_columns : (form zones : Zones) → ¬ (zones.columns ≡ form.columns) → ¬ (AreOfForm form zones)
other_columns form zones fails f = fails f.columns

-- ---- tests

differ : {X : Type 0} (same : Bool) (a b : X) → Decides same (a ≡ b) → (r : Bool) → r ≡ not same → r ≡ true → ¬ (a ≡ b)
differ true a b d r is e f = let none : ⊥ = cc in none
differ false a b d r is e f = let none : ⊥ = cc (d.1 f) in none

agree : {X : Type 0} (same : Bool) (a b : X) → Decides same (a ≡ b) → (r : Bool) → r ≡ not same → r ≡ false → a ≡ b
agree true a b d r is e = d.0 refl
agree false a b d r is e = let none : ⊥ = cc in absurd none

-- paths that are found to differ, or to be the same
pub paths_differ : (path own : List Bytes) (r : Bool) → r ≡ not (names_eq path own) → r ≡ true → ¬ (path ≡ own)
paths_differ path own r is e = differ (names_eq path own) path own (names_decides path own) r is e

pub paths_agree : (path own : List Bytes) (r : Bool) → r ≡ not (names_eq path own) → r ≡ false → path ≡ own
paths_agree path own r is e = agree (names_eq path own) path own (names_decides path own) r is e

-- and columns
pub columns_differ : (columns own : Fields) (r : Bool) → r ≡ not (fields_eq columns own) → r ≡ true → ¬ (columns ≡ own)
columns_differ columns own r is e = differ (fields_eq columns own) columns own (fields_decides columns own) r is e

pub columns_agree : (columns own : Fields) (r : Bool) → r ≡ not (fields_eq columns own) → r ≡ false → columns ≡ own
columns_agree columns own r is e = agree (fields_eq columns own) columns own (fields_decides columns own) r is e

-- statistics of one path are alike where their kinds are the same
pub alike_by_kinds : (z own : ZoneStat) (same : Bool) → z.path ≡ own.path → Decides same (z.stat ≡ own.stat) → Decides same (path_and_stat z ≡ path_and_stat own)
alike_by_kinds z own same path d = (λ e. let kind = d.0 e in λ i. (path i, kind i), λ k. d.1 (ap (λ (kind : Kind). kind.1) k))

pub unlike_by_paths : (z own : ZoneStat) → ¬ (z.path ≡ own.path) → ¬ (path_and_stat z ≡ path_and_stat own)
unlike_by_paths z own fails k = fails (ap (λ (kind : Kind). kind.0) k)
