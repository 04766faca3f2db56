-- What files hold as one: their statistics, block lengths and ranges stand one after another.
use Rattle.std.proofs.Common.{◌≡◌, refl, sym, ap, ◌∙◌, ℕ, zero, suc, ◌+◌, ◌<◌, List, [], ◌∷◌, ◌++◌, map, length, arith, slice_get}
use Rattle.std.proofs.lemmas.List.{append_assoc}
use Rattle.vx_dtype.specs.declared.Stat.{Stat}
use Rattle.vx_dtype.specs.Types.{Bytes}
use Rattle.vx_semantics.specs.Tables.{ZoneStat, Zones}
use Rattle.vx_laws_stats.specs.BuiltLaws.{path_and_stat}
use Rattle.vx_laws_file.specs.FileForms.{FileContent}
use Rattle.vx_laws_shell.specs.Folders.{stats_before, zones_before}
use Rattle.vx_laws_shell.specs.FolderContents.{content_before, contents_joined}

-- ---- one more file behind others

stats_joined : (zs os ps : List ZoneStat) → stats_before zs (stats_before os ps) ≡ stats_before (stats_before zs os) ps
stats_joined [] os ps = refl
stats_joined (z ∷ zs) [] ps = refl
stats_joined (z ∷ zs) (o ∷ os) [] = refl
stats_joined (z ∷ zs) (o ∷ os) (p ∷ ps) =
    let values = sym (append_assoc z.values o.values p.values) in
    let rest = stats_joined zs os ps in
    λ i. record { path = z.path; stat = z.stat; values = values i } ∷ rest i

zones_joined : (a b c : Zones) → zones_before a (zones_before b c) ≡ zones_before (zones_before a b) c
zones_joined a b c =
    let lengths = sym (append_assoc a.lengths b.lengths c.lengths) in
    let stats = stats_joined a.stats b.stats c.stats in
    λ i. record { columns = a.columns; lengths = lengths i; stats = stats i }

content_joined : (a b c : FileContent) → content_before a (content_before b c) ≡ content_before (content_before a b) c
content_joined a b c =
    let zones = zones_joined a.zones b.zones c.zones in
    let ranges = sym (append_assoc a.ranges b.ranges c.ranges) in
    λ i. record { zones = zones i; ranges = ranges i }

pub joined_more : (first next : FileContent) (contents : List FileContent) → contents_joined first (contents ++ next ∷ []) ≡ content_before (contents_joined first contents) next
joined_more first next [] = refl
joined_more first next (other ∷ contents) =
    ap (content_before first) (joined_more other next contents) ∙ content_joined first (contents_joined other contents) next

-- ---- their form

abbrev pub Kind : Type 0
Kind = List Bytes × Stat

abbrev pub kinds_of : List ZoneStat → List Kind
kinds_of zs = map path_and_stat zs

same_others : (x y : Kind) (xs ys : List Kind) → x ∷ xs ≡ y ∷ ys → xs ≡ ys
same_others x y xs ys e = cc

none_is_some : (x : Kind) (xs : List Kind) → ¬ ([] ≡ x ∷ xs)
none_is_some x xs e = cc

pub kinds_before : (zs ws : List ZoneStat) → kinds_of ws ≡ kinds_of zs → kinds_of (stats_before zs ws) ≡ kinds_of zs
kinds_before [] ws e = refl
kinds_before (z ∷ zs) [] e = absurd (none_is_some (path_and_stat z) (kinds_of zs) e)
kinds_before (z ∷ zs) (w ∷ ws) e =
    ap (λ (kinds : List Kind). path_and_stat z ∷ kinds) (kinds_before zs ws (same_others (path_and_stat w) (path_and_stat z) (kinds_of ws) (kinds_of zs) e))

-- ---- what stands at a place

module _ {X : Type 0} where
  pub get_front : (xs ys : List X) (i : ℕ) → i < length xs → slice_get (xs ++ ys) i ≡ slice_get xs i
  get_front [] ys i h = let no : ⊥ = omega (arith, h) in absurd no
  get_front (x ∷ xs) ys zero h = refl
  get_front (x ∷ xs) ys (suc i) h = get_front xs ys i (omega (arith, h))

  pub get_behind : (xs ys : List X) (i : ℕ) → slice_get (xs ++ ys) (length xs + i) ≡ slice_get ys i
  get_behind [] ys i = let none : 0 + i ≡ i = omega arith in ap (slice_get ys) none
  get_behind (x ∷ xs) ys i =
      let more : suc (length xs) + i ≡ suc (length xs + i) = omega arith in ap (slice_get (x ∷ xs ++ ys)) more ∙ get_behind xs ys i
