-- Heads as statistics without values, one view after the other.
use Rattle.std.proofs.Common.{◌≡◌, refl, ap, List, [], ◌∷◌, map}
use Rattle.vx_semantics.specs.Tables.{ZoneStat}
use Rattle.vx_zones.specs.declared.heads.StatHead.{StatHead}
use Rattle.vx_zones.specs.Heads.{bare}
use Rattle.vx_zones.specs.ZoneViews.{bare_view, head_view}

pub bare_views : (hs : List StatHead) → map bare (map head_view hs) ≡ map bare_view hs
bare_views [] = refl
bare_views (h ∷ hs) = ap (λ (zs : List ZoneStat). bare_view h ∷ zs) (bare_views hs)
