-- What the catalogs of this crate hold.
use Rattle.std.specs.Prelude.{List}
use Rattle.vx_dtype.specs.Types.{Bytes}
use Rattle.vx_passes.specs.Falsifying.{Question}
use Rattle.vx_prune.specs.declared.catalogs.TrackingStatsCatalog.{TrackingStatsCatalog}
use Rattle.vx_prune.specs.declared.catalogs.ScopeStatsCatalog.{ScopeStatsCatalog}

-- what was asked of the catalog that answers every statistic
abbrev pub tracked_questions : TrackingStatsCatalog → List Question
tracked_questions c = c.asked.items

-- the available statistics as paths, and what was asked of their catalog
abbrev pub available_members : ScopeStatsCatalog → List (List Bytes)
available_members c = c.available

abbrev pub scope_questions : ScopeStatsCatalog → List Question
scope_questions c = c.asked.items
