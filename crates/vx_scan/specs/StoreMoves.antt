-- What calls make of a store in memory.
use Rattle.std.proofs.Common.{◌≡◌, refl, ◌∙◌}
use Rattle.vx_scan.specs.StoreViews.{StoreState}

-- no call changes the statistics of a store in memory, its columns, and which of its calls fail
pub record IsSameTable (before after : StoreState) : Type 0 where
  pub zones : after.zones ≡ before.zones
  pub blocks : after.blocks ≡ before.blocks
  pub listed : after.listed ≡ before.listed

pub same_table : (s : StoreState) → IsSameTable s s
same_table s = record { zones = refl; blocks = refl; listed = refl }

pub same_table_on : (a b c : StoreState) → IsSameTable a b → IsSameTable b c → IsSameTable a c
same_table_on a b c h k = record { zones = k.zones ∙ h.zones; blocks = k.blocks ∙ h.blocks; listed = k.listed ∙ h.listed }
