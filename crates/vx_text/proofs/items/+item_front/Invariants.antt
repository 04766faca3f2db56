use Rattle.std.proofs.Common.{◌+◌, ◌*◌}
use Rattle.vx_text.proofs.items.+item_front.Given as goal

abbrev pub decreases-item_at : goal.decreases-item_at
decreases-item_at l = 65536 * l.deep

abbrev pub decreases-item_within : goal.decreases-item_within
decreases-item_within l = 65536 * l.deep + 62000

abbrev pub decreases-sign_item : goal.decreases-sign_item
decreases-sign_item l = 65536 * l.deep + 60000

abbrev pub decreases-items_front : goal.decreases-items_front
decreases-items_front l = 65536 * l.deep + 40000

abbrev pub decreases-more_items : goal.decreases-more_items
decreases-more_items l = 65536 * l.deep + 20000 + l.more
