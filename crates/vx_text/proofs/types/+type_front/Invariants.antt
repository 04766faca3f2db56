use Rattle.std.proofs.Common.{◌+◌, ◌*◌}
use Rattle.vx_text.proofs.types.+type_front.Given as goal

abbrev pub decreases-type_at : goal.decreases-type_at
decreases-type_at l = 65536 * l.deep

abbrev pub decreases-base_front : goal.decreases-base_front
decreases-base_front l = 65536 * l.deep + 60000

abbrev pub decreases-word_base : goal.decreases-word_base
decreases-word_base l = 65536 * l.deep + 50000

abbrev pub decreases-list_front : goal.decreases-list_front
decreases-list_front l = 65536 * l.deep + 40000

abbrev pub decreases-struct_front : goal.decreases-struct_front
decreases-struct_front l = 65536 * l.deep + 40000

abbrev pub decreases-fields_front : goal.decreases-fields_front
decreases-fields_front l = 65536 * l.deep + 30000

abbrev pub decreases-more_fields : goal.decreases-more_fields
decreases-more_fields l = 65536 * l.deep + 20000 + l.more

abbrev pub decreases-field_front : goal.decreases-field_front
decreases-field_front l = 65536 * l.deep + 10000
