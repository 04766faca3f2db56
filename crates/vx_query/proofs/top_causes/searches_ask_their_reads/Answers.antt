use Rattle.vx_query.proofs.TopReadLemmas.{searches_ask}
use Rattle.vx_query.proofs.top_causes.searches_ask_their_reads.Goals as goal

pub returns : goal.returns
returns c =
    searches_ask c.kept_numbers_are_kept_blocks.ensures c.slotless_is_the_same_with_any_slots.ensures.rules_out
    c.bounded_filter_is_a_filter.ensures.rules_out
