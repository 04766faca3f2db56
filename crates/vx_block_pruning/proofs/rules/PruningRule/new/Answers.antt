use Rattle.std.proofs.Common.{◌∙◌}
use Rattle.std.specs.BTreeMap.{get}
use Rattle.std.specs.Cmp.Lexicographic.{slice_cmp}
use Rattle.std.specs.Ordering.{nat_cmp}
use Rattle.vx_block_pruning.proofs.AvailableLemmas.{available-told}
use Rattle.vx_block_pruning.proofs.rules.PruningRule.new.Goals as goal

pub returns : goal.returns
returns c =
    let e = c.statistics.ensures in
    record {
      accepted = record { lawful = e.rules; fitting = e.fit };
      ty = c.requires.typed.0;
      typed = c.requires.typed.1;
      pruning = c.in_ok-pruning.ensures;
      available =
          available-told c.args.zones.now c.statistics.result.now c.as_slice-all.result.now (get (slice_cmp nat_cmp) c.in_ok-noted.noted) e.stats (c.as_slice-all.ensures.value ∙ c.in_ok-joined.ensures)
          c.in_ok-noted.ensures c.in_ok-available.available.items c.in_ok-names.names c.in_ok-available.ensures (c.in_ok-names.ensures ∙ c.in_ok-alone_names.ensures);
    }
