-- The laws of splits by columns.
use Rattle.vx_laws.proofs.Fitting.{fits-but_for_faults}
use Rattle.vx_laws_columns.proofs.ByColumn.{columns_recombine, partitions_stand_alone}
use Rattle.vx_laws_columns.proofs.NodesBreak.{nodes_break_as_asked, partition_nodes_stand_alone}
use Rattle.vx_laws_columns.proofs.PartSlots.{split_slots_fit}
use Rattle.vx_laws_columns.proofs.RootType.{root_is_typed}
use Rattle.vx_prepare.proofs.SplitLemmas.{Laws}

pub laws : Laws
laws =
    record {
      stand_alone = partitions_stand_alone;
      nodes_alone = partition_nodes_stand_alone;
      recombine = columns_recombine;
      root_typed = root_is_typed;
      nodes_break = nodes_break_as_asked;
      slots = split_slots_fit;
      fits = fits-but_for_faults;
    }
