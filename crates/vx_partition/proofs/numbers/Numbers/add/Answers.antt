use Rattle.std.proofs.Common.{ap, ◌∙◌}
use Rattle.std.specs.List.{slice_get}
use Rattle.vx_partition.specs.Numbering.{exprs_of}
use Rattle.vx_partition.specs.declared.numbers.Numbered.{Numbered}
use Rattle.vx_partition.proofs.TableLemmas.{still_numbering, still_known, new_number}
use Rattle.vx_partition.proofs.numbers.Numbers.add.Goals as goal

pub returns : goal.returns
returns c =
    let nodes = c.args.self.now.nodes.entries in
    let v : Numbered = record { expr = c.args.expr; below = c.args.below } in
    let new = c.insert.new.self.entries in
    record {
      number =
          ap (slice_get (exprs_of new)) c.len-number.ensures.len
          ∙ new_number nodes c.requires.numbering c.args.key v c.requires.below c.requires.key c.requires.absent new c.in_ok-insert.ensures.entries;
      grown =
          record {
            numbering = still_numbering nodes c.requires.numbering c.args.key v c.requires.below c.requires.key c.requires.absent new c.in_ok-insert.ensures.entries;
            kept = still_known nodes c.requires.numbering c.args.key v c.requires.below c.requires.key c.requires.absent new c.in_ok-insert.ensures.entries;
          };
    }
