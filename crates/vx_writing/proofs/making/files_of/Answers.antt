use Rattle.std.proofs.Common.{◌≤◌, length, arith}
use Rattle.vx_writing.proofs.PartFiles.{all_files, file_here, no_file_here, none_before, one_more_file, whole_here}
use Rattle.vx_writing.proofs.making.files_of.Goals as goal

pub loop-table-init : goal.loop-table-init
loop-table-init c = (none_before c.args.tables.now c.new-files.result.items c.new-files.ensures.items, c.requires, λ all. all)

pub file_of-requires : goal.file_of-requires
file_of-requires c =
    (whole_here c.args.tables.now c.loop-table.table-index c.table-item.result c.loop-table-test.true c.table-item.is c.loop-table.invariant.1).0

pub loop-table-preserved : goal.loop-table-preserved
loop-table-preserved c =
    let tables = c.args.tables.now in
    let i = c.loop-table.table-index in
    let table = c.table-item.result in
    let within = c.loop-table-test.true in
    let is = c.table-item.is in (
      one_more_file tables i table c.loop-table.files.items c.push.new.self.items c.in-Ok.bytes within is c.in-Ok.ensures c.in_ok-push-in-Ok.ensures.items c.loop-table.invariant.0,
      (whole_here tables i table within is c.loop-table.invariant.1).1,
      λ all. (file_here tables i table within is (c.loop-table.invariant.2 all)).1,
    )

pub returns-in-Err : goal.returns-in-Err
returns-in-Err c =
    no_file_here c.args.tables.now c.loop-table.table-index c.table-item.result c.in-Err.refusal c.loop-table-test.true c.table-item.is c.loop-table.invariant.2 c.in-Err.ensures

pub returns : goal.returns
returns c =
    let all : length c.args.tables.now ≤ c.loop-table.table-index = omega (arith, c.loop-table-test.false) in
    all_files c.args.tables.now c.loop-table.table-index c.loop-table.files.items all c.loop-table.invariant.0
