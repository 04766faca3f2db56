use Rattle.std.proofs.Common.{map, subst, sym, List}
use Rattle.vx_request.specs.RequestViews.{told_view}
use Rattle.vx_request.specs.declared.tables.ToldTable.{ToldTable}
use Rattle.vx_writing.specs.Making.{AreTables, MakesFiles}
use Rattle.vx_writing.proofs.PartFiles.{parts_filed, unparted}
use Rattle.vx_writing.proofs.making.files_of_table.Goals as goal

pub files_of-requires : goal.files_of-requires
files_of-requires c = subst (λ (tables : List ToldTable). AreTables (map told_view tables)) (sym c.as_slice.ensures.value) c.in-Ok.ensures.whole

pub returns-in-Ok : goal.returns-in-Ok
returns-in-Ok c =
    let made = subst (λ (tables : List ToldTable). MakesFiles (map told_view tables) c.files_of.result) c.as_slice.ensures.value c.files_of.ensures in
    parts_filed c.args.most c.args.rows (told_view c.args.told) (map told_view c.in-Ok.tables.items) c.files_of.result c.in-Ok.ensures made

pub returns-in-Err : goal.returns-in-Err
returns-in-Err c = unparted c.args.most c.args.rows (told_view c.args.told) c.in-Err.refusal c.in-Err.ensures
