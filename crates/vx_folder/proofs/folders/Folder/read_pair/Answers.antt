use Rattle.std.proofs.Common.{Option, Some, None, sym, subst, ◌≤◌}
use Rattle.std.specs.Prelude.{IfSome, Result}
use Rattle.vx_column.specs.Columns.{Column}
use Rattle.vx_column.specs.declared.columns.ColumnRef.{ColumnRef}
use Rattle.vx_io.specs.Counts.{one_more}
use Rattle.vx_scan.specs.declared.errors.StoreError.{StoreError}
use Rattle.vx_scan.specs.StoreViews.{entry_view}
use Rattle.vx_file_open.specs.ColumnAnswers.{IsColumnIn, IsRangeRead}
use Rattle.vx_folder.specs.FolderStates.{FolderState, WhereHeld, IsReadOf}
use Rattle.vx_folder.proofs.ReadLemmas.{sound_entry, spoilt_entry, ends_in_column, ends_in_damage, ends_in_fault}
use Rattle.vx_folder.proofs.folders.Folder.read_pair.Goals as goal

pub log_read-requires : goal.log_read-requires
log_read-requires g c =
    let s = c.args.self.now in
    let range : WhereHeld s.content (λ content. IsRangeRead content c.args.block c.args.name.now (Some c.in-Ok-Some.column)) =
    subst (λ (o : Option Column). WhereHeld s.content (λ content. IsRangeRead content c.args.block c.args.name.now o)) c.in-Ok-Some.field-0-is c.in-Ok-Some.ensures.range in
    sound_entry s c.find.new.self (entry_view c.in_ok-read.read) c.args.block c.args.name.now c.in-Ok-Some.column c.in_ok-read.ensures c.find.ensures.same c.find.ensures.kept range

pub fail_by_damage-requires : goal.fail_by_damage-requires
fail_by_damage-requires g c =
    let s = c.args.self.now in
    let range : WhereHeld s.content (λ content. IsRangeRead content c.args.block c.args.name.now None) =
    subst (λ (o : Option Column). WhereHeld s.content (λ content. IsRangeRead content c.args.block c.args.name.now o)) c.in-Ok-None.field-0-is c.in-Ok-None.ensures.range in
    spoilt_entry s c.find.new.self (entry_view c.in_ok-read.read) c.args.block c.args.name.now c.in_ok-read.ensures c.find.ensures.same range

pub returns-in-Ok-Some : goal.returns-in-Ok-Some
returns-in-Ok-Some g c =
    let s = c.args.self.now in
    let range : WhereHeld s.content (λ content. IsRangeRead content c.args.block c.args.name.now (Some c.in-Ok-Some.column)) =
    subst (λ (o : Option Column). WhereHeld s.content (λ content. IsRangeRead content c.args.block c.args.name.now o)) c.in-Ok-Some.field-0-is c.in-Ok-Some.ensures.range in
    let here : IsColumnIn s.zones c.args.block c.args.name.now c.in-Ok-Some.column =
    subst (λ (o : Option Column). IfSome o (IsColumnIn s.zones c.args.block c.args.name.now)) c.in-Ok-Some.field-0-is c.in-Ok-Some.ensures.column in
    ends_in_column s c.find.new.self c.log_read.new.self (entry_view c.in_ok-read.read) c.args.block c.args.name.now c.in-Ok-Some.column c.log_read.result
    c.in_ok-read.ensures c.find.ensures.same c.find.ensures.kept here range c.log_read.ensures

pub returns-in-Ok-None : goal.returns-in-Ok-None
returns-in-Ok-None g c =
    let s = c.args.self.now in
    let range : WhereHeld s.content (λ content. IsRangeRead content c.args.block c.args.name.now None) =
    subst (λ (o : Option Column). WhereHeld s.content (λ content. IsRangeRead content c.args.block c.args.name.now o)) c.in-Ok-None.field-0-is c.in-Ok-None.ensures.range in
    ends_in_damage s c.find.new.self c.fail_by_damage.new.self (entry_view c.in_ok-read.read) c.args.block c.args.name.now c.fail_by_damage.result
    c.in_ok-read.ensures c.find.ensures.same range c.fail_by_damage.ensures

pub returns-in-Err-ReadFault : goal.returns-in-Err-ReadFault
returns-in-Err-ReadFault g c =
    let s = c.args.self.now in
    let f = c.find.new.self in
    let t = c.fail_by_fault.new.self in
    let same = c.find.ensures.same in
    let left = c.fail_by_fault.ensures.left in
    let rises : s.count ≤ one_more s.count =
    subst (λ (u : FolderState). u.count ≤ one_more u.count) same (subst (λ (v : FolderState). f.count ≤ v.count) left c.fail_by_fault.ensures.later) in
    subst (λ (answer : Result ColumnRef StoreError). IsReadOf s t c.args.block c.args.name.now answer) (sym c.fail_by_fault.ensures.failed)
    (ends_in_fault s f t (entry_view c.in_ok-read.read) c.args.block c.args.name.now rises c.in_ok-read.ensures same left)
