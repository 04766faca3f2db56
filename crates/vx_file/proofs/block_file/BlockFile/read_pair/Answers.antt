use Rattle.std.proofs.Common.{Option, Some, None, subst}
use Rattle.std.specs.Prelude.{IfSome}
use Rattle.vx_column.specs.Columns.{Column}
use Rattle.vx_scan.specs.StoreViews.{entry_view}
use Rattle.vx_file_open.specs.Layouts.{content_at, WhereBytes}
use Rattle.vx_file_open.specs.ColumnAnswers.{IsColumnIn, IsRangeRead}
use Rattle.vx_file.proofs.ReadLemmas.{same_count, sound_entry, spoilt_entry, ends_in_column, ends_in_damage}
use Rattle.vx_file.proofs.block_file.BlockFile.read_pair.Goals as goal

pub log_read-requires : goal.log_read-requires
log_read-requires g c =
    let s = c.args.self.now in
    let same = same_count s c.fetch.new.self c.fetch.ensures.only c.in-Ok-Some.ensures.quiet in
    let range : WhereBytes s.bytes (λ bytes. IsRangeRead (content_at s.header bytes) c.args.block c.args.name.now (Some c.in-Ok-Some.column)) =
    subst (λ (o : Option Column). WhereBytes s.bytes (λ bytes. IsRangeRead (content_at s.header bytes) c.args.block c.args.name.now o)) c.in-Ok-Some.field-0-is c.in-Ok-Some.ensures.range in
    sound_entry s c.fetch.new.self (entry_view c.in_ok-read.read) c.args.block c.args.name.now c.in-Ok-Some.column c.in_ok-read.ensures same c.fetch.ensures.file range

pub fail_by_damage-requires : goal.fail_by_damage-requires
fail_by_damage-requires g c =
    let s = c.args.self.now in
    let same = same_count s c.fetch.new.self c.fetch.ensures.only c.in-Ok-None.ensures.quiet in
    let range : WhereBytes s.bytes (λ bytes. IsRangeRead (content_at s.header bytes) c.args.block c.args.name.now None) =
    subst (λ (o : Option Column). WhereBytes s.bytes (λ bytes. IsRangeRead (content_at s.header bytes) c.args.block c.args.name.now o)) c.in-Ok-None.field-0-is c.in-Ok-None.ensures.range in
    spoilt_entry s c.fetch.new.self (entry_view c.in_ok-read.read) c.args.block c.args.name.now c.in_ok-read.ensures same range

pub returns-in-Ok-Some : goal.returns-in-Ok-Some
returns-in-Ok-Some g c =
    let s = c.args.self.now in
    let same = same_count s c.fetch.new.self c.fetch.ensures.only c.in-Ok-Some.ensures.quiet in
    let range : WhereBytes s.bytes (λ bytes. IsRangeRead (content_at s.header bytes) c.args.block c.args.name.now (Some c.in-Ok-Some.column)) =
    subst (λ (o : Option Column). WhereBytes s.bytes (λ bytes. IsRangeRead (content_at s.header bytes) c.args.block c.args.name.now o)) c.in-Ok-Some.field-0-is c.in-Ok-Some.ensures.range in
    let here : IsColumnIn s.header.zones c.args.block c.args.name.now c.in-Ok-Some.column =
    subst (λ (o : Option Column). IfSome o (IsColumnIn s.header.zones c.args.block c.args.name.now)) c.in-Ok-Some.field-0-is c.in-Ok-Some.ensures.column in
    ends_in_column s c.fetch.new.self c.log_read.new.self (entry_view c.in_ok-read.read) c.args.block c.args.name.now c.in-Ok-Some.column c.log_read.result
    c.in_ok-read.ensures same c.fetch.ensures.file here range c.log_read.ensures

pub returns-in-Ok-None : goal.returns-in-Ok-None
returns-in-Ok-None g c =
    let s = c.args.self.now in
    let same = same_count s c.fetch.new.self c.fetch.ensures.only c.in-Ok-None.ensures.quiet in
    let range : WhereBytes s.bytes (λ bytes. IsRangeRead (content_at s.header bytes) c.args.block c.args.name.now None) =
    subst (λ (o : Option Column). WhereBytes s.bytes (λ bytes. IsRangeRead (content_at s.header bytes) c.args.block c.args.name.now o)) c.in-Ok-None.field-0-is c.in-Ok-None.ensures.range in
    ends_in_damage s c.fetch.new.self c.fail_by_damage.new.self (entry_view c.in_ok-read.read) c.args.block c.args.name.now c.fail_by_damage.result
    c.in_ok-read.ensures same range c.fail_by_damage.ensures
