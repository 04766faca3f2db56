use Rattle.std.proofs.Common.{◌∙◌, sym, ap, subst, ◌<◌, ◌≤◌, ◌^◌, List, String, Global, length, map, arith}
use Rattle.std.proofs.lemmas.List.{length-map}
use Rattle.std.specs.String.{string_bytes}
use Rattle.vx_semantics.specs.Tables.{Zones}
use Rattle.vx_laws_shell.specs.Paths.{WhereEachKept}
use Rattle.vx_laws_shell.specs.FolderContents.{kept_in}
use Rattle.vx_folder.specs.FolderAnswers.{AreGathered, gathered_zones}
use Rattle.vx_folder.specs.PathViews.{kept_by}
use Rattle.vx_folder.proofs.OpenLemmas.{gathered_as, table_places, too_many_are}
use Rattle.vx_folder.proofs.opening.table_of.Goals as goal

pub returns-then-len-ge-MOST_BLOCKS-clause-refused : goal.returns-then-len-ge-MOST_BLOCKS-clause-refused
returns-then-len-ge-MOST_BLOCKS-clause-refused g c =
    let kept = kept_by (g.F.Files.kept c.args.files.now) in
    let made = c.in_ok-gathered.gathered in
    let zones = gathered_zones made in
    let many : 2 ^ 32 ≤ length made.lengths.items = omega (arith, c.if-len-ge-MOST_BLOCKS.true, c.len.ensures, made.lengths.ok.0) in
    too_many_are kept c.args.path.now (map string_bytes c.args.names.items) zones made.begins.items many
    (subst (λ (ns : List (String Global)). WhereEachKept (kept_in kept c.args.path.now (map string_bytes ns)) (AreGathered zones made.begins.items))
    c.as_slice.ensures.value c.in_ok-gathered.ensures.gathered)

pub returns-clause-gathered : goal.returns-clause-gathered
returns-clause-gathered g c =
    let kept = kept_by (g.F.Files.kept c.args.files.now) in
    let path = c.args.path.now in
    let made = c.in_ok-gathered.gathered in
    gathered_as (kept_in kept path (map string_bytes c.args.names.items)) (gathered_zones made) c.in_ok-zones.zones made.begins.items c.in_ok-zones.begins.items
    c.in_ok-zones.ensures.zones c.in_ok-zones.ensures.begins
    (subst (λ (ns : List (String Global)). WhereEachKept (kept_in kept path (map string_bytes ns)) (AreGathered (gathered_zones made) made.begins.items))
    c.as_slice.ensures.value c.in_ok-gathered.ensures.gathered)

pub returns-clause-places : goal.returns-clause-places
returns-clause-places g c =
    let made = c.in_ok-gathered.gathered in
    let names = c.args.names.items in
    table_places made (length c.as_slice.result.now)
    (record { names = map string_bytes names; begins = c.in_ok-zones.begins.items; zones = c.in_ok-zones.zones })
    c.in_ok-gathered.ensures.lawful c.in_ok-zones.ensures.zones c.in_ok-zones.ensures.begins
    (length-map names string_bytes ∙ sym (ap length c.as_slice.ensures.value))

pub returns-clause-few : goal.returns-clause-few
returns-clause-few g c =
    let made = c.in_ok-gathered.gathered in
    omega (arith, c.if-len-ge-MOST_BLOCKS.false, c.len.ensures, made.lengths.ok.0, ap (λ (z : Zones). length z.lengths) c.in_ok-zones.ensures.zones)
