use Rattle.std.proofs.Common.{◌≡◌, ◌∙◌, sym, map}
use Rattle.vx_semantics.specs.Tables.{Zones}
use Rattle.vx_zones.specs.ZoneViews.{stat_view}
use Rattle.vx_zones.specs.declared.errors.ZoneError.TheVariants.{NoMemory, DuplicateName, DeepType, BadStatPath, DuplicateStat, WrongStatCount, WrongStatType}
use Rattle.vx_tables.specs.Blocks.{block_view}
use Rattle.vx_stats.proofs.TableLemmas.{as-built, unbroken, no-refusal, only-memory}
use Rattle.vx_stats.proofs.building.zones_with.Goals as goal

pub unreachable-requires : goal.unreachable-requires
unreachable-requires c =
    let fields = c.in_ok-fields.ensures.cases ∙ c.columns_of.ensures.columns in
    let lengths = c.in_ok-lengths.ensures.items ∙ c.lengths.ensures.lengths in
    let made : Zones = record { columns = c.in_ok-fields.fields; lengths = c.in_ok-lengths.lengths.items; stats = map stat_view c.args.stats.items } in
    let whole = unbroken c.args.zones.now (map block_view c.args.blocks.now) made.columns made.lengths made.stats c.requires.lengths c.columns_of.ensures.rules fields lengths c.requires.stats in
    let why = c.in-Err-DuplicateName in
    let no : NoMemory ≡ DuplicateName = sym (only-memory made why.field-0 why.ensures whole) ∙ why.field-0-is in
    cc

pub unreachable-requires-in-Err-DeepType : goal.unreachable-requires-in-Err-DeepType
unreachable-requires-in-Err-DeepType c =
    let fields = c.in_ok-fields.ensures.cases ∙ c.columns_of.ensures.columns in
    let lengths = c.in_ok-lengths.ensures.items ∙ c.lengths.ensures.lengths in
    let made : Zones = record { columns = c.in_ok-fields.fields; lengths = c.in_ok-lengths.lengths.items; stats = map stat_view c.args.stats.items } in
    let whole = unbroken c.args.zones.now (map block_view c.args.blocks.now) made.columns made.lengths made.stats c.requires.lengths c.columns_of.ensures.rules fields lengths c.requires.stats in
    let why = c.in-Err-DeepType in
    let no : NoMemory ≡ DeepType = sym (only-memory made why.field-0 why.ensures whole) ∙ why.field-0-is in
    cc

pub unreachable-requires-in-Err-BadStatPath : goal.unreachable-requires-in-Err-BadStatPath
unreachable-requires-in-Err-BadStatPath c =
    let fields = c.in_ok-fields.ensures.cases ∙ c.columns_of.ensures.columns in
    let lengths = c.in_ok-lengths.ensures.items ∙ c.lengths.ensures.lengths in
    let made : Zones = record { columns = c.in_ok-fields.fields; lengths = c.in_ok-lengths.lengths.items; stats = map stat_view c.args.stats.items } in
    let whole = unbroken c.args.zones.now (map block_view c.args.blocks.now) made.columns made.lengths made.stats c.requires.lengths c.columns_of.ensures.rules fields lengths c.requires.stats in
    let why = c.in-Err-BadStatPath in
    let no : NoMemory ≡ BadStatPath = sym (only-memory made why.field-0 why.ensures whole) ∙ why.field-0-is in
    cc

pub unreachable-requires-in-Err-DuplicateStat : goal.unreachable-requires-in-Err-DuplicateStat
unreachable-requires-in-Err-DuplicateStat c =
    let fields = c.in_ok-fields.ensures.cases ∙ c.columns_of.ensures.columns in
    let lengths = c.in_ok-lengths.ensures.items ∙ c.lengths.ensures.lengths in
    let made : Zones = record { columns = c.in_ok-fields.fields; lengths = c.in_ok-lengths.lengths.items; stats = map stat_view c.args.stats.items } in
    let whole = unbroken c.args.zones.now (map block_view c.args.blocks.now) made.columns made.lengths made.stats c.requires.lengths c.columns_of.ensures.rules fields lengths c.requires.stats in
    let why = c.in-Err-DuplicateStat in
    let no : NoMemory ≡ DuplicateStat = sym (only-memory made why.field-0 why.ensures whole) ∙ why.field-0-is in
    cc

pub unreachable-requires-in-Err-WrongStatCount : goal.unreachable-requires-in-Err-WrongStatCount
unreachable-requires-in-Err-WrongStatCount c =
    let fields = c.in_ok-fields.ensures.cases ∙ c.columns_of.ensures.columns in
    let lengths = c.in_ok-lengths.ensures.items ∙ c.lengths.ensures.lengths in
    let made : Zones = record { columns = c.in_ok-fields.fields; lengths = c.in_ok-lengths.lengths.items; stats = map stat_view c.args.stats.items } in
    let whole = unbroken c.args.zones.now (map block_view c.args.blocks.now) made.columns made.lengths made.stats c.requires.lengths c.columns_of.ensures.rules fields lengths c.requires.stats in
    let why = c.in-Err-WrongStatCount in
    let no : NoMemory ≡ WrongStatCount = sym (only-memory made why.field-0 why.ensures whole) ∙ why.field-0-is in
    cc

pub unreachable-requires-in-Err-WrongStatType : goal.unreachable-requires-in-Err-WrongStatType
unreachable-requires-in-Err-WrongStatType c =
    let fields = c.in_ok-fields.ensures.cases ∙ c.columns_of.ensures.columns in
    let lengths = c.in_ok-lengths.ensures.items ∙ c.lengths.ensures.lengths in
    let made : Zones = record { columns = c.in_ok-fields.fields; lengths = c.in_ok-lengths.lengths.items; stats = map stat_view c.args.stats.items } in
    let whole = unbroken c.args.zones.now (map block_view c.args.blocks.now) made.columns made.lengths made.stats c.requires.lengths c.columns_of.ensures.rules fields lengths c.requires.stats in
    let why = c.in-Err-WrongStatType in
    let no : NoMemory ≡ WrongStatType = sym (only-memory made why.field-0 why.ensures whole) ∙ why.field-0-is in
    cc

pub returns-in-Ok : goal.returns-in-Ok
returns-in-Ok c =
    let z = c.args.zones.now in
    let bs = map block_view c.args.blocks.now in
    let fields = c.in_ok-fields.ensures.cases ∙ c.columns_of.ensures.columns in
    let lengths = c.in_ok-lengths.ensures.items ∙ c.lengths.ensures.lengths in
    let same = as-built z bs c.in_ok-fields.fields c.in_ok-lengths.lengths.items (map stat_view c.args.stats.items) c.requires.lengths fields lengths c.requires.stats in
    (c.in-Ok.ensures.0 ∙ same, no-refusal z bs c.requires.lengths c.requires.types)
