use Rattle.std.proofs.Common.{◌≡◌, ◌∙◌, sym, ap, map, None}
use Rattle.vx_semantics.specs.Tables.{Zones}
use Rattle.vx_zones.specs.Zoning.{broken_rule}
use Rattle.vx_zones.specs.ZoneViews.{stat_view}
use Rattle.vx_zones.specs.declared.errors.ZoneError.TheVariants as errors
use Rattle.vx_cutting.proofs.BareLemmas.{bare_unbroken, only_memory}
use Rattle.vx_cutting.proofs.cutting.bare_zones.Goals as goal

pub unreachable-requires : goal.unreachable-requires
unreachable-requires c =
    let why = c.in-Err-DuplicateName in
    let fields = c.in_ok-fields.ensures.cases ∙ c.columns_of.ensures.columns in
    let lengths = c.args.lengths.items in
    let made : Zones = record { columns = c.in_ok-fields.fields; lengths = lengths; stats = map stat_view c.new.result.items } in
    let whole : broken_rule made ≡ None =
    ap broken_rule (λ i. record { columns = fields i; lengths = lengths; stats = map stat_view (c.new.ensures.items i) }) ∙ bare_unbroken c.args.zones.now lengths c.columns_of.ensures.rules in
    let no : errors.NoMemory ≡ errors.DuplicateName = sym (only_memory made why.field-0 why.ensures whole) ∙ why.field-0-is in
    cc

pub unreachable-requires-in-Err-DeepType : goal.unreachable-requires-in-Err-DeepType
unreachable-requires-in-Err-DeepType c =
    let why = c.in-Err-DeepType in
    let fields = c.in_ok-fields.ensures.cases ∙ c.columns_of.ensures.columns in
    let lengths = c.args.lengths.items in
    let made : Zones = record { columns = c.in_ok-fields.fields; lengths = lengths; stats = map stat_view c.new.result.items } in
    let whole : broken_rule made ≡ None =
    ap broken_rule (λ i. record { columns = fields i; lengths = lengths; stats = map stat_view (c.new.ensures.items i) }) ∙ bare_unbroken c.args.zones.now lengths c.columns_of.ensures.rules in
    let no : errors.NoMemory ≡ errors.DeepType = sym (only_memory made why.field-0 why.ensures whole) ∙ why.field-0-is in
    cc

pub unreachable-requires-in-Err-BadStatPath : goal.unreachable-requires-in-Err-BadStatPath
unreachable-requires-in-Err-BadStatPath c =
    let why = c.in-Err-BadStatPath in
    let fields = c.in_ok-fields.ensures.cases ∙ c.columns_of.ensures.columns in
    let lengths = c.args.lengths.items in
    let made : Zones = record { columns = c.in_ok-fields.fields; lengths = lengths; stats = map stat_view c.new.result.items } in
    let whole : broken_rule made ≡ None =
    ap broken_rule (λ i. record { columns = fields i; lengths = lengths; stats = map stat_view (c.new.ensures.items i) }) ∙ bare_unbroken c.args.zones.now lengths c.columns_of.ensures.rules in
    let no : errors.NoMemory ≡ errors.BadStatPath = sym (only_memory made why.field-0 why.ensures whole) ∙ why.field-0-is in
    cc

pub unreachable-requires-in-Err-DuplicateStat : goal.unreachable-requires-in-Err-DuplicateStat
unreachable-requires-in-Err-DuplicateStat c =
    let why = c.in-Err-DuplicateStat in
    let fields = c.in_ok-fields.ensures.cases ∙ c.columns_of.ensures.columns in
    let lengths = c.args.lengths.items in
    let made : Zones = record { columns = c.in_ok-fields.fields; lengths = lengths; stats = map stat_view c.new.result.items } in
    let whole : broken_rule made ≡ None =
    ap broken_rule (λ i. record { columns = fields i; lengths = lengths; stats = map stat_view (c.new.ensures.items i) }) ∙ bare_unbroken c.args.zones.now lengths c.columns_of.ensures.rules in
    let no : errors.NoMemory ≡ errors.DuplicateStat = sym (only_memory made why.field-0 why.ensures whole) ∙ why.field-0-is in
    cc

pub unreachable-requires-in-Err-WrongStatCount : goal.unreachable-requires-in-Err-WrongStatCount
unreachable-requires-in-Err-WrongStatCount c =
    let why = c.in-Err-WrongStatCount in
    let fields = c.in_ok-fields.ensures.cases ∙ c.columns_of.ensures.columns in
    let lengths = c.args.lengths.items in
    let made : Zones = record { columns = c.in_ok-fields.fields; lengths = lengths; stats = map stat_view c.new.result.items } in
    let whole : broken_rule made ≡ None =
    ap broken_rule (λ i. record { columns = fields i; lengths = lengths; stats = map stat_view (c.new.ensures.items i) }) ∙ bare_unbroken c.args.zones.now lengths c.columns_of.ensures.rules in
    let no : errors.NoMemory ≡ errors.WrongStatCount = sym (only_memory made why.field-0 why.ensures whole) ∙ why.field-0-is in
    cc

pub unreachable-requires-in-Err-WrongStatType : goal.unreachable-requires-in-Err-WrongStatType
unreachable-requires-in-Err-WrongStatType c =
    let why = c.in-Err-WrongStatType in
    let fields = c.in_ok-fields.ensures.cases ∙ c.columns_of.ensures.columns in
    let lengths = c.args.lengths.items in
    let made : Zones = record { columns = c.in_ok-fields.fields; lengths = lengths; stats = map stat_view c.new.result.items } in
    let whole : broken_rule made ≡ None =
    ap broken_rule (λ i. record { columns = fields i; lengths = lengths; stats = map stat_view (c.new.ensures.items i) }) ∙ bare_unbroken c.args.zones.now lengths c.columns_of.ensures.rules in
    let no : errors.NoMemory ≡ errors.WrongStatType = sym (only_memory made why.field-0 why.ensures whole) ∙ why.field-0-is in
    cc
