use Rattle.std.proofs.Common.{◌∙◌, ap, drop, sym}
use Rattle.std.proofs.lemmas.List.{take_rest}
use Rattle.std.specs.List.{list_all}
use Rattle.vx_dtype.specs.Equal.{names_eq}
use Rattle.vx_typing.proofs.AlikeStructs.{alike_by_first, first_and_others}
use Rattle.vx_typing.proofs.alike_structs.are_alike.Goals as goal

pub returns-then-are_distinct : goal.returns-then-are_distinct
returns-then-are_distinct c =
    let structs = c.args.structs.now in
    let names = c.first-item.result in
    let is = first_and_others structs names c.in-len1-up.len_at_least c.first-item.is in
    c.all_have.ensures ∙ ap (list_all (names_eq names)) (take_rest structs 1) ∙ alike_by_first structs names (drop 1 structs) is (sym c.are_distinct.ensures ∙ c.if-are_distinct.true)
