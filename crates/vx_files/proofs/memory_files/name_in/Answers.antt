use Rattle.std.proofs.Common.{sym, ◌∙◌, ap, Bool, option_map, Some, None, cond}
use Rattle.vx_files.proofs.NameLemmas.{name_behind, no_name_behind}
use Rattle.vx_files.proofs.memory_files.name_in.Goals as goal

pub returns-in_err-name : goal.returns-in_err-name
returns-in_err-name c =
    ap (option_map (λ x. x.now)) c.from_residual.ensures ∙ sym (no_name_behind c.args.folder.now c.args.path.now c.in_err-name.ensures.cases)

pub returns-then-is_name : goal.returns-then-is_name
returns-then-is_name c =
    let found = c.in_ok-name.ensures.cases in
    let name = c.in_ok-name.name.now in
    let is = sym c.if-is_name.ensures in
    sym (name_behind c.args.folder.now c.args.path.now name found.0 found.1.0 found.1.1 found.2 ∙ ap (λ (b : Bool). cond b (Some name) None) is)
