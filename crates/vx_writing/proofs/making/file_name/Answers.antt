use Rattle.std.proofs.Common.{◌∙◌, ◌++◌, ap}
use Rattle.std.specs.Prelude.{codes}
use Rattle.std.specs.Fmt.{styled_decimal}
use Rattle.vx_writing.proofs.FileNames.{name_is}
use Rattle.vx_writing.proofs.making.file_name.Goals as goal

pub returns : goal.returns
returns c = c.in_ok-format.ensures.ok ∙ ap (λ s. styled_decimal s c.args.number ++ codes ".vxb") c.laid_out.ensures ∙ name_is c.args.number (codes ".vxb")
