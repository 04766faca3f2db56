use Rattle.std.proofs.Common.{◌≡◌, subst, IfOk}
use Rattle.std.specs.String.{string_bytes}
use Rattle.vx_sql_lines.proofs.told.told_line.Goals as goal

pub returns-in-Ok : goal.returns-in-Ok
returns-in-Ok c = λ bytes h. subst (λ q. IfOk q (λ line. string_bytes line ≡ bytes)) c.in-Ok.is h
