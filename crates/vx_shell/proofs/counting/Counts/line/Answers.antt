use Rattle.vx_shell.proofs.counting.Counts.line.Goals as goal

pub returns : goal.returns
returns c = rw (← c.in_ok-seconds.ensures) c.in_ok-format.ensures.ok
