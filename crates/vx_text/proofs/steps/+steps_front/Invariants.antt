use Rattle.vx_text.proofs.steps.+steps_front.Given as goal

abbrev pub decreases-steps_front : goal.decreases-steps_front
decreases-steps_front l = l.more
