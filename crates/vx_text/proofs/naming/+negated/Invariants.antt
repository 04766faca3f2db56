use Rattle.vx_text.proofs.naming.+negated.Given as goal

abbrev pub decreases-negated : goal.decreases-negated
decreases-negated l = l.count
