use Rattle.vx_text.proofs.parts.+more_names.Given as goal

abbrev pub decreases-more_names : goal.decreases-more_names
decreases-more_names l = l.more
