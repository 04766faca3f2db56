use Rattle.vx_csv.proofs.given.+more_columns.Given as goal

abbrev pub decreases-more_columns : goal.decreases-more_columns
decreases-more_columns l = l.more
