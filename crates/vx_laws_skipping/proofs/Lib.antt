mod ExactLemmas
