mod WordLemmas
