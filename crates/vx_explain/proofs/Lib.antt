mod ExplainLemmas
mod ShownLemmas
