mod EntryLemmas
mod OneLemmas
mod CallLemmas
