mod MarkLemmas
mod TextLemmas
mod WriteLemmas
mod PlanLemmas
mod RunLemmas
mod FileRuns
mod FolderRuns
