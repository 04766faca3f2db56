mod MadeTables
mod RunLemmas
mod FileNames
mod PartFiles
