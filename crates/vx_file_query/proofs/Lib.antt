pub mod FileScanLemmas
pub mod FileEndLemmas
