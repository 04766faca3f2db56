pub mod FailureLemmas
pub mod CountLemmas
pub mod FileScanLemmas
pub mod TableScanLemmas
pub mod LawLemmas
