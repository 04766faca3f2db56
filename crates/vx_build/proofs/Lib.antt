pub mod CollectorLemmas
mod ConjunctLemmas
