pub mod MetadataLemmas
