pub mod QuoteLemmas
pub mod ToldErrors
