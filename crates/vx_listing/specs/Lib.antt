pub mod StatViews
pub mod AskedViews
pub mod ListingEnds
pub mod ListingSteps
pub use Rattle.vx_laws_listing.specs.Listing
pub use Rattle.vx_laws_listing.specs.ListingTexts
pub use Rattle.vx_laws_listing.specs.ListingWords
