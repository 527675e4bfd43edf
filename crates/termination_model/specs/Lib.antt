pub mod chains
pub mod claims
pub mod columns
pub mod examples
pub mod grounds
pub mod lists
pub mod mappings
pub mod sizes
