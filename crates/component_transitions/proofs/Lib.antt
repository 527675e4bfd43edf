pub mod NaturalColumns
pub mod HeldTransitions
