pub mod ColumnSystems
pub mod Laws
