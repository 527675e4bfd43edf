pub mod OwnClauses
