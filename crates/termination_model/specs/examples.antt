pub mod Ackermann
pub mod Append
pub mod AppendChain
pub mod Loop
pub mod Gen
