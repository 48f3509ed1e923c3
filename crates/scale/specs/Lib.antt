pub mod Notes
pub mod Promise
pub mod Range
pub mod Basis
pub mod Quotients
pub mod Laws
pub mod Rounds
pub mod Scales
