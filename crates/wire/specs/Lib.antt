pub mod AnswerKinds
pub mod Answers
pub mod Bytes
pub mod Laws
pub mod Messages
pub mod OrderKinds
pub mod Orders
