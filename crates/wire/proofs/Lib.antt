pub mod AnswerLaws
pub mod Apart
pub mod Misfits
pub mod Numbers
pub mod OrderLaws
