pub mod Bases
pub mod TypingAnswers
