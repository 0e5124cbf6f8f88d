pub mod PieceLaws
pub mod NameLaws
pub mod CommentExamples
pub mod NameExamples
pub mod HelperExamples
