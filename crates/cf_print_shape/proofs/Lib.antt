pub mod ReadLists
pub mod ShapeExamples
