pub mod RelationText
pub mod RelationTree
pub mod ReadsBack
