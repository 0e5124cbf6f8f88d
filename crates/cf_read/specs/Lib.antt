pub mod Reading
pub mod Systems
pub mod FormulaProblems
