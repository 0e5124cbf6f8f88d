pub mod ScopeLaws
pub mod FileLaws
mod ScopeExamples
mod FileExamples
