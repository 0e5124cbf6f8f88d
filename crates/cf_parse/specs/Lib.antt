pub mod Spelling
pub mod Reading
pub mod TermView
pub mod LinksView
pub mod Programs
