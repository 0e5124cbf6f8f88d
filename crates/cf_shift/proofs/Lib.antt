pub mod MeetingLaws
pub mod ShiftLists
pub mod ShiftedLevels
pub mod ShiftedNone
pub mod ShiftedPaths
pub mod ShiftedSpelling
pub mod ShiftedTwice
pub mod ShiftedTyping
mod Examples
