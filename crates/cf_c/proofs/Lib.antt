mod AnsweredExamples
mod CallLemmas
mod LineExamples
mod LineLemmas
mod WordLemmas
