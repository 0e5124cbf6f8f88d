mod DoesLemmas
mod VerdictLemmas
mod ErrorExamples
mod CompleteExamples
mod GenExamples
