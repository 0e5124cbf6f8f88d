mod AsBox
mod HeldSteps
mod OpenLemmas
mod OpeningExamples
mod ReplyLemmas
