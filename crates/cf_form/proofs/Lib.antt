mod AlternativeExamples
mod AlternativeSteps
mod BranchSteps
pub mod BranchTypes
mod Callees
mod ChainSteps
mod ChooseExamples
pub mod ChooseForms
pub mod ChooseLaw
pub mod ChooseSolutions
mod ChooseSteps
mod ChooseWalk
pub mod ConditionLaws
mod CountExamples
mod CountLaws
mod ExpansionExamples
pub mod ExpansionLaws
pub mod ExpansionTypes
mod FloorChoose
mod FloorExamples
mod FloorForms
mod FloorLaws
mod FloorSteps
pub mod FoldLaws
mod FoldSteps
mod FormSteps
mod FormedExamples
pub mod FormedNumbers
pub mod FormedPlain
pub mod FormedTypes
pub mod FormingLaws
pub mod FunctionLists
pub mod GuardLaws
pub mod HalfLaws
mod HalfSteps
pub mod Halves
pub mod ItselfLaws
pub mod KeepingLaws
mod LinearFormExamples
mod LinearWideExamples
pub mod Lists
mod MadeLaws
pub mod NumberBlocks
mod NumberExamples
pub mod OneForm
pub mod Ordinary
pub mod OrdinaryLaws
pub mod Outcomes
pub mod OverLaws
mod PassedExamples
mod PlainLaws
mod PolarityExamples
pub mod PolarityLaws
pub mod PolarityTypes
mod RelationExamples
pub mod SaidBy
mod SaturatedLaws
pub mod ScopeLaws
pub mod SourceLaws
pub mod SourceLinear
pub mod SourceStands
mod TellSteps
mod ToldExamples
mod TruthSteps
mod Unfolded
mod WideExamples
pub mod WideMeaning
pub mod WideTypes
mod WidenedExamples
