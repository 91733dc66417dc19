mod DigitLemmas
mod EntryLemmas
mod AnswerLemmas
mod PartLemmas
mod ListLemmas
mod CoreLemmas
pub mod SkipLemmas
mod RunLemmas
mod AnnotateLemmas
mod AnnotatorLemmas
mod AnnotatedLemmas
mod RightsLemmas
mod RowLemmas
