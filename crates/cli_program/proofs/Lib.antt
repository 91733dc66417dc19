mod ReportLemmas
mod RunLemmas
mod OutcomeLemmas
pub mod ExecutionLemmas
mod HeadlineLemmas
mod RefusalLemmas
