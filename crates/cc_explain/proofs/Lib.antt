pub mod CorrectionLemmas
pub mod StepLemmas
mod RequestLemmas
mod TextLemmas
