mod GivenLemmas
mod InvocationLemmas
mod ChoiceLemmas
pub mod DeviceLemmas
