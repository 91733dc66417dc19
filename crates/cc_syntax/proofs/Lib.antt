pub mod SlotLemmas
pub mod CommandLemmas
pub mod TallyLemmas
mod HintLemmas
