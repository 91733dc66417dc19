-- In reading order.
pub mod ListingParts
pub mod Margin
pub mod Staying
pub mod ByteConfinement
pub mod Witnesses
pub mod Counterexamples
pub mod DrawnObjects
pub mod ScriptParts
pub mod IgnoresPeaks
pub mod OneOutcome
pub mod Translation
pub mod ChartedRun
pub mod WorkedScript
pub mod WorkedTrace
