pub mod JunctionReplay
pub mod JunctionSteps
pub mod JunctionDemand
pub mod JunctionCall
pub mod Cases
