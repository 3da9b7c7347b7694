pub mod Cases
pub mod JunctionNetworks
pub mod JunctionSteps
pub mod JunctionReaders
pub mod JunctionDemand
