pub mod FindLaws
pub mod PathLaws
pub mod CrossingEdges
pub mod MergeLaws
pub mod CompressionLaws
pub mod ComponentLaws
pub mod JoinLaws
