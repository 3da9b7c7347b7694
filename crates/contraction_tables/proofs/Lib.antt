pub mod TransferLaws
pub mod TreeLaws
