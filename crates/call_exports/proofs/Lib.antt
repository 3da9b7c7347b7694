pub mod ReplyLaws
pub mod LentFields
pub mod LentCode
pub mod LentCall
