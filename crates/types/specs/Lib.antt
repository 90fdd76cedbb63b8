pub mod Sizes
pub mod Answers
pub mod SaveReplies
pub mod LoadReplies
pub mod RosterReplies
