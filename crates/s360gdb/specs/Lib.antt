pub mod Opening
pub mod Saving
pub mod Conversation
pub mod Beginning
pub mod Failures
pub mod Notes
