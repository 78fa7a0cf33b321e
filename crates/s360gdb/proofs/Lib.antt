mod Conversations
mod Failing
mod Notes
