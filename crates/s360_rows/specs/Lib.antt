pub mod Slate
