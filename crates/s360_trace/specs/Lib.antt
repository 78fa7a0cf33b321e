pub mod Executions
pub mod SourcesTold
pub mod StoresTold
pub mod Trace
