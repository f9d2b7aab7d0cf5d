pub mod Trace
pub mod TraceText
pub mod Parts
pub mod AnswerText
pub mod Spelling
