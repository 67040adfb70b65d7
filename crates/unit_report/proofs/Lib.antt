pub mod SharedReport
pub mod SharedAnswers
pub mod SharedProgram
