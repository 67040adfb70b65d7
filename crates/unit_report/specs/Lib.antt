pub mod Solved
pub mod Reported
pub mod report_text
pub mod report_json
pub mod unit_system
pub mod unit_answers
