pub mod whole_rows
pub mod effects_text
pub mod stop_report
