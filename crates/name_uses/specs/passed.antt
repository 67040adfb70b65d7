pub mod expression_rows
