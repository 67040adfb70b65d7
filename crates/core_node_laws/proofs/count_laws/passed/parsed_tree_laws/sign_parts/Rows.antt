pub use Rattle.parsed_tree_laws.proofs.sign_parts.Rows.{of_end, of_token, of_use, of_choice, of_scope, of_node, of_row, all_repeated}
