pub use Rattle.core_node_laws.proofs.standing_laws.Bodies.{function_block, FunctionBlock, found_part, Above, above}
