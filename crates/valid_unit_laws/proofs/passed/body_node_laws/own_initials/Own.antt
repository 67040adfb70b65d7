pub use Rattle.valid_unit_laws.proofs.body_node_laws.own_initials.Own.{units_initialise_own}
