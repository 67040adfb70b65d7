pub use Rattle.valid_unit_laws.specs.body_node_laws.own_initials.Own.{InitialisesOwn}
