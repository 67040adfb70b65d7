-- Each initialiser of a unit is its entity's body.
use Rattle.std.proofs.Common.{◌≡◌, ℕ, Some, inl, inr}
use Rattle.c_senses.specs.Right.{Declared, IsDeclaredAt}
use Rattle.c_senses.specs.Names.{source_of, numbered}
use Rattle.valid_unit_laws.specs.body_node_laws.parts_initialise.Initialise.{IsBodyOf, UnitsInitialiseOnce}
use Rattle.valid_unit_laws.proofs.body_node_laws.parts_initialise.Lasting.{names_initialise}
use Rattle.valid_unit_laws.proofs.body_node_laws.parts_initialise.Literals.{literal_body}

pub units_initialise_once : UnitsInitialiseOnce
units_initialise_once tokens unit tree tag_number senses cut read are whole fit m u raised i e h = by (raised.no_other_entity e (raised.known i e h))
  where
    by : (d : ℕ) × (what : Declared) × IsDeclaredAt (numbered tag_number (source_of tokens tree)) senses d what × (m d ≡ Some e) → IsBodyOf u i e
    by (d, what, inl named, number) = names_initialise tokens unit tree tag_number senses cut read are whole m u raised i e d what h number named
    by (d, what, inr (c, literal, is), number) = literal_body tokens unit tree tag_number senses cut read are whole m u raised fit i e d c h number literal
