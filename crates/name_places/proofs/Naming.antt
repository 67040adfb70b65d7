-- The names of declarators, by their senses.
use Rattle.std.proofs.Common.{ℕ}
use Rattle.core_tree.specs.declared.node.Unit.{Unit}
use Rattle.c_results.specs.declared.made.Made.{Made}
use Rattle.c_results.specs.declared.made.Made.TheVariants as made
use Rattle.c_results.specs.Standing.{sense_made}
use Rattle.name_places.specs.Named.{IsNamedIn, IsNamedSense}

-- what is made for a sense whose name is a node's
pub named_from_sense : (u : Unit) (count : ℕ) (m : Made) → IsNamedSense count (sense_made u m) → IsNamedIn count m
named_from_sense u count made.Nothing h = tt
named_from_sense u count (made.Node i) h = tt
named_from_sense u count (made.Typed t) h = tt
named_from_sense u count (made.Specifiers storage functions ty) h = tt
named_from_sense u count (made.Declarator name ds) h = h
named_from_sense u count (made.Derived d) h = tt
named_from_sense u count (made.Parameter name ty) h = tt
named_from_sense u count (made.Members members) h = tt
named_from_sense u count (made.Value n) h = tt
named_from_sense u count (made.Run nodes) h = tt
named_from_sense u count (made.Initial node n) h = tt

pub named_to_sense : (u : Unit) (count : ℕ) (m : Made) → IsNamedIn count m → IsNamedSense count (sense_made u m)
named_to_sense u count made.Nothing h = tt
named_to_sense u count (made.Node i) h = tt
named_to_sense u count (made.Typed t) h = tt
named_to_sense u count (made.Specifiers storage functions ty) h = tt
named_to_sense u count (made.Declarator name ds) h = h
named_to_sense u count (made.Derived d) h = tt
named_to_sense u count (made.Parameter name ty) h = tt
named_to_sense u count (made.Members members) h = tt
named_to_sense u count (made.Value n) h = tt
named_to_sense u count (made.Run nodes) h = tt
named_to_sense u count (made.Initial node n) h = tt
