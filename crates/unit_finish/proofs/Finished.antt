-- Numbers by a map and by a list.
use Rattle.std.proofs.Common.{◌≡◌, ◌∙◌, ℕ, List, Option, ap, map}
use Rattle.c_types.specs.Table.{Table}
use Rattle.core_tree.specs.declared.node.Node.{Node}
use Rattle.core_tree.specs.declared.node.Unit.{Unit}
use Rattle.unit_finish.specs.declared.unit_parts.declared.Declared.{Declared}
use Rattle.unit_finish.specs.unit_parts.Renamed.{renamed_node}
use Rattle.unit_finish.specs.unit_parts.Entities.{numbering_of, entities_from}
use Rattle.unit_finish.specs.Complete.{IsMadeOf}

-- functions that give the same are the same
pub same_numbers : (f g : ℕ → Option ℕ) → ((d : ℕ) → f d ≡ g d) → f ≡ g
same_numbers f g h = λ i d. h d i

-- what is made by a map of the numbers
pub made_of : (name : List ℕ) (number : ℕ) (types : Table) (keys : List (Option (List ℕ))) (nodes : List Node) (list seen : List Declared) (v : Unit) (f : ℕ → Option ℕ) (ns : List Node) → seen ≡ list → ((d : ℕ) → f d ≡ numbering_of seen d) → v.name ≡ name → v.types ≡ types → v.tags.items ≡ keys → v.nodes.items ≡ map (renamed_node f) nodes → ns ≡ v.nodes.items → v.entities.items ≡ entities_from number f ns 0 list → IsMadeOf name number types keys nodes list v
made_of name number types keys nodes list seen v f ns es numbers named t k n en e =
    let same : f ≡ numbering_of list = same_numbers f (numbering_of seen) numbers ∙ ap numbering_of es in
    record {
      named = named;
      types_are = t;
      tags_are = k;
      nodes_are = n ∙ ap (λ (g : ℕ → Option ℕ). map (renamed_node g) nodes) same;
      entities_are = e ∙ (ap (λ (g : ℕ → Option ℕ). entities_from number g ns 0 list) same ∙ ap (λ (l : List Node). entities_from number (numbering_of list) l 0 list) en);
    }
