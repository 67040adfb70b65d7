-- The parts of a unit, one field after another.
use Rattle.std.proofs.Common.{ℕ, ◌≡◌, List, refl}
use Rattle.pta_base.specs.declared.place.Place.{Place}
use Rattle.core_tree.specs.declared.node.Unit.{Unit}
use Rattle.core_tree.specs.declared.node.Entity.{Entity}
use Rattle.core_tree.specs.declared.node.NodeKind.{NodeKind}
use Rattle.core_tree.specs.declared.node.NodeKind.TheVariants.{Text}
use Rattle.c_types.specs.declared.term.MemberTerm.{MemberTerm}
use Rattle.core_node_laws.specs.count_laws.passed.location_laws.name_laws.Named.{AreMembers, IsText}
use Rattle.core_node_laws.specs.count_laws.passed.location_laws.named_laws.Units.{IsNarrow, IsLocalOf, SamePlace}
use Rattle.core_node_laws.specs.count_laws.named_units.Named.{HaveNames}
use Rattle.core_node_laws.specs.count_laws.named_units.Named as own
use Rattle.core_node_laws.proofs.count_laws.named_units.Reading.{units_named, tags_known}
use Rattle.declaration_laws.proofs.declared_type_laws.right_nodes.Whole.{right_nodes_once}
use Rattle.declaration_laws.proofs.declared_type_laws.owned_locals.Reading.{right_owned, right_linked}
use Rattle.declaration_laws.specs.declared_type_laws.named_rest.Rest.{NamedWithRest}

narrow : (place : Place) → own.IsNarrow place → IsNarrow place
narrow place h = record { line = h.line; column = h.column }

local_of : (x : Unit) (e : ℕ) (y : Entity) → IsLocalOf x e y → own.IsLocalOf x e y
local_of x e y h = record { entity = h.entity; plain = h.plain; local = h.local }

one_place : (a b : Place) → SamePlace a b → own.SamePlace a b
one_place a b h = record { line = h.line; column = h.column }

members_are : (members : List MemberTerm) → HaveNames members → AreMembers members
members_are members h = record { few = h.few; letters = h.letters; once = h.once }

text_is : (kind : NodeKind) → IsText kind → (bytes : List ℕ) × (kind ≡ Text bytes)
text_is (Text bytes) h = (bytes, refl)
text_is kind h = absurd h

pub named_whole : NamedWithRest
named_whole tokens unit tree tag_number name u cut read right bytes made named =
    let h = units_named tokens unit tree tag_number name u cut read right bytes in
    let told = right_nodes_once tokens unit tree tag_number name u cut read right in
    record {
      name = h.name;
      entities = record {
        letters = h.entities.letters;
        place = λ e y at. narrow y.place (h.entities.place e y at);
        owned = right_owned tokens unit tree tag_number name u cut read right;
        word = λ e y at. h.entities.word e y (local_of u e y at);
        linked = right_linked tokens unit tree tag_number name u cut read right;
        internal = h.entities.internal;
        local = λ e f y z p q same. h.entities.local e f y z (local_of u e y p) (local_of u f z q) (one_place y.place z.place same);
        literal = λ e f y z p q a b same. h.entities.literal e f y z p q a b (one_place y.place z.place same);
      };
      nodes = record { place = λ n node at. narrow node.place (h.nodes.place n node at); text = λ n m a b p q s t same. let x = text_is a.kind s in let y = text_is b.kind t in told.text n m a b x.0 y.0 (record { first = p; second = q }) x.1 y.1 same.line same.column; call = λ n m a b p q s t same. told.call n m a b (record { first = p; second = q }) s t same.line same.column };
      members = λ tag members e. members_are members (h.members tag members (tags_known u.types tag members made named e) e);
    }
