-- Places of entities and nodes among those of all units.
use Rattle.std.proofs.Common.{◌≡◌, ℕ, ◌+◌, ◌<◌, ◌≤◌, Option, Some, List, [], ◌∷◌, ◌++◌, length, take, get_or, map, ap, subst, ◌∙◌, arith, inl, inr}
use Rattle.std.proofs.lemmas.List.{get_or_default, take-map, length-map, take_more}
use Rattle.std.proofs.lemmas.List.Sums.{sum-map, sum_by-append}
use Rattle.std.proofs.lemmas.Option.{slice_get_within, slice_get_cases, get_or_from_slice_get}
use Rattle.std.specs.List.{slice_get, sum, sum_by}
use Rattle.std.specs.Prelude.{IfSome}
use Rattle.core_tree.specs.declared.node.Unit.{Unit}
use Rattle.core_tree.specs.declared.node.Entity.{Entity}
use Rattle.core_tree.specs.Typed.{trees_of}
use Rattle.core_tree.specs.Range.{InRange}
use Rattle.link_model.specs.Units.{item}
use Rattle.link_model.specs.declared.item.Item.{Item}
use Rattle.link_model.specs.link_types.Starts.{AreSums}
use Rattle.link_names.specs.Externals.{entity_at, entities_if}
use Rattle.unit_link.specs.Places.{nodes_before}
use Rattle.unit_link.specs.declared.link_program.numbers.EntityNumbers.{EntityNumbers}
use Rattle.unit_link.specs.link_program.Rows.{AreEntityNumbers, counts_of}
use Rattle.unit_link.proofs.link_program.Numbering.{in_row, start_at}
use Rattle.link_units.proofs.link_entities.Rowing.{before_next}
use Rattle.unit_link.proofs.link_program.Places.{unit_of}
use Rattle.link_units.specs.link_entities.Row.{place_of}
use Rattle.link_units.specs.link_entities.Linking.{HasNode}

-- an entity stands in the row of all
pub record HasPlace (n : EntityNumbers) (a : Item) : Type 0 where
  pub start_within : a.unit < length n.starts.items
  pub within : place_of n a < length n.leaders.items
  pub number_within : place_of n a < length n.numbers.items

pub place_at : (units : List Unit) (n : EntityNumbers) (a : Item) (x : Entity) → AreEntityNumbers units n → entity_at units a ≡ Some x → HasPlace n a
place_at units n a x are at =
    let row = in_row units n.starts.items a x are.starts_are at in
    let (y, there, here) = unit_of units a x at in
    let known = slice_get_within units a.unit y there in
    let counted : length (counts_of units) ≡ length units = length-map units (λ (u : Unit). length u.entities.items) in
    let sums = are.starts_are.all in
    let labelled = are.alike.all in
    let numbered = are.numbered.all in
    let within = row.within in
    record {
      start_within = omega arith;
      within = omega arith;
      number_within = omega arith;
    }

-- where a list says that something starts, at whatever default
pub start_of : (xs : List ℕ) (i d x : ℕ) → i < length xs → x ≡ get_or xs i d → x ≡ get_or xs i 0
start_of xs i d x l e = e ∙ get_or_default xs i d 0 l

-- where a unit's nodes start, and where they end
pub record NodeSpan (units : List Unit) (starts : List ℕ) (u node : ℕ) : Type 0 where
  pub within : u + 1 < length starts
  pub start : get_or starts u 0 ≡ nodes_before units u
  pub less : nodes_before units u + node < get_or starts (u + 1) 0

nodes_next : (units : List Unit) (u : ℕ) (x : Unit) → slice_get units u ≡ Some x → nodes_before units (u + 1) ≡ nodes_before units u + length x.nodes.items
nodes_next units u x at =
    let lt = slice_get_within units u x at in
    let f : Unit → ℕ = λ (y : Unit). length y.nodes.items in
    ap (sum_by f) (take_more units u x lt ∙ ap (λ y. take u units ++ y ∷ []) (get_or_from_slice_get units u x x at))
    ∙ (sum_by-append f (take u units) (x ∷ []) ∙ one (sum_by f (take u units)) (f x))
  where
    one : (a b : ℕ) → a + (0 + b) ≡ a + b
    one a b = omega arith

starts_at : (units : List Unit) (starts : List ℕ) (u : ℕ) → AreSums (map (λ (x : Unit). length x.nodes.items) units) starts → u ≤ length units → get_or starts u 0 ≡ nodes_before units u
starts_at units starts u sums le =
    let f : Unit → ℕ = λ (y : Unit). length y.nodes.items in
    let many : length (map f units) ≡ length units = length-map units f in
    sums.each u (omega arith) ∙ (ap sum (take-map f u units) ∙ sum-map f (take u units))

pub node_span : (units : List Unit) (starts : List ℕ) (u node : ℕ) → AreSums (map (λ (x : Unit). length x.nodes.items) units) starts → HasNode units u node → NodeSpan units starts u node
node_span units starts u node sums has =
    let f : Unit → ℕ = λ (y : Unit). length y.nodes.items in
    let lt = slice_get_within units u has.unit has.unit_is in
    let many : length (map f units) ≡ length units = length-map units f in
    let all = sums.all in
    let here = starts_at units starts u sums (omega arith) in
    let next = starts_at units starts (u + 1) sums (omega arith) in
    let more = nodes_next units u has.unit has.unit_is in
    let less = has.within in
    record { within = omega arith; start = here; less = omega arith }

-- the owner and the body of a unit's entity are the unit's
pub owner_there : (units : List Unit) (u e o : ℕ) (x : Entity) → ((v : ℕ) (y : Unit) → slice_get units v ≡ Some y → InRange (trees_of y)) → entity_at units (item u e) ≡ Some x → x.owner ≡ Some o
    → (z : Entity) × (entity_at units (item u o) ≡ Some z)
owner_there units u e o x ranges at is =
    let (y, there, here) = unit_of units (item u e) x at in
    let own = (ranges u y there).owners e x here in
    let less : o < length y.entities.items = subst (λ (w : Option ℕ). IfSome w (λ f. f < length y.entities.items)) is own in
    elim (slice_get_cases y.entities.items o).1 [
      | inl p ↦ (p.0, ap (λ (w : Option Unit). slice_get (entities_if w) o) there ∙ p.2)
      | inr past ↦ absurd (let far = past.0 in omega arith)
    ]

pub body_there : (units : List Unit) (u e b : ℕ) (x : Entity) → ((v : ℕ) (y : Unit) → slice_get units v ≡ Some y → InRange (trees_of y)) → entity_at units (item u e) ≡ Some x → x.body ≡ Some b
    → HasNode units u b
body_there units u e b x ranges at is =
    let (y, there, here) = unit_of units (item u e) x at in
    let own = (ranges u y there).bodies e x here in
    record { unit = y; unit_is = there; within = subst (λ (w : Option ℕ). IfSome w (λ f. f < length y.nodes.items)) is own }

-- an entity stands before where the next unit's start
pub record HasRoom (n : EntityNumbers) (a : Item) : Type 0 where
  pub end_within : a.unit + 1 < length n.starts.items
  pub less : place_of n a < get_or n.starts.items (a.unit + 1) 0

pub entity_room : (units : List Unit) (n : EntityNumbers) (a : Item) (x : Entity) → AreEntityNumbers units n → entity_at units a ≡ Some x → HasRoom n a
entity_room units n a x are at =
    let (y, there, here) = unit_of units a x at in
    let known = slice_get_within units a.unit y there in
    let inside = slice_get_within y.entities.items a.number x here in
    let counted : length (counts_of units) ≡ length units = length-map units (λ (u : Unit). length u.entities.items) in
    let sums = are.starts_are.all in
    let one = start_at units n.starts.items a.unit are.starts_are (omega arith) in
    let next = start_at units n.starts.items (a.unit + 1) are.starts_are (omega arith) in
    let more = before_next units a.unit y there in
    record { end_within = omega arith; less = omega arith }
