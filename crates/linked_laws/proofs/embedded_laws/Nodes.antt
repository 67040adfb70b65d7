-- The nodes of units in the program: which are children, and what stands under which.
use Rattle.std.proofs.Common.{arith, ◌≡◌, ◌∙◌, ℕ, ◌<◌, List, length, Option, Some, None, refl, sym, ap, subst}
use Rattle.std.specs.List.{slice_get}
use Rattle.std.proofs.lemmas.Option.{slice_get_within}
use Rattle.core_tree.specs.declared.node.Unit.{Unit}
use Rattle.core_tree.specs.declared.node.Program.{Program}
use Rattle.core_tree.specs.declared.node.Node.{Node}
use Rattle.core_tree.specs.Typed.{trees_in, trees_of}
use Rattle.core_tree.specs.Range.{EachNode, Under, here, below, child_in, child_at}
use Rattle.unit_link.specs.Linked.{IsMovedNode, LinkedAt}
use Rattle.unit_link.specs.Needs.{AreLinkable}
use Rattle.unit_link.specs.Places.{node_place}
use Rattle.linked_laws.proofs.Origins.{node_from}
use Rattle.linked_laws.proofs.embedded_laws.Lists.{some_one, none_some, present, mapped_at, mapped_to, all_at}
use Rattle.linked_laws.proofs.embedded_laws.Places.{places_apart}

pub same_unit : (units : List Unit) (u v : ℕ) (x y : Unit) → slice_get units u ≡ Some x → slice_get units v ≡ Some y → u ≡ v → x ≡ y
same_unit units u v x y at there e = some_one (sym at ∙ (ap (slice_get units) e ∙ there))

module _ {names : List (List ℕ)} (units : List Unit) (p : Program) (linkable : AreLinkable units) (h : LinkedAt names units p) where
  -- the node m of the program is the node x of unit u
  abbrev pub Moves : ℕ → Node → Node → Type 0
  Moves u x m = IsMovedNode units h.numbers h.entity_numbers p.types u x m

  -- what holds of the nodes of each unit in the program holds of all
  pub each_node : (P : ℕ → Node → Type 0)
      → ((u i : ℕ) (of : Unit) (x m : Node) → slice_get units u ≡ Some of → slice_get of.nodes.items i ≡ Some x → slice_get p.nodes.items (node_place units u i) ≡ Some m → Moves u x m
      → P (node_place units u i) m) → EachNode (trees_in p) P
  each_node P f n node at =
      let s = node_from units p h n node at in
      subst (λ (k : ℕ). P k node) s.place (f s.unit s.number s.of s.own node s.of_is s.own_is (ap (slice_get p.nodes.items) s.place ∙ at) s.moved)

  module _ (u : ℕ) (of : Unit) (is : slice_get units u ≡ Some of) where
    abbrev place : ℕ → ℕ
    place i = node_place units u i

    -- a child that is a node of the unit
    pub record IsOwnChild (parent k child : ℕ) : Type 0 where
      pub number : ℕ
      pub place_is : place number ≡ child
      pub within : number < length of.nodes.items
      pub child_is : child_at (trees_of of) parent k ≡ Some number

    pub child_to : (a k c : ℕ) → child_at (trees_of of) a k ≡ Some c → child_at (trees_in p) (place a) k ≡ Some (place c)
    child_to a k c e = by (slice_get of.nodes.items a) refl e
      where
        by : (o : Option Node) → slice_get of.nodes.items a ≡ o → child_in o k ≡ Some c → child_at (trees_in p) (place a) k ≡ Some (place c)
        by None at child = absurd (none_some child)
        by (Some x) at child =
            let m = h.nodes.each u a of x is at in
            ap (λ (o : Option Node). child_in o k) m.node_is ∙ (ap (λ (l : List ℕ). slice_get l k) m.moved.children ∙ mapped_to place x.children k c child)

    pub child_back : (a k c : ℕ) → a < length of.nodes.items → child_at (trees_in p) (place a) k ≡ Some c → IsOwnChild a k c
    child_back a k c lt e =
        let (x, x_at) = present of.nodes.items a lt in
        let m = h.nodes.each u a of x is x_at in
        let there : slice_get m.node.children k ≡ Some c = sym (ap (λ (o : Option Node). child_in o k) m.node_is) ∙ e in
        let (d, own, at) = mapped_at place x.children k c (sym (ap (λ (l : List ℕ). slice_get l k) m.moved.children) ∙ there) in
        let less = all_at (λ b. b < a) x.children k d ((linkable.valid u of is).trees.in_range.children a x x_at) own in
        record { number = d; place_is = at; within = omega arith; child_is = ap (λ (o : Option Node). child_in o k) x_at ∙ own }

    pub under_to : {b n : ℕ} → Under (trees_of of) b n → Under (trees_in p) (place b) (place n)
    under_to here = here
    under_to (below {parent = parent} {child = child} up (k, at)) = below (under_to up) (k, child_to parent k child at)

    -- what stands under a node of the unit is a node of the unit, under it
    pub record IsOwnUnder (b m : ℕ) : Type 0 where
      pub number : ℕ
      pub place_is : place number ≡ m
      pub within : number < length of.nodes.items
      pub under : Under (trees_of of) b number

    next_under : (b parent child k : ℕ) → child_at (trees_in p) parent k ≡ Some child → IsOwnUnder b parent → IsOwnUnder b child
    next_under b parent child k at up =
        let c = child_back up.number k child up.within (ap (λ (n : ℕ). child_at (trees_in p) n k) up.place_is ∙ at) in
        record { number = c.number; place_is = c.place_is; within = c.within; under = below up.under (k, c.child_is) }

    pub under_back : (b : ℕ) → b < length of.nodes.items → {m : ℕ} → Under (trees_in p) (place b) m → IsOwnUnder b m
    under_back b lt here = record { number = b; place_is = refl; within = lt; under = here }
    under_back b lt (below {parent = parent} {child = child} up (k, at)) = next_under b parent child k at (under_back b lt up)

  -- of two nodes of units, one under the other, both are of one unit, and stand so there
  pub record AreOfOne (u : ℕ) (of : Unit) (v b i : ℕ) : Type 0 where
    pub unit : u ≡ v
    pub under : Under (trees_of of) b i

  pub one_unit : (u : ℕ) (of : Unit) (is : slice_get units u ≡ Some of) (v : ℕ) (other : Unit) (there : slice_get units v ≡ Some other) (b i : ℕ) → b < length other.nodes.items → i < length of.nodes.items
      → Under (trees_in p) (node_place units v b) (node_place units u i) → AreOfOne u of v b i
  one_unit u of is v other there b i lb li up =
      let r = under_back v other there b lb up in
      let (units_are, numbers_are) = places_apart units v u r.number i other of there is r.within li r.place_is in
      let same = same_unit units v u other of there is units_are in
      record { unit = sym units_are; under = subst (λ (k : ℕ). Under (trees_of of) b k) numbers_are (subst (λ (w : Unit). Under (trees_of w) b r.number) same r.under) }

  -- what a node of the unit stands under is a node of the unit
  pub record IsAbove (u : ℕ) (of : Unit) (t i : ℕ) : Type 0 where
    pub number : ℕ
    pub place_is : node_place units u number ≡ t
    pub within : number < length of.nodes.items
    pub under : Under (trees_of of) number i

  pub above : (u : ℕ) (of : Unit) (is : slice_get units u ≡ Some of) (t i : ℕ) (node : Node) → slice_get p.nodes.items t ≡ Some node → i < length of.nodes.items
      → Under (trees_in p) t (node_place units u i) → IsAbove u of t i
  above u of is t i node at li up =
      let s = node_from units p h t node at in
      let within = slice_get_within s.of.nodes.items s.number s.own s.own_is in
      let o = one_unit u of is s.unit s.of s.of_is s.number i within li (subst (λ (k : ℕ). Under (trees_in p) k (node_place units u i)) (sym s.place) up) in
      let same = same_unit units s.unit u s.of of s.of_is is (sym o.unit) in
      record { number = s.number; place_is = ap (λ (k : ℕ). node_place units k s.number) o.unit ∙ s.place; within = subst (λ (w : Unit). s.number < length w.nodes.items) same within; under = o.under }
