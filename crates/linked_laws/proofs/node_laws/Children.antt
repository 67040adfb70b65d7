-- The children of a unit's nodes in the program.
use Rattle.std.proofs.Common.{arith, ◌≡◌, ◌∙◌, ℕ, zero, suc, ◌<◌, List, [], ◌∷◌, length, Option, Some, slice_get, refl, sym, ap}
use Rattle.c_types.specs.Table.{type_of}
use Rattle.core_tree.specs.declared.node.Unit.{Unit}
use Rattle.core_tree.specs.declared.node.Program.{Program}
use Rattle.core_tree.specs.declared.node.Node.{Node}
use Rattle.core_tree.specs.declared.node.NodeKind.{NodeKind}
use Rattle.core_tree.specs.declared.node.NodeKind.TheVariants.{Named, FunctionName, Literal, Block, For, Initialise}
use Rattle.core_tree.specs.Typed.{sort_of, sort_in, sort_at, type_in, type_at, trees_in, trees_of}
use Rattle.link_model.specs.Units.{types_if}
use Rattle.link_model.specs.Merged.{moved}
use Rattle.unit_link.specs.Linked.{LinkedAt}
use Rattle.unit_link.specs.Places.{node_place, kind_renamed}

pub sort_renamed : (f : ℕ → ℕ) (kind : NodeKind) → sort_of (kind_renamed f kind) ≡ sort_of kind
sort_renamed f (Named e) = refl
sort_renamed f (FunctionName e) = refl
sort_renamed f (Literal e) = refl
sort_renamed f (Block es) = refl
sort_renamed f (For es c a) = refl
sort_renamed f (Initialise e paths) = refl
sort_renamed f kind = refl

present : (xs : List Node) (k : ℕ) → k < length xs → (x : Node) × (slice_get xs k ≡ Some x)
present [] k lt = absurd (omega arith)
present (x ∷ xs) zero lt = (x, refl)
present (x ∷ xs) (suc k) lt = present xs k (omega arith)

module _ {names : List (List ℕ)} (units : List Unit) (p : Program) (h : LinkedAt names units p) (u : ℕ) (of : Unit) (is : slice_get units u ≡ Some of) (c : ℕ) (lt : c < length of.nodes.items) where
  -- it has its sort
  pub child_sort : sort_at (trees_in p) (node_place units u c) ≡ sort_at (trees_of of) c
  child_sort =
      let (x, at) = present of.nodes.items c lt in
      let m = h.nodes.each u c of x is at in
      ap sort_in m.node_is ∙ (ap sort_of m.moved.kind ∙ (sort_renamed (h.entity_numbers u) x.kind ∙ sym (ap sort_in at)))

  -- and its type, with the table's tags
  pub child_type : type_at (trees_in p) (node_place units u c) ≡ moved h.numbers u (type_at (trees_of of) c)
  child_type =
      let (x, at) = present of.nodes.items c lt in
      let m = h.nodes.each u c of x is at in
      ap (type_in p.types) m.node_is
      ∙ (m.moved.type ∙ (ap (λ (o : Option Unit). moved h.numbers u (type_of (types_if o) x.ty.0)) is ∙ sym (ap (λ (o : Option Node). moved h.numbers u (type_in of.types o)) at)))
