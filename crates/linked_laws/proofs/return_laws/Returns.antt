-- A returned value has its function's result type.
use Rattle.std.proofs.Common.{arith, ◌≡◌, ◌∙◌, ℕ, zero, suc, ◌<◌, List, [], ◌∷◌, length, map, Option, Some, None, refl, sym, ap, subst}
use Rattle.std.specs.Prelude.{IfSome}
use Rattle.std.specs.List.{slice_get, slice_index_or, All}
use Rattle.std.specs.Option.{option_map}
use Rattle.std.proofs.lemmas.Option.{slice_get_within, slice_get-get_or}
use Rattle.c_types.specs.Trees.{Ctype, FunctionFrom}
use Rattle.c_types.specs.Table.{type_of}
use Rattle.type_rules.specs.Conversions.{result_of}
use Rattle.core_tree.specs.declared.node.Unit.{Unit}
use Rattle.core_tree.specs.declared.node.Program.{Program}
use Rattle.core_tree.specs.declared.node.Node.{Node}
use Rattle.core_tree.specs.declared.node.Entity.{Entity}
use Rattle.core_tree.specs.declared.node.NodeKind.{NodeKind}
use Rattle.core_tree.specs.declared.node.NodeKind.TheVariants.{Named, FunctionName, Literal, VarArgs, Block, For, Initialise, Return}
use Rattle.core_tree.specs.declared.node.Storage.TheVariants.{FunctionBody}
use Rattle.core_tree.specs.Typed.{ValueNode, sort_at, type_at, IsValue, trees_in, trees_of}
use Rattle.core_tree.specs.Range.{Under, here, below, child_in}
use Rattle.core_tree.specs.Rows.{RowOf}
use Rattle.core_tree.specs.Valid.{UnderBody, FitsBody}
use Rattle.link_model.specs.Renamed.{renamed}
use Rattle.link_model.specs.Merged.{moved}
use Rattle.unit_link.specs.Linked.{LinkedAt}
use Rattle.unit_link.specs.Needs.{AreLinkable}
use Rattle.unit_link.specs.Places.{node_place, kind_renamed}
use Rattle.linked_laws.proofs.node_laws.Children.{child_sort, child_type}
use Rattle.linked_laws.proofs.alike_laws.Origins.{TypedFrom, typed_from}
use Rattle.linked_laws.specs.return_laws.Returns.{HasReturns}

some_one : {X : Type 0} → {x y : X} → ◌≡◌ {A = Option X} (Some x) (Some y) → x ≡ y
some_one h = cc

none_some : {X : Type 0} → {x : X} → ◌≡◌ {A = Option X} None (Some x) → ⊥
none_some h = cc

present : (xs : List Node) (k : ℕ) → k < length xs → (x : Node) × (slice_get xs k ≡ Some x)
present [] k lt = absurd (omega arith)
present (x ∷ xs) zero lt = (x, refl)
present (x ∷ xs) (suc k) lt = present xs k (omega arith)

mapped_at : (f : ℕ → ℕ) (xs : List ℕ) (k c : ℕ) → slice_get (map f xs) k ≡ Some c → (a : ℕ) × (slice_get xs k ≡ Some a) × (f a ≡ c)
mapped_at f [] k c at = absurd (none_some at)
mapped_at f (x ∷ xs) zero c at = (x, refl, some_one at)
mapped_at f (x ∷ xs) (suc k) c at = mapped_at f xs k c at

one_mapped : (f : ℕ → ℕ) (xs : List ℕ) (v : ℕ) → map f xs ≡ v ∷ [] → (c : ℕ) × (xs ≡ c ∷ []) × (f c ≡ v)
one_mapped f [] v e = absurd (let no : ⊥ = cc in no)
one_mapped f (c ∷ []) v e = (c, refl, some_one (ap (λ (l : List ℕ). slice_get l 0) e))
one_mapped f (c ∷ x ∷ xs) v e = absurd (none_some (sym (ap (λ (l : List ℕ). slice_get l 1) e)))

all_at : (P : ℕ → Type 0) (xs : List ℕ) (k c : ℕ) → All P xs → slice_get xs k ≡ Some c → P c
all_at P xs k c h at =
    let lt = slice_get_within xs k c at in
    let same : slice_index_or xs k c ≡ c = some_one (sym (slice_get-get_or xs k c lt) ∙ at) in
    subst P same (h k c lt)

return_renamed : (f : ℕ → ℕ) (kind : NodeKind) → kind_renamed f kind ≡ Return → kind ≡ Return
return_renamed f (Named e) h = cc
return_renamed f (FunctionName e) h = cc
return_renamed f (Literal e) h = cc
return_renamed f (VarArgs e) h = cc
return_renamed f (Block es) h = cc
return_renamed f (For es c a) h = cc
return_renamed f (Initialise e paths) h = cc
return_renamed f kind h = h

result_renamed : (f : ℕ → ℕ) (t : Ctype) → renamed f (result_of t) ≡ result_of (renamed f t)
result_renamed f (FunctionFrom r ps form) = refl
result_renamed f t = refl

module _ {names : List (List ℕ)} (units : List Unit) (p : Program) (linkable : AreLinkable units) (h : LinkedAt names units p) where
  module _ (u : ℕ) (of : Unit) (is : slice_get units u ≡ Some of) (b : ℕ) (lt : b < length of.nodes.items) where
    -- what stands under a node of a unit is a node of that unit, under it
    record IsUnder (m : ℕ) : Type 0 where
      number : ℕ
      place : m ≡ node_place units u number
      within : number < length of.nodes.items
      under : Under (trees_of of) b number

    next_under : (parent child k : ℕ) → child_in (slice_get p.nodes.items parent) k ≡ Some child → IsUnder parent → IsUnder child
    next_under parent child k at up =
        let up_within = up.within in
        let (x, x_at) = present of.nodes.items up.number up.within in
        let m = h.nodes.each u up.number of x is x_at in
        let there : slice_get m.node.children k ≡ Some child = sym (ap (λ (n : ℕ). child_in (slice_get p.nodes.items n) k) up.place ∙ ap (λ (o : Option Node). child_in o k) m.node_is) ∙ at in
        let (c, own, place) = mapped_at (node_place units u) x.children k child (sym (ap (λ (l : List ℕ). slice_get l k) m.moved.children) ∙ there) in
        let less = all_at (λ a. a < up.number) x.children k c ((linkable.valid u of is).trees.in_range.children up.number x x_at) own in
        record { number = c; place = sym place; within = omega arith; under = below up.under (k, ap (λ (o : Option Node). child_in o k) x_at ∙ own) }

    under_back : {m : ℕ} → Under (trees_in p) (node_place units u b) m → IsUnder m
    under_back here = record { number = b; place = refl; within = lt; under = here }
    under_back (below {parent = parent} {child = child} up (k, at)) = next_under parent child k at (under_back up)

  module _ (n : ℕ) (node : Node) (v : ℕ) (at : slice_get p.nodes.items n ≡ Some node) (kind : node.kind ≡ Return) (children : node.children ≡ v ∷ []) (function : Entity) (from : TypedFrom units p linkable h function) (storage : function.storage ≡ FunctionBody) where
    from_body : (b : ℕ) → from.own.body ≡ Some b → Under (trees_in p) (node_place units from.unit b) n → IsValue (trees_in p) v (result_of (type_of p.types function.ty.0))
    from_body b body under =
        let u = from.unit in
        let of = from.of in
        let valid = linkable.valid u of from.of_is in
        let lt = subst (λ (o : Option ℕ). IfSome o (λ x. x < length of.nodes.items)) body (valid.trees.in_range.bodies from.number from.own from.own_is) in
        let r = under_back u of from.of_is b lt under in
        let (x, x_at) = present of.nodes.items r.number r.within in
        let m = h.nodes.each u r.number of x from.of_is x_at in
        let same : m.node ≡ node = some_one (sym m.node_is ∙ (ap (slice_get p.nodes.items) (sym r.place) ∙ at)) in
        let own_kind = return_renamed (h.entity_numbers u) x.kind (sym m.moved.kind ∙ (ap (λ (y : Node). y.kind) same ∙ kind)) in
        let (c, own_children, place) = one_mapped (node_place units u) x.children v (sym m.moved.children ∙ (ap (λ (y : Node). y.children) same ∙ children)) in
        let own_storage = sym from.moves.storage ∙ storage in
        let fits = subst (λ (o : Option ℕ). IfSome o (λ y. Under (trees_of of) y r.number → FitsBody (trees_of of) from.own y x.kind x.children)) body (((valid.trees.functions r.number x x_at).each from.number from.own from.own_is).fits own_storage) in
        let type : type_at (trees_of of) c ≡ result_of (type_of of.types from.own.ty.0) =
        subst (λ (l : List ℕ). FitsBody (trees_of of) from.own b Return l) own_children (subst (λ (k : NodeKind). FitsBody (trees_of of) from.own b k x.children) own_kind (fits r.under)) in
        let sort : sort_at (trees_of of) c ≡ ValueNode =
        subst (λ (l : List ℕ). RowOf (trees_of of) Return (type_of of.types x.ty.0) l) own_children (subst (λ (k : NodeKind). RowOf (trees_of of) k (type_of of.types x.ty.0) x.children) own_kind (valid.trees.rows r.number x x_at)) in
        let less = all_at (λ a. a < r.number) x.children 0 c (valid.trees.in_range.children r.number x x_at) (ap (λ (l : List ℕ). slice_get l 0) own_children) in
        let within = r.within in
        let inside : c < length of.nodes.items = omega arith in
        subst (λ (k : ℕ). IsValue (trees_in p) k (result_of (type_of p.types function.ty.0))) place (
          child_sort units p h u of from.of_is c inside ∙ sort,
          child_type units p h u of from.of_is c inside ∙ (ap (moved h.numbers u) type ∙ (result_renamed (h.numbers.tag u) (type_of of.types from.own.ty.0) ∙ from.keeps.result)),
        )

    by_body : (o : Option ℕ) → from.own.body ≡ o → UnderBody (trees_in p) (option_map (node_place units from.unit) o) n → IsValue (trees_in p) v (result_of (type_of p.types function.ty.0))
    by_body None body under = absurd under
    by_body (Some b) body under = from_body b body under

pub linked_returns : {names : List (List ℕ)} (units : List Unit) (p : Program) → AreLinkable units → LinkedAt names units p → HasReturns p
linked_returns units p linkable h = record {
  each = λ n node v f function at kind children there around.
      let from = typed_from units p linkable h f function there in
      by_body units p linkable h n node v at kind children function from around.0 from.own.body refl (subst (λ (o : Option ℕ). UnderBody (trees_in p) o n) from.moves.body around.1);
}
