-- Children, owners and bodies in the program.
use Rattle.std.proofs.Common.{arith, ◌≡◌, ◌∙◌, ℕ, ◌<◌, true, List, length, Option, Some, None, refl, sym, ap, subst, inl, inr}
use Rattle.std.specs.Prelude.{IfSome}
use Rattle.std.specs.List.{slice_get}
use Rattle.std.specs.Option.{option_map}
use Rattle.std.proofs.lemmas.Bool.{false≢true}
use Rattle.std.proofs.lemmas.Option.{slice_get_within}
use Rattle.c_types.specs.Trees.{Ctype, FunctionFrom}
use Rattle.c_types.specs.Table.{type_of}
use Rattle.core_tree.specs.declared.node.Unit.{Unit}
use Rattle.core_tree.specs.declared.node.Program.{Program}
use Rattle.core_tree.specs.declared.node.Node.{Node}
use Rattle.core_tree.specs.declared.node.Entity.{Entity}
use Rattle.core_tree.specs.declared.node.Storage.{Storage}
use Rattle.core_tree.specs.declared.node.NodeKind.{NodeKind}
use Rattle.core_tree.specs.Typed.{trees_in, trees_of}
use Rattle.core_tree.specs.Range.{EachNode, child_in, child_at, ChildOnce}
use Rattle.core_tree.specs.Rows.{IsFunction, Has, Initialises, InitialisesIn, InitialisesEntity}
use Rattle.core_tree.specs.Valid.{Valid, IsFunctionEntity, IsFunctionIn, IsOwned, Owned, IsBlock, IsBlockIn, OnlyBody, HasBody, Bodied}
use Rattle.link_model.specs.Renamed.{renamed}
use Rattle.link_names.specs.Externals.{is_function_type}
use Rattle.unit_link.specs.Linked.{LinkedAt}
use Rattle.unit_link.specs.Needs.{AreLinkable}
use Rattle.unit_link.specs.Places.{node_place}
use Rattle.linked_laws.proofs.Origins.{node_from}
use Rattle.linked_laws.proofs.embedded_laws.Lists.{some_one, none_some, mapped_at, all_at}
use Rattle.linked_laws.proofs.embedded_laws.Places.{places_apart}
use Rattle.linked_laws.proofs.embedded_laws.Renaming.{block_to, initialises_to}
use Rattle.linked_laws.proofs.embedded_laws.Nodes.{same_unit, each_node, child_back}
use Rattle.linked_laws.proofs.embedded_laws.Entities.{IsEntityOfUnit, each_moved, keeps_type, stands_at}

function_true : (t : Ctype) → IsFunction t → is_function_type t ≡ true
function_true (FunctionFrom r ps f) h = refl
function_true t h = absurd h

true_function : (t : Ctype) → is_function_type t ≡ true → IsFunction t
true_function (FunctionFrom r ps f) h = tt
true_function t h = absurd (false≢true h)

renamed_function : (f : ℕ → ℕ) (t : Ctype) → is_function_type (renamed f t) ≡ is_function_type t
renamed_function f (FunctionFrom r ps form) = refl
renamed_function f t = refl

child_node : (o : Option Node) (k c : ℕ) → child_in o k ≡ Some c → (node : Node) × (o ≡ Some node)
child_node None k c e = absurd (none_some e)
child_node (Some node) k c e = (node, refl)

some_mapped : (f : ℕ → ℕ) (o : Option ℕ) (c : ℕ) → option_map f o ≡ Some c → (a : ℕ) × (o ≡ Some a) × (f a ≡ c)
some_mapped f None c e = absurd (none_some e)
some_mapped f (Some a) c e = (a, refl, some_one e)

module _ {names : List (List ℕ)} (units : List Unit) (p : Program) (linkable : AreLinkable units) (h : LinkedAt names units p) where
  valid : (u : ℕ) (of : Unit) → slice_get units u ≡ Some of → Valid (trees_of of)
  valid u of is = (linkable.valid u of is).trees

  pub child_once : ChildOnce (trees_in p)
  child_once a b i j c at there =
      let (na, na_at) = child_node (slice_get p.nodes.items a) i c at in
      let (nb, nb_at) = child_node (slice_get p.nodes.items b) j c there in
      let fa = node_from units p h a na na_at in
      let fb = node_from units p h b nb nb_at in
      let ca = child_back units p linkable h fa.unit fa.of fa.of_is fa.number i c (slice_get_within fa.of.nodes.items fa.number fa.own fa.own_is) (ap (λ (k : ℕ). child_at (trees_in p) k i) fa.place ∙ at) in
      let cb = child_back units p linkable h fb.unit fb.of fb.of_is fb.number j c (slice_get_within fb.of.nodes.items fb.number fb.own fb.own_is) (ap (λ (k : ℕ). child_at (trees_in p) k j) fb.place ∙ there) in
      let (units_are, numbers_are) = places_apart units fb.unit fa.unit cb.number ca.number fb.of fa.of fb.of_is fa.of_is cb.within ca.within (cb.place_is ∙ sym ca.place_is) in
      let same = same_unit units fb.unit fa.unit fb.of fa.of fb.of_is fa.of_is units_are in
      let other : child_at (trees_of fa.of) fb.number j ≡ Some ca.number =
      subst (λ (k : ℕ). child_at (trees_of fa.of) fb.number j ≡ Some k) numbers_are (subst (λ (w : Unit). child_at (trees_of w) fb.number j ≡ Some cb.number) same cb.child_is) in
      let r = (valid fa.unit fa.of fa.of_is).child_once fa.number fb.number i j ca.number ca.child_is other in
      (sym fa.place ∙ (ap (node_place units fa.unit) r.0 ∙ (sym (ap (λ (k : ℕ). node_place units k fb.number) units_are) ∙ fb.place)), r.1)

  -- a function stays one, and what is none
  pub function_to : (u e : ℕ) (of : Unit) (x y : Entity) → slice_get units u ≡ Some of → slice_get of.entities.items e ≡ Some x → slice_get p.entities.items (h.entity_numbers u e) ≡ Some y
      → IsFunctionEntity (trees_of of) x → IsFunctionEntity (trees_in p) y
  function_to u e of x y is at there f =
      let keeps = keeps_type units p linkable h u e of x y is at there in
      true_function (type_of p.types y.ty.0) (sym keeps.function ∙ (renamed_function (h.numbers.tag u) (type_of of.types x.ty.0) ∙ function_true (type_of of.types x.ty.0) f))

  pub function_back : (u e : ℕ) (of : Unit) (x y : Entity) → slice_get units u ≡ Some of → slice_get of.entities.items e ≡ Some x → slice_get p.entities.items (h.entity_numbers u e) ≡ Some y
      → IsFunctionEntity (trees_in p) y → IsFunctionEntity (trees_of of) x
  function_back u e of x y is at there f =
      let keeps = keeps_type units p linkable h u e of x y is at there in
      true_function (type_of of.types x.ty.0) (sym (renamed_function (h.numbers.tag u) (type_of of.types x.ty.0)) ∙ (keeps.function ∙ function_true (type_of p.types y.ty.0) f))

  function_in : (u f : ℕ) (of : Unit) → slice_get units u ≡ Some of → (o : Option Entity) → slice_get of.entities.items f ≡ o → IsFunctionIn (trees_of of) o
      → IsFunctionIn (trees_in p) (slice_get p.entities.items (h.entity_numbers u f))
  function_in u f of is None at function = absurd function
  function_in u f of is (Some x) at function =
      let s = stands_at units p linkable h u f of x is at in
      subst (λ (o : Option Entity). IsFunctionIn (trees_in p) o) (sym s.there) (function_to u f of x s.entity is at s.there function)

  owned_to : (u : ℕ) (of : Unit) → slice_get units u ≡ Some of → (s : Storage) (o : Option ℕ) → IsOwned (trees_of of) s o → IsOwned (trees_in p) s (option_map (h.entity_numbers u) o)
  owned_to u of is s None own = own
  owned_to u of is s (Some f) own = function_in u f of is (slice_get of.entities.items f) refl own

  pub owned : Owned (trees_in p)
  owned = each_moved units p linkable h (λ e y. IsOwned (trees_in p) y.storage y.owner)
      (λ u e of x y m.
      subst (λ (s : Storage). IsOwned (trees_in p) s y.owner) (sym m.moves.storage)
      (subst (λ (o : Option ℕ). IsOwned (trees_in p) x.storage o) (sym m.moves.owner) (owned_to u of m.of_is x.storage x.owner ((valid u of m.of_is).owned e x m.at))))

  -- a body within its unit
  pub body_within : (u e : ℕ) (of : Unit) (x : Entity) (b : ℕ) → slice_get units u ≡ Some of → slice_get of.entities.items e ≡ Some x → x.body ≡ Some b → b < length of.nodes.items
  body_within u e of x b is at body = subst (λ (o : Option ℕ). IfSome o (λ k. k < length of.nodes.items)) body ((valid u of is).in_range.bodies e x at)

  module _ (u : ℕ) (of : Unit) (is : slice_get units u ≡ Some of) (e : ℕ) (x y : Entity) (m : IsEntityOfUnit units p linkable h u e of x y) (b : ℕ) (body : x.body ≡ Some b) where
    within : b < length of.nodes.items
    within = body_within u e of x b is m.at body

    block_there : (o : Option Node) → slice_get of.nodes.items b ≡ o → IsBlockIn o → IsBlockIn (slice_get p.nodes.items (node_place units u b))
    block_there None at block = absurd block
    block_there (Some z) at block =
        let n = h.nodes.each u b of z is at in
        subst (λ (o : Option Node). IsBlockIn o) (sym n.node_is) (subst IsBlock (sym n.moved.kind) (block_to (h.entity_numbers u) z.kind block))

    initialises_there : (o : Option Node) → slice_get of.nodes.items b ≡ o → InitialisesIn o e → Initialises (trees_in p) (node_place units u b) (h.entity_numbers u e)
    initialises_there None at init = absurd init
    initialises_there (Some z) at init =
        let n = h.nodes.each u b of z is at in
        subst (λ (o : Option Node). InitialisesIn o (h.entity_numbers u e)) (sym n.node_is)
        (subst (λ (k : NodeKind). InitialisesEntity k (h.entity_numbers u e)) (sym n.moved.kind) (initialises_to (h.entity_numbers u) z.kind e init))

    top_there : EachNode (trees_of of) (λ n node. Has node.children b → ⊥) → EachNode (trees_in p) (λ n node. Has node.children (node_place units u b) → ⊥)
    top_there top = each_node units p linkable h (λ n node. Has node.children (node_place units u b) → ⊥) (λ v i other z n there z_at n_at moves (k, at).
        let (c, own, c_is) = mapped_at (node_place units v) z.children k (node_place units u b) (sym (ap (λ (l : List ℕ). slice_get l k) moves.children) ∙ at) in
        let less = all_at (λ a. a < i) z.children k c ((valid v other there).in_range.children i z z_at) own in
        let inside = slice_get_within other.nodes.items i z z_at in
        let (units_are, numbers_are) = places_apart units v u c b other of there is (omega arith) within c_is in
        let same = same_unit units v u other of there is units_are in
        top i z (subst (λ (w : Unit). slice_get w.nodes.items i ≡ Some z) same z_at) (k, own ∙ ap (λ (a : ℕ). Some a) numbers_are))

    only_there : OnlyBody (trees_of of) e b → OnlyBody (trees_in p) (h.entity_numbers u e) (node_place units u b)
    only_there only = each_moved units p linkable h (λ d w. w.body ≡ Some (node_place units u b) → d ≡ h.entity_numbers u e) (λ v d other z w n has.
        let (c, own, c_is) = some_mapped (node_place units v) z.body (node_place units u b) (sym n.moves.body ∙ has) in
        let (units_are, numbers_are) = places_apart units v u c b other of n.of_is is (body_within v d other z c n.of_is n.at own) within c_is in
        let same = same_unit units v u other of n.of_is is units_are in
        let one = only d z (subst (λ (w : Unit). slice_get w.entities.items d ≡ Some z) same n.at) (own ∙ ap (λ (a : ℕ). Some a) numbers_are) in
        ap (λ (k : ℕ). h.entity_numbers k d) units_are ∙ ap (h.entity_numbers u) one)

    pub body_there : HasBody (trees_of of) e x (Some b) → HasBody (trees_in p) (h.entity_numbers u e) y (Some (node_place units u b))
    body_there has = (
      elim has.0 [
        | inl f ↦ inl (record {
          function = function_to u e of x y is m.at m.there f.function;
          storage = m.moves.storage ∙ f.storage;
          block = block_there (slice_get of.nodes.items b) refl f.block;
          top = top_there f.top;
        })
        | inr o ↦ inr (record {
          object = λ f. o.object (function_back u e of x y is m.at m.there f);
          storage = λ s. o.storage (sym m.moves.storage ∙ s);
          initialises = initialises_there (slice_get of.nodes.items b) refl o.initialises;
        })
      ],
      only_there has.1,
    )

  body_to : (u e : ℕ) (of : Unit) (x y : Entity) (m : IsEntityOfUnit units p linkable h u e of x y) (o : Option ℕ) → x.body ≡ o → HasBody (trees_of of) e x o
      → HasBody (trees_in p) (h.entity_numbers u e) y (option_map (node_place units u) o)
  body_to u e of x y m None body has = λ s. has (sym m.moves.storage ∙ s)
  body_to u e of x y m (Some b) body has = body_there u of m.of_is e x y m b body has

  pub bodied : Bodied (trees_in p)
  bodied = each_moved units p linkable h (λ e y. HasBody (trees_in p) e y y.body)
      (λ u e of x y m. subst (λ (o : Option ℕ). HasBody (trees_in p) (h.entity_numbers u e) y o) (sym m.moves.body) (body_to u e of x y m x.body refl ((valid u of m.of_is).bodied e x m.at)))
