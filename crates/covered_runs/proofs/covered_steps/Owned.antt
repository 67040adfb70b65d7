-- A node stands in one function's body at most, and its children stand in the same.
use Rattle.std.proofs.Common.{arith, ◌≡◌, ◌∙◌, ℕ, zero, suc, ◌<◌, List, [], ◌∷◌, length, Option, Some, None, slice_get, refl, sym, ap, subst}
use Rattle.c_types.specs.declared.key.ObjectKey.TheVariants.{Entity as EntityKey}
use Rattle.core_tree.specs.declared.node.Entity.{Entity}
use Rattle.core_tree.specs.declared.node.Node.{Node}
use Rattle.core_tree.specs.declared.node.Storage.TheVariants.{FunctionBody}
use Rattle.core_tree.specs.Rows.{Has}
use Rattle.core_tree.specs.Range.{EachNode, child_in, IsChild, Under, here, below, ChildOnce}
use Rattle.core_tree.specs.Typed.{CoreTrees}
use Rattle.core_tree.specs.Valid.{UnderBody}
use Rattle.covering_laws.specs.covered_state.World.{World, trees_of}
use Rattle.covering_laws.specs.covered_state.Items.{IsOwned}
use Rattle.covered_runs.specs.covered_steps.Owned.{AreTops, AreSingle, OwnersPass}

none_some : {X : Type 0} → {x : X} → ◌≡◌ {A = Option X} None (Some x) → ⊥
none_some h = cc

some_one : {X : Type 0} → {x y : X} → ◌≡◌ {A = Option X} (Some x) (Some y) → x ≡ y
some_one h = cc

present : {X : Type 0} (xs : List X) (k : ℕ) → k < length xs → (x : X) × (slice_get xs k ≡ Some x)
present [] k lt = absurd (omega arith)
present (x ∷ xs) zero lt = (x, refl)
present (x ∷ xs) (suc k) lt = present xs k (omega arith)

module _ (u : CoreTrees) (once : ChildOnce u) where
  abbrev IsTop : ℕ → Type 0
  IsTop b = EachNode u (λ n node. Has node.children b → ⊥)

  no_parent : (b parent : ℕ) → IsTop b → IsChild u parent b → ⊥
  no_parent b parent top child = by (slice_get u.nodes parent) refl child.1
    where
      by : (o : Option Node) → slice_get u.nodes parent ≡ o → child_in o child.0 ≡ Some b → ⊥
      by None is e = none_some e
      by (Some node) is e = top parent node is (child.0, e)

  -- the topmost node above a node is one
  root_one : (b d n : ℕ) → IsTop b → IsTop d → Under u b n → Under u d n → b ≡ d
  root_one b d n top other here here = refl
  root_one b d n top other here (below {parent = parent} up child) = absurd (no_parent b parent top child)
  root_one b d n top other (below {parent = parent} up child) here = absurd (no_parent d parent other child)
  root_one b d n top other (below {parent = parent} up child) (below {parent = second} high again) =
      let same : parent ≡ second = (once parent second child.0 again.0 n child.1 again.1).0 in
      root_one b d parent top other up (subst (λ (k : ℕ). Under u d k) (sym same) high)

  under_child : (o : Option ℕ) (n c : ℕ) → IsChild u n c → UnderBody u o n → UnderBody u o c
  under_child None n c child h = absurd h
  under_child (Some b) n c child h = below h child

  body_one : (f g : Option ℕ) (c : ℕ) → UnderBody u f c → UnderBody u g c → (b : ℕ) × (d : ℕ) × (f ≡ Some b) × (g ≡ Some d) × Under u b c × Under u d c
  body_one None g c h k = absurd h
  body_one (Some b) None c h k = absurd k
  body_one (Some b) (Some d) c h k = (b, d, refl, refl, h, k)

-- a node under a function's body stands in that function
pub owned_under : (world : World) (f c : ℕ) → ChildOnce (trees_of world) → AreTops (trees_of world) → AreSingle (trees_of world) → (function : Entity) → slice_get (trees_of world).entities f ≡ Some function
    → function.storage ≡ FunctionBody → UnderBody (trees_of world) function.body c → c < length (trees_of world).nodes → IsOwned world (EntityKey f) c
owned_under world f c once tops single function there storage here_too within = by own.0 own.1
  where
    own : (o : Option ℕ) × (slice_get world.is_system.owners c ≡ Some o)
    own = present world.is_system.owners c (subst (λ (k : ℕ). c < k) (sym world.is_system.around.each) within)

    by : (o : Option ℕ) → slice_get world.is_system.owners c ≡ Some o → slice_get world.is_system.owners c ≡ Some (Some f)
    by None is = absurd (world.is_system.around.right c None is f function there (storage, here_too))
    by (Some g) is =
        let other = world.is_system.around.right c (Some g) is in
        let bodies = body_one (trees_of world) once function.body other.0.body c here_too other.2.1 in
        let same : bodies.0 ≡ bodies.1 =
        root_one (trees_of world) once bodies.0 bodies.1 c (tops f function there bodies.0 storage bodies.2) (tops g other.0 other.1 bodies.1 other.2.0 bodies.3) bodies.4 bodies.5 in
        let one : g ≡ f = single f function there bodies.0 bodies.2 g other.0 other.1 (bodies.3 ∙ ap (λ (k : ℕ). Some k) (sym same)) in
        is ∙ ap (λ (k : ℕ). Some (Some k)) one

-- the function in which a node stands
pub owner_is : (world : World) (f n : ℕ) → IsOwned world (EntityKey f) n → (function : Entity) × (slice_get (trees_of world).entities f ≡ Some function) × ((function.storage ≡ FunctionBody) × UnderBody (trees_of world) function.body n)
owner_is world f n owned = world.is_system.around.right n (Some f) owned

pub owners_pass : OwnersPass
owners_pass world f n c once tops single owned child within =
    let owner = owner_is world f n owned in
    owned_under world f c once tops single owner.0 owner.1 owner.2.0 (under_child (trees_of world) once owner.0.body n c child owner.2.1) within

-- the node above one that stands in a function stands there too
pub owners_rise : (world : World) (f p c : ℕ) → ChildOnce (trees_of world) → AreTops (trees_of world) → AreSingle (trees_of world) → IsOwned world (EntityKey f) c → IsChild (trees_of world) p c → p < length (trees_of world).nodes
    → IsOwned world (EntityKey f) p
owners_rise world f p c once tops single owned child within = owned_under world f p once tops single owner.0 owner.1 owner.2.0 (risen owner.0.body refl owner.2.1) within
  where
    owner : (function : Entity) × (slice_get (trees_of world).entities f ≡ Some function) × ((function.storage ≡ FunctionBody) × UnderBody (trees_of world) function.body c)
    owner = owner_is world f c owned

    from : (b k : ℕ) → EachNode (trees_of world) (λ m node. Has node.children b → ⊥) → IsChild (trees_of world) p k → Under (trees_of world) b k → Under (trees_of world) b p
    from b k top of here = absurd (no_parent (trees_of world) once b p top of)
    from b k top of (below {parent = parent} up again) =
        let same : parent ≡ p = (once parent p again.0 of.0 k again.1 of.1).0 in subst (λ (m : ℕ). Under (trees_of world) b m) same up

    risen : (o : Option ℕ) → owner.0.body ≡ o → UnderBody (trees_of world) o c → UnderBody (trees_of world) o p
    risen None is h = absurd h
    risen (Some b) is h = from b c (tops f owner.0 owner.1 b owner.2.0 is) child h
