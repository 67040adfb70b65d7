-- What the functions of a program touch, its nodes being over the program's own types or over the machine's.
use Rattle.std.proofs.Common.{arith, ◌≡◌, ◌∙◌, inl, inr, ℕ, zero, suc, ◌<◌, List, [], ◌∷◌, length, Option, Some, None, slice_get, refl, sym, ap, subst}
use Rattle.std.proofs.lemmas.Option.{slice_get_within}
use Rattle.c_types.specs.declared.key.ObjectKey.{ObjectKey}
use Rattle.c_types.specs.declared.key.ObjectKey.TheVariants.{Entity as EntityKey}
use Rattle.c_types.specs.Trees.{Ctype}
use Rattle.c_types.specs.Table.{type_of}
use Rattle.core_tree.specs.declared.node.Entity.{Entity}
use Rattle.core_tree.specs.declared.node.Node.{Node}
use Rattle.core_tree.specs.declared.node.Program.{Program}
use Rattle.core_tree.specs.declared.node.Storage.TheVariants.{FunctionBody}
use Rattle.core_tree.specs.Range.{EachNode, IsChild, ChildOnce, Under, here, below, child_in}
use Rattle.core_tree.specs.Rows.{Has as HasChild}
use Rattle.core_tree.specs.Typed.{CoreTrees, trees_in}
use Rattle.core_tree.specs.Valid.{UnderBody, ValidProgram}
use Rattle.sol_model.specs.declared.system.System.{System}
use Rattle.sol_model.specs.Families.{Family, Has}
use Rattle.obj_space.specs.Space.{locations_in}
use Rattle.obj_space.specs.View.{view_of}
use Rattle.row_numbers.specs.Around.{AreOwners}
use Rattle.row_numbers.specs.Functions.{functions_of, number_of}
use Rattle.row_numbers.specs.Numbers.{type_number}
use Rattle.row_numbers.specs.Setting.{Setting, row}
use Rattle.normal_form.specs.SystemOf.{setting_of}
use Rattle.linked_laws.proofs.system_laws.demand_laws.Numbered.{body_stands}
use Rattle.mod_ref.specs.declared.access.Access.{Access}
use Rattle.mod_ref.specs.Direct.{accessed, IsInBody, NodeTouches, OwnTouches, Touches}
use Rattle.mod_ref.specs.Places.{IsReachedBy}
use Rattle.covering_laws.specs.grown_programs.Grown.{with_terms, MayFollow, IsKept, with_types}
use Rattle.covering_laws.proofs.grown_programs.Numbers.{functions_same, number_same, row_same, list_row_same}
use Rattle.covering_laws.proofs.grown_programs.Tables.{tables_grow}
use Rattle.covering_laws.specs.covered_state.World.{World, trees_of, setting_in}
use Rattle.covering_laws.specs.covered_state.Items.{IsOwned}
use Rattle.covered_runs.proofs.covered_steps.Owned.{owner_is}
use Rattle.covered_runs.specs.covered_steps.covered_statements.Runnable.{IsRunnable}
use Rattle.covered_runs.specs.machine_sound.covered_start.Objects.{terms_behind, IsSolved}
use Rattle.covered_runs.specs.machine_sound.covered_start.Start.{machine_world}
use Rattle.covered_runs.proofs.machine_sound.covered_start.Types.{library_follow}
use Rattle.covered_runs.specs.touched_runs.Touched.{AreNumbered}

some_one : {X : Type 0} → {x y : X} → ◌≡◌ {A = Option X} (Some x) (Some y) → x ≡ y
some_one h = cc

none_some : {X : Type 0} → {x : X} → ◌≡◌ {A = Option X} None (Some x) → ⊥
none_some h = cc

present : {X : Type 0} (xs : List X) (k : ℕ) → k < length xs → (x : X) × (slice_get xs k ≡ Some x)
present [] k lt = absurd (omega arith)
present (x ∷ xs) zero lt = (x, refl)
present (x ∷ xs) (suc k) lt = present xs k (omega arith)

-- ---- a node stands in one body

module _ (u : CoreTrees) (once : ChildOnce u) where
  abbrev IsTop : ℕ → Type 0
  IsTop b = EachNode u (λ n node. HasChild node.children b → ⊥)

  no_parent : (b parent : ℕ) → IsTop b → IsChild u parent b → ⊥
  no_parent b parent top child = by (slice_get u.nodes parent) refl child.1
    where
      by : (o : Option Node) → slice_get u.nodes parent ≡ o → child_in o child.0 ≡ Some b → ⊥
      by None is e = none_some e
      by (Some node) is e = top parent node is (child.0, e)

  root_one : (b d n : ℕ) → IsTop b → IsTop d → Under u b n → Under u d n → b ≡ d
  root_one b d n top other here here = refl
  root_one b d n top other here (below {parent = parent} up child) = absurd (no_parent b parent top child)
  root_one b d n top other (below {parent = parent} up child) here = absurd (no_parent d parent other child)
  root_one b d n top other (below {parent = parent} up child) (below {parent = second} high again) =
      let same : parent ≡ second = (once parent second child.0 again.0 n child.1 again.1).0 in
      root_one b d parent top other up (subst (λ (k : ℕ). Under u d k) (sym same) high)

  body_one : (f g : Option ℕ) (c : ℕ) → UnderBody u f c → UnderBody u g c → (b : ℕ) × (d : ℕ) × (f ≡ Some b) × (g ≡ Some d) × Under u b c × Under u d c
  body_one None g c h k = absurd h
  body_one (Some b) None c h k = absurd k
  body_one (Some b) (Some d) c h k = (b, d, refl, refl, h, k)

module _ (p : Program) (system : System) (family : Family) (valid : ValidProgram p) (s : IsSolved p system family) (runs : IsRunnable (machine_world p system family s)) where
  abbrev world : World
  world = machine_world p system family s

  follow : MayFollow (length p.types.terms) (terms_behind p)
  follow = library_follow (length p.types.terms)

  kept : IsKept p.types (with_terms p.types (terms_behind p))
  kept = tables_grow p.types (terms_behind p) s.made s.named follow

  nodes_known : (n : ℕ) (node : Node) → slice_get p.nodes.items n ≡ Some node → node.ty.0 < length p.types.terms
  nodes_known n node at = valid.trees.in_range.types n node at

  entities_known : (e : ℕ) (x : Entity) → slice_get p.entities.items e ≡ Some x → x.ty.0 < length p.types.terms
  entities_known e x at = valid.trees.in_range.entity_types e x at

  -- functions have the program's numbers
  pub functions_one : functions_of (trees_in (with_types p (terms_behind p))) (view_of (locations_in p)) ≡ functions_of (trees_in p) (view_of (locations_in p))
  functions_one = functions_same p (terms_behind p) s.made follow kept nodes_known entities_known (view_of (locations_in p)) (length (locations_in p))

  pub are_numbered : AreNumbered (machine_world p system family s)
  are_numbered f n owned =
      let o = owner_is world f n owned in
      ap (λ (list : List ObjectKey). slice_get list (number_of (trees_in (with_types p (terms_behind p))) (view_of (locations_in p)) f)) functions_one
      ∙ (ap (slice_get (functions_of (trees_in p) (view_of (locations_in p)))) (number_same p (terms_behind p) s.made follow kept nodes_known entities_known (view_of (locations_in p)) f)
      ∙ body_stands p (locations_in p) refl f o.0 o.1 o.2.0)

  -- ---- the functions around nodes

  under_grown : (b n : ℕ) → Under (trees_in p) b n → Under (trees_in (with_types p (terms_behind p))) b n
  under_grown b n here = here
  under_grown b n (below {parent = parent} up child) = below (under_grown b parent up) child

  under_own : (b n : ℕ) → Under (trees_in (with_types p (terms_behind p))) b n → Under (trees_in p) b n
  under_own b n here = here
  under_own b n (below {parent = parent} up child) = below (under_own b parent up) child

  body_grown : (o : Option ℕ) (n : ℕ) → UnderBody (trees_in p) o n → UnderBody (trees_in (with_types p (terms_behind p))) o n
  body_grown None n h = absurd h
  body_grown (Some b) n h = under_grown b n h

  body_own : (o : Option ℕ) (n : ℕ) → UnderBody (trees_in (with_types p (terms_behind p))) o n → UnderBody (trees_in p) o n
  body_own None n h = absurd h
  body_own (Some b) n h = under_own b n h

  module _ (owners : List (Option ℕ)) (around : AreOwners (trees_in p) owners) where
    abbrev own : Setting
    own = setting_of p (view_of (locations_in p)) owners

    owner_same : (e n : ℕ) → IsOwned world (EntityKey e) n → slice_get owners n ≡ Some (Some e)
    owner_same e n owned = by there.0 there.1
      where
        o : (function : Entity) × (slice_get (trees_of world).entities e ≡ Some function) × ((function.storage ≡ FunctionBody) × UnderBody (trees_of world) function.body n)
        o = owner_is world e n owned

        within : n < length owners
        within =
            let lt = slice_get_within world.is_system.owners n (Some e) owned in
            let count = world.is_system.around.each in
            let also = around.each in
            omega arith

        there : (x : Option ℕ) × (slice_get owners n ≡ Some x)
        there = present owners n within

        by : (x : Option ℕ) → slice_get owners n ≡ Some x → slice_get owners n ≡ Some (Some e)
        by None is = absurd (around.right n None is e o.0 o.1 (o.2.0, body_own o.0.body n o.2.1))
        by (Some g) is =
            let other = around.right n (Some g) is in
            let bodies = body_one (trees_in (with_types p (terms_behind p))) runs.once o.0.body other.0.body n o.2.1 (body_grown other.0.body n other.2.1) in
            let same : bodies.0 ≡ bodies.1 =
            root_one (trees_in (with_types p (terms_behind p))) runs.once bodies.0 bodies.1 n (runs.tops e o.0 o.1 bodies.0 o.2.0 bodies.2) (runs.tops g other.0 other.1 bodies.1 other.2.0 bodies.3) bodies.4 bodies.5 in
            let one : g ≡ e = runs.single e o.0 o.1 bodies.0 bodies.2 g other.0 other.1 (bodies.3 ∙ ap (λ (k : ℕ). Some k) (sym same)) in
            is ∙ ap (λ (k : ℕ). Some (Some k)) one

    -- ---- what they touch

    in_body : (f n : ℕ) → IsInBody (setting_in world) system f n → IsInBody own system f n
    in_body f n h = record { entity = h.entity; around = owner_same h.entity n h.around; function = h.function; known = h.known; stands = h.stands }

    node_same : (access : Access) (n : ℕ) (node : Node) (l : ℕ) → slice_get p.nodes.items n ≡ Some node → NodeTouches (setting_in world) system family access n node l → NodeTouches own system family access n node l
    node_same access n node l at (inl (q, is, reached)) =
        let ty : type_of (with_terms p.types (terms_behind p)) node.ty.0 ≡ type_of p.types node.ty.0 = kept.types node.ty.0 (nodes_known n node at) in
        inl (
          q,
          is,
          subst (λ (k : ℕ). IsReachedBy system family (Some (type_number (accessed node.kind (type_of p.types node.ty.0)))) k l)
              (row_same p (terms_behind p) s.made follow kept nodes_known entities_known (view_of (locations_in p)) q)
              (subst (λ (t : Ctype). IsReachedBy system family (Some (type_number (accessed node.kind t))) (row (trees_in (with_types p (terms_behind p))) (view_of (locations_in p)) q) l) ty reached),
        )
    node_same access n node l at (inr (inl filled)) = inr (inl filled)
    node_same access n node l at (inr (inr (takes, has))) =
        inr (inr (takes, subst (λ (k : ℕ). Has family k l) (list_row_same p (terms_behind p) s.made follow kept nodes_known entities_known (view_of (locations_in p)) n) has))

    own_same : (access : Access) (n f l : ℕ) → OwnTouches (setting_in world) system family access n f l → OwnTouches own system family access n f l
    own_same access n f l h = record { node = h.node; there = h.there; inside = in_body f n h.inside; touches = node_same access n h.node l h.there h.touches }

    pub touches_same : (access : Access) (f l : ℕ) → Touches (setting_in world) system family access f l → Touches own system family access f l
    touches_same access f l (inl (n, h)) = inl (n, own_same access n f l h)
    touches_same access f l (inr h) = inr (record { call = h.call; there = h.there; caller = h.caller; touches = h.touches })
