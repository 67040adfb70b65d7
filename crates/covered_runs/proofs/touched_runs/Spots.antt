-- Each cell of a covered memory has a location.
use Rattle.std.proofs.Common.{◌≡◌, ◌∙◌, ℕ, ◌+◌, List, [], ◌∷◌, Option, Some, None, IsSome, refl, sym, ap, subst, false}
use Rattle.std.specs.Option.{option_map}
use Rattle.std.proofs.lemmas.Bool.{false≢true}
use Rattle.c_types.specs.declared.key.ObjectKey.{ObjectKey}
use Rattle.c_types.specs.declared.term.PathStep.{PathStep}
use Rattle.c_types.specs.declared.term.PathStep.TheVariants.{Index}
use Rattle.c_types.specs.Trees.{Ctype}
use Rattle.sol_model.specs.declared.system.System.{System}
use Rattle.obj_made.specs.declared.object.Content.{Content}
use Rattle.obj_made.specs.declared.object.Content.TheVariants.{Function as FunctionContent, Blob, Scalar, Scalars, Typed, Elements}
use Rattle.obj_space.specs.declared.location.Location.{Location}
use Rattle.obj_space.specs.Spots.{reached, part_at, node_in}
use Rattle.ref_cells.specs.declared.instance.Instance.{Instance}
use Rattle.ref_cells.specs.Wholes.{whole_of}
use Rattle.covering_laws.specs.covered_memory.Spots.{spot, spot_at, spot_from, room, IsInTree}
use Rattle.covering_laws.specs.covered_memory.Covered.{Sets, HasShape, InstanceIn, MemoryIn}
use Rattle.covering_laws.specs.covered_memory.Demands.{Grounds}
use Rattle.covering_laws.proofs.covered_memory.Anchors.{spot_is}
use Rattle.covered_runs.specs.touched_runs.Accesses.{IsCell}

none_some : {X : Type 0} → {x : X} → ◌≡◌ {A = Option X} None (Some x) → ⊥
none_some h = cc

there : {X : Type 0} (o : Option X) → IsSome o → (x : X) × (o ≡ Some x)
there None h = absurd (false≢true h)
there (Some x) h = (x, refl)

module _ (g : Sets) (system : System) (grounds : Grounds g.table g.space system) (memory : List Instance) (all : MemoryIn g memory) where
  -- where an object has no type, an element of it has the object's location
  element_node : (first j : ℕ) (content : Content) → HasShape g.table content None → IsSome (option_map (λ (n : ℕ). first + n) (node_in g.table content (Index j ∷ [])))
  element_node first j Blob shape = refl
  element_node first j (Elements id) shape = refl
  element_node first j FunctionContent shape = absurd shape
  element_node first j (Scalar number) shape = absurd (none_some shape.1)
  element_node first j (Scalars number) shape = absurd (none_some shape.2)
  element_node first j (Typed id) shape = absurd (none_some shape.0)

  pub cell_spot : (i : ℕ) (key : ObjectKey) (path : List PathStep) → IsCell g.table memory i key path → IsSome (spot g.table g.space key path)
  cell_spot i key path c = subst (λ (k : ObjectKey). IsSome (spot g.table g.space k path)) c.key_is (by (whole_of g.table c.inst) refl c.in_tree)
    where
      inside : InstanceIn g memory c.inst
      inside = all i c.inst c.there

      by : (o : Option Ctype) → whole_of g.table c.inst ≡ o → IsInTree g.table o (room c.inst) path → IsSome (spot g.table g.space c.inst.key path)
      by (Some whole) is tree =
          let shape : HasShape g.table inside.location.content (Some whole) = subst (HasShape g.table inside.location.content) is inside.shape in
          let r = there (part_at g.table (Some (reached whole 0 false)) path) tree in
          subst (λ (o : Option ℕ). IsSome o)
          (sym (spot_is g.table g.space system grounds c.inst.key inside.first inside.location inside.first_is inside.location_is (Some whole) shape path r.0 r.1)) refl
      by None is tree =
          let shape : HasShape g.table inside.location.content None = subst (HasShape g.table inside.location.content) is inside.shape in
          let value : spot g.table g.space c.inst.key (Index tree.0 ∷ []) ≡ option_map (λ (n : ℕ). inside.first + n) (node_in g.table inside.location.content (Index tree.0 ∷ [])) =
          ap (λ (o : Option ℕ). spot_from g.table g.space o (Index tree.0 ∷ [])) inside.first_is ∙ ap (λ (o : Option Location). spot_at g.table inside.first o (Index tree.0 ∷ [])) inside.location_is in
          subst (λ (p : List PathStep). IsSome (spot g.table g.space c.inst.key p)) (sym tree.1)
          (subst (λ (o : Option ℕ). IsSome o) (sym value) (element_node inside.first tree.0 inside.location.content shape))
