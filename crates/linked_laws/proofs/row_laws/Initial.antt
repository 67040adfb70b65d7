-- The values of initialisers in the program.
use Rattle.std.proofs.Common.{◌≡◌, ◌≢◌, ◌∙◌, ◌⊎◌, ℕ, ◌<◌, List, [], ◌∷◌, length, map, Option, Some, None, All, refl, sym, ap, subst, inl, inr}
use Rattle.std.specs.List.{slice_get}
use Rattle.std.proofs.lemmas.List.Elements.{All-head}
use Rattle.std.proofs.lemmas.Option.{slice_get_within}
use Rattle.c_types.specs.declared.term.PathStep.{PathStep}
use Rattle.c_types.specs.Trees.{Ctype, ArrayOf, FunctionFrom}
use Rattle.c_types.specs.Table.{Table, type_of}
use Rattle.c_types.specs.Paths.{part_type, type_at_path}
use Rattle.core_tree.specs.declared.node.Unit.{Unit}
use Rattle.core_tree.specs.declared.node.Program.{Program}
use Rattle.core_tree.specs.declared.node.Node.{Node}
use Rattle.core_tree.specs.declared.node.Entity.{Entity}
use Rattle.core_tree.specs.declared.node.Storage.{Storage}
use Rattle.core_tree.specs.declared.node.Storage.TheVariants.{Static, Automatic, FunctionBody, Parameter, Declared as DeclaredOnly}
use Rattle.core_tree.specs.declared.node.NodeKind.{NodeKind}
use Rattle.core_tree.specs.declared.node.NodeKind.TheVariants.{Initialise}
use Rattle.core_tree.specs.Typed.{ValueNode, sort_in, sort_at, type_at, trees_in, trees_of}
use Rattle.core_tree.specs.Rows.{Initialises, InitialisesEntity, InitialisesIn, InitialValues, entity_type}
use Rattle.core_tree.specs.Valid.{IsLocal, IsFixed, LivesForTheRun, HoldsFixed}
use Rattle.link_model.specs.Renamed.{renamed}
use Rattle.link_model.specs.Merged.{moved}
use Rattle.unit_link.specs.Linked.{LinkedAt}
use Rattle.unit_link.specs.Needs.{AreLinkable}
use Rattle.unit_link.specs.Places.{node_place}
use Rattle.linked_laws.specs.merged_laws.Merged.{AreTables}
use Rattle.linked_laws.proofs.node_laws.Children.{child_sort, child_type}
use Rattle.linked_laws.specs.alike_laws.Alike.{IsClosed}
use Rattle.link_model.specs.filled_units.Filled.{AreFilled}
use Rattle.linked_laws.proofs.embedded_laws.Lists.{some_one}
use Rattle.linked_laws.proofs.embedded_laws.Entities.{stands_at, keeps_type}
use Rattle.linked_laws.proofs.initial_laws.Paths.{path_none, part_closed, path_moved}
use Rattle.linked_laws.proofs.row_laws.Fixed.{fixed_closed}

-- whether a type is closed
closed_or : (t : Ctype) → IsClosed t ⊎ (IsClosed t → ⊥)
closed_or (FunctionFrom r ps f) = inr (λ c. c)
closed_or (ArrayOf of None) = inr (λ c. c)
closed_or (ArrayOf of (Some n)) = inl tt
closed_or t = inl tt

closed_on : (f : ℕ → ℕ) (t : Ctype) → IsClosed t → IsClosed (renamed f t)
closed_on f (FunctionFrom r ps form) c = c
closed_on f (ArrayOf of None) c = c
closed_on f (ArrayOf of (Some n)) c = tt
closed_on f t c = tt

-- the type at a path from one that isn't closed
open_path : (table : Table) (t : Ctype) (path : List PathStep) (s : Ctype) → (IsClosed t → ⊥) → type_at_path table (Some t) path ≡ Some s → t ≡ s
open_path table t [] s loose e = some_one e
open_path table t (step ∷ rest) s loose e = by (part_type table t step) refl e
  where
    by : (o : Option Ctype) → part_type table t step ≡ o → type_at_path table o rest ≡ Some s → t ≡ s
    by None part h = absurd (path_none table rest s h)
    by (Some q) part h = absurd (loose (part_closed table t step q part))

-- an object that has its place and is no local lives for the run
static_by : (s : Storage) → (IsLocal s → ⊥) → s ≢ FunctionBody → s ≢ DeclaredOnly → s ≡ Static
static_by Static local body declared = refl
static_by Automatic local body declared = absurd (local tt)
static_by Parameter local body declared = absurd (local tt)
static_by FunctionBody local body declared = absurd (body refl)
static_by DeclaredOnly local body declared = absurd (declared refl)

sorted_within : (of : Unit) (c : ℕ) → sort_at (trees_of of) c ≡ ValueNode → c < length of.nodes.items
sorted_within of c e = by (slice_get of.nodes.items c) refl e
  where
    by : (o : Option Node) → slice_get of.nodes.items c ≡ o → sort_in o ≡ ValueNode → c < length of.nodes.items
    by None at sort = absurd (let bad : ⊥ = cc in bad)
    by (Some x) at sort = slice_get_within of.nodes.items c x at

module _ {names : List (List ℕ)} (units : List Unit) (p : Program) (linkable : AreLinkable units) (tables : AreTables units) (filled : AreFilled units) (h : LinkedAt names units p) (u : ℕ) (of : Unit) (is : slice_get units u ≡ Some of) where
  abbrev place : ℕ → ℕ
  place c = node_place units u c

  -- an entity whose type is the unit's
  initial_same : (t now : Ctype) → moved h.numbers u t ≡ now → (paths : List (List PathStep)) (values : List ℕ) → InitialValues (trees_of of) (Some t) paths values → InitialValues (trees_in p) (Some now) paths (map place values)
  initial_same t now e [] [] row = tt
  initial_same t now e [] (v ∷ values) row = absurd row
  initial_same t now e (path ∷ paths) [] row = absurd row
  initial_same t now e (path ∷ paths) (v ∷ values) row =
      let lt = sorted_within of v row.0 in (
        child_sort units p h u of is v lt ∙ row.0,
        ap (λ (s : Ctype). type_at_path p.types (Some s) path) (sym e)
            ∙ (path_moved units h.numbers p.types tables h.types u of is path t (type_at (trees_of of) v) row.1 ∙ ap (λ (s : Ctype). Some s) (sym (child_type units p h u of is v lt))),
        initial_same t now e paths values row.2,
      )

  -- one whose type isn't closed has no values of closed types
  initial_open : (t now : Ctype) → (IsClosed t → ⊥) → (paths : List (List PathStep)) (values : List ℕ) → All (λ c. IsFixed (trees_of of) c) values → InitialValues (trees_of of) (Some t) paths values
      → InitialValues (trees_in p) (Some now) paths (map place values)
  initial_open t now loose [] [] fixed row = tt
  initial_open t now loose [] (v ∷ values) fixed row = absurd row
  initial_open t now loose (path ∷ paths) [] fixed row = absurd row
  initial_open t now loose (path ∷ paths) (v ∷ values) fixed row =
      let closed = fixed_closed of (linkable.valid u of is).trees v (All-head (λ c. IsFixed (trees_of of) c) v values fixed) in
      absurd (loose (subst IsClosed (sym (open_path of.types t path (type_at (trees_of of) v) loose row.1)) closed))

  pub initial_to : (i e : ℕ) (paths : List (List PathStep)) (node : Node) → slice_get of.nodes.items i ≡ Some node → node.kind ≡ Initialise e paths
      → InitialValues (trees_of of) (entity_type (trees_of of) (slice_get of.entities.items e)) paths node.children
      → InitialValues (trees_in p) (entity_type (trees_in p) (slice_get p.entities.items (h.entity_numbers u e))) paths (map place node.children)
  initial_to i e paths node at kind row =
      let init : Initialises (trees_of of) i e = subst (λ (o : Option Node). InitialisesIn o e) (sym at) (subst (λ (k : NodeKind). InitialisesEntity k e) (sym kind) refl) in
      let (x, x_at, body, no_function, no_declared) = (filled.each u of is).each i e init in
      let t = type_of of.types x.ty.0 in
      let s = stands_at units p linkable h u e of x is x_at in
      let now = type_of p.types s.entity.ty.0 in
      let own : InitialValues (trees_of of) (Some t) paths node.children = subst (λ (o : Option Entity). InitialValues (trees_of of) (entity_type (trees_of of) o) paths node.children) x_at row in
      subst (λ (o : Option Entity). InitialValues (trees_in p) (entity_type (trees_in p) o) paths (map place node.children)) (sym s.there)
      (elim s.which [
        | inl name ↦ elim (closed_or t) [
          | inl closed ↦ initial_same t now ((keeps_type units p linkable h u e of x s.entity is x_at s.there).closed (closed_on (h.numbers.tag u) t closed)) paths node.children own
          | inr loose ↦
              let static = static_by x.storage name.0.lasting no_function no_declared in
              let holds = subst (λ (k : NodeKind). HoldsFixed (trees_of of) k node.children) kind ((linkable.valid u of is).trees.fixed i node at) in
              initial_open t now loose paths node.children (holds (subst (λ (o : Option Entity). LivesForTheRun o) (sym x_at) static)) own
        ]
        | inr other ↦ initial_same t now (sym other.type) paths node.children own
      ])
