-- Initialisers of static objects, one after another.
use Rattle.std.proofs.Common.{arith, ◌≡◌, ℕ, zero, suc, ◌+◌, ◌<◌, ◌≤◌, List, [], ◌∷◌, ◌++◌, length, Option, Some, None, false, All, drop, slice_get, refl, ap, sym, ◌∙◌}
use Rattle.std.proofs.lemmas.List.{append-nil}
use Rattle.std.proofs.lemmas.List.Elements.{All-nil, All-cons, All-head, All-tail}
use Rattle.std.proofs.lemmas.Option.{slice_get_within}
use Rattle.std.proofs.Math.ListN.{drop_of_length-le}
use Rattle.c_types.specs.declared.term.PathStep.{PathStep}
use Rattle.core_tree.specs.declared.node.Node.{Node}
use Rattle.core_tree.specs.declared.node.NodeKind.{NodeKind}
use Rattle.core_tree.specs.declared.node.NodeKind.TheVariants.{Initialise}
use Rattle.core_tree.specs.declared.node.Entity.{Entity}
use Rattle.core_tree.specs.Range.{InRange}
use Rattle.core_tree.specs.Typed.{CoreTrees}
use Rattle.c_types.specs.declared.key.ObjectKey.{ObjectKey}
use Rattle.c_types.specs.declared.key.ObjectKey.TheVariants.{Entity as EntityKey}
use Rattle.ref_cells.specs.declared.cells.Value.{Value}
use Rattle.ref_cells.specs.declared.instance.Instance.{Instance}
use Rattle.ref_cells.specs.Places.{AreKnown}
use Rattle.ref_mem.specs.declared.writes.Initial.{Initial}
use Rattle.ref_mem.specs.Writes.{initialised}
use Rattle.ref_places.specs.Places.{first_instance}
use Rattle.ref_frames.proofs.Arguments.{drop_next}
use Rattle.ref_start.specs.Start.{id_in, cells_by, part_of, parts_of, filled_at, filled_by, filled_in, filled_if, all_filled, filled_over}
use Rattle.ref_start.specs.Fixed.{Fixing, fixed, value_at, PartsGiven, static_body}
use Rattle.ref_start.proofs.ObjectSteps.{changed_known}
use Rattle.ref_start.proofs.FirstInstances.{changed_first}

no_children : (nodes : List Node) (fix : Fixing) (paths : List (List PathStep)) → parts_of nodes fix paths [] ≡ []
no_children nodes fix [] = refl
no_children nodes fix (path ∷ paths) = refl

module _ (nodes : List Node) (fix : Fixing) where
  pub children_end : (ps : List (List PathStep)) (vs : List ℕ) (i : ℕ) (parts all : List Initial) → length vs ≤ i
      → parts ++ parts_of nodes fix (drop i ps) (drop i vs) ≡ all → parts ≡ all
  children_end ps vs i parts all past h =
      sym (append-nil parts)
      ∙ (sym (ap (λ (ys : List ℕ). parts ++ parts_of nodes fix (drop i ps) ys) (drop_of_length-le vs past)
      ∙ ap (λ (xs : List Initial). parts ++ xs) (no_children nodes fix (drop i ps))) ∙ h)

-- operands with the same values give the same parts
parts_same : (nodes : List Node) (f g : Fixing) (paths : List (List PathStep)) (vs : List ℕ) → All (λ v. f v ≡ g v) vs → parts_of nodes f paths vs ≡ parts_of nodes g paths vs
parts_same nodes f g [] vs same = refl
parts_same nodes f g (path ∷ paths) [] same = refl
parts_same nodes f g (path ∷ paths) (v ∷ vs) same =
    ap (λ (o : Option Value). record { path = path; ty = id_in (slice_get nodes v); cells = cells_by o } ∷ parts_of nodes f paths vs) (All-head (λ v. f v ≡ g v) v vs same)
    ∙ ap (λ (ps : List Initial). part_of nodes g path v ∷ ps) (parts_same nodes f g paths vs (All-tail (λ v. f v ≡ g v) v vs same))

none_within : {X : Type 0} (xs : List X) (i : ℕ) → i < length xs → slice_get xs i ≡ None → ⊥
none_within [] i lt e = omega (arith, lt)
none_within (x ∷ xs) zero lt e = cc
none_within (x ∷ xs) (suc i) lt e = none_within xs i (omega (arith, lt)) e

pub children_within : (u : CoreTrees) → InRange u → (n : ℕ) (node : Node) → slice_get u.nodes n ≡ Some node → All (λ v. v < length u.nodes) node.children
children_within u range n node there k d lt = omega (arith, range.children n node there k d lt, slice_get_within u.nodes n node there)

module _ (u : CoreTrees) (range : InRange u) (fix : Fixing) where
  abbrev Typed : Initial → Type 0
  Typed part = part.ty.0 < length u.types.terms

  id_known : (v : ℕ) (o : Option Node) → v < length u.nodes → slice_get u.nodes v ≡ o → (id_in o).0 < length u.types.terms
  id_known v None lt there = absurd (none_within u.nodes v lt there)
  id_known v (Some node) lt there = range.types v node there

  -- the types of parts are the table's
  pub parts_known : (paths : List (List PathStep)) (vs : List ℕ) → All (λ v. v < length u.nodes) vs → All Typed (parts_of u.nodes fix paths vs)
  parts_known [] vs within = All-nil Typed
  parts_known (path ∷ paths) [] within = All-nil Typed
  parts_known (path ∷ paths) (v ∷ vs) within =
      All-cons Typed (part_of u.nodes fix path v) (parts_of u.nodes fix paths vs)
      (id_known v (slice_get u.nodes v) (All-head (λ v. v < length u.nodes) v vs within) refl)
      (parts_known paths vs (All-tail (λ v. v < length u.nodes) v vs within))

module _ (u : CoreTrees) (objects : List Instance) where
  -- an initialiser, from a table that has its values
  pub filled_is : (memory : List Instance) (table : List (Option Value)) (n : ℕ) (node : Node) (e : ℕ) (paths : List (List PathStep)) (parts : List Initial)
      → PartsGiven u objects table n
      → slice_get u.nodes n ≡ Some node
      → node.kind ≡ Initialise e paths
      → parts ≡ parts_of u.nodes (value_at table) paths node.children
      → filled_if u objects memory (Some n) ≡ filled_at u memory (first_instance (EntityKey e) 0 memory) parts
  filled_is memory table n node e paths parts given there is made =
      ap (filled_in u objects memory) there
      ∙ (ap (λ (kind : NodeKind). filled_by u objects memory kind node.children) is
      ∙ ap (filled_at u memory (first_instance (EntityKey e) 0 memory))
      (sym (made ∙ parts_same u.nodes (value_at table) (fixed u objects) paths node.children (given node there))))

  pub filled_next : (entities : List Entity) (i : ℕ) (entity : Entity) (memory all : List Instance) → slice_get entities i ≡ Some entity
      → all_filled u objects (drop i entities) memory ≡ all
      → all_filled u objects (drop (i + 1) entities) (filled_if u objects memory (static_body entity)) ≡ all
  filled_next entities i entity memory all at h =
      sym (ap (λ (xs : List Entity). all_filled u objects xs memory) (drop_next entities i entity at)) ∙ h

  -- the first instance of an object stays
  module _ (key : ObjectKey) where
    at_first : (memory : List Instance) (o : Option ℕ) (parts : List Initial) → first_instance key 0 (filled_at u memory o parts) ≡ first_instance key 0 memory
    at_first memory None parts = refl
    at_first memory (Some i) parts = changed_first key memory i (initialised u.types false parts) (λ inst. refl) (slice_get memory i) refl

    by_first : (memory : List Instance) (kind : NodeKind) (children : List ℕ) → first_instance key 0 (filled_by u objects memory kind children) ≡ first_instance key 0 memory
    by_first memory (Initialise e paths) children =
        at_first memory (first_instance (EntityKey e) 0 memory) (parts_of u.nodes (fixed u objects) paths children)
    by_first memory kind children = refl

    in_first : (memory : List Instance) (o : Option Node) → first_instance key 0 (filled_in u objects memory o) ≡ first_instance key 0 memory
    in_first memory None = refl
    in_first memory (Some node) = by_first memory node.kind node.children

    pub if_first : (memory : List Instance) (o : Option ℕ) → first_instance key 0 (filled_if u objects memory o) ≡ first_instance key 0 memory
    if_first memory None = refl
    if_first memory (Some b) = in_first memory (slice_get u.nodes b)

  module _ (n : ℕ) where
    at_known : (memory : List Instance) (o : Option ℕ) (parts : List Initial) → AreKnown n memory → AreKnown n (filled_at u memory o parts)
    at_known memory None parts known = known
    at_known memory (Some i) parts known =
        changed_known n memory i (initialised u.types false parts) (λ inst. refl) known (slice_get memory i) refl

    by_known : (memory : List Instance) (kind : NodeKind) (children : List ℕ) → AreKnown n memory → AreKnown n (filled_by u objects memory kind children)
    by_known memory (Initialise e paths) children known =
        at_known memory (first_instance (EntityKey e) 0 memory) (parts_of u.nodes (fixed u objects) paths children) known
    by_known memory kind children known = known

    in_known : (memory : List Instance) (o : Option Node) → AreKnown n memory → AreKnown n (filled_in u objects memory o)
    in_known memory None known = known
    in_known memory (Some node) known = by_known memory node.kind node.children known

    pub if_known : (memory : List Instance) (o : Option ℕ) → AreKnown n memory → AreKnown n (filled_if u objects memory o)
    if_known memory None known = known
    if_known memory (Some b) known = in_known memory (slice_get u.nodes b) known

    all_known : (entities : List Entity) (memory : List Instance) → AreKnown n memory → AreKnown n (all_filled u objects entities memory)
    all_known [] memory known = known
    all_known (entity ∷ rest) memory known = all_known rest (filled_if u objects memory (static_body entity)) (if_known memory (static_body entity) known)

    pub over_known : AreKnown n objects → AreKnown n (filled_over u objects)
    over_known known = all_known u.entities objects known
