-- The location of a part of an object is one of those under the location of a part above it.
use Rattle.std.proofs.Common.{arith, ◌≡◌, ◌∙◌, inl, inr, ℕ, ◌+◌, ◌<◌, Bool, true, false, cond, eqb, List, [], ◌∷◌, ◌++◌, length, Option, Some, None, IsSome, slice_get, refl, sym, ap, subst}
use Rattle.std.specs.Option.{option_and_then}
use Rattle.std.proofs.lemmas.Bool.{false≢true}
use Rattle.std.proofs.lemmas.Bool.Decides.{eqb_tells}
use Rattle.std.proofs.lemmas.List.{get_or_past}
use Rattle.std.proofs.lemmas.Option.{slice_get_within, slice_get_cases}
use Rattle.c_types.specs.declared.key.ObjectKey.{ObjectKey}
use Rattle.c_types.specs.declared.term.MemberTerm.{MemberTerm}
use Rattle.c_types.specs.declared.term.PathStep.{PathStep}
use Rattle.c_types.specs.declared.term.PathStep.TheVariants.{Index, Member}
use Rattle.c_types.specs.declared.term.Term.{Term}
use Rattle.c_types.specs.declared.term.Term.TheVariants.{Array, Structure, Union}
use Rattle.c_types.specs.declared.term.TypeId.{TypeId}
use Rattle.c_types.specs.Trees.{Ctype, VoidType, ArrayOf, StructureOf, UnionOf, grow}
use Rattle.c_types.specs.Parts.{field_in}
use Rattle.c_types.specs.Table.{Table, type_of, types_of, extent_in, size_below, members_in}
use Rattle.c_types.specs.Paths.{with_length, member_type}
use Rattle.c_types.specs.Made.{IsMade, AreNamed}
use Rattle.c_types.proofs.Grow.{grown_length}
use Rattle.type_rules.proofs.term_types.Grown.{types_grown}
use Rattle.sol_model.specs.declared.system.System.{System}
use Rattle.sol_model.specs.declared.system.LocationFact.{LocationFact}
use Rattle.sol_model.specs.Places.{node_from, sub_of, nodes_of as system_nodes}
use Rattle.obj_made.specs.declared.object.Content.{Content}
use Rattle.obj_made.specs.declared.object.Content.TheVariants.{Function as FunctionContent, Blob, Scalar, Scalars, Typed, Elements}
use Rattle.obj_space.specs.declared.location.Location.{Location}
use Rattle.obj_space.specs.Parts.{nodes_of}
use Rattle.obj_space.specs.Spots.{Reached, reached, member_reached, step_by, part_at}
use Rattle.obj_space.specs.View.{first_from}
use Rattle.obj_space.proofs.Preorder.{nodes_repeated}
use Rattle.obj_space.proofs.Reach.{path_nodes}
use Rattle.row_numbers.specs.Kept.{nodes_of as kept_nodes}
use Rattle.row_numbers.specs.Numbers.{type_number}
use Rattle.linked_laws.proofs.system_laws.fact_laws.Facts.{nodes_known}
use Rattle.mod_ref.specs.Places.{extent_by, extent_at, IsUnder}
use Rattle.ref_cells.specs.declared.instance.Instance.{Instance}
use Rattle.ref_cells.specs.Wholes.{is_allocated, elements_of, array_in, typed_whole, whole_of}
use Rattle.covering_laws.specs.covered_types.Whole.{HasFew}
use Rattle.covering_laws.specs.covered_memory.Covered.{Sets, object_row, HasShape}
use Rattle.covering_laws.specs.covered_memory.Demands.{Grounds}
use Rattle.covering_laws.proofs.covered_memory.Access.{shape_complete}
use Rattle.covering_laws.proofs.covered_memory.Anchors.{from_whole, at_part}
use Rattle.covering_laws.proofs.covered_memory.Filled.{nowhere}
use Rattle.covering_laws.proofs.covered_memory.Parts.{same_length, enters, first_node, stripped, path_complete, union_complete, few_nodes}
use Rattle.covering_laws.proofs.covered_memory.Puts.{part_along}

some_one : {X : Type 0} → {x y : X} → ◌≡◌ {A = Option X} (Some x) (Some y) → x ≡ y
some_one h = cc

none_some : {X : Type 0} → {x : X} → ◌≡◌ {A = Option X} None (Some x) → ⊥
none_some h = cc

-- a part of a complete type is at one of the type's nodes
node_there : (table : Table) → IsMade table → (t : Ctype) (path : List PathStep) (r : Reached) → IsSome (extent_in table t) → part_at table (Some (reached t 0 false)) path ≡ Some r
    → (b : Ctype) × (slice_get (nodes_of (extent_in table t)) r.node ≡ Some b)
node_there table made t path r complete e = by r.inside refl
  where
    here : r.node + 0 ≡ r.node
    here = omega arith

    by : (b : Bool) → r.inside ≡ b → (b : Ctype) × (slice_get (nodes_of (extent_in table t)) r.node ≡ Some b)
    by false out =
        let first = first_node table made r.ty (path_complete table made t 0 false path r complete e) in
        (stripped r.ty, ap (slice_get (nodes_of (extent_in table t))) (sym here) ∙ path_nodes table made t path r complete e out 0 (stripped r.ty) first)
    by true i =
        let u = enters table t 0 path r e i in
        let first = first_node table made (UnionOf u.tag) (union_complete table made u.tag u.members u.members_are) in (
          UnionOf u.tag,
          ap (slice_get (nodes_of (extent_in table t))) (sym here)
              ∙ path_nodes table made t u.front (reached (UnionOf u.tag) r.node false) complete u.there refl 0 (UnionOf u.tag) first,
        )

module _ (table : Table) (named : AreNamed table) where
  -- a type of the table
  abbrev IsListed : Ctype → Type 0
  IsListed t = (id : ℕ) × (t ≡ type_of table id)

  member_listed : (o : Option (List MemberTerm)) (k : ℕ) (s : Ctype) → member_type table o k ≡ Some s → IsListed s
  member_listed None k s e = absurd (none_some e)
  member_listed (Some ms) k s e = by (slice_get ms k) e
    where
      by : (m : Option MemberTerm) → option_and_then (λ (x : MemberTerm). with_length (type_of table x.ty.0)) m ≡ Some s → IsListed s
      by None h = absurd (none_some h)
      by (Some m) h = (m.ty.0, sym (same_length table (type_of table m.ty.0) s h))

  reached_listed : (whole : Ctype) (w : Option Ctype) (p : Option ℕ) (n : ℕ) (b : Bool) (q : Reached) → member_reached whole w p n b ≡ Some q → ((s : Ctype) → w ≡ Some s → IsListed s) → IsListed q.ty
  reached_listed whole None p n b q e f = absurd (none_some e)
  reached_listed whole (Some s) p n true q e f = subst IsListed (ap (λ (x : Reached). x.ty) (some_one e)) (f s refl)
  reached_listed whole (Some s) None n false q e f = absurd (none_some e)
  reached_listed whole (Some s) (Some k) n false q e f = subst IsListed (ap (λ (x : Reached). x.ty) (some_one e)) (f s refl)

  -- one step from a type of the table
  of_term : (t : Term) (n : ℕ) (b : Bool) (step : PathStep) (q : Reached) → step_by table (grow (types_of table) t) n b step ≡ Some q → IsListed q.ty
  of_term (Array of k) n b (Index i) q h = (of.0, sym (ap (λ (x : Reached). x.ty) (some_one h)))
  of_term (Array of None) n b (Member m) q h = absurd (none_some h)
  of_term (Array of (Some c)) n b (Member m) q h = absurd (none_some h)
  of_term (Structure tag) n b (Member m) q h =
      reached_listed (StructureOf tag) (member_type table (members_in table tag) m) (field_in table (StructureOf tag) m) n b q h (λ s is. member_listed (members_in table tag) m s is)
  of_term (Union tag) n b (Member m) q h =
      reached_listed (UnionOf tag) (member_type table (members_in table tag) m) (field_in table (UnionOf tag) m) n b q h (λ s is. member_listed (members_in table tag) m s is)
  of_term t n b (Index i) q h = absurd (none_some h)
  of_term t n b (Member m) q h = absurd (none_some h)

  void_none : (n : ℕ) (b : Bool) (step : PathStep) (q : Reached) → step_by table VoidType n b step ≡ Some q → ⊥
  void_none n b (Index i) q h = none_some h
  void_none n b (Member m) q h = none_some h

  step_listed : (id n : ℕ) (b : Bool) (step : PathStep) (q : Reached) → step_by table (type_of table id) n b step ≡ Some q → IsListed q.ty
  step_listed id n b step q h = elim (slice_get_cases table.terms id).1 [
    | inl p ↦ of_term p.0 n b step q (sym (ap (λ (t : Ctype). step_by table t n b step) (types_grown table id p.0 named p.2)) ∙ h)
    | inr past ↦
        let long = grown_length [] table.terms in
        let far = past.0 in
        let void : type_of table id ≡ VoidType = get_or_past (types_of table) id VoidType (omega arith) in
        absurd (void_none n b step q (sym (ap (λ (t : Ctype). step_by table t n b step) void) ∙ h))
  ]

  path_listed : (path : List PathStep) (t : Ctype) (n : ℕ) (b : Bool) (r : Reached) → IsListed t → part_at table (Some (reached t n b)) path ≡ Some r → IsListed r.ty
  path_listed [] t n b r h e = (h.0, sym (ap (λ (x : Reached). x.ty) (some_one e)) ∙ h.1)
  path_listed (step ∷ rest) t n b r h e = by (step_by table t n b step) refl e (λ s m c. path_listed rest s m c r)
    where
      by : (o : Option Reached) → step_by table t n b step ≡ o → part_at table o rest ≡ Some r → ((s : Ctype) (m : ℕ) (c : Bool) → IsListed s → part_at table (Some (reached s m c)) rest ≡ Some r → IsListed r.ty) → IsListed r.ty
      by None is f next = absurd (none_some (sym (nowhere table rest) ∙ f))
      by (Some q) is f next = next q.ty q.node q.inside (step_listed h.0 n b step q (sym (ap (λ (s : Ctype). step_by table s n b step) h.1) ∙ is)) f

module _ (g : Sets) (system : System) (grounds : Grounds g.table g.space system) (few : HasFew g.table) where
  -- the system knows each node of a type
  abbrev pub IsKnown : Ctype → Type 0
  IsKnown t = (i : ℕ) → i < length (nodes_of (extent_in g.table t)) → i < system_nodes system (type_number t)

  pub listed_known : (id : ℕ) → IsKnown (type_of g.table id)
  listed_known id i lt = (nodes_known g.table grounds.made grounds.named system grounds.types id i within).within
    where
      within : i < length (kept_nodes g.table (type_of g.table id))
      within = subst (λ (ns : List Ctype). i < length ns) (sym (few_nodes g.table grounds.made (extent_in g.table (type_of g.table id)) (few id))) lt

  pub repeated_known : (t : Ctype) (n : ℕ) → IsKnown t → IsKnown (ArrayOf t (Some n))
  repeated_known t n h i lt = h i (subst (λ (ns : List Ctype). i < length ns) (nodes_repeated n (extent_in g.table t)) lt)

  known_of : (t : Ctype) → IsListed g.table grounds.named t → IsKnown t
  known_of t h = subst IsKnown (sym h.1) (listed_known h.0)

  -- and each of the type of a part of an instance
  pub part_known : (inst : Instance) (whole : Ctype) (path : List PathStep) (r : Reached) → whole_of g.table inst ≡ Some whole → part_at g.table (Some (reached whole 0 false)) path ≡ Some r → IsKnown r.ty
  part_known inst whole path r e f = by inst.ty e
    where
      in_array : (id n : ℕ) (p : List PathStep) → part_at g.table (Some (reached (ArrayOf (type_of g.table id) (Some n)) 0 false)) p ≡ Some r → IsKnown r.ty
      in_array id n [] h = subst IsKnown (ap (λ (x : Reached). x.ty) (some_one h)) (repeated_known (type_of g.table id) n (listed_known id))
      in_array id n (Index i ∷ rest) h = known_of r.ty (path_listed g.table grounds.named rest (type_of g.table id) 0 false r (id, refl) h)
      in_array id n (Member k ∷ rest) h = absurd (none_some (sym (nowhere g.table rest) ∙ h))

      of_key : (id : TypeId) (b : Bool) → cond b (array_in g.table inst.key inst.bytes (type_of g.table id.0)) (type_of g.table id.0) ≡ whole → IsKnown r.ty
      of_key id true h = in_array id.0 (elements_of inst.key inst.bytes (size_below (extent_in g.table (type_of g.table id.0)))) path (ap (λ (t : Ctype). part_at g.table (Some (reached t 0 false)) path) h ∙ f)
      of_key id false h = known_of r.ty (path_listed g.table grounds.named path whole 0 false r (id.0, sym h) f)

      by : (o : Option TypeId) → typed_whole g.table inst o ≡ Some whole → IsKnown r.ty
      by None h = absurd (none_some h)
      by (Some id) h = of_key id (is_allocated inst.key) (some_one h)

  -- a location that is reached from another one as a node of a type
  pub record IsSub (at ty l : ℕ) : Type 0 where
    pub sub : ℕ
    pub within : sub < system_nodes system ty
    pub is : sub_of system at ty sub ≡ Some l

  -- a part below a part of an object
  pub part_sub : (key : ObjectKey) (first : ℕ) (x : Location) → first_from 0 g.space key ≡ Some first → slice_get g.space first ≡ Some x → (whole : Ctype) → HasShape g.table x.content (Some whole)
      → (front below : List PathStep) (top r : Reached) → part_at g.table (Some (reached whole 0 false)) front ≡ Some top → part_at g.table (Some (reached whole 0 false)) (front ++ below) ≡ Some r → IsKnown top.ty
      → IsSub (object_row x.content first top.node) (type_number top.ty) (object_row x.content first r.node)
  part_sub key first x first_is x_is whole shape front below top r top_is r_is known =
      let under : part_at g.table (Some top) below ≡ Some r =
      sym (part_along g.table (Some (reached whole 0 false)) front below ∙ ap (λ (o : Option Reached). part_at g.table o below) top_is) ∙ r_is in
      let b = from_whole g.table top below r under in
      let complete = path_complete g.table grounds.made whole 0 false front top (shape_complete g system grounds x.content whole shape) top_is in
      let node = node_there g.table grounds.made top.ty below b.0 complete b.1.own_is in
      record {
        sub = b.0.node;
        within = known b.0.node (slice_get_within (nodes_of (extent_in g.table top.ty)) b.0.node node.0 node.1);
        is = at_part g.table g.space system grounds key first x first_is x_is (Some whole) shape front top top_is b.0.node r.node b.1.leads;
      }

  -- it lies under it
  pub sub_under : (at ty l : ℕ) → IsSub at ty l → IsUnder system at l
  sub_under at ty l s = by (slice_get system.locations at) refl s.is
    where
      same_number : (a b : ℕ) → eqb a b ≡ true → a ≡ b
      same_number a b e = elim (eqb_tells a b) [ inl same ↦ same.1 | inr other ↦ absurd (false≢true (sym other.0 ∙ e)) ]

      at_fact : (fact : LocationFact) → slice_get system.locations at ≡ Some fact → (c : Bool) → fact.collapsed ≡ c → (t : Bool) → eqb fact.ty ty ≡ t → cond c (Some at) (cond t (Some (at + s.sub)) None) ≡ Some l → IsUnder system at l
      at_fact fact is true c t t_is h =
          let same : at ≡ l = some_one h in
          let size : extent_at system at ≡ 1 = ap (extent_by system) is ∙ ap (λ (b : Bool). cond b 1 (system_nodes system fact.ty)) c in
          (omega arith, omega arith)
      at_fact fact is false c true t_is h =
          let same : at + s.sub ≡ l = some_one h in
          let number : system_nodes system fact.ty ≡ system_nodes system ty = ap (system_nodes system) (same_number fact.ty ty t_is) in
          let size : extent_at system at ≡ system_nodes system ty = ap (extent_by system) is ∙ (ap (λ (b : Bool). cond b 1 (system_nodes system fact.ty)) c ∙ number) in
          let lt = s.within in
          (omega arith, omega arith)
      at_fact fact is false c false t_is h = absurd (none_some h)

      by : (o : Option LocationFact) → slice_get system.locations at ≡ o → node_from o at ty s.sub ≡ Some l → IsUnder system at l
      by None is h = absurd (none_some h)
      by (Some fact) is h = at_fact fact is fact.collapsed refl (eqb fact.ty ty) refl h

  -- an object's row begins at its location
  pub object_start : (content : Content) (first : ℕ) → object_row content first 0 ≡ first
  object_start Blob first = refl
  object_start FunctionContent first = omega arith
  object_start (Scalar number) first = omega arith
  object_start (Scalars number) first = omega arith
  object_start (Typed id) first = omega arith
  object_start (Elements id) first = omega arith
