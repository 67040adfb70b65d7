-- Parts at the ends of paths: the same path from another node, in a union, and where the nodes of parts stand.
use Rattle.std.proofs.Common.{arith, ◌≡◌, ◌∙◌, ℕ, ◌+◌, ◌≤◌, ◌^◌, Bool, true, false, cond, List, [], ◌∷◌, length, Option, Some, None, IsSome, slice_get, refl, sym, ap, subst, inl, inr}
use Rattle.std.specs.Option.{option_map, option_and_then}
use Rattle.std.proofs.lemmas.Bool.{lt-ltb, false≢true}
use Rattle.c_types.specs.declared.term.MemberTerm.{MemberTerm}
use Rattle.c_types.specs.declared.term.PathStep.{PathStep}
use Rattle.c_types.specs.declared.term.PathStep.TheVariants.{Index, Member}
use Rattle.c_types.specs.Trees.{Ctype, VoidType, BoolType, IntegerType, FloatingType, VaListType, PointerTo, ArrayOf, FunctionFrom, StructureOf, UnionOf}
use Rattle.c_types.specs.Layout.{Extent, of_members, repeated, structure_of, union_of}
use Rattle.c_types.specs.Parts.{unless_flexible, member_node as place_in, position, field_in}
use Rattle.c_types.specs.Paths.{with_length, member_type, part_type}
use Rattle.c_types.specs.Table.{Table, type_of, look_in, extent_in, extents_in, members_in}
use Rattle.c_types.specs.Made.{IsMade, IsFlexible}
use Rattle.c_types.proofs.Nodes.{structure_nodes, union_nodes}
use Rattle.obj_space.specs.Parts.{nodes_of, is_collapsed}
use Rattle.obj_space.specs.Spots.{Reached, reached, member_reached, step_by, part_at}
use Rattle.obj_space.proofs.Followed.{step_member}
use Rattle.obj_space.proofs.Preorder.{nodes_repeated}
use Rattle.obj_space.proofs.Reach.{path_nodes}
use Rattle.row_numbers.specs.Kept.{nodes_in, nodes_of as row_nodes, is_kept, kept_at}
use Rattle.covering_laws.specs.covered_memory.Demands.{IsFew}
use Rattle.covering_laws.proofs.covered_memory.Filled.{nowhere}

some_one : {X : Type 0} → {x y : X} → ◌≡◌ {A = Option X} (Some x) (Some y) → x ≡ y
some_one h = cc

none_some : {X : Type 0} → {x : X} → ◌≡◌ {A = Option X} None (Some x) → ⊥
none_some h = cc

some_none : {X : Type 0} → {x : X} → ◌≡◌ {A = Option X} (Some x) None → ⊥
some_none h = cc

-- a part seen so many nodes further on, and as one in a union
abbrev pub moved : ℕ → Option Reached → Option Reached
moved n None = None
moved n (Some r) = Some (reached r.ty (n + r.node) r.inside)

abbrev pub enclosed : ℕ → Option Reached → Option Reached
enclosed n None = None
enclosed n (Some r) = Some (reached r.ty n true)

member_moved : (whole : Ctype) (w : Option Ctype) (place : Option ℕ) (n m : ℕ) (inside : Bool) → member_reached whole w place (n + m) inside ≡ moved n (member_reached whole w place m inside)
member_moved whole None place n m inside = refl
member_moved whole (Some t) place n m true = refl
member_moved whole (Some t) None n m false = refl
member_moved whole (Some t) (Some p) n m false = ap (λ (k : ℕ). Some (reached t k (is_collapsed whole))) (let e : (n + m) + p ≡ n + (m + p) = omega arith in e)

module _ (table : Table) where
  element_moved : (t : Ctype) (n m i : ℕ) (inside : Bool) → step_by table t (n + m) inside (Index i) ≡ moved n (step_by table t m inside (Index i))
  element_moved VoidType n m i inside = refl
  element_moved BoolType n m i inside = refl
  element_moved (IntegerType size rank signed) n m i inside = refl
  element_moved FloatingType n m i inside = refl
  element_moved VaListType n m i inside = refl
  element_moved (PointerTo to) n m i inside = refl
  element_moved (ArrayOf of k) n m i inside = refl
  element_moved (FunctionFrom r ps f) n m i inside = refl
  element_moved (StructureOf tag) n m i inside = refl
  element_moved (UnionOf tag) n m i inside = refl

  step_moved : (t : Ctype) (n m : ℕ) (inside : Bool) (step : PathStep) → step_by table t (n + m) inside step ≡ moved n (step_by table t m inside step)
  step_moved t n m inside (Index i) = element_moved t n m i inside
  step_moved t n m inside (Member k) =
      step_member table t (n + m) inside k ∙ member_moved t (part_type table t (Member k)) (field_in table t k) n m inside ∙ ap (moved n) (sym (step_member table t m inside k))

  -- the same path from a node further on
  pub part_moved : (t : Ctype) (n m : ℕ) (inside : Bool) (path : List PathStep) → part_at table (Some (reached t (n + m) inside)) path ≡ moved n (part_at table (Some (reached t m inside)) path)
  part_moved t n m inside [] = refl
  part_moved t n m inside (step ∷ rest) =
      ap (λ (o : Option Reached). part_at table o rest) (step_moved t n m inside step) ∙ by (step_by table t m inside step) (λ s k b. part_moved s n k b rest)
    where
      by : (o : Option Reached) → ((s : Ctype) (k : ℕ) (b : Bool) → part_at table (Some (reached s (n + k) b)) rest ≡ moved n (part_at table (Some (reached s k b)) rest))
          → part_at table (moved n o) rest ≡ moved n (part_at table o rest)
      by None each = nowhere table rest ∙ sym (ap (moved n) (nowhere table rest))
      by (Some r) each = each r.ty r.node r.inside

  -- a member with a type has a place
  pub length_place : (t s : Ctype) (n : ℕ) → with_length t ≡ Some s → unless_flexible t n ≡ Some n
  length_place (ArrayOf of None) s n e = absurd (none_some e)
  length_place (ArrayOf of (Some k)) s n e = refl
  length_place VoidType s n e = refl
  length_place BoolType s n e = refl
  length_place (IntegerType size rank signed) s n e = refl
  length_place FloatingType s n e = refl
  length_place VaListType s n e = refl
  length_place (PointerTo to) s n e = refl
  length_place (FunctionFrom r ps f) s n e = refl
  length_place (StructureOf tag) s n e = refl
  length_place (UnionOf tag) s n e = refl

  pub same_length : (t s : Ctype) → with_length t ≡ Some s → t ≡ s
  same_length (ArrayOf of None) s e = absurd (none_some e)
  same_length (ArrayOf of (Some k)) s e = some_one e
  same_length VoidType s e = some_one e
  same_length BoolType s e = some_one e
  same_length (IntegerType size rank signed) s e = some_one e
  same_length FloatingType s e = some_one e
  same_length VaListType s e = some_one e
  same_length (PointerTo to) s e = some_one e
  same_length (FunctionFrom r ps f) s e = some_one e
  same_length (StructureOf tag) s e = some_one e
  same_length (UnionOf tag) s e = some_one e

  no_flexible : (t s : Ctype) → with_length t ≡ Some s → IsFlexible table t → ⊥
  no_flexible (ArrayOf of None) s e f = none_some e
  no_flexible (ArrayOf of (Some k)) s e f = f
  no_flexible VoidType s e f = f
  no_flexible BoolType s e f = f
  no_flexible (IntegerType size rank signed) s e f = f
  no_flexible FloatingType s e f = f
  no_flexible VaListType s e f = f
  no_flexible (PointerTo to) s e f = f
  no_flexible (FunctionFrom r ps f) s e g = g
  no_flexible (StructureOf tag) s e f = f
  no_flexible (UnionOf tag) s e f = f

  -- a member of a structure or union that has members: its type and its place
  pub record IsMemberAt (whole : Ctype) (tag k : ℕ) (place : List MemberTerm → ℕ) (s : Ctype) : Type 0 where
    pub members : List MemberTerm
    pub members_are : members_in table tag ≡ Some members
    pub member : MemberTerm
    pub there : slice_get members k ≡ Some member
    pub type : with_length (type_of table member.ty.0) ≡ Some s
    pub placed : place_in table place (members_in table tag) k ≡ Some (place members)

  member_at : (whole : Ctype) (tag k : ℕ) (place : List MemberTerm → ℕ) (s : Ctype) (o : Option (List MemberTerm)) → members_in table tag ≡ o → member_type table o k ≡ Some s → IsMemberAt whole tag k place s
  member_at whole tag k place s None is e = absurd (none_some e)
  member_at whole tag k place s (Some ms) is e = by (slice_get ms k) refl e
    where
      by : (o : Option MemberTerm) → slice_get ms k ≡ o → option_and_then (λ (m : MemberTerm). with_length (type_of table m.ty.0)) o ≡ Some s → IsMemberAt whole tag k place s
      by None at g = absurd (none_some g)
      by (Some m) at g = record {
        members = ms;
        members_are = is;
        member = m;
        there = at;
        type = g;
        placed = ap (λ (o : Option (List MemberTerm)). place_in table place o k) is
            ∙ (ap (option_and_then (λ (x : MemberTerm). unless_flexible (type_of table x.ty.0) (place ms))) at ∙ length_place (type_of table m.ty.0) s (place ms) g);
      }

  pub structure_at : (tag k : ℕ) (s : Ctype) → part_type table (StructureOf tag) (Member k) ≡ Some s → IsMemberAt (StructureOf tag) tag k (λ ms. position (extents_in table ms) k) s
  structure_at tag k s e = member_at (StructureOf tag) tag k (λ ms. position (extents_in table ms) k) s (members_in table tag) refl e

  pub union_at : (tag k : ℕ) (s : Ctype) → part_type table (UnionOf tag) (Member k) ≡ Some s → IsMemberAt (UnionOf tag) tag k (λ ms. 0) s
  union_at tag k s e = member_at (UnionOf tag) tag k (λ ms. 0) s (members_in table tag) refl e

  -- one step in a union
  pub field_some : (t : Ctype) (k : ℕ) (s : Ctype) → part_type table t (Member k) ≡ Some s → (n : ℕ) × (field_in table t k ≡ Some n)
  field_some (StructureOf tag) k s e = (let m = structure_at tag k s e in (position (extents_in table m.members) k, m.placed))
  field_some (UnionOf tag) k s e = (let m = union_at tag k s e in (0, m.placed))
  field_some (ArrayOf of None) k s e = absurd (none_some e)
  field_some (ArrayOf of (Some n)) k s e = absurd (none_some e)
  field_some VoidType k s e = absurd (none_some e)
  field_some BoolType k s e = absurd (none_some e)
  field_some (IntegerType size rank signed) k s e = absurd (none_some e)
  field_some FloatingType k s e = absurd (none_some e)
  field_some VaListType k s e = absurd (none_some e)
  field_some (PointerTo to) k s e = absurd (none_some e)
  field_some (FunctionFrom r ps f) k s e = absurd (none_some e)

  member_enclosed : (whole : Ctype) (w : Option Ctype) (place : Option ℕ) (n m : ℕ) (b : Bool) → ((s : Ctype) → w ≡ Some s → (p : ℕ) × (place ≡ Some p))
      → member_reached whole w place n true ≡ enclosed n (member_reached whole w place m b)
  member_enclosed whole None place n m b h = refl
  member_enclosed whole (Some t) place n m true h = refl
  member_enclosed whole (Some t) None n m false h = absurd (none_some (h t refl).1)
  member_enclosed whole (Some t) (Some p) n m false h = refl

  element_enclosed : (t : Ctype) (n m i : ℕ) (b : Bool) → step_by table t n true (Index i) ≡ enclosed n (step_by table t m b (Index i))
  element_enclosed VoidType n m i b = refl
  element_enclosed BoolType n m i b = refl
  element_enclosed (IntegerType size rank signed) n m i b = refl
  element_enclosed FloatingType n m i b = refl
  element_enclosed VaListType n m i b = refl
  element_enclosed (PointerTo to) n m i b = refl
  element_enclosed (ArrayOf of k) n m i b = refl
  element_enclosed (FunctionFrom r ps f) n m i b = refl
  element_enclosed (StructureOf tag) n m i b = refl
  element_enclosed (UnionOf tag) n m i b = refl

  step_enclosed : (t : Ctype) (n m : ℕ) (b : Bool) (step : PathStep) → step_by table t n true step ≡ enclosed n (step_by table t m b step)
  step_enclosed t n m b (Index i) = element_enclosed t n m i b
  step_enclosed t n m b (Member k) =
      step_member table t n true k ∙ member_enclosed t (part_type table t (Member k)) (field_in table t k) n m b (field_some t k) ∙ ap (enclosed n) (sym (step_member table t m b k))

  -- the same path in a union: what lies in it has its node
  pub part_enclosed : (t : Ctype) (n m : ℕ) (b : Bool) (path : List PathStep) → part_at table (Some (reached t n true)) path ≡ enclosed n (part_at table (Some (reached t m b)) path)
  part_enclosed t n m b [] = refl
  part_enclosed t n m b (step ∷ rest) =
      ap (λ (o : Option Reached). part_at table o rest) (step_enclosed t n m b step) ∙ by (step_by table t m b step) (λ s k i. part_enclosed s n k i rest)
    where
      by : (o : Option Reached) → ((s : Ctype) (k : ℕ) (i : Bool) → part_at table (Some (reached s n true)) rest ≡ enclosed n (part_at table (Some (reached s k i)) rest))
          → part_at table (enclosed n o) rest ≡ enclosed n (part_at table o rest)
      by None each = nowhere table rest ∙ sym (ap (enclosed n) (nowhere table rest))
      by (Some r) each = each r.ty r.node r.inside

  enclosed_is : (n : ℕ) (o : Option Reached) (r : Reached) → enclosed n o ≡ Some r → (r.node ≡ n) × (r.inside ≡ true)
  enclosed_is n None r e = absurd (none_some e)
  enclosed_is n (Some q) r e = (let s : reached q.ty n true ≡ r = some_one e in (sym (ap (λ (x : Reached). x.node) s), sym (ap (λ (x : Reached). x.inside) s)))

  -- what lies in a union stays at its node
  pub stays_inside : (t : Ctype) (n : ℕ) (path : List PathStep) (r : Reached) → part_at table (Some (reached t n true)) path ≡ Some r → (r.node ≡ n) × (r.inside ≡ true)
  stays_inside t n path r e = enclosed_is n (part_at table (Some (reached t n true)) path) r (sym (part_enclosed t n n true path) ∙ e)

  -- the part where a path goes into a union
  pub record Enters (t : Ctype) (m : ℕ) (node : ℕ) : Type 0 where
    pub tag : ℕ
    pub front : List PathStep
    pub there : part_at table (Some (reached t m false)) front ≡ Some (reached (UnionOf tag) node false)
    pub members : List MemberTerm
    pub members_are : members_in table tag ≡ Some members

  enters_here : (t : Ctype) (m k : ℕ) (q : Reached) → step_by table t m false (Member k) ≡ Some q → q.inside ≡ true → Enters t m q.node
  enters_here (UnionOf tag) m k q e i = by (part_type table (UnionOf tag) (Member k)) refl (sym (step_member table (UnionOf tag) m false k) ∙ e)
    where
      by : (w : Option Ctype) → part_type table (UnionOf tag) (Member k) ≡ w → member_reached (UnionOf tag) w (field_in table (UnionOf tag) k) m false ≡ Some q → Enters (UnionOf tag) m q.node
      by None is g = absurd (none_some g)
      by (Some s) is g =
          let found = union_at tag k s is in
          let same : reached s (m + 0) true ≡ q = some_one (sym (ap (λ (p : Option ℕ). member_reached (UnionOf tag) (Some s) p m false) found.placed) ∙ g) in
          let node : m ≡ q.node = (let e : m ≡ m + 0 = omega arith in e) ∙ ap (λ (x : Reached). x.node) same in
          record { tag = tag; front = []; there = ap (λ (n : ℕ). Some (reached (UnionOf tag) n false)) node; members = found.members; members_are = found.members_are }
  enters_here (StructureOf tag) m k q e i = absurd (by (part_type table (StructureOf tag) (Member k)) (field_in table (StructureOf tag) k) (sym (step_member table (StructureOf tag) m false k) ∙ e))
    where
      by : (w : Option Ctype) (p : Option ℕ) → member_reached (StructureOf tag) w p m false ≡ Some q → ⊥
      by None p g = none_some g
      by (Some s) None g = none_some g
      by (Some s) (Some p) g = false≢true (ap (λ (x : Reached). x.inside) (some_one g) ∙ i)
  enters_here (ArrayOf of None) m k q e i = absurd (none_some e)
  enters_here (ArrayOf of (Some n)) m k q e i = absurd (none_some e)
  enters_here VoidType m k q e i = absurd (none_some e)
  enters_here BoolType m k q e i = absurd (none_some e)
  enters_here (IntegerType size rank signed) m k q e i = absurd (none_some e)
  enters_here FloatingType m k q e i = absurd (none_some e)
  enters_here VaListType m k q e i = absurd (none_some e)
  enters_here (PointerTo to) m k q e i = absurd (none_some e)
  enters_here (FunctionFrom r ps f) m k q e i = absurd (none_some e)

  element_apart : (t : Ctype) (m i : ℕ) (q : Reached) → step_by table t m false (Index i) ≡ Some q → q.inside ≡ false
  element_apart (ArrayOf of k) m i q e = sym (ap (λ (x : Reached). x.inside) (some_one e))
  element_apart VoidType m i q e = absurd (none_some e)
  element_apart BoolType m i q e = absurd (none_some e)
  element_apart (IntegerType size rank signed) m i q e = absurd (none_some e)
  element_apart FloatingType m i q e = absurd (none_some e)
  element_apart VaListType m i q e = absurd (none_some e)
  element_apart (PointerTo to) m i q e = absurd (none_some e)
  element_apart (FunctionFrom r ps f) m i q e = absurd (none_some e)
  element_apart (StructureOf tag) m i q e = absurd (none_some e)
  element_apart (UnionOf tag) m i q e = absurd (none_some e)

  step_enters : (t : Ctype) (m : ℕ) (step : PathStep) (q : Reached) → step_by table t m false step ≡ Some q → q.inside ≡ true → Enters t m q.node
  step_enters t m (Index i) q e h = absurd (false≢true (sym (element_apart t m i q e) ∙ h))
  step_enters t m (Member k) q e h = enters_here t m k q e h

  pub enters : (t : Ctype) (m : ℕ) (path : List PathStep) (r : Reached) → part_at table (Some (reached t m false)) path ≡ Some r → r.inside ≡ true → Enters t m r.node
  enters t m [] r e h = absurd (false≢true (ap (λ (x : Reached). x.inside) (some_one e) ∙ h))
  enters t m (step ∷ rest) r e h = by (step_by table t m false step) refl e (λ s n. enters s n rest r)
    where
      further : (q : Reached) → step_by table t m false step ≡ Some q → q.inside ≡ false → Enters q.ty q.node r.node → Enters t m r.node
      further q is out f = record {
        tag = f.tag;
        front = step ∷ f.front;
        there = ap (λ (o : Option Reached). part_at table o f.front) (is ∙ ap (λ (b : Bool). Some (reached q.ty q.node b)) out) ∙ f.there;
        members = f.members;
        members_are = f.members_are;
      }

      at : (q : Reached) → step_by table t m false step ≡ Some q → part_at table (Some q) rest ≡ Some r
          → ((s : Ctype) (n : ℕ) → part_at table (Some (reached s n false)) rest ≡ Some r → r.inside ≡ true → Enters s n r.node) → (b : Bool) → q.inside ≡ b → Enters t m r.node
      at q is g next true i =
          let stays = stays_inside q.ty q.node rest r (ap (λ (b : Bool). part_at table (Some (reached q.ty q.node b)) rest) (sym i) ∙ g) in
          subst (Enters t m) (sym stays.0) (step_enters t m step q is i)
      at q is g next false i = further q is i (next q.ty q.node (ap (λ (b : Bool). part_at table (Some (reached q.ty q.node b)) rest) (sym i) ∙ g) h)

      by : (o : Option Reached) → step_by table t m false step ≡ o → part_at table o rest ≡ Some r
          → ((s : Ctype) (n : ℕ) → part_at table (Some (reached s n false)) rest ≡ Some r → r.inside ≡ true → Enters s n r.node) → Enters t m r.node
      by None is g next = absurd (none_some (sym (nowhere table rest) ∙ g))
      by (Some q) is g next = at q is g next q.inside refl

  -- a path from a union stays at its node
  pub union_node : (tag m : ℕ) (path : List PathStep) (r : Reached) → part_at table (Some (reached (UnionOf tag) m false)) path ≡ Some r → r.node ≡ m
  union_node tag m [] r e = sym (ap (λ (x : Reached). x.node) (some_one e))
  union_node tag m (Index i ∷ rest) r e = absurd (none_some (sym (nowhere table rest) ∙ e))
  union_node tag m (Member k ∷ rest) r e =
      by (part_type table (UnionOf tag) (Member k)) refl
      (sym (ap (λ (o : Option Reached). part_at table o rest) (step_member table (UnionOf tag) m false k)) ∙ e)
    where
      by : (w : Option Ctype) → part_type table (UnionOf tag) (Member k) ≡ w → part_at table (member_reached (UnionOf tag) w (field_in table (UnionOf tag) k) m false) rest ≡ Some r → r.node ≡ m
      by None is g = absurd (none_some (sym (nowhere table rest) ∙ g))
      by (Some s) is g =
          let found = union_at tag k s is in
          (stays_inside s (m + 0) rest r (ap (λ (p : Option ℕ). part_at table (member_reached (UnionOf tag) (Some s) p m false) rest) (sym found.placed) ∙ g)).0
          ∙ (let e : m + 0 ≡ m = omega arith in e)

-- a type without arrays
abbrev pub stripped : Ctype → Ctype
stripped (ArrayOf of n) = stripped of
stripped t = t

-- complete types, and their nodes
-- a type whose cells may point
abbrev pub MayPoint : Ctype → Type 0
MayPoint (PointerTo to) = Unit {0}
MayPoint VaListType = Unit {0}
MayPoint t = ⊥

module _ (table : Table) (made : IsMade table) where
  abbrev nodes : Ctype → List Ctype
  nodes t = nodes_of (extent_in table t)

  some_look : (f : List Extent → Extent) (tag : ℕ) (ms : List MemberTerm) → members_in table tag ≡ Some ms → IsSome (of_members f (look_in table tag))
  some_look f tag ms e = subst (λ (o : Option (List Extent)). IsSome (of_members f o)) (sym (made.laid tag ∙ ap (option_map (extents_in table)) e)) refl

  pub union_complete : (tag : ℕ) (ms : List MemberTerm) → members_in table tag ≡ Some ms → IsSome (extent_in table (UnionOf tag))
  union_complete tag ms e = some_look (union_of (UnionOf tag)) tag ms e

  union_first : (tag : ℕ) (o : Option (List Extent)) → IsSome (of_members (union_of (UnionOf tag)) o) → slice_get (nodes_of (of_members (union_of (UnionOf tag)) o)) 0 ≡ Some (UnionOf tag)
  union_first tag None h = absurd (false≢true h)
  union_first tag (Some es) h = ap (λ (ns : List Ctype). slice_get ns 0) (union_nodes (UnionOf tag) es)

  structure_first : (tag : ℕ) (o : Option (List Extent)) → IsSome (of_members (structure_of (StructureOf tag)) o) → slice_get (nodes_of (of_members (structure_of (StructureOf tag)) o)) 0 ≡ Some (StructureOf tag)
  structure_first tag None h = absurd (false≢true h)
  structure_first tag (Some es) h = ap (λ (ns : List Ctype). slice_get ns 0) (structure_nodes (StructureOf tag) es)

  some_repeated : (k : ℕ) (o : Option Extent) → IsSome (repeated k o) → IsSome o
  some_repeated k None h = h
  some_repeated k (Some e) h = refl

  pub repeated_some : (k : ℕ) (o : Option Extent) → IsSome o → IsSome (repeated k o)
  repeated_some k None h = h
  repeated_some k (Some e) h = refl

  -- the first node of a complete type is the type itself, arrays taken off
  pub first_node : (t : Ctype) → IsSome (extent_in table t) → slice_get (nodes t) 0 ≡ Some (stripped t)
  first_node VoidType h = absurd (false≢true h)
  first_node BoolType h = refl
  first_node (IntegerType size rank signed) h = refl
  first_node FloatingType h = refl
  first_node VaListType h = refl
  first_node (PointerTo to) h = refl
  first_node (ArrayOf of None) h = absurd (false≢true h)
  first_node (ArrayOf of (Some n)) h =
      ap (λ (ns : List Ctype). slice_get ns 0) (nodes_repeated n (extent_in table of)) ∙ first_node of (some_repeated n (extent_in table of) h)
  first_node (FunctionFrom r ps f) h = absurd (false≢true h)
  first_node (StructureOf tag) h = structure_first tag (look_in table tag) h
  first_node (UnionOf tag) h = union_first tag (look_in table tag) h

  -- parts of complete types are complete
  member_complete : (whole : Ctype) (tag k : ℕ) (place : List MemberTerm → ℕ) (s : Ctype) → IsMemberAt table whole tag k place s → IsSome (extent_in table s)
  member_complete whole tag k place s m =
      subst (λ (t : Ctype). IsSome (extent_in table t)) (same_length table (type_of table m.member.ty.0) s m.type)
      (elim (made.members tag m.members m.members_are k m.member m.there).1.object [ inl c ↦ c | inr f ↦ absurd (no_flexible table (type_of table m.member.ty.0) s m.type f.flexible) ])

  part_complete : (t : Ctype) (k : ℕ) (s : Ctype) → part_type table t (Member k) ≡ Some s → IsSome (extent_in table s)
  part_complete (StructureOf tag) k s e = member_complete (StructureOf tag) tag k (λ ms. position (extents_in table ms) k) s (structure_at table tag k s e)
  part_complete (UnionOf tag) k s e = member_complete (UnionOf tag) tag k (λ ms. 0) s (union_at table tag k s e)
  part_complete (ArrayOf of None) k s e = absurd (none_some e)
  part_complete (ArrayOf of (Some n)) k s e = absurd (none_some e)
  part_complete VoidType k s e = absurd (none_some e)
  part_complete BoolType k s e = absurd (none_some e)
  part_complete (IntegerType size rank signed) k s e = absurd (none_some e)
  part_complete FloatingType k s e = absurd (none_some e)
  part_complete VaListType k s e = absurd (none_some e)
  part_complete (PointerTo to) k s e = absurd (none_some e)
  part_complete (FunctionFrom r ps f) k s e = absurd (none_some e)

  reached_complete : (whole : Ctype) (w : Option Ctype) (p : Option ℕ) (node : ℕ) (b : Bool) (q : Reached) → ((s : Ctype) → w ≡ Some s → IsSome (extent_in table s))
      → member_reached whole w p node b ≡ Some q → IsSome (extent_in table q.ty)
  reached_complete whole None p node b q h e = absurd (none_some e)
  reached_complete whole (Some s) p node true q h e = subst (λ (x : Reached). IsSome (extent_in table x.ty)) (some_one e) (h s refl)
  reached_complete whole (Some s) None node false q h e = absurd (none_some e)
  reached_complete whole (Some s) (Some n) node false q h e = subst (λ (x : Reached). IsSome (extent_in table x.ty)) (some_one e) (h s refl)

  element_complete : (t : Ctype) (node i : ℕ) (b : Bool) (q : Reached) → IsSome (extent_in table t) → step_by table t node b (Index i) ≡ Some q → IsSome (extent_in table q.ty)
  element_complete (ArrayOf of None) node i b q h e = absurd (false≢true h)
  element_complete (ArrayOf of (Some n)) node i b q h e = subst (λ (x : Reached). IsSome (extent_in table x.ty)) (some_one e) (some_repeated n (extent_in table of) h)
  element_complete VoidType node i b q h e = absurd (none_some e)
  element_complete BoolType node i b q h e = absurd (none_some e)
  element_complete (IntegerType size rank signed) node i b q h e = absurd (none_some e)
  element_complete FloatingType node i b q h e = absurd (none_some e)
  element_complete VaListType node i b q h e = absurd (none_some e)
  element_complete (PointerTo to) node i b q h e = absurd (none_some e)
  element_complete (FunctionFrom r ps f) node i b q h e = absurd (none_some e)
  element_complete (StructureOf tag) node i b q h e = absurd (none_some e)
  element_complete (UnionOf tag) node i b q h e = absurd (none_some e)

  pub step_complete : (t : Ctype) (node : ℕ) (b : Bool) (step : PathStep) (q : Reached) → IsSome (extent_in table t) → step_by table t node b step ≡ Some q → IsSome (extent_in table q.ty)
  step_complete t node b (Index i) q h e = element_complete t node i b q h e
  step_complete t node b (Member k) q h e =
      reached_complete t (part_type table t (Member k)) (field_in table t k) node b q (part_complete t k) (sym (step_member table t node b k) ∙ e)

  pub path_complete : (t : Ctype) (node : ℕ) (b : Bool) (path : List PathStep) (r : Reached) → IsSome (extent_in table t) → part_at table (Some (reached t node b)) path ≡ Some r → IsSome (extent_in table r.ty)
  path_complete t node b [] r h e = subst (λ (x : Reached). IsSome (extent_in table x.ty)) (some_one e) h
  path_complete t node b (step ∷ rest) r h e = by (step_by table t node b step) refl e (λ s n i. path_complete s n i rest r)
    where
      by : (o : Option Reached) → step_by table t node b step ≡ o → part_at table o rest ≡ Some r
          → ((s : Ctype) (n : ℕ) (i : Bool) → IsSome (extent_in table s) → part_at table (Some (reached s n i)) rest ≡ Some r → IsSome (extent_in table r.ty)) → IsSome (extent_in table r.ty)
      by None is g next = absurd (none_some (sym (nowhere table rest) ∙ g))
      by (Some q) is g next = next q.ty q.node q.inside (step_complete t node b step q h is) g

  point_node : (t : Ctype) → MayPoint t → (slice_get (nodes t) 0 ≡ Some t) × (is_kept t ≡ true)
  point_node (PointerTo to) h = (refl, refl)
  point_node VaListType h = (refl, refl)
  point_node t h = absurd h

  -- a pointer in a complete type is at a node that has a row: its own, or that of the union in which it lies
  pub kept_node : (t : Ctype) (path : List PathStep) (r : Reached) (to : Ctype) → MayPoint to → IsSome (extent_in table t) → part_at table (Some (reached t 0 false)) path ≡ Some r → r.ty ≡ to
      → (b : Ctype) × (slice_get (nodes t) r.node ≡ Some b) × (is_kept b ≡ true)
  kept_node t path r to may h e is = by r.inside refl
    where
      here : r.node + 0 ≡ r.node
      here = omega arith

      by : (b : Bool) → r.inside ≡ b → (b : Ctype) × (slice_get (nodes t) r.node ≡ Some b) × (is_kept b ≡ true)
      by false out = (
        to,
        ap (slice_get (nodes t)) (sym here)
            ∙ path_nodes table made t path r h e out 0 to (ap (λ (s : Ctype). slice_get (nodes s) 0) is ∙ (point_node to may).0),
        (point_node to may).1,
      )
      by true i =
          let u = enters table t 0 path r e i in (
            UnionOf u.tag,
            ap (slice_get (nodes t)) (sym here)
                ∙ path_nodes table made t u.front (reached (UnionOf u.tag) r.node false) h u.there refl 0 (UnionOf u.tag) (union_first u.tag (look_in table u.tag) (union_complete u.tag u.members u.members_are)),
            refl,
          )

  pub few_nodes : (o : Option Extent) → length (nodes_of o) ≤ 2 ^ 24 → nodes_in o ≡ nodes_of o
  few_nodes None h = refl
  few_nodes (Some e) h = ap (λ (b : Bool). cond b e.nodes []) (lt-ltb (length e.nodes) (2 ^ 24 + 1) (omega arith))

  -- so a load or store of the node is one of those of the type
  pub kept_row_node : (t : Ctype) (path : List PathStep) (r : Reached) (to : Ctype) → MayPoint to → IsFew table t → IsSome (extent_in table t) → part_at table (Some (reached t 0 false)) path ≡ Some r → r.ty ≡ to
      → kept_at (slice_get (row_nodes table t) r.node) ≡ true
  kept_row_node t path r to may few h e is =
      let k = kept_node t path r to may h e is in
      ap (λ (ns : List Ctype). kept_at (slice_get ns r.node)) (few_nodes (extent_in table t) few) ∙ (ap kept_at k.1 ∙ k.2)
