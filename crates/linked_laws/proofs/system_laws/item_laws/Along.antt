-- The nodes of the part at the end of a path stand in the whole's.
use Rattle.std.proofs.Common.{arith, ◌≡◌, ◌∙◌, ◌⊎◌, ℕ, zero, suc, ◌+◌, ◌<◌, Bool, true, false, cond, List, [], ◌∷◌, ◌++◌, length, length-append, take, Option, Some, None, IsSome, slice_get, refl, sym, ap, subst, inl, inr}
use Rattle.std.specs.Prelude.{nat_lt}
use Rattle.std.specs.Option.{option_map, option_and_then}
use Rattle.std.proofs.lemmas.Bool.{false≢true}
use Rattle.c_types.specs.declared.term.MemberTerm.{MemberTerm}
use Rattle.c_types.specs.declared.term.PathStep.{PathStep}
use Rattle.c_types.specs.declared.term.PathStep.TheVariants.{Index, Member}
use Rattle.c_types.specs.Trees.{Ctype, VoidType, BoolType, IntegerType, FloatingType, VaListType, PointerTo, ArrayOf, FunctionFrom, StructureOf, UnionOf}
use Rattle.c_types.specs.Layout.{Extent, all_nodes, repeated, of_members, structure_of, union_of, member_extent, element_extent}
use Rattle.c_types.specs.Parts.{position, unless_flexible, member_node as place_in, field_in}
use Rattle.c_types.specs.Paths.{with_length, member_type, part_type, type_at_path}
use Rattle.c_types.specs.Table.{Table, type_of, look_in, extent_in, extents_in, members_in}
use Rattle.c_types.specs.Made.{IsMade, IsFlexible}
use Rattle.c_types.proofs.Nodes.{union_nodes, extents_get}
use Rattle.obj_space.specs.Parts.{nodes_of}
use Rattle.obj_space.specs.Spots.{Reached, reached, member_reached, step_by, part_at}
use Rattle.obj_space.proofs.Preorder.{get_before, get_behind, nodes_member, nodes_repeated, structure_nodes_some}
use Rattle.normal_form.specs.Assignments.{is_union_type}
use Rattle.normal_form.proofs.MemberNodes.{Positive, positive}

some_one : {X : Type 0} → {x y : X} → ◌≡◌ {A = Option X} (Some x) (Some y) → x ≡ y
some_one h = cc

none_some : {X : Type 0} → {x : X} → ◌≡◌ {A = Option X} None (Some x) → ⊥
none_some h = cc

get_in_all : (es : List Extent) (k : ℕ) (e : Extent) (j : ℕ) (b : Ctype) → slice_get es k ≡ Some e → slice_get e.nodes j ≡ Some b → slice_get (all_nodes es) (length (all_nodes (take k es)) + j) ≡ Some b
get_in_all [] k e j b at h = absurd (none_some at)
get_in_all (d ∷ es) zero e j b at h =
    let here : 0 + j ≡ j = omega arith in
    ap (slice_get (d.nodes ++ all_nodes es)) here ∙ get_before d.nodes (all_nodes es) j b (ap (λ (x : Extent). slice_get x.nodes j) (some_one at) ∙ h)
get_in_all (d ∷ es) (suc k) e j b at h =
    let sum = length-append d.nodes (all_nodes (take k es)) in
    get_behind d.nodes (all_nodes es) (length (d.nodes ++ all_nodes (take k es)) + j) (length (all_nodes (take k es)) + j) (omega arith)
    ∙ get_in_all es k e j b at h

-- a part with a length is no flexible array
record HasLength (t s : Ctype) : Type 0 where
  same : t ≡ s
  fixed : (table : Table) → IsFlexible table t → ⊥
  place : (n : ℕ) → unless_flexible t n ≡ Some n

has_length : (t s : Ctype) → with_length t ≡ Some s → HasLength t s
has_length (ArrayOf of None) s e = absurd (none_some e)
has_length (ArrayOf of (Some k)) s e = record { same = some_one e; fixed = λ table h. h; place = λ n. refl }
has_length VoidType s e = record { same = some_one e; fixed = λ table h. h; place = λ n. refl }
has_length BoolType s e = record { same = some_one e; fixed = λ table h. h; place = λ n. refl }
has_length (IntegerType size rank signed) s e = record { same = some_one e; fixed = λ table h. h; place = λ n. refl }
has_length FloatingType s e = record { same = some_one e; fixed = λ table h. h; place = λ n. refl }
has_length VaListType s e = record { same = some_one e; fixed = λ table h. h; place = λ n. refl }
has_length (PointerTo to) s e = record { same = some_one e; fixed = λ table h. h; place = λ n. refl }
has_length (FunctionFrom r ps f) s e = record { same = some_one e; fixed = λ table h. h; place = λ n. refl }
has_length (StructureOf tag) s e = record { same = some_one e; fixed = λ table h. h; place = λ n. refl }
has_length (UnionOf tag) s e = record { same = some_one e; fixed = λ table h. h; place = λ n. refl }

some_repeated : (k : ℕ) (o : Option Extent) → IsSome (repeated k o) → IsSome o
some_repeated k None h = h
some_repeated k (Some e) h = refl

repeated_some : (k : ℕ) (o : Option Extent) → IsSome o → IsSome (repeated k o)
repeated_some k None h = h
repeated_some k (Some e) h = refl

path_none : (table : Table) (path : List PathStep) (s : Ctype) → type_at_path table None path ≡ Some s → ⊥
path_none table [] s e = none_some e
path_none table (step ∷ rest) s e = path_none table rest s e

-- a part that is a member
record IsPart (table : Table) (tag k : ℕ) (s : Ctype) : Type 0 where
  members : List MemberTerm
  members_are : members_in table tag ≡ Some members
  member : MemberTerm
  there : slice_get members k ≡ Some member
  type : with_length (type_of table member.ty.0) ≡ Some s

member_part : (table : Table) (tag k : ℕ) (s : Ctype) (ms : List MemberTerm) → members_in table tag ≡ Some ms → (om : Option MemberTerm) → slice_get ms k ≡ om → option_and_then (λ (m : MemberTerm). with_length (type_of table m.ty.0)) om ≡ Some s → IsPart table tag k s
member_part table tag k s ms is None at e = absurd (none_some e)
member_part table tag k s ms is (Some m) at e = record { members = ms; members_are = is; member = m; there = at; type = e }

part_of : (table : Table) (tag k : ℕ) (s : Ctype) (o : Option (List MemberTerm)) → members_in table tag ≡ o → member_type table o k ≡ Some s → IsPart table tag k s
part_of table tag k s None is e = absurd (none_some e)
part_of table tag k s (Some ms) is e = member_part table tag k s ms is (slice_get ms k) refl e

module _ (table : Table) (made : IsMade table) where
  -- a complete part's whole is complete
  some_look : (f : List Extent → Extent) (tag : ℕ) (ms : List MemberTerm) → members_in table tag ≡ Some ms → IsSome (of_members f (look_in table tag))
  some_look f tag ms e = subst (λ (o : Option (List Extent)). IsSome (of_members f o)) (sym (made.laid tag ∙ ap (option_map (extents_in table)) e)) refl

  element_complete : (b : Bool) (of s : Ctype) (n : ℕ) → cond b (Some of) None ≡ Some s → IsSome (extent_in table s) → IsSome (extent_in table (ArrayOf of (Some n)))
  element_complete true of s n e h = repeated_some n (extent_in table of) (subst (λ (t : Ctype). IsSome (extent_in table t)) (sym (some_one e)) h)
  element_complete false of s n e h = absurd (none_some e)

  part_complete : (t : Ctype) (step : PathStep) (s : Ctype) → part_type table t step ≡ Some s → IsSome (extent_in table s) → IsSome (extent_in table t)
  part_complete (ArrayOf of (Some n)) (Index i) s e h = element_complete (nat_lt i n) of s n e h
  part_complete (StructureOf tag) (Member k) s e h = (let p = part_of table tag k s (members_in table tag) refl e in some_look (structure_of (StructureOf tag)) tag p.members p.members_are)
  part_complete (UnionOf tag) (Member k) s e h = (let p = part_of table tag k s (members_in table tag) refl e in some_look (union_of (UnionOf tag)) tag p.members p.members_are)
  part_complete t step s e h = absurd (none_some e)

  pub path_complete : (path : List PathStep) (t s : Ctype) → type_at_path table (Some t) path ≡ Some s → IsSome (extent_in table s) → IsSome (extent_in table t)
  path_complete [] t s e h = subst (λ (x : Ctype). IsSome (extent_in table x)) (sym (some_one e)) h
  path_complete (step ∷ rest) t s e h = by (part_type table t step) refl e (λ q. path_complete rest q s)
    where
      by : (o : Option Ctype) → part_type table t step ≡ o → type_at_path table o rest ≡ Some s → ((q : Ctype) → type_at_path table (Some q) rest ≡ Some s → IsSome (extent_in table s) → IsSome (extent_in table q)) → IsSome (extent_in table t)
      by None part g next = absurd (path_none table rest s g)
      by (Some q) part g next = part_complete t step q part (next q g h)

  abbrev nodes : Ctype → List Ctype
  nodes t = nodes_of (extent_in table t)

  first_of : (o : Option Extent) → Positive o → IsSome o → (b : Ctype) × (slice_get (nodes_of o) 0 ≡ Some b)
  first_of None p h = absurd (false≢true h)
  first_of (Some e) p h = by e.nodes p
    where
      by : (ns : List Ctype) → 0 < length ns → (b : Ctype) × (slice_get ns 0 ≡ Some b)
      by [] lt = absurd (omega arith)
      by (t ∷ ns) lt = (t, refl)

  -- a complete type has a first node
  pub first_node_of : (t : Ctype) → IsSome (extent_in table t) → (b : Ctype) × (slice_get (nodes t) 0 ≡ Some b)
  first_node_of t h = first_of (extent_in table t) (positive (look_in table) t) h

  union_first : (tag : ℕ) (o : Option (List Extent)) → IsSome (of_members (union_of (UnionOf tag)) o) → slice_get (nodes_of (of_members (union_of (UnionOf tag)) o)) 0 ≡ Some (UnionOf tag)
  union_first tag None h = absurd (false≢true h)
  union_first tag (Some es) h = ap (λ (ns : List Ctype). slice_get ns 0) (union_nodes (UnionOf tag) es)

  -- a complete union's node is itself
  pub union_node_of : (tag : ℕ) → IsSome (extent_in table (UnionOf tag)) → slice_get (nodes (UnionOf tag)) 0 ≡ Some (UnionOf tag)
  union_node_of tag h = union_first tag (look_in table tag) h

  module _ (whole : List Ctype) where
    -- a part's nodes stand in the list from its node on, and it is complete
    pub record Holds (t : Ctype) (node : ℕ) : Type 0 where
      pub complete : IsSome (extent_in table t)
      pub stands : (j : ℕ) (b : Ctype) → slice_get (nodes t) j ≡ Some b → slice_get whole (node + j) ≡ Some b

    member_holds : (tag k node : ℕ) (ms : List MemberTerm) (m : MemberTerm) → members_in table tag ≡ Some ms → slice_get ms k ≡ Some m → Holds (StructureOf tag) node
        → ((t : Table) → IsFlexible t (type_of table m.ty.0) → ⊥) → Holds (type_of table m.ty.0) (node + position (extents_in table ms) k)
    member_holds tag k node ms m e at h apart =
        let es : List Extent = extents_in table ms in
        let t : Ctype = type_of table m.ty.0 in
        let pos : ℕ = position es k in
        record {
          complete = elim (made.members tag ms e k m at).1.object [ inl c ↦ c | inr f ↦ absurd (apart table f.flexible) ];
          stands = λ j b here.
              let inside : slice_get (all_nodes es) (length (all_nodes (take k es)) + j) ≡ Some b =
              get_in_all es k (member_extent (look_in table) t) j b (extents_get table ms k m at)
              (ap (λ (ns : List Ctype). slice_get ns j) (sym (nodes_member (extent_in table t) (element_extent (look_in table) t))) ∙ here) in
              let next : pos + j ≡ suc (length (all_nodes (take k es)) + j) = omega arith in
              let behind : slice_get (nodes (StructureOf tag)) (pos + j) ≡ Some b =
              ap (λ (ns : List Ctype). slice_get ns (pos + j)) (structure_nodes_some table made tag ms e)
              ∙ (ap (slice_get (StructureOf tag ∷ all_nodes es)) next ∙ inside) in
              let sum : (node + pos) + j ≡ node + (pos + j) = omega arith in
              ap (slice_get whole) sum ∙ h.stands (pos + j) b behind;
        }

    -- where a step leads, outside of unions, and that the part's nodes stand there
    record Leads (t : Ctype) (node : ℕ) (step : PathStep) (s : Ctype) : Type 0 where
      next : ℕ
      reaches : step_by table t node false step ≡ Some (reached s next false)
      holds : Holds s next

    structure_leads : (tag k node : ℕ) (s : Ctype) → IsPart table tag k s → part_type table (StructureOf tag) (Member k) ≡ Some s → Holds (StructureOf tag) node → Leads (StructureOf tag) node (Member k) s
    structure_leads tag k node s p e h =
        let l = has_length (type_of table p.member.ty.0) s p.type in
        let pos = position (extents_in table p.members) k in
        let own = member_holds tag k node p.members p.member p.members_are p.there h l.fixed in
        let found : field_in table (StructureOf tag) k ≡ Some pos =
        ap (λ (o : Option (List MemberTerm)). place_in table (λ members. position (extents_in table members) k) o k) p.members_are
        ∙ (ap (option_and_then (λ (x : MemberTerm). unless_flexible (type_of table x.ty.0) pos)) p.there ∙ l.place pos) in
        record {
          next = node + pos;
          reaches = ap (λ (o : Option Ctype). member_reached (StructureOf tag) o (field_in table (StructureOf tag) k) node false) e
              ∙ ap (λ (o : Option ℕ). member_reached (StructureOf tag) (Some s) o node false) found;
          holds = subst (λ (t : Ctype). Holds t (node + pos)) l.same own;
        }

    element_leads : (b : Bool) (of s : Ctype) (n node i : ℕ) → cond b (Some of) None ≡ Some s → Holds (ArrayOf of (Some n)) node → Leads (ArrayOf of (Some n)) node (Index i) s
    element_leads false of s n node i e h = absurd (none_some e)
    element_leads true of s n node i e h =
        let own : Holds of node = record {
          complete = some_repeated n (extent_in table of) h.complete;
          stands = λ j b at. h.stands j b (ap (λ (ns : List Ctype). slice_get ns j) (nodes_repeated n (extent_in table of)) ∙ at);
        } in
        record {
          next = node;
          reaches = ap (λ (x : Ctype). Some (reached x node false)) (some_one e);
          holds = subst (λ (t : Ctype). Holds t node) (some_one e) own;
        }

    part_leads : (t : Ctype) (step : PathStep) (s : Ctype) (node : ℕ) → is_union_type t ≡ false → part_type table t step ≡ Some s → Holds t node → Leads t node step s
    part_leads (ArrayOf of (Some n)) (Index i) s node apart e h = element_leads (nat_lt i n) of s n node i e h
    part_leads (StructureOf tag) (Member k) s node apart e h = structure_leads tag k node s (part_of table tag k s (members_in table tag) refl e) e h
    part_leads (UnionOf tag) step s node apart e h = absurd (false≢true (sym apart))
    part_leads t step s node apart e h = absurd (none_some e)

    -- what lies in a union stays at its node
    inside_step : (t : Ctype) (step : PathStep) (s : Ctype) (node : ℕ) → part_type table t step ≡ Some s → step_by table t node true step ≡ Some (reached s node true)
    inside_step (ArrayOf of (Some n)) (Index i) s node e = by (nat_lt i n) e
      where
        by : (b : Bool) → cond b (Some of) None ≡ Some s → Some (reached of node true) ≡ Some (reached s node true)
        by true h = ap (λ (x : Ctype). Some (reached x node true)) (some_one h)
        by false h = absurd (none_some h)
    inside_step (StructureOf tag) (Member k) s node e = ap (λ (o : Option Ctype). member_reached (StructureOf tag) o (field_in table (StructureOf tag) k) node true) e
    inside_step (UnionOf tag) (Member k) s node e = ap (λ (o : Option Ctype). member_reached (UnionOf tag) o (field_in table (UnionOf tag) k) node true) e
    inside_step t step s node e = absurd (none_some e)

    inside_along : (path : List PathStep) (t s : Ctype) (node : ℕ) → type_at_path table (Some t) path ≡ Some s → part_at table (Some (reached t node true)) path ≡ Some (reached s node true)
    inside_along [] t s node e = ap (λ (x : Ctype). Some (reached x node true)) (some_one e)
    inside_along (step ∷ rest) t s node e = by (part_type table t step) refl e (λ q. inside_along rest q s node)
      where
        by : (o : Option Ctype) → part_type table t step ≡ o → type_at_path table o rest ≡ Some s
            → ((q : Ctype) → type_at_path table (Some q) rest ≡ Some s → part_at table (Some (reached q node true)) rest ≡ Some (reached s node true)) → part_at table (step_by table t node true step) rest ≡ Some (reached s node true)
        by None part g next = absurd (path_none table rest s g)
        by (Some q) part g next = ap (λ (o : Option Reached). part_at table o rest) (inside_step t step q node part) ∙ next q g

    union_step : (t : Ctype) (step : PathStep) (s : Ctype) (node : ℕ) → is_union_type t ≡ true → part_type table t step ≡ Some s → step_by table t node false step ≡ Some (reached s (node + 0) true)
    union_step (UnionOf tag) (Index i) s node kind e = absurd (none_some e)
    union_step (UnionOf tag) (Member k) s node kind e =
        let p = part_of table tag k s (members_in table tag) refl e in
        let l = has_length (type_of table p.member.ty.0) s p.type in
        let found : field_in table (UnionOf tag) k ≡ Some 0 =
        ap (λ (o : Option (List MemberTerm)). place_in table (λ members. 0) o k) p.members_are
        ∙ (ap (option_and_then (λ (x : MemberTerm). unless_flexible (type_of table x.ty.0) 0)) p.there ∙ l.place 0) in
        ap (λ (o : Option Ctype). member_reached (UnionOf tag) o (field_in table (UnionOf tag) k) node false) e
        ∙ ap (λ (o : Option ℕ). member_reached (UnionOf tag) (Some s) o node false) found
    union_step t step s node kind e = absurd (false≢true kind)

    -- the part's nodes stand there, or it lies in a union that stands there
    pub record InUnion (node : ℕ) : Type 0 where
      pub tag : ℕ
      pub holds : Holds (UnionOf tag) node

    union_there : (t : Ctype) (node : ℕ) → is_union_type t ≡ true → Holds t node → InUnion (node + 0)
    union_there (UnionOf tag) node kind h = (let none : node ≡ node + 0 = omega arith in record { tag = tag; holds = subst (λ (k : ℕ). Holds (UnionOf tag) k) none h })
    union_there t node kind h = absurd (false≢true kind)

    -- where a path within a type leads
    pub record Led (path : List PathStep) (t : Ctype) (node : ℕ) (s : Ctype) : Type 0 where
      pub part : Reached
      pub part_is : part_at table (Some (reached t node false)) path ≡ Some part
      pub there : Holds s part.node ⊎ InUnion part.node

    pub along : (path : List PathStep) (t s : Ctype) (node : ℕ) → Holds t node → type_at_path table (Some t) path ≡ Some s → Led path t node s
    along [] t s node h e = record { part = reached t node false; part_is = refl; there = inl (subst (λ (x : Ctype). Holds x node) (some_one e) h) }
    along (step ∷ rest) t s node h e = by (is_union_type t) refl (part_type table t step) refl e (λ q m. along rest q s m)
      where
        by : (b : Bool) → is_union_type t ≡ b → (o : Option Ctype) → part_type table t step ≡ o → type_at_path table o rest ≡ Some s
            → ((q : Ctype) (m : ℕ) → Holds q m → type_at_path table (Some q) rest ≡ Some s → Led rest q m s) → Led (step ∷ rest) t node s
        by b kind None part g next = absurd (path_none table rest s g)
        by true kind (Some q) part g next = record {
          part = reached s (node + 0) true;
          part_is = ap (λ (o : Option Reached). part_at table o rest) (union_step t step q node kind part) ∙ inside_along rest q s (node + 0) g;
          there = inr (union_there t node kind h);
        }
        by false kind (Some q) part g next =
            let l = part_leads t step q node kind part h in
            let led = next q l.next l.holds g in
            record { part = led.part; part_is = ap (λ (o : Option Reached). part_at table o rest) l.reaches ∙ led.part_is; there = led.there }
