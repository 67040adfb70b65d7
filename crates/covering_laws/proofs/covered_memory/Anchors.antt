-- The locations of the parts of an object: that of a part, and of each part below it.
use Rattle.std.proofs.Common.{arith, ◌≡◌, ◌∙◌, ℕ, ◌+◌, Bool, true, false, cond, eqb, eq-eqb, List, [], ◌∷◌, ◌++◌, Option, Some, None, IsSome, slice_get, refl, sym, ap, subst, inl, inr}
use Rattle.std.specs.Option.{option_map}
use Rattle.std.proofs.lemmas.Bool.{false≢true}
use Rattle.c_types.specs.declared.key.ObjectKey.{ObjectKey}
use Rattle.c_types.specs.declared.term.PathStep.{PathStep}
use Rattle.c_types.specs.declared.term.PathStep.TheVariants.{Index, Member}
use Rattle.c_types.specs.declared.term.TypeId.{TypeId}
use Rattle.c_types.specs.Trees.{Ctype, VoidType, BoolType, IntegerType, FloatingType, VaListType, PointerTo, ArrayOf, FunctionFrom, StructureOf, UnionOf}
use Rattle.c_types.specs.Table.{Table, type_of, extent_in}
use Rattle.type_rules.specs.Kinds.{IsScalar}
use Rattle.sol_model.specs.declared.system.System.{System}
use Rattle.sol_model.specs.declared.system.LocationFact.{LocationFact}
use Rattle.sol_model.specs.Places.{node_from}
use Rattle.obj_made.specs.declared.object.Content.{Content}
use Rattle.obj_made.specs.declared.object.Content.TheVariants.{Function, Blob, Scalar, Scalars, Typed, Elements}
use Rattle.obj_space.specs.declared.location.Location.{Location}
use Rattle.obj_space.specs.Parts.{is_collapsed, type_number as space_number}
use Rattle.obj_space.specs.Spots.{Reached, reached, part_at, node_in, node_along, no_step, one_index, type_made, whole_reached}
use Rattle.obj_space.specs.View.{first_from}
use Rattle.row_numbers.specs.Numbers.{type_number}
use Rattle.covering_laws.proofs.covered_memory.Firsts.{is_first}
use Rattle.covering_laws.specs.covered_memory.Spots.{spot_at, spot_from, spot, whole_part}
use Rattle.covering_laws.specs.covered_memory.Covered.{object_row, HasShape}
use Rattle.covering_laws.specs.covered_memory.Demands.{Grounds, ContentTells}
use Rattle.covering_laws.proofs.covered_memory.Filled.{nowhere}
use Rattle.covering_laws.proofs.covered_memory.Parts.{moved, enclosed, part_moved, part_enclosed, enters, union_node, union_complete, stripped, first_node, path_complete}

some_one : {X : Type 0} → {x y : X} → ◌≡◌ {A = Option X} (Some x) (Some y) → x ≡ y
some_one h = cc

none_some : {X : Type 0} → {x : X} → ◌≡◌ {A = Option X} None (Some x) → ⊥
none_some h = cc

-- the number of a type is that of its first node
pub number_stripped : (t : Ctype) → type_number t ≡ space_number (stripped t)
number_stripped VoidType = refl
number_stripped BoolType = refl
number_stripped (IntegerType size rank signed) = refl
number_stripped FloatingType = refl
number_stripped VaListType = refl
number_stripped (PointerTo to) = refl
number_stripped (ArrayOf of n) = number_stripped of
number_stripped (FunctionFrom r ps f) = refl
number_stripped (StructureOf tag) = refl
number_stripped (UnionOf tag) = refl

-- a node so many on from a part
pub record Leads (r : Reached) (d n : ℕ) : Type 0 where
  pub apart : r.inside ≡ false → n ≡ r.node + d
  pub inside : r.inside ≡ true → n ≡ r.node
  pub within : is_collapsed (stripped r.ty) ≡ true → n ≡ r.node

-- a part of a part, seen from the whole
abbrev pub joined_at : Bool → ℕ → Option Reached → Option Reached
joined_at false n o = moved n o
joined_at true n o = enclosed n o

pub rest_from : (table : Table) (r : Reached) (rest : List PathStep) → part_at table (Some r) rest ≡ joined_at r.inside r.node (part_at table (Some (reached r.ty 0 false)) rest)
rest_from table r rest = by r.inside refl
  where
    by : (b : Bool) → r.inside ≡ b → part_at table (Some r) rest ≡ joined_at b r.node (part_at table (Some (reached r.ty 0 false)) rest)
    by false e =
        ap (λ (b : Bool). part_at table (Some (reached r.ty r.node b)) rest) e
        ∙ (ap (λ (n : ℕ). part_at table (Some (reached r.ty n false)) rest) (let s : r.node ≡ r.node + 0 = omega arith in s) ∙ part_moved table r.ty r.node 0 false rest)
    by true e = ap (λ (b : Bool). part_at table (Some (reached r.ty r.node b)) rest) e ∙ part_enclosed table r.ty r.node 0 false rest

-- in an array of unions, or a union, each part is at its node
union_stays : (table : Table) (t : Ctype) (m : ℕ) (path : List PathStep) (r : Reached) → is_collapsed (stripped t) ≡ true → part_at table (Some (reached t m false)) path ≡ Some r → r.node ≡ m
union_stays table (UnionOf tag) m path r h e = union_node table tag m path r e
union_stays table (ArrayOf of n) m [] r h e = sym (ap (λ (x : Reached). x.node) (some_one e))
union_stays table (ArrayOf of n) m (Index i ∷ rest) r h e = union_stays table of m rest r h e
union_stays table (ArrayOf of None) m (Member k ∷ rest) r h e = absurd (none_some (sym (nowhere table rest) ∙ e))
union_stays table (ArrayOf of (Some n)) m (Member k ∷ rest) r h e = absurd (none_some (sym (nowhere table rest) ∙ e))
union_stays table VoidType m path r h e = absurd (false≢true h)
union_stays table BoolType m path r h e = absurd (false≢true h)
union_stays table (IntegerType size rank signed) m path r h e = absurd (false≢true h)
union_stays table FloatingType m path r h e = absurd (false≢true h)
union_stays table VaListType m path r h e = absurd (false≢true h)
union_stays table (PointerTo to) m path r h e = absurd (false≢true h)
union_stays table (FunctionFrom a b c) m path r h e = absurd (false≢true h)
union_stays table (StructureOf tag) m path r h e = absurd (false≢true h)

-- a part of a part, by itself and in the whole
pub record Both (table : Table) (r : Reached) (rest : List PathStep) (own whole : Reached) : Type 0 where
  pub own_is : part_at table (Some (reached r.ty 0 false)) rest ≡ Some own
  pub whole_is : part_at table (Some r) rest ≡ Some whole
  pub same : own.ty ≡ whole.ty
  pub leads : Leads r own.node whole.node

joined_both : (b : Bool) (n : ℕ) (o : Option Reached) (whole : Reached) → joined_at b n o ≡ Some whole
    → (own : Reached) × (o ≡ Some own) × (own.ty ≡ whole.ty) × (b ≡ false → whole.node ≡ n + own.node) × (b ≡ true → whole.node ≡ n)
joined_both false n None whole e = absurd (none_some e)
joined_both true n None whole e = absurd (none_some e)
joined_both false n (Some own) whole e =
    (own, refl, ap (λ (x : Reached). x.ty) (some_one e), (λ h. sym (ap (λ (x : Reached). x.node) (some_one e))), (λ h. absurd (false≢true h)))
joined_both true n (Some own) whole e =
    (own, refl, ap (λ (x : Reached). x.ty) (some_one e), (λ h. absurd (false≢true (sym h))), (λ h. sym (ap (λ (x : Reached). x.node) (some_one e))))

both_leads : (table : Table) (r : Reached) (rest : List PathStep) (own whole : Reached) → part_at table (Some (reached r.ty 0 false)) rest ≡ Some own → part_at table (Some r) rest ≡ Some whole
    → (r.inside ≡ false → whole.node ≡ r.node + own.node) → (r.inside ≡ true → whole.node ≡ r.node) → Leads r own.node whole.node
both_leads table r rest own whole a e out into = record {
  apart = out;
  inside = into;
  within = λ h. by h r.inside refl;
}
  where
    by : is_collapsed (stripped r.ty) ≡ true → (b : Bool) → r.inside ≡ b → whole.node ≡ r.node
    by h true i = into i
    by h false i = union_stays table r.ty r.node rest whole h (ap (λ (b : Bool). part_at table (Some (reached r.ty r.node b)) rest) (sym i) ∙ e)

pub from_whole : (table : Table) (r : Reached) (rest : List PathStep) (whole : Reached) → part_at table (Some r) rest ≡ Some whole → (own : Reached) × Both table r rest own whole
from_whole table r rest whole e =
    let f = joined_both r.inside r.node (part_at table (Some (reached r.ty 0 false)) rest) whole (sym (rest_from table r rest) ∙ e) in
    (f.0, record { own_is = f.1; whole_is = e; same = f.2; leads = both_leads table r rest f.0 whole f.1 e f.3 f.4 })

pub from_own : (table : Table) (r : Reached) (rest : List PathStep) (own : Reached) → part_at table (Some (reached r.ty 0 false)) rest ≡ Some own → (whole : Reached) × Both table r rest own whole
from_own table r rest own e = by r.inside refl
  where
    by : (b : Bool) → r.inside ≡ b → (whole : Reached) × Both table r rest own whole
    by false i =
        let w : Reached = reached own.ty (r.node + own.node) own.inside in
        let is : part_at table (Some r) rest ≡ Some w = rest_from table r rest ∙ (ap (λ (b : Bool). joined_at b r.node (part_at table (Some (reached r.ty 0 false)) rest)) i ∙ ap (moved r.node) e) in
        (w, record { own_is = e; whole_is = is; same = refl; leads = both_leads table r rest own w e is (λ h. refl) (λ h. absurd (false≢true (sym i ∙ h))) })
    by true i =
        let w : Reached = reached own.ty r.node true in
        let is : part_at table (Some r) rest ≡ Some w = rest_from table r rest ∙ (ap (λ (b : Bool). joined_at b r.node (part_at table (Some (reached r.ty 0 false)) rest)) i ∙ ap (enclosed r.node) e) in
        (w, record { own_is = e; whole_is = is; same = refl; leads = both_leads table r rest own w e is (λ h. absurd (false≢true (sym h ∙ i))) (λ h. refl) })

module _ (table : Table) (space : List Location) (system : System) (g : Grounds table space system) where
  pub collapsed_from : (at : ℕ) (y : Location) (ty d : ℕ) → slice_get space at ≡ Some y → y.collapsed ≡ true → node_from (slice_get system.locations at) at ty d ≡ Some at
  collapsed_from at y ty d here c =
      let f = g.facts at y here in
      ap (λ (o : Option LocationFact). node_from o at ty d) f.1 ∙ ap (λ (b : Bool). cond b (Some at) (cond (eqb f.0.ty ty) (Some (at + d)) None)) (f.2.collapsed ∙ c)

  typed_from : (at : ℕ) (y : Location) (ty d : ℕ) → slice_get space at ≡ Some y → y.collapsed ≡ false → y.ty ≡ ty → node_from (slice_get system.locations at) at ty d ≡ Some (at + d)
  typed_from at y ty d here c e =
      let f = g.facts at y here in
      ap (λ (o : Option LocationFact). node_from o at ty d) f.1
      ∙ (ap (λ (b : Bool). cond b (Some at) (cond (eqb f.0.ty ty) (Some (at + d)) None)) (f.2.collapsed ∙ c)
      ∙ ap (λ (b : Bool). let r : Option ℕ = cond b (Some (at + d)) None in r) (eq-eqb f.0.ty ty (f.2.ty ∙ e)))

  -- scalars have no parts
  scalar_whole : (t : Ctype) (path : List PathStep) (r : Reached) → IsScalar t → part_at table (Some (reached t 0 false)) path ≡ Some r → (path ≡ []) × (reached t 0 false ≡ r)
  scalar_whole t [] r h e = (refl, some_one e)
  scalar_whole BoolType (Index i ∷ rest) r h e = absurd (none_some (sym (nowhere table rest) ∙ e))
  scalar_whole BoolType (Member k ∷ rest) r h e = absurd (none_some (sym (nowhere table rest) ∙ e))
  scalar_whole (IntegerType size rank signed) (Index i ∷ rest) r h e = absurd (none_some (sym (nowhere table rest) ∙ e))
  scalar_whole (IntegerType size rank signed) (Member k ∷ rest) r h e = absurd (none_some (sym (nowhere table rest) ∙ e))
  scalar_whole (PointerTo to) (Index i ∷ rest) r h e = absurd (none_some (sym (nowhere table rest) ∙ e))
  scalar_whole (PointerTo to) (Member k ∷ rest) r h e = absurd (none_some (sym (nowhere table rest) ∙ e))
  scalar_whole VoidType (s ∷ rest) r (inl h) e = absurd h
  scalar_whole VoidType (s ∷ rest) r (inr h) e = absurd h
  scalar_whole FloatingType (s ∷ rest) r (inl h) e = absurd h
  scalar_whole FloatingType (s ∷ rest) r (inr h) e = absurd h
  scalar_whole VaListType (s ∷ rest) r (inl h) e = absurd h
  scalar_whole VaListType (s ∷ rest) r (inr h) e = absurd h
  scalar_whole (ArrayOf of n) (s ∷ rest) r (inl h) e = absurd h
  scalar_whole (ArrayOf of n) (s ∷ rest) r (inr h) e = absurd h
  scalar_whole (FunctionFrom a b c) (s ∷ rest) r (inl h) e = absurd h
  scalar_whole (FunctionFrom a b c) (s ∷ rest) r (inr h) e = absurd h
  scalar_whole (StructureOf tag) (s ∷ rest) r (inl h) e = absurd h
  scalar_whole (StructureOf tag) (s ∷ rest) r (inr h) e = absurd h
  scalar_whole (UnionOf tag) (s ∷ rest) r (inl h) e = absurd h
  scalar_whole (UnionOf tag) (s ∷ rest) r (inr h) e = absurd h

  scalar_stripped : (t : Ctype) → IsScalar t → type_number t ≡ space_number t
  scalar_stripped BoolType h = refl
  scalar_stripped (IntegerType size rank signed) h = refl
  scalar_stripped (PointerTo to) h = refl
  scalar_stripped VoidType h = refl
  scalar_stripped FloatingType h = refl
  scalar_stripped VaListType h = refl
  scalar_stripped (ArrayOf of n) (inl h) = absurd h
  scalar_stripped (ArrayOf of n) (inr h) = absurd h
  scalar_stripped (FunctionFrom a b c) h = refl
  scalar_stripped (StructureOf tag) h = refl
  scalar_stripped (UnionOf tag) h = refl

  -- an object of the program, its first location, and a part of its whole
  module _ (key : ObjectKey) (l : ℕ) (x : Location) (first : first_from 0 space key ≡ Some l) (x_is : slice_get space l ≡ Some x) where
    -- what a scalar object's location leads to
    scalar_at : (number : ℕ) (r : Reached) (d n : ℕ) → x.collapsed ≡ false → x.ty ≡ number → r.node ≡ 0 → r.inside ≡ false → type_number r.ty ≡ number → Leads r d n
        → node_from (slice_get system.locations (l + r.node)) (l + r.node) (type_number r.ty) d ≡ Some (l + n)
    scalar_at number r d n c ty node out same h =
        let at : l + r.node ≡ l = omega arith in
        let to = h.apart out in
        ap (λ (k : ℕ). node_from (slice_get system.locations k) k (type_number r.ty) d) at
        ∙ (typed_from l x (type_number r.ty) d x_is c (ty ∙ sym same) ∙ ap (λ (k : ℕ). Some k) (let e : l + d ≡ l + n = omega arith in e))

    -- what a part of an object that is made of a type leads to
    typed_at : (id : TypeId) (lead : List PathStep) → type_made x.content ≡ Some id → IsSome (extent_in table (type_of table id.0))
        → ((p : List PathStep) (r : Reached) → part_at table (Some (reached (type_of table id.0) 0 false)) p ≡ Some r → part_at table (whole_reached table x.content) (lead ++ p) ≡ Some r)
        → (path : List PathStep) (r : Reached) → part_at table (Some (reached (type_of table id.0) 0 false)) path ≡ Some r → (d n : ℕ) → Leads r d n
        → node_from (slice_get system.locations (l + r.node)) (l + r.node) (type_number r.ty) d ≡ Some (l + n)
    typed_at id lead made complete goes path r e d n h = by r.inside refl
      where
        apart_at : r.inside ≡ false → (y : Location) → slice_get space (l + r.node) ≡ Some y → y.ty ≡ space_number (stripped r.ty) → (b : Bool) → is_collapsed (stripped r.ty) ≡ b → y.collapsed ≡ b
            → node_from (slice_get system.locations (l + r.node)) (l + r.node) (type_number r.ty) d ≡ Some (l + n)
        apart_at out y y_is ty true u c =
            collapsed_from (l + r.node) y (type_number r.ty) d y_is c ∙ ap (λ (k : ℕ). Some (l + k)) (sym (h.within u))
        apart_at out y y_is ty false u c =
            let to = h.apart out in
            typed_from (l + r.node) y (type_number r.ty) d y_is c (ty ∙ sym (number_stripped r.ty)) ∙ ap (λ (k : ℕ). Some k) (let s : (l + r.node) + d ≡ l + n = omega arith in s)

        by : (b : Bool) → r.inside ≡ b → node_from (slice_get system.locations (l + r.node)) (l + r.node) (type_number r.ty) d ≡ Some (l + n)
        by false out =
            let c = path_complete table g.made (type_of table id.0) 0 false path r complete e in
            let y = g.reaches key l x id (lead ++ path) r (stripped r.ty) (is_first space key l first) x_is made complete (goes path r e) out (first_node table g.made r.ty c) in
            apart_at out y.0 y.1 y.2.1 (is_collapsed (stripped r.ty)) refl y.2.2
        by true i =
            let u = enters table (type_of table id.0) 0 path r e i in
            let q : Reached = reached (UnionOf u.tag) r.node false in
            let y = g.reaches key l x id (lead ++ u.front) q (UnionOf u.tag) (is_first space key l first) x_is made complete (goes u.front q u.there) refl
            (first_node table g.made (UnionOf u.tag) (union_complete table g.made u.tag u.members u.members_are)) in
            collapsed_from (l + r.node) y.0 (type_number r.ty) d y.1 y.2.2 ∙ ap (λ (k : ℕ). Some (l + k)) (sym (h.inside i))

    -- the location of a part leads to those of the parts below it
    at_content : (content : Content) → x.content ≡ content → (whole : Option Ctype) → HasShape table content whole → (path : List PathStep) (r : Reached) → part_at table (whole_part whole) path ≡ Some r
        → (d n : ℕ) → Leads r d n → node_from (slice_get system.locations (object_row content l r.node)) (object_row content l r.node) (type_number r.ty) d ≡ Some (object_row content l n)
    at_content Function is whole shape path r e d n h = absurd shape
    at_content Blob is whole shape path r e d n h = collapsed_from l x (type_number r.ty) d x_is (subst (λ (c : Content). ContentTells c x) is (g.contents l x x_is))
    at_content (Scalar number) is whole (t, whole_is, scalar, same) path r e d n h =
        let tells = subst (λ (c : Content). ContentTells c x) is (g.contents l x x_is) in
        let w = scalar_whole t path r scalar (ap (λ (o : Option Ctype). part_at table (whole_part o) path) (sym whole_is) ∙ e) in
        scalar_at number r d n tells.0 tells.1 (sym (ap (λ (q : Reached). q.node) w.1)) (sym (ap (λ (q : Reached). q.inside) w.1))
        (sym (ap (λ (q : Reached). type_number q.ty) w.1) ∙ (scalar_stripped t scalar ∙ same)) h
    at_content (Scalars number) is whole (t, k, whole_is, scalar, same) path r e d n h =
        let tells = subst (λ (c : Content). ContentTells c x) is (g.contents l x x_is) in
        let w = elements path (ap (λ (o : Option Ctype). part_at table (whole_part o) path) (sym whole_is) ∙ e) in
        scalar_at number r d n tells.0 tells.1 w.0 w.1 (w.2 ∙ (scalar_stripped t scalar ∙ same)) h
      where
        elements : (p : List PathStep) → part_at table (Some (reached (ArrayOf t (Some k)) 0 false)) p ≡ Some r → (r.node ≡ 0) × (r.inside ≡ false) × (type_number r.ty ≡ type_number t)
        elements [] f = (let s = some_one f in (sym (ap (λ (q : Reached). q.node) s), sym (ap (λ (q : Reached). q.inside) s), sym (ap (λ (q : Reached). type_number q.ty) s)))
        elements (Index i ∷ rest) f = (let s = (scalar_whole t rest r scalar f).1 in (sym (ap (λ (q : Reached). q.node) s), sym (ap (λ (q : Reached). q.inside) s), sym (ap (λ (q : Reached). type_number q.ty) s)))
        elements (Member j ∷ rest) f = absurd (none_some (sym (nowhere table rest) ∙ f))
    at_content (Typed id) is whole (whole_is, complete) path r e d n h =
        typed_at id [] (ap type_made is) complete (λ p q f. ap (λ (c : Content). part_at table (whole_reached table c) p) is ∙ f) path r
        (ap (λ (o : Option Ctype). part_at table (whole_part o) path) (sym whole_is) ∙ e) d n h
    at_content (Elements id) is whole (inl none, complete) path r e d n h = absurd (none_some (sym (nowhere table path) ∙ (ap (λ (o : Option Ctype). part_at table (whole_part o) path) (sym none) ∙ e)))
    at_content (Elements id) is whole (inr (k, whole_is), complete) path r e d n h = by path (ap (λ (o : Option Ctype). part_at table (whole_part o) path) (sym whole_is) ∙ e)
      where
        goes : (i : ℕ) (p : List PathStep) (q : Reached) → part_at table (Some (reached (type_of table id.0) 0 false)) p ≡ Some q → part_at table (whole_reached table x.content) ((Index i ∷ []) ++ p) ≡ Some q
        goes i p q f = ap (λ (c : Content). part_at table (whole_reached table c) (Index i ∷ p)) is ∙ f

        -- the array itself has the first element's node
        whole_at : (q : Reached) → reached (ArrayOf (type_of table id.0) (Some k)) 0 false ≡ q → Leads q d n → node_from (slice_get system.locations (l + q.node)) (l + q.node) (type_number q.ty) d ≡ Some (l + n)
        whole_at q same f =
            let one : Reached = reached (type_of table id.0) 0 false in
            let leads : Leads one d n = (let w = subst (λ (z : Reached). Leads z d n) (sym same) f in record { apart = w.apart; inside = w.inside; within = w.within }) in
            subst (λ (z : Reached). node_from (slice_get system.locations (l + z.node)) (l + z.node) (type_number z.ty) d ≡ Some (l + n)) same
            (typed_at id (Index 0 ∷ []) (ap type_made is) complete (goes 0) [] one refl d n leads)

        by : (p : List PathStep) → part_at table (Some (reached (ArrayOf (type_of table id.0) (Some k)) 0 false)) p ≡ Some r
            → node_from (slice_get system.locations (l + r.node)) (l + r.node) (type_number r.ty) d ≡ Some (l + n)
        by [] f = whole_at r (some_one f) h
        by (Index i ∷ rest) f = typed_at id (Index i ∷ []) (ap type_made is) complete (goes i) rest r f d n h
        by (Member j ∷ rest) f = absurd (none_some (sym (nowhere table rest) ∙ f))

    pub at_part : (whole : Option Ctype) → HasShape table x.content whole → (path : List PathStep) (r : Reached) → part_at table (whole_part whole) path ≡ Some r
        → (d n : ℕ) → Leads r d n → node_from (slice_get system.locations (object_row x.content l r.node)) (object_row x.content l r.node) (type_number r.ty) d ≡ Some (object_row x.content l n)
    at_part whole shape path r e d n h = at_content x.content refl whole shape path r e d n h

    -- the location at a path is that of the part there
    node_content : (content : Content) (whole : Option Ctype) → HasShape table content whole → (path : List PathStep) (r : Reached) → part_at table (whole_part whole) path ≡ Some r
        → option_map (λ (n : ℕ). l + n) (node_in table content path) ≡ Some (object_row content l r.node)
    node_content Function whole shape path r e = absurd shape
    node_content Blob whole shape path r e = ap (λ (k : ℕ). Some k) (let s : l + 0 ≡ l = omega arith in s)
    node_content (Scalar number) whole (t, whole_is, scalar, same) path r e =
        let w = scalar_whole t path r scalar (ap (λ (o : Option Ctype). part_at table (whole_part o) path) (sym whole_is) ∙ e) in
        ap (λ (p : List PathStep). option_map (λ (n : ℕ). l + n) (no_step p)) w.0 ∙ ap (λ (q : Reached). Some (l + q.node)) w.1
    node_content (Scalars number) whole (t, k, whole_is, scalar, same) path r e = by path (ap (λ (o : Option Ctype). part_at table (whole_part o) path) (sym whole_is) ∙ e)
      where
        by : (p : List PathStep) → part_at table (Some (reached (ArrayOf t (Some k)) 0 false)) p ≡ Some r → option_map (λ (n : ℕ). l + n) (one_index p) ≡ Some (l + r.node)
        by [] f = ap (λ (q : Reached). Some (l + q.node)) (some_one f)
        by (Index i ∷ rest) f =
            let w = scalar_whole t rest r scalar f in
            ap (λ (p : List PathStep). option_map (λ (n : ℕ). l + n) (no_step p)) w.0 ∙ ap (λ (q : Reached). Some (l + q.node)) w.1
        by (Member j ∷ rest) f = absurd (none_some (sym (nowhere table rest) ∙ f))
    node_content (Typed id) whole (whole_is, complete) path r e =
        ap (λ (o : Option Reached). option_map (λ (n : ℕ). l + n) (option_map (λ (q : Reached). q.node) o)) (ap (λ (o : Option Ctype). part_at table (whole_part o) path) (sym whole_is) ∙ e)
    node_content (Elements id) whole (inl none, complete) path r e = absurd (none_some (sym (nowhere table path) ∙ (ap (λ (o : Option Ctype). part_at table (whole_part o) path) (sym none) ∙ e)))
    node_content (Elements id) whole (inr (k, whole_is), complete) path r e = by path (ap (λ (o : Option Ctype). part_at table (whole_part o) path) (sym whole_is) ∙ e)
      where
        by : (p : List PathStep) → part_at table (Some (reached (ArrayOf (type_of table id.0) (Some k)) 0 false)) p ≡ Some r
            → option_map (λ (n : ℕ). l + n) (node_along table (ArrayOf (type_of table id.0) None) p) ≡ Some (l + r.node)
        by [] f = ap (λ (q : Reached). Some (l + q.node)) (some_one f)
        by (Index i ∷ rest) f = ap (λ (o : Option Reached). option_map (λ (n : ℕ). l + n) (option_map (λ (q : Reached). q.node) o)) f
        by (Member j ∷ rest) f = absurd (none_some (sym (nowhere table rest) ∙ f))

    pub spot_is : (whole : Option Ctype) → HasShape table x.content whole → (path : List PathStep) (r : Reached) → part_at table (whole_part whole) path ≡ Some r
        → spot table space key path ≡ Some (object_row x.content l r.node)
    spot_is whole shape path r e =
        ap (λ (o : Option ℕ). spot_from table space o path) first
        ∙ (ap (λ (o : Option Location). spot_at table l o path) x_is ∙ node_content x.content whole shape path r e)
