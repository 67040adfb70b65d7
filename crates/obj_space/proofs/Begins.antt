-- The first location of an object begins its tree.
use Rattle.std.proofs.Common.{arith, ◌≡◌, ℕ, zero, suc, ◌+◌, ◌-◌, ◌<◌, false, List, [], ◌∷◌, ◌++◌, Option, Some, None, IsSome, length, map, slice_get, refl, ap, sym, ◌∙◌, subst}
use Rattle.std.specs.List.{flat_map}
use Rattle.std.proofs.lemmas.Bool.{cases_lt}
use mathlib.Core.Logic.{⊎_elim}
use Rattle.c_types.specs.declared.key.ObjectKey.{ObjectKey}
use Rattle.c_types.specs.declared.term.TypeId.{TypeId}
use Rattle.c_types.specs.Trees.{Ctype, ArrayOf}
use Rattle.c_types.specs.Layout.{Extent}
use Rattle.c_types.specs.Table.{Table, type_of, extent_in}
use Rattle.c_types.specs.Made.{IsMade}
use Rattle.obj_made.specs.declared.object.Content.{Content}
use Rattle.obj_made.specs.declared.object.Content.TheVariants.{Function, Blob, Scalar, Scalars, Typed, Elements}
use Rattle.obj_made.specs.declared.object.Object.{Object}
use Rattle.obj_space.specs.declared.location.Location.{Location}
use Rattle.obj_space.specs.Parts.{Part, nodes_of, parts_of, type_number, is_collapsed}
use Rattle.obj_space.specs.Space.{located, parts_located, locations_by, locations_of, IsNodeOf}
use Rattle.obj_space.specs.Found.{HasKey, IsFirst}
use Rattle.c_types.specs.declared.term.PathStep.{PathStep}
use Rattle.c_types.specs.declared.term.PathStep.TheVariants.{Index, Member}
use Rattle.obj_space.specs.Spots.{Reached, reached, step_from, part_at, type_made, whole_reached, HasWholes, ReachesParts}
use Rattle.obj_space.proofs.Preorder.{same_nodes, get_before, get_inside, get_behind}
use Rattle.obj_space.proofs.Placed.{get_mapped, get_map}
use Rattle.obj_space.proofs.Reach.{path_nodes}

-- the locations of an object are of that object
abbrev IsOf : Object → Location → Type 0
IsOf o x = (x.key ≡ o.key) × (x.content ≡ o.content)

one_of : (o : Object) (content : Content) (y x : Location) (l : ℕ) → IsOf o y → slice_get (y ∷ []) l ≡ Some x → IsOf o x
one_of o content y x zero h at = let same : y ≡ x = cc in subst (λ (z : Location). IsOf o z) same h
one_of o content y x (suc l) h at = cc

parts_of_one : (o : Object) (ps : List Part) (l : ℕ) (x : Location) → slice_get (map (located o.key o.content o.name) ps) l ≡ Some x → IsOf o x
parts_of_one o ps l x at =
    let p = get_mapped (located o.key o.content o.name) ps l x at in
    (sym (ap (λ (z : Location). z.key) p.2), sym (ap (λ (z : Location). z.content) p.2))

of_object : (table : Table) (o : Object) (content : Content) (l : ℕ) (x : Location) → slice_get (locations_by table o content) l ≡ Some x → IsOf o x
of_object table o Function l x at = one_of o Function _ x l (refl, refl) at
of_object table o Blob l x at = one_of o Blob _ x l (refl, refl) at
of_object table o (Scalar number) l x at = one_of o (Scalar number) _ x l (refl, refl) at
of_object table o (Scalars number) l x at = one_of o (Scalars number) _ x l (refl, refl) at
of_object table o (Typed id) l x at = parts_of_one o (parts_of table (type_of table id.0)) l x at
of_object table o (Elements id) l x at = parts_of_one o (parts_of table (type_of table id.0)) l x at

nonempty : (xs : List Location) (l : ℕ) → l < length xs → (y : Location) × (slice_get xs 0 ≡ Some y)
nonempty [] l h = absurd (omega arith)
nonempty (y ∷ xs) l h = (y, refl)

module _ (table : Table) (made : IsMade table) where
  -- the locations of an object that is made of a type
  made_located : (o : Object) (content : Content) (id : TypeId) → type_made content ≡ Some id → locations_by table o content ≡ parts_located table o id
  made_located o Function id is = cc
  made_located o Blob id is = cc
  made_located o (Scalar number) id is = cc
  made_located o (Scalars number) id is = cc
  made_located o (Typed other) id is = ap (parts_located table o) (let same : other ≡ id = cc in same)
  made_located o (Elements other) id is = ap (parts_located table o) (let same : other ≡ id = cc in same)

  -- the parts of an object of a type
  typed_parts : (o : Object) (id : TypeId) (x : Location) (i : ℕ) (b : Ctype) → type_made o.content ≡ Some id → IsOf o x → slice_get (nodes_of (extent_in table (type_of table id.0))) i ≡ Some b
      → (y : Location) × (slice_get (locations_of table o) i ≡ Some y) × IsNodeOf x b y
  typed_parts o id x i b is of h =
      let t : Ctype = type_of table id.0 in
      let ps : List Part = parts_of table t in
      let there : slice_get (map (λ (p : Part). p.ty) ps) i ≡ Some b = ap (λ (ts : List Ctype). slice_get ts i) (same_nodes table made t) ∙ h in
      let p = get_mapped (λ (p : Part). p.ty) ps i b there in
      let y : Location = located o.key o.content o.name p.0 in
      let here : slice_get (parts_located table o id) i ≡ Some y = get_map (located o.key o.content o.name) ps i p.0 p.1 in
      (y, ap (λ (ls : List Location). slice_get ls i) (made_located o o.content id is) ∙ here, (sym of.0, ap type_number p.2, ap is_collapsed p.2))

  begins_none : HasWholes table []
  begins_none key l x id i b first at typed h = cc

  begins_more : (o : Object) (rest : List Location) → HasWholes table rest → HasWholes table (locations_of table o ++ rest)
  begins_more o rest begins key l x id i b first at typed h =
      let front : List Location = locations_of table o in
      ⊎_elim
      (λ less.
      let inside = get_inside front rest l x less at in
      let of = of_object table o o.content l x inside in
      let head = nonempty front l less in
      let of_head = of_object table o o.content 0 head.0 head.1 in
      let is_key : x.key ≡ key = ap (λ (z : Location). z.key) (let same : x ≡ first.here.0 = (let e : Some x ≡ Some first.here.0 = sym at ∙ first.here.1 in cc) in same) ∙ first.here.2 in
      let head_key : HasKey (front ++ rest) 0 key = (head.0, get_before front rest 0 head.0 head.1, of_head.0 ∙ (sym of.0 ∙ is_key)) in
      let zero_l : l ≡ 0 = ⊎_elim (λ after. absurd (first.before 0 after head_key)) (λ small. (let e : l ≡ 0 = omega arith in e)) (cases_lt 0 l) in
      let y = typed_parts o id x i b (ap type_made (sym of.1) ∙ typed) of h in
      let there : l + i ≡ i = omega arith in
      (y.0, ap (slice_get (front ++ rest)) there ∙ get_before front rest i y.0 y.1, y.2))
      (λ more.
      let k : ℕ = l - length front in
      let here : l ≡ length front + k = omega arith in
      let there : l + i ≡ length front + (k + i) = omega arith in
      let at_rest : slice_get rest k ≡ Some x = sym (get_behind front rest l k here) ∙ at in
      let first_rest : IsFirst rest key k = record {
        here = (first.here.0, sym (get_behind front rest l k here) ∙ first.here.1, first.here.2);
        before = λ m less has.
            (let lower : length front + m < l = omega arith in
            first.before (length front + m) lower (has.0, get_behind front rest (length front + m) m refl ∙ has.1, has.2));
      } in
      let y = begins key k x id i b first_rest at_rest typed h in
      (y.0, get_behind front rest (l + i) (k + i) there ∙ y.1, y.2))
      (cases_lt l (length front))

  pub all_begin : (os : List Object) → HasWholes table (flat_map (locations_of table) os)
  all_begin [] = begins_none
  all_begin (o ∷ os) = begins_more o (flat_map (locations_of table) os) (all_begin os)

  nowhere : (path : List PathStep) (r : Reached) → part_at table None path ≡ Some r → ⊥
  nowhere [] r h = cc
  nowhere (step ∷ rest) r h = nowhere rest r h

  -- the node of a part stands in the tree of the type that the object is made of
  node_reached : (t : Ctype) (path : List PathStep) (r : Reached) (b : Ctype) → IsSome (extent_in table t) → part_at table (Some (reached t 0 false)) path ≡ Some r → r.inside ≡ false
      → slice_get (nodes_of (extent_in table r.ty)) 0 ≡ Some b → slice_get (nodes_of (extent_in table t)) r.node ≡ Some b
  node_reached t path r b complete reach apart h =
      let start : r.node + 0 ≡ r.node = omega arith in
      ap (slice_get (nodes_of (extent_in table t))) (sym start) ∙ path_nodes table made t path r complete reach apart 0 b h

  element_reached : (t : Ctype) (path : List PathStep) (r : Reached) (b : Ctype) → IsSome (extent_in table t) → part_at table (Some (reached (ArrayOf t None) 0 false)) path ≡ Some r → r.inside ≡ false
      → slice_get (nodes_of (extent_in table r.ty)) 0 ≡ Some b → slice_get (nodes_of (extent_in table t)) r.node ≡ Some b
  element_reached t [] r b complete reach apart h =
      let same : reached (ArrayOf t None) 0 false ≡ r = cc in
      let none : slice_get (nodes_of (extent_in table (ArrayOf t None))) 0 ≡ Some b = ap (λ (q : Reached). slice_get (nodes_of (extent_in table q.ty)) 0) same ∙ h in
      absurd (let no : ⊥ = cc in no)
  element_reached t (Index i ∷ rest) r b complete reach apart h = node_reached t rest r b complete reach apart h
  element_reached t (Member k ∷ rest) r b complete reach apart h = absurd (nowhere rest r reach)

  made_reached : (content : Content) (id : TypeId) (path : List PathStep) (r : Reached) (b : Ctype) → type_made content ≡ Some id → IsSome (extent_in table (type_of table id.0))
      → part_at table (whole_reached table content) path ≡ Some r → r.inside ≡ false
      → slice_get (nodes_of (extent_in table r.ty)) 0 ≡ Some b → slice_get (nodes_of (extent_in table (type_of table id.0))) r.node ≡ Some b
  made_reached Function id path r b is complete reach apart h = cc
  made_reached Blob id path r b is complete reach apart h = cc
  made_reached (Scalar number) id path r b is complete reach apart h = cc
  made_reached (Scalars number) id path r b is complete reach apart h = cc
  made_reached (Typed other) id path r b is complete reach apart h =
      let same : other ≡ id = cc in
      node_reached (type_of table id.0) path r b complete (ap (λ (k : TypeId). part_at table (Some (reached (type_of table k.0) 0 false)) path) (sym same) ∙ reach) apart h
  made_reached (Elements other) id path r b is complete reach apart h =
      let same : other ≡ id = cc in
      element_reached (type_of table id.0) path r b complete (ap (λ (k : TypeId). part_at table (Some (reached (ArrayOf (type_of table k.0) None) 0 false)) path) (sym same) ∙ reach) apart h

  -- so a path that leads to a part leads to a location with the part's number
  pub all_reached : (os : List Object) → ReachesParts table (flat_map (locations_of table) os)
  all_reached os key l x id path r b first at typed complete reach apart h =
      all_begin os key l x id r.node b first at typed (made_reached x.content id path r b typed complete reach apart h)
