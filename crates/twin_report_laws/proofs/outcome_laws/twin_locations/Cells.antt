-- The nodes of what an object is made of, in two tables that are one, but for the numbers of tags.
use Rattle.std.proofs.Common.{arith, ◌≡◌, ◌∙◌, ◌+◌, ◌-◌, ◌++◌, ℕ, Bool, true, false, List, [], ◌∷◌, map, Option, Some, None, is_some, refl, sym, ap, append-nil, inl, inr}
use Rattle.std.specs.Prelude.{if◌then◌else◌, nat_eq, nat_lt}
use Rattle.std.specs.List.{slice_get}
use Rattle.std.specs.Option.{option_and_then}
use Rattle.std.proofs.lemmas.Bool.Decides.{nat_tests}
use Rattle.std.proofs.lemmas.List.{get_or_past}
use Rattle.std.proofs.lemmas.Option.{slice_get_cases}
use Rattle.c_types.specs.declared.term.Term.{Term}
use Rattle.c_types.specs.declared.term.Term.TheVariants.{Void, Bool as BoolTerm, Integer, Floating, VaList, Pointer, Array, Function as FunctionTerm, Structure, Union}
use Rattle.c_types.specs.declared.term.TypeId.{TypeId}
use Rattle.c_types.specs.Trees.{Ctype, VoidType, BoolType, IntegerType, FloatingType, VaListType, PointerTo, ArrayOf, FunctionFrom, StructureOf, UnionOf, grow}
use Rattle.c_types.specs.Table.{Table, types_of, type_of, extent_in}
use Rattle.c_types.proofs.Grow.{grown_length}
use Rattle.link_model.specs.Renamed.{renamed}
use Rattle.obj_made.specs.declared.object.Content.{Content}
use Rattle.obj_made.specs.declared.object.Content.TheVariants.{Function, Blob, Scalar, Scalars, Typed, Elements}
use Rattle.obj_made.specs.declared.object.Object.{Object}
use Rattle.obj_made.specs.Made.{pointed_in, complete_in, typed_by, elements_or_blob, allocated_content}
use Rattle.obj_space.specs.declared.location.Location.{Location}
use Rattle.obj_space.specs.Parts.{Part, parts_of, size_number, type_number, is_collapsed}
use Rattle.obj_space.specs.Space.{located, one_location, locations_by}
use Rattle.twin_report_laws.specs.outcome_laws.twin_locations.Same.{number_moved}
use Rattle.twin_report_laws.proofs.outcome_laws.twin_locations.Options.{none_some}
use Rattle.twin_report_laws.proofs.outcome_laws.twin_locations.Members.{Member, member_map, map_member}
use Rattle.twin_report_laws.proofs.outcome_laws.twin_locations.Calls.{type_under}
use Rattle.twin_report_laws.proofs.outcome_laws.twin_locations.Parts.{part_renamed}

-- a node of an object: what its name has behind the object's, the number of its type, and whether it is collapsed
pub record Cell : Type 0 where
  pub suffix : List ℕ
  pub ty : ℕ
  pub collapsed : Bool

abbrev pub cell_of : Part → Cell
cell_of part = record { suffix = part.suffix; ty = type_number part.ty; collapsed = is_collapsed part.ty }

abbrev pub one_cell : ℕ → Bool → List Cell
one_cell ty collapsed = record { suffix = []; ty = ty; collapsed = collapsed } ∷ []

-- the nodes of what an object is made of
abbrev pub cells : Table → Content → List Cell
cells table Function = one_cell 5 false
cells table Blob = one_cell 5 true
cells table (Scalar number) = one_cell number false
cells table (Scalars number) = one_cell number false
cells table (Typed id) = map cell_of (parts_of table (type_of table id.0))
cells table (Elements id) = map cell_of (parts_of table (type_of table id.0))

abbrev pub cell_moved : (ℕ → ℕ) → Cell → Cell
cell_moved f c = record { suffix = c.suffix; ty = number_moved f c.ty; collapsed = c.collapsed }

-- a location is that of an object's node
pub record IsCellOf (o : Object) (c : Cell) (x : Location) : Type 0 where
  pub key : x.key ≡ o.key
  pub content : x.content ≡ o.content
  pub name : x.name ≡ o.name ++ c.suffix
  pub ty : x.ty ≡ c.ty
  pub collapsed : x.collapsed ≡ c.collapsed

pub one_is : (o : Object) (ty : ℕ) (collapsed : Bool) → IsCellOf o (record { suffix = []; ty = ty; collapsed = collapsed }) (record { key = o.key; content = o.content; name = o.name; ty = ty; collapsed = collapsed })
one_is o ty collapsed = record { key = refl; content = refl; name = sym (append-nil o.name); ty = refl; collapsed = refl }

one_at : (o : Object) (ty : ℕ) (collapsed : Bool) (x : Location) → Member (one_location o ty collapsed) x → (c : Cell) × Member (one_cell ty collapsed) c × IsCellOf o c x
one_at o ty collapsed x (inl same) =
    let is = one_is o ty collapsed in (
      record { suffix = []; ty = ty; collapsed = collapsed },
      inl refl,
      record {
        key = ap (λ (y : Location). y.key) (sym same);
        content = ap (λ (y : Location). y.content) (sym same);
        name = ap (λ (y : Location). y.name) (sym same) ∙ is.name;
        ty = ap (λ (y : Location). y.ty) (sym same);
        collapsed = ap (λ (y : Location). y.collapsed) (sym same);
      },
    )
one_at o ty collapsed x (inr none) = absurd none

at_one : (o : Object) (ty : ℕ) (collapsed : Bool) (c : Cell) → Member (one_cell ty collapsed) c → (x : Location) × Member (one_location o ty collapsed) x × IsCellOf o c x
at_one o ty collapsed c (inl same) =
    let is = one_is o ty collapsed in (
      record { key = o.key; content = o.content; name = o.name; ty = ty; collapsed = collapsed },
      inl refl,
      record {
        key = refl;
        content = refl;
        name = is.name ∙ ap (λ (d : Cell). o.name ++ d.suffix) same;
        ty = ap (λ (d : Cell). d.ty) same;
        collapsed = ap (λ (d : Cell). d.collapsed) same;
      },
    )
at_one o ty collapsed c (inr none) = absurd none

part_at : (o : Object) (ps : List Part) (x : Location) → Member (map (located o.key o.content o.name) ps) x → (c : Cell) × Member (map cell_of ps) c × IsCellOf o c x
part_at o ps x there =
    let (part, at, is) = member_map (located o.key o.content o.name) ps x there in (
      cell_of part,
      map_member cell_of ps part at,
      record {
        key = ap (λ (y : Location). y.key) (sym is);
        content = ap (λ (y : Location). y.content) (sym is);
        name = ap (λ (y : Location). y.name) (sym is);
        ty = ap (λ (y : Location). y.ty) (sym is);
        collapsed = ap (λ (y : Location). y.collapsed) (sym is);
      },
    )

at_part : (o : Object) (ps : List Part) (c : Cell) → Member (map cell_of ps) c → (x : Location) × Member (map (located o.key o.content o.name) ps) x × IsCellOf o c x
at_part o ps c there =
    let (part, at, is) = member_map cell_of ps c there in (
      located o.key o.content o.name part,
      map_member (located o.key o.content o.name) ps part at,
      record {
        key = refl;
        content = refl;
        name = ap (λ (d : Cell). o.name ++ d.suffix) is;
        ty = ap (λ (d : Cell). d.ty) is;
        collapsed = ap (λ (d : Cell). d.collapsed) is;
      },
    )

module _ (table : Table) (o : Object) where
  -- each location of an object is that of a node
  pub cell_at : (content : Content) (x : Location) → Member (locations_by table o content) x → (c : Cell) × Member (cells table content) c × IsCellOf o c x
  cell_at Function x there = one_at o 5 false x there
  cell_at Blob x there = one_at o 5 true x there
  cell_at (Scalar number) x there = one_at o number false x there
  cell_at (Scalars number) x there = one_at o number false x there
  cell_at (Typed id) x there = part_at o (parts_of table (type_of table id.0)) x there
  cell_at (Elements id) x there = part_at o (parts_of table (type_of table id.0)) x there

  -- and each node has one
  pub at_cell : (content : Content) (c : Cell) → Member (cells table content) c → (x : Location) × Member (locations_by table o content) x × IsCellOf o c x
  at_cell Function c there = at_one o 5 false c there
  at_cell Blob c there = at_one o 5 true c there
  at_cell (Scalar number) c there = at_one o number false c there
  at_cell (Scalars number) c there = at_one o number false c there
  at_cell (Typed id) c there = at_part o (parts_of table (type_of table id.0)) c there
  at_cell (Elements id) c there = at_part o (parts_of table (type_of table id.0)) c there

-- ---- numbers of types
size_fixed : (f : ℕ → ℕ) (size : ℕ) → size_number size ≡ number_moved f (size_number size)
size_fixed f size = by (nat_eq size 1) (nat_eq size 2) (nat_eq size 4)
  where
    by : (a b c : Bool) → (if a then 0 else if b then 1 else if c then 2 else 3) ≡ number_moved f (if a then 0 else if b then 1 else if c then 2 else 3)
    by true b c = refl
    by false true c = refl
    by false false true = refl
    by false false false = refl

pub tag_moved : (f : ℕ → ℕ) (tag : ℕ) → 8 + f tag ≡ number_moved f (8 + tag)
tag_moved f tag =
    let past : nat_lt (8 + tag) 8 ≡ false = grind (arith, nat_tests) in
    let less : (8 + tag) - 8 ≡ tag = omega arith in
    sym (ap (λ (b : Bool). if b then 8 + tag else 8 + f ((8 + tag) - 8)) past ∙ ap (λ (n : ℕ). 8 + f n) less)

number_renamed : (f : ℕ → ℕ) (t : Ctype) → type_number (renamed f t) ≡ number_moved f (type_number t)
number_renamed f VoidType = refl
number_renamed f BoolType = refl
number_renamed f (IntegerType size rank signed) = size_fixed f size
number_renamed f FloatingType = refl
number_renamed f VaListType = refl
number_renamed f (PointerTo to) = refl
number_renamed f (ArrayOf of length) = refl
number_renamed f (FunctionFrom result parameters form) = refl
number_renamed f (StructureOf tag) = tag_moved f tag
number_renamed f (UnionOf tag) = tag_moved f tag

collapsed_renamed : (f : ℕ → ℕ) (t : Ctype) → is_collapsed (renamed f t) ≡ is_collapsed t
collapsed_renamed f (UnionOf tag) = refl
collapsed_renamed f t = refl

pub cells_renamed : (f : ℕ → ℕ) (ps : List Part) → map cell_of (map (part_renamed f) ps) ≡ map (cell_moved f) (map cell_of ps)
cells_renamed f [] = refl
cells_renamed f (part ∷ ps) =
    ap (λ (n : ℕ). record { suffix = part.suffix; ty = n; collapsed = is_collapsed (renamed f part.ty) } ∷ map cell_of (map (part_renamed f) ps)) (number_renamed f part.ty)
    ∙ (ap (λ (b : Bool). record { suffix = part.suffix; ty = number_moved f (type_number part.ty); collapsed = b } ∷ map cell_of (map (part_renamed f) ps)) (collapsed_renamed f part.ty)
    ∙ ap (λ (rest : List Cell). cell_moved f (cell_of part) ∷ rest) (cells_renamed f ps))

-- ---- what an allocated object is, by the type of the conversion above its call
abbrev pub pointed_cells : Table → Ctype → List Cell
pointed_cells table (PointerTo to) = if is_some (extent_in table to) then map cell_of (parts_of table to) else one_cell 5 true
pointed_cells table t = one_cell 5 true

abbrev pub cells_by : Table → Option Ctype → List Cell
cells_by table None = one_cell 5 true
cells_by table (Some t) = pointed_cells table t

completed_cells : (table : Table) (to : TypeId)
    → cells table (elements_or_blob (complete_in table to)) ≡ (if is_some (extent_in table (type_of table to.0)) then map cell_of (parts_of table (type_of table to.0)) else one_cell 5 true)
completed_cells table to = by (is_some (extent_in table (type_of table to.0)))
  where
    by : (b : Bool) → cells table (elements_or_blob (if b then Some to else None)) ≡ (if b then map cell_of (parts_of table (type_of table to.0)) else one_cell 5 true)
    by true = refl
    by false = refl

module _ (table : Table) (grows : (id : ℕ) (t : Term) → slice_get table.terms id ≡ Some t → type_of table id ≡ grow (types_of table) t) where
  by_term : (id : TypeId) (o : Option Term) → slice_get table.terms id.0 ≡ o → cells table (elements_or_blob (option_and_then (complete_in table) (pointed_in o))) ≡ pointed_cells table (type_of table id.0)
  by_term id None e = elim (slice_get_cases table.terms id.0).1 [
    | inl known ↦ absurd (none_some (sym e ∙ known.2))
    | inr past ↦
        let long = grown_length [] table.terms in
        let far = past.0 in
        let void : type_of table id.0 ≡ VoidType = get_or_past (types_of table) id.0 VoidType (omega arith) in
        ap (pointed_cells table) (sym void)
  ]
  by_term id (Some (Pointer to)) e = completed_cells table to ∙ ap (pointed_cells table) (sym (grows id.0 (Pointer to) e))
  by_term id (Some Void) e = ap (pointed_cells table) (sym (grows id.0 Void e))
  by_term id (Some BoolTerm) e = ap (pointed_cells table) (sym (grows id.0 BoolTerm e))
  by_term id (Some (Integer size rank signed)) e = ap (pointed_cells table) (sym (grows id.0 (Integer size rank signed) e))
  by_term id (Some Floating) e = ap (pointed_cells table) (sym (grows id.0 Floating e))
  by_term id (Some VaList) e = ap (pointed_cells table) (sym (grows id.0 VaList e))
  by_term id (Some (Array of n)) e = ap (pointed_cells table) (sym (grows id.0 (Array of n) e))
  by_term id (Some (FunctionTerm result parameters form)) e = ap (pointed_cells table) (sym (grows id.0 (FunctionTerm result parameters form) e))
  by_term id (Some (Structure tag)) e = ap (pointed_cells table) (sym (grows id.0 (Structure tag) e))
  by_term id (Some (Union tag)) e = ap (pointed_cells table) (sym (grows id.0 (Union tag) e))

  cells_typed : (o : Option TypeId) → cells table (elements_or_blob (typed_by table o)) ≡ cells_by table (type_under table o)
  cells_typed None = refl
  cells_typed (Some id) = by_term id (slice_get table.terms id.0) refl

  -- what an allocating function of that number gives
  pub cells_allocated : (k : ℕ) (o : Option TypeId) → cells table (allocated_content k (typed_by table o)) ≡ (if nat_eq k 21 then one_cell 0 false else cells_by table (type_under table o))
  cells_allocated k o = by (nat_eq k 21)
    where
      by : (b : Bool) → cells table (if b then Scalars 0 else elements_or_blob (typed_by table o)) ≡ (if b then one_cell 0 false else cells_by table (type_under table o))
      by true = refl
      by false = cells_typed o
