-- All cells of a part are covered where those that are listed are: what isn't listed points to nothing.
use Rattle.std.proofs.Common.{arith, ◌≡◌, ◌∙◌, ℕ, zero, suc, ◌+◌, Bool, true, false, List, [], ◌∷◌, Option, Some, None, slice_get, map, refl, sym, ap, subst}
use Rattle.std.specs.Prelude.{unwrap_or}
use Rattle.std.specs.Option.{option_and_then}
use Rattle.c_types.specs.declared.term.PathStep.{PathStep}
use Rattle.c_types.specs.declared.term.PathStep.TheVariants.{Index, Member}
use Rattle.c_types.specs.declared.term.MemberTerm.{MemberTerm}
use Rattle.c_types.specs.Trees.{Ctype, VoidType, BoolType, IntegerType, FloatingType, VaListType, PointerTo, ArrayOf, FunctionFrom, StructureOf, UnionOf}
use Rattle.c_types.specs.Table.{Table, type_of, members_in}
use Rattle.c_types.specs.Parts.{field_in}
use Rattle.c_types.specs.Paths.{with_length, member_type}
use Rattle.obj_space.specs.Spots.{Reached, member_reached, step_by, step_from, part_at}
use Rattle.ref_cells.specs.declared.cells.Cell.{Cell}
use Rattle.ref_cells.specs.declared.cells.Cell.TheVariants.{Unset}
use Rattle.ref_cells.specs.Cells.{CellList, under, prefixed}
use Rattle.ref_cells.specs.Values.{blank, listed, cell_in, active, member_types, Fill, elements, members_from, one_member, filled_by, filled_to, filled}
use Rattle.covering_laws.specs.covered_memory.Cells.{EachCell}
use Rattle.covering_laws.proofs.covered_memory.Cells.{each_append, each_prefixed, each_under}

some_one : {X : Type 0} → {x y : X} → ◌≡◌ {A = Option X} (Some x) (Some y) → x ≡ y
some_one h = cc

none_some : {X : Type 0} → {x : X} → ◌≡◌ {A = Option X} None (Some x) → ⊥
none_some h = cc

pub nowhere : (table : Table) (path : List PathStep) → part_at table None path ≡ None
nowhere table [] = refl
nowhere table (step ∷ rest) = nowhere table rest

-- what is listed of a part
pub each_listed : (P : List PathStep → Cell → Type 0) (cells : CellList) → P [] Unset → EachCell P cells → EachCell P (listed cells)
each_listed P [] unset h = (unset, tt)
each_listed P (e ∷ rest) unset h = h

-- a part of that type, or none
abbrev pub IsOf : Ctype → Option Reached → Type 0
IsOf t None = Unit {0}
IsOf t (Some r) = r.ty ≡ t

-- a cell of a part, whose facts hold of it wherever they hold where there is no part, and of cells that aren't listed
module _ (table : Table) (P : Option Reached → Cell → Type 0) (from_none : (o : Option Reached) (c : Cell) → P None c → P o c) (unset : (o : Option Reached) → P o Unset)
    (marked : Bool) (blanks : (o : Option Reached) (t : Ctype) → P o (blank marked t)) where
  abbrev pub At : Option Reached → CellList → Type 0
  At o cells = EachCell (λ path c. P (part_at table o path) c) cells

  at_step : (o : Option Reached) (step : PathStep) (cells : CellList) → At o cells → At (step_from table o step) (under step cells)
  at_step o step cells h = each_under (λ path c. P (part_at table o path) c) step cells h

  -- a part without parts
  no_parts : (o : Option Reached) → ((step : PathStep) → step_from table o step ≡ None) → (t : Ctype) (cells : CellList) → At o cells → At o (([], cell_in marked t cells) ∷ [])
  no_parts o none t [] h = (blanks o t, tt)
  no_parts o none t (e ∷ rest) h = (by e.0 h.0, tt)
    where
      by : (path : List PathStep) → P (part_at table o path) e.1 → P o e.1
      by [] g = g
      by (step ∷ more) g = from_none o e.1 (subst (λ (x : Option Reached). P x e.1) (ap (λ (x : Option Reached). part_at table x more) (none step) ∙ nowhere table more) g)

  abbrev Fills : Fill → Type 0
  Fills fill = (t : Ctype) (o : Option Reached) (cells : CellList) → IsOf t o → At o cells → At o (fill t cells)

  elements_in : (fill : CellList → CellList) (of : Ctype) (k : Option ℕ) (o : Option Reached) → IsOf (ArrayOf of k) o
      → ((q : Option Reached) (cells : CellList) → IsOf of q → At q cells → At q (fill cells)) → (n : ℕ) (cells : CellList) → At o cells → At o (elements fill n cells)
  elements_in fill of k o is each zero cells h = tt
  elements_in fill of k o is each (suc n) cells h =
      each_append (λ path c. P (part_at table o path) c) (elements fill n cells) (prefixed (Index n) (fill (under (Index n) cells)))
      (elements_in fill of k o is each n cells h)
      (each_prefixed (λ path c. P (part_at table o path) c) (Index n) (fill (under (Index n) cells))
      (each (step_from table o (Index n)) (under (Index n) cells) (of_element o is) (at_step o (Index n) cells h)))
    where
      of_element : (o : Option Reached) → IsOf (ArrayOf of k) o → IsOf of (step_from table o (Index n))
      of_element None is = tt
      of_element (Some r) is = subst (λ (t : Ctype). IsOf of (step_by table t r.node r.inside (Index n))) (sym is) refl

  -- a member of a structure or union
  reached_of : (whole t : Ctype) (w : Option Ctype) (place : Option ℕ) (node : ℕ) (inside : Bool) → ((s : Ctype) → w ≡ Some s → s ≡ t) → IsOf t (member_reached whole w place node inside)
  reached_of whole t None place node inside h = tt
  reached_of whole t (Some s) place node true h = h s refl
  reached_of whole t (Some s) None node false h = tt
  reached_of whole t (Some s) (Some p) node false h = h s refl

  length_same : (t s : Ctype) → with_length t ≡ Some s → s ≡ t
  length_same (ArrayOf of None) s e = absurd (none_some e)
  length_same (ArrayOf of (Some n)) s e = sym (some_one e)
  length_same VoidType s e = sym (some_one e)
  length_same BoolType s e = sym (some_one e)
  length_same (IntegerType size rank signed) s e = sym (some_one e)
  length_same FloatingType s e = sym (some_one e)
  length_same VaListType s e = sym (some_one e)
  length_same (PointerTo to) s e = sym (some_one e)
  length_same (FunctionFrom r ps f) s e = sym (some_one e)
  length_same (StructureOf tag) s e = sym (some_one e)
  length_same (UnionOf tag) s e = sym (some_one e)

  -- the types of members, by number
  member_types_get : (ms : List MemberTerm) (k : ℕ) (t : Ctype) → slice_get (map (λ (m : MemberTerm). type_of table m.ty.0) ms) k ≡ Some t
      → (s : Ctype) → option_and_then (λ (m : MemberTerm). with_length (type_of table m.ty.0)) (slice_get ms k) ≡ Some s → s ≡ t
  member_types_get [] k t at s e = absurd (none_some e)
  member_types_get (m ∷ ms) zero t at s e = length_same (type_of table m.ty.0) s e ∙ some_one at
  member_types_get (m ∷ ms) (suc k) t at s e = member_types_get ms k t at s e

  members_get : (o : Option (List MemberTerm)) (k : ℕ) (t : Ctype) → slice_get (map (λ (m : MemberTerm). type_of table m.ty.0) (unwrap_or o [])) k ≡ Some t
      → (s : Ctype) → member_type table o k ≡ Some s → s ≡ t
  members_get None k t at s e = absurd (none_some e)
  members_get (Some ms) k t at s e = member_types_get ms k t at s e

  of_member : (tag k : ℕ) (t whole : Ctype) (o : Option Reached) → (step : (node : ℕ) (inside : Bool) → IsOf t (step_by table whole node inside (Member k))) → IsOf whole o → IsOf t (step_from table o (Member k))
  of_member tag k t whole None step is = tt
  of_member tag k t whole (Some r) step is = subst (λ (s : Ctype). IsOf t (step_by table s r.node r.inside (Member k))) (sym is) (step r.node r.inside)

  structure_member : (tag k : ℕ) (t : Ctype) (o : Option Reached) → slice_get (member_types table tag) k ≡ Some t → IsOf (StructureOf tag) o → IsOf t (step_from table o (Member k))
  structure_member tag k t o at is =
      of_member tag k t (StructureOf tag) o
      (λ node inside. reached_of (StructureOf tag) t (member_type table (members_in table tag) k) (field_in table (StructureOf tag) k) node inside (members_get (members_in table tag) k t at)) is

  union_member : (tag k : ℕ) (t : Ctype) (o : Option Reached) → slice_get (member_types table tag) k ≡ Some t → IsOf (UnionOf tag) o → IsOf t (step_from table o (Member k))
  union_member tag k t o at is =
      of_member tag k t (UnionOf tag) o
      (λ node inside. reached_of (UnionOf tag) t (member_type table (members_in table tag) k) (field_in table (UnionOf tag) k) node inside (members_get (members_in table tag) k t at)) is

  one_filled : (fill : Fill) → Fills fill → (k : ℕ) (t : Ctype) (o : Option Reached) (cells : CellList) → IsOf t (step_from table o (Member k)) → At o cells
      → At o (prefixed (Member k) (fill t (under (Member k) cells)))
  one_filled fill each k t o cells is h =
      each_prefixed (λ path c. P (part_at table o path) c) (Member k) (fill t (under (Member k) cells))
      (each t (step_from table o (Member k)) (under (Member k) cells) is (at_step o (Member k) cells h))

  members_filled : (fill : Fill) → Fills fill → (o : Option Reached) (cells : CellList) → At o cells → (k : ℕ) (ts : List Ctype)
      → ((j : ℕ) (t : Ctype) → slice_get ts j ≡ Some t → IsOf t (step_from table o (Member (k + j)))) → At o (members_from fill k ts cells)
  members_filled fill each o cells h k [] is = tt
  members_filled fill each o cells h k (t ∷ ts) is =
      each_append (λ path c. P (part_at table o path) c) (prefixed (Member k) (fill t (under (Member k) cells))) (members_from fill (k + 1) ts cells)
      (one_filled fill each k t o cells (subst (λ (n : ℕ). IsOf t (step_from table o (Member n))) (let e : k + 0 ≡ k = omega arith in e) (is 0 t refl)) h)
      (members_filled fill each o cells h (k + 1) ts
      (λ j s at. subst (λ (n : ℕ). IsOf s (step_from table o (Member n))) (let e : k + suc j ≡ (k + 1) + j = omega arith in e) (is (suc j) s at)))

  one_member_filled : (fill : Fill) → Fills fill → (k : ℕ) (w : Option Ctype) (o : Option Reached) (cells : CellList)
      → ((t : Ctype) → w ≡ Some t → IsOf t (step_from table o (Member k))) → At o cells → At o (one_member fill k w cells)
  one_member_filled fill each k None o cells is h = tt
  one_member_filled fill each k (Some t) o cells is h =
      each_prefixed (λ path c. P (part_at table o path) c) (Member k) (listed (fill t (under (Member k) cells)))
      (each_listed (λ path c. P (part_at table (step_from table o (Member k)) path) c) (fill t (under (Member k) cells)) (unset (step_from table o (Member k)))
      (each t (step_from table o (Member k)) (under (Member k) cells) (is t refl) (at_step o (Member k) cells h)))

  no_step : (t : Ctype) → ((node : ℕ) (inside : Bool) (step : PathStep) → step_by table t node inside step ≡ None) → (o : Option Reached) → IsOf t o → (step : PathStep) → step_from table o step ≡ None
  no_step t none None is step = refl
  no_step t none (Some r) is step = ap (λ (s : Ctype). step_by table s r.node r.inside step) is ∙ none r.node r.inside step

  scalar_step : (node : ℕ) (inside : Bool) (step : PathStep) → (step_by table BoolType node inside step ≡ None) × (step_by table FloatingType node inside step ≡ None) × (step_by table VaListType node inside step ≡ None)
  scalar_step node inside (Index i) = (refl, refl, refl)
  scalar_step node inside (Member k) = (refl, refl, refl)

  integer_step : (size rank : ℕ) (signed : Bool) (node : ℕ) (inside : Bool) (step : PathStep) → step_by table (IntegerType size rank signed) node inside step ≡ None
  integer_step size rank signed node inside (Index i) = refl
  integer_step size rank signed node inside (Member k) = refl

  pointer_step : (to : Ctype) (node : ℕ) (inside : Bool) (step : PathStep) → step_by table (PointerTo to) node inside step ≡ None
  pointer_step to node inside (Index i) = refl
  pointer_step to node inside (Member k) = refl

  by_fills : (fill : Fill) → Fills fill → Fills (filled_by table marked fill)
  by_fills fill each VoidType o cells is h = tt
  by_fills fill each (FunctionFrom r ps f) o cells is h = tt
  by_fills fill each (ArrayOf of None) o cells is h = tt
  by_fills fill each (ArrayOf of (Some n)) o cells is h =
      elements_in (filled_by table marked fill of) of (Some n) o is (λ q list of_is g. by_fills fill each of q list of_is g) n cells h
  by_fills fill each (StructureOf tag) o cells is h =
      members_filled fill each o cells h 0 (member_types table tag)
      (λ j t at. subst (λ (n : ℕ). IsOf t (step_from table o (Member n))) (let e : j ≡ 0 + j = omega arith in e) (structure_member tag j t o at is))
  by_fills fill each (UnionOf tag) o cells is h =
      one_member_filled fill each (active cells) (slice_get (member_types table tag) (active cells)) o cells (λ t at. union_member tag (active cells) t o at is) h
  by_fills fill each BoolType o cells is h = no_parts o (no_step BoolType (λ node inside step. (scalar_step node inside step).0) o is) BoolType cells h
  by_fills fill each FloatingType o cells is h = no_parts o (no_step FloatingType (λ node inside step. (scalar_step node inside step).1) o is) FloatingType cells h
  by_fills fill each VaListType o cells is h = no_parts o (no_step VaListType (λ node inside step. (scalar_step node inside step).2) o is) VaListType cells h
  by_fills fill each (IntegerType size rank signed) o cells is h =
      no_parts o (no_step (IntegerType size rank signed) (integer_step size rank signed) o is) (IntegerType size rank signed) cells h
  by_fills fill each (PointerTo to) o cells is h = no_parts o (no_step (PointerTo to) (pointer_step to) o is) (PointerTo to) cells h

  to_fills : (depth : ℕ) → Fills (filled_to table marked depth)
  to_fills zero t o cells is h = tt
  to_fills (suc depth) t o cells is h = by_fills (filled_to table marked depth) (to_fills depth) t o cells is h

  pub fills_all : Fills (filled table marked)
  unfolding filled
  fills_all = by_fills (filled_to table marked table.tags) (to_fills table.tags)

  -- a scalar that is listed, or isn't
  pub scalar_part : (t : Ctype) (o : Option Reached) → ((step : PathStep) → step_from table o step ≡ None) → (cells : CellList) → At o cells → P o (cell_in marked t cells)
  scalar_part t o none cells h = (no_parts o none t cells h).0
