-- The rows over characters: what they write points to nothing.
use Rattle.std.proofs.Common.{◌≡◌, ℕ, ℤ, pos, ◌==◌, ◌-◌, ◌+◌, take, Bool, true, false, cond, List, [], ◌∷◌, length, Option, Some, None, Result, Ok, Err, slice_get, Contains, refl, subst}
use Rattle.pta_base.specs.declared.effect.Effect.TheVariants.{GivesArgument, GivesNew}
use Rattle.c_types.specs.declared.key.ObjectKey.{ObjectKey}
use Rattle.c_types.specs.declared.term.PathStep.{PathStep}
use Rattle.c_types.specs.declared.term.PathStep.TheVariants.{Index}
use Rattle.c_types.specs.declared.term.TypeId.{TypeId}
use Rattle.c_types.specs.Trees.{Ctype, VoidType, BoolType, IntegerType, FloatingType, VaListType, PointerTo, ArrayOf, FunctionFrom, StructureOf, UnionOf}
use Rattle.c_types.specs.Table.{Table}
use Rattle.type_rules.specs.Kinds.{character}
use Rattle.core_tree.specs.declared.node.Node.{Node}
use Rattle.core_tree.specs.declared.node.Program.{Program}
use Rattle.core_tree.specs.Typed.{trees_in, type_at}
use Rattle.sol_model.specs.declared.system.System.{System}
use Rattle.sol_model.specs.declared.system.CallSite.{CallSite}
use Rattle.sol_model.specs.declared.system.Function.{Function}
use Rattle.sol_model.specs.Families.{Family}
use Rattle.sol_model.specs.Rules.{IsTarget}
use Rattle.sol_model.specs.Solutions.{IsClosed}
use Rattle.obj_space.specs.declared.location.Location.{Location}
use Rattle.obj_space.specs.View.{view_of}
use Rattle.row_numbers.specs.Setting.{Setting}
use Rattle.ref_cells.specs.declared.cells.Reason.{Reason}
use Rattle.ref_cells.specs.declared.cells.Cell.{Cell}
use Rattle.ref_cells.specs.declared.cells.Cell.TheVariants.{Unset, Number, Null, Pointer, Function as FunctionCell}
use Rattle.ref_cells.specs.declared.cells.Value.{Value}
use Rattle.ref_cells.specs.declared.instance.Instance.{Instance}
use Rattle.ref_cells.specs.Cells.{CellList}
use Rattle.ref_cells.specs.Wholes.{whole_of}
use Rattle.ref_cells.specs.Places.{reach}
use Rattle.ref_mem.specs.Reads.{one_cell}
use Rattle.ref_mem.specs.Writes.{kept, part_in, part_found, character_part}
use Rattle.ref_elements.specs.declared.outcome.Next.TheVariants.{Done}
use Rattle.ref_elements.specs.Arguments.{count_of}
use Rattle.ref_elements.specs.Objects.{is_odd, with_new}
use Rattle.ref_elements.specs.Outcomes.{Effected, gives, null_value, number_value, start_value}
use Rattle.ref_elements.specs.Parts.{Parts}
use Rattle.ref_texts.specs.Reading.{place_at, text_at, part_at, compared_at, compared_part}
use Rattle.ref_texts.specs.Writing.{push_text, text_parts, with_text, writes, closed as closed_text, filled_up, text_cells, text_of}
use Rattle.ref_texts.specs.Texts.{length_row, compare_row, compare_part_row, copy_text_row, add_text_row, copy_part_row, duplicated, duplicate_row, print_row, print_part_row, line_row, block_of, blocks_in, block_row}
use Rattle.call_sites.specs.Calls.{IsCallSite}
use Rattle.normal_form.specs.SystemOf.{SystemOf}
use Rattle.covering_laws.specs.covered_memory.Spots.{spot, whole_part, room, IsInTree}
use Rattle.covering_laws.specs.covered_memory.Covered.{Sets, object_row, MemoryIn, Leaves}
use Rattle.covering_laws.specs.covered_memory.Demands.{Grounds}
use Rattle.covering_laws.proofs.covered_memory.Changes.{Begins, parts_law}
use Rattle.covering_laws.proofs.covered_memory.Stays.{same_memory}
use Rattle.covering_laws.specs.covered_rows.Nodes.{IsArgument, HeldIn}
use Rattle.covering_laws.proofs.covered_rows.Values.{sets, w'}
use Rattle.covering_laws.proofs.covered_library.Effects.{gives_new_in}
use Rattle.covering_laws.proofs.covered_library.Allocation.{IsCovered}
use Rattle.covering_laws.proofs.covered_library.Answers.{answered, numbered_in, null_done}
use Rattle.covering_laws.proofs.covered_library.Copying.{went}
use Rattle.covering_laws.proofs.covered_library.Quiet.{AreQuiet, ArePartsQuiet, quiet_cells, quiet_parts}
use Rattle.covering_laws.proofs.covered_library.Setting.{given_in}

some_one : {X : Type 0} → {x y : X} → ◌≡◌ {A = Option X} (Some x) (Some y) → x ≡ y
some_one h = cc

ok_one : {X : Type 0} → {x y : X} → ◌≡◌ {A = Result X Reason} (Ok x) (Ok y) → x ≡ y
ok_one h = cc

err_ok : {X : Type 0} → {r : Reason} → {x : X} → ◌≡◌ {A = Result X Reason} (Err r) (Ok x) → ⊥
err_ok h = cc

kept_quiet : (t : Ctype) (width : Option ℕ) (c : ℤ) → AreQuiet (kept t width (([], Number c) ∷ []))
kept_quiet (StructureOf tag) width c = (tt, tt)
kept_quiet (UnionOf tag) width c = (tt, tt)
kept_quiet VoidType width c = (tt, tt)
kept_quiet BoolType width c = (tt, tt)
kept_quiet (IntegerType size rank signed) width c = (tt, tt)
kept_quiet FloatingType width c = (tt, tt)
kept_quiet VaListType width c = (tt, tt)
kept_quiet (PointerTo to) width c = (tt, tt)
kept_quiet (ArrayOf of n) width c = (tt, tt)
kept_quiet (FunctionFrom x y z) width c = (tt, tt)

module _ (table : Table) (memory : List Instance) where
  part_quiet : (o : Option Instance) (path : List PathStep) (found : Ctype) (c : ℤ) (part : List PathStep × CellList) → part_in table o path found c ≡ Ok part → AreQuiet part.1
  part_quiet None path found c part h = absurd (err_ok h)
  part_quiet (Some inst) path found c part h = subst (λ (x : List PathStep × CellList). AreQuiet x.1) (ok_one h) (kept_quiet found _ c)

  found_quiet : (place : Cell) (c : ℤ) (r : Result Ctype Reason) (part : List PathStep × CellList) → part_found table memory place c r ≡ Ok part → AreQuiet part.1
  found_quiet place c (Err reason) part h = absurd (err_ok h)
  found_quiet (Pointer i path past) c (Ok found) part h = part_quiet (slice_get memory i) path found c part h
  found_quiet Null c (Ok found) part h = absurd (err_ok h)
  found_quiet Unset c (Ok found) part h = absurd (err_ok h)
  found_quiet (Number k) c (Ok found) part h = absurd (err_ok h)
  found_quiet (FunctionCell key) c (Ok found) part h = absurd (err_ok h)

  character_quiet : (place : Cell) (c : ℤ) (part : List PathStep × CellList) → character_part table memory place c ≡ Ok part → AreQuiet part.1
  unfolding character_part
  character_quiet place c part h = found_quiet place c (reach table memory place character) part h

  -- the parts of a text point to nothing
  pub text_quiet : (place : Cell) (k : ℕ) (text : List ℤ) (parts : Parts) → text_parts table memory place k text ≡ Ok parts → ArePartsQuiet parts
  text_quiet place k [] parts h = subst ArePartsQuiet (ok_one h) tt
  text_quiet place k (c ∷ text) parts h = by (character_part table memory (place_at place k) c) refl (text_parts table memory place (k + 1) text) refl h (λ ps e. text_quiet place (k + 1) text ps e)
    where
      by : (a : Result (List PathStep × CellList) Reason) → character_part table memory (place_at place k) c ≡ a → (r : Result Parts Reason) → text_parts table memory place (k + 1) text ≡ r → push_text a r ≡ Ok parts
          → ((ps : Parts) → text_parts table memory place (k + 1) text ≡ Ok ps → ArePartsQuiet ps) → ArePartsQuiet parts
      by (Err reason) a_is r r_is f next = absurd (err_ok f)
      by (Ok part) a_is (Err reason) r_is f next = absurd (err_ok f)
      by (Ok part) a_is (Ok ps) r_is f next = subst ArePartsQuiet (ok_one f) (character_quiet (place_at place k) c part a_is, next ps r_is)

texts_quiet : (k : ℕ) (text : List ℤ) → AreQuiet (text_cells k text)
texts_quiet k [] = tt
texts_quiet k (c ∷ text) = (tt, texts_quiet (k + 1) text)

-- a text that is written leaves a memory covered
pub text_law : (g : Sets) (system : System) (grounds : Grounds g.table g.space system) (memory : List Instance) (all : MemoryIn g memory) (place : Cell) (parts : Parts) → ArePartsQuiet parts
    → Leaves g memory (with_text g.table memory place parts)
text_law g system grounds memory all (Pointer i path past) parts quiet =
    parts_law g system grounds memory i parts all (λ a e h. quiet_parts g system grounds memory all (object_row h.location.content h.first) (whole_part (whole_of g.table a)) parts quiet)
text_law g system grounds memory all Null parts quiet = record { extends = same_memory g memory; covered = all }
text_law g system grounds memory all Unset parts quiet = record { extends = same_memory g memory; covered = all }
text_law g system grounds memory all (Number k) parts quiet = record { extends = same_memory g memory; covered = all }
text_law g system grounds memory all (FunctionCell key) parts quiet = record { extends = same_memory g memory; covered = all }

-- what an object that a call makes begins as, whatever it has in it
pub record IsBegun (g : Sets) (key : ObjectKey) (ty : Option TypeId) (bytes : ℕ) (zero : Bool) (cells : CellList) : Type 0 where
  pub begins : Begins g (record { key = key; live = true; ty = ty; bytes = bytes; zero = zero; cells = cells })
  pub in_tree : IsInTree g.table (whole_of g.table (record { key = key; live = true; ty = ty; bytes = bytes; zero = zero; cells = cells }))
      (room (record { key = key; live = true; ty = ty; bytes = bytes; zero = zero; cells = cells })) (Index 0 ∷ [])
  pub spot_is : spot g.table g.space key (Index 0 ∷ []) ≡ Some begins.first

module _ (p : Program) (space : List Location) (system : System) (is : SystemOf p (view_of space) system) (F : Family) (closed : IsClosed system F) (grounds : Grounds p.types space system)
    (number n : ℕ) (node : Node) (site : CallSite) (at : slice_get system.calls number ≡ Some site) (of_call : IsCallSite (w' p space system is F closed grounds) n node site)
    (target : ℕ) (function : Function) (is_target : IsTarget system F site target function) (library : ℕ) (is_library : function.library ≡ Some library)
    (memory : List Instance) (all : MemoryIn (sets p space system is F closed grounds) memory) where
  abbrev g : Sets
  g = sets p space system is F closed grounds

  abbrev w : Setting
  w = w' p space system is F closed grounds

  -- a text is written, and the call gives a value
  pub writes_in : (place : Cell) (k : ℕ) (text : List ℤ) (value : Value) → ((after : List Instance) → Leaves g memory after → HeldIn g w after n value) → (e : Effected) → writes p.types memory place k text value ≡ Ok e → IsCovered p space system is F closed grounds number n node site at of_call target function is_target library is_library memory e
  writes_in place k text value held e h =
      let q = went (text_parts p.types memory place k text) (λ parts. gives (with_text p.types memory place parts) value) e h in
      let l = text_law g system grounds memory all place q.0 (text_quiet p.types memory place k text q.0 q.1) in
      answered p space system is F closed grounds number n node site at of_call target function is_target library is_library memory (with_text p.types memory place q.0) (record { value = value; stores = []; next = Done }) e l (held (with_text p.types memory place q.0) l) tt q.2

  -- strlen, strcmp, strncmp
  pub length_row_in : (result : Ctype) (a1 : Cell) (e : Effected) → length_row p.types memory result a1 ≡ Ok e → IsCovered p space system is F closed grounds number n node site at of_call target function is_target library is_library memory e
  length_row_in result a1 e h = (let q = went (text_at p.types memory a1) _ e h in numbered_in p space system is F closed grounds number n node site at of_call target function is_target library is_library memory all result (pos (length q.0)) Done e q.2)

  pub compare_row_in : (result : Ctype) (a1 a2 : Cell) (e : Effected) → compare_row p.types memory result a1 a2 ≡ Ok e → IsCovered p space system is F closed grounds number n node site at of_call target function is_target library is_library memory e
  compare_row_in result a1 a2 e h = (let q = went (compared_at p.types memory a1 a2) _ e h in numbered_in p space system is F closed grounds number n node site at of_call target function is_target library is_library memory all result q.0 Done e q.2)

  pub compare_part_row_in : (result : Ctype) (a1 a2 a3 : Cell) (e : Effected) → compare_part_row p.types memory result a1 a2 a3 ≡ Ok e → IsCovered p space system is F closed grounds number n node site at of_call target function is_target library is_library memory e
  compare_part_row_in result a1 a2 a3 e h = (let q = went (compared_part p.types memory a1 a2 (count_of a3)) _ e h in numbered_in p space system is F closed grounds number n node site at of_call target function is_target library is_library memory all result q.0 Done e q.2)

  -- sprintf, snprintf, fread
  pub print_row_in : (result : Ctype) (word : ℕ) (a1 : Cell) (e : Effected) → print_row p.types memory result word a1 ≡ Ok e → IsCovered p space system is F closed grounds number n node site at of_call target function is_target library is_library memory e
  print_row_in result word a1 e h = writes_in a1 0 (closed_text (text_of word)) (number_value result (pos word)) (λ after l. (tt, tt)) e h

  pub print_part_row_in : (result : Ctype) (word : ℕ) (a1 a2 : Cell) (e : Effected) → print_part_row p.types memory result word a1 a2 ≡ Ok e → IsCovered p space system is F closed grounds number n node site at of_call target function is_target library is_library memory e
  print_part_row_in result word a1 a2 e h = by (count_of a2 == 0) h
    where
      by : (b : Bool) → cond b (gives memory (number_value result (pos word))) (writes p.types memory a1 0 (closed_text (take (count_of a2 - 1) (text_of word))) (number_value result (pos word))) ≡ Ok e → IsCovered p space system is F closed grounds number n node site at of_call target function is_target library is_library memory e
      by true k = numbered_in p space system is F closed grounds number n node site at of_call target function is_target library is_library memory all result (pos word) Done e k
      by false k = writes_in a1 0 (closed_text (take (count_of a2 - 1) (text_of word))) (number_value result (pos word)) (λ after l. (tt, tt)) e k

  pub block_row_in : (result : Ctype) (word : ℕ) (a1 a2 a3 : Cell) (e : Effected) → block_row p.types memory result word a1 a2 a3 ≡ Ok e → IsCovered p space system is F closed grounds number n node site at of_call target function is_target library is_library memory e
  block_row_in result word a1 a2 a3 e h =
      writes_in a1 0 (block_of word (count_of a2) (count_of a3)) (number_value result (pos (blocks_in (count_of a2) (block_of word (count_of a2) (count_of a3))))) (λ after l. (tt, tt)) e h

  -- the rows that give their first argument
  module _ (a : ℕ) (ta to : Ctype) (gives_it : Contains function.effects (GivesArgument 1)) (a_is : IsArgument (trees_in p) node 0 a) (tya : type_at (trees_in p) a ≡ PointerTo ta) (tn : type_at (trees_in p) n ≡ PointerTo to)
      (a1 : Cell) (h1 : HeldIn (sets p space system is F closed grounds) (w' p space system is F closed grounds) memory a (one_cell a1)) where
    writes_given : (k : ℕ) (text : List ℤ) (e : Effected) → writes p.types memory a1 k text (one_cell a1) ≡ Ok e → IsCovered p space system is F closed grounds number n node site at of_call target function is_target library is_library memory e
    writes_given k text e h = writes_in a1 k text (one_cell a1) (λ after l. given_in p space system is F closed grounds number n node site at of_call target function is_target library is_library memory all 0 a ta to gives_it a_is tya tn a1 h1 after l) e h

    -- strcpy
    pub copy_text_row_in : (a2 : Cell) (e : Effected) → copy_text_row p.types memory a1 a2 ≡ Ok e → IsCovered p space system is F closed grounds number n node site at of_call target function is_target library is_library memory e
    copy_text_row_in a2 e h = (let q = went (text_at p.types memory a2) _ e h in writes_given 0 (closed_text q.0) e q.2)

    -- strcat
    pub add_text_row_in : (a2 : Cell) (e : Effected) → add_text_row p.types memory a1 a2 ≡ Ok e → IsCovered p space system is F closed grounds number n node site at of_call target function is_target library is_library memory e
    add_text_row_in a2 e h =
        let q = went (text_at p.types memory a1) _ e h in
        let r = went (text_at p.types memory a2) _ e q.2 in
        writes_given (length q.0) (closed_text r.0) e r.2

    -- strncpy
    pub copy_part_row_in : (a2 a3 : Cell) (e : Effected) → copy_part_row p.types memory a1 a2 a3 ≡ Ok e → IsCovered p space system is F closed grounds number n node site at of_call target function is_target library is_library memory e
    copy_part_row_in a2 a3 e h = (let q = went (part_at p.types memory a2 (count_of a3)) _ e h in writes_given 0 (filled_up (count_of a3) q.0) e q.2)

    -- fgets
    pub line_row_in : (word : ℕ) (a2 : Cell) (e : Effected) → line_row p.types memory word a1 a2 ≡ Ok e → IsCovered p space system is F closed grounds number n node site at of_call target function is_target library is_library memory e
    line_row_in word a2 e h = by (word == 0) h
      where
        by : (b : Bool) → cond b (gives memory null_value) (writes p.types memory a1 0 (closed_text (take (count_of a2 - 1) (text_of word))) (one_cell a1)) ≡ Ok e → IsCovered p space system is F closed grounds number n node site at of_call target function is_target library is_library memory e
        by true k = null_done p space system is F closed grounds number n node site at of_call target function is_target library is_library to tn memory all e k
        by false k = writes_given 0 (closed_text (take (count_of a2 - 1) (text_of word))) e k

  -- strdup
  pub duplicate_row_in : (to : Ctype) → Contains function.effects GivesNew → type_at (trees_in p) n ≡ PointerTo to → (key : ObjectKey) (fixed : Option TypeId)
      → ((bytes : ℕ) (cells : CellList) → (b : IsBegun g key fixed bytes false cells) × Contains site.fresh (target, b.begins.first))
      → (word : ℕ) (a1 : Cell) (e : Effected) → duplicate_row p.types memory key fixed word a1 ≡ Ok e → IsCovered p space system is F closed grounds number n node site at of_call target function is_target library is_library memory e
  duplicate_row_in to listed tn key fixed begun word a1 e h = by (is_odd word) h
    where
      by : (b : Bool) → cond b (gives memory null_value) (duplicated p.types memory key fixed a1) ≡ Ok e → IsCovered p space system is F closed grounds number n node site at of_call target function is_target library is_library memory e
      by true k = null_done p space system is F closed grounds number n node site at of_call target function is_target library is_library to tn memory all e k
      by false k =
          let q = went (text_at p.types memory a1) _ e k in
          let cells : CellList = text_cells 0 (closed_text q.0) in
          let b = begun (length q.0 + 1) (text_cells 0 (closed_text q.0)) in
          let r = gives_new_in p space system is F closed grounds number n node site at of_call target function is_target library is_library to listed tn memory (record { key = key; live = true; ty = fixed; bytes = length q.0 + 1; zero = false; cells = text_cells 0 (closed_text q.0) }) all b.0.begins
          (quiet_cells g memory (object_row b.0.begins.location.content b.0.begins.first) (whole_part (whole_of p.types (record { key = key; live = true; ty = fixed; bytes = length q.0 + 1; zero = false; cells = text_cells 0 (closed_text q.0) }))) (text_cells 0 (closed_text q.0)) (texts_quiet 0 (closed_text q.0)))
          b.1 b.0.in_tree b.0.spot_is in
          answered p space system is F closed grounds number n node site at of_call target function is_target library is_library memory (with_new memory key fixed (length q.0 + 1) false (text_cells 0 (closed_text q.0))) (record { value = start_value (length memory); stores = []; next = Done }) e r.0 r.1 tt q.2
