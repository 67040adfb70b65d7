-- MemberOfValue: the rows of a member's nodes stand behind those of the nodes before it.
use Rattle.std.proofs.Common.{arith, ◌≡◌, ◌∙◌, ℕ, zero, suc, ◌+◌, ◌<◌, ◌≤◌, true, false, Bool, cond, List, [], ◌∷◌, ◌++◌, length, take, Option, Some, None, slice_get, Contains, refl, sym, ap, subst}
use Rattle.std.proofs.lemmas.Bool.{false≢true}
use Rattle.c_types.specs.declared.term.PathStep.{PathStep}
use Rattle.c_types.specs.declared.term.PathStep.TheVariants.{Member as MemberStep}
use Rattle.c_types.specs.Trees.{Ctype, PointerTo, StructureOf, UnionOf}
use Rattle.c_types.specs.Table.{type_of, extent_in}
use Rattle.core_tree.specs.declared.node.NodeKind.TheVariants.{MemberOfValue}
use Rattle.core_tree.specs.declared.node.Program.{Program}
use Rattle.core_tree.specs.Typed.{trees_in, type_at}
use Rattle.sol_model.specs.declared.system.System.{System}
use Rattle.sol_model.specs.Families.{Family, Has, IsContained}
use Rattle.sol_model.specs.Solutions.{IsClosed}
use Rattle.obj_space.specs.declared.location.Location.{Location}
use Rattle.obj_space.specs.Parts.{nodes_of as tree_nodes}
use Rattle.obj_space.specs.Spots.{Reached, reached, step_from, part_at}
use Rattle.obj_space.specs.View.{view_of}
use Rattle.obj_space.proofs.Reach.{path_nodes}
use Rattle.row_numbers.specs.Kept.{nodes_of, is_kept, kept_at, kept_from, kept, kept_count, kept_row, member_node}
use Rattle.row_numbers.specs.Setting.{Setting}
use Rattle.ref_cells.specs.declared.cells.Cell.{Cell}
use Rattle.ref_cells.specs.declared.cells.Cell.TheVariants.{Unset, Number, Null, Pointer, Function}
use Rattle.ref_cells.specs.declared.cells.Value.{Value}
use Rattle.ref_cells.specs.declared.instance.Instance.{Instance}
use Rattle.ref_cells.specs.Cells.{under}
use Rattle.normal_form.specs.declared.normal.Assignment.TheVariants.{Copy}
use Rattle.normal_form.specs.Assignments.{row_in, part_of_value}
use Rattle.normal_form.specs.SystemOf.{SystemOf}
use Rattle.covering_laws.specs.covered_memory.Spots.{spot}
use Rattle.covering_laws.specs.covered_memory.Covered.{Sets, Lands, CellIn, pointer_row}
use Rattle.covering_laws.specs.covered_memory.Demands.{Grounds, IsWhole}
use Rattle.covering_laws.proofs.covered_memory.Cells.{each_change, each_under}
use Rattle.covering_laws.proofs.covered_memory.Parts.{kept_row_node, few_nodes}
use Rattle.covering_laws.proofs.covered_memory.Anchors.{Leads, from_whole}
use Rattle.covering_laws.proofs.covered_memory.Access.{row_inv, row_is}
use Rattle.covering_laws.proofs.covered_memory.Fields.{place_of}
use Rattle.covering_laws.specs.covered_rows.Nodes.{IsNode, HeldIn}
use Rattle.covering_laws.proofs.covered_rows.Lists.{map_has, kept_has}
use Rattle.covering_laws.proofs.covered_rows.Demanded.{by_value, copy_says, copies_say}
use Rattle.covering_laws.proofs.covered_rows.Values.{sets, w', held, of_held, typed_at}

none_some : {X : Type 0} → {x : X} → ◌≡◌ {A = Option X} None (Some x) → ⊥
none_some h = cc

some_one : {X : Type 0} → {x y : X} → ◌≡◌ {A = Option X} (Some x) (Some y) → x ≡ y
some_one h = cc

-- how many nodes have rows doesn't depend on where they are counted from
count_from : (i j : ℕ) (xs : List Ctype) → length (kept_from i xs) ≡ length (kept_from j xs)
count_from i j [] = refl
count_from i j (t ∷ xs) = by (is_kept t) (count_from (i + 1) (j + 1) xs)
  where
    by : (b : Bool) → length (kept_from (i + 1) xs) ≡ length (kept_from (j + 1) xs) → length (cond b (i ∷ kept_from (i + 1) xs) (kept_from (i + 1) xs)) ≡ length (cond b (j ∷ kept_from (j + 1) xs) (kept_from (j + 1) xs))
    by true e = ap suc e
    by false e = e

count_append : (i : ℕ) (xs ys : List Ctype) → length (kept_from i (xs ++ ys)) ≡ length (kept_from i xs) + kept_count ys
count_append i [] ys = count_from i 0 ys ∙ (let e : kept_count ys ≡ 0 + kept_count ys = omega arith in e)
count_append i (t ∷ xs) ys = by (is_kept t) (count_append (i + 1) xs ys)
  where
    by : (b : Bool) → length (kept_from (i + 1) (xs ++ ys)) ≡ length (kept_from (i + 1) xs) + kept_count ys
        → length (cond b (i ∷ kept_from (i + 1) (xs ++ ys)) (kept_from (i + 1) (xs ++ ys))) ≡ length (cond b (i ∷ kept_from (i + 1) xs) (kept_from (i + 1) xs)) + kept_count ys
    by true e = omega arith
    by false e = e

-- the first nodes of a whole are those before a part, and then the part's
take_part : (m i : ℕ) (whole part : List Ctype) → ((j : ℕ) (b : Ctype) → slice_get part j ≡ Some b → slice_get whole (m + j) ≡ Some b) → m ≤ length whole → i ≤ length part → take (m + i) whole ≡ take m whole ++ take i part
take_part zero zero whole part same le lt = refl
take_part zero (suc i) [] [] same le lt = absurd (omega arith)
take_part zero (suc i) [] (t ∷ part) same le lt = absurd (none_some (same 0 t refl))
take_part zero (suc i) (s ∷ whole) [] same le lt = absurd (omega arith)
take_part zero (suc i) (s ∷ whole) (t ∷ part) same le lt =
    let here : s ≡ t = some_one (same 0 t refl) in
    let next : take (0 + i) whole ≡ take i part = take_part zero i whole part (λ j b e. (let n : suc (0 + j) ≡ 0 + suc j = omega arith in ap (slice_get (s ∷ whole)) n ∙ same (suc j) b e)) (omega arith) (omega arith) in
    let n : 0 + suc i ≡ suc (0 + i) = omega arith in
    ap (λ (k : ℕ). take k (s ∷ whole)) n ∙ (ap (λ (x : Ctype). x ∷ take (0 + i) whole) here ∙ ap (λ (xs : List Ctype). t ∷ xs) next)
take_part (suc m) i [] part same le lt = absurd (omega arith)
take_part (suc m) i (s ∷ whole) part same le lt =
    let n : suc m + i ≡ suc (m + i) = omega arith in
    ap (λ (k : ℕ). take k (s ∷ whole)) n
    ∙ ap (λ (xs : List Ctype). s ∷ xs)
    (take_part m i whole part (λ j b e. (let k : suc (m + j) ≡ suc m + j = omega arith in ap (slice_get (s ∷ whole)) k ∙ same j b e)) (omega arith) lt)

-- the row of a part's node
pub part_row : (f m i : ℕ) (whole part : List Ctype) → ((j : ℕ) (b : Ctype) → slice_get part j ≡ Some b → slice_get whole (m + j) ≡ Some b) → m ≤ length whole → i ≤ length part
    → kept_row f whole (m + i) ≡ kept_row (kept_row f whole m) part i
part_row f m i whole part same le lt =
    ap (λ (xs : List Ctype). f + kept_count xs) (take_part m i whole part same le lt)
    ∙ (let e = count_append 0 (take m whole) (take i part) in omega arith)

get_length : (xs : List Ctype) (i : ℕ) → kept_at (slice_get xs i) ≡ true → i < length xs
get_length [] i h = absurd (false≢true h)
get_length (x ∷ xs) zero h = omega arith
get_length (x ∷ xs) (suc i) h = (let lt = get_length xs i h in omega arith)

module _ (p : Program) (space : List Location) (system : System) (is : SystemOf p (view_of space) system) (F : Family) (closed : IsClosed system F) (grounds : Grounds p.types space system) where
  abbrev g : Sets
  g = sets p space system is F closed grounds

  abbrev w : Setting
  w = w' p space system is F closed grounds

  abbrev nodes : Ctype → List Ctype
  nodes t = nodes_of p.types t

  module _ (n k v : ℕ) (t s : Ctype) (node : IsNode (trees_in p) n (MemberOfValue k) t (v ∷ [])) (ty : type_at (trees_in p) v ≡ s) (whole_t : IsWhole p.types t) (whole_s : IsWhole p.types s)
      (own : Reached) (step : step_from p.types (Some (reached s 0 false)) (MemberStep k) ≡ Some own) (own_ty : own.ty ≡ t)
      (contained : (i j : ℕ) → Leads own i j → kept_at (slice_get (nodes t) i) ≡ true → IsContained F (kept_row (row_in w v) (nodes s) j) (kept_row (row_in w n) (nodes t) i)) where
    lands_part : (path : List PathStep) (found : Option ℕ) → Lands F (pointer_row (kept_row (row_in w v) (nodes s)) (part_at p.types (Some (reached s 0 false)) (MemberStep k ∷ path))) found
        → Lands F (pointer_row (kept_row (row_in w n) (nodes t)) (part_at p.types (Some (reached t 0 false)) path)) found
    lands_part path found h =
        let i = row_inv (kept_row (row_in w v) (nodes s)) (part_at p.types (Some (reached s 0 false)) (MemberStep k ∷ path)) h.at h.row_is in
        let f = from_whole p.types own path i.0 (sym (ap (λ (o : Option Reached). part_at p.types o path) step) ∙ i.2) in
        let part = f.0 in
        let b = f.1 in
        let here : part_at p.types (Some (reached t 0 false)) path ≡ Some part = ap (λ (c : Ctype). part_at p.types (Some (reached c 0 false)) path) (sym own_ty) ∙ b.own_is in
        let pointer : part.ty ≡ i.1 = b.same ∙ i.3 in
        record {
          at = kept_row (row_in w n) (nodes t) part.node;
          location = h.location;
          row_is = row_is (kept_row (row_in w n) (nodes t)) (part_at p.types (Some (reached t 0 false)) path) part i.1 i.5 here pointer;
          found_is = h.found_is;
          has = contained part.node i.0.node b.leads (kept_row_node p.types grounds.made t path part i.1 i.5 whole_t.few whole_t.complete here pointer) h.location (subst (λ (z : ℕ). Has F z h.location) (sym i.4) h.has);
        }

    cell_part : (memory : List Instance) (path : List PathStep) (c : Cell) → CellIn g memory (pointer_row (kept_row (row_in w v) (nodes s)) (part_at p.types (Some (reached s 0 false)) (MemberStep k ∷ path))) c
        → CellIn g memory (pointer_row (kept_row (row_in w n) (nodes t)) (part_at p.types (Some (reached t 0 false)) path)) c
    cell_part memory path (Pointer i q past) h = record { inst = h.inst; inst_is = h.inst_is; in_tree = h.in_tree; lands = lands_part path (spot p.types space h.inst.key q) h.lands }
    cell_part memory path (Function key) h = lands_part path (spot p.types space key []) h
    cell_part memory path Unset h = tt
    cell_part memory path (Number x) h = tt
    cell_part memory path Null h = tt

    part_in : (memory : List Instance) (value : Value) → HeldIn g w memory v value → HeldIn g w memory n (record { cells = under (MemberStep k) value.cells })
    part_in memory value h =
        held p space system is F closed grounds n t memory (record { cells = under (MemberStep k) value.cells }) (typed_at (trees_in p) n (MemberOfValue k) t (v ∷ []) node)
        (each_change (λ q c. CellIn g memory (pointer_row (kept_row (row_in w v) (nodes s)) (part_at p.types (Some (reached s 0 false)) (MemberStep k ∷ q))) c)
        (λ q c. CellIn g memory (pointer_row (kept_row (row_in w n) (nodes t)) (part_at p.types (Some (reached t 0 false)) q)) c) (under (MemberStep k) value.cells) (cell_part memory)
        (each_under (λ q c. CellIn g memory (pointer_row (kept_row (row_in w v) (nodes s)) (part_at p.types (Some (reached s 0 false)) q)) c) (MemberStep k) value.cells
        (of_held p space system is F closed grounds v s memory value ty h)))

  -- MemberOfValue of a structure
  pub structure_value_in : (n k v id tag : ℕ) (t : Ctype) → IsNode (trees_in p) n (MemberOfValue k) t (v ∷ []) → type_at (trees_in p) v ≡ StructureOf tag → type_of p.types id ≡ StructureOf tag → IsWhole p.types t → IsWhole p.types (StructureOf tag)
      → (own : Reached) → step_from p.types (Some (reached (StructureOf tag) 0 false)) (MemberStep k) ≡ Some own → own.ty ≡ t → own.inside ≡ false → (memory : List Instance) (value : Value)
      → HeldIn g w memory v value → HeldIn g w memory n (record { cells = under (MemberStep k) value.cells })
  structure_value_in n k v id tag t node ty known whole_t whole_s own step own_ty out memory value h =
      part_in n k v t (StructureOf tag) node ty whole_t whole_s own step own_ty contained memory value h
    where
      s : Ctype
      s = StructureOf tag

      tree_t : nodes t ≡ tree_nodes (extent_in p.types t)
      tree_t = few_nodes p.types grounds.made (extent_in p.types t) whole_t.few

      tree_s : nodes (StructureOf tag) ≡ tree_nodes (extent_in p.types (StructureOf tag))
      tree_s = few_nodes p.types grounds.made (extent_in p.types (StructureOf tag)) whole_s.few

      stands : (j : ℕ) (b : Ctype) → slice_get (nodes t) j ≡ Some b → slice_get (nodes (StructureOf tag)) (own.node + j) ≡ Some b
      stands j b e =
          ap (λ (xs : List Ctype). slice_get xs (own.node + j)) tree_s
          ∙ path_nodes p.types grounds.made (StructureOf tag) (MemberStep k ∷ []) own whole_s.complete step out j b
          (ap (λ (c : Ctype). slice_get (tree_nodes (extent_in p.types c)) j) own_ty ∙ (sym (ap (λ (xs : List Ctype). slice_get xs j) tree_t) ∙ e))

      within : (xs : List Ctype) (j : ℕ) (b : Ctype) → slice_get xs j ≡ Some b → j < length xs
      within [] j b e = absurd (none_some e)
      within (x ∷ xs) zero b e = omega arith
      within (x ∷ xs) (suc j) b e = (let lt = within xs j b e in omega arith)

      some_at : (xs : List Ctype) (j : ℕ) → kept_at (slice_get xs j) ≡ true → (b : Ctype) × (slice_get xs j ≡ Some b)
      some_at [] j e = absurd (false≢true e)
      some_at (x ∷ xs) zero e = (x, refl)
      some_at (x ∷ xs) (suc j) e = some_at xs j e

      contained : (i j : ℕ) → Leads own i j → kept_at (slice_get (nodes t) i) ≡ true → IsContained F (kept_row (row_in w v) (nodes (StructureOf tag)) j) (kept_row (row_in w n) (nodes t) i)
      contained i j leads kept_i =
          let place = place_of g system grounds id k (StructureOf tag) own known whole_s.few whole_s.complete step in
          let to = leads.apart out in
          let b = some_at (nodes t) i kept_i in
          let lt = get_length (nodes t) i kept_i in
          let in_s = within (nodes (StructureOf tag)) (own.node + i) b.0 (stands i b.0 b.1) in
          let same : kept_row (row_in w v) (nodes (StructureOf tag)) j ≡ kept_row (kept_row (row_in w v) (nodes (StructureOf tag)) (member_node p.types (StructureOf tag) k)) (nodes t) i =
          ap (kept_row (row_in w v) (nodes (StructureOf tag))) to
          ∙ (part_row (row_in w v) own.node i (nodes (StructureOf tag)) (nodes t) stands (omega arith) (omega arith)
          ∙ ap (λ (m : ℕ). kept_row (kept_row (row_in w v) (nodes (StructureOf tag)) m) (nodes t) i) (sym place.node)) in
          subst (λ (r : ℕ). IsContained F r (kept_row (row_in w n) (nodes t) i)) (sym same)
          (copies_say p (view_of space) system is F closed t (row_in w n) (kept_row (row_in w v) (nodes (StructureOf tag)) (member_node p.types (StructureOf tag) k))
          (λ a c. by_value p (view_of space) system is F closed n (MemberOfValue k) t (v ∷ []) node a
          (subst (λ (x : Ctype). Contains (part_of_value w n k t x v) a) (sym ty) c)) i kept_i)

  -- MemberOfValue of a union
  pub union_value_in : (n k v tag : ℕ) (t : Ctype) → IsNode (trees_in p) n (MemberOfValue k) t (v ∷ []) → type_at (trees_in p) v ≡ UnionOf tag → IsWhole p.types t → IsWhole p.types (UnionOf tag)
      → (own : Reached) → step_from p.types (Some (reached (UnionOf tag) 0 false)) (MemberStep k) ≡ Some own → own.ty ≡ t → own.inside ≡ true → own.node ≡ 0 → (memory : List Instance) (value : Value)
      → HeldIn g w memory v value → HeldIn g w memory n (record { cells = under (MemberStep k) value.cells })
  union_value_in n k v tag t node ty whole_t whole_s own step own_ty into start memory value h =
      part_in n k v t (UnionOf tag) node ty whole_t whole_s own step own_ty contained memory value h
    where
      contained : (i j : ℕ) → Leads own i j → kept_at (slice_get (nodes t) i) ≡ true → IsContained F (kept_row (row_in w v) (nodes (UnionOf tag)) j) (kept_row (row_in w n) (nodes t) i)
      contained i j leads kept_i =
          let to : j ≡ 0 = leads.inside into ∙ start in
          let first : kept_row (row_in w v) (nodes (UnionOf tag)) 0 ≡ row_in w v = (let e : row_in w v + 0 ≡ row_in w v = omega arith in e) in
          subst (λ (r : ℕ). IsContained F r (kept_row (row_in w n) (nodes t) i)) (sym (ap (kept_row (row_in w v) (nodes (UnionOf tag))) to ∙ first))
          (copy_says p (view_of space) system is F closed (kept_row (row_in w n) (nodes t) i) (row_in w v)
          (by_value p (view_of space) system is F closed n (MemberOfValue k) t (v ∷ []) node (Copy (kept_row (row_in w n) (nodes t) i) (row_in w v))
          (subst (λ (x : Ctype). Contains (part_of_value w n k t x v) (Copy (kept_row (row_in w n) (nodes t) i) (row_in w v))) (sym ty)
          (map_has (λ (m : ℕ). Copy (kept_row (row_in w n) (nodes t) m) (row_in w v)) (kept (nodes t)) i (kept_has (nodes t) i kept_i)))))
