-- Copies of whole objects: what lies in the source is covered in the target, where each pair of nodes that a copy joins is contained.
use Rattle.std.proofs.Common.{arith, ◌≡◌, ◌∙◌, inl, inr, ℕ, ◌+◌, ◌<◌, true, false, Bool, cond, eqb, eq-eqb, List, [], ◌∷◌, map, Option, Some, None, slice_get, Contains, refl, sym, ap, subst}
use Rattle.std.specs.List.{range_with_len}
use Rattle.std.proofs.lemmas.Bool.{false≢true}
use Rattle.std.proofs.lemmas.Bool.Decides.{eqb_tells}
use Rattle.c_types.specs.declared.term.PathStep.{PathStep}
use Rattle.c_types.specs.Trees.{Ctype}
use Rattle.sol_model.specs.declared.system.System.{System}
use Rattle.sol_model.specs.declared.system.LocationFact.{LocationFact}
use Rattle.sol_model.specs.Families.{Has, IsContained}
use Rattle.sol_model.specs.Places.{node_from, nodes_of as system_nodes, pairs_of, pairs_between, deep}
use Rattle.obj_space.specs.Spots.{reached, part_at}
use Rattle.row_numbers.specs.Kept.{nodes_of, kept_at}
use Rattle.row_numbers.specs.Numbers.{type_number}
use Rattle.ref_cells.specs.declared.cells.Cell.{Cell}
use Rattle.ref_cells.specs.declared.cells.Cell.TheVariants.{Unset, Number, Null, Pointer, Function}
use Rattle.ref_cells.specs.declared.instance.Instance.{Instance}
use Rattle.ref_cells.specs.Cells.{CellList}
use Rattle.covering_laws.specs.covered_memory.Spots.{spot}
use Rattle.covering_laws.specs.covered_memory.Covered.{Sets, Lands, CellIn, pointer_row, CellsIn}
use Rattle.covering_laws.specs.covered_memory.Demands.{Grounds, IsFew}
use Rattle.covering_laws.proofs.covered_memory.Cells.{each_change}
use Rattle.covering_laws.proofs.covered_memory.Parts.{kept_row_node}
use Rattle.covering_laws.proofs.covered_memory.Anchors.{from_whole, from_own}
use Rattle.covering_laws.proofs.covered_memory.Access.{row_inv, row_is, Target, own_row, sub_is, part_complete}
use Rattle.covering_laws.proofs.covered_rows.Lists.{first_has, map_has, range_has}

some_one : {X : Type 0} → {x y : X} → ◌≡◌ {A = Option X} (Some x) (Some y) → x ≡ y
some_one h = cc

none_some : {X : Type 0} → {x : X} → ◌≡◌ {A = Option X} None (Some x) → ⊥
none_some h = cc

module _ (system : System) where
  -- a node of a type, from a location that isn't collapsed
  record Typed (f : LocationFact) (l ty i m : ℕ) : Type 0 where
    ty_is : f.ty ≡ ty
    node_is : l + i ≡ m

  typed_node : (f : LocationFact) (l ty i m : ℕ) (t : Bool) → eqb f.ty ty ≡ t → cond t (Some (l + i)) None ≡ Some m → Typed f l ty i m
  typed_node f l ty i m true is e = elim (eqb_tells f.ty ty) [ inl same ↦ record { ty_is = same.1; node_is = some_one e } | inr other ↦ absurd (false≢true (sym other.0 ∙ is)) ]
  typed_node f l ty i m false is e = absurd (none_some e)

  -- the pair of the nodes so far on is among those that a copy joins
  pair_in : (f h : LocationFact) (to from ty i a b : ℕ) → i < system_nodes system ty → (c k : Bool) → cond c (Some to) (cond (eqb f.ty ty) (Some (to + i)) None) ≡ Some a
      → cond k (Some from) (cond (eqb h.ty ty) (Some (from + i)) None) ≡ Some b → Contains {X = ℕ × ℕ} (pairs_of c k (eqb f.ty h.ty) to from (system_nodes system f.ty) (system_nodes system h.ty)) (a, b)
  pair_in f h to from ty i a b lt true true e g =
      subst (λ (x : ℕ). Contains {X = ℕ × ℕ} ((to, from) ∷ []) (x, b)) (some_one e) (subst (λ (x : ℕ). Contains {X = ℕ × ℕ} ((to, from) ∷ []) (to, x)) (some_one g) (first_has (to, from) []))
  pair_in f h to from ty i a b lt true false e g =
      let t = typed_node h from ty i b (eqb h.ty ty) refl g in
      subst (λ (x : ℕ). Contains {X = ℕ × ℕ} (map (λ (node : ℕ). (to, node)) (range_with_len from (system_nodes system h.ty))) (x, b)) (some_one e)
      (subst (λ (x : ℕ). Contains {X = ℕ × ℕ} (map (λ (node : ℕ). (to, node)) (range_with_len from (system_nodes system h.ty))) (to, x)) t.node_is
      (map_has (λ (node : ℕ). (to, node)) (range_with_len from (system_nodes system h.ty)) (from + i)
      (range_has from (system_nodes system h.ty) i (subst (λ (x : ℕ). i < system_nodes system x) (sym t.ty_is) lt))))
  pair_in f h to from ty i a b lt false true e g =
      let t = typed_node f to ty i a (eqb f.ty ty) refl e in
      subst (λ (x : ℕ). Contains {X = ℕ × ℕ} (map (λ (node : ℕ). (node, from)) (range_with_len to (system_nodes system f.ty))) (a, x)) (some_one g)
      (subst (λ (x : ℕ). Contains {X = ℕ × ℕ} (map (λ (node : ℕ). (node, from)) (range_with_len to (system_nodes system f.ty))) (x, from)) t.node_is
      (map_has (λ (node : ℕ). (node, from)) (range_with_len to (system_nodes system f.ty)) (to + i)
      (range_has to (system_nodes system f.ty) i (subst (λ (x : ℕ). i < system_nodes system x) (sym t.ty_is) lt))))
  pair_in f h to from ty i a b lt false false e g =
      let t = typed_node f to ty i a (eqb f.ty ty) refl e in
      let v = typed_node h from ty i b (eqb h.ty ty) refl g in
      subst (λ (x : Bool). Contains {X = ℕ × ℕ} (pairs_of false false x to from (system_nodes system f.ty) (system_nodes system h.ty)) (a, b)) (sym (eq-eqb f.ty h.ty (t.ty_is ∙ sym v.ty_is)))
      (subst (λ (x : ℕ). Contains {X = ℕ × ℕ} (map (λ (j : ℕ). (to + j, from + j)) (range_with_len 0 (system_nodes system f.ty))) (x, b)) t.node_is
      (subst (λ (x : ℕ). Contains {X = ℕ × ℕ} (map (λ (j : ℕ). (to + j, from + j)) (range_with_len 0 (system_nodes system f.ty))) (to + i, x)) v.node_is
      (map_has (λ (j : ℕ). (to + j, from + j)) (range_with_len 0 (system_nodes system f.ty)) i
      (subst (λ (m : ℕ). Contains (range_with_len 0 (system_nodes system f.ty)) m) (let z : 0 + i ≡ i = omega arith in z)
      (range_has 0 (system_nodes system f.ty) i (subst (λ (x : ℕ). i < system_nodes system x) (sym t.ty_is) lt))))))

  pub joined_in : (o q : Option LocationFact) (to from ty i a b : ℕ) → i < system_nodes system ty → node_from o to ty i ≡ Some a → node_from q from ty i ≡ Some b → Contains (pairs_between system o q to from) (a, b)
  joined_in None q to from ty i a b lt e g = absurd (none_some e)
  joined_in (Some f) None to from ty i a b lt e g = absurd (none_some g)
  joined_in (Some f) (Some h) to from ty i a b lt e g = pair_in f h to from ty i a b lt f.collapsed h.collapsed e g

module _ (g : Sets) (system : System) (grounds : Grounds g.table g.space system) (memory : List Instance)
    (IsTo IsFrom : ℕ → Type 0) (to from : Instance) (path other : List PathStep) (a : Target g system grounds memory IsTo to path) (b : Target g system grounds memory IsFrom from other) (same : b.part.ty ≡ a.part.ty) where
  -- the locations of the two parts
  abbrev pub target_at : ℕ
  target_at = own_row g system grounds a a.part.node

  abbrev pub source_at : ℕ
  source_at = own_row g system grounds b b.part.node

  module _ (few : IsFew g.table b.part.ty) (counts : (i : ℕ) → kept_at (slice_get (nodes_of g.table b.part.ty) i) ≡ true → i < system_nodes system (type_number b.part.ty))
      (joined : (x y : ℕ) → Contains (deep system target_at source_at) (x, y) → IsContained g.family y x) where
    lands_copied : (rest : List PathStep) (found : Option ℕ) → Lands g.family (pointer_row (own_row g system grounds b) (part_at g.table (Some b.part) rest)) found
        → Lands g.family (pointer_row (own_row g system grounds a) (part_at g.table (Some a.part) rest)) found
    lands_copied rest found h =
        let i = row_inv (own_row g system grounds b) (part_at g.table (Some b.part) rest) h.at h.row_is in
        let f = from_whole g.table b.part rest i.0 i.2 in
        let own = f.0 in
        let c = f.1 in
        let k = from_own g.table a.part rest own (ap (λ (t : Ctype). part_at g.table (Some (reached t 0 false)) rest) (sym same) ∙ c.own_is) in
        let whole = k.0 in
        let d = k.1 in
        let kept = kept_row_node g.table grounds.made b.part.ty rest own i.1 i.5 few (part_complete g system grounds memory IsFrom from other b) c.own_is (c.same ∙ i.3) in
        let source = sub_is g system grounds memory IsFrom from other b rest own i.0 c in
        let target = ap (λ (n : ℕ). node_from (slice_get system.locations target_at) target_at n own.node) (ap type_number same) ∙ sub_is g system grounds memory IsTo to path a rest own whole d in
        record {
          at = own_row g system grounds a whole.node;
          location = h.location;
          row_is = row_is (own_row g system grounds a) (part_at g.table (Some a.part) rest) whole i.1 i.5 d.whole_is (sym d.same ∙ (c.same ∙ i.3));
          found_is = h.found_is;
          has = joined (own_row g system grounds a whole.node) (own_row g system grounds b i.0.node)
              (joined_in system (slice_get system.locations target_at) (slice_get system.locations source_at) target_at source_at (type_number b.part.ty) own.node
              (own_row g system grounds a whole.node) (own_row g system grounds b i.0.node) (counts own.node kept) target source)
              h.location (subst (λ (n : ℕ). Has g.family n h.location) (sym i.4) h.has);
        }

    cell_copied : (rest : List PathStep) (c : Cell) → CellIn g memory (pointer_row (own_row g system grounds b) (part_at g.table (Some b.part) rest)) c
        → CellIn g memory (pointer_row (own_row g system grounds a) (part_at g.table (Some a.part) rest)) c
    cell_copied rest (Pointer i q past) h = record {
      inst = h.inst;
      inst_is = h.inst_is;
      in_tree = h.in_tree;
      lands = lands_copied rest (spot g.table g.space h.inst.key q) h.lands;
    }
    cell_copied rest (Function key) h = lands_copied rest (spot g.table g.space key []) h
    cell_copied rest Unset h = tt
    cell_copied rest (Number n) h = tt
    cell_copied rest Null h = tt

    -- What is covered in the source is covered in the target of a copy, part by part.
    pub cells_copied : (list : CellList) → CellsIn g memory (own_row g system grounds b) (Some b.part) list → CellsIn g memory (own_row g system grounds a) (Some a.part) list
    cells_copied list h =
        each_change (λ p c. CellIn g memory (pointer_row (own_row g system grounds b) (part_at g.table (Some b.part) p)) c)
        (λ p c. CellIn g memory (pointer_row (own_row g system grounds a) (part_at g.table (Some a.part) p)) c) list cell_copied h
