-- The member in which a node lies.
use Rattle.std.proofs.Common.{arith, ◌≡◌, ℕ, zero, suc, ◌+◌, ◌-◌, ◌^◌, ◌<◌, ◌≤◌, length, get_or, List, [], ◌∷◌, Option, Some, slice_get, refl, ap, ◌∙◌, sym, subst}
use Rattle.std.specs.List.Sorted.{IsNonDecreasingBy}
use Rattle.std.proofs.lemmas.List.Sorted.{IsNonDecreasingBy-from_default}
use Rattle.c_types.specs.declared.term.MemberTerm.{MemberTerm}
use Rattle.c_types.specs.declared.table.TagLayout.{TagLayout}
use Rattle.c_types.specs.Trees.{Ctype, StructureOf, tree_at}
use Rattle.c_types.specs.Layout.{Extent, all_nodes, of_members, structure_of, member_extent}
use Rattle.c_types.specs.Table.{Table, type_of, types_of, look_in, extent_in, extents_in, node_of}
use Rattle.c_types.specs.Inside.{IsPlain, LiesIn, IsLayoutOf, element_of, starts}
use Rattle.c_types.proofs.Split.{element_plain}
use Rattle.c_types.proofs.Nodes.{starts_length, starts_at, starts_rise, structure_node, part_in, member_node, element_node, extents_get, some_nodes}

there : {A : Type 0} (xs : List A) (k : ℕ) → k < length xs → (x : A) × (slice_get xs k ≡ Some x)
there [] k h = absurd (omega arith)
there (x ∷ xs) zero h = (x, refl)
there (x ∷ xs) (suc k) h = there xs k (omega arith)

pub extents_length : (table : Table) (ms : List MemberTerm) → length (extents_in table ms) ≡ length ms
extents_length table [] = refl
extents_length table (m ∷ ms) = ap suc (extents_length table ms)

module _ (table : Table) (tag : ℕ) (l : TagLayout) (h : IsLayoutOf table tag l) where
  abbrev es : List Extent
  es = extents_in table l.members.items

  pub as_many : length l.positions.items ≡ length l.members.items
  as_many = ap length h.positions ∙ (starts_length 1 es ∙ extents_length table l.members.items)

  pub in_order : IsNonDecreasingBy (λ (p : ℕ). p) l.positions.items
  in_order = subst (λ (ps : List ℕ). IsNonDecreasingBy (λ (p : ℕ). p) ps) (sym h.positions) (IsNonDecreasingBy-from_default (λ (p : ℕ). p) (starts 1 es) 0 (λ i j le lt. starts_rise 1 es i j le lt))

  module _ (node : ℕ) (x : Ctype) (deep : 0 < node) (inside : node_of (extent_in table (StructureOf tag)) node ≡ Some x) where
    at : slice_get (all_nodes es) (node - 1) ≡ Some x
    at = structure_node tag es x node deep (sym (ap (λ (o : Option (List Extent)). node_of (of_members (structure_of (StructureOf tag)) o) node) h.look) ∙ inside)

    some_es : 0 < length es
    some_es = some_nodes es (node - 1) x at

    pub some_position : 0 < length l.positions.items
    some_position = omega (arith, some_es, starts_length 1 es, ap length h.positions)

    pub first_position : get_or l.positions.items 0 0 ≤ node
    first_position =
        let one = starts_at 1 es 0 some_es in
        let same = ap (λ (ps : List ℕ). get_or ps 0 0) h.positions in
        omega arith

    module _ (small : node < 2 ^ 63) (k part start : ℕ) (lies : LiesIn (types_of table) l.members.items l.positions.items node k part start) where
      abbrev Part : Type 0
      Part = (0 < start) × (start ≤ node) × IsPlain (tree_at (types_of table) part) × (node_of (extent_in table (tree_at (types_of table) part)) (node - start) ≡ Some x)

      pub part_is : Part
      part_is = go (there l.members.items k lies.within)
        where
          go : (m : MemberTerm) × (slice_get l.members.items k ≡ Some m) → Part
          go (m, member) =
              let e = member_extent (look_in table) (type_of table m.ty.0) in
              let len = ap length h.positions in
              let low : (j : ℕ) → j < k + 1 → get_or (starts 1 es) j 0 ≤ node = λ j lt. omega (arith, lies.up_to j lt, ap (λ (ps : List ℕ). get_or ps j 0) h.positions) in
              let high : (j : ℕ) → k + 1 ≤ j → j < length (starts 1 es) → node < get_or (starts 1 es) j 0 = λ j le lt. omega (arith, lies.past j le (omega arith), ap (λ (ps : List ℕ). get_or ps j 0) h.positions) in
              let bound : k + 1 ≤ length (starts 1 es) = omega (arith, lies.within, as_many, len) in
              let (place, found, within) = part_in es node (k + 1) x deep small at bound low high k e refl (extents_get table l.members.items k m member) in
              let begin : start ≡ get_or (starts 1 es) k 0 = lies.begin ∙ ap (λ (ps : List ℕ). get_or ps k 0) h.positions in
              let same : node - start ≡ node - get_or (starts 1 es) k 0 = ap (λ (n : ℕ). node - n) begin in
              let element : tree_at (types_of table) part ≡ element_of (type_of table m.ty.0) = lies.element m member in
              let of_member : node_of (extent_in table (type_of table m.ty.0)) (node - get_or (starts 1 es) k 0) ≡ Some x = member_node (look_in table) (type_of table m.ty.0) (node - get_or (starts 1 es) k 0) within ∙ found in
              let of_element = element_node (look_in table) (type_of table m.ty.0) (node - get_or (starts 1 es) k 0) x of_member in
              (omega arith, omega (arith, low k (omega arith)), subst IsPlain (sym element) (element_plain (type_of table m.ty.0)), ap (λ (t : Ctype). node_of (extent_in table t) (node - start)) element ∙ (ap (node_of (extent_in table (element_of (type_of table m.ty.0)))) same ∙ of_element))
