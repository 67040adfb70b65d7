-- The rows of a member of a value are among the value's.
use Rattle.std.proofs.Common.{arith, ◌≡◌, ◌∙◌, ℕ, zero, suc, ◌+◌, ◌^◌, ◌<◌, ◌≤◌, Bool, true, false, cond, List, [], ◌∷◌, length, take, take_all, Option, Some, None, IsSome, slice_get, refl, sym, ap, subst}
use Rattle.std.specs.Prelude.{nat_lt, unwrap_or, option_and_then}
use Rattle.std.specs.Option.{option_map}
use Rattle.std.proofs.lemmas.Bool.{lt-ltb, false≢true}
use Rattle.std.proofs.lemmas.Option.{slice_get_within}
use Rattle.c_types.specs.declared.term.MemberTerm.{MemberTerm}
use Rattle.c_types.specs.declared.term.PathStep.TheVariants.{Member as MemberStep}
use Rattle.c_types.specs.declared.term.Term.TheVariants.{Union}
use Rattle.c_types.specs.Trees.{Ctype, ArrayOf, StructureOf, UnionOf}
use Rattle.c_types.specs.Layout.{Extent, all_nodes, of_members, structure_of}
use Rattle.c_types.specs.Parts.{position, unless_flexible, member_node as place_in, within_32, field_in}
use Rattle.c_types.specs.Paths.{with_length, member_type, part_type}
use Rattle.c_types.specs.Table.{Table, type_of, look_in, extent_in, extents_in, members_in}
use Rattle.c_types.specs.Made.{IsMade}
use Rattle.type_rules.specs.Kinds.{IsArray}
use Rattle.type_rules.specs.Members.{in_list, IsMemberOf}
use Rattle.obj_space.specs.Parts.{nodes_of as tree_nodes}
use Rattle.obj_space.specs.Spots.{reached, member_reached, step_from}
use Rattle.obj_space.proofs.Reach.{path_nodes}
use Rattle.row_numbers.specs.Kept.{nodes_in, nodes_of, member_node, kept_at, kept_count}
use Rattle.row_numbers.proofs.KeptLemmas.{count_more, count_same}
use Rattle.normal_form.specs.Assignments.{is_union_type, part_first}
use Rattle.linked_laws.specs.merged_laws.Merged.{TagsFit}
use Rattle.linked_laws.proofs.system_laws.Rows.{kept_fewer}
use Rattle.linked_laws.proofs.system_laws.fact_laws.Nodes.{structure_nodes_is, member_within, union_nodes_is}
use Rattle.covered_runs.proofs.covered_programs.allocation_laws.Marks.{none_some}

module _ (whole part : List Ctype) (at : ℕ) (stands : (j : ℕ) (b : Ctype) → slice_get part j ≡ Some b → slice_get whole (at + j) ≡ Some b) where
  present : (xs : List Ctype) (i : ℕ) → i < length xs → (x : Ctype) × (slice_get xs i ≡ Some x)
  present [] i lt = absurd (omega arith)
  present (x ∷ xs) zero lt = (x, refl)
  present (x ∷ xs) (suc i) lt = present xs i (omega arith)

  -- as many are kept of the whole as of what is before the part and of the part
  added : (i : ℕ) → i ≤ length part → kept_count (take (at + i) whole) ≡ kept_count (take at whole) + kept_count (take i part)
  added zero le =
      let e : at + 0 ≡ at = omega arith in
      let same : kept_count (take (at + 0) whole) ≡ kept_count (take at whole) = ap (λ (n : ℕ). kept_count (take n whole)) e in
      omega arith
  added (suc i) le = by (kept_at (slice_get part i)) refl (added i (omega arith))
    where
      x : (b : Ctype) × (slice_get part i ≡ Some b)
      x = present part i (omega arith)

      there : slice_get whole (at + i) ≡ Some x.0
      there = stands i x.0 x.1

      within : at + i < length whole
      within = slice_get_within whole (at + i) x.0 there

      one : kept_count (take (at + suc i) whole) ≡ kept_count (take ((at + i) + 1) whole)
      one = (let e : at + suc i ≡ (at + i) + 1 = omega arith in ap (λ (n : ℕ). kept_count (take n whole)) e)

      two : kept_count (take (suc i) part) ≡ kept_count (take (i + 1) part)
      two = (let e : suc i ≡ i + 1 = omega arith in ap (λ (n : ℕ). kept_count (take n part)) e)

      same : kept_at (slice_get whole (at + i)) ≡ kept_at (slice_get part i)
      same = ap kept_at there ∙ sym (ap kept_at x.1)

      by : (b : Bool) → kept_at (slice_get part i) ≡ b → kept_count (take (at + i) whole) ≡ kept_count (take at whole) + kept_count (take i part) → kept_count (take (at + suc i) whole) ≡ kept_count (take at whole) + kept_count (take (suc i) part)
      by true is before =
          let a = count_more whole (at + i) within (same ∙ is) in
          let b = count_more part i (omega arith) is in
          let c = one in
          let d = two in
          omega arith
      by false is before =
          let a = count_same whole (at + i) within (same ∙ is) in
          let b = count_same part i (omega arith) is in
          let c = one in
          let d = two in
          omega arith

  part_within : kept_count (take at whole) + kept_count part ≤ kept_count whole
  part_within =
      let all = added (length part) (omega arith) in
      let whole_part : kept_count (take (length part) part) ≡ kept_count part = ap kept_count (take_all (length part) part (omega arith)) in
      let few = kept_fewer whole (at + length part) in
      omega arith

-- the nodes that are counted are those of the tree
tree_has : (o : Option Extent) (j : ℕ) (b : Ctype) → slice_get (nodes_in o) j ≡ Some b → slice_get (tree_nodes o) j ≡ Some b
tree_has None j b h = h
tree_has (Some e) j b h = by (nat_lt (length e.nodes) (2 ^ 24 + 1)) h
  where
    by : (t : Bool) → slice_get (let ns : List Ctype = cond t e.nodes [] in ns) j ≡ Some b → slice_get e.nodes j ≡ Some b
    by true g = g
    by false g = absurd (none_some g)

tree_is : (o : Option Extent) (x : Ctype) (xs : List Ctype) → nodes_in o ≡ x ∷ xs → tree_nodes o ≡ nodes_in o
tree_is None x xs h = refl
tree_is (Some e) x xs h = by (nat_lt (length e.nodes) (2 ^ 24 + 1)) h
  where
    by : (t : Bool) → (let ns : List Ctype = cond t e.nodes [] in ns) ≡ x ∷ xs → e.nodes ≡ (let ns : List Ctype = cond t e.nodes [] in ns)
    by true g = refl
    by false g = absurd (none_some (ap (λ (ns : List Ctype). slice_get ns 0) g))

plain_length : (t : Ctype) → (IsArray t → ⊥) → with_length t ≡ Some t
plain_length (ArrayOf of None) plain = absurd (plain tt)
plain_length (ArrayOf of (Some m)) plain = refl
plain_length t plain = refl

plain_place : (t : Ctype) (n : ℕ) → (IsArray t → ⊥) → unless_flexible t n ≡ Some n
plain_place (ArrayOf of None) n plain = absurd (plain tt)
plain_place (ArrayOf of (Some m)) n plain = refl
plain_place t n plain = refl

module _ (table : Table) (made : IsMade table) (fit : TagsFit table) where
  module _ (tag k : ℕ) (ms : List MemberTerm) (is : members_in table tag ≡ Some ms) (m : MemberTerm) (at : slice_get ms k ≡ Some m) (no_union : (i : ℕ) → slice_get table.terms i ≡ Some (Union tag) → ⊥) (no_array : IsArray (type_of table m.ty.0) → ⊥) where
    abbrev es : List Extent
    es = extents_in table ms

    abbrev own : Ctype
    own = type_of table m.ty.0

    few : length (all_nodes es) < 2 ^ 24
    few = fit.each tag ms is no_union

    nodes_are : nodes_of table (StructureOf tag) ≡ StructureOf tag ∷ all_nodes es
    nodes_are = structure_nodes_is table made tag ms is few

    field_is : field_in table (StructureOf tag) k ≡ Some (position es k)
    field_is =
        ap (λ (o : Option (List MemberTerm)). place_in table (λ members. position (extents_in table members) k) o k) is
        ∙ (ap (option_and_then (λ (x : MemberTerm). unless_flexible (type_of table x.ty.0) (position es k))) at ∙ plain_place own (position es k) no_array)

    place : member_node table (StructureOf tag) k ≡ position es k
    place =
        let within = member_within table made tag ms is k m at in
        let less = few in
        ap (λ (o : Option ℕ). unwrap_or (within_32 o) 0) field_is ∙ ap (λ (b : Bool). unwrap_or (cond b (Some (position es k)) None) 0) (lt-ltb (position es k) (2 ^ 32) (omega arith))

    type_is : part_type table (StructureOf tag) (MemberStep k) ≡ Some own
    type_is =
        ap (λ (o : Option (List MemberTerm)). member_type table o k) is
        ∙ (ap (option_and_then (λ (x : MemberTerm). with_length (type_of table x.ty.0))) at ∙ plain_length own no_array)

    step : step_from table (Some (reached (StructureOf tag) 0 false)) (MemberStep k) ≡ Some (reached own (0 + position es k) false)
    step =
        ap (λ (o : Option Ctype). member_reached (StructureOf tag) o (field_in table (StructureOf tag) k) 0 false) type_is
        ∙ ap (λ (o : Option ℕ). member_reached (StructureOf tag) (Some own) o 0 false) field_is

    complete : IsSome (extent_in table (StructureOf tag))
    complete =
        let look : look_in table tag ≡ Some es = made.laid tag ∙ ap (option_map (extents_in table)) is in
        subst (λ (o : Option (List Extent)). IsSome (of_members (structure_of (StructureOf tag)) o)) (sym look) refl

    stands : (j : ℕ) (b : Ctype) → slice_get (nodes_of table own) j ≡ Some b → slice_get (nodes_of table (StructureOf tag)) (member_node table (StructureOf tag) k + j) ≡ Some b
    stands j b h =
        let tree = tree_is (extent_in table (StructureOf tag)) (StructureOf tag) (all_nodes es) nodes_are in
        let there = path_nodes table made (StructureOf tag) (MemberStep k ∷ []) (reached own (0 + position es k) false) complete step refl j b (tree_has (extent_in table own) j b h) in
        let e : member_node table (StructureOf tag) k + j ≡ (0 + position es k) + j = (let q = place in omega arith) in
        ap (slice_get (nodes_of table (StructureOf tag))) e ∙ (ap (λ (ns : List Ctype). slice_get ns ((0 + position es k) + j)) (sym tree) ∙ there)

    member_rows : (first : ℕ) → part_first table (StructureOf tag) first k + kept_count (nodes_of table own) ≤ first + kept_count (nodes_of table (StructureOf tag))
    member_rows first = (let within = part_within (nodes_of table (StructureOf tag)) (nodes_of table own) (member_node table (StructureOf tag) k) stands in omega arith)

  member_in : (tag k : ℕ) (o : Option (List MemberTerm)) (m : MemberTerm) → members_in table tag ≡ o → in_list o k ≡ Some m → (ms : List MemberTerm) × (members_in table tag ≡ Some ms) × (slice_get ms k ≡ Some m)
  member_in tag k None m is at = absurd (none_some at)
  member_in tag k (Some ms) m is at = (ms, is, at)

  -- of a structure
  pub part_rows : (whole : Ctype) (k : ℕ) (t : Ctype) (first : ℕ) → is_union_type whole ≡ false → ((tag : ℕ) → whole ≡ StructureOf tag → (i : ℕ) → slice_get table.terms i ≡ Some (Union tag) → ⊥)
      → IsMemberOf table whole k t → (IsArray t → ⊥) → part_first table whole first k + kept_count (nodes_of table t) ≤ first + kept_count (nodes_of table whole)
  part_rows (StructureOf tag) k t first apart proper m no_array =
      let own = member_in tag k (members_in table tag) m.member refl m.stands in
      subst (λ (s : Ctype). part_first table (StructureOf tag) first k + kept_count (nodes_of table s) ≤ first + kept_count (nodes_of table (StructureOf tag))) m.type
      (member_rows tag k own.0 own.1 m.member own.2 (proper tag refl) (λ a. no_array (subst IsArray m.type a)) first)
  part_rows (UnionOf tag) k t first apart proper m no_array = absurd (false≢true (sym apart))
  part_rows whole k t first apart proper m no_array = absurd (none_some m.stands)

  -- a union with a member has one row
  pub union_row : (whole : Ctype) (k : ℕ) (t : Ctype) → is_union_type whole ≡ true → IsMemberOf table whole k t → kept_count (nodes_of table whole) ≡ 1
  union_row (UnionOf tag) k t is m =
      let own = member_in tag k (members_in table tag) m.member refl m.stands in
      ap kept_count (union_nodes_is table made tag own.0 own.1)
  union_row whole k t is m = absurd (false≢true is)
