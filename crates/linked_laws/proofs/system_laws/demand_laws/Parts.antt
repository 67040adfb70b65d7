-- The rows of a member's nodes are among those of the whole's.
use Rattle.std.proofs.Common.{arith, ◌≡◌, ◌∙◌, ℕ, zero, suc, ◌+◌, ◌^◌, ◌<◌, ◌≤◌, Bool, true, false, cond, List, [], ◌∷◌, ◌++◌, length, append_assoc, take, Option, Some, None, IsSome, unwrap_or, slice_get, refl, sym, ap, subst, inl, inr}
use Rattle.std.specs.Prelude.{nat_lt}
use Rattle.std.specs.Option.{option_and_then}
use Rattle.std.proofs.lemmas.Bool.{lt-ltb, false≢true}
use Rattle.c_types.specs.declared.term.Term.TheVariants.{Union}
use Rattle.c_types.specs.declared.term.MemberTerm.{MemberTerm}
use Rattle.c_types.specs.Trees.{Ctype, VoidType, BoolType, IntegerType, FloatingType, VaListType, PointerTo, ArrayOf, FunctionFrom, StructureOf, UnionOf}
use Rattle.c_types.specs.Layout.{Extent, all_nodes, or_flexible, member_extent, element_extent}
use Rattle.c_types.specs.Parts.{position, unless_flexible, member_node as place_in, within_32, field_in}
use Rattle.c_types.specs.Table.{Table, type_of, look_in, extent_in, extents_in, members_in}
use Rattle.c_types.specs.Made.{IsMade, IsFlexible}
use Rattle.c_types.proofs.Nodes.{extents_get}
use Rattle.type_rules.specs.Kinds.{IsArray}
use Rattle.type_rules.specs.Members.{in_list, IsMemberOf}
use Rattle.row_numbers.specs.Kept.{nodes_in, nodes_of, member_node, is_kept, kept_from, kept_count}
use Rattle.normal_form.specs.Assignments.{is_union_type, part_first}
use Rattle.linked_laws.specs.merged_laws.Merged.{TagsFit}
use Rattle.linked_laws.proofs.system_laws.fact_laws.Nodes.{structure_nodes_is, member_within}

some_one : {X : Type 0} → {x y : X} → ◌≡◌ {A = Option X} (Some x) (Some y) → x ≡ y
some_one h = cc

none_some : {X : Type 0} → {x : X} → ◌≡◌ {A = Option X} None (Some x) → ⊥
none_some h = cc

-- how many are kept, from any number on
shift_by : (b : Bool) (i j : ℕ) (xs ys : List ℕ) → length xs ≡ length ys → length (cond b (i ∷ xs) xs) ≡ length (cond b (j ∷ ys) ys)
shift_by true i j xs ys h = ap suc h
shift_by false i j xs ys h = h

shifted : (i j : ℕ) (ns : List Ctype) → length (kept_from i ns) ≡ length (kept_from j ns)
shifted i j [] = refl
shifted i j (t ∷ ns) = shift_by (is_kept t) i j (kept_from (i + 1) ns) (kept_from (j + 1) ns) (shifted (i + 1) (j + 1) ns)

sum_by : (b : Bool) (i : ℕ) (xs ys : List ℕ) (n : ℕ) → length xs ≡ length ys + n → length (cond b (i ∷ xs) xs) ≡ length (cond b (i ∷ ys) ys) + n
sum_by true i xs ys n h = omega arith
sum_by false i xs ys n h = h

sum_from : (i : ℕ) (ms ns : List Ctype) → length (kept_from i (ms ++ ns)) ≡ length (kept_from i ms) + kept_count ns
sum_from i [] ns = shifted i 0 ns ∙ (let e : kept_count ns ≡ 0 + kept_count ns = omega arith in e)
sum_from i (t ∷ ms) ns = sum_by (is_kept t) i (kept_from (i + 1) (ms ++ ns)) (kept_from (i + 1) ms) (kept_count ns) (sum_from (i + 1) ms ns)

pub kept_both : (ms ns : List Ctype) → kept_count (ms ++ ns) ≡ kept_count ms + kept_count ns
kept_both ms ns = sum_from 0 ms ns

-- a structure's own node has no row
kept_behind : (tag : ℕ) (ns : List Ctype) → kept_count (StructureOf tag ∷ ns) ≡ kept_count ns
kept_behind tag ns = shifted 1 0 ns

-- the nodes before a member, its own, and the others
split_nodes : (es : List Extent) (k : ℕ) (e : Extent) → slice_get es k ≡ Some e → (rest : List Ctype) × (all_nodes es ≡ all_nodes (take k es) ++ (e.nodes ++ rest))
split_nodes [] k e at = absurd (none_some at)
split_nodes (d ∷ es) zero e at = (all_nodes es, ap (λ (x : Extent). x.nodes ++ all_nodes es) (some_one at))
split_nodes (d ∷ es) (suc k) e at =
    let r = split_nodes es k e at in
    (r.0, ap (λ (l : List Ctype). d.nodes ++ l) r.1 ∙ sym (append_assoc d.nodes (all_nodes (take k es)) (e.nodes ++ r.0)))

take_front : (ms ns : List Ctype) → take (length ms) (ms ++ ns) ≡ ms
take_front [] [] = refl
take_front [] (t ∷ ns) = refl
take_front (t ∷ ms) ns = ap (λ (l : List Ctype). t ∷ l) (take_front ms ns)

-- a type that is no array has a place
place_plain : (t : Ctype) (n : ℕ) → (IsArray t → ⊥) → unless_flexible t n ≡ Some n
place_plain (ArrayOf of None) n plain = absurd (plain tt)
place_plain (ArrayOf of (Some m)) n plain = refl
place_plain t n plain = refl

flexible_array : (table : Table) (t : Ctype) → IsFlexible table t → IsArray t
flexible_array table (ArrayOf of None) h = tt
flexible_array table (ArrayOf of (Some n)) h = tt
flexible_array table VoidType h = absurd h
flexible_array table BoolType h = absurd h
flexible_array table (IntegerType size rank signed) h = absurd h
flexible_array table FloatingType h = absurd h
flexible_array table VaListType h = absurd h
flexible_array table (PointerTo to) h = absurd h
flexible_array table (FunctionFrom result parameters form) h = absurd h
flexible_array table (StructureOf tag) h = absurd h
flexible_array table (UnionOf tag) h = absurd h

-- a complete type's nodes, where there are not too many
fewer_kept : (b : Bool) (ns : List Ctype) → kept_count (cond b ns []) ≤ kept_count ns
fewer_kept true ns = omega arith
fewer_kept false ns = omega arith

member_kept : (o other : Option Extent) → IsSome o → kept_count (nodes_in o) ≤ kept_count (or_flexible o other).nodes
member_kept None other h = absurd (false≢true h)
member_kept (Some e) other h = fewer_kept (nat_lt (length e.nodes) (2 ^ 24 + 1)) e.nodes

module _ (table : Table) (made : IsMade table) (fit : TagsFit table) where
  module _ (tag k : ℕ) (ms : List MemberTerm) (is : members_in table tag ≡ Some ms) (m : MemberTerm) (at : slice_get ms k ≡ Some m) (no_union : (i : ℕ) → slice_get table.terms i ≡ Some (Union tag) → ⊥) (no_array : IsArray (type_of table m.ty.0) → ⊥) where
    abbrev es : List Extent
    es = extents_in table ms

    abbrev own : Ctype
    own = type_of table m.ty.0

    few : length (all_nodes es) < 2 ^ 24
    few = fit.each tag ms is no_union

    place : member_node table (StructureOf tag) k ≡ 1 + length (all_nodes (take k es))
    place =
        let within = member_within table made tag ms is k m at in
        let less = few in
        let found : field_in table (StructureOf tag) k ≡ Some (position es k) =
        ap (λ (o : Option (List MemberTerm)). place_in table (λ members. position (extents_in table members) k) o k) is
        ∙ (ap (option_and_then (λ (x : MemberTerm). unless_flexible (type_of table x.ty.0) (position es k))) at ∙ place_plain own (position es k) no_array) in
        ap (λ (o : Option ℕ). unwrap_or (within_32 o) 0) found ∙ ap (λ (b : Bool). unwrap_or (cond b (Some (position es k)) None) 0) (lt-ltb (position es k) (2 ^ 32) (omega arith))

    pub member_rows : (first : ℕ) → part_first table (StructureOf tag) first k + kept_count (nodes_of table own) ≤ first + kept_count (nodes_of table (StructureOf tag))
    member_rows first =
        let e = member_extent (look_in table) own in
        let (rest, split) = split_nodes es k e (extents_get table ms k m at) in
        let front = all_nodes (take k es) in
        let whole : nodes_of table (StructureOf tag) ≡ StructureOf tag ∷ (front ++ (e.nodes ++ rest)) = structure_nodes_is table made tag ms is few ∙ ap (λ (l : List Ctype). StructureOf tag ∷ l) split in
        let next : member_node table (StructureOf tag) k ≡ suc (length front) = place ∙ (let q : 1 + length front ≡ suc (length front) = omega arith in q) in
        let before : take (member_node table (StructureOf tag) k) (nodes_of table (StructureOf tag)) ≡ StructureOf tag ∷ front =
        ap (λ (n : ℕ). take n (nodes_of table (StructureOf tag))) next ∙ (ap (take (suc (length front))) whole ∙ ap (λ (l : List Ctype). StructureOf tag ∷ l) (take_front front (e.nodes ++ rest))) in
        let a : kept_count (take (member_node table (StructureOf tag) k) (nodes_of table (StructureOf tag))) ≡ kept_count front = ap kept_count before ∙ kept_behind tag front in
        let b : kept_count (nodes_of table (StructureOf tag)) ≡ kept_count front + kept_count (e.nodes ++ rest) = ap kept_count whole ∙ (kept_behind tag (front ++ (e.nodes ++ rest)) ∙ kept_both front (e.nodes ++ rest)) in
        let c = kept_both e.nodes rest in
        let complete : IsSome (extent_in table own) = elim (made.members tag ms is k m at).1.object [ inl done ↦ done | inr last ↦ absurd (no_array (flexible_array table own last.flexible)) ] in
        let d = member_kept (extent_in table own) (element_extent (look_in table) own) complete in
        omega arith

  member_in : (tag k : ℕ) (o : Option (List MemberTerm)) (m : MemberTerm) → members_in table tag ≡ o → in_list o k ≡ Some m → (ms : List MemberTerm) × (members_in table tag ≡ Some ms) × (slice_get ms k ≡ Some m)
  member_in tag k None m is at = absurd (none_some at)
  member_in tag k (Some ms) m is at = (ms, is, at)

  pub part_rows : (whole : Ctype) (k : ℕ) (t : Ctype) (first : ℕ) → is_union_type whole ≡ false → ((tag : ℕ) → whole ≡ StructureOf tag → (i : ℕ) → slice_get table.terms i ≡ Some (Union tag) → ⊥)
      → IsMemberOf table whole k t → (IsArray t → ⊥) → part_first table whole first k + kept_count (nodes_of table t) ≤ first + kept_count (nodes_of table whole)
  part_rows (StructureOf tag) k t first apart proper m no_array =
      let (ms, is, at) = member_in tag k (members_in table tag) m.member refl m.stands in
      subst (λ (s : Ctype). part_first table (StructureOf tag) first k + kept_count (nodes_of table s) ≤ first + kept_count (nodes_of table (StructureOf tag))) m.type
      (member_rows tag k ms is m.member at (proper tag refl) (λ a. no_array (subst IsArray m.type a)) first)
  part_rows (UnionOf tag) k t first apart proper m no_array = absurd (false≢true (sym apart))
  part_rows whole k t first apart proper m no_array = absurd (none_some m.stands)
