-- What the laws of a space say of the locations of a system: each has a type, and the nodes under it are locations.
use Rattle.std.proofs.Common.{arith, ◌≡◌, ℕ, zero, suc, ◌+◌, ◌*◌, ◌/◌, ◌<◌, ◌≤◌, ◌^◌, nat_lt, if◌then◌else◌, Bool, true, false, List, [], ◌∷◌, ◌++◌, Option, Some, None, length, map, slice_get, replicate, refl, ap, sym, ◌∙◌, subst, inl, inr, length-append, IsFalse}
use Rattle.std.specs.List.{range_with_len, list_any}
use Rattle.std.specs.Option.{option_map_or}
use Rattle.std.proofs.lemmas.List.FromFn.{length-map-range_with_len}
use Rattle.std.proofs.lemmas.Bool.{cond-true, cond-false}
use mathlib.Core.Logic.{⊎_elim, ◌⊎◌}
use Rattle.c_types.specs.declared.term.MemberTerm.{MemberTerm}
use Rattle.c_types.specs.Trees.{Ctype, StructureOf, UnionOf}
use Rattle.c_types.specs.Layout.{Extent, of_members, union_of}
use Rattle.c_types.specs.Table.{Table, members_in, extent_in, look_in}
use Rattle.c_types.proofs.Nodes.{union_nodes}
use Rattle.core_tree.specs.declared.node.Program.{Program}
use Rattle.core_tree.specs.Typed.{CoreTrees, trees_in}
use Rattle.sol_model.specs.declared.system.System.{System}
use Rattle.sol_model.specs.declared.system.LocationFact.{LocationFact}
use Rattle.sol_model.specs.declared.system.TypeFact.{TypeFact}
use Rattle.sol_model.specs.Places.{nodes_of as nodes_under}
use Rattle.sol_model.specs.Systems.{location_count, width_of}
use Rattle.sol_model.proofs.Members.{All-at}
use Rattle.obj_space.specs.declared.location.Location.{Location}
use Rattle.obj_space.specs.Parts.{nodes_of as tree_nodes}
use Rattle.obj_space.specs.Space.{AreTyped, HasTrees}
use Rattle.obj_space.specs.View.{SpaceView, view_of, collapsed_of, type_of_node}
use Rattle.obj_space.proofs.Indexed.{below_count}
use Rattle.obj_space.proofs.Placed.{get_mapped}
use Rattle.row_numbers.specs.Kept.{nodes_in, nodes_of}
use Rattle.row_numbers.specs.Setting.{none_row, row_total}
use Rattle.normal_form.specs.SystemOf.{SystemOf}
use Rattle.constraints.specs.System.{IsWithin}
use Rattle.normal_form.specs.Facts.{location_fact, location_facts, plain_fact, is_union, tagged, tag_fact_by, tag_fact, type_facts}

present : {A : Type 0} (xs : List A) (i : ℕ) → i < length xs → (x : A) × (slice_get xs i ≡ Some x)
present [] i h = absurd (omega arith)
present (x ∷ xs) zero h = (x, refl)
present (x ∷ xs) (suc i) h = present xs i (omega arith)

range_get : (a n k x : ℕ) → slice_get (range_with_len a n) k ≡ Some x → (x ≡ a + k) × (k < n)
range_get a zero k x h = cc
range_get a (suc n) zero x h = let e : a ≡ x = cc in (omega (arith, e), omega arith)
range_get a (suc n) (suc k) x h = let e = range_get (a + 1) n k x h in (omega (arith, e.0), omega (arith, e.1))

behind_plain : (n : ℕ) (xs : List TypeFact) (ty : ℕ) (fact : TypeFact) → slice_get (replicate n plain_fact ++ xs) ty ≡ Some fact
    → (fact.nodes ≡ 1) ⊎ ((k : ℕ) × (ty ≡ n + k) × (slice_get xs k ≡ Some fact))
behind_plain zero xs ty fact h = inr (ty, omega arith, h)
behind_plain (suc n) xs zero fact h = let e : plain_fact ≡ fact = cc in inl (sym (ap (λ (f : TypeFact). f.nodes) e))
behind_plain (suc n) xs (suc ty) fact h =
    ⊎_elim (λ one. inl one) (λ r. let e : suc ty ≡ suc n + r.0 = omega (arith, r.1) in inr (r.0, e, r.2)) (behind_plain n xs ty fact h)

-- a fact is of one node, or a tag's
one_or_tag : (table : Table) (ty : ℕ) (fact : TypeFact) → slice_get (type_facts table) ty ≡ Some fact → (fact.nodes ≡ 1) ⊎ ((tag : ℕ) × (ty ≡ 8 + tag) × (tag_fact table tag ≡ fact))
one_or_tag table ty fact h =
    ⊎_elim
    (λ one. inl one)
    (λ r.
    let m = get_mapped (tag_fact table) (range_with_len 0 table.tags) r.0 fact r.2 in
    let same : m.0 ≡ r.0 = let e = range_get 0 table.tags r.0 m.0 m.1 in omega (arith, e.0) in
    inr (r.0, r.1, ap (tag_fact table) (sym same) ∙ m.2))
    (behind_plain 8 (map (tag_fact table) (range_with_len 0 table.tags)) ty fact h)

fewer_or_none : (b : Bool) (xs : List Ctype) → length (if b then xs else []) ≤ length xs
fewer_or_none true xs = omega arith
fewer_or_none false xs = omega arith

fewer_nodes : (o : Option Extent) (e : Extent) → o ≡ Some e → length (nodes_in o) ≤ length e.nodes
fewer_nodes o e is =
    subst (λ (p : Option Extent). length (nodes_in p) ≤ length e.nodes) (sym is) (fewer_or_none (nat_lt (length e.nodes) (2 ^ 24 + 1)) e.nodes)

no_nodes : (o : Option Extent) → o ≡ None → length (nodes_in o) ≤ 0
no_nodes o is = subst (λ (p : Option Extent). length (nodes_in p) ≤ 0) (sym is) (omega arith)

-- a union is one node at most
union_one : (table : Table) (tag : ℕ) → length (nodes_of table (UnionOf tag)) ≤ 1
union_one table tag = by_look (look_in table tag) refl
  where
    by_look : (o : Option (List Extent)) → look_in table tag ≡ o → length (nodes_of table (UnionOf tag)) ≤ 1
    by_look None e = let none = no_nodes (extent_in table (UnionOf tag)) (ap (of_members (union_of (UnionOf tag))) e) in omega (arith, none)
    by_look (Some es) e =
        let few = fewer_nodes (extent_in table (UnionOf tag)) (union_of (UnionOf tag) es) (ap (of_members (union_of (UnionOf tag))) e) in
        let one : length (union_of (UnionOf tag) es).nodes ≡ 1 = ap (λ (ns : List Ctype). length ns) (union_nodes (UnionOf tag) es) in
        omega (arith, few, one)

module _ (u : CoreTrees) (space : List Location) (typed : AreTyped u.types space) (trees : HasTrees u.types space) where
  module _ (l : ℕ) (x : Location) (at : slice_get space l ≡ Some x) where
    ty_known : x.ty < length (type_facts u.types)
    ty_known =
        let few : x.ty < 8 + u.types.tags = All-at (λ (y : Location). y.ty < 8 + u.types.tags) space l x typed at in
        let many : length (type_facts u.types) ≡ 8 + u.types.tags =
        length-append (replicate 8 plain_fact) (map (tag_fact u.types) (range_with_len 0 u.types.tags)) ∙ ap (λ (n : ℕ). 8 + n) (length-map-range_with_len (tag_fact u.types) 0 u.types.tags) in
        omega (arith, few, many)

    here : l + 1 ≤ length space
    here = let less = below_count space l x at in omega (arith, less)

    module _ (apart : x.collapsed ≡ false) (tag : ℕ) (number : x.ty ≡ 8 + tag) where
      room : (e : Extent) → extent_in u.types (StructureOf tag) ≡ Some e → l + length e.nodes ≤ length space
      room e is = by_nodes e.nodes refl
        where
          by_nodes : (ns : List Ctype) → e.nodes ≡ ns → l + length e.nodes ≤ length space
          by_nodes [] none = let n : length e.nodes ≡ 0 = ap (λ (ts : List Ctype). length ts) none in omega (arith, n, here)
          by_nodes (t ∷ ts) some =
              let n : length e.nodes ≡ suc (length ts) = ap (λ (us : List Ctype). length us) some in
              let last = present e.nodes (length ts) (omega (arith, n)) in
              let y = trees l tag (length ts) x last.0 at apart number (ap (λ (o : Option Extent). slice_get (tree_nodes o) (length ts)) is ∙ last.1) in
              let less = below_count space (l + length ts) y.0 y.1 in
              omega (arith, n, less)

      structure_fits : (o : Option Extent) → extent_in u.types (StructureOf tag) ≡ o → l + length (nodes_of u.types (StructureOf tag)) ≤ length space
      structure_fits None is = let none = no_nodes (extent_in u.types (StructureOf tag)) is in omega (arith, none, here)
      structure_fits (Some e) is = let few = fewer_nodes (extent_in u.types (StructureOf tag)) e is in let whole = room e is in omega (arith, few, whole)

      tagged_fits : (b : Bool) → list_any (is_union tag) u.types.terms ≡ b → l + length (nodes_of u.types (tagged u.types tag)) ≤ length space
      tagged_fits true is =
          subst (λ (t : Ctype). l + length (nodes_of u.types t) ≤ length space) (sym (cond-true (list_any (is_union tag) u.types.terms) (UnionOf tag) (StructureOf tag) is))
          (let one = union_one u.types tag in omega (arith, one, here))
      tagged_fits false is =
          subst (λ (t : Ctype). l + length (nodes_of u.types t) ≤ length space) (sym (cond-false (list_any (is_union tag) u.types.terms) (UnionOf tag) (StructureOf tag) is))
          (structure_fits (extent_in u.types (StructureOf tag)) refl)

      tag_by : (o : Option (List MemberTerm)) → l + (tag_fact_by u.types (tagged u.types tag) o).nodes ≤ length space
      tag_by None = here
      tag_by (Some ms) = tagged_fits (list_any (is_union tag) u.types.terms) refl

    fits : x.collapsed ≡ false → (fact : TypeFact) → slice_get (type_facts u.types) x.ty ≡ Some fact → l + fact.nodes ≤ length space
    fits apart fact h =
        ⊎_elim
        (λ one. omega (arith, one, here))
        (λ r.
        let whole : l + (tag_fact u.types r.0).nodes ≤ length space = tag_by apart r.0 r.1 (members_in u.types r.0) in
        subst (λ (f : TypeFact). l + f.nodes ≤ length space) r.2 whole)
        (one_or_tag u.types x.ty fact h)

  -- each location of a system over the space has a type, and the nodes under it are locations
  pub locations_fit : (system : System) → system.locations ≡ location_facts u (view_of space) → system.types ≡ type_facts u.types → (l : ℕ) (fact : LocationFact)
      → slice_get system.locations l ≡ Some fact → (fact.ty < length system.types) × (IsFalse fact.collapsed → l + nodes_under system fact.ty ≤ location_count system)
  locations_fit system locations types l fact h =
      let m = get_mapped (location_fact u (view_of space)) (range_with_len 0 (length space)) l fact (ap (λ (fs : List LocationFact). slice_get fs l) (sym locations) ∙ h) in
      let r = range_get 0 (length space) l m.0 m.1 in
      let same : m.0 ≡ l = omega (arith, r.0) in
      let x = present space l r.1 in
      let ty : fact.ty ≡ x.0.ty = sym (ap (λ (f : LocationFact). f.ty) m.2) ∙ (ap (λ (k : ℕ). type_of_node (slice_get space k)) same ∙ ap type_of_node x.1) in
      let collapsed : fact.collapsed ≡ x.0.collapsed = sym (ap (λ (f : LocationFact). f.collapsed) m.2) ∙ (ap (λ (k : ℕ). collapsed_of (slice_get space k)) same ∙ ap collapsed_of x.1) in
      let known = ty_known l x.0 x.1 in
      let many : length system.types ≡ length (type_facts u.types) = ap (λ (fs : List TypeFact). length fs) types in
      let count : location_count system ≡ length space = ap (λ (fs : List LocationFact). length fs) locations ∙ length-map-range_with_len (location_fact u (view_of space)) 0 (length space) in
      let f = present (type_facts u.types) x.0.ty known in
      let nodes : nodes_under system fact.ty ≡ f.0.nodes =
      ap (λ (fs : List TypeFact). option_map_or (λ (g : TypeFact). g.nodes) (slice_get fs fact.ty) 0) types
      ∙ (ap (λ (k : ℕ). option_map_or (λ (g : TypeFact). g.nodes) (slice_get (type_facts u.types) k) 0) ty ∙ ap (λ (o : Option TypeFact). option_map_or (λ (g : TypeFact). g.nodes) o 0) f.1) in (
        omega (arith, ty, many, known),
        (λ apart. let whole = fits l x.0 x.1 (sym collapsed ∙ apart) f.0 f.1 in omega (arith, whole, nodes, count)),
      )

-- a system within the limits has a row for each location, and at most 2^24 words
module _ (p : Program) (s : SpaceView) (system : System) (is : SystemOf p s system) where
  count_is : location_count system ≡ s.count
  count_is = ap (λ (fs : List LocationFact). length fs) is.locations ∙ length-map-range_with_len (location_fact (trees_in p) s) 0 s.count

  pub rows_fit : location_count system ≤ system.rows
  unfolding none_row
  rows_fit = omega (arith, count_is, is.rows)

  pub size_fits : IsWithin p s → system.rows * width_of system ≤ 2 ^ 24
  size_fits within =
      let same : system.rows * width_of system ≡ row_total (trees_in p) s * ((s.count + 63) / 64) =
      ap (λ (n : ℕ). n * width_of system) is.rows ∙ ap (λ (n : ℕ). row_total (trees_in p) s * ((n + 63) / 64)) count_is in
      subst (λ (n : ℕ). n ≤ 2 ^ 24) (sym same) within.words
