-- The nodes of the units, unit by unit.
use Rattle.std.proofs.Common.{◌≡◌, ℕ, zero, suc, ◌+◌, ◌-◌, ◌<◌, ◌≤◌, ◌^◌, Option, Some, None, IfSome, List, [], ◌∷◌, ◌++◌, length, map, sum, take, drop, get_or, length-drop, refl, sym, ap, subst, ◌∙◌, arith, inl, inr}
use Rattle.std.proofs.Math.Path.{fun_ext}
use Rattle.std.proofs.lemmas.Bool.{cases_lt}
use Rattle.std.proofs.lemmas.List.{length-map, take-map, take_more, map-append, take_all}
use Rattle.std.proofs.lemmas.List.Elements.{All-weaker}
use Rattle.std.proofs.lemmas.List.Concat.{length-flat_map}
use Rattle.std.proofs.lemmas.List.Sums.{sum_by_more, sum-map, sum_by-take-le}
use Rattle.std.proofs.lemmas.Option.{slice_get-map, slice_get_within, get_or_from_slice_get}
use Rattle.std.specs.List.{slice_get, sum_by}
use Rattle.std.specs.Option.{option_map}
use Rattle.core_tree.specs.declared.node.Unit.{Unit}
use Rattle.core_tree.specs.declared.node.Node.{Node}
use Rattle.core_tree.specs.Range.{named_by, listed_by}
use Rattle.link_model.specs.Units.{item, types_if}
use Rattle.link_model.specs.link_types.Starts.{AreSums}
use Rattle.unit_link.specs.Places.{nodes_before}
use Rattle.unit_link.specs.Needs.{AreLinkable}
use Rattle.unit_link.specs.declared.link_program.numbers.EntityNumbers.{EntityNumbers}
use Rattle.unit_link.specs.link_program.Merging.{AreMerged}
use Rattle.unit_link.specs.link_program.Rows.{AreEntityNumbers, all_entities, label_of, entity_in, counts_of}
use Rattle.unit_link.proofs.link_program.Numbering.{start_at}
use Rattle.link_units.specs.link_whole.Placed.{AreNamed}
use Rattle.link_units.specs.Nodes.{node_counts_of, StandsMoved, AreAdded, AreUnitNodes, ArePlaceable, AreNodesOf}
use Rattle.c_types.specs.Table.{Table}

some_one : {X : Type 0} → {x y : X} → ◌≡◌ {A = Option X} (Some x) (Some y) → x ≡ y
some_one h = cc

-- sums step by step
sums_more : (counts sums : List ℕ) (u n : ℕ) → AreSums counts sums → slice_get counts u ≡ Some n → get_or sums (u + 1) 0 ≡ get_or sums u 0 + n
sums_more counts sums u n h at =
    let lt = slice_get_within counts u n at in
    let here = h.each u (omega arith) in
    let next = h.each (u + 1) (omega arith) in
    let more : sum (take (u + 1) counts) ≡ sum (take u counts) + n = sum_by_more (λ (k : ℕ). k) counts u n lt ∙ ap (λ k. sum (take u counts) + k) (get_or_from_slice_get counts u n n at) in
    omega arith

pub nodes_step : (units : List Unit) (starts : List ℕ) (u : ℕ) (x : Unit) → AreSums (node_counts_of units) starts → slice_get units u ≡ Some x → get_or starts (u + 1) 0 ≡ get_or starts u 0 + length x.nodes.items
nodes_step units starts u x h at =
    sums_more (node_counts_of units) starts u (length x.nodes.items) h (slice_get-map (λ (y : Unit). length y.nodes.items) units u ∙ ap (option_map (λ (y : Unit). length y.nodes.items)) at)

pub nodes_start : (units : List Unit) (starts : List ℕ) (u : ℕ) → AreSums (node_counts_of units) starts → u ≤ length units → get_or starts u 0 ≡ nodes_before units u
nodes_start units starts u sums le =
    let many : length (node_counts_of units) ≡ length units = length-map units (λ (x : Unit). length x.nodes.items) in
    sums.each u (omega arith)
    ∙ (ap sum (take-map (λ (x : Unit). length x.nodes.items) u units) ∙ sum-map (λ (x : Unit). length x.nodes.items) (take u units))

get_drop : (ys : List ℕ) (s t : ℕ) → get_or (drop s ys) t 0 ≡ get_or ys (s + t) 0
get_drop ys zero t = ap (λ k. get_or ys k 0) (let z : t ≡ zero + t = omega arith in z)
get_drop [] (suc s) t = refl
get_drop (y ∷ ys) (suc s) t = get_drop ys s t ∙ ap (λ k. get_or (y ∷ ys) k 0) (let z : suc (s + t) ≡ suc s + t = omega arith in z)

-- the numbers of a unit's entities, from their start on
pub entities_from : (n : EntityNumbers) (u : ℕ) → ◌≡◌ {A = ℕ → ℕ} (λ e. get_or (drop (get_or n.starts.items u 0) n.numbers.items) e 0) (entity_in n.starts.items n.numbers.items u)
entities_from n u = fun_ext (λ e. get_drop n.numbers.items (get_or n.starts.items u 0) e)

-- the first so many units
pub record AreUnitsSoFar (units rest : List Unit) (names : List (List ℕ)) (type_starts node_starts : List ℕ) (n : EntityNumbers) (u : ℕ) (list : List Node) : Type 0 where
  pub within : u ≤ length units
  pub left : rest ≡ drop u units
  pub names_are : names ≡ map (λ (x : Unit). x.name) (take u units)
  pub nodes : AreNodesOf units type_starts node_starts n u list

pub units_none : (units : List Unit) (type_starts node_starts : List ℕ) (n : EntityNumbers) → AreSums (node_counts_of units) node_starts → AreUnitsSoFar units units [] type_starts node_starts n 0 []
units_none units type_starts node_starts n sums = record {
  within = omega arith;
  left = refl;
  names_are = none units;
  nodes = record { count = sym (sums.each 0 (omega arith)); each = λ u i x node lt ux at. absurd (omega arith) };
}
  where
    none : (xs : List Unit) → [] ≡ map (λ (x : Unit). x.name) (take 0 xs)
    none [] = refl
    none (x ∷ xs) = refl

nodes_more : (units : List Unit) (type_starts node_starts : List ℕ) (n : EntityNumbers) (u : ℕ) (x : Unit) (old now : List Node) → AreSums (node_counts_of units) node_starts → slice_get units u ≡ Some x → AreNodesOf units type_starts node_starts n u old
    → AreAdded (get_or type_starts u 0) (get_or node_starts u 0) (entity_in n.starts.items n.numbers.items u) x.nodes.items old now → AreNodesOf units type_starts node_starts n (u + 1) now
nodes_more units type_starts node_starts n u x old now sums ux h added = record {
  count = (let a = added.count in let c = h.count in let s = nodes_step units node_starts u x sums ux in omega arith);
  each = λ v i y node lt vy at. elim (cases_lt v u) [
    | inl less ↦
        let s = h.each v i y node less vy at in
        record { node = s.node; node_is = added.kept (get_or node_starts v 0 + i) s.node s.node_is; placed = s.placed }
    | inr ge ↦
        let here : v ≡ u = omega arith in
        let same : y ≡ x = some_one (sym vy ∙ (ap (slice_get units) here ∙ ux)) in
        let s = added.each i node (subst (λ (z : Unit). slice_get z.nodes.items i ≡ Some node) same at) in
        let place = h.count in
        subst (λ w. StandsMoved (get_or type_starts w 0) (get_or node_starts w 0) (entity_in n.starts.items n.numbers.items w) now (get_or node_starts w 0 + i) node) (sym here)
        (subst (λ k. StandsMoved (get_or type_starts u 0) (get_or node_starts u 0) (entity_in n.starts.items n.numbers.items u) now (k + i) node) place s)
  ];
}

pub units_more : (units rest more : List Unit) (names : List (List ℕ)) (type_starts node_starts : List ℕ) (n : EntityNumbers) (u : ℕ) (x : Unit) (old now : List Node) → AreSums (node_counts_of units) node_starts → AreUnitsSoFar units rest names type_starts node_starts n u old
    → u < length units → slice_get units u ≡ Some x → more ≡ drop (u + 1) units
    → AreAdded (get_or type_starts u 0) (get_or node_starts u 0) (entity_in n.starts.items n.numbers.items u) x.nodes.items old now → AreUnitsSoFar units more (names ++ x.name ∷ []) type_starts node_starts n (u + 1) now
units_more units rest more names type_starts node_starts n u x old now sums h lt ux left added = record {
  within = omega arith;
  left = left;
  names_are =
      ap (λ ns. ns ++ x.name ∷ []) h.names_are
      ∙ (sym (map-append (λ (y : Unit). y.name) (take u units) (x ∷ [])) ∙ ap (map (λ (y : Unit). y.name)) (sym (take_more units u x lt ∙ ap (λ y. take u units ++ y ∷ []) (get_or_from_slice_get units u x x ux))));
  nodes = nodes_more units type_starts node_starts n u x old now sums ux h.nodes added;
}

-- a unit's entities among all
entities_within : (units : List Unit) (n : EntityNumbers) (u : ℕ) (x : Unit) → AreEntityNumbers units n → slice_get units u ≡ Some x → get_or n.starts.items u 0 + length x.entities.items ≤ length n.numbers.items
entities_within units n u x are ux =
    let f = λ (y : Unit). y.entities.items in
    let lt = slice_get_within units u x ux in
    let counts : slice_get (counts_of units) u ≡ Some (length x.entities.items) = slice_get-map (λ (y : Unit). length y.entities.items) units u ∙ ap (option_map (λ (y : Unit). length y.entities.items)) ux in
    let step = sums_more (counts_of units) n.starts.items u (length x.entities.items) are.starts_are counts in
    let next = start_at units n.starts.items (u + 1) are.starts_are (omega arith) in
    let part = sum_by-take-le (λ (y : Unit). length y.entities.items) units (u + 1) in
    let whole : length (all_entities units) ≡ sum_by (λ (y : Unit). length y.entities.items) units = length-flat_map (λ (y : Unit). y.entities.items) units in
    let labels : length (map label_of (all_entities units)) ≡ length (all_entities units) = length-map (all_entities units) label_of in
    let a = are.alike.all in
    let b = are.numbered.all in
    omega arith

-- valid units' nodes have their place in the program
pub units_placeable : (units : List Unit) (type_starts : List ℕ) (n : EntityNumbers) (table : Table) → AreLinkable units → AreMerged units type_starts table → length table.terms < 2 ^ 32 → AreEntityNumbers units n → ArePlaceable units type_starts n
units_placeable units type_starts n table linkable merged room are = record {
  each = λ u x ux.
      let lt = slice_get_within units u x ux in
      let many : length (counts_of units) ≡ length units = length-map units (λ (y : Unit). length y.entities.items) in
      let range = (linkable.valid u x ux).trees.in_range in
      record {
        types_start = (let e = merged.enough in omega arith);
        entities_start = (let a = are.starts_are.all in omega arith);
        entities = entities_within units n u x are ux;
        types = λ i node at.
            let own = range.types i node at in
            let is_type = subst (λ (o : Option Unit). node.ty.0 < length (types_if o).terms) (sym ux) own in
            let w = (merged.merged.types (item u node.ty.0) is_type).within in
            omega arith;
        named = record { each = λ i node at. record { children = range.children i node at; named = range.entities i node at; listed = range.lists i node at } };
      };
}

-- more entities than a node names
pub named_more : (n m : ℕ) (nodes : List Node) → n ≤ m → AreNamed n nodes → AreNamed m nodes
named_more n m nodes le h = record {
  each = λ i node at.
      let r = h.each i node at in
      record {
        children = r.children;
        named = some_more (named_by node.kind) r.named;
        listed = All-weaker (λ e. e < n) (λ e. e < m) (λ x lt. omega arith) (listed_by node.kind) r.listed;
      };
}
  where
    some_more : (o : Option ℕ) → IfSome o (λ e. e < n) → IfSome o (λ e. e < m)
    some_more None h = tt
    some_more (Some e) h = omega arith

pub unit_nodes : (units : List Unit) (type_starts node_starts : List ℕ) (n : EntityNumbers) (u : ℕ) (x : Unit) → AreSums (node_counts_of units) node_starts → ArePlaceable units type_starts n → slice_get units u ≡ Some x → AreUnitNodes type_starts node_starts n u x.nodes.items
unit_nodes units type_starts node_starts n u x sums placeable ux =
    let p = placeable.each u x ux in
    let lt = slice_get_within units u x ux in
    let many : length (node_counts_of units) ≡ length units = length-map units (λ (y : Unit). length y.nodes.items) in
    record {
      entities = length x.entities.items;
      types_start = p.types_start;
      nodes_start = (let a = sums.all in omega arith);
      entities_start = p.entities_start;
      within = p.entities;
      types = p.types;
      named = p.named;
      step = nodes_step units node_starts u x sums ux;
    }

take_rest : (xs : List ℕ) (s : ℕ) → take (length xs - s) (drop s xs) ≡ drop s xs
take_rest xs s = take_all (length xs - s) (drop s xs) (let long = length-drop s xs in omega arith)

-- the rest of a list, from a place on
pub rest_from : (xs ys : List ℕ) (s : ℕ) → xs ≡ ys → take (length xs - s) (drop s xs) ≡ drop s ys
rest_from xs ys s e = take_rest xs s ∙ ap (drop s) e
