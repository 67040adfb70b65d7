-- Numbers that begin one after another.
use Rattle.std.proofs.Common.{arith, ◌≡◌, ℕ, zero, suc, ◌+◌, ◌<◌, ◌≤◌, ◌^◌, List, [], ◌∷◌, ◌++◌, Bool, true, false, cond, Option, Some, None, length, length-append, take, get_or, map, sum, refl, ap, ◌∙◌}
use Rattle.std.specs.Option.{is_some}
use Rattle.std.specs.List.{All, filter_map, range_with_len}
use Rattle.std.proofs.lemmas.List.{take_more}
use Rattle.std.proofs.lemmas.List.Elements.{filter_map-append}
use Rattle.std.proofs.lemmas.List.FromFn.{map-range_with_len_more}
use Rattle.c_types.specs.declared.key.ObjectKey.{ObjectKey}
use Rattle.std.specs.Prelude.{◌↔◌, IsTrue, nat_lt}
use Rattle.std.proofs.lemmas.Bool.{false≢true}
use borrow.Author.Tests.{ltb-true}
use Rattle.std.proofs.lemmas.List.Sums.{sum_by-take-le}
use Rattle.c_types.specs.declared.term.Form.TheVariants.{Variadic}
use Rattle.c_types.specs.Trees.{Ctype, FunctionFrom}
use Rattle.c_types.specs.Layout.{Extent}
use Rattle.c_types.specs.Table.{Table, type_of, extent_in}
use Rattle.type_rules.specs.Conversions.{result_of}
use Rattle.type_rules.specs.Kinds.{IsVariadic}
use Rattle.core_tree.specs.declared.node.Node.{Node}
use Rattle.core_tree.specs.Typed.{CoreTrees, Sort, NoNode, PlaceNode, ValueNode, StatementNode, sort_of}
use Rattle.row_numbers.specs.Kept.{nodes_in, nodes_of, kept_count}
use Rattle.row_numbers.specs.Functions.{key_type}
use Rattle.row_numbers.proofs.KeptLemmas.{kept_length}
use Rattle.core_tree.specs.declared.node.NodeKind.{NodeKind}
use Rattle.core_tree.specs.declared.node.NodeKind.TheVariants.{NextArg, CallNode}
use Rattle.core_tree.specs.Typed.{type_at}
use Rattle.row_numbers.specs.Setting.{start_at, width_by, own_width, width, widths, lead, trail, takes_further, calls_further, result_nodes}
use Rattle.row_numbers.specs.Numbering.{present_before}

present_one : (o : Option ObjectKey) → length (filter_map (λ (found : Option ObjectKey). found) (o ∷ [])) ≡ cond (is_some o) 1 0
present_one None = refl
present_one (Some x) = refl

pub present_more : (at : List (Option ObjectKey)) (i : ℕ) (d : Option ObjectKey) → i < length at → present_before at (i + 1) ≡ present_before at i + cond (is_some (get_or at i d)) 1 0
present_more at i d lt =
    ap (λ (xs : List (Option ObjectKey)). length (filter_map (λ (found : Option ObjectKey). found) xs)) (take_more at i d lt)
    ∙ (ap length (filter_map-append (λ (found : Option ObjectKey). found) (take i at) (get_or at i d ∷ []))
    ∙ (length-append (filter_map (λ (found : Option ObjectKey). found) (take i at)) (filter_map (λ (found : Option ObjectKey). found) (get_or at i d ∷ []))
    ∙ ap (λ (n : ℕ). present_before at i + n) (present_one (get_or at i d))))

pub map_more : (f : ℕ → ℕ) (i value : ℕ) → value ≡ f i → map f (range_with_len 0 (i + 1)) ≡ map f (range_with_len 0 i) ++ value ∷ []
map_more f i value e = map-range_with_len_more f 0 i i (omega arith) ∙ rw e refl

one_most : (b : Bool) → cond b 1 0 ≤ 1
one_most true = omega arith
one_most false = omega arith

pub one_at_most : (o : Option ObjectKey) → cond (is_some o) 1 0 ≤ 1
one_at_most o = one_most (is_some o)

-- every row is at most the last one
pub starts_within : (first : ℕ) (widths : List ℕ) (k : ℕ) → start_at first widths k ≤ first + sum widths
starts_within first widths k = omega (arith, sum_by-take-le (λ (x : ℕ). x) widths k)

pub all_small : {X : Type 0} (f : X → ℕ) (xs : List X) (most : ℕ) → ((x : X) → f x ≤ most) → All (λ y. y ≤ most) (map f xs)
all_small f [] most h k d lt = absurd (omega arith)
all_small f (x ∷ xs) most h zero d lt = h x
all_small f (x ∷ xs) most h (suc k) d lt = all_small f xs most h k d (omega arith)

pub nodes_few : (o : Option Extent) → length (nodes_in o) ≤ 2 ^ 24
nodes_few None = omega arith
nodes_few (Some e) = by (nat_lt (length e.nodes) (2 ^ 24 + 1)) refl where
  by : (b : Bool) → nat_lt (length e.nodes) (2 ^ 24 + 1) ≡ b → length (cond (nat_lt (length e.nodes) (2 ^ 24 + 1)) e.nodes []) ≤ 2 ^ 24
  by true h = rw h (omega (arith, ltb-true (length e.nodes) (2 ^ 24 + 1) h))
  by false h = rw h (omega arith)

pub kept_few : (table : Table) (t : Ctype) → kept_count (nodes_of table t) ≤ 2 ^ 24
kept_few table t = omega (arith, kept_length (nodes_of table t), nodes_few (extent_in table t))

width_few : (sort : Sort) (kept : ℕ) → kept ≤ 2 ^ 24 → width_by sort kept ≤ 2 ^ 24
width_few NoNode kept h = omega arith
width_few PlaceNode kept h = omega arith
width_few ValueNode kept h = h
width_few StatementNode kept h = omega arith

pub own_width_few : (table : Table) (node : Node) → own_width table node ≤ 2 ^ 24
own_width_few table node = width_few (sort_of node.kind) _ (kept_few table (type_of table node.ty.0))

pub lead_few : (kind : NodeKind) → lead kind ≤ 1
lead_few NextArg = omega arith
lead_few kind = omega arith

pub trail_few : (u : CoreTrees) (kind : NodeKind) (children : List ℕ) → trail u kind children ≤ 1
trail_few u CallNode (c ∷ arguments) = one_most (calls_further (type_at u c))
trail_few u CallNode [] = omega arith
trail_few u kind children = omega arith

width_small : (u : CoreTrees) (node : Node) → width u node ≤ 2 ^ 24 + 2
width_small u node = omega (arith, lead_few node.kind, own_width_few u.types node, trail_few u node.kind node.children)

pub widths_few : (u : CoreTrees) → All (λ y. y ≤ 2 ^ 24 + 2) (widths u)
widths_few u = all_small (width u) u.nodes (2 ^ 24 + 2) (width_small u)

pub result_widths_few : (u : CoreTrees) (keys : List ObjectKey) → All (λ y. y ≤ 2 ^ 24 + 2) (map (λ key. kept_count (result_nodes u key)) keys)
result_widths_few u keys = all_small (λ key. kept_count (result_nodes u key)) keys (2 ^ 24 + 2) (λ key. omega (arith, kept_few u.types (result_of (key_type u key))))

-- a test of a type tells whether it is that of a function that takes arguments past its parameters
pub further_told : (b : Bool) (t : Ctype) → IsTrue b ↔ IsVariadic t → b ≡ takes_further t
further_told true t h = there t (h.0 refl) where
  there : (t : Ctype) → IsVariadic t → true ≡ takes_further t
  there (FunctionFrom r ps Variadic) x = refl
  there t x = elim x [ ]
further_told false t h = there t (λ x. false≢true (h.1 x)) where
  there : (t : Ctype) → (IsVariadic t → ⊥) → false ≡ takes_further t
  there (FunctionFrom r ps Variadic) x = absurd (x tt)
  there t x = refl
