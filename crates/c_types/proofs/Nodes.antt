-- Nodes of a type, and where members' nodes stand.
use Rattle.std.proofs.Common.{arith, ◌≡◌, ℕ, zero, suc, ◌+◌, ◌-◌, ◌^◌, ◌<◌, ◌≤◌, ◌⊎◌, inl, inr, length, length-append, take, get_or, List, [], ◌∷◌, ◌++◌, Option, Some, None, slice_get, refl, ap, ◌∙◌, sym, map}
use Rattle.c_types.specs.declared.term.Term.{Term}
use Rattle.c_types.specs.declared.term.Term.TheVariants.{Void, Bool as BoolTerm, Integer, Floating, VaList, Pointer, Array, Function, Structure, Union}
use Rattle.c_types.specs.declared.term.MemberTerm.{MemberTerm}
use Rattle.c_types.specs.Trees.{Ctype, VoidType, BoolType, IntegerType, FloatingType, VaListType, PointerTo, ArrayOf, FunctionFrom, StructureOf, UnionOf, grow}
use Rattle.c_types.specs.Layout.{Extent, Look, all_nodes, extent_of, repeated, of_members, placed, beside, overlaid, above, first_extent, structure_of, union_of, member_extent, element_extent, or_flexible}
use Rattle.c_types.specs.Table.{Table, node_of, type_of, look_in, extents_in}
use Rattle.c_types.specs.declared.layout.Bounds.{Bounds}
use Rattle.c_types.specs.Bounds.{cap, bounds, bounds_or}
use Rattle.c_types.specs.Inside.{IsPlain, element_of, starts}

append_assoc : {A : Type 0} (a b d : List A) → (a ++ b) ++ d ≡ a ++ (b ++ d)
append_assoc [] b d = refl
append_assoc (x ∷ a) b d = ap (λ (r : List _). x ∷ r) (append_assoc a b d)

append_end : {A : Type 0} (a : List A) → a ++ [] ≡ a
append_end [] = refl
append_end (x ∷ a) = ap (λ (r : List _). x ∷ r) (append_end a)

nodes_placed : (s : Extent) (es : List Extent) → (placed s es).nodes ≡ s.nodes ++ all_nodes es
nodes_placed s [] = sym (append_end s.nodes)
nodes_placed s (e ∷ es) = nodes_placed (beside s e) es ∙ append_assoc s.nodes e.nodes (all_nodes es)

nodes_overlaid : (s : Extent) (es : List Extent) → (overlaid s es).nodes ≡ s.nodes
nodes_overlaid s [] = refl
nodes_overlaid s (e ∷ es) = nodes_overlaid (above s e) es

-- a structure is a node followed by its members' nodes
pub structure_nodes : (t : Ctype) (es : List Extent) → (structure_of t es).nodes ≡ t ∷ all_nodes es
structure_nodes t es = nodes_placed (first_extent t) es

-- a union is one node
pub union_nodes : (t : Ctype) (es : List Extent) → (union_of t es).nodes ≡ t ∷ []
union_nodes t es = nodes_overlaid (first_extent t) es

pub starts_length : (n : ℕ) (es : List Extent) → length (starts n es) ≡ length es
starts_length n [] = refl
starts_length n (e ∷ es) = ap suc (starts_length (n + length e.nodes) es)

-- the start of the member in position k
pub starts_at : (n : ℕ) (es : List Extent) (k : ℕ) → k < length es → get_or (starts n es) k 0 ≡ cap (n + length (all_nodes (take k es)))
starts_at n [] k h = absurd (omega arith)
starts_at n (e ∷ es) zero h = ap cap (omega arith)
starts_at n (e ∷ es) (suc k) h =
    starts_at (n + length e.nodes) es k (omega arith) ∙ ap cap (omega (arith, length-append e.nodes (all_nodes (take k es))))

more_nodes : (es : List Extent) (i j : ℕ) → i ≤ j → length (all_nodes (take i es)) ≤ length (all_nodes (take j es))
more_nodes [] zero zero h = omega arith
more_nodes [] zero (suc j) h = omega arith
more_nodes [] (suc i) zero h = omega arith
more_nodes [] (suc i) (suc j) h = omega arith
more_nodes (e ∷ es) zero j h = omega arith
more_nodes (e ∷ es) (suc i) zero h = absurd (omega arith)
more_nodes (e ∷ es) (suc i) (suc j) h =
    omega (arith, more_nodes es i j (omega arith), length-append e.nodes (all_nodes (take i es)), length-append e.nodes (all_nodes (take j es)))

cap_rises : (a b : ℕ) → a ≤ b → cap a ≤ cap b
cap_rises a b h = omega arith

pub starts_rise : (n : ℕ) (es : List Extent) (i j : ℕ) → i ≤ j → j < length (starts n es) → get_or (starts n es) i 0 ≤ get_or (starts n es) j 0
starts_rise n es i j h lt =
    let len = starts_length n es in
    let a = starts_at n es i (omega arith) in
    let b = starts_at n es j (omega arith) in
    let rise = cap_rises (n + length (all_nodes (take i es))) (n + length (all_nodes (take j es))) (omega (arith, more_nodes es i j h)) in
    omega arith

-- a node behind a list of nodes
get_behind : {A : Type 0} (xs ys : List A) (i : ℕ) → length xs ≤ i → slice_get (xs ++ ys) i ≡ slice_get ys (i - length xs)
get_behind [] ys i h = ap (slice_get ys) (omega arith)
get_behind (x ∷ xs) ys zero h = absurd (omega arith)
get_behind (x ∷ xs) ys (suc i) h = get_behind xs ys i (omega arith) ∙ ap (slice_get ys) (omega arith)

get_before : {A : Type 0} (xs ys : List A) (i : ℕ) → i < length xs → slice_get (xs ++ ys) i ≡ slice_get xs i
get_before [] ys i h = absurd (omega arith)
get_before (x ∷ xs) ys zero h = refl
get_before (x ∷ xs) ys (suc i) h = get_before xs ys i (omega arith)

-- the node of a part among the nodes of all
pub part_node : (es : List Extent) (k : ℕ) (e : Extent) (node : ℕ) → slice_get es k ≡ Some e → length (all_nodes (take k es)) ≤ node → node < length (all_nodes (take (suc k) es)) → (slice_get (all_nodes es) node ≡ slice_get e.nodes (node - length (all_nodes (take k es)))) × (node - length (all_nodes (take k es)) < length e.nodes)
part_node [] k e node at low high = cc
part_node (d ∷ es) zero e node at low high =
    let same : d ≡ e = cc in
    let n : length (all_nodes (take 1 (d ∷ es))) ≡ length d.nodes + 0 = length-append d.nodes [] in
    let lt : node < length d.nodes = omega arith in
    (get_before d.nodes (all_nodes es) node lt ∙ (ap (λ (x : Extent). slice_get x.nodes node) same ∙ ap (slice_get e.nodes) (omega arith)), omega (arith, ap (λ (x : Extent). length x.nodes) same))
part_node (d ∷ es) (suc k) e node at low high =
    let a = length-append d.nodes (all_nodes (take k es)) in
    let b = length-append d.nodes (all_nodes (take (suc k) es)) in
    let rest = part_node es k e (node - length d.nodes) at (omega arith) (omega arith) in
    (get_behind d.nodes (all_nodes es) node (omega arith) ∙ (rest.0 ∙ ap (slice_get e.nodes) (omega arith)), omega (arith, rest.1))

-- a member with a node is a complete type
pub member_node : (look : Look) (t : Ctype) (node : ℕ) → node < length (member_extent look t).nodes → node_of (extent_of look t) node ≡ slice_get (member_extent look t).nodes node
member_node look t node h = go (extent_of look t) (element_extent look t) h
  where
    go : (a b : Option Extent) → node < length (or_flexible a b).nodes → node_of a node ≡ slice_get (or_flexible a b).nodes node
    go (Some e) b g = refl
    go None None g = absurd (omega arith)
    go None (Some e) g = absurd (omega arith)

repeated_node : (n : ℕ) (e : Option Extent) (node : ℕ) → node_of (repeated n e) node ≡ node_of e node
repeated_node n None node = refl
repeated_node n (Some e) node = refl

-- an array has its element's nodes
pub element_node : (look : Look) (t : Ctype) (node : ℕ) (x : Ctype) → node_of (extent_of look t) node ≡ Some x → node_of (extent_of look (element_of t)) node ≡ Some x
element_node look (ArrayOf of None) node x h = cc
element_node look (ArrayOf of (Some n)) node x h = element_node look of node x (sym (repeated_node n (extent_of look of) node) ∙ h)
element_node look VoidType node x h = h
element_node look BoolType node x h = h
element_node look (IntegerType size rank signed) node x h = h
element_node look FloatingType node x h = h
element_node look VaListType node x h = h
element_node look (PointerTo to) node x h = h
element_node look (FunctionFrom r ps f) node x h = h
element_node look (StructureOf tag) node x h = h
element_node look (UnionOf tag) node x h = h

some_same : {A : Type 0} (x y : A) → ◌≡◌ {A = Option A} (Some x) (Some y) → x ≡ y
some_same x y e = cc

members_first : (f : List Extent → Extent) (t : Ctype) → ((es : List Extent) → slice_get (f es).nodes 0 ≡ Some t) → (o : Option (List Extent)) (x : Ctype) → node_of (of_members f o) 0 ≡ Some x → t ≡ x
members_first f t first None x h = cc
members_first f t first (Some es) x h = some_same t x (sym (first es) ∙ h)

-- the first node is the type itself
pub first_node : (look : Look) (t : Ctype) (x : Ctype) → IsPlain t → node_of (extent_of look t) 0 ≡ Some x → t ≡ x
first_node look (ArrayOf of n) x p h = absurd p
first_node look VoidType x p h = cc
first_node look BoolType x p h = some_same BoolType x h
first_node look (IntegerType size rank signed) x p h = some_same (IntegerType size rank signed) x h
first_node look FloatingType x p h = some_same FloatingType x h
first_node look VaListType x p h = some_same VaListType x h
first_node look (PointerTo to) x p h = some_same (PointerTo to) x h
first_node look (FunctionFrom r ps f) x p h = cc
first_node look (StructureOf tag) x p h =
    members_first (structure_of (StructureOf tag)) (StructureOf tag) (λ es. ap (λ (ns : List Ctype). slice_get ns 0) (structure_nodes (StructureOf tag) es)) (look tag) x h
first_node look (UnionOf tag) x p h =
    members_first (union_of (UnionOf tag)) (UnionOf tag) (λ es. ap (λ (ns : List Ctype). slice_get ns 0) (union_nodes (UnionOf tag) es)) (look tag) x h

one_node : (t x : Ctype) (node : ℕ) → 0 < node → slice_get (t ∷ []) node ≡ Some x → ⊥
one_node t x zero h e = absurd (omega arith)
one_node t x (suc node) h e = cc

union_node : (tag : ℕ) (o : Option (List Extent)) (x : Ctype) (node : ℕ) → 0 < node → node_of (of_members (union_of (UnionOf tag)) o) node ≡ Some x → ⊥
union_node tag None x node h e = cc
union_node tag (Some es) x node h e =
    one_node (UnionOf tag) x node h (sym (ap (λ (ns : List Ctype). slice_get ns node) (union_nodes (UnionOf tag) es)) ∙ e)

-- only a structure has further nodes
pub deeper : (look : Look) (trees : List Ctype) (t : Term) (x : Ctype) (node : ℕ) → IsPlain (grow trees t) → 0 < node → node_of (extent_of look (grow trees t)) node ≡ Some x → (tag : ℕ) × (t ≡ Structure tag)
deeper look trees (Structure tag) x node p h e = (tag, refl)
deeper look trees (Array of n) x node p h e = absurd p
deeper look trees Void x node p h e = cc
deeper look trees BoolTerm x node p h e = absurd (one_node BoolType x node h e)
deeper look trees (Integer size rank signed) x node p h e = absurd (one_node (IntegerType size rank signed) x node h e)
deeper look trees Floating x node p h e = absurd (one_node FloatingType x node h e)
deeper look trees VaList x node p h e = absurd (one_node VaListType x node h e)
deeper look trees (Pointer to) x node p h e = absurd (one_node (grow trees (Pointer to)) x node h e)
deeper look trees (Function r ps f) x node p h e = cc
deeper look trees (Union tag) x node p h e = absurd (union_node tag (look tag) x node h e)

pub structure_node : (tag : ℕ) (es : List Extent) (x : Ctype) (node : ℕ) → 0 < node → node_of (Some (structure_of (StructureOf tag) es)) node ≡ Some x → slice_get (all_nodes es) (node - 1) ≡ Some x
structure_node tag es x zero h e = absurd (omega arith)
structure_node tag es x (suc node) h e =
    ap (slice_get (all_nodes es)) (omega arith) ∙ (sym (ap (λ (ns : List Ctype). slice_get ns (suc node)) (structure_nodes (StructureOf tag) es)) ∙ e)

within : {A : Type 0} (xs : List A) (i : ℕ) (x : A) → slice_get xs i ≡ Some x → i < length xs
within [] i x h = cc
within (y ∷ xs) zero x h = omega arith
within (y ∷ xs) (suc i) x h = omega (arith, within xs i x h)

get_map : {A B : Type 0} (f : A → B) (xs : List A) (k : ℕ) (x : A) → slice_get xs k ≡ Some x → slice_get (map f xs) k ≡ Some (f x)
get_map f [] k x h = cc
get_map f (y ∷ xs) zero x h = ap (λ (z : _). Some (f z)) (some_same y x h)
get_map f (y ∷ xs) (suc k) x h = get_map f xs k x h

pub extents_get : (table : Table) (ms : List MemberTerm) (k : ℕ) (m : MemberTerm) → slice_get ms k ≡ Some m → slice_get (extents_in table ms) k ≡ Some (member_extent (look_in table) (type_of table m.ty.0))
extents_get table ms k m h =
    get_map (member_extent (look_in table)) (map (λ (x : MemberTerm). type_of table x.ty.0) ms) k (type_of table m.ty.0) (get_map (λ (x : MemberTerm). type_of table x.ty.0) ms k m h)

take_whole : {A : Type 0} (xs : List A) (k : ℕ) → length xs ≤ k → take k xs ≡ xs
take_whole [] zero h = refl
take_whole [] (suc k) h = refl
take_whole (x ∷ xs) zero h = absurd (omega arith)
take_whole (x ∷ xs) (suc k) h = ap (λ (r : List _). x ∷ r) (take_whole xs k (omega arith))

pub some_nodes : (es : List Extent) (i : ℕ) (x : Ctype) → slice_get (all_nodes es) i ≡ Some x → 0 < length es
some_nodes [] i x h = cc
some_nodes (e ∷ es) i x h = omega arith

compare_to : (a b : ℕ) → (a ≤ b) ⊎ (b < a)
compare_to zero b = inl (omega arith)
compare_to (suc a) zero = inr (omega arith)
compare_to (suc a) (suc b) = elim (compare_to a b) [ inl p ↦ inl (omega arith) | inr p ↦ inr (omega arith) ]

-- The member in which a node lies is the last one that starts at or before it.
module _ (es : List Extent) (node n : ℕ) (x : Ctype) (deep : 0 < node) (small : node < 2 ^ 63) (at : slice_get (all_nodes es) (node - 1) ≡ Some x) (bound : n ≤ length (starts 1 es)) (below : (k : ℕ) → k < n → get_or (starts 1 es) k 0 ≤ node) (above : (k : ℕ) → n ≤ k → k < length (starts 1 es) → node < get_or (starts 1 es) k 0) where
  in_some : node - 1 < length (all_nodes es)
  in_some = within (all_nodes es) (node - 1) x at

  pub some_start : 0 < n
  some_start = go n refl
    where
      first : (ds : List Extent) → node - 1 < length (all_nodes ds) → 0 < length ds
      first [] h = absurd (omega arith)
      first (d ∷ ds) h = omega arith

      go : (k : ℕ) → n ≡ k → 0 < n
      go zero e =
          let some = first es in_some in
          let one = starts_at 1 es 0 some in
          let len = starts_length 1 es in
          let over = above 0 (omega arith) (omega arith) in
          absurd (omega arith)
      go (suc k) e = omega arith

  pub part_in : (k : ℕ) (e : Extent) → k + 1 ≡ n → slice_get es k ≡ Some e → (get_or (starts 1 es) k 0 ≡ 1 + length (all_nodes (take k es))) × (slice_get e.nodes (node - get_or (starts 1 es) k 0) ≡ Some x) × (node - get_or (starts 1 es) k 0 < length e.nodes)
  part_in k e eq there =
      let len = starts_length 1 es in
      let lt = within es k e there in
      let start = starts_at 1 es k lt in
      let low = below k (omega arith) in
      let high : node - 1 < length (all_nodes (take (suc k) es)) = end (suc k) (omega arith) in
      let place : get_or (starts 1 es) k 0 ≡ 1 + length (all_nodes (take k es)) = omega arith in
      let part = part_node es k e (node - 1) there (omega arith) high in
      let same : node - get_or (starts 1 es) k 0 ≡ node - 1 - length (all_nodes (take k es)) = omega arith in
      (place, ap (slice_get e.nodes) same ∙ (sym part.0 ∙ at), omega (arith, part.1))
    where
      end : (j : ℕ) → j ≡ n → node - 1 < length (all_nodes (take j es))
      end j e' = split (compare_to (length es) j)
        where
          split : (length es ≤ j) ⊎ (j < length es) → node - 1 < length (all_nodes (take j es))
          split (inl over) = let whole = take_whole es j over in omega (arith, in_some, ap (λ (ds : List Extent). length (all_nodes ds)) whole)
          split (inr under) =
              let len = starts_length 1 es in
              let start = starts_at 1 es j under in
              let over = above j (omega arith) (omega arith) in
              omega arith

-- a node before the kept number of nodes, and one past it
pub node_there : (o : Option Extent) (b : Bounds) (node : ℕ) → node < 2 ^ 32 → Some b ≡ bounds_or o → node < b.nodes → (x : Ctype) × (node_of o node ≡ Some x)
node_there None b node small h lt = cc
node_there (Some e) b node small h lt =
    let same : b ≡ bounds e = some_same b (bounds e) h in
    let nodes : b.nodes ≡ cap (length e.nodes) = ap (λ (d : Bounds). d.nodes) same in
    go e.nodes node (omega arith)
  where
    go : {A : Type 0} (xs : List A) (i : ℕ) → i < length xs → (x : A) × (slice_get xs i ≡ Some x)
    go [] i h = absurd (omega arith)
    go (x ∷ xs) zero h = (x, refl)
    go (x ∷ xs) (suc i) h = go xs i (omega arith)

past_end : {A : Type 0} (xs : List A) (i : ℕ) → length xs ≤ i → slice_get xs i ≡ None
past_end [] i h = refl
past_end (x ∷ xs) zero h = absurd (omega arith)
past_end (x ∷ xs) (suc i) h = past_end xs i (omega arith)

pub no_node : (o : Option Extent) (b : Bounds) (node : ℕ) → node < 2 ^ 32 → Some b ≡ bounds_or o → b.nodes ≤ node → node_of o node ≡ None
no_node None b node small h lt = refl
no_node (Some e) b node small h lt =
    let same : b ≡ bounds e = some_same b (bounds e) h in
    let nodes : b.nodes ≡ cap (length e.nodes) = ap (λ (d : Bounds). d.nodes) same in
    past_end e.nodes node (omega arith)
