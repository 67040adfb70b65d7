-- A node's tree is its kind, its place and its type over the trees of its children.
use Rattle.std.proofs.Common.{arith, ◌≡◌, ℕ, zero, suc, ◌<◌, ◌≤◌, ◌+◌, List, [], ◌∷◌, ◌++◌, Some, slice_get, length, length-append, get_or, refl, sym, ap, ◌∙◌, All}
use Rattle.std.proofs.lemmas.List.{get_or_append_left}
use Rattle.std.proofs.lemmas.List.Elements.{All-head, All-tail, All-weaker}
use Rattle.c_types.specs.Table.{Table, type_of}
use Rattle.core_tree.specs.declared.node.Node.{Node}
use Rattle.core_tree.specs.declared.node.Unit.{Unit}
use Rattle.core_tree.specs.Typed.{sort_of}
use Rattle.c_senses.specs.passed.c_consts.Core.{Core, Of, NoCores, MoreCores, InOrder, ctype_of, place_of, kind_of, cores_under, core_sort}
use Rattle.core_nodes.specs.Standing.{no_core, cores_among, core_over, cores_grown, cores_of, core_at, cores_at, IsReady}

kept_before : (t : Table) (done : List Core) (nodes : List Node) (i : ℕ) → i < length done → get_or (cores_grown t done nodes) i no_core ≡ get_or done i no_core
kept_before t done [] i h = refl
kept_before t done (n ∷ nodes) i h =
    kept_before t (done ++ core_over t done n ∷ []) nodes i (omega (arith, length-append done (core_over t done n ∷ []))) ∙ get_or_append_left done (core_over t done n ∷ []) no_core i h

among_same : (done all : List Core) (is : List ℕ) → ((i : ℕ) → i < length done → get_or all i no_core ≡ get_or done i no_core) → All (λ c. c < length done) is → cores_among done is ≡ cores_among all is
among_same done all [] same h = refl
among_same done all (i ∷ is) same h =
    let first = same i (All-head (λ c. c < length done) i is h) in
    let rest = among_same done all is same (All-tail (λ c. c < length done) i is h) in
    cc

get_or_here : {X : Type 0} (xs ys : List X) (y d : X) → get_or (xs ++ y ∷ ys) (length xs) d ≡ y
get_or_here [] ys y d = refl
get_or_here (x ∷ xs) ys y d = get_or_here xs ys y d

-- the tree of the node that stands k places on
module _ (t : Table) where
  over_done : (done : List Core) (nodes : List Node) (k : ℕ) (n : Node) → slice_get nodes k ≡ Some n → All (λ c. c < length done + k) n.children → get_or (cores_grown t done nodes) (length done + k) no_core ≡ core_over t (cores_grown t done nodes) n
  over_done done [] k n h below = cc
  over_done done (m ∷ nodes) zero n h below =
      let e : m ≡ n = cc in
      let long : length (done ++ core_over t done m ∷ []) ≡ length done + 1 = length-append done (core_over t done m ∷ []) in
      let all = cores_grown t (done ++ core_over t done m ∷ []) nodes in
      let here : get_or all (length done + 0) no_core ≡ core_over t done m =
      ap (λ (k : ℕ). get_or all k no_core) (omega arith) ∙ (kept_before t (done ++ core_over t done m ∷ []) nodes (length done) (omega arith) ∙ get_or_here done [] (core_over t done m) no_core) in
      let same : (i : ℕ) → i < length done → get_or all i no_core ≡ get_or done i no_core =
      λ i lt. kept_before t (done ++ core_over t done m ∷ []) nodes i (omega arith) ∙ get_or_append_left done (core_over t done m ∷ []) no_core i lt in
      let among : cores_among done n.children ≡ cores_among all n.children = among_same done all n.children same (All-weaker (λ c. c < length done + 0) (λ c. c < length done) (λ c lt. omega arith) n.children below) in
      here ∙ (ap (core_over t done) e ∙ ap (Of n.kind n.place (type_of t n.ty.0)) among)
  over_done done (m ∷ nodes) (suc k) n h below =
      let long : length (done ++ core_over t done m ∷ []) ≡ length done + 1 = length-append done (core_over t done m ∷ []) in
      let all = cores_grown t (done ++ core_over t done m ∷ []) nodes in
      let e : length done + suc k ≡ length (done ++ core_over t done m ∷ []) + k = omega arith in
      ap (λ (j : ℕ). get_or all j no_core) e
      ∙ over_done (done ++ core_over t done m ∷ []) nodes k n h (All-weaker (λ c. c < length done + suc k) (λ c. c < length (done ++ core_over t done m ∷ []) + k) (λ c lt. omega arith) n.children below)

among_is : (u : Unit) (is : List ℕ) → cores_among (cores_of u) is ≡ cores_at u is
unfolding core_at
among_is u [] = refl
among_is u (i ∷ is) = ap (MoreCores (get_or (cores_of u) i no_core)) (among_is u is)

whole : (u : Unit) → cores_of u ≡ cores_grown u.types [] u.nodes.items
unfolding cores_of
whole u = refl

pub core_is : (u : Unit) → IsReady u → (i : ℕ) (n : Node) → slice_get u.nodes.items i ≡ Some n → core_at u i ≡ Of n.kind n.place (type_of u.types n.ty.0) (cores_at u n.children)
unfolding core_at
core_is u ready i n at =
    let e = over_done u.types [] u.nodes.items i n at (All-weaker (λ c. c < i) (λ c. c < length {A = Core} [] + i) (λ c lt. omega arith) n.children (ready.children i n at)) in
    let first : get_or (cores_of u) i no_core ≡ get_or (cores_grown u.types [] u.nodes.items) (length {A = Core} [] + i) no_core =
    ap (λ (cs : List Core). get_or cs i no_core) (whole u) ∙ ap (λ (k : ℕ). get_or (cores_grown u.types [] u.nodes.items) k no_core) (omega arith) in
    first ∙ (e ∙ (ap (λ (cs : List Core). core_over u.types cs n) (sym (whole u)) ∙ ap (Of n.kind n.place (type_of u.types n.ty.0)) (among_is u n.children)))

pub type_is : (u : Unit) → IsReady u → (i : ℕ) (n : Node) → slice_get u.nodes.items i ≡ Some n → type_of u.types n.ty.0 ≡ ctype_of (core_at u i)
type_is u ready i n at = sym (ap ctype_of (core_is u ready i n at))

pub place_is : (u : Unit) → IsReady u → (i : ℕ) (n : Node) → slice_get u.nodes.items i ≡ Some n → n.place ≡ place_of (core_at u i)
place_is u ready i n at = sym (ap place_of (core_is u ready i n at))

pub sort_is : (u : Unit) → IsReady u → (i : ℕ) (n : Node) → slice_get u.nodes.items i ≡ Some n → sort_of n.kind ≡ core_sort (core_at u i)
sort_is u ready i n at = sym (ap core_sort (core_is u ready i n at))

pub kind_is : (u : Unit) → IsReady u → (i : ℕ) (n : Node) → slice_get u.nodes.items i ≡ Some n → n.kind ≡ kind_of (core_at u i)
kind_is u ready i n at = sym (ap kind_of (core_is u ready i n at))

pub under_is : (u : Unit) → IsReady u → (i : ℕ) (n : Node) → slice_get u.nodes.items i ≡ Some n → cores_under (core_at u i) ≡ cores_at u n.children
under_is u ready i n at = ap cores_under (core_is u ready i n at)

pub under_one : (u : Unit) (is : List ℕ) → 0 < length is → length is < 2 → cores_at u is ≡ MoreCores (core_at u (get_or is 0 0)) NoCores
under_one u [] h g = absurd (omega arith)
under_one u (i ∷ []) h g = refl
under_one u (i ∷ j ∷ is) h g = absurd (omega arith)

pub under_none : (u : Unit) (is : List ℕ) → length is < 1 → (c : Core) → cores_at u is ≡ MoreCores c NoCores → ⊥
under_none u [] h c e = cc
under_none u (i ∷ is) h c e = absurd (omega arith)

pub under_more : (u : Unit) (is : List ℕ) → 2 ≤ length is → (c : Core) → cores_at u is ≡ MoreCores c NoCores → ⊥
under_more u [] h c e = absurd (omega arith)
under_more u (i ∷ []) h c e = absurd (omega arith)
under_more u (i ∷ j ∷ is) h c e = cc

pub first_below : (n : ℕ) (is : List ℕ) → 0 < length is → All (λ c. c < n) is → get_or is 0 0 < n
first_below n [] h all = absurd (omega arith)
first_below n (i ∷ is) h all = All-head (λ c. c < n) i is all

-- the same of a list of nodes
pub tree_is : (t : Table) (nodes : List Node) → InOrder t nodes → (i : ℕ) (n : Node) → slice_get nodes i ≡ Some n → get_or (cores_grown t [] nodes) i no_core ≡ Of n.kind n.place (type_of t n.ty.0) (cores_among (cores_grown t [] nodes) n.children)
tree_is t nodes order i n at =
    ap (λ (k : ℕ). get_or (cores_grown t [] nodes) k no_core) (omega arith)
    ∙ over_done t [] nodes i n at (All-weaker (λ c. c < i) (λ c. c < length {A = Core} [] + i) (λ c lt. omega arith) n.children (order.children i n at))

grown_append : (t : Table) (done : List Core) (a b : List Node) → cores_grown t done (a ++ b) ≡ cores_grown t (cores_grown t done a) b
grown_append t done [] b = refl
grown_append t done (n ∷ a) b = grown_append t (done ++ core_over t done n ∷ []) a b

grown_length : (t : Table) (done : List Core) (a : List Node) → length (cores_grown t done a) ≡ length done + length a
grown_length t done [] = omega arith
grown_length t done (n ∷ a) = omega (arith, grown_length t (done ++ core_over t done n ∷ []) a, length-append done (core_over t done n ∷ []))

-- nodes that stand behind others change nothing of these
pub before_same : (u : Unit) (more : List Node) (i : ℕ) → i < length u.nodes.items → core_at u i ≡ get_or (cores_grown u.types [] (u.nodes.items ++ more)) i no_core
unfolding core_at
before_same u more i lt =
    let long : length (cores_grown u.types [] u.nodes.items) ≡ length u.nodes.items = omega (arith, grown_length u.types [] u.nodes.items) in
    ap (λ (cs : List Core). get_or cs i no_core) (whole u)
    ∙ sym (ap (λ (cs : List Core). get_or cs i no_core) (grown_append u.types [] u.nodes.items more) ∙ kept_before u.types (cores_grown u.types [] u.nodes.items) more i (omega (arith, long)))
