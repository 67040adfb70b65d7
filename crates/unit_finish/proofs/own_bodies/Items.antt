-- The lists of bodies and of nodes that initialise, item by item.
use Rattle.std.proofs.Common.{arith, ◌≡◌, ◌∙◌, ℕ, suc, ◌+◌, ◌<◌, Bool, true, false, List, [], ◌∷◌, ◌++◌, length, drop, get_or, Option, Some, None, sym, ap, All}
use Rattle.std.specs.Prelude.{if◌then◌else◌}
use Rattle.std.proofs.lemmas.List.Elements.{All-cons}
use Rattle.std.proofs.lemmas.Option.{slice_get-get_or, get_or_from_slice_get}
use Rattle.std.proofs.Math.Seq.{drop-cons}
use Rattle.core_tree.specs.declared.node.Node.{Node}
use Rattle.unit_finish.specs.declared.unit_parts.declared.Declared.{Declared}
use Rattle.unit_finish.specs.unit_parts.Entities.{with_body, bodies_of}
use Rattle.unit_finish.specs.own_bodies.Own.{is_automatic, lasting_bodies, initialised_at, initialises_from}

-- one node more
pub initialises_more : (marks : List Bool) (nodes : List Node) (i : ℕ) (m : Bool) (n : Node) → i < length nodes → length marks ≡ length nodes → m ≡ get_or marks i m → n ≡ get_or nodes i n
    → initialises_from i (drop i marks) (drop i nodes) ≡ initialised_at i m n.kind ++ initialises_from (i + 1) (drop (i + 1) marks) (drop (i + 1) nodes)
initialises_more marks nodes i m n lt long em en =
    let next : suc i ≡ i + 1 = omega arith in
    let marks_are : drop i marks ≡ m ∷ drop (i + 1) marks = drop-cons marks i m (omega (arith, lt, long)) ∙ (ap (λ y. y ∷ drop (suc i) marks) (sym em) ∙ ap (λ k. m ∷ drop k marks) next) in
    let nodes_are : drop i nodes ≡ n ∷ drop (i + 1) nodes = drop-cons nodes i n lt ∙ (ap (λ y. y ∷ drop (suc i) nodes) (sym en) ∙ ap (λ k. n ∷ drop k nodes) next) in
    ap (λ (l : List Bool). initialises_from i l (drop i nodes)) marks_are
    ∙ (ap (λ (l : List Node). initialises_from i (m ∷ drop (i + 1) marks) l) nodes_are ∙ ap (λ k. initialised_at i m n.kind ++ initialises_from k (drop (i + 1) marks) (drop (i + 1) nodes)) next)

-- a mark by any default
pub same_mark : (marks : List Bool) (i : ℕ) → i < length marks → get_or marks i false ≡ get_or marks i (get_or marks i false)
same_mark marks i lt = let there = slice_get-get_or marks i false lt in sym (get_or_from_slice_get marks i (get_or marks i false) (get_or marks i false) there)

head_of : (P : ℕ → Type 0) (b : ℕ) (bs : List ℕ) → All P (b ∷ bs) → P b
head_of P b bs all = all 0 b (omega arith)

tail_of : (P : ℕ → Type 0) (b : ℕ) (bs : List ℕ) → All P (b ∷ bs) → All P bs
tail_of P b bs all k d lt = all (suc k) d (omega (arith, lt))

-- what holds of all bodies holds of those that last
pub lasting_all : (P : ℕ → Type 0) (list : List Declared) → All P (bodies_of list) → All P (lasting_bodies list)
lasting_all P [] all = all
lasting_all P (x ∷ list) all = by (is_automatic x.storage) x.body (lasting_all P list) all
  where
    by : (a : Bool) (o : Option ℕ) → (All P (bodies_of list) → All P (lasting_bodies list)) → All P (with_body o (bodies_of list)) → All P (if a then lasting_bodies list else with_body o (lasting_bodies list))
    by true None rest h = rest h
    by true (Some b) rest h = rest (tail_of P b (bodies_of list) h)
    by false None rest h = rest h
    by false (Some b) rest h = All-cons P b (lasting_bodies list) (head_of P b (bodies_of list) h) (rest (tail_of P b (bodies_of list) h))
