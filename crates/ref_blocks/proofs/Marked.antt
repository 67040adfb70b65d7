-- Where jumps go is among the nodes that are found from the one that is asked.
use Rattle.std.proofs.Common.{arith, ◌≡◌, ℕ, ℤ, zero, suc, ◌+◌, ◌<◌, ◌≤◌, ◌==◌, ◌&&◌, Bool, true, false, cond, eqb, eq-eqb, List, [], ◌∷◌, ◌++◌, set, length, take, map, find, inl, inr, Option, Some, None, slice_get, get_or, refl, ap, sym, subst, ◌∙◌, zero-add}
use Rattle.std.specs.Prelude.{if◌then◌else◌}
use Rattle.std.specs.List.{enumerate_from, filter_map, cons_option, range_with_len}
use Rattle.std.specs.Ordering.{int_eq}
use Rattle.std.specs.Str.{bytes_eq}
use Rattle.std.proofs.lemmas.Bool.{ne_eqb, cases_lt}
use Rattle.std.proofs.lemmas.List.{take_more, take_all, append-nil}
use Rattle.std.proofs.lemmas.List.Elements.{filter_map-append}
use Rattle.std.proofs.lemmas.List.FromFn.{length-enumerate_from, get_or-enumerate_from}
use Rattle.core_tree.specs.declared.node.Node.{Node}
use Rattle.core_tree.specs.declared.node.NodeKind.{NodeKind}
use Rattle.core_tree.specs.declared.node.NodeKind.TheVariants.{Case, Default, Label}
use Rattle.ref_blocks.specs.declared.ways.Link.{Link}
use Rattle.ref_blocks.specs.Ways.{parent_of, above_in, above, top_of, root_of, kind_in, kind_at, nearest, is_switch}
use Rattle.ref_blocks.specs.Jumps.{is_case, is_label_named, is_some_number, switch_of, number_of, case_of, label_target}
use Rattle.ref_blocks.specs.Marks.{found_from, mark_for, marks_to, marks_of, is_case_at, is_label_at}
use Rattle.ref_blocks.proofs.Above.{parent_after}
use Rattle.ref_blocks.proofs.Objects.{set_list, same_lists_of, read_there, read_past}

-- One node more is looked at.

more_marks : (nodes : List Node) (n m : ℕ) (node : Node) → n < length nodes → node ≡ get_or nodes n node
    → marks_to nodes (n + 1) m ≡ marks_to nodes n m ++ cons_option (mark_for nodes m (n, node)) []
more_marks nodes n m node l e =
    let all = enumerate_from 0 nodes in
    let k : n < length all = omega (arith, length-enumerate_from 0 nodes) in
    let at : get_or all n (n, node) ≡ (n, node) = get_or-enumerate_from 0 nodes n (n, node) l ∙ ap (λ (k : ℕ). (k, get_or nodes n node)) (zero-add n) ∙ ap (λ (x : Node). (n, x)) (sym e) in
    ap (filter_map (mark_for nodes m)) (take_more all n (n, node) k)
    ∙ (filter_map-append (mark_for nodes m) (take n all) (get_or all n (n, node) ∷ [])
    ∙ ap (λ (x : ℕ × Node). marks_to nodes n m ++ cons_option (mark_for nodes m x) []) at)

pub mark_put : (nodes : List Node) (n m : ℕ) (node : Node) (lists : List (List ℕ)) → n < length nodes → node ≡ get_or nodes n node
    → found_from nodes n node.kind ≡ Some m
    → lists ≡ map (marks_to nodes n) (range_with_len 0 (length nodes))
    → set lists m (get_or lists m [] ++ n ∷ []) ≡ map (marks_to nodes (n + 1)) (range_with_len 0 (length nodes))
mark_put nodes n m node lists l e found q =
    set_list (marks_to nodes n) (marks_to nodes (n + 1)) (length nodes) m lists (λ list. list ++ n ∷ []) q
    (λ b other. more_marks nodes n b node l e
    ∙ (ap (λ (o : Option ℕ). marks_to nodes n b ++ cons_option (if is_some_number b o then Some n else None) []) found
    ∙ (ap (λ (t : Bool). marks_to nodes n b ++ cons_option (if t then Some n else None) []) (ne_eqb m b (λ r. other (sym r)))
    ∙ append-nil (marks_to nodes n b))))
    (more_marks nodes n m node l e
    ∙ (ap (λ (o : Option ℕ). marks_to nodes n m ++ cons_option (if is_some_number m o then Some n else None) []) found
    ∙ ap (λ (t : Bool). marks_to nodes n m ++ cons_option (if t then Some n else None) []) (eq-eqb m m refl)))

pub none_put : (nodes : List Node) (n : ℕ) (node : Node) (lists : List (List ℕ)) → n < length nodes → node ≡ get_or nodes n node
    → found_from nodes n node.kind ≡ None
    → lists ≡ map (marks_to nodes n) (range_with_len 0 (length nodes))
    → lists ≡ map (marks_to nodes (n + 1)) (range_with_len 0 (length nodes))
none_put nodes n node lists l e found q =
    q ∙ same_lists_of (marks_to nodes n) (marks_to nodes (n + 1)) (length nodes)
    (λ b. more_marks nodes n b node l e
    ∙ (ap (λ (o : Option ℕ). marks_to nodes n b ++ cons_option (if is_some_number b o then Some n else None) []) found
    ∙ append-nil (marks_to nodes n b)))

-- All nodes are looked at.

pub all_marks : (nodes : List Node) (k : ℕ) (lists : List (List ℕ)) → length nodes ≤ k → lists ≡ map (marks_to nodes k) (range_with_len 0 (length nodes))
    → lists ≡ map (marks_of nodes) (range_with_len 0 (length nodes))
unfolding marks_of
all_marks nodes k lists l q =
    q ∙ same_lists_of (marks_to nodes k) (marks_of nodes) (length nodes)
    (λ m. ap (filter_map (mark_for nodes m)) (sym (take_all k (enumerate_from 0 nodes) (omega (arith, length-enumerate_from 0 nodes)))))

-- A node from which one is found is there.

top_by : (nodes : List Node) (fuel n : ℕ) → n < length nodes → ((p : ℕ) → p < length nodes → top_of p (above_in nodes fuel p) < length nodes)
    → (o : Option ℕ) → parent_of nodes n ≡ o → top_of n (elim o [ None ↦ [] | Some p ↦ record { node = p; child = n } ∷ above_in nodes fuel p ]) < length nodes
top_by nodes fuel n less more None e = less
top_by nodes fuel n less more (Some p) e = more p (parent_after nodes n p e).1

top_within : (nodes : List Node) (fuel n : ℕ) → n < length nodes → top_of n (above_in nodes fuel n) < length nodes
top_within nodes zero n less = less
top_within nodes (suc fuel) n less = top_by nodes fuel n less (λ p small. top_within nodes fuel p small) (parent_of nodes n) refl

module _ (nodes : List Node) (is : NodeKind → Bool) (fuel s : ℕ) (more : (p : ℕ) → nearest nodes is (above_in nodes fuel p) ≡ Some s → s < length nodes) where
  nearest_here : (b : Bool) (p : ℕ) → p < length nodes → cond b (Some p) (nearest nodes is (above_in nodes fuel p)) ≡ Some s → s < length nodes
  nearest_here true p less h = let e : p ≡ s = cc in subst (λ (k : ℕ). k < length nodes) e less
  nearest_here false p less h = more p h

  nearest_by : (n : ℕ) (o : Option ℕ) → parent_of nodes n ≡ o
      → nearest nodes is (elim o [ None ↦ [] | Some p ↦ record { node = p; child = n } ∷ above_in nodes fuel p ]) ≡ Some s → s < length nodes
  nearest_by n None e h = cc
  nearest_by n (Some p) e h = nearest_here (is (kind_at nodes p)) p (parent_after nodes n p e).1 h

nearest_within : (nodes : List Node) (is : NodeKind → Bool) (fuel n s : ℕ) → nearest nodes is (above_in nodes fuel n) ≡ Some s → s < length nodes
nearest_within nodes is zero n s h = cc
nearest_within nodes is (suc fuel) n s h = nearest_by nodes is fuel s (λ p e. nearest_within nodes is fuel p s e) n (parent_of nodes n) refl h

found_within : (nodes : List Node) (n : ℕ) (kind : NodeKind) (m : ℕ) → n < length nodes → found_from nodes n kind ≡ Some m → m < length nodes
unfolding above
found_within nodes n (Case x) m less h = nearest_within nodes is_switch (length nodes) n m h
found_within nodes n Default m less h = nearest_within nodes is_switch (length nodes) n m h
found_within nodes n (Label name) m less h =
    let e : root_of nodes n ≡ m = cc in subst (λ (k : ℕ). k < length nodes) e (top_within nodes (length nodes) n less)
found_within nodes n kind m less h = cc

no_mark : (nodes : List Node) (m n : ℕ) (o : Option ℕ) → length nodes ≤ m → ((k : ℕ) → o ≡ Some k → k < length nodes) → ◌≡◌ {A = Option ℕ} (if is_some_number m o then Some n else None) None
no_mark nodes m n None l within = refl
no_mark nodes m n (Some k) l within =
    let less = within k refl in
    ap (λ (b : Bool). if b then Some n else None) (ne_eqb k m (λ e. absurd (omega arith)))

none_marked : (nodes : List Node) (m : ℕ) → length nodes ≤ m → (k : ℕ) (xs : List Node) → k + length xs ≤ length nodes → filter_map (mark_for nodes m) (enumerate_from k xs) ≡ []
none_marked nodes m l k [] le = refl
none_marked nodes m l k (x ∷ xs) le =
    ap (λ (o : Option ℕ). cons_option o (filter_map (mark_for nodes m) (enumerate_from (k + 1) xs)))
    (no_mark nodes m k (found_from nodes k x.kind) l (λ j e. found_within nodes k x.kind j (omega arith) e))
    ∙ none_marked nodes m l (k + 1) xs (omega arith)

-- the lists are read
pub read_marks : (nodes : List Node) (m : ℕ) (lists : List (List ℕ)) → lists ≡ map (marks_of nodes) (range_with_len 0 (length nodes)) → get_or lists m [] ≡ marks_of nodes m
unfolding marks_of
read_marks nodes m lists e = elim (cases_lt m (length nodes)) [
  | inl l ↦ read_there (marks_of nodes) (length nodes) m lists e l
  | inr l ↦ read_past (marks_of nodes) (length nodes) m lists e l ∙ sym (none_marked nodes m l 0 nodes (omega arith))
]

-- What passes a test is found among these, where all that passes is found from that node.

marked_one : (test : ℕ → Bool) (k : ℕ) (t o : Bool) (list : List ℕ) (found : Option (ℕ × Node)) (x : Node)
    → test k ≡ t → (t ≡ true → o ≡ true) → find test list ≡ number_of found
    → find test (cons_option (if o then Some k else None) list) ≡ number_of (cond t (Some (k, x)) found)
marked_one test k true true list found x p h e = ap (λ (b : Bool). cond b (Some k) (find test list)) p
marked_one test k true false list found x p h e = let no : ◌≡◌ {A = Bool} false true = h refl in cc
marked_one test k false true list found x p h e = ap (λ (b : Bool). cond b (Some k) (find test list)) p ∙ e
marked_one test k false false list found x p h e = e

marked_in : (nodes : List Node) (m : ℕ) (test : ℕ → Bool) (whole : ℕ × Node → Bool)
    → ((n : ℕ) (node : Node) → slice_get nodes n ≡ Some node → test n ≡ whole (n, node))
    → ((n : ℕ) (node : Node) → whole (n, node) ≡ true → is_some_number m (found_from nodes n node.kind) ≡ true)
    → (k : ℕ) (xs : List Node) → ((j : ℕ) (x : Node) → slice_get xs j ≡ Some x → slice_get nodes (k + j) ≡ Some x)
    → find test (filter_map (mark_for nodes m) (enumerate_from k xs)) ≡ number_of (find whole (enumerate_from k xs))
marked_in nodes m test whole same among k [] at = refl
marked_in nodes m test whole same among k (x ∷ xs) at =
    let here : slice_get nodes k ≡ Some x = subst (λ (i : ℕ). slice_get nodes i ≡ Some x) (omega arith) (at 0 x refl) in
    marked_one test k (whole (k, x)) (is_some_number m (found_from nodes k x.kind)) (filter_map (mark_for nodes m) (enumerate_from (k + 1) xs)) (find whole (enumerate_from (k + 1) xs)) x
    (same k x here) (among k x)
    (marked_in nodes m test whole same among (k + 1) xs
    (λ j y e. let place : k + suc j ≡ k + 1 + j = omega arith in subst (λ (i : ℕ). slice_get nodes i ≡ Some y) place (at (suc j) y e)))

from_zero : (nodes : List Node) (j : ℕ) (x : Node) → slice_get nodes j ≡ Some x → slice_get nodes (0 + j) ≡ Some x
from_zero nodes j x e = subst (λ (i : ℕ). slice_get nodes i ≡ Some x) (sym (zero-add j)) e

and_second : (a b : Bool) → (a && b) ≡ true → b ≡ true
and_second true b h = h
and_second false b h = cc

-- a case is found from its switch
case_among : (nodes : List Node) (s : ℕ) (x : Option ℤ) (n : ℕ) (kind : NodeKind) → (is_case x kind && is_some_number s (switch_of nodes n)) ≡ true → is_some_number s (found_from nodes n kind) ≡ true
case_among nodes s (Some x) n (Case y) h = and_second (int_eq y x) (is_some_number s (switch_of nodes n)) h
case_among nodes s None n Default h = h
case_among nodes s x n kind h = cc

pub case_found : (nodes : List Node) (s : ℕ) (x : Option ℤ) → find (is_case_at nodes s x) (marks_of nodes s) ≡ case_of nodes s x
unfolding marks_of
case_found nodes s x =
    marked_in nodes s (is_case_at nodes s x) (λ entry. is_case x entry.1.kind && is_some_number s (switch_of nodes entry.0))
    (λ n node at. ap (λ (o : Option Node). is_case x (kind_in o) && is_some_number s (switch_of nodes n)) at)
    (λ n node h. case_among nodes s x n node.kind h)
    0 nodes (from_zero nodes)

-- a label is found from the topmost node of its body
label_among : (nodes : List Node) (root : ℕ) (name : List ℕ) (t : ℕ) (kind : NodeKind) → (is_label_named name kind && (root_of nodes t == root)) ≡ true → is_some_number root (found_from nodes t kind) ≡ true
label_among nodes root name t (Label other) h = and_second (bytes_eq other name) (root_of nodes t == root) h
label_among nodes root name t kind h = cc

pub label_found : (nodes : List Node) (n : ℕ) (name : List ℕ) → find (is_label_at nodes (root_of nodes n) name) (marks_of nodes (root_of nodes n)) ≡ label_target nodes n name
unfolding marks_of label_target
label_found nodes n name =
    marked_in nodes (root_of nodes n) (is_label_at nodes (root_of nodes n) name) (λ entry. is_label_named name entry.1.kind && (root_of nodes entry.0 == root_of nodes n))
    (λ t node at. ap (λ (o : Option Node). is_label_named name (kind_in o) && (root_of nodes t == root_of nodes n)) at)
    (λ t node h. label_among nodes (root_of nodes n) name t node.kind h)
    0 nodes (from_zero nodes)
