-- What the reading of a production brings.
use Rattle.std.proofs.Common.{arith, ◌≡◌, ◌≤◌, ◌+◌, ℕ, zero, suc, nat_eq, not, Bool, true, false, ◌&&◌, ◌||◌, cond, Result, Ok, List, [], ◌∷◌, ◌++◌, drop, Some, None, length, slice_get, refl, sym, ap, ◌∙◌, subst, append-nil, ◌⊎◌, inl, inr}
use Rattle.std.proofs.lemmas.Bool.{eqb-true}
use Rattle.std.specs.Prelude.{nat_le, if◌then◌else◌}
use Rattle.c_lexer.specs.declared.Token.{Token}
use Rattle.c_grammar.specs.declared.rows.Item.{Item}
use Rattle.c_grammar.specs.declared.rows.Item.TheVariants as item
use Rattle.c_grammar.specs.Table.{row, item_of}
use Rattle.c_grammar.specs.Notes.{Noted}
use Rattle.c_grammar.specs.First.{can_be_empty}
use Rattle.c_grammar.specs.Fits.{fits, chosen}
use Rattle.c_grammar.specs.Terminals.{contains}
use Rattle.c_grammar.specs.Tree.{makes_node}
use Rattle.c_grammar.specs.Reads.{State, Fault, Node, leaf, first as first_sign, second as second_sign, taken, scoped, opened, closed, Walks, Opens, at_end, token, no_token, use_of, no_use, choice, no_choice, no_alternative, again, no_again, scope, enough, deep, refused, whole, broken}
use Rattle.parsed_tree_laws.proofs.span_laws.Table.{is_post, all_weights, ok, test, bringing, brings, free, none_post, beginning, opens, begins, left, right, both, row_tests, row_free, row_begins, rest_rows, is_rest_node, rest_part, in_rest, all_rest, list_rows, is_list, few, few_in, repeats_none, lists_in, row_few, few_row, few_node, row_rest, rest_both, lists_both, ok_both, none_both, test_more}
use Rattle.parsed_tree_laws.proofs.span_laws.Steps.{Starts, AllFacts, SpansIn, one_more, no_more, RunsIn, Are, Keeps, keeps_same, keeps_then, keeps_node}

-- the items of a row from one on
drop_some : (l : List Item) (at : ℕ) (i : Item) → slice_get l at ≡ Some i → drop at l ≡ i ∷ drop (at + 1) l
drop_some [] at i e = cc
drop_some (x ∷ l) zero i e = let same : x ≡ i = cc in ap (λ (y : Item). y ∷ l) same
drop_some (x ∷ l) (suc at) i e = let one : suc at + 1 ≡ suc (at + 1) = omega arith in drop_some l at i e ∙ ap (λ (k : ℕ). i ∷ drop k (x ∷ l)) (sym one)

drop_none : (l : List Item) (at : ℕ) → slice_get l at ≡ None → drop at l ≡ []
drop_none [] zero e = refl
drop_none [] (suc at) e = refl
drop_none (x ∷ l) zero e = cc
drop_none (x ∷ l) (suc at) e = drop_none l at e

next_item : (p at : ℕ) (i : Item) → item_of p at ≡ Some i → drop at (row p) ≡ i ∷ drop (at + 1) (row p)
unfolding item_of
next_item p at i e = drop_some (row p) at i e

no_item : (p at : ℕ) → item_of p at ≡ None → drop at (row p) ≡ []
unfolding item_of
no_item p at e = drop_none (row p) at e

-- what the rest of a row brings
record Brings (items : List Item) (ps : List ℕ) : Type 0 where
  posts : (z : ℕ) → test z items ≡ true → ok z ps ≡ true
  none_in : free items ≡ true → none_post ps ≡ true
  starts : begins items ≡ true → Starts ps
  rests : in_rest items ≡ true → all_rest ps ≡ true
  lists : repeats_none items ≡ true → lists_in ps ≤ few_in items

-- and a production
record BringsOne (q : ℕ) (ps : List ℕ) : Type 0 where
  posts : (z : ℕ) → (not (is_post q) || nat_le 2 z) ≡ true → ok z ps ≡ true
  none_in : brings q ≡ false → none_post ps ≡ true
  starts : opens q ≡ true → Starts ps
  rests : rest_part q ≡ true → all_rest ps ≡ true
  lists : lists_in ps ≤ few q
  weighs : makes_node q ≡ true → 2 ≤ all_weights ps
  single : makes_node q ≡ true → ps ≡ q ∷ []

abbrev Walked : ℕ → ℕ → State → State → Type 0
Walked p at s t = (ps : List ℕ) × Keeps s.nodes t.nodes s.children t.children ps × Brings (drop at (row p)) ps

abbrev Opened : ℕ → State → State → Type 0
Opened q s t = (ps : List ℕ) × Keeps s.nodes t.nodes s.children t.children ps × BringsOne q ps

or_right : (a b : Bool) → b ≡ true → (a || b) ≡ true
or_right true b h = refl
or_right false b h = h

leaf_no : makes_node leaf ≡ true → ⊥
unfolding makes_node
leaf_no h = cc

not_true : (b : Bool) → not b ≡ true → b ≡ false
not_true true e = cc
not_true false e = refl

nothing : Brings [] []
nothing = record { posts = λ z h. refl; none_in = λ h. refl; starts = λ h. absurd (cc); rests = λ h. refl; lists = λ h. omega arith }

of_token : (k : _) (rest : List Item) (ps : List ℕ) → Brings rest ps → Brings (item.Token k ∷ rest) (leaf ∷ ps)
of_token k rest ps b = record { posts = λ z h. b.posts (z + 1) h; none_in = λ h. b.none_in h; starts = λ h. (ps, refl); rests = λ h. b.rests h; lists = λ h. let x = b.lists h in omega (arith, x) }

starts_more : (ps qs : List ℕ) → Starts ps → Starts (ps ++ qs)
starts_more ps qs h = (h.0 ++ qs, ap (λ (l : List ℕ). l ++ qs) h.1)

one_ok : (q : ℕ) (z : ℕ) → not (is_post q) ≡ true → (not (is_post q) || nat_le 2 z) ≡ true
one_ok q z h = ap (λ (b : Bool). b || nat_le 2 z) h

of_use : (q : ℕ) (rest : List Item) (ps qs : List ℕ) → BringsOne q ps → Brings rest qs → Brings (item.Use q ∷ rest) (ps ++ qs)
of_use q rest ps qs a b = record {
  posts = λ z h.
      ok_both z ps qs (a.posts z (one_ok q z (left (not (is_post q)) _ h))) (b.posts (z + all_weights ps) (by (makes_node q) refl z (right (not (is_post q)) (test (if makes_node q then z + 2 else z) rest) h)));
  none_in = λ h. none_both ps qs (a.none_in (not_true (brings q) (left (not (brings q)) (free rest) h))) (b.none_in (right (not (brings q)) (free rest) h));
  starts = λ h. starts_more ps qs (a.starts h);
  rests = λ h. rest_both ps qs (a.rests (left (rest_part q) (in_rest rest) h)) (b.rests (right (rest_part q) (in_rest rest) h));
  lists = λ h. let x = a.lists in let y = b.lists h in let z = lists_both ps qs in omega (arith, x, y, z);
}
  where
    by : (m : Bool) → makes_node q ≡ m → (z : ℕ) → test (if m then z + 2 else z) rest ≡ true → test (z + all_weights ps) rest ≡ true
    by true e z h = let two = a.weighs e in test_more (z + 2) (z + all_weights ps) rest (omega (arith, two)) h
    by false e z h = test_more z (z + all_weights ps) rest (omega arith) h

le_none : (k : ℕ) → nat_le k 0 ≡ true → k ≤ 0
le_none k h = grind (arith, h)

of_repeat : (q : ℕ) (rest : List Item) (ps qs : List ℕ) → BringsOne q ps → Brings (item.Repeat q ∷ rest) qs → Brings (item.Repeat q ∷ rest) (ps ++ qs)
of_repeat q rest ps qs a b = record {
  posts = λ z h. ok_both z ps qs (a.posts z (left (not (is_post q) || nat_le 2 z) (test z rest) h)) (b.posts (z + all_weights ps) (test_more z (z + all_weights ps) (item.Repeat q ∷ rest) (omega arith) h));
  none_in = λ h. none_both ps qs (a.none_in (not_true (brings q) (left (not (brings q)) (free rest) h))) (b.none_in h);
  starts = λ h. absurd (cc);
  rests = λ h. rest_both ps qs (a.rests (left (rest_part q) (in_rest rest) h)) (b.rests h);
  lists = λ h. let x = a.lists in let y = b.lists h in let z = lists_both ps qs in let none = le_none (few q) (left (nat_le (few q) 0) (repeats_none rest) h) in omega (arith, x, y, z, none);
}

of_enough : (q : ℕ) (rest : List Item) (ps : List ℕ) → Brings rest ps → Brings (item.Repeat q ∷ rest) ps
of_enough q rest ps b = record { posts = λ z h. b.posts z (right (not (is_post q) || nat_le 2 z) (test z rest) h); none_in = λ h. b.none_in (right (not (brings q)) (free rest) h); starts = λ h. absurd (cc); rests = λ h. b.rests (right (rest_part q) (in_rest rest) h); lists = λ h. b.lists (right (nat_le (few q) 0) (repeats_none rest) h) }

of_scope : (n : ℕ) (rest : List Item) (ps : List ℕ) → Brings rest ps → Brings (item.Scope n ∷ rest) ps
of_scope n rest ps b = record { posts = λ z h. b.posts z h; none_in = λ h. b.none_in h; starts = λ h. absurd (cc); rests = λ h. b.rests h; lists = λ h. b.lists h }

-- the alternative that is chosen is one of the two
picked : (f g : Bool) (a b q : ℕ) → (if f then Some a else if g then Some b else None) ≡ Some q → (a ≡ q) ⊎ (b ≡ q)
picked true g a b q e = inl (cc)
picked false true a b q e = inr (cc)
picked false false a b q e = cc

one_chosen : (a b first second : ℕ) (notes : Noted) (q : ℕ) → chosen a b first second notes ≡ Some q → (a ≡ q) ⊎ (b ≡ q)
unfolding chosen
one_chosen a b first second notes q e = picked (fits a first second notes) (fits b first second notes || can_be_empty b) a b q e

chosen_holds : (P : ℕ → Bool) (a b q : ℕ) → (a ≡ q) ⊎ (b ≡ q) → (P a && P b) ≡ true → P q ≡ true
chosen_holds P a b q (inl e) h = subst (λ (x : ℕ). P x ≡ true) e (left (P a) (P b) h)
chosen_holds P a b q (inr e) h = subst (λ (x : ℕ). P x ≡ true) e (right (P a) (P b) h)

one_few : (a b q : ℕ) → (a ≡ q) ⊎ (b ≡ q) → few q ≤ few a + few b
one_few a b q (inl e) = subst (λ (x : ℕ). few x ≤ few a + few b) e (omega arith)
one_few a b q (inr e) = subst (λ (x : ℕ). few x ≤ few a + few b) e (omega arith)

of_choice : (a b q : ℕ) (rest : List Item) (ps qs : List ℕ) → (a ≡ q) ⊎ (b ≡ q) → BringsOne q ps → Brings rest qs → Brings (item.Choice a b ∷ rest) (ps ++ qs)
of_choice a b q rest ps qs which x y = record {
  posts = λ z h.
      let one = chosen_holds (λ c. not (is_post c)) a b q which (left (not (is_post a) && not (is_post b)) (test z rest) h) in
      ok_both z ps qs (x.posts z (one_ok q z one)) (y.posts (z + all_weights ps) (test_more z (z + all_weights ps) rest (omega arith) (right (not (is_post a) && not (is_post b)) (test z rest) h)));
  none_in = λ h.
      let one = chosen_holds (λ c. not (brings c)) a b q which (left (not (brings a) && not (brings b)) (free rest) h) in
      none_both ps qs (x.none_in (not_true (brings q) one)) (y.none_in (right (not (brings a) && not (brings b)) (free rest) h));
  starts = λ h. starts_more ps qs (x.starts (chosen_holds opens a b q which h));
  rests = λ h.
      let one = chosen_holds rest_part a b q which (left (rest_part a && rest_part b) (in_rest rest) h) in
      rest_both ps qs (x.rests one) (y.rests (right (rest_part a && rest_part b) (in_rest rest) h));
  lists = λ h. let m = x.lists in let k = y.lists h in let z = lists_both ps qs in let w = one_few a b q which in omega (arith, m, k, z, w);
}

not_leaf : (q : ℕ) → nat_eq q leaf ≡ true → makes_node q ≡ true → ⊥
not_leaf q e node = let same = eqb-true q leaf e in leaf_no (ap makes_node (sym same) ∙ node)

-- a node of a production brings itself
of_node : (q : ℕ) → makes_node q ≡ true → BringsOne q (q ∷ [])
of_node q node = record {
  posts = λ z h. both (not (is_post q) || nat_le 2 z) true h refl;
  none_in = λ h. both (not (is_post q)) true (ap not (ap (λ (m : Bool). if m then is_post q else contains bringing q) (sym node) ∙ h)) refl;
  starts = λ h. absurd (let no = not_true (makes_node q) (left (not (makes_node q)) (contains beginning q) h) in let never : true ≡ false = sym node ∙ no in cc);
  weighs = λ h. weight_two (nat_eq q leaf) refl;
  single = λ h. refl;
  rests = λ h. both (nat_eq q leaf || is_rest_node q) true (or_right (nat_eq q leaf) (is_rest_node q) (ap (λ (m : Bool). if m then is_rest_node q else contains rest_rows q) (sym node) ∙ h)) refl;
  lists = one_list (makes_node q) node (is_list q);
}
  where
    one_list : (m : Bool) → m ≡ true → (l : Bool) → (if l then 1 else 0) + 0 ≤ (if m then (if l then 1 else 0) else (if contains list_rows q then 1 else 0))
    one_list true e l = omega arith
    one_list false e l = cc

    weight_two : (b : Bool) → nat_eq q leaf ≡ b → 2 ≤ (if b then 1 else 2) + 0
    weight_two true e = absurd (let same = eqb-true q leaf e in let yes : makes_node leaf ≡ true = ap makes_node (sym same) ∙ node in leaf_no yes)
    weight_two false e = omega arith

-- and one without a node what its row brings
of_row : (q : ℕ) (ps : List ℕ) → makes_node q ≡ false → Brings (row q) ps → BringsOne q ps
of_row q ps none b = record {
  posts = λ z h. b.posts z (test_more 0 z (row q) (omega arith) (row_tests q));
  none_in = λ h. b.none_in (row_free q (ap (λ (m : Bool). if m then is_post q else contains bringing q) (sym none) ∙ h));
  starts = λ h. b.starts (row_begins q (right (not (makes_node q)) (contains beginning q) h));
  weighs = λ h. absurd (let never : true ≡ false = sym h ∙ none in cc);
  single = λ h. absurd (let never : true ≡ false = sym h ∙ none in cc);
  rests = λ h. b.rests (row_rest q (ap (λ (m : Bool). if m then is_rest_node q else contains rest_rows q) (sym none) ∙ h));
  lists = let x = b.lists (row_few q).0 in let y = few_row q none in omega (arith, x, y);
}

-- a node that has been read
closing : (m : Bool) (q : ℕ) (s u o x : State) → makes_node q ≡ m → o.nodes ≡ s.nodes → o.children ≡ [] → (x.nodes ≡ u.nodes ++ (record { production = q; token = s.place; children = u.children }) ∷ []) → (x.children ≡ s.children ++ length u.nodes ∷ [])
    → Walked q 0 (cond m o s) u → Opened q s (cond m x u)
closing true q s u o x node en ec fn fc w =
    let n : Node = record { production = q; token = s.place; children = u.children } in
    let k0 = w.1 in
    let brought = w.2 in
    let k1 = subst (λ (l : List Node). Keeps l u.nodes o.children u.children w.0) en k0 in
    let k = subst (λ (l : List ℕ). Keeps s.nodes u.nodes l u.children w.0) ec k1 in
    let own : k.more ≡ u.children = sym k.appends in
    let runs = subst (λ (l : List ℕ). RunsIn u.nodes (length s.nodes) l (length u.nodes)) own k.runs in
    let are = subst (λ (l : List ℕ). Are u.nodes l w.0) own k.are in
    let r = keeps_node n s.nodes u.nodes s.children k.more w.0 k.extends runs are (brought.posts 0 (row_tests q)) (λ h. brought.none_in (row_free q h)) (λ h. brought.starts (row_begins q h)) (or_right (nat_eq q leaf) (makes_node q) node) (λ h. absurd (not_leaf q h node)) (λ h. brought.rests (row_rest q h)) (let x = brought.lists (row_few q).0 in let y = few_node q node in omega (arith, x, y)) k.facts in
    let r1 = subst (λ (l : List Node). Keeps s.nodes l s.children (s.children ++ length u.nodes ∷ []) (q ∷ [])) (sym fn) r in
    (q ∷ [], subst (λ (l : List ℕ). Keeps s.nodes x.nodes s.children l (q ∷ [])) (sym fc) r1, of_node q node)
closing false q s u o x node en ec fn fc w = (w.0, w.1, of_row q w.0 node w.2)

only : (nodes : List Node) (more : List ℕ) (q high : ℕ) → Are nodes more (q ∷ []) → RunsIn nodes 0 more high → (c : ℕ) × (suc c ≡ high) × SpansIn nodes 0 c
only nodes [] q high are runs = absurd are
only nodes (c ∷ d ∷ rest) q high are runs = absurd are.1
only nodes (c ∷ []) q high are (one_more span no_more) = (c, refl, span)

module _ (text : List ℕ) (tokens : List Token) where
  mutual
    walks_bring : (p at d : ℕ) (s : State) (r : Result State Fault) → Walks text tokens p at d s r → (t : State) → r ≡ Ok t → Walked p at s t
    walks_bring p at d s r (at_end h) t e =
        let f : s ≡ t = cc in
        subst (λ (x : State). Walked p at s x) f ([], keeps_same s.nodes s.children, subst (λ (l : List Item). Brings l []) (sym (no_item p at h)) nothing)
    walks_bring p at d s r (token {k = k} h takes w) t e =
        let n : Node = record { production = leaf; token = s.place; children = [] } in
        let later = walks_bring p (at + 1) d (taken text tokens p s) r w t e in
        let here = keeps_node n s.nodes s.nodes s.children [] [] ([], sym (append-nil s.nodes)) no_more tt refl (λ h. refl) (λ h. absurd (cc)) refl (λ h. refl) (λ h. refl) (omega arith) (λ f. f) in
        (leaf ∷ later.0, keeps_then s.nodes (taken text tokens p s).nodes t.nodes s.children (taken text tokens p s).children t.children (leaf ∷ []) later.0 here later.1, subst (λ (l : List Item). Brings l (leaf ∷ later.0)) (sym (next_item p at (item.Token k) h)) (of_token k (drop (at + 1) (row p)) later.0 later.2))
    walks_bring p at d s r (no_token h k) t e = absurd (cc)
    walks_bring p at d s r (use_of {q = q} {t = u} h o w) t e =
        let first = opens_bring q d s (Ok u) o u refl in
        let later = walks_bring p (at + 1) d u r w t e in
        (first.0 ++ later.0, keeps_then s.nodes u.nodes t.nodes s.children u.children t.children first.0 later.0 first.1 later.1, subst (λ (l : List Item). Brings l (first.0 ++ later.0)) (sym (next_item p at (item.Use q) h)) (of_use q (drop (at + 1) (row p)) first.0 later.0 first.2 later.2))
    walks_bring p at d s r (no_use h o) t e = absurd (cc)
    walks_bring p at d s r (choice {a = a} {b = b} {q = q} {t = u} h c o w) t e =
        let first = opens_bring q d s (Ok u) o u refl in
        let later = walks_bring p (at + 1) d u r w t e in
        let which = one_chosen a b (first_sign text tokens s) (second_sign text tokens s) s.notes q c in
        (first.0 ++ later.0, keeps_then s.nodes u.nodes t.nodes s.children u.children t.children first.0 later.0 first.1 later.1, subst (λ (l : List Item). Brings l (first.0 ++ later.0)) (sym (next_item p at (item.Choice a b) h)) (of_choice a b q (drop (at + 1) (row p)) first.0 later.0 which first.2 later.2))
    walks_bring p at d s r (no_choice h c o) t e = absurd (cc)
    walks_bring p at d s r (no_alternative h c) t e = absurd (cc)
    walks_bring p at d s r (again {q = q} {t = u} h k o w) t e =
        let first = opens_bring q d s (Ok u) o u refl in
        let later = walks_bring p at d u r w t e in
        let is = next_item p at (item.Repeat q) h in
        (first.0 ++ later.0, keeps_then s.nodes u.nodes t.nodes s.children u.children t.children first.0 later.0 first.1 later.1, subst (λ (l : List Item). Brings l (first.0 ++ later.0)) (sym is) (of_repeat q (drop (at + 1) (row p)) first.0 later.0 first.2 (subst (λ (l : List Item). Brings l later.0) is later.2)))
    walks_bring p at d s r (no_again h k o) t e = absurd (cc)
    walks_bring p at d s r (scope {n = n} h w) t e =
        let later = walks_bring p (at + 1) d (scoped text tokens p n s) r w t e in
        (later.0, later.1, subst (λ (l : List Item). Brings l later.0) (sym (next_item p at (item.Scope n) h)) (of_scope n (drop (at + 1) (row p)) later.0 later.2))
    walks_bring p at d s r (enough {q = q} h k w) t e =
        let later = walks_bring p (at + 1) d s r w t e in
        (later.0, later.1, subst (λ (l : List Item). Brings l later.0) (sym (next_item p at (item.Repeat q) h)) (of_enough q (drop (at + 1) (row p)) later.0 later.2))

    opens_bring : (q d : ℕ) (s : State) (r : Result State Fault) → Opens text tokens q d s r → (t : State) → r ≡ Ok t → Opened q s t
    opens_bring q d s r (deep h) t e = absurd (cc)
    opens_bring q d s r (refused h k) t e = absurd (cc)
    opens_bring q d s r (whole {t = u} h k w) t e =
        let f : closed q s u ≡ t = cc in
        subst (λ (x : State). Opened q s x) f (closing (makes_node q) q s u _ _ refl refl refl refl refl (walks_bring q 0 _ (opened q s) (Ok u) w u refl))
    opens_bring q d s r (broken h k w) t e = absurd (cc)

  -- what is read from nothing on, with the node that has all under it
  pub all_read : (q d : ℕ) (s t : State) → makes_node q ≡ true → Opens text tokens q d s (Ok t) → s.nodes ≡ [] → AllFacts t.nodes × ((c : ℕ) × (suc c ≡ length t.nodes) × SpansIn t.nodes 0 c)
  all_read q d s t node o none =
      let k = opens_bring q d s (Ok t) o t refl in
      let empty : length s.nodes ≡ 0 = ap (λ (l : List Node). length l) none in
      (k.1.facts (subst (λ (l : List Node). AllFacts l) (sym none) (λ i m e. absurd (cc))), only t.nodes k.1.more q (length t.nodes) (subst (λ (l : List ℕ). Are t.nodes k.1.more l) (k.2.single node) k.1.are) (subst (λ (z : ℕ). RunsIn t.nodes z k.1.more (length t.nodes)) empty k.1.runs))
