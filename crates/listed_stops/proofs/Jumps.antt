-- In a valid program each jump has its target: a break and a continue a statement around them, a goto a label and a statement around both.
use Rattle.std.proofs.Common.{arith, ◌≡◌, ◌∙◌, ◌⊎◌, inl, inr, ℕ, zero, suc, ◌+◌, ◌<◌, ◌≤◌, ◌&&◌, ◌||◌, not, ◌==◌, eqb, T, nat_lt, lt-ltb, Bool, true, false, cond, find, All, List, [], ◌∷◌, length, Option, Some, None, slice_get, refl, sym, ap, subst}
use Rattle.std.specs.Prelude.{IfSome}
use Rattle.std.specs.List.{enumerate_from}
use Rattle.std.specs.Str.{bytes_eq}
use Rattle.std.proofs.Math.Dec.{eqb_refl}
use Rattle.std.proofs.lemmas.Bool.{false≢true}
use Rattle.std.proofs.lemmas.Option.{slice_get_within}
use Rattle.std.proofs.lemmas.List.Elements.{All-head, All-tail}
use Rattle.std.proofs.lemmas.Slice.Eq.{bytes_eq-Decides}
use Rattle.core_tree.specs.declared.node.Entity.{Entity}
use Rattle.core_tree.specs.declared.node.Node.{Node}
use Rattle.core_tree.specs.declared.node.NodeKind.{NodeKind}
use Rattle.core_tree.specs.declared.node.NodeKind.TheVariants.{Block, While, DoWhile, For, Switch, Label, Goto, Break, Continue}
use Rattle.core_tree.specs.declared.node.Storage.TheVariants.{FunctionBody}
use Rattle.core_tree.specs.Rows.{Has}
use Rattle.core_tree.specs.Typed.{CoreTrees}
use Rattle.core_tree.specs.Range.{InRange, ChildOnce, IsChild, Under, here, below, child_in}
use Rattle.core_tree.specs.Valid.{Valid, Encloses, Within, MayStand, UnderBody, IsBlock, IsBlockIn, IsLabel, LabelOnce, FitsBody, IsFunctionBody, HasBody}
use Rattle.ref_blocks.specs.declared.ways.Link.{Link}
use Rattle.ref_blocks.specs.declared.ways.Sought.{Sought}
use Rattle.ref_blocks.specs.declared.ways.Sought.TheVariants.{LoopAlone, LoopOrSwitch}
use Rattle.ref_blocks.specs.Ways.{is_child, parent_from, parent_of, above_in, above, top_of, root_of, kind_in, kind_at, children_in, is_label, nearest, is_sought}
use Rattle.ref_blocks.specs.Jumps.{number_of, is_label_named, label_target, is_above, meeting}
use Rattle.covered_runs.proofs.covered_programs.allocation_laws.Marks.{any_from}
use Rattle.covered_runs.proofs.covered_steps.covered_statements.Ways.{number_same, and_both, parent_has, has_child, Meets, above_found, above_none, found_node}
use Rattle.listed_stops.proofs.FreeNodes.{LacksLabel}

some_one : {X : Type 0} → {x y : X} → ◌≡◌ {A = Option X} (Some x) (Some y) → x ≡ y
some_one h = cc

none_some : {X : Type 0} → {x : X} → ◌≡◌ {A = Option X} None (Some x) → ⊥
none_some h = cc

some_none : {X : Type 0} → {x : X} → ◌≡◌ {A = Option X} (Some x) None → ⊥
some_none h = cc

true_false : true ≡ false → ⊥
true_false e = cc

is_so : (b : Bool) → T b → b ≡ true
is_so true t = refl
is_so false t = absurd t

eq_same : (n : ℕ) → (n == n) ≡ true
eq_same n = is_so (eqb n n) (eqb_refl n)

both_true : (a b : Bool) → a ≡ true → b ≡ true → (a && b) ≡ true
both_true true b h g = g
both_true false b h g = absurd (false≢true h)

or_right : (a b : Bool) → b ≡ true → (a || b) ≡ true
or_right true b h = refl
or_right false b h = h

-- ---- the node above a child is the one whose child it is
child_is : (n : ℕ) (cs : List ℕ) → Has cs n → is_child n cs ≡ true
child_is n cs has = any_from (λ (c : ℕ). c == n) cs has.0 n has.1 (eq_same n)

none_parent : (n i : ℕ) (nodes : List Node) (k : ℕ) (node : Node) → parent_from n i nodes ≡ None → slice_get nodes k ≡ Some node → n < i + k → Has node.children n → ⊥
none_parent n i [] k node h at lt has = none_some at
none_parent n i (x ∷ rest) zero node h at lt has =
    let yes : (nat_lt n i && is_child n x.children) ≡ true =
    both_true (nat_lt n i) (is_child n x.children) (lt-ltb n i (omega (arith, lt))) (child_is n x.children (subst (λ (y : Node). Has y.children n) (sym (some_one at)) has)) in
    some_none (sym (ap (λ (b : Bool). cond b (Some i) (parent_from n (i + 1) rest)) yes) ∙ h)
none_parent n i (x ∷ rest) (suc k) node h at lt has = by (nat_lt n i && is_child n x.children) h (λ g. none_parent n (i + 1) rest k node g at (omega (arith, lt)) has)
  where
    by : (b : Bool) → cond b (Some i) (parent_from n (i + 1) rest) ≡ None → (parent_from n (i + 1) rest ≡ None → ⊥) → ⊥
    by true e more = some_none e
    by false e more = more e

all_less : (cs : List ℕ) (p k c : ℕ) → slice_get cs k ≡ Some c → All (λ (x : ℕ). x < p) cs → c < p
all_less [] p k c at all = absurd (none_some at)
all_less (x ∷ xs) p zero c at all = subst (λ (y : ℕ). y < p) (some_one at) (All-head (λ (y : ℕ). y < p) x xs all)
all_less (x ∷ xs) p (suc k) c at all = all_less xs p k c at (All-tail (λ (y : ℕ). y < p) x xs all)

module _ (u : CoreTrees) (range : InRange u) (once : ChildOnce u) where
  parent_is : (p c : ℕ) → IsChild u p c → parent_of u.nodes c ≡ Some p
  parent_is p c child = by (parent_of u.nodes c) refl
    where
      lost : parent_of u.nodes c ≡ None → (o : Option Node) → slice_get u.nodes p ≡ o → child_in o child.0 ≡ Some c → ⊥
      lost none None is at = none_some at
      lost none (Some node) is at =
          let less : c < p = all_less node.children p child.0 c at (range.children p node is) in
          none_parent c 0 u.nodes p node none is (omega (arith, less)) (child.0, at)

      by : (o : Option ℕ) → parent_of u.nodes c ≡ o → parent_of u.nodes c ≡ Some p
      by None is = absurd (lost is (slice_get u.nodes p) refl child.1)
      by (Some q) is =
          let other = has_child u q c (parent_has u.nodes c q is) in
          is ∙ ap (λ (k : ℕ). Some k) (once q p other.0 child.0 c other.1 child.1).0

  child_less : (p c : ℕ) → IsChild u p c → (c < p) × (p < length u.nodes)
  child_less p c child = by (slice_get u.nodes p) refl child.1
    where
      by : (o : Option Node) → slice_get u.nodes p ≡ o → child_in o child.0 ≡ Some c → (c < p) × (p < length u.nodes)
      by None is at = absurd (none_some at)
      by (Some node) is at = (all_less node.children p child.0 c at (range.children p node is), slice_get_within u.nodes p node is)

  -- what a node stands under is on its way up
  meets_in : (top n : ℕ) → Under u top n → (f : ℕ) → length u.nodes ≤ n + f → (top ≡ n) ⊎ Meets top (above_in u.nodes f n)
  meets_in top n here f le = inl refl
  meets_in top n (below {parent = p} up child) zero le = (let less = child_less p n child in let a = less.0 in let b = less.1 in absurd (omega (arith, le, a, b)))
  meets_in top n (below {parent = p} up child) (suc f) le =
      let less = (child_less p n child).0 in
      inr (subst (Meets top) (sym (above_found u.nodes f n p (parent_is p n child)))
      (elim (meets_in top p up f (omega (arith, le, less))) [ inl same ↦ inl (sym same) | inr more ↦ inr more ]))

  meets_under : (top n : ℕ) → Under u top n → (top ≡ n) ⊎ Meets top (above u.nodes n)
  unfolding above
  meets_under top n under = meets_in top n under (length u.nodes) (omega arith)

  -- and the topmost one is the end of the way
  root_in : (b n : ℕ) → parent_of u.nodes b ≡ None → Under u b n → (f : ℕ) → length u.nodes ≤ n + f → top_of n (above_in u.nodes f n) ≡ b
  root_in b n none here zero le = refl
  root_in b n none here (suc f) le = ap (top_of b) (above_none u.nodes f b none)
  root_in b n none (below {parent = p} up child) zero le = (let less = child_less p n child in let a = less.0 in let c = less.1 in absurd (omega (arith, le, a, c)))
  root_in b n none (below {parent = p} up child) (suc f) le =
      let less = (child_less p n child).0 in
      ap (top_of n) (above_found u.nodes f n p (parent_is p n child)) ∙ root_in b p none up f (omega (arith, le, less))

  root_under : (b n : ℕ) → parent_of u.nodes b ≡ None → Under u b n → root_of u.nodes n ≡ b
  unfolding above
  root_under b n none under = root_in b n none under (length u.nodes) (omega arith)

  -- ---- a break and a continue
  nearest_none : (is : NodeKind → Bool) (links : List Link) (a : ℕ) → nearest u.nodes is links ≡ None → Meets a links → is (kind_at u.nodes a) ≡ true → ⊥
  nearest_none is [] a h m t = m
  nearest_none is (link ∷ rest) a h m t = by (is (kind_at u.nodes link.node)) refl h (λ g k. nearest_none is rest a g k t)
    where
      by : (b : Bool) → is (kind_at u.nodes link.node) ≡ b → cond b (Some link.node) (nearest u.nodes is rest) ≡ None → (nearest u.nodes is rest ≡ None → Meets a rest → ⊥) → ⊥
      by true e g more = some_none g
      by false e g more = elim m [ inl same ↦ true_false (sym (ap (λ (k : ℕ). is (kind_at u.nodes k)) same ∙ t) ∙ e) | inr k ↦ more g k ]

  -- a statement that encloses is one that is sought
  abbrev IsKept : Sought → Bool → Type 0
  IsKept sought switch = (kind : NodeKind) → Encloses switch kind → is_sought sought kind ≡ true

  loops_sought : IsKept LoopAlone false
  loops_sought While e = refl
  loops_sought DoWhile e = refl
  loops_sought (For entities condition after) e = refl
  loops_sought kind e = absurd e

  either_sought : (switch : Bool) → IsKept LoopOrSwitch switch
  either_sought false While e = refl
  either_sought false DoWhile e = refl
  either_sought false (For entities condition after) e = refl
  either_sought false kind e = absurd e
  either_sought true Switch e = refl
  either_sought true kind e = absurd e

  sought_there : (sought : Sought) (switch : Bool) → IsKept sought switch → (n : ℕ) (node : Node) → slice_get u.nodes n ≡ Some node → (Encloses switch node.kind → ⊥) → Within u switch n
      → nearest u.nodes (is_sought sought) (above u.nodes n) ≡ None → ⊥
  sought_there sought switch kept n node there apart inside none = by inside.some.0 inside.some.1 inside.some.2 inside.some.3.0 inside.some.3.1
    where
      by : (top : ℕ) (other : Node) → slice_get u.nodes top ≡ Some other → Encloses switch other.kind → Under u top n → ⊥
      by top other is encloses under =
          elim (meets_under top n under) [
            | inl same ↦ apart (subst (λ (x : Node). Encloses switch x.kind) (some_one (sym is ∙ (ap (slice_get u.nodes) same ∙ there))) encloses)
            | inr meets ↦ nearest_none (is_sought sought) (above u.nodes n) top none meets (ap (λ (o : Option Node). is_sought sought (kind_in o)) is ∙ kept other.kind encloses)
          ]

  -- ---- a goto
  find_none : (test : ℕ × Node → Bool) (i : ℕ) (nodes : List Node) (k : ℕ) (node : Node) → find test (enumerate_from i nodes) ≡ None → slice_get nodes k ≡ Some node → test (i + k, node) ≡ true → ⊥
  find_none test i [] k node h at t = none_some at
  find_none test i (x ∷ rest) k node h at t = by (test (i, x)) refl h (λ j g a y. find_none test (i + 1) rest j node g a y) k at t
    where
      by : (b : Bool) → test (i, x) ≡ b → cond b (Some (i, x)) (find test (enumerate_from (i + 1) rest)) ≡ None
          → ((j : ℕ) → find test (enumerate_from (i + 1) rest) ≡ None → slice_get rest j ≡ Some node → test ((i + 1) + j, node) ≡ true → ⊥)
          → (j : ℕ) → slice_get (x ∷ rest) j ≡ Some node → test (i + j, node) ≡ true → ⊥
      by true is g more j a y = some_none g
      by false is g more zero a y =
          true_false (sym y ∙ (ap (λ (m : ℕ). test (m, node)) (let z : i + 0 ≡ i = omega arith in z) ∙ (ap (λ (q : Node). test (i, q)) (sym (some_one a)) ∙ is)))
      by false is g more (suc j) a y = more j g a (ap (λ (m : ℕ). test (m, node)) (let z : (i + 1) + j ≡ i + suc j = omega arith in z) ∙ y)

  any_above : (a : ℕ) (links : List Link) → Meets a links → is_above a links ≡ true
  any_above a [] m = absurd m
  any_above a (link ∷ rest) (inl same) = ap (λ (b : Bool). b || is_above a rest) (ap (λ (k : ℕ). k == a) same ∙ eq_same a)
  any_above a (link ∷ rest) (inr more) = or_right (link.node == a) (is_above a rest) (any_above a rest more)

  meeting_none : (from links : List Link) (a : ℕ) → meeting u.nodes from links ≡ None → Meets a from → Meets a links → is_label (kind_at u.nodes a) ≡ false → ⊥
  meeting_none from [] a h m k plain = k
  meeting_none from (link ∷ rest) a h m k plain =
      by (is_above link.node from && not (is_label (kind_at u.nodes link.node))) refl h (λ g j. meeting_none from rest a g m j plain)
    where
      by : (b : Bool) → (is_above link.node from && not (is_label (kind_at u.nodes link.node))) ≡ b → cond b (Some link.node) (meeting u.nodes from rest) ≡ None → (meeting u.nodes from rest ≡ None → Meets a rest → ⊥) → ⊥
      by true e g more = some_none g
      by false e g more =
          elim k [
            | inl same ↦
                true_false
                (sym (ap (λ (j : ℕ). is_above j from && not (is_label (kind_at u.nodes j))) same ∙ both_true (is_above a from) (not (is_label (kind_at u.nodes a))) (any_above a from m) (ap not plain)) ∙ e)
            | inr j ↦ more g j
          ]

  -- the topmost node is the node, or on its way up
  top_meets : (n : ℕ) (links : List Link) (b : ℕ) → top_of n links ≡ b → (n ≡ b) ⊎ Meets b links
  top_meets n [] b e = inl e
  top_meets n (link ∷ rest) b e = inr (elim (top_meets link.node rest b e) [ inl same ↦ inl same | inr more ↦ inr more ])

  module _ (n : ℕ) (name : List ℕ) (node : Node) (there : slice_get u.nodes n ≡ Some node) (kind : node.kind ≡ Goto name) (b : ℕ) (under : Under u b n) (block : IsBlockIn (slice_get u.nodes b)) (none : parent_of u.nodes b ≡ None)
      (label : LabelOnce u b name) where
    kind_is : kind_at u.nodes n ≡ Goto name
    kind_is = ap kind_in there ∙ kind

    -- the body is a block: no label and no goto
    body_kind : (k : NodeKind) → kind_at u.nodes b ≡ k → (IsBlock k → ⊥) → ⊥
    body_kind k is none_such = by (slice_get u.nodes b) refl block
      where
        by : (o : Option Node) → slice_get u.nodes b ≡ o → IsBlockIn o → ⊥
        by None at h = h
        by (Some x) at h = none_such (subst IsBlock (sym (ap kind_in at) ∙ is) h)

    block_plain : (k : NodeKind) → IsBlock k → is_label k ≡ false
    block_plain (Block entities) h = refl
    block_plain k h = absurd h

    body_plain : is_label (kind_at u.nodes b) ≡ false
    body_plain = by (is_label (kind_at u.nodes b)) refl
      where
        by : (c : Bool) → is_label (kind_at u.nodes b) ≡ c → is_label (kind_at u.nodes b) ≡ false
        by false is = is
        by true is = absurd (body_kind (kind_at u.nodes b) refl (λ h. true_false (sym is ∙ block_plain (kind_at u.nodes b) h)))

    over_goto : Meets b (above u.nodes n)
    over_goto = elim (meets_under b n under) [ inl same ↦ absurd (body_kind (Goto name) (ap (kind_at u.nodes) same ∙ kind_is) (λ h. h)) | inr meets ↦ meets ]

    abbrev test : ℕ × Node → Bool
    test entry = is_label_named name entry.1.kind && (root_of u.nodes entry.0 == root_of u.nodes n)

    labelled : (k : NodeKind) → IsLabel name k → is_label_named name k ≡ true
    labelled (Label other) h = (bytes_eq-Decides other name).1 h
    labelled k h = absurd h

    named_label : (k : NodeKind) → is_label_named name k ≡ true → is_label k ≡ true
    named_label (Label other) h = refl
    named_label k h = absurd (false≢true h)

    -- a label of that name stands in the body
    label_found : label_target u.nodes n name ≡ None → ⊥
    unfolding label_target
    label_found h = by (find test (enumerate_from 0 u.nodes)) refl h
      where
        by : (o : Option (ℕ × Node)) → find test (enumerate_from 0 u.nodes) ≡ o → number_of o ≡ None → ⊥
        by (Some e) is g = some_none g
        by None is g =
            let m = label.some.0 in
            let same : root_of u.nodes m ≡ root_of u.nodes n = root_under b m none label.some.3.0.1 ∙ sym (root_under b n none under) in
            find_none test 0 u.nodes m label.some.1 is label.some.2
            (both_true (is_label_named name label.some.1.kind) (root_of u.nodes (0 + m) == root_of u.nodes n) (labelled label.some.1.kind label.some.3.0.0)
            (ap (λ (k : ℕ). root_of u.nodes k == root_of u.nodes n) (let z : 0 + m ≡ m = omega arith in z) ∙ (ap (λ (k : ℕ). k == root_of u.nodes n) same ∙ eq_same (root_of u.nodes n))))

    -- and the body is around both
    around_both : (t : ℕ) → label_target u.nodes n name ≡ Some t → meeting u.nodes (above u.nodes n) (above u.nodes t) ≡ None → ⊥
    unfolding label_target
    around_both t h none_meets = by (find test (enumerate_from 0 u.nodes)) refl h
      where
        by : (o : Option (ℕ × Node)) → find test (enumerate_from 0 u.nodes) ≡ o → number_of o ≡ Some t → ⊥
        by None is g = none_some g
        by (Some e) is g =
            let r = found_node test 0 u.nodes e is in
            let both = and_both (is_label_named name e.1.kind) (root_of u.nodes e.0 == root_of u.nodes n) r.3 in
            let e_is : e.0 ≡ t = some_one g in
            let t_is : t ≡ r.0 = sym e_is ∙ (r.1 ∙ (let z : 0 + r.0 ≡ r.0 = omega arith in z)) in
            let root : root_of u.nodes t ≡ b = ap (root_of u.nodes) (sym e_is) ∙ (number_same (root_of u.nodes e.0) (root_of u.nodes n) both.1 ∙ root_under b n none under) in
            let is_it : is_label (kind_at u.nodes t) ≡ true = ap (λ (k : ℕ). is_label (kind_at u.nodes k)) t_is ∙ (ap (λ (o : Option Node). is_label (kind_in o)) r.2 ∙ named_label e.1.kind both.0) in
            elim (top_meets t (above u.nodes t) b root) [
              | inl same ↦ true_false (sym is_it ∙ (ap (λ (k : ℕ). is_label (kind_at u.nodes k)) same ∙ body_plain))
              | inr meets ↦ meeting_none (above u.nodes n) (above u.nodes t) b none_meets over_goto meets body_plain
            ]

    pub goto_lands : LacksLabel u.nodes n name → ⊥
    goto_lands (inl lost) = label_found lost
    goto_lands (inr apart) = around_both apart.0 apart.1 apart.2

-- ---- in a valid program
module _ (u : CoreTrees) (valid : Valid u) (n : ℕ) (node : Node) (there : slice_get u.nodes n ≡ Some node) where
  standing : (kind : NodeKind) → node.kind ≡ kind → MayStand u n kind
  standing kind is = subst (MayStand u n) is (valid.standing n node there)

  apart_loop : (kind : NodeKind) → node.kind ≡ kind → (switch : Bool) → (Encloses switch kind → ⊥) → Encloses switch node.kind → ⊥
  apart_loop kind is switch apart e = apart (subst (Encloses switch) is e)

  break_none : (switch : Bool) → Encloses switch Break → ⊥
  break_none false h = h
  break_none true h = h

  pub break_lands : node.kind ≡ Break → nearest u.nodes (is_sought LoopOrSwitch) (above u.nodes n) ≡ None → ⊥
  break_lands is none =
      elim (standing Break is).1 [
        | inl loop ↦ sought_there u valid.in_range valid.child_once LoopOrSwitch false (either_sought u valid.in_range valid.child_once false) n node there (apart_loop Break is false (break_none false)) loop none
        | inr switch ↦ sought_there u valid.in_range valid.child_once LoopOrSwitch true (either_sought u valid.in_range valid.child_once true) n node there (apart_loop Break is true (break_none true)) switch none
      ]

  pub continue_lands : node.kind ≡ Continue → nearest u.nodes (is_sought LoopAlone) (above u.nodes n) ≡ None → ⊥
  continue_lands is none =
      sought_there u valid.in_range valid.child_once LoopAlone false (loops_sought u valid.in_range valid.child_once) n node there (apart_loop Continue is false (λ h. h)) (standing Continue is).1 none

  no_parent : (b : ℕ) (entity : Entity) → IsFunctionBody u entity b → parent_of u.nodes b ≡ None
  no_parent b entity body = by (parent_of u.nodes b) refl
    where
      lost : (p : ℕ) (o : Option Node) → slice_get u.nodes p ≡ o → Has (children_in o) b → ⊥
      lost p None is has = none_some has.1
      lost p (Some x) is has = body.top p x is has

      by : (o : Option ℕ) → parent_of u.nodes b ≡ o → parent_of u.nodes b ≡ None
      by None is = is
      by (Some p) is = absurd (lost p (slice_get u.nodes p) refl (parent_has u.nodes b p is))

  pub jump_lands : (name : List ℕ) → node.kind ≡ Goto name → LacksLabel u.nodes n name → ⊥
  jump_lands name is lost = by (standing (Goto name) is).some.0 (standing (Goto name) is).some.1 (standing (Goto name) is).some.2 (standing (Goto name) is).some.3.0 (standing (Goto name) is).some.3.1
    where
      by : (f : ℕ) (entity : Entity) → slice_get u.entities f ≡ Some entity → entity.storage ≡ FunctionBody → UnderBody u entity.body n → ⊥
      by f entity at storage under = in_body entity.body refl under
        where
          in_body : (o : Option ℕ) → entity.body ≡ o → UnderBody u o n → ⊥
          in_body None body h = h
          in_body (Some b) body h =
              let bodied : HasBody u f entity (Some b) = subst (HasBody u f entity) body (valid.bodied f entity at) in
              let fits : FitsBody u entity b node.kind node.children = subst (λ (o : Option ℕ). IfSome o (λ k. Under u k n → FitsBody u entity k node.kind node.children)) body (((valid.functions n node there).each f entity at).fits storage) h in
              let label : LabelOnce u b name = subst (λ (k : NodeKind). FitsBody u entity b k node.children) is fits in
              elim bodied.0 [
                | inl function ↦ goto_lands u valid.in_range valid.child_once n name node there is b h function.block (no_parent b entity function) label lost
                | inr object ↦ absurd (object.storage storage)
              ]
