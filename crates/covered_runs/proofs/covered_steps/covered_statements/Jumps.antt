-- What jumps leave is covered and stacked.
use Rattle.std.proofs.Common.{arith, ◌≡◌, ◌∙◌, inl, inr, ℕ, zero, suc, ◌+◌, ◌==◌, ◌&&◌, Bool, true, false, eqb, if◌then◌else◌, ℤ, List, [], ◌∷◌, drop, length, reverse, find, Option, Some, None, Ok, slice_get, refl, sym, ap, subst}
use Rattle.std.specs.List.{enumerate_from}
use Rattle.std.proofs.lemmas.Bool.{false≢true}
use Rattle.std.proofs.lemmas.Bool.Decides.{eqb_tells}
use Rattle.c_types.specs.declared.key.ObjectKey.{ObjectKey}
use Rattle.core_tree.specs.declared.node.Node.{Node}
use Rattle.core_tree.specs.declared.node.NodeKind.{NodeKind}
use Rattle.core_tree.specs.declared.node.NodeKind.TheVariants.{While, DoWhile, For, Switch, Case, Default, Label}
use Rattle.core_tree.specs.Rows.{Has}
use Rattle.core_tree.specs.Typed.{CoreTrees}
use Rattle.core_tree.specs.Valid.{InRows}
use Rattle.ref_cells.specs.declared.cells.Reason.TheVariants.{Mismatch}
use Rattle.ref_cells.specs.declared.cells.Value.{Value}
use Rattle.ref_cells.specs.declared.instance.Instance.{Instance}
use Rattle.ref_state.specs.declared.items.Item.{Item}
use Rattle.ref_state.specs.declared.items.Item.TheVariants.{Wait}
use Rattle.ref_state.specs.declared.frames.Frame.{Frame}
use Rattle.ref_state.specs.Changes.{Blocks}
use Rattle.ref_state.specs.Values.{cell_of}
use Rattle.ref_blocks.specs.declared.block.Block.{Block}
use Rattle.ref_blocks.specs.declared.block.Block.TheVariants.{Part}
use Rattle.ref_blocks.specs.declared.ways.Link.{Link}
use Rattle.ref_blocks.specs.declared.ways.Sought.TheVariants.{LoopAlone, LoopOrSwitch}
use Rattle.ref_blocks.specs.Ways.{parent_of, above_in, above, root_of, kind_in, kind_at, children_at, is_label, is_loop, is_switch, is_loop_or_switch, nearest, is_sought}
use Rattle.ref_blocks.specs.Loops.{left_behind, left_next}
use Rattle.ref_blocks.specs.Around.{blocks_around, but_for}
use Rattle.ref_blocks.specs.Blocks.{left, all_left, all_entered}
use Rattle.ref_blocks.specs.Jumps.{switch_of, is_some_number, is_case, number_of, case_of, or_default, switch_target, is_label_named, label_target, items_to, wait_for, waits_to, jump, meeting, blocks_with}
use Rattle.ref_statements.specs.Statements.{number_in, switches_to, switch_row, breaks, break_row, continues, continue_row, goes_to, goto_found, goto_row}
use Rattle.covering_laws.specs.covered_state.World.{World, trees_of}
use Rattle.covering_laws.specs.covered_state.Items.{Each, IsOwned, ItemIn}
use Rattle.covering_laws.proofs.covered_state.Stays.{each_append}
use Rattle.covered_runs.proofs.covered_steps.covered_values.Operands.{ok_one}
use Rattle.covered_runs.proofs.covered_steps.Steps.{each_drop}
use Rattle.covered_runs.specs.covered_steps.covered_statements.Stacked.{PendingOn}
use Rattle.covered_runs.specs.covered_steps.covered_statements.Runnable.{IsRunnable}
use Rattle.covered_runs.proofs.covered_steps.covered_statements.Plain.{is_plain, plain_above}
use Rattle.covered_runs.proofs.covered_steps.covered_statements.Ways.{number_same, and_both, has_all, each_left_behind, each_left_next, parent_has, Meets, above_found, above_none, nearest_meets, meeting_meets, found_node, children_owned, way_down, way_up}
use Rattle.covered_runs.proofs.covered_steps.covered_statements.Stacking.{plain_wait, tail_stands, way_stacked}
use Rattle.covered_runs.proofs.covered_steps.covered_statements.Kept.{Keeps, keeps_then, keeps_left, keeps_all_left, keeps_all_entered}
use Rattle.covered_runs.proofs.covered_steps.covered_statements.Moves.{IsHere, Fits, Moves, fails, then_moves, over}

some_one : {X : Type 0} → {x y : X} → ◌≡◌ {A = Option X} (Some x) (Some y) → x ≡ y
some_one h = cc

none_some : {X : Type 0} → {x : X} → ◌≡◌ {A = Option X} None (Some x) → ⊥
none_some h = cc

loop_plain : (kind : NodeKind) → is_loop kind ≡ true → is_plain kind ≡ true
loop_plain While h = refl
loop_plain DoWhile h = refl
loop_plain (For entities condition after) h = refl
loop_plain kind h = absurd (false≢true h)

turned_plain : (kind : NodeKind) → is_loop_or_switch kind ≡ true → is_plain kind ≡ true
turned_plain While h = refl
turned_plain DoWhile h = refl
turned_plain (For entities condition after) h = refl
turned_plain Switch h = refl
turned_plain kind h = absurd (false≢true h)

switch_open : (kind : NodeKind) → is_switch kind ≡ true → is_label kind ≡ false
switch_open Switch h = refl
switch_open kind h = absurd (false≢true h)

case_plain : (x : Option ℤ) (kind : NodeKind) → is_case x kind ≡ true → is_plain kind ≡ true
case_plain (Some x) (Case y) h = refl
case_plain None Default h = refl
case_plain (Some x) kind h = absurd (false≢true h)
case_plain None kind h = absurd (false≢true h)

label_plain : (name : List ℕ) (kind : NodeKind) → is_label_named name kind ≡ true → is_plain kind ≡ true
label_plain name (Label other) h = refl
label_plain name kind h = absurd (false≢true h)

number_there : (n : ℕ) (o : Option ℕ) → is_some_number n o ≡ true → o ≡ Some n
number_there n None h = absurd (false≢true h)
number_there n (Some m) h = ap (λ (k : ℕ). Some k) (number_same m n h)

-- the node of an entry
entry_kind : (nodes : List Node) (e : ℕ × Node) (k : ℕ) → e.0 ≡ 0 + k → slice_get nodes k ≡ Some e.1 → kind_at nodes e.0 ≡ e.1.kind
entry_kind nodes e k same at = ap (λ (j : ℕ). kind_at nodes j) (same ∙ (let z : 0 + k ≡ k = omega arith in z)) ∙ ap kind_in at

-- where a switch goes: to a case of it, or its default
pub record IsTarget (nodes : List Node) (s t : ℕ) : Type 0 where
  pub plain : is_plain (kind_at nodes t) ≡ true
  pub meets : Meets s (above nodes t)
  pub switch : is_switch (kind_at nodes s) ≡ true

case_there : (nodes : List Node) (s : ℕ) (x : Option ℤ) (t : ℕ) → case_of nodes s x ≡ Some t → IsTarget nodes s t
case_there nodes s x t h = by (find (λ (entry : ℕ × Node). is_case x entry.1.kind && is_some_number s (switch_of nodes entry.0)) (enumerate_from 0 nodes)) refl h
  where
    by : (o : Option (ℕ × Node)) → find (λ (entry : ℕ × Node). is_case x entry.1.kind && is_some_number s (switch_of nodes entry.0)) (enumerate_from 0 nodes) ≡ o → number_of o ≡ Some t → IsTarget nodes s t
    by None is e = absurd (none_some e)
    by (Some entry) is e =
        let r = found_node (λ (y : ℕ × Node). is_case x y.1.kind && is_some_number s (switch_of nodes y.0)) 0 nodes entry is in
        let both = and_both (is_case x entry.1.kind) (is_some_number s (switch_of nodes entry.0)) r.3 in
        let near = nearest_meets nodes is_switch (above nodes entry.0) s (number_there s (switch_of nodes entry.0) both.1) in
        subst (IsTarget nodes s) (some_one e)
        (record {
          plain = ap is_plain (entry_kind nodes entry r.0 r.1 r.2) ∙ case_plain x entry.1.kind both.0;
          meets = near.0;
          switch = near.1;
        })

target_there : (nodes : List Node) (s : ℕ) (x : ℤ) (t : ℕ) → switch_target nodes s x ≡ Some t → IsTarget nodes s t
unfolding switch_target
target_there nodes s x t h = by (case_of nodes s (Some x)) refl h
  where
    by : (o : Option ℕ) → case_of nodes s (Some x) ≡ o → or_default o (case_of nodes s None) ≡ Some t → IsTarget nodes s t
    by None is e = case_there nodes s None t e
    by (Some m) is e = case_there nodes s (Some x) t (is ∙ e)

-- a label that is gone to
label_there : (nodes : List Node) (n : ℕ) (name : List ℕ) (t : ℕ) → label_target nodes n name ≡ Some t → is_plain (kind_at nodes t) ≡ true
unfolding label_target
label_there nodes n name t h = by (find (λ (entry : ℕ × Node). is_label_named name entry.1.kind && (root_of nodes entry.0 == root_of nodes n)) (enumerate_from 0 nodes)) refl h
  where
    by : (o : Option (ℕ × Node)) → find (λ (entry : ℕ × Node). is_label_named name entry.1.kind && (root_of nodes entry.0 == root_of nodes n)) (enumerate_from 0 nodes) ≡ o → number_of o ≡ Some t → is_plain (kind_at nodes t) ≡ true
    by None is e = absurd (none_some e)
    by (Some entry) is e =
        let r = found_node (λ (y : ℕ × Node). is_label_named name y.1.kind && (root_of nodes y.0 == root_of nodes n)) 0 nodes entry is in
        let both = and_both (is_label_named name entry.1.kind) (root_of nodes entry.0 == root_of nodes n) r.3 in
        subst (λ (k : ℕ). is_plain (kind_at nodes k) ≡ true) (some_one e) (ap is_plain (entry_kind nodes entry r.0 r.1 r.2) ∙ label_plain name entry.1.kind both.0)

-- each node on the way up from a plain statement is one
way_plain : (u : CoreTrees) → InRows u → (a fuel x : ℕ) → is_plain (kind_at u.nodes x) ≡ true → Meets a (above_in u.nodes fuel x) → is_plain (kind_at u.nodes a) ≡ true
way_plain u rows a zero x plain meets = absurd meets
way_plain u rows a (suc fuel) x plain meets = by (parent_of u.nodes x) refl (λ p own m. way_plain u rows a fuel p own m)
  where
    by : (o : Option ℕ) → parent_of u.nodes x ≡ o → ((p : ℕ) → is_plain (kind_at u.nodes p) ≡ true → Meets a (above_in u.nodes fuel p) → is_plain (kind_at u.nodes a) ≡ true) → is_plain (kind_at u.nodes a) ≡ true
    by None is next = absurd (subst (Meets a) (above_none u.nodes fuel x is) meets)
    by (Some p) is next =
        let own = plain_above u rows p x plain (parent_has u.nodes x p is) in
        elim (subst (Meets a) (above_found u.nodes fuel x p is) meets) [ inl same ↦ subst (λ (k : ℕ). is_plain (kind_at u.nodes k) ≡ true) same own | inr more ↦ next p own more ]

module _ (world : World) (runs : IsRunnable world) (memory : List Instance) (f : ObjectKey) (a : ℕ) (owned : IsOwned world f a) where
  -- the same further up
  abbrev Ups : ℕ → Type 0
  Ups fuel = (p : ℕ) → Meets a (above_in (trees_of world).nodes fuel p) → Each (ItemIn world memory f) (waits_to (trees_of world).nodes a (above_in (trees_of world).nodes fuel p))

  -- the items on a way stand in the function
  way_owned : (fuel x : ℕ) → Meets a (above_in (trees_of world).nodes fuel x) → Each (ItemIn world memory f) (waits_to (trees_of world).nodes a (above_in (trees_of world).nodes fuel x))
  way_owned zero x meets = absurd meets
  way_owned (suc fuel) x meets = by (parent_of (trees_of world).nodes x) refl (λ p m. way_owned fuel p m)
    where
      one : (p : ℕ) → IsOwned world f p → (label : Bool)
          → Each (ItemIn world memory f) (if label then [] else Wait p (left_behind (kind_at (trees_of world).nodes p) (children_at (trees_of world).nodes p) x) [] ∷ [])
      one p own true = tt
      one p own false = (
        (
          own,
          children_owned world runs f p own (left_behind (kind_at (trees_of world).nodes p) (children_at (trees_of world).nodes p) x)
              (each_left_behind (Has (children_at (trees_of world).nodes p)) (kind_at (trees_of world).nodes p) (children_at (trees_of world).nodes p) x (has_all (children_at (trees_of world).nodes p))),
          tt,
        ),
        tt,
      )

      more : (p : ℕ) → parent_of (trees_of world).nodes x ≡ Some p → Ups fuel → (last : Bool) → (last ≡ false → p ≡ a → ⊥)
          → Each (ItemIn world memory f) (if last then [] else waits_to (trees_of world).nodes a (above_in (trees_of world).nodes fuel p))
      more p is next true other = tt
      more p is next false other =
          next p (elim (subst (Meets a) (above_found (trees_of world).nodes fuel x p is) meets) [ inl same ↦ absurd (other refl same) | inr up ↦ up ])

      differs : (p : ℕ) → eqb p a ≡ false → p ≡ a → ⊥
      differs p e same = elim (eqb_tells p a) [ inl is ↦ false≢true (sym e ∙ is.0) | inr other ↦ other.1 same ]

      owner : (p : ℕ) → parent_of (trees_of world).nodes x ≡ Some p → IsOwned world f p
      owner p is = elim (subst (Meets a) (above_found (trees_of world).nodes fuel x p is) meets) [
        | inl same ↦ subst (IsOwned world f) (sym same) owned
        | inr up ↦ way_down world runs f a fuel p owned up
      ]

      by : (o : Option ℕ) → parent_of (trees_of world).nodes x ≡ o → Ups fuel → Each (ItemIn world memory f) (waits_to (trees_of world).nodes a (above_in (trees_of world).nodes (suc fuel) x))
      by None is next = absurd (subst (Meets a) (above_none (trees_of world).nodes fuel x is) meets)
      by (Some p) is next =
          subst (λ (links : List Link). Each (ItemIn world memory f) (waits_to (trees_of world).nodes a links)) (sym (above_found (trees_of world).nodes fuel x p is))
          (each_append (ItemIn world memory f) (wait_for (trees_of world).nodes (record { node = p; child = x })) (if p == a then [] else waits_to (trees_of world).nodes a (above_in (trees_of world).nodes fuel p))
          (one p (owner p is) (is_label (kind_at (trees_of world).nodes p))) (more p is next (eqb p a) (differs p)))

module _ (world : World) (runs : IsRunnable world) (memory : List Instance) (f : Frame) (n : ℕ) (items : List Item) (here : IsHere world memory f n items) where
  abbrev u : CoreTrees
  u = trees_of world

  blocks_kept : (s : Blocks) (out inside : List Block) → Keeps world memory s.memory → Keeps world memory (all_entered u inside (all_left u out s)).memory
  blocks_kept s out inside keeps =
      keeps_then world memory s.memory (all_entered u inside (all_left u out s)).memory keeps
      (keeps_then world s.memory (all_left u out s).memory (all_entered u inside (all_left u out s)).memory (keeps_all_left world runs out s) (keeps_all_entered world runs inside (all_left u out s)))

  left_kept : (s : Blocks) (out : List Block) → Keeps world memory s.memory → Keeps world memory (all_left u out s).memory
  left_kept s out keeps = keeps_then world memory s.memory (all_left u out s).memory keeps (keeps_all_left world runs out s)

  -- A jump goes down from a statement to one below it.
  jumps : (s : Blocks) (inside : List Block) (a t : ℕ) → Keeps world memory s.memory → is_plain (kind_at u.nodes t) ≡ true → Meets a (above u.nodes t) → is_label (kind_at u.nodes a) ≡ false
      → IsOwned world f.function a → Moves world memory f (Ok (jump u f.items s inside a t))
  unfolding above
  jumps s inside a t keeps plain meets open_node owned change is =
      let plain_a = way_plain u runs.stands.rows a (length u.nodes) t plain meets in
      let tail = tail_stands u.nodes (PendingOn world memory) a f.items plain_a here.whole in
      let way = way_stacked u runs.stands.rows (PendingOn world memory) a (drop (items_to a f.items) f.items) open_node tail.0 tail.1 (length u.nodes) t t plain plain meets in
      let kept = blocks_kept s (but_for inside (blocks_around u t)) (reverse (but_for (blocks_around u t) inside)) keeps in
      subst (Fits world memory f) (ok_one is)
      (record {
        leaves = (kept here.covered).0;
        bare = (kept here.covered).1 here.bare;
        items = (
          way_down world runs f.function a (length u.nodes) t owned meets,
          each_append (ItemIn world memory f.function) (waits_to u.nodes a (above_in u.nodes (length u.nodes) t)) (drop (items_to a f.items) f.items) (way_owned world runs memory f.function a owned (length u.nodes) t meets)
              (each_drop (ItemIn world memory f.function) (items_to a f.items) f.items here.own),
        );
        stacked = (tt, way.0, way.1);
      })

  above_owned : (a : ℕ) → Meets a (above u.nodes n) → IsOwned world f.function a
  unfolding above
  above_owned a meets = way_up world runs f.function a (length u.nodes) n here.owned meets

  -- switch

  switches : (s : Blocks) (x : ℤ) (o : Option ℕ) → is_plain (kind_at u.nodes n) ≡ true → switch_target u.nodes n x ≡ o → Keeps world memory s.memory → Moves world memory f (switches_to u f.items s n o)
  switches s x None plain is keeps = over world runs memory f n items here plain s keeps
  switches s x (Some t) plain is keeps =
      let target = target_there u.nodes n x t is in
      jumps s (blocks_with u n) n t keeps target.plain target.meets (switch_open (kind_at u.nodes n) target.switch) here.owned

  pub switch_moves : (s : Blocks) (children : List ℕ) (values : List (ℕ × Value)) → is_plain (kind_at u.nodes n) ≡ true → Keeps world memory s.memory → Moves world memory f (switch_row u f.items s n children values)
  switch_moves s (c ∷ p ∷ []) [] plain keeps =
      over world runs memory f n items here plain (left u (Part p) s) (keeps_then world memory s.memory (left u (Part p) s).memory keeps (keeps_left world runs (Part p) s))
  switch_moves s (c ∷ p ∷ []) (v ∷ values) plain keeps =
      then_moves world runs memory f n items here (number_in (cell_of v.1)) (λ x. switches_to u f.items s n (switch_target u.nodes n x)) (λ x. switches s x (switch_target u.nodes n x) plain refl keeps)
  switch_moves s children values plain keeps = fails world runs memory f n items here Mismatch

  -- break and continue

  broken : (s : Blocks) (o : Option ℕ) → nearest u.nodes (is_sought LoopOrSwitch) (above u.nodes n) ≡ o → Keeps world memory s.memory → Moves world memory f (breaks u f.items s n o)
  broken s None is keeps = fails world runs memory f n items here Mismatch
  broken s (Some a) is keeps = λ change e.
      (let near = nearest_meets u.nodes (is_sought LoopOrSwitch) (above u.nodes n) a is in
      let kept = left_kept s (but_for (blocks_around u n) (blocks_around u a)) keeps in
      subst (Fits world memory f) (ok_one e)
      (record {
        leaves = (kept here.covered).0;
        bare = (kept here.covered).1 here.bare;
        items = each_drop (ItemIn world memory f.function) (items_to a f.items) f.items here.own;
        stacked = (tail_stands u.nodes (PendingOn world memory) a f.items (turned_plain (kind_at u.nodes a) near.1) here.whole).1;
      }))

  pub break_moves : (s : Blocks) → Keeps world memory s.memory → Moves world memory f (break_row u f.items s n)
  unfolding break_row
  break_moves s keeps = broken s (nearest u.nodes (is_sought LoopOrSwitch) (above u.nodes n)) refl keeps

  continued : (s : Blocks) (o : Option ℕ) → nearest u.nodes (is_sought LoopAlone) (above u.nodes n) ≡ o → Keeps world memory s.memory → Moves world memory f (continues u f.items s n o)
  continued s None is keeps = fails world runs memory f n items here Mismatch
  continued s (Some a) is keeps = λ change e.
      (let near = nearest_meets u.nodes (is_sought LoopAlone) (above u.nodes n) a is in
      let plain = loop_plain (kind_at u.nodes a) near.1 in
      let owned = above_owned a near.0 in
      let has = each_left_next (Has (children_at u.nodes a)) (kind_at u.nodes a) (children_at u.nodes a) (has_all (children_at u.nodes a)) in
      let kept = left_kept s (but_for (blocks_around u n) (blocks_with u a)) keeps in
      let tail = tail_stands u.nodes (PendingOn world memory) a f.items plain here.whole in
      subst (Fits world memory f) (ok_one e)
      (record {
        leaves = (kept here.covered).0;
        bare = (kept here.covered).1 here.bare;
        items = (
          (owned, children_owned world runs f.function a owned (left_next (kind_at u.nodes a) (children_at u.nodes a)) has, tt),
          each_drop (ItemIn world memory f.function) (items_to a f.items) f.items here.own,
        );
        stacked = (plain_wait u.nodes a (left_next (kind_at u.nodes a) (children_at u.nodes a)) [] plain has, tail.0, tail.1);
      }))

  pub continue_moves : (s : Blocks) → Keeps world memory s.memory → Moves world memory f (continue_row u f.items s n)
  unfolding continue_row
  continue_moves s keeps = continued s (nearest u.nodes (is_sought LoopAlone) (above u.nodes n)) refl keeps

  -- goto

  met : (s : Blocks) (t : ℕ) (o : Option ℕ) → is_plain (kind_at u.nodes t) ≡ true → meeting u.nodes (above u.nodes n) (above u.nodes t) ≡ o → Keeps world memory s.memory → Moves world memory f (goes_to u f.items s n t o)
  met s t None plain is keeps = fails world runs memory f n items here Mismatch
  met s t (Some a) plain is keeps =
      let m = meeting_meets u.nodes (above u.nodes n) (above u.nodes t) a is in
      jumps s (blocks_around u n) a t keeps plain m.1 m.2 (above_owned a m.0)

  sought : (s : Blocks) (name : List ℕ) (o : Option ℕ) → label_target u.nodes n name ≡ o → Keeps world memory s.memory → Moves world memory f (goto_found u f.items s n o)
  sought s name None is keeps = fails world runs memory f n items here Mismatch
  sought s name (Some t) is keeps = met s t (meeting u.nodes (above u.nodes n) (above u.nodes t)) (label_there u.nodes n name t is) refl keeps

  pub goto_moves : (s : Blocks) (name : List ℕ) → Keeps world memory s.memory → Moves world memory f (goto_row u f.items s n name)
  unfolding goto_row
  goto_moves s name keeps = sought s name (label_target u.nodes n name) refl keeps
