use Rattle.std.proofs.Common.{arith, rules, ◌≡◌, ◌<◌, ◌+◌, ◌∙◌, ◌&&◌, ◌++◌, [], ◌∷◌, zero, suc, ℕ, Bool, false, Option, Some, None, IsSome, List, drop, length, length-append, length-drop, get_or, slice_get, is_some, refl, sym, ap, subst}
use Rattle.std.specs.VecDeque.{deque_len}
use Rattle.c_types.specs.Table.{Table, type_of}
use Rattle.core_tree.specs.declared.node.Node.{Node}
use Rattle.core_nodes.proofs.Growing.{builds_on}
use Rattle.tree_reads.specs.leaf_maps.Numbers.{number_at}
use Rattle.carried_trees.specs.carried_types.Types.{carried_type}
use Rattle.carried_trees.specs.Carried.{is_given_kind}
use Rattle.carried_trees.specs.Copied.{AreCarried, all_flagged}
use Rattle.carried_trees.proofs.Behind.{next_node, carried_more}
use Rattle.carried_trees.proofs.nodes.carried_nodes.Goals as goal

pub loop-node-preserved : goal.loop-node-preserved
loop-node-preserved c =
    let u0 = c.args.unit.now in
    let u = c.loop-node.unit in
    let v = c.push_carried.new.unit in
    let nodes = c.args.nodes.items in
    let flags = c.loop-node.flags.items in
    let more = c.push.new.self.items in
    let k = length flags in
    let node : Node = c.in-Some.node in
    let from = c.args.from in
    let entity = number_at c.args.entities.now in
    let own = number_at c.args.own.now in
    let ids = c.args.types.now.ids.items in
    let given = c.args.types.now.given.items in
    let inv = c.loop-node.invariant in
    let flag = c.is_given-flag.result in
    let next = next_node nodes c.loop-node.rest.items c.pop_front.new.self.items k node inv.rest c.in-Some.ensures.items in
    let pushed : more ≡ flags ++ flag ∷ [] = c.in_ok-push.ensures.items in
    let long : length more ≡ k + 1 = ap length pushed ∙ length-append flags (flag ∷ []) in
    let is_flag : flag ≡ ((is_given_kind entity (λ e. is_some (own e)) node.kind && get_or given node.ty.0 false) && all_flagged flags node.children) =
    subst (λ (l : List Bool). flag ≡ ((is_given_kind entity (λ e. is_some (own e)) node.kind && get_or given node.ty.0 false) && all_flagged l node.children)) c.as_slice.ensures.value c.is_given-flag.ensures in
    let added = c.in_ok-push_carried.ensures.added in
    let longer = ap length added ∙ length-append u.nodes.items _ in
    record {
      ready = c.push_carried.ensures.ready;
      builds = builds_on u0 u v inv.builds c.push_carried.ensures.builds;
      types = c.push_carried.ensures.types ∙ inv.types;
      rest = next.1 ∙ ap (λ (n : ℕ). drop n nodes) (sym long);
      few = omega (arith, long, next.2);
      count = omega (arith, long, longer, inv.count);
      carried = λ old tag ready same types.
          let at : slice_get old.nodes.items k ≡ Some node = ap (λ (l : List Node). slice_get l k) same ∙ next.0 in
          let lt : node.ty.0 < length old.types.terms = ready.types k node at in
          let typed : type_of u.types (get_or ids node.ty.0 0) ≡ carried_type tag (type_of old.types node.ty.0) = ap (λ (t : Table). type_of t (get_or ids node.ty.0 0)) inv.types ∙ types.types node.ty.0 lt in
          subst (λ (n : ℕ). AreCarried entity own tag old from n more v) (sym long)
          (carried_more entity own tag old from k flags u (inv.carried old tag ready same types) ready node at v c.push_carried.ensures.builds (type_of u.types (get_or ids node.ty.0 0)) typed c.in_ok-push_carried.ensures.made (get_or ids node.ty.0 0) added more flag pushed
          (get_or given node.ty.0 false) (types.given_are node.ty.0 lt) is_flag);
    }

not_some : (o : Option Node) → ((x : Node) → o ≡ Some x → ⊥) → IsSome o → ⊥
not_some None h s = search rules
not_some (Some x) h s = h x refl

none_left : (n : ℕ) → (0 < n → ⊥) → n ≡ 0
none_left zero h = refl
none_left (suc n) h = absurd (h (omega arith))

pub returns-clause-carried : goal.returns-clause-carried
returns-clause-carried c = λ old tag ready same types.
    let nodes = c.args.nodes.items in
    let flags = c.loop-node.flags.items in
    let empty : deque_len c.loop-node.rest ≡ 0 = none_left (deque_len c.loop-node.rest) (λ h. not_some c.pop_front.result (λ x e. c.in_default.not-Some x e) (c.pop_front.ensures.variant.1 h)) in
    let left = ap length c.loop-node.invariant.rest ∙ length-drop (length flags) nodes in
    let all : length flags ≡ length nodes = omega (arith, empty, left, c.loop-node.invariant.few) in
    subst (λ (n : ℕ). AreCarried (number_at c.args.entities.now) (number_at c.args.own.now) tag old c.args.from n flags c.loop-node.unit) all (c.loop-node.invariant.carried old tag ready same types)

pub is_given-flag-requires-clause-ty : goal.is_given-flag-requires-clause-ty
is_given-flag-requires-clause-ty c =
    let nodes = c.args.nodes.items in
    let k = length c.loop-node.flags.items in
    let node : Node = c.in-Some.node in
    let next = next_node nodes c.loop-node.rest.items c.pop_front.new.self.items k node c.loop-node.invariant.rest c.in-Some.ensures.items in
    let typed : node.ty.0 < length c.args.types.now.ids.items = c.requires.typed k node next.0 in
    let flags : length c.args.types.now.given.items ≡ length c.args.types.now.ids.items = c.requires.flags in
    omega (arith, typed, flags)

pub is_given-flag-requires-clause-children : goal.is_given-flag-requires-clause-children
is_given-flag-requires-clause-children c = λ i d lt.
    let nodes = c.args.nodes.items in
    let k = length c.loop-node.flags.items in
    let node : Node = c.in-Some.node in
    let next = next_node nodes c.loop-node.rest.items c.pop_front.new.self.items k node c.loop-node.invariant.rest c.in-Some.ensures.items in
    let below : get_or node.children i d < k = c.requires.order k node next.0 i d lt in
    let long : length c.as_slice.result.now ≡ k = ap length c.as_slice.ensures.value in
    omega (arith, below, long)

pub push_carried-requires-clause-ty : goal.push_carried-requires-clause-ty
push_carried-requires-clause-ty c =
    let nodes = c.args.nodes.items in
    let k = length c.loop-node.flags.items in
    let node : Node = c.in-Some.node in
    let next = next_node nodes c.loop-node.rest.items c.pop_front.new.self.items k node c.loop-node.invariant.rest c.in-Some.ensures.items in
    c.requires.typed k node next.0

pub push_carried-requires-clause-children : goal.push_carried-requires-clause-children
push_carried-requires-clause-children c = λ i d lt.
    let nodes = c.args.nodes.items in
    let k = length c.loop-node.flags.items in
    let node : Node = c.in-Some.node in
    let next = next_node nodes c.loop-node.rest.items c.pop_front.new.self.items k node c.loop-node.invariant.rest c.in-Some.ensures.items in
    let below : get_or node.children i d < k = c.requires.order k node next.0 i d lt in
    let count : length c.loop-node.unit.nodes.items ≡ c.args.from + k = c.loop-node.invariant.count in
    omega (arith, below, count)
