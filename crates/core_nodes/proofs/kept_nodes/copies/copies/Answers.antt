use Rattle.std.proofs.Common.{arith, rules, Option, None, IsSome, ◌≡◌, ◌∙◌, ℕ, zero, suc, ◌+◌, ◌<◌, ◌++◌, [], ◌∷◌, List, Some, map, length, length-append, length-drop, get_or, drop, false, sym, ap, subst, refl}
use Rattle.std.specs.VecDeque.{deque_len}
use Rattle.core_tree.specs.declared.node.Node.{Node}
use Rattle.core_nodes.specs.PassedOn.{Of}
use Rattle.c_types.specs.Table.{type_of}
use Rattle.core_nodes.specs.Standing.{core_at, cores_at}
use Rattle.core_nodes.proofs.Growing.{builds_on}
use Rattle.core_nodes.proofs.Failing.{fits_core}
use Rattle.core_nodes.specs.kept_nodes.Marked.{marked}
use Rattle.core_nodes.specs.kept_nodes.Copied.{number_of, AreCopied}
use Rattle.core_nodes.proofs.kept_nodes.Copying.{next_node, type_within, children_within, one_copied, one_skipped, mark_is}
use Rattle.core_nodes.proofs.kept_nodes.copies.copies.Goals as goal

pub returns-in_err-number-clause-builds : goal.returns-in_err-number-clause-builds
returns-in_err-number-clause-builds c = builds_on c.args.unit.now c.loop-node.unit c.copy_node.new.unit c.loop-node.invariant.builds c.copy_node.ensures.builds

pub returns-in_err-push-clause-builds : goal.returns-in_err-push-clause-builds
returns-in_err-push-clause-builds c = builds_on c.args.unit.now c.loop-node.unit c.copy_node.new.unit c.loop-node.invariant.builds c.copy_node.ensures.builds

pub copy_node-requires-clause-ty : goal.copy_node-requires-clause-ty
copy_node-requires-clause-ty c =
    let u0 = c.args.unit.now in
    let cut = c.args.cut.items in
    let numbers = c.loop-node.numbers.items in
    let k = length numbers in
    let next = next_node u0.nodes.items cut c.loop-node.rest.items c.pop_front.new.self.items k c.args.from c.in-Some.node c.requires.from c.loop-node.invariant.rest c.in-Some.ensures.items in
    let all = length-append u0.nodes.items cut in
    let lt : k < length c.args.marks.now = omega (arith, next.2, all, c.requires.closed.long, c.requires.from) in
    type_within u0 c.loop-node.unit cut c.args.from k c.args.marks.now numbers c.in-Some.node c.requires.from c.requires.order c.requires.closed c.loop-node.invariant.builds c.loop-node.invariant.copied next.0 lt

pub copy_node-requires-clause-children : goal.copy_node-requires-clause-children
copy_node-requires-clause-children c =
    let u0 = c.args.unit.now in
    let u = c.loop-node.unit in
    let cut = c.args.cut.items in
    let marks = c.args.marks.now in
    let numbers = c.loop-node.numbers.items in
    let k = length numbers in
    let node : Node = c.in-Some.node in
    let from = c.args.from in
    let next = next_node u0.nodes.items cut c.loop-node.rest.items c.pop_front.new.self.items k from node c.requires.from c.loop-node.invariant.rest c.in-Some.ensures.items in
    let all = length-append u0.nodes.items cut in
    let lt : k < length marks = omega (arith, next.2, all, c.requires.closed.long, c.requires.from) in
    let same : c.len.result ≡ k = omega (arith, c.len.ensures) in
    let on : marked marks k = ap (λ (i : ℕ). get_or marks i false) (sym same) ∙ (sym (mark_is marks c.len.result _ (omega (arith, same, lt))) ∙ c.if-marks-len.true) in
    subst (λ (ns : List ℕ). (j d : ℕ) → j < length (map (number_of from ns) node.children) → get_or (map (number_of from ns) node.children) j d < length u.nodes.items) (sym c.as_slice.ensures.value)
    (children_within u0 u cut from k marks numbers node c.requires.from c.requires.order c.requires.closed c.loop-node.invariant.builds c.loop-node.invariant.copied next.0 lt on)

pub loop-node-preserved-in-Continue-branch-2 : goal.loop-node-preserved-in-Continue-branch-2
loop-node-preserved-in-Continue-branch-2 c =
    let u0 = c.args.unit.now in
    let u = c.loop-node.unit in
    let u1 = c.copy_node.new.unit in
    let cut = c.args.cut.items in
    let marks = c.args.marks.now in
    let numbers = c.loop-node.numbers.items in
    let more = c.push.new.self.items in
    let k = length numbers in
    let node : Node = c.in-Some.node in
    let from = c.args.from in
    let m = c.in_ok-number.number in
    let next = next_node u0.nodes.items cut c.loop-node.rest.items c.pop_front.new.self.items k from node c.requires.from c.loop-node.invariant.rest c.in-Some.ensures.items in
    let all = length-append u0.nodes.items cut in
    let lt : k < length marks = omega (arith, next.2, all, c.requires.closed.long, c.requires.from) in
    let same : c.len.result ≡ k = omega (arith, c.len.ensures) in
    let on : marked marks k = ap (λ (i : ℕ). get_or marks i false) (sym same) ∙ (sym (mark_is marks c.len.result _ (omega (arith, same, lt))) ∙ c.if-marks-len.true) in
    let ev = c.as_slice.ensures.value in
    let added = subst (λ (ns : List ℕ). u1.nodes.items ≡ u.nodes.items ++ record node { children = map (number_of from ns) node.children } ∷ []) ev c.in_ok-number.ensures.added.1 in
    let made = subst (λ (ns : List ℕ). core_at u1 m ≡ Of node.kind node.place (type_of u.types node.ty.0) (cores_at u (map (number_of from ns) node.children))) ev (fits_core u1 m _ c.in_ok-number.ensures.made) in
    let pushed : more ≡ numbers ++ m ∷ [] = c.in_ok-push.ensures.items in
    let long : length more ≡ k + 1 = ap length pushed ∙ length-append numbers (m ∷ []) in
    let copied = one_copied u0 u cut from k marks numbers node c.requires.from c.requires.order c.requires.closed c.loop-node.invariant.builds c.loop-node.invariant.copied next.0 lt on u1 m more c.in_ok-number.ensures.added.0 added made c.copy_node.ensures.builds pushed in
    record {
      ready = c.copy_node.ensures.ready;
      builds = builds_on u0 u u1 c.loop-node.invariant.builds c.copy_node.ensures.builds;
      rest = next.1 ∙ ap (λ (n : ℕ). drop n cut) (sym long);
      few = omega (arith, long, next.2);
      copied = subst (λ (n : ℕ). AreCopied u0.types (u0.nodes.items ++ cut) from marks n more u1) (sym long) copied;
    }

pub loop-node-preserved-in_ok-push-2 : goal.loop-node-preserved-in_ok-push-2
loop-node-preserved-in_ok-push-2 c =
    let u0 = c.args.unit.now in
    let u = c.loop-node.unit in
    let cut = c.args.cut.items in
    let marks = c.args.marks.now in
    let numbers = c.loop-node.numbers.items in
    let more = c.push-else-marks-len.new.self.items in
    let k = length numbers in
    let node : Node = c.in-Some.node in
    let from = c.args.from in
    let next = next_node u0.nodes.items cut c.loop-node.rest.items c.pop_front.new.self.items k from node c.requires.from c.loop-node.invariant.rest c.in-Some.ensures.items in
    let all = length-append u0.nodes.items cut in
    let lt : k < length marks = omega (arith, next.2, all, c.requires.closed.long, c.requires.from) in
    let same : c.len.result ≡ k = omega (arith, c.len.ensures) in
    let off : get_or marks k false ≡ false = ap (λ (i : ℕ). get_or marks i false) (sym same) ∙ (sym (mark_is marks c.len.result _ (omega (arith, same, lt))) ∙ c.if-marks-len.false) in
    let pushed : more ≡ numbers ++ 0 ∷ [] = c.in_ok-push-2.ensures.items in
    let long : length more ≡ k + 1 = ap length pushed ∙ length-append numbers (0 ∷ []) in
    let copied = one_skipped u0 u cut from k marks numbers node c.requires.from c.requires.order c.requires.closed c.loop-node.invariant.builds c.loop-node.invariant.copied next.0 lt more off pushed in
    record {
      ready = c.loop-node.invariant.ready;
      builds = c.loop-node.invariant.builds;
      rest = next.1 ∙ ap (λ (n : ℕ). drop n cut) (sym long);
      few = omega (arith, long, next.2);
      copied = subst (λ (n : ℕ). AreCopied u0.types (u0.nodes.items ++ cut) from marks n more u) (sym long) copied;
    }

pub loop-node-preserved : goal.loop-node-preserved
loop-node-preserved c =
    let u0 = c.args.unit.now in
    let u = c.loop-node.unit in
    let cut = c.args.cut.items in
    let marks = c.args.marks.now in
    let numbers = c.loop-node.numbers.items in
    let more = c.push-else-marks-len.new.self.items in
    let k = length numbers in
    let node : Node = c.in-Some.node in
    let from = c.args.from in
    let next = next_node u0.nodes.items cut c.loop-node.rest.items c.pop_front.new.self.items k from node c.requires.from c.loop-node.invariant.rest c.in-Some.ensures.items in
    let all = length-append u0.nodes.items cut in
    let lt : k < length marks = omega (arith, next.2, all, c.requires.closed.long, c.requires.from) in
    let same : c.len.result ≡ k = omega (arith, c.len.ensures) in
    let off : get_or marks k false ≡ false = ap (λ (i : ℕ). get_or marks i false) (sym same) ∙ (sym (mark_is marks c.len.result _ (omega (arith, same, lt))) ∙ c.if-marks-len.false) in
    let pushed : more ≡ numbers ++ 0 ∷ [] = c.in_ok-push-2.ensures.items in
    let long : length more ≡ k + 1 = ap length pushed ∙ length-append numbers (0 ∷ []) in
    let copied = one_skipped u0 u cut from k marks numbers node c.requires.from c.requires.order c.requires.closed c.loop-node.invariant.builds c.loop-node.invariant.copied next.0 lt more off pushed in
    record {
      ready = c.loop-node.invariant.ready;
      builds = c.loop-node.invariant.builds;
      rest = next.1 ∙ ap (λ (n : ℕ). drop n cut) (sym long);
      few = omega (arith, long, next.2);
      copied = subst (λ (n : ℕ). AreCopied u0.types (u0.nodes.items ++ cut) from marks n more u) (sym long) copied;
    }

not_some : (o : Option Node) → ((x : Node) → o ≡ Some x → ⊥) → IsSome o → ⊥
not_some None h s = search rules
not_some (Some x) h s = h x refl

none_left : (n : ℕ) → (0 < n → ⊥) → n ≡ 0
none_left zero h = refl
none_left (suc n) h = absurd (h (omega arith))

pub returns-clause-copied : goal.returns-clause-copied
returns-clause-copied c =
    let u0 = c.args.unit.now in
    let cut = c.args.cut.items in
    let numbers = c.loop-node.numbers.items in
    let empty : deque_len c.loop-node.rest ≡ 0 = none_left (deque_len c.loop-node.rest) (λ h. not_some c.pop_front.result (λ x e. c.in_default.not-Some x e) (c.pop_front.ensures.variant.1 h)) in
    let long = ap length c.loop-node.invariant.rest ∙ length-drop (length numbers) cut in
    let all : length numbers ≡ length cut = omega (arith, empty, long, c.loop-node.invariant.few) in
    subst (λ (n : ℕ). AreCopied u0.types (u0.nodes.items ++ cut) c.args.from c.args.marks.now n numbers c.loop-node.unit) all c.loop-node.invariant.copied
