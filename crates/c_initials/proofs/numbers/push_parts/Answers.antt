use Rattle.std.proofs.Common.{refl, ap, ◌∙◌, ◌++◌, List, length, ◌<◌, ℕ}
use Rattle.std.proofs.lemmas.Option.{slice_get_read}
use Rattle.std.proofs.lemmas.List.Elements.{All-append, All-same}
use Rattle.c_senses.specs.Initialised.{are_fixed_numbers}
use Rattle.core_nodes.specs.Standing.{cores_at}
use Rattle.c_initials.proofs.NumberLaws.{always, never, no_integer, of_numbers, fewer, same_fewer, children_within}
use Rattle.c_initials.proofs.numbers.push_parts.Goals as goal

pub returns-then-not-is_integer-clause-fixed : goal.returns-then-not-is_integer-clause-fixed
returns-then-not-is_integer-clause-fixed c =
    let u = c.args.unit.now in
    let at = slice_get_read u.nodes.items (length u.nodes.items) c.args.node c.index-there.result.now refl c.requires.node c.index-there.ensures in
    let list = are_fixed_numbers (cores_at u c.args.stack.now.items) in
    no_integer u c.requires.ready c.args.node c.index-there.result.now at list list c.in-OfNumbers.ensures c.if-not-is_integer.ensures

pub returns-then-not-is_integer-clause-fewer : goal.returns-then-not-is_integer-clause-fewer
returns-then-not-is_integer-clause-fewer c =
    let u = c.args.unit.now in
    let at = slice_get_read u.nodes.items (length u.nodes.items) c.args.node c.index-there.result.now refl c.requires.node c.index-there.ensures in
    same_fewer u c.requires.ready c.args.node c.index-there.result.now at c.args.stack.now.items

pub returns-in-Always-clause-fixed : goal.returns-in-Always-clause-fixed
returns-in-Always-clause-fixed c =
    let u = c.args.unit.now in
    let at = slice_get_read u.nodes.items (length u.nodes.items) c.args.node c.index-there.result.now refl c.requires.node c.index-there.ensures in
    always u c.requires.ready c.args.node c.index-there.result.now at (are_fixed_numbers (cores_at u c.args.stack.now.items)) c.in-Always.ensures

pub returns-in-Always-clause-fewer : goal.returns-in-Always-clause-fewer
returns-in-Always-clause-fewer c =
    let u = c.args.unit.now in
    let at = slice_get_read u.nodes.items (length u.nodes.items) c.args.node c.index-there.result.now refl c.requires.node c.index-there.ensures in
    same_fewer u c.requires.ready c.args.node c.index-there.result.now at c.args.stack.now.items

pub returns-in_ok-push_all-in-OfNumbers-clause-fixed : goal.returns-in_ok-push_all-in-OfNumbers-clause-fixed
returns-in_ok-push_all-in-OfNumbers-clause-fixed c =
    let u = c.args.unit.now in
    let at = slice_get_read u.nodes.items (length u.nodes.items) c.args.node c.index-there.result.now refl c.requires.node c.index-there.ensures in
    of_numbers u c.requires.ready c.args.node c.index-there.result.now at c.args.stack.now.items c.push_all.new.stack.items c.in-OfNumbers.ensures c.if-not-is_integer.ensures
    (c.in_ok-push_all-in-OfNumbers.ensures ∙ ap (λ (l : List ℕ). c.args.stack.now.items ++ l) c.as_slice.ensures)

pub returns-in_ok-push_all-in-OfNumbers-clause-within : goal.returns-in_ok-push_all-in-OfNumbers-clause-within
returns-in_ok-push_all-in-OfNumbers-clause-within c =
    let u = c.args.unit.now in
    let n = length u.nodes.items in
    let at = slice_get_read u.nodes.items n c.args.node c.index-there.result.now refl c.requires.node c.index-there.ensures in
    let pushed = c.in_ok-push_all-in-OfNumbers.ensures ∙ ap (λ (l : List ℕ). c.args.stack.now.items ++ l) c.as_slice.ensures in
    All-same (λ (i : ℕ). i < n) c.push_all.new.stack.items (c.args.stack.now.items ++ c.index-there.result.now.children) pushed
    (All-append (λ (i : ℕ). i < n) c.args.stack.now.items c.index-there.result.now.children c.requires.stack (children_within u c.requires.ready c.args.node c.index-there.result.now at c.requires.node))

pub returns-in_ok-push_all-in-OfNumbers-clause-fewer : goal.returns-in_ok-push_all-in-OfNumbers-clause-fewer
returns-in_ok-push_all-in-OfNumbers-clause-fewer c =
    let u = c.args.unit.now in
    let at = slice_get_read u.nodes.items (length u.nodes.items) c.args.node c.index-there.result.now refl c.requires.node c.index-there.ensures in
    fewer u c.requires.ready c.args.node c.index-there.result.now at c.args.stack.now.items c.push_all.new.stack.items
    (c.in_ok-push_all-in-OfNumbers.ensures ∙ ap (λ (l : List ℕ). c.args.stack.now.items ++ l) c.as_slice.ensures)

pub returns-in-Never-clause-fixed : goal.returns-in-Never-clause-fixed
returns-in-Never-clause-fixed c =
    let u = c.args.unit.now in
    let at = slice_get_read u.nodes.items (length u.nodes.items) c.args.node c.index-there.result.now refl c.requires.node c.index-there.ensures in
    let list = are_fixed_numbers (cores_at u c.args.stack.now.items) in
    never u c.requires.ready c.args.node c.index-there.result.now at list list c.in-Never.ensures

pub returns-in-Never-clause-fewer : goal.returns-in-Never-clause-fewer
returns-in-Never-clause-fewer c =
    let u = c.args.unit.now in
    let at = slice_get_read u.nodes.items (length u.nodes.items) c.args.node c.index-there.result.now refl c.requires.node c.index-there.ensures in
    same_fewer u c.requires.ready c.args.node c.index-there.result.now at c.args.stack.now.items
