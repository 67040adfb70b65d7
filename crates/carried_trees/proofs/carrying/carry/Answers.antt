use Rattle.std.proofs.Common.{arith, rules, ◌≡◌, ◌<◌, ◌+◌, ◌∙◌, ℕ, Bool, true, false, Option, List, length, get_or, sym, ap, subst}
use Rattle.std.specs.Prelude.{IfSome, MatchOption}
use Rattle.c_types.specs.Trees.{Ctype}
use Rattle.core_tree.specs.declared.node.Node.{Node}
use Rattle.core_tree.specs.declared.node.Unit.{Unit}
use Rattle.core_nodes.specs.kept_nodes.Keeps.{AllUnder}
use Rattle.tree_reads.specs.leaf_maps.Numbers.{number_at}
use Rattle.carried_trees.specs.Copied.{AreBehind, AreCarried, AreTyped}
use Rattle.carried_trees.specs.Numbered.{AreNumbered}
use Rattle.carried_trees.proofs.Behind.{ids_there}
use Rattle.carried_trees.proofs.Moved.{all_moved, tree_there, not_there}
use Rattle.carried_trees.proofs.carrying.carry.Goals as goal

-- what is carried of a unit's nodes
carried_all : (u : Unit) (nodes : List Node) → u.nodes.items ≡ nodes → (entity own : ℕ → Option ℕ) (tag : ℕ → Option Ctype) (from : ℕ) (flags : List Bool) (new : Unit) → AreCarried entity own tag u from (length nodes) flags new → AreCarried entity own tag u from (length u.nodes.items) flags new
carried_all u nodes e entity own tag from flags new h = subst (λ (l : List Node). AreCarried entity own tag u from (length l) flags new) (sym e) h

pub carried_nodes-requires-clause-ids : goal.carried_nodes-requires-clause-ids
carried_nodes-requires-clause-ids c =
    let t = c.requires.types in
    ids_there t.0 c.args.walked.now.types c.args.unit.now.types (length c.args.walked.now.types.terms) c.args.types.now.ids.items c.args.types.now.given.items t.1

pub carried_nodes-requires-clause-flags : goal.carried_nodes-requires-clause-flags
carried_nodes-requires-clause-flags c = let t = c.requires.types.1 in t.flags ∙ sym t.long

pub carried_nodes-requires-clause-order : goal.carried_nodes-requires-clause-order
carried_nodes-requires-clause-order c =
    let nodes_are = sym (ap (λ v. v.items) c.replace-nodes.ensures.value) in
    subst AreBehind nodes_are c.requires.walked.children

pub carried_nodes-requires-clause-typed : goal.carried_nodes-requires-clause-typed
carried_nodes-requires-clause-typed c =
    let nodes_are = sym (ap (λ v. v.items) c.replace-nodes.ensures.value) in
    let count = length c.args.types.now.ids.items in
    subst (AreTyped count) nodes_are (λ i node at. subst (λ (n : ℕ). node.ty.0 < n) (sym c.requires.types.1.long) (c.requires.walked.types i node at))

pub placed-requires : goal.placed-requires
placed-requires c =
    let t = c.requires.types in
    let nodes_are = sym (ap (λ v. v.items) c.replace-nodes.ensures.value) in
    let carried = carried_all c.args.walked.now c.replace-nodes.result.items nodes_are (number_at c.args.entities.now) (number_at c.in_ok-own.own.numbers) t.0 c.in_ok-from.from c.in_ok-flags.flags.items c.carried_nodes.new.unit (c.in_ok-flags.ensures.carried c.args.walked.now t.0 c.requires.walked nodes_are t.1) in
    let long = ap length c.as_slice-2.ensures.value in
    omega (arith, long, carried.long, c.requires.top)

pub returns-in-Some-clause-tree : goal.returns-in-Some-clause-tree
returns-in-Some-clause-tree c = λ tag types.
    let u = c.args.walked.now in
    let top = c.args.top in
    let from = c.in_ok-from.from in
    let own = c.in_ok-own.own in
    let flags = c.in_ok-flags.flags.items in
    let nodes : from ≡ length c.args.unit.now.nodes.items = search rules in
    let entities : c.in_ok-first.first ≡ length c.args.unit.now.entities.items = search rules in
    let numbered : AreNumbered u.nodes.items from c.in_ok-first.first (length u.nodes.items) own = subst (λ (l : List Node). AreNumbered l from c.in_ok-first.first (length l) own) c.as_slice.ensures.value c.in_ok-own.ensures.numbered in
    let place : c.in-Some.node ≡ from + top = subst (λ (o : Option ℕ). IfSome o (λ (i : ℕ). i ≡ from + top)) c.in-Some.is c.in_ok-node.ensures.is in
    let read : get_or c.as_slice-2.result.now top false ≡ true = subst (λ (o : Option ℕ). MatchOption o (get_or c.as_slice-2.result.now top false ≡ false) (λ (i : ℕ). get_or c.as_slice-2.result.now top false ≡ true)) c.in-Some.is c.in_ok-node.ensures.given in
    let flag : get_or flags top false ≡ true = subst (λ (l : List Bool). get_or l top false ≡ true) c.as_slice-2.ensures.value read in
    let nodes_are = sym (ap (λ v. v.items) c.replace-nodes.ensures.value) in
    let carried = carried_all u c.replace-nodes.result.items nodes_are (number_at c.args.entities.now) (number_at c.in_ok-own.own.numbers) tag c.in_ok-from.from c.in_ok-flags.flags.items c.carried_nodes.new.unit (c.in_ok-flags.ensures.carried u tag c.requires.walked nodes_are types) in
    tree_there (number_at c.args.entities.now) tag u c.requires.walked top c.requires.top c.requires.alone from c.in_ok-first.first own numbered flags c.carried_nodes.new.unit carried c.args.unit.now c.in-Some.node nodes entities place flag

pub returns-in-None-clause-tree : goal.returns-in-None-clause-tree
returns-in-None-clause-tree c = λ tag types.
    let u = c.args.walked.now in
    let top = c.args.top in
    let from = c.in_ok-from.from in
    let own = c.in_ok-own.own in
    let flags = c.in_ok-flags.flags.items in
    let numbered : AreNumbered u.nodes.items from c.in_ok-first.first (length u.nodes.items) own = subst (λ (l : List Node). AreNumbered l from c.in_ok-first.first (length l) own) c.as_slice.ensures.value c.in_ok-own.ensures.numbered in
    let read : get_or c.as_slice-2.result.now top false ≡ false = subst (λ (o : Option ℕ). MatchOption o (get_or c.as_slice-2.result.now top false ≡ false) (λ (i : ℕ). get_or c.as_slice-2.result.now top false ≡ true)) c.in-None.is c.in_ok-node.ensures.given in
    let flag : get_or flags top false ≡ false = subst (λ (l : List Bool). get_or l top false ≡ false) c.as_slice-2.ensures.value read in
    let nodes_are = sym (ap (λ v. v.items) c.replace-nodes.ensures.value) in
    let carried = carried_all u c.replace-nodes.result.items nodes_are (number_at c.args.entities.now) (number_at c.in_ok-own.own.numbers) tag c.in_ok-from.from c.in_ok-flags.flags.items c.carried_nodes.new.unit (c.in_ok-flags.ensures.carried u tag c.requires.walked nodes_are types) in
    not_there (number_at c.args.entities.now) tag u c.requires.walked top c.requires.top c.requires.alone from c.in_ok-first.first own numbered flags c.carried_nodes.new.unit carried flag

pub returns-in-Some-clause-within : goal.returns-in-Some-clause-within
returns-in-Some-clause-within c =
    let t = c.requires.types in
    let from = c.in_ok-from.from in
    let nodes_are = sym (ap (λ v. v.items) c.replace-nodes.ensures.value) in
    let carried = carried_all c.args.walked.now c.replace-nodes.result.items nodes_are (number_at c.args.entities.now) (number_at c.in_ok-own.own.numbers) t.0 c.in_ok-from.from c.in_ok-flags.flags.items c.carried_nodes.new.unit (c.in_ok-flags.ensures.carried c.args.walked.now t.0 c.requires.walked nodes_are t.1) in
    let place : c.in-Some.node ≡ from + c.args.top = subst (λ (o : Option ℕ). IfSome o (λ (i : ℕ). i ≡ from + c.args.top)) c.in-Some.is c.in_ok-node.ensures.is in
    omega (arith, place, carried.nodes, c.requires.top)

pub returns-in-Some-clause-only : goal.returns-in-Some-clause-only
returns-in-Some-clause-only c =
    let t = c.requires.types in
    let u = c.args.walked.now in
    let from = c.in_ok-from.from in
    let new = c.carried_nodes.new.unit in
    let nodes : from ≡ length c.args.unit.now.nodes.items = search rules in
    let nodes_are = sym (ap (λ v. v.items) c.replace-nodes.ensures.value) in
    let carried = carried_all u c.replace-nodes.result.items nodes_are (number_at c.args.entities.now) (number_at c.in_ok-own.own.numbers) t.0 c.in_ok-from.from c.in_ok-flags.flags.items c.carried_nodes.new.unit (c.in_ok-flags.ensures.carried u t.0 c.requires.walked nodes_are t.1) in
    let place : c.in-Some.node ≡ from + c.args.top = subst (λ (o : Option ℕ). IfSome o (λ (i : ℕ). i ≡ from + c.args.top)) c.in-Some.is c.in_ok-node.ensures.is in
    let all = all_moved (number_at c.args.entities.now) (number_at c.in_ok-own.own.numbers) t.0 u from c.in_ok-flags.flags.items new carried c.args.top c.requires.alone in
    subst (λ (n : ℕ). AllUnder new n c.in-Some.node) nodes (subst (λ (i : ℕ). AllUnder new from i) (sym place) all)
