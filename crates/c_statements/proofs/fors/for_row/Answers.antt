use Rattle.std.proofs.Common.{arith, ◌<◌, ◌≤◌, ℕ, List, Option, Ok, Err, length, is_some, ap, ◌∙◌, subst, sym}
use Rattle.std.proofs.lemmas.List.Elements.{All-same}
use Rattle.core_tree.specs.declared.node.NodeKind.{NodeKind}
use Rattle.core_tree.specs.declared.node.NodeKind.TheVariants.{For}
use Rattle.c_types.specs.Table.{type_of}
use Rattle.c_consts.specs.Core.{Core}
use Rattle.c_senses.specs.Tree.{place_at}
use Rattle.c_senses.specs.Sense.{Sense, sense_in}
use Rattle.c_senses.specs.Statements as spec
use Rattle.core_nodes.specs.Standing.{core_at, cores_at, Made}
use Rattle.core_nodes.proofs.Growing.{builds_on, knows_on}
use Rattle.c_results.specs.Standing.{senses_made}
use Rattle.c_results.proofs.Keeping.{mades_kept}
use Rattle.tree_reads.specs.Sources.{source_in}
use Rattle.c_statements.specs.Others.{OtherMade}
use Rattle.c_statements.proofs.Brought.{row_made}
use Rattle.c_statements.proofs.Turns.{some_core, first_fails, second_fails, third_fails, last_fails, all_fit, other_fits, parts_on, parts_within, some_same, kind_same}
use Rattle.c_statements.proofs.fors.for_row.Goals as goal

pub returns-in-Err-clause-made : goal.returns-in-Err-clause-made
returns-in-Err-clause-made c = λ w uses knows are.
    let s = source_in c.args.syntax.now uses in
    let u0 = c.args.unit.now in
    let u1 = c.for_first.new.unit in
    let sense = sense_in (senses_made u0 c.args.results.now) in
    let at = c.args.at in
    let list = c.args.list.now in
    let p = c.for_parts-parts.result in
    let g = spec.for_first w s sense at p.first in
    let h = spec.for_condition w s sense at p.condition in
    let k = spec.for_after w s sense at p.after in
    let b = spec.body_of w s sense at (spec.statements_among w s sense list) in
    let kind : Option Core → Option Core → NodeKind = λ y z. For (spec.for_objects w s sense p.first) (is_some y) (is_some z) in
    let m = first_fails kind (place_at s at) g h k b u1 u1 c.in-Err.fault (c.in-Err.ensures.made w knows) in
    subst (λ (x : spec.ForParts). Made u1 (Err c.in-Err.fault) (spec.for_of w s sense at x list)) (c.for_parts-parts.ensures w sense) m

pub returns-in-Err-for_condition-clause-made : goal.returns-in-Err-for_condition-clause-made
returns-in-Err-for_condition-clause-made c = λ w uses knows are.
    let s = source_in c.args.syntax.now uses in
    let u0 = c.args.unit.now in
    let u1 = c.for_first.new.unit in
    let u2 = c.for_condition.new.unit in
    let results = c.args.results.now in
    let sense = sense_in (senses_made u0 results) in
    let at = c.args.at in
    let list = c.args.list.now in
    let p = c.for_parts-parts.result in
    let g = spec.for_first w s sense at p.first in
    let h = spec.for_condition w s sense at p.condition in
    let k = spec.for_after w s sense at p.after in
    let b = spec.body_of w s sense at (spec.statements_among w s sense list) in
    let kind : Option Core → Option Core → NodeKind = λ y z. For (spec.for_objects w s sense p.first) (is_some y) (is_some z) in
    let b1 = c.in-Ok.ensures.builds in
    let knows1 = knows_on w u0 u1 b1 knows in
    let mh = subst (λ (ss : List Sense). OtherMade u2 (Err c.in-Err-for_condition.fault) (spec.for_condition w s (sense_in ss) at p.condition)) (mades_kept u0 u1 b1 results c.requires.results) (c.in-Err-for_condition.ensures.made w s knows1) in
    let m = second_fails kind (place_at s at) g h k b u2 u2 c.in-Err-for_condition.fault _ (c.in-Ok.ensures.made w knows) mh in
    subst (λ (x : spec.ForParts). Made u2 (Err c.in-Err-for_condition.fault) (spec.for_of w s sense at x list)) (c.for_parts-parts.ensures w sense) m

pub returns-in-Err-for_after-clause-made : goal.returns-in-Err-for_after-clause-made
returns-in-Err-for_after-clause-made c = λ w uses knows are.
    let s = source_in c.args.syntax.now uses in
    let u0 = c.args.unit.now in
    let u1 = c.for_first.new.unit in
    let u2 = c.for_condition.new.unit in
    let u3 = c.for_after.new.unit in
    let results = c.args.results.now in
    let sense = sense_in (senses_made u0 results) in
    let at = c.args.at in
    let list = c.args.list.now in
    let p = c.for_parts-parts.result in
    let g = spec.for_first w s sense at p.first in
    let h = spec.for_condition w s sense at p.condition in
    let k = spec.for_after w s sense at p.after in
    let b = spec.body_of w s sense at (spec.statements_among w s sense list) in
    let kind : Option Core → Option Core → NodeKind = λ y z. For (spec.for_objects w s sense p.first) (is_some y) (is_some z) in
    let b1 = c.in-Ok.ensures.builds in
    let b2 = builds_on u0 u1 u2 b1 c.in-Ok-for_condition.ensures.builds in
    let knows1 = knows_on w u0 u1 b1 knows in
    let knows2 = knows_on w u0 u2 b2 knows in
    let mh = subst (λ (ss : List Sense). OtherMade u2 (Ok c.in-Ok-for_condition.condition) (spec.for_condition w s (sense_in ss) at p.condition)) (mades_kept u0 u1 b1 results c.requires.results) (c.in-Ok-for_condition.ensures.made w s knows1) in
    let mk = subst (λ (ss : List Sense). OtherMade u3 (Err c.in-Err-for_after.fault) (spec.for_after w s (sense_in ss) at p.after)) (mades_kept u0 u2 b2 results c.requires.results) (c.in-Err-for_after.ensures.made w s knows2) in
    let m = third_fails kind (place_at s at) g h k b u3 u3 c.in-Err-for_after.fault _ (some_core u2 c.in-Ok-for_condition.condition) (c.in-Ok.ensures.made w knows) (other_fits u2 c.in-Ok-for_condition.condition h mh) mk in
    subst (λ (x : spec.ForParts). Made u3 (Err c.in-Err-for_after.fault) (spec.for_of w s sense at x list)) (c.for_parts-parts.ensures w sense) m

pub returns-in-Err-body-clause-made : goal.returns-in-Err-body-clause-made
returns-in-Err-body-clause-made c = λ w uses knows are.
    let s = source_in c.args.syntax.now uses in
    let u0 = c.args.unit.now in
    let u1 = c.for_first.new.unit in
    let u2 = c.for_condition.new.unit in
    let u3 = c.for_after.new.unit in
    let results = c.args.results.now in
    let sense = sense_in (senses_made u0 results) in
    let at = c.args.at in
    let list = c.args.list.now in
    let p = c.for_parts-parts.result in
    let g = spec.for_first w s sense at p.first in
    let h = spec.for_condition w s sense at p.condition in
    let k = spec.for_after w s sense at p.after in
    let b = spec.body_of w s sense at (spec.statements_among w s sense list) in
    let kind : Option Core → Option Core → NodeKind = λ y z. For (spec.for_objects w s sense p.first) (is_some y) (is_some z) in
    let b1 = c.in-Ok.ensures.builds in
    let b2 = builds_on u0 u1 u2 b1 c.in-Ok-for_condition.ensures.builds in
    let b3 = builds_on u0 u2 u3 b2 c.in-Ok-for_after.ensures.builds in
    let knows1 = knows_on w u0 u1 b1 knows in
    let knows2 = knows_on w u0 u2 b2 knows in
    let mh = subst (λ (ss : List Sense). OtherMade u2 (Ok c.in-Ok-for_condition.condition) (spec.for_condition w s (sense_in ss) at p.condition)) (mades_kept u0 u1 b1 results c.requires.results) (c.in-Ok-for_condition.ensures.made w s knows1) in
    let mk = subst (λ (ss : List Sense). OtherMade u3 (Ok c.in-Ok-for_after.after) (spec.for_after w s (sense_in ss) at p.after)) (mades_kept u0 u2 b2 results c.requires.results) (c.in-Ok-for_after.ensures.made w s knows2) in
    let mb = subst (λ (ss : List Sense). Made u3 (Err c.in-Err-body.fault) (spec.body_of w s (sense_in ss) at (spec.statements_among w s (sense_in ss) list))) (mades_kept u0 u3 b3 results c.requires.results) (c.in-Err-body.ensures.made w) in
    let m = last_fails kind (place_at s at) g h k b u3 u3 c.in-Err-body.fault _ (some_core u2 c.in-Ok-for_condition.condition) (some_core u3 c.in-Ok-for_after.after) (c.in-Ok.ensures.made w knows) (other_fits u2 c.in-Ok-for_condition.condition h mh) (other_fits u3 c.in-Ok-for_after.after k mk) mb in
    subst (λ (x : spec.ForParts). Made u3 (Err c.in-Err-body.fault) (spec.for_of w s sense at x list)) (c.for_parts-parts.ensures w sense) m

pub push_node-requires-clause-children : goal.push_node-requires-clause-children
push_node-requires-clause-children c =
    let u1 = c.for_first.new.unit in
    let u2 = c.for_condition.new.unit in
    let u3 = c.for_after.new.unit in
    let u4 = c.void_type.new.unit in
    let e3 : length u3.nodes.items ≤ length u4.nodes.items = c.in-Ok-void_type.ensures.builds.more in
    let e2 : length u2.nodes.items ≤ length u4.nodes.items = omega (arith, e3, c.in-Ok-for_after.ensures.builds.more) in
    let e1 : length u1.nodes.items ≤ length u4.nodes.items = omega (arith, e2, c.in-Ok-for_condition.ensures.builds.more) in
    All-same (λ (i : ℕ). i < length u4.nodes.items) c.in_ok-nodes-2.nodes _ ((c.in_ok-nodes-2.ensures ∙ c.into_vec.ensures) ∙ c.in_ok-nodes.ensures.listed)
    (parts_within (length u1.nodes.items) (length u2.nodes.items) (length u3.nodes.items) (length u4.nodes.items) c.in-Ok.first c.in-Ok-for_condition.condition c.in-Ok-for_after.after c.in-Ok-body.inner e1 e2 e3 c.in-Ok.ensures.within c.in-Ok-for_condition.ensures.within c.in-Ok-for_after.ensures.within c.in-Ok-body.ensures.within)

pub returns-clause-made : goal.returns-clause-made
returns-clause-made c = λ w uses knows are.
    let s = source_in c.args.syntax.now uses in
    let u0 = c.args.unit.now in
    let u1 = c.for_first.new.unit in
    let u2 = c.for_condition.new.unit in
    let u3 = c.for_after.new.unit in
    let u4 = c.void_type.new.unit in
    let u5 = c.push_node.new.unit in
    let results = c.args.results.now in
    let sense = sense_in (senses_made u0 results) in
    let at = c.args.at in
    let list = c.args.list.now in
    let p = c.for_parts-parts.result in
    let g = spec.for_first w s sense at p.first in
    let h = spec.for_condition w s sense at p.condition in
    let k = spec.for_after w s sense at p.after in
    let b = spec.body_of w s sense at (spec.statements_among w s sense list) in
    let kind : Option Core → Option Core → NodeKind = λ y z. For (spec.for_objects w s sense p.first) (is_some y) (is_some z) in
    let first = c.in-Ok.first in
    let condition = c.in-Ok-for_condition.condition in
    let after = c.in-Ok-for_after.after in
    let inner = c.in-Ok-body.inner in
    let b1 = c.in-Ok.ensures.builds in
    let b2 = builds_on u0 u1 u2 b1 c.in-Ok-for_condition.ensures.builds in
    let b3 = builds_on u0 u2 u3 b2 c.in-Ok-for_after.ensures.builds in
    let b34 = c.in-Ok-void_type.ensures.builds in
    let b24 = builds_on u2 u3 u4 c.in-Ok-for_after.ensures.builds b34 in
    let b14 = builds_on u1 u2 u4 c.in-Ok-for_condition.ensures.builds b24 in
    let knows1 = knows_on w u0 u1 b1 knows in
    let knows2 = knows_on w u0 u2 b2 knows in
    let mh = subst (λ (ss : List Sense). OtherMade u2 (Ok condition) (spec.for_condition w s (sense_in ss) at p.condition)) (mades_kept u0 u1 b1 results c.requires.results) (c.in-Ok-for_condition.ensures.made w s knows1) in
    let mk = subst (λ (ss : List Sense). OtherMade u3 (Ok after) (spec.for_after w s (sense_in ss) at p.after)) (mades_kept u0 u2 b2 results c.requires.results) (c.in-Ok-for_after.ensures.made w s knows2) in
    let mb = subst (λ (ss : List Sense). Made u3 (Ok inner) (spec.body_of w s (sense_in ss) at (spec.statements_among w s (sense_in ss) list))) (mades_kept u0 u3 b3 results c.requires.results) (c.in-Ok-body.ensures.made w) in
    let under = ap (cores_at u4) ((c.in_ok-nodes-2.ensures ∙ c.into_vec.ensures) ∙ c.in_ok-nodes.ensures.listed) ∙ parts_on u1 u2 u3 u4 b14 b24 b34 first condition after inner c.in-Ok.ensures.within c.in-Ok-for_condition.ensures.within c.in-Ok-for_after.ensures.within c.in-Ok-body.ensures.within in
    let same = kind_same c.in_ok-of.field-0 (spec.for_objects w s sense p.first) c.is_some.result (is_some (some_core u2 condition)) c.is_some-2.result (is_some (some_core u3 after)) (c.in_ok-of.ensures ∙ (are ∙ sym (ap (λ (x : spec.ForParts). spec.for_objects w s sense x.first) (c.for_parts-parts.ensures w sense)))) (c.is_some.ensures ∙ some_same u2 condition) (c.is_some-2.ensures ∙ some_same u3 after) in
    let tree = row_made u4 u5 c.push_node.result (For c.in_ok-of.field-0 c.is_some.result c.is_some-2.result) (kind (some_core u2 condition) (some_core u3 after)) c.place_of.result (place_at s at) (type_of u4.types c.in-Ok-void_type.ty.0) (cores_at u4 c.in_ok-nodes-2.nodes) _ same c.place_of.ensures c.in-Ok-void_type.ensures.made under c.push_node.ensures.made in
    let m = all_fit kind (place_at s at) g h k b u4 u5 c.push_node.result _ (some_core u2 condition) (some_core u3 after) (core_at u3 inner) (c.in-Ok.ensures.made w knows) (other_fits u2 condition h mh) (other_fits u3 after k mk) mb tree in
    subst (λ (x : spec.ForParts). Made u5 c.push_node.result (spec.for_of w s sense at x list)) (c.for_parts-parts.ensures w sense) m
