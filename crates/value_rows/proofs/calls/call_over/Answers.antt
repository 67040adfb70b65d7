use Rattle.std.proofs.Common.{◌≡◌, ◌<◌, ℕ, Bool, List, length, map, sym, ap, ◌∙◌, subst}
use Rattle.std.proofs.lemmas.List.Elements.{All-same}
use Rattle.pta_base.specs.declared.kind.Kind.TheVariants.{Operand}
use Rattle.core_tree.specs.declared.node.NodeKind.TheVariants.{CallNode}
use Rattle.c_types.specs.Trees.{Ctype}
use Rattle.c_types.specs.Table.{type_of}
use Rattle.c_consts.specs.Core.{Of}
use Rattle.c_senses.specs.Given.{Fits, given_if}
use Rattle.c_senses.specs.Objects.{arguments, is_returned}
use Rattle.core_nodes.specs.Standing.{core_at, cores_at, Made}
use Rattle.core_nodes.proofs.Growing.{builds_on, knows_on}
use Rattle.core_nodes.proofs.Failing.{made_same}
use Rattle.value_rows.specs.Calls.{result_in, parameters_in}
use Rattle.value_rows.proofs.Called.{call_made}
use Rattle.value_rows.proofs.calls.call_over.Goals as goal

pub returns-then-not-is_returned-clause-made : goal.returns-then-not-is_returned-clause-made
returns-then-not-is_returned-clause-made c = λ w k.
    let u = c.args.unit.now in
    let mid = c.passed.new.unit in
    let t = type_of u.types c.args.function.0 in
    let known = knows_on w u mid c.in_ok-children.ensures.builds k in
    let ty : type_of mid.types c.result_type-ty.result.0 ≡ result_in t = c.result_type-ty.ensures.ty ∙ ap (λ (x : Ctype). result_in x) (c.in_ok-children.ensures.builds.types c.args.function.0 c.requires.function) in
    let no = ap (λ (x : Ctype). is_returned w x) (sym ty) ∙ (sym (c.is_returned.ensures w known) ∙ c.if-not-is_returned.true) in
    let cores = map (λ a. core_at u a) c.args.arguments.now in
    call_made (core_at u c.args.c) (is_returned w (result_in t)) c.args.at CallNode c.args.place (result_in t) (arguments w c.args.at (parameters_in t) cores) (cores_at mid c.in_ok-children.children) (c.in_ok-children.ensures.made w k)
    ∙ ap (λ (b : Bool). given_if b Operand c.args.at (Fits (Of CallNode c.args.place (result_in t) (cores_at mid c.in_ok-children.children)))) no

pub push_node-requires-clause-children : goal.push_node-requires-clause-children
push_node-requires-clause-children c =
    All-same (λ (i : ℕ). i < length c.passed.new.unit.nodes.items) c.in_ok-children-2.children c.in_ok-children.children (c.in_ok-children-2.ensures ∙ c.into_vec.ensures) c.in_ok-children.ensures.within

pub returns-clause-builds : goal.returns-clause-builds
returns-clause-builds c = builds_on c.args.unit.now c.passed.new.unit c.push_node.new.unit c.in_ok-children.ensures.builds c.push_node.ensures.builds

pub returns-clause-made : goal.returns-clause-made
returns-clause-made c = λ w k.
    let u = c.args.unit.now in
    let mid = c.passed.new.unit in
    let t = type_of u.types c.args.function.0 in
    let known = knows_on w u mid c.in_ok-children.ensures.builds k in
    let ty : type_of mid.types c.result_type-ty.result.0 ≡ result_in t = c.result_type-ty.ensures.ty ∙ ap (λ (x : Ctype). result_in x) (c.in_ok-children.ensures.builds.types c.args.function.0 c.requires.function) in
    let yes = ap (λ (x : Ctype). is_returned w x) (sym ty) ∙ (sym (c.is_returned.ensures w known) ∙ c.if-not-is_returned.false) in
    let cores = map (λ a. core_at u a) c.args.arguments.now in
    let e = call_made (core_at u c.args.c) (is_returned w (result_in t)) c.args.at CallNode c.args.place (result_in t) (arguments w c.args.at (parameters_in t) cores) (cores_at mid c.in_ok-children.children) (c.in_ok-children.ensures.made w k)
    ∙ ap (λ (b : Bool). given_if b Operand c.args.at (Fits (Of CallNode c.args.place (result_in t) (cores_at mid c.in_ok-children.children)))) yes in
    let same : c.in_ok-children-2.children ≡ c.in_ok-children.children = c.in_ok-children-2.ensures ∙ c.into_vec.ensures in
    let listed = subst (λ (is : List ℕ). Made c.push_node.new.unit c.push_node.result (Fits (Of CallNode c.args.place (type_of mid.types c.result_type-ty.result.0) (cores_at mid is)))) same c.push_node.ensures.made in
    made_same c.push_node.new.unit c.push_node.result _ _ (sym e) (subst (λ (x : Ctype). Made c.push_node.new.unit c.push_node.result (Fits (Of CallNode c.args.place x (cores_at mid c.in_ok-children.children)))) ty listed)
