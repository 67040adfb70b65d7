use Rattle.std.proofs.Common.{arith, ◌≡◌, ℕ, ◌<◌, ◌≤◌, List, Option, Some, length, refl, ap, sym, ◌∙◌}
use Rattle.std.specs.Option.{is_some}
use Rattle.std.specs.List.{slice_get}
use Rattle.std.proofs.lemmas.Option.{slice_get_read}
use Rattle.core_tree.specs.declared.node.Node.{Node}
use Rattle.core_tree.specs.declared.node.Entity.{Entity}
use Rattle.core_tree.specs.Typed.{trees_in}
use Rattle.obj_space.specs.View.{view_of}
use Rattle.row_numbers.specs.Objects.{library_number}
use Rattle.row_numbers.specs.Frame.{setting_in}
use Rattle.row_numbers.specs.Setting.{row}
use Rattle.call_sites.specs.Calls.{head_of, rest_of, name_at, decayed_at, named_callee, named_library, fresh_in, argument_rows, IsCallSignature}
use Rattle.call_sites.proofs.SiteLemmas.{children_in}
use Rattle.call_sites.proofs.sites.site.Goals as goal

pub row-requires-clause-node : goal.row-requires-clause-node
row-requires-clause-node c =
    let u = trees_in c.args.frame.now.program.now in
    let nodes : c.as_slice-nodes.result.now ≡ u.nodes = c.as_slice-nodes.ensures.value in
    let inside : c.args.n < length c.as_slice-nodes.result.now = rw nodes c.requires.node in
    let at_slice = slice_get_read c.as_slice-nodes.result.now _ c.args.n c.index-nodes-n.result refl inside c.index-nodes-n.is in
    let at : slice_get u.nodes c.args.n ≡ Some c.index-nodes-n.result = ap (λ (xs : List Node). slice_get xs c.args.n) (sym nodes) ∙ at_slice in
    let kids : c.as_slice-children.result.now ≡ c.index-nodes-n.result.children = c.as_slice-children.ensures in
    let all = children_in u c.requires.frame.range c.args.n c.index-nodes-n.result at c.requires.node in
    c.head_of-callee.ensures.within _ (rw kids all) (omega (arith, c.requires.node))

pub signature-requires-clause-callee : goal.signature-requires-clause-callee
signature-requires-clause-callee c =
    let u = trees_in c.args.frame.now.program.now in
    let nodes : c.as_slice-nodes.result.now ≡ u.nodes = c.as_slice-nodes.ensures.value in
    let inside : c.args.n < length c.as_slice-nodes.result.now = rw nodes c.requires.node in
    let at_slice = slice_get_read c.as_slice-nodes.result.now _ c.args.n c.index-nodes-n.result refl inside c.index-nodes-n.is in
    let at : slice_get u.nodes c.args.n ≡ Some c.index-nodes-n.result = ap (λ (xs : List Node). slice_get xs c.args.n) (sym nodes) ∙ at_slice in
    let kids : c.as_slice-children.result.now ≡ c.index-nodes-n.result.children = c.as_slice-children.ensures in
    let all = children_in u c.requires.frame.range c.args.n c.index-nodes-n.result at c.requires.node in
    c.head_of-callee.ensures.within _ (rw kids all) (omega (arith, c.requires.node))

pub argument_rows-requires-clause-callee : goal.argument_rows-requires-clause-callee
argument_rows-requires-clause-callee c =
    let u = trees_in c.args.frame.now.program.now in
    let nodes : c.as_slice-nodes.result.now ≡ u.nodes = c.as_slice-nodes.ensures.value in
    let inside : c.args.n < length c.as_slice-nodes.result.now = rw nodes c.requires.node in
    let at_slice = slice_get_read c.as_slice-nodes.result.now _ c.args.n c.index-nodes-n.result refl inside c.index-nodes-n.is in
    let at : slice_get u.nodes c.args.n ≡ Some c.index-nodes-n.result = ap (λ (xs : List Node). slice_get xs c.args.n) (sym nodes) ∙ at_slice in
    let kids : c.as_slice-children.result.now ≡ c.index-nodes-n.result.children = c.as_slice-children.ensures in
    let all = children_in u c.requires.frame.range c.args.n c.index-nodes-n.result at c.requires.node in
    c.head_of-callee.ensures.within _ (rw kids all) (omega (arith, c.requires.node))

pub argument_rows-requires-clause-arguments : goal.argument_rows-requires-clause-arguments
argument_rows-requires-clause-arguments c =
    let u = trees_in c.args.frame.now.program.now in
    let nodes : c.as_slice-nodes.result.now ≡ u.nodes = c.as_slice-nodes.ensures.value in
    let inside : c.args.n < length c.as_slice-nodes.result.now = rw nodes c.requires.node in
    let at_slice = slice_get_read c.as_slice-nodes.result.now _ c.args.n c.index-nodes-n.result refl inside c.index-nodes-n.is in
    let at : slice_get u.nodes c.args.n ≡ Some c.index-nodes-n.result = ap (λ (xs : List Node). slice_get xs c.args.n) (sym nodes) ∙ at_slice in
    let kids : c.as_slice-children.result.now ≡ c.index-nodes-n.result.children = c.as_slice-children.ensures in
    let all = children_in u c.requires.frame.range c.args.n c.index-nodes-n.result at c.requires.node in
    c.rest_of-arguments.ensures.within _ (rw kids all)

pub returns : goal.returns
returns c =
    let u = trees_in c.args.frame.now.program.now in
    let nodes : c.as_slice-nodes.result.now ≡ u.nodes = c.as_slice-nodes.ensures.value in
    let inside : c.args.n < length c.as_slice-nodes.result.now = rw nodes c.requires.node in
    let at_slice = slice_get_read c.as_slice-nodes.result.now _ c.args.n c.index-nodes-n.result refl inside c.index-nodes-n.is in
    let at : slice_get u.nodes c.args.n ≡ Some c.index-nodes-n.result = ap (λ (xs : List Node). slice_get xs c.args.n) (sym nodes) ∙ at_slice in
    let kids : c.as_slice-children.result.now ≡ c.index-nodes-n.result.children = c.as_slice-children.ensures in
    let all = children_in u c.requires.frame.range c.args.n c.index-nodes-n.result at c.requires.node in
    let s = view_of c.args.frame.now.space.now in
    let head = c.head_of-callee.ensures.value ∙ ap head_of kids in
    let rest = c.rest_of-arguments.ensures.value ∙ ap rest_of kids in
    let named : c.named_callee-named.result ≡ named_callee u c.index-nodes-n.result = c.named_callee-named.ensures ∙ rw (nodes, kids) refl in
    let library : c.library_at-library.result ≡ named_library u c.index-nodes-n.result = c.library_at-library.ensures ∙ rw (named, c.as_slice.ensures.value) refl in
    record {
      node = c.index-nodes-n.result;
      there = at;
      right = record {
        caller = c.caller.ensures;
        callee = c.row.ensures.value ∙ ap (row u s) head;
        signature = rw (head, rest) at c.in_ok-signature.ensures;
        direct = c.is_some.ensures ∙ ap is_some named;
        place = refl;
        arguments = c.in_ok-argument_rows.ensures ∙ (ap (λ (k : ℕ). argument_rows u s c.args.n k c.rest_of-arguments.result.now) head ∙ ap (argument_rows u s c.args.n (head_of c.index-nodes-n.result.children)) rest);
        result = c.in_ok-value_rows.ensures;
        fresh = c.of.ensures ∙ (c.in_ok-fresh.ensures ∙ rw (library, c.requires.givers) refl);
      };
    }
