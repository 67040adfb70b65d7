use Rattle.std.proofs.Common.{◌≡◌, Some, sym, subst, ◌∙◌}
use Rattle.c_lexer.specs.declared.Tokens.{Tokens}
use Rattle.c_grammar.specs.declared.trees.Tree.{Tree}
use Rattle.c_scope.specs.declared.kinds.NameFault.{NameFault}
use Rattle.c_scope.specs.declared.kinds.NameFault.TheVariants.{Undeclared, Redeclared, OutOfMemory}
use Rattle.c_mentions.specs.Settings.{AreSettings}
use Rattle.c_mentions.specs.Syntax.{nodes_of}
use Rattle.c_scope.specs.Binding.{Holds}
use Rattle.c_scope.specs.Resolves.{IsNameFault, bindings, fault_of}
use Rattle.c_scope.proofs.resolving.resolve.Goals as goal

is_fault : (tokens : Tokens) (tree : Tree) (fault : NameFault) → fault_of tokens tree ≡ Some fault → IsNameFault tokens tree fault
is_fault tokens tree (Undeclared n) e = e
is_fault tokens tree (Redeclared n) e = e
is_fault tokens tree OutOfMemory e = tt

pub returns-in-None : goal.returns-in-None
returns-in-None c =
    let text = c.args.tokens.now.text.now in
    let b = c.in_ok-binder.binder in
    let h : Holds b (bindings text c.args.tokens.now.list.items (nodes_of c.args.tree.now.nodes.items)) =
    subst (λ l. Holds b (bindings text l (nodes_of c.args.tree.now.nodes.items))) c.as_slice.ensures.value (subst (λ l. Holds b (bindings text c.as_slice.result.now (nodes_of l))) c.as_slice-2.ensures.value c.in_ok-binder.ensures.binder) in
    let settings : AreSettings c.args.tokens.now.list.items (nodes_of c.args.tree.now.nodes.items) c.in_ok-binder.settings =
    subst (λ l. AreSettings l (nodes_of c.args.tree.now.nodes.items) c.in_ok-binder.settings) c.as_slice.ensures.value (subst (λ l. AreSettings c.as_slice.result.now (nodes_of l) c.in_ok-binder.settings) c.as_slice-2.ensures.value c.in_ok-binder.ensures.settings) in
    record { right = sym h.fault ∙ c.in-None.is; uses = h.uses; labels = h.labels; names = h.declared; tags = h.tagged; settings = settings }

pub returns-in-Some : goal.returns-in-Some
returns-in-Some c =
    let text = c.args.tokens.now.text.now in
    let b = c.in_ok-binder.binder in
    let h : Holds b (bindings text c.args.tokens.now.list.items (nodes_of c.args.tree.now.nodes.items)) =
    subst (λ l. Holds b (bindings text l (nodes_of c.args.tree.now.nodes.items))) c.as_slice.ensures.value (subst (λ l. Holds b (bindings text c.as_slice.result.now (nodes_of l))) c.as_slice-2.ensures.value c.in_ok-binder.ensures.binder) in
    is_fault c.args.tokens.now c.args.tree.now c.in-Some.fault (sym h.fault ∙ c.in-Some.is)
