use Rattle.std.proofs.Common.{◌≡◌, ℕ, Option, List, length, sym, ap, subst, ◌∙◌}
use Rattle.c_scope.specs.declared.resolving.Unit.{Unit}
use Rattle.c_grammar.specs.Reads.{Node}
use Rattle.c_mentions.specs.Syntax.{nodes_of}
use Rattle.c_mentions.specs.Symbols.{Numbers}
use Rattle.c_mentions.specs.declared.settings.Setting.{Setting}
use Rattle.c_mentions.proofs.Nodes.{length-nodes_of}
use Rattle.c_scope.specs.Known.{Happening, known, nothing_known, first_label}
use Rattle.c_scope.specs.Binding.{Holds, label_at}
use Rattle.c_scope.specs.Happens.{AreHappenings}
use Rattle.c_scope.specs.Resolves.{happenings, bindings}
use Rattle.c_scope.proofs.AllHappen.{all_happen}
use Rattle.c_scope.proofs.resolving.bind.Goals as goal

pub find_labels-requires : goal.find_labels-requires
find_labels-requires c = record {
  count = ap (λ (l : List Setting). length l) c.list_of.ensures ∙ c.in_ok-settings.ensures.count;
  all = c.as_slice-spoken.ensures.value ∙ c.in_ok-list.ensures;
}

pub bind_all-requires : goal.bind_all-requires
bind_all-requires c = record {
  count = ap (λ (l : List Setting). length l) c.list_of.ensures ∙ c.in_ok-settings.ensures.count;
  all = c.as_slice-spoken.ensures.value ∙ c.in_ok-list.ensures;
}

pub returns-clause-binder : goal.returns-clause-binder
unfolding bindings
returns-clause-binder c =
    let text = c.args.text.now in
    let tokens = c.args.tokens.now in
    let nodes : List Node = nodes_of c.args.nodes.now in
    let file : c.in_ok-file.file ≡ length nodes = c.in_ok-file.ensures ∙ sym (length-nodes_of c.args.nodes.now) in
    let unit : Unit = record { text = c.args.text; tokens = c.args.tokens; symbols = c.as_slice.result; nodes = c.args.nodes; scopes = c.as_slice-2.result; settings = c.list_of.result; file = c.in_ok-file.file } in
    let all : List Happening = happenings text tokens nodes in
    let numbers : Numbers text tokens c.as_slice.result.now = subst (λ l. Numbers text tokens l) (sym c.as_slice.ensures.value) c.in_ok-symbols.ensures in
    let happen : AreHappenings unit all = all_happen unit c.in_ok-settings.settings c.as_slice-2.ensures.value c.list_of.ensures file numbers c.in_ok-settings.ensures in
    let labels : (body symbol : ℕ) → label_at c.in_ok-labels.labels body symbol ≡ first_label 0 all body symbol = c.in_ok-labels.ensures all happen in
    let binder = c.in_ok-binder.binder in
    subst (λ n. Holds binder (known n (first_label 0 all) 0 nothing_known all)) file
    (subst (λ (f : ℕ → ℕ → Option ℕ). Holds binder (known c.in_ok-file.file f 0 nothing_known all)) (λ i body symbol. labels body symbol i) (c.in_ok-binder.ensures all happen))
