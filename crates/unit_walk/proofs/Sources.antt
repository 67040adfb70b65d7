-- The source of a unit with the numbers of its tags.
use Rattle.std.proofs.Common.{◌≡◌, ℕ, ◌<◌, List, [], All, Some, length, slice_get, refl, sym, ap, ◌∙◌, subst}
use Rattle.c_lexer.specs.declared.Tokens.{Tokens}
use Rattle.c_lexer.specs.Cut.{IsTokens}
use Rattle.c_grammar.specs.declared.trees.Tree.{Tree}
use Rattle.c_scope.specs.declared.resolving.Bound.{Bound}
use Rattle.c_scope.specs.declared.kinds.Declared.{Declared}
use Rattle.c_scope.specs.Resolves.{IsBound}
use Rattle.c_senses.specs.Tree.{Source, children_of}
use Rattle.c_senses.specs.Names.{names_of, source_of, source_with, numbered}
use Rattle.c_meanings.specs.declared.names.Names.{Names}
use Rattle.c_meanings.specs.Known.{AreLeaves, AreNamed}
use Rattle.c_results.specs.declared.made.Made.{Made}
use Rattle.name_uses.specs.name_sayings.Listed.{AreListed}
use Rattle.name_uses.specs.name_sayings.Opening.{IsNotOpened}
use Rattle.name_chains.specs.declared.symbol_lists.lists.SymbolLists.{SymbolLists}
use Rattle.parsed_tree_laws.specs.sense_laws.Senses.{ChildrenFirst}
use Rattle.parsed_tree_laws.specs.reading_laws.source_laws.Bound.{AreBefore}
use Rattle.parsed_tree_laws.proofs.reading_laws.source_laws.Bound.{bound_stand}
use Rattle.parsed_tree_laws.proofs.reading_laws.source_laws.Spelled.{names_spelled}
use Rattle.statement_rows.specs.Told.{AreSpelled}
use Rattle.core_nodes.specs.declared.fault.CheckFault.{CheckFault}
use Rattle.core_nodes.specs.declared.fault.CheckFault.TheVariants.{BadOperand, Unsupported, OutOfMemory}
use Rattle.tree_reads.specs.declared.syntax.Syntax.{Syntax}
use Rattle.tree_reads.specs.Sources.{number_in, source_in, source_read}
use Rattle.c_tags.specs.declared.tag_numbers.tags.Tags.{Tags}
use Rattle.c_tags.specs.tag_numbers.Known.{AreTags}
use Rattle.c_tags.specs.tag_numbers.Ordered.{AreInOrder}
use Rattle.unit_walk.specs.Walked.{AreDense}

module _ (syntax : Syntax) (tokens : Tokens) (tree : Tree) (bound : Bound) (same_tokens : syntax.tokens.now ≡ tokens) (same_tree : syntax.tree.now ≡ tree) (bind : IsBound tokens tree bound) where
  pub source_same : source_in syntax bound.uses.items ≡ numbered (number_in syntax.tag_numbers) (source_of tokens tree)
  unfolding source_of
  source_same =
      ap (λ (t : Tokens). numbered (number_in syntax.tag_numbers) (source_with t syntax.tree.now bound.uses.items)) same_tokens
      ∙ (ap (λ (t : Tree). numbered (number_in syntax.tag_numbers) (source_with tokens t bound.uses.items)) same_tree
      ∙ ap (λ (uses : List (ℕ × ℕ)). numbered (number_in syntax.tag_numbers) (source_with tokens tree uses)) bind.uses)

  pub bound_there : IsBound syntax.tokens.now syntax.tree.now bound
  bound_there = subst (λ (t : Tokens). IsBound t syntax.tree.now bound) (sym same_tokens) (subst (λ (t : Tree). IsBound tokens t bound) (sym same_tree) bind)

  pub first_there : ChildrenFirst (source_of tokens tree) → ChildrenFirst (source_read syntax)
  unfolding source_of
  first_there h = subst (λ (t : Tree). (i k c : ℕ) → slice_get (children_of (slice_get t.nodes.items i)) k ≡ Some c → c < i) (sym same_tree) h

  pub leaves_there : ChildrenFirst (source_of tokens tree) → AreLeaves syntax bound
  unfolding source_of
  leaves_there h =
      let before : AreBefore syntax.tree.now.nodes.items = subst (λ (t : Tree). AreBefore t.nodes.items) (sym same_tree) h in
      let among = bound_stand syntax.tokens.now syntax.tree.now bound bound_there before in
      record { names = among.names; uses = among.uses }

  pub spelled_there : IsTokens tokens.text.now tokens.list.items → (uses : List (ℕ × ℕ)) → AreSpelled (source_in syntax uses)
  spelled_there h uses = names_spelled (source_in syntax uses) (subst (λ (t : Tokens). IsTokens t.text.now t.list.items) (sym same_tokens) h)

  pub dense_of : (s : Source) (tags : Tags) → AreTags s tags → AreInOrder s → AreDense s
  dense_of s tags t ordered = record {
    differ = t.differ;
    below = λ d h. subst (λ (n : ℕ). s.tag_number d < n) t.count (t.below d h);
    onto = λ n lt. t.onto n (subst (λ (m : ℕ). n < m) (sym t.count) lt);
    ordered = ordered;
  }

-- each name is declared at a node
pub names_there : (syntax : Syntax) (bound : Bound) (lists : SymbolLists) → IsBound syntax.tokens.now syntax.tree.now bound → AreListed syntax lists → All (λ (d : Declared). d.node < length syntax.tree.now.nodes.items) bound.names.items
unfolding names_of
names_there syntax bound lists bind h =
    subst (λ (ds : List Declared). All (λ (d : Declared). d.node < length syntax.tree.now.nodes.items) ds) (sym bind.names) h.nodes

pub named_before : (syntax : Syntax) (names : Names) → AreNamed syntax [] names → (results : List Made) → AreNamed syntax results names
named_before syntax names h results = record { chained = h.chained }

-- names that stand at nodes are opened, unless memory wants
pub opened_memory : (syntax : Syntax) (bound : Bound) (fault : CheckFault) → AreLeaves syntax bound → IsNotOpened syntax bound fault → fault ≡ OutOfMemory
opened_memory syntax bound (BadOperand node) leaves h = absurd h
opened_memory syntax bound (Unsupported kind node) leaves h = absurd (h.2 leaves)
opened_memory syntax bound OutOfMemory leaves h = refl
