use Rattle.std.proofs.Common.{◌≡◌, ℕ, ◌<◌, List, All, length, sym, subst, ◌∙◌}
use Rattle.c_lexer.specs.declared.Token.{Token}
use Rattle.c_grammar.specs.Reads.{Node}
use Rattle.c_mentions.specs.Syntax.{nodes_of}
use Rattle.c_mentions.proofs.Nodes.{length-nodes_of}
use Rattle.c_scope.specs.declared.kinds.Declared.{Declared}
use Rattle.c_senses.specs.Names.{names_of}
use Rattle.name_chains.specs.Seen.{AreChains, scopes_of}
use Rattle.name_chains.specs.Symbols.{AreSymbols}
use Rattle.c_meanings.specs.Known.{nodes_in}
use Rattle.c_meanings.proofs.Pairs.{paired_within}
use Rattle.c_meanings.proofs.names.names_of_unit.Goals as goal

-- each name is declared at a node that has a setting
pub name_chains-requires : goal.name_chains-requires
name_chains-requires c =
    let s = c.args.syntax.now in
    let count : length c.args.bound.now.settings.list ≡ nodes_in s = c.requires.bound.settings.count ∙ length-nodes_of s.tree.now.nodes.items in
    record {
      leaves = subst (λ (n : ℕ). All (λ (d : Declared). d.node < n) c.as_slice.result.now) (sym count)
          (subst (λ (ds : List Declared). All (λ d. d.node < nodes_in s) ds) (sym c.as_slice.ensures.value) c.requires.leaves.names);
    }

pub returns-clause-names : goal.returns-clause-names
unfolding names_of
returns-clause-names c = λ u.
    let s = c.args.syntax.now in
    let chains = c.in_ok-chains.chains in
    let tokens : List Token = s.tokens.now.list.items in
    let nodes : List Node = nodes_of s.tree.now.nodes.items in
    let a : AreChains (length nodes) (scopes_of tokens nodes) c.as_slice.result.now chains = c.in_ok-chains.ensures tokens nodes c.requires.bound.settings in
    let b = subst (λ (n : ℕ). AreChains n (scopes_of tokens nodes) c.as_slice.result.now chains) (length-nodes_of s.tree.now.nodes.items) a in
    let d = subst (λ (ds : List Declared). AreChains (nodes_in s) (scopes_of tokens nodes) ds chains) (c.as_slice.ensures.value ∙ c.requires.bound.names) b in
    let within = subst (λ (ds : List Declared). All (λ x. x.node < nodes_in s) ds) (sym c.as_slice-2.ensures.value) c.requires.leaves.names in
    let symbols = subst (λ (ds : List Declared). AreSymbols (nodes_in s) ds c.in_ok-symbols.symbols.items) (c.as_slice-2.ensures.value ∙ c.requires.bound.names) (c.in_ok-symbols.ensures (nodes_in s) within) in
    record {
      named = record {
        chained = record {
          chains = d;
          symbols = symbols;
          pairs = λ leaf k e. paired_within (nodes_in s) c.as_slice-3.result.now leaf k (subst (λ (ps : List (ℕ × ℕ)). All (λ p. p.1 < nodes_in s) ps) (sym c.as_slice-3.ensures.value) c.requires.leaves.uses)
              (sym (c.in_ok-uses.ensures leaf) ∙ e);
        };
      };
    }
