-- In a unit.
use Rattle.std.proofs.Common.{◌≡◌, ℕ, List, Some, refl, subst}
use Rattle.c_lexer.specs.declared.Tokens.{Tokens}
use Rattle.c_grammar.specs.declared.trees.Tree.{Tree}
use Rattle.c_scope.specs.Resolves.{bindings}
use Rattle.c_senses.specs.Names.{source_of, numbered}
use Rattle.c_senses.specs.Tree.{Source, paired}
use Rattle.declaration_laws.proofs.declared_type_laws.owner_laws.passed.definition_laws.linkage_laws.Seen.{nodes}
use Rattle.declaration_laws.proofs.declared_type_laws.owner_laws.passed.definition_laws.linkage_laws.Reading.{tree_is}
use Rattle.core_node_laws.proofs.count_laws.passed.parsed_tree_laws.grown_parts.Reading.{units_bring}
use Rattle.declaration_laws.proofs.declared_type_laws.owner_laws.internal_laws.Reading.{only}
use Rattle.declaration_laws.specs.declared_type_laws.function_types.Typed.{FunctionsGiven}
use Rattle.declaration_laws.proofs.declared_type_laws.function_types.Uses.{uses_named}
use Rattle.declaration_laws.proofs.declared_type_laws.function_types.Typing.{functions_given as given}

uses_are : (tokens : Tokens) (tree : Tree) (tag_number : ℕ → ℕ)
    → (numbered tag_number (source_of tokens tree)).uses ≡ (bindings (numbered tag_number (source_of tokens tree)).text (numbered tag_number (source_of tokens tree)).tokens (nodes (numbered tag_number (source_of tokens tree)))).uses
unfolding source_of
uses_are tokens tree tag_number = refl

pub functions_given : FunctionsGiven
unfolding source_of
functions_given tokens unit tree tag_number senses is are whole =
    let s : Source = numbered tag_number (source_of tokens tree) in
    given s (tree_is tokens unit tree is tag_number) (λ i. units_bring tokens unit tree tag_number is i) senses are whole (uses_are tokens tree tag_number)
    (λ j x e. uses_named s.text s.tokens (nodes s) j x (subst (λ (us : List (ℕ × ℕ)). paired us j ≡ Some x) (uses_are tokens tree tag_number) e)) (λ q k ks which e. only tokens unit tree is q k ks which e)
