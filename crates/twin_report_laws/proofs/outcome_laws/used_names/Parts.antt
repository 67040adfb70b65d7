-- What is paired with a declaration is a part of what may have names that are used.
use Rattle.std.proofs.Common.{arith, ◌≡◌, ◌+◌, ℕ, suc, nat_eq, Bool, true, false, ◌||◌, List, [], ◌∷◌, length, map, Option, Some, None, slice_get, refl, ap, subst}
use Rattle.std.specs.Prelude.{option_map}
use Rattle.std.proofs.lemmas.Bool.{eqb-true}
use Rattle.std.proofs.lemmas.Option.{slice_get-map}
use Rattle.c_lexer.specs.declared.Token.{Token}
use Rattle.c_grammar.specs.declared.trees.SyntaxNode.{SyntaxNode}
use Rattle.c_grammar.specs.Terminals.{contains}
use Rattle.c_grammar.specs.Reads.{Node, node_of}
use Rattle.c_mentions.specs.Syntax as syntax
use Rattle.c_mentions.specs.Settings.{standings}
use Rattle.c_scope.specs.Known.{nothing_known, first_label}
use Rattle.c_scope.specs.Resolves.{bindings, happenings, happenings_from}
use Rattle.c_senses.specs.Names.{source_of, names_of, numbered}
use Rattle.c_senses.specs.Tree.{Source, production_of, children_of, production_at, children_at}
use Rattle.parsed_tree_laws.proofs.family_laws.Reading.{units_families}
use Rattle.twin_report_laws.specs.outcome_laws.used_names.Uses.{using, UsesAreParts}
use Rattle.twin_report_laws.proofs.outcome_laws.used_names.Knowing.{known_used, use_found}
use Rattle.twin_report_laws.proofs.outcome_laws.used_names.Roles.{StandsUsing, standings_fit, happenings_fit}

in_list : (list : List ℕ) (i : ℕ) → contains list i ≡ true → (k : ℕ) × (slice_get list k ≡ Some i)
in_list [] i h = cc
in_list (x ∷ list) i h = by (in_list list i) (nat_eq x i) refl h
  where
    by : (contains list i ≡ true → (k : ℕ) × (slice_get list k ≡ Some i)) → (b : Bool) → nat_eq x i ≡ b → (b || contains list i) ≡ true → (k : ℕ) × (slice_get (x ∷ list) k ≡ Some i)
    by rest true e h = (0, ap Some (eqb-true x i e))
    by rest false e h = let more = rest h in (suc more.0, more.1)

module _ (s : Source) where
  abbrev nodes : List Node
  nodes = map node_of s.nodes

  inside : (n c : ℕ) → contains (syntax.children_at nodes n) c ≡ true → contains (children_at s n) c ≡ true
  inside n c h = by (slice_get s.nodes n) (subst (λ (o : Option Node). contains (syntax.children_of o) c ≡ true) (slice_get-map node_of s.nodes n) h)
    where
      by : (o : Option SyntaxNode) → contains (syntax.children_of (option_map node_of o)) c ≡ true → contains (children_of o) c ≡ true
      by None g = g
      by (Some x) g = g

  using_in : (n : ℕ) → contains using (syntax.production_at nodes n) ≡ true → contains using (production_at s n) ≡ true
  using_in n h = by (slice_get s.nodes n) (subst (λ (o : Option Node). contains using (syntax.production_of o) ≡ true) (slice_get-map node_of s.nodes n) h)
    where
      by : (o : Option SyntaxNode) → contains using (syntax.production_of (option_map node_of o)) ≡ true → contains using (production_of o) ≡ true
      by None g = cc
      by (Some x) g = g

pub uses_are_parts : UsesAreParts
unfolding source_of names_of bindings happenings
uses_are_parts tokens unit tree tag_number cut read = record {
  each = λ p n x child pair.
      let s : Source = numbered tag_number (source_of tokens tree) in
      let ns : List Node = nodes s in
      let list : List Token = tokens.list.items in
      let text : List ℕ = tokens.text.now in
      let families = units_families tokens unit tree tag_number cut read in
      let fit = happenings_fit list ns text 0 (standings list ns 0 ns) (standings_fit list ns 0 ns (λ k. ap (slice_get ns) (let z : 0 + k ≡ k = omega arith in z))) in
      let all = happenings_from text list ns 0 (standings list ns 0 ns) in
      let used = known_used (StandsUsing list ns) (length ns) (first_label 0 all) 0 nothing_known all fit tt in
      let stands = use_found (StandsUsing list ns) n x _ used pair in
      let same : stands.0 ≡ p = families.single stands.0 p n (in_list (children_at s stands.0) n (inside s stands.0 n stands.1)) (in_list (children_at s p) n child) in
      subst (λ (q : ℕ). contains using (production_at s q) ≡ true) same (using_in s stands.0 stands.2);
}
