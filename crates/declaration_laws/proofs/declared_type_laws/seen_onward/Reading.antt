-- What is seen in the units that are read.
use Rattle.std.proofs.Common.{◌≡◌, ◌<◌, ◌==◌, ◌||◌, ℕ, nat_eq, Bool, true, false, List, length, eq-eqb, refl, sym, ◌∙◌, subst, ◌⊎◌, inl, inr}
use Rattle.c_grammar.specs.Reads.{leaf}
use Rattle.c_grammar.specs.Productions.{p_unit, p_external, p_declaration, p_block, p_statement}
use Rattle.c_grammar.specs.Terminals.{contains}
use Rattle.c_mentions.specs.Syntax as syntax
use Rattle.c_senses.specs.Names.{source_of, names_of, numbered}
use Rattle.c_senses.specs.Tree.{Source, children_at, is_a}
use Rattle.core_node_laws.specs.count_laws.passed.parsed_tree_laws.span_laws.Spans.{Spanned}
use Rattle.core_node_laws.proofs.count_laws.passed.parsed_tree_laws.span_laws.Whole.{units_are_spanned}
use Rattle.declaration_laws.specs.declared_type_laws.owner_laws.passed.definition_laws.scope_laws.Beneath.{part, deeper}
use Rattle.declaration_laws.specs.declared_type_laws.owner_laws.passed.definition_laws.scope_laws.Scoped.{Rooted}
use Rattle.declaration_laws.proofs.declared_type_laws.owner_laws.passed.definition_laws.scope_laws.Tree.{beneath_by}
use Rattle.declaration_laws.proofs.declared_type_laws.owner_laws.passed.definition_laws.scope_laws.Scopes.{Part, Below, IsOf, IsNot}
use Rattle.declaration_laws.proofs.declared_type_laws.owner_laws.passed.definition_laws.scope_laws.Whole.{names_declared_once}
use Rattle.core_node_laws.specs.count_laws.passed.parsed_tree_laws.sign_parts.Parts.{IsBrought}
use Rattle.core_node_laws.proofs.count_laws.passed.parsed_tree_laws.sign_parts.Reading.{units_bring}
use Rattle.declaration_laws.proofs.declared_type_laws.owner_laws.passed.definition_laws.linkage_laws.Seen.{nodes, production_is, production_same, children_are}
use Rattle.declaration_laws.proofs.declared_type_laws.owner_laws.passed.definition_laws.linkage_laws.Linked.{Tree}
use Rattle.declaration_laws.proofs.declared_type_laws.owner_laws.passed.definition_laws.linkage_laws.Reading.{tree_is}
use Rattle.declaration_laws.specs.declared_type_laws.seen_onward.Seen.{SeenOnward}
use Rattle.declaration_laws.proofs.declared_type_laws.seen_onward.Between.{IsPart, between}
use Rattle.declaration_laws.proofs.declared_type_laws.seen_onward.Blocks.{one_block}
use Rattle.declaration_laws.proofs.declared_type_laws.seen_onward.Openers.{IsBlockPart, Shaped}
use Rattle.declaration_laws.proofs.declared_type_laws.seen_onward.Whole.{sees_on}

or_either : (a b : Bool) → (a || b) ≡ true → (a ≡ true) ⊎ (b ≡ true)
or_either true b e = inl refl
or_either false b e = inr e

-- ---- the shape of a tree, by the numbers of nodes

module _ (s : Source) (tree : Tree s) (spanned : Spanned s) (brought : IsBrought s) where
  there : (i c : ℕ) → Part s.tokens (nodes s) i c → contains (children_at s i) c ≡ true
  there i c h = subst (λ (l : List ℕ). contains l c ≡ true) (children_are s i) h

  back : (i c : ℕ) → contains (children_at s i) c ≡ true → Part s.tokens (nodes s) i c
  back i c h = subst (λ (l : List ℕ). contains l c ≡ true) (sym (children_are s i)) h

  is_of : (p i : ℕ) → nat_eq leaf p ≡ false → is_a s p i ≡ true → IsOf s.tokens (nodes s) p i
  is_of p i other e = eq-eqb (syntax.production_at (nodes s) i) p (production_same s p i other e)

  is_a_of : (p i : ℕ) → nat_eq 48 p ≡ false → IsOf s.tokens (nodes s) p i → is_a s p i ≡ true
  is_a_of p i other e = production_is s p i other e

  unit_no : (i c : ℕ) → Part s.tokens (nodes s) i c → IsNot s.tokens (nodes s) p_unit c
  unit_no i c h = by (syntax.production_at (nodes s) c == p_unit) refl
    where
      no_both : (b : Bool) → b ≡ true → b ≡ false → ⊥
      no_both b e f = let both : true ≡ false = sym e ∙ f in cc

      by : (b : Bool) → (syntax.production_at (nodes s) c == p_unit) ≡ b → b ≡ false
      by true e = absurd (no_both (is_a s p_unit c) (is_a_of p_unit c refl e) (tree.nested.units i c (there i c h)))
      by false e = refl

  around : (i : ℕ) → (is_a s p_block i || is_a s p_statement i) ≡ true → IsOf s.tokens (nodes s) p_block i ⊎ IsOf s.tokens (nodes s) p_statement i
  around i h = by (or_either (is_a s p_block i) (is_a s p_statement i) h)
    where
      by : (is_a s p_block i ≡ true) ⊎ (is_a s p_statement i ≡ true) → IsOf s.tokens (nodes s) p_block i ⊎ IsOf s.tokens (nodes s) p_statement i
      by (inl e) = inl (is_of p_block i refl e)
      by (inr e) = inr (is_of p_statement i refl e)

  over : (i : ℕ) → (is_a s p_external i || is_a s p_statement i) ≡ true → IsOf s.tokens (nodes s) p_external i ⊎ IsOf s.tokens (nodes s) p_statement i
  over i h = by (or_either (is_a s p_external i) (is_a s p_statement i) h)
    where
      by : (is_a s p_external i ≡ true) ⊎ (is_a s p_statement i ≡ true) → IsOf s.tokens (nodes s) p_external i ⊎ IsOf s.tokens (nodes s) p_statement i
      by (inl e) = inl (is_of p_external i refl e)
      by (inr e) = inr (is_of p_statement i refl e)

  part_in : (i c : ℕ) → Part s.tokens (nodes s) i c → IsBlockPart s.tokens (nodes s) c → IsOf s.tokens (nodes s) p_external i ⊎ (IsOf s.tokens (nodes s) p_block i ⊎ IsOf s.tokens (nodes s) p_statement i)
  part_in i c h (inl is) = inr (around i (tree.nested.declarations i c (there i c h) (is_a_of p_declaration c refl is)))
  part_in i c h (inr (inl is)) = by (over i (tree.nested.blocks i c (there i c h) (is_a_of p_block c refl is)))
    where
      by : IsOf s.tokens (nodes s) p_external i ⊎ IsOf s.tokens (nodes s) p_statement i → IsOf s.tokens (nodes s) p_external i ⊎ (IsOf s.tokens (nodes s) p_block i ⊎ IsOf s.tokens (nodes s) p_statement i)
      by (inl e) = inl e
      by (inr e) = inr (inr e)
  part_in i c h (inr (inr is)) = inr (around i (tree.nested.statements i c (there i c h) (is_a_of p_statement c refl is)))

  -- what has something below it is there
  within : (p a : ℕ) → Below s.tokens (nodes s) p a → p < length s.nodes
  within p a (part h) = tree.grown.within p a (there p a h)
  within p a (deeper {i = i} b h) = within p i b

  pub shape : Shaped s.tokens (nodes s)
  shape = record {
    before = λ i c h. tree.grown.before i c (there i c h);
    single = λ i j c h k. tree.grown.once i j c (there i c h) (there j c k);
    externals = λ i c h is. is_of p_unit i refl (tree.nested.externals i c (there i c h) (is_a_of p_external c refl is));
    units = unit_no;
    parts = part_in;
    blocks = λ i c h is. over i (tree.nested.blocks i c (there i c h) (is_a_of p_block c refl is));
    one_block = λ i a b external one other first second. one_block s brought i a b (is_a_of p_external i refl external) (there i a one) (there i b other) (is_a_of p_block a refl first) (is_a_of p_block b refl second);
    between = λ p a b c one other first last.
        beneath_by (IsPart s) (Part s.tokens (nodes s)) back p b
        (between s spanned p a b c (within p a one) (beneath_by (Part s.tokens (nodes s)) (IsPart s) there p a one) (beneath_by (Part s.tokens (nodes s)) (IsPart s) there p c other) first last);
  }

rooted_is : (s : Source) → Tree s → Rooted s
rooted_is s tree = record { before = tree.grown.before; single = tree.grown.once; externals = tree.nested.externals; units = tree.nested.units }

pub seen_onward : SeenOnward
unfolding source_of names_of
seen_onward tokens unit tree tag_number cut is =
    let s = numbered tag_number (source_of tokens tree) in
    let t = tree_is tokens unit tree is tag_number in
    sees_on s t (shape s t (units_are_spanned tokens unit tree tag_number is) (units_bring tokens unit tree tag_number is)) (names_declared_once tokens tree tag_number (rooted_is s t)) refl
