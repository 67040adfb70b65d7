-- The uses of what a block declares stand below it.
use Rattle.std.proofs.Common.{◌≡◌, ◌==◌, ◌<◌, ◌||◌, nat_eq, ℕ, suc, ◌+◌, Bool, true, false, cond, List, [], ◌∷◌, Some, length, slice_get, refl, sym, ap, ◌∙◌, subst, inl, inr, arith}
use Rattle.std.proofs.lemmas.Bool.{eqb-true}
use Rattle.std.proofs.lemmas.Option.{slice_get_within}
use Rattle.c_grammar.specs.Productions.{p_enumerator, p_suffix, p_block, p_statement}
use Rattle.c_grammar.specs.Reads.{Node}
use Rattle.c_grammar.specs.Terminals.{contains}
use Rattle.c_scope.specs.declared.kinds.Declared.{Declared}
use Rattle.c_scope.specs.Known.{Known}
use Rattle.c_scope.specs.Resolves.{bindings}
use Rattle.c_senses.specs.Names.{source_of, names_of, numbered, entry_of}
use Rattle.c_senses.specs.Tree.{Source, production_at, is_a, paired}
use Rattle.c_senses.specs.Declarators.{is_declarator}
use Rattle.valid_unit_laws.specs.object_initialiser_laws.internal_name_laws.passed.declared_type_laws.declared_leaves.Leaves.{IsNamed, Own, Inner}
use Rattle.parsed_tree_laws.proofs.placed_laws.Climbing.{Grown}
use Rattle.declaration_laws.specs.declared_type_laws.owner_laws.passed.definition_laws.scope_laws.Beneath.{Beneath}
use Rattle.declaration_laws.specs.declared_type_laws.owner_laws.passed.definition_laws.scope_laws.Scoped.{IsPart}
use Rattle.declaration_laws.proofs.declared_type_laws.owner_laws.passed.definition_laws.scope_laws.Tree.{beneath_by}
use Rattle.declaration_laws.proofs.declared_type_laws.owner_laws.passed.definition_laws.scope_laws.Scopes.{Part, IsOf, IsNot}
use Rattle.declaration_laws.proofs.declared_type_laws.owner_laws.passed.definition_laws.scope_laws.Knowing.{In, every_at, S, IsNameMade, IsTagMade, IsUseOf, IsKnown, no_tag, all_known, paired_in}
use Rattle.declaration_laws.proofs.declared_type_laws.owner_laws.passed.definition_laws.linkage_laws.Seen.{nodes, some_same, no_both, production_is, production_same, children_are, node_has}
use Rattle.declaration_laws.proofs.declared_type_laws.owner_laws.passed.definition_laws.linkage_laws.Reading.{tree_is}
use Rattle.valid_unit_laws.specs.object_initialiser_laws.block_uses.Uses.{OpensOwn, DeclaredIn, UsesStayWithin}
use Rattle.valid_unit_laws.proofs.object_initialiser_laws.block_uses.Scopes.{around_below}
use Rattle.valid_unit_laws.proofs.object_initialiser_laws.block_uses.Making.{first_is, maker_is}

entry_in : (ds : List Declared) (leaf : ℕ) (d : Declared) → entry_of ds leaf ≡ Some d → In ds d × (d.node ≡ leaf)
entry_in [] leaf d e = cc
entry_in (x ∷ xs) leaf d e = by (x.node == leaf) refl e (λ f. entry_in xs leaf d f)
  where
    by : (b : Bool) → nat_eq x.node leaf ≡ b → cond b (Some x) (entry_of xs leaf) ≡ Some d → (entry_of xs leaf ≡ Some d → In xs d × (d.node ≡ leaf)) → In (x ∷ xs) d × (d.node ≡ leaf)
    by true is e later = let same : x ≡ d = cc in ((0, ap (λ (y : Declared). Some y) same), subst (λ (y : Declared). y.node ≡ leaf) same (eqb-true x.node leaf is))
    by false is e later = let h = later e in ((suc h.0.0, h.0.1), h.1)

module _ (s : Source) (grown : Grown s) (b leaf : ℕ) (own : OpensOwn s b) (declared : DeclaredIn s b leaf) where
  abbrev ns : List Node
  ns = nodes s

  there : (i c : ℕ) → Part s.tokens ns i c → IsPart s i c
  there i c h = subst (λ (l : List ℕ). contains l c ≡ true) (children_are s i) h

  before : (i c : ℕ) → Part s.tokens ns i c → c < i
  before i c h = grown.before i c (there i c h)

  single : (i j c : ℕ) → Part s.tokens ns i c → Part s.tokens ns j c → i ≡ j
  single i j c h k = grown.once i j c (there i c h) (there j c k)

  no_suffix : IsNot s.tokens ns p_suffix b
  no_suffix = by own
    where
      by : OpensOwn s b → IsNot s.tokens ns p_suffix b
      by (inl h) = ap (λ (q : ℕ). q == p_suffix) (production_same s p_block b refl h.0)
      by (inr h) = ap (λ (q : ℕ). q == p_suffix) (production_same s p_statement b refl h.0)

  no_file : length ns ≡ b → ⊥
  no_file e = let n = node_has s b declared.declaration declared.child in let lt = slice_get_within ns b n.0 n.1 in omega (arith, e, lt)

  -- what the name is a part of is a declarator
  holder_of : (m : ℕ) → is_declarator s m ≡ true → IsNamed s m leaf → (h : ℕ) × IsPart s h leaf × (is_declarator s h ≡ true)
  holder_of m is (Own child name) = (m, child, is)
  holder_of m is (Inner c child inner named) = holder_of c inner named

  -- the name is no enumerator's
  no_enumerator : (m : ℕ) → IsOf s.tokens ns p_enumerator m → Part s.tokens ns m leaf → ⊥
  no_enumerator m is child =
      let (holder, holds, declares) = holder_of declared.declarator declared.declares declared.named in
      let same : m ≡ holder = grown.once m holder leaf (there m leaf child) holds in
      let enumerates : is_a s p_enumerator m ≡ true = production_is s p_enumerator m refl is in
      no_both (is_declarator s m) (subst (λ (k : ℕ). is_declarator s k ≡ true) (sym same) declares) (ap (λ (q : ℕ). q == 19 || q == 20 || q == 21) (eqb-true (production_at s m) p_enumerator enumerates))

  module _ (text : List ℕ) (at : ℕ) (d : Declared) where
    abbrev K : Known
    K = bindings text s.tokens ns

    abbrev many : ℕ
    many = 0 + length (S s.tokens ns before single)

    known : IsKnown s.tokens ns before single many K
    known = all_known s.tokens ns before single text

    scope_is : d.node ≡ leaf → IsNameMade s.tokens ns before single many d → d.scope ≡ b
    scope_is node (m, t, at_m, lt, inl (is, named, some), scope, told, linked) =
        let outer = maker_is s grown m leaf t at_m is (named ∙ ap (λ (k : ℕ). Some k) node) some in
        let same : m ≡ declared.declarator = some_same (sym outer ∙ declared.outermost) in
        scope ∙ first_is s grown b leaf own declared t (subst (λ (k : ℕ). slice_get (S s.tokens ns before single) k ≡ Some t) same at_m)
    scope_is node (m, t, at_m, lt, inr (is, child), scope, told, linked) = absurd (no_enumerator m is (subst (λ (k : ℕ). Part s.tokens ns m k) node child))

    same_entry : (i j : ℕ) (x : Declared) → slice_get K.names i ≡ Some d → slice_get K.names j ≡ Some x → i ≡ j → d ≡ x
    same_entry i j x di xj same = some_same (sym di ∙ (ap (λ (k : ℕ). slice_get K.names k) same ∙ xj))

    stays : entry_of K.names leaf ≡ Some d → paired K.uses at ≡ Some leaf → Beneath (IsPart s) b at
    stays found paired_is = by (every_at (IsUseOf s.tokens ns before single K.names K.tags) K.uses (at, leaf) known.uses (paired_in s.tokens ns before single text K.uses at leaf paired_is))
      where
        entry : In K.names d × (d.node ≡ leaf)
        entry = entry_in K.names leaf d found

        made : IsNameMade s.tokens ns before single many d
        made = every_at (IsNameMade s.tokens ns before single many) K.names d known.names entry.0

        by : IsUseOf s.tokens ns before single K.names K.tags (at, leaf) → Beneath (IsPart s) b at
        by (st, here, (x, inl has, node, around)) =
            let same = same_entry entry.0.0 has.0 x entry.0.1 has.1 (known.once entry.0.0 has.0 d x entry.0.1 has.1 (entry.1 ∙ sym node)) in
            let scope : x.scope ≡ b = ap (λ (y : Declared). y.scope) (sym same) ∙ scope_is entry.1 made in
            beneath_by (Part s.tokens ns) (IsPart s) there b at (around_below s.tokens ns b no_suffix no_file at st here (subst (λ (k : ℕ). contains st.scopes k ≡ true) scope around))
        by (st, here, (x, inr has, node, around)) =
            absurd (no_tag s.tokens ns before single d x many made (every_at (IsTagMade s.tokens ns before single) K.tags x known.tags has) (entry.1 ∙ sym node))

pub uses_stay_within : UsesStayWithin
unfolding source_of names_of
uses_stay_within tokens unit tree tag_number is b leaf at d own declared ordinary paired_is =
    stays (numbered tag_number (source_of tokens tree)) (tree_is tokens unit tree is tag_number).grown b leaf own declared tokens.text.now at d ordinary paired_is
