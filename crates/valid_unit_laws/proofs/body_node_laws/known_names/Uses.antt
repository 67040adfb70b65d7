-- The uses of a prototype's parameter stand below its list of parameters.
use Rattle.std.proofs.Common.{◌≡◌, ◌==◌, ◌<◌, ◌||◌, ◌+◌, nat_eq, ℕ, Bool, true, false, cond, List, [], ◌∷◌, Option, Some, None, length, slice_get, refl, sym, ap, ◌∙◌, subst, ◌⊎◌, inl, inr, suc, arith}
use Rattle.std.specs.Prelude.{if◌then◌else◌}
use Rattle.std.proofs.lemmas.Bool.{eqb-true}
use Rattle.std.proofs.lemmas.Option.{slice_get_within}
use Rattle.c_grammar.specs.Productions.{p_external, p_declaration, p_enumerator, p_suffix, p_parameter}
use Rattle.c_grammar.specs.Reads.{Node, leaf}
use Rattle.c_grammar.specs.Terminals.{contains}
use Rattle.c_mentions.specs.Syntax as syntax
use Rattle.c_mentions.specs.Declarators.{is_list}
use Rattle.c_mentions.specs.Roles.{list_of}
use Rattle.c_mentions.specs.Settings.{Standing, outermost, handed_down, standings, with_scope}
use Rattle.c_scope.specs.declared.kinds.Declared.{Declared}
use Rattle.c_scope.specs.Known.{Known, first_scope}
use Rattle.c_scope.specs.Resolves.{bindings}
use Rattle.c_senses.specs.Names.{entry_of}
use Rattle.c_senses.specs.Tree.{Source, production_at, is_a, paired}
use Rattle.c_senses.specs.Declarators.{is_declarator, outermost_of}
use Rattle.declaration_laws.specs.declared_type_laws.declared_leaves.Leaves.{IsNamed, Own, Inner}
use Rattle.parsed_tree_laws.proofs.placed_laws.Climbing.{Grown}
use Rattle.declaration_laws.specs.function_laws.passed.definition_laws.scope_laws.Beneath.{Beneath}
use Rattle.declaration_laws.specs.function_laws.passed.definition_laws.scope_laws.Scoped.{IsPart}
use Rattle.declaration_laws.proofs.function_laws.passed.definition_laws.scope_laws.Tree.{beneath_by}
use Rattle.declaration_laws.proofs.function_laws.passed.definition_laws.scope_laws.Scopes.{Part, IsOf}
use Rattle.declaration_laws.proofs.function_laws.passed.definition_laws.scope_laws.Knowing.{In, every_at, S, IsNameMade, IsTagMade, IsUseOf, IsKnown, no_tag, all_known, paired_in}
use Rattle.declaration_laws.proofs.function_laws.passed.definition_laws.linkage_laws.Standings.{HasParent, parents}
use Rattle.declaration_laws.proofs.function_laws.passed.definition_laws.linkage_laws.Seen.{nodes, some_same, no_both, production_is, production_same, children_are, child_is, node_has}
use Rattle.declaration_laws.proofs.function_laws.passed.definition_laws.linkage_laws.Roles.{opens}
use Rattle.valid_unit_laws.proofs.object_initialiser_laws.block_uses.Making.{maker_is}
use Rattle.valid_unit_laws.proofs.body_node_laws.known_names.Scopes.{around_below}

entry_in : (ds : List Declared) (leaf : ℕ) (d : Declared) → entry_of ds leaf ≡ Some d → In ds d × (d.node ≡ leaf)
entry_in [] leaf d e = cc
entry_in (x ∷ xs) leaf d e = by (x.node == leaf) refl e (λ f. entry_in xs leaf d f)
  where
    by : (b : Bool) → nat_eq x.node leaf ≡ b → cond b (Some x) (entry_of xs leaf) ≡ Some d → (entry_of xs leaf ≡ Some d → In xs d × (d.node ≡ leaf)) → In (x ∷ xs) d × (d.node ≡ leaf)
    by true is e later = let same : x ≡ d = cc in ((0, ap (λ (y : Declared). Some y) same), subst (λ (y : Declared). y.node ≡ leaf) same (eqb-true x.node leaf is))
    by false is e later = let h = later e in ((suc h.0.0, h.0.1), h.1)

-- the declarator of a name that is a parameter in a list of parameters
pub record IsParameterIn (s : Source) (b leaf : ℕ) : Type 0 where
  pub parameter : ℕ
  pub inside : IsPart s b parameter
  pub is : is_a s p_parameter parameter ≡ true
  pub suffix : is_a s p_suffix b ≡ true
  pub list : is_list s.tokens (nodes s) b ≡ true
  pub declarator : ℕ
  pub child : IsPart s parameter declarator
  pub declares : is_declarator s declarator ≡ true
  pub named : IsNamed s declarator leaf
  pub outermost : outermost_of s leaf ≡ Some declarator

module _ (s : Source) (grown : Grown s) (b leaf : ℕ) (declared : IsParameterIn s b leaf)
    (no_list : (m : ℕ) → (syntax.production_at (nodes s) m == p_external || syntax.production_at (nodes s) m == p_declaration) ≡ true → list_of s.tokens (nodes s) m ≡ Some b → ⊥) where
  abbrev ns : List Node
  ns = nodes s

  abbrev all : List Standing
  all = standings s.tokens (nodes s) 0 (nodes s)

  there : (i c : ℕ) → Part s.tokens ns i c → IsPart s i c
  there i c h = subst (λ (l : List ℕ). contains l c ≡ true) (children_are s i) h

  before : (i c : ℕ) → Part s.tokens ns i c → c < i
  before i c h = grown.before i c (there i c h)

  single : (i j c : ℕ) → Part s.tokens ns i c → Part s.tokens ns j c → i ≡ j
  single i j c h k = grown.once i j c (there i c h) (there j c k)

  -- the parent of a part, with where it stands
  parent_there : (p i : ℕ) (st : Standing) → IsPart s p i → slice_get all i ≡ Some st → (above : Standing) × (slice_get all p ≡ Some above) × (st ≡ handed_down s.tokens (nodes s) p above)
  parent_there p i st child at = by (parents s.tokens (nodes s) i st at)
    where
      none_there : ((k : ℕ) (n : Node) → i < k → slice_get (nodes s) k ≡ Some n → contains n.children i ≡ false) → ⊥
      none_there none = let own = node_has s p i child in no_both (contains own.0.children i) own.2 (none p own.0 (grown.before p i child) own.1)

      by : ((st ≡ outermost (length (nodes s))) × ((k : ℕ) (n : Node) → i < k → slice_get (nodes s) k ≡ Some n → contains n.children i ≡ false)) ⊎ HasParent s.tokens (nodes s) i st
          → (above : Standing) × (slice_get all p ≡ Some above) × (st ≡ handed_down s.tokens (nodes s) p above)
      by (inl none) = absurd (none_there none.1)
      by (inr h) =
          let same : h.parent ≡ p = grown.once h.parent p i (child_is s h.parent i h.node h.there h.child) child in
          (h.above, subst (λ (k : ℕ). slice_get all k ≡ Some h.above) same h.stands, subst (λ (k : ℕ). st ≡ handed_down s.tokens (nodes s) k h.above) same h.is)

  -- the list opens the scope of the declarator
  first_is : (st : Standing) → slice_get all declared.declarator ≡ Some st → first_scope (length (nodes s)) st.scopes ≡ b
  first_is st at =
      let up = parent_there declared.parameter declared.declarator st declared.child at in
      let over = parent_there b declared.parameter up.0 declared.inside up.1 in
      let none = opens s.tokens (nodes s) p_parameter declared.parameter up.0.role (production_same s p_parameter declared.parameter refl declared.is) in
      let one = opens s.tokens (nodes s) p_suffix b over.0.role (production_same s p_suffix b refl declared.suffix) in
      ap (λ (x : Standing). first_scope (length (nodes s)) x.scopes) up.2
      ∙ (ap (λ (o : Option ℕ). first_scope (length (nodes s)) (with_scope o up.0.scopes)) none
      ∙ (ap (λ (x : Standing). first_scope (length (nodes s)) x.scopes) over.2
      ∙ (ap (λ (o : Option ℕ). first_scope (length (nodes s)) (with_scope o over.0.scopes)) one
      ∙ ap (λ (c : Bool). first_scope (length (nodes s)) (with_scope (if c then Some b else None) over.0.scopes)) declared.list)))

  no_file : length ns ≡ b → ⊥
  no_file e = let n = node_has s b declared.parameter declared.inside in let lt = slice_get_within ns b n.0 n.1 in omega (arith, e, lt)

  -- what the name is a part of is a declarator
  holder_of : (m : ℕ) → is_declarator s m ≡ true → IsNamed s m leaf → (h : ℕ) × IsPart s h leaf × (is_declarator s h ≡ true)
  holder_of m is (Own child name) = (m, child, is)
  holder_of m is (Inner c child inner named) = holder_of c inner named

  -- the name is no enumerator's
  no_enumerator : (m : ℕ) → IsOf s.tokens ns p_enumerator m → Part s.tokens ns m leaf → ⊥
  no_enumerator m is child =
      let (holder, holds, declares) = holder_of declared.declarator declared.declares declared.named in
      let same : m ≡ holder = grown.once m holder leaf (there m leaf child) holds in
      let enumerates : is_a s p_enumerator m ≡ true = production_is s p_enumerator m refl is in
      no_both (is_declarator s m) (subst (λ (k : ℕ). is_declarator s k ≡ true) (sym same) declares) (ap (λ (q : ℕ). q == 19 || q == 20 || q == 21) (eqb-true (production_at s m) p_enumerator enumerates))

  module _ (text : List ℕ) (at : ℕ) (d : Declared) where
    abbrev K : Known
    K = bindings text s.tokens ns

    abbrev many : ℕ
    many = 0 + length (S s.tokens ns before single)

    known : IsKnown s.tokens ns before single many K
    known = all_known s.tokens ns before single text

    scope_is : d.node ≡ leaf → IsNameMade s.tokens ns before single many d → d.scope ≡ b
    scope_is node (m, t, at_m, lt, inl (is, named, some), scope, told, linked) =
        let outer = maker_is s grown m leaf t at_m is (named ∙ ap (λ (k : ℕ). Some k) node) some in
        let same : m ≡ declared.declarator = some_same (sym outer ∙ declared.outermost) in
        scope ∙ first_is t (subst (λ (k : ℕ). slice_get (S s.tokens ns before single) k ≡ Some t) same at_m)
    scope_is node (m, t, at_m, lt, inr (is, child), scope, told, linked) = absurd (no_enumerator m is (subst (λ (k : ℕ). Part s.tokens ns m k) node child))

    same_entry : (i j : ℕ) (x : Declared) → slice_get K.names i ≡ Some d → slice_get K.names j ≡ Some x → i ≡ j → d ≡ x
    same_entry i j x di xj same = some_same (sym di ∙ (ap (λ (k : ℕ). slice_get K.names k) same ∙ xj))

    pub stays : entry_of K.names leaf ≡ Some d → paired K.uses at ≡ Some leaf → Beneath (IsPart s) b at
    stays found paired_is = by (every_at (IsUseOf s.tokens ns before single K.names K.tags) K.uses (at, leaf) known.uses (paired_in s.tokens ns before single text K.uses at leaf paired_is))
      where
        entry : In K.names d × (d.node ≡ leaf)
        entry = entry_in K.names leaf d found

        made : IsNameMade s.tokens ns before single many d
        made = every_at (IsNameMade s.tokens ns before single many) K.names d known.names entry.0

        by : IsUseOf s.tokens ns before single K.names K.tags (at, leaf) → Beneath (IsPart s) b at
        by (st, here, (x, inl has, node, around)) =
            let same = same_entry entry.0.0 has.0 x entry.0.1 has.1 (known.once entry.0.0 has.0 d x entry.0.1 has.1 (entry.1 ∙ sym node)) in
            let scope : x.scope ≡ b = ap (λ (y : Declared). y.scope) (sym same) ∙ scope_is entry.1 made in
            beneath_by (Part s.tokens ns) (IsPart s) there b at (around_below s.tokens ns b no_list no_file at st here (subst (λ (k : ℕ). contains st.scopes k ≡ true) scope around))
        by (st, here, (x, inr has, node, around)) =
            absurd (no_tag s.tokens ns before single d x many made (every_at (IsTagMade s.tokens ns before single) K.tags x known.tags has) (entry.1 ∙ sym node))
