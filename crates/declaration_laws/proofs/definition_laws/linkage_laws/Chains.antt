-- From the declarator that declares a name down to the leaf of the name, and up to its declaration.
use Rattle.std.proofs.Common.{arith, ◌≡◌, ◌<◌, ◌≤◌, ◌+◌, ℕ, zero, suc, ◌||◌, ◌&&◌, ◌==◌, not, nat_eq, Bool, true, false, List, Option, Some, None, length, slice_get, refl, sym, ap, ◌∙◌, subst, ◌⊎◌, inl, inr}
use Rattle.std.specs.Prelude.{IfSome, if◌then◌else◌, nat_lt}
use Rattle.std.specs.List.{find}
use Rattle.c_grammar.specs.Productions.{p_external, p_rest, p_declaration, p_declarator, p_abstract, p_either}
use Rattle.c_grammar.specs.Terminals.{contains}
use Rattle.c_grammar.specs.Reads.{Node, leaf}
use Rattle.c_mentions.specs.Syntax as syntax
use Rattle.c_mentions.specs.Declarators.{declarator, within, level, inner_of, name_of, is_inner}
use Rattle.c_mentions.specs.declared.roles.Specifiers.{Specifiers}
use Rattle.c_mentions.specs.declared.roles.Role.{Role}
use Rattle.c_mentions.specs.declared.roles.Role.TheVariants as role
use Rattle.c_mentions.specs.Roles.{in_declaration, specified, opened}
use Rattle.c_mentions.specs.Settings.{Standing, standings, with_scope, handed_down, outermost}
use Rattle.c_senses.specs.Tree.{Source, children_at, is_a, is_name, parent_of, above_within}
use Rattle.c_senses.specs.Declarators.{is_declarator, is_outermost, outermost_of}
use Rattle.core_node_laws.proofs.count_laws.passed.parsed_tree_laws.nesting_laws.PassedOn.{Grown}
use Rattle.core_node_laws.proofs.count_laws.passed.parsed_tree_laws.nesting_laws.PassedOn.{found}
use Rattle.declaration_laws.proofs.definition_laws.linkage_laws.Standings.{HasParent, parents}
use Rattle.declaration_laws.proofs.definition_laws.linkage_laws.Seen.{nodes, none_some, no_both, production_is, production_same, children_are, child_is, name_is, parent_is}
use Rattle.declaration_laws.proofs.definition_laws.linkage_laws.Roles.{role_handed, declared_specs, open_by, opens}

left : (a b : Bool) → (a && b) ≡ true → a ≡ true
left true b e = refl
left false b e = cc

module _ (s : Source) (grown : Grown s) where
  pub either_is : (i p q : ℕ) → nat_eq 48 p ≡ false → nat_eq 48 q ≡ false → (syntax.production_at (nodes s) i == p || syntax.production_at (nodes s) i == q) ≡ true → (is_a s p i ≡ true) ⊎ (is_a s q i ≡ true)
  either_is i p q other more h = by (syntax.production_at (nodes s) i == p) (syntax.production_at (nodes s) i == q) refl refl h
    where
      by : (a b : Bool) → (syntax.production_at (nodes s) i == p) ≡ a → (syntax.production_at (nodes s) i == q) ≡ b → (a || b) ≡ true → (is_a s p i ≡ true) ⊎ (is_a s q i ≡ true)
      by true b e f h = inl (production_is s p i other e)
      by false true e f h = inr (production_is s q i more f)
      by false false e f h = cc

  pub declaring : (i : ℕ) → (is_a s p_declarator i ≡ true) ⊎ (is_a s p_either i ≡ true) → is_declarator s i ≡ true
  declaring i (inl h) = ap (λ (b : Bool). b || is_a s p_abstract i || is_a s p_either i) h
  declaring i (inr h) = by (is_a s p_declarator i) (is_a s p_abstract i) (is_a s p_either i) h
    where
      by : (a b c : Bool) → c ≡ true → (a || b || c) ≡ true
      by true b c h = refl
      by false true c h = refl
      by false false c h = h

  -- ---- from an outermost declarator down to its name

  module _ (n name : ℕ) (outer : is_outermost s n ≡ true) where
    -- from node m on up the outermost declarator is found
    abbrev Leads : ℕ → Type 0
    Leads m = (fuel : ℕ) → length s.nodes ≤ m + fuel → above_within s (is_outermost s) fuel (Some m) ≡ Some n

    own_leads : n < length s.nodes → Leads n
    own_leads lt zero enough = absurd (omega (arith, lt, enough))
    own_leads lt (suc fuel) enough = by (is_outermost s n) outer
      where
        by : (b : Bool) → b ≡ true → (if b then Some n else above_within s (is_outermost s) fuel (parent_of s n)) ≡ Some n
        by true e = refl
        by false e = cc

    inner_leads : (m c : ℕ) → is_declarator s m ≡ true → contains (children_at s m) c ≡ true → Leads m → Leads c
    inner_leads m c is child leads zero enough = absurd (let small : c < m = grown.before m c child in let whole : m < length s.nodes = grown.within m c child in omega (arith, small, whole, enough))
    inner_leads m c is child leads (suc fuel) enough =
        let up : parent_of s c ≡ Some m = parent_is s grown m c child in
        let small : c < m = grown.before m c child in
        let not_outer : is_outermost s c ≡ false = ap (λ (o : Option ℕ). is_declarator s c && elim o as (λ _. Bool) [ None ↦ true | Some p ↦ not (is_declarator s p) ]) up ∙ (ap (λ (b : Bool). is_declarator s c && not b) is ∙ none (is_declarator s c)) in
        by (is_outermost s c) not_outer (ap (above_within s (is_outermost s) fuel) up ∙ leads fuel (omega (arith, small, enough)))
      where
        none : (b : Bool) → (b && false) ≡ false
        none true = refl
        none false = refl

        by : (b : Bool) → b ≡ false → above_within s (is_outermost s) fuel (parent_of s c) ≡ Some n → (if b then Some c else above_within s (is_outermost s) fuel (parent_of s c)) ≡ Some n
        by true e f = cc
        by false e f = f

    -- where the name is found
    pub record Reached : Type 0 where
      pub named : is_name s name ≡ true
      pub outermost : outermost_of s name ≡ Some n
      pub holder : ℕ
      pub declares : (is_a s p_declarator holder ≡ true) ⊎ (is_a s p_either holder ≡ true)
      pub child : contains (children_at s holder) name ≡ true

    own_name : (m : ℕ) → (is_a s p_declarator m ≡ true) ⊎ (is_a s p_either m ≡ true) → Leads m → name_of s.tokens (nodes s) m ≡ Some name → Reached
    unfolding name_of
    own_name m is leads e = by (found (λ child. syntax.is_name s.tokens (nodes s) child) (syntax.children_at (nodes s) m))
      where
        by : IfSome (find (λ child. syntax.is_name s.tokens (nodes s) child) (syntax.children_at (nodes s) m)) (λ y. (contains (syntax.children_at (nodes s) m) y ≡ true) × (syntax.is_name s.tokens (nodes s) y ≡ true)) → Reached
        by h =
            let at = subst (λ (o : Option ℕ). IfSome o (λ y. (contains (syntax.children_at (nodes s) m) y ≡ true) × (syntax.is_name s.tokens (nodes s) y ≡ true))) e h in
            let child : contains (children_at s m) name ≡ true = subst (λ (l : List ℕ). contains l name ≡ true) (children_are s m) at.0 in
            record {
              named = name_is s name at.1;
              outermost = ap (above_within s (is_outermost s) (length s.nodes)) (parent_is s grown m name child) ∙ leads (length s.nodes) (omega arith);
              holder = m;
              declares = is;
              child = child;
            }

    inner_part : (m c : ℕ) → inner_of (nodes s) m ≡ Some c → (contains (children_at s m) c ≡ true) × ((is_a s p_declarator c ≡ true) ⊎ (is_a s p_either c ≡ true))
    unfolding inner_of
    inner_part m c e =
        let at = subst (λ (o : Option ℕ). IfSome o (λ y. (contains (syntax.children_at (nodes s) m) y ≡ true) × (is_inner (nodes s) m y ≡ true))) e (found (λ child. is_inner (nodes s) m child) (syntax.children_at (nodes s) m)) in
        (subst (λ (l : List ℕ). contains l c ≡ true) (children_are s m) at.0, either_is c p_declarator p_either refl refl (left (syntax.is_of (nodes s) p_declarator c || syntax.is_of (nodes s) p_either c) (nat_lt c m) at.1))

    reach : (levels m : ℕ) → (is_a s p_declarator m ≡ true) ⊎ (is_a s p_either m ≡ true) → Leads m → (within s.tokens (nodes s) levels m).name ≡ Some name → Reached
    reach zero m is leads e = absurd (none_some e)
    reach (suc levels) m is leads e = by (inner_of (nodes s) m) refl e (λ c at more f. reach levels c at more f)
      where
        by : (o : Option ℕ) → inner_of (nodes s) m ≡ o → (level s.tokens (nodes s) (within s.tokens (nodes s) levels) m o).name ≡ Some name
            → ((c : ℕ) → (is_a s p_declarator c ≡ true) ⊎ (is_a s p_either c ≡ true) → Leads c → (within s.tokens (nodes s) levels c).name ≡ Some name → Reached) → Reached
        by None at e later = own_name m is leads e
        by (Some c) at e later = let part = inner_part m c at in later c part.1 (inner_leads m c (declaring m is) part.0 leads) e

    pub name_reached : (is_a s p_declarator n ≡ true) ⊎ (is_a s p_either n ≡ true) → n < length s.nodes → (declarator s.tokens (nodes s) n).name ≡ Some name → Reached
    unfolding declarator
    name_reached is lt e = reach (suc n) n is (own_leads lt) e

  -- ---- from a node with the role of a declaration up to that

  abbrev all : List Standing
  all = standings s.tokens (nodes s) 0 (nodes s)

  pub record Declares (i : ℕ) (st : Standing) (x : Specifiers) : Type 0 where
    pub parent : ℕ
    pub child : contains (children_at s parent) i ≡ true
    pub declaration : ℕ
    pub is : (is_a s p_external declaration ≡ true) ⊎ (is_a s p_declaration declaration ≡ true)
    pub around : (parent ≡ declaration) ⊎ ((is_a s p_rest parent ≡ true) × (contains (children_at s declaration) parent ≡ true))
    pub specs : ℕ
    pub first : syntax.first_child (nodes s) declaration ≡ Some specs
    pub specified_is : x ≡ specified s.tokens (nodes s) declaration specs
    pub at : Standing
    pub stands : slice_get all declaration ≡ Some at
    pub scopes : st.scopes ≡ at.scopes

  opens_none : (n p : ℕ) (r : Role) → is_a s p n ≡ true → nat_eq leaf p ≡ false → open_by s.tokens (nodes s) p n r ≡ None → opened s.tokens (nodes s) n r ≡ None
  opens_none n p r is other none = opens s.tokens (nodes s) p n r (production_same s p n other is) ∙ none

  same_scopes : (n : ℕ) (above : Standing) → opened s.tokens (nodes s) n above.role ≡ None → (handed_down s.tokens (nodes s) n above).scopes ≡ above.scopes
  same_scopes n above none = ap (λ (o : Option ℕ). with_scope o above.scopes) none

  declaration_opens : (n : ℕ) (above : Standing) → (is_a s p_external n ≡ true) ⊎ (is_a s p_declaration n ≡ true) → (handed_down s.tokens (nodes s) n above).scopes ≡ above.scopes
  declaration_opens n above (inl is) = same_scopes n above (opens_none n p_external above.role is refl refl)
  declaration_opens n above (inr is) = same_scopes n above (opens_none n p_declaration above.role is refl refl)

  rest_opens : (n : ℕ) (above : Standing) → is_a s p_rest n ≡ true → (handed_down s.tokens (nodes s) n above).scopes ≡ above.scopes
  rest_opens n above is = same_scopes n above (opens_none n p_rest above.role is refl refl)

  -- the rest of a declaration is a part of that
  abbrev pub RestsNest : Type 0
  RestsNest = (i c : ℕ) → contains (children_at s i) c ≡ true → is_a s p_rest c ≡ true → is_a s p_rest i ≡ false

  no_role : (x : Specifiers) → (outermost (length (nodes s))).role ≡ role.Declaration x → ⊥
  no_role x e = cc

  pub declares : RestsNest → (i : ℕ) (st : Standing) (x : Specifiers) → slice_get all i ≡ Some st → st.role ≡ role.Declaration x → Declares i st x
  declares nest i st x at e = by (parents s.tokens (nodes s) i st at)
    where
      own : (h : HasParent s.tokens (nodes s) i st) → ((syntax.production_at (nodes s) h.parent == p_external || syntax.production_at (nodes s) h.parent == p_declaration) ≡ true) → in_declaration s.tokens (nodes s) h.parent ≡ role.Declaration x → Declares i st x
      own h is told =
          let specs = declared_specs s.tokens (nodes s) h.parent x told in
          let which = either_is h.parent p_external p_declaration refl refl is in
          record {
            parent = h.parent;
            child = child_is s h.parent i h.node h.there h.child;
            declaration = h.parent;
            is = which;
            around = inl refl;
            specs = specs.0;
            first = specs.1;
            specified_is = specs.2;
            at = h.above;
            stands = h.stands;
            scopes = ap (λ (y : Standing). y.scopes) h.is ∙ declaration_opens h.parent h.above which;
          }

      above : (h : HasParent s.tokens (nodes s) i st) → is_a s p_rest h.parent ≡ true → h.above.role ≡ role.Declaration x → Declares i st x
      above h rest told = up (parents s.tokens (nodes s) h.parent h.above h.stands)
        where
          up : ((h.above ≡ outermost (length (nodes s))) × ((k : ℕ) (n : Node) → h.parent < k → slice_get (nodes s) k ≡ Some n → contains n.children h.parent ≡ false)) ⊎ HasParent s.tokens (nodes s) h.parent h.above → Declares i st x
          up (inl none) = absurd (no_role x (sym (ap (λ (y : Standing). y.role) none.0) ∙ told))
          up (inr g) =
              let child : contains (children_at s g.parent) h.parent ≡ true = child_is s g.parent h.parent g.node g.there g.child in
              pick (role_handed s.tokens (nodes s) g.parent g.above.role x (sym (ap (λ (y : Standing). y.role) g.is) ∙ told))
            where
              pick : (((syntax.production_at (nodes s) g.parent == p_external || syntax.production_at (nodes s) g.parent == p_declaration) ≡ true) × (in_declaration s.tokens (nodes s) g.parent ≡ role.Declaration x)) ⊎ (((syntax.production_at (nodes s) g.parent == p_rest) ≡ true) × (g.above.role ≡ role.Declaration x)) → Declares i st x
              pick (inl h2) =
                  let specs = declared_specs s.tokens (nodes s) g.parent x h2.1 in
                  let which = either_is g.parent p_external p_declaration refl refl h2.0 in
                  record {
                    parent = h.parent;
                    child = child_is s h.parent i h.node h.there h.child;
                    declaration = g.parent;
                    is = which;
                    around = inr (rest, child_is s g.parent h.parent g.node g.there g.child);
                    specs = specs.0;
                    first = specs.1;
                    specified_is = specs.2;
                    at = g.above;
                    stands = g.stands;
                    scopes = ap (λ (y : Standing). y.scopes) h.is ∙ (rest_opens h.parent h.above rest ∙ (ap (λ (y : Standing). y.scopes) g.is ∙ declaration_opens g.parent g.above which));
                  }
              pick (inr h2) = absurd (no_both (is_a s p_rest g.parent) (production_is s p_rest g.parent refl h2.0) (nest g.parent h.parent (child_is s g.parent h.parent g.node g.there g.child) rest))

      by : ((st ≡ outermost (length (nodes s))) × ((k : ℕ) (n : Node) → i < k → slice_get (nodes s) k ≡ Some n → contains n.children i ≡ false)) ⊎ HasParent s.tokens (nodes s) i st → Declares i st x
      by (inl none) = absurd (no_role x (sym (ap (λ (y : Standing). y.role) none.0) ∙ e))
      by (inr h) = pick (role_handed s.tokens (nodes s) h.parent h.above.role x (sym (ap (λ (y : Standing). y.role) h.is) ∙ e))
        where
          pick : (((syntax.production_at (nodes s) h.parent == p_external || syntax.production_at (nodes s) h.parent == p_declaration) ≡ true) × (in_declaration s.tokens (nodes s) h.parent ≡ role.Declaration x)) ⊎ (((syntax.production_at (nodes s) h.parent == p_rest) ≡ true) × (h.above.role ≡ role.Declaration x)) → Declares i st x
          pick (inl h2) = own h h2.0 h2.1
          pick (inr h2) = above h (production_is s p_rest h.parent refl h2.0) h2.1
