-- The scopes around what stands in blocks.
use Rattle.std.proofs.Common.{◌≡◌, ◌==◌, ◌||◌, ℕ, nat_eq, Bool, true, false, List, [], ◌∷◌, Option, Some, None, length, refl, sym, ap, ◌∙◌, subst, ◌⊎◌, inl, inr}
use Rattle.std.proofs.lemmas.Bool.{eqb-true, eqb-false}
use Rattle.c_lexer.specs.declared.Token.{Token}
use Rattle.c_grammar.specs.Reads.{Node}
use Rattle.c_grammar.specs.Terminals.{contains}
use Rattle.c_grammar.specs.Productions.{p_unit, p_external, p_suffix, p_block, p_statement}
use Rattle.c_mentions.specs.declared.roles.Role.{Role}
use Rattle.c_mentions.specs.Syntax as syntax
use Rattle.c_mentions.specs.Roles.{opened}
use Rattle.c_mentions.specs.Settings.{Standing, outermost, handed_down, with_scope}
use Rattle.c_scope.specs.declared.kinds.Declared.{Declared}
use Rattle.c_scope.specs.Known.{first_scope, those_at}
use Rattle.c_senses.specs.Names.{all_linked, linked_along}
use Rattle.declaration_laws.specs.declared_type_laws.owner_laws.passed.definition_laws.scope_laws.Beneath.{part, deeper}
use Rattle.declaration_laws.proofs.declared_type_laws.owner_laws.passed.definition_laws.scope_laws.Tree.{further, compare, Order}
use Rattle.declaration_laws.proofs.declared_type_laws.owner_laws.passed.definition_laws.scope_laws.Scopes.{Part, Below, IsOf, apart}
use Rattle.declaration_laws.proofs.declared_type_laws.owner_laws.passed.definition_laws.linkage_laws.Roles.{opens}
use Rattle.declaration_laws.specs.declared_type_laws.seen_onward.Seen.{In}
use Rattle.declaration_laws.proofs.declared_type_laws.seen_onward.Lists.{in_those, seen_on, seen_first}
use Rattle.declaration_laws.proofs.declared_type_laws.seen_onward.Descent.{StandsAt, stands_once, each}
use Rattle.declaration_laws.proofs.declared_type_laws.seen_onward.Openers.{IsBlockPart, Shaped, Opens, Listed, IsOwn, up_one, never_above, opening}

no_both : (b : Bool) → b ≡ true → b ≡ false → ⊥
no_both b e f = let both : true ≡ false = sym e ∙ f in cc

module _ (tokens : List Token) (nodes : List Node) (shape : Shaped tokens nodes) where
  abbrev file : ℕ
  file = length nodes

  unit_opens : (m : ℕ) (r : Role) → IsOf tokens nodes p_unit m → opened tokens nodes m r ≡ None
  unit_opens m r is = opens tokens nodes p_unit m r (eqb-true (syntax.production_at nodes m) p_unit is)

  external_opens : (m : ℕ) (r : Role) → IsOf tokens nodes p_external m → opened tokens nodes m r ≡ None
  external_opens m r is = opens tokens nodes p_external m r (eqb-true (syntax.production_at nodes m) p_external is)

  scopes_by : (m : ℕ) (above : Standing) (o : Option ℕ) → opened tokens nodes m above.role ≡ o → (handed_down tokens nodes m above).scopes ≡ with_scope o above.scopes
  scopes_by m above o e = ap (λ (x : Option ℕ). with_scope x above.scopes) e

  -- ---- the innermost scope

  -- the innermost scope around a node is that of a block or of a statement
  pub record Innermost (i : ℕ) (st : Standing) : Type 0 where
    pub opener : ℕ
    pub below : Below tokens nodes opener i
    pub scope : ℕ
    pub opens : Opens tokens nodes opener scope
    pub block : IsOf tokens nodes p_block opener ⊎ IsOf tokens nodes p_statement opener
    pub is : st.scopes ≡ scope ∷ opens.standing.scopes

  pub record Placed (i : ℕ) (st : Standing) : Type 0 where
    pub unit : IsOf tokens nodes p_unit i → st.scopes ≡ file ∷ []
    pub external : IsOf tokens nodes p_external i → st.scopes ≡ file ∷ []
    pub inside : IsBlockPart tokens nodes i → (st.scopes ≡ file ∷ []) ⊎ Innermost i st

  placed_top : (i : ℕ) (st : Standing) → st ≡ outermost (length nodes) → ((m : ℕ) → Part tokens nodes m i → ⊥) → Placed i st
  placed_top i st e none =
      let at : st.scopes ≡ file ∷ [] = ap (λ (x : Standing). x.scopes) e in
      record { unit = λ is. at; external = λ is. at; inside = λ is. inl at }

  placed_step : (m i : ℕ) (above : Standing) → StandsAt tokens nodes m above → Part tokens nodes m i → Placed m above → Placed i (handed_down tokens nodes m above)
  placed_step m i above at child h = record {
    unit = λ is. absurd (no_both (syntax.production_at nodes i == p_unit) is (shape.units m i child));
    external = λ is. let u = shape.externals m i child is in scopes_by m above None (unit_opens m above.role u) ∙ h.unit u;
    inside = λ is. by (shape.parts m i child is);
  }
    where
      open_by : IsOf tokens nodes p_block m ⊎ IsOf tokens nodes p_statement m → (o : Option ℕ) → opened tokens nodes m above.role ≡ o → (above.scopes ≡ file ∷ []) ⊎ Innermost m above
          → ((handed_down tokens nodes m above).scopes ≡ file ∷ []) ⊎ Innermost i (handed_down tokens nodes m above)
      open_by block (Some scope) e up = inr (record { opener = m; below = part child; scope = scope; opens = record { standing = above; stands = at; opens = e }; block = block; is = scopes_by m above (Some scope) e })
      open_by block None e (inl flat) = inl (scopes_by m above None e ∙ flat)
      open_by block None e (inr n) = inr (record { opener = n.opener; below = deeper n.below child; scope = n.scope; opens = n.opens; block = n.block; is = scopes_by m above None e ∙ n.is })

      by : IsOf tokens nodes p_external m ⊎ (IsOf tokens nodes p_block m ⊎ IsOf tokens nodes p_statement m) → ((handed_down tokens nodes m above).scopes ≡ file ∷ []) ⊎ Innermost i (handed_down tokens nodes m above)
      by (inl external) = inl (scopes_by m above None (external_opens m above.role external) ∙ h.external external)
      by (inr block) = open_by block (opened tokens nodes m above.role) refl (h.inside (inr block))

  pub placed : (i : ℕ) (st : Standing) → StandsAt tokens nodes i st → Placed i st
  placed = each tokens nodes shape.before Placed placed_top placed_step

  -- ---- each scope

  abbrev pub IsOpened : ℕ → ℕ → Type 0
  IsOpened i scope = (scope ≡ file) ⊎ ((t : ℕ) × Below tokens nodes t i × Opens tokens nodes t scope)

  abbrev AllOpened : ℕ → Standing → Type 0
  AllOpened i st = (scope : ℕ) → contains st.scopes scope ≡ true → IsOpened i scope

  in_file : (scope : ℕ) → contains (file ∷ []) scope ≡ true → scope ≡ file
  in_file scope h = by (nat_eq file scope) refl h
    where
      by : (b : Bool) → nat_eq file scope ≡ b → (b || false) ≡ true → scope ≡ file
      by true e h = sym (eqb-true file scope e)
      by false e h = cc

  opened_step : (m i : ℕ) (above : Standing) → StandsAt tokens nodes m above → Part tokens nodes m i → AllOpened m above → AllOpened i (handed_down tokens nodes m above)
  opened_step m i above at child h = open_by (opened tokens nodes m above.role) refl
    where
      up : (scope : ℕ) → IsOpened m scope → IsOpened i scope
      up scope (inl e) = inl e
      up scope (inr (t, below, o)) = inr (t, deeper below child, o)

      open_by : (o : Option ℕ) → opened tokens nodes m above.role ≡ o → (scope : ℕ) → contains (with_scope o above.scopes) scope ≡ true → IsOpened i scope
      open_by None e scope has = up scope (h scope has)
      open_by (Some x) e scope has = pick (nat_eq x scope) refl has
        where
          pick : (b : Bool) → nat_eq x scope ≡ b → (b || contains above.scopes scope) ≡ true → IsOpened i scope
          pick true same has = inr (m, part child, record { standing = above; stands = at; opens = e ∙ ap (λ (k : ℕ). Some k) (eqb-true x scope same) })
          pick false same has = up scope (h scope has)

  pub all_opened : (i : ℕ) (st : Standing) → StandsAt tokens nodes i st → (scope : ℕ) → contains st.scopes scope ≡ true → IsOpened i scope
  all_opened = each tokens nodes shape.before AllOpened (λ i st e none scope has. inl (in_file scope (subst (λ (x : Standing). contains x.scopes scope ≡ true) e has))) opened_step

  -- ---- below what opens a scope

  module _ (p : ℕ) (own : ℕ) (o : Opens tokens nodes p own) where
    -- the first scope around what stands there is opened by it, or below it
    abbrev pub FirstInside : ℕ → Standing → Type 0
    FirstInside i st = Below tokens nodes p i → (r : ℕ) × Opens tokens nodes r (first_scope file st.scopes) × ((r ≡ p) ⊎ Below tokens nodes p r)

    first_top : (i : ℕ) (st : Standing) → st ≡ outermost (length nodes) → ((m : ℕ) → Part tokens nodes m i → ⊥) → FirstInside i st
    first_top i st e none (part r) = absurd (none p r)
    first_top i st e none (deeper {i = j} b r) = absurd (none j r)

    some_none : (x : Option ℕ) (k : ℕ) → x ≡ Some k → x ≡ None → ⊥
    some_none x k e f = cc

    first_step : (m i : ℕ) (above : Standing) → StandsAt tokens nodes m above → Part tokens nodes m i → FirstInside m above → FirstInside i (handed_down tokens nodes m above)
    first_step m i above at child h below = open_by (opened tokens nodes m above.role) refl (up_one tokens nodes shape p m i below child)
      where
        open_by : (x : Option ℕ) → opened tokens nodes m above.role ≡ x → (p ≡ m) ⊎ Below tokens nodes p m → (r : ℕ) × Opens tokens nodes r (first_scope file (handed_down tokens nodes m above).scopes) × ((r ≡ p) ⊎ Below tokens nodes p r)
        open_by (Some scope) e up =
            let first : scope ≡ first_scope file (handed_down tokens nodes m above).scopes = sym (ap (first_scope file) (scopes_by m above (Some scope) e)) in
            (m, record { standing = above; stands = at; opens = e ∙ ap (λ (k : ℕ). Some k) first }, place up)
          where
            place : (p ≡ m) ⊎ Below tokens nodes p m → (m ≡ p) ⊎ Below tokens nodes p m
            place (inl same) = inl (sym same)
            place (inr lower) = inr lower
        open_by None e (inl same) =
            let standing : o.standing ≡ above = stands_once tokens nodes m o.standing above (subst (λ (k : ℕ). StandsAt tokens nodes k o.standing) same o.stands) at in
            let opens_own : opened tokens nodes m above.role ≡ Some own = ap (λ (k : ℕ). opened tokens nodes k above.role) (sym same) ∙ (ap (λ (x : Standing). opened tokens nodes p x.role) (sym standing) ∙ o.opens) in
            absurd (some_none (opened tokens nodes m above.role) own opens_own e)
        open_by None e (inr lower) =
            let r = h lower in
            (r.0, subst (λ (k : ℕ). Opens tokens nodes r.0 k) (sym (ap (first_scope file) (scopes_by m above None e))) r.1, r.2)

    pub first_inside : (i : ℕ) (st : Standing) → StandsAt tokens nodes i st → FirstInside i st
    first_inside = each tokens nodes shape.before FirstInside first_top first_step

  -- ---- what is seen from a block

  module _ (symbol : ℕ) (ds : List Declared) where
    -- from where a declaration is that is seen, the same is seen
    pub record Reaches (i : ℕ) (st : Standing) (d : Declared) : Type 0 where
      pub opener : ℕ
      pub below : Below tokens nodes opener i
      pub opens : Opens tokens nodes opener d.scope
      pub block : IsOf tokens nodes p_block opener ⊎ IsOf tokens nodes p_statement opener
      pub on : (e : Declared) → In e (linked_along (d.scope ∷ opens.standing.scopes) symbol ds) → In e (linked_along st.scopes symbol ds)

    record SeesFrom (i : ℕ) (st : Standing) : Type 0 where
      external : IsOf tokens nodes p_external i → st.scopes ≡ file ∷ []
      inside : IsBlockPart tokens nodes i → (d : Declared) → In d (linked_along st.scopes symbol ds) → (d.scope ≡ file) ⊎ Reaches i st d

    pub at_file : (d : Declared) → In d (linked_along (file ∷ []) symbol ds) → In d (those_at file symbol ds)
    at_file d h = by (seen_first symbol ds file [] d h).1
      where
        by : In d (linked_along [] symbol ds) ⊎ In d (those_at file symbol ds) → In d (those_at file symbol ds)
        by (inl k) = absurd k
        by (inr k) = k

    flat : (scopes : List ℕ) (d : Declared) → scopes ≡ file ∷ [] → In d (linked_along scopes symbol ds) → d.scope ≡ file
    flat scopes d e h = (in_those file symbol ds d (at_file d (subst (λ (l : List ℕ). In d (linked_along l symbol ds)) e h))).1

    sees_top : (i : ℕ) (st : Standing) → st ≡ outermost (length nodes) → ((m : ℕ) → Part tokens nodes m i → ⊥) → SeesFrom i st
    sees_top i st e none = let at : st.scopes ≡ file ∷ [] = ap (λ (x : Standing). x.scopes) e in record { external = λ is. at; inside = λ is d h. inl (flat st.scopes d at h) }

    sees_step : (m i : ℕ) (above : Standing) → StandsAt tokens nodes m above → Part tokens nodes m i → SeesFrom m above → SeesFrom i (handed_down tokens nodes m above)
    sees_step m i above at child h = record {
      external = (placed_step m i above at child (placed m above at)).external;
      inside = λ is d k. by (shape.parts m i child is) d k;
    }
      where
        below : Standing
        below = handed_down tokens nodes m above

        open_by : IsOf tokens nodes p_block m ⊎ IsOf tokens nodes p_statement m → (d : Declared) → (o : Option ℕ) → opened tokens nodes m above.role ≡ o → In d (linked_along (with_scope o above.scopes) symbol ds)
            → (d.scope ≡ file) ⊎ Reaches i (handed_down tokens nodes m above) d
        open_by block d None e k = up (h.inside (inr block) d k)
          where
            up : (d.scope ≡ file) ⊎ Reaches m above d → (d.scope ≡ file) ⊎ Reaches i (handed_down tokens nodes m above) d
            up (inl f) = inl f
            up (inr r) = inr (record { opener = r.opener; below = deeper r.below child; opens = r.opens; block = r.block; on = λ x y. subst (λ (l : List ℕ). In x (linked_along l symbol ds)) (sym (scopes_by m above None e)) (r.on x y) })
        open_by block d (Some scope) e k = pick (nat_eq scope d.scope) refl
          where
            out : (x : Declared) → In x (linked_along (scope ∷ above.scopes) symbol ds) → In x (linked_along (handed_down tokens nodes m above).scopes symbol ds)
            out x y = subst (λ (l : List ℕ). In x (linked_along l symbol ds)) (sym (scopes_by m above (Some scope) e)) y

            up : (x : ℕ) → (in_all : (y : Declared) → In y (linked_along above.scopes symbol ds) → In y (linked_along (scope ∷ above.scopes) symbol ds)) → (d.scope ≡ file) ⊎ Reaches m above d → (d.scope ≡ file) ⊎ Reaches i (handed_down tokens nodes m above) d
            up x in_all (inl f) = inl f
            up x in_all (inr r) = inr (record { opener = r.opener; below = deeper r.below child; opens = r.opens; block = r.block; on = λ z y. out z (in_all z (r.on z y)) })

            pick : (b : Bool) → nat_eq scope d.scope ≡ b → (d.scope ≡ file) ⊎ Reaches i (handed_down tokens nodes m above) d
            pick true same =
                let is : scope ≡ d.scope = eqb-true scope d.scope same in
                inr (record {
                  opener = m;
                  below = part child;
                  opens = record { standing = above; stands = at; opens = e ∙ ap (λ (n : ℕ). Some n) is };
                  block = block;
                  on = λ x y. out x (subst (λ (n : ℕ). In x (linked_along (n ∷ above.scopes) symbol ds)) (sym is) y);
                })
            pick false other =
                let first = seen_first symbol ds scope above.scopes d k in
                split first.0 first.1
              where
                split : all_linked (those_at scope symbol ds) ≡ true → In d (linked_along above.scopes symbol ds) ⊎ In d (those_at scope symbol ds) → (d.scope ≡ file) ⊎ Reaches i (handed_down tokens nodes m above) d
                split all (inl outer) = up scope (λ y z. seen_on symbol ds scope above.scopes y all z) (h.inside (inr block) d outer)
                split all (inr here) = absurd (eqb-false scope d.scope other (sym (in_those scope symbol ds d here).1))

        by : IsOf tokens nodes p_external m ⊎ (IsOf tokens nodes p_block m ⊎ IsOf tokens nodes p_statement m) → (d : Declared) → In d (linked_along (handed_down tokens nodes m above).scopes symbol ds) → (d.scope ≡ file) ⊎ Reaches i (handed_down tokens nodes m above) d
        by (inl external) d k = inl (flat (handed_down tokens nodes m above).scopes d (scopes_by m above None (external_opens m above.role external) ∙ h.external external) k)
        by (inr block) d k = open_by block d (opened tokens nodes m above.role) refl k

    pub sees_from : (i : ℕ) (st : Standing) → StandsAt tokens nodes i st → IsBlockPart tokens nodes i → (d : Declared) → In d (linked_along st.scopes symbol ds) → (d.scope ≡ file) ⊎ Reaches i st d
    sees_from i st at = let h = each tokens nodes shape.before SeesFrom sees_top sees_step i st at in h.inside

  -- ---- one scope is opened by one block

  no_suffix : (a list : ℕ) → IsOf tokens nodes p_suffix list → a ≡ list → IsOf tokens nodes p_block a ⊎ IsOf tokens nodes p_statement a → ⊥
  no_suffix a list suffix same (inl block) = no_both (syntax.production_at nodes list == p_suffix) suffix (apart tokens nodes p_block p_suffix list (subst (λ (k : ℕ). IsOf tokens nodes p_block k) same block) refl)
  no_suffix a list suffix same (inr statement) = no_both (syntax.production_at nodes list == p_suffix) suffix (apart tokens nodes p_statement p_suffix list (subst (λ (k : ℕ). IsOf tokens nodes p_statement k) same statement) refl)

  one_definition : (p q list : ℕ) (l : Listed tokens nodes p list) (m : Listed tokens nodes q list) → l.definition ≡ m.definition
  one_definition p q list l m =
      by (compare (Part tokens nodes) shape.single l.definition m.definition list (further (Part tokens nodes) l.definition l.declarator list (part l.declared) l.below) (further (Part tokens nodes) m.definition m.declarator list (part m.declared) m.below))
    where
      by : Order (Part tokens nodes) l.definition m.definition → l.definition ≡ m.definition
      by (inl same) = same
      by (inr (inl under)) = absurd (never_above tokens nodes shape l.definition m.definition under m.external p_external refl l.external)
      by (inr (inr under)) = absurd (never_above tokens nodes shape m.definition l.definition under l.external p_external refl m.external)

  pub one_opener : (p q scope : ℕ) → Opens tokens nodes p scope → Opens tokens nodes q scope → IsOf tokens nodes p_block p ⊎ IsOf tokens nodes p_statement p → IsOf tokens nodes p_block q ⊎ IsOf tokens nodes p_statement q → p ≡ q
  one_opener p q scope a b x y = by (opening tokens nodes shape p scope a) (opening tokens nodes shape q scope b)
    where
      by : IsOwn tokens nodes p scope ⊎ Listed tokens nodes p scope → IsOwn tokens nodes q scope ⊎ Listed tokens nodes q scope → p ≡ q
      by (inl own) (inl other) = sym own.0 ∙ other.0
      by (inl own) (inr l) = absurd (no_suffix p scope l.suffix (sym own.0) x)
      by (inr l) (inl own) = absurd (no_suffix q scope l.suffix (sym own.0) y)
      by (inr l) (inr m) =
          let same : l.definition ≡ m.definition = one_definition p q scope l m in
          shape.one_block m.definition p q m.external (subst (λ (k : ℕ). Part tokens nodes k p) same l.inside) m.inside l.block m.block
