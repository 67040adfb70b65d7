-- What is seen at file scope from within blocks is seen from each block around.
use Rattle.std.proofs.Common.{arith, ◌≡◌, ◌&&◌, ℕ, nat_eq, Bool, true, false, List, [], ◌∷◌, Option, Some, None, length, refl, sym, ap, ◌∙◌, subst, ◌⊎◌, inl, inr}
use Rattle.std.proofs.lemmas.Bool.{eqb-true, eqb-false}
use Rattle.c_lexer.specs.declared.Token.{Token}
use Rattle.c_grammar.specs.Reads.{Node}
use Rattle.c_grammar.specs.Productions.{p_external, p_block, p_statement}
use Rattle.c_mentions.specs.declared.roles.Role.{Role}
use Rattle.c_mentions.specs.Syntax as syntax
use Rattle.c_mentions.specs.Roles.{opened}
use Rattle.c_mentions.specs.Settings.{Standing, outermost, handed_down, with_scope}
use Rattle.c_scope.specs.declared.kinds.Declared.{Declared}
use Rattle.c_scope.specs.Known.{those_at}
use Rattle.c_senses.specs.Names.{has_linkage, all_linked, linked_along}
use Rattle.declaration_laws.specs.declared_type_laws.owner_laws.passed.definition_laws.scope_laws.Beneath.{part, deeper}
use Rattle.declaration_laws.proofs.declared_type_laws.owner_laws.passed.definition_laws.scope_laws.Scopes.{Part, Below, IsOf}
use Rattle.declaration_laws.proofs.declared_type_laws.owner_laws.passed.definition_laws.linkage_laws.Roles.{opens}
use Rattle.declaration_laws.specs.declared_type_laws.seen_onward.Seen.{In}
use Rattle.declaration_laws.proofs.declared_type_laws.seen_onward.Lists.{in_those, seen_first}
use Rattle.declaration_laws.proofs.declared_type_laws.seen_onward.Descent.{StandsAt, each}
use Rattle.declaration_laws.proofs.declared_type_laws.seen_onward.Openers.{IsBlockPart, Shaped, Opens, opens_small}
use Rattle.declaration_laws.proofs.declared_type_laws.seen_onward.Around.{placed, at_file}

-- where each one has linkage, all have
pub all_from : (ds : List Declared) → ((d : Declared) → In d ds → has_linkage d ≡ true) → all_linked ds ≡ true
all_from [] h = refl
all_from (x ∷ xs) h = by (has_linkage x) (h x (inl refl)) (all_from xs (λ d i. h d (inr i)))
  where
    by : (b : Bool) → b ≡ true → all_linked xs ≡ true → (b && all_linked xs) ≡ true
    by true e f = f
    by false e f = cc

module _ (tokens : List Token) (nodes : List Node) (shape : Shaped tokens nodes) where
  abbrev file : ℕ
  file = length nodes

  external_opens : (m : ℕ) (r : Role) → IsOf tokens nodes p_external m → opened tokens nodes m r ≡ None
  external_opens m r is = opens tokens nodes p_external m r (eqb-true (syntax.production_at nodes m) p_external is)

  scopes_by : (m : ℕ) (above : Standing) (o : Option ℕ) → opened tokens nodes m above.role ≡ o → (handed_down tokens nodes m above).scopes ≡ with_scope o above.scopes
  scopes_by m above o e = ap (λ (x : Option ℕ). with_scope x above.scopes) e

  module _ (symbol : ℕ) (ds : List Declared) where
    -- what is seen at file scope is seen from where a declaration is that is seen
    pub record Leads (i : ℕ) (st : Standing) (d : Declared) : Type 0 where
      pub opener : ℕ
      pub below : Below tokens nodes opener i
      pub opens : Opens tokens nodes opener d.scope
      pub block : IsOf tokens nodes p_block opener ⊎ IsOf tokens nodes p_statement opener
      pub back : (e : Declared) → e.scope ≡ length nodes → In e (linked_along st.scopes symbol ds) → In e (linked_along (d.scope ∷ opens.standing.scopes) symbol ds)

    abbrev Seeing : ℕ → Standing → Type 0
    Seeing i st = IsBlockPart tokens nodes i → (d : Declared) → In d (linked_along st.scopes symbol ds) → (d.scope ≡ length nodes) ⊎ Leads i st d

    flat : (scopes : List ℕ) (d : Declared) → scopes ≡ file ∷ [] → In d (linked_along scopes symbol ds) → d.scope ≡ file
    flat scopes d e h = (in_those file symbol ds d (at_file tokens nodes shape symbol ds d (subst (λ (l : List ℕ). In d (linked_along l symbol ds)) e h))).1

    top : (i : ℕ) (st : Standing) → st ≡ outermost (length nodes) → ((m : ℕ) → Part tokens nodes m i → ⊥) → Seeing i st
    top i st e none is d h = inl (flat st.scopes d (ap (λ (x : Standing). x.scopes) e) h)

    step : (m i : ℕ) (above : Standing) → StandsAt tokens nodes m above → Part tokens nodes m i → Seeing m above → Seeing i (handed_down tokens nodes m above)
    step m i above at child h is d k = by (shape.parts m i child is) d k
      where
        moved : (o : Option ℕ) → opened tokens nodes m above.role ≡ o → (x : Declared) → In x (linked_along (handed_down tokens nodes m above).scopes symbol ds) → In x (linked_along (with_scope o above.scopes) symbol ds)
        moved o e x y = subst (λ (l : List ℕ). In x (linked_along l symbol ds)) (scopes_by m above o e) y

        open_by : IsOf tokens nodes p_block m ⊎ IsOf tokens nodes p_statement m → (d : Declared) → (o : Option ℕ) → opened tokens nodes m above.role ≡ o → In d (linked_along (with_scope o above.scopes) symbol ds)
            → (d.scope ≡ length nodes) ⊎ Leads i (handed_down tokens nodes m above) d
        open_by block d None e k = up (h (inr block) d k)
          where
            up : (d.scope ≡ length nodes) ⊎ Leads m above d → (d.scope ≡ length nodes) ⊎ Leads i (handed_down tokens nodes m above) d
            up (inl f) = inl f
            up (inr r) = inr (record { opener = r.opener; below = deeper r.below child; opens = r.opens; block = r.block; back = λ x f y. r.back x f (moved None e x y) })
        open_by block d (Some scope) e k = pick (nat_eq scope d.scope) refl
          where
            own : Opens tokens nodes m scope
            own = record { standing = above; stands = at; opens = e }

            outer : (x : Declared) → x.scope ≡ length nodes → In x (linked_along (scope ∷ above.scopes) symbol ds) → In x (linked_along above.scopes symbol ds)
            outer x f y = split (seen_first symbol ds scope above.scopes x y).1
              where
                split : In x (linked_along above.scopes symbol ds) ⊎ In x (those_at scope symbol ds) → In x (linked_along above.scopes symbol ds)
                split (inl z) = z
                split (inr z) =
                    let there = (in_those scope symbol ds x z).1 in
                    let lt = opens_small tokens nodes shape m scope own in
                    absurd (omega (arith, there, lt, f))

            up : (d.scope ≡ length nodes) ⊎ Leads m above d → (d.scope ≡ length nodes) ⊎ Leads i (handed_down tokens nodes m above) d
            up (inl f) = inl f
            up (inr r) = inr (record { opener = r.opener; below = deeper r.below child; opens = r.opens; block = r.block; back = λ x f y. r.back x f (outer x f (moved (Some scope) e x y)) })

            pick : (b : Bool) → nat_eq scope d.scope ≡ b → (d.scope ≡ length nodes) ⊎ Leads i (handed_down tokens nodes m above) d
            pick true same =
                let is : scope ≡ d.scope = eqb-true scope d.scope same in
                inr (record {
                  opener = m;
                  below = part child;
                  opens = record { standing = above; stands = at; opens = e ∙ ap (λ (n : ℕ). Some n) is };
                  block = block;
                  back = λ x f y. subst (λ (n : ℕ). In x (linked_along (n ∷ above.scopes) symbol ds)) is (moved (Some scope) e x y);
                })
            pick false other = split (seen_first symbol ds scope above.scopes d k).1
              where
                split : In d (linked_along above.scopes symbol ds) ⊎ In d (those_at scope symbol ds) → (d.scope ≡ length nodes) ⊎ Leads i (handed_down tokens nodes m above) d
                split (inl more) = up (h (inr block) d more)
                split (inr here) = absurd (eqb-false scope d.scope other (sym (in_those scope symbol ds d here).1))

        by : IsOf tokens nodes p_external m ⊎ (IsOf tokens nodes p_block m ⊎ IsOf tokens nodes p_statement m) → (d : Declared) → In d (linked_along (handed_down tokens nodes m above).scopes symbol ds) → (d.scope ≡ length nodes) ⊎ Leads i (handed_down tokens nodes m above) d
        by (inl external) d k = inl (flat (handed_down tokens nodes m above).scopes d (scopes_by m above None (external_opens m above.role external) ∙ (placed tokens nodes shape m above at).external external) k)
        by (inr block) d k = open_by block d (opened tokens nodes m above.role) refl (subst (λ (l : List ℕ). In d (linked_along l symbol ds)) (scopes_by m above (opened tokens nodes m above.role) refl) k)

    pub leads : (i : ℕ) (st : Standing) → StandsAt tokens nodes i st → IsBlockPart tokens nodes i → (d : Declared) → In d (linked_along st.scopes symbol ds) → (d.scope ≡ length nodes) ⊎ Leads i st d
    leads i st at = each tokens nodes shape.before Seeing top step i st at
