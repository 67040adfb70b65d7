-- What a declaration sees is seen from further in, where nothing is made between them at the scopes around.
use Rattle.std.proofs.Common.{arith, ◌≡◌, ℕ, true, List, [], ◌∷◌, length, sym, ap, ◌∙◌, subst, ◌⊎◌, inl, inr}
use Rattle.c_lexer.specs.declared.Token.{Token}
use Rattle.c_grammar.specs.Reads.{Node}
use Rattle.c_grammar.specs.Productions.{p_external, p_declaration}
use Rattle.c_mentions.specs.Settings.{Standing}
use Rattle.c_scope.specs.declared.kinds.Declared.{Declared}
use Rattle.c_scope.specs.Known.{first_scope, those_at}
use Rattle.c_senses.specs.Names.{all_linked, linked_along}
use Rattle.declaration_laws.proofs.declared_type_laws.owner_laws.passed.definition_laws.scope_laws.Scopes.{Below, IsOf}
use Rattle.declaration_laws.specs.declared_type_laws.seen_onward.Seen.{In}
use Rattle.declaration_laws.proofs.declared_type_laws.seen_onward.Lists.{in_those, seen, seen_on, seen_first, SameAt, same_along}
use Rattle.declaration_laws.proofs.declared_type_laws.seen_onward.Descent.{StandsAt, stands_once}
use Rattle.declaration_laws.proofs.declared_type_laws.seen_onward.Openers.{Shaped, Opens, opens_small}
use Rattle.declaration_laws.proofs.declared_type_laws.seen_onward.Around.{Innermost, Reaches, placed, at_file, sees_from, one_opener}

module _ (tokens : List Token) (nodes : List Node) (shape : Shaped tokens nodes) where
  abbrev file : ℕ
  file = length nodes

  abbrev pub IsDeclaration : ℕ → Type 0
  IsDeclaration i = IsOf tokens nodes p_external i ⊎ IsOf tokens nodes p_declaration i

  module _ (symbol : ℕ) (xs ys : List Declared) (d : Declared) (i : ℕ) (st : Standing) (at : StandsAt tokens nodes i st) (declares : IsDeclaration i) (own : d.scope ≡ first_scope file st.scopes)
      (j : ℕ) (other : Standing) (there : StandsAt tokens nodes j other) (other_declares : IsDeclaration j) (sees : In d (linked_along other.scopes symbol ys))
      (kept : (scope : ℕ) (e : Declared) → In e (those_at scope symbol xs) → In e (those_at scope symbol ys))
      (same : (p : ℕ) (o : Opens tokens nodes p d.scope) → Below tokens nodes p i → Below tokens nodes p j → SameAt symbol xs ys o.standing.scopes)
    where
      -- what was made at its scope is seen
      here : (e : Declared) → In e (those_at d.scope symbol xs) → In e (linked_along other.scopes symbol ys)
      here e h = (seen symbol ys other.scopes d sees).others e (kept d.scope e h)

      flat : st.scopes ≡ file ∷ [] → (e : Declared) → In e (linked_along st.scopes symbol xs) → In e (linked_along other.scopes symbol ys)
      flat is e h =
          let scope : d.scope ≡ file = own ∙ ap (first_scope file) is in
          here e (subst (λ (n : ℕ). In e (those_at n symbol xs)) (sym scope) (at_file tokens nodes shape symbol xs e (subst (λ (l : List ℕ). In e (linked_along l symbol xs)) is h)))

      nested : (n : Innermost tokens nodes shape i st) → (e : Declared) → In e (linked_along st.scopes symbol xs) → In e (linked_along other.scopes symbol ys)
      nested n e h = by other_declares
        where
          scope : d.scope ≡ n.scope
          scope = own ∙ ap (first_scope file) n.is

          opens : Opens tokens nodes n.opener d.scope
          opens = subst (λ (k : ℕ). Opens tokens nodes n.opener k) (sym scope) n.opens

          no_file : d.scope ≡ file → ⊥
          no_file f = let lt = opens_small tokens nodes shape n.opener d.scope opens in omega (arith, lt, f)

          standing_same : (k : ℕ) (f : d.scope ≡ k) (o : Opens tokens nodes n.opener k) → (subst (λ (m : ℕ). Opens tokens nodes n.opener m) (sym f) o).standing ≡ o.standing
          standing_same k f o = stands_once tokens nodes n.opener _ o.standing (subst (λ (m : ℕ). Opens tokens nodes n.opener m) (sym f) o).stands o.stands

          first : st.scopes ≡ d.scope ∷ opens.standing.scopes
          first = n.is ∙ (ap (λ (k : ℕ). k ∷ n.opens.standing.scopes) (sym scope) ∙ ap (λ (x : Standing). d.scope ∷ x.scopes) (sym (standing_same n.scope scope n.opens)))

          reached : Reaches tokens nodes shape symbol ys j other d → In e (linked_along other.scopes symbol ys)
          reached r = split (seen_first symbol xs d.scope opens.standing.scopes e (subst (λ (l : List ℕ). In e (linked_along l symbol xs)) first h)).1
            where
              one : n.opener ≡ r.opener
              one = one_opener tokens nodes shape n.opener r.opener d.scope opens r.opens n.block r.block

              standing : opens.standing ≡ r.opens.standing
              standing = stands_once tokens nodes r.opener opens.standing r.opens.standing (subst (λ (k : ℕ). StandsAt tokens nodes k opens.standing) one opens.stands) r.opens.stands

              split : In e (linked_along opens.standing.scopes symbol xs) ⊎ In e (those_at d.scope symbol xs) → In e (linked_along other.scopes symbol ys)
              split (inr own_scope) = here e own_scope
              split (inl outer) =
                  let alike : SameAt symbol xs ys opens.standing.scopes = same n.opener opens n.below (subst (λ (k : ℕ). Below tokens nodes k j) (sym one) r.below) in
                  let moved : In e (linked_along opens.standing.scopes symbol ys) = subst (In e) (same_along symbol xs ys opens.standing.scopes alike) outer in
                  let all : all_linked (those_at d.scope symbol ys) ≡ true = (seen symbol ys other.scopes d sees).linked in
                  r.on e (seen_on symbol ys d.scope r.opens.standing.scopes e all (subst (λ (x : Standing). In e (linked_along x.scopes symbol ys)) standing moved))

          from : (d.scope ≡ file) ⊎ Reaches tokens nodes shape symbol ys j other d → In e (linked_along other.scopes symbol ys)
          from (inl f) = absurd (no_file f)
          from (inr r) = reached r

          by : IsDeclaration j → In e (linked_along other.scopes symbol ys)
          by (inl external) =
              let scopes : other.scopes ≡ file ∷ [] = (placed tokens nodes shape j other there).external external in
              absurd (no_file (in_those file symbol ys d (at_file tokens nodes shape symbol ys d (subst (λ (l : List ℕ). In d (linked_along l symbol ys)) scopes sees))).1)
          by (inr inside) = from (sees_from tokens nodes shape symbol ys j other there (inl inside) d sees)

      pub onward : (e : Declared) → In e (linked_along st.scopes symbol xs) → In e (linked_along other.scopes symbol ys)
      onward e h = by declares
        where
          from : (st.scopes ≡ file ∷ []) ⊎ Innermost tokens nodes shape i st → In e (linked_along other.scopes symbol ys)
          from (inl is) = flat is e h
          from (inr n) = nested n e h

          by : IsDeclaration i → In e (linked_along other.scopes symbol ys)
          by (inl external) = flat ((placed tokens nodes shape i st at).external external) e h
          by (inr inside) = from ((placed tokens nodes shape i st at).inside (inl inside))
