-- Where initialisers stand.
use Rattle.std.proofs.Common.{◌≡◌, ◌⊎◌, inl, inr, ℕ, nat_eq, ◌==◌, ◌||◌, Bool, true, false, List, [], ◌∷◌, map, slice_get, Option, Some, None, refl, sym, ap, ◌∙◌, subst, eq-eqb}
use Rattle.std.specs.Prelude.{All, if◌then◌else◌}
use Rattle.std.proofs.lemmas.Bool.{eqb-true, and_parts}
use Rattle.std.proofs.lemmas.Option.{slice_get_within, get_or_from_slice_get}
use Rattle.c_lexer.specs.declared.Token.{Token}
use Rattle.c_lexer.specs.Laws.{Stands}
use Rattle.c_lexer.proofs.OneCut.{stand}
use Rattle.c_grammar.specs.Terminals.{contains}
use Rattle.c_grammar.specs.Reads.{leaf}
use Rattle.c_grammar.specs.Words.{sign_assign}
use Rattle.c_grammar.specs.Productions.{p_external, p_rest, p_declaration, p_declarator, p_abstract, p_either, p_asm_name}
use Rattle.c_senses.specs.Names.{source_of, numbered}
use Rattle.c_senses.specs.Tree.{Source, is_a, has_sign, production_at, children_at, parent_of}
use Rattle.c_senses.specs.Declarators.{is_declarator}
use Rattle.c_senses.specs.Entities.{behind, without_asm, in_rest, initialiser_in}
use Rattle.c_senses.specs.Sense.{Sense, sense_in}
use Rattle.parsed_tree_laws.proofs.placed_laws.Climbing.{Grown}
use Rattle.core_node_laws.specs.standing_laws.Standing.{IsGrown}
use Rattle.core_node_laws.proofs.standing_laws.Climbing.{in_list, parent_is, parent_holds}
use Rattle.valid_unit_laws.proofs.object_initialiser_laws.internal_name_laws.passed.function_laws.body_returns.Built.{grown, placed}
use Rattle.parsed_tree_laws.specs.grown_parts.Parts as grown_parts
use Rattle.parsed_tree_laws.proofs.grown_parts.Reading as plain
use Rattle.parsed_tree_laws.proofs.grown_parts.Declaring.{AllIn, IsDeclarationList, Asserts, Alone, Names, NamesAsm, declaration_list, rest_list, rest_parts}
use Rattle.parsed_tree_laws.specs.sign_parts.Parts.{mark_at, Takes, Brings, IsBrought}
use Rattle.parsed_tree_laws.proofs.sign_parts.Reading.{units_bring}
use Rattle.declaration_laws.proofs.declared_type_laws.owner_laws.passed.definition_laws.own_initialisers.Parts as signed
use Rattle.declaration_laws.proofs.declared_type_laws.owner_laws.passed.definition_laws.own_initialisers.Standing.{parts}
use Rattle.valid_unit_laws.proofs.object_initialiser_laws.static_value_laws.static_literals.Lists.{block_parts, name_parts, external_list}
use Rattle.valid_unit_laws.specs.object_initialiser_laws.object_bodies.Objects.{IsPlaced, InitialisersPlaced}
use Rattle.valid_unit_laws.specs.object_initialiser_laws.placed_initialisers.Placed.{UnitsPlace}
use Rattle.valid_unit_laws.proofs.object_initialiser_laws.placed_initialisers.Signs.{Behind, rest_ok, behind_ok, without_ok, in_ok}

in_all : (allowed : List ℕ) (f : ℕ → ℕ) (ks : List ℕ) (c : ℕ) → AllIn allowed (map f ks) → contains ks c ≡ true → contains allowed (f c) ≡ true
in_all allowed f [] c h at = cc
in_all allowed f (k ∷ ks) c h at = by (nat_eq k c) refl at (λ more. in_all allowed f ks c h.1 more)
  where
    by : (b : Bool) → nat_eq k c ≡ b → (b || contains ks c) ≡ true → (contains ks c ≡ true → contains allowed (f c) ≡ true) → contains allowed (f c) ≡ true
    by true same e later = subst (λ (x : ℕ). contains allowed (f x) ≡ true) (eqb-true k c same) h.0
    by false other e later = later e

no_both : (b : Bool) → b ≡ true → b ≡ false → ⊥
no_both b e f = let both : true ≡ false = sym e ∙ f in cc

-- of the forms of declarators, where two aren't allowed, it is the third
form_only : (allowed : List ℕ) (q : ℕ) → contains allowed p_abstract ≡ false → contains allowed p_either ≡ false → contains allowed q ≡ true → ((q == p_declarator || q == p_abstract) || q == p_either) ≡ true → (q == p_declarator) ≡ true
form_only allowed q first second at form = by (q == p_declarator) (q == p_abstract) refl (q == p_either) refl form
  where
    by : (a b : Bool) → (q == p_abstract) ≡ b → (c : Bool) → (q == p_either) ≡ c → ((a || b) || c) ≡ true → a ≡ true
    by true b e c f h = refl
    by false true e c f h = absurd (no_both (contains allowed q) at (ap (contains allowed) (eqb-true q p_abstract e) ∙ first))
    by false false e true f h = absurd (no_both (contains allowed q) at (ap (contains allowed) (eqb-true q p_either f) ∙ second))
    by false false e false f h = cc

abbrev declaration_parts : List ℕ
declaration_parts = 4 ∷ 6 ∷ 19 ∷ 5 ∷ 2 ∷ leaf ∷ []

declaration_in : (zs : List ℕ) → IsDeclarationList zs → AllIn declaration_parts zs
declaration_in zs Asserts = (refl, tt)
declaration_in zs Alone = (refl, (refl, tt))
declaration_in zs Names = (refl, (refl, (refl, tt)))
declaration_in zs NamesAsm = (refl, (refl, (refl, (refl, tt))))

module _ (s : Source) (grew : IsGrown s) (tree : Grown s) (brought : grown_parts.IsBrought s) (signs : IsBrought s) (standing : (k : ℕ) (t : Token) → slice_get s.tokens k ≡ Some t → Stands s.text t) (senses : List Sense) where
  abbrev G : ℕ → Sense
  G = sense_in senses

  abbrev zs : ℕ → List ℕ
  zs p = map (production_at s) (children_at s p)

  form_in : (p o : ℕ) → is_declarator s o ≡ true → contains (children_at s p) o ≡ true → (is_a s p_rest p ≡ true) ⊎ ((is_a s p_external p || is_a s p_declaration p) ≡ true) → is_a s p_declarator o ≡ true
  form_in p o form at (inl is) =
      form_only rest_parts (production_at s o) refl refl (in_all rest_parts (production_at s) (children_at s p) o (rest_list _ (subst (λ (q : ℕ). grown_parts.Brings q 0 (zs p)) (eqb-true (production_at s p) p_rest is) (brought p))) at) form
  form_in p o form at (inr is) = by (is_a s p_external p) refl (is_a s p_declaration p) refl is
    where
      either : AllIn block_parts (zs p) ⊎ AllIn name_parts (zs p) → is_a s p_declarator o ≡ true
      either (inl h) = form_only block_parts (production_at s o) refl refl (in_all block_parts (production_at s) (children_at s p) o h at) form
      either (inr h) = form_only name_parts (production_at s o) refl refl (in_all name_parts (production_at s) (children_at s p) o h at) form

      by : (a : Bool) → is_a s p_external p ≡ a → (b : Bool) → is_a s p_declaration p ≡ b → (a || b) ≡ true → is_a s p_declarator o ≡ true
      by true e b f h = either (external_list _ (subst (λ (q : ℕ). grown_parts.Brings q 0 (zs p)) (eqb-true (production_at s p) p_external e) (brought p)))
      by false e true f h =
          form_only declaration_parts (production_at s o) refl refl (in_all declaration_parts (production_at s) (children_at s p) o (declaration_in _ (declaration_list _ (subst (λ (q : ℕ). grown_parts.Brings q 0 (zs p)) (eqb-true (production_at s p) p_declaration f) (brought p)))) at) form
      by false e false f h = cc

  rest_behind : (p : ℕ) → is_a s p_rest p ≡ true → Behind s G standing (children_at s p)
  rest_behind p is =
      rest_ok s G standing (map (mark_at s) (children_at s p)) (signed.rest_list (Takes s.text s.tokens) (map (mark_at s) (children_at s p)) (subst (λ (q : ℕ). Brings (Takes s.text s.tokens) q 0 (map (mark_at s) (children_at s p))) (eqb-true (production_at s p) p_rest is) (signs p)))
      (children_at s p) (parts s tree grew.nested grew.families standing signs G G p (map (mark_at s) (children_at s p)) refl)

  -- what an initialiser is found in has it
  found_in : (list : List ℕ) (init : ℕ) → initialiser_in s G list ≡ Some init → contains list init ≡ true
  found_in [] init e = cc
  found_in (x ∷ []) init e = cc
  found_in (x ∷ y ∷ rest) init e = by (nat_eq x init) (same (has_sign s sign_assign x) e)
    where
      same : (b : Bool) → (if b then Some y else None) ≡ Some init → y ≡ init
      same true f = cc
      same false f = cc

      by : (b : Bool) → y ≡ init → (b || (nat_eq y init || contains rest init)) ≡ true
      by true e = refl
      by false e = ap (λ (b : Bool). b || contains rest init) (eq-eqb y init e)

  behind_in : (d : ℕ) (list : List ℕ) (y : ℕ) → contains (behind d list) y ≡ true → contains list y ≡ true
  behind_in d [] y h = h
  behind_in d (c ∷ rest) y h = by (c == d) (nat_eq c y) h (λ g. behind_in d rest y g)
    where
      by : (b k : Bool) → contains (if b then rest else behind d rest) y ≡ true → (contains (behind d rest) y ≡ true → contains rest y ≡ true) → (k || contains rest y) ≡ true
      by b true h later = refl
      by true false h later = h
      by false false h later = later h

  without_in : (list : List ℕ) (y : ℕ) → contains (without_asm s G list) y ≡ true → contains list y ≡ true
  without_in [] y h = h
  without_in (c ∷ rest) y h = by (is_a s p_asm_name c) (nat_eq c y) refl h
    where
      by : (b k : Bool) → nat_eq c y ≡ k → contains (if b then rest else c ∷ rest) y ≡ true → (k || contains rest y) ≡ true
      by b true e h = refl
      by true false e h = h
      by false false e h = ap (λ (x : Bool). x || contains rest y) (sym e) ∙ h

  rest_first : (list : List ℕ) (init : ℕ) → in_rest s G list ≡ Some init → (c : ℕ) × (is_a s p_rest c ≡ true) × (contains list c ≡ true) × (initialiser_in s G (children_at s c) ≡ Some init)
  rest_first [] init e = cc
  rest_first (c ∷ rest) init e = by (is_a s p_rest c) refl e
    where
      own : (nat_eq c c || contains rest c) ≡ true
      own = ap (λ (b : Bool). b || contains rest c) (eq-eqb c c refl)

      by : (b : Bool) → is_a s p_rest c ≡ b → (if b then initialiser_in s G (children_at s c) else None) ≡ Some init → (x : ℕ) × (is_a s p_rest x ≡ true) × (contains (c ∷ rest) x ≡ true) × (initialiser_in s G (children_at s x) ≡ Some init)
      by true is f = (c, is, own, f)
      by false is f = cc

  parent_at : (p c : ℕ) → contains (children_at s p) c ≡ true → parent_of s c ≡ Some p
  parent_at p c h = parent_is s grew p c (in_list (children_at s p) c h)

  pub place : InitialisersPlaced s senses
  place o init outer e = by (parent_of s o) refl e
    where
      form : is_declarator s o ≡ true
      form = (and_parts (is_declarator s o) _ outer).0

      at : (p : ℕ) → parent_of s o ≡ Some p → (b : Bool) → is_a s p_rest p ≡ b
          → (if b then initialiser_in s G (without_asm s G (behind o (children_at s p))) else in_rest s G (without_asm s G (behind o (children_at s p)))) ≡ Some init → IsPlaced s o init
      at p holds true is e =
          let list : List ℕ = without_asm s G (behind o (children_at s p)) in
          let child : contains (children_at s p) init ≡ true = behind_in o (children_at s p) init (without_in (behind o (children_at s p)) init (found_in (without_asm s G (behind o (children_at s p))) init e)) in
          record {
            declarator = form_in p o form (parent_holds s grew p o holds) (inl is);
            initialiser = in_ok s G standing (without_asm s G (behind o (children_at s p))) init (without_ok s G standing (behind o (children_at s p)) (behind_ok s G standing o (children_at s p) (rest_behind p is))) e;
            above = p;
            parent = parent_at p init child;
            rest = is;
          }
      at p holds false is e =
          let (c, rest, inside, found) = rest_first (without_asm s G (behind o (children_at s p))) init e in
          let child : contains (children_at s p) c ≡ true = behind_in o (children_at s p) c (without_in (behind o (children_at s p)) c inside) in
          record {
            declarator = form_in p o form (parent_holds s grew p o holds) (inr (grew.nested.rests p c child rest));
            initialiser = in_ok s G standing (children_at s c) init (rest_behind c rest) found;
            above = c;
            parent = parent_at c init (found_in (children_at s c) init found);
            rest = rest;
          }

      by : (x : Option ℕ) → parent_of s o ≡ x
          → (elim x as (λ _. Option ℕ) [ None ↦ None | Some p ↦ let list = without_asm s G (behind o (children_at s p)) in if is_a s p_rest p then initialiser_in s G list else in_rest s G list ]) ≡ Some init → IsPlaced s o init
      by None holds e = cc
      by (Some p) holds e = at p holds (is_a s p_rest p) refl e

token_has : (P : Token → Type 0) (list : List Token) (k : ℕ) (t : Token) → All P list → slice_get list k ≡ Some t → P t
token_has P list k t h e = subst P (get_or_from_slice_get list k t t e) (h k t (slice_get_within list k t e))

pub units_place : UnitsPlace
unfolding source_of
units_place tokens unit tree tag_number senses cut is o init outer e =
    let s : Source = numbered tag_number (source_of tokens tree) in
    place s (grown tokens unit tree tag_number cut is) (placed tokens unit tree tag_number is) (plain.units_bring tokens unit tree tag_number is) (units_bring tokens unit tree tag_number is)
    (λ k t e. token_has (Stands tokens.text.now) tokens.list.items k t (stand tokens.text.now tokens.list.items cut) e) senses o init outer e
