-- In the rest of a declaration an initialiser stands behind its sign.
use Rattle.std.proofs.Common.{arith, ◌≡◌, ℕ, ◌==◌, ◌&&◌, Bool, true, false, List, [], ◌∷◌, ◌++◌, Option, Some, None, slice_get, refl, sym, ap, ◌∙◌, subst}
use Rattle.std.specs.Prelude.{⊤, if◌then◌else◌}
use Rattle.std.proofs.lemmas.Bool.{eqb-true}
use Rattle.c_lexer.specs.declared.Token.{Token}
use Rattle.c_lexer.specs.declared.TokenKind.{TokenKind}
use Rattle.c_lexer.specs.declared.TokenKind.TheVariants.{Punctuator}
use Rattle.c_grammar.specs.Productions.{p_init, p_asm_name, p_declarator}
use Rattle.c_grammar.specs.Reads.{leaf}
use Rattle.c_grammar.specs.Terminals.{terminal}
use Rattle.c_grammar.specs.Words.{sign_comma, sign_assign}
use Rattle.c_senses.specs.Tree.{Source, is_a, has_sign, is_number, sign_at, sign_of_kind, kind_of_token, token_of, production_at}
use Rattle.c_senses.specs.Sense.{Sense}
use Rattle.c_senses.specs.Entities.{behind, without_asm, initialiser_in}
use Rattle.declaration_laws.proofs.declared_type_laws.owner_laws.passed.definition_laws.own_initialisers.PassedOn.{sign_taken}
use Rattle.c_lexer.specs.Laws.{Stands}
use Rattle.parsed_tree_laws.specs.sign_parts.Parts.{Mark, leaf_mark, Takes}
use Rattle.declaration_laws.proofs.declared_type_laws.owner_laws.passed.definition_laws.own_initialisers.Parts.{MaybeInit, Absent, Present, MaybeAsm, NoAsm, Asm, Further, Over, Next, IsRestList, Begins}
use Rattle.declaration_laws.proofs.declared_type_laws.owner_laws.passed.definition_laws.own_initialisers.Searching.{Reads, StandsAs, is_as}

module _ (s : Source) (sense : ℕ → Sense) (standing : (k : ℕ) (t : Token) → slice_get s.tokens k ≡ Some t → Stands s.text t) where
  abbrev T : ℕ → TokenKind → ℕ → Type 0
  T = Takes s.text s.tokens

  -- behind each sign of an initialiser stands one
  abbrev pub Behind : List ℕ → Type 0
  Behind [] = ⊤
  Behind (x ∷ []) = ⊤
  Behind (x ∷ y ∷ rest) = (has_sign s sign_assign x ≡ true → is_a s p_init y ≡ true) × Behind (y ∷ rest)

  off : (x : ℕ) (ks : List ℕ) → has_sign s sign_assign x ≡ false → Behind ks → Behind (x ∷ ks)
  off x [] unsigned h = tt
  off x (y ∷ ks) unsigned h = ((λ e. absurd (let both : true ≡ false = sym e ∙ unsigned in cc)), h)

  no_leaf : (x q : ℕ) → is_a s q x ≡ true → (q == leaf) ≡ false → has_sign s sign_assign x ≡ false
  no_leaf x q is other = ap (λ (b : Bool). b && is_number (sign_at s x) sign_assign) (ap (λ (p : ℕ). p == leaf) (eqb-true (production_at s x) q is) ∙ other)

  comma_off : (k place : ℕ) → StandsAs s sense k (leaf_mark place) → T 55 (Punctuator sign_comma) place → has_sign s sign_assign k ≡ false
  unfolding terminal
  comma_off k place h takes =
      let t = sign_taken s.text 55 sign_comma takes.0 (slice_get s.tokens place) (λ t e. standing place t e) (omega arith) takes.1 in
      let token : token_of s (slice_get s.nodes k) ≡ Some t.0 = ap (token_of s) h.1 ∙ (ap (slice_get s.tokens) h.3 ∙ t.1) in
      ap (λ (b : Bool). b && is_number (sign_of_kind (kind_of_token (token_of s (slice_get s.nodes k)))) sign_assign) (is_as s sense k leaf place h)
      ∙ (ap (λ (o : Option Token). is_number (sign_of_kind (kind_of_token o)) sign_assign) token ∙ ap (λ (x : TokenKind). is_number (sign_of_kind x) sign_assign) t.2)

  Reading : List Mark → Type 0
  Reading ms = (ks : List ℕ) → Reads s sense ks ms → Behind ks

  init_ok : (ms more : List Mark) → MaybeInit T ms → ((ks : List ℕ) → Reads s sense ks more → Behind ks) → (ks : List ℕ) → Reads s sense ks (ms ++ more) → Behind ks
  init_ok ms more Absent h ks r = h ks r
  init_ok ms more (Present equals init t) h [] r = absurd r
  init_ok ms more (Present equals init t) h (e ∷ []) r = absurd r.1
  init_ok ms more (Present equals init t) h (e ∷ i ∷ ks) r =
      let is : is_a s p_init i ≡ true = is_as s sense i p_init init r.1.0 in
      ((λ sign. is), off i ks (no_leaf i p_init is refl) (h ks r.1.1))

  asm_ok : (ms more : List Mark) → MaybeAsm T ms → ((ks : List ℕ) → Reads s sense ks more → Behind ks) → (ks : List ℕ) → Reads s sense ks (ms ++ more) → Behind ks
  asm_ok ms more NoAsm h ks r = h ks r
  asm_ok ms more (Asm place) h [] r = absurd r
  asm_ok ms more (Asm place) h (a ∷ ks) r = off a ks (no_leaf a p_asm_name (is_as s sense a p_asm_name place r.0) refl) (h ks r.1)

  further_ok : (ms : List Mark) → Further T ms → (ks : List ℕ) → Reads s sense ks ms → Behind ks
  further_ok ms (Over place) [] r = absurd r
  further_ok ms (Over place) (k ∷ []) r = tt
  further_ok ms (Over place) (k ∷ j ∷ ks) r = absurd r.1
  further_ok ms (Next comma declarator takes asm init next) [] r = absurd r
  further_ok ms (Next comma declarator takes asm init next) (c ∷ []) r = absurd r.1
  further_ok ms (Next comma declarator takes asm init next) (c ∷ d ∷ ks) r =
      off c (d ∷ ks) (comma_off c comma r.0 takes)
      (off d ks (no_leaf d p_declarator (is_as s sense d p_declarator declarator r.1.0) refl) (asm_ok _ _ asm (λ js q. init_ok _ _ init (λ is p. further_ok _ next is p) js q) ks r.1.1))

  pub rest_ok : (ms : List Mark) → IsRestList T ms → (ks : List ℕ) → Reads s sense ks ms → Behind ks
  rest_ok ms (Begins init more) ks r = init_ok _ _ init (λ is p. further_ok _ more is p) ks r

  tail_ok : (x : ℕ) (ks : List ℕ) → Behind (x ∷ ks) → Behind ks
  tail_ok x [] h = tt
  tail_ok x (y ∷ ks) h = h.1

  pub behind_ok : (d : ℕ) (ks : List ℕ) → Behind ks → Behind (behind d ks)
  behind_ok d [] h = tt
  behind_ok d (c ∷ ks) h = by (c == d) (behind_ok d ks (tail_ok c ks h))
    where
      by : (b : Bool) → Behind (behind d ks) → Behind (if b then ks else behind d ks)
      by true later = tail_ok c ks h
      by false later = later

  pub without_ok : (ks : List ℕ) → Behind ks → Behind (without_asm s sense ks)
  without_ok [] h = tt
  without_ok (c ∷ ks) h = by (is_a s p_asm_name c)
    where
      by : (b : Bool) → Behind (if b then ks else c ∷ ks)
      by true = tail_ok c ks h
      by false = h

  pub in_ok : (ks : List ℕ) (init : ℕ) → Behind ks → initialiser_in s sense ks ≡ Some init → is_a s p_init init ≡ true
  in_ok [] init h e = cc
  in_ok (x ∷ []) init h e = cc
  in_ok (x ∷ y ∷ ks) init h e = by (has_sign s sign_assign x) refl e
    where
      by : (b : Bool) → has_sign s sign_assign x ≡ b → (if b then Some y else None) ≡ Some init → is_a s p_init init ≡ true
      by true sign f = let same : y ≡ init = cc in subst (λ (k : ℕ). is_a s p_init k ≡ true) same (h.0 sign)
      by false sign f = cc
