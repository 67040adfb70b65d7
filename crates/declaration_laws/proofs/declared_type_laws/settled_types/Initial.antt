-- What is found behind a declarator is an initialiser, and a part of a rest.
use Rattle.std.proofs.Common.{◌≡◌, ℕ, ◌&&◌, nat_eq, Bool, true, false, List, [], ◌∷◌, ◌++◌, slice_get, Option, Some, None, refl, sym, ap, ◌∙◌, subst}
use Rattle.std.specs.Prelude.{if◌then◌else◌}
use Rattle.std.proofs.lemmas.Bool.{eqb-true}
use Rattle.c_lexer.specs.declared.Token.{Token}
use Rattle.c_lexer.specs.declared.TokenKind.{TokenKind}
use Rattle.c_lexer.specs.declared.TokenKind.TheVariants.{Punctuator}
use Rattle.c_lexer.specs.Laws.{Stands}
use Rattle.std.proofs.Common.{arith}
use Rattle.c_grammar.specs.Productions.{p_init, p_asm_name, p_declarator}
use Rattle.c_grammar.specs.Terminals.{contains, terminal}
use Rattle.c_grammar.specs.Words.{sign_assign, sign_comma}
use Rattle.c_grammar.specs.Reads.{leaf}
use Rattle.c_senses.specs.Tree.{Source, is_a, is_number, sign_of_kind, kind_of_token, token_of, has_sign}
use Rattle.c_senses.specs.Entities.{behind, without_asm, initialiser_in}
use Rattle.c_senses.specs.Sense.{Sense}
use Rattle.declaration_laws.proofs.declared_type_laws.owner_laws.passed.definition_laws.own_initialisers.PassedOn.{sign_taken}
use Rattle.core_node_laws.specs.count_laws.passed.parsed_tree_laws.sign_parts.Parts.{Mark, leaf_mark, Takes}
use Rattle.declaration_laws.proofs.declared_type_laws.owner_laws.passed.definition_laws.own_initialisers.Parts.{MaybeInit, Absent, Present, MaybeAsm, NoAsm, Asm, Further, Over, Next, IsRestList, Begins}
use Rattle.declaration_laws.proofs.declared_type_laws.owner_laws.passed.definition_laws.own_initialisers.Searching.{head_in, next_in, apart, Reads, StandsAs, is_as, sign_is}

module _ (s : Source) (sense : ℕ → Sense) (standing : (k : ℕ) (t : Token) → slice_get s.tokens k ≡ Some t → Stands s.text t) where
  abbrev T : ℕ → TokenKind → ℕ → Type 0
  T = Takes s.text s.tokens

  -- a comma is no sign of an initialiser
  comma_is : (k place : ℕ) → StandsAs s sense k (leaf_mark place) → T 55 (Punctuator sign_comma) place → has_sign s sign_assign k ≡ false
  unfolding terminal
  comma_is k place h takes =
      let t = sign_taken s.text 55 sign_comma takes.0 (slice_get s.tokens place) (λ t e. standing place t e) (omega arith) takes.1 in
      let token : token_of s (slice_get s.nodes k) ≡ Some t.0 = ap (token_of s) h.1 ∙ (ap (slice_get s.tokens) h.3 ∙ t.1) in
      ap (λ (b : Bool). b && is_number (sign_of_kind (kind_of_token (token_of s (slice_get s.nodes k)))) sign_assign) (is_as s sense k leaf place h)
      ∙ (ap (λ (o : Option Token). is_number (sign_of_kind (kind_of_token o)) sign_assign) token ∙ ap (λ (x : TokenKind). is_number (sign_of_kind x) sign_assign) t.2)

  -- an initialiser that is a part of a list
  abbrev pub IsIn : List ℕ → ℕ → Type 0
  IsIn ks i = (is_a s p_init i ≡ true) × (contains ks i ≡ true)

  later_in : (x : ℕ) (ks : List ℕ) (i : ℕ) → IsIn ks i → IsIn (x ∷ ks) i
  later_in x ks i h = (h.0, next_in x i ks h.1)

  pub plain_list : (ms ns : List Mark) → MaybeInit T ms → Further T ns → (ks : List ℕ) (i : ℕ) → Reads s sense ks (ms ++ ns) → initialiser_in s sense ks ≡ Some i → IsIn ks i
  plain_list ms ns Absent (Over place) [] i r e = absurd r
  plain_list ms ns Absent (Over place) (k ∷ []) i r e = cc
  plain_list ms ns Absent (Over place) (k ∷ j ∷ ks) i r e = absurd r.1
  plain_list ms ns Absent (Next comma place takes asm maybe next) [] i r e = absurd r
  plain_list ms ns Absent (Next comma place takes asm maybe next) (c ∷ []) i r e = absurd r.1
  plain_list ms ns Absent (Next comma place takes asm maybe next) (c ∷ d ∷ ks) i r e =
      absurd (let none : ◌≡◌ {A = Option ℕ} None (Some i) = sym (ap (λ (b : Bool). if b then Some d else None) (comma_is c comma r.0 takes)) ∙ e in cc)
  plain_list ms ns (Present equals init takes) next [] i r e = absurd r
  plain_list ms ns (Present equals init takes) next (k ∷ []) i r e = absurd r.1
  plain_list ms ns (Present equals init takes) next (k ∷ j ∷ ks) i r e =
      let both : ◌≡◌ {A = Option ℕ} (Some j) (Some i) = sym (ap (λ (b : Bool). if b then Some j else None) (sign_is s sense standing k equals r.0 takes)) ∙ e in
      let same : j ≡ i = cc in
      subst (IsIn (k ∷ j ∷ ks)) same (is_as s sense j p_init init r.1.0, next_in k j (j ∷ ks) (head_in j ks))

  leaf_first : (k : ℕ) (ks : List ℕ) → is_a s leaf k ≡ true → without_asm s sense (k ∷ ks) ≡ k ∷ ks
  leaf_first k ks h = ap (λ (b : Bool). if b then ks else k ∷ ks) (apart s k leaf p_asm_name h refl)

  without_same : (ms ns : List Mark) → MaybeInit T ms → Further T ns → (ks : List ℕ) → Reads s sense ks (ms ++ ns) → without_asm s sense ks ≡ ks
  without_same ms ns Absent (Over place) [] r = absurd r
  without_same ms ns Absent (Over place) (k ∷ ks) r = leaf_first k ks (is_as s sense k leaf place r.0)
  without_same ms ns Absent (Next comma place takes asm maybe next) [] r = absurd r
  without_same ms ns Absent (Next comma place takes asm maybe next) (k ∷ ks) r = leaf_first k ks (is_as s sense k leaf comma r.0)
  without_same ms ns (Present equals init takes) next [] r = absurd r
  without_same ms ns (Present equals init takes) next (k ∷ ks) r = leaf_first k ks (is_as s sense k leaf equals r.0)

  after_declarator : (xs ms ns : List Mark) → MaybeAsm T xs → MaybeInit T ms → Further T ns → (ks : List ℕ) (i : ℕ) → Reads s sense ks (xs ++ (ms ++ ns)) → initialiser_in s sense (without_asm s sense ks) ≡ Some i → IsIn ks i
  after_declarator xs ms ns NoAsm maybe next ks i r e = plain_list ms ns maybe next ks i r (sym (ap (initialiser_in s sense) (without_same ms ns maybe next ks r)) ∙ e)
  after_declarator xs ms ns (Asm place) maybe next [] i r e = absurd r
  after_declarator xs ms ns (Asm place) maybe next (x ∷ ks) i r e =
      later_in x ks i (plain_list ms ns maybe next ks i r.1 (sym (ap (λ (b : Bool). initialiser_in s sense (if b then ks else x ∷ ks)) (is_as s sense x p_asm_name place r.0)) ∙ e))

  module _ (d i : ℕ) (declares : is_a s p_declarator d ≡ true) where
    abbrev Found : List ℕ → Type 0
    Found ks = initialiser_in s sense (without_asm s sense (behind d ks)) ≡ Some i

    -- past what is no declarator
    step : (x q : ℕ) (ks : List ℕ) → is_a s q x ≡ true → nat_eq q p_declarator ≡ false → Found (x ∷ ks) → Found ks
    step x q ks other differ e = by (nat_eq x d) refl e
      where
        by : (b : Bool) → nat_eq x d ≡ b → initialiser_in s sense (without_asm s sense (if b then ks else behind d ks)) ≡ Some i → Found ks
        by true same f = absurd (let both : true ≡ false = sym declares ∙ (ap (is_a s p_declarator) (sym (eqb-true x d same)) ∙ apart s x q p_declarator other differ) in cc)
        by false same f = f

    abbrev Later : List Mark → Type 0
    Later ms = (ks : List ℕ) → Reads s sense ks ms → Found ks → IsIn ks i

    past_init : (ms ns : List Mark) → MaybeInit T ms → Later ns → (ks : List ℕ) → Reads s sense ks (ms ++ ns) → Found ks → IsIn ks i
    past_init ms ns Absent later ks r e = later ks r e
    past_init ms ns (Present equals init takes) later [] r e = absurd r
    past_init ms ns (Present equals init takes) later (k ∷ []) r e = absurd r.1
    past_init ms ns (Present equals init takes) later (k ∷ j ∷ ks) r e =
        later_in k (j ∷ ks) i (later_in j ks i (later ks r.1.1 (step j p_init ks (is_as s sense j p_init init r.1.0) refl (step k leaf (j ∷ ks) (is_as s sense k leaf equals r.0) refl e))))

    past_asm : (xs ms ns : List Mark) → MaybeAsm T xs → MaybeInit T ms → Later ns → (ks : List ℕ) → Reads s sense ks (xs ++ (ms ++ ns)) → Found ks → IsIn ks i
    past_asm xs ms ns NoAsm maybe later ks r e = past_init ms ns maybe later ks r e
    past_asm xs ms ns (Asm place) maybe later [] r e = absurd r
    past_asm xs ms ns (Asm place) maybe later (x ∷ ks) r e = later_in x ks i (past_init ms ns maybe later ks r.1 (step x p_asm_name ks (is_as s sense x p_asm_name place r.0) refl e))

    further_init : (ms : List Mark) → Further T ms → (ks : List ℕ) → Reads s sense ks ms → Found ks → IsIn ks i
    further_init ms (Over place) [] r e = absurd r
    further_init ms (Over place) (k ∷ []) r e = absurd (let none = step k leaf [] (is_as s sense k leaf place r.0) refl e in cc)
    further_init ms (Over place) (k ∷ j ∷ ks) r e = absurd r.1
    further_init ms (Next {asm = xs} {init = ys} {more = zs} comma place takes asm maybe next) [] r e = absurd r
    further_init ms (Next {asm = xs} {init = ys} {more = zs} comma place takes asm maybe next) (c ∷ []) r e = absurd r.1
    further_init ms (Next {asm = xs} {init = ys} {more = zs} comma place takes asm maybe next) (c ∷ j ∷ ks) r e =
        later_in c (j ∷ ks) i (later_in j ks i
        (by (nat_eq j d) (step c leaf (j ∷ ks) (is_as s sense c leaf comma r.0) refl e) (λ f. after_declarator xs ys zs asm maybe next ks i r.1.1 f) (λ f. past_asm xs ys zs asm maybe (λ ks r e. further_init zs next ks r e) ks r.1.1 f)))
      where
        by : (b : Bool) → initialiser_in s sense (without_asm s sense (if b then ks else behind d ks)) ≡ Some i → (initialiser_in s sense (without_asm s sense ks) ≡ Some i → IsIn ks i) → (Found ks → IsIn ks i) → IsIn ks i
        by true f here later = here f
        by false f here later = later f

    pub rest_init : (ms : List Mark) → IsRestList T ms → (ks : List ℕ) → Reads s sense ks ms → Found ks → IsIn ks i
    rest_init ms (Begins {init = xs} {more = ys} maybe next) ks r e = past_init xs ys maybe (λ ks r e. further_init ys next ks r e) ks r e
