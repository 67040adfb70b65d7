-- What is initialised is a declarator.
use Rattle.std.proofs.Common.{eq-eqb, ◌≡◌, ℕ, zero, suc, nat_eq, ◌==◌, ◌||◌, ◌⊎◌, inl, inr, Bool, true, false, List, [], ◌∷◌, map, Option, Some, None, length, refl, sym, ap, ◌∙◌, subst}
use Rattle.std.specs.Prelude.{if◌then◌else◌}
use Rattle.std.proofs.lemmas.Bool.{eqb-true, and_parts}
use Rattle.c_lexer.specs.declared.TokenKind.TheVariants.{Punctuator}
use Rattle.c_grammar.specs.Table.{table, row, item_of}
use Rattle.c_grammar.specs.Tree.{makes_node}
use Rattle.c_grammar.specs.Terminals.{contains}
use Rattle.c_grammar.specs.Reads.{leaf}
use Rattle.c_grammar.specs.Productions.{p_external, p_rest, p_declaration, p_declarator, p_abstract, p_either}
use Rattle.c_grammar.specs.Words.{sign_semicolon}
use Rattle.c_senses.specs.Tree.{Source, is_a, production_at, children_at, parent_of, above_within}
use Rattle.c_senses.specs.Declarators.{is_declarator, is_outermost}
use Rattle.c_senses.specs.Entities.{behind, without_asm, in_rest, initialiser_in}
use Rattle.c_senses.specs.Sense.{Sense}
use Rattle.parsed_tree_laws.specs.grown_parts.Parts.{Brings, Part, IsBrought}
use Rattle.parsed_tree_laws.proofs.grown_parts.Rows.{of_end, of_token, of_use, of_choice, of_scope, of_node, of_row}
use Rattle.parsed_tree_laws.proofs.grown_parts.Declaring.{AllIn, in_append, IsDeclarationList, Asserts, Alone, Names, NamesAsm, declaration_list, rest_list, rest_parts}
use Rattle.core_node_laws.specs.standing_laws.Standing.{IsGrown}
use Rattle.core_node_laws.proofs.standing_laws.Climbing.{parent_holds}
use Rattle.valid_unit_laws.specs.object_initialiser_laws.static_value_laws.fixed_laws.Fixed.{DeclaratorsInitialised}

-- what stands in an external declaration and in a declaration
abbrev pub declaration_parts : List ℕ
declaration_parts = 6 ∷ 19 ∷ 5 ∷ 2 ∷ 29 ∷ leaf ∷ 4 ∷ []

no_part : (zs : List ℕ) → Part 48 zs → AllIn declaration_parts zs
unfolding makes_node item_of row table
no_part zs h = subst (AllIn declaration_parts) (sym (of_end 48 0 zs (of_row 48 zs h refl) refl)) tt

node_part : (q : ℕ) (zs : List ℕ) → Part q zs → makes_node q ≡ true → contains declaration_parts q ≡ true → AllIn declaration_parts zs
node_part q zs h made is = subst (AllIn declaration_parts) (sym (of_node q zs h made)) (is, tt)

semicolon_part : (zs : List ℕ) → Part 49 zs → AllIn declaration_parts zs
unfolding makes_node item_of row table
semicolon_part zs h =
    let first = of_token 49 0 (Punctuator sign_semicolon) zs (of_row 49 zs h refl) refl in
    subst (AllIn declaration_parts) (sym (first.1 ∙ ap (λ (l : List ℕ). leaf ∷ l) (of_end 49 1 first.0 first.2 refl))) (refl, tt)

asm_part : (zs : List ℕ) → Part 5 zs ⊎ Part 48 zs → AllIn declaration_parts zs
unfolding makes_node
asm_part zs (inl h) = node_part 5 zs h refl refl
asm_part zs (inr h) = no_part zs h

body_part : (zs : List ℕ) → Part 53 zs → AllIn declaration_parts zs
unfolding makes_node item_of row table
body_part zs h =
    let scoped = of_scope 53 1 2 zs (of_scope 53 0 0 zs (of_row 53 zs h refl) refl) refl in
    let block = of_use 53 2 29 zs scoped refl in
    let ends : AllIn declaration_parts block.1 = subst (AllIn declaration_parts) (sym (of_end 53 4 block.1 (of_scope 53 3 1 block.1 block.4 refl) refl)) tt in
    subst (AllIn declaration_parts) (sym block.2) (in_append declaration_parts block.0 block.1 (node_part 29 block.0 block.3 refl refl) ends)

last_part : (zs : List ℕ) → Part 53 zs ⊎ Part 2 zs → AllIn declaration_parts zs
unfolding makes_node
last_part zs (inl h) = body_part zs h
last_part zs (inr h) = node_part 2 zs h refl refl

external_names : (zs : List ℕ) → Part 52 zs → AllIn declaration_parts zs
unfolding makes_node item_of row table
external_names zs h =
    let first = of_use 52 0 19 zs (of_row 52 zs h refl) refl in
    let third = of_choice 52 2 5 48 first.1 (of_scope 52 1 2 first.1 first.4 refl) refl in
    let fourth = of_choice 52 3 53 2 third.1 third.4 refl in
    let ends : AllIn declaration_parts fourth.1 = subst (AllIn declaration_parts) (sym (of_end 52 4 fourth.1 fourth.4 refl)) tt in
    let more : AllIn declaration_parts third.1 = subst (AllIn declaration_parts) (sym fourth.2) (in_append declaration_parts fourth.0 fourth.1 (last_part fourth.0 fourth.3) ends) in
    let names : AllIn declaration_parts first.1 = subst (AllIn declaration_parts) (sym third.2) (in_append declaration_parts third.0 third.1 (asm_part third.0 third.3) more) in
    subst (AllIn declaration_parts) (sym first.2) (in_append declaration_parts first.0 first.1 (node_part 19 first.0 first.3 refl refl) names)

either_part : (zs : List ℕ) → Part 49 zs ⊎ Part 52 zs → AllIn declaration_parts zs
either_part zs (inl h) = semicolon_part zs h
either_part zs (inr h) = external_names zs h

external_list : (zs : List ℕ) → Brings 1 0 zs → AllIn declaration_parts zs
unfolding makes_node item_of row table
external_list zs h =
    let first = of_use 1 0 6 zs h refl in
    let second = of_choice 1 1 49 52 first.1 first.4 refl in
    let ends : AllIn declaration_parts second.1 = subst (AllIn declaration_parts) (sym (of_end 1 2 second.1 second.4 refl)) tt in
    let more : AllIn declaration_parts first.1 = subst (AllIn declaration_parts) (sym second.2) (in_append declaration_parts second.0 second.1 (either_part second.0 second.3) ends) in
    subst (AllIn declaration_parts) (sym first.2) (in_append declaration_parts first.0 first.1 (node_part 6 first.0 first.3 refl refl) more)

declaration_in : (zs : List ℕ) → IsDeclarationList zs → AllIn declaration_parts zs
declaration_in zs Asserts = (refl, tt)
declaration_in zs Alone = (refl, (refl, tt))
declaration_in zs Names = (refl, (refl, (refl, tt)))
declaration_in zs NamesAsm = (refl, (refl, (refl, (refl, tt))))

in_all : (allowed : List ℕ) (f : ℕ → ℕ) (ks : List ℕ) (c : ℕ) → AllIn allowed (map f ks) → contains ks c ≡ true → contains allowed (f c) ≡ true
in_all allowed f [] c h at = cc
in_all allowed f (k ∷ ks) c h at = by (nat_eq k c) refl at (λ more. in_all allowed f ks c h.1 more)
  where
    by : (b : Bool) → nat_eq k c ≡ b → (b || contains ks c) ≡ true → (contains ks c ≡ true → contains allowed (f c) ≡ true) → contains allowed (f c) ≡ true
    by true same e later = subst (λ (x : ℕ). contains allowed (f x) ≡ true) (eqb-true k c same) h.0
    by false other e later = later e

no_both : (b : Bool) → b ≡ true → b ≡ false → ⊥
no_both b e f = let both : true ≡ false = sym e ∙ f in cc

-- of the forms of declarators, where two aren't allowed, it is the third
form_only : (allowed : List ℕ) (q : ℕ) → contains allowed p_abstract ≡ false → contains allowed p_either ≡ false → contains allowed q ≡ true → ((q == p_declarator || q == p_abstract) || q == p_either) ≡ true → (q == p_declarator) ≡ true
form_only allowed q first second at form = by (q == p_declarator) (q == p_abstract) refl (q == p_either) refl form
  where
    by : (a b : Bool) → (q == p_abstract) ≡ b → (c : Bool) → (q == p_either) ≡ c → ((a || b) || c) ≡ true → a ≡ true
    by true b e c f h = refl
    by false true e c f h = absurd (no_both (contains allowed q) at (ap (contains allowed) (eqb-true q p_abstract e) ∙ first))
    by false false e true f h = absurd (no_both (contains allowed q) at (ap (contains allowed) (eqb-true q p_either f) ∙ second))
    by false false e false f h = cc

module _ (s : Source) (grown : IsGrown s) (brought : IsBrought s) where
  above_passes : (test : ℕ → Bool) (n : ℕ) (x : Option ℕ) (o : ℕ) → above_within s test n x ≡ Some o → test o ≡ true
  above_passes test zero x o e = cc
  above_passes test (suc n) None o e = cc
  above_passes test (suc n) (Some p) o e = by (test p) refl e (λ f. above_passes test n (parent_of s p) o f)
    where
      by : (b : Bool) → test p ≡ b → (if b then Some p else above_within s test n (parent_of s p)) ≡ Some o → (above_within s test n (parent_of s p) ≡ Some o → test o ≡ true) → test o ≡ true
      by true is f later = let same : p ≡ o = cc in subst (λ (k : ℕ). test k ≡ true) same is
      by false is f later = later f

  rest_form : (p o : ℕ) → is_a s p_rest p ≡ true → contains (children_at s p) o ≡ true → contains rest_parts (production_at s o) ≡ true
  rest_form p o is at = in_all rest_parts (production_at s) (children_at s p) o (rest_list _ (subst (λ (q : ℕ). Brings q 0 (map (production_at s) (children_at s p))) (eqb-true (production_at s p) p_rest is) (brought p))) at

  part_form : (p o : ℕ) → (is_a s p_external p || is_a s p_declaration p) ≡ true → contains (children_at s p) o ≡ true → contains declaration_parts (production_at s o) ≡ true
  part_form p o is at = by (is_a s p_external p) refl (is_a s p_declaration p) refl is
    where
      zs : List ℕ
      zs = map (production_at s) (children_at s p)

      by : (a : Bool) → is_a s p_external p ≡ a → (b : Bool) → is_a s p_declaration p ≡ b → (a || b) ≡ true → contains declaration_parts (production_at s o) ≡ true
      by true e b f h = in_all declaration_parts (production_at s) (children_at s p) o (external_list _ (subst (λ (q : ℕ). Brings q 0 (map (production_at s) (children_at s p))) (eqb-true (production_at s p) p_external e) (brought p))) at
      by false e true f h = in_all declaration_parts (production_at s) (children_at s p) o (declaration_in _ (declaration_list _ (subst (λ (q : ℕ). Brings q 0 (map (production_at s) (children_at s p))) (eqb-true (production_at s p) p_declaration f) (brought p)))) at
      by false e false f h = cc

  behind_in : (d : ℕ) (list : List ℕ) (y : ℕ) → contains (behind d list) y ≡ true → contains list y ≡ true
  behind_in d [] y h = h
  behind_in d (c ∷ rest) y h = by (c == d) (nat_eq c y) h (λ g. behind_in d rest y g)
    where
      by : (b k : Bool) → contains (if b then rest else behind d rest) y ≡ true → (contains (behind d rest) y ≡ true → contains rest y ≡ true) → (k || contains rest y) ≡ true
      by b true h later = refl
      by true false h later = h
      by false false h later = later h

  without_in : (sense : ℕ → Sense) (list : List ℕ) (y : ℕ) → contains (without_asm s sense list) y ≡ true → contains list y ≡ true
  without_in sense [] y h = h
  without_in sense (c ∷ rest) y h = by (is_a s 5 c) (nat_eq c y) refl h
    where
      by : (b k : Bool) → nat_eq c y ≡ k → contains (if b then rest else c ∷ rest) y ≡ true → (k || contains rest y) ≡ true
      by b true e h = refl
      by true false e h = h
      by false false e h = ap (λ (x : Bool). x || contains rest y) (sym e) ∙ h

  -- what begins with the rest of a declaration
  rest_first : (sense : ℕ → Sense) (list : List ℕ) (init : ℕ) → in_rest s sense list ≡ Some init → (c : ℕ) × (is_a s p_rest c ≡ true) × (contains list c ≡ true)
  rest_first sense [] init e = cc
  rest_first sense (c ∷ rest) init e = by (is_a s p_rest c) refl e
    where
      own : (nat_eq c c || contains rest c) ≡ true
      own = ap (λ (b : Bool). b || contains rest c) (eq-eqb c c refl)

      by : (b : Bool) → is_a s p_rest c ≡ b → (if b then initialiser_in s sense (children_at s c) else None) ≡ Some init → (x : ℕ) × (is_a s p_rest x ≡ true) × (contains (c ∷ rest) x ≡ true)
      by true is f = (c, is, own)
      by false is f = cc

  pub declarators_are : DeclaratorsInitialised s
  declarators_are sense r o i up init = by (parent_of s o) refl init
    where
      form : is_declarator s o ≡ true
      form = (and_parts (is_declarator s o) _ (above_passes (is_outermost s) (length s.nodes) (parent_of s r) o up)).0

      at_rest : (p : ℕ) → parent_of s o ≡ Some p → (b : Bool) → is_a s p_rest p ≡ b
          → (if b then initialiser_in s sense (without_asm s sense (behind o (children_at s p))) else in_rest s sense (without_asm s sense (behind o (children_at s p)))) ≡ Some i → is_a s p_declarator o ≡ true
      at_rest p holds true is e = form_only rest_parts (production_at s o) refl refl (rest_form p o is (parent_holds s grown p o holds)) form
      at_rest p holds false is e =
          let (c, rest, at) = rest_first sense (without_asm s sense (behind o (children_at s p))) i e in
          let child : contains (children_at s p) c ≡ true = behind_in o (children_at s p) c (without_in sense (behind o (children_at s p)) c at) in
          form_only declaration_parts (production_at s o) refl refl (part_form p o (grown.nested.rests p c child rest) (parent_holds s grown p o holds)) form

      by : (x : Option ℕ) → parent_of s o ≡ x
          → (elim x as (λ _. Option ℕ) [ None ↦ None | Some p ↦ let list = without_asm s sense (behind o (children_at s p)) in if is_a s p_rest p then initialiser_in s sense list else in_rest s sense list ]) ≡ Some i → is_a s p_declarator o ≡ true
      by None holds e = cc
      by (Some p) holds e = at_rest p holds (is_a s p_rest p) refl e
