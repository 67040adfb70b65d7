-- A declaration's own type is settled at each later declarator.
use Rattle.std.proofs.Common.{arith, ◌≡◌, ◌<◌, ◌≤◌, ℕ, inl, inr, ◌||◌, Bool, true, false, List, [], ◌∷◌, map, slice_get, Option, Some, None, refl, sym, ap, ◌∙◌, subst}
use Rattle.std.specs.Prelude.{All, option_map, option_and_then, if◌then◌else◌}
use Rattle.std.proofs.lemmas.Bool.{eqb-true}
use Rattle.std.proofs.lemmas.Option.{slice_get_within, get_or_from_slice_get}
use Rattle.c_lexer.specs.declared.Token.{Token}
use Rattle.c_lexer.specs.declared.TokenKind.{TokenKind}
use Rattle.c_lexer.specs.Laws.{Stands}
use Rattle.c_lexer.proofs.OneCut.{stand}
use Rattle.c_types.specs.Trees.{Ctype}
use Rattle.c_grammar.specs.Names.{no_names}
use Rattle.c_grammar.specs.Productions.{p_external, p_rest, p_declaration}
use Rattle.c_parser.specs.Parse.{begin}
use Rattle.c_senses.specs.Names.{source_of, numbered}
use Rattle.c_senses.specs.Tree.{Source, production_at, children_at, is_a}
use Rattle.c_senses.specs.Declarators.{outermost_of}
use Rattle.c_senses.specs.Entities.{with_length, behind, specified_of, derived_type, parameter_type, is_parameter, declaration_of, length_given_by, without_asm, in_rest, initialiser_in, initialiser_of, initialiser_for, own_type}
use Rattle.c_senses.specs.Sense.{Sense, IsParameter, IsInitial, sense_in}
use Rattle.core_node_laws.specs.count_laws.passed.parsed_tree_laws.family_laws.Families.{Families}
use Rattle.core_node_laws.proofs.count_laws.passed.parsed_tree_laws.family_laws.Reading.{units_families}
use Rattle.core_node_laws.specs.count_laws.passed.parsed_tree_laws.nesting_laws.Nested.{Nested}
use Rattle.core_node_laws.proofs.count_laws.passed.parsed_tree_laws.nesting_laws.Nesting.{units_nest}
use Rattle.core_node_laws.proofs.count_laws.passed.parsed_tree_laws.placed_laws.Climbing.{Grown}
use Rattle.core_node_laws.proofs.count_laws.passed.parsed_tree_laws.placed_laws.Growing.{grown_read}
use Rattle.declaration_laws.proofs.declared_type_laws.owner_laws.passed.definition_laws.linkage_laws.Seen.{parent_is}
use Rattle.core_node_laws.proofs.built_unit_laws.run_laws.Times.{known_at, known}
use Rattle.declaration_laws.proofs.declared_type_laws.plain_names.Later.{known_later, initialiser_for_same, derived_later}
use Rattle.core_node_laws.specs.count_laws.passed.parsed_tree_laws.sign_parts.Parts.{Mark, mark_at, Brings, Takes, IsBrought}
use Rattle.core_node_laws.proofs.count_laws.passed.parsed_tree_laws.sign_parts.Reading.{units_bring}
use Rattle.declaration_laws.proofs.declared_type_laws.owner_laws.passed.definition_laws.own_initialisers.Parts.{IsRestList, Begins, rest_list}
use Rattle.declaration_laws.proofs.declared_type_laws.owner_laws.passed.definition_laws.own_initialisers.Searching.{apart, Reads}
use Rattle.declaration_laws.proofs.declared_type_laws.owner_laws.passed.definition_laws.own_initialisers.Standing.{parts}
use Rattle.declaration_laws.specs.declared_type_laws.owner_laws.passed.definition_laws.initialiser_laws.Initialisers.{InitialisersAreOf}
use Rattle.declaration_laws.proofs.declared_type_laws.owner_laws.passed.definition_laws.initialiser_laws.Found.{initialisers_found}
use Rattle.declaration_laws.specs.declared_type_laws.owner_laws.passed.definition_laws.earlier_initialisers.Earlier.{StandsDeclaring, InitialisersComeFirst}
use Rattle.declaration_laws.proofs.declared_type_laws.owner_laws.passed.definition_laws.earlier_initialisers.Coming.{initialisers_earlier}
use Rattle.declaration_laws.specs.declared_type_laws.settled_types.Settled.{TypesSettled}
use Rattle.declaration_laws.proofs.declared_type_laws.settled_types.Initial.{IsIn, plain_list, rest_init}

some_one : {X : Type 0} → {x y : X} → ◌≡◌ {A = Option X} (Some x) (Some y) → x ≡ y
some_one h = cc

mapped : (o : Option Ctype) (n : Option ℕ) (t : Ctype) → option_map (with_length n) o ≡ Some t → (u : Ctype) × (o ≡ Some u) × (with_length n u ≡ t)
mapped None n t e = cc
mapped (Some u) n t e = (u, refl, some_one e)

module _ (s : Source) (tree : Grown s) (nested : Nested s) (families : Families s) (standing : (k : ℕ) (t : Token) → slice_get s.tokens k ≡ Some t → Stands s.text t) (brought : IsBrought s) (firsts : InitialisersComeFirst s) (of : InitialisersAreOf s) (senses : List Sense) where
  abbrev T : ℕ → TokenKind → ℕ → Type 0
  T = Takes s.text s.tokens

  abbrev G : ℕ → Sense
  G = sense_in senses

  rest_is : (p : ℕ) → is_a s p_rest p ≡ true → IsRestList T (map (mark_at s) (children_at s p))
  rest_is p rest = rest_list T (map (mark_at s) (children_at s p)) (subst (λ (q : ℕ). Brings T q 0 (map (mark_at s) (children_at s p))) (eqb-true (production_at s p) p_rest rest) (brought p))

  read_of : (p : ℕ) → Reads s G (children_at s p) (map (mark_at s) (children_at s p))
  read_of p = parts s tree nested families standing brought G G p (map (mark_at s) (children_at s p)) refl

  first_init : (c i : ℕ) (ms : List Mark) → IsRestList T ms → Reads s G (children_at s c) ms → initialiser_in s G (children_at s c) ≡ Some i → IsIn s G standing (children_at s c) i
  first_init c i ms (Begins {init = xs} {more = ys} maybe next) r e = plain_list s G standing xs ys maybe next (children_at s c) i r e

  -- where the initialiser of a declarator stands
  record StandsIn (i : ℕ) : Type 0 where
    rest : ℕ
    is_rest : is_a s p_rest rest ≡ true
    inside : IsIn s G standing (children_at s rest) i

  module _ (m i : ℕ) (stands : StandsDeclaring s m) (given : initialiser_of s G m ≡ Some i) where
    abbrev from_parent : Option ℕ → Option ℕ
    from_parent o = elim o as (λ _. Option ℕ) [
      | None ↦ None
      | Some q ↦ if is_a s p_rest q then initialiser_in s G (without_asm s G (behind m (children_at s q))) else in_rest s G (without_asm s G (behind m (children_at s q)))
    ]

    above : ℕ
    above = stands.0

    there : (if is_a s p_rest stands.0 then initialiser_in s G (without_asm s G (behind m (children_at s stands.0))) else in_rest s G (without_asm s G (behind m (children_at s stands.0)))) ≡ Some i
    there = sym (ap from_parent (parent_is s tree stands.0 m stands.2)) ∙ given

    abbrev chosen : Bool → Option ℕ
    chosen b = if b then initialiser_in s G (without_asm s G (behind m (children_at s stands.0))) else in_rest s G (without_asm s G (behind m (children_at s stands.0)))

    in_declaration : (list : List ℕ) → in_rest s G list ≡ Some i → StandsIn i
    in_declaration [] e = absurd (cc)
    in_declaration (c ∷ more) e = by (is_a s p_rest c) refl e
      where
        by : (b : Bool) → is_a s p_rest c ≡ b → (if b then initialiser_in s G (children_at s c) else None) ≡ Some i → StandsIn i
        by true rest f = record { rest = c; is_rest = rest; inside = first_init c i (map (mark_at s) (children_at s c)) (rest_is c rest) (read_of c) f }
        by false rest f = absurd (cc)

    no_rest : (is_a s p_external stands.0 || is_a s p_declaration stands.0) ≡ true → is_a s p_rest stands.0 ≡ false
    no_rest two = by (is_a s p_external stands.0) (is_a s p_declaration stands.0) refl refl two
      where
        by : (x y : Bool) → is_a s p_external stands.0 ≡ x → is_a s p_declaration stands.0 ≡ y → (x || y) ≡ true → is_a s p_rest stands.0 ≡ false
        by true y e f k = apart s stands.0 p_external p_rest e refl
        by false true e f k = apart s stands.0 p_declaration p_rest f refl
        by false false e f k = cc

    stands_in : StandsIn i
    stands_in = elim stands.3 [
      | inl rest ↦
          record {
            rest = stands.0;
            is_rest = rest;
            inside = rest_init s G standing m i stands.1 (map (mark_at s) (children_at s stands.0)) (rest_is stands.0 rest) (children_at s stands.0) (read_of stands.0) (sym (ap chosen rest) ∙ there);
          }
      | inr two ↦ in_declaration (without_asm s G (behind m (children_at s stands.0))) (sym (ap chosen (no_rest two)) ∙ there)
    ]

    before : (k : ℕ) → StandsDeclaring s k → m < k → i < k
    before k later lt =
        let at = stands_in in
        firsts G i at.rest m k at.inside.0 (parent_is s tree at.rest i at.inside.1) at.is_rest (of G m i stands.1 given) later lt

  module _ (m leaf k n : ℕ) (up : outermost_of s leaf ≡ Some m) (stands : StandsDeclaring s m) (later : StandsDeclaring s k) (behind_it : m < k) (le : k ≤ n) where
    abbrev F : ℕ → Sense
    F = known_at s senses n

    same_length : length_given_by s F (initialiser_for s F leaf) ≡ length_given_by s G (initialiser_for s G leaf)
    same_length = ap (length_given_by s F) (initialiser_for_same s F G leaf) ∙ (ap (length_given_by s F) at ∙ (by (initialiser_of s G m) refl ∙ ap (length_given_by s G) (sym at)))
      where
        at : initialiser_for s G leaf ≡ initialiser_of s G m
        at = ap (option_and_then (initialiser_of s G)) up

        by : (o : Option ℕ) → initialiser_of s G m ≡ o → length_given_by s F o ≡ length_given_by s G o
        by None e = refl
        by (Some i) e =
            let lt : i < k = before m i stands e k later behind_it in
            ap (λ (x : Sense). elim x as (λ _. Option ℕ) [ IsInitial c l ↦ l | _ ↦ None ]) (known s senses n i (omega (arith, lt, le)))

    parameter_later : (o : Option ℕ) (t : Ctype) → parameter_type s F o ≡ Some t → parameter_type s G o ≡ Some t
    parameter_later None t e = cc
    parameter_later (Some p) t e = by (F p) refl e
      where
        by : (y : Sense) → F p ≡ y → (elim y as (λ _. Option Ctype) [ IsParameter x ↦ Some x.type | _ ↦ None ]) ≡ Some t → (elim (G p) as (λ _. Option Ctype) [ IsParameter x ↦ Some x.type | _ ↦ None ]) ≡ Some t
        by (IsParameter x) is h = ap (λ (y : Sense). elim y as (λ _. Option Ctype) [ IsParameter z ↦ Some z.type | _ ↦ None ]) (known_later s senses n p (IsParameter x) is (λ no. cc)) ∙ h
        by y is h = cc

    pub settled : (t : Ctype) → own_type s F leaf ≡ Some t → own_type s G leaf ≡ Some t
    settled t e = by (is_parameter s G leaf) e
      where
        plain : option_map (with_length (length_given_by s F (initialiser_for s F leaf))) (derived_type s F (specified_of s F leaf) (outermost_of s leaf)) ≡ Some t
            → option_map (with_length (length_given_by s G (initialiser_for s G leaf))) (derived_type s G (specified_of s G leaf) (outermost_of s leaf)) ≡ Some t
        plain h =
            let base = mapped (derived_type s F (specified_of s F leaf) (outermost_of s leaf)) (length_given_by s F (initialiser_for s F leaf)) t h in
            ap (option_map (with_length (length_given_by s G (initialiser_for s G leaf)))) (derived_later s F G (known_later s senses n) leaf (outermost_of s leaf) base.0 base.1)
            ∙ (ap (λ (l : Option ℕ). Some (with_length l base.0)) (sym same_length) ∙ ap Some base.2)

        by : (b : Bool) → (if b then parameter_type s F (declaration_of s F leaf) else option_map (with_length (length_given_by s F (initialiser_for s F leaf))) (derived_type s F (specified_of s F leaf) (outermost_of s leaf))) ≡ Some t
            → (if b then parameter_type s G (declaration_of s G leaf) else option_map (with_length (length_given_by s G (initialiser_for s G leaf))) (derived_type s G (specified_of s G leaf) (outermost_of s leaf))) ≡ Some t
        by true h = parameter_later (declaration_of s G leaf) t h
        by false h = plain h

token_has : (P : Token → Type 0) (list : List Token) (k : ℕ) (t : Token) → All P list → slice_get list k ≡ Some t → P t
token_has P list k t h e = subst P (get_or_from_slice_get list k t t e) (h k t (slice_get_within list k t e))

pub types_settled : TypesSettled
unfolding source_of
types_settled tokens unit tree tag_number cut is senses m leaf k n t up stands later behind_it le e =
    let s : Source = numbered tag_number (source_of tokens tree) in
    let read = is.0 in
    let grown : Grown s = grown_read tokens tree tag_number (begin 0 no_names []) read.0 refl refl read.1 read.2 in
    settled s grown (units_nest tokens unit tree tag_number is) (units_families tokens unit tree tag_number cut is) (λ k t e. token_has (Stands tokens.text.now) tokens.list.items k t (stand tokens.text.now tokens.list.items cut) e) (units_bring tokens unit tree tag_number is)
    (initialisers_earlier tokens unit tree tag_number cut is) (initialisers_found tokens unit tree tag_number cut is) senses m leaf k n up stands later behind_it le t e
