-- The row of every production over sound senses.
use Rattle.std.proofs.Common.{◌≡◌, ℕ, ◌==◌, Bool, true, ◌&&◌, ◌||◌, not, List, [], ◌∷◌, Option, Some, None, refl, sym, subst}
use Rattle.std.specs.Prelude.{⊤, nat_le, is_some, if◌then◌else◌}
use Rattle.pta_base.specs.declared.kind.Kind.TheVariants.{Operand, InlineDefinition}
use Rattle.c_types.specs.Trees.{Ctype}
use Rattle.c_grammar.specs.Productions.{p_rest, p_declaration, p_assert, p_specs, p_align, p_type, p_struct, p_members, p_member, p_field, p_enum, p_enumerator, p_declarator, p_abstract, p_either, p_suffix, p_parameter, p_type_name, p_init, p_items, p_designator, p_block, p_statement, p_expression, p_primary, p_conditional, p_cast, p_unary}
use Rattle.c_grammar.specs.Words.{sign_left_bracket, word_inline, word_static}
use Rattle.c_senses.specs.passed.c_consts.Core.{Core}
use Rattle.c_senses.specs.Tree.{Source, is_a, has_sign, production_at, children_at, child_of, parent_of}
use Rattle.c_senses.specs.Given.{Given, Fits, ◌>>=◌, given_if}
use Rattle.c_senses.specs.World.{World, has_size}
use Rattle.c_senses.specs.Conversions.{typed}
use Rattle.c_senses.specs.Constants.{constant_in}
use Rattle.c_senses.specs.Sense.{Sense, Nothing, IsType, IsDeclarator, IsRun, IsInitial}
use Rattle.c_senses.specs.Declarators.{is_outermost, base_type, derived, adjusted, plain_declarator_row}
use Rattle.c_senses.specs.Entities.{named_row, parameter_named, initialiser_of, words_go, is_same_again, has_one_linkage, internal_fits, is_name_complete, definition_row, is_void_type, result_of, has_function_word, has_storage, is_defined, specified_of, derived_type, initialised_by}
use Rattle.c_senses.specs.Initialised.{designator_row, name_of_declarator, initialised_object, initialised_as, init_in, opening, literal_of, literal_type, literal_in}
use Rattle.c_senses.specs.Statements.{runs_initialiser, initials_among, run_in, assert_row, block_row, statement_row}
use Rattle.c_senses.specs.Rows.{at_its_name, declarator_row, declaring_row, row_of}
use Rattle.parsed_tree_laws.specs.sense_laws.Sound.{Sound, AreSound, ProperWorld, IsProper, Gives}
use Rattle.parsed_tree_laws.specs.sense_laws.Senses.{SoundSense, AreInitialisers, ConstantsFit, StatementParts, IsStatementSense}
use Rattle.parsed_tree_laws.specs.sense_laws.Asked.{PrimaryFits, InitialFits}
use Rattle.parsed_tree_laws.proofs.sense_laws.Giving.{then_gives, gives_weaker, if_given, some_given, if_holds}
use Rattle.parsed_tree_laws.proofs.sense_laws.Conversions.{typed_sound}
use Rattle.parsed_tree_laws.proofs.sense_laws.Expressions.{expression_sound, as_sense_sound}
use Rattle.parsed_tree_laws.proofs.sense_laws.Statements.{statement_sound, block_sound}
use Rattle.parsed_tree_laws.proofs.sense_laws.Initialised.{as_sound, literal_sound}
use Rattle.parsed_tree_laws.proofs.sense_laws.Types.{anything, type_sound, specs_sound, plain_sound, suffix_sound, parameter_sound, type_name_sound, struct_sound, enum_sound, members_proper, member_sound, field_sound, enumerator_sound, align_sound}

module _ (w : World) (entities : ℕ → Option Ctype) (world : ProperWorld w) (s : Source) (sense : ℕ → Sense) (sound : (i : ℕ) → SoundSense w entities (sense i)) where
  G : Given Sense → Type 0
  G g = Gives (SoundSense w entities) g

  -- a declarator at its name
  defined_gives : (t : Ctype) (leaf : ℕ) (g : Given Sense) → G g → G (definition_row w s sense t leaf g)
  unfolding G
  defined_gives t leaf g h =
      let second : Given Sense = given_if (not (has_function_word s sense word_inline leaf && not (has_storage s sense word_static leaf))) InlineDefinition leaf g in
      let complete : Bool = is_void_type w s sense (result_of w s sense t) || has_size w (result_of w s sense t) in
      if_holds (Gives (SoundSense w entities)) (is_defined s sense leaf) (given_if complete Operand leaf second) g
      (λ e.
      if_given (SoundSense w entities) complete Operand leaf second
      (λ e.
      if_given (SoundSense w entities) (not (has_function_word s sense word_inline leaf && not (has_storage s sense word_static leaf))) InlineDefinition leaf g
      (λ e. h))) (λ e. h)

  named_gives : (at leaf : ℕ) (t : Ctype) (g : Given Sense) → G g → G (named_row w s sense at leaf t g)
  unfolding G
  named_gives at leaf t g h =
      let initialised : Bool = is_some (initialiser_of s sense at) in
      let fifth : Given Sense = given_if (is_name_complete w s sense initialised t leaf) Operand leaf (definition_row w s sense t leaf g) in
      let fourth : Given Sense = given_if (internal_fits w s sense (initialised || is_defined s sense leaf) t leaf) Operand leaf fifth in
      let third : Given Sense = given_if (has_one_linkage w s sense leaf) Operand leaf fourth in
      let second : Given Sense = given_if (is_same_again w s sense t leaf) Operand leaf third in
      if_given (SoundSense w entities) (words_go w s sense initialised leaf) Operand leaf second
      (λ e. if_given (SoundSense w entities) (is_same_again w s sense t leaf) Operand leaf third
      (λ e. if_given (SoundSense w entities) (has_one_linkage w s sense leaf) Operand leaf fourth
      (λ e. if_given (SoundSense w entities) (internal_fits w s sense (initialised || is_defined s sense leaf) t leaf) Operand leaf fifth
      (λ e. if_given (SoundSense w entities) (is_name_complete w s sense initialised t leaf) Operand leaf (definition_row w s sense t leaf g) (λ e. defined_gives t leaf g h)))))

  placed_gives : (at leaf : ℕ) (t a : Ctype) (g : Given Sense) → G g → (o : Option ℕ) → G (elim o as (λ _. Given Sense) [ None ↦ g | Some p ↦ if is_a s p_field p then g else (if is_a s p_parameter p then parameter_named w s sense at leaf a g else named_row w s sense at leaf t g) ])
  unfolding G
  placed_gives at leaf t a g h None = h
  placed_gives at leaf t a g h (Some p) =
      if_holds (Gives (SoundSense w entities)) (is_a s p_field p) g _ (λ e. h)
      (λ e. if_holds (Gives (SoundSense w entities)) (is_a s p_parameter p) _ _ (λ e. if_given (SoundSense w entities) _ Operand leaf g (λ e. h)) (λ e. named_gives at leaf t g h))

  at_name_gives : (at : ℕ) (g : Given Sense) (o : Option Ctype) (x : Sense) → G g → G (at_its_name w s sense at g o x)
  unfolding G
  at_name_gives at g (Some base) (IsDeclarator (Some leaf) ds) h =
      if_holds (Gives (SoundSense w entities)) (is_outermost s at) _ g (λ e. placed_gives at leaf (derived ds base) (adjusted (derived ds base)) g h (parent_of s at)) (λ e. h)
  at_name_gives at g o x h = h

  declarator_gives : (at : ℕ) (children : List ℕ) → G (declarator_row w s sense at children)
  unfolding G
  declarator_gives at children =
      then_gives (SoundSense w entities) (SoundSense w entities) (plain_declarator_row w s sense at children) (λ x. at_its_name w s sense at (Fits x) (base_type w s sense at) x) (plain_sound w entities world s sense sound at children)
      (λ x h. at_name_gives at (Fits x) (base_type w s sense at) x h)

  -- what declarations run
  IsRunOf : List Core → Type 0
  IsRunOf cores = AreSound w entities cores × AreInitialisers cores

  initials_sound : (list : List ℕ) → IsRunOf (initials_among w s sense list)
  unfolding IsRunOf
  initials_sound [] = (tt, tt)
  initials_sound (c ∷ rest) = by_sense (sense c) (sound c) (initials_among w s sense rest) (initials_sound rest)
    where
      by_sense : (x : Sense) → SoundSense w entities x → (cores : List Core) → IsRunOf cores → IsRunOf (elim x as (λ _. List Core) [ IsInitial y n ↦ if runs_initialiser w s sense c then y ∷ cores else cores | _ ↦ cores ])
      by_sense (IsInitial y n) h cores k = if_holds IsRunOf (runs_initialiser w s sense c) (y ∷ cores) cores (λ e. ((h.0, k.0), (h.1, k.1))) (λ e. k)
      by_sense x h cores k = k

  run_sound : (list : List ℕ) → IsRunOf (run_in w s sense list)
  unfolding IsRunOf
  run_sound [] = (tt, tt)
  run_sound (c ∷ rest) = by_sense (sense c) (sound c) (run_in w s sense rest) (run_sound rest)
    where
      by_sense : (x : Sense) → SoundSense w entities x → (cores : List Core) → IsRunOf cores → IsRunOf (elim x as (λ _. List Core) [ IsRun own ↦ own | _ ↦ cores ])
      by_sense (IsRun own) h cores k = h
      by_sense x h cores k = k

  assert_gives : (at : ℕ) → G (assert_row w s sense at)
  unfolding G
  assert_gives at =
      some_given (SoundSense w entities) (child_of s p_conditional at) Operand at _
      (λ c e. then_gives (λ n. ⊤) (SoundSense w entities) (constant_in w s at (sense c)) _ (anything (constant_in w s at (sense c))) (λ n k. if_given (SoundSense w entities) _ Operand at (Fits Nothing) (λ e. tt)))

  designator_gives : (at : ℕ) (children : List ℕ) → G (designator_row w s sense at children)
  unfolding G
  designator_gives at [] = tt
  designator_gives at (first ∷ rest) =
      if_holds (Gives (SoundSense w entities)) (has_sign s sign_left_bracket first) _ (Fits Nothing)
      (λ e. some_given (SoundSense w entities) (child_of s p_conditional at) Operand at _ (λ c f. then_gives (λ n. ⊤) (SoundSense w entities) (constant_in w s at (sense c)) _ (anything (constant_in w s at (sense c))) (λ n k. tt)))
      (λ e. tt)

  -- initialisers and compound literals
  module _ (at : ℕ) (fit : InitialFits w entities s sense at) where
    object_gives : (p declarator : ℕ) → is_a s p_init at ≡ true → parent_of s at ≡ Some p → is_a s p_rest p ≡ true → initialised_by s sense at ≡ Some declarator
        → (o : Option ℕ) → name_of_declarator w s sense (sense declarator) ≡ o → G (initialised_object w s sense at declarator o)
    unfolding G
    object_gives p declarator is parent rest by None name = tt
    object_gives p declarator is parent rest by (Some leaf) name =
        some_given (SoundSense w entities) (derived_type s sense (specified_of s sense leaf) (Some declarator)) Operand at (initialised_as w s sense at declarator leaf)
        (λ t e. as_sound w entities world s sense sound at declarator leaf t (fit.objects p declarator leaf t is parent rest by name e))

    init_in_gives : (p : ℕ) → is_a s p_init at ≡ true → parent_of s at ≡ Some p → is_a s p_rest p ≡ true → (o : Option ℕ) → initialised_by s sense at ≡ o → G (init_in w s sense at o)
    unfolding G
    init_in_gives p is parent rest None by = tt
    init_in_gives p is parent rest (Some declarator) by = object_gives p declarator is parent rest by (name_of_declarator w s sense (sense declarator)) refl

    init_gives : is_a s p_init at ≡ true → (o : Option ℕ) → parent_of s at ≡ o → G (elim o as (λ _. Given Sense) [ None ↦ Fits Nothing | Some p ↦ if is_a s p_rest p then init_in w s sense at (initialised_by s sense at) else Fits Nothing ])
    unfolding G
    init_gives is None parent = tt
    init_gives is (Some p) parent = if_holds (Gives (SoundSense w entities)) (is_a s p_rest p) _ (Fits Nothing) (λ e. init_in_gives p is parent e (initialised_by s sense at) refl) (λ e. tt)

    type_given : (x : Sense) → SoundSense w entities x → Gives (λ t. IsProper t × (x ≡ IsType t)) (literal_type w s sense at x)
    type_given (IsType t) h = (h, refl)
    type_given x h = tt

    literal_gives : (p : ℕ) → is_a s p_items at ≡ true → parent_of s at ≡ Some p → (is_a s p_cast p || is_a s p_unary p) ≡ true → (o : Option ℕ) → child_of s p_type_name p ≡ o → G (literal_in w s sense at p o)
    unfolding G
    literal_gives p is parent over None name = tt
    literal_gives p is parent over (Some t) name =
        as_sense_sound w entities world (literal_type w s sense at (sense t) >>= (λ type. typed (opening w s sense p) type (literal_of w s sense at p type)))
        (then_gives (λ type. IsProper type × (sense t ≡ IsType type)) (Sound w entities) (literal_type w s sense at (sense t)) (λ type. typed (opening w s sense p) type (literal_of w s sense at p type)) (type_given (sense t) (sound t))
        (λ type proper. typed_sound w entities (Sound w entities) (opening w s sense p) type (literal_of w s sense at p type)
        (literal_sound w entities world s sense sound at p type proper.0 (fit.literals p t type is parent over name proper.1))))

    items_gives : is_a s p_items at ≡ true → (o : Option ℕ) → parent_of s at ≡ o
        → G (elim o as (λ _. Given Sense) [ None ↦ Fits Nothing | Some p ↦ if is_a s p_cast p || is_a s p_unary p then literal_in w s sense at p (child_of s p_type_name p) else Fits Nothing ])
    unfolding G
    items_gives is None parent = tt
    items_gives is (Some p) parent = if_holds (Gives (SoundSense w entities)) (is_a s p_cast p || is_a s p_unary p) _ (Fits Nothing) (λ e. literal_gives p is parent e (child_of s p_type_name p) refl) (λ e. tt)

    -- the row of each production
    module _ (ints : ConstantsFit s) (parts : StatementParts w s sense) (production : ℕ) (children : List ℕ) (is : production_at s at ≡ production) (over : children_at s at ≡ children) (names : is_a s p_primary at ≡ true → PrimaryFits w entities children) where
      is_one : (p : ℕ) → (production == p) ≡ true → is_a s p at ≡ true
      is_one p e = subst (λ (q : ℕ). (q == p) ≡ true) (sym is) e

      statement_gives : (production == p_statement) ≡ true → G (statement_row w s sense at children)
      unfolding G
      statement_gives e = gives_weaker (λ x. SoundSense w entities x × IsStatementSense x) (SoundSense w entities) (statement_row w s sense at children) (λ x h. h.0) (statement_sound w entities world s sense sound parts at children (is_one p_statement e) over)

      block_gives : (production == p_block) ≡ true → G (block_row w s sense at children)
      unfolding G
      block_gives e =
          subst (λ (c : List ℕ). Gives (SoundSense w entities) (block_row w s sense at c)) over
          (gives_weaker (λ x. SoundSense w entities x × IsStatementSense x) (SoundSense w entities) (block_row w s sense at (children_at s at)) (λ x h. h.0) (block_sound w entities world s sense sound parts at (is_one p_block e)))

      declaring_gives : G (declaring_row w s sense production at children)
      unfolding G IsRunOf
      declaring_gives =
          let P : Given Sense → Type 0 = Gives (SoundSense w entities) in
          if_holds P (production == p_rest) _ _ (λ e. initials_sound children)
          (λ e. if_holds P (production == p_declaration) _ _ (λ e. run_sound children)
          (λ e. if_holds P (production == p_assert) _ _ (λ e. assert_gives at)
          (λ e. if_holds P (production == p_specs) _ _ (λ e. specs_sound w entities world s sense sound at children)
          (λ e. if_holds P (production == p_align) _ _ (λ e. align_sound w entities world s sense sound at children)
          (λ e. if_holds P (production == p_type) _ _ (λ e. type_sound w entities world s sense sound at children)
          (λ e. if_holds P (production == p_struct) _ _ (λ e. struct_sound w entities world s sense sound at)
          (λ e. if_holds P (production == p_members) _ _ (λ e. members_proper w entities world s sense sound children)
          (λ e. if_holds P (production == p_member) _ _ (λ e. member_sound w entities world s sense sound at children)
          (λ e. if_holds P (production == p_field) _ _ (λ e. field_sound w entities world s sense sound at)
          (λ e. if_holds P (production == p_enum) _ _ (λ e. enum_sound w entities world s sense sound at)
          (λ e. if_holds P (production == p_enumerator) _ _ (λ e. enumerator_sound w entities world s sense sound at children)
          (λ e. if_holds P (production == p_suffix) _ _ (λ e. suffix_sound w entities world s sense sound at children)
          (λ e. if_holds P (production == p_parameter) _ _ (λ e. parameter_sound w entities world s sense sound at)
          (λ e. if_holds P (production == p_type_name) _ _ (λ e. type_name_sound w entities world s sense sound at)
          (λ e. if_holds P (production == p_init) _ _ (λ e. init_gives (is_one p_init e) (parent_of s at) refl)
          (λ e. if_holds P (production == p_items) _ _ (λ e. items_gives (is_one p_items e) (parent_of s at) refl)
          (λ e. if_holds P (production == p_designator) _ _ (λ e. designator_gives at children)
          (λ e. if_holds P (production == p_block) _ _ (λ e. block_gives e)
          (λ e. if_holds P (production == p_statement) _ _ (λ e. statement_gives e)
          (λ e. if_holds P ((production == p_declarator) || ((production == p_abstract) || (production == p_either))) _ (Fits Nothing) (λ e. declarator_gives at children) (λ e. tt)))))))))))))))))))))

      pub row_sound : Gives (SoundSense w entities) (row_of w s sense production at children)
      unfolding G
      row_sound =
          if_holds (Gives (SoundSense w entities)) (nat_le p_expression production && nat_le production p_primary) _ _
          (λ e. expression_sound w entities world s sense sound ints production at children (λ p. names (is_one p_primary p))) (λ e. declaring_gives)
