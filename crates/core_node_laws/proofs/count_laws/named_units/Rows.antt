-- The places of the row of every production.
use Rattle.std.proofs.Common.{◌==◌, ℕ, Bool, ◌&&◌, ◌||◌, not, List, [], ◌∷◌, Option, Some, None}
use Rattle.std.specs.Prelude.{nat_le, is_some, if◌then◌else◌}
use Rattle.pta_base.specs.declared.kind.Kind.TheVariants.{Operand, InlineDefinition}
use Rattle.c_types.specs.Trees.{Ctype}
use Rattle.c_grammar.specs.Productions.{p_rest, p_declaration, p_assert, p_specs, p_align, p_type, p_struct, p_members, p_member, p_field, p_enum, p_enumerator, p_declarator, p_abstract, p_either, p_suffix, p_parameter, p_type_name, p_init, p_items, p_designator, p_block, p_statement, p_expression, p_primary, p_conditional}
use Rattle.c_grammar.specs.Words.{word_inline, word_static}
use Rattle.c_consts.specs.Core.{Core}
use Rattle.c_senses.specs.Tree.{Source, is_a, child_of, parent_of}
use Rattle.c_senses.specs.Given.{Given, Fits, given_if}
use Rattle.c_senses.specs.World.{World, has_size}
use Rattle.c_senses.specs.Constants.{constant_in}
use Rattle.c_senses.specs.Sense.{Sense, Nothing, IsDeclarator, IsRun, IsInitial}
use Rattle.c_senses.specs.Declarators.{is_outermost, base_type, derived, adjusted, plain_declarator_row}
use Rattle.c_senses.specs.Entities.{named_row, parameter_named, initialiser_of, words_go, is_same_again, has_one_linkage, internal_fits, is_name_complete, definition_row, is_void_type, result_of, has_function_word, has_storage, is_defined}
use Rattle.c_senses.specs.Statements.{runs_initialiser, initials_among, run_in, assert_row}
use Rattle.c_senses.specs.Rows.{at_its_name, declarator_row, declaring_row, row_of}
use Rattle.core_node_laws.proofs.count_laws.named_units.Giving.{Gives, then_gives, after, if_given, some_given, if_holds}
use Rattle.core_node_laws.proofs.count_laws.named_units.Operators.{AreOf}
use Rattle.core_node_laws.proofs.count_laws.named_units.Expressions.{OfSense, expression_kept}
use Rattle.core_node_laws.proofs.count_laws.named_units.Initialised.{designator_kept, init_kept, items_kept}
use Rattle.core_node_laws.proofs.count_laws.named_units.Statements.{block_kept, statement_kept}
use Rattle.core_node_laws.proofs.count_laws.named_units.Types.{among_kept, type_kept, specs_kept, plain_kept, suffix_kept, parameter_kept, type_name_kept, struct_kept, enum_kept, member_kept, field_kept, enumerator_kept, align_kept}

initial_or : (source : Source) (b : Bool) (x : Sense) → OfSense source x → (cores : List Core) → AreOf source cores → AreOf source (elim x as (λ _. List Core) [ IsInitial y n ↦ if b then y ∷ cores else cores | _ ↦ cores ])
initial_or source b (IsInitial y n) h cores k = if_holds (AreOf source) b (y ∷ cores) cores (h, k) k
initial_or source b x h cores k = k

run_or : (source : Source) (x : Sense) → OfSense source x → (cores : List Core) → AreOf source cores → AreOf source (elim x as (λ _. List Core) [ IsRun own ↦ own | _ ↦ cores ])
run_or source (IsRun own) h cores k = h
run_or source x h cores k = k

module _ (w : World) (s : Source) (sense : ℕ → Sense) (each : (i : ℕ) → OfSense s (sense i)) where
  G : Given Sense → Type 0
  G g = Gives (OfSense s) g

  -- a declarator at its name
  defined_gives : (t : Ctype) (leaf : ℕ) (g : Given Sense) → G g → G (definition_row w s sense t leaf g)
  unfolding G
  defined_gives t leaf g h =
      let second : Given Sense = given_if (not (has_function_word s sense word_inline leaf && not (has_storage s sense word_static leaf))) InlineDefinition leaf g in
      let complete : Bool = is_void_type w s sense (result_of w s sense t) || has_size w (result_of w s sense t) in
      if_holds (Gives (OfSense s)) (is_defined s sense leaf) (given_if complete Operand leaf second) g
      (if_given (OfSense s) complete Operand leaf second
      (if_given (OfSense s) (not (has_function_word s sense word_inline leaf && not (has_storage s sense word_static leaf))) InlineDefinition leaf g h)) h

  named_gives : (at leaf : ℕ) (t : Ctype) (g : Given Sense) → G g → G (named_row w s sense at leaf t g)
  unfolding G
  named_gives at leaf t g h =
      let initialised : Bool = is_some (initialiser_of s sense at) in
      let fifth : Given Sense = given_if (is_name_complete w s sense initialised t leaf) Operand leaf (definition_row w s sense t leaf g) in
      let fourth : Given Sense = given_if (internal_fits w s sense (initialised || is_defined s sense leaf) t leaf) Operand leaf fifth in
      let third : Given Sense = given_if (has_one_linkage w s sense leaf) Operand leaf fourth in
      let second : Given Sense = given_if (is_same_again w s sense t leaf) Operand leaf third in
      if_given (OfSense s) (words_go w s sense initialised leaf) Operand leaf second
      (if_given (OfSense s) (is_same_again w s sense t leaf) Operand leaf third
      (if_given (OfSense s) (has_one_linkage w s sense leaf) Operand leaf fourth
      (if_given (OfSense s) (internal_fits w s sense (initialised || is_defined s sense leaf) t leaf) Operand leaf fifth
      (if_given (OfSense s) (is_name_complete w s sense initialised t leaf) Operand leaf (definition_row w s sense t leaf g) (defined_gives t leaf g h)))))

  placed_gives : (at leaf : ℕ) (t a : Ctype) (g : Given Sense) → G g → (o : Option ℕ) → G (elim o as (λ _. Given Sense) [ None ↦ g | Some p ↦ if is_a s p_field p then g else (if is_a s p_parameter p then parameter_named w s sense at leaf a g else named_row w s sense at leaf t g) ])
  unfolding G
  placed_gives at leaf t a g h None = h
  placed_gives at leaf t a g h (Some p) =
      if_holds (Gives (OfSense s)) (is_a s p_field p) g _ h
      (if_holds (Gives (OfSense s)) (is_a s p_parameter p) _ _ (if_given (OfSense s) _ Operand leaf g h) (named_gives at leaf t g h))

  at_name_gives : (at : ℕ) (g : Given Sense) (o : Option Ctype) (x : Sense) → G g → G (at_its_name w s sense at g o x)
  unfolding G
  at_name_gives at g (Some base) (IsDeclarator (Some leaf) ds) h = if_holds (Gives (OfSense s)) (is_outermost s at) _ g (placed_gives at leaf (derived ds base) (adjusted (derived ds base)) g h (parent_of s at)) h
  at_name_gives at g o x h = h

  declarator_gives : (at : ℕ) (children : List ℕ) → G (declarator_row w s sense at children)
  unfolding G
  declarator_gives at children =
      then_gives (OfSense s) (OfSense s) (plain_declarator_row w s sense at children) (λ x. at_its_name w s sense at (Fits x) (base_type w s sense at) x) (plain_kept w s sense each at children)
      (λ x h. at_name_gives at (Fits x) (base_type w s sense at) x h)

  -- what declarations run
  initials_kept : (list : List ℕ) → AreOf s (initials_among w s sense list)
  initials_kept [] = tt
  initials_kept (c ∷ rest) = initial_or s (runs_initialiser w s sense c) (sense c) (each c) (initials_among w s sense rest) (initials_kept rest)

  run_kept : (list : List ℕ) → AreOf s (run_in w s sense list)
  run_kept [] = tt
  run_kept (c ∷ rest) = run_or s (sense c) (each c) (run_in w s sense rest) (run_kept rest)

  assert_gives : (at : ℕ) → G (assert_row w s sense at)
  unfolding G
  assert_gives at =
      some_given (OfSense s) (child_of s p_conditional at) Operand at _ (λ c. after (OfSense s) (constant_in w s at (sense c)) _ (λ n. if_given (OfSense s) _ Operand at (Fits Nothing) tt))

  declaring_gives : (production at : ℕ) (children : List ℕ) → G (declaring_row w s sense production at children)
  unfolding G
  declaring_gives production at children =
      let P : Given Sense → Type 0 = Gives (OfSense s) in
      if_holds P (production == p_rest) _ _ (initials_kept children)
      (if_holds P (production == p_declaration) _ _ (run_kept children)
      (if_holds P (production == p_assert) _ _ (assert_gives at)
      (if_holds P (production == p_specs) _ _ (specs_kept w s sense each at children)
      (if_holds P (production == p_align) _ _ (align_kept w s sense each at children)
      (if_holds P (production == p_type) _ _ (type_kept w s sense each at children)
      (if_holds P (production == p_struct) _ _ (struct_kept w s sense each at)
      (if_holds P (production == p_members) _ _ (among_kept w s sense each children)
      (if_holds P (production == p_member) _ _ (member_kept w s sense each at children)
      (if_holds P (production == p_field) _ _ (field_kept w s sense each at)
      (if_holds P (production == p_enum) _ _ (enum_kept w s sense each at)
      (if_holds P (production == p_enumerator) _ _ (enumerator_kept w s sense each at children)
      (if_holds P (production == p_suffix) _ _ (suffix_kept w s sense each at children)
      (if_holds P (production == p_parameter) _ _ (parameter_kept w s sense each at)
      (if_holds P (production == p_type_name) _ _ (type_name_kept w s sense each at)
      (if_holds P (production == p_init) _ _ (init_kept w s sense each at (parent_of s at))
      (if_holds P (production == p_items) _ _ (items_kept w s sense each at (parent_of s at))
      (if_holds P (production == p_designator) _ _ (designator_kept w s sense each at children)
      (if_holds P (production == p_block) _ _ (block_kept w s sense each at children)
      (if_holds P (production == p_statement) _ _ (statement_kept w s sense each at children)
      (if_holds P ((production == p_declarator) || ((production == p_abstract) || (production == p_either))) _ (Fits Nothing) (declarator_gives at children) tt))))))))))))))))))))

  pub row_kept : (production at : ℕ) (children : List ℕ) → Gives (OfSense s) (row_of w s sense production at children)
  unfolding G
  row_kept production at children =
      if_holds (Gives (OfSense s)) (nat_le p_expression production && nat_le production p_primary) _ _ (expression_kept w s sense each production at children) (declaring_gives production at children)
