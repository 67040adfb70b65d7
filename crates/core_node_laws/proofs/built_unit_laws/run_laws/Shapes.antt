-- The senses of what stands in declarations.
use Rattle.std.proofs.Common.{◌≡◌, ℕ, Bool, ◌&&◌, ◌||◌, not, List, [], Option, Some, None, refl}
use Rattle.std.specs.Prelude.{⊤, is_some, if◌then◌else◌}
use Rattle.pta_base.specs.declared.kind.Kind.TheVariants.{Operand, InlineDefinition}
use Rattle.c_types.specs.Trees.{Ctype}
use Rattle.c_grammar.specs.Productions.{p_field, p_parameter, p_conditional}
use Rattle.c_grammar.specs.Reads.{leaf as leaf_production}
use Rattle.c_grammar.specs.Words.{word_inline, word_static}
use Rattle.c_consts.specs.Core.{kind_of}
use Rattle.core_tree.specs.declared.node.NodeKind.TheVariants.{Initialise}
use Rattle.c_inits.specs.Shapes.{Path}
use Rattle.c_inits.specs.Made.{shape_for}
use Rattle.c_inits.specs.Initial.{Outcome, Places, NoPlace, lasting}
use Rattle.c_inits.specs.View as view
use Rattle.pta_base.specs.declared.place.Place.{Place}
use Rattle.c_senses.specs.Tree.{Source, is_a, child_of, parent_of}
use Rattle.c_senses.specs.Given.{Given, Fits, given_if}
use Rattle.c_senses.specs.World.{World, has_size}
use Rattle.c_senses.specs.Constants.{constant_in}
use Rattle.c_senses.specs.Declarators.{is_outermost, base_type, derived, adjusted, plain_declarator_row, derives_well, derivations, name_in}
use Rattle.c_senses.specs.Entities.{with_length, length_seen, named_row, parameter_named, initialiser_of, words_go, is_same_again, has_one_linkage, internal_fits, is_name_complete, definition_row, is_void_type, result_of, has_function_word, has_storage, is_defined, entity_of, is_static_object}
use Rattle.c_senses.specs.Initialised.{outcome_of, most_elements, seen, made_of, placed_cores, new_length, object_initialiser, with_seen, initialised_as, initialised_fits}
use Rattle.c_senses.specs.Places.{own_place}
use Rattle.c_senses.specs.Statements.{assert_row}
use Rattle.c_senses.specs.Sense.{Sense, Nothing, IsDeclarator, IsSpecified, IsRun, IsInitial}
use Rattle.c_senses.specs.Rows.{at_its_name, declarator_row, row_of}
use Rattle.core_node_laws.specs.standing_laws.PassedOn.{Gives}
use Rattle.core_node_laws.proofs.standing_laws.PassedOn.{then_gives, if_given, some_given, if_holds}
use Rattle.core_node_laws.proofs.standing_laws.PassedOn.{anything}

-- a declarator at its name, where it fits, gives what it gave before
module _ (P : Sense → Type 0) (w : World) (s : Source) (sense : ℕ → Sense) where
  defined_gives : (t : Ctype) (leaf : ℕ) (g : Given Sense) → Gives P g → Gives P (definition_row w s sense t leaf g)
  defined_gives t leaf g h =
      let second : Given Sense = given_if (not (has_function_word s sense word_inline leaf && not (has_storage s sense word_static leaf))) InlineDefinition leaf g in
      let complete : Bool = is_void_type w s sense (result_of w s sense t) || has_size w (result_of w s sense t) in
      if_holds (Gives P) (is_defined s sense leaf) (given_if complete Operand leaf second) g
      (λ e.
      if_given P complete Operand leaf second
      (λ e.
      if_given P (not (has_function_word s sense word_inline leaf && not (has_storage s sense word_static leaf))) InlineDefinition leaf g (λ e. h))) (λ e. h)

  named_gives : (at leaf : ℕ) (t : Ctype) (g : Given Sense) → Gives P g → Gives P (named_row w s sense at leaf t g)
  named_gives at leaf t g h =
      let initialised : Bool = is_some (initialiser_of s sense at) in
      let fifth : Given Sense = given_if (is_name_complete w s sense initialised t leaf) Operand leaf (definition_row w s sense t leaf g) in
      let fourth : Given Sense = given_if (internal_fits w s sense (initialised || is_defined s sense leaf) t leaf) Operand leaf fifth in
      let third : Given Sense = given_if (has_one_linkage w s sense leaf) Operand leaf fourth in
      let second : Given Sense = given_if (is_same_again w s sense t leaf) Operand leaf third in
      if_given P (words_go w s sense initialised leaf) Operand leaf second
      (λ e. if_given P (is_same_again w s sense t leaf) Operand leaf third
      (λ e. if_given P (has_one_linkage w s sense leaf) Operand leaf fourth
      (λ e. if_given P (internal_fits w s sense (initialised || is_defined s sense leaf) t leaf) Operand leaf fifth
      (λ e. if_given P (is_name_complete w s sense initialised t leaf) Operand leaf (definition_row w s sense t leaf g) (λ e. defined_gives t leaf g h)))))

  placed_gives : (at leaf : ℕ) (t a : Ctype) (g : Given Sense) → Gives P g → (o : Option ℕ)
      → Gives P (elim o as (λ _. Given Sense) [ None ↦ g | Some p ↦ if is_a s p_field p then g else (if is_a s p_parameter p then parameter_named w s sense at leaf a g else named_row w s sense at leaf t g) ])
  placed_gives at leaf t a g h None = h
  placed_gives at leaf t a g h (Some p) =
      if_holds (Gives P) (is_a s p_field p) g _ (λ e. h) (λ e. if_holds (Gives P) (is_a s p_parameter p) _ _ (λ e. if_given P _ Operand leaf g (λ e. h)) (λ e. named_gives at leaf t g h))

  pub at_name_gives : (at : ℕ) (g : Given Sense) (o : Option Ctype) (x : Sense) → Gives P g → Gives P (at_its_name w s sense at g o x)
  at_name_gives at g (Some base) (IsDeclarator (Some leaf) ds) h =
      if_holds (Gives P) (is_outermost s at) _ g (λ e. placed_gives at leaf (derived ds base) (adjusted (derived ds base)) g h (parent_of s at)) (λ e. h)
  at_name_gives at g o x h = h

  -- a declarator has its name and what it derives
  pub declarator_gives : (at : ℕ) (children : List ℕ) → P (IsDeclarator (name_in w s sense children) (derivations w s sense children)) → Gives P (declarator_row w s sense at children)
  declarator_gives at children h =
      then_gives P P (plain_declarator_row w s sense at children) (λ x. at_its_name w s sense at (Fits x) (base_type w s sense at) x)
      (if_given P (derives_well w s sense at (derivations w s sense children)) Operand at (Fits (IsDeclarator (name_in w s sense children) (derivations w s sense children))) (λ e. h))
      (λ x k. at_name_gives at (Fits x) (base_type w s sense at) x k)

-- neither what runs nor an initialiser
abbrev pub IsPlain : Sense → Type 0
IsPlain (IsRun cores) = ⊥
IsPlain (IsInitial c n) = ⊥
IsPlain x = ⊤

module _ (w : World) (s : Source) (sense : ℕ → Sense) where
  assert_plain : (at : ℕ) → Gives IsPlain (assert_row w s sense at)
  assert_plain at =
      some_given IsPlain (child_of s p_conditional at) Operand at _
      (λ c e. then_gives (λ n. ⊤) IsPlain (constant_in w s at (sense c)) _ (anything (constant_in w s at (sense c))) (λ n k. if_given IsPlain _ Operand at (Fits Nothing) (λ e. tt)))

  pub plain_leaf : (at : ℕ) (children : List ℕ) → Gives IsPlain (row_of w s sense leaf_production at children)
  plain_leaf at children = tt

  pub plain_asm : (at : ℕ) (children : List ℕ) → Gives IsPlain (row_of w s sense 5 at children)
  plain_asm at children = tt

  pub plain_assert : (at : ℕ) (children : List ℕ) → Gives IsPlain (row_of w s sense 4 at children)
  plain_assert at children = assert_plain at

  pub plain_specs : (at : ℕ) (children : List ℕ) → Gives IsPlain (row_of w s sense 6 at children)
  plain_specs at children = if_given IsPlain _ Operand at (Fits (IsSpecified _)) (λ e. tt)

  pub plain_declarator : (at : ℕ) (children : List ℕ) → Gives IsPlain (row_of w s sense 19 at children)
  plain_declarator at children = declarator_gives IsPlain w s sense at children tt

  -- an object's initialiser
  abbrev pub Initialises : ℕ → Sense → Type 0
  Initialises entity (IsInitial c n) = (paths : List Path) × (kind_of c ≡ Initialise entity paths)
  Initialises entity x = ⊥

  made_gives : (static : Bool) (entity : ℕ) (place : Place) (t : Ctype) (o : Outcome) → Gives (λ m. (paths : List Path) × (kind_of m.initial ≡ Initialise entity paths)) (made_of w s sense static entity place t o)
  made_gives static entity place t (NoPlace node) = tt
  made_gives static entity place t (Places actions) =
      then_gives (λ x. ⊤) (λ m. (paths : List Path) × (kind_of m.initial ≡ Initialise entity paths)) (placed_cores w s sense static (with_length (new_length w s sense t actions) t) (lasting [] actions)) _ (anything _) (λ values k. (_, refl))

  object_gives : (at declarator leaf : ℕ) (t : Ctype) → Gives (Initialises (entity_of s sense leaf)) (object_initialiser w s sense at declarator leaf t)
  object_gives at declarator leaf t =
      then_gives (λ x. ⊤) (Initialises (entity_of s sense leaf)) (outcome_of w s sense at (shape_for w.fillable most_elements t) (view.init_at (seen w s sense) s.nodes at)) _ (anything _)
      (λ outcome k.
      then_gives (λ m. (paths : List Path) × (kind_of m.initial ≡ Initialise (entity_of s sense leaf) paths)) (Initialises (entity_of s sense leaf)) (made_of w s sense (is_static_object s sense leaf) (entity_of s sense leaf) (own_place s at) t outcome) _
      (made_gives (is_static_object s sense leaf) (entity_of s sense leaf) (own_place s at) t outcome)
      (λ m h. if_given (Initialises (entity_of s sense leaf)) (initialised_fits w s sense (with_length m.length t) leaf) Operand leaf (Fits (IsInitial m.initial m.length)) (λ e. h)))

  -- whose length was seen before: the same tree
  seen_initialises : (entity : ℕ) (n : Option ℕ) (x : Sense) → Initialises entity x → Initialises entity (with_seen n x)
  seen_initialises entity n (IsInitial c None) h = h
  seen_initialises entity n x h = h

  pub as_gives : (at declarator leaf : ℕ) (t : Ctype) → Gives (Initialises (entity_of s sense leaf)) (initialised_as w s sense at declarator leaf t)
  as_gives at declarator leaf t =
      let n : Option ℕ = length_seen s sense leaf in
      then_gives (Initialises (entity_of s sense leaf)) (Initialises (entity_of s sense leaf)) (object_initialiser w s sense at declarator leaf (with_length n t)) (λ x. Fits (with_seen n x)) (object_gives at declarator leaf (with_length n t))
      (λ x h. seen_initialises (entity_of s sense leaf) n x h)
