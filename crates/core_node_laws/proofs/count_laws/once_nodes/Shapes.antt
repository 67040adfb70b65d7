-- What the rows of blocks, initialisers and declarators stand for.
use Rattle.std.proofs.Common.{◌≡◌, ℕ, Bool, not, ◌&&◌, ◌||◌, List, [], Option, Some, None, refl}
use Rattle.std.specs.Prelude.{⊤, is_some, if◌then◌else◌}
use Rattle.pta_base.specs.declared.kind.Kind.TheVariants.{Operand, InlineDefinition}
use Rattle.pta_base.specs.declared.place.Place.{Place}
use Rattle.c_types.specs.Trees.{Ctype, VoidType}
use Rattle.core_tree.specs.declared.node.NodeKind.TheVariants.{Block, Initialise}
use Rattle.c_grammar.specs.Productions.{p_block, p_init, p_declarator, p_asm_name, p_rest, p_field, p_parameter}
use Rattle.c_grammar.specs.Reads.{leaf}
use Rattle.c_grammar.specs.Words.{word_inline, word_static}
use Rattle.c_consts.specs.Core.{Core, Of}
use Rattle.c_inits.specs.Made.{shape_for}
use Rattle.c_inits.specs.Initial.{Outcome, Places, NoPlace, lasting}
use Rattle.c_inits.specs.View as view
use Rattle.c_senses.specs.Tree.{Source, is_a, place_at, parent_of}
use Rattle.c_senses.specs.Given.{Given, Fits, given_if}
use Rattle.c_senses.specs.World.{World, has_size}
use Rattle.c_senses.specs.Places.{own_place}
use Rattle.c_senses.specs.Sense.{Sense, Nothing, IsCore, IsDeclarator, IsInitial}
use Rattle.c_senses.specs.Declarators.{is_outermost, base_type, derived, adjusted, plain_declarator_row, derives_well, derivations, name_in}
use Rattle.c_senses.specs.Entities.{with_length, length_seen, entity_of, is_static_object, specified_of, derived_type, initialised_by, named_row, parameter_named, initialiser_of, words_go, is_same_again, has_one_linkage, internal_fits, is_name_complete, definition_row, is_void_type, result_of, has_function_word, has_storage, is_defined}
use Rattle.c_senses.specs.Initialised.{Made, made_of, new_length, placed_cores, most_elements, seen, outcome_of, initialised_fits, object_initialiser, with_seen, initialised_as, initialised_object, name_of_declarator, init_in}
use Rattle.c_senses.specs.Statements.{objects_in, cores_in}
use Rattle.c_senses.specs.Rows.{at_its_name, row_of}
use Rattle.core_node_laws.proofs.count_laws.count_rows.Giving.{Gives, then_gives, after, if_given, some_given, if_holds}

-- nothing, or an initialiser
abbrev pub InitShape : Sense → Type 0
InitShape Nothing = ⊤
InitShape (IsInitial (Of (Initialise e paths) place type under) length) = ⊤
InitShape x = ⊥

-- nothing that may be a body
abbrev pub Bodiless : Sense → Type 0
Bodiless (IsCore c) = ⊥
Bodiless (IsInitial c length) = ⊥
Bodiless x = ⊤

module _ (w : World) (s : Source) (sense : ℕ → Sense) where
  pub leaf_is : (at : ℕ) (children : List ℕ) → row_of w s sense leaf at children ≡ Fits Nothing
  leaf_is at children = refl

  pub asm_is : (at : ℕ) (children : List ℕ) → row_of w s sense p_asm_name at children ≡ Fits Nothing
  asm_is at children = refl

  pub block_is : (at : ℕ) (children : List ℕ) → row_of w s sense p_block at children ≡ Fits (IsCore (Of (Block (objects_in w s sense children)) (place_at s at) VoidType (cores_in w s sense children)))
  block_is at children = refl

  abbrev IsMade : Made w s sense → Type 0
  IsMade made = InitShape (IsInitial made.initial made.length)

  made_shape : (static : Bool) (entity : ℕ) (place : Place) (t : Ctype) (outcome : Outcome) → Gives IsMade (made_of w s sense static entity place t outcome)
  made_shape static entity place t (NoPlace node) = tt
  made_shape static entity place t (Places actions) = after IsMade (placed_cores w s sense static (with_length (new_length w s sense t actions) t) (lasting [] actions)) _ (λ values. tt)

  object_shape : (at declarator leaf : ℕ) (t : Ctype) → Gives InitShape (object_initialiser w s sense at declarator leaf t)
  object_shape at declarator leaf t =
      after InitShape (outcome_of w s sense at (shape_for w.fillable most_elements t) (view.init_at (seen w s sense) s.nodes at)) _
      (λ outcome.
      then_gives IsMade InitShape (made_of w s sense (is_static_object s sense leaf) (entity_of s sense leaf) (own_place s at) t outcome) _ (made_shape (is_static_object s sense leaf) (entity_of s sense leaf) (own_place s at) t outcome)
      (λ made h. if_given InitShape (initialised_fits w s sense (with_length made.length t) leaf) Operand leaf (Fits (IsInitial made.initial made.length)) h))

  -- of whatever length
  any_shape : (c : Core) (m n : Option ℕ) → InitShape (IsInitial c m) → InitShape (IsInitial c n)
  any_shape (Of (Initialise e paths) place type under) m n h = tt
  any_shape (Of kind place type under) m n h = h

  seen_shape : (k : Option ℕ) (x : Sense) → InitShape x → InitShape (with_seen k x)
  seen_shape k (IsInitial c None) h = any_shape c None k h
  seen_shape k x h = h

  initialised_shape : (at declarator : ℕ) (o : Option ℕ) → Gives InitShape (initialised_object w s sense at declarator o)
  initialised_shape at declarator None = tt
  initialised_shape at declarator (Some leaf) =
      some_given InitShape (derived_type s sense (specified_of s sense leaf) (Some declarator)) Operand at (initialised_as w s sense at declarator leaf)
      (λ t.
      let k : Option ℕ = length_seen s sense leaf in
      then_gives InitShape InitShape (object_initialiser w s sense at declarator leaf (with_length k t)) (λ x. Fits (with_seen k x)) (object_shape at declarator leaf (with_length k t)) (λ x h. seen_shape k x h))

  in_shape : (at : ℕ) (o : Option ℕ) → Gives InitShape (init_in w s sense at o)
  in_shape at None = tt
  in_shape at (Some declarator) = initialised_shape at declarator (name_of_declarator w s sense (sense declarator))

  by_parent : (at : ℕ) (o : Option ℕ) → Gives InitShape (elim o as (λ _. Given Sense) [ None ↦ Fits Nothing | Some p ↦ if is_a s p_rest p then init_in w s sense at (initialised_by s sense at) else Fits Nothing ])
  by_parent at None = tt
  by_parent at (Some p) = if_holds (Gives InitShape) (is_a s p_rest p) _ (Fits Nothing) (in_shape at (initialised_by s sense at)) tt

  pub init_shape : (at : ℕ) (children : List ℕ) → Gives InitShape (row_of w s sense p_init at children)
  init_shape at children = by_parent at (parent_of s at)

  -- a declarator
  abbrev G : Given Sense → Type 0
  G g = Gives Bodiless g

  defined_gives : (t : Ctype) (leaf : ℕ) (g : Given Sense) → G g → G (definition_row w s sense t leaf g)
  defined_gives t leaf g h =
      let second : Given Sense = given_if (not (has_function_word s sense word_inline leaf && not (has_storage s sense word_static leaf))) InlineDefinition leaf g in
      let complete : Bool = is_void_type w s sense (result_of w s sense t) || has_size w (result_of w s sense t) in
      if_holds (Gives Bodiless) (is_defined s sense leaf) (given_if complete Operand leaf second) g
      (if_given Bodiless complete Operand leaf second
      (if_given Bodiless (not (has_function_word s sense word_inline leaf && not (has_storage s sense word_static leaf))) InlineDefinition leaf g h)) h

  named_gives : (at leaf : ℕ) (t : Ctype) (g : Given Sense) → G g → G (named_row w s sense at leaf t g)
  named_gives at leaf t g h =
      let initialised : Bool = is_some (initialiser_of s sense at) in
      let fifth : Given Sense = given_if (is_name_complete w s sense initialised t leaf) Operand leaf (definition_row w s sense t leaf g) in
      let fourth : Given Sense = given_if (internal_fits w s sense (initialised || is_defined s sense leaf) t leaf) Operand leaf fifth in
      let third : Given Sense = given_if (has_one_linkage w s sense leaf) Operand leaf fourth in
      let second : Given Sense = given_if (is_same_again w s sense t leaf) Operand leaf third in
      if_given Bodiless (words_go w s sense initialised leaf) Operand leaf second
      (if_given Bodiless (is_same_again w s sense t leaf) Operand leaf third
      (if_given Bodiless (has_one_linkage w s sense leaf) Operand leaf fourth
      (if_given Bodiless (internal_fits w s sense (initialised || is_defined s sense leaf) t leaf) Operand leaf fifth
      (if_given Bodiless (is_name_complete w s sense initialised t leaf) Operand leaf (definition_row w s sense t leaf g) (defined_gives t leaf g h)))))

  placed_gives : (at name : ℕ) (t a : Ctype) (g : Given Sense) → G g → (o : Option ℕ) → G (elim o as (λ _. Given Sense) [ None ↦ g | Some p ↦ if is_a s p_field p then g else (if is_a s p_parameter p then parameter_named w s sense at name a g else named_row w s sense at name t g) ])
  placed_gives at name t a g h None = h
  placed_gives at name t a g h (Some p) =
      if_holds (Gives Bodiless) (is_a s p_field p) g _ h
      (if_holds (Gives Bodiless) (is_a s p_parameter p) _ _ (if_given Bodiless _ Operand name g h) (named_gives at name t g h))

  at_name_gives : (at : ℕ) (g : Given Sense) (o : Option Ctype) (x : Sense) → G g → G (at_its_name w s sense at g o x)
  at_name_gives at g (Some base) (IsDeclarator (Some name) ds) h = if_holds (Gives Bodiless) (is_outermost s at) _ g (placed_gives at name (derived ds base) (adjusted (derived ds base)) g h (parent_of s at)) h
  at_name_gives at g o x h = h

  plain_gives : (at : ℕ) (children : List ℕ) → G (plain_declarator_row w s sense at children)
  plain_gives at children = if_given Bodiless (derives_well w s sense at (derivations w s sense children)) Operand at (Fits (IsDeclarator (name_in w s sense children) (derivations w s sense children))) tt

  pub declarator_shape : (at : ℕ) (children : List ℕ) → G (row_of w s sense p_declarator at children)
  declarator_shape at children =
      then_gives Bodiless Bodiless (plain_declarator_row w s sense at children) (λ x. at_its_name w s sense at (Fits x) (base_type w s sense at) x) (plain_gives at children) (λ x h. at_name_gives at (Fits x) (base_type w s sense at) x h)
