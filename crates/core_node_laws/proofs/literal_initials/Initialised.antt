-- The places of initialisers and compound literals.
use Rattle.std.proofs.Common.{◌≡◌, ℕ, Bool, false, ◌&&◌, ◌||◌, not, List, [], ◌∷◌, Option, Some, None, refl, sym, subst}
use Rattle.std.specs.Prelude.{⊤, if◌then◌else◌}
use Rattle.pta_base.specs.declared.kind.Kind.TheVariants.{Operand}
use Rattle.pta_base.specs.declared.place.Place.{Place}
use Rattle.c_types.specs.Trees.{Ctype}
use Rattle.core_tree.specs.declared.node.NodeKind.TheVariants.{Initialise}
use Rattle.c_grammar.specs.Productions.{p_rest, p_type_name, p_conditional, p_cast, p_unary}
use Rattle.c_grammar.specs.Words.{sign_left_bracket}
use Rattle.core_tree.specs.Rows.{InitialisesEntity}
use Rattle.c_consts.specs.Core.{Core, Of, NoCores, MoreCores, kind_of, cores_under}
use Rattle.c_inits.specs.Made.{shape_for}
use Rattle.c_inits.specs.Initial.{Outcome, Places, NoPlace, Placed, lasting}
use Rattle.c_inits.specs.View as view
use Rattle.core_nodes.specs.passed.c_senses.Tree.{Source, is_a, has_sign, place_at, child_of, parent_of}
use Rattle.core_nodes.specs.passed.c_senses.Given.{Given, Fits, ◌>>=◌}
use Rattle.core_nodes.specs.passed.c_senses.World.{World}
use Rattle.core_nodes.specs.passed.c_senses.Conversions.{conversion, typed}
use Rattle.core_nodes.specs.passed.c_senses.Constants.{constant_in}
use Rattle.core_nodes.specs.passed.c_senses.Limits.{within_limits}
use Rattle.core_nodes.specs.passed.c_senses.Places.{own_place}
use Rattle.core_nodes.specs.passed.c_senses.Entities.{with_length, length_seen, entity_of, is_static_object, is_in_static, derived_type, specified_of, initialised_by}
use Rattle.core_nodes.specs.passed.c_senses.Sense.{Sense, Nothing, IsCore, IsInitial, value_in}
use Rattle.core_nodes.specs.passed.c_senses.Initialised.{is_fixed, type_along, expression_of, character_core, expression_core, is_automatic, fixed_or, placed_core, placed_cores, new_length, Made, made_of, most_elements, seen, outcome_of, object_initialiser, with_seen, initialised_as, initialised_object, name_of_declarator, init_in, opening, brace, braced, is_in_body, literal_core, literal_of, literal_type, literal_in, designator_row}
use Rattle.core_node_laws.specs.literal_initials.Holding.{OfSense, Holds, AllHold, InsideHold, ObjectsGive}
use Rattle.core_node_laws.proofs.literal_initials.Giving.{Gives, then_gives, after, if_given, some_given, if_holds, if_says}
use Rattle.core_node_laws.proofs.literal_initials.Values.{place_kept, conversion_kept, typed_kept}
use Rattle.core_node_laws.proofs.literal_initials.Expressions.{as_sense_kept, value_in_kept}

pub own_unit : (s : Source) (i : ℕ) → ⊤
own_unit s i = tt

-- what is inside the one initialiser of a literal
inside_of : (asks : ℕ → Type 0) (c : Core) → AllHold asks (cores_under c) → InsideHold asks (MoreCores c NoCores)
inside_of asks (Of kind place type under) h = (h, tt)

module _ (asks : ℕ → Type 0) (w : World) (s : Source) (sense : ℕ → Sense) (each : (i : ℕ) → OfSense asks (sense i)) where
  expression_sense : (o : Option ℕ) → OfSense asks (elim o as (λ _. Sense) [ None ↦ Nothing | Some c ↦ sense c ])
  expression_sense None = tt
  expression_sense (Some c) = each c

  expression_core_kept : (init : ℕ) (t : Ctype) → Gives (Holds asks) (expression_core w s sense init t)
  expression_core_kept init t =
      then_gives (Holds asks) (Holds asks) (value_in w init (expression_of w s sense init)) (λ v. conversion w false init v t) (value_in_kept asks w init (expression_of w s sense init) (expression_sense _))
      (λ v h. conversion_kept asks w false init v t h)

  character_kept : (x : Sense) (t : Ctype) (k : ℕ) → OfSense asks x → Gives (Holds asks) (character_core w s sense x t k)
  character_kept (IsCore c) t k h = (place_kept asks c h, tt)
  character_kept x t k h = tt

  value_placed : (o : Option ℕ) (node : ℕ) (t : Ctype) → Gives (Holds asks) (elim o as (λ _. Given Core) [ None ↦ expression_core w s sense node t | Some k ↦ character_core w s sense (expression_of w s sense node) t k ])
  value_placed None node t = expression_core_kept node t
  value_placed (Some k) node t = character_kept (expression_of w s sense node) t k (expression_sense _)

  placed_kept : (static : Bool) (p : Placed) (t : Ctype) → Gives (Holds asks) (placed_core w s sense static p t)
  placed_kept static p t =
      then_gives (Holds asks) (Holds asks) _ (fixed_or w s sense static p.node) (value_placed p.character p.node t)
      (λ c h. if_given (Holds asks) (not static || is_fixed (is_automatic w s sense) c) Operand p.node (Fits c) h)

  placed_all : (static : Bool) (t : Ctype) (list : List Placed) → Gives (AllHold asks) (placed_cores w s sense static t list)
  placed_all static t [] = tt
  placed_all static t (p ∷ rest) =
      some_given (AllHold asks) (type_along w (Some t) p.path) Operand p.node (λ type. placed_core w s sense static p type >>= (λ c. placed_cores w s sense static t rest >>= (λ more. Fits (MoreCores c more))))
      (λ type.
      then_gives (Holds asks) (AllHold asks) (placed_core w s sense static p type) (λ c. placed_cores w s sense static t rest >>= (λ more. Fits (MoreCores c more))) (placed_kept static p type)
      (λ c h. then_gives (AllHold asks) (AllHold asks) (placed_cores w s sense static t rest) (λ more. Fits (MoreCores c more)) (placed_all static t rest) (λ more k. (h, k))))

  -- an initialiser of the entity, and what is under it
  MadeOf : ℕ → Made w s sense → Type 0
  MadeOf entity m = InitialisesEntity (kind_of m.initial) entity × AllHold asks (cores_under m.initial)

  made_kept : (static : Bool) (entity : ℕ) (place : Place) (t : Ctype) (outcome : Outcome) → Gives (MadeOf entity) (made_of w s sense static entity place t outcome)
  unfolding MadeOf
  made_kept static entity place t (NoPlace node) = tt
  made_kept static entity place t (Places actions) =
      let whole : Ctype = with_length (new_length w s sense t actions) t in
      then_gives (AllHold asks) (MadeOf entity) (placed_cores w s sense static whole (lasting [] actions)) _ (placed_all static whole (lasting [] actions)) (λ values h. (refl, h))

  -- of an object it is asked
  of_object : (entity : ℕ) (c : Core) → asks entity → InitialisesEntity (kind_of c) entity × AllHold asks (cores_under c) → Holds asks c
  of_object entity (Of (Initialise o paths) place type under) told h = (subst asks (sym h.0) told, h.1)
  of_object entity (Of kind place type under) told h = absurd h.0

  object_kept : (at declarator leaf : ℕ) (t : Ctype) → asks (entity_of s sense leaf) → Gives (OfSense asks) (object_initialiser w s sense at declarator leaf t)
  unfolding MadeOf
  object_kept at declarator leaf t told =
      after (OfSense asks) (outcome_of w s sense at (shape_for w.fillable most_elements t) (view.init_at (seen w s sense) s.nodes at)) _
      (λ outcome.
      then_gives (MadeOf (entity_of s sense leaf)) (OfSense asks) (made_of w s sense (is_static_object s sense leaf) (entity_of s sense leaf) (own_place s at) t outcome) _
      (made_kept (is_static_object s sense leaf) (entity_of s sense leaf) (own_place s at) t outcome)
      (λ m h. if_given (OfSense asks) _ Operand leaf (Fits (IsInitial m.initial m.length)) (of_object (entity_of s sense leaf) m.initial told h)))

  literal_kept : (at p : ℕ) (t : Ctype) → Gives (Holds asks) (literal_of w s sense at p t)
  unfolding MadeOf
  literal_kept at p t =
      after (Holds asks) (outcome_of w s sense (brace w s sense p) (shape_for w.fillable most_elements t) (braced w s sense (brace w s sense p) (view.items_at (seen w s sense) s.nodes at))) _
      (λ outcome.
      then_gives (MadeOf (opening w s sense p)) (Holds asks) (made_of w s sense (not (is_in_body w s sense at)) (opening w s sense p) (place_at s (brace w s sense p)) t outcome) _
      (made_kept (not (is_in_body w s sense at)) (opening w s sense p) (place_at s (brace w s sense p)) t outcome)
      (λ m h.
      if_given (Holds asks) (within_limits w (with_length m.length t) && not (is_in_body w s sense at && is_in_static s sense at)) Operand (opening w s sense p) (Fits (literal_core w s sense p t m))
      (h.0, inside_of asks m.initial h.1)))

  pub designator_kept : (at : ℕ) (children : List ℕ) → Gives (OfSense asks) (designator_row w s sense at children)
  designator_kept at [] = tt
  designator_kept at (first ∷ rest) =
      if_holds (Gives (OfSense asks)) (has_sign s sign_left_bracket first) _ (Fits Nothing)
      (some_given (OfSense asks) (child_of s p_conditional at) Operand at _ (λ c. after (OfSense asks) (constant_in w s at (sense c)) _ (λ n. tt))) tt

  -- whose length was seen before: the same tree
  seen_kept : (n : Option ℕ) (x : Sense) → OfSense asks x → OfSense asks (with_seen n x)
  seen_kept n (IsInitial c None) h = h
  seen_kept n x h = h

  as_kept : (at declarator leaf : ℕ) (t : Ctype) → asks (entity_of s sense leaf) → Gives (OfSense asks) (initialised_as w s sense at declarator leaf t)
  as_kept at declarator leaf t told =
      let n : Option ℕ = length_seen s sense leaf in
      then_gives (OfSense asks) (OfSense asks) (object_initialiser w s sense at declarator leaf (with_length n t)) (λ x. Fits (with_seen n x)) (object_kept at declarator leaf (with_length n t) told) (λ x h. seen_kept n x h)

  initialised_kept : (at declarator : ℕ) (o : Option ℕ) → ((leaf : ℕ) → o ≡ Some leaf → asks (entity_of s sense leaf)) → Gives (OfSense asks) (initialised_object w s sense at declarator o)
  initialised_kept at declarator None own = tt
  initialised_kept at declarator (Some leaf) own =
      some_given (OfSense asks) (derived_type s sense (specified_of s sense leaf) (Some declarator)) Operand at (initialised_as w s sense at declarator leaf) (λ t. as_kept at declarator leaf t (own leaf refl))

  init_in_kept : (at : ℕ) (o : Option ℕ) → ((declarator leaf : ℕ) → o ≡ Some declarator → name_of_declarator w s sense (sense declarator) ≡ Some leaf → asks (entity_of s sense leaf)) → Gives (OfSense asks) (init_in w s sense at o)
  init_in_kept at None own = tt
  init_in_kept at (Some declarator) own = initialised_kept at declarator (name_of_declarator w s sense (sense declarator)) (λ leaf named. own declarator leaf refl named)

  pub init_kept : (at : ℕ) → ObjectsGive asks w s sense at → (o : Option ℕ) → parent_of s at ≡ o
      → Gives (OfSense asks) (elim o as (λ _. Given Sense) [ None ↦ Fits Nothing | Some p ↦ if is_a s p_rest p then init_in w s sense at (initialised_by s sense at) else Fits Nothing ])
  init_kept at own None parent = tt
  init_kept at own (Some p) parent =
      if_says (Gives (OfSense asks)) (is_a s p_rest p) _ (Fits Nothing) (λ rest. init_in_kept at (initialised_by s sense at) (λ declarator leaf by_it named. own p declarator leaf parent rest by_it named)) tt

  literal_in_kept : (at p : ℕ) (o : Option ℕ) → Gives (OfSense asks) (literal_in w s sense at p o)
  literal_in_kept at p None = tt
  literal_in_kept at p (Some t) =
      as_sense_kept asks w (literal_type w s sense at (sense t) >>= (λ type. typed (opening w s sense p) type (literal_of w s sense at p type)))
      (after (Holds asks) (literal_type w s sense at (sense t)) (λ type. typed (opening w s sense p) type (literal_of w s sense at p type))
      (λ type. typed_kept asks (opening w s sense p) type (literal_of w s sense at p type) (literal_kept at p type)))

  pub items_kept : (at : ℕ) (o : Option ℕ) → Gives (OfSense asks) (elim o as (λ _. Given Sense) [ None ↦ Fits Nothing | Some p ↦ if is_a s p_cast p || is_a s p_unary p then literal_in w s sense at p (child_of s p_type_name p) else Fits Nothing ])
  items_kept at None = tt
  items_kept at (Some p) = if_says (Gives (OfSense asks)) (is_a s p_cast p || is_a s p_unary p) _ (Fits Nothing) (λ over. literal_in_kept at p (child_of s p_type_name p)) tt
