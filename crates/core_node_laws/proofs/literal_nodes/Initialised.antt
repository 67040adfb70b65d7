-- The places of initialisers and compound literals.
use Rattle.std.proofs.Common.{◌≡◌, ℕ, Bool, true, false, ◌&&◌, ◌||◌, not, List, [], ◌∷◌, Option, Some, None}
use Rattle.std.specs.Prelude.{⊤, if◌then◌else◌}
use Rattle.pta_base.specs.declared.kind.Kind.TheVariants.{Operand}
use Rattle.pta_base.specs.declared.place.Place.{Place}
use Rattle.c_types.specs.Trees.{Ctype, VoidType}
use Rattle.core_tree.specs.declared.node.NodeKind.TheVariants.{Initialise}
use Rattle.c_grammar.specs.Productions.{p_rest, p_type_name, p_conditional, p_cast, p_unary}
use Rattle.c_grammar.specs.Words.{sign_left_bracket}
use Rattle.c_consts.specs.Core.{Core, Cores, Of, MoreCores}
use Rattle.c_inits.specs.Made.{shape_for}
use Rattle.c_inits.specs.Shapes.{Path}
use Rattle.c_inits.specs.Initial.{Outcome, Places, NoPlace, Placed, lasting}
use Rattle.c_inits.specs.View as view
use Rattle.core_nodes.specs.passed.c_senses.Tree.{Source, is_a, has_sign, place_at, child_of}
use Rattle.core_nodes.specs.passed.c_senses.Given.{Given, Fits, ◌>>=◌}
use Rattle.core_nodes.specs.passed.c_senses.World.{World}
use Rattle.core_nodes.specs.passed.c_senses.Conversions.{conversion, typed}
use Rattle.core_nodes.specs.passed.c_senses.Constants.{constant_in}
use Rattle.core_nodes.specs.passed.c_senses.Limits.{within_limits}
use Rattle.core_nodes.specs.passed.c_senses.Places.{own_place}
use Rattle.core_nodes.specs.passed.c_senses.Entities.{with_length, length_seen, entity_of, is_static_object, is_in_static, derived_type, specified_of, initialised_by}
use Rattle.core_nodes.specs.passed.c_senses.Sense.{Sense, Nothing, IsCore, IsInitial, value_in}
use Rattle.core_nodes.specs.passed.c_senses.Initialised.{paths_of, is_fixed, type_along, expression_of, character_core, expression_core, is_automatic, fixed_or, placed_core, placed_cores, new_length, Made, made_of, most_elements, seen, outcome_of, object_initialiser, with_seen, initialised_as, initialised_object, name_of_declarator, init_in, opening, brace, braced, is_in_body, literal_core, literal_of, literal_type, literal_in, designator_row}
use Rattle.core_node_laws.specs.literal_nodes.Holding.{OfSense, Holds, AllHold, RowGives, IsFixedIf, AreFixedIf}
use Rattle.core_node_laws.proofs.literal_nodes.Giving.{Gives, then_gives, after, if_given, if_told, some_given, if_holds, if_says}
use Rattle.core_node_laws.proofs.literal_nodes.Values.{place_kept, conversion_kept, typed_kept}
use Rattle.core_node_laws.proofs.literal_nodes.Expressions.{as_sense_kept, value_in_kept}

pub own_unit : (s : Source) (i : ℕ) → ⊤
own_unit s i = tt

-- a value that has passed the test
fixed_by : (static fixed : Bool) → (not static || fixed) ≡ true → static ≡ true → fixed ≡ true
fixed_by true fixed h e = h
fixed_by false fixed h e = cc

module _ (asks : Core → Type 0) (w : World) (s : Source) (sense : ℕ → Sense) (gives : RowGives asks w s sense) (each : (i : ℕ) → OfSense asks (sense i)) where
  expression_sense : (o : Option ℕ) → OfSense asks (elim o as (λ _. Sense) [ None ↦ Nothing | Some c ↦ sense c ])
  expression_sense None = tt
  expression_sense (Some c) = each c

  expression_core_kept : (init : ℕ) (t : Ctype) → Gives (Holds asks) (expression_core w s sense init t)
  expression_core_kept init t =
      then_gives (Holds asks) (Holds asks) (value_in w init (expression_of w s sense init)) (λ v. conversion w false init v t) (value_in_kept asks w init (expression_of w s sense init) (expression_sense _))
      (λ v h. conversion_kept asks w false init v t h)

  character_kept : (x : Sense) (t : Ctype) (k : ℕ) → OfSense asks x → Gives (Holds asks) (character_core w s sense x t k)
  character_kept (IsCore c) t k h = (place_kept asks c h, tt)
  character_kept x t k h = tt

  value_placed : (o : Option ℕ) (node : ℕ) (t : Ctype) → Gives (Holds asks) (elim o as (λ _. Given Core) [ None ↦ expression_core w s sense node t | Some k ↦ character_core w s sense (expression_of w s sense node) t k ])
  value_placed None node t = expression_core_kept node t
  value_placed (Some k) node t = character_kept (expression_of w s sense node) t k (expression_sense _)

  abbrev IsPlacedValue : Bool → Core → Type 0
  IsPlacedValue static c = Holds asks c × IsFixedIf w s sense static c

  abbrev ArePlacedValues : Bool → Cores → Type 0
  ArePlacedValues static cs = AllHold asks cs × AreFixedIf w s sense static cs

  placed_kept : (static : Bool) (p : Placed) (t : Ctype) → Gives (IsPlacedValue static) (placed_core w s sense static p t)
  placed_kept static p t =
      then_gives (Holds asks) (IsPlacedValue static) _ (fixed_or w s sense static p.node) (value_placed p.character p.node t)
      (λ c h. if_told (IsPlacedValue static) (not static || is_fixed (is_automatic w s sense) c) Operand p.node (Fits c) (λ told. (h, fixed_by static (is_fixed (is_automatic w s sense) c) told)))

  placed_all : (static : Bool) (t : Ctype) (list : List Placed) → Gives (ArePlacedValues static) (placed_cores w s sense static t list)
  placed_all static t [] = (tt, tt)
  placed_all static t (p ∷ rest) =
      some_given (ArePlacedValues static) (type_along w (Some t) p.path) Operand p.node (λ type. placed_core w s sense static p type >>= (λ c. placed_cores w s sense static t rest >>= (λ more. Fits (MoreCores c more))))
      (λ type.
      then_gives (IsPlacedValue static) (ArePlacedValues static) (placed_core w s sense static p type) (λ c. placed_cores w s sense static t rest >>= (λ more. Fits (MoreCores c more))) (placed_kept static p type)
      (λ c h. then_gives (ArePlacedValues static) (ArePlacedValues static) (placed_cores w s sense static t rest) (λ more. Fits (MoreCores c more)) (placed_all static t rest) (λ more k. ((h.0, k.0), (h.1, k.1)))))

  MadeOf : Made w s sense → Type 0
  MadeOf m = Holds asks m.initial

  made_kept : (static : Bool) (entity : ℕ) (place : Place) (t : Ctype) (outcome : Outcome)
      → ((paths : List Path) (values : Cores) → AreFixedIf w s sense static values → asks (Of (Initialise entity paths) place VoidType values)) → Gives MadeOf (made_of w s sense static entity place t outcome)
  unfolding MadeOf
  made_kept static entity place t (NoPlace node) p = tt
  made_kept static entity place t (Places actions) p =
      let whole : Ctype = with_length (new_length w s sense t actions) t in
      then_gives (ArePlacedValues static) MadeOf (placed_cores w s sense static whole (lasting [] actions)) _ (placed_all static whole (lasting [] actions)) (λ values h. (p (paths_of w s sense (lasting [] actions)) values h.1, h.0))

  object_kept : (at declarator leaf : ℕ) (t : Ctype) → Gives (OfSense asks) (object_initialiser w s sense at declarator leaf t)
  unfolding MadeOf
  object_kept at declarator leaf t =
      after (OfSense asks) (outcome_of w s sense at (shape_for w.fillable most_elements t) (view.init_at (seen w s sense) s.nodes at)) _
      (λ outcome.
      then_gives MadeOf (OfSense asks) (made_of w s sense (is_static_object s sense leaf) (entity_of s sense leaf) (own_place s at) t outcome) _
      (made_kept (is_static_object s sense leaf) (entity_of s sense leaf) (own_place s at) t outcome (gives.objects leaf at))
      (λ m h. if_given (OfSense asks) _ Operand leaf (Fits (IsInitial m.initial m.length)) h))

  literal_kept : (at p : ℕ) (t : Ctype) → (is_a s p_cast p || is_a s p_unary p) ≡ true → Gives (Holds asks) (literal_of w s sense at p t)
  unfolding MadeOf
  literal_kept at p t over =
      after (Holds asks) (outcome_of w s sense (brace w s sense p) (shape_for w.fillable most_elements t) (braced w s sense (brace w s sense p) (view.items_at (seen w s sense) s.nodes at))) _
      (λ outcome.
      then_gives MadeOf (Holds asks) (made_of w s sense (not (is_in_body w s sense at)) (opening w s sense p) (place_at s (brace w s sense p)) t outcome) _
      (made_kept (not (is_in_body w s sense at)) (opening w s sense p) (place_at s (brace w s sense p)) t outcome (λ paths values fixed. gives.initials at p paths values over fixed))
      (λ m h.
      if_given (Holds asks) (within_limits w (with_length m.length t) && not (is_in_body w s sense at && is_in_static s sense at)) Operand (opening w s sense p) (Fits (literal_core w s sense p t m))
      (gives.literals p (with_length m.length t) m.initial over, (h, tt))))

  pub designator_kept : (at : ℕ) (children : List ℕ) → Gives (OfSense asks) (designator_row w s sense at children)
  designator_kept at [] = tt
  designator_kept at (first ∷ rest) =
      if_holds (Gives (OfSense asks)) (has_sign s sign_left_bracket first) _ (Fits Nothing)
      (some_given (OfSense asks) (child_of s p_conditional at) Operand at _ (λ c. after (OfSense asks) (constant_in w s at (sense c)) _ (λ n. tt))) tt

  -- whose length was seen before: the same tree
  seen_kept : (n : Option ℕ) (x : Sense) → OfSense asks x → OfSense asks (with_seen n x)
  seen_kept n (IsInitial c None) h = h
  seen_kept n x h = h

  as_kept : (at declarator leaf : ℕ) (t : Ctype) → Gives (OfSense asks) (initialised_as w s sense at declarator leaf t)
  as_kept at declarator leaf t =
      let n : Option ℕ = length_seen s sense leaf in
      then_gives (OfSense asks) (OfSense asks) (object_initialiser w s sense at declarator leaf (with_length n t)) (λ x. Fits (with_seen n x)) (object_kept at declarator leaf (with_length n t)) (λ x h. seen_kept n x h)

  initialised_kept : (at declarator : ℕ) (o : Option ℕ) → Gives (OfSense asks) (initialised_object w s sense at declarator o)
  initialised_kept at declarator None = tt
  initialised_kept at declarator (Some leaf) =
      some_given (OfSense asks) (derived_type s sense (specified_of s sense leaf) (Some declarator)) Operand at (initialised_as w s sense at declarator leaf) (λ t. as_kept at declarator leaf t)

  init_in_kept : (at : ℕ) (o : Option ℕ) → Gives (OfSense asks) (init_in w s sense at o)
  init_in_kept at None = tt
  init_in_kept at (Some declarator) = initialised_kept at declarator (name_of_declarator w s sense (sense declarator))

  pub init_kept : (at : ℕ) (o : Option ℕ) → Gives (OfSense asks) (elim o as (λ _. Given Sense) [ None ↦ Fits Nothing | Some p ↦ if is_a s p_rest p then init_in w s sense at (initialised_by s sense at) else Fits Nothing ])
  init_kept at None = tt
  init_kept at (Some p) = if_holds (Gives (OfSense asks)) (is_a s p_rest p) _ (Fits Nothing) (init_in_kept at (initialised_by s sense at)) tt

  literal_in_kept : (at p : ℕ) (o : Option ℕ) → (is_a s p_cast p || is_a s p_unary p) ≡ true → Gives (OfSense asks) (literal_in w s sense at p o)
  literal_in_kept at p None over = tt
  literal_in_kept at p (Some t) over =
      as_sense_kept asks w (literal_type w s sense at (sense t) >>= (λ type. typed (opening w s sense p) type (literal_of w s sense at p type)))
      (after (Holds asks) (literal_type w s sense at (sense t)) (λ type. typed (opening w s sense p) type (literal_of w s sense at p type))
      (λ type. typed_kept asks (opening w s sense p) type (literal_of w s sense at p type) (literal_kept at p type over)))

  pub items_kept : (at : ℕ) (o : Option ℕ) → Gives (OfSense asks) (elim o as (λ _. Given Sense) [ None ↦ Fits Nothing | Some p ↦ if is_a s p_cast p || is_a s p_unary p then literal_in w s sense at p (child_of s p_type_name p) else Fits Nothing ])
  items_kept at None = tt
  items_kept at (Some p) = if_says (Gives (OfSense asks)) (is_a s p_cast p || is_a s p_unary p) _ (Fits Nothing) (λ over. literal_in_kept at p (child_of s p_type_name p) over) tt
