-- The nodes of initialisers and compound literals.
use Rattle.std.proofs.Common.{◌≡◌, ℕ, refl, Bool, true, false, ◌&&◌, ◌||◌, not, List, [], ◌∷◌, Option, Some, None}
use Rattle.std.specs.Prelude.{⊤, if◌then◌else◌}
use Rattle.pta_base.specs.declared.kind.Kind.TheVariants.{Operand}
use Rattle.pta_base.specs.declared.place.Place.{Place}
use Rattle.c_types.specs.Trees.{Ctype, VoidType}
use Rattle.core_tree.specs.declared.node.NodeKind.TheVariants.{Initialise}
use Rattle.core_tree.specs.Rows.{Has}
use Rattle.c_grammar.specs.Productions.{p_rest, p_type_name, p_assignment, p_conditional, p_cast, p_unary}
use Rattle.c_grammar.specs.Words.{sign_left_bracket}
use Rattle.c_consts.specs.Core.{Core, Cores, Of, MoreCores}
use Rattle.c_inits.specs.Made.{shape_for}
use Rattle.c_inits.specs.Shapes.{Shape, Path}
use Rattle.c_inits.specs.Syntax.{Init, Items}
use Rattle.c_inits.specs.Initial.{Outcome, Places, NoPlace, Placed, lasting}
use Rattle.c_inits.specs.View as view
use Rattle.core_nodes.specs.passed.c_senses.Tree.{Source, is_a, has_sign, place_at, children_at, child_of, parent_of}
use Rattle.core_nodes.specs.passed.c_senses.Given.{Given, Fits, ◌>>=◌}
use Rattle.core_nodes.specs.passed.c_senses.World.{World}
use Rattle.core_nodes.specs.passed.c_senses.Conversions.{conversion, typed}
use Rattle.core_nodes.specs.passed.c_senses.Constants.{constant_in}
use Rattle.core_nodes.specs.passed.c_senses.Limits.{within_limits}
use Rattle.core_nodes.specs.passed.c_senses.Places.{own_place}
use Rattle.core_nodes.specs.passed.c_senses.Entities.{with_length, length_seen, entity_of, is_static_object, is_in_static, derived_type, specified_of, initialised_by}
use Rattle.core_nodes.specs.passed.c_senses.Sense.{Sense, Nothing, IsCore, IsInitial, value_in}
use Rattle.core_nodes.specs.passed.c_senses.Initialised.{paths_of, is_fixed, type_along, expression_of, character_core, expression_core, is_automatic, fixed_or, placed_core, placed_cores, new_length, Made, made_of, most_elements, seen, outcome_of, object_initialiser, with_seen, initialised_as, initialised_object, name_of_declarator, init_in, opening, brace, braced, is_in_body, literal_core, literal_of, literal_type, literal_in, designator_row}
use Rattle.core_node_laws.specs.near_nodes.Holding.{OfSense, Holds, AllHold, RowGives, IsFixedIf, AreFixedIf}
use Rattle.core_node_laws.proofs.near_nodes.Nearness.{IfNear, all_near, first_near}
use Rattle.core_node_laws.proofs.near_nodes.Inits.{OutcomeNear, AllPlaced, IfValues, IfItems, initial_near, lasting_near, init_near, items_near}
use Rattle.core_node_laws.proofs.near_nodes.Giving.{Gives, then_gives, after, if_given, if_told, some_given, if_holds, if_says}
use Rattle.core_node_laws.proofs.near_nodes.Values.{place_kept, conversion_kept, typed_kept}
use Rattle.core_node_laws.proofs.near_nodes.Expressions.{as_sense_kept, value_in_kept}

pub own_unit : (s : Source) (i : ℕ) → ⊤
own_unit s i = tt

-- a value that has passed the test
fixed_by : (static fixed : Bool) → (not static || fixed) ≡ true → static ≡ true → fixed ≡ true
fixed_by true fixed h e = h
fixed_by false fixed h e = cc

module _ (asks : Core → Type 0) (w : World) (s : Source) (sense : ℕ → Sense) (near : ℕ → Type 0) (down : (i c : ℕ) → Has (children_at s i) c → near i → near c) (each : (c : ℕ) → near c → OfSense s near asks (sense c)) where
  expression_or : (o : Option ℕ) → IfNear near o → OfSense s near asks (elim o as (λ _. Sense) [ None ↦ Nothing | Some c ↦ sense c ])
  expression_or None n = tt
  expression_or (Some c) n = each c n

  expression_sense : (init : ℕ) → near init → OfSense s near asks (expression_of w s sense init)
  expression_sense init n = expression_or (child_of s p_assignment init) (first_near near (is_a s p_assignment) (children_at s init) (all_near near (children_at s init) (λ c h. down init c h n)))

  expression_core_kept : (init : ℕ) (t : Ctype) → near init → Gives (Holds asks) (expression_core w s sense init t)
  expression_core_kept init t n =
      then_gives (Holds asks) (Holds asks) (value_in w init (expression_of w s sense init)) (λ v. conversion w false init v t) (value_in_kept s near asks w init (expression_of w s sense init) (expression_sense init n))
      (λ v h. conversion_kept asks w false init v t h)

  character_kept : (x : Sense) (t : Ctype) (k : ℕ) → OfSense s near asks x → Gives (Holds asks) (character_core w s sense x t k)
  character_kept (IsCore c) t k h = (place_kept asks c h, tt)
  character_kept x t k h = tt

  value_placed : (o : Option ℕ) (node : ℕ) (t : Ctype) → near node → Gives (Holds asks) (elim o as (λ _. Given Core) [ None ↦ expression_core w s sense node t | Some k ↦ character_core w s sense (expression_of w s sense node) t k ])
  value_placed None node t n = expression_core_kept node t n
  value_placed (Some k) node t n = character_kept (expression_of w s sense node) t k (expression_sense node n)

  abbrev IsPlacedValue : Bool → Core → Type 0
  IsPlacedValue static c = Holds asks c × IsFixedIf w s sense static c

  abbrev ArePlacedValues : Bool → Cores → Type 0
  ArePlacedValues static cs = AllHold asks cs × AreFixedIf w s sense static cs

  placed_kept : (static : Bool) (p : Placed) (t : Ctype) → near p.node → Gives (IsPlacedValue static) (placed_core w s sense static p t)
  placed_kept static p t n =
      then_gives (Holds asks) (IsPlacedValue static) _ (fixed_or w s sense static p.node) (value_placed p.character p.node t n)
      (λ c h. if_told (IsPlacedValue static) (not static || is_fixed (is_automatic w s sense) c) Operand p.node (Fits c) (λ told. (h, fixed_by static (is_fixed (is_automatic w s sense) c) told)))

  placed_all : (static : Bool) (t : Ctype) (list : List Placed) → AllPlaced near list → Gives (ArePlacedValues static) (placed_cores w s sense static t list)
  placed_all static t [] n = (tt, tt)
  placed_all static t (p ∷ rest) n =
      some_given (ArePlacedValues static) (type_along w (Some t) p.path) Operand p.node (λ type. placed_core w s sense static p type >>= (λ c. placed_cores w s sense static t rest >>= (λ more. Fits (MoreCores c more))))
      (λ type.
      then_gives (IsPlacedValue static) (ArePlacedValues static) (placed_core w s sense static p type) (λ c. placed_cores w s sense static t rest >>= (λ more. Fits (MoreCores c more))) (placed_kept static p type n.0)
      (λ c h. then_gives (ArePlacedValues static) (ArePlacedValues static) (placed_cores w s sense static t rest) (λ more. Fits (MoreCores c more)) (placed_all static t rest n.1) (λ more k. ((h.0, k.0), (h.1, k.1)))))

  MadeOf : Made w s sense → Type 0
  MadeOf m = Holds asks m.initial

  made_kept : (static : Bool) (entity : ℕ) (place : Place) (t : Ctype) (outcome : Outcome) → OutcomeNear near outcome
      → ((paths : List Path) (values : Cores) → AreFixedIf w s sense static values → asks (Of (Initialise entity paths) place VoidType values)) → Gives MadeOf (made_of w s sense static entity place t outcome)
  unfolding MadeOf
  made_kept static entity place t (NoPlace node) n p = tt
  made_kept static entity place t (Places actions) n p =
      let whole : Ctype = with_length (new_length w s sense t actions) t in
      then_gives (ArePlacedValues static) MadeOf (placed_cores w s sense static whole (lasting [] actions)) _ (placed_all static whole (lasting [] actions) (lasting_near near [] actions tt n)) (λ values h. (p (paths_of w s sense (lasting [] actions)) values h.1, h.0))

  outcome_near : (at : ℕ) (shape : Option Shape) (init : Option Init) → IfValues near init → Gives (OutcomeNear near) (outcome_of w s sense at shape init)
  outcome_near at None init n = tt
  outcome_near at (Some shape) None n = tt
  outcome_near at (Some shape) (Some init) n = initial_near near shape init n

  braced_near : (node : ℕ) (o : Option Items) → IfItems near o → IfValues near (braced w s sense node o)
  braced_near node None n = tt
  braced_near node (Some items) n = n

  pub designator_kept : (at : ℕ) (children : List ℕ) → Gives (OfSense s near asks) (designator_row w s sense at children)
  designator_kept at [] = tt
  designator_kept at (first ∷ rest) =
      if_holds (Gives (OfSense s near asks)) (has_sign s sign_left_bracket first) _ (Fits Nothing)
      (some_given (OfSense s near asks) (child_of s p_conditional at) Operand at _ (λ c. after (OfSense s near asks) (constant_in w s at (sense c)) _ (λ n. tt))) tt

  module _ (at : ℕ) (children : List ℕ) (gives : RowGives asks w s sense at children) (here : near at) where
    object_kept : (declarator leaf : ℕ) (t : Ctype) → initialised_by s sense at ≡ Some declarator → name_of_declarator w s sense (sense declarator) ≡ Some leaf → Gives (OfSense s near asks) (object_initialiser w s sense at declarator leaf t)
    unfolding MadeOf
    object_kept declarator leaf t by named =
        then_gives (OutcomeNear near) (OfSense s near asks) (outcome_of w s sense at (shape_for w.fillable most_elements t) (view.init_at (seen w s sense) s.nodes at)) _
        (outcome_near at (shape_for w.fillable most_elements t) (view.init_at (seen w s sense) s.nodes at) (init_near near (seen w s sense) s.nodes down at here))
        (λ outcome n.
        then_gives MadeOf (OfSense s near asks) (made_of w s sense (is_static_object s sense leaf) (entity_of s sense leaf) (own_place s at) t outcome) _
        (made_kept (is_static_object s sense leaf) (entity_of s sense leaf) (own_place s at) t outcome n (gives.objects declarator leaf by named))
        (λ m h. if_given (OfSense s near asks) _ Operand leaf (Fits (IsInitial m.initial m.length)) h))

    literal_kept : (p : ℕ) (t : Ctype) → parent_of s at ≡ Some p → (is_a s p_cast p || is_a s p_unary p) ≡ true → Gives (Holds asks) (literal_of w s sense at p t)
    unfolding MadeOf
    literal_kept p t up over =
        then_gives (OutcomeNear near) (Holds asks) (outcome_of w s sense (brace w s sense p) (shape_for w.fillable most_elements t) (braced w s sense (brace w s sense p) (view.items_at (seen w s sense) s.nodes at))) _
        (outcome_near (brace w s sense p) (shape_for w.fillable most_elements t) (braced w s sense (brace w s sense p) (view.items_at (seen w s sense) s.nodes at))
        (braced_near (brace w s sense p) (view.items_at (seen w s sense) s.nodes at) (items_near near (seen w s sense) s.nodes down at here)))
        (λ outcome n.
        then_gives MadeOf (Holds asks) (made_of w s sense (not (is_in_body w s sense at)) (opening w s sense p) (place_at s (brace w s sense p)) t outcome) _
        (made_kept (not (is_in_body w s sense at)) (opening w s sense p) (place_at s (brace w s sense p)) t outcome n (λ paths values fixed. gives.initials p up paths values over fixed))
        (λ m h.
        if_given (Holds asks) (within_limits w (with_length m.length t) && not (is_in_body w s sense at && is_in_static s sense at)) Operand (opening w s sense p) (Fits (literal_core w s sense p t m))
        (gives.literals p up (with_length m.length t) m.initial over, (h, tt))))

    -- whose length was seen before: the same tree
    seen_kept : (n : Option ℕ) (x : Sense) → OfSense s near asks x → OfSense s near asks (with_seen n x)
    seen_kept n (IsInitial c None) h = h
    seen_kept n x h = h

    as_kept : (declarator leaf : ℕ) (t : Ctype) → initialised_by s sense at ≡ Some declarator → name_of_declarator w s sense (sense declarator) ≡ Some leaf → Gives (OfSense s near asks) (initialised_as w s sense at declarator leaf t)
    as_kept declarator leaf t by named =
        let n : Option ℕ = length_seen s sense leaf in
        then_gives (OfSense s near asks) (OfSense s near asks) (object_initialiser w s sense at declarator leaf (with_length n t)) (λ x. Fits (with_seen n x)) (object_kept declarator leaf (with_length n t) by named) (λ x h. seen_kept n x h)

    initialised_kept : (declarator : ℕ) (o : Option ℕ) → initialised_by s sense at ≡ Some declarator → name_of_declarator w s sense (sense declarator) ≡ o → Gives (OfSense s near asks) (initialised_object w s sense at declarator o)
    initialised_kept declarator None by named = tt
    initialised_kept declarator (Some leaf) by named =
        some_given (OfSense s near asks) (derived_type s sense (specified_of s sense leaf) (Some declarator)) Operand at (initialised_as w s sense at declarator leaf) (λ t. as_kept declarator leaf t by named)

    init_in_kept : (o : Option ℕ) → initialised_by s sense at ≡ o → Gives (OfSense s near asks) (init_in w s sense at o)
    init_in_kept None by = tt
    init_in_kept (Some declarator) by = initialised_kept declarator (name_of_declarator w s sense (sense declarator)) by refl

    pub init_kept : (o : Option ℕ) → Gives (OfSense s near asks) (elim o as (λ _. Given Sense) [ None ↦ Fits Nothing | Some p ↦ if is_a s p_rest p then init_in w s sense at (initialised_by s sense at) else Fits Nothing ])
    init_kept None = tt
    init_kept (Some p) = if_holds (Gives (OfSense s near asks)) (is_a s p_rest p) _ (Fits Nothing) (init_in_kept (initialised_by s sense at) refl) tt

    literal_in_kept : (p : ℕ) (o : Option ℕ) → parent_of s at ≡ Some p → (is_a s p_cast p || is_a s p_unary p) ≡ true → Gives (OfSense s near asks) (literal_in w s sense at p o)
    literal_in_kept p None up over = tt
    literal_in_kept p (Some t) up over =
        as_sense_kept s near asks w (literal_type w s sense at (sense t) >>= (λ type. typed (opening w s sense p) type (literal_of w s sense at p type)))
        (after (Holds asks) (literal_type w s sense at (sense t)) (λ type. typed (opening w s sense p) type (literal_of w s sense at p type))
        (λ type. typed_kept asks (opening w s sense p) type (literal_of w s sense at p type) (literal_kept p type up over)))

    pub items_kept : (o : Option ℕ) → parent_of s at ≡ o
        → Gives (OfSense s near asks) (elim o as (λ _. Given Sense) [ None ↦ Fits Nothing | Some p ↦ if is_a s p_cast p || is_a s p_unary p then literal_in w s sense at p (child_of s p_type_name p) else Fits Nothing ])
    items_kept None up = tt
    items_kept (Some p) up = if_says (Gives (OfSense s near asks)) (is_a s p_cast p || is_a s p_unary p) _ (Fits Nothing) (λ over. literal_in_kept p (child_of s p_type_name p) up over) tt
