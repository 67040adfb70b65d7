-- The places of initialisers and compound literals.
use Rattle.std.proofs.Common.{◌≡◌, ℕ, zero, suc, Bool, false, ◌&&◌, ◌||◌, not, List, [], ◌∷◌, Option, Some, None}
use Rattle.std.specs.Prelude.{if◌then◌else◌}
use Rattle.pta_base.specs.declared.kind.Kind.TheVariants.{Operand}
use Rattle.pta_base.specs.declared.place.Place.{Place}
use Rattle.c_types.specs.Trees.{Ctype}
use Rattle.c_grammar.specs.Productions.{p_rest, p_type_name, p_conditional, p_cast, p_unary}
use Rattle.c_grammar.specs.Words.{sign_left_bracket}
use Rattle.c_consts.specs.Core.{Core, MoreCores}
use Rattle.c_inits.specs.Made.{shape_for}
use Rattle.c_inits.specs.Initial.{Outcome, Places, NoPlace, Placed, lasting}
use Rattle.c_inits.specs.View as view
use Rattle.c_senses.specs.Tree.{Source, is_a, has_sign, place_at, child_of}
use Rattle.c_senses.specs.Given.{Given, Fits, ◌>>=◌}
use Rattle.c_senses.specs.World.{World}
use Rattle.c_senses.specs.Conversions.{conversion, typed}
use Rattle.c_senses.specs.Constants.{constant_in}
use Rattle.c_senses.specs.Limits.{within_limits}
use Rattle.c_senses.specs.Places.{Own, First, At, OfPart, own_of, own_within, own_place}
use Rattle.c_senses.specs.Entities.{with_length, length_seen, entity_of, is_static_object, is_in_static, derived_type, specified_of, initialised_by}
use Rattle.c_senses.specs.Sense.{Sense, Nothing, IsCore, IsInitial, value_in}
use Rattle.c_senses.specs.Initialised.{is_fixed, type_along, expression_of, character_core, expression_core, is_automatic, fixed_or, placed_core, placed_cores, new_length, Made, made_of, most_elements, seen, outcome_of, object_initialiser, with_seen, initialised_as, initialised_object, name_of_declarator, init_in, opening, brace, braced, is_in_body, literal_core, literal_of, literal_type, literal_in, designator_row}
use Rattle.parsed_tree_laws.specs.reading_laws.numbered_laws.Numbered.{OfUnit, AllOfUnit}
use Rattle.parsed_tree_laws.proofs.reading_laws.numbered_laws.Giving.{Gives, then_gives, after, if_given, some_given, if_holds}
use Rattle.parsed_tree_laws.proofs.reading_laws.numbered_laws.Values.{place_kept, conversion_kept, typed_kept}
use Rattle.parsed_tree_laws.proofs.reading_laws.numbered_laws.Expressions.{OfSense, at_unit, as_sense_kept, value_in_kept}

module _ (s : Source) where
  by_own : (i : ℕ) (f : ℕ → Place) → ((c : ℕ) → (f c).unit ≡ s.unit) → (o : Own) → (elim o as (λ _. Place) [ First ↦ place_at s i | At leaf ↦ place_at s leaf | OfPart c ↦ f c ]).unit ≡ s.unit
  by_own i f h First = at_unit s i
  by_own i f h (At leaf) = at_unit s leaf
  by_own i f h (OfPart c) = h c

  within_unit : (depth i : ℕ) → (own_within s depth i).unit ≡ s.unit
  within_unit zero i = at_unit s i
  within_unit (suc depth) i = by_own i (own_within s depth) (λ c. within_unit depth c) (own_of s i)

  pub own_unit : (i : ℕ) → (own_place s i).unit ≡ s.unit
  own_unit i = within_unit (suc i) i

module _ (w : World) (s : Source) (sense : ℕ → Sense) (each : (i : ℕ) → OfSense s.unit (sense i)) where
  expression_sense : (o : Option ℕ) → OfSense s.unit (elim o as (λ _. Sense) [ None ↦ Nothing | Some c ↦ sense c ])
  expression_sense None = tt
  expression_sense (Some c) = each c

  expression_core_kept : (init : ℕ) (t : Ctype) → Gives (OfUnit s.unit) (expression_core w s sense init t)
  expression_core_kept init t =
      then_gives (OfUnit s.unit) (OfUnit s.unit) (value_in w init (expression_of w s sense init)) (λ v. conversion w false init v t) (value_in_kept s.unit w init (expression_of w s sense init) (expression_sense _))
      (λ v h. conversion_kept s.unit w false init v t h)

  character_kept : (x : Sense) (t : Ctype) (k : ℕ) → OfSense s.unit x → Gives (OfUnit s.unit) (character_core w s sense x t k)
  character_kept (IsCore c) t k h = (place_kept s.unit c h, tt)
  character_kept x t k h = tt

  value_placed : (o : Option ℕ) (node : ℕ) (t : Ctype) → Gives (OfUnit s.unit) (elim o as (λ _. Given Core) [ None ↦ expression_core w s sense node t | Some k ↦ character_core w s sense (expression_of w s sense node) t k ])
  value_placed None node t = expression_core_kept node t
  value_placed (Some k) node t = character_kept (expression_of w s sense node) t k (expression_sense _)

  placed_kept : (static : Bool) (p : Placed) (t : Ctype) → Gives (OfUnit s.unit) (placed_core w s sense static p t)
  placed_kept static p t =
      then_gives (OfUnit s.unit) (OfUnit s.unit) _ (fixed_or w s sense static p.node) (value_placed p.character p.node t)
      (λ c h. if_given (OfUnit s.unit) (not static || is_fixed (is_automatic w s sense) c) Operand p.node (Fits c) h)

  placed_all : (static : Bool) (t : Ctype) (list : List Placed) → Gives (AllOfUnit s.unit) (placed_cores w s sense static t list)
  placed_all static t [] = tt
  placed_all static t (p ∷ rest) =
      some_given (AllOfUnit s.unit) (type_along w (Some t) p.path) Operand p.node (λ type. placed_core w s sense static p type >>= (λ c. placed_cores w s sense static t rest >>= (λ more. Fits (MoreCores c more))))
      (λ type.
      then_gives (OfUnit s.unit) (AllOfUnit s.unit) (placed_core w s sense static p type) (λ c. placed_cores w s sense static t rest >>= (λ more. Fits (MoreCores c more))) (placed_kept static p type)
      (λ c h. then_gives (AllOfUnit s.unit) (AllOfUnit s.unit) (placed_cores w s sense static t rest) (λ more. Fits (MoreCores c more)) (placed_all static t rest) (λ more k. (h, k))))

  MadeOf : Made w s sense → Type 0
  MadeOf m = OfUnit s.unit m.initial

  made_kept : (static : Bool) (entity : ℕ) (place : Place) (t : Ctype) (outcome : Outcome) → place.unit ≡ s.unit → Gives MadeOf (made_of w s sense static entity place t outcome)
  unfolding MadeOf
  made_kept static entity place t (NoPlace node) p = tt
  made_kept static entity place t (Places actions) p =
      let whole : Ctype = with_length (new_length w s sense t actions) t in
      then_gives (AllOfUnit s.unit) MadeOf (placed_cores w s sense static whole (lasting [] actions)) _ (placed_all static whole (lasting [] actions)) (λ values h. (p, h))

  object_kept : (at declarator leaf : ℕ) (t : Ctype) → Gives (OfSense s.unit) (object_initialiser w s sense at declarator leaf t)
  unfolding MadeOf
  object_kept at declarator leaf t =
      after (OfSense s.unit) (outcome_of w s sense at (shape_for w.fillable most_elements t) (view.init_at (seen w s sense) s.nodes at)) _
      (λ outcome.
      then_gives MadeOf (OfSense s.unit) (made_of w s sense (is_static_object s sense leaf) (entity_of s sense leaf) (own_place s at) t outcome) _
      (made_kept (is_static_object s sense leaf) (entity_of s sense leaf) (own_place s at) t outcome (own_unit s at))
      (λ m h. if_given (OfSense s.unit) _ Operand leaf (Fits (IsInitial m.initial m.length)) h))

  literal_kept : (at p : ℕ) (t : Ctype) → Gives (OfUnit s.unit) (literal_of w s sense at p t)
  unfolding MadeOf
  literal_kept at p t =
      after (OfUnit s.unit) (outcome_of w s sense (brace w s sense p) (shape_for w.fillable most_elements t) (braced w s sense (brace w s sense p) (view.items_at (seen w s sense) s.nodes at))) _
      (λ outcome.
      then_gives MadeOf (OfUnit s.unit) (made_of w s sense (not (is_in_body w s sense at)) (opening w s sense p) (place_at s (brace w s sense p)) t outcome) _
      (made_kept (not (is_in_body w s sense at)) (opening w s sense p) (place_at s (brace w s sense p)) t outcome (at_unit s (brace w s sense p)))
      (λ m h.
      if_given (OfUnit s.unit) (within_limits w (with_length m.length t) && not (is_in_body w s sense at && is_in_static s sense at)) Operand (opening w s sense p) (Fits (literal_core w s sense p t m))
      (at_unit s (opening w s sense p), (h, tt))))

  pub designator_kept : (at : ℕ) (children : List ℕ) → Gives (OfSense s.unit) (designator_row w s sense at children)
  designator_kept at [] = tt
  designator_kept at (first ∷ rest) =
      if_holds (Gives (OfSense s.unit)) (has_sign s sign_left_bracket first) _ (Fits Nothing)
      (some_given (OfSense s.unit) (child_of s p_conditional at) Operand at _ (λ c. after (OfSense s.unit) (constant_in w s at (sense c)) _ (λ n. tt))) tt

  -- whose length was seen before: the same tree
  seen_kept : (n : Option ℕ) (x : Sense) → OfSense s.unit x → OfSense s.unit (with_seen n x)
  seen_kept n (IsInitial c None) h = h
  seen_kept n x h = h

  as_kept : (at declarator leaf : ℕ) (t : Ctype) → Gives (OfSense s.unit) (initialised_as w s sense at declarator leaf t)
  as_kept at declarator leaf t =
      let n : Option ℕ = length_seen s sense leaf in
      then_gives (OfSense s.unit) (OfSense s.unit) (object_initialiser w s sense at declarator leaf (with_length n t)) (λ x. Fits (with_seen n x)) (object_kept at declarator leaf (with_length n t)) (λ x h. seen_kept n x h)

  initialised_kept : (at declarator : ℕ) (o : Option ℕ) → Gives (OfSense s.unit) (initialised_object w s sense at declarator o)
  initialised_kept at declarator None = tt
  initialised_kept at declarator (Some leaf) =
      some_given (OfSense s.unit) (derived_type s sense (specified_of s sense leaf) (Some declarator)) Operand at (initialised_as w s sense at declarator leaf) (λ t. as_kept at declarator leaf t)

  init_in_kept : (at : ℕ) (o : Option ℕ) → Gives (OfSense s.unit) (init_in w s sense at o)
  init_in_kept at None = tt
  init_in_kept at (Some declarator) = initialised_kept at declarator (name_of_declarator w s sense (sense declarator))

  pub init_kept : (at : ℕ) (o : Option ℕ) → Gives (OfSense s.unit) (elim o as (λ _. Given Sense) [ None ↦ Fits Nothing | Some p ↦ if is_a s p_rest p then init_in w s sense at (initialised_by s sense at) else Fits Nothing ])
  init_kept at None = tt
  init_kept at (Some p) = if_holds (Gives (OfSense s.unit)) (is_a s p_rest p) _ (Fits Nothing) (init_in_kept at (initialised_by s sense at)) tt

  literal_in_kept : (at p : ℕ) (o : Option ℕ) → Gives (OfSense s.unit) (literal_in w s sense at p o)
  literal_in_kept at p None = tt
  literal_in_kept at p (Some t) =
      as_sense_kept s.unit w (literal_type w s sense at (sense t) >>= (λ type. typed (opening w s sense p) type (literal_of w s sense at p type)))
      (after (OfUnit s.unit) (literal_type w s sense at (sense t)) (λ type. typed (opening w s sense p) type (literal_of w s sense at p type))
      (λ type. typed_kept s.unit (opening w s sense p) type (literal_of w s sense at p type) (literal_kept at p type)))

  pub items_kept : (at : ℕ) (o : Option ℕ) → Gives (OfSense s.unit) (elim o as (λ _. Given Sense) [ None ↦ Fits Nothing | Some p ↦ if is_a s p_cast p || is_a s p_unary p then literal_in w s sense at p (child_of s p_type_name p) else Fits Nothing ])
  items_kept at None = tt
  items_kept at (Some p) = if_holds (Gives (OfSense s.unit)) (is_a s p_cast p || is_a s p_unary p) _ (Fits Nothing) (literal_in_kept at p (child_of s p_type_name p)) tt
