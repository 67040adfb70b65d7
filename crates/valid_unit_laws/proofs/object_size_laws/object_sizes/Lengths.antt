-- The length that an initialiser gives an array without one, within the limits.
use Rattle.std.proofs.Common.{arith, ◌≡◌, ◌<◌, ◌≤◌, ℕ, Bool, true, List, [], length, Option, Some, None, refl, sym, ap, ◌∙◌}
use Rattle.std.specs.Prelude.{⊤, if◌then◌else◌}
use Rattle.pta_base.specs.declared.kind.Kind.TheVariants.{Operand}
use Rattle.pta_base.specs.declared.place.Place.{Place}
use Rattle.c_types.specs.Trees.{Ctype, ArrayOf}
use Rattle.c_grammar.specs.Productions.{p_rest, p_init}
use Rattle.c_consts.specs.Core.{Core}
use Rattle.c_inits.specs.Made.{shape_for}
use Rattle.c_inits.specs.Initial.{Outcome, Places, NoPlace, length_given, lasting}
use Rattle.c_inits.specs.View as view
use Rattle.c_senses.specs.Tree.{Source, is_a, parent_of}
use Rattle.c_senses.specs.Given.{Given, Fits, ◌>>=◌, given_some}
use Rattle.c_senses.specs.World.{World}
use Rattle.c_senses.specs.Limits.{within_limits}
use Rattle.c_senses.specs.Declarators.{derived, outermost_of}
use Rattle.c_senses.specs.Entities.{with_length, length_seen, internal_agrees, specified_of, derived_type, initialised_by, entity_of, is_static_object}
use Rattle.c_senses.specs.Initialised.{new_length, most_elements, seen, outcome_of, name_of_declarator, made_of, placed_cores, object_initialiser, with_seen, initialised_as, initialised_object, init_in, initialised_fits}
use Rattle.c_senses.specs.Places.{own_place}
use Rattle.c_senses.specs.Sense.{Sense, Nothing, IsDeclarator, IsInitial, Derivation, Specified, sense_in}
use Rattle.c_senses.specs.Rows.{AreSenses}
use Rattle.parsed_tree_laws.specs.sense_laws.Sound.{Gives}
use Rattle.parsed_tree_laws.proofs.sense_laws.Giving.{then_gives, if_given, and_left}
use Rattle.parsed_tree_laws.proofs.sense_laws.Types.{anything}
use Rattle.core_node_laws.proofs.built_unit_laws.run_laws.Times.{known_at, world_of, told_before, known, row_as, fitted}

-- what an array's initialiser is
module _ (w : World) (s : Source) (f : ℕ → Sense) (of : Ctype) where
  abbrev pub HasLength : Sense → Type 0
  HasLength x = (c : Core) × (n : ℕ) × (x ≡ IsInitial c (Some n)) × (within_limits w (ArrayOf of (Some n)) ≡ true)

  abbrev open_array : Ctype
  open_array = ArrayOf of None

  made_length : (static : Bool) (entity : ℕ) (place : Place) (o : Outcome) → Gives (λ m. (n : ℕ) × (m.length ≡ Some n)) (made_of w s f static entity place open_array o)
  made_length static entity place (NoPlace node) = tt
  made_length static entity place (Places actions) =
      then_gives (λ x. ⊤) (λ m. (n : ℕ) × (m.length ≡ Some n)) (placed_cores w s f static (with_length (new_length w s f open_array actions) open_array) (lasting [] actions)) _ (anything _) (λ values k. (length_given actions, refl))

  object_length : (at declarator leaf : ℕ) → Gives HasLength (object_initialiser w s f at declarator leaf open_array)
  object_length at declarator leaf =
      then_gives (λ o. ⊤) HasLength (outcome_of w s f at (shape_for w.fillable most_elements open_array) (view.init_at (seen w s f) s.nodes at)) _ (anything _)
      (λ o k.
      then_gives (λ m. (n : ℕ) × (m.length ≡ Some n)) HasLength (made_of w s f (is_static_object s f leaf) (entity_of s f leaf) (own_place s at) open_array o) _ (made_length (is_static_object s f leaf) (entity_of s f leaf) (own_place s at) o)
      (λ m h.
      if_given HasLength (initialised_fits w s f (with_length m.length open_array) leaf) Operand leaf (Fits (IsInitial m.initial m.length))
      (λ small.
      let limited : within_limits w (with_length m.length open_array) ≡ true = and_left (within_limits w (with_length m.length open_array)) (internal_agrees w s f (with_length m.length open_array) leaf) small in
      (m.initial, h.0, ap (IsInitial m.initial) h.1, ap (λ (l : Option ℕ). within_limits w (with_length l open_array)) (sym h.1) ∙ limited))))

  -- one whose length was seen before keeps it
  abbrev IsClosed : ℕ → Sense → Type 0
  IsClosed k x = (c : Core) × (x ≡ IsInitial c None) × (within_limits w (ArrayOf of (Some k)) ≡ true)

  closed_made : (k : ℕ) (static : Bool) (entity : ℕ) (place : Place) (o : Outcome) → Gives (λ m. m.length ≡ None) (made_of w s f static entity place (ArrayOf of (Some k)) o)
  closed_made k static entity place (NoPlace node) = tt
  closed_made k static entity place (Places actions) =
      let whole : Ctype = ArrayOf of (Some k) in
      then_gives (λ x. ⊤) (λ m. m.length ≡ None) (placed_cores w s f static (with_length (new_length w s f whole actions) whole) (lasting [] actions)) _ (anything _) (λ values h. refl)

  closed_length : (k at declarator leaf : ℕ) → Gives (IsClosed k) (object_initialiser w s f at declarator leaf (ArrayOf of (Some k)))
  closed_length k at declarator leaf =
      let whole : Ctype = ArrayOf of (Some k) in
      then_gives (λ o. ⊤) (IsClosed k) (outcome_of w s f at (shape_for w.fillable most_elements whole) (view.init_at (seen w s f) s.nodes at)) _ (anything _)
      (λ o j.
      then_gives (λ m. m.length ≡ None) (IsClosed k) (made_of w s f (is_static_object s f leaf) (entity_of s f leaf) (own_place s at) whole o) _ (closed_made k (is_static_object s f leaf) (entity_of s f leaf) (own_place s at) o)
      (λ m h.
      if_given (IsClosed k) (initialised_fits w s f (with_length m.length whole) leaf) Operand leaf (Fits (IsInitial m.initial m.length))
      (λ small.
      let limited : within_limits w (with_length m.length whole) ≡ true = and_left (within_limits w (with_length m.length whole)) (internal_agrees w s f (with_length m.length whole) leaf) small in
      (m.initial, ap (IsInitial m.initial) h, ap (λ (l : Option ℕ). within_limits w (with_length l whole)) (sym h) ∙ limited))))

  as_length : (at declarator leaf : ℕ) → Gives HasLength (initialised_as w s f at declarator leaf open_array)
  as_length at declarator leaf = by (length_seen s f leaf)
    where
      by : (n : Option ℕ) → Gives HasLength (object_initialiser w s f at declarator leaf (with_length n open_array) >>= (λ x. Fits (with_seen n x)))
      by None = then_gives HasLength HasLength (object_initialiser w s f at declarator leaf open_array) (λ x. Fits (with_seen None x)) (object_length at declarator leaf) (λ x h. (h.0, h.1, ap (with_seen None) h.2, h.3))
      by (Some k) = then_gives (IsClosed k) HasLength (object_initialiser w s f at declarator leaf (ArrayOf of (Some k))) (λ x. Fits (with_seen (Some k) x)) (closed_length k at declarator leaf) (λ x h. (h.0, k, ap (with_seen (Some k)) h.1, h.2))

module _ (s : Source) (senses : List Sense) (are : AreSenses s senses) (init p m leaf : ℕ) (derives : List Derivation) (words : Specified) (of : Ctype) where
  abbrev W : World
  W = world_of s senses init

  abbrev F : ℕ → Sense
  F = known_at s senses init

  abbrev row_by : Option ℕ → Given Sense
  row_by name = initialised_object W s F init m name

  -- the initialiser of that declarator
  module _ (lt : init < length senses) (is : is_a s p_init init ≡ true) (parent : parent_of s init ≡ Some p) (rest : is_a s p_rest p ≡ true) (by_it : initialised_by s F init ≡ Some m) where
    row_is : row_by (name_of_declarator W s F (F m)) ≡ Fits (sense_in senses init)
    row_is =
        let given : Given Sense = init_in W s F init (initialised_by s F init) in
        sym (ap (λ (o : Option ℕ). elim o as (λ _. Given Sense) [ None ↦ Fits Nothing | Some q ↦ if is_a s p_rest q then given else Fits Nothing ]) parent
        ∙ (ap (λ (b : Bool). if b then given else Fits Nothing) rest ∙ ap (init_in W s F init) by_it)) ∙ row_as s senses are p_init init lt is

    -- the declarator is known there
    pub declarator_before : m < init
    declarator_before = told_before s senses init m (F m) refl (λ none. never (ap (λ (x : Sense). row_by (name_of_declarator W s F x)) (sym none) ∙ row_is))
      where
        never : row_by (name_of_declarator W s F Nothing) ≡ Fits (sense_in senses init) → ⊥
        never e = cc

    module _ (sense : sense_in senses m ≡ IsDeclarator (Some leaf) derives) (outer : outermost_of s leaf ≡ Some m) (told : specified_of s (known_at s senses m) leaf ≡ Some words) (array : derived derives words.type ≡ ArrayOf of None)
        (later : (n : ℕ) → m ≤ n → specified_of s (known_at s senses n) leaf ≡ Some words) where
      own : F m ≡ IsDeclarator (Some leaf) derives
      own = known s senses init m declarator_before ∙ sense

      type_is : derived_type s F (specified_of s F leaf) (Some m) ≡ Some (ArrayOf of None)
      type_is =
          let before = declarator_before in
          ap (λ (o : Option Specified). derived_type s F o (Some m)) (later init (omega (arith, before)))
          ∙ (ap (λ (x : Sense). elim x as (λ _. Option Ctype) [ IsDeclarator name ds ↦ Some (derived ds words.type) | _ ↦ None ]) own ∙ ap (λ (t : Ctype). Some t) array)

      pub length_is : HasLength W s F of (sense_in senses init)
      length_is =
          let row : initialised_as W s F init m leaf (ArrayOf of None) ≡ Fits (sense_in senses init) =
          sym (ap (λ (x : Sense). row_by (name_of_declarator W s F x)) own ∙ ap (λ (o : Option Ctype). given_some o Operand init >>= initialised_as W s F init m leaf) type_is) ∙ row_is in
          fitted (HasLength W s F of) (initialised_as W s F init m leaf (ArrayOf of None)) (sense_in senses init) row (as_length W s F of init m leaf)
