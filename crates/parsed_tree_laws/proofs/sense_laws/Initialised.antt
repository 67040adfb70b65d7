-- Initialisers over sound senses.
use Rattle.std.proofs.Common.{◌≡◌, ℕ, Bool, true, false, ◌&&◌, ◌||◌, not, List, [], ◌∷◌, Option, Some, None, slice_index, refl, sym, ap, ◌∙◌, subst}
use Rattle.std.specs.Prelude.{is_some}
use Rattle.pta_base.specs.declared.kind.Kind.TheVariants.{Operand}
use Rattle.pta_base.specs.declared.place.Place.{Place}
use Rattle.c_types.specs.Trees.{Ctype, ArrayOf}
use Rattle.c_conversions.specs.passed.core_tree.Typed.{IsInteger}
use Rattle.c_senses.specs.passed.c_consts.Core.{Core, Cores, MoreCores, kind_of, leaf}
use Rattle.c_senses.specs.passed.c_inits.Initial.{Outcome, Places, NoPlace, Placed, lasting}
use Rattle.c_senses.specs.Tree.{Source, place_at}
use Rattle.c_senses.specs.Given.{Given, Fits, ◌>>=◌}
use Rattle.c_senses.specs.World.{World}
use Rattle.c_senses.specs.Literals.{char_value}
use Rattle.c_senses.specs.Conversions.{conversion}
use Rattle.c_senses.specs.Entities.{with_length, length_seen, entity_of, is_static_object, is_in_static}
use Rattle.c_senses.specs.Sense.{Sense, Nothing, IsCore, IsInitial, value_in}
use Rattle.c_senses.specs.Initialised.{is_fixed, type_along, expression_of, text_bytes, character_core, expression_core, is_automatic, fixed_or, placed_core, placed_cores, paths_of, new_length, made_of, most_elements, seen, outcome_of, object_initialiser, initialised_as, opening, brace, braced, is_in_body, literal_core, literal_of}
use Rattle.c_conversions.specs.passed.core_tree.Rows.{InitialisesEntity}
use Rattle.c_senses.specs.passed.c_inits.Made.{shape_for}
use Rattle.c_senses.specs.passed.c_inits.View as view
use Rattle.c_senses.specs.Limits.{within_limits}
use Rattle.c_senses.specs.Places.{own_place}
use Rattle.parsed_tree_laws.specs.sense_laws.Sound.{Sound, AllSound, SoundValue, SoundOf, ProperWorld, IsProper, InitialOver, list_of, Gives}
use Rattle.parsed_tree_laws.specs.sense_laws.Senses.{SoundSense, PlacedFit, AllFit, OutcomeFits, IsInitialiser}
use Rattle.parsed_tree_laws.proofs.sense_laws.Giving.{then_gives, if_given, some_given}
use Rattle.parsed_tree_laws.proofs.sense_laws.Conversions.{conversion_sound}
use Rattle.parsed_tree_laws.proofs.sense_laws.Expressions.{value_in_sound}
use Rattle.parsed_tree_laws.proofs.sense_laws.Wrapped.{converted_holds}
use Rattle.parsed_tree_laws.proofs.sense_laws.Seen.{seen_gives}

module _ (w : World) (entities : ℕ → Option Ctype) (world : ProperWorld w) (s : Source) (sense : ℕ → Sense) (sound : (i : ℕ) → SoundSense w entities (sense i)) where
  expression_sense : (o : Option ℕ) → SoundSense w entities (elim o as (λ _. Sense) [ None ↦ Nothing | Some c ↦ sense c ])
  expression_sense None = tt
  expression_sense (Some c) = sound c

  expression_core_sound : (init : ℕ) (t : Ctype) → IsProper t → Gives (SoundOf w entities t) (expression_core w s sense init t)
  expression_core_sound init t proper =
      then_gives (SoundValue w entities) (SoundOf w entities t) (value_in w init (expression_of w s sense init)) (λ v. conversion w false init v t) (value_in_sound w entities world init (expression_of w s sense init) (expression_sense _))
      (λ v h. conversion_sound w entities v h world false init t proper)

  character_core_sound : (x : Sense) (t : Ctype) (k : ℕ) → IsProper t → IsInteger t → Gives (SoundOf w entities t) (character_core w s sense x t k)
  character_core_sound (IsCore c) t k proper whole = ((converted_holds t (char_value (slice_index (text_bytes w s sense (kind_of c)) k)) whole, proper, tt, tt), (refl, refl))
  character_core_sound x t k proper whole = tt

  fixed_sound : (static : Bool) (init : ℕ) (t : Ctype) (c : Core) → SoundOf w entities t c → Gives (SoundOf w entities t) (fixed_or w s sense static init c)
  fixed_sound static init t c h = if_given (SoundOf w entities t) (not static || is_fixed (is_automatic w s sense) c) Operand init (Fits c) (λ fixed. h)

  value_placed : (o : Option ℕ) (node : ℕ) (t : Ctype) → IsProper t → (is_some o ≡ true → IsInteger t) → Gives (SoundOf w entities t) (elim o as (λ _. Given Core) [ None ↦ expression_core w s sense node t | Some k ↦ character_core w s sense (expression_of w s sense node) t k ])
  value_placed None node t proper whole = expression_core_sound node t proper
  value_placed (Some k) node t proper whole = character_core_sound (expression_of w s sense node) t k proper (whole refl)

  placed_sound : (static : Bool) (p : Placed) (t : Ctype) → IsProper t → (is_some p.character ≡ true → IsInteger t) → Gives (SoundOf w entities t) (placed_core w s sense static p t)
  placed_sound static p t proper whole =
      then_gives (SoundOf w entities t) (SoundOf w entities t) _ (fixed_or w s sense static p.node) (value_placed p.character p.node t proper whole) (λ c h. fixed_sound static p.node t c h)

  placed_all : (static : Bool) (t : Ctype) (list : List Placed) → AllFit w t list → Gives (λ cs. InitialOver w (Some t) (paths_of w s sense list) (list_of cs) × AllSound w entities cs) (placed_cores w s sense static t list)
  placed_all static t [] fit = (tt, tt)
  placed_all static t (p ∷ rest) fit =
      let Q : Cores → Type 0 = λ cs. InitialOver w (Some t) (p.path ∷ paths_of w s sense rest) (list_of cs) × AllSound w entities cs in
      some_given Q (type_along w (Some t) p.path) Operand p.node (λ type. placed_core w s sense static p type >>= (λ c. placed_cores w s sense static t rest >>= (λ more. Fits (MoreCores c more))))
      (λ type e.
      let fits : PlacedFit w t p type = fit.0 type e in
      then_gives (SoundOf w entities type) Q (placed_core w s sense static p type) (λ c. placed_cores w s sense static t rest >>= (λ more. Fits (MoreCores c more))) (placed_sound static p type fits.1 fits.2)
      (λ c h.
      then_gives (λ cs. InitialOver w (Some t) (paths_of w s sense rest) (list_of cs) × AllSound w entities cs) Q (placed_cores w s sense static t rest) (λ more. Fits (MoreCores c more)) (placed_all static t rest fit.1)
      (λ more k. ((h.1.0, fits.0 ∙ ap Some (sym h.1.1), k.0), (h.0, k.1)))))

  -- an entity's initialiser, where the entity has the type that its object gets
  pub made_sound : (static : Bool) (entity : ℕ) (place : Place) (t : Ctype) (outcome : Outcome) → OutcomeFits w entities s sense entity t outcome
      → Gives (λ m. Sound w entities m.initial × InitialisesEntity (kind_of m.initial) entity × IsInitialiser (kind_of m.initial) × (entities entity ≡ Some (with_length m.length t))) (made_of w s sense static entity place t outcome)
  made_sound static entity place t (NoPlace node) fit = tt
  made_sound static entity place t (Places actions) fit =
      let whole : Ctype = with_length (new_length w s sense t actions) t in
      let list : List Placed = lasting [] actions in
      then_gives (λ cs. InitialOver w (Some whole) (paths_of w s sense list) (list_of cs) × AllSound w entities cs)
      (λ m. Sound w entities m.initial × InitialisesEntity (kind_of m.initial) entity × IsInitialiser (kind_of m.initial) × (entities entity ≡ Some (with_length m.length t))) (placed_cores w s sense static whole list) _ (placed_all static whole list fit.1)
      (λ values h. ((subst (λ (o : Option Ctype). InitialOver w o (paths_of w s sense list) (list_of values)) (sym fit.0) h.0, tt, refl, h.1), refl, tt, fit.0))

  pub object_sound : (at declarator leaf : ℕ) (t : Ctype) → Gives (OutcomeFits w entities s sense (entity_of s sense leaf) t) (outcome_of w s sense at (shape_for w.fillable most_elements t) (view.init_at (seen w s sense) s.nodes at))
      → Gives (SoundSense w entities) (object_initialiser w s sense at declarator leaf t)
  object_sound at declarator leaf t fits =
      then_gives (OutcomeFits w entities s sense (entity_of s sense leaf) t) (SoundSense w entities) (outcome_of w s sense at (shape_for w.fillable most_elements t) (view.init_at (seen w s sense) s.nodes at)) _ fits
      (λ outcome fit.
      then_gives (λ m. Sound w entities m.initial × InitialisesEntity (kind_of m.initial) (entity_of s sense leaf) × IsInitialiser (kind_of m.initial) × (entities (entity_of s sense leaf) ≡ Some (with_length m.length t))) (SoundSense w entities)
      (made_of w s sense (is_static_object s sense leaf) (entity_of s sense leaf) (own_place s at) t outcome) _ (made_sound (is_static_object s sense leaf) (entity_of s sense leaf) (own_place s at) t outcome fit)
      (λ m h. if_given (SoundSense w entities) _ Operand leaf (Fits (IsInitial m.initial m.length)) (λ small. (h.0, h.2))))

  pub as_sound : (at declarator leaf : ℕ) (t : Ctype)
      → Gives (OutcomeFits w entities s sense (entity_of s sense leaf) (with_length (length_seen s sense leaf) t)) (outcome_of w s sense at (shape_for w.fillable most_elements (with_length (length_seen s sense leaf) t)) (view.init_at (seen w s sense) s.nodes at))
      → Gives (SoundSense w entities) (initialised_as w s sense at declarator leaf t)
  as_sound at declarator leaf t fits =
      let n : Option ℕ = length_seen s sense leaf in
      seen_gives (SoundSense w entities) (λ c m k h. h) n (object_initialiser w s sense at declarator leaf (with_length n t)) (object_sound at declarator leaf (with_length n t) fits)

  pub proper_length : (n : Option ℕ) (t : Ctype) → IsProper t → IsProper (with_length n t)
  proper_length (Some n) (ArrayOf of None) h = h
  proper_length n t h = h

  pub literal_sound : (at p : ℕ) (t : Ctype) → IsProper t → Gives (OutcomeFits w entities s sense (opening w s sense p) t) (outcome_of w s sense (brace w s sense p) (shape_for w.fillable most_elements t) (braced w s sense (brace w s sense p) (view.items_at (seen w s sense) s.nodes at)))
      → Gives (Sound w entities) (literal_of w s sense at p t)
  literal_sound at p t proper fits =
      then_gives (OutcomeFits w entities s sense (opening w s sense p) t) (Sound w entities) _ _ fits
      (λ outcome fit.
      then_gives (λ m. Sound w entities m.initial × InitialisesEntity (kind_of m.initial) (opening w s sense p) × IsInitialiser (kind_of m.initial) × (entities (opening w s sense p) ≡ Some (with_length m.length t))) (Sound w entities)
      (made_of w s sense (not (is_in_body w s sense at)) (opening w s sense p) (place_at s (brace w s sense p)) t outcome) _ (made_sound (not (is_in_body w s sense at)) (opening w s sense p) (place_at s (brace w s sense p)) t outcome fit)
      (λ m h.
      if_given (Sound w entities) (within_limits w (with_length m.length t) && not (is_in_body w s sense at && is_in_static s sense at)) Operand (opening w s sense p) (Fits (literal_core w s sense p t m))
      (λ small. ((h.3, h.1), proper_length m.length t proper, tt, (h.0, tt)))))
