-- Rows of declarators and of initialisers: what they give besides their refusals.
use Rattle.std.proofs.Common.{◌≡◌, ◌||◌, ℕ, true, cond, List, Option, Some, None}
use Rattle.std.specs.Prelude.{not, ◌&&◌, is_some}
use Rattle.c_types.specs.Trees.{Ctype}
use Rattle.pta_base.specs.declared.kind.Kind.TheVariants.{Operand, InlineDefinition}
use Rattle.c_grammar.specs.Productions.{p_field, p_parameter, p_rest, p_cast, p_unary, p_type_name}
use Rattle.c_grammar.specs.Words.{word_inline, word_static}
use Rattle.c_consts.specs.Core.{Core}
use Rattle.c_senses.specs.Tree.{Source, is_a, parent_of, child_of}
use Rattle.c_senses.specs.Given.{Given, Fits, Refuses, given_if, ◌>>=◌}
use Rattle.c_senses.specs.World.{World, has_size}
use Rattle.c_senses.specs.Conversions.{typed}
use Rattle.c_senses.specs.Sense.{Sense, Nothing, IsCore, IsType, IsSpecified, IsDeclarator, IsDerivation, IsParameter, IsMembers, IsValue, IsRun, IsInitial, fits}
use Rattle.c_senses.specs.Declarators.{derived, adjusted, is_outermost, base_type, derivations, name_in, derives_well, plain_declarator_row}
use Rattle.c_senses.specs.Entities.{by_place, named_row, parameter_named, definition_row, defined_parameter, is_parameter_complete, is_defined, is_void_type, result_of, has_function_word, has_storage, words_go, is_same_again, has_one_linkage, internal_fits, is_name_complete, initialiser_of, initialised_by, specified_of, derived_type, is_static_object, entity_of, with_length, length_seen}
use Rattle.c_senses.specs.Initialised.{init_row, init_in, initialised_object, initialised_as, object_initialiser, name_of_declarator, outcome_of, made_of, initialised_fits, most_elements, seen, Made, items_row, literal_in, literal_of, literal_type, opening}
use Rattle.c_inits.specs.Made.{shape_for}
use Rattle.c_inits.specs.View as view
use Rattle.c_senses.specs.Places.{own_place}
use Rattle.c_senses.specs.Rows.{declarator_row, at_its_name}
use Rattle.parsed_tree_laws.specs.sense_laws.Sound.{Gives}
use Rattle.parsed_tree_laws.proofs.sense_laws.Giving.{if_given, some_given, then_gives, if_holds}
use Rattle.parsed_tree_laws.proofs.sense_laws.Seen.{seen_gives}

-- what holds of a declarator's name and derivations, where it derives well, holds of what its row gives
module _ (K : Sense → Type 0) (w : World) (s : Source) (sense : ℕ → Sense) where
  definition_gives : (t : Ctype) (leaf : ℕ) (g : Given Sense) → Gives K g → Gives K (definition_row w s sense t leaf g)
  definition_gives t leaf g h =
      if_holds (Gives K) (is_defined s sense leaf) _ g
      (λ e. if_given K (is_void_type w s sense (result_of w s sense t) || has_size w (result_of w s sense t)) Operand leaf _
      (λ e. if_given K (not (has_function_word s sense word_inline leaf && not (has_storage s sense word_static leaf))) InlineDefinition leaf g (λ e. h)))
      (λ e. h)

  named_gives : (at leaf : ℕ) (t : Ctype) (g : Given Sense) → Gives K g → Gives K (named_row w s sense at leaf t g)
  named_gives at leaf t g h =
      let initialised = is_some (initialiser_of s sense at) in
      if_given K (words_go w s sense initialised leaf) Operand leaf _
      (λ e. if_given K (is_same_again w s sense t leaf) Operand leaf _
      (λ e. if_given K (has_one_linkage w s sense leaf) Operand leaf _
      (λ e. if_given K (internal_fits w s sense (initialised || is_defined s sense leaf) t leaf) Operand leaf _
      (λ e. if_given K (is_name_complete w s sense initialised t leaf) Operand leaf _ (λ e. definition_gives t leaf g h)))))

  place_gives : (at leaf : ℕ) (t narrow : Ctype) (g : Given Sense) → Gives K g → Gives K (by_place w s sense at leaf t narrow g)
  place_gives at leaf t narrow g h = by (parent_of s at)
    where
      by : (o : Option ℕ) → Gives K (elim o as (λ _. Given Sense) [ None ↦ g | Some p ↦ cond (is_a s p_field p) g (cond (is_a s p_parameter p) (parameter_named w s sense at leaf narrow g) (named_row w s sense at leaf t g)) ])
      by None = h
      by (Some p) =
          if_holds (Gives K) (is_a s p_field p) g _ (λ e. h)
          (λ e. if_holds (Gives K) (is_a s p_parameter p) _ _ (λ f. if_given K (not (defined_parameter w s sense at) || is_parameter_complete w s sense narrow) Operand leaf g (λ x. h))
          (λ f. named_gives at leaf t g h))

  name_gives : (at : ℕ) (g : Given Sense) (base : Option Ctype) (x : Sense) → Gives K g → Gives K (at_its_name w s sense at g base x)
  name_gives at g (Some base) (IsDeclarator (Some leaf) ds) h = if_holds (Gives K) (is_outermost s at) _ g (λ e. place_gives at leaf (derived ds base) (adjusted (derived ds base)) g h) (λ e. h)
  name_gives at g (Some base) (IsDeclarator None ds) h = h
  name_gives at g (Some base) Nothing h = h
  name_gives at g (Some base) (IsCore c) h = h
  name_gives at g (Some base) (IsType t) h = h
  name_gives at g (Some base) (IsSpecified x) h = h
  name_gives at g (Some base) (IsDerivation d) h = h
  name_gives at g (Some base) (IsParameter p) h = h
  name_gives at g (Some base) (IsMembers ms) h = h
  name_gives at g (Some base) (IsValue n) h = h
  name_gives at g (Some base) (IsRun cs) h = h
  name_gives at g (Some base) (IsInitial c n) h = h
  name_gives at g None x h = h

  pub declarators_give : (at : ℕ) (xs : List ℕ) → (derives_well w s sense at (derivations w s sense xs) ≡ true → K (IsDeclarator (name_in w s sense xs) (derivations w s sense xs))) → Gives K (declarator_row w s sense at xs)
  declarators_give at xs each =
      then_gives K K (plain_declarator_row w s sense at xs) (λ x. at_its_name w s sense at (Fits x) (base_type w s sense at) x)
      (if_given K (derives_well w s sense at (derivations w s sense xs)) Operand at (Fits (IsDeclarator (name_in w s sense xs) (derivations w s sense xs))) each)
      (λ x h. name_gives at (Fits x) (base_type w s sense at) x h)

chain_gives : {A : Type 0} (K : Sense → Type 0) (g : Given A) (f : A → Given Sense) → ((x : A) → Gives K (f x)) → Gives K (g >>= f)
chain_gives K (Fits x) f h = h x
chain_gives K (Refuses kind node) f h = tt

-- what holds of nothing, of core trees and of initialisers holds of what the rows of initialisers and of compound literals give
module _ (K : Sense → Type 0) (nothing : K Nothing) (core : (c : Core) → K (IsCore c)) (initial : (c : Core) (n : Option ℕ) → K (IsInitial c n)) (w : World) (s : Source) (sense : ℕ → Sense) where
  made_initial : (leaf : ℕ) (t : Ctype) → Made w s sense → Given Sense
  made_initial leaf t made = given_if (initialised_fits w s sense (with_length made.length t) leaf) Operand leaf (Fits (IsInitial made.initial made.length))

  made_gives : (leaf : ℕ) (t : Ctype) (made : Made w s sense) → Gives K (made_initial leaf t made)
  unfolding made_initial
  made_gives leaf t made = if_given K (initialised_fits w s sense (with_length made.length t) leaf) Operand leaf (Fits (IsInitial made.initial made.length)) (λ e. initial made.initial made.length)

  object_gives : (at declarator leaf : ℕ) (t : Ctype) → Gives K (object_initialiser w s sense at declarator leaf t)
  unfolding made_initial
  object_gives at declarator leaf t =
      chain_gives K (outcome_of w s sense at (shape_for w.fillable most_elements t) (view.init_at (seen w s sense) s.nodes at))
      (λ outcome. made_of w s sense (is_static_object s sense leaf) (entity_of s sense leaf) (own_place s at) t outcome >>= made_initial leaf t)
      (λ outcome. chain_gives K (made_of w s sense (is_static_object s sense leaf) (entity_of s sense leaf) (own_place s at) t outcome) (made_initial leaf t) (made_gives leaf t))

  as_gives : (at declarator leaf : ℕ) (t : Ctype) → Gives K (initialised_as w s sense at declarator leaf t)
  as_gives at declarator leaf t =
      let n : Option ℕ = length_seen s sense leaf in
      seen_gives K (λ c m k h. initial c k) n (object_initialiser w s sense at declarator leaf (with_length n t)) (object_gives at declarator leaf (with_length n t))

  named_object_gives : (at declarator : ℕ) (o : Option ℕ) → Gives K (initialised_object w s sense at declarator o)
  named_object_gives at declarator None = tt
  named_object_gives at declarator (Some leaf) = some_given K (derived_type s sense (specified_of s sense leaf) (Some declarator)) Operand at _ (λ t e. as_gives at declarator leaf t)

  init_by : (at : ℕ) (o : Option ℕ) → Gives K (init_in w s sense at o)
  init_by at None = tt
  init_by at (Some declarator) = named_object_gives at declarator (name_of_declarator w s sense (sense declarator))

  pub inits_give : (at : ℕ) → Gives K (init_row w s sense at)
  inits_give at = by (parent_of s at)
    where
      by : (o : Option ℕ) → Gives K (elim o as (λ _. Given Sense) [ None ↦ Fits Nothing | Some p ↦ cond (is_a s p_rest p) (init_in w s sense at (initialised_by s sense at)) (Fits Nothing) ])
      by None = nothing
      by (Some p) = if_holds (Gives K) (is_a s p_rest p) _ (Fits Nothing) (λ e. init_by at (initialised_by s sense at)) (λ e. nothing)

  fits_give : (g : Given Core) → Gives K (g >>= fits)
  fits_give (Fits c) = core c
  fits_give (Refuses kind node) = tt

  literal_gives : (at p : ℕ) (o : Option ℕ) → Gives K (literal_in w s sense at p o)
  literal_gives at p None = tt
  literal_gives at p (Some t) = fits_give (literal_type w s sense at (sense t) >>= (λ type. typed (opening w s sense p) type (literal_of w s sense at p type)))

  pub items_give : (at : ℕ) → Gives K (items_row w s sense at)
  items_give at = by (parent_of s at)
    where
      by : (o : Option ℕ) → Gives K (elim o as (λ _. Given Sense) [ None ↦ Fits Nothing | Some p ↦ cond (is_a s p_cast p || is_a s p_unary p) (literal_in w s sense at p (child_of s p_type_name p)) (Fits Nothing) ])
      by None = nothing
      by (Some p) = if_holds (Gives K) (is_a s p_cast p || is_a s p_unary p) _ (Fits Nothing) (λ e. literal_gives at p (child_of s p_type_name p)) (λ e. nothing)
