-- Rows of initialisers and statements.
use Rattle.std.proofs.Common.{◌==◌, ℕ, Bool, false, ◌&&◌, ◌||◌, not, List, [], ◌∷◌, Option, Some, None}
use Rattle.std.specs.Prelude.{ℤ, pos, is_some, if◌then◌else◌}
use Rattle.std.specs.Ordering.{int_eq}
use Rattle.pta_base.specs.declared.kind.Kind.TheVariants.{Operand}
use Rattle.pta_base.specs.declared.place.Place.{Place}
use Rattle.c_types.specs.Trees.{Ctype}
use Rattle.core_tree.specs.declared.node.NodeKind.TheVariants.{Case}
use Rattle.c_grammar.specs.Productions.{p_rest, p_declaration, p_expression, p_conditional, p_cast, p_unary, p_type_name}
use Rattle.c_grammar.specs.Words.{sign_left_bracket, sign_semicolon, word_case, word_default, word_if, word_switch, word_while, word_do, word_for, word_goto, word_continue, word_break, word_return}
use Rattle.c_consts.specs.Core.{Core, Cores, MoreCores, ctype_of}
use Rattle.c_consts.specs.Wrapped.{converted}
use Rattle.c_inits.specs.Made.{shape_for}
use Rattle.c_inits.specs.Shapes.{Shape}
use Rattle.c_inits.specs.Syntax.{Init}
use Rattle.c_inits.specs.View as view
use Rattle.c_inits.specs.Initial.{Outcome, Places, NoPlace, Placed, lasting}
use Rattle.c_senses.specs.Tree.{Source, is_a, is_leaf, is_name, has_sign, word_at, place_at, children_at, first_where, any_where, child_of, parent_of, nearest_above, numbers_from}
use Rattle.c_senses.specs.Given.{Given, Fits, Refuses, ◌>>=◌, given_if}
use Rattle.c_senses.specs.World.{World}
use Rattle.c_senses.specs.Conversions.{is_scalar, operand_of, conversion, typed}
use Rattle.c_senses.specs.Constants.{constant_in, is_whole}
use Rattle.c_senses.specs.Limits.{within_limits}
use Rattle.c_senses.specs.Sense.{Sense, Nothing, IsCore, IsType, IsValue, IsInitial, core_of, value_in}
use Rattle.c_senses.specs.Entities.{with_length, length_seen, specified_of, derived_type, initialised_by, is_static_object, entity_of, is_in_static}
use Rattle.c_senses.specs.Places.{own_place}
use Rattle.c_senses.specs.Initialised.{most_elements, seen, type_along, expression_of, character_core, expression_core, is_fixed, is_automatic, fixed_or, placed_core, placed_cores, new_length, Made, made_of, outcome_of, initialised_fits, object_initialiser, with_seen, initialised_as, name_of_declarator, initialised_object, init_in, init_row, is_in_body, opening, brace, braced, literal_of, literal_type, literal_in, items_row, designator_row}
use Rattle.c_senses.specs.Statements.{statement, one, assert_row, ForParts, condition_of, statements_among, body_of, other_body, expression_in, is_statement_of, switch_around, switched, is_case_again, is_default_again, case_in, case_row, default_row, if_row, switch_row, while_row, do_row, expression_statement, for_first, for_condition, for_after, for_parts, for_of, for_row, is_loop, returned_type, return_row, of_word, leaf_statement, statement_row}
use Rattle.refusal_laws.specs.Refusals.{IsBuilt}
use Rattle.refusal_laws.proofs.Steps.{then_built, if_built, some_built, either_built}
use Rattle.refusal_laws.proofs.Values.{core_built, value_in_built, conversion_built, typed_built}
use Rattle.refusal_laws.proofs.Expressions.{sense_built}
use Rattle.refusal_laws.proofs.Declaring.{constant_built}

module _ (w : World) (s : Source) (sense : ℕ → Sense) where
  -- ---- initialisers

  character_built : (x : Sense) (t : Ctype) (k : ℕ) → IsBuilt (character_core w s sense x t k)
  character_built (IsCore c) t k = tt
  character_built x t k = tt

  expression_built : (init : ℕ) (t : Ctype) → IsBuilt (expression_core w s sense init t)
  expression_built init t = then_built {B = Core} (value_in w init (expression_of w s sense init)) (λ v. conversion w false init v t) (value_in_built w init (expression_of w s sense init)) (λ v. conversion_built w false init v t)

  placed_built : (static : Bool) (p : Placed) (t : Ctype) → IsBuilt (placed_core w s sense static p t)
  placed_built static p t = then_built {B = Core} (elim p.character as (λ _. Given Core) [ None ↦ expression_core w s sense p.node t | Some k ↦ character_core w s sense (expression_of w s sense p.node) t k ]) (fixed_or w s sense static p.node) (first p.character) (λ c. if_built {A = Core} (not static || is_fixed (is_automatic w s sense) c) Operand p.node (Fits c) tt tt)
    where
      first : (o : Option ℕ) → IsBuilt (elim o as (λ _. Given Core) [ None ↦ expression_core w s sense p.node t | Some k ↦ character_core w s sense (expression_of w s sense p.node) t k ])
      first None = expression_built p.node t
      first (Some k) = character_built (expression_of w s sense p.node) t k

  all_placed_built : (static : Bool) (t : Ctype) (ps : List Placed) → IsBuilt (placed_cores w s sense static t ps)
  all_placed_built static t [] = tt
  all_placed_built static t (p ∷ rest) = go (all_placed_built static t rest)
    where
      go : IsBuilt (placed_cores w s sense static t rest) → IsBuilt (placed_cores w s sense static t (p ∷ rest))
      go h =
          some_built {B = Cores} (type_along w (Some t) p.path) Operand p.node (λ type. placed_core w s sense static p type >>= (λ c. placed_cores w s sense static t rest >>= (λ more. Fits (MoreCores c more)))) tt
          (λ type. then_built {B = Cores} (placed_core w s sense static p type) (λ c. placed_cores w s sense static t rest >>= (λ more. Fits (MoreCores c more))) (placed_built static p type)
          (λ c. then_built {B = Cores} (placed_cores w s sense static t rest) (λ more. Fits (MoreCores c more)) h (λ more. tt)))

  made_built : (static : Bool) (entity : ℕ) (place : Place) (t : Ctype) (outcome : Outcome) → IsBuilt (made_of w s sense static entity place t outcome)
  made_built static entity place t (NoPlace node) = tt
  made_built static entity place t (Places actions) =
      then_built {B = Made w s sense} (placed_cores w s sense static (with_length (new_length w s sense t actions) t) (lasting [] actions)) _ (all_placed_built static (with_length (new_length w s sense t actions) t) (lasting [] actions)) (λ values. tt)

  outcome_built : (at : ℕ) (shape : Option Shape) (init : Option Init) → IsBuilt (outcome_of w s sense at shape init)
  outcome_built at None init = tt
  outcome_built at (Some shape) None = tt
  outcome_built at (Some shape) (Some init) = tt

  object_built : (at declarator leaf : ℕ) (t : Ctype) → IsBuilt (object_initialiser w s sense at declarator leaf t)
  object_built at declarator leaf t =
      let shape = shape_for w.fillable most_elements t in
      let init = view.init_at (seen w s sense) s.nodes at in
      then_built {B = Sense} (outcome_of w s sense at shape init) _ (outcome_built at shape init)
      (λ outcome. then_built {B = Sense} (made_of w s sense (is_static_object s sense leaf) (entity_of s sense leaf) (own_place s at) t outcome) _ (made_built (is_static_object s sense leaf) (entity_of s sense leaf) (own_place s at) t outcome)
      (λ made. if_built {A = Sense} (initialised_fits w s sense (with_length made.length t) leaf) Operand leaf (Fits (IsInitial made.initial made.length)) tt tt))

  as_built : (at declarator leaf : ℕ) (t : Ctype) → IsBuilt (initialised_as w s sense at declarator leaf t)
  as_built at declarator leaf t =
      let n = length_seen s sense leaf in
      then_built {B = Sense} (object_initialiser w s sense at declarator leaf (with_length n t)) (λ x. Fits (with_seen n x)) (object_built at declarator leaf (with_length n t)) (λ x. tt)

  initialised_built : (at declarator : ℕ) (o : Option ℕ) → IsBuilt (initialised_object w s sense at declarator o)
  initialised_built at declarator None = tt
  initialised_built at declarator (Some leaf) =
      some_built {B = Sense} (derived_type s sense (specified_of s sense leaf) (Some declarator)) Operand at (initialised_as w s sense at declarator leaf) tt (λ t. as_built at declarator leaf t)

  init_by : (at : ℕ) (o : Option ℕ) → IsBuilt (init_in w s sense at o)
  init_by at None = tt
  init_by at (Some declarator) = initialised_built at declarator (name_of_declarator w s sense (sense declarator))

  pub inits_built : (at : ℕ) → IsBuilt (init_row w s sense at)
  inits_built at = by (parent_of s at)
    where
      by : (o : Option ℕ) → IsBuilt (elim o as (λ _. Given Sense) [ None ↦ Fits Nothing | Some p ↦ if is_a s p_rest p then init_in w s sense at (initialised_by s sense at) else Fits Nothing ])
      by None = tt
      by (Some p) = either_built {A = Sense} (is_a s p_rest p) _ (Fits Nothing) (init_by at (initialised_by s sense at)) tt

  literal_type_built : (at : ℕ) (x : Sense) → IsBuilt (literal_type w s sense at x)
  literal_type_built at (IsType t) = tt
  literal_type_built at x = tt

  literal_of_built : (at p : ℕ) (t : Ctype) → IsBuilt (literal_of w s sense at p t)
  literal_of_built at p t =
      let shape = shape_for w.fillable most_elements t in
      let init = braced w s sense (brace w s sense p) (view.items_at (seen w s sense) s.nodes at) in
      then_built {B = Core} (outcome_of w s sense (brace w s sense p) shape init) _ (outcome_built (brace w s sense p) shape init)
      (λ outcome. then_built {B = Core} (made_of w s sense (not (is_in_body w s sense at)) (opening w s sense p) (place_at s (brace w s sense p)) t outcome) _ (made_built (not (is_in_body w s sense at)) (opening w s sense p) (place_at s (brace w s sense p)) t outcome)
      (λ made. if_built {A = Core} (within_limits w (with_length made.length t) && not (is_in_body w s sense at && is_in_static s sense at)) Operand (opening w s sense p) _ tt tt))

  literal_built : (at p : ℕ) (o : Option ℕ) → IsBuilt (literal_in w s sense at p o)
  literal_built at p None = tt
  literal_built at p (Some t) =
      let g = λ (type : Ctype). typed (opening w s sense p) type (literal_of w s sense at p type) in
      sense_built (literal_type w s sense at (sense t) >>= g)
      (then_built {B = Core} (literal_type w s sense at (sense t)) g (literal_type_built at (sense t)) (λ type. typed_built (opening w s sense p) type (literal_of w s sense at p type) (literal_of_built at p type)))

  pub items_built : (at : ℕ) → IsBuilt (items_row w s sense at)
  items_built at = by (parent_of s at)
    where
      by : (o : Option ℕ) → IsBuilt (elim o as (λ _. Given Sense) [ None ↦ Fits Nothing | Some p ↦ if is_a s p_cast p || is_a s p_unary p then literal_in w s sense at p (child_of s p_type_name p) else Fits Nothing ])
      by None = tt
      by (Some p) = either_built {A = Sense} (is_a s p_cast p || is_a s p_unary p) _ (Fits Nothing) (literal_built at p (child_of s p_type_name p)) tt

  pub designators_built : (at : ℕ) (xs : List ℕ) → IsBuilt (designator_row w s sense at xs)
  designators_built at [] = tt
  designators_built at (first ∷ rest) =
      either_built {A = Sense} (has_sign s sign_left_bracket first) _ (Fits Nothing)
      (some_built {B = Sense} (child_of s p_conditional at) Operand at (λ c. constant_in w s at (sense c) >>= (λ n. Fits (IsValue n))) tt
      (λ c. then_built {B = Sense} (constant_in w s at (sense c)) (λ n. Fits (IsValue n)) (constant_built w s at (sense c)) (λ n. tt))) tt

  -- ---- statements

  pub asserts_built : (at : ℕ) → IsBuilt (assert_row w s sense at)
  asserts_built at =
      let rest : ℤ → Given Sense = λ n. given_if (not (int_eq n (pos 0))) Operand at (Fits Nothing) in
      some_built {B = Sense} (child_of s p_conditional at) Operand at (λ c. constant_in w s at (sense c) >>= rest) tt
      (λ c. then_built {B = Sense} (constant_in w s at (sense c)) rest (constant_built w s at (sense c)) (λ n. if_built {A = Sense} (not (int_eq n (pos 0))) Operand at (Fits Nothing) tt tt))

  condition_built : (at : ℕ) (o : Option ℕ) → IsBuilt (condition_of w s sense at o)
  condition_built at None = tt
  condition_built at (Some c) = then_built {B = Core} (value_in w at (sense c)) _ (value_in_built w at (sense c)) (λ v. if_built {A = Core} (is_scalar (operand_of (ctype_of v))) Operand at (Fits v) tt tt)

  body_built : (at : ℕ) (xs : List ℕ) → IsBuilt (body_of w s sense at xs)
  body_built at [] = tt
  body_built at (c ∷ rest) = core_built at (sense c)

  other_built : (at : ℕ) (xs : List ℕ) → IsBuilt (other_body w s sense at xs)
  other_built at [] = tt
  other_built at (c ∷ []) = tt
  other_built at (c ∷ d ∷ rest) = then_built {B = Option Core} (core_of at (sense d)) (λ x. Fits (Some x)) (core_built at (sense d)) (λ x. tt)

  bodied : (at : ℕ) (xs : List ℕ) (f : Core → Given Core) → ((x : Core) → IsBuilt (f x)) → IsBuilt (body_of w s sense at (statements_among w s sense xs) >>= f)
  bodied at xs f h = then_built {B = Core} (body_of w s sense at (statements_among w s sense xs)) f (body_built at (statements_among w s sense xs)) h

  switched_built : (at : ℕ) (o : Option ℕ) → IsBuilt (switched w s sense at o)
  switched_built at None = tt
  switched_built at (Some c) = then_built {B = Core} (value_in w at (sense c)) _ (value_in_built w at (sense c)) (λ v. if_built {A = Core} (is_whole (operand_of (ctype_of v))) Operand at _ tt tt)

  abbrev one_case : ℕ → Core → ℤ → Given Core
  one_case at body m = Fits (statement (Case m) (place_at s at) (one body))

  case_built : (at switch : ℕ) (body : Core) (n : ℤ) → IsBuilt (case_in w s sense at switch body n)
  case_built at switch body n = by (switched w s sense switch (expression_in w s sense (children_at s switch)))
    where
      by : (g : Given Core)
          → IsBuilt (elim g as (λ _. Given Core) [ Refuses kind node ↦ one_case at body n | Fits v ↦ let m = converted (ctype_of v) n in given_if (not (any_where (is_case_again w s sense switch m) (numbers_from 0 at))) Operand at (one_case at body m) ])
      by (Refuses kind node) = tt
      by (Fits v) = if_built {A = Core} (not (any_where (is_case_again w s sense switch (converted (ctype_of v) n)) (numbers_from 0 at))) Operand at (one_case at body (converted (ctype_of v) n)) tt tt

  cases_built : (at : ℕ) (xs : List ℕ) → IsBuilt (case_row w s sense at xs)
  cases_built at xs =
      some_built {B = Core} (child_of s p_conditional at) Operand at _ tt
      (λ c. then_built {B = Core} (constant_in w s at (sense c)) _ (constant_built w s at (sense c))
      (λ n. some_built {B = Core} (switch_around w s sense at) Operand at _ tt (λ switch. bodied at xs (λ body. case_in w s sense at switch body n) (λ body. case_built at switch body n))))

  defaults_built : (at : ℕ) (xs : List ℕ) → IsBuilt (default_row w s sense at xs)
  defaults_built at xs =
      some_built {B = Core} (switch_around w s sense at) Operand at _ tt
      (λ switch. if_built {A = Core} (not (any_where (is_default_again w s sense switch) (numbers_from 0 at))) Operand at _ tt (bodied at xs _ (λ body. tt)))

  ifs_built : (at : ℕ) (xs : List ℕ) → IsBuilt (if_row w s sense at xs)
  ifs_built at xs =
      then_built {B = Core} (condition_of w s sense at (expression_in w s sense xs)) _ (condition_built at (expression_in w s sense xs))
      (λ c. bodied at xs _ (λ body. then_built {B = Core} (other_body w s sense at (statements_among w s sense xs)) _ (other_built at (statements_among w s sense xs)) (λ other. tt)))

  switches_built : (at : ℕ) (xs : List ℕ) → IsBuilt (switch_row w s sense at xs)
  switches_built at xs = then_built {B = Core} (switched w s sense at (expression_in w s sense xs)) _ (switched_built at (expression_in w s sense xs)) (λ c. bodied at xs _ (λ body. tt))

  whiles_built : (at : ℕ) (xs : List ℕ) → IsBuilt (while_row w s sense at xs)
  whiles_built at xs = then_built {B = Core} (condition_of w s sense at (expression_in w s sense xs)) _ (condition_built at (expression_in w s sense xs)) (λ c. bodied at xs _ (λ body. tt))

  dos_built : (at : ℕ) (xs : List ℕ) → IsBuilt (do_row w s sense at xs)
  dos_built at xs = then_built {B = Core} (condition_of w s sense at (expression_in w s sense xs)) _ (condition_built at (expression_in w s sense xs)) (λ c. bodied at xs _ (λ body. tt))

  run_built : (at c : ℕ) → IsBuilt (expression_statement w s sense at c)
  run_built at c = then_built {B = Core} (value_in w at (sense c)) _ (value_in_built w at (sense c)) (λ v. tt)

  first_built : (at : ℕ) (o : Option ℕ) → IsBuilt (for_first w s sense at o)
  first_built at None = tt
  first_built at (Some c) = either_built {A = List Core} (is_a s p_declaration c) _ _ tt (then_built {B = List Core} (expression_statement w s sense at c) (λ x. Fits (x ∷ [])) (run_built at c) (λ x. tt))

  for_condition_built : (at : ℕ) (o : Option ℕ) → IsBuilt (for_condition w s sense at o)
  for_condition_built at None = tt
  for_condition_built at (Some c) = then_built {B = Option Core} (condition_of w s sense at (Some c)) (λ v. Fits (Some v)) (condition_built at (Some c)) (λ v. tt)

  for_after_built : (at : ℕ) (o : Option ℕ) → IsBuilt (for_after w s sense at o)
  for_after_built at None = tt
  for_after_built at (Some c) = then_built {B = Option Core} (value_in w at (sense c)) (λ v. Fits (Some v)) (value_in_built w at (sense c)) (λ v. tt)

  for_of_built : (at : ℕ) (parts : ForParts) (xs : List ℕ) → IsBuilt (for_of w s sense at parts xs)
  for_of_built at parts xs =
      then_built {B = Core} (for_first w s sense at parts.first) _ (first_built at parts.first)
      (λ first. then_built {B = Core} (for_condition w s sense at parts.condition) _ (for_condition_built at parts.condition)
      (λ condition. then_built {B = Core} (for_after w s sense at parts.after) _ (for_after_built at parts.after) (λ after. bodied at xs _ (λ body. tt))))

  fors_built : (at : ℕ) (xs : List ℕ) → IsBuilt (for_row w s sense at xs)
  fors_built at [] = tt
  fors_built at (word ∷ []) = tt
  fors_built at (word ∷ parenthesis ∷ rest) = for_of_built at (for_parts w s sense rest) rest

  returns_built : (at : ℕ) (o : Option ℕ) → IsBuilt (return_row w s sense at o)
  returns_built at None = tt
  returns_built at (Some c) =
      some_built {B = Core} (returned_type w s sense at) Operand at _ tt
      (λ t. then_built {B = Core} (value_in w at (sense c)) _ (value_in_built w at (sense c)) (λ v. then_built {B = Core} (conversion w false at v t) _ (conversion_built w false at v t) (λ x. tt)))

  word_built : (at : ℕ) (xs : List ℕ) (o : Option ℕ) → IsBuilt (of_word w s sense at xs o)
  word_built at xs None = tt
  word_built at xs (Some word) =
      either_built {A = Core} (word == word_case) _ _ (cases_built at xs)
      (either_built {A = Core} (word == word_default) _ _ (defaults_built at xs)
      (either_built {A = Core} (word == word_if) _ _ (ifs_built at xs)
      (either_built {A = Core} (word == word_switch) _ _ (switches_built at xs)
      (either_built {A = Core} (word == word_while) _ _ (whiles_built at xs)
      (either_built {A = Core} (word == word_do) _ _ (dos_built at xs)
      (either_built {A = Core} (word == word_for) _ _ (fors_built at xs)
      (either_built {A = Core} (word == word_goto) _ _ (some_built {B = Core} (first_where (is_name s) xs) Operand at _ tt (λ name. tt))
      (either_built {A = Core} (word == word_continue) _ _ (if_built {A = Core} (is_some (nearest_above s (is_loop w s sense) at)) Operand at _ tt tt)
      (either_built {A = Core} (word == word_break) _ _ (if_built {A = Core} (is_some (nearest_above s (λ i. is_loop w s sense i || is_statement_of w s sense word_switch i) at)) Operand at _ tt tt)
      (either_built {A = Core} (word == word_return) _ (Refuses Operand at) (returns_built at (expression_in w s sense xs)) tt))))))))))

  leaf_built : (at first : ℕ) (xs : List ℕ) → IsBuilt (leaf_statement w s sense at first xs)
  leaf_built at first xs =
      either_built {A = Core} (has_sign s sign_semicolon first) _ _ tt
      (either_built {A = Core} (is_name s first) _ _ (bodied at xs _ (λ c. tt)) (word_built at xs (word_at s first)))

  pub statements_built : (at : ℕ) (xs : List ℕ) → IsBuilt (statement_row w s sense at xs)
  statements_built at [] = tt
  statements_built at (first ∷ rest) =
      either_built {A = Sense} (is_leaf s first) _ _ (sense_built (leaf_statement w s sense at first (first ∷ rest)) (leaf_built at first (first ∷ rest)))
      (either_built {A = Sense} (is_a s p_expression first) _ (Fits (sense first)) (sense_built (expression_statement w s sense at first) (run_built at first)) tt)
