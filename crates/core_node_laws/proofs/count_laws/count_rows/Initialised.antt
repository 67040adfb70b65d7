-- The nodes of initialisers and compound literals.
use Rattle.std.proofs.Common.{arith, ◌≡◌, ◌≤◌, ◌+◌, ◌-◌, ℕ, Bool, true, false, refl, ap, ◌&&◌, ◌||◌, not, List, [], ◌∷◌, Option, Some, None}
use Rattle.std.specs.Prelude.{is_some, if◌then◌else◌}
use Rattle.pta_base.specs.declared.kind.Kind.TheVariants.{Operand}
use Rattle.pta_base.specs.declared.place.Place.{Place}
use Rattle.c_types.specs.Trees.{Ctype, FloatingType}
use Rattle.core_tree.specs.declared.node.NodeKind.TheVariants.{Literal, Initialise}
use Rattle.c_grammar.specs.Productions.{p_rest, p_type_name, p_conditional, p_cast, p_unary}
use Rattle.c_grammar.specs.Words.{sign_left_bracket}
use Rattle.c_consts.specs.Core.{Core, MoreCores}
use Rattle.c_inits.specs.Made.{shape_for}
use Rattle.c_inits.specs.Shapes.{Shape, Path}
use Rattle.c_inits.specs.Syntax.{Init, Items, Braces}
use Rattle.c_inits.specs.Initial.{Outcome, Places, NoPlace, Placed, lasting, initial}
use Rattle.c_inits.specs.View as view
use Rattle.c_senses.specs.Tree.{Source, is_a, has_sign, place_at, child_of, parent_of}
use Rattle.c_senses.specs.Given.{Given, Fits, Refuses, ◌>>=◌, given_if}
use Rattle.c_senses.specs.World.{World}
use Rattle.c_senses.specs.Conversions.{conversion, typed}
use Rattle.c_senses.specs.Constants.{constant_in}
use Rattle.c_senses.specs.Limits.{within_limits}
use Rattle.c_senses.specs.Places.{own_place}
use Rattle.c_senses.specs.Entities.{with_length, length_seen, entity_of, is_static_object, is_in_static, derived_type, specified_of, initialised_by}
use Rattle.c_senses.specs.Sense.{Sense, Nothing, IsCore, IsInitial, value_in}
use Rattle.c_senses.specs.Initialised.{is_fixed, type_along, expression_of, character_core, expression_core, is_automatic, fixed_or, placed_core, placed_cores, paths_of, new_length, Made, made_of, most_elements, seen, outcome_of, initialised_fits, object_initialiser, with_seen, initialised_as, initialised_object, name_of_declarator, init_in, opening, brace, braced, is_in_body, literal_core, literal_of, literal_type, literal_in, designator_row}
use Rattle.core_node_laws.specs.count_laws.count_rows.Counts.{Count, count_whole, count_full, init_total, items_total}
use Rattle.core_node_laws.specs.count_laws.count_rows.Covers.{value_at}
use Rattle.core_node_laws.proofs.count_laws.count_rows.Giving.{Gives, then_gives, after, if_given, some_given, if_holds}
use Rattle.core_node_laws.proofs.count_laws.count_rows.Values.{AtMost, conversion_kept}
use Rattle.core_node_laws.proofs.count_laws.count_rows.Operators.{UnderMost}
use Rattle.core_node_laws.proofs.count_laws.count_rows.Placing.{of_placed, placed_total, OutMost, initial_out, lasting_less}
use Rattle.core_node_laws.proofs.count_laws.count_rows.Expressions.{SenseMost, value_in_less}

abbrev pub FullMost : Count → ℕ → Sense → Type 0
FullMost n k x = count_full n x ≤ k

module _ (n : Count) (w : World) (s : Source) (sense : ℕ → Sense) where
  abbrev V : ℕ → ℕ
  V node = value_at n w s sense node

  expression_core_less : (init : ℕ) (t : Ctype) → Gives (AtMost n (V init)) (expression_core w s sense init t)
  expression_core_less init t =
      let k : ℕ = V init in
      then_gives (AtMost n k) (AtMost n k) (value_in w init (expression_of w s sense init)) (λ v. conversion w false init v t) (value_in_less n w init (expression_of w s sense init)) (λ v h. conversion_kept n k w false init v t h)

  character_less : (x : Sense) (t : Ctype) (k : ℕ) → Gives (AtMost n 0) (character_core w s sense x t k)
  character_less (IsCore c) t k = omega arith
  character_less x t k = tt

  value_placed : (o : Option ℕ) (node : ℕ) (t : Ctype) → Gives (AtMost n (of_placed V o node)) (elim o as (λ _. Given Core) [ None ↦ expression_core w s sense node t | Some k ↦ character_core w s sense (expression_of w s sense node) t k ])
  value_placed None node t = expression_core_less node t
  value_placed (Some k) node t = character_less (expression_of w s sense node) t k

  placed_less : (static : Bool) (p : Placed) (t : Ctype) → Gives (AtMost n (of_placed V p.character p.node)) (placed_core w s sense static p t)
  placed_less static p t =
      let k : ℕ = of_placed V p.character p.node in
      then_gives (AtMost n k) (AtMost n k) _ (fixed_or w s sense static p.node) (value_placed p.character p.node t)
      (λ c h. if_given (AtMost n k) (not static || is_fixed (is_automatic w s sense) c) Operand p.node (Fits c) h)

  placed_all : (static : Bool) (t : Ctype) (list : List Placed) → Gives (UnderMost n (placed_total V list)) (placed_cores w s sense static t list)
  placed_all static t [] = omega arith
  placed_all static t (p ∷ rest) =
      let k : ℕ = of_placed V p.character p.node in
      let all : ℕ = placed_total V (p ∷ rest) in
      some_given (UnderMost n all) (type_along w (Some t) p.path) Operand p.node (λ type. placed_core w s sense static p type >>= (λ c. placed_cores w s sense static t rest >>= (λ more. Fits (MoreCores c more))))
      (λ type.
      then_gives (AtMost n k) (UnderMost n all) (placed_core w s sense static p type) (λ c. placed_cores w s sense static t rest >>= (λ more. Fits (MoreCores c more))) (placed_less static p type)
      (λ c h. then_gives (UnderMost n (placed_total V rest)) (UnderMost n all) (placed_cores w s sense static t rest) (λ more. Fits (MoreCores c more)) (placed_all static t rest) (λ more l. omega (arith, h, l))))

  abbrev MadeMost : ℕ → Made w s sense → Type 0
  MadeMost m made = count_whole n made.initial ≤ m

  made_kept : (m k : ℕ) (static : Bool) (entity : ℕ) (place : Place) (t : Ctype) (outcome : Outcome) → OutMost V k outcome → ((paths : List Path) → n.weight (Initialise entity paths) place + k ≤ m) → Gives (MadeMost m) (made_of w s sense static entity place t outcome)
  made_kept m k static entity place t (NoPlace node) out own = tt
  made_kept m k static entity place t (Places actions) out own =
      let whole : Ctype = with_length (new_length w s sense t actions) t in
      let h = own (paths_of w s sense (lasting [] actions)) in
      let less = lasting_less V [] actions in
      then_gives (UnderMost n (placed_total V (lasting [] actions))) (MadeMost m) (placed_cores w s sense static whole (lasting [] actions)) _ (placed_all static whole (lasting [] actions)) (λ values l. omega (arith, h, less, out, l))

  -- what an initialiser makes itself, with what its values have
  abbrev pub ObjectMost : ℕ → ℕ → Type 0
  ObjectMost m at =
      (declarator leaf : ℕ) (init : Init) (paths : List Path) → initialised_by s sense at ≡ Some declarator → name_of_declarator w s sense (sense declarator) ≡ Some leaf
      → view.init_at (seen w s sense) s.nodes at ≡ Some init → n.weight (Initialise (entity_of s sense leaf) paths) (own_place s at) + init_total V init ≤ m

  -- and a compound literal
  abbrev pub LiteralMost : ℕ → ℕ → Type 0
  LiteralMost m at =
      (p : ℕ) (items : Items) (paths : List Path) → parent_of s at ≡ Some p → (is_a s p_cast p || is_a s p_unary p) ≡ true → is_some (child_of s p_type_name p) ≡ true → view.items_at (seen w s sense) s.nodes at ≡ Some items
      → n.weight (Literal (opening w s sense p)) (place_at s (opening w s sense p)) + (n.weight (Initialise (opening w s sense p) paths) (place_at s (brace w s sense p)) + items_total V items) ≤ m

  object_by : (m at leaf : ℕ) (t : Ctype) (shape : Option Shape) (o : Option Init) → ((init : Init) (paths : List Path) → o ≡ Some init → n.weight (Initialise (entity_of s sense leaf) paths) (own_place s at) + init_total V init ≤ m)
      → Gives (FullMost n m) (outcome_of w s sense at shape o >>= (λ outcome.
      made_of w s sense (is_static_object s sense leaf) (entity_of s sense leaf) (own_place s at) t outcome >>= (λ made.
      given_if (initialised_fits w s sense (with_length made.length t) leaf) Operand leaf (Fits (IsInitial made.initial made.length)))))
  object_by m at leaf t None o own = tt
  object_by m at leaf t (Some shape) None own = tt
  object_by m at leaf t (Some shape) (Some init) own =
      then_gives (MadeMost m) (FullMost n m) (made_of w s sense (is_static_object s sense leaf) (entity_of s sense leaf) (own_place s at) t (initial shape init)) _
      (made_kept m (init_total V init) (is_static_object s sense leaf) (entity_of s sense leaf) (own_place s at) t (initial shape init) (initial_out V shape init) (λ paths. own init paths refl))
      (λ made h. if_given (FullMost n m) (initialised_fits w s sense (with_length made.length t) leaf) Operand leaf (Fits (IsInitial made.initial made.length)) h)

  -- whose length was seen before: the same tree
  seen_kept : (m : ℕ) (k : Option ℕ) (x : Sense) → FullMost n m x → FullMost n m (with_seen k x)
  seen_kept m k (IsInitial c None) h = h
  seen_kept m k x h = h

  initialised_kept : (m at declarator : ℕ) (o : Option ℕ) → initialised_by s sense at ≡ Some declarator → name_of_declarator w s sense (sense declarator) ≡ o → ObjectMost m at → Gives (FullMost n m) (initialised_object w s sense at declarator o)
  initialised_kept m at declarator None by_it named own = tt
  initialised_kept m at declarator (Some leaf) by_it named own =
      some_given (FullMost n m) (derived_type s sense (specified_of s sense leaf) (Some declarator)) Operand at (initialised_as w s sense at declarator leaf)
      (λ t.
      let k : Option ℕ = length_seen s sense leaf in
      then_gives (FullMost n m) (FullMost n m) (object_initialiser w s sense at declarator leaf (with_length k t)) (λ x. Fits (with_seen k x))
      (object_by m at leaf (with_length k t) (shape_for w.fillable most_elements (with_length k t)) (view.init_at (seen w s sense) s.nodes at) (λ init paths e. own declarator leaf init paths by_it named e)) (λ x h. seen_kept m k x h))

  init_in_kept : (m at : ℕ) (o : Option ℕ) → initialised_by s sense at ≡ o → ObjectMost m at → Gives (FullMost n m) (init_in w s sense at o)
  init_in_kept m at None e own = tt
  init_in_kept m at (Some declarator) e own = initialised_kept m at declarator (name_of_declarator w s sense (sense declarator)) e refl own

  pub init_kept : (m at : ℕ) (o : Option ℕ) → ObjectMost m at → Gives (FullMost n m) (elim o as (λ _. Given Sense) [ None ↦ Fits Nothing | Some p ↦ if is_a s p_rest p then init_in w s sense at (initialised_by s sense at) else Fits Nothing ])
  init_kept m at None own = omega arith
  init_kept m at (Some p) own = if_holds (Gives (FullMost n m)) (is_a s p_rest p) _ (Fits Nothing) (init_in_kept m at (initialised_by s sense at) refl own) (omega arith)

  -- a compound literal
  abbrev LiteralCore : ℕ → Core → Type 0
  LiteralCore m c = count_full n (IsCore c) ≤ m

  abbrev pub OwnLiteral : ℕ → ℕ → Option Items → Type 0
  OwnLiteral m p o =
      (items : Items) (paths : List Path) → o ≡ Some items → n.weight (Literal (opening w s sense p)) (place_at s (opening w s sense p)) + (n.weight (Initialise (opening w s sense p) paths) (place_at s (brace w s sense p)) + items_total V items) ≤ m

  literal_by : (m at p : ℕ) (t : Ctype) (shape : Option Shape) (o : Option Items) → OwnLiteral m p o
      → Gives (LiteralCore m) (outcome_of w s sense (brace w s sense p) shape (braced w s sense (brace w s sense p) o) >>= (λ outcome.
      made_of w s sense (not (is_in_body w s sense at)) (opening w s sense p) (place_at s (brace w s sense p)) t outcome >>= (λ made.
      given_if (within_limits w (with_length made.length t) && not (is_in_body w s sense at && is_in_static s sense at)) Operand (opening w s sense p) (Fits (literal_core w s sense p t made)))))
  literal_by m at p t None o own = tt
  literal_by m at p t (Some shape) None own = tt
  literal_by m at p t (Some shape) (Some items) own =
      let k : ℕ = items_total V items in
      let outcome : Outcome = initial shape (Braces (brace w s sense p) items) in
      let before : ℕ = n.weight (Literal (opening w s sense p)) (place_at s (opening w s sense p)) in
      let now = λ (paths : List Path). own items paths refl in
      then_gives (MadeMost (m - before)) (LiteralCore m) (made_of w s sense (not (is_in_body w s sense at)) (opening w s sense p) (place_at s (brace w s sense p)) t outcome) _
      (made_kept (m - before) k (not (is_in_body w s sense at)) (opening w s sense p) (place_at s (brace w s sense p)) t outcome (initial_out V shape (Braces (brace w s sense p) items)) (λ paths. let h = now paths in omega (arith, h)))
      (λ made h.
      let some = now [] in
      if_given (LiteralCore m) (within_limits w (with_length made.length t) && not (is_in_body w s sense at && is_in_static s sense at)) Operand (opening w s sense p) (Fits (literal_core w s sense p t made)) (omega (arith, h, some)))

  as_literal : (m : ℕ) (g : Given Core) → Gives (LiteralCore m) g → Gives (FullMost n m) (g >>= (λ c. Fits (IsCore c)))
  as_literal m (Fits c) h = h
  as_literal m (Refuses kind node) h = tt

  typed_literal : (m at : ℕ) (t : Ctype) (g : Given Core) → Gives (LiteralCore m) g → Gives (LiteralCore m) (typed at t g)
  typed_literal m at FloatingType g h = tt
  typed_literal m at t g h = h

  literal_in_kept : (m at p : ℕ) (o : Option ℕ) → OwnLiteral m p (view.items_at (seen w s sense) s.nodes at) → Gives (FullMost n m) (literal_in w s sense at p o)
  literal_in_kept m at p None own = tt
  literal_in_kept m at p (Some t) own =
      as_literal m (literal_type w s sense at (sense t) >>= (λ type. typed (opening w s sense p) type (literal_of w s sense at p type)))
      (after (LiteralCore m) (literal_type w s sense at (sense t)) (λ type. typed (opening w s sense p) type (literal_of w s sense at p type))
      (λ type. typed_literal m (opening w s sense p) type (literal_of w s sense at p type) (literal_by m at p type (shape_for w.fillable most_elements type) (view.items_at (seen w s sense) s.nodes at) own)))

  pub items_kept : (m at : ℕ) (o : Option ℕ) → parent_of s at ≡ o → LiteralMost m at → Gives (FullMost n m) (elim o as (λ _. Given Sense) [ None ↦ Fits Nothing | Some p ↦ if is_a s p_cast p || is_a s p_unary p then literal_in w s sense at p (child_of s p_type_name p) else Fits Nothing ])
  items_kept m at None e own = omega arith
  items_kept m at (Some p) e own = by (is_a s p_cast p || is_a s p_unary p) refl
    where
      typed_or : (o : Option ℕ) → child_of s p_type_name p ≡ o → (is_a s p_cast p || is_a s p_unary p) ≡ true → Gives (FullMost n m) (literal_in w s sense at p o)
      typed_or None named kind = tt
      typed_or (Some t) named kind = literal_in_kept m at p (Some t) (λ items paths found. own p items paths e kind (ap is_some named) found)

      by : (b : Bool) → (is_a s p_cast p || is_a s p_unary p) ≡ b → Gives (FullMost n m) (if b then literal_in w s sense at p (child_of s p_type_name p) else Fits Nothing)
      by true kind = typed_or (child_of s p_type_name p) refl kind
      by false kind = omega arith

  pub designator_kept : (m at : ℕ) (children : List ℕ) → Gives (SenseMost n m) (designator_row w s sense at children)
  designator_kept m at [] = tt
  designator_kept m at (first ∷ rest) =
      if_holds (Gives (SenseMost n m)) (has_sign s sign_left_bracket first) _ (Fits Nothing)
      (some_given (SenseMost n m) (child_of s p_conditional at) Operand at _ (λ c. after (SenseMost n m) (constant_in w s at (sense c)) _ (λ x. omega arith))) (omega arith)
