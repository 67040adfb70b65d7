-- The type of a compound literal's object, by the sense of its list.
use Rattle.std.proofs.Common.{arith, ◌≡◌, ◌<◌, ◌≤◌, ◌+◌, ◌==◌, ◌⊎◌, inl, inr, nat_eq, ℕ, zero, suc, Bool, true, false, ◌&&◌, ◌||◌, not, List, [], length, map, take, Option, Some, None, eq-eqb, refl, sym, ap, ◌∙◌, subst}
use Rattle.std.specs.Prelude.{⊤, option_and_then, if◌then◌else◌}
use Rattle.std.proofs.lemmas.Bool.{eqb-true, eqb-false}
use Rattle.pta_base.specs.declared.kind.Kind.TheVariants.{Operand}
use Rattle.c_lexer.specs.declared.TokenKind.{TokenKind}
use Rattle.c_lexer.specs.declared.TokenKind.TheVariants.{Punctuator, Identifier}
use Rattle.c_types.specs.Trees.{Ctype, FloatingType}
use Rattle.c_grammar.specs.Productions.{p_type_name, p_items, p_cast, p_unary}
use Rattle.c_grammar.specs.Reads.{leaf as leaf_production}
use Rattle.c_grammar.specs.Terminals.{contains}
use Rattle.c_grammar.specs.Words.{sign_left_parenthesis}
use Rattle.c_consts.specs.Core.{Core, ctype_of}
use Rattle.c_inits.specs.Made.{shape_for}
use Rattle.c_inits.specs.Initial.{Outcome, Places, NoPlace, Action, lasting}
use Rattle.c_inits.specs.View as view
use Rattle.c_senses.specs.Tree.{Source, production_at, children_at, kind_at, is_a, is_leaf, is_name, is_identifier, has_sign, is_number, sign_of_kind, first_where, numbers_from, all_nodes, child_of, parent_of, place_at}
use Rattle.c_senses.specs.Given.{Given, Fits, Refuses, ◌>>=◌}
use Rattle.c_senses.specs.World.{World}
use Rattle.c_senses.specs.Conversions.{typed}
use Rattle.c_senses.specs.Limits.{within_limits}
use Rattle.c_senses.specs.Entities.{with_length, is_in_static}
use Rattle.c_senses.specs.Initialised.{most_elements, seen, outcome_of, opening, brace, braced, new_length, placed_cores, made_of, is_in_body, literal_of, literal_core, literal_type, literal_in}
use Rattle.c_senses.specs.Sense.{Sense, Nothing, IsType, fits, sense_in}
use Rattle.c_senses.specs.Rows.{AreSenses}
use Rattle.c_senses.specs.Right as right
use Rattle.c_initialise.specs.passed.sense_laws.Sound.{Gives}
use Rattle.c_initialise.specs.passed.sense_laws.Asked.{OutcomeStands}
use Rattle.c_initialise.proofs.passed.sense_laws.Giving.{then_gives, if_given, and_left, and_right}
use Rattle.c_initialise.proofs.passed.sense_laws.Types.{anything}
use Rattle.core_node_laws.specs.built_unit_laws.run_laws.PassedOn.{IsGrown}
use Rattle.core_node_laws.proofs.built_unit_laws.run_laws.PassedOn.{in_list, found_where, parent_holds}
use Rattle.core_node_laws.specs.passed.parsed_tree_laws.grown_parts.Parts.{IsBrought, Brings}
use Rattle.core_node_laws.proofs.passed.parsed_tree_laws.grown_parts.Single.{AtMostOne, sole, cast_list, unary_list}
use Rattle.core_node_laws.proofs.built_unit_laws.run_laws.Times.{known_at, world_of, row_as, fitted}
use Rattle.core_node_laws.proofs.built_unit_laws.run_laws.Running.{first_in}
use Rattle.core_node_laws.specs.built_unit_laws.built_rows.Rows.{parenthesis_of, is_list_of, core_type_of, types_declared}
use Rattle.core_node_laws.specs.built_unit_laws.built_rows.Rows as rows
use Rattle.c_initialise.specs.initial_paths.Within.{PathsStand}
use Rattle.c_initialise.proofs.initial_paths.Standing.{initials_within}
use Rattle.core_node_laws.specs.built_unit_laws.literal_types.Literals.{LiteralsFit}

some_one : {X : Type 0} → {x y : X} → ◌≡◌ {A = Option X} (Some x) (Some y) → x ≡ y
some_one h = cc

-- a number that passes, from some number on, is found if no other one passes
found_first : (test : ℕ → Bool) (from count p : ℕ) → from ≤ p → p < from + count → test p ≡ true → ((q : ℕ) → test q ≡ true → q ≡ p) → first_where test (numbers_from from count) ≡ Some p
found_first test from zero p low high is only = absurd (omega (arith, low, high))
found_first test from (suc count) p low high is only = by (test from) refl (λ less. found_first test (suc from) count p less (omega (arith, high)) is only)
  where
    apart : (b : Bool) → nat_eq from p ≡ b → test from ≡ false → suc from ≤ p
    apart true same e = let none : false ≡ true = sym e ∙ (ap test (eqb-true from p same) ∙ is) in cc
    apart false other e = let differ = eqb-false from p other in omega (arith, low, differ)

    by : (b : Bool) → test from ≡ b → (suc from ≤ p → first_where test (numbers_from (suc from) count) ≡ Some p) → (if b then Some from else first_where test (numbers_from (suc from) count)) ≡ Some p
    by true e later = ap Some (only from e)
    by false e later = later (apart (nat_eq from p) refl e)

and_both : (a b : Bool) → a ≡ true → b ≡ true → (a && b) ≡ true
and_both true true h k = refl
and_both true false h k = cc
and_both false b h k = cc

-- what the row of a list makes
module _ (w : World) (s : Source) (sense : ℕ → Sense) where
  abbrev HasType : Ctype → Sense → Type 0
  HasType t x = core_type_of x ≡ Some t

  as_core : (t : Ctype) (g : Given Core) → Gives (λ c. ctype_of c ≡ t) g → Gives (HasType t) (g >>= fits)
  as_core t (Fits c) h = ap Some h
  as_core t (Refuses kind node) h = tt

  as_typed : (P : Core → Type 0) (at : ℕ) (t : Ctype) (g : Given Core) → Gives P g → Gives P (typed at t g)
  as_typed P at FloatingType g h = tt
  as_typed P at t g h = h

  module _ (i p : ℕ) (t : Ctype) (actions : List Action) (placed : outcome_of w s sense (brace w s sense p) (shape_for w.fillable most_elements t) (braced w s sense (brace w s sense p) (view.items_at (seen w s sense) s.nodes i)) ≡ Fits (Places actions)) where
    whole : Ctype
    whole = with_length (new_length w s sense t actions) t

    abbrev IsWhole : Core → Type 0
    IsWhole c = ctype_of c ≡ whole

    made_whole : (o : Outcome) → o ≡ Places actions → Gives (λ m. m.length ≡ new_length w s sense t actions) (made_of w s sense (not (is_in_body w s sense i)) (opening w s sense p) (place_at s (brace w s sense p)) t o)
    made_whole (NoPlace node) e = tt
    made_whole (Places others) e =
        let same : others ≡ actions = cc in
        then_gives (λ x. ⊤) (λ m. m.length ≡ new_length w s sense t actions) (placed_cores w s sense (not (is_in_body w s sense i)) (with_length (new_length w s sense t others) t) (lasting [] others)) _ (anything _)
        (λ values k. ap (new_length w s sense t) same)

    literal_whole : Gives IsWhole (literal_of w s sense i p t)
    unfolding whole
    literal_whole =
        then_gives (λ o. o ≡ Places actions) IsWhole (outcome_of w s sense (brace w s sense p) (shape_for w.fillable most_elements t) (braced w s sense (brace w s sense p) (view.items_at (seen w s sense) s.nodes i))) _
        (subst (Gives (λ o. o ≡ Places actions)) (sym placed) refl)
        (λ o is.
        then_gives (λ m. m.length ≡ new_length w s sense t actions) IsWhole (made_of w s sense (not (is_in_body w s sense i)) (opening w s sense p) (place_at s (brace w s sense p)) t o) _ (made_whole o is)
        (λ m h.
        if_given IsWhole (within_limits w (with_length m.length t) && not (is_in_body w s sense i && is_in_static s sense i)) Operand (opening w s sense p) (Fits (literal_core w s sense p t m)) (λ small. ap (λ (n : Option ℕ). with_length n t) h)))

    row_whole : (name : ℕ) → sense name ≡ IsType t → Gives (HasType whole) (literal_in w s sense i p (Some name))
    row_whole name is =
        let made : Given Sense = typed (opening w s sense p) t (literal_of w s sense i p t) >>= fits in
        let same : literal_in w s sense i p (Some name) ≡ made = ap (λ (x : Sense). (literal_type w s sense i x >>= (λ type. typed (opening w s sense p) type (literal_of w s sense i p type))) >>= fits) is in
        subst (Gives (HasType whole)) (sym same) (as_core whole (typed (opening w s sense p) t (literal_of w s sense i p t)) (as_typed IsWhole (opening w s sense p) t (literal_of w s sense i p t) literal_whole))

-- lists and their leaves
module _ (s : Source) (grown : IsGrown s) (brought : IsBrought s) where
  abbrev IsOver : ℕ → Type 0
  IsOver p = (is_a s p_cast p || is_a s p_unary p) ≡ true

  over_leaf : (p : ℕ) → IsOver p → is_leaf s p ≡ true → ⊥
  over_leaf p over is = by (production_at s p) (eqb-true (production_at s p) leaf_production is) over
    where
      by : (q : ℕ) → q ≡ leaf_production → ((q == p_cast) || (q == p_unary)) ≡ true → ⊥
      by q e h = let no : false ≡ true = subst (λ (x : ℕ). ((x == p_cast) || (x == p_unary)) ≡ true) e h in cc

  lists_of : (p : ℕ) → IsOver p → AtMostOne 26 (map (production_at s) (children_at s p))
  lists_of p over = by (is_a s p_cast p) (is_a s p_unary p) refl refl over
    where
      own : (q : ℕ) → is_a s q p ≡ true → Brings q 0 (map (production_at s) (children_at s p))
      own q is = subst (λ (x : ℕ). Brings x 0 (map (production_at s) (children_at s p))) (eqb-true (production_at s p) q is) (brought p)

      by : (a b : Bool) → is_a s p_cast p ≡ a → is_a s p_unary p ≡ b → (a || b) ≡ true → AtMostOne 26 (map (production_at s) (children_at s p))
      by true b e f h = cast_list (map (production_at s) (children_at s p)) (own p_cast e)
      by false b e f h = unary_list (map (production_at s) (children_at s p)) (own p_unary (f ∙ h))

  -- the leaf by which the literal is known decides where it stands
  leaf_of : (p : ℕ) (o : Option ℕ) → first_where (has_sign s sign_left_parenthesis) (children_at s p) ≡ o → (n : ℕ) → (elim o as (λ _. ℕ) [ None ↦ p | Some leaf ↦ leaf ]) ≡ n
      → (n ≡ p) ⊎ ((contains (children_at s p) n ≡ true) × (is_leaf s n ≡ true) × (has_sign s sign_left_parenthesis n ≡ true))
  leaf_of p None found n e = inl (sym e)
  leaf_of p (Some leaf) found n e =
      let at : first_where (has_sign s sign_left_parenthesis) (children_at s p) ≡ Some n = found ∙ ap Some e in
      let sign : has_sign s sign_left_parenthesis n ≡ true = found_where (has_sign s sign_left_parenthesis) (children_at s p) n at in
      inr (first_in (has_sign s sign_left_parenthesis) (children_at s p) n at, and_left (is_leaf s n) _ sign, sign)

  leaf_known : (p n : ℕ) → parenthesis_of s p ≡ n → (n ≡ p) ⊎ ((contains (children_at s p) n ≡ true) × (is_leaf s n ≡ true) × (has_sign s sign_left_parenthesis n ≡ true))
  leaf_known p n e = leaf_of p (first_where (has_sign s sign_left_parenthesis) (children_at s p)) refl n e

  same_parent : (p q n : ℕ) → IsOver p → IsOver q → parenthesis_of s p ≡ n → parenthesis_of s q ≡ n → p ≡ q
  same_parent p q n over also e f = elim (leaf_known p n e) [
    | inl own ↦ elim (leaf_known q n f) [
      | inl other ↦ sym own ∙ other
      | inr other ↦ absurd (over_leaf p over (subst (λ (x : ℕ). is_leaf s x ≡ true) own other.1))
    ]
    | inr own ↦ elim (leaf_known q n f) [
      | inl other ↦ absurd (over_leaf q also (subst (λ (x : ℕ). is_leaf s x ≡ true) other own.1))
      | inr other ↦ grown.families.single p q n (in_list (children_at s p) n own.0) (in_list (children_at s q) n other.0)
    ]
  ]

  no_name : (kind : TokenKind) → is_number (sign_of_kind kind) sign_left_parenthesis ≡ true → is_identifier kind ≡ false
  no_name (Punctuator k) h = refl
  no_name Identifier h = cc
  no_name kind h = cc

  and_false : (a b : Bool) → b ≡ false → (a && b) ≡ false
  and_false true b h = h
  and_false false b h = refl

  left_false : (a b : Bool) → a ≡ false → (a && b) ≡ false
  left_false true b h = cc
  left_false false b h = refl

  leaf_unnamed : (p n : ℕ) → IsOver p → parenthesis_of s p ≡ n → is_name s n ≡ false
  leaf_unnamed p n over e = elim (leaf_known p n e) [
    | inl own ↦ left_false (is_leaf s n) (is_identifier (kind_at s n)) (subst (λ (x : ℕ). is_leaf s x ≡ false) (sym own) (no_leaf (is_leaf s p) refl))
    | inr other ↦ and_false (is_leaf s n) (is_identifier (kind_at s n)) (no_name (kind_at s n) (and_right (is_leaf s n) (is_number (sign_of_kind (kind_at s n)) sign_left_parenthesis) other.2))
  ]
    where
      no_leaf : (b : Bool) → is_leaf s p ≡ b → b ≡ false
      no_leaf true is = absurd (over_leaf p over is)
      no_leaf false is = refl

  -- a list is found by its literal's leaf
  list_is : (n i p : ℕ) → is_a s p_items i ≡ true → parent_of s i ≡ Some p → IsOver p → parenthesis_of s p ≡ n → is_list_of s n i ≡ true
  list_is n i p is parent over e =
      and_both (is_a s p_items i) _ is
      (ap (λ (o : Option ℕ). elim o as (λ _. Bool) [ None ↦ false | Some q ↦ (is_a s p_cast q || is_a s p_unary q) && (parenthesis_of s q == n) ]) parent
      ∙ and_both (is_a s p_cast p || is_a s p_unary p) (parenthesis_of s p == n) over (eq-eqb (parenthesis_of s p) n e))

  list_back : (n j : ℕ) → is_list_of s n j ≡ true → (q : ℕ) × (is_a s p_items j ≡ true) × (parent_of s j ≡ Some q) × IsOver q × (parenthesis_of s q ≡ n)
  list_back n j h = by (parent_of s j) refl (and_right (is_a s p_items j) _ h)
    where
      by : (o : Option ℕ) → parent_of s j ≡ o → (elim o as (λ _. Bool) [ None ↦ false | Some q ↦ (is_a s p_cast q || is_a s p_unary q) && (parenthesis_of s q == n) ]) ≡ true
          → (q : ℕ) × (is_a s p_items j ≡ true) × (parent_of s j ≡ Some q) × IsOver q × (parenthesis_of s q ≡ n)
      by None e k = cc
      by (Some q) e k =
          (q, and_left (is_a s p_items j) _ h, e, and_left (is_a s p_cast q || is_a s p_unary q) (parenthesis_of s q == n) k, eqb-true (parenthesis_of s q) n (and_right (is_a s p_cast q || is_a s p_unary q) (parenthesis_of s q == n) k))

  list_found : (n i p : ℕ) → i < length s.nodes → is_a s p_items i ≡ true → parent_of s i ≡ Some p → IsOver p → parenthesis_of s p ≡ n → first_where (is_list_of s n) (all_nodes s) ≡ Some i
  list_found n i p lt is parent over e =
      found_first (is_list_of s n) 0 (length s.nodes) i (omega arith) (omega (arith, lt)) (list_is n i p is parent over e)
      (λ j h.
      let back = list_back n j h in
      let same : p ≡ back.0 = same_parent p back.0 n over back.3 e back.4 in
      let inside : contains (children_at s p) j ≡ true = subst (λ (x : ℕ). contains (children_at s x) j ≡ true) (sym same) (parent_holds s grown back.0 j back.2) in
      sole (production_at s) 26 (children_at s p) j i (lists_of p over) inside (parent_holds s grown p i parent) back.1 is)

module _ (s : Source) (senses : List Sense) (are : AreSenses s senses) (grown : IsGrown s) (brought : IsBrought s) (i : ℕ) (lt : i < length senses) (p name : ℕ) (t : Ctype) where
  abbrev W : World
  W = world_of s senses i

  abbrev F : ℕ → Sense
  F = known_at s senses i

  abbrev given : Given Outcome
  given = outcome_of W s F (brace W s F p) (shape_for W.fillable most_elements t) (braced W s F (brace W s F p) (view.items_at (seen W s F) s.nodes i))

  module _ (is : is_a s p_items i ≡ true) (parent : parent_of s i ≡ Some p) (over : (is_a s p_cast p || is_a s p_unary p) ≡ true) (named : child_of s p_type_name p ≡ Some name) (type : F name ≡ IsType t) where
    entity_typed : (actions : List Action) → given ≡ Fits (Places actions) → types_declared s senses (opening W s F p) ≡ Some (with_length (new_length W s F t actions) t)
    unfolding whole
    entity_typed actions placed =
        let n : ℕ = opening W s F p in
        let unnamed : is_name s n ≡ false = leaf_unnamed s grown brought p n over refl in
        let found : first_where (is_list_of s n) (all_nodes s) ≡ Some i = list_found s grown brought n i p (let k = are.within in omega (arith, k, lt)) is parent over refl in
        let step : (elim (parent_of s i) as (λ _. Given Sense) [ None ↦ Fits Nothing | Some q ↦ if is_a s p_cast q || is_a s p_unary q then literal_in W s F i q (child_of s p_type_name q) else Fits Nothing ]) ≡ literal_in W s F i p (Some name) =
        ap (λ (o : Option ℕ). elim o as (λ _. Given Sense) [ None ↦ Fits Nothing | Some q ↦ if is_a s p_cast q || is_a s p_unary q then literal_in W s F i q (child_of s p_type_name q) else Fits Nothing ]) parent
        ∙ (ap (λ (b : Bool). if b then literal_in W s F i p (child_of s p_type_name p) else Fits Nothing) over ∙ ap (literal_in W s F i p) named) in
        let has : core_type_of (sense_in senses i) ≡ Some (with_length (new_length W s F t actions) t) =
        fitted (λ x. core_type_of x ≡ Some (with_length (new_length W s F t actions) t)) (literal_in W s F i p (Some name)) (sense_in senses i) (sym step ∙ row_as s senses are p_items i lt is)
        (row_whole W s F i p t actions placed name type) in
        ap (λ (b : Bool). if b then right.entity_type s senses n else rows.literal_type s senses n) unnamed ∙ (ap (option_and_then (λ j. core_type_of (sense_in senses j))) found ∙ has)

    by_given : (g : Given Outcome) → given ≡ g → Gives (PathsStand W s F t) g → Gives (OutcomeStands W (types_declared s senses) s F (opening W s F p) t) g
    by_given (Refuses kind node) e h = tt
    by_given (Fits (NoPlace node)) e h = tt
    by_given (Fits (Places actions)) e h = (entity_typed actions e, h)

    whole_fits : Gives (OutcomeStands W (types_declared s senses) s F (opening W s F p) t) given
    whole_fits = by_given given refl (initials_within s (take i senses) i F (brace W s F p) t (braced W s F (brace W s F p) (view.items_at (seen W s F) s.nodes i)))

pub literals_fit : LiteralsFit
literals_fit s senses are grown brought i lt p name t is parent over named type = whole_fits s senses are grown brought i lt p name t is parent over named type
