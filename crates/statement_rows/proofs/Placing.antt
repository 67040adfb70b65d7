-- Automatic objects by what is asked of their declarations.
use Rattle.std.proofs.Common.{arith, ◌≡◌, ℕ, zero, suc, ◌<◌, ◌≤◌, Bool, true, false, not, ◌&&◌, ◌||◌, ◌==◌, ◌⊎◌, inl, inr, cond, List, [], ◌∷◌, ◌++◌, Option, Some, None, option_and_then, option_map, length, slice_get, refl, sym, ap, ◌∙◌, subst}
use Rattle.std.specs.Prelude.{is_none, if◌then◌else◌}
use Rattle.std.proofs.lemmas.Bool.{eqb-true}
use Rattle.std.proofs.lemmas.Option.{slice_get_past}
use Rattle.core_tree.specs.declared.node.Storage.{Storage}
use Rattle.core_tree.specs.declared.node.Storage.TheVariants.{Static, Automatic, FunctionBody, Parameter as ParameterStorage, Declared}
use Rattle.c_grammar.specs.Terminals.{contains}
use Rattle.c_grammar.specs.Productions.{p_external, p_parameter, p_rest, p_declaration, p_declarator}
use Rattle.c_grammar.specs.Words.{word_extern, word_static}
use Rattle.c_senses.specs.Tree.{Source, is_a, children_at, children_of, first_where, parent_of, above_within, numbers_from}
use Rattle.c_senses.specs.Declarators.{outermost_of, is_outermost, declaration_around, specs_of}
use Rattle.c_senses.specs.World.{World}
use Rattle.c_senses.specs.Sense.{Sense, IsDeclarator}
use Rattle.c_senses.specs.Entities.{is_typedef, is_parameter, declares_function, is_defined, has_storage, initialiser_for, is_static_object, is_at_file, specified, own_type, parameter_type, derived_type, with_length, length_given_by, initialiser_of}
use Rattle.c_senses.specs.Statements.{is_automatic_object, automatic_name, objects_among, objects_in_rest, objects_declared, objects_in}
use Rattle.parsed_tree_laws.specs.sense_laws.Senses.{ChildrenFirst}
use Rattle.c_statements.specs.Parts.{gathered}
use Rattle.statement_rows.specs.Parts.{name_in, is_placed, object_at, objects_at}

-- the first answer of four questions that is yes
pub first_holds : (a b c d : Bool) → true ≡ a → true ≡ (a || (b || (c || d)))
first_holds true b c d e = refl
first_holds false b c d e = cc

pub second_holds : (a b c d : Bool) → true ≡ b → true ≡ (a || (b || (c || d)))
second_holds true b c d e = refl
second_holds false true c d e = refl
second_holds false false c d e = cc

pub third_holds : (a b c d : Bool) → true ≡ c → true ≡ (a || (b || (c || d)))
third_holds true b c d e = refl
third_holds false true c d e = refl
third_holds false false true d e = refl
third_holds false false false d e = cc

pub last_answers : (a b c d x : Bool) → false ≡ a → false ≡ b → false ≡ c → x ≡ d → x ≡ (a || (b || (c || d)))
last_answers true b c d x e f g h = cc
last_answers false true c d x e f g h = cc
last_answers false false true d x e f g h = cc
last_answers false false false d x e f g h = h

-- a declared name is an automatic object by these answers
abbrev pub is_automatic : Storage → Bool
is_automatic storage = elim storage [ Automatic ↦ true | _ ↦ false ]

abbrev pub by_answers : Bool → Bool → Bool → Bool → Bool → Bool → Bool → Bool
by_answers typedefs parameter function defined external none static =
    not typedefs && is_automatic (if parameter then ParameterStorage else if function then (if defined then FunctionBody else Declared) else if external && none then Declared else if static then Static else Automatic)

no_function : (t p d e n g : Bool) → false ≡ by_answers t p true d e n g
no_function true p d e n g = refl
no_function false true d e n g = refl
no_function false false true e n g = refl
no_function false false false e n g = refl

placed_or_not : (p d e n at st : Bool) → not (p || (at || (st || e))) ≡ by_answers false p false d e n (at || (st || e))
placed_or_not true d e n at st = refl
placed_or_not false d true true true st = refl
placed_or_not false d true true false true = refl
placed_or_not false d true true false false = refl
placed_or_not false d true false true st = refl
placed_or_not false d true false false true = refl
placed_or_not false d true false false false = refl
placed_or_not false d false n true st = refl
placed_or_not false d false n false true = refl
placed_or_not false d false n false false = refl

module _ (w : World) (s : Source) (sense : ℕ → Sense) (leaf : ℕ) where
  abbrev answered : Bool → Bool → Bool
  answered typedefs function =
      by_answers typedefs (is_parameter s sense leaf) function (is_defined s sense leaf) (has_storage s sense word_extern leaf) (is_none (initialiser_for s sense leaf)) (is_static_object s sense leaf)

  pub typedef_name : true ≡ is_typedef s sense leaf → false ≡ is_automatic_object w s sense leaf
  typedef_name e = ap (λ (b : Bool). answered b (declares_function s sense leaf)) e

  pub function_name : true ≡ declares_function s sense leaf → false ≡ is_automatic_object w s sense leaf
  function_name e =
      no_function (is_typedef s sense leaf) (is_parameter s sense leaf) (is_defined s sense leaf) (has_storage s sense word_extern leaf) (is_none (initialiser_for s sense leaf)) (is_static_object s sense leaf)
      ∙ ap (λ (b : Bool). answered (is_typedef s sense leaf) b) e

  pub object_name : (placed : Bool) → false ≡ is_typedef s sense leaf → false ≡ declares_function s sense leaf → placed ≡ is_placed s sense leaf → not placed ≡ is_automatic_object w s sense leaf
  object_name placed e f h =
      ap not h
      ∙ (placed_or_not (is_parameter s sense leaf) (is_defined s sense leaf) (has_storage s sense word_extern leaf) (is_none (initialiser_for s sense leaf)) (is_at_file s sense leaf) (has_storage s sense word_static leaf)
      ∙ (ap (λ (b : Bool). answered b false) e ∙ ap (λ (b : Bool). answered (is_typedef s sense leaf) b) f))

-- nothing stands around a leaf past the tree
none_found : (test : ℕ → Bool) (list : List ℕ) → ((p : ℕ) → test p ≡ true → ⊥) → first_where test list ≡ None
none_found test [] fails = refl
none_found test (p ∷ list) fails = by_test (test p) refl (none_found test list fails)
  where
    by_test : (b : Bool) → test p ≡ b → first_where test list ≡ None → cond b (Some p) (first_where test list) ≡ None
    by_test true e rest = absurd (fails p e)
    by_test false e rest = rest

or_either : (a b : Bool) → (a || b) ≡ true → (a ≡ true) ⊎ (b ≡ true)
or_either true b e = inl refl
or_either false b e = inr e

contained_at : (list : List ℕ) (i : ℕ) → contains list i ≡ true → (k : ℕ) × (slice_get list k ≡ Some i)
contained_at [] i e = absurd (cc)
contained_at (c ∷ list) i e =
    elim (or_either (c == i) (contains list i) e) as (λ x. (k : ℕ) × (slice_get (c ∷ list) k ≡ Some i)) [
      | inl same ↦ (0, ap Some (eqb-true c i same))
      | inr later ↦ (suc (contained_at list i later).0, (contained_at list i later).1)
    ]

empty_get : (k i : ℕ) → slice_get {X = ℕ} [] k ≡ Some i → ⊥
empty_get zero i e = cc
empty_get (suc k) i e = cc

module _ (s : Source) (first : ChildrenFirst s) (leaf : ℕ) (past : length s.nodes ≤ leaf) where
  no_parent : parent_of s leaf ≡ None
  no_parent = none_found (λ p. contains (children_at s p) leaf) (numbers_from 0 (length s.nodes)) above_none
    where
      above_none : (p : ℕ) → contains (children_at s p) leaf ≡ true → ⊥
      above_none p e =
          let found = contained_at (children_at s p) leaf e in
          let below : leaf < p = first p found.0 leaf found.1 in
          let gone : slice_get s.nodes p ≡ None = slice_get_past s.nodes p (omega arith) in
          let none : children_at s p ≡ [] = ap children_of gone in
          empty_get found.0 leaf (subst (λ (l : List ℕ). slice_get l found.0 ≡ Some leaf) none found.1)

  none_above : (test : ℕ → Bool) (n : ℕ) → above_within s test n None ≡ None
  none_above test zero = refl
  none_above test (suc n) = refl

  no_outermost : outermost_of s leaf ≡ None
  no_outermost = ap (λ (o : Option ℕ). above_within s (is_outermost s) (length s.nodes) o) no_parent ∙ none_above (is_outermost s) (length s.nodes)

  abbrev declared_by : Option ℕ → Option ℕ
  declared_by o = option_and_then (declaration_around s) (option_and_then (parent_of s) o)

  pub not_placed : (sense : ℕ → Sense) → false ≡ is_placed s sense leaf
  not_placed sense =
      sym (ap (λ (o : Option ℕ).
      (elim (declared_by o) [ None ↦ false | Some p ↦ is_a s p_parameter p ])
      || ((elim (declared_by o) [ None ↦ false | Some p ↦ is_a s p_external p ])
      || ((elim (specified s sense (option_and_then (specs_of s) o)) [ None ↦ false | Some x ↦ contains x.storage word_static ])
      || (elim (specified s sense (option_and_then (specs_of s) o)) [ None ↦ false | Some x ↦ contains x.storage word_extern ])))) no_outermost)

  pub no_own_type : (sense : ℕ → Sense) → own_type s sense leaf ≡ None
  no_own_type sense =
      ap (λ (o : Option ℕ).
      if (elim (declared_by o) [ None ↦ false | Some p ↦ is_a s p_parameter p ]) then parameter_type s sense (declared_by o)
      else option_map (with_length (length_given_by s sense (option_and_then (initialiser_of s sense) o))) (derived_type s sense (specified s sense (option_and_then (specs_of s) o)) o)) no_outermost

-- the objects of some nodes, one by one
module _ (w : World) (s : Source) (sense : ℕ → Sense) where
  abbrev pub by_name : Option ℕ → List ℕ
  by_name None = []
  by_name (Some leaf) = if is_automatic_object w s sense leaf then leaf ∷ [] else []

  pub automatic_by : (x : Sense) → by_name (name_in x) ≡ automatic_name w s sense x
  automatic_by (IsDeclarator (Some leaf) ds) = refl
  automatic_by (IsDeclarator None ds) = refl
  automatic_by x = refl

  chosen : (b : Bool) (x xs : List ℕ) → cond b x [] ++ xs ≡ cond b (x ++ xs) xs
  chosen true x xs = refl
  chosen false x xs = refl

  pub among_gathered : (list : List ℕ) → gathered (object_at w s sense) list ≡ objects_among w s sense list
  among_gathered [] = refl
  among_gathered (c ∷ rest) =
      chosen (is_a s p_declarator c) (automatic_name w s sense (sense c)) (gathered (object_at w s sense) rest)
      ∙ ap (λ (l : List ℕ). cond (is_a s p_declarator c) (automatic_name w s sense (sense c) ++ l) l) (among_gathered rest)

  pub objects_gathered : (list : List ℕ) → gathered (objects_at w s sense) list ≡ objects_in w s sense list
  objects_gathered [] = refl
  objects_gathered (c ∷ rest) =
      chosen (is_a s p_declaration c) (objects_declared w s sense c) (gathered (objects_at w s sense) rest)
      ∙ ap (λ (l : List ℕ). cond (is_a s p_declaration c) (objects_declared w s sense c ++ l) l) (objects_gathered rest)

  abbrev pub by_rest : Option ℕ → List ℕ
  by_rest None = []
  by_rest (Some c) = objects_among w s sense (children_at s c)

  rest_here : (b : Bool) (c : ℕ) (later : Option ℕ) (rest : List ℕ) → by_rest later ≡ rest → by_rest (cond b (Some c) later) ≡ cond b (objects_among w s sense (children_at s c)) rest
  rest_here true c later rest e = refl
  rest_here false c later rest e = e

  pub rest_found : (list : List ℕ) → by_rest (first_where (is_a s p_rest) list) ≡ objects_in_rest w s sense list
  rest_found [] = refl
  rest_found (c ∷ rest) = rest_here (is_a s p_rest c) c (first_where (is_a s p_rest) rest) (objects_in_rest w s sense rest) (rest_found rest)
