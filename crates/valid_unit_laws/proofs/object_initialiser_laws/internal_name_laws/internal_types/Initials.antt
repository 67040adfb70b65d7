-- An initialised internal object has the type that its declarations give together.
use Rattle.std.proofs.Common.{arith, ◌≡◌, ◌<◌, ◌⊎◌, inl, inr, ℕ, Bool, true, false, ◌&&◌, ◌||◌, not, List, [], length, slice_get, Option, Some, None, refl, sym, ap, ◌∙◌, subst}
use Rattle.std.specs.Prelude.{⊤, option_and_then, is_some, if◌then◌else◌}
use Rattle.pta_base.specs.declared.kind.Kind.TheVariants.{Operand}
use Rattle.pta_base.specs.declared.place.Place.{Place}
use Rattle.c_types.specs.Trees.{Ctype, ArrayOf, FunctionFrom}
use Rattle.c_grammar.specs.Productions.{p_rest, p_init}
use Rattle.c_consts.specs.Core.{Core}
use Rattle.c_inits.specs.Made.{shape_for}
use Rattle.c_inits.specs.Initial.{Outcome, Places, NoPlace, Action, lasting, length_given}
use Rattle.c_inits.specs.View as view
use Rattle.c_senses.specs.Tree.{Source, is_a, parent_of}
use Rattle.c_senses.specs.Given.{Given, Fits, ◌>>=◌, given_some}
use Rattle.c_senses.specs.World.{World}
use Rattle.c_senses.specs.Limits.{lacks_a_length, is_function_type}
use Rattle.c_senses.specs.Declarators.{is_outermost, derived}
use Rattle.c_senses.specs.Entities.{with_length, length_seen, entity_of, is_linked, is_internal, is_typedef, is_defined, is_at_file, has_storage, declares_function, is_static_object, specified_of, derived_type, own_type, initialised_by, initialiser_of, initialiser_for, length_given_by, has_function_words, only_extern, is_in_for, is_object_complete, words_go, is_name_complete, types_of}
use Rattle.c_senses.specs.Initialised.{new_length, most_elements, seen, outcome_of, name_of_declarator, made_of, placed_cores, object_initialiser, with_seen, initialised_as, initialised_object, init_in, initialised_fits}
use Rattle.c_senses.specs.Places.{own_place}
use Rattle.c_senses.specs.Right.{of_internal, with_one}
use Rattle.c_senses.specs.Sense.{Sense, Nothing, IsDeclarator, IsInitial, Specified, sense_in}
use Rattle.c_senses.specs.Rows.{AreSenses}
use Rattle.c_grammar.specs.Words.{word_extern, word_static}
use Rattle.parsed_tree_laws.specs.sense_laws.Sound.{Gives}
use Rattle.parsed_tree_laws.proofs.sense_laws.Giving.{then_gives, if_given}
use Rattle.parsed_tree_laws.proofs.sense_laws.Types.{anything}
use Rattle.parsed_tree_laws.proofs.sense_laws.Seen.{initial_length, seen_whole}
use Rattle.parsed_tree_laws.proofs.placed_laws.Climbing.{Grown}
use Rattle.declaration_laws.proofs.declared_type_laws.passed.built_unit_laws.run_laws.Times.{known_at, world_of, known, told_before, row_as, fitted}
use Rattle.declaration_laws.proofs.declared_type_laws.passed.built_unit_laws.run_laws.Automatic.{specified_later}
use Rattle.declaration_laws.specs.declared_type_laws.passed.built_unit_laws.built_rows.Rows.{types_declared}
use Rattle.declaration_laws.proofs.declared_type_laws.plain_names.Later.{initialiser_same}
use Rattle.declaration_laws.specs.declared_type_laws.declared_leaves.Leaves.{IsDeclaredBy}
use Rattle.declaration_laws.specs.declared_type_laws.agreed_internals.PassedOn.{StandsDeclaring}
use Rattle.declaration_laws.specs.function_laws.passed.definition_laws.initialiser_laws.Initialisers.{InitialisersAreOf}
use Rattle.declaration_laws.proofs.joined_types.Joining.{types_joined}
use Rattle.declaration_laws.proofs.whole_types.Wholes.{types_whole}
use Rattle.declaration_laws.specs.declared_type_laws.agreed_internals.PassedOn.{IsDeclaredOnce}
use Rattle.declaration_laws.specs.declared_type_laws.agreed_internals.Agreeing.{AreAgreed}
use Rattle.declaration_laws.proofs.declared_type_laws.agreed_internals.Entities.{both}
use Rattle.valid_unit_laws.specs.object_initialiser_laws.internal_name_laws.internal_types.Internal.{IsEntityType}
use Rattle.valid_unit_laws.proofs.object_initialiser_laws.internal_name_laws.internal_types.Belows.{below_at, function_below}
use Rattle.valid_unit_laws.proofs.object_initialiser_laws.internal_name_laws.internal_types.Asked.{declarator_asked}

some_one : {X : Type 0} → {x y : X} → ◌≡◌ {A = Option X} (Some x) (Some y) → x ≡ y
some_one h = cc

no_both : (b : Bool) → b ≡ true → b ≡ false → ⊥
no_both b e f = let bad : true ≡ false = sym e ∙ f in cc

-- an object is not of a function's type
no_function : (w : World) (s : Source) (f : ℕ → Sense) (t : Ctype) (leaf : ℕ) → is_function_type t ≡ true → is_object_complete w s f true t leaf ≡ false
no_function w s f (FunctionFrom r ps form) leaf is = refl
no_function w s f t leaf is = cc

words_say : (words typedefs function file extern a b c : Bool) → (words && (not (true && (typedefs || (function || (not file && extern)))) && (a && (b && c)))) ≡ true → (typedefs ≡ false) × (function ≡ false) × ((file ≡ true) ⊎ (extern ≡ false))
words_say true false false true extern a b c h = (refl, refl, inl refl)
words_say true false false false false a b c h = (refl, refl, inr refl)
words_say true false false false true a b c h = cc
words_say true true function file extern a b c h = cc
words_say true false true file extern a b c h = cc
words_say false typedefs function file extern a b c h = cc

-- what is initialised is no typedef name, no function, and no `extern` in a block
pub initialised_words : (w : World) (s : Source) (f : ℕ → Sense) (leaf : ℕ) → words_go w s f true leaf ≡ true → (is_typedef s f leaf ≡ false) × (declares_function s f leaf ≡ false) × ((is_at_file s f leaf ≡ true) ⊎ (has_storage s f word_extern leaf ≡ false))
initialised_words w s f leaf h =
    words_say (not (has_function_words w s f leaf && (is_typedef s f leaf || not (declares_function s f leaf)))) (is_typedef s f leaf) (declares_function s f leaf) (is_at_file s f leaf) (has_storage s f word_extern leaf)
    (not (declares_function s f leaf && (not (is_at_file s f leaf) && not (only_extern w s f leaf)))) (not (is_typedef s f leaf && is_defined s f leaf))
    (not (is_in_for w s f leaf && (is_typedef s f leaf || (declares_function s f leaf || (has_storage s f word_static leaf || has_storage s f word_extern leaf))))) h

initialised_object_type : (w : World) (s : Source) (f : ℕ → Sense) (t : Ctype) (leaf : ℕ) → words_go w s f true leaf ≡ true → is_name_complete w s f true t leaf ≡ true → is_function_type t ≡ false
initialised_object_type w s f t leaf words complete = by (is_function_type t) refl
  where
    third : (a b c : Bool) → (a || (b || c)) ≡ true → a ≡ false → b ≡ false → c ≡ true
    third true b c h e g = cc
    third false true c h e g = cc
    third false false c h e g = h

    by : (b : Bool) → is_function_type t ≡ b → b ≡ false
    by true is =
        let said = initialised_words w s f leaf words in
        absurd (no_both (is_object_complete w s f true t leaf) (third (is_typedef s f leaf) (declares_function s f leaf) (is_object_complete w s f true t leaf) complete said.0 said.1) (no_function w s f t leaf is))
    by false is = refl

-- an initialiser's length closes an array
closed_now : (t : Ctype) (n : ℕ) → lacks_a_length (with_length (if lacks_a_length t then Some n else None) t) ≡ false
closed_now (ArrayOf of None) n = refl
closed_now (ArrayOf of (Some k)) n = refl
closed_now t n = refl

still_object : (t : Ctype) (n : Option ℕ) → is_function_type t ≡ false → is_function_type (with_length n t) ≡ false
still_object (ArrayOf of None) (Some n) h = refl
still_object (ArrayOf of None) None h = refl
still_object t None h = h
still_object (ArrayOf of (Some k)) (Some n) h = refl
still_object t (Some n) h = h

-- the sense of an initialiser has the length that it gives
module _ (w : World) (s : Source) (f : ℕ → Sense) (i declarator leaf : ℕ) (t : Ctype) (actions : List Action) (placed : outcome_of w s f i (shape_for w.fillable most_elements t) (view.init_at (seen w s f) s.nodes i) ≡ Fits (Places actions)) where
  abbrev HasLength : Sense → Type 0
  HasLength x = (c : Core) × (x ≡ IsInitial c (new_length w s f t actions))

  made_length : (static : Bool) (entity : ℕ) (place : Place) (o : Outcome) → o ≡ Places actions → Gives (λ m. m.length ≡ new_length w s f t actions) (made_of w s f static entity place t o)
  made_length static entity place (NoPlace node) e = tt
  made_length static entity place (Places others) e =
      let same : others ≡ actions = cc in
      then_gives (λ x. ⊤) (λ m. m.length ≡ new_length w s f t actions) (placed_cores w s f static (with_length (new_length w s f t others) t) (lasting [] others)) _ (anything _) (λ values k. ap (new_length w s f t) same)

  object_length : Gives HasLength (object_initialiser w s f i declarator leaf t)
  object_length =
      then_gives (λ o. o ≡ Places actions) HasLength (outcome_of w s f i (shape_for w.fillable most_elements t) (view.init_at (seen w s f) s.nodes i)) _ (subst (Gives (λ o. o ≡ Places actions)) (sym placed) refl)
      (λ o is.
      then_gives (λ m. m.length ≡ new_length w s f t actions) HasLength (made_of w s f (is_static_object s f leaf) (entity_of s f leaf) (own_place s i) t o) _ (made_length (is_static_object s f leaf) (entity_of s f leaf) (own_place s i) o is)
      (λ m h. if_given HasLength (initialised_fits w s f (with_length m.length t) leaf) Operand leaf (Fits (IsInitial m.initial m.length)) (λ small. (m.initial, ap (IsInitial m.initial) h))))

name_found : (w : World) (s : Source) (f : ℕ → Sense) (x : Sense) (leaf : ℕ) → name_of_declarator w s f x ≡ Some leaf → (ds : _) × (x ≡ IsDeclarator (Some leaf) ds)
name_found w s f (IsDeclarator name ds) leaf e = (ds, ap (λ (o : Option ℕ). IsDeclarator o ds) e)
name_found w s f x leaf e = cc

module _ (s : Source) (tree : Grown s) (of : InitialisersAreOf s) (senses : List Sense) (are : AreSenses s senses) (whole : length senses ≡ length s.nodes) (once : IsDeclaredOnce s senses) (agreed : AreAgreed s senses)
    (typed : (leaf : ℕ) → is_internal s (sense_in senses) leaf ≡ true → IsEntityType s senses leaf) where
  abbrev G : ℕ → Sense
  G = sense_in senses

  abbrev F : ℕ → ℕ → Sense
  F n = known_at s senses n

  abbrev W : ℕ → World
  W n = world_of s senses n

  module _ (i p d leaf : ℕ) (t : Ctype) (actions : List Action) (lt : i < length senses) (is : is_a s p_init i ≡ true) (parent : parent_of s i ≡ Some p) (rest : is_a s p_rest p ≡ true) (by_it : initialised_by s (F i) i ≡ Some d)
      (name : name_of_declarator (W i) s (F i) (F i d) ≡ Some leaf) (type : derived_type s (F i) (specified_of s (F i) leaf) (Some d) ≡ Some t)
      (placed : outcome_of (W i) s (F i) i (shape_for (W i).fillable most_elements (with_length (length_seen s (F i) leaf) t)) (view.init_at (seen (W i) s (F i)) s.nodes i) ≡ Fits (Places actions))
      (internal : is_internal s G leaf ≡ true) (given : initialiser_for s G leaf ≡ Some i) where
    -- the type with the length that was seen of the name
    abbrev S : Ctype
    S = with_length (length_seen s (F i) leaf) t

    abbrev RowIs : Sense → Type 0
    RowIs x = (c : Core) × (x ≡ with_seen (length_seen s (F i) leaf) (IsInitial c (new_length (W i) s (F i) S actions)))

    row_length : RowIs (sense_in senses i)
    row_length =
        let w : World = W i in
        let f : ℕ → Sense = F i in
        let init : Given Sense = init_in w s f i (initialised_by s f i) in
        let step : (elim (parent_of s i) as (λ _. Given Sense) [ None ↦ Fits Nothing | Some q ↦ if is_a s p_rest q then init else Fits Nothing ]) ≡ initialised_as w s f i d leaf t =
        ap (λ (o : Option ℕ). elim o as (λ _. Given Sense) [ None ↦ Fits Nothing | Some q ↦ if is_a s p_rest q then init else Fits Nothing ]) parent
        ∙ (ap (λ (b : Bool). if b then init else Fits Nothing) rest
        ∙ (ap (init_in w s f i) by_it
        ∙ (ap (initialised_object w s f i d) name ∙ ap (λ (o : Option Ctype). given_some o Operand i >>= initialised_as w s f i d leaf) type))) in
        let n : Option ℕ = length_seen s f leaf in
        fitted RowIs (initialised_as w s f i d leaf t) (sense_in senses i) (sym step ∙ row_as s senses are p_init i lt is)
        (then_gives (HasLength w s f i d leaf S actions placed) RowIs (object_initialiser w s f i d leaf S) (λ x. Fits (with_seen n x)) (object_length w s f i d leaf S actions placed) (λ x h. (h.0, ap (with_seen n) h.1)))

    linked : is_linked s G leaf ≡ true
    linked = (both (is_linked s G leaf) _ internal).0

    abbrev U : Ctype
    U = with_length (new_length (W i) s (F i) S actions) S

    -- by the declarator of the name
    module _ (m : ℕ) (stands : StandsDeclaring s m) (outer : is_outermost s m ≡ true) (one : IsDeclaredBy s senses m leaf) where
      abbrev T : Ctype
      T = derived one.derives one.words.type

      own_init : initialiser_of s G m ≡ Some i
      own_init = sym (ap (option_and_then (initialiser_of s G)) one.outermost) ∙ given

      same : m ≡ d
      same = some_one (sym (of (F i) m i stands.1 (initialiser_same s (F i) G m ∙ own_init)) ∙ by_it)

      before : m < i
      before =
          let found = name_found (W i) s (F i) (F i d) leaf name in
          let lt : d < i = told_before s senses i d (IsDeclarator (Some leaf) found.0) found.1 (λ no. cc) in
          let e = same in
          omega (arith, lt, e)

      type_is : t ≡ T
      type_is =
          let told : specified_of s (F i) leaf ≡ Some one.words = specified_later s senses m i leaf one.words one.told (let lt = before in omega (arith, lt)) in
          let base : derived_type s (F i) (specified_of s (F i) leaf) (Some m) ≡ Some T =
          ap (λ (o : Option Specified). derived_type s (F i) o (Some m)) told ∙ ap (λ (y : Sense). elim y as (λ _. Option Ctype) [ IsDeclarator n ds ↦ Some (derived ds one.words.type) | _ ↦ None ]) (known s senses i m before ∙ one.is) in
          some_one (sym type ∙ (ap (λ (k : ℕ). derived_type s (F i) (specified_of s (F i) leaf) (Some k)) (sym same) ∙ base))

      own : own_type s G leaf ≡ Some U
      own =
          once.own leaf m one linked
          ∙ (ap (λ (o : Option ℕ). Some (with_length (length_given_by s G o) T)) own_init
          ∙ (ap (λ (x : Sense). Some (with_length (elim x as (λ _. Option ℕ) [ IsInitial c n ↦ n | _ ↦ None ]) T)) row_length.1
          ∙ (ap (λ (u : Ctype). Some (with_length (initial_length (with_seen (length_seen s (F i) leaf) (IsInitial row_length.0 (new_length (W i) s (F i) S actions)))) u)) (sym type_is)
          ∙ ap Some (seen_whole (W i) s (F i) (length_seen s (F i) leaf) t actions row_length.0))))

      object : is_function_type U ≡ false
      object =
          let short : m < length senses = let a = before in omega (arith, a, lt) in
          let asked = declarator_asked s tree senses are m leaf one short stands outer in
          let some : is_some (initialiser_of s (F m) m) ≡ true = ap is_some (initialiser_same s (F m) G m ∙ own_init) in
          let words : words_go (W m) s (F m) true leaf ≡ true = ap (λ (b : Bool). words_go (W m) s (F m) b leaf) (sym some) ∙ asked.words in
          let complete : is_name_complete (W m) s (F m) true T leaf ≡ true = ap (λ (b : Bool). is_name_complete (W m) s (F m) b T leaf) (sym some) ∙ asked.complete in
          still_object S (new_length (W i) s (F i) S actions) (still_object t (length_seen s (F i) leaf) (ap is_function_type type_is ∙ initialised_object_type (W m) s (F m) T leaf words complete))

      closed : lacks_a_length U ≡ false
      closed = closed_now S (length_given actions)

      initialised : types_declared s senses (entity_of s (F i) leaf) ≡ Some U
      initialised =
          let known_entity = agreed.entity_known leaf m i internal one.outermost (let a = before in omega (arith, a)) in
          let e = typed leaf internal in
          let at = agreed.one_of leaf U internal own in
          let is_whole : U ≡ e.whole = types_whole.complete (types_of s G (of_internal s senses leaf)) e.whole U at.0 (agreed.agree leaf) e.all at.1 closed object in
          ap (types_declared s senses) known_entity ∙ (e.declared ∙ ap Some (pick e is_whole e.which))
        where
          with_same : (u : Ctype) → lacks_a_length u ≡ false → with_one s senses u ≡ u
          with_same u h = ap (λ (b : Bool). if b then with_length (Some 1) u else u) h

          pick : (e : IsEntityType s senses leaf) → U ≡ e.whole → (e.type ≡ with_one s senses e.whole) ⊎ ((k : ℕ) × (slice_get (types_of s G (of_internal s senses leaf)) k ≡ Some e.type) × (is_function_type e.type ≡ true)) → e.type ≡ U
          pick e is_whole (inl same_type) = same_type ∙ (ap (with_one s senses) (sym is_whole) ∙ with_same U closed)
          pick e is_whole (inr one_type) =
              let below = below_at (types_of s G (of_internal s senses leaf)) e.whole one_type.0 e.type (types_joined.below (types_of s G (of_internal s senses leaf)) e.whole (agreed.agree leaf) e.all) one_type.1 in
              absurd (no_both (is_function_type U) (ap is_function_type is_whole ∙ function_below e.type e.whole one_type.2 below) object)

    pub internal_initialised : types_declared s senses (entity_of s (F i) leaf) ≡ Some U
    internal_initialised = let stands = once.stands leaf linked in initialised stands.0 stands.1 stands.2 stands.3
