-- The entities that initialisers initialise.
use Rattle.std.proofs.Common.{arith, ◌≡◌, ◌<◌, ◌≤◌, ℕ, Bool, true, List, length, Option, Some, None, refl, sym, ap, ◌∙◌, subst}
use Rattle.std.specs.Prelude.{if◌then◌else◌}
use Rattle.pta_base.specs.declared.kind.Kind.TheVariants.{Operand}
use Rattle.c_types.specs.Trees.{Ctype}
use Rattle.c_grammar.specs.Productions.{p_rest, p_init}
use Rattle.core_tree.specs.Rows.{IsFunction}
use Rattle.c_inits.specs.Made.{shape_for}
use Rattle.c_inits.specs.Initial.{Outcome, Places, NoPlace, Action}
use Rattle.c_inits.specs.View as view
use Rattle.c_senses.specs.Tree.{Source, is_a, parent_of}
use Rattle.c_senses.specs.Given.{Given, Fits, Refuses, ◌>>=◌, given_if}
use Rattle.c_senses.specs.World.{World}
use Rattle.c_senses.specs.Names.{source_of, numbered}
use Rattle.c_senses.specs.Entities.{with_length, length_seen, entity_of, specified_of, derived_type, initialised_by, is_static_object}
use Rattle.c_senses.specs.Initialised.{new_length, most_elements, seen, outcome_of, name_of_declarator, made_of, object_initialiser, with_seen, initialised_as, initialised_object, init_in, initialised_fits}
use Rattle.c_senses.specs.Places.{own_place}
use Rattle.c_senses.specs.Sense.{Sense, Nothing, IsDeclarator, IsInitial, Derivation, sense_in}
use Rattle.c_senses.specs.Rows.{AreSenses}
use Rattle.parsed_tree_laws.specs.sense_laws.Sound.{Gives}
use Rattle.parsed_tree_laws.proofs.sense_laws.Giving.{then_gives, some_given}
use Rattle.core_node_laws.proofs.built_unit_laws.run_laws.Times.{known_at, world_of, told_before, row_as, fitted}
use Rattle.valid_unit_laws.proofs.object_initialiser_laws.internal_name_laws.passed.declared_type_laws.plain_names.Later.{known_later}
use Rattle.core_node_laws.specs.built_unit_laws.built_rows.Rows.{types_declared}
use Rattle.valid_unit_laws.specs.object_initialiser_laws.initial_entities.PassedOn.{TypesFit}
use Rattle.valid_unit_laws.specs.object_initialiser_laws.internal_name_laws.passed.declared_type_laws.known_entities.Entities.{IsKnownAt}
use Rattle.valid_unit_laws.proofs.object_initialiser_laws.internal_name_laws.passed.declared_type_laws.known_entities.Known.{entities_known}
use Rattle.valid_unit_laws.specs.object_initialiser_laws.initial_entities.Own.{IsOwnInitial}
use Rattle.valid_unit_laws.specs.object_initialiser_laws.initialised_objects.Initialised.{IsObject, InitialsAreObjects}
use Rattle.valid_unit_laws.proofs.object_initialiser_laws.initialised_objects.Shapes.{function_below, outcome_object, has_sense}

some_one : {X : Type 0} → {x y : X} → ◌≡◌ {A = Option X} (Some x) (Some y) → x ≡ y
some_one h = cc

name_found : (w : World) (s : Source) (f : ℕ → Sense) (x : Sense) (leaf : ℕ) → name_of_declarator w s f x ≡ Some leaf → (ds : List Derivation) × (x ≡ IsDeclarator (Some leaf) ds)
name_found w s f (IsDeclarator name ds) leaf e = (ds, ap (λ (o : Option ℕ). IsDeclarator o ds) e)
name_found w s f x leaf e = cc

-- what the row of an object's initialiser asks
module _ (w : World) (s : Source) (f : ℕ → Sense) (i : ℕ) where
  -- a type with the length that was seen of its name
  abbrev seen_type : ℕ → Ctype → Ctype
  seen_type leaf t = with_length (length_seen s f leaf) t

  record RowAsks : Type 0 where
    declarator : ℕ
    leaf : ℕ
    type : Ctype
    actions : List Action
    by_it : initialised_by s f i ≡ Some declarator
    name : name_of_declarator w s f (f declarator) ≡ Some leaf
    typed : derived_type s f (specified_of s f leaf) (Some declarator) ≡ Some type
    placed : outcome_of w s f i (shape_for w.fillable most_elements (seen_type leaf type)) (view.init_at (seen w s f) s.nodes i) ≡ Fits (Places actions)
    object : IsFunction (seen_type leaf type) → ⊥

  abbrev behind : ℕ → Ctype → Outcome → Given Sense
  behind leaf t o = made_of w s f (is_static_object s f leaf) (entity_of s f leaf) (own_place s i) t o >>= (λ made. given_if (initialised_fits w s f (with_length made.length t) leaf) Operand leaf (Fits (IsInitial made.initial made.length)))

  object_gives : (d leaf : ℕ) (t : Ctype) → initialised_by s f i ≡ Some d → name_of_declarator w s f (f d) ≡ Some leaf → derived_type s f (specified_of s f leaf) (Some d) ≡ Some t → Gives (λ x. RowAsks) (object_initialiser w s f i d leaf (seen_type leaf t))
  object_gives d leaf t by_it name typed = by (outcome_of w s f i (shape_for w.fillable most_elements (seen_type leaf t)) (view.init_at (seen w s f) s.nodes i)) refl (outcome_object w s f i w.fillable most_elements (seen_type leaf t) (view.init_at (seen w s f) s.nodes i))
    where
      asks : (g : Given Sense) → RowAsks → Gives (λ x. RowAsks) g
      asks (Fits x) h = h
      asks (Refuses kind node) h = tt

      by : (o : Given Outcome) → outcome_of w s f i (shape_for w.fillable most_elements (seen_type leaf t)) (view.init_at (seen w s f) s.nodes i) ≡ o → Gives (λ x. IsFunction (seen_type leaf t) → ⊥) o → Gives (λ x. RowAsks) (o >>= behind leaf (seen_type leaf t))
      by (Refuses kind node) e h = tt
      by (Fits (NoPlace node)) e h = tt
      by (Fits (Places actions)) e h = asks (behind leaf (seen_type leaf t) (Places actions)) (record { declarator = d; leaf = leaf; type = t; actions = actions; by_it = by_it; name = name; typed = typed; placed = e; object = h })

  as_gives : (d leaf : ℕ) (t : Ctype) → initialised_by s f i ≡ Some d → name_of_declarator w s f (f d) ≡ Some leaf → derived_type s f (specified_of s f leaf) (Some d) ≡ Some t → Gives (λ x. RowAsks) (initialised_as w s f i d leaf t)
  as_gives d leaf t by_it name typed =
      then_gives (λ x. RowAsks) (λ x. RowAsks) (object_initialiser w s f i d leaf (seen_type leaf t)) (λ x. Fits (with_seen (length_seen s f leaf) x)) (object_gives d leaf t by_it name typed) (λ x h. h)

  named_gives : (d : ℕ) (o : Option ℕ) → initialised_by s f i ≡ Some d → name_of_declarator w s f (f d) ≡ o → Gives (λ x. RowAsks) (initialised_object w s f i d o)
  named_gives d None by_it e = tt
  named_gives d (Some leaf) by_it e =
      some_given (λ x. RowAsks) (derived_type s f (specified_of s f leaf) (Some d)) Operand i (initialised_as w s f i d leaf) (λ t k. as_gives d leaf t by_it e k)

  init_gives : (o : Option ℕ) → initialised_by s f i ≡ o → Gives (λ x. RowAsks) (init_in w s f i o)
  init_gives None e = tt
  init_gives (Some d) e = named_gives d (name_of_declarator w s f (f d)) e refl

module _ (s : Source) (senses : List Sense) (are : AreSenses s senses) (fit : TypesFit s senses) (i p : ℕ) (lt : i < length senses) (is : is_a s p_init i ≡ true) (parent : parent_of s i ≡ Some p) (rest : is_a s p_rest p ≡ true) (own : IsOwnInitial s senses i)
    (known : (at : ℕ) → own.declarator ≤ at → IsKnownAt s senses at own.leaf) where
  asked : RowAsks (world_of s senses i) s (known_at s senses i) i
  asked =
      let w : World = world_of s senses i in
      let f : ℕ → Sense = known_at s senses i in
      let init : Given Sense = init_in w s f i (initialised_by s f i) in
      let step : (elim (parent_of s i) as (λ _. Given Sense) [ None ↦ Fits Nothing | Some q ↦ if is_a s p_rest q then init else Fits Nothing ]) ≡ init =
      ap (λ (o : Option ℕ). elim o as (λ _. Given Sense) [ None ↦ Fits Nothing | Some q ↦ if is_a s p_rest q then init else Fits Nothing ]) parent ∙ ap (λ (b : Bool). if b then init else Fits Nothing) rest in
      fitted (λ x. RowAsks w s f i) init (sense_in senses i) (sym step ∙ row_as s senses are p_init i lt is) (init_gives w s f i (initialised_by s f i) refl)

  object : IsObject s senses (entity_of s (sense_in senses) own.leaf)
  object t e function = of_row asked
    where
      leaves : {a b : ℕ} {ds es : List Derivation} → IsDeclarator (Some a) ds ≡ IsDeclarator (Some b) es → a ≡ b
      leaves h = cc

      of_row : RowAsks (world_of s senses i) s (known_at s senses i) i → ⊥
      of_row r =
          let w : World = world_of s senses i in
          let f : ℕ → Sense = known_at s senses i in
          let found = name_found w s f (f r.declarator) r.leaf r.name in
          let before : r.declarator < i = told_before s senses i r.declarator (IsDeclarator (Some r.leaf) found.0) found.1 (λ no. cc) in
          let sense : sense_in senses r.declarator ≡ IsDeclarator (Some r.leaf) found.0 = known_later s senses i r.declarator (IsDeclarator (Some r.leaf) found.0) found.1 (λ no. cc) in
          let one : r.declarator ≡ own.declarator = some_one (sym r.by_it ∙ own.by_it) in
          let leaf : r.leaf ≡ own.leaf = leaves (sym sense ∙ (ap (sense_in senses) one ∙ own.named)) in
          let entity : entity_of s f r.leaf ≡ entity_of s (sense_in senses) own.leaf = ap (entity_of s f) leaf ∙ (known i (omega (arith, before, one))).entity in
          let typed = fit.objects i lt p r.declarator r.leaf r.type r.actions is parent rest r.by_it r.name r.typed r.placed in
          let u : Ctype = seen_type w s f i r.leaf r.type in
          let same : with_length (new_length w s f u r.actions) u ≡ t = some_one (sym typed ∙ (ap (types_declared s senses) entity ∙ e)) in
          r.object (function_below (new_length w s f u r.actions) u (subst IsFunction (sym same) function))

pub initials_are_objects : InitialsAreObjects
initials_are_objects tokens unit tree tag_number senses cut is are fit i p init parent rest own =
    let s = numbered tag_number (source_of tokens tree) in
    object s senses are fit i p (has_sense s senses i (IsInitial own.core own.length_given) own.is (λ no. cc)) init parent rest own (λ at le. entities_known tokens unit tree tag_number senses cut is own.leaf own.declarator at own.outermost le)
