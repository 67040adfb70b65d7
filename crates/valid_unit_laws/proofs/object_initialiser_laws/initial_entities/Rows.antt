-- What an object's initialiser initialises.
use Rattle.std.proofs.Common.{arith, ◌≡◌, ◌==◌, ◌<◌, ◌≤◌, ◌⊎◌, inl, inr, ℕ, Bool, true, false, ◌&&◌, ◌||◌, not, List, [], length, Option, Some, None, refl, sym, ap, ◌∙◌, subst}
use Rattle.std.specs.Prelude.{⊤, nat_lt, option_and_then, if◌then◌else◌}
use Rattle.std.proofs.lemmas.Bool.{eqb-true}
use Rattle.pta_base.specs.declared.kind.Kind.TheVariants.{Operand}
use Rattle.pta_base.specs.declared.place.Place.{Place}
use Rattle.c_types.specs.Trees.{Ctype}
use Rattle.c_grammar.specs.Productions.{p_external, p_rest, p_declaration, p_declarator, p_abstract, p_either, p_init}
use Rattle.c_grammar.specs.Terminals.{contains}
use Rattle.core_tree.specs.declared.node.NodeKind.TheVariants.{Initialise}
use Rattle.c_consts.specs.Core.{Core, kind_of}
use Rattle.c_inits.specs.Made.{shape_for}
use Rattle.c_inits.specs.Initial.{Outcome, Places, NoPlace, lasting}
use Rattle.c_inits.specs.Shapes.{Path}
use Rattle.c_inits.specs.View as view
use Rattle.c_senses.specs.Tree.{Source, production_at, children_at, is_a, last_where, child_of, parent_of}
use Rattle.c_senses.specs.Given.{Given, Fits}
use Rattle.c_senses.specs.World.{World}
use Rattle.c_senses.specs.Names.{source_of, numbered}
use Rattle.c_senses.specs.Declarators.{is_declarator, is_outermost, outermost_of}
use Rattle.c_senses.specs.Entities.{with_length, length_seen, entity_of, specified_of, derived_type, initialised_by, is_static_object}
use Rattle.c_senses.specs.Initialised.{Made, new_length, most_elements, seen, outcome_of, name_of_declarator, made_of, placed_cores, paths_of, object_initialiser, with_seen, initialised_as, initialised_object, init_in, initialised_fits}
use Rattle.c_senses.specs.Places.{own_place}
use Rattle.c_senses.specs.Sense.{Sense, Nothing, IsDeclarator, IsInitial, Derivation, sense_in}
use Rattle.c_senses.specs.Rows.{AreSenses}
use Rattle.parsed_tree_laws.specs.sense_laws.Sound.{Gives}
use Rattle.parsed_tree_laws.proofs.sense_laws.Giving.{then_gives, if_given, some_given, and_left}
use Rattle.parsed_tree_laws.proofs.sense_laws.Types.{anything}
use Rattle.parsed_tree_laws.proofs.sense_laws.Seen.{initial_length, seen_is}
use Rattle.parsed_tree_laws.proofs.placed_laws.Climbing.{Grown}
use Rattle.core_node_laws.specs.standing_laws.Standing.{IsGrown}
use Rattle.core_node_laws.proofs.standing_laws.Climbing.{in_list, found_where, parent_is, parent_holds}
use Rattle.parsed_tree_laws.specs.grown_parts.Parts.{IsBrought}
use Rattle.parsed_tree_laws.proofs.grown_parts.Reading.{units_bring}
use Rattle.valid_unit_laws.proofs.object_initialiser_laws.internal_name_laws.passed.declared_type_laws.declared_leaves.PassedOn.{known_at, world_of, known, told_before, row_as, fitted}
use Rattle.valid_unit_laws.proofs.object_initialiser_laws.internal_name_laws.passed.declared_type_laws.declared_leaves.PassedOn.{first_in, last_found}
use Rattle.valid_unit_laws.specs.object_initialiser_laws.internal_name_laws.passed.declared_type_laws.declared_leaves.Leaves.{IsDeclaredBy}
use Rattle.valid_unit_laws.proofs.object_initialiser_laws.internal_name_laws.passed.declared_type_laws.declared_leaves.Climbing.{leaves_declared}
use Rattle.valid_unit_laws.proofs.object_initialiser_laws.internal_name_laws.passed.declared_type_laws.known_entities.PassedOn.{node_within}
use Rattle.valid_unit_laws.proofs.object_initialiser_laws.internal_name_laws.passed.declared_type_laws.known_entities.PassedOn.{tree_is}
use Rattle.valid_unit_laws.proofs.object_initialiser_laws.internal_name_laws.text_rows.Fitting.{grown}
use Rattle.valid_unit_laws.specs.object_initialiser_laws.internal_name_laws.passed.declared_type_laws.known_entities.Entities.{IsKnownAt}
use Rattle.valid_unit_laws.proofs.object_initialiser_laws.internal_name_laws.passed.declared_type_laws.known_entities.Known.{entities_known}
use Rattle.valid_unit_laws.specs.object_initialiser_laws.initial_entities.Own.{IsOwnInitial, InitialisersOwn}

name_found : (w : World) (s : Source) (f : ℕ → Sense) (x : Sense) (leaf : ℕ) → name_of_declarator w s f x ≡ Some leaf → (ds : List Derivation) × (x ≡ IsDeclarator (Some leaf) ds)
name_found w s f (IsDeclarator name ds) leaf e = (ds, ap (λ (o : Option ℕ). IsDeclarator o ds) e)
name_found w s f x leaf e = cc

-- what the row of an object's initialiser gives
module _ (w : World) (s : Source) (f : ℕ → Sense) (i : ℕ) where
  record RowGives (x : Sense) : Type 0 where
    declarator : ℕ
    leaf : ℕ
    derives : List Derivation
    core : Core
    length_given : Option ℕ
    paths : List Path
    by_it : initialised_by s f i ≡ Some declarator
    named : f declarator ≡ IsDeclarator (Some leaf) derives
    is : x ≡ IsInitial core length_given
    kind : kind_of core ≡ Initialise (entity_of s f leaf) paths

  abbrev Initialises : ℕ → Made w s f → Type 0
  Initialises entity m = (paths : List Path) × (kind_of m.initial ≡ Initialise entity paths)

  made_gives : (static : Bool) (entity : ℕ) (place : Place) (t : Ctype) (o : Outcome) → Gives (Initialises entity) (made_of w s f static entity place t o)
  made_gives static entity place t (NoPlace node) = tt
  made_gives static entity place t (Places actions) =
      then_gives (λ x. ⊤) (Initialises entity) (placed_cores w s f static (with_length (new_length w s f t actions) t) (lasting [] actions)) _ (anything _) (λ values k. (paths_of w s f (lasting [] actions), refl))

  object_gives : (d leaf : ℕ) (ds : List Derivation) (t : Ctype) → initialised_by s f i ≡ Some d → f d ≡ IsDeclarator (Some leaf) ds → Gives RowGives (object_initialiser w s f i d leaf t)
  object_gives d leaf ds t by_it named =
      then_gives (λ o. ⊤) RowGives (outcome_of w s f i (shape_for w.fillable most_elements t) (view.init_at (seen w s f) s.nodes i)) _ (anything _)
      (λ o k.
      then_gives (Initialises (entity_of s f leaf)) RowGives (made_of w s f (is_static_object s f leaf) (entity_of s f leaf) (own_place s i) t o) _ (made_gives (is_static_object s f leaf) (entity_of s f leaf) (own_place s i) t o)
      (λ m h. if_given RowGives (initialised_fits w s f (with_length m.length t) leaf) Operand leaf (Fits (IsInitial m.initial m.length))
      (λ small. record { declarator = d; leaf = leaf; derives = ds; core = m.initial; length_given = m.length; paths = h.0; by_it = by_it; named = named; is = refl; kind = h.1 })))

  -- with the length that was seen of its name
  seen_row : (n : Option ℕ) (x : Sense) → RowGives x → RowGives (with_seen n x)
  seen_row n x h = record {
    declarator = h.declarator;
    leaf = h.leaf;
    derives = h.derives;
    core = h.core;
    length_given = initial_length (with_seen n (IsInitial h.core h.length_given));
    paths = h.paths;
    by_it = h.by_it;
    named = h.named;
    is = ap (with_seen n) h.is ∙ seen_is n h.length_given h.core;
    kind = h.kind;
  }

  as_gives : (d leaf : ℕ) (ds : List Derivation) (t : Ctype) → initialised_by s f i ≡ Some d → f d ≡ IsDeclarator (Some leaf) ds → Gives RowGives (initialised_as w s f i d leaf t)
  as_gives d leaf ds t by_it named =
      let n : Option ℕ = length_seen s f leaf in
      then_gives RowGives RowGives (object_initialiser w s f i d leaf (with_length n t)) (λ x. Fits (with_seen n x)) (object_gives d leaf ds (with_length n t) by_it named) (λ x h. seen_row n x h)

  named_gives : (d : ℕ) (o : Option ℕ) → initialised_by s f i ≡ Some d → name_of_declarator w s f (f d) ≡ o → Gives RowGives (initialised_object w s f i d o)
  named_gives d None by_it e = tt
  named_gives d (Some leaf) by_it e =
      let found = name_found w s f (f d) leaf e in
      some_given RowGives (derived_type s f (specified_of s f leaf) (Some d)) Operand i (initialised_as w s f i d leaf) (λ t k. as_gives d leaf found.0 t by_it found.1)

  init_gives : (o : Option ℕ) → initialised_by s f i ≡ o → Gives RowGives (init_in w s f i o)
  init_gives None e = tt
  init_gives (Some d) e = named_gives d (name_of_declarator w s f (f d)) e refl

module _ (s : Source) (senses : List Sense) (are : AreSenses s senses) (whole : length senses ≡ length s.nodes) (grown : IsGrown s) (tree : Grown s) (brought : IsBrought s)
    (entities : (leaf m at : ℕ) → outermost_of s leaf ≡ Some m → m ≤ at → IsKnownAt s senses at leaf) where
  abbrev F : ℕ → ℕ → Sense
  F n = known_at s senses n

  -- where the declarator of an initialiser stands
  record Stands (declarator : ℕ) : Type 0 where
    above : ℕ
    is : is_a s p_declarator declarator ≡ true
    inside : contains (children_at s above) declarator ≡ true
    in_rest : (is_a s p_rest above ≡ true) ⊎ ((is_a s p_external above || is_a s p_declaration above) ≡ true)

  stands : (i p d : ℕ) (f : ℕ → Sense) → parent_of s i ≡ Some p → is_a s p_rest p ≡ true → initialised_by s f i ≡ Some d → Stands d
  stands i p d f parent rest by_it = by (last_where (λ j. is_a s p_declarator j && nat_lt j i) (children_at s p)) refl there
    where
      there : (elim (last_where (λ j. is_a s p_declarator j && nat_lt j i) (children_at s p)) as (λ _. Option ℕ) [ Some j ↦ Some j | None ↦ option_and_then (child_of s p_declarator) (parent_of s p) ]) ≡ Some d
      there =
          sym (ap (λ (o : Option ℕ). elim o as (λ _. Option ℕ) [
            | None ↦ None
            | Some q ↦ elim (last_where (λ j. is_a s p_declarator j && nat_lt j i) (children_at s q)) as (λ _. Option ℕ) [ Some j ↦ Some j | None ↦ option_and_then (child_of s p_declarator) (parent_of s q) ]
          ]) parent) ∙ by_it

      up : (o : Option ℕ) → parent_of s p ≡ o → option_and_then (child_of s p_declarator) o ≡ Some d → Stands d
      up None e g = cc
      up (Some a) e g = record {
        above = a;
        is = found_where (is_a s p_declarator) (children_at s a) d g;
        inside = first_in (is_a s p_declarator) (children_at s a) d g;
        in_rest = inr (grown.nested.rests a p (parent_holds s grown a p e) rest);
      }

      by : (o : Option ℕ) → last_where (λ j. is_a s p_declarator j && nat_lt j i) (children_at s p) ≡ o → (elim o as (λ _. Option ℕ) [ Some j ↦ Some j | None ↦ option_and_then (child_of s p_declarator) (parent_of s p) ]) ≡ Some d → Stands d
      by (Some j) last g =
          let at = last_found (λ k. is_a s p_declarator k && nat_lt k i) (children_at s p) d (last ∙ g) in
          record { above = p; is = and_left (is_a s p_declarator d) (nat_lt d i) at.1; inside = at.0; in_rest = inl rest }
      by None last g = up (parent_of s p) refl g

  parent_at : (p c : ℕ) → contains (children_at s p) c ≡ true → parent_of s c ≡ Some p
  parent_at p c h = parent_is s grown p c (in_list (children_at s p) c h)

  -- it is outermost, and its name is no parameter's
  no_form : (q : ℕ) → (q == p_rest) ≡ true ⊎ ((q == p_external || q == p_declaration) ≡ true) → ((q == p_declarator || q == p_abstract) || q == p_either) ≡ false
  no_form q h = elim h [
    | inl e ↦ subst (λ (x : ℕ). ((x == p_declarator || x == p_abstract) || x == p_either) ≡ false) (sym (eqb-true q p_rest e)) refl
    | inr e ↦ two (q == p_external) (q == p_declaration) refl refl e
  ]
    where
      two : (a b : Bool) → (q == p_external) ≡ a → (q == p_declaration) ≡ b → (a || b) ≡ true → ((q == p_declarator || q == p_abstract) || q == p_either) ≡ false
      two true b e f k = subst (λ (x : ℕ). ((x == p_declarator || x == p_abstract) || x == p_either) ≡ false) (sym (eqb-true q p_external e)) refl
      two false true e f k = subst (λ (x : ℕ). ((x == p_declarator || x == p_abstract) || x == p_either) ≡ false) (sym (eqb-true q p_declaration f)) refl
      two false false e f k = cc

  outermost : (d : ℕ) → Stands d → is_outermost s d ≡ true
  outermost d at =
      ap (λ (b : Bool). ((b || is_a s p_abstract d) || is_a s p_either d) && (elim (parent_of s d) as (λ _. Bool) [ None ↦ true | Some q ↦ not (is_declarator s q) ])) at.is
      ∙ (ap (λ (o : Option ℕ). elim o as (λ _. Bool) [ None ↦ true | Some q ↦ not (is_declarator s q) ]) (parent_at at.above d at.inside) ∙ ap not (no_form (production_at s at.above) at.in_rest))

  own : (i p : ℕ) → is_a s p_init i ≡ true → parent_of s i ≡ Some p → is_a s p_rest p ≡ true → IsOwnInitial s senses i
  own i p is parent rest = record {
    declarator = r.declarator;
    leaf = r.leaf;
    derives = r.derives;
    core = r.core;
    length_given = r.length_given;
    paths = r.paths;
    by_it = r.by_it;
    named = named;
    outermost = by_sense.outermost;
    is = r.is;
    kind = r.kind ∙ ap (λ (e : ℕ). Initialise e r.paths) (entities r.leaf r.declarator i by_sense.outermost (let b = before in omega (arith, b))).entity;
  }
    where
      w : World
      w = world_of s senses i

      lt : i < length senses
      lt = subst (λ (n : ℕ). i < n) (sym whole) (node_within s p_init i is refl)

      r : RowGives (world_of s senses i) s (F i) i (sense_in senses i)
      r =
          let init : Given Sense = init_in (world_of s senses i) s (F i) i (initialised_by s (F i) i) in
          let step : (elim (parent_of s i) as (λ _. Given Sense) [ None ↦ Fits Nothing | Some q ↦ if is_a s p_rest q then init else Fits Nothing ]) ≡ init =
          ap (λ (o : Option ℕ). elim o as (λ _. Given Sense) [ None ↦ Fits Nothing | Some q ↦ if is_a s p_rest q then init else Fits Nothing ]) parent ∙ ap (λ (b : Bool). if b then init else Fits Nothing) rest in
          fitted (RowGives (world_of s senses i) s (F i) i) init (sense_in senses i) (sym step ∙ row_as s senses are p_init i lt is) (init_gives (world_of s senses i) s (F i) i (initialised_by s (F i) i) refl)

      before : r.declarator < i
      before = told_before s senses i r.declarator (IsDeclarator (Some r.leaf) r.derives) r.named (λ no. cc)

      named : sense_in senses r.declarator ≡ IsDeclarator (Some r.leaf) r.derives
      named = sym (known s senses i r.declarator before) ∙ r.named

      by_sense : IsDeclaredBy s senses r.declarator r.leaf
      by_sense = leaves_declared.by_sense s senses are tree brought r.declarator r.leaf r.derives (let b = before in let l = lt in omega (arith, b, l)) (outermost r.declarator (stands i p r.declarator (F i) parent rest r.by_it)) named

pub initialisers_own : InitialisersOwn
unfolding source_of
initialisers_own tokens unit tree tag_number senses cut is are whole i p init parent rest =
    let s = numbered tag_number (source_of tokens tree) in
    own s senses are whole (grown tokens unit tree tag_number cut is) (tree_is tokens unit tree is tag_number).grown (units_bring tokens unit tree tag_number is) (λ leaf m at outer le. entities_known tokens unit tree tag_number senses cut is leaf m at outer le) i p init parent rest
