-- The unit with an array of a length that is seen is right for its tree.
use Rattle.std.proofs.Common.{◌≡◌, ℕ, ◌<◌, true, false, List, [], ◌∷◌, Option, Some, None, slice_get, length, inl, inr, refl, sym, ap, subst, arith}
use Rattle.std.specs.Prelude.{pos, ◌⊎◌}
use Rattle.c_types.specs.declared.term.PathStep.TheVariants.{Index}
use Rattle.core_tree.specs.declared.node.Node.{Node}
use Rattle.core_tree.specs.declared.node.Entity.{Entity}
use Rattle.core_tree.specs.declared.node.Unit.{Unit}
use Rattle.core_tree.specs.declared.node.NodeKind.TheVariants.{Number, Initialise}
use Rattle.core_tree.specs.Typed.{CoreTrees, trees_of}
use Rattle.core_tree.specs.Linkages.{Linkages, NodeLinkage, EntityLinkage}
use Rattle.core_tree.specs.Rows.{Initialises, InitialisesIn, InitialisesEntity, int}
use Rattle.core_tree.specs.Valid.{Valid, ValidUnit, Keyed, child_in, entity_at, IsChild}
use Rattle.c_consts.specs.Core.{Core}
use Rattle.c_senses.specs.Tree.{Source}
use Rattle.c_senses.specs.Given.{Fits}
use Rattle.c_senses.specs.Sense.{Sense}
use Rattle.c_senses.specs.Rows.{AreSenses}
use Rattle.c_senses.specs.Right.{Right, Declared, declared_name, IsDeclaredAt, IsEntityOf, IsLiteralOf, IsBody, is_tag, Numbering}
use Rattle.sense_cases.specs.Branches.{source}
use Rattle.sense_cases.specs.Run.{all_senses}
use Rattle.sense_cases.specs.NameTexts as text
use Rattle.sense_cases.proofs.Computing.{computing}
use Rattle.sense_cases.proofs.Running.{come_to}
use Rattle.sense_cases.specs.Cores.{initialised, number}
use Rattle.sense_cases.specs.right_cases.Units.{node, Vectors, unit}
use Rattle.sense_cases.specs.right_cases.Lengths.{types, nodes, entities, first, second, HasParts}
use Rattle.sense_cases.proofs.right_cases.Lists.{each_of, below_each}
use Rattle.sense_cases.proofs.right_cases.Telling.{every, no_literal_declared}
use Rattle.sense_cases.proofs.right_cases.Numbering.{senses_of, place_in, stands_in, free_of, bodiless, some_initial}
use Rattle.sense_cases.proofs.right_cases.LengthsValid.{valid}

-- the unit's trees
abbrev trees : CoreTrees
trees = record { types = types; nodes = nodes; entities = entities }

linked : Linkages trees
unfolding computing
linked = record {
  entities = λ e entity h. each_of (λ k one. EntityLinkage one) entities (tt, (tt, tt)) e entity h;
  nodes = λ i one h. each_of (λ k other. NodeLinkage trees other) nodes (
    record { literal = tt; declared = tt },
    (record { literal = tt; declared = tt }, (record { literal = tt; declared = tt }, tt)),
  ) i one h;
}

-- what the initialiser is, with its entity by its leaf
abbrev its_body : Core
its_body = initialised 19 13 ((Index 0 ∷ []) ∷ (Index 1 ∷ []) ∷ []) (number 1 14 int ∷ number 2 16 int ∷ [])

abbrev numbering : Numbering
numbering = place_in (5 ∷ 19 ∷ [])

once : (c d e : ℕ) → numbering c ≡ Some e → numbering d ≡ Some e → c ≡ d
once c d e g h =
    let a : slice_get (5 ∷ 19 ∷ []) e ≡ Some c = stands_in (5 ∷ 19 ∷ []) c e g in
    let b : slice_get (5 ∷ 19 ∷ []) e ≡ Some d = stands_in (5 ∷ 19 ∷ []) d e h in
    cc

only_initial : (i e : ℕ) → InitialisesIn (slice_get nodes i) e → (i ≡ 2) × (e ≡ 1)
only_initial i e h =
    let o = some_initial (slice_get nodes i) e h in
    each_of (λ k y. InitialisesEntity y.kind e → (k ≡ 2) × (e ≡ 1)) nodes (λ a. absurd a, (λ a. absurd a, (λ a. (refl, sym a), tt))) i o.0 o.1 o.2

module _ (called : List ℕ) (v : Vectors) (parts : HasParts v) where
  abbrev s : Source
  s = source text.seen_before_values

  abbrev senses : List Sense
  senses = senses_of (all_senses s)

  abbrev u : Unit
  u = unit called types v

  are : AreSenses s senses × (length senses ≡ length s.nodes)
  unfolding computing
  are = come_to s (Fits senses) refl

  node_here : (i : ℕ) (x : Node) → slice_get nodes i ≡ Some x → slice_get v.nodes.items i ≡ Some x
  node_here i x h = subst (λ (l : List Node). slice_get l i ≡ Some x) (sym parts.nodes_are) h

  child_here : (i k c : ℕ) → child_in (slice_get nodes i) k ≡ Some c → child_in (slice_get v.nodes.items i) k ≡ Some c
  child_here i k c h = subst (λ (l : List Node). child_in (slice_get l i) k ≡ Some c) (sym parts.nodes_are) h

  entity_here : (i : ℕ) (e : Entity) → slice_get entities i ≡ Some e → slice_get v.entities.items i ≡ Some e
  entity_here i e h = subst (λ (l : List Entity). slice_get l i ≡ Some e) (sym parts.entities_are) h

  valid_unit : ValidUnit u
  valid_unit = record {
    trees =
        subst (λ (l : List Entity). Valid (record { types = types; nodes = v.nodes.items; entities = l })) (sym parts.entities_are)
        (subst (λ (l : List Node). Valid (record { types = types; nodes = l; entities = entities })) (sym parts.nodes_are) valid);
    keys = subst (λ (l : List (Option (List ℕ))). Keyed 0 l) (sym parts.keys) (record { each = refl; once = λ i key e. cc });
    linkages =
        subst (λ (l : List Entity). Linkages (record { types = types; nodes = v.nodes.items; entities = l })) (sym parts.entities_are)
        (subst (λ (l : List Node). Linkages (record { types = types; nodes = l; entities = entities })) (sym parts.nodes_are) linked);
  }

  abbrev Entered : ℕ → Declared → Type 0
  Entered d what = (e : ℕ) × (entity : Entity) × (numbering d ≡ Some e) × (entity_at (trees_of u) e ≡ Some entity) × IsEntityOf numbering u s.unit what entity

  declared : (d : ℕ) (what : Declared) → declared_name s senses d ≡ Some what → Entered d what
  unfolding computing
  declared = every s senses Entered (tt, (tt, (tt, (tt, (tt, ((0, first, refl, entity_here 0 first refl, record { name = refl; unit_is = refl; place = refl; type = refl; linkage = refl; storage = refl; owner = tt; body = tt }), (tt, (tt, (tt, (tt, (tt, (tt, (tt, (tt, (tt, (tt, (tt, (tt, (tt, ((1, second, refl, entity_here 1 second refl, record { name = refl; unit_is = refl; place = refl; type = refl; linkage = refl; storage = refl; owner = tt; body = (node (Initialise 1 ((Index 0 ∷ []) ∷ (Index 1 ∷ []) ∷ [])) 13 2 (0 ∷ 1 ∷ []), node_here 2 (node (Initialise 1 ((Index 0 ∷ []) ∷ (Index 1 ∷ []) ∷ [])) 13 2 (0 ∷ 1 ∷ [])) refl, (refl, refl), refl, refl, (0, 1 ∷ [], refl, (node (Number (pos 1)) 14 0 [], node_here 0 (node (Number (pos 1)) 14 0 []) refl, refl, refl, refl, refl), (1, [], refl, (node (Number (pos 2)) 16 0 [], node_here 1 (node (Number (pos 2)) 16 0 []) refl, refl, refl, refl, refl), refl))) }), (tt, (tt, (tt, (tt, (tt, (tt, (tt, (tt, (tt, (tt, (tt, (tt, (tt, (tt, (tt, (tt, (tt, (tt, (tt, (tt, (tt, (tt, (tt, (tt, (tt, tt)))))))))))))))))))))))))))))))))))))))))))))

  no_literal : (i : ℕ) (c : Core) → IsLiteralOf s senses i c → ⊥
  unfolding computing
  no_literal = no_literal_declared s senses (tt, (tt, (tt, (tt, (tt, ((λ body h. bodiless body h), (tt, (tt, (tt, (tt, (tt, (tt, (tt, (tt, (tt, (tt, (tt, (tt, (tt, (free_of its_body (tt, ((tt, tt), ((tt, tt), tt))), (tt, (tt, (tt, (tt, (tt, (tt, (tt, (tt, (tt, (tt, (tt, (tt, (tt, (tt, (tt, (tt, (tt, (tt, (tt, (tt, (tt, (tt, (tt, (tt, (tt, tt)))))))))))))))))))))))))))))))))))))))))))))

  each_declared : (d : ℕ) (what : Declared) → IsDeclaredAt s senses d what → Entered d what
  each_declared d what (inl h) = declared d what h
  each_declared d what (inr h) = absurd (no_literal d h.0 h.1)

  no_other_entity : (e : ℕ) → e < length v.entities.items → (d : ℕ) × (what : Declared) × IsDeclaredAt s senses d what × (numbering d ≡ Some e)
  unfolding computing
  no_other_entity e lt =
      below_each (λ k. (d : ℕ) × (what : Declared) × IsDeclaredAt s senses d what × (numbering d ≡ Some k)) entities ((5, _, inl refl, refl), ((19, _, inl refl, refl), tt)) e
      (subst (λ (l : List Entity). e < length l) parts.entities_are lt)

  untagged : (d : ℕ) → is_tag s d ≡ false
  unfolding computing
  untagged d = refl

  no_tag : (d : ℕ) → is_tag s d ≡ true → ⊥
  no_tag d h = let f : is_tag s d ≡ false = untagged d in cc

  initialises_once : (i e : ℕ) → Initialises (trees_of u) i e → (entity : Entity) × (entity_at (trees_of u) e ≡ Some entity) × (entity.body ≡ Some i)
  initialises_once i e h =
      let only = only_initial i e (subst (λ (l : List Node). InitialisesIn (slice_get l i) e) parts.nodes_are h) in
      (second, entity_here e second (subst (λ (k : ℕ). slice_get entities k ≡ Some second) (sym only.1) refl), ap Some (sym only.0))

  stands : (i : ℕ) → i < length v.nodes.items → IsBody u i ⊎ ((q : ℕ) × IsChild (trees_of u) q i)
  stands i lt =
      below_each (λ k. IsBody u k ⊎ ((q : ℕ) × IsChild (trees_of u) q k)) nodes (
        inr (2, (0, child_here 2 0 0 refl)),
        (inr (2, (1, child_here 2 1 1 refl)), (inl (1, second, entity_here 1 second refl, refl), tt)),
      ) i
      (subst (λ (l : List Node). i < length l) parts.nodes_are lt)

  pub right : Right s called u
  right = record {
    valid = valid_unit;
    named = refl;
    senses = senses;
    are_senses = are.0;
    whole = are.1;
    numbering = numbering;
    entity_once = once;
    each_declared = each_declared;
    no_other_entity = no_other_entity;
    tag_once = λ c d h k e. absurd (no_tag c h);
    each_tag = λ d h. absurd (no_tag d h);
    no_other_tag = λ t lt. absurd (omega (arith, lt));
    members = λ d h. absurd (no_tag d h);
    keys = record {
      none = λ d h e. absurd (no_tag d h);
      first = λ d key h e before. absurd (no_tag d h);
      again = λ c d key h e lt k f. absurd (no_tag d h);
    };
    initialises_once = initialises_once;
    no_other_node = stands;
  }
