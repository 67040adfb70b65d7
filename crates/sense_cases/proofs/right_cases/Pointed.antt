-- The unit with a pointer is right for its tree.
use Rattle.std.proofs.Common.{◌≡◌, ℕ, ◌<◌, true, false, List, [], ◌∷◌, Option, Some, slice_get, length, inl, inr, refl, sym, subst, arith}
use Rattle.std.specs.Prelude.{pos, ◌⊎◌}
use Rattle.core_tree.specs.declared.node.Node.{Node}
use Rattle.core_tree.specs.declared.node.Entity.{Entity}
use Rattle.core_tree.specs.declared.node.Unit.{Unit}
use Rattle.core_tree.specs.declared.node.NodeKind.TheVariants.{Named, Number, AddressOf, Assign, Expression, Block, Return}
use Rattle.core_tree.specs.Typed.{CoreTrees, trees_of}
use Rattle.core_tree.specs.Linkages.{Linkages, NodeLinkage, EntityLinkage}
use Rattle.core_tree.specs.Rows.{Initialises, InitialisesIn, InitialisesEntity}
use Rattle.core_tree.specs.Valid.{Valid, ValidUnit, Keyed, child_in, entity_at, IsChild}
use Rattle.c_consts.specs.Core.{Core}
use Rattle.c_senses.specs.Tree.{Source}
use Rattle.c_senses.specs.Given.{Fits}
use Rattle.c_senses.specs.Sense.{Sense}
use Rattle.c_senses.specs.Rows.{AreSenses}
use Rattle.c_senses.specs.Right.{Right, Declared, declared_name, IsDeclaredAt, IsEntityOf, IsLiteralOf, IsBody, is_tag, Numbering}
use Rattle.sense_cases.specs.Branches.{source}
use Rattle.sense_cases.specs.Run.{all_senses}
use Rattle.sense_cases.proofs.Computing.{computing}
use Rattle.sense_cases.proofs.Running.{come_to}
use Rattle.core_tree.specs.Rows.{int}
use Rattle.sense_cases.specs.Cores.{ints, block, expression, assigned, object, addressed, returned, number}
use Rattle.sense_cases.specs.right_cases.Units.{node, Vectors, unit}
use Rattle.sense_cases.specs.right_cases.Pointed.{tree, types, nodes, entities, x, p, main, HasParts}
use Rattle.sense_cases.proofs.right_cases.Lists.{each_of, below_each}
use Rattle.sense_cases.proofs.right_cases.Telling.{every, no_literal_declared}
use Rattle.sense_cases.proofs.right_cases.Numbering.{senses_of, place_in, stands_in, free_of, some_initial}
use Rattle.sense_cases.proofs.right_cases.PointedValid.{valid}

-- the unit's trees
abbrev trees : CoreTrees
trees = record { types = types; nodes = nodes; entities = entities }

linked : Linkages trees
unfolding computing
linked = record {
  entities = λ e entity h. each_of (λ k one. EntityLinkage one) entities (tt, (tt, (tt, tt))) e entity h;
  nodes = λ n one h. each_of (λ k other. NodeLinkage trees other) nodes (
    record { literal = tt; declared = λ external. record { some = (1, p, refl, (refl, refl, inl refl)) } },
    (
      record { literal = tt; declared = λ external. record { some = (0, x, refl, (refl, refl, inl refl)) } },
      (
        record { literal = tt; declared = tt },
        (
          record { literal = tt; declared = tt },
          (
            record { literal = tt; declared = tt },
            (record { literal = tt; declared = tt }, (record { literal = tt; declared = tt }, (record { literal = tt; declared = tt }, tt))),
          ),
        ),
      ),
    ),
  ) n one h;
}

-- what main's block is, with entities by their leaves
abbrev main_body : Core
main_body = block [] 12 (expression 14 (assigned 14 (object 7 13 ints) (addressed 15 (object 3 16 int))) ∷ returned 18 (number 0 19 int) ∷ [])

abbrev numbering : Numbering
numbering = place_in (3 ∷ 7 ∷ 15 ∷ [])

once : (c d e : ℕ) → numbering c ≡ Some e → numbering d ≡ Some e → c ≡ d
once c d e f g =
    let a : slice_get (3 ∷ 7 ∷ 15 ∷ []) e ≡ Some c = stands_in (3 ∷ 7 ∷ 15 ∷ []) c e f in
    let b : slice_get (3 ∷ 7 ∷ 15 ∷ []) e ≡ Some d = stands_in (3 ∷ 7 ∷ 15 ∷ []) d e g in
    cc

no_initial : (i e : ℕ) → InitialisesIn (slice_get nodes i) e → ⊥
no_initial i e h =
    let n = some_initial (slice_get nodes i) e h in
    each_of (λ k y. InitialisesEntity y.kind e → ⊥) nodes (λ a. a, (λ a. a, (λ a. a, (λ a. a, (λ a. a, (λ a. a, (λ a. a, (λ a. a, tt)))))))) i n.0 n.1 n.2

module _ (called : List ℕ) (v : Vectors) (parts : HasParts v) where
  abbrev s : Source
  s = source tree

  abbrev senses : List Sense
  senses = senses_of (all_senses s)

  abbrev u : Unit
  u = unit called types v

  are : AreSenses s senses × (length senses ≡ length s.nodes)
  unfolding computing
  are = come_to s (Fits senses) refl

  node_here : (i : ℕ) (n : Node) → slice_get nodes i ≡ Some n → slice_get v.nodes.items i ≡ Some n
  node_here i n h = subst (λ (l : List Node). slice_get l i ≡ Some n) (sym parts.nodes_are) h

  child_here : (i k c : ℕ) → child_in (slice_get nodes i) k ≡ Some c → child_in (slice_get v.nodes.items i) k ≡ Some c
  child_here i k c h = subst (λ (l : List Node). child_in (slice_get l i) k ≡ Some c) (sym parts.nodes_are) h

  entity_here : (i : ℕ) (e : Entity) → slice_get entities i ≡ Some e → slice_get v.entities.items i ≡ Some e
  entity_here i e h = subst (λ (l : List Entity). slice_get l i ≡ Some e) (sym parts.entities_are) h

  valid_unit : ValidUnit u
  valid_unit = record {
    trees =
        subst (λ (l : List Entity). Valid (record { types = types; nodes = v.nodes.items; entities = l })) (sym parts.entities_are)
        (subst (λ (l : List Node). Valid (record { types = types; nodes = l; entities = entities })) (sym parts.nodes_are) valid);
    keys = subst (λ (l : List (Option (List ℕ))). Keyed 0 l) (sym parts.keys) (record { each = refl; once = λ i key e. cc });
    linkages =
        subst (λ (l : List Entity). Linkages (record { types = types; nodes = v.nodes.items; entities = l })) (sym parts.entities_are)
        (subst (λ (l : List Node). Linkages (record { types = types; nodes = l; entities = entities })) (sym parts.nodes_are) linked);
  }

  abbrev Entered : ℕ → Declared → Type 0
  Entered d what = (e : ℕ) × (entity : Entity) × (numbering d ≡ Some e) × (entity_at (trees_of u) e ≡ Some entity) × IsEntityOf numbering u s.unit what entity

  declared : (d : ℕ) (what : Declared) → declared_name s senses d ≡ Some what → Entered d what
  unfolding computing
  declared = every s senses Entered (tt, (tt, (tt, ((0, x, refl, entity_here 0 x refl, record { name = refl; unit_is = refl; place = refl; type = refl; linkage = refl; storage = refl; owner = tt; body = tt }), (tt, (tt, (tt, ((1, p, refl, entity_here 1 p refl, record { name = refl; unit_is = refl; place = refl; type = refl; linkage = refl; storage = refl; owner = tt; body = tt }), (tt, (tt, (tt, (tt, (tt, (tt, (tt, ((2, main, refl, entity_here 2 main refl, record { name = refl; unit_is = refl; place = refl; type = refl; linkage = refl; storage = refl; owner = tt; body = (node (Block []) 12 3 (4 ∷ 6 ∷ []), node_here 7 (node (Block []) 12 3 (4 ∷ 6 ∷ [])) refl, tt, refl, refl, (4, 6 ∷ [], refl, (node Expression 14 3 (3 ∷ []), node_here 4 (node Expression 14 3 (3 ∷ [])) refl, refl, refl, refl, (3, [], refl, (node Assign 14 1 (0 ∷ 2 ∷ []), node_here 3 (node Assign 14 1 (0 ∷ 2 ∷ [])) refl, refl, refl, refl, (0, 2 ∷ [], refl, (node (Named 1) 13 1 [], node_here 0 (node (Named 1) 13 1 []) refl, refl, refl, refl, refl), (2, [], refl, (node AddressOf 15 1 (1 ∷ []), node_here 2 (node AddressOf 15 1 (1 ∷ [])) refl, refl, refl, refl, (1, [], refl, (node (Named 0) 16 0 [], node_here 1 (node (Named 0) 16 0 []) refl, refl, refl, refl, refl), refl)), refl))), refl)), (6, [], refl, (node Return 18 3 (5 ∷ []), node_here 6 (node Return 18 3 (5 ∷ [])) refl, refl, refl, refl, (5, [], refl, (node (Number (pos 0)) 19 0 [], node_here 5 (node (Number (pos 0)) 19 0 []) refl, refl, refl, refl, refl), refl)), refl))) }), (tt, (tt, (tt, (tt, (tt, (tt, (tt, (tt, (tt, (tt, (tt, (tt, (tt, (tt, (tt, (tt, (tt, (tt, (tt, (tt, (tt, (tt, (tt, (tt, (tt, (tt, (tt, (tt, (tt, (tt, (tt, (tt, tt))))))))))))))))))))))))))))))))))))))))))))))))

  no_literal : (i : ℕ) (c : Core) → IsLiteralOf s senses i c → ⊥
  unfolding computing
  no_literal = no_literal_declared s senses (tt, (tt, (tt, ((λ body h. cc), (tt, (tt, (tt, ((λ body h. cc), (tt, (tt, (tt, (tt, (tt, (tt, (tt, (free_of main_body (tt, ((tt, ((tt, ((tt, tt), ((tt, ((tt, tt), tt)), tt))), tt)), ((tt, ((tt, tt), tt)), tt))), (tt, (tt, (tt, (tt, (tt, (tt, (tt, (tt, (tt, (tt, (tt, (tt, (tt, (tt, (tt, (tt, (tt, (tt, (tt, (tt, (tt, (tt, (tt, (tt, (tt, (tt, (tt, (tt, (tt, (tt, (tt, (tt, tt))))))))))))))))))))))))))))))))))))))))))))))))

  each_declared : (d : ℕ) (what : Declared) → IsDeclaredAt s senses d what → Entered d what
  each_declared d what (inl h) = declared d what h
  each_declared d what (inr h) = absurd (no_literal d h.0 h.1)

  no_other_entity : (e : ℕ) → e < length v.entities.items → (d : ℕ) × (what : Declared) × IsDeclaredAt s senses d what × (numbering d ≡ Some e)
  unfolding computing
  no_other_entity e lt =
      below_each (λ k. (d : ℕ) × (what : Declared) × IsDeclaredAt s senses d what × (numbering d ≡ Some k)) entities ((3, _, inl refl, refl), ((7, _, inl refl, refl), ((15, _, inl refl, refl), tt))) e
      (subst (λ (l : List Entity). e < length l) parts.entities_are lt)

  untagged : (d : ℕ) → is_tag s d ≡ false
  unfolding computing
  untagged d = refl

  no_tag : (d : ℕ) → is_tag s d ≡ true → ⊥
  no_tag d h = let f : is_tag s d ≡ false = untagged d in cc

  uninitialised : (i e : ℕ) → Initialises (trees_of u) i e → ⊥
  uninitialised i e h = no_initial i e (subst (λ (l : List Node). InitialisesIn (slice_get l i) e) parts.nodes_are h)

  stands : (i : ℕ) → i < length v.nodes.items → IsBody u i ⊎ ((q : ℕ) × IsChild (trees_of u) q i)
  stands i lt =
      below_each (λ k. IsBody u k ⊎ ((q : ℕ) × IsChild (trees_of u) q k)) nodes (
        inr (3, (0, child_here 3 0 0 refl)),
        (
          inr (2, (0, child_here 2 0 1 refl)),
          (
            inr (3, (1, child_here 3 1 2 refl)),
            (
              inr (4, (0, child_here 4 0 3 refl)),
              (
                inr (7, (0, child_here 7 0 4 refl)),
                (
                  inr (6, (0, child_here 6 0 5 refl)),
                  (
                    inr (7, (1, child_here 7 1 6 refl)),
                    (inl (2, main, entity_here 2 main refl, refl), tt),
                  ),
                ),
              ),
            ),
          ),
        ),
      ) i
      (subst (λ (l : List Node). i < length l) parts.nodes_are lt)

  pub right : Right s called u
  right = record {
    valid = valid_unit;
    named = refl;
    senses = senses;
    are_senses = are.0;
    whole = are.1;
    numbering = numbering;
    entity_once = once;
    each_declared = each_declared;
    no_other_entity = no_other_entity;
    tag_once = λ c d h k e. absurd (no_tag c h);
    each_tag = λ d h. absurd (no_tag d h);
    no_other_tag = λ t lt. absurd (omega (arith, lt));
    members = λ d h. absurd (no_tag d h);
    keys = record {
      none = λ d h e. absurd (no_tag d h);
      first = λ d key h e before. absurd (no_tag d h);
      again = λ c d key h e lt k f. absurd (no_tag d h);
    };
    initialises_once = λ i e h. absurd (uninitialised i e h);
    no_other_node = stands;
  }
