-- The unit with local objects is right for its tree.
use Rattle.std.proofs.Common.{◌≡◌, ℕ, ◌<◌, Bool, true, false, eqb, List, [], ◌∷◌, Option, Some, None, slice_get, length, inl, inr, refl, sym, ap, subst, arith, ◌∙◌}
use Rattle.std.specs.Prelude.{pos, ◌⊎◌}
use Rattle.std.proofs.lemmas.Bool.Decides.{eqb_tells}
use Rattle.core_tree.specs.declared.node.Node.{Node}
use Rattle.core_tree.specs.declared.node.Entity.{Entity}
use Rattle.core_tree.specs.declared.node.Unit.{Unit}
use Rattle.core_tree.specs.declared.node.NodeKind.TheVariants.{Named, Number, AddressOf, Block, Return, Initialise}
use Rattle.core_tree.specs.Typed.{CoreTrees, trees_of}
use Rattle.core_tree.specs.Linkages.{Linkages, NodeLinkage, EntityLinkage}
use Rattle.core_tree.specs.Rows.{Initialises, InitialisesIn, InitialisesEntity}
use Rattle.core_tree.specs.Valid.{Valid, ValidUnit, Keyed, KeyedOnce, child_in, entity_at, IsChild}
use Rattle.c_consts.specs.Core.{Core}
use Rattle.c_senses.specs.Tree.{Source}
use Rattle.c_senses.specs.Given.{Fits}
use Rattle.c_types.specs.declared.term.PathStep.TheVariants.{Member as MemberStep}
use Rattle.c_senses.specs.Sense.{Sense, sense_in}
use Rattle.c_senses.specs.Tags.{completed_from, members_under}
use Rattle.c_inits.specs.Tables.{parts_in}
use Rattle.c_types.specs.Table.{members_in}
use Rattle.std.specs.Prelude.{codes, ◌||◌}
use Rattle.std.proofs.lemmas.Bool.Decides.{eqb_tells}
use Rattle.c_senses.specs.Rows.{AreSenses}
use Rattle.c_senses.specs.Right.{Right, Declared, declared_name, IsDeclaredAt, IsEntityOf, IsLiteralOf, IsBody, is_tag, key_of_tag, KeysRight, Numbering}
use Rattle.c_senses.specs.Names.{numbered}
use Rattle.sense_cases.specs.Branches.{source}
use Rattle.sense_cases.specs.Run.{all_senses}
use Rattle.sense_cases.proofs.Computing.{computing}
use Rattle.sense_cases.proofs.Running.{come_to}
use Rattle.core_tree.specs.Rows.{int}
use Rattle.sense_cases.specs.Cores.{block, object, addressed, returned, number, initialised}
use Rattle.sense_cases.specs.right_cases.Units.{node, Vectors, unit}
use Rattle.sense_cases.specs.right_cases.Locals.{tree, types, nodes, entities, f, n, v, HasParts}
use Rattle.sense_cases.proofs.right_cases.Lists.{each_of, below_each}
use Rattle.sense_cases.proofs.right_cases.Telling.{every, no_literal_declared}
use Rattle.sense_cases.proofs.right_cases.Numbering.{senses_of, place_in, stands_in, free_of, bodiless, some_initial}
use Rattle.sense_cases.proofs.right_cases.LocalsValid.{valid}

-- the unit's trees
abbrev trees : CoreTrees
trees = record { types = types; nodes = nodes; entities = entities }

linked : Linkages trees
unfolding computing
linked = record {
  entities = λ e entity h. each_of (λ k one. EntityLinkage one) entities (tt, (tt, (refl, tt))) e entity h;
  nodes = λ i one h. each_of (λ k other. NodeLinkage trees other) nodes (
    record { literal = tt; declared = λ external. cc },
    (
      record { literal = tt; declared = tt },
      (
        record { literal = tt; declared = tt },
        (
          record { literal = tt; declared = tt },
          (record { literal = tt; declared = tt }, (record { literal = tt; declared = tt }, tt)),
        ),
      ),
    ),
  ) i one h;
}

-- what the initialiser and the block are, with entities by their leaves
abbrev body_of_v : Core
body_of_v = initialised 58 28 ((MemberStep 0 ∷ []) ∷ []) (addressed 29 (object 50 30 int) ∷ [])

abbrev body_of_f : Core
body_of_f = block (58 ∷ []) 15 (body_of_v ∷ returned 33 (number 0 34 int) ∷ [])

abbrev numbering : Numbering
numbering = place_in (22 ∷ 50 ∷ 58 ∷ [])

once : (c d e : ℕ) → numbering c ≡ Some e → numbering d ≡ Some e → c ≡ d
once c d e g h =
    let a : slice_get (22 ∷ 50 ∷ 58 ∷ []) e ≡ Some c = stands_in (22 ∷ 50 ∷ 58 ∷ []) c e g in
    let b : slice_get (22 ∷ 50 ∷ 58 ∷ []) e ≡ Some d = stands_in (22 ∷ 50 ∷ 58 ∷ []) d e h in
    cc

only_initial : (i e : ℕ) → InitialisesIn (slice_get nodes i) e → (i ≡ 2) × (e ≡ 2)
only_initial i e h =
    let o = some_initial (slice_get nodes i) e h in
    each_of (λ k y. InitialisesEntity y.kind e → (k ≡ 2) × (e ≡ 2)) nodes (λ a. absurd a, (λ a. absurd a, (λ a. (refl, sym a), (λ a. absurd a, (λ a. absurd a, (λ a. absurd a, tt)))))) i o.0 o.1 o.2

-- of two specifiers of one tag
either_true : (b : Bool) → (b || (b || false)) ≡ true → b ≡ true
either_true true h = refl
either_true false h = cc

module _ (called : List ℕ) (w : Vectors) (parts : HasParts w) where
  abbrev s : Source
  s = numbered (λ tag. 0) (source tree)

  abbrev senses : List Sense
  senses = senses_of (all_senses s)

  abbrev u : Unit
  u = unit called types w

  are : AreSenses s senses × (length senses ≡ length s.nodes)
  unfolding computing
  are = come_to s (Fits senses) refl

  node_here : (i : ℕ) (x : Node) → slice_get nodes i ≡ Some x → slice_get w.nodes.items i ≡ Some x
  node_here i x h = subst (λ (l : List Node). slice_get l i ≡ Some x) (sym parts.nodes_are) h

  child_here : (i k c : ℕ) → child_in (slice_get nodes i) k ≡ Some c → child_in (slice_get w.nodes.items i) k ≡ Some c
  child_here i k c h = subst (λ (l : List Node). child_in (slice_get l i) k ≡ Some c) (sym parts.nodes_are) h

  entity_here : (i : ℕ) (e : Entity) → slice_get entities i ≡ Some e → slice_get w.entities.items i ≡ Some e
  entity_here i e h = subst (λ (l : List Entity). slice_get l i ≡ Some e) (sym parts.entities_are) h

  one_key : Keyed 1 (Some (codes "struct s") ∷ [])
  one_key = record {
    each = refl;
    once = λ i key e. each_of (λ k x. KeyedOnce (Some (codes "struct s") ∷ []) k x) (Some (codes "struct s") ∷ []) (record { each = only }, tt) i key e;
  }
    where
      only : (j : ℕ) (other : Option (List ℕ)) → slice_get (Some (codes "struct s") ∷ []) j ≡ Some other → other ≡ Some (codes "struct s") → 0 ≡ j
      only j other h g = each_of (λ k x. 0 ≡ k) (Some (codes "struct s") ∷ []) (refl, tt) j other h

  valid_unit : ValidUnit u
  valid_unit = record {
    trees =
        subst (λ (l : List Entity). Valid (record { types = types; nodes = w.nodes.items; entities = l })) (sym parts.entities_are)
        (subst (λ (l : List Node). Valid (record { types = types; nodes = l; entities = entities })) (sym parts.nodes_are) valid);
    keys = subst (λ (l : List (Option (List ℕ))). Keyed 1 l) (sym parts.keys) one_key;
    linkages =
        subst (λ (l : List Entity). Linkages (record { types = types; nodes = w.nodes.items; entities = l })) (sym parts.entities_are)
        (subst (λ (l : List Node). Linkages (record { types = types; nodes = l; entities = entities })) (sym parts.nodes_are) linked);
  }

  abbrev Entered : ℕ → Declared → Type 0
  Entered d what = (e : ℕ) × (entity : Entity) × (numbering d ≡ Some e) × (entity_at (trees_of u) e ≡ Some entity) × IsEntityOf numbering u s.unit what entity

  declared : (d : ℕ) (what : Declared) → declared_name s senses d ≡ Some what → Entered d what
  unfolding computing
  declared = every s senses Entered (tt, (tt, (tt, (tt, (tt, (tt, (tt, (tt, (tt, (tt, (tt, (tt, (tt, (tt, (tt, (tt, (tt, (tt, (tt, (tt, (tt, (tt, ((0, f, refl, entity_here 0 f refl, record { name = refl; unit_is = refl; place = refl; type = refl; linkage = refl; storage = refl; owner = tt; body = (node (Block (2 ∷ [])) 15 4 (2 ∷ 4 ∷ []), node_here 5 (node (Block (2 ∷ [])) 15 4 (2 ∷ 4 ∷ [])) refl, (refl, tt), refl, refl, (2, 4 ∷ [], refl, (node (Initialise 2 ((MemberStep 0 ∷ []) ∷ [])) 28 4 (1 ∷ []), node_here 2 (node (Initialise 2 ((MemberStep 0 ∷ []) ∷ [])) 28 4 (1 ∷ [])) refl, (refl, refl), refl, refl, (1, [], refl, (node AddressOf 29 1 (0 ∷ []), node_here 1 (node AddressOf 29 1 (0 ∷ [])) refl, refl, refl, refl, (0, [], refl, (node (Named 1) 30 0 [], node_here 0 (node (Named 1) 30 0 []) refl, refl, refl, refl, refl), refl)), refl)), (4, [], refl, (node Return 33 4 (3 ∷ []), node_here 4 (node Return 33 4 (3 ∷ [])) refl, refl, refl, refl, (3, [], refl, (node (Number (pos 0)) 34 0 [], node_here 3 (node (Number (pos 0)) 34 0 []) refl, refl, refl, refl, refl), refl)), refl))) }), (tt, (tt, (tt, (tt, (tt, (tt, (tt, (tt, (tt, (tt, (tt, (tt, (tt, (tt, (tt, (tt, (tt, (tt, (tt, (tt, (tt, (tt, (tt, (tt, (tt, (tt, (tt, ((1, n, refl, entity_here 1 n refl, record { name = refl; unit_is = refl; place = refl; type = refl; linkage = refl; storage = refl; owner = refl; body = tt }), (tt, (tt, (tt, (tt, (tt, (tt, (tt, ((2, v, refl, entity_here 2 v refl, record { name = refl; unit_is = refl; place = refl; type = refl; linkage = refl; storage = refl; owner = refl; body = (node (Initialise 2 ((MemberStep 0 ∷ []) ∷ [])) 28 4 (1 ∷ []), node_here 2 (node (Initialise 2 ((MemberStep 0 ∷ []) ∷ [])) 28 4 (1 ∷ [])) refl, (refl, refl), refl, refl, (1, [], refl, (node AddressOf 29 1 (0 ∷ []), node_here 1 (node AddressOf 29 1 (0 ∷ [])) refl, refl, refl, refl, (0, [], refl, (node (Named 1) 30 0 [], node_here 0 (node (Named 1) 30 0 []) refl, refl, refl, refl, refl), refl)), refl)) }), (tt, (tt, (tt, (tt, (tt, (tt, (tt, (tt, (tt, (tt, (tt, (tt, (tt, (tt, (tt, (tt, (tt, (tt, (tt, (tt, (tt, (tt, (tt, (tt, (tt, (tt, (tt, tt))))))))))))))))))))))))))))))))))))))))))))))))))))))))))))))))))))))))))))))))))))))

  no_literal : (i : ℕ) (c : Core) → IsLiteralOf s senses i c → ⊥
  unfolding computing
  no_literal = no_literal_declared s senses (tt, (tt, (tt, (tt, (tt, (tt, (tt, (tt, (tt, (tt, (tt, (tt, (tt, (tt, (tt, (tt, (tt, (tt, (tt, (tt, (tt, (tt, (free_of body_of_f (tt, ((tt, ((tt, ((tt, tt), tt)), tt)), ((tt, ((tt, tt), tt)), tt))), (tt, (tt, (tt, (tt, (tt, (tt, (tt, (tt, (tt, (tt, (tt, (tt, (tt, (tt, (tt, (tt, (tt, (tt, (tt, (tt, (tt, (tt, (tt, (tt, (tt, (tt, (tt, ((λ body h. bodiless body h), (tt, (tt, (tt, (tt, (tt, (tt, (tt, (free_of body_of_v (tt, ((tt, ((tt, tt), tt)), tt)), (tt, (tt, (tt, (tt, (tt, (tt, (tt, (tt, (tt, (tt, (tt, (tt, (tt, (tt, (tt, (tt, (tt, (tt, (tt, (tt, (tt, (tt, (tt, (tt, (tt, (tt, (tt, tt))))))))))))))))))))))))))))))))))))))))))))))))))))))))))))))))))))))))))))))))))))))

  each_declared : (d : ℕ) (what : Declared) → IsDeclaredAt s senses d what → Entered d what
  each_declared d what (inl h) = declared d what h
  each_declared d what (inr h) = absurd (no_literal d h.0 h.1)

  no_other_entity : (e : ℕ) → e < length w.entities.items → (d : ℕ) × (what : Declared) × IsDeclaredAt s senses d what × (numbering d ≡ Some e)
  unfolding computing
  no_other_entity e lt =
      below_each (λ k. (d : ℕ) × (what : Declared) × IsDeclaredAt s senses d what × (numbering d ≡ Some k)) entities ((22, _, inl refl, refl), ((50, _, inl refl, refl), ((58, _, inl refl, refl), tt))) e
      (subst (λ (l : List Entity). e < length l) parts.entities_are lt)

  -- the only tag
  tests : (d : ℕ) → is_tag s d ≡ (eqb 1 d || (eqb 1 d || false))
  unfolding computing
  tests d = refl

  the_tag : (d : ℕ) → is_tag s d ≡ true → 1 ≡ d
  the_tag d h =
      let t : eqb 1 d ≡ true = either_true (eqb 1 d) (sym (tests d) ∙ h) in
      elim (eqb_tells 1 d) [ inl q ↦ q.1 | inr q ↦ absurd (let g : eqb 1 d ≡ false = q.0 in cc) ]

  is_the_tag : is_tag s 1 ≡ true
  unfolding computing
  is_the_tag = refl

  members_right : parts_in types (members_in types 0) ≡ members_under (completed_from s senses (sense_in senses) 0) 0
  unfolding computing
  members_right = refl

  its_key : key_of_tag s (sense_in senses) 1 ≡ Some (codes "struct s")
  unfolding computing
  its_key = refl

  key_here : (d : ℕ) (key : List ℕ) → is_tag s d ≡ true → key_of_tag s (sense_in senses) d ≡ Some key → key ≡ codes "struct s"
  key_here d key h e =
      let one : key_of_tag s (sense_in senses) 1 ≡ Some key = subst (λ (c : ℕ). key_of_tag s (sense_in senses) c ≡ Some key) (sym (the_tag d h)) e in
      let both : Some (codes "struct s") ≡ Some key = sym its_key ∙ one in
      cc

  key_is_there : (key : List ℕ) → key ≡ codes "struct s" → slice_get w.keys.items 0 ≡ Some (Some key)
  key_is_there key e =
      subst (λ (l : List (Option (List ℕ))). slice_get l 0 ≡ Some (Some key)) (sym parts.keys)
      (ap (λ (k : List ℕ). Some (Some k)) (sym e))

  has_key : (d : ℕ) → is_tag s d ≡ true → key_of_tag s (sense_in senses) d ≡ None → ⊥
  has_key d h e =
      let one : key_of_tag s (sense_in senses) 1 ≡ None = subst (λ (c : ℕ). key_of_tag s (sense_in senses) c ≡ None) (sym (the_tag d h)) e in
      let both : Some (codes "struct s") ≡ None = sym its_key ∙ one in
      cc

  keys_right : KeysRight s (sense_in senses) w.keys.items
  keys_right = record {
    none = λ d h e. absurd (has_key d h e);
    first = λ d key h e before. key_is_there key (key_here d key h e);
    again = λ c d key h e lt k g. absurd (let a = the_tag d h in let b = the_tag c k in omega (arith, a, b, lt));
  }

  initialises_once : (i e : ℕ) → Initialises (trees_of u) i e → (entity : Entity) × (entity_at (trees_of u) e ≡ Some entity) × (entity.body ≡ Some i)
  initialises_once i e h =
      let only = only_initial i e (subst (λ (l : List Node). InitialisesIn (slice_get l i) e) parts.nodes_are h) in
      (v, entity_here e v (subst (λ (k : ℕ). slice_get entities k ≡ Some v) (sym only.1) refl), ap Some (sym only.0))

  stands : (i : ℕ) → i < length w.nodes.items → IsBody u i ⊎ ((q : ℕ) × IsChild (trees_of u) q i)
  stands i lt =
      below_each (λ k. IsBody u k ⊎ ((q : ℕ) × IsChild (trees_of u) q k)) nodes (
        inr (1, (0, child_here 1 0 0 refl)),
        (
          inr (2, (0, child_here 2 0 1 refl)),
          (
            inr (5, (0, child_here 5 0 2 refl)),
            (
              inr (4, (0, child_here 4 0 3 refl)),
              (
                inr (5, (1, child_here 5 1 4 refl)),
                (inl (0, f, entity_here 0 f refl, refl), tt),
              ),
            ),
          ),
        ),
      ) i
      (subst (λ (l : List Node). i < length l) parts.nodes_are lt)

  pub right : Right s called u
  right = record {
    valid = valid_unit;
    named = refl;
    senses = senses;
    are_senses = are.0;
    whole = are.1;
    numbering = numbering;
    entity_once = once;
    each_declared = each_declared;
    no_other_entity = no_other_entity;
    tag_once = λ c d h k e. sym (the_tag c h) ∙ the_tag d k;
    each_tag = λ d h. omega arith;
    no_other_tag = λ t lt. (1, is_the_tag, omega (arith, lt));
    members = λ d h. members_right;
    keys = keys_right;
    initialises_once = initialises_once;
    no_other_node = stands;
  }
