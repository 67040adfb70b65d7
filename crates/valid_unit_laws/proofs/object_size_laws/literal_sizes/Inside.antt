-- What senses stand for is sound, and so is what stands in a body.
use Rattle.std.proofs.Common.{◌≡◌, ℕ, zero, suc, Bool, true, false, List, [], ◌∷◌, Option, Some, None, subst}
use Rattle.std.specs.Prelude.{⊤, option_map, option_and_then, if◌then◌else◌}
use Rattle.c_types.specs.Trees.{Ctype}
use Rattle.core_tree.specs.declared.node.NodeKind.{NodeKind}
use Rattle.core_tree.specs.declared.node.NodeKind.TheVariants.{Literal}
use Rattle.c_consts.specs.Core.{Core, Cores, Of, NoCores, MoreCores, kind_of, ctype_of, cores_under, core_in}
use Rattle.c_senses.specs.Tree.{Source, is_name}
use Rattle.c_senses.specs.World.{World}
use Rattle.c_senses.specs.Entities.{is_defined, initialiser_for}
use Rattle.c_senses.specs.Right.{Within, Itself, Below, IsLiteralOf, sense_of, declares_entity, entity_type, representative, core_of_sense, block_for, body_at, declared_as, declared_name}
use Rattle.c_senses.specs.Right as right
use Rattle.c_senses.specs.Rows.{AreSenses}
use Rattle.c_senses.specs.Sense.{Sense, IsCore, IsInitial, sense_in}
use Rattle.parsed_tree_laws.specs.sense_laws.Sound.{Sound, AllSound, list_of, RowOver}
use Rattle.parsed_tree_laws.specs.sense_laws.Senses.{SoundSense}
use Rattle.core_node_laws.specs.literal_nodes.Holding.{Holds}
use Rattle.core_node_laws.specs.literal_nodes.Unnamed.{IsUnnamed}
use Rattle.core_node_laws.proofs.literal_nodes.Unnamed.{unnamed}
use Rattle.core_node_laws.proofs.built_unit_laws.unlinked_laws.Inside.{in_body_holds}

some_one : {X : Type 0} → {x y : X} → ◌≡◌ {A = Option X} (Some x) (Some y) → x ≡ y
some_one h = cc

none_some : {X : Type 0} → {x : X} → ◌≡◌ {A = Option X} None (Some x) → ⊥
none_some h = cc

module _ (w : World) (entities : ℕ → Option Ctype) where
  abbrev SomeSound : Option Core → Type 0
  SomeSound None = ⊤
  SomeSound (Some c) = Sound w entities c

  part_sound : (cs : Cores) (k : ℕ) → AllSound w entities cs → SomeSound (core_in cs k)
  part_sound NoCores k h = tt
  part_sound (MoreCores c rest) zero h = h.0
  part_sound (MoreCores c rest) (suc k) h = part_sound rest k h.1

  under_sound : (c : Core) → Sound w entities c → AllSound w entities (cores_under c)
  under_sound (Of kind place type under) h = h.3

  some_sound : (o : Option Core) (c : Core) → o ≡ Some c → SomeSound o → Sound w entities c
  some_sound None c e h = absurd (none_some e)
  some_sound (Some x) c e h = subst (λ (y : Core). Sound w entities y) (some_one e) h

  if_sound : (b : Bool) (x y : Option Core) → SomeSound x → SomeSound y → SomeSound (if b then x else y)
  if_sound true x y h k = h
  if_sound false x y h k = k

  literal_typed : (c : Core) (leaf : ℕ) → kind_of c ≡ Literal leaf → Sound w entities c → entities leaf ≡ Some (ctype_of c)
  literal_typed (Of kind place type under) leaf is h = by (list_of under) (subst (λ (k : NodeKind). RowOver w entities k type (list_of under)) is h.0)
    where
      by : (cs : List Core) → RowOver w entities (Literal leaf) type cs → entities leaf ≡ Some type
      by [] k = absurd k
      by (c ∷ []) k = k.0
      by (c ∷ d ∷ more) k = absurd k

  module _ (s : Source) (senses : List Sense) (all : (i : ℕ) → SoundSense w entities (sense_in senses i)) where
    core_sound : (x : Sense) → SoundSense w entities x → SomeSound (core_of_sense s senses x)
    core_sound (IsCore c) h = h
    core_sound (IsInitial c n) h = h.0
    core_sound x h = tt

    found_sound : (o : Option ℕ) → SomeSound (option_and_then (λ b. core_of_sense s senses (sense_of s senses b)) o)
    found_sound None = tt
    found_sound (Some b) = core_sound (sense_in senses b) (all b)

    body_sound : (i : ℕ) → SomeSound (body_at s senses i)
    body_sound i = if_sound (is_defined s (sense_of s senses) i) _ _ (found_sound (block_for s senses i)) (found_sound (initialiser_for s (sense_of s senses) i))

    declared_by : (i : ℕ) (b : Bool) (o : Option Ctype) (what : right.Declared) → (if b then option_map (declared_as s senses i) o else None) ≡ Some what → SomeSound what.body
    declared_by i false o what e = absurd (none_some e)
    declared_by i true None what e = absurd (none_some e)
    declared_by i true (Some t) what e = subst (λ (x : right.Declared). SomeSound x.body) (some_one e) (body_sound (representative s senses i))

    within_sound : {c d : Core} → Within s senses c d → Sound w entities d → Sound w entities c
    within_sound Itself h = h
    within_sound (Below {c = c} {part = part} k h) whole =
        within_sound h (some_sound (core_in (cores_under c) k.0) part k.1 (part_sound (cores_under c) k.0 (under_sound c whole)))

    -- the type of a literal's node is that of its object
    pub literal_type_is : (leaf : ℕ) (c : Core) → IsLiteralOf s senses leaf c → entities leaf ≡ Some (ctype_of c)
    literal_type_is leaf c (kind, (d, what, body, declared, has, within)) =
        literal_typed c leaf kind (within_sound within (some_sound what.body body has (declared_by d (declares_entity s senses d) (entity_type s senses d) what declared)))

-- its leaf is no name
pub literal_unnamed : (s : Source) (senses : List Sense) → AreSenses s senses → (leaf : ℕ) (c : Core) → IsLiteralOf s senses leaf c → is_name s leaf ≡ false
literal_unnamed s senses are leaf c (kind, (d, what, body, declared, has, within)) =
    by c leaf kind (in_body_holds (IsUnnamed s) s senses (λ i. unnamed s senses are i) c (record { leaf = d; what = what; body = body; declared = declared; has = has; within = within }))
  where
    by : (c : Core) (i : ℕ) → kind_of c ≡ Literal i → Holds (IsUnnamed s) c → is_name s i ≡ false
    by (Of (Literal j) place type under) i e h = let same : j ≡ i = cc in subst (λ (k : ℕ). is_name s k ≡ false) same h.0
    by (Of kind place type under) i e h = cc
