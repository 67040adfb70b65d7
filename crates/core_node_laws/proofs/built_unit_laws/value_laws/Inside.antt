-- What holds of all trees that senses stand for holds of the trees of a unit's nodes.
use Rattle.std.proofs.Common.{◌≡◌, ℕ, zero, suc, Bool, true, false, List, Option, Some, None, subst}
use Rattle.std.specs.Prelude.{⊤, option_map, option_and_then, if◌then◌else◌}
use Rattle.c_types.specs.Trees.{Ctype}
use Rattle.c_consts.specs.Core.{Core, Cores, Of, NoCores, MoreCores, cores_under, core_in}
use Rattle.c_senses.specs.Tree.{Source}
use Rattle.c_senses.specs.Entities.{is_defined, initialiser_for}
use Rattle.c_senses.specs.Right.{Within, Itself, Below, sense_of, declares_entity, entity_type, representative, core_of_sense, block_for, body_at, declared_as, declared_name}
use Rattle.c_senses.specs.Right as right
use Rattle.c_senses.specs.Sense.{Sense, IsCore, IsInitial, sense_in}
use Rattle.core_node_laws.specs.fetched_nodes.Holding.{Holds, AllHold, OfSense}
use Rattle.core_node_laws.specs.built_unit_laws.built_laws.Placed.{IsInBody}

some_one : {X : Type 0} → {x y : X} → ◌≡◌ {A = Option X} (Some x) (Some y) → x ≡ y
some_one h = cc

none_some : {X : Type 0} → {x : X} → ◌≡◌ {A = Option X} None (Some x) → ⊥
none_some h = cc

module _ (asks : Core → Type 0) where
  abbrev SomeHolds : Option Core → Type 0
  SomeHolds None = ⊤
  SomeHolds (Some c) = Holds asks c

  part_holds : (cs : Cores) (k : ℕ) → AllHold asks cs → SomeHolds (core_in cs k)
  part_holds NoCores k h = tt
  part_holds (MoreCores c rest) zero h = h.0
  part_holds (MoreCores c rest) (suc k) h = part_holds rest k h.1

  under_holds : (c : Core) → Holds asks c → AllHold asks (cores_under c)
  under_holds (Of kind place type under) h = h.1

  some_holds : (o : Option Core) (c : Core) → o ≡ Some c → SomeHolds o → Holds asks c
  some_holds None c e h = absurd (none_some e)
  some_holds (Some x) c e h = subst (λ (y : Core). Holds asks y) (some_one e) h

  if_holds : (b : Bool) (x y : Option Core) → SomeHolds x → SomeHolds y → SomeHolds (if b then x else y)
  if_holds true x y h k = h
  if_holds false x y h k = k

  module _ (s : Source) (senses : List Sense) (all : (i : ℕ) → OfSense asks (sense_in senses i)) where
    core_holds : (x : Sense) → OfSense asks x → SomeHolds (core_of_sense s senses x)
    core_holds (IsCore c) h = h
    core_holds (IsInitial c n) h = h
    core_holds x h = tt

    found_holds : (o : Option ℕ) → SomeHolds (option_and_then (λ b. core_of_sense s senses (sense_of s senses b)) o)
    found_holds None = tt
    found_holds (Some b) = core_holds (sense_in senses b) (all b)

    body_holds : (i : ℕ) → SomeHolds (body_at s senses i)
    body_holds i = if_holds (is_defined s (sense_of s senses) i) _ _ (found_holds (block_for s senses i)) (found_holds (initialiser_for s (sense_of s senses) i))

    declared_by : (i : ℕ) (b : Bool) (o : Option Ctype) (what : right.Declared) → (if b then option_map (declared_as s senses i) o else None) ≡ Some what → SomeHolds what.body
    declared_by i false o what e = absurd (none_some e)
    declared_by i true None what e = absurd (none_some e)
    declared_by i true (Some t) what e = subst (λ (x : right.Declared). SomeHolds x.body) (some_one e) (body_holds (representative s senses i))

    within_holds : {c d : Core} → Within s senses c d → Holds asks d → Holds asks c
    within_holds Itself h = h
    within_holds (Below {c = c} {part = part} k h) whole =
        within_holds h (some_holds (core_in (cores_under c) k.0) part k.1 (part_holds (cores_under c) k.0 (under_holds c whole)))

    pub in_body_holds : (c : Core) → IsInBody s senses c → Holds asks c
    in_body_holds c h =
        within_holds h.within (some_holds h.what.body h.body h.has (declared_by h.leaf (declares_entity s senses h.leaf) (entity_type s senses h.leaf) h.what h.declared))
