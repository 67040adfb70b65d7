-- What stands under a sound tree is sound.
use Rattle.std.proofs.Common.{◌≡◌, ℕ, zero, suc, List, [], ◌∷◌, Option, Some, None, slice_get, refl, subst}
use Rattle.c_types.specs.Trees.{Ctype}
use Rattle.c_conversions.specs.passed.core_tree.declared.node.Node.{Node}
use Rattle.c_conversions.specs.passed.core_tree.declared.node.Unit.{Unit}
use Rattle.c_conversions.specs.passed.core_tree.Typed.{trees_of}
use Rattle.c_conversions.specs.passed.core_tree.Valid.{Under, here, below, child_in}
use Rattle.c_senses.specs.passed.c_consts.Core.{Core}
use Rattle.c_senses.specs.World.{World}
use Rattle.c_conversions.specs.passed.core_nodes.Standing.{core_at, cores_at, IsReady}
use Rattle.c_conversions.proofs.passed.core_nodes.Reading.{core_is}
use Rattle.parsed_tree_laws.specs.sense_laws.Sound.{Sound, AllSound}

module _ (w : World) (entities : ℕ → Option Ctype) (u : Unit) (ready : IsReady u) where
  sound_child : (is : List ℕ) (k j : ℕ) → AllSound w entities (cores_at u is) → slice_get is k ≡ Some j → Sound w entities (core_at u j)
  sound_child [] k j h e = cc
  sound_child (i ∷ is) zero j h e = subst (λ (x : ℕ). Sound w entities (core_at u x)) (let same : i ≡ j = cc in same) h.0
  sound_child (i ∷ is) (suc k) j h e = sound_child is k j h.1 e

  under_node : (o : Option Node) (k j : ℕ) → child_in o k ≡ Some j → (n : Node) × (o ≡ Some n) × (slice_get n.children k ≡ Some j)
  under_node None k j e = cc
  under_node (Some n) k j e = (n, refl, e)

  pub sound_under : (i j : ℕ) → Under (trees_of u) i j → Sound w entities (core_at u i) → Sound w entities (core_at u j)
  sound_under i j here h = h
  sound_under i j (below {parent} {child} above child_of) h =
      let found = under_node (slice_get u.nodes.items parent) child_of.0 j child_of.1 in
      let p : Sound w entities (core_at u parent) = sound_under i parent above h in
      sound_child found.0.children child_of.0 j (subst (λ (c : Core). Sound w entities c) (core_is u ready parent found.0 found.1) p).3 found.2
