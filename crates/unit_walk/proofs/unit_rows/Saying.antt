-- What is said of the object whose whole initialiser a node is.
use Rattle.std.proofs.Common.{◌≡◌, ℕ, List, Some, None, Result, Ok, Err, IfOk, ◌∙◌, subst}
use Rattle.core_tree.specs.declared.node.Unit.{Unit}
use Rattle.core_nodes.specs.declared.fault.CheckFault.{CheckFault}
use Rattle.c_named.specs.declared.said.Said.{Said}
use Rattle.c_named.specs.Said.{IsSaid}
use Rattle.c_results.specs.declared.made.Made.{Made}
use Rattle.c_results.specs.Standing.{senses_made}
use Rattle.c_senses.specs.Tree.{Source}
use Rattle.c_senses.specs.World.{World}
use Rattle.c_senses.specs.Sense.{sense_in}
use Rattle.init_rows.specs.Around.{object_at}
use Rattle.tree_reads.specs.Sources.{source_in}
use Rattle.tree_reads.specs.declared.syntax.Syntax.{Syntax}

same_leaf : (a b : ℕ) → Some a ≡ Some b → a ≡ b
same_leaf a b e = cc

module _ (syntax : Syntax) (here : List (ℕ × ℕ)) (rs : List Made) (at : ℕ) where
  abbrev s : Source
  s = source_in syntax here

  pub said_some : (r : Result Said CheckFault) (leaf : ℕ) → ((u : Unit) → Some leaf ≡ object_at s (sense_in (senses_made u rs)) at) → IfOk r (λ said. (u : Unit) (w : World) (uses : List (ℕ × ℕ)) → IsSaid w (source_in syntax uses) (sense_in (senses_made u rs)) leaf said)
      → IfOk r (λ said. (u : Unit) (w : World) (other : ℕ) → object_at s (sense_in (senses_made u rs)) at ≡ Some other → IsSaid w s (sense_in (senses_made u rs)) other said)
  said_some (Ok said) leaf name h = λ u w other e. subst (λ (l : ℕ). IsSaid w s (sense_in (senses_made u rs)) l said) (same_leaf leaf other (name u ∙ e)) (h u w here)
  said_some (Err fault) leaf name h = tt

  pub said_none : (said : Said) → ((u : Unit) → None ≡ object_at s (sense_in (senses_made u rs)) at)
      → (u : Unit) (w : World) (other : ℕ) → object_at s (sense_in (senses_made u rs)) at ≡ Some other → IsSaid w s (sense_in (senses_made u rs)) other said
  said_none said name u w other e = let no : None ≡ Some other = name u ∙ e in absurd (cc)
