use Rattle.std.proofs.Common.{◌≡◌, ◌+◌, ℕ, List, Some, None, true, false, drop}
use Rattle.std.specs.Prelude.{if◌then◌else◌}
use Rattle.core_tree.specs.declared.node.Unit.{Unit}
use Rattle.c_grammar.specs.Productions.{p_member}
use Rattle.c_grammar.specs.Terminals.{contains}
use Rattle.c_senses.specs.Keys.{parts_before}
use Rattle.c_senses.specs.World.{or_else}
use Rattle.c_senses.specs.Sense.{sense_in}
use Rattle.c_results.specs.Standing.{senses_made}
use Rattle.c_senses.specs.Tree.{Source, is_a, is_number, parent_of}
use Rattle.tree_reads.specs.leaf_maps.Numbers.{number_at}
use Rattle.tree_reads.specs.Sources.{source_in}
use Rattle.unit_keys.proofs.positions.note_positions.Given as goal

-- the positions so far, and those of the children that are left
abbrev pub invariant-loop-child : goal.invariant-loop-child
invariant-loop-child l = record {
  held : (u : Unit) (uses : List (ℕ × ℕ)) (c : ℕ) →
      let s : Source = source_in l.syntax uses in
      is_a s p_member c ≡ true →
      is_number (parent_of s c) l.list ≡ true →
      or_else (number_at l.positions c) (if contains (drop l.child-index l.children) c then Some (l.before + parts_before s (sense_in (senses_made u l.results)) c (drop l.child-index l.children)) else None)
      ≡ or_else (number_at l.fn.positions c) (if contains l.children c then Some (parts_before s (sense_in (senses_made u l.results)) c l.children) else None);
  others : (uses : List (ℕ × ℕ)) (c : ℕ) →
      let s : Source = source_in l.syntax uses in is_number (parent_of s c) l.list ≡ false → number_at l.positions c ≡ number_at l.fn.positions c;
}
