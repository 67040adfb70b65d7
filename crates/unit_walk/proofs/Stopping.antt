-- The first node whose row doesn't fit, among the first so many.
use Rattle.std.proofs.Common.{arith, ◌≡◌, ◌∙◌, ℕ, ◌<◌, List, [], ◌∷◌, Some, Err, length, get_or, slice_get, sym, ap, subst}
use Rattle.std.proofs.lemmas.List.{length-map}
use Rattle.std.proofs.lemmas.Option.{slice_get-get_or}
use Rattle.pta_base.specs.declared.kind.Kind.{Kind}
use Rattle.pta_base.specs.declared.kind.Kind.TheVariants.{Operand}
use Rattle.core_tree.specs.declared.node.Unit.{Unit}
use Rattle.c_lexer.specs.declared.Tokens.{Tokens}
use Rattle.c_grammar.specs.declared.trees.SyntaxNode.{SyntaxNode}
use Rattle.c_grammar.specs.declared.trees.Tree.{Tree}
use Rattle.c_scope.specs.declared.resolving.Bound.{Bound}
use Rattle.c_scope.specs.Resolves.{IsBound}
use Rattle.c_senses.specs.Given.{Given, Refuses}
use Rattle.c_senses.specs.Tree.{Source}
use Rattle.c_senses.specs.Names.{source_of, numbered}
use Rattle.c_senses.specs.Sense.{Sense}
use Rattle.core_nodes.specs.declared.fault.CheckFault.{CheckFault}
use Rattle.core_nodes.specs.declared.fault.CheckFault.TheVariants.{BadOperand, Unsupported, OutOfMemory}
use Rattle.c_results.specs.declared.made.Made.{Made}
use Rattle.c_results.specs.Standing.{sense_made, senses_made, Rowed}
use Rattle.unit_worlds.proofs.Sensing.{row_as}
use Rattle.unit_walk.specs.unit_rows.Standing.{AreMade}
use Rattle.tree_reads.specs.declared.syntax.Syntax.{Syntax}
use Rattle.tree_reads.specs.Sources.{number_in, source_in}
use Rattle.c_tags.specs.declared.tag_numbers.tags.Tags.{Tags}
use Rattle.c_tags.specs.tag_numbers.Known.{AreTags}
use Rattle.c_tags.specs.tag_numbers.Ordered.{AreInOrder}
use Rattle.unit_walk.specs.Walked.{IsWalked, AreDense, RefusedIn}
use Rattle.unit_walk.proofs.Sources.{source_same, dense_of}
use Rattle.unit_walk.proofs.Walking.{Whole}
use Rattle.unit_walk.specs.Stopping.{IsWalkedTo, RefusedWithin, RefusedBefore, RefusedThere, RefusedEarly}

there_is : (nodes : List SyntaxNode) (i : ℕ) → i < length nodes → (n : SyntaxNode) × (slice_get nodes i ≡ Some n)
there_is [] i h = absurd (omega arith)
there_is (n ∷ rest) i h = let lt : i < length (n ∷ rest) = h in (get_or (n ∷ rest) i n, slice_get-get_or (n ∷ rest) i n lt)

module _ (s : Source) (u : Unit) (rs : List Made) (made : AreMade s u rs) (at : ℕ) (long : length rs ≡ at) (inside : at < length s.nodes) (end : ℕ) (early : at < end) where
  so_many : length (senses_made u rs) ≡ length rs
  so_many = length-map rs (sense_made u)

  here : (n : SyntaxNode) × (slice_get s.nodes (length (senses_made u rs)) ≡ Some n)
  here = there_is s.nodes (length (senses_made u rs)) (omega (arith, so_many, long, inside))

  at_end : (f : ℕ → Given Sense) (g : Given Sense) → f at ≡ g → f (length (senses_made u rs)) ≡ g
  at_end f g e = ap f (so_many ∙ long) ∙ e

  refuses_at : (kind : Kind) (named : ℕ) → Whole s u rs at ≡ Refuses kind named → RefusedWithin s end kind named
  refuses_at kind named e = record {
    refused = record {
      senses = senses_made u rs;
      before = made.senses;
      node = here.0;
      stands = here.1;
      refuses = row_as s (senses_made u rs) here.0 here.1 ∙ at_end (Whole s u rs) (Refuses kind named) e;
    };
    early = omega (arith, so_many, long, early);
  }

  pub refused_before : (v : Unit) (fault : CheckFault) → Rowed v (Err fault) (Whole s u rs at) → RefusedBefore s end fault
  refused_before v (BadOperand named) e = refuses_at Operand named e
  refused_before v (Unsupported kind named) e = refuses_at kind named e
  refused_before v OutOfMemory e = tt

module _ (syntax : Syntax) (tokens : Tokens) (tree : Tree) (bound : Bound) (same_tokens : syntax.tokens.now ≡ tokens) (same_tree : syntax.tree.now ≡ tree) (bind : IsBound tokens tree bound) (end : ℕ) where
  there : (tags : Tags) (fault : CheckFault) → AreTags (source_in syntax bound.uses.items) tags → AreInOrder (source_in syntax bound.uses.items) → RefusedBefore (source_in syntax bound.uses.items) end fault → RefusedThere (source_of tokens tree) end fault
  there tags fault t o h =
      let same = source_same syntax tokens tree bound same_tokens same_tree bind in
      record {
        tag_number = number_in syntax.tag_numbers;
        dense = subst AreDense same (dense_of syntax tokens tree bound same_tokens same_tree bind (source_in syntax bound.uses.items) tags t o);
        refused = subst (λ (s : Source). RefusedBefore s end fault) same h;
      }

  pub refused_there : (tags : Tags) (fault : CheckFault) → AreTags (source_in syntax bound.uses.items) tags → AreInOrder (source_in syntax bound.uses.items) → RefusedBefore (source_in syntax bound.uses.items) end fault → RefusedEarly (source_of tokens tree) end fault
  refused_there tags (BadOperand named) t o h = there tags (BadOperand named) t o h
  refused_there tags (Unsupported kind named) t o h = there tags (Unsupported kind named) t o h
  refused_there tags OutOfMemory t o h = tt

pub memory_refused : (s : Source) (end : ℕ) (fault : CheckFault) → fault ≡ OutOfMemory → RefusedEarly s end fault
memory_refused s end fault e = subst (RefusedEarly s end) (sym e) tt

-- where the first so many are all nodes
pub walked_whole : (s : Source) (end : ℕ) (u : Unit) (rs : List Made) → IsWalkedTo s end u rs → end ≡ length s.nodes → IsWalked s u rs
walked_whole s end u rs h e = record { made = h.made; whole = h.long ∙ e }

pub refused_whole : (s : Source) (end : ℕ) (fault : CheckFault) → RefusedEarly s end fault → RefusedIn s fault
refused_whole s end (BadOperand named) h =
    let at : RefusedThere s end (BadOperand named) = h in
    let within : RefusedWithin (numbered at.tag_number s) end Operand named = at.refused in
    (at.tag_number, at.dense, within.refused)
refused_whole s end (Unsupported kind named) h =
    let at : RefusedThere s end (Unsupported kind named) = h in
    let within : RefusedWithin (numbered at.tag_number s) end kind named = at.refused in
    (at.tag_number, at.dense, within.refused)
refused_whole s end OutOfMemory h = tt
