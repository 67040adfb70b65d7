-- What is answered, where the unit is completed.
use Rattle.std.proofs.Common.{◌≡◌, ℕ, List, ◌++◌, map, Option, Result, Ok, Err, IfOk, MatchResult, sym, subst}
use Rattle.c_types.specs.Table.{Table}
use Rattle.core_tree.specs.declared.node.Node.{Node}
use Rattle.core_tree.specs.declared.node.Unit.{Unit}
use Rattle.core_nodes.specs.declared.fault.CheckFault.{CheckFault}
use Rattle.core_nodes.specs.declared.fault.CheckFault.TheVariants.{OutOfMemory}
use Rattle.core_nodes.specs.Standing.{IsReady}
use Rattle.c_senses.specs.Tree.{Source}
use Rattle.c_senses.specs.Sense.{Sense}
use Rattle.c_senses.specs.Right.{Right}
use Rattle.unit_finish.specs.declared.unit_parts.declared.Declared.{Declared}
use Rattle.unit_finish.specs.unit_parts.Renamed.{literals_in}
use Rattle.unit_finish.specs.declared.planted_nodes.planting.Planted.{Planted}
use Rattle.unit_finish.specs.planted_nodes.Planted.{IsPlanted}
use Rattle.unit_finish.specs.declared.keeping.Kept.{Kept}
use Rattle.unit_finish.specs.Complete.{IsKept, IsUnitOf, Completes}
use Rattle.unit_finish.specs.Walked.{IsWalked, literal_entry}
use Rattle.unit_finish.proofs.Rightness.{is_right}

-- what is completed of nodes that are made anew
module _ (name : List ℕ) (number : ℕ) (types : Table) (keys : List (Option (List ℕ))) (nodes : List Node) (list : List Declared) (planted : Planted) (are : IsPlanted nodes list planted) where
  pub completes_so : (r : Result Unit CheckFault) → MatchResult r (λ u. IsUnitOf name number types keys planted.nodes.items planted.list.items u) (λ fault. fault ≡ OutOfMemory)
      → MatchResult r (λ u. Completes name number types keys nodes list u) (λ fault. fault ≡ OutOfMemory)
  completes_so (Ok u) h = record { planted = planted; are_planted = are; is_unit = h }
  completes_so (Err fault) h = h

module _ (s : Source) (senses : List Sense) (walked : Unit) (name : List ℕ) (number : ℕ) (types : Table) (keys : List (Option (List ℕ))) (names : List Declared) (kept : Kept) (list : List Declared) (ready : IsReady walked) (te : walked.types ≡ types) (ue : s.unit ≡ number) (w : IsWalked s senses walked keys names) (k : IsKept walked.nodes.items names kept) (es : list ≡ kept.names.items ++ map (literal_entry s senses) (literals_in kept.nodes.items)) where
  pub right_result : (r : Result Unit CheckFault) → MatchResult r (λ u. Completes name number types keys kept.nodes.items list u) (λ fault. fault ≡ OutOfMemory) → IfOk r (λ u. Right s name u)
  right_result (Ok u) m =
      is_right s senses walked u name keys names kept list w ready k es
      (subst (λ (n : ℕ). Completes name n walked.types keys kept.nodes.items list u) (sym ue) (subst (λ (t : Table). Completes name number t keys kept.nodes.items list u) (sym te) m))
  right_result (Err fault) m = tt
