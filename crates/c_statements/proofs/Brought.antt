-- What has been made for the parts of a block is what they stand for.
use Rattle.std.proofs.Common.{arith, ◌≡◌, ℕ, zero, suc, ◌<◌, List, [], ◌∷◌, ◌++◌, Option, Some, Result, All, length, map, get_or, slice_get, refl, sym, ap, ◌∙◌, subst}
use Rattle.std.proofs.lemmas.List.Elements.{All-append, All-nil, All-head, All-tail}
use Rattle.pta_base.specs.declared.place.Place.{Place}
use Rattle.c_types.specs.Trees.{Ctype, VoidType}
use Rattle.c_types.specs.Table.{type_of}
use Rattle.core_tree.specs.declared.node.NodeKind.{NodeKind}
use Rattle.core_tree.specs.declared.node.Unit.{Unit}
use Rattle.c_consts.specs.Core.{Core, Cores, Of, NoCores, MoreCores}
use Rattle.c_senses.specs.Given.{Given, Fits, ◌>>=◌}
use Rattle.c_senses.specs.Tree.{Source}
use Rattle.c_senses.specs.World.{World}
use Rattle.c_senses.specs.Sense.{Sense, IsCore, IsRun, sense_in}
use Rattle.c_senses.specs.Statements.{appended, cores_in, statement}
use Rattle.core_nodes.specs.declared.fault.CheckFault.{CheckFault}
use Rattle.core_nodes.specs.Standing.{core_at, cores_at, Builds, Made}
use Rattle.c_results.specs.declared.made.Made.{Made as Result_of}
use Rattle.c_results.specs.declared.made.Made.TheVariants as made
use Rattle.c_results.specs.Standing.{senses_made, sense_read, IsWithin}
use Rattle.c_statements.specs.Parts.{gathered, nodes_of, nodes_made}

-- a part that has been made stands for that
pub sense_at : (u : Unit) (results : List Result_of) (i : ℕ) → sense_in (senses_made u results) i ≡ sense_read u (slice_get results i)
sense_at u [] zero = refl
sense_at u [] (suc i) = refl
sense_at u (m ∷ results) zero = refl
sense_at u (m ∷ results) (suc i) = sense_at u results i

-- the nodes that are brought are the unit's
module _ (u : Unit) where
  one_stands : (m : Result_of) → IsWithin u m → All (λ i. i < length u.nodes.items) (nodes_of (Some m))
  one_stands (made.Node i) h = All-single i h
    where
      All-single : (i : ℕ) → i < length u.nodes.items → All (λ j. j < length u.nodes.items) (i ∷ [])
      All-single i h = λ k d l. subst (λ (x : ℕ). x < length u.nodes.items) (get_first i k d l) h
        where
          get_first : (i k d : ℕ) → k < 1 → i ≡ get_or (i ∷ []) k d
          get_first i zero d l = refl
          get_first i (suc k) d l = absurd (omega (arith, l))
  one_stands (made.Run nodes) h = h
  one_stands m h = All-nil (λ (i : ℕ). i < length u.nodes.items)

  some_stand : (results : List Result_of) (i : ℕ) → All (IsWithin u) results → All (λ j. j < length u.nodes.items) (nodes_made results i)
  some_stand [] i all = All-nil (λ (j : ℕ). j < length u.nodes.items)
  some_stand (m ∷ results) zero all = one_stands m (All-head (IsWithin u) m results all)
  some_stand (m ∷ results) (suc i) all = some_stand results i (All-tail (IsWithin u) m results all)

  pub all_stand : (results : List Result_of) (list : List ℕ) → All (IsWithin u) results → All (λ j. j < length u.nodes.items) (gathered (nodes_made results) list)
  all_stand results [] all = All-nil (λ (j : ℕ). j < length u.nodes.items)
  all_stand results (c ∷ rest) all =
      All-append (λ (j : ℕ). j < length u.nodes.items) (nodes_made results c) (gathered (nodes_made results) rest) (some_stand results c all) (all_stand results rest all)

  -- their trees are those of the parts
  run_brings : (nodes more : List ℕ) (rest : Cores) → cores_at u more ≡ rest → cores_at u (nodes ++ more) ≡ appended (map (core_at u) nodes) rest
  run_brings [] more rest e = e
  run_brings (i ∷ nodes) more rest e = ap (MoreCores (core_at u i)) (run_brings nodes more rest e)

  brings : (m : Option Result_of) (more : List ℕ) (rest : Cores) → cores_at u more ≡ rest → cores_at u (nodes_of m ++ more) ≡ (elim (sense_read u m) [ IsCore x ↦ MoreCores x rest | IsRun cores ↦ appended cores rest | _ ↦ rest ])
  brings (Some (made.Node i)) more rest e = ap (MoreCores (core_at u i)) e
  brings (Some (made.Run nodes)) more rest e = run_brings nodes.items more rest e
  brings m more rest e = e

  pub cores_made : (w : World) (s : Source) (results : List Result_of) (list : List ℕ) → cores_at u (gathered (nodes_made results) list) ≡ cores_in w s (sense_in (senses_made u results)) list
  cores_made w s results [] = refl
  cores_made w s results (c ∷ rest) =
      let tail = cores_in w s (sense_in (senses_made u results)) rest in
      brings (slice_get results c) (gathered (nodes_made results) rest) tail (cores_made w s results rest)
      ∙ sym (ap (λ (x : Sense). elim x [ IsCore y ↦ MoreCores y tail | IsRun cores ↦ appended cores tail | _ ↦ tail ]) (sense_at u results c))

-- a statement over some nodes
pub row_made : (u1 u2 : Unit) (r : Result ℕ CheckFault) (kind wanted : NodeKind) (p q : Place) (t : Ctype) (under : Cores) (trees : Cores) → kind ≡ wanted → p ≡ q → t ≡ VoidType → under ≡ trees → Made u2 r (Fits (Of kind p t under)) → Made u2 r (Fits (statement wanted q trees))
row_made u1 u2 r kind wanted p q t under trees ek ep et ec m =
    subst (λ (c : Core). Made u2 r (Fits c)) (ap (λ (k : NodeKind). Of k p t under) ek ∙ (ap (λ (x : Place). Of wanted x t under) ep ∙ (ap (λ (x : Ctype). Of wanted q x under) et ∙ ap (λ (x : Cores). Of wanted q VoidType x) ec))) m

-- a statement over the node of one part
pub row_one : (u1 u2 u3 : Unit) (r : Result ℕ CheckFault) (g : Given Core) (kind : NodeKind) (p q : Place) (ty a : ℕ) → Builds u1 u2 → a < length u1.nodes.items → type_of u2.types ty ≡ VoidType → p ≡ q → g ≡ Fits (core_at u1 a) → Made u3 r (Fits (Of kind p (type_of u2.types ty) (MoreCores (core_at u2 a) NoCores))) → Made u3 r (g >>= (λ x. Fits (Of kind q VoidType (MoreCores x NoCores))))
row_one u1 u2 u3 r g kind p q ty a builds la void ep eg m =
    let one = row_made u2 u3 r kind kind p q (type_of u2.types ty) (MoreCores (core_at u2 a) NoCores) (MoreCores (core_at u1 a) NoCores) refl ep void (ap (λ (c : Core). MoreCores c NoCores) (builds.cores a la)) m in
    subst (λ (z : Given Core). Made u3 r z) (sym (ap (λ (z : Given Core). z >>= (λ x. Fits (Of kind q VoidType (MoreCores x NoCores)))) eg)) one
