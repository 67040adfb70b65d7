use Rattle.std.proofs.Common.{arith, ◌≡◌, ◌∙◌, ℕ, List, [], ◌∷◌, ◌++◌, append_assoc, map, take, length, sym, ap}
use Rattle.std.proofs.lemmas.List.{map_more}
use Rattle.std.proofs.Math.Seq.{take-append_seam, take-length}
use Rattle.core_tree.specs.declared.node.Entity.{Entity}
use Rattle.c_results.specs.Standing.{senses_made}
use Rattle.tree_reads.specs.Sources.{source_in}
use Rattle.c_check.specs.literal_entities.Entities.{literal_entity}
use Rattle.c_check.proofs.literal_entities.entities.push_entities.Goals as goal

pub returns-in_err-entity-clause-kept : goal.returns-in_err-entity-clause-kept
returns-in_err-entity-clause-kept c = let b = c.loop-literal.invariant.behind in ap (take (length c.args.entities.now.items)) b.1 ∙ take-append_seam c.args.entities.now.items b.0

pub returns-in_err-push-clause-kept : goal.returns-in_err-push-clause-kept
returns-in_err-push-clause-kept c =
    let b = c.loop-literal.invariant.behind in ap (take (length c.args.entities.now.items)) (c.in_err-push.ensures.items ∙ b.1) ∙ take-append_seam c.args.entities.now.items b.0

pub returns-clause-kept : goal.returns-clause-kept
returns-clause-kept c = let b = c.loop-literal.invariant.behind in ap (take (length c.args.entities.now.items)) b.1 ∙ take-append_seam c.args.entities.now.items b.0

pub loop-literal-preserved : goal.loop-literal-preserved
loop-literal-preserved c =
    let b = c.loop-literal.invariant.behind in
    let old = c.args.entities.now.items in
    let one = c.in_ok-entity.entity ∷ [] in
    let pushed = c.in_ok-push.ensures.items in
    record {
      behind = (b.0 ++ one, pushed ∙ (ap (λ (l : List Entity). l ++ one) b.1 ∙ append_assoc old b.0 one));
      added = λ u uses.
          let f = literal_entity (source_in c.args.syntax.now uses) (senses_made u c.args.results.now) c.args.owner c.args.nodes.now in
          let list = c.args.list.now in
          let i = c.loop-literal.literal-index in
          pushed
          ∙ (ap (λ (l : List Entity). l ++ one) (c.loop-literal.invariant.added u uses)
          ∙ (append_assoc old (map f (take i list)) one ∙ ap (λ (l : List Entity). old ++ l) (ap (λ (x : Entity). map f (take i list) ++ x ∷ []) (c.in_ok-entity.ensures.entity u uses) ∙ sym (map_more f list i (0, 0) c.loop-literal-test.true))));
    }

pub returns-clause-added : goal.returns-clause-added
returns-clause-added c = λ u uses.
    let f = literal_entity (source_in c.args.syntax.now uses) (senses_made u c.args.results.now) c.args.owner c.args.nodes.now in
    let list = c.args.list.now in
    let whole : c.loop-literal.literal-index ≡ length list = omega arith in
    c.loop-literal.invariant.added u uses ∙ ap (λ (l : List (ℕ × ℕ)). c.args.entities.now.items ++ map f l) (ap (λ k. take k list) whole ∙ take-length list)
