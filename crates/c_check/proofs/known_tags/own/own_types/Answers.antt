use Rattle.std.proofs.Common.{arith, rules, ◌≡◌, ◌∙◌, ℕ, List, [], ◌∷◌, length, length-append, get_or, ap, subst}
use Rattle.tree_reads.specs.Sources.{source_in}
use Rattle.carried_trees.proofs.Extending.{extends_on, same_on}
use Rattle.c_check.specs.known_tags.Own.{AreOpened}
use Rattle.c_check.proofs.known_tags.Opened.{opened_step, ids_next}
use Rattle.c_check.proofs.known_tags.own.own_types.Goals as goal

pub returns-in_err-id-clause-extends : goal.returns-in_err-id-clause-extends
returns-in_err-id-clause-extends c = extends_on c.args.unit.now c.loop-tag.unit c.next_id.new.unit c.loop-tag.invariant.extends c.next_id.ensures.extends

pub returns-in_err-push-clause-extends : goal.returns-in_err-push-clause-extends
returns-in_err-push-clause-extends c = extends_on c.args.unit.now c.loop-tag.unit c.next_id.new.unit c.loop-tag.invariant.extends c.next_id.ensures.extends

pub loop-tag-preserved : goal.loop-tag-preserved
loop-tag-preserved c =
    let old = c.args.unit.now in
    let mid = c.loop-tag.unit in
    let new = c.next_id.new.unit in
    let n = c.args.numbered.now in
    let firsts = n.tags.firsts.items in
    let inv = c.loop-tag.invariant in
    let here = c.in_ok-id.ensures in
    let step = c.next_id.ensures.extends in
    let pushed = c.in_ok-push.ensures.items in
    let first : c.first_of-first.result ≡ get_or firsts c.loop-tag.tag 0 = c.first_of-first.ensures ∙ ap (λ (l : List ℕ). get_or l c.loop-tag.tag 0) c.as_slice.ensures.value in
    let longer = length-append c.loop-tag.ids.items (c.in_ok-id.id ∷ []) in
    record {
      ready = c.next_id.ensures.ready;
      extends = extends_on old mid new inv.extends step;
      parts = same_on old mid new inv.parts c.next_id.ensures.parts;
      nodes = c.next_id.ensures.nodes ∙ inv.nodes;
      long = ap length pushed ∙ omega (arith, longer, inv.long);
      within = ids_next mid.types new.types step.terms c.loop-tag.ids.items c.push.new.self.items c.in_ok-id.id pushed inv.within here.within;
      tags = omega (arith, here.tags, inv.tags);
      opened = λ uses list node declares given under.
          opened_step (source_in n.syntax uses) (λ (k : ℕ). get_or firsts k 0) node list old.types.tags mid.types new.types step.types c.args.known.now c.loop-tag.ids.items c.push.new.self.items c.in_ok-id.id c.loop-tag.tag c.loop-tag.pairs.items c.next_id.new.pairs.items inv.long pushed inv.within
          (inv.opened uses list node declares given under) mid.types.tags inv.tags c.first_of-first.result first c.is_own-own.result (c.is_own-own.ensures uses list node declares given under) c.id_at-before.result c.id_at-before.ensures here.opened (here.pairs uses declares);
    }

pub returns-clause-opened : goal.returns-clause-opened
returns-clause-opened c = λ uses list node declares given under.
    let last : c.loop-tag.tag ≡ c.args.numbered.now.tags.count = search rules in
    subst (λ (n : ℕ). AreOpened (source_in c.args.numbered.now.syntax uses) (λ (k : ℕ). get_or c.args.numbered.now.tags.firsts.items k 0) node list c.args.unit.now.types.tags c.loop-tag.unit.types c.args.known.now n c.loop-tag.ids.items c.loop-tag.pairs.items) last
    (c.loop-tag.invariant.opened uses list node declares given under)
