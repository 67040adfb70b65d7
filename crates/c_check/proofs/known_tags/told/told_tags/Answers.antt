use Rattle.std.proofs.Common.{arith, rules, ◌≡◌, ◌∙◌, ℕ, List, [], ◌∷◌, length, length-append, get_or, ap, subst}
use Rattle.tree_reads.specs.Sources.{source_in}
use Rattle.c_check.specs.known_tags.Told.{AreTold}
use Rattle.c_check.proofs.known_tags.Telling.{marks_more, told_more}
use Rattle.c_check.proofs.known_tags.told.told_tags.Goals as goal

pub loop-tag-preserved : goal.loop-tag-preserved
loop-tag-preserved c =
    let n = c.args.numbered.now in
    let firsts = n.tags.firsts.items in
    let inv = c.loop-tag.invariant in
    let marks = c.loop-tag.marks.items in
    let flags = c.loop-tag.incomplete.items in
    let pushed = c.in_ok-push.ensures.items in
    let flagged = c.in_ok-push-2.ensures.items in
    let first : c.first_of-first.result ≡ get_or firsts c.loop-tag.tag 0 = c.first_of-first.ensures ∙ ap (λ (l : List ℕ). get_or l c.loop-tag.tag 0) c.as_slice.ensures.value in
    let longer = length-append marks (c.mark_of-mark.result ∷ []) in
    let wider = length-append flags (c.flag_of-flag.result ∷ []) in
    record {
      marks = marks_more marks c.push.new.self.items c.mark_of-mark.result pushed inv.marks c.mark_of-mark.ensures.mark;
      long = ap length pushed ∙ omega (arith, longer, inv.long);
      same = ap length flagged ∙ omega (arith, wider, inv.same);
      told = λ uses list node declares given under.
          told_more (source_in n.syntax uses) (λ (k : ℕ). get_or firsts k 0) node list c.args.types.now c.args.known.now c.loop-tag.tag marks c.push.new.self.items flags c.push-in-loop-tag.new.self.items inv.long inv.same (inv.told uses list node declares given under)
          c.first_of-first.result first c.is_own-own.result (c.is_own-own.ensures uses list node declares given under) c.id_at-before.result c.id_at-before.ensures c.mark_of-mark.result c.mark_of-mark.ensures.is pushed
          c.flag_of-flag.result (c.flag_of-flag.ensures uses list declares given) flagged;
    }

pub returns-clause-told : goal.returns-clause-told
returns-clause-told c = λ uses list node declares given under.
    let last : c.loop-tag.tag ≡ c.args.numbered.now.tags.count = search rules in
    subst (λ (n : ℕ). AreTold (source_in c.args.numbered.now.syntax uses) (λ (k : ℕ). get_or c.args.numbered.now.tags.firsts.items k 0) node list c.args.types.now c.args.known.now n c.loop-tag.marks.items c.loop-tag.incomplete.items) last (c.loop-tag.invariant.told uses list node declares given under)
