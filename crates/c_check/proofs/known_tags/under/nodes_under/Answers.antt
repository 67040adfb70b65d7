use Rattle.std.proofs.Common.{arith, rules, ◌≡◌, ◌∙◌, ◌<◌, ◌-◌, ◌≢◌, ℕ, Bool, List, length, set, inl, inr, sym, subst, get_or-set_other, get_or-set_same, length-set}
use Rattle.std.proofs.lemmas.Bool.Decides.{eqb_tells}
use Rattle.tree_reads.specs.Sources.{source_read}
use Rattle.c_senses.specs.Tree.{parent_of}
use Rattle.c_check.specs.known_tags.Own.{flag_at, is_under, by_parent}
use Rattle.c_check.proofs.known_tags.Climbed.{not_under, flags_step, past_false}
use Rattle.c_check.proofs.known_tags.under.nodes_under.Goals as goal

pub loop-left-init : goal.loop-left-init
loop-left-init c =
    let long : length c.in_ok-flags.flags.items ≡ c.args.top = search rules in
    record {
      long = long;
      at_most = omega arith;
      each = λ i h. past_false c.in_ok-flags.flags.items i (omega (arith, long)) ∙ sym (not_under (source_read c.args.syntax.now) c.requires.first c.args.top i h);
    }

pub loop-left-preserved : goal.loop-left-preserved
loop-left-preserved c =
    let s = source_read c.args.syntax.now in
    let top = c.args.top in
    let at = c.loop-left.left - 1 in
    let flags = c.loop-left.flags.items in
    let inv = c.loop-left.invariant in
    let flag = c.is_under-flag.result in
    let some = c.loop-left-test.true in
    let inside : at < length flags = omega (arith, inv.long, inv.at_most, some) in
    let is : flag ≡ is_under s top at = subst (λ (l : List Bool). flag ≡ by_parent top l (parent_of s at)) c.as_slice.ensures.value c.is_under-flag.ensures ∙ flags_step s c.requires.first top flags at (λ j lt. inv.each j (omega (arith, lt, some))) in
    record {
      long = simp length-set inv.long;
      at_most = omega (arith, inv.at_most);
      each = λ i h. elim (eqb_tells i at) [
        | inl p ↦ subst (λ (k : ℕ). flag_at (set flags at flag) k ≡ is_under s top k) (sym p.1) (get_or-set_same flags at flag _ inside ∙ is)
        | inr p ↦ let other : i ≢ at = p.1 in rw get_or-set_other (inv.each i (omega (arith, h, other)))
      ];
    }
