use Rattle.std.proofs.Common.{◌≡◌, ℕ, Bool, true, List, Option, Some, None, get_or, refl, ap, sym, subst, ◌∙◌, inl, inr}
use Rattle.c_senses.specs.Entities.{same_internal}
use Rattle.tree_reads.specs.Sources.{source_in}
use Rattle.name_chains.specs.Links.{listed}
use Rattle.c_meanings.specs.Linkages.{StaysOne}
use Rattle.c_meanings.specs.Later.{later}
use Rattle.c_meanings.proofs.Lists.{ends}
use Rattle.c_meanings.proofs.Onward.{one_push, one_before, not_false}
use Rattle.c_meanings.proofs.kept.one_at.Goals as goal

pub returns-in-Some-clause-one : goal.returns-in-Some-clause-one
returns-in-Some-clause-one c =
    c.requires.linkages.scopes c.args.place c.in-Some.flag
    (sym (ap (λ (l : List (Option Bool)). get_or l c.args.place None) c.as_slice.ensures.value) ∙ (sym c.kept_at.ensures ∙ c.in-Some.is))

pub returns-clause-linkages : goal.returns-clause-linkages
returns-clause-linkages c =
    let xs = c.args.names.now.chains.own.items in
    let l = c.own_link_at-link.result in
    let here = c.internal_asked-here in
    let h = here.ensures.linkages in
    let b = here.result.flag in
    let stays : here.result.stays ≡ true = not_false here.result.stays c.if-not-here.false in
    let whole : StaysOne c.args.syntax.now c.args.results.now (listed xs (Some c.args.place)) b =
    λ u w uses more.
    let s = source_in c.args.syntax.now uses in
    let sense = later u c.args.results.now more in
    ap (same_internal w s sense b) (ends xs c.args.place l c.own_link_at-link.ensures c.requires.names.chained.chains.own (Some c.args.place) refl)
    ∙ one_push s sense w (listed xs l.before) l.declared b
    (one_before c.args.syntax.now c.args.results.now c.args.names.now here.new.linkages h b l.before (c.is_one_before.ensures c.if-not-is_one_before.false) u w uses more)
    (here.ensures.stays stays u uses more) in
    record {
      many_linked = h.many_linked;
      many_own = c.keep.ensures.long ∙ h.many_own;
      statics = h.statics;
      scopes = λ other x e.
          elim (c.keep.ensures.each other x e) [
            | inl old ↦ h.scopes other x old
            | inr new ↦
                subst (λ (n : ℕ). StaysOne c.args.syntax.now c.args.results.now (listed xs (Some n)) x) (sym new.0)
                (subst (λ (y : Bool). StaysOne c.args.syntax.now c.args.results.now (listed xs (Some c.args.place)) y) new.1 whole)
          ];
      own = h.own;
      typing = h.typing;
      internal = h.internal;
      memory = h.memory;
    }

pub returns-clause-one : goal.returns-clause-one
returns-clause-one c =
    let xs = c.args.names.now.chains.own.items in
    let l = c.own_link_at-link.result in
    let here = c.internal_asked-here in
    let h = here.ensures.linkages in
    let b = here.result.flag in
    let stays : here.result.stays ≡ true = not_false here.result.stays c.if-not-here.false in
    let whole : StaysOne c.args.syntax.now c.args.results.now (listed xs (Some c.args.place)) b =
    λ u w uses more.
    let s = source_in c.args.syntax.now uses in
    let sense = later u c.args.results.now more in
    ap (same_internal w s sense b) (ends xs c.args.place l c.own_link_at-link.ensures c.requires.names.chained.chains.own (Some c.args.place) refl)
    ∙ one_push s sense w (listed xs l.before) l.declared b
    (one_before c.args.syntax.now c.args.results.now c.args.names.now here.new.linkages h b l.before (c.is_one_before.ensures c.if-not-is_one_before.false) u w uses more)
    (here.ensures.stays stays u uses more) in
    whole
