use Rattle.std.proofs.Common.{arith, refl, sym, ap, subst, ◌≡◌, ◌∙◌, ◌<◌, ℕ, List, All, length}
use Rattle.std.proofs.lemmas.Option.{slice_get_read}
use Rattle.std.proofs.lemmas.List.Elements.{All-weaker}
use Rattle.core_nodes.specs.Standing.{cores_at}
use Rattle.core_nodes.proofs.Reading.{under_is, under_one, under_none, under_more, first_below}
use Rattle.core_nodes.proofs.widths.only_child.Goals as goal

pub returns-in-len1 : goal.returns-in-len1
returns-in-len1 c =
    let u = c.args.unit.now in
    let at = slice_get_read u.nodes.items (length u.nodes.items) c.args.node c.index.result.now refl c.requires.node c.index.ensures in
    let children : c.as_slice.result.now ≡ c.index.result.now.children = c.as_slice.ensures in
    let some : 0 < length c.as_slice.result.now = omega arith in
    let below = u.nodes.ok in
    let all = All-weaker (λ (k : ℕ). k < c.args.node) (λ (k : ℕ). k < length u.nodes.items) (λ k lt. omega (arith, c.requires.node)) c.index.result.now.children (c.requires.ready.children c.args.node c.index.result.now at) in (
      first_below (length u.nodes.items) c.as_slice.result.now some (subst (λ (is : List ℕ). All (λ k. k < length u.nodes.items) is) (sym children) all),
      under_is u c.requires.ready c.args.node c.index.result.now at ∙ (ap (cores_at u) (sym children) ∙ under_one u c.as_slice.result.now some (omega arith)),
    )

pub returns-in_default : goal.returns-in_default
returns-in_default c d e =
    let u = c.args.unit.now in
    let at = slice_get_read u.nodes.items (length u.nodes.items) c.args.node c.index.result.now refl c.requires.node c.index.ensures in
    under_none u c.as_slice.result.now (omega arith) d (ap (cores_at u) c.as_slice.ensures ∙ (sym (under_is u c.requires.ready c.args.node c.index.result.now at) ∙ e))

pub returns-in_default-2 : goal.returns-in_default-2
returns-in_default-2 c d e =
    let u = c.args.unit.now in
    let at = slice_get_read u.nodes.items (length u.nodes.items) c.args.node c.index.result.now refl c.requires.node c.index.ensures in
    under_more u c.as_slice.result.now (omega arith) d (ap (cores_at u) c.as_slice.ensures ∙ (sym (under_is u c.requires.ready c.args.node c.index.result.now at) ∙ e))
