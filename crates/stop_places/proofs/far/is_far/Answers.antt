use Rattle.std.proofs.Common.{◌≡◌, ℕ, ◌<◌, List, [], ◌∷◌, length, get_or, refl, sym, subst, ap, ◌∙◌, arith}
use Rattle.stop_places.specs.Far.{pointed, part}
use Rattle.stop_places.proofs.Fars.{far_below}
use Rattle.stop_places.proofs.Pushed.{one_item}
use Rattle.stop_places.proofs.far.is_far.Goals as goal

pub returns-in-Deref : goal.returns-in-Deref
returns-in-Deref c nodes at are = (λ h. pointed at c.in-Deref.is, λ h. refl)

pub returns-in-len1 : goal.returns-in-len1
returns-in-len1 c nodes at are =
    let xs : List ℕ = c.as_slice.result.now in
    let p : ℕ = get_or xs 0 0 in
    let n : ℕ = length c.args.far.now in
    let one : c.args.node.now.children ≡ p ∷ [] = sym c.as_slice.ensures ∙ one_item xs c.in-len1.len_at_least c.in-len1.len_below in
    let some : 0 < length c.args.node.now.children = (let same = ap length c.as_slice.ensures in let least = c.in-len1.len_at_least in omega arith) in
    let lt : p < n = subst (λ (ys : List ℕ). get_or ys 0 0 < n) (sym c.as_slice.ensures) (c.requires 0 0 some) in
    (λ h. part at c.in-Member.is one ((are.right p lt).0 h), λ f. (are.right p lt).1 (far_below nodes n _ p c.args.node.now at c.in-Member.is one f))
