use Rattle.std.proofs.Common.{◌≡◌, ◌+◌, ◌<◌, ◌++◌, ℕ, suc, List, [], ◌∷◌, length, drop, map, get_or, append_assoc, append-nil, refl, sym, ap, ◌∙◌, arith}
use Rattle.std.proofs.Math.Seq.{drop-cons}
use Rattle.core_tree.specs.declared.node.Unit.{Unit}
use Rattle.link_merge.specs.Kids.{term_kids, types_kids}
use Rattle.link_merge.specs.Parted.{lists_of}
use Rattle.link_merge.proofs.kids.kids_of.Goals as goal

drop_next : (xs : List Unit) (i : ℕ) (x : Unit) → i < length xs → x ≡ get_or xs i x → drop i xs ≡ x ∷ drop (i + 1) xs
drop_next xs i x lt is =
    let next : suc i ≡ i + 1 = omega arith in
    drop-cons xs i x lt ∙ (ap (λ (y : Unit). y ∷ drop (suc i) xs) (sym is) ∙ ap (λ n. x ∷ drop n xs) next)

drop_all : (xs : List Unit) → drop (length xs) xs ≡ []
drop_all [] = refl
drop_all (x ∷ xs) = drop_all xs

pub loop-u-preserved : goal.loop-u-preserved
loop-u-preserved c =
    let units = c.args.units.now in
    let nodes = c.args.nodes.now in
    let starts = c.args.tag_starts.now in
    let u = c.loop-u.u in
    let x = c.index-units-u.result in
    let old = lists_of c.loop-u.lists.items in
    let own = map (term_kids (get_or nodes u 0) (get_or starts u 0)) x.types.terms in
    let rest = types_kids nodes starts (u + 1) (drop (u + 1) units) in
    ap (λ (l : List (List ℕ)). l ++ rest) c.in_ok-add_type_kids.ensures
    ∙ (append_assoc old own rest ∙ (sym (ap (λ (us : List Unit). old ++ types_kids nodes starts u us) (drop_next units u x c.loop-u-test.true c.index-units-u.is)) ∙ c.loop-u.invariant))

pub returns : goal.returns
returns c =
    let units = c.args.units.now in
    let nodes = c.args.nodes.now in
    let starts = c.args.tag_starts.now in
    let old = lists_of c.loop-u.lists.items in
    let e : c.loop-u.u ≡ length units = omega arith in
    sym (append-nil old) ∙ (sym (ap (λ (us : List Unit). old ++ types_kids nodes starts c.loop-u.u us) (ap (λ n. drop n units) e ∙ drop_all units)) ∙ c.loop-u.invariant)
