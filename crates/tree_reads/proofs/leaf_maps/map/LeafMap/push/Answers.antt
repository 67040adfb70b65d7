use Rattle.std.proofs.Common.{arith, ℕ, List, None, ap, ◌∙◌, ◌≡◌, ◌++◌, ◌∷◌, [], length}
use Rattle.tree_reads.specs.leaf_maps.Numbers.{number_at}
use Rattle.tree_reads.specs.leaf_maps.Rising.{pairs_of}
use Rattle.tree_reads.proofs.leaf_maps.Apart.{not_equal}
use Rattle.tree_reads.proofs.leaf_maps.Finding.{put_behind, kept_behind, put_other, kept_other}
use Rattle.tree_reads.proofs.leaf_maps.map.LeafMap.push.Goals as goal

pub returns-then-is_behind-clause-here : goal.returns-then-is_behind-clause-here
returns-then-is_behind-clause-here c =
    let leaves = c.self.inside.leaves.items in
    let numbers = c.self.inside.numbers.items in
    let others = c.self.inside.others.entries in
    let long : length leaves ≡ length numbers = omega (arith, c.if-rising.true, c.len.ensures, c.len-2.ensures, c.self.inside.leaves.ok, c.self.inside.numbers.ok) in
    let free : number_at (pairs_of leaves numbers ++ others) c.args.leaf ≡ None = rw c.self.view_is c.requires in
    ap (λ (l : List ℕ). number_at (pairs_of l c.push.new.self.items ++ others) c.args.leaf) c.in_ok-push-2.ensures.items
    ∙ (ap (λ (l : List ℕ). number_at (pairs_of (leaves ++ c.args.leaf ∷ []) l ++ others) c.args.leaf) c.in_ok-push.ensures.items
    ∙ put_behind leaves numbers others c.args.leaf c.args.number long free)

pub returns-then-is_behind-clause-others : goal.returns-then-is_behind-clause-others
returns-then-is_behind-clause-others c q apart =
    let leaves = c.self.inside.leaves.items in
    let numbers = c.self.inside.numbers.items in
    let others = c.self.inside.others.entries in
    let long : length leaves ≡ length numbers = omega (arith, c.if-rising.true, c.len.ensures, c.len-2.ensures, c.self.inside.leaves.ok, c.self.inside.numbers.ok) in
    rw (← c.self.view_is) (
    ap (λ (l : List ℕ). number_at (pairs_of l c.push.new.self.items ++ others) q) c.in_ok-push-2.ensures.items
    ∙ (ap (λ (l : List ℕ). number_at (pairs_of (leaves ++ c.args.leaf ∷ []) l ++ others) q) c.in_ok-push.ensures.items
    ∙ kept_behind leaves numbers others c.args.leaf c.args.number q long apart))

pub returns-clause-here : goal.returns-clause-here
returns-clause-here c =
    let pairs = pairs_of c.self.inside.leaves.items c.self.inside.numbers.items in
    let free : number_at (pairs ++ c.self.inside.others.entries) c.args.leaf ≡ None = rw c.self.view_is c.requires in
    put_other pairs c.self.inside.others.entries c.insert.new.self.entries c.args.leaf c.args.number free c.in_ok-insert.ensures.updates.1

pub returns-clause-others : goal.returns-clause-others
returns-clause-others c q apart =
    let pairs = pairs_of c.self.inside.leaves.items c.self.inside.numbers.items in
    rw (← c.self.view_is) (kept_other pairs c.self.inside.others.entries c.insert.new.self.entries q (c.in_ok-insert.ensures.updates.2 q (not_equal c.args.leaf q apart)))
