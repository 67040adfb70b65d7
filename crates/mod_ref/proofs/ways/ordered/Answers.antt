use Rattle.std.proofs.Common.{◌<◌, ℕ, subst, sym, arith}
use Rattle.std.proofs.lemmas.List.Sorted.{All-permutation, Contains-permutation, IsPermutation-sym}
use Rattle.mod_ref.specs.Ways.{AreBelow}
use Rattle.mod_ref.proofs.Paths.{class_edges_below, edges_kept, ways_below, ways_kept, ways_sorted}
use Rattle.mod_ref.proofs.ways.ordered.Goals as goal

pub push_members-requires : goal.push_members-requires
push_members-requires c = let count = c.requires.sets.count in let small = c.ranges.functions.fits in omega arith

pub push_between-requires : goal.push_between-requires
push_between-requires c = subst (λ n. AreBelow n c.args.made.now) (sym c.requires.heights) (class_edges_below c.args.functions c.args.edges.now c.args.made.now c.args.first.now c.requires.sets c.requires.classes)

pub returns-clause-ways : goal.returns-clause-ways
returns-clause-ways c =
    let edges = c.args.edges.now in
    let two = c.push_between.new.ways.items in
    let sorted = c.sort_unstable.new.self.items in
    ways_sorted edges two sorted
    (λ way h. Contains-permutation two sorted way c.sort_unstable.ensures.permutation h)
    (λ way h. Contains-permutation sorted two way (IsPermutation-sym two sorted c.sort_unstable.ensures.permutation) h)
    (λ G. (
      λ keeps. ways_kept c.args.functions edges c.args.made.now c.args.first.now c.new-ways.result.items c.push_members.new.ways.items two c.new-ways.ensures.items c.requires.sets c.requires.classes c.in_ok-push_members.ensures c.in_ok-push_between.ensures G keeps,
      λ keeps. edges_kept c.args.functions edges c.args.made.now c.args.first.now c.new-ways.result.items c.push_members.new.ways.items two c.new-ways.ensures.items c.requires.sets c.requires.classes c.in_ok-push_members.ensures c.in_ok-push_between.ensures c.requires.below G keeps,
    ))

pub returns-clause-below : goal.returns-clause-below
returns-clause-below c =
    let two = c.push_between.new.ways.items in
    All-permutation (λ (way : ℕ × ℕ × ℕ). (way.1 < c.args.functions) × (way.2 < c.args.functions)) two c.sort_unstable.new.self.items c.sort_unstable.ensures.permutation
    (ways_below c.args.functions c.args.edges.now c.args.made.now c.args.first.now c.new-ways.result.items c.push_members.new.ways.items two c.new-ways.ensures.items c.requires.sets c.requires.classes c.in_ok-push_members.ensures c.in_ok-push_between.ensures)
