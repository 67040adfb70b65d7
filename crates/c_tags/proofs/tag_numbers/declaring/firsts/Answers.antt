use Rattle.std.proofs.Common.{◌∙◌, ℕ, Option, take, ap, sym, cond, Some, None}
use Rattle.std.proofs.lemmas.List.{take_more}
use Rattle.tree_reads.specs.leaf_maps.Numbers.{number_at}
use Rattle.c_scope.specs.declared.kinds.Declared.{Declared}
use Rattle.c_scope.specs.Known.{those_at, is_at}
use Rattle.c_tags.specs.tag_numbers.Firsts.{head_node, or_first, first_for}
use Rattle.c_tags.proofs.tag_numbers.Places.{head_next, firsts_next}
use Rattle.c_tags.proofs.tag_numbers.declaring.firsts.Goals as goal
use Rattle.std.specs.Prelude.{List, get_or}

pub loop-d-preserved : goal.loop-d-preserved
loop-d-preserved c =
    let i = c.loop-d.d-index in
    let ds = take i c.args.tags.now in
    let d = get_or c.args.tags.now i _ in
    let more = take_more c.args.tags.now i _ c.loop-d-test.true in
    let said = c.loop-d.invariant.places_say d.scope d.symbol in
    record {
      places_say = λ scope symbol.
          c.in_ok-first.ensures.more scope symbol
          ∙ (ap (λ (o : Option ℕ). or_first o (cond (is_at scope symbol d) (Some d.node) None)) (c.loop-d.invariant.places_say scope symbol)
          ∙ (sym (head_next scope symbol ds d) ∙ ap (λ (xs : List Declared). head_node (those_at scope symbol xs)) (sym more)));
      map_says = λ leaf.
          firsts_next ds d c.in_ok-first.first (number_at c.loop-d.map) (number_at c.add.new.self) (c.in_ok-first.ensures.first ∙ ap (λ (o : Option ℕ). or_first o (Some d.node)) said) c.loop-d.invariant.map_says c.in_ok-add.ensures.here c.in_ok-add.ensures.others leaf
          ∙ ap (λ (xs : List Declared). first_for xs leaf) (sym more);
    }
