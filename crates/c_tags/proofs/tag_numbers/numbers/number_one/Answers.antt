use Rattle.std.proofs.Common.{◌≡◌, ℕ, ◌+◌, Option, Some, ap, sym, ◌∙◌, subst, List, length}
use Rattle.c_senses.specs.World.{or_else}
use Rattle.tree_reads.specs.leaf_maps.Numbers.{number_at}
use Rattle.c_tags.specs.tag_numbers.Numbers.{AreNumbered}
use Rattle.c_tags.proofs.tag_numbers.Numbering.{numbered_again, numbered_new}
use Rattle.c_tags.proofs.tag_numbers.numbers.number_one.Goals as goal

pub returns-in-Some : goal.returns-in-Some
returns-in-Some c = λ s are structure declared inside.
    let numbers = number_at c.args.numbering.now.numbers in
    numbered_again s numbers c.args.numbering.now.firsts.items c.args.node are c.in-Some._number (ap numbers declared ∙ sym c.in-Some.ensures)

pub returns : goal.returns
returns c = λ s are structure declared inside.
    let numbers = number_at c.args.numbering.now.numbers in
    let firsts = c.args.numbering.now.firsts.items in
    let here : number_at c.add.new.self c.args.declared ≡ Some (length firsts) = c.in_ok-add.ensures.here ∙ (ap (λ (o : Option ℕ). or_else o (Some (length c.as_slice-number.result.now))) (sym c.in_default.ensures) ∙ ap (λ (list : List ℕ). Some (length list)) c.as_slice-number.ensures.value) in
    subst (λ (list : List ℕ). AreNumbered s (number_at c.add.new.self) list (c.args.node + 1)) (sym c.in_ok-push.ensures.items)
    (numbered_new s numbers (number_at c.add.new.self) firsts c.args.node are c.args.declared declared (sym c.in_default.ensures) here c.in_ok-add.ensures.others structure inside)
