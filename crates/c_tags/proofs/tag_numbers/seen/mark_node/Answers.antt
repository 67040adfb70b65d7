use Rattle.std.proofs.Common.{◌≡◌, ℕ, Bool, true, false, ◌||◌, ◌&&◌, refl, ap, sym, ◌∙◌}
use Rattle.std.specs.Prelude.{◌==◌}
use Rattle.c_senses.specs.Tree.{any_where, numbers_from}
use Rattle.c_senses.specs.Tags.{tag_of}
use Rattle.tree_reads.specs.Sources.{source_in}
use Rattle.c_tags.specs.tag_numbers.Numbers.{completes}
use Rattle.c_tags.proofs.tag_numbers.Listing.{any_next}
use Rattle.c_tags.proofs.tag_numbers.seen.mark_node.Goals as goal

or_false : (a : Bool) → a ≡ (a || false)
or_false true = refl
or_false false = refl

pub returns-then-not-completes : goal.returns-then-not-completes
returns-then-not-completes c = λ uses roles h marked n.
    let s = source_in c.args.syntax.now uses in
    let test : ℕ → Bool = λ j. completes s j && (tag_of s j == n) in
    let not_one : test c.args.node ≡ false = ap (λ (b : Bool). b && (tag_of s c.args.node == n)) (sym (c.if-not-completes.ensures uses roles)) in
    marked n ∙ (or_false (any_where test (numbers_from 0 c.args.node)) ∙ (ap (λ (b : Bool). any_where test (numbers_from 0 c.args.node) || b) (sym not_one) ∙ sym (any_next test c.args.node)))

pub returns : goal.returns
returns c = λ uses roles h marked n.
    let s = source_in c.args.syntax.now uses in
    let test : ℕ → Bool = λ j. completes s j && (tag_of s j == n) in
    let number : c.tag_number-number.result ≡ tag_of s c.args.node = c.tag_number-number.ensures ∙ ap s.tag_number (c.tag_declared.ensures uses h) in
    let one : test c.args.node ≡ (c.tag_number-number.result == n) = ap (λ (b : Bool). b && (tag_of s c.args.node == n)) (sym (c.completes.ensures uses roles) ∙ c.if-not-completes.false) ∙ ap (λ (k : ℕ). k == n) (sym number) in
    c.mark_if.ensures.marked n
    ∙ (ap (λ (b : Bool). b || (c.tag_number-number.result == n)) (marked n)
    ∙ (ap (λ (b : Bool). any_where test (numbers_from 0 c.args.node) || b) (sym one) ∙ sym (any_next test c.args.node)))
