use Rattle.std.proofs.Common.{◌≡◌, ℕ, Bool, true, false, ◌||◌, ◌&&◌, refl, ap, sym, ◌∙◌}
use Rattle.std.specs.Prelude.{◌==◌}
use Rattle.c_senses.specs.Tree.{any_where}
use Rattle.c_senses.specs.Tags.{tag_declared, has_list, is_tag_specifier, specifiers_before}
use Rattle.tree_reads.specs.Sources.{source_in}
use Rattle.c_tags.proofs.tag_numbers.Listing.{any_passing_next}
use Rattle.c_tags.proofs.tag_numbers.seen.see_node.Goals as goal

or_false : (a : Bool) → a ≡ (a || false)
or_false true = refl
or_false false = refl

pub returns-then-not-is_specifier_at-clause-seen : goal.returns-then-not-is_specifier_at-clause-seen
returns-then-not-is_specifier_at-clause-seen c = λ uses roles h listed is.
    absurd (let e = c.if-not-is_specifier_at.ensures (source_in c.args.syntax.now uses) roles in cc)

pub returns-then-not-is_specifier_at-clause-listed : goal.returns-then-not-is_specifier_at-clause-listed
returns-then-not-is_specifier_at-clause-listed c = λ uses roles h listed d.
    let s = source_in c.args.syntax.now uses in
    let test : ℕ → Bool = λ j. has_list s j && (tag_declared s j == d) in
    let before = any_where test (specifiers_before s c.args.node) in
    listed d
    ∙ (or_false before
    ∙ (ap (λ (b : Bool). before || (b && test c.args.node)) (c.if-not-is_specifier_at.ensures (source_in c.args.syntax.now uses) roles) ∙ sym (any_passing_next test (is_tag_specifier s) c.args.node)))

pub returns-clause-listed : goal.returns-clause-listed
returns-clause-listed c = λ uses roles h listed d.
    let s = source_in c.args.syntax.now uses in
    let test : ℕ → Bool = λ j. has_list s j && (tag_declared s j == d) in
    let before = any_where test (specifiers_before s c.args.node) in
    let here : (c.has_list.result && (c.tag_declared-declared.result == d)) ≡ test c.args.node = ap (λ (b : Bool). b && (c.tag_declared-declared.result == d)) (c.has_list.ensures uses) ∙ ap (λ (k : ℕ). has_list s c.args.node && (k == d)) (c.tag_declared-declared.ensures uses h) in
    c.mark_if.ensures.marked d
    ∙ (ap (λ (b : Bool). b || (c.has_list.result && (c.tag_declared-declared.result == d))) (listed d)
    ∙ (ap (λ (b : Bool). before || b) here
    ∙ (ap (λ (b : Bool). before || (b && test c.args.node)) (sym c.if-not-is_specifier_at.false ∙ c.is_specifier_at.ensures (source_in c.args.syntax.now uses) roles) ∙ sym (any_passing_next test (is_tag_specifier s) c.args.node))))
