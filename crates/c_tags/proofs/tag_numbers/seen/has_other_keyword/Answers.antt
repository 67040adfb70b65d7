use Rattle.std.proofs.Common.{ℕ, Option, not, ap, sym, ◌∙◌}
use Rattle.c_senses.specs.Tags as spec
use Rattle.c_senses.specs.World.{same_length}
use Rattle.tree_reads.specs.Sources.{source_in}
use Rattle.c_tags.proofs.tag_numbers.seen.has_other_keyword.Goals as goal

pub returns : goal.returns
returns c = λ uses declared.
    let s = source_in c.args.syntax.now uses in
    ap not
    (c.same_word.ensures
    ∙ (ap (λ (word : Option ℕ). same_length word c.word_of.result) (c.keyword_of.ensures uses ∙ ap (spec.keyword_of s) (sym declared))
    ∙ ap (same_length (spec.keyword_of s (spec.tag_declared s c.args.node))) c.word_of.ensures))
