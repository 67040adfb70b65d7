use Rattle.std.proofs.Common.{length, ap}
use Rattle.tree_reads.specs.Sources.{source_in}
use Rattle.c_tags.proofs.tag_numbers.Knowing.{tags_known}
use Rattle.c_tags.proofs.tag_numbers.tags.tags_by.Goals as goal

pub returns : goal.returns
returns c = λ uses roles h numbers.
    tags_known (source_in c.args.syntax.now uses) (record { count = length c.as_slice-count.result.now; seen = c.in_ok-seen.seen; completed = c.in_ok-completed.completed; firsts = c.args.firsts })
    (ap length c.as_slice-count.ensures.value) numbers (c.in_ok-seen.ensures uses roles h) (c.in_ok-completed.ensures uses roles h)
