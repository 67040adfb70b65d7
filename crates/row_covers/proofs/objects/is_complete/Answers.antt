use Rattle.std.proofs.Common.{Option, IsSome, subst, rules}
use Rattle.std.proofs.lemmas.Bool.{false≢true}
use Rattle.c_types.specs.Layout.{Extent}
use Rattle.obj_made.proofs.Past.{no_extent}
use Rattle.row_covers.proofs.objects.is_complete.Goals as goal

pub returns-then-id-type_count-clause-complete : goal.returns-then-id-type_count-clause-complete
returns-then-id-type_count-clause-complete c = (
  (λ h. absurd (false≢true h)),
  (λ h. absurd (false≢true (subst (λ (o : Option Extent). IsSome o) (no_extent c.args.types.now c.args.id.0 (search rules)) h))),
)
