-- Nothing is kept.
use Rattle.std.proofs.Common.{ℕ, List, refl, ap}
use Rattle.std.specs.BTreeMap.{is_at}
use Rattle.std.specs.Map.{lookup}
use Rattle.std.specs.Option.{unwrap_or}
use Rattle.std.specs.Ordering.{nat_cmp}
use Rattle.ref_start.proofs.HandedSteps.{nothing_kept}
use Rattle.ref_start.proofs.handed.no_places.Goals as goal

pub returns-clause-whole : goal.returns-clause-whole
returns-clause-whole c = λ table.
    nothing_kept table (record { read = 0; counts = c.new-counts.result; places = c.new-places.result }) refl
    (λ id. ap (λ (es : List (ℕ × ℕ)). unwrap_or (lookup (is_at (nat_cmp id)) es) 0) c.new-counts.ensures.empty)

pub returns-clause-read : goal.returns-clause-read
returns-clause-read c = λ table.
    nothing_kept table (record { read = 0; counts = c.new-counts.result; places = c.new-places.result }) refl
    (λ id. ap (λ (es : List (ℕ × ℕ)). unwrap_or (lookup (is_at (nat_cmp id)) es) 0) c.new-counts.ensures.empty)
