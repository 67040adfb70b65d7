-- The systems of programs that are one, but for numbers, are one.
use Rattle.twin_report_laws.specs.rows.Paired.{flipped}
use Rattle.twin_report_laws.specs.rows.One.{OneSystem}
use Rattle.twin_report_laws.proofs.rows.Systems.{maps, leads}
use Rattle.twin_report_laws.proofs.rows.Keeping.{keeps}
use Rattle.twin_report_laws.proofs.rows.Tags.{apart_tags}

pub one_system : OneSystem
one_system p q to back S T h ready other_ready called other_called of over_of valid other_valid = record {
  to = maps p q to back h;
  back = maps q p back to (flipped p q to back h);
  lead = leads p q to back h ready other_ready S T of over_of valid (apart_tags p h.sound) (apart_tags q h.other_sound) called;
  again = leads q p back to (flipped p q to back h) other_ready ready T S over_of of other_valid (apart_tags q h.other_sound) (apart_tags p h.sound) other_called;
  keeps = keeps p q to back h ready other_ready S T of over_of;
  kept = keeps q p back to (flipped p q to back h) other_ready ready T S over_of of;
}
