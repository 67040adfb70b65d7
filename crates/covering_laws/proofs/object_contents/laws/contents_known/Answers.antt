use Rattle.covering_laws.proofs.object_contents.Contents.{contents_known}
use Rattle.covering_laws.proofs.object_contents.laws.contents_known.Goals as goal

pub returns : goal.returns
returns c p l x made at = contents_known p l x made at
