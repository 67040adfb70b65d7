use Rattle.std.proofs.Common.{◌<◌, length}
use Rattle.std.proofs.lemmas.List.Elements.{All-tail}
use Rattle.ref_calls.proofs.signatures.is_comparison.Goals as goal

pub are_two_pointers-requires : goal.are_two_pointers-requires
are_two_pointers-requires c = All-tail (λ id. id.0 < length c.args.types.now.terms) c.args.of.result c.args.of.parameters.now c.requires
