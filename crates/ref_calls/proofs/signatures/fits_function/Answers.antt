use Rattle.std.proofs.Common.{◌<◌, length}
use Rattle.std.proofs.lemmas.List.Elements.{All-tail}
use Rattle.ref_calls.proofs.signatures.fits_function.Goals as goal

pub fits_values-requires-clause-of : goal.fits_values-requires-clause-of
fits_values-requires-clause-of c =
    All-tail (λ id. id.0 < length c.args.trees.now.types.now.terms) c.args.of.result c.args.of.parameters.now c.requires.of

pub fits_list-requires-clause-of : goal.fits_list-requires-clause-of
fits_list-requires-clause-of c =
    All-tail (λ id. id.0 < length c.args.trees.now.types.now.terms) c.args.of.result c.args.of.parameters.now c.requires.of
