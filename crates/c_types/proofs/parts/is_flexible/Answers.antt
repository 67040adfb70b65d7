use Rattle.std.proofs.Common.{◌∙◌, ap, []}
use Rattle.c_types.specs.Trees.{Ctype, grown}
use Rattle.c_types.specs.Parts.{unless_flexible}
use Rattle.c_types.specs.Inside.{terms_of}
use Rattle.c_types.proofs.Read.{entry_at}
use Rattle.c_types.proofs.parts.is_flexible.Goals as goal

pub returns : goal.returns
returns c n =
    let types = grown [] (terms_of c.args.entries.now) in
    let e = entry_at c.args.entries.now _ c.requires.entries.1 c.args.id.0 c.index-entries-id.result c.requires.id in
    ap (λ (t : Ctype). unless_flexible t n) e.term ∙ c.lacks_length.ensures types n
