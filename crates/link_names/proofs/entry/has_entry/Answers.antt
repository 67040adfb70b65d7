use Rattle.std.proofs.lemmas.Bool.{false≢true}
use Rattle.link_names.specs.Scene.{joined_of}
use Rattle.link_names.proofs.Making.{entry_bodied}
use Rattle.link_names.proofs.entry.has_entry.Goals as goal

pub returns-in-None : goal.returns-in-None
returns-in-None c = (
  (λ t. absurd (false≢true t)),
  (λ h. absurd (c.in-None.ensures.none h.declared h.made h.body)),
)

pub returns-in-Some : goal.returns-in-Some
returns-in-Some c =
    let j = joined_of c.args.scene.now in
    let its = entry_bodied j c.args.scene.now.declared.now c.args.name.now c.in-Some.ty.0 c.in-Some.ensures in
    let test = c.is_entry_type.ensures in
    ((λ t. its.0 (test.0 t)), (λ h. test.1 (its.1 h)))
