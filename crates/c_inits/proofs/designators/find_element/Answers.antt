use Rattle.std.proofs.Common.{◌∙◌, ◌∷◌, [], sym, ap, subst, List}
use Rattle.c_types.specs.declared.term.PathStep.TheVariants.{Index}
use Rattle.c_inits.specs.declared.cursor.Frame.{Frame}
use Rattle.c_inits.specs.Tables.{type_shape}
use Rattle.c_inits.specs.Cursor.{Stands, IsAt, path_of}
use Rattle.c_inits.proofs.Advance.{into_at, into_stands, path_more}
use Rattle.c_inits.proofs.designators.find_element.Goals as goal

pub returns-in_ok-push_frame-in-Some-clause-place : goal.returns-in_ok-push_frame-in-Some-clause-place
returns-in_ok-push_frame-in-Some-clause-place c = record {
  way = Index c.args.index ∷ [];
  is = c.in-Some.ensures.element.is;
  along = ap path_of c.in_ok-push_frame-in-Some.ensures ∙ path_more c.args.frames.now.items (record { owner = c.args.id; step = Index c.args.index });
}

pub returns-in_ok-push_frame-in-Some-clause-at : goal.returns-in_ok-push_frame-in-Some-clause-at
returns-in_ok-push_frame-in-Some-clause-at c =
    let root = type_shape c.args.types.now c.args.limit c.args.root.0 in
    subst (λ (l : List Frame). IsAt c.args.types.now c.args.limit root (path_of l) c.in-Some.next.0) (sym c.in_ok-push_frame-in-Some.ensures)
    (into_at c.args.types.now c.args.limit root c.args.frames.now.items c.args.id c.requires.stands c.requires.at (Index c.args.index) c.in-Some.next.0 c.in-Some.ensures.element.known c.in-Some.ensures.element.shaped c.in-Some.ensures.element.within)

pub returns-in_ok-push_frame-in-Some-clause-stands : goal.returns-in_ok-push_frame-in-Some-clause-stands
returns-in_ok-push_frame-in-Some-clause-stands c =
    let root = type_shape c.args.types.now c.args.limit c.args.root.0 in
    subst (λ (l : List Frame). Stands c.args.types.now c.args.limit root l) (sym c.in_ok-push_frame-in-Some.ensures)
    (into_stands c.args.types.now c.args.limit root c.args.frames.now.items c.args.id c.requires.stands c.requires.at (Index c.args.index) c.in-Some.next.0 c.in-Some.ensures.element.known c.in-Some.ensures.element.shaped c.in-Some.ensures.element.within)
