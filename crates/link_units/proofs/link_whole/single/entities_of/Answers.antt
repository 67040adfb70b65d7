use Rattle.std.proofs.Common.{List, length, sym, subst, arith}
use Rattle.link_names.specs.declared.declared.Declared.{Declared}
use Rattle.link_names.specs.declared.declared.Scene.{Scene}
use Rattle.link_names.specs.Externals.{AreDeclarations}
use Rattle.link_names.specs.Names.{AreNames}
use Rattle.unit_link.specs.link_program.Checked.{joined_by}
use Rattle.unit_link.proofs.link_program.Scenes.{scene_right}
use Rattle.link_units.specs.link_entities.Row.{AreLinked}
use Rattle.link_units.proofs.link_whole.Sizes.{small_entities}
use Rattle.link_units.proofs.link_whole.single.entities_of.Goals as goal

pub entities_in-requires-clause-scene : goal.entities_in-requires-clause-scene
entities_in-requires-clause-scene c =
    let declared = subst (λ (l : List Declared). AreDeclarations c.args.units.now l) (sym c.as_slice.ensures.value) c.in_ok-declared.ensures.declared in
    let s : Scene = record { units = c.args.units; types = c.args.types; type_starts = c.args.type_starts; declared = c.as_slice.result } in
    let count = c.type_count-types.ensures.count in
    scene_right s c.requires.linkable c.requires.merged (omega arith) c.requires.few (small_entities c.args.units.now (λ k d lt. c.in_ok-_entities.ensures.small k d lt)) declared

pub entities_in-requires-clause-names : goal.entities_in-requires-clause-names
entities_in-requires-clause-names c =
    subst (λ (l : List Declared). AreNames (joined_by c.args.units.now c.args.types.now c.args.type_starts.now) l c.in_ok-declared.names) (sym c.as_slice.ensures.value) c.in_ok-declared.ensures.said

pub returns : goal.returns
returns c =
    let j = joined_by c.args.units.now c.args.types.now c.args.type_starts.now in
    let n = c.in_ok-numbers.numbers in
    record {
      declarations = c.in_ok-declared.declared.items;
      declared = c.in_ok-declared.ensures.declared;
      faultless = c.in_ok-declared.ensures.faultless;
      numbers = c.in_ok-numbers.ensures.are;
      one = c.in_ok-numbers.ensures.one;
      only = c.in_ok-numbers.ensures.only;
      linked = subst (λ (l : List Declared). AreLinked j l n (length n.leaders.items) c.in_ok-entities.entities.items) c.as_slice.ensures.value c.in_ok-entities.ensures.linked;
      few = c.in_ok-entities.ensures.few;
    }
