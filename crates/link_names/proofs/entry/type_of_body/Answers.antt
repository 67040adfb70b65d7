use Rattle.std.proofs.Common.{◌≡◌, ◌∙◌, Some, None, ap, sym, subst, get_or, arith}
use Rattle.std.proofs.lemmas.Option.{slice_get-get_or}
use Rattle.std.proofs.lemmas.List.{take_all}
use Rattle.link_names.specs.declared.declared.Declared.{Declared}
use Rattle.link_names.specs.Externals.{name_at, item_of, has_body, is_named}
use Rattle.link_names.specs.Firsts.{first_of}
use Rattle.link_names.specs.Scene.{joined_of}
use Rattle.link_names.specs.Together.{of_name, first_body}
use Rattle.link_names.proofs.Gathering.{declared_at, declared_name, first_within, one_text}
use Rattle.link_names.proofs.FirstLemmas.{is_named_own}
use Rattle.link_names.proofs.Making.{no_body_more, first_body_here, maker_with, maker_without, bodied_by, named_some, said_some, said_within, both_of}
use Rattle.link_names.proofs.entry.type_of_body.Goals as goal

abbrev none : Declared
none = record { unit = 0; line = 0; column = 0; number = 0 }

pub bounds-said-firsts : goal.bounds-said-firsts
bounds-said-firsts c =
    let s = c.args.scene.now in
    let there = slice_get-get_or s.declared.now c.loop-here.here none c.loop-here-test.true in
    let within = first_within s.units.now s.declared.now c.args.firsts.now c.loop-here.here _ c.requires.scene.declared c.requires.firsts c.loop-here-test.true there in
    let all = c.requires.said.all in
    omega arith

pub type_by-requires-clause-together : goal.type_by-requires-clause-together
type_by-requires-clause-together c =
    let s = c.args.scene.now in
    let j = joined_of s in
    let ds = s.declared.now in
    let i = c.loop-here.here in
    let there = slice_get-get_or ds i none c.loop-here-test.true in
    let x = declared_at s.units.now ds i _ c.requires.scene.declared c.loop-here-test.true there in
    let named = declared_name s.units.now _ x in
    let (its, body) = both_of (is_named s.units.now c.args.name.now (get_or ds i none)) (has_body s.units.now (item_of (get_or ds i none))) c.has_body_of.result c.has_body_of.ensures c.if-has_body_of.true in
    let one : c.args.name.now ≡ x.entity.name = one_text (name_at s.units.now (item_of (get_or ds i none))) c.args.name.now x.entity.name its (is_named_own s.units.now (get_or ds i none) x.entity.name named) in
    let first : first_of s.units.now ds c.args.name.now ≡ Some (get_or c.args.firsts.now i 0) = ap (first_of s.units.now ds) one ∙ c.requires.firsts.each i _ x.entity.name there named in
    said_within j ds c.args.name.now _ (c.requires.said.each c.args.name.now _ first)

pub type_by-requires-clause-some : goal.type_by-requires-clause-some
type_by-requires-clause-some c =
    let s = c.args.scene.now in
    let j = joined_of s in
    let ds = s.declared.now in
    let i = c.loop-here.here in
    let there = slice_get-get_or ds i none c.loop-here-test.true in
    let x = declared_at s.units.now ds i _ c.requires.scene.declared c.loop-here-test.true there in
    let named = declared_name s.units.now _ x in
    let (its, body) = both_of (is_named s.units.now c.args.name.now (get_or ds i none)) (has_body s.units.now (item_of (get_or ds i none))) c.has_body_of.result c.has_body_of.ensures c.if-has_body_of.true in
    let one : c.args.name.now ≡ x.entity.name = one_text (name_at s.units.now (item_of (get_or ds i none))) c.args.name.now x.entity.name its (is_named_own s.units.now (get_or ds i none) x.entity.name named) in
    let first : first_of s.units.now ds c.args.name.now ≡ Some (get_or c.args.firsts.now i 0) = ap (first_of s.units.now ds) one ∙ c.requires.firsts.each i _ x.entity.name there named in
    said_some j ds c.args.name.now _ (c.requires.said.each c.args.name.now _ first) (named_some s.units.now ds i _ c.args.name.now c.loop-here-test.true there its)

pub returns-then-has_body_of : goal.returns-then-has_body_of
returns-then-has_body_of c =
    let s = c.args.scene.now in
    let j = joined_of s in
    let ds = s.declared.now in
    let i = c.loop-here.here in
    let d = get_or ds i none in
    let there = slice_get-get_or ds i none c.loop-here-test.true in
    let x = declared_at s.units.now ds i _ c.requires.scene.declared c.loop-here-test.true there in
    let named = declared_name s.units.now _ x in
    let (its, body) = both_of (is_named s.units.now c.args.name.now d) (has_body s.units.now (item_of d)) c.has_body_of.result c.has_body_of.ensures c.if-has_body_of.true in
    let one : c.args.name.now ≡ x.entity.name = one_text (name_at s.units.now (item_of d)) c.args.name.now x.entity.name its (is_named_own s.units.now d x.entity.name named) in
    let first : first_of s.units.now ds c.args.name.now ≡ Some (get_or c.args.firsts.now i 0) = ap (first_of s.units.now ds) one ∙ c.requires.firsts.each i _ x.entity.name there named in
    let found = maker_with j ds c.args.name.now d (first_body_here s.units.now ds i d c.args.name.now c.loop-here-test.true there its body c.loop-here.invariant) in
    bodied_by j ds c.args.name.now d c.type_by.result.0 found body c.type_by.ensures.within (c.type_by.ensures.type_is c.args.name.now (c.requires.said.each c.args.name.now _ first))

pub loop-here-preserved : goal.loop-here-preserved
loop-here-preserved c =
    let s = c.args.scene.now in
    let ds = s.declared.now in
    let i = c.loop-here.here in
    let there = slice_get-get_or ds i none c.loop-here-test.true in
    no_body_more s.units.now ds i (get_or ds i none) c.args.name.now c.loop-here-test.true there (sym c.has_body_of.ensures ∙ c.if-has_body_of.false) c.loop-here.invariant

pub returns : goal.returns
returns c =
    let s = c.args.scene.now in
    let j = joined_of s in
    let ds = s.declared.now in
    let all : first_body s.units.now (of_name s.units.now c.args.name.now ds) ≡ None = subst (λ l. first_body s.units.now (of_name s.units.now c.args.name.now l) ≡ None) (take_all c.loop-here.here ds (omega arith)) c.loop-here.invariant in
    record { none = λ d made body. maker_without j ds c.args.name.now d all made body }
