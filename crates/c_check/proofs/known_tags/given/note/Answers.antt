use Rattle.std.proofs.Common.{◌≡◌, true, false, Some, refl, ap}
use Rattle.std.specs.Option.{is_some}
use Rattle.tree_reads.specs.leaf_maps.Numbers.{number_at}
use Rattle.c_check.specs.declared.known_tags.given.Given.{Given}
use Rattle.c_check.specs.declared.known_tags.known.Meaning.{Meaning}
use Rattle.c_check.specs.known_tags.Known.{entity_in, tag_in}
use Rattle.c_check.proofs.known_tags.Knowing.{given_again, given_new, entity_same, tag_same, entity_new, tag_new}
use Rattle.c_check.proofs.known_tags.given.note.Goals as goal

pub returns-then-is_some-clause-given : goal.returns-then-is_some-clause-given
returns-then-is_some-clause-given c = λ list h.
    let g = c.args.given.now in
    let a = c.get.ensures in
    let b = c.is_some.ensures in
    let d = c.if-is_some.true in
    let e : is_some (number_at g.seen c.args.node) ≡ true = cc in
    given_again g list h c.args.node c.args.meaning e

pub returns-in_ok-add-in-Entity-clause-given : goal.returns-in_ok-add-in-Entity-clause-given
returns-in_ok-add-in-Entity-clause-given c = λ list h.
    let g = c.args.given.now in
    let n = c.args.node in
    let m = c.args.meaning in
    let a = c.get.ensures in
    let b = c.is_some.ensures in
    let d = c.if-is_some.false in
    let e : is_some (number_at g.seen n) ≡ false = cc in
    let k = c.in-Entity.entity in
    let more : Given = record { seen = c.add.new.self; entities = c.add-in-Entity.new.self; tags = g.tags } in
    given_new g list h n m e more c.in_ok-add.ensures.here c.in_ok-add.ensures.others
    (entity_new g list h n m e (number_at more.entities n) k c.in_ok-add-in-Entity.ensures.here (ap (λ (x : Meaning). entity_in (Some x)) c.in-Entity.is)) c.in_ok-add-in-Entity.ensures.others
    (tag_same g list h n m e (ap (λ (x : Meaning). tag_in (Some x)) c.in-Entity.is)) (λ q d. refl)

pub returns-in_ok-add-in-Tag-clause-given : goal.returns-in_ok-add-in-Tag-clause-given
returns-in_ok-add-in-Tag-clause-given c = λ list h.
    let g = c.args.given.now in
    let n = c.args.node in
    let m = c.args.meaning in
    let a = c.get.ensures in
    let b = c.is_some.ensures in
    let d = c.if-is_some.false in
    let e : is_some (number_at g.seen n) ≡ false = cc in
    let k = c.in-Tag.tag in
    let more : Given = record { seen = c.add.new.self; entities = g.entities; tags = c.add-in-Tag.new.self } in
    given_new g list h n m e more c.in_ok-add.ensures.here c.in_ok-add.ensures.others
    (entity_same g list h n m e (ap (λ (x : Meaning). entity_in (Some x)) c.in-Tag.is)) (λ q d. refl)
    (tag_new g list h n m e (number_at more.tags n) k c.in_ok-add-in-Tag.ensures.here (ap (λ (x : Meaning). tag_in (Some x)) c.in-Tag.is)) c.in_ok-add-in-Tag.ensures.others

pub returns-in-TypeName-clause-given : goal.returns-in-TypeName-clause-given
returns-in-TypeName-clause-given c = λ list h.
    let g = c.args.given.now in
    let n = c.args.node in
    let m = c.args.meaning in
    let a = c.get.ensures in
    let b = c.is_some.ensures in
    let d = c.if-is_some.false in
    let e : is_some (number_at g.seen n) ≡ false = cc in
    let more : Given = record { seen = c.add.new.self; entities = g.entities; tags = g.tags } in
    given_new g list h n m e more c.in_ok-add.ensures.here c.in_ok-add.ensures.others
    (entity_same g list h n m e (ap (λ (x : Meaning). entity_in (Some x)) c.in-TypeName.is)) (λ q d. refl)
    (tag_same g list h n m e (ap (λ (x : Meaning). tag_in (Some x)) c.in-TypeName.is)) (λ q d. refl)

pub returns-in-Value-clause-given : goal.returns-in-Value-clause-given
returns-in-Value-clause-given c = λ list h.
    let g = c.args.given.now in
    let n = c.args.node in
    let m = c.args.meaning in
    let a = c.get.ensures in
    let b = c.is_some.ensures in
    let d = c.if-is_some.false in
    let e : is_some (number_at g.seen n) ≡ false = cc in
    let more : Given = record { seen = c.add.new.self; entities = g.entities; tags = g.tags } in
    given_new g list h n m e more c.in_ok-add.ensures.here c.in_ok-add.ensures.others
    (entity_same g list h n m e (ap (λ (x : Meaning). entity_in (Some x)) c.in-Value.is)) (λ q d. refl)
    (tag_same g list h n m e (ap (λ (x : Meaning). tag_in (Some x)) c.in-Value.is)) (λ q d. refl)
