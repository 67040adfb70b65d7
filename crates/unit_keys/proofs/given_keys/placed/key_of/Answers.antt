use Rattle.std.proofs.Common.{arith, ◌≡◌, ◌∙◌, ◌<◌, ℕ, Some, None, length, sym, ap}
use Rattle.std.specs.Prelude.{option_map}
use Rattle.c_senses.specs.Tree.{Source, is_name, first_where, spelling_at}
use Rattle.c_senses.specs.Tags.{tag_leaf}
use Rattle.c_senses.specs.Keys.{first_free, names_with}
use Rattle.c_senses.specs.Sense.{Sense, sense_in}
use Rattle.c_results.specs.Standing.{senses_made}
use Rattle.tree_reads.specs.Sources.{source_in}
use Rattle.unit_keys.specs.given_keys.Keyed.{key_around}
use Rattle.unit_keys.proofs.given_keys.KeyIs.{parents_behind}
use Rattle.unit_keys.proofs.given_keys.Keying.{by_tag, by_name, by_members, outer_key, is_outer}
use Rattle.unit_keys.proofs.given_keys.placed.key_of.Goals as goal

pub returns-in-Some : goal.returns-in-Some
returns-in-Some c = λ u uses on keys known.
    let s : Source = source_in c.args.syntax.now uses in
    let sense : ℕ → Sense = sense_in (senses_made u c.args.results.now) in
    let node = c.args.node in
    let lt : node < length s.nodes = c.requires.node in
    let outer = is_outer s sense c.args.known.inner.now node _ known.inner lt (omega (arith, c.len.ensures)) c.if-known-len.false in
    let tag : tag_leaf s node ≡ Some c.in-Some.leaf = sym (sym c.in-Some.is ∙ (c.first_where.ensures ∙ ap (first_where (is_name s)) c.children_of.ensures)) in
    ap Some (c.in_ok-key.ensures uses)
    ∙ (sym (by_tag s sense node (first_free s sense node (names_with s sense node)) (key_around s sense node) c.in-Some.leaf tag) ∙ outer_key s sense node (parents_behind s c.requires.first) lt outer)

pub returns-in-Some-get : goal.returns-in-Some-get
returns-in-Some-get c = λ u uses on keys known.
    let s : Source = source_in c.args.syntax.now uses in
    let sense : ℕ → Sense = sense_in (senses_made u c.args.results.now) in
    let node = c.args.node in
    let lt : node < length s.nodes = c.requires.node in
    let outer = is_outer s sense c.args.known.inner.now node _ known.inner lt (omega (arith, c.len.ensures)) c.if-known-len.false in
    let tag : tag_leaf s node ≡ None = sym (sym c.in_default.is ∙ (c.first_where.ensures ∙ ap (first_where (is_name s)) c.children_of.ensures)) in
    let free : first_free s sense node (names_with s sense node) ≡ Some (spelling_at s c.in-Some-get.leaf) = sym (known.free.each node lt on) ∙ ap (option_map (spelling_at s)) (sym c.get.ensures ∙ c.in-Some-get.is) in
    ap Some (c.in_ok-key-2.ensures uses)
    ∙ (sym (by_name s sense node (first_free s sense node (names_with s sense node)) (key_around s sense node) (spelling_at s c.in-Some-get.leaf) tag free) ∙ outer_key s sense node (parents_behind s c.requires.first) lt outer)

pub returns : goal.returns
returns c = λ u uses on keys known.
    let s : Source = source_in c.args.syntax.now uses in
    let sense : ℕ → Sense = sense_in (senses_made u c.args.results.now) in
    let node = c.args.node in
    let lt : node < length s.nodes = c.requires.node in
    let outer = is_outer s sense c.args.known.inner.now node _ known.inner lt (omega (arith, c.len.ensures)) c.if-known-len.false in
    let tag : tag_leaf s node ≡ None = sym (sym c.in_default.is ∙ (c.first_where.ensures ∙ ap (first_where (is_name s)) c.children_of.ensures)) in
    let free : first_free s sense node (names_with s sense node) ≡ None = sym (known.free.each node lt on) ∙ ap (option_map (spelling_at s)) (sym c.get.ensures ∙ c.in_default-get.is) in
    c.in_ok-inherited.ensures u uses keys known.positions
    ∙ (sym (by_members s sense node (first_free s sense node (names_with s sense node)) (key_around s sense node) tag free) ∙ outer_key s sense node (parents_behind s c.requires.first) lt outer)
