use Rattle.std.proofs.Common.{arith, ap, ◌∙◌, sym, length, [], ◌<◌, ◌≡◌}
use Rattle.c_types.specs.Trees.{tree_at, grow, grown}
use Rattle.c_types.specs.Inside.{element_of, count_of, capped, terms_of}
use Rattle.c_types.proofs.Read.{entry_at}
use Rattle.c_types.proofs.Shape.{plain_element, plain_count, tree_pushed, array_element}
use Rattle.c_types.proofs.table.arrays_off.Goals as goal

pub returns-in-Array : goal.returns-in-Array
returns-in-Array c =
    let h = c.in-Array.is in
    let lt : c.in-Array.of.0 < length c.args.entries.now = rw h at c.requires.types in
    let e = entry_at _ _ c.requires.entries.1 c.in-Array.of.0 c.index-entries-of.result lt in
    let count : c.index-entries-of.result.count ≡ capped (count_of (tree_at (grown [] (terms_of c.args.entries.now)) c.in-Array.of.0)) = rw (← c.index-entries-of.is) at e.count in
    let element = rw (← c.index-entries-of.is) at (array_element c.args.entries.now _ c.requires.entries.1 c.in-Array.of.0 c.index-entries-of.result lt (grow (grown [] (terms_of c.args.entries.now)) c.args.term.now)) in
    let before = rw (← c.index-entries-of.is) at e.element_before in
    record {
      element = element ∙ sym (ap (λ t. element_of (grow (grown [] (terms_of c.args.entries.now)) t)) h);
      element_before = omega arith;
      count = c.times_count.ensures _ count ∙ sym (ap (λ t. capped (count_of (grow (grown [] (terms_of c.args.entries.now)) t))) h);
    }

pub returns-in_default : goal.returns-in_default
returns-in_default c =
    record {
      element = tree_pushed c.args.entries.now _ ∙ sym (plain_element _ _ c.in_default.not-Array);
      element_before = omega arith;
      count = sym (ap capped (plain_count _ _ c.in_default.not-Array));
    }
