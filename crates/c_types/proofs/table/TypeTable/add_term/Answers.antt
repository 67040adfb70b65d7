use Rattle.std.proofs.Common.{arith, ◌≡◌, ◌∙◌, sym, ap, length, ◌<◌, ◌++◌, ◌∷◌, [], None, Some}
use Rattle.c_types.specs.Table.{HasTag}
use Rattle.c_types.specs.Made.{IsSized, KeepsApart}
use Rattle.c_types.specs.Index.{number_at}
use Rattle.c_types.specs.Keys.{key_of, firsts_of, IsIndex}
use Rattle.c_types.specs.Inside.{IsNext, AreRight, terms_of}
use Rattle.c_types.proofs.Layouts.{right_pushed, extents_pushed}
use Rattle.c_types.proofs.KeyLemmas.{index_more, index_new, index_same}
use Rattle.c_types.proofs.table.TypeTable.add_term.Goals as goal

pub invariant_of-self : goal.invariant_of-self
invariant_of-self c =
    let es = c.self.inside.entries.items in
    let e = c.new_entry-entry.result in
    let next : IsNext es e = rw c.deref-2.ensures.value at c.new_entry-entry.ensures.next in
    let tagged = rw (← c.self.view_is) at c.requires.tags in
    let apart = rw (← c.self.view_is) at c.requires.apart in
    let has : HasTag (length c.self.inside.tags.items) e.term = rw c.new_entry-entry.ensures.term tagged in
    let sized : IsSized e.term = rw c.new_entry-entry.ensures.term c.requires.sized in
    let keeps : KeepsApart (terms_of es) e.term = rw c.new_entry-entry.ensures.term apart in
    let right : AreRight (es ++ e ∷ []) c.self.inside.tags.items c.self.inside.completed.items = right_pushed es _ _ e c.self.invariant.right next has sized keeps (omega arith) in
    let key : c.in_ok-key.key.items ≡ key_of (firsts_of es) c.args.term = rw c.deref.ensures.value at c.in_ok-key.ensures in
    let is : c.in_ok-key.key.items ≡ key_of (firsts_of es) e.term = key ∙ ap (key_of (firsts_of es)) (sym c.new_entry-entry.ensures.term) in
    let first : e.first ≡ length es = omega arith in
    let unseen_slice : number_at c.self.inside.index c.as_slice.result.now ≡ None = c.new_entry-entry.ensures.unseen (omega arith) in
    let unseen : number_at c.self.inside.index c.in_ok-key.key.items ≡ None = rw c.as_slice.ensures.value at unseen_slice in
    let index : IsIndex (es ++ e ∷ []) c.push_first.new.index =
    index_new es (length c.self.inside.tags.items) c.self.invariant.right.entries_right c.self.inside.index c.self.invariant.index e next.after c.push_first.new.index c.in_ok-key.key.items is unseen first c.in_ok-push_first.ensures.here c.in_ok-push_first.ensures.others in
    record {
      right = rw c.in_ok-push_first.ensures.ok right;
      index = rw c.in_ok-push_first.ensures.ok index;
    }

pub invariant_of-self-in_err-push_first : goal.invariant_of-self-in_err-push_first
invariant_of-self-in_err-push_first c = record {
  right = rw c.in_err-push_first.ensures.err c.self.invariant.right;
  index = rw c.in_err-push_first.ensures.err (index_same _ _ _ c.self.invariant.index c.in_err-push_first.ensures.unchanged);
}

pub invariant_of-self-else-entry-id : goal.invariant_of-self-else-entry-id
invariant_of-self-else-entry-id c =
    let es = c.self.inside.entries.items in
    let e = c.new_entry-entry.result in
    let next : IsNext es e = rw c.deref-2.ensures.value at c.new_entry-entry.ensures.next in
    let tagged = rw (← c.self.view_is) at c.requires.tags in
    let apart = rw (← c.self.view_is) at c.requires.apart in
    let has : HasTag (length c.self.inside.tags.items) e.term = rw c.new_entry-entry.ensures.term tagged in
    let sized : IsSized e.term = rw c.new_entry-entry.ensures.term c.requires.sized in
    let keeps : KeepsApart (terms_of es) e.term = rw c.new_entry-entry.ensures.term apart in
    let right : AreRight (es ++ e ∷ []) c.self.inside.tags.items c.self.inside.completed.items = right_pushed es _ _ e c.self.invariant.right next has sized keeps (omega arith) in
    let key : c.in_ok-key.key.items ≡ key_of (firsts_of es) c.args.term = rw c.deref.ensures.value at c.in_ok-key.ensures in
    let is : c.in_ok-key.key.items ≡ key_of (firsts_of es) e.term = key ∙ ap (key_of (firsts_of es)) (sym c.new_entry-entry.ensures.term) in
    let differs : e.first ≡ length es → ⊥ = λ q. omega arith in
    let below : e.first < length es = omega (arith, next.first_before, differs) in
    let known_slice : number_at c.self.inside.index c.as_slice.result.now ≡ Some e.first = c.new_entry-entry.ensures.known (omega (arith, below)) in
    let known : number_at c.self.inside.index c.in_ok-key.key.items ≡ Some e.first = rw c.as_slice.ensures.value at known_slice in
    let index : IsIndex (es ++ e ∷ []) c.self.inside.index =
    index_more es (length c.self.inside.tags.items) c.self.invariant.right.entries_right c.self.inside.index c.self.invariant.index e next.after (ap (number_at c.self.inside.index) (sym is) ∙ known) in
    record {
      right = rw c.in_ok-push_entry.ensures.ok right;
      index = rw c.in_ok-push_entry.ensures.ok index;
    }

pub returns-in_ok-push_first-clause-extents : goal.returns-in_ok-push_first-clause-extents
returns-in_ok-push_first-clause-extents c t =
    rw (← c.self.view_is) (rw c.in_ok-push_first.ensures.ok (extents_pushed c.self.inside.entries.items c.self.inside.tags.items c.self.inside.completed.items c.self.invariant.right c.new_entry-entry.result t))

pub returns-in_ok-push_entry-clause-extents : goal.returns-in_ok-push_entry-clause-extents
returns-in_ok-push_entry-clause-extents c t =
    rw (← c.self.view_is) (rw c.in_ok-push_entry.ensures.ok (extents_pushed c.self.inside.entries.items c.self.inside.tags.items c.self.inside.completed.items c.self.invariant.right c.new_entry-entry.result t))
