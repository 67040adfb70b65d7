use Rattle.std.proofs.Common.{◌≡◌, ◌↔◌, ℕ, ◌<◌, List, length, get_or, Some, slice_get, Contains, sym, ap, ◌∙◌, arith}
use Rattle.std.proofs.lemmas.Option.{slice_get-get_or, slice_get_within}
use Rattle.sol_model.specs.declared.system.System.{System}
use Rattle.sol_model.specs.Families.{members}
use Rattle.sol_model.specs.Rules.{DemandsEdge, DemandsFact}
use Rattle.sol_model.proofs.Members.{Contains-at}
use Rattle.edge_book.specs.Leaving.{targets_of}
use Rattle.edge_book.proofs.Targets.{listed_target}
use Rattle.new_members.specs.News.{IsReader}
use Rattle.new_members.proofs.Renewals.{extends_none, renewing_start, renewing_next, renewing_done}
use Rattle.new_members.proofs.Splitting.{unread_edge, unread_fact}
use Rattle.new_members.proofs.Through.{kept_both}
use Rattle.new_members.proofs.renewing.renew_readers.Goals as goal

-- a number of the list is a reader's
is_reader : (S : System) (row i : ℕ) (items : List ℕ) (readers : List (ℕ × ℕ)) → items ≡ targets_of row readers → ((at number : ℕ) → (Contains readers (at, number) ↔ IsReader S at number)) → i < length items → IsReader S row (get_or items i 0)
is_reader S row i items readers e iff lt =
    let here : slice_get (targets_of row readers) i ≡ Some (get_or items i 0) = sym (ap (λ (xs : List ℕ). slice_get xs i) e) ∙ slice_get-get_or items i 0 lt in
    (iff row (get_or items i 0)).0 (listed_target row (get_or items i 0) readers (Contains-at (targets_of row readers) i (get_or items i 0) here))

pub loop-number-init : goal.loop-number-init
loop-number-init c =
    let S = c.args.system.now in
    let G = members c.args.rows.now in
    let items = c.targets-number-items.result.now in record {
      kept = extends_none c.args.book.now;
      edges = renewing_start S (DemandsEdge S) G c.args.news.now.row c.args.news.now.new.now items c.args.book.now;
      facts = renewing_start S (DemandsFact S) G c.args.news.now.row c.args.news.now.new.now items c.args.facts.now.items;
    }

pub renew_constraint-requires-clause-number : goal.renew_constraint-requires-clause-number
renew_constraint-requires-clause-number c =
    let r = is_reader c.args.system.now c.args.news.now.row c.loop-number.number-index c.targets-number-items.result.now c.args.readers.now c.targets-number-items.ensures c.requires.readers c.loop-number-test.true in
    slice_get_within c.args.system.now.constraints (get_or c.targets-number-items.result.now c.loop-number.number-index 0) r.0 r.1

pub renew_constraint-requires-clause-reader : goal.renew_constraint-requires-clause-reader
renew_constraint-requires-clause-reader c =
    is_reader c.args.system.now c.args.news.now.row c.loop-number.number-index c.targets-number-items.result.now c.args.readers.now c.targets-number-items.ensures c.requires.readers c.loop-number-test.true

pub loop-number-preserved : goal.loop-number-preserved
loop-number-preserved c =
    let S = c.args.system.now in
    let G = members c.args.rows.now in
    let items = c.targets-number-items.result.now in
    let i : ℕ = c.loop-number.number-index in
    let r = is_reader S c.args.news.now.row i items c.args.readers.now c.targets-number-items.ensures c.requires.readers c.loop-number-test.true in
    let step = c.in_ok-renew_constraint.ensures in record {
      kept = kept_both c.args.book.now c.loop-number.book c.renew_constraint.new.book c.loop-number.invariant.kept step.kept;
      edges = renewing_next S (DemandsEdge S) G c.args.news.now.row c.args.news.now.new.now items i c.args.book.now c.loop-number.book c.renew_constraint.new.book r.0 c.loop-number.invariant.edges r.1 step.book;
      facts = renewing_next S (DemandsFact S) G c.args.news.now.row c.args.news.now.new.now items i c.args.facts.now.items c.loop-number.facts.items c.renew_constraint.new.facts.items r.0 c.loop-number.invariant.facts r.1 step.facts;
    }

pub returns-clause-kept : goal.returns-clause-kept
returns-clause-kept c = c.loop-number.invariant.kept

pub returns-clause-book : goal.returns-clause-book
returns-clause-book c F grown =
    let S = c.args.system.now in
    let G = members c.args.rows.now in
    renewing_done S (DemandsEdge S) G c.args.news.now.row c.args.news.now.new.now c.targets-number-items.result.now c.loop-number.number-index c.args.book.now c.loop-number.book c.args.readers.now
    (let n = c.loop-number-test.false in omega arith) c.targets-number-items.ensures c.requires.readers
    (λ H g constraint a b no d. unread_edge S H G c.args.news.now.row c.args.news.now.new.now g constraint a b no d) c.loop-number.invariant.edges F grown

pub returns-clause-facts : goal.returns-clause-facts
returns-clause-facts c F grown =
    let S = c.args.system.now in
    let G = members c.args.rows.now in
    renewing_done S (DemandsFact S) G c.args.news.now.row c.args.news.now.new.now c.targets-number-items.result.now c.loop-number.number-index c.args.facts.now.items c.loop-number.facts.items c.args.readers.now
    (let n = c.loop-number-test.false in omega arith) c.targets-number-items.ensures c.requires.readers
    (λ H g constraint a b no d. unread_fact S H G c.args.news.now.row c.args.news.now.new.now g constraint a b no d) c.loop-number.invariant.facts F grown
