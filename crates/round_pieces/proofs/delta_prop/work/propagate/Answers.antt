use Rattle.std.proofs.Common.{◌≡◌, ◌*◌, ◌+◌, ◌<◌, ◌≤◌, ℕ, List, length, get_or, slice_get, Contains, Some, refl, sym, ap, ◌∙◌, subst, subst₂, inl, inr, arith}
use Rattle.std.proofs.lemmas.Option.{slice_get-get_or}
use Rattle.sol_model.specs.Systems.{width_of}
use Rattle.sol_model.proofs.Members.{Contains-at}
use Rattle.edge_book.specs.Leaving.{targets_of}
use Rattle.edge_book.proofs.Targets.{listed_target}
use Rattle.set_rows.specs.Views.{known}
use Rattle.set_rows.specs.Calls.{system_of, view, IsOf}
use Rattle.set_rows.proofs.Adding.{known_more}
use Rattle.round_pieces.specs.delta_prop.Deltas.{AreNews, IsDoneBeside, IsSeenOf}
use Rattle.round_pieces.proofs.delta_prop.Carries.{edge_more, news_seen, news_none}
use Rattle.round_pieces.proofs.delta_prop.Going.{going_start, going_carried, going_done, going_without}
use Rattle.round_pieces.proofs.delta_prop.Readings.{nothing_looked}
use Rattle.round_pieces.proofs.delta_prop.work.propagate.Goals as goal

-- the target of a number, where the list is the row's
target_at : (row i : ℕ) (book : List (ℕ × ℕ)) (items : List ℕ) → items ≡ targets_of row book → i < length items → slice_get (targets_of row book) i ≡ Some (get_or items i 0)
target_at row i book items e lt = sym (ap (λ (xs : List ℕ). slice_get xs i) e) ∙ slice_get-get_or items i 0 lt

has_edge : (row i : ℕ) (book : List (ℕ × ℕ)) (items : List ℕ) → items ≡ targets_of row book → i < length items → Contains book (row, get_or items i 0)
has_edge row i book items e lt = listed_target row (get_or items i 0) book (Contains-at (targets_of row book) i (get_or items i 0) (target_at row i book items e lt))

-- what is new is among the words of the row that were read
news_of : (W row : ℕ) (done words slice : List ℕ) (news : List (ℕ × ℕ)) → slice ≡ words → length words ≡ W → AreNews (length slice) done slice news → AreNews W done words news
news_of W row done words slice news e sized a = subst₂ (λ (n : ℕ) (xs : List ℕ). AreNews n done xs news) (ap (λ (xs : List ℕ). length xs) e ∙ sized) e a

pub list_news-requires-clause-sized : goal.list_news-requires-clause-sized
list_news-requires-clause-sized c = c.requires.sized ∙ sym c.in_ok-read.ensures.sized ∙ ap (λ (xs : List ℕ). length xs) (sym c.as_slice.ensures.value)

pub list_news-requires-clause-beside : goal.list_news-requires-clause-beside
list_news-requires-clause-beside c =
    let words = c.in_ok-read.read.words.items in
    let is : c.as_slice.result.now ≡ words = c.as_slice.ensures.value in
    subst₂ (λ (n : ℕ) (xs : List ℕ). IsDoneBeside n c.in_ok-read.read.first c.in_ok-read.read.end c.args.done.now xs) (sym c.in_ok-read.ensures.sized ∙ ap (λ (xs : List ℕ). length xs) (sym is)) (sym is) c.in_ok-read.ensures.beside

pub list_news-requires-clause-range : goal.list_news-requires-clause-range
list_news-requires-clause-range c =
    subst (λ (n : ℕ). (c.in_ok-read.read.first ≤ n) × (c.in_ok-read.read.end ≤ n)) (sym c.in_ok-read.ensures.sized ∙ ap (λ (xs : List ℕ). length xs) (sym c.as_slice.ensures.value)) c.in_ok-read.ensures.range

pub loop-to-init : goal.loop-to-init
loop-to-init c =
    let S = system_of c.args.table.now in
    let e = c.in_ok-read.ensures in record {
      own = e.own;
      going = going_start (width_of S) c.args.row (targets_of c.args.row c.args.book.now) c.args.done.now c.in_ok-read.read.words.items (view c.args.seat.now) (view c.read_row.new.seat) e.view e.sound e.seen;
    }

pub returns-then-is_empty-clause-turn : goal.returns-then-is_empty-clause-turn
returns-then-is_empty-clause-turn c =
    let v = view c.args.seat.now in
    let e = c.no_news.ensures in
    going_without (width_of (system_of c.args.table.now)) c.args.row c.args.book.now c.args.done.now c.no_news.result v v e.row e.nothing e.range (nothing_looked v)

pub returns-then-is_empty-clause-treated : goal.returns-then-is_empty-clause-treated
returns-then-is_empty-clause-treated c k from lt wide = absurd (let e = c.is_empty.ensures c.if-is_empty.true in omega arith)

pub returns-then-len-eq0-clause-turn : goal.returns-then-len-eq0-clause-turn
returns-then-len-eq0-clause-turn c =
    let e = c.no_news-then-len-eq0.ensures in
    going_without (width_of (system_of c.args.table.now)) c.args.row c.args.book.now c.args.done.now c.no_news-then-len-eq0.result (view c.args.seat.now) (view c.read_row.new.seat) e.row e.nothing e.range c.in_ok-read.ensures.view

pub returns-then-len-eq0-clause-treated : goal.returns-then-len-eq0-clause-treated
returns-then-len-eq0-clause-treated c k from lt wide b h =
    let W : ℕ = width_of (system_of c.args.table.now) in
    let e = c.in_ok-read.ensures in
    let words = c.in_ok-read.read.words.items in
    let news = c.list_news.new.news.items in
    let a : AreNews W c.args.done.now words news = news_of W c.args.row c.args.done.now words c.as_slice.result.now news c.as_slice.ensures.value e.sized c.in_ok-list_news.ensures in
    inl (news_none W c.args.done.now words news a (let z = c.if-len-eq0.true in let e = c.len.ensures in let k = c.list_news.new.news.ok in omega arith) k b wide (e.read k from lt wide b h))

pub returns-clause-treated : goal.returns-clause-treated
returns-clause-treated c k from lt wide b h = inr (c.in_ok-read.ensures.read k from lt wide b h)

pub carry-grown-requires-clause-rows : goal.carry-grown-requires-clause-rows
carry-grown-requires-clause-rows c =
    let items = c.targets-to-items.result.now in
    c.requires.book.rows c.args.row (get_or items c.loop-to.to-index 0) (has_edge c.args.row c.loop-to.to-index c.args.book.now items c.targets-to-items.ensures c.loop-to-test.true)

pub carry-grown-requires-clause-edge : goal.carry-grown-requires-clause-edge
carry-grown-requires-clause-edge c =
    let items = c.targets-to-items.result.now in
    let v = view c.args.seat.now in
    let u = view c.loop-to.seat in
    edge_more (system_of c.args.table.now) (known v) (known u) c.args.row (get_or items c.loop-to.to-index 0) (known_more v u c.loop-to.invariant.going.more)
    (c.requires.book.edges c.args.row (get_or items c.loop-to.to-index 0) (has_edge c.args.row c.loop-to.to-index c.args.book.now items c.targets-to-items.ensures c.loop-to-test.true))

pub carry-grown-requires-clause-read : goal.carry-grown-requires-clause-read
carry-grown-requires-clause-read c k new h =
    let W : ℕ = width_of (system_of c.args.table.now) in
    let words = c.in_ok-read.read.words.items in
    let news = c.list_news.new.news.items in
    let a : AreNews W c.args.done.now words news = news_of W c.args.row c.args.done.now words c.as_slice.result.now news c.as_slice.ensures.value c.in_ok-read.ensures.sized c.in_ok-list_news.ensures in
    let p = a.there k new (subst (λ (xs : List (ℕ × ℕ)). Contains xs (k, new)) c.as_slice-in-loop-to.ensures.value h) in
    (p.0, λ b bit. c.loop-to.invariant.going.done_seen k p.0 b (p.1 b bit))

pub loop-to-preserved : goal.loop-to-preserved
loop-to-preserved c =
    let W : ℕ = width_of (system_of c.args.table.now) in
    let row : ℕ = c.args.row in
    let i : ℕ = c.loop-to.to-index in
    let book = c.args.book.now in
    let items = c.targets-to-items.result.now in
    let to : ℕ = get_or items i 0 in
    let done = c.args.done.now in
    let now = c.in_ok-read.read.words.items in
    let v = view c.args.seat.now in
    let u = view c.loop-to.seat in
    let w = view c.carry-grown.new.seat in
    let inv = c.loop-to.invariant in
    let ens = c.carry-grown.ensures in
    let news = c.list_news.new.news.items in
    let a : AreNews W done now news = news_of W row done now c.as_slice.result.now news c.as_slice.ensures.value c.in_ok-read.ensures.sized c.in_ok-list_news.ensures in
    let few = a.few in
    let at = target_at row i book items c.targets-to-items.ensures c.loop-to-test.true in
    let was : IsSeenOf W w.seen to done = λ k lt b h. ens.view.seen (to * W + k) b (inv.going.more.seen (to * W + k) b (c.requires.targets to (has_edge row i book items c.targets-to-items.ensures c.loop-to-test.true) k lt b h)) in
    let carried : IsSeenOf W w.seen to now = news_seen W to done now w.seen news a was (λ k new h. ens.carried k new (subst (λ (xs : List (ℕ × ℕ)). Contains xs (k, new)) (sym c.as_slice-in-loop-to.ensures.value) h)) in
    let ors : w.ors ≤ u.ors + length news = subst (λ (xs : List (ℕ × ℕ)). w.ors ≤ u.ors + length xs) c.as_slice-in-loop-to.ensures.value ens.ors in
    record {
      own = ens.own;
      going = going_carried W row i to (targets_of row book) done now v u w inv.going at ens.view ens.sound carried (omega arith);
    }

pub returns-clause-turn : goal.returns-clause-turn
returns-clause-turn c =
    let e = c.in_ok-read.ensures in
    going_done (width_of (system_of c.args.table.now)) c.args.row c.loop-to.to-index c.args.book.now c.args.done.now record { row = c.args.row; done = c.in_ok-read.read.words; first = c.in_ok-read.read.first; end = c.in_ok-read.read.end } (view c.args.seat.now) (view c.loop-to.seat) refl e.sized
    (let e = ap (λ (xs : List ℕ). length xs) c.targets-to-items.ensures in let n = c.loop-to-test.false in let m = c.loop-to.auto.to-index-end in omega arith) e.beside e.range c.loop-to.invariant.going
