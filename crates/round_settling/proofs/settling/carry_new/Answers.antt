use Rattle.std.proofs.Common.{◌≡◌, ℕ, ◌+◌, ◌*◌, ◌<◌, ◌≤◌, ◌^◌, List, [], ◌∷◌, ◌++◌, length, get_or, replicate, take, take_all, slice_get, Some, Contains, sym, ap, ◌∙◌, subst, inl, inr, arith, get_or-take, min}
use Rattle.std.proofs.lemmas.Bool.{cases_eq}
use Rattle.std.proofs.lemmas.List.{length-replicate, length-take}
use Rattle.std.proofs.lemmas.Option.{slice_get-get_or, slice_get_within, get_or_from_slice_get, same_Some, none-some}
use Rattle.sol_model.specs.declared.system.System.{System}
use Rattle.sol_model.specs.declared.rows.Rows.{Rows}
use Rattle.sol_model.specs.Families.{Family, Has, shown, members}
use Rattle.sol_model.specs.Systems.{width_of}
use Rattle.sol_model.proofs.Fitting.{row_held}
use Rattle.sol_model.proofs.Members.{Contains-at, at_Contains}
use Rattle.set_rows.specs.declared.view.View.{View}
use Rattle.set_rows.specs.declared.seat.RowSeat.{RowSeat}
use Rattle.set_rows.specs.Views.{OnlyAdded, known}
use Rattle.set_rows.specs.Calls.{system_of, view, IsOf}
use Rattle.set_rows.proofs.Adding.{added_twice, known_more, nothing_added}
use Rattle.round_pieces.specs.delta_prop.Deltas.{AreNews, IsSeenOf, IsSound, gained}
use Rattle.round_pieces.specs.Work.{edge_work}
use Rattle.round_pieces.proofs.Growing.{edge_pays}
use Rattle.round_settling.proofs.Working.{edge_paid}
use Rattle.round_pieces.proofs.delta_prop.Carries.{edge_more, news_seen}
use Rattle.round_pieces.proofs.Serving.{seen_at, in_seen}
use Rattle.round_settling.proofs.Extents.{nothing_outside}
use Rattle.round_settling.proofs.Steps.{nothing_seen}
use Rattle.round_settling.proofs.settling.carry_new.Goals as goal
use Rattle.round_settling.proofs.settling.carry_new.Goals.{in-Some+in_ok-list_news, in_default}

pub loop-i-init : goal.loop-i-init
loop-i-init c = record {
  own = c.requires.own;
  more = nothing_added (view c.args.seat.now);
  sound = λ s. s;
  carried = λ k a b location lt at h. c.requires.carried a b location (early c.args.book.now c.args.first k (a, b) lt at) h;
  ors = omega arith;
}
  where
    early : (book : List (ℕ × ℕ)) (first k : ℕ) (pair : ℕ × ℕ) → k < first → slice_get book k ≡ Some pair → Contains (take first book) pair
    early book first k pair lt at =
        let within : k < length book = slice_get_within book k pair at in
        (k, (let n : length (take first book) ≡ min first (length book) = length-take first book in omega arith), get_or-take first book k pair lt ∙ get_or_from_slice_get book k pair pair at)

edge_at : (book : List (ℕ × ℕ)) (i from to : ℕ) → Some (from, to) ≡ slice_get book i → Contains book (from, to)
edge_at book i from to e = Contains-at book i (from, to) (sym e)

-- what is done of a row was seen of it
read_of : (S : System) (u : View) (done : Rows) (row : ℕ) (words : List ℕ) → u.system ≡ S → done.width ≡ width_of S → ((k : ℕ) → get_or words k 0 < 2 ^ 64)
    → ((k : ℕ) → k < done.width → get_or words k 0 ≡ get_or done.words (row * done.width + k) 0) → ((location : ℕ) → Has (members done) row location → Has (known u) row location) → IsSeenOf (width_of S) u.seen row words
read_of S u done row words e wide fits same seen =
    seen_at S u row row words done.words e fits (λ k lt. same k (subst (λ (n : ℕ). k < n) (sym wide) lt) ∙ ap (λ (n : ℕ). get_or done.words (row * n + k) 0) wide)
    (λ location h. seen location (subst (λ (n : ℕ). Has (shown n done.words) row location) (sym wide) h))

pub row_words-requires : goal.row_words-requires
row_words-requires c = row_held (system_of c.args.ground.now.table.now) c.args.done.now c.requires.fits c.in-Some.from (c.requires.demanded.rows c.in-Some.from c.in-Some.to (edge_at c.args.book.now c.loop-i.i c.in-Some.from c.in-Some.to c.in-Some.ensures)).0

pub carry-grown-requires-clause-rows : goal.carry-grown-requires-clause-rows
carry-grown-requires-clause-rows c = c.requires.demanded.rows c.in-Some.from c.in-Some.to (edge_at c.args.book.now c.loop-i.i c.in-Some.from c.in-Some.to c.in-Some.ensures)

pub carry-grown-requires-clause-edge : goal.carry-grown-requires-clause-edge
carry-grown-requires-clause-edge c =
    let v = view c.args.seat.now in
    let u = view c.loop-i.seat in
    edge_more (system_of c.args.ground.now.table.now) (known v) (known u) c.in-Some.from c.in-Some.to (known_more v u c.loop-i.invariant.more)
    (c.requires.demanded.edges c.in-Some.from c.in-Some.to (edge_at c.args.book.now c.loop-i.i c.in-Some.from c.in-Some.to c.in-Some.ensures))

-- a row without a location is as long as any
nothing_long : (W : ℕ) (nothing : List ℕ) → nothing ≡ replicate W 0 → length nothing ≡ W
nothing_long W nothing e = ap (λ (xs : List ℕ). length xs) e ∙ length-replicate W 0

pub list_news-requires-clause-sized : goal.list_news-requires-clause-sized
list_news-requires-clause-sized c = nothing_long (width_of (system_of c.args.ground.now.table.now)) c.args.ground.now.nothing.now c.requires.nothing ∙ sym (c.row_words.ensures.sized ∙ c.requires.fits.width)

pub list_news-requires-clause-beside : goal.list_news-requires-clause-beside
list_news-requires-clause-beside c k lt out =
    nothing_outside c.args.done.now c.args.extents.now c.in-Some.from k c.row_words.result.now c.args.ground.now.nothing.now c.requires.extents (λ location. (c.row_words.ensures.has location).1) (c.row_words.ensures.small k)
    (c.done_words-words.ensures.beside k (let n = nothing_long (width_of (system_of c.args.ground.now.table.now)) c.args.ground.now.nothing.now c.requires.nothing in let m = c.row_words.ensures.sized ∙ c.requires.fits.width in omega arith) out)

pub list_news-requires-clause-range : goal.list_news-requires-clause-range
list_news-requires-clause-range c =
    let n = nothing_long (width_of (system_of c.args.ground.now.table.now)) c.args.ground.now.nothing.now c.requires.nothing in
    let m = c.row_words.ensures.sized ∙ c.requires.fits.width in
    ((let r = c.done_words-words.ensures.range.0 in omega arith), (let r = c.done_words-words.ensures.range.1 in omega arith))

-- what is new of words of a row, where nothing was done
news_in : (W : ℕ) (nothing words : List ℕ) (news : List (ℕ × ℕ)) → length words ≡ W → AreNews (length words) nothing words news → AreNews W nothing words news
news_in W nothing words news e a = subst (λ (n : ℕ). AreNews n nothing words news) e a

pub carry-grown-requires-clause-width : goal.carry-grown-requires-clause-width
carry-grown-requires-clause-width c = nothing_long (width_of (system_of c.args.ground.now.table.now)) c.args.ground.now.nothing.now c.requires.nothing

pub carry-grown-requires-clause-read : goal.carry-grown-requires-clause-read
carry-grown-requires-clause-read c k new h =
    let W : ℕ = width_of (system_of c.args.ground.now.table.now) in
    let v = view c.args.seat.now in
    let u = view c.loop-i.seat in
    let words = c.row_words.result.now in
    let a : AreNews W c.args.ground.now.nothing.now words c.list_news.new.news.items = news_in W c.args.ground.now.nothing.now words c.list_news.new.news.items (c.row_words.ensures.sized ∙ c.requires.fits.width) c.in_ok-list_news.ensures in
    let p = a.there k new (subst (λ (xs : List (ℕ × ℕ)). Contains xs (k, new)) c.as_slice.ensures.value h) in
    let seen = read_of (system_of c.args.ground.now.table.now) u c.args.done.now c.in-Some.from words c.loop-i.invariant.own.1 c.requires.fits.width c.row_words.ensures.small c.row_words.ensures.words
    (λ location has. known_more v u c.loop-i.invariant.more c.in-Some.from location (c.requires.inside c.in-Some.from location has)) in
    (p.0, λ b bit. seen k p.0 b (p.1 b bit))

-- one edge more was carried
carried_more : (book : List (ℕ × ℕ)) (F : Family) (u w : View) (i from to : ℕ) → slice_get book i ≡ Some (from, to) → OnlyAdded u w → ((location : ℕ) → Has F from location → Has (known w) to location)
    → ((k a b location : ℕ) → k < i → slice_get book k ≡ Some (a, b) → Has F a location → Has (known u) b location)
    → (k a b location : ℕ) → k < i + 1 → slice_get book k ≡ Some (a, b) → Has F a location → Has (known w) b location
carried_more book F u w i from to at more now so_far k a b location lt there h = elim (cases_eq k i) [
  | inl e ↦ (let same : (a, b) ≡ (from, to) = same_Some (a, b) (from, to) (sym there ∙ ap (slice_get book) e ∙ at) in
      subst (λ (n : ℕ). Has (known w) n location) (sym (ap (λ (p : ℕ × ℕ). p.1) same)) (now location (subst (λ (n : ℕ). Has F n location) (ap (λ (p : ℕ × ℕ). p.0) same) h)))
  | inr ne ↦ known_more u w more b location (so_far k a b location (omega arith) there h)
]

pub loop-i-preserved : goal.loop-i-preserved
loop-i-preserved c =
    let t = c.args.ground.now.table.now in
    let S = system_of t in
    let book = c.args.book.now in
    let F = members c.args.done.now in
    let i : ℕ = c.loop-i.i in
    let v = view c.args.seat.now in
    let u = view c.loop-i.seat in
    let inv = c.loop-i.invariant in
    let P : RowSeat → Type 0 = λ s. record {
      own : IsOf t s;
      more : OnlyAdded v (view s);
      sound : IsSound v → IsSound (view s);
      carried : (k a b location : ℕ) → k < i + 1 → slice_get book k ≡ Some (a, b) → Has F a location → Has (known (view s)) b location;
      ors : (view s).ors + edge_work S F (take c.args.first book) ≤ v.ors + edge_work S F (take (i + 1) book);
    } in
    elim c.match-get.branch [
      | in-Some+in_ok-list_news x ↦
          let W : ℕ = width_of S in
          let from : ℕ = x.in-Some.from in
          let to : ℕ = x.in-Some.to in
          let ens = x.carry-grown.ensures in
          let w = view x.carry-grown.new.seat in
          let words = x.row_words.result.now in
          let news = x.list_news.new.news.items in
          let at : slice_get book i ≡ Some (from, to) = sym x.in-Some.ensures in
          let long = x.row_words.ensures.sized ∙ c.requires.fits.width in
          let a : AreNews W c.args.ground.now.nothing.now words news = news_in W c.args.ground.now.nothing.now words news long x.in_ok-list_news.ensures in
          let few = a.few in
          let seen : IsSeenOf W w.seen to words = news_seen W to c.args.ground.now.nothing.now words w.seen news a (nothing_seen W w.seen c.args.ground.now.nothing.now to c.requires.nothing)
          (λ k new h. ens.carried k new (subst (λ (xs : List (ℕ × ℕ)). Contains xs (k, new)) (sym x.as_slice.ensures.value) h)) in
          let steps : w.ors ≤ u.ors + length news = subst (λ (xs : List (ℕ × ℕ)). w.ors ≤ u.ors + length xs) x.as_slice.ensures.value ens.ors in
          subst P (sym x.seat-is) record {
            own = ens.own;
            more = added_twice v u w inv.more ens.view;
            sound = λ s. ens.sound (inv.sound s);
            carried = carried_more book F u w i from to at ens.view
                (λ location h. in_seen S w to location words ens.own.1 (omega arith) seen ((x.row_words.ensures.has location).0 h)) inv.carried;
            ors = edge_paid S F book c.args.first i from to v.ors u.ors w.ors (gained W c.args.ground.now.nothing.now words) at inv.ors (omega arith)
                (edge_pays S c.args.done.now from c.args.ground.now.nothing.now words c.requires.fits (λ location. (x.row_words.ensures.has location).1));
          }
      | in_default x ↦ absurd (let e = slice_get-get_or book i (0, 0) (let l = c.loop-i-test.true in let n = c.len-i-end.ensures.len in omega arith) in none-some (get_or book i (0, 0)) (sym (sym c.get.ensures ∙ x.in_default.is) ∙ e))
    ]

pub returns-clause-carried : goal.returns-clause-carried
returns-clause-carried c a b location edge h =
    let at = at_Contains c.args.book.now (a, b) edge in
    c.loop-i.invariant.carried at.0 a b location (let l = at.1 in let n = c.loop-i-test.false in let m = c.len-i-end.ensures.len in omega arith) at.2 h

pub returns-clause-ors : goal.returns-clause-ors
returns-clause-ors c =
    let S = system_of c.args.ground.now.table.now in
    let F = members c.args.done.now in
    let book = c.args.book.now in
    subst (λ (xs : List (ℕ × ℕ)). (view c.loop-i.seat).ors + edge_work S F (take c.args.first book) ≤ (view c.args.seat.now).ors + edge_work S F xs)
    (take_all c.loop-i.i book (let n = c.loop-i-test.false in let m = c.len-i-end.ensures.len in omega arith)) c.loop-i.invariant.ors
