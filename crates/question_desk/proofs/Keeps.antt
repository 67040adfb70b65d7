-- Each kind of step keeps the rule.
use Rattle.std.proofs.Common.{◌≡◌, ◌≢◌, ℕ, zero, suc, ◌<◌, true, if◌then◌else◌, ⊎_elim}
use Rattle.std.proofs.Common.{List, [], ◌∷◌, ◌++◌, length, set, sym, refl, ap, ◌∙◌, subst, arith, append_assoc, append-nil, length-append}
use mathlib.Core.Option.{some, some-injective, some-ne-none}
use lib.ListN.{get_elem?}
use Rattle.crossbeam_queue.specs.Fifo.{Pushes, Pops, Forks, Merges, Learns}
use Rattle.crossbeam_queue.proofs.Lists.{at_set}
use Rattle.alias_query.specs.declared.answers.Question.{Question}
use Rattle.question_desk.specs.declared.ask.Ask.{Ask}
use Rattle.question_desk.specs.declared.view.View.{View}
use Rattle.question_desk.specs.Views.{everyone, nobody, sender_view, without_second, second_of, without_taker, taker_of, joined, sending, taking}
use Rattle.question_desk.specs.Senders.{sent_by}
use Rattle.question_desk.specs.Order.{asks_of, Sheet, Seats, IsInOrder, Fits, Kept, Finds}
use Rattle.question_desk.proofs.Roles.{each_set, at_end, none, alone, role_joined, role_stays}
use Rattle.question_desk.proofs.Numbered.{ask_at, numbered_more, asks_of_more}

abbrev empty_sheet : Sheet
empty_sheet = record { sent_first = []; sent_second = []; taken = [] }

abbrev first_seats : Seats
first_seats = record { first = 0; second = 0; taker = 0 }

-- ---- the queue is made
fits_first : (pass : ℕ) (v : View) → get_elem? (everyone ∷ []) pass ≡ some v → Fits empty_sheet first_seats pass v
fits_first zero v e =
    let is : everyone ≡ v = some-injective everyone v e in
    let P : View → Type 0 = λ u. Fits empty_sheet first_seats 0 u in
    subst P is (record { first = λ _. (refl, refl); second = λ _. (refl, refl); taker = λ _. (refl, refl) })
fits_first (suc pass) v e = absurd (some-ne-none v (sym e))

pub begins : Kept [] (everyone ∷ [])
begins = record {
  sheet = empty_sheet;
  seats = first_seats;
  order = record { first = refl; second = refl; count = refl };
  fits = fits_first;
}

-- ---- a pass is split
pub hands_second : (pass : ℕ) (v : View) → v.second ≡ true → Forks Kept pass v (without_second v) (second_of v)
hands_second pass v has waiting views kept at =
    let sheet = kept.sheet in
    let seats = kept.seats in
    let mine = kept.fits pass v at in
    let left = set views pass (without_second v) in
    let seats' : Seats = record seats { second = length left } in
    let inside : (j : ℕ) (u : View) → get_elem? left j ≡ some u → Fits sheet seats' j u =
    each_set (Fits sheet seats') views pass (without_second v)
    (record { first = mine.first; second = none [] pass (length left) sheet.sent_second; taker = mine.taker })
    (λ j u apart e. let its = kept.fits j u e in record {
      first = its.first;
      second = λ too. absurd (alone v.second u.second v.sent_second u.sent_second pass j seats.second sheet.sent_second mine.second has apart its.second too);
      taker = its.taker;
    }) in
    let P : ℕ × View → Type 0 = λ y. Fits sheet seats' y.0 y.1 in
    let last : Fits sheet seats' (length left) (second_of v) = record {
      first = none [] (length left) seats.first sheet.sent_first;
      second = λ _. (refl, (mine.second has).1);
      taker = none [] (length left) seats.taker sheet.taken;
    } in
    record {
      sheet = sheet;
      seats = seats';
      order = kept.order;
      fits = λ j u e. ⊎_elim (λ (x : get_elem? left j ≡ some u). inside j u x)
          (λ (x : (j ≡ length left) × (second_of v ≡ u)). subst P (λ i. (sym x.0 i, x.1 i)) last)
          (at_end left (second_of v) u j e);
    }

pub hands_taker : (pass : ℕ) (v : View) → v.takes ≡ true → Forks Kept pass v (without_taker v) (taker_of v)
hands_taker pass v has waiting views kept at =
    let sheet = kept.sheet in
    let seats = kept.seats in
    let mine = kept.fits pass v at in
    let left = set views pass (without_taker v) in
    let seats' : Seats = record seats { taker = length left } in
    let inside : (j : ℕ) (u : View) → get_elem? left j ≡ some u → Fits sheet seats' j u =
    each_set (Fits sheet seats') views pass (without_taker v)
    (record { first = mine.first; second = mine.second; taker = none [] pass (length left) sheet.taken })
    (λ j u apart e. let its = kept.fits j u e in record {
      first = its.first;
      second = its.second;
      taker = λ too. absurd (alone v.takes u.takes v.taken u.taken pass j seats.taker sheet.taken mine.taker has apart its.taker too);
    }) in
    let P : ℕ × View → Type 0 = λ y. Fits sheet seats' y.0 y.1 in
    let last : Fits sheet seats' (length left) (taker_of v) = record {
      first = none [] (length left) seats.first sheet.sent_first;
      second = none [] (length left) seats.second sheet.sent_second;
      taker = λ _. (refl, (mine.taker has).1);
    } in
    record {
      sheet = sheet;
      seats = seats';
      order = kept.order;
      fits = λ j u e. ⊎_elim (λ (x : get_elem? left j ≡ some u). inside j u x)
          (λ (x : (j ≡ length left) × (taker_of v ≡ u)). subst P (λ i. (sym x.0 i, x.1 i)) last)
          (at_end left (taker_of v) u j e);
    }

-- ---- two passes are joined
pub joins : (pass : ℕ) (v : View) (other : ℕ) (u : View) → Merges Kept pass v other u (joined v u) nobody
joins pass v other u waiting views kept at apart at' =
    let sheet = kept.sheet in
    let seats = kept.seats in
    let both = joined v u in
    let mine = kept.fits pass v at in
    let middle = set views pass both in
    let was : get_elem? views other ≡ some u =
    ⊎_elim (λ (x : (other ≡ pass) × (both ≡ u)). absurd (apart x.0)) (λ (x : (other ≢ pass) × (get_elem? views other ≡ some u)). x.1)
    (at_set views pass other both u at') in
    let theirs = kept.fits other u was in
    let seats' : Seats = record {
      first = if u.first then pass else seats.first;
      second = if u.second then pass else seats.second;
      taker = if u.takes then pass else seats.taker;
    } in
    let Now : ℕ → View → Type 0 = λ j y. j ≢ other → Fits sheet seats' j y in
    let now : (j : ℕ) (y : View) → get_elem? middle j ≡ some y → Now j y =
    each_set Now views pass both
    (λ _. record {
      first = role_joined v.first u.first v.sent_first u.sent_first pass other seats.first sheet.sent_first mine.first theirs.first;
      second = role_joined v.second u.second v.sent_second u.sent_second pass other seats.second sheet.sent_second mine.second theirs.second;
      taker = role_joined v.takes u.takes v.taken u.taken pass other seats.taker sheet.taken mine.taker theirs.taker;
    })
    (λ j y _ e third. let its = kept.fits j y e in record {
      first = role_stays u.first y.first u.sent_first y.sent_first pass other j seats.first sheet.sent_first third theirs.first its.first;
      second = role_stays u.second y.second u.sent_second y.sent_second pass other j seats.second sheet.sent_second third theirs.second its.second;
      taker = role_stays u.takes y.takes u.taken y.taken pass other j seats.taker sheet.taken third theirs.taker its.taker;
    }) in
    record {
      sheet = sheet;
      seats = seats';
      order = kept.order;
      fits = each_set (Fits sheet seats') middle other nobody
          (record {
            first = none [] other seats'.first sheet.sent_first;
            second = none [] other seats'.second sheet.sent_second;
            taker = none [] other seats'.taker sheet.taken;
          })
          (λ j y third e. now j y e third);
    }

-- ---- a push
order_first : (sheet : Sheet) (waiting : List Ask) (number : ℕ) (q : Question) → IsInOrder sheet waiting → number ≡ length sheet.sent_first
    → IsInOrder (record sheet { sent_first = sheet.sent_first ++ q ∷ [] }) (waiting ++ ask_at 0 number q ∷ [])
order_first sheet waiting number q order next = record {
  first = asks_of_more 0 sheet.taken waiting (ask_at 0 number q)
      ∙ ap (λ l. l ++ ask_at 0 number q ∷ []) order.first
      ∙ sym (numbered_more 0 number sheet.sent_first q next);
  second = asks_of_more 1 sheet.taken waiting (ask_at 0 number q) ∙ append-nil (asks_of 1 (sheet.taken ++ waiting)) ∙ order.second;
  count =
      let count = order.count in
      let a = length-append waiting (ask_at 0 number q ∷ []) in
      let b = length-append sheet.sent_first (q ∷ []) in
      let c : length (ask_at 0 number q ∷ []) ≡ 1 = refl in
      let d : length (q ∷ []) ≡ 1 = refl in omega arith;
}

order_second : (sheet : Sheet) (waiting : List Ask) (number : ℕ) (q : Question) → IsInOrder sheet waiting → number ≡ length sheet.sent_second
    → IsInOrder (record sheet { sent_second = sheet.sent_second ++ q ∷ [] }) (waiting ++ ask_at 1 number q ∷ [])
order_second sheet waiting number q order next = record {
  first = asks_of_more 0 sheet.taken waiting (ask_at 1 number q) ∙ append-nil (asks_of 0 (sheet.taken ++ waiting)) ∙ order.first;
  second = asks_of_more 1 sheet.taken waiting (ask_at 1 number q)
      ∙ ap (λ l. l ++ ask_at 1 number q ∷ []) order.second
      ∙ sym (numbered_more 1 number sheet.sent_second q next);
  count =
      let count = order.count in
      let a = length-append waiting (ask_at 1 number q ∷ []) in
      let b = length-append sheet.sent_second (q ∷ []) in
      let c : length (ask_at 1 number q ∷ []) ≡ 1 = refl in
      let d : length (q ∷ []) ≡ 1 = refl in omega arith;
}

sends_first : (n pass : ℕ) (v : View) (number : ℕ) (q : Question) → v.first ≡ true → number ≡ length v.sent_first
    → Pushes Kept n pass v (ask_at 0 number q) (λ w. w ≡ sending v (ask_at 0 number q))
sends_first n pass v number q has next waiting views _ kept at =
    let w : View = record v { sent_first = v.sent_first ++ q ∷ [] } in
    let mine = kept.fits pass v at in
    let sheet : Sheet = record kept.sheet { sent_first = kept.sheet.sent_first ++ q ∷ [] } in
    let same : v.sent_first ≡ kept.sheet.sent_first = (mine.first has).1 in (
      w,
      record {
        sheet = sheet;
        seats = kept.seats;
        order = order_first kept.sheet waiting number q kept.order (next ∙ ap length same);
        fits = each_set (Fits sheet kept.seats) views pass w
            (record { first = λ _. ((mine.first has).0, ap (λ l. l ++ q ∷ []) same); second = mine.second; taker = mine.taker })
            (λ j u apart e. let its = kept.fits j u e in record {
              first = λ too. absurd (alone v.first u.first v.sent_first u.sent_first pass j kept.seats.first kept.sheet.sent_first mine.first has apart its.first too);
              second = its.second;
              taker = its.taker;
            });
      },
      refl,
    )

sends_second : (n pass : ℕ) (v : View) (number : ℕ) (q : Question) → v.second ≡ true → number ≡ length v.sent_second
    → Pushes Kept n pass v (ask_at 1 number q) (λ w. w ≡ sending v (ask_at 1 number q))
sends_second n pass v number q has next waiting views _ kept at =
    let w : View = record v { sent_second = v.sent_second ++ q ∷ [] } in
    let mine = kept.fits pass v at in
    let sheet : Sheet = record kept.sheet { sent_second = kept.sheet.sent_second ++ q ∷ [] } in
    let same : v.sent_second ≡ kept.sheet.sent_second = (mine.second has).1 in (
      w,
      record {
        sheet = sheet;
        seats = kept.seats;
        order = order_second kept.sheet waiting number q kept.order (next ∙ ap length same);
        fits = each_set (Fits sheet kept.seats) views pass w
            (record { first = mine.first; second = λ _. ((mine.second has).0, ap (λ l. l ++ q ∷ []) same); taker = mine.taker })
            (λ j u apart e. let its = kept.fits j u e in record {
              first = its.first;
              second = λ too. absurd (alone v.second u.second v.sent_second u.sent_second pass j kept.seats.second kept.sheet.sent_second mine.second has apart its.second too);
              taker = its.taker;
            });
      },
      refl,
    )

-- a sender, which has the view of one, pushes its next question
pub sends : (n pass s number : ℕ) (v : View) (q : Question) → s < 2 → v ≡ sender_view s (sent_by s v) → number ≡ length (sent_by s v)
    → Pushes Kept n pass v (ask_at s number q) (λ w. w ≡ sending v (ask_at s number q))
sends n pass zero number v q known role next = sends_first n pass v number q (ap (λ (u : View). u.first) role) next
sends n pass (suc zero) number v q known role next = sends_second n pass v number q (ap (λ (u : View). u.second) role) next
sends n pass (suc (suc s)) number v q known role next = absurd (omega arith)

-- ---- a pop
pub takes : (pass : ℕ) (v : View) → v.takes ≡ true → Pops Kept pass v (λ ask w. w ≡ taking v ask)
takes pass v has ask waiting views kept at =
    let w : View = taking v ask in
    let old = kept.sheet in
    let mine = kept.fits pass v at in
    let sheet : Sheet = record old { taken = old.taken ++ ask ∷ [] } in
    let moved : old.taken ++ ask ∷ [] ++ waiting ≡ old.taken ++ (ask ∷ waiting) = append_assoc old.taken (ask ∷ []) waiting in
    let same : v.taken ≡ old.taken = (mine.taker has).1 in (
      w,
      record {
        sheet = sheet;
        seats = kept.seats;
        order = record {
          first = ap (asks_of 0) moved ∙ kept.order.first;
          second = ap (asks_of 1) moved ∙ kept.order.second;
          count =
              let count = kept.order.count in
              let a = length-append old.taken (ask ∷ []) in
              let c : length (ask ∷ waiting) ≡ suc (length waiting) = refl in
              let d : length (ask ∷ []) ≡ 1 = refl in omega arith;
        };
        fits = each_set (Fits sheet kept.seats) views pass w
            (record { first = mine.first; second = mine.second; taker = λ _. ((mine.taker has).0, ap (λ l. l ++ ask ∷ []) same) })
            (λ j u apart e. let its = kept.fits j u e in record {
              first = its.first;
              second = its.second;
              taker = λ too. absurd (alone v.takes u.takes v.taken u.taken pass j kept.seats.taker old.taken mine.taker has apart its.taker too);
            });
      },
      refl,
    )

-- ---- a try that finds the queue full or empty
pub finds : (pass : ℕ) (v : View) → Learns Kept pass v (Finds v)
finds pass v waiting views kept at = let mine = kept.fits pass v at in record {
  sheet = kept.sheet;
  order = kept.order;
  own = record { first = λ e. (mine.first e).1; second = λ e. (mine.second e).1; taker = λ e. (mine.taker e).1 };
}
