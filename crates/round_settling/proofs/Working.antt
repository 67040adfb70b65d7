-- The work of families, and what rounds pay of it.
use Rattle.std.proofs.Common.{◌≡◌, ℕ, ◌+◌, ◌≤◌, true, false, cond, ◌&&◌, eqb, Option, Some, None, List, [], length, take, get_or, map, slice_get, refl, ap, ◌∙◌, inl, inr, arith}
use Rattle.std.specs.Option.{option_map_or, is_some}
use Rattle.std.proofs.Math.Seq.{take-append_seam}
use Rattle.std.proofs.lemmas.Bool.{and_from, and_parts}
use Rattle.std.proofs.lemmas.List.Sums.{sum_by_more}
use Rattle.std.proofs.lemmas.Option.{get_or_from_slice_get, slice_get_within}
use Rattle.sol_model.specs.declared.system.System.{System}
use Rattle.sol_model.specs.declared.system.CallSite.{CallSite}
use Rattle.sol_model.specs.declared.system.Function.{Function}
use Rattle.sol_model.specs.declared.system.Constraint.{Constraint}
use Rattle.sol_model.specs.declared.system.Constraint.TheVariants.{Address, Copy, Load, Store, Field, Contents, Call}
use Rattle.sol_model.specs.declared.rows.Rows.{Rows}
use Rattle.sol_model.specs.Families.{Family, IsInside, members}
use Rattle.sol_model.specs.Places.{field_of}
use Rattle.sol_model.specs.Systems.{IsValid, Fits, location_count, width_of}
use Rattle.set_rows.specs.declared.view.View.{View}
use Rattle.set_rows.specs.Views.{known}
use Rattle.round_pieces.specs.declared.delta_prop.turn.Turn.{Turn}
use Rattle.round_pieces.specs.delta_prop.Deltas.{gained}
use Rattle.round_pieces.proofs.delta_prop.Carries.{edge_more}
use Rattle.new_members.specs.News.{Extends, words_at}
use Rattle.round_pieces.specs.Rounds.{IsRest, IsSettled, IsTakenIn}
use Rattle.round_pieces.specs.Turns.{row_of}
use Rattle.round_pieces.specs.Balance.{paid_for, spent, IsBooked}
use Rattle.round_pieces.specs.Work.{asked_by, edge_work, fact_work, fresh_targets, is_target, size, IsWork, OneWork, WorkGrows}
use Rattle.round_settling.proofs.Asking.{facts_within}
use Rattle.round_settling.proofs.Costs.{paid_within}
use Rattle.round_pieces.proofs.Counts.{count_more, one_or_none}
use Rattle.round_pieces.proofs.Ending.{all_done, fact_more, sound_range}
use Rattle.round_pieces.proofs.Growing.{turn_grows}
use Rattle.round_pieces.proofs.Sums.{IsApart, in_list, list_has, apart_list, sum_more, sum_within}

module _ (S : System) (F G : Family) (inside : IsInside F G) where
  pub size_more : (row : ℕ) → size S F row ≤ size S G row
  size_more row = count_more (location_count S) (F row) (G row) (λ l lt h. inside row l h)

  asked_more : (constraint : Constraint) → asked_by S F constraint ≤ asked_by S G constraint
  asked_more (Address row location) = omega arith
  asked_more (Copy from to) = omega arith
  asked_more (Load pointer to ty sub) = omega arith
  asked_more (Store pointer from ty sub) = omega arith
  asked_more (Field from to ty member) = count_more (location_count S) (λ whole. F from whole && is_some (field_of S whole ty member)) (λ whole. G from whole && is_some (field_of S whole ty member))
      (λ l lt h. let p = and_parts (F from l) (is_some (field_of S l ty member)) h in and_from (G from l) (is_some (field_of S l ty member)) (inside from l p.0) p.1)
  asked_more (Contents to from) = omega arith
  asked_more (Call number) = omega arith

  target_more : (call : CallSite) (number : ℕ) → is_target S F call number ≡ true → is_target S G call number ≡ true
  target_more call number = elim (slice_get S.functions number) as (λ (o : Option Function). option_map_or (λ f. F call.callee f.location && eqb f.signature call.signature) o false ≡ true
      → option_map_or (λ f. G call.callee f.location && eqb f.signature call.signature) o false ≡ true) [
        | None ↦ λ h. h
        | Some f ↦ λ h. (let p = and_parts (F call.callee f.location) (eqb f.signature call.signature) h in and_from (G call.callee f.location) (eqb f.signature call.signature) (inside call.callee f.location p.0) p.1)
      ]

  fresh_more : (call : CallSite) → fresh_targets S F call ≤ fresh_targets S G call
  fresh_more call = sum_more (λ (pair : ℕ × ℕ). cond (is_target S F call pair.0) 1 0) (λ (pair : ℕ × ℕ). cond (is_target S G call pair.0) 1 0) call.fresh
      (λ pair. one_or_none (is_target S F call pair.0) (is_target S G call pair.0) (target_more call pair.0))

  facts_more : fact_work S F ≤ fact_work S G
  facts_more =
      let a = sum_more (asked_by S F) (asked_by S G) S.constraints asked_more in
      let b = sum_more (fresh_targets S F) (fresh_targets S G) S.calls fresh_more in
      omega arith

  pub edges_more : (edges : List (ℕ × ℕ)) → edge_work S F edges ≤ edge_work S G edges
  edges_more edges = sum_more (λ (edge : ℕ × ℕ). size S F edge.0) (λ (edge : ℕ × ℕ). size S G edge.0) edges (λ edge. size_more edge.0)

  work_more : (n m : ℕ) → IsWork S F n → IsWork S G m → n ≤ m
  work_more n m w v =
      let a : edge_work S F w.edges ≤ edge_work S G w.edges = edges_more w.edges in
      let b : edge_work S G w.edges ≤ edge_work S G v.edges = sum_within (λ (edge : ℕ × ℕ). size S G edge.0) w.edges v.edges (apart_list w.edges w.once)
      (λ edge i. in_list v.edges edge ((v.all edge.0 edge.1).1 (edge_more S F G edge.0 edge.1 inside ((w.all edge.0 edge.1).0 (list_has w.edges edge i))))) in
      let c = facts_more in
      let d = w.sum in
      let e = v.sum in
      omega arith

pub work_grows : WorkGrows
work_grows S F G n m inside w v = work_more S F G inside n m w v

pub one_work : OneWork
one_work S F n m w v =
    let a = work_more S F F (λ r l h. h) n m w v in
    let b = work_more S F F (λ r l h. h) m n v w in
    omega arith

-- what the turns of a round pay is what the edges of its rows have gained
pub turns_pay : (S : System) (done after : Rows) (book more known news : List (ℕ × ℕ)) (turns : List Turn) → Fits S done → IsTakenIn S turns done after book more known news → IsApart (map row_of turns)
    → spent (width_of S) book (words_at done) turns + edge_work S (members done) book ≤ edge_work S (members after) book
turns_pay S done after book more known news turns fits taken once =
    let kept : IsInside (members done) (members after) = λ row location h. (taken.has row location).1 (inl h) in
    paid_within (λ (turn : Turn). gained (width_of S) (words_at done turn.row) turn.done.items) (size S (members done)) (size S (members after)) (size_more S (members done) (members after) kept) book turns once
    (λ turn i. turn_grows S done after turn.row turn.done.items fits taken.fits (kept turn.row) (λ location h. (taken.has turn.row location).1 (inr (turn, list_has turns turn i, refl, h))))

-- at the end all that was paid for is work of what was seen
pub work_done : (S : System) (u : View) (book facts : List (ℕ × ℕ)) (done : Rows) (before : ℕ) → u.system ≡ S → IsValid S → IsSettled S u book done → IsRest u done [] → IsBooked S done book facts
    → u.ors ≤ before + paid_for S done book facts → (n : ℕ) × IsWork S (known u) n × (u.ors ≤ before + n)
work_done S u book facts done before own valid settled rest booked paid =
    let F : Family = known u in
    let all : IsInside F (members done) = all_done u done rest in
    let a : edge_work S (members done) book ≤ edge_work S F book = edges_more S (members done) F settled.ready.own book in
    let b : length facts ≤ fact_work S F = facts_within S F (λ row location h. (sound_range S u row location valid own settled.sound h).1) facts booked.facts_once
    (λ row location c. fact_more S (members done) F row location settled.ready.own (booked.demanded row location c)) in (
      edge_work S F book + fact_work S F,
      record {
        edges = book;
        once = booked.edges;
        all = λ a b. (λ c. settled.ready.demanded.edges a b c, λ e. settled.treated.edges a b (edge_more S F (members done) a b all e));
        sum = refl;
      },
      omega arith,
    )

-- a new edge pays at most the size of its source
pub edge_paid : (S : System) (F : Family) (book : List (ℕ × ℕ)) (first i from to start before after gain : ℕ) → slice_get book i ≡ Some (from, to) → before + edge_work S F (take first book) ≤ start + edge_work S F (take i book)
    → after ≤ before + gain → gain ≤ size S F from → after + edge_work S F (take first book) ≤ start + edge_work S F (take (i + 1) book)
edge_paid S F book first i from to start before after gain at so_far step pays =
    let same : get_or book i (0, 0) ≡ (from, to) = get_or_from_slice_get book i (from, to) (0, 0) at in
    let more : edge_work S F (take (i + 1) book) ≡ edge_work S F (take i book) + size S F (get_or book i (0, 0)).0 = sum_by_more (λ (edge : ℕ × ℕ). size S F edge.0) book i (0, 0) (slice_get_within book i (from, to) at) in
    let row : size S F (get_or book i (0, 0)).0 ≡ size S F from = ap (λ (pair : ℕ × ℕ). size S F pair.0) same in
    omega arith

pub old_edges : (book more : List (ℕ × ℕ)) (first : ℕ) → first ≡ length book → Extends book more → take first more ≡ book
old_edges book more first e kept = ap (λ (n : ℕ). take n more) e ∙ ap (take (length book)) kept.1 ∙ take-append_seam book kept.0

-- the steps of a round are paid for
pub round_paid : (S : System) (w x y : View) (done after : Rows) (book more facts later : List (ℕ × ℕ)) (cost : ℕ) → cost + edge_work S (members done) book ≤ edge_work S (members after) book
    → x.ors + length facts ≤ w.ors + length later → y.ors + edge_work S (members after) book ≤ x.ors + edge_work S (members after) more
    → y.ors + (cost + paid_for S done book facts) ≤ w.ors + paid_for S after more later
round_paid S w x y done after book more facts later cost turns added carried = omega arith
