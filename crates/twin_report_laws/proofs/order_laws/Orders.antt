-- Objects, calls and stops in the order of places.
use Rattle.std.proofs.Common.{arith, ◌≡◌, ◌∙◌, ◌↔◌, ◌⊎◌, inl, inr, ℕ, ◌+◌, Bool, true, false, List, [], ◌∷◌, ◌++◌, Option, Some, None, Contains, flat_map, slice_get, refl, sym, ap, subst}
use Rattle.std.specs.Prelude.{if◌then◌else◌}
use Rattle.std.specs.BTreeMap.{insert_entry}
use Rattle.pta_base.specs.declared.place.Place.{Place}
use Rattle.core_tree.specs.declared.node.Node.{Node}
use Rattle.sol_model.specs.declared.system.CallSite.{CallSite}
use Rattle.obj_made.specs.Made.{Spot, by_place, Made, in_order as made_put, made_in_order}
use Rattle.twin_report_laws.proofs.outcome_laws.twin_locations.Made.{Rise, whole, whole_rises}
use Rattle.unit_report.specs.report_text.Report.{Placed as PlacedCalls, placed as call_placed, all_placed, in_order as calls_put}
use Rattle.stop_places.specs.declared.list.Stop.{Stop}
use Rattle.side_reports.specs.stop_report.Text.{Line, Placed as PlacedStops, rank, spot_of, placed_by, placed, in_order as stops_put, lines_of}
use Rattle.twin_report_laws.specs.order_laws.walk_laws.Ordered.{IsOrdered}
use Rattle.twin_report_laws.proofs.order_laws.walk_laws.Orders.{Member, IsKeyed, put_all, put_is}
use Rattle.twin_report_laws.specs.order_laws.Orders.{all_made, MadeOrdered, CallsOrdered, StopsOrdered}
use Rattle.twin_report_laws.proofs.order_laws.Spots.{by_place_total, by_place_exact, NumbersRise, rise_less, risen_keyed}

-- what any of the three puts in its place, one by one
ordered : {X : Type 0} (entries : List (Spot × X)) → IsKeyed entries → (walk : List (Spot × X)) → walk ≡ put_all by_place [] entries → (list : List (Spot × X)) → (list ≡ walk) ↔ IsOrdered by_place (Contains entries) list
ordered {X} entries keyed walk is list =
    subst (λ (w : List (Spot × X)). (list ≡ w) ↔ IsOrdered by_place (Contains entries) list) (sym is) (put_is by_place by_place_total by_place_exact entries keyed list)

-- ---- objects
made_all : (done ms : Made) → made_put done ms ≡ put_all by_place done ms
made_all done [] = refl
made_all done (m ∷ rest) = made_all (insert_entry by_place done m.0 m.1) rest

made_rises : (k : ℕ) (ms : Made) → Rise k ms → NumbersRise k ms
made_rises k [] h = tt
made_rises k (m ∷ rest) h = (h.0, made_rises (m.0.3 + 1) rest h.1)

pub made_ordered : MadeOrdered
made_ordered p list = ordered (all_made p) (risen_keyed 0 (all_made p) (made_rises 0 (all_made p) (whole_rises p))) (made_in_order p) (whole p ∙ made_all [] (all_made p)) list

-- ---- calls
calls_all : (done ms : PlacedCalls) → calls_put done ms ≡ put_all by_place done ms
calls_all done [] = refl
calls_all done (m ∷ rest) = calls_all (insert_entry by_place done m.0 m.1) rest

call_rises : (k : ℕ) (call : CallSite) (rest : PlacedCalls) → NumbersRise (k + 1) rest → NumbersRise k (call_placed k call ++ rest)
call_rises k call rest later = by (call.direct)
  where
    by : (b : Bool) → NumbersRise k ((if b then [] else ((call.place.unit, call.place.line, call.place.column, k), k) ∷ []) ++ rest)
    by true = rise_less k (k + 1) rest (omega arith) later
    by false = (omega arith, later)

calls_rise : (k : ℕ) (calls : List CallSite) → NumbersRise k (all_placed k calls)
calls_rise k [] = tt
calls_rise k (call ∷ calls) = call_rises k call (all_placed (k + 1) calls) (calls_rise (k + 1) calls)

pub calls_ordered : CallsOrdered
calls_ordered calls list =
    ordered (all_placed 0 calls) (risen_keyed 0 (all_placed 0 calls) (calls_rise 0 calls)) (calls_put [] (all_placed 0 calls)) (calls_all [] (all_placed 0 calls)) list

-- ---- stops
stops_all : (done ms : PlacedStops) → stops_put done ms ≡ put_all by_place done ms
stops_all done [] = refl
stops_all done (m ∷ rest) = stops_all (insert_entry by_place done m.0 m.1) rest

member_split : {X : Type 0} (xs ys : List X) (x : X) → Member (xs ++ ys) x → Member xs x ⊎ Member ys x
member_split [] ys x h = inr h
member_split (y ∷ xs) ys x (inl same) = inl (inl same)
member_split (y ∷ xs) ys x (inr more) = elim (member_split xs ys x more) [ inl here ↦ inl (inr here) | inr later ↦ inr later ]

-- a line stands at the spot of what it says
abbrev IsOwn : Spot × Line → Type 0
IsOwn e = e.0 ≡ spot_of e.1.0 e.1.1

own_by : (call : Bool) (o : Option Node) (e : Spot × Line) → Member (placed_by call o) e → IsOwn e
own_by call None e h = absurd h
own_by call (Some node) e (inl same) = subst IsOwn same refl
own_by call (Some node) e (inr none) = absurd none

own_spot : (nodes : List Node) (stops : List Stop) (e : Spot × Line) → Member (flat_map (placed nodes) stops) e → IsOwn e
own_spot nodes [] e h = absurd h
own_spot nodes (stop ∷ rest) e h = elim (member_split (placed nodes stop) (flat_map (placed nodes) rest) e h) [
  | inl here ↦ own_by stop.call (slice_get nodes stop.node) e here
  | inr later ↦ own_spot nodes rest e later
]

one_rank : (c d : Bool) → rank c ≡ rank d → c ≡ d
one_rank true true h = refl
one_rank true false h = absurd (omega (arith, h))
one_rank false true h = absurd (omega (arith, h))
one_rank false false h = refl

abbrev place_at : ℕ → ℕ → ℕ → Place
place_at unit line column = record { unit = unit; line = line; column = column }

one_place : (p q : Place) → p.unit ≡ q.unit → p.line ≡ q.line → p.column ≡ q.column → p ≡ q
one_place p q unit line column =
    ap (λ (n : ℕ). place_at n p.line p.column) unit ∙ (ap (λ (n : ℕ). place_at q.unit n p.column) line ∙ ap (λ (n : ℕ). place_at q.unit q.line n) column)

abbrev line_at : Place → Bool → Line
line_at place call = (place, call)

abbrev entry_at : Spot → Line → Spot × Line
entry_at spot line = (spot, line)

stops_keyed : (nodes : List Node) (stops : List Stop) → IsKeyed (flat_map (placed nodes) stops)
stops_keyed nodes stops a b p q same =
    let spots : spot_of a.1.0 a.1.1 ≡ spot_of b.1.0 b.1.1 = sym (own_spot nodes stops a p) ∙ (same ∙ own_spot nodes stops b q) in
    let place = one_place a.1.0 b.1.0 (ap (λ (s : Spot). s.0) spots) (ap (λ (s : Spot). s.1) spots) (ap (λ (s : Spot). s.2) spots) in
    let call = one_rank a.1.1 b.1.1 (ap (λ (s : Spot). s.3) spots) in
    ap (λ (s : Spot). entry_at s a.1) same
    ∙ (ap (λ (x : Place). entry_at b.0 (line_at x a.1.1)) place ∙ ap (λ (c : Bool). entry_at b.0 (line_at b.1.0 c)) call)

pub stops_ordered : StopsOrdered
stops_ordered nodes stops list =
    ordered (flat_map (placed nodes) stops) (stops_keyed nodes stops) (lines_of nodes stops) (stops_all [] (flat_map (placed nodes) stops)) list
