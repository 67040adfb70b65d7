-- What was settled before a round is settled after it; and where nothing is left, what was seen is closed.
use Rattle.std.proofs.Common.{◌≡◌, ◌⊎◌, ◌↔◌, ◌<◌, ℕ, Bool, true, cond, List, [], length, take, Contains, Result, Ok, Err, IfOk, refl, sym, ap, ◌∙◌, subst, inl, inr, arith}
use Rattle.std.proofs.Math.Seq.{take-append_seam}
use Rattle.std.proofs.lemmas.List.Elements.{All-contains}
use Rattle.pta_base.specs.declared.memory.OutOfMemory.{OutOfMemory}
use Rattle.sol_model.specs.declared.system.System.{System}
use Rattle.sol_model.specs.declared.rows.Rows.{Rows}
use Rattle.sol_model.specs.declared.system.Constraint.{Constraint}
use Rattle.sol_model.specs.declared.system.Constraint.TheVariants.{Address, Copy, Load, Store, Field, Contents, Call}
use Rattle.sol_model.specs.Rules.{DemandsEdge, DemandsFact}
use Rattle.sol_model.specs.Families.{Family, Has, IsInside, shown, members}
use Rattle.sol_model.specs.Solutions.{IsClosed, IsEdge, IsLeast}
use Rattle.sol_model.specs.Systems.{IsValid, IsRow, IsLocation, IsConstraintValid, Fits, width_of}
use Rattle.sol_model.proofs.Monotone.{more_edge, more_fact}
use Rattle.sol_model.proofs.InRange.{edge_rows, fact_range}
use Rattle.sol_model.proofs.Fitting.{fact_known}
use Rattle.sol_model.proofs.Closed.{full_closed, full_has}
use Rattle.sol_model.proofs.Words.{words_inside}
use Rattle.sol_model.specs.Words.{full}
use Rattle.set_rows.specs.declared.view.View.{View}
use Rattle.set_rows.specs.Views.{half_kept, half_given, met, known, shutting, reading}
use Rattle.round_pieces.specs.declared.delta_prop.turn.Turn.{Turn}
use Rattle.round_pieces.specs.delta_prop.Deltas.{AllDemanded, IsSound}
use Rattle.round_pieces.proofs.delta_prop.Carries.{edge_more}
use Rattle.new_members.specs.News.{Extends, IsFact}
use Rattle.round_pieces.specs.Rounds.{AreCarried, HasWorked, HasClosed, IsRest, IsSettled, IsTurnOf, IsTakenIn, IsWorked}
use Rattle.round_pieces.specs.declared.joining.Told.{Told}
use Rattle.round_pieces.specs.Turns.{HasShares, AreTogether}
use Rattle.round_pieces.proofs.Sharing.{shares_together}

pub joined_shares : (S : System) (book : List (ℕ × ℕ)) (v : View) (done : Rows) (todo : List ℕ) (workers first middle last : ℕ) (a b : View) (left right joined : Result Told OutOfMemory)
    → b.system ≡ a.system → IfOk left (λ t. HasShares S book done todo workers first middle (half_kept v) a t.turns.items) → IfOk right (λ t. HasShares S book done todo workers middle last (half_given v) b t.turns.items)
    → IfOk joined (AreTogether left right) → IfOk joined (λ t. HasShares S book done todo workers first last v (met a b) t.turns.items)
joined_shares S book v done todo workers first middle last a b left right (Ok told) e l r j =
    shares_together S book v done todo workers first middle last a b (j.0).turns.items (j.1).turns.items told.turns.items e j.4
    (subst (λ (x : Result Told OutOfMemory). IfOk x (λ t. HasShares S book done todo workers first middle (half_kept v) a t.turns.items)) j.2 l)
    (subst (λ (x : Result Told OutOfMemory). IfOk x (λ t. HasShares S book done todo workers middle last (half_given v) b t.turns.items)) j.3 r)
joined_shares S book v done todo workers first middle last a b left right (Err x) e l r j = tt

pub worked_known : (v w : View) → HasWorked v w → IsInside (known v) (known w)
worked_known v w h = subst (λ (T : System). IsInside (known v) (shown (width_of T) w.seen)) (sym h.system) (words_inside (width_of v.system) v.seen w.seen h.seen)

pub fact_more : (S : System) (F G : Family) (row location : ℕ) → IsInside F G → IsFact S F row location → IsFact S G row location
fact_more S F G row location inside f = (f.0, f.1, more_fact S F G inside f.0 row location f.2)

pub sound_range : (S : System) (w : View) (row location : ℕ) → IsValid S → w.system ≡ S → IsSound w → Has (known w) row location → IsRow S row × IsLocation S location
sound_range S w row location valid e sound h = full_has S row location (sound (full S) (subst (λ (T : System). IsClosed T (full S)) (sym e) (full_closed S valid)) row location h)

pub edge_in_rows : (S : System) (F : Family) (a b : ℕ) → IsValid S → ((row location : ℕ) → Has F row location → IsRow S row × IsLocation S location) → IsEdge S F a b → IsRow S a × IsRow S b
edge_in_rows S F a b valid range e = edge_rows S valid F range e.0 a b (All-contains (IsConstraintValid S) S.constraints e.0 valid.constraints e.1) e.2

module _ (S : System) (v w : View) (book more news : List (ℕ × ℕ)) (done after : Rows) (turns : List Turn) (valid : IsValid S) (own : w.system ≡ S)
    (round : IsWorked S v w book done turns) where
  pub turns_of : (turn : Turn) → Contains turns turn → IsTurnOf S turn
  turns_of turn c = let p = round.served turn c in record {
    row = p.row;
    sized = p.sized;
    known = λ location h. (sound_range S w turn.row location valid own (round.worked.sound round.before.sound) (p.done location h)).1;
  }

  module _ (taken : IsTakenIn S turns done after book more [] news) where
    pub after_inside : IsInside (members after) (known w)
    after_inside row location h = elim ((taken.has row location).0 h) [
      | inl old ↦ worked_known v w round.worked row location (round.before.ready.own row location old)
      | inr new ↦ subst (λ (r : ℕ). Has (known w) r location) new.2 ((round.served new.0 new.1).done location new.3)
    ]

    pub facts_demanded : (x : View) → IsInside (known w) (known x) → (row location : ℕ) → Contains news (row, location) → IsFact S (known x) row location
    facts_demanded x inside row location c = elim (taken.facts.sound row location c) [
      | inl none ↦ absurd (let l = none.1 in omega arith)
      | inr f ↦ fact_more S (members after) (known x) row location (λ r l h. inside r l (after_inside r l h)) f
    ]

    pub facts_known : (row location : ℕ) → Contains news (row, location) → IsRow S row × IsLocation S location
    facts_known row location c = elim (taken.facts.sound row location c) [
      | inl none ↦ absurd (let l = none.1 in omega arith)
      | inr f ↦ fact_range S valid (members after) (fact_known S after taken.fits) f.0 row location (All-contains (IsConstraintValid S) S.constraints f.0 valid.constraints f.1) f.2
    ]

    pub more_demanded : (x : View) → IsInside (known w) (known x) → AllDemanded S (known x) more
    more_demanded x inside = record {
      edges = λ a b c. elim (taken.edges.sound a b c) [
        | inl old ↦ edge_more S (known v) (known x) a b (λ r l h. inside r l (worked_known v w round.worked r l h)) (round.before.ready.demanded.edges a b old)
        | inr new ↦ edge_more S (members after) (known x) a b (λ r l h. inside r l (after_inside r l h)) new
      ];
      rows = λ a b c. elim (taken.edges.sound a b c) [
        | inl old ↦ round.before.ready.demanded.rows a b old
        | inr new ↦ edge_in_rows S (members after) a b valid (fact_known S after taken.fits) new
      ];
    }

    pub first_carried : (x : View) (first : ℕ) → first ≡ length book → Extends book more → IsInside (known w) (known x) → AreCarried (take first more) (members after) (known x)
    first_carried x first e kept inside a b location c h =
        let whole : take first more ≡ book = ap (λ (n : ℕ). take n more) e ∙ ap (take (length book)) kept.1 ∙ take-append_seam book kept.0 in
        let edge : Contains book (a, b) = subst (λ (xs : List (ℕ × ℕ)). Contains xs (a, b)) whole c in
        elim ((taken.has a location).0 h) [
          | inl old ↦ inside b location (worked_known v w round.worked b location (round.before.ready.carried a b location edge old))
          | inr new ↦ inside b location ((round.served new.0 new.1).targets b location (subst (λ (r : ℕ). Contains book (r, b)) (sym new.2) edge) new.3)
        ]

    pub settled_again : (x y : View) → IsInside (known w) (known x) → IsInside (known x) (known y) → IsSound y
        → ((row location : ℕ) → Contains news (row, location) → Has (known x) row location) → AreCarried more (members after) (known y) → IsSettled S y more after
    settled_again x y to_x to_y sound added carried = record {
      ready = record {
        demanded = more_demanded y (λ r l h. to_y r l (to_x r l h));
        fits = taken.fits;
        own = λ r l h. to_y r l (to_x r l (after_inside r l h));
        carried = carried;
      };
      treated = record {
        edges = λ a b e. elim (taken.edges.whole a b e) [
          | inl old ↦ taken.edges.stays a b (round.before.treated.edges a b old)
          | inr new ↦ new
        ];
        facts = λ r l f. elim (taken.facts.whole r l f) [
          | inl old ↦ to_y r l (to_x r l (worked_known v w round.worked r l (round.before.treated.facts r l old)))
          | inr new ↦ to_y r l (added r l new)
        ];
      };
      sound = sound;
    }

-- where nothing is left, all that was seen is done
pub all_done : (v : View) (done : Rows) → IsRest v done [] → IsInside (known v) (members done)
all_done v done rest row location h = elim (rest row location h) [ inl there ↦ there | inr none ↦ absurd (let l = none.1 in omega arith) ]

pub closed_when_done : (S : System) (v : View) (book : List (ℕ × ℕ)) (done : Rows) → IsSettled S v book done → IsRest v done [] → IsClosed S (known v)
closed_when_done S v book done settled rest =
    let all = all_done v done rest in
    λ constraint listed. record {
      edges = λ a b d location h. settled.ready.carried a b location (settled.treated.edges a b (constraint, listed, more_edge S (known v) (members done) all constraint a b d)) (all a location h);
      facts = λ row location d. settled.treated.facts row location (constraint, listed, more_fact S (known v) (members done) all constraint row location d);
    }

pub least_when_done : (S : System) (v : View) (book : List (ℕ × ℕ)) (done : Rows) → v.system ≡ S → IsSettled S v book done → IsRest v done [] → IsLeast S (known v)
least_when_done S v book done e settled rest = record {
  closed = closed_when_done S v book done settled rest;
  below = λ G closed. settled.sound G (subst (λ (T : System). IsClosed T G) (sym e) closed);
}

-- the rules of empty rows: a Copy demands its edge, and an Address its fact
empty_edge : (S : System) (F : Family) (constraint : Constraint) (a b : ℕ) → ((row location : ℕ) → Has F row location → ⊥) → DemandsEdge S F constraint a b → constraint ≡ Copy a b
empty_edge S F (Address to what) a b none d = absurd d
empty_edge S F (Copy from to) a b none d = λ i. Copy (sym d.0 i) (sym d.1 i)
empty_edge S F (Load p t y s) a b none d = absurd (none p d.0 d.1)
empty_edge S F (Store p f y s) a b none d = absurd (none p d.0 d.1)
empty_edge S F (Field f t y m) a b none d = absurd d
empty_edge S F (Contents t f) a b none d = absurd (none t d.0 d.2)
empty_edge S F (Call number) a b none d = absurd (none (d.0).callee (d.2).location (d.4).reached)

empty_fact : (S : System) (F : Family) (constraint : Constraint) (row location : ℕ) → ((row location : ℕ) → Has F row location → ⊥) → DemandsFact S F constraint row location → constraint ≡ Address row location
empty_fact S F (Address to what) row location none d = λ i. Address (sym d.0 i) (sym d.1 i)
empty_fact S F (Copy from to) row location none d = absurd d
empty_fact S F (Load p t y s) row location none d = absurd d
empty_fact S F (Store p f y s) row location none d = absurd d
empty_fact S F (Field f t y m) row location none d = absurd (none f d.0 d.1)
empty_fact S F (Contents t f) row location none d = absurd d
empty_fact S F (Call number) row location none d = absurd (none (d.0).callee (d.2).location (d.4).reached)

pub begun : (S : System) (y : View) (book : List (ℕ × ℕ)) (done : Rows) → IsValid S → ((a b : ℕ) → (Contains book (a, b) ↔ (Contains {X = ℕ × ℕ} [] (a, b) ⊎ Contains S.constraints (Copy a b))))
    → Fits S done → ((row location : ℕ) → Has (members done) row location → ⊥)
    → ((row location : ℕ) → Contains S.constraints (Address row location) → Has (known y) row location) → IsSound y → IsSettled S y book done
begun S y book done valid copies fits none facts sound = record {
  ready = record {
    demanded = record {
      edges = λ a b c. elim ((copies a b).0 c) [ inl no_edge ↦ absurd (let l = no_edge.1 in omega arith) | inr listed ↦ (Copy a b, listed, (refl, refl)) ];
      rows = λ a b c. elim ((copies a b).0 c) [ inl no_edge ↦ absurd (let l = no_edge.1 in omega arith) | inr listed ↦ All-contains (IsConstraintValid S) S.constraints (Copy a b) valid.constraints listed ];
    };
    fits = fits;
    own = λ row location h. absurd (none row location h);
    carried = λ a b location c h. absurd (none a location h);
  };
  treated = record {
    edges = λ a b e. (copies a b).1 (inr (subst (Contains S.constraints) (empty_edge S (members done) e.0 a b none e.2) e.1));
    facts = λ row location f. facts row location (subst (Contains S.constraints) (empty_fact S (members done) f.0 row location none f.2) f.1);
  };
  sound = sound;
}

-- the table was closed, and read so
pub closing : (u x y : View) (told : Bool) → x ≡ shutting u → y ≡ reading x (cond told 1 0) → told ≡ true → y ≡ reading (shutting u) 1
closing u x y told e f t = f ∙ ap (λ (v : View). reading v (cond told 1 0)) e ∙ ap (λ (b : Bool). reading (shutting u) (cond b 1 0)) t

pub has_closed : (u : View) → HasClosed u (reading (shutting u) 1)
has_closed u = record { system = refl; ors = (omega arith); shuts = refl; reads = refl; last = refl; knows = refl; part = refl; seen = λ word k h. h }
