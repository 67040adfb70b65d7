-- The text of a run is told of the states of that run.
use Rattle.std.proofs.Common.{arith, ◌≡◌, ◌∙◌, ℕ, ℤ, zero, suc, ◌<◌, Bool, true, false, List, ◌++◌, refl, sym, ap, append_assoc}
use Rattle.core_tree.specs.declared.node.Program.{Program}
use Rattle.ref_cells.specs.declared.cells.Reason.{Reason}
use Rattle.ref_state.specs.declared.state.State.{State}
use Rattle.ref_calls.specs.Outcomes.{Outcome, Goes, Ends, Stops}
use Rattle.ref_machine.specs.Types.{running}
use Rattle.ref_machine.specs.Step.{chooses}
use Rattle.ref_machine.specs.Run.{start, run, run_from, goes_on, step_with, words_after}
use Rattle.run_text.specs.Lines.{went_line}
use Rattle.run_text.specs.RunText.{Told, before, told_by, told_from, run_told}
use Rattle.run_text.specs.Joined.{left_by, words_from, step_behind, run_step, noted_in, texts_to, HasEnded, all_went, at_end, at_stop, IsTold, SomeStops, IsRunTold}

texts_same : (f g : ℕ → List ℕ) (n : ℕ) → ((k : ℕ) → f k ≡ g k) → texts_to f n ≡ texts_to g n
texts_same f g zero h = refl
texts_same f g (suc n) h =
    ap (λ (t : List ℕ). t ++ texts_to (λ k. f (suc k)) n) (h 0)
    ∙ ap (λ (t : List ℕ). g 0 ++ t) (texts_same (λ k. f (suc k)) (λ k. g (suc k)) n (λ k. h (suc k)))

-- a step that went
module _ (p : Program) (state : State) (words : List ℕ) (next : State) (e : step_with (running p) state words ≡ Goes next) where
  abbrev rest : List ℕ
  rest = words_after (chooses (running p) state) words

  run_on : (k : ℕ) → run_from (running p) (suc k) state words ≡ run_from (running p) k next rest
  run_on k = ap (goes_on (run_from (running p) k) state rest) e

  words_on : (k : ℕ) → words_from p (suc k) state words ≡ words_from p k next rest
  words_on k = ap (left_by (words_from p k) words rest) e

  pub behind_on : (k : ℕ) → step_behind p (suc k) state words ≡ step_behind p k next rest
  behind_on k =
      ap (λ (s : State). step_with (running p) s (words_from p (suc k) state words)) (run_on k)
      ∙ ap (step_with (running p) (run_from (running p) k next rest)) (words_on k)

  module _ (steps n : ℕ) (told : Told) (h : IsTold p steps n (λ k. run_from (running p) k next rest) (λ k. step_behind p k next rest) told) where
    went : (k : ℕ) → k < suc h.count → step_behind p k state words ≡ Goes (run_from (running p) (suc k) state words)
    went zero less = e ∙ ap Goes (sym (run_on 0))
    went (suc k) less = behind_on k ∙ (h.went k (omega arith) ∙ ap Goes (sym (run_on (suc k))))

    ended : (step : Outcome) → step_behind p (suc h.count) state words ≡ step → HasEnded p steps n h.count step told.stopped h.last
        → HasEnded p steps (suc n) (suc h.count) (step_behind p (suc h.count) state words) told.stopped h.last
    ended step same (all_went count stopped last) = all_went (ap suc count) stopped last
    ended step same (at_end status less is stopped last) = at_end status (omega arith) (same ∙ is) stopped last
    ended step same (at_stop reason node less is stopped last) = at_stop reason node (omega arith) (same ∙ is) stopped last

    abbrev later : List ℕ
    later = texts_to (λ k. noted_in p (run_from (running p) (suc k) next rest)) h.count

    text : noted_in p next ++ told.text ≡ (noted_in p (run_from (running p) 1 state words) ++ texts_to (λ k. noted_in p (run_from (running p) (suc (suc k)) state words)) h.count) ++ h.last
    text =
        ap (λ (t : List ℕ). noted_in p next ++ t) h.text
        ∙ (sym (append_assoc (noted_in p next) later h.last)
        ∙ (ap (λ (t : List ℕ). (t ++ later) ++ h.last) (sym (ap (noted_in p) (run_on 0)))
        ∙ ap (λ (t : List ℕ). (noted_in p (run_from (running p) 1 state words) ++ t) ++ h.last)
        (texts_same (λ k. noted_in p (run_from (running p) (suc k) next rest)) (λ k. noted_in p (run_from (running p) (suc (suc k)) state words)) h.count
        (λ k. ap (noted_in p) (sym (run_on (suc k)))))))

    pub told_on : IsTold p steps (suc n) (λ k. run_from (running p) k state words) (λ k. step_behind p k state words) (before (noted_in p next) told)
    told_on = record {
      count = suc h.count;
      last = h.last;
      went = went;
      text = text;
      ended = ended (step_behind p h.count next rest) (behind_on h.count) h.ended;
    }

module _ (p : Program) (steps : ℕ) where
  abbrev Tells : ℕ → State → List ℕ → Told → Type 0
  Tells n state words told = IsTold p steps n (λ k. run_from (running p) k state words) (λ k. step_behind p k state words) told

  by_outcome : (n : ℕ) (state : State) (words : List ℕ)
      → ((next : State) → Tells n next (words_after (chooses (running p) state) words) (told_from p steps n next (words_after (chooses (running p) state) words)))
      → (o : Outcome) → step_with (running p) state words ≡ o
      → Tells (suc n) state words (told_by p (λ next. told_from p steps n next (words_after (chooses (running p) state) words)) o)
  by_outcome n state words more (Goes next) e =
      told_on p state words next e steps n (told_from p steps n next (words_after (chooses (running p) state) words)) (more next)
  by_outcome n state words more (Ends status) e = record {
    count = 0;
    last = _;
    went = λ k less. absurd (omega arith);
    text = refl;
    ended = at_end status (omega arith) e refl refl;
  }
  by_outcome n state words more (Stops reason node) e = record {
    count = 0;
    last = _;
    went = λ k less. absurd (omega arith);
    text = refl;
    ended = at_stop reason node (omega arith) e refl refl;
  }

  -- each text that is told from a state on is told of the states behind it
  pub told_of : (n : ℕ) (state : State) (words : List ℕ) → Tells n state words (told_from p steps n state words)
  unfolding told_from
  told_of zero state words = record {
    count = 0;
    last = went_line steps;
    went = λ k less. absurd (omega arith);
    text = refl;
    ended = all_went refl refl refl;
  }
  told_of (suc n) state words =
      by_outcome n state words (λ next. told_of n next (words_after (chooses (running p) state) words)) (step_with (running p) state words) refl

  -- where the program is at its end, each later step answers so
  stays : (k : ℕ) (state : State) (words : List ℕ) (status : ℤ) → step_with (running p) state words ≡ Ends status → step_behind p k state words ≡ Ends status
  stays zero state words status e = e
  stays (suc k) state words status e =
      ap (λ (s : State). step_with (running p) s (words_from p (suc k) state words))
      (ap (goes_on (run_from (running p) k) state (words_after (chooses (running p) state) words)) e)
      ∙ (ap (step_with (running p) state) (ap (left_by (words_from p k) words (words_after (chooses (running p) state) words)) e)
      ∙ e)

  module _ (reason : Reason) (node : ℕ) where
    stop_behind : (n : ℕ) (state : State) (words : List ℕ)
        → ((k : ℕ) (next : State) → k < n → step_behind p k next (words_after (chooses (running p) state) words) ≡ Stops reason node
        → (told_from p steps n next (words_after (chooses (running p) state) words)).stopped ≡ true)
        → (k : ℕ) → k < suc n → step_behind p k state words ≡ Stops reason node
        → (o : Outcome) → step_with (running p) state words ≡ o
        → (told_by p (λ next. told_from p steps n next (words_after (chooses (running p) state) words)) o).stopped ≡ true
    stop_behind n state words more zero less h (Goes next) e = let wrong : Goes next ≡ Stops reason node = sym e ∙ h in cc
    stop_behind n state words more (suc k) less h (Goes next) e = more k next (omega arith) (sym (behind_on p state words next e k) ∙ h)
    stop_behind n state words more k less h (Ends status) e = let wrong : Ends status ≡ Stops reason node = sym (stays k state words status e) ∙ h in cc
    stop_behind n state words more k less h (Stops other m) e = refl

    pub stop_told : (n k : ℕ) (state : State) (words : List ℕ) → k < n → step_behind p k state words ≡ Stops reason node → (told_from p steps n state words).stopped ≡ true
    unfolding told_from
    stop_told zero k state words less h = absurd (omega arith)
    stop_told (suc n) k state words less h =
        stop_behind n state words (λ j next small is. stop_told n j next (words_after (chooses (running p) state) words) small is) k less h (step_with (running p) state words) refl

  stop_found : (n count : ℕ) (state : State) (words last : List ℕ) (stopped : Bool) → HasEnded p steps n count (step_behind p count state words) stopped last → stopped ≡ true
      → SomeStops n (λ k. step_behind p k state words)
  stop_found n count state words last stopped (all_went c still l) told = let wrong : false ≡ true = sym still ∙ told in cc
  stop_found n count state words last stopped (at_end status less is still l) told = let wrong : false ≡ true = sym still ∙ told in cc
  stop_found n count state words last stopped (at_stop reason node less is so l) told = record { at = count; reason = reason; node = node; within = less; stops = is }

-- The text of a run is the first line, what each step that went noted, in order, and how the run ended; it says of a stop exactly
-- where one of its steps isn't defined.
pub run_joins : (p : Program) (words : List ℕ) (steps : ℕ) → IsRunTold p words steps
unfolding run run_step run_told
run_joins p words steps =
    let h = told_of p steps steps (start p) words in
    record {
      rest = told_from p steps steps (start p) words;
      begins = refl;
      told = h;
      stopped = (λ told. stop_found p steps steps h.count (start p) words h.last (told_from p steps steps (start p) words).stopped h.ended told, λ some. stop_told p steps some.reason some.node steps some.at (start p) words some.within some.stops);
    }
