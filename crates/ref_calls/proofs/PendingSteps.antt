-- How a pending call goes on, by what the code has made of the state.
use Rattle.std.proofs.Common.{◌≡◌, ℕ, ℤ, Bool, List, [], ◌∷◌, ◌++◌, length, Some, Result, Ok, Err, refl, ap, sym, ◌∙◌}
use Rattle.c_types.specs.declared.key.ObjectKey.{ObjectKey}
use Rattle.std.specs.Result.{OnErr}
use Rattle.ref_cells.specs.declared.cells.Reason.{Reason}
use Rattle.ref_cells.specs.declared.cells.MemFault.{MemFault}
use Rattle.ref_cells.specs.declared.cells.MemFault.TheVariants.{Stop, OutOfMemory}
use Rattle.ref_cells.specs.Answers.{Fails}
use Rattle.ref_cells.specs.declared.cells.Cell.{Cell}
use Rattle.ref_cells.specs.declared.cells.Value.{Value}
use Rattle.ref_cells.specs.declared.instance.Instance.{Instance}
use Rattle.ref_elements.specs.declared.outcome.Next.TheVariants.{Done, Again, Calls, Keeps, Ends}
use Rattle.ref_elements.specs.Outcomes.{Effected}
use Rattle.ref_elements.specs.Runs.{◌>>=◌}
use Rattle.ref_state.specs.declared.items.Item.{Item}
use Rattle.ref_state.specs.declared.frames.Frame.{Frame}
use Rattle.ref_state.specs.declared.notes.Notes.{Notes}
use Rattle.ref_state.specs.declared.state.State.{State}
use Rattle.ref_state.specs.Items.{opened, below_filled, below_shut}
use Rattle.ref_frames.specs.Running.{Running}
use Rattle.ref_frames.specs.Frames.{all_ended, kept_after, finished}
use Rattle.ref_frames.specs.OnTop.{only}
use Rattle.ref_frames.specs.Tops.{items_at}
use Rattle.ref_frames.proofs.OpenedItems.{done_frames, shut_frames}
use Rattle.ref_calls.specs.Library.{performed, comparison_of, back_by, kept_of, goes_by, library_row}

module _ (w : Running) (st : State) (f : Frame) (rest : List Frame) (n k : ℕ) (v : Value) (stores : List (Cell × Cell))
    (at : st.frames ≡ items_at (opened n) 0 (f ∷ rest)) where
  -- the state before the place was opened
  abbrev pub closed : State
  closed = record st { frames = f ∷ rest }

  pub shut_state : record st { frames = items_at below_shut 0 st.frames } ≡ closed
  shut_state = ap (λ (fs : List Frame). record st { frames = fs }) (ap (items_at below_shut 0) at ∙ shut_frames n f rest)

  pub is_given : (new : State) (notes : Notes) → new ≡ record st { frames = items_at (below_filled v) 0 st.frames } → notes ≡ only stores
      → goes_by w closed f rest n k v stores Done ≡ Ok (record new { notes = notes })
  is_given new notes made noted =
      ap (λ (fs : List Frame). let r : Result State Reason = Ok (record st { frames = fs; notes = only stores }) in r)
      (sym (ap (items_at (below_filled v) 0) at ∙ done_frames n v f rest))
      ∙ (ap (λ (s : State). let r : Result State Reason = Ok (record s { notes = only stores }) in r) (sym made)
      ∙ ap (λ (m : Notes). let r : Result State Reason = Ok (record new { notes = m }) in r) (sym noted))

  pub calls_one : (callee : Cell) (arguments : List Value) (key : ObjectKey) (new : State) → comparison_of w.trees callee ≡ Ok key
      → new ≡ record st { frames = items_at below_shut 0 st.frames }
      → goes_by w closed f rest n k v stores (Calls callee arguments) ≡ back_by w new f rest n k arguments key
  calls_one callee arguments key new h made =
      ap (λ (r : Result ObjectKey Reason). r >>= λ key. back_by w closed f rest n k arguments key) h
      ∙ ap (λ (s : State). back_by w s f rest n k arguments key) (sym (made ∙ shut_state))

  pub is_kept : (cell : Cell) (new : State) (notes : Notes)
      → new ≡ record st { kept = st.kept ++ kept_of cell n; frames = items_at (below_filled v) 0 st.frames } → notes ≡ only stores
      → goes_by w closed f rest n k v stores (Keeps cell) ≡ Ok (record new { notes = notes })
  is_kept cell new notes made noted =
      ap (λ (fs : List Frame). let r : Result State Reason = Ok (record st { kept = st.kept ++ kept_of cell n; frames = fs; notes = only stores }) in r)
      (sym (ap (items_at (below_filled v) 0) at ∙ done_frames n v f rest))
      ∙ (ap (λ (s : State). let r : Result State Reason = Ok (record s { notes = only stores }) in r) (sym made)
      ∙ ap (λ (m : Notes). let r : Result State Reason = Ok (record new { notes = m }) in r) (sym noted))

module _ (w : Running) (st : State) (f : Frame) (rest : List Frame) (n k : ℕ) (arguments : List Value) (word : ℕ) where
  pub row_stops : (reason : Reason) → performed w st.memory n k arguments word ≡ Err reason → library_row w st f rest n k arguments word ≡ Err reason
  unfolding library_row
  row_stops reason h =
      ap (λ (r : Result Effected Reason). r >>= λ e. goes_by w (record st { memory = e.memory }) f rest n k e.outcome.value e.outcome.stores e.outcome.next) h

  pub row_goes : (e : Effected) → performed w st.memory n k arguments word ≡ Ok e
      → library_row w st f rest n k arguments word ≡ goes_by w (record st { memory = e.memory }) f rest n k e.outcome.value e.outcome.stores e.outcome.next
  unfolding library_row
  row_goes e h =
      ap (λ (r : Result Effected Reason). r >>= λ e. goes_by w (record st { memory = e.memory }) f rest n k e.outcome.value e.outcome.stores e.outcome.next) h

pub count_same : (change : List Item → List Item) (frames : List Frame) → length (items_at change 0 frames) ≡ length frames
count_same change [] = refl
count_same change (f ∷ rest) = refl

pub both_err : {A E : Type 0} {P Q R : Type 0} (r : Result A E) → (P → Q → R) → OnErr r P → OnErr r Q → OnErr r R
both_err (Ok x) f p q = tt
both_err (Err e) f p q = f p q

pub row_fails : (w : Running) (st : State) (f : Frame) (rest : List Frame) (n k : ℕ) (arguments : List Value) (word : ℕ) (e : MemFault)
    → Fails e (performed w st.memory n k arguments word) → Fails e (library_row w st f rest n k arguments word)
row_fails w st f rest n k arguments word OutOfMemory h = tt
row_fails w st f rest n k arguments word (Stop reason) h = row_stops w st f rest n k arguments word reason h
