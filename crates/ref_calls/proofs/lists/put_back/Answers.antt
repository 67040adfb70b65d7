use Rattle.std.proofs.Common.{arith, ◌≡◌, ◌∙◌, ℕ, List, [], ◌∷◌, length, Result, Ok, refl, sym, ap}
use Rattle.c_types.specs.Trees.{Ctype}
use Rattle.c_types.specs.Table.{Table, type_of}
use Rattle.ref_cells.specs.declared.cells.MemFault.{MemFault}
use Rattle.ref_cells.specs.declared.cells.MemFault.TheVariants.{Stop, OutOfMemory}
use Rattle.ref_cells.specs.declared.cells.Reason.{Reason}
use Rattle.ref_cells.specs.declared.instance.Instance.{Instance}
use Rattle.ref_cells.specs.Answers.{Fails}
use Rattle.ref_mem.specs.Writes.{write}
use Rattle.ref_elements.specs.Runs.{◌>>=◌}
use Rattle.ref_elements.specs.Outcomes.{stores_and_gives}
use Rattle.ref_state.specs.declared.frames.Frame.{Frame}
use Rattle.ref_state.specs.declared.notes.Notes.{Notes}
use Rattle.ref_state.specs.declared.state.State.{State}
use Rattle.ref_state.specs.Items.{opened, settled, below_filled, below_shut}
use Rattle.ref_values.specs.Memory.{stores_at}
use Rattle.ref_frames.specs.OnTop.{only}
use Rattle.ref_frames.specs.Tops.{items_at}
use Rattle.ref_frames.proofs.OpenedItems.{done_frames, shut_frames}
use Rattle.ref_calls.specs.declared.lists.Taken.{Taken}
use Rattle.ref_calls.specs.Lists.{put_back, settled_by}
use Rattle.ref_calls.proofs.PendingSteps.{count_same}
use Rattle.ref_calls.proofs.lists.put_back.Goals as goal

module _ (table : Table) (st : State) (f : Frame) (rest : List Frame) (n : ℕ) (t : Ctype) (next : Taken) where
  -- the row, by what the write gives
  abbrev by : Result (List Instance) Reason → Result State Reason
  by r = settled_by st f rest n (r >>= λ after. stores_and_gives after next.value (stores_at next.place next.list.cells))

  is_put : (after : List Instance) (frames : List Frame) (notes : Notes) → write table st.memory next.place t next.list ≡ Ok after
      → frames ≡ record f { items = settled n next.value f.items } ∷ rest → notes ≡ only (stores_at next.place next.list.cells)
      → settled_by st f rest n (put_back table st.memory t next) ≡ Ok (record st { memory = after; frames = frames; notes = notes })
  is_put after frames notes h made noted =
      ap by h
      ∙ (ap (λ (fs : List Frame). let r : Result State Reason = Ok (record st { memory = after; frames = fs; notes = only (stores_at next.place next.list.cells) }) in r)
      (sym made)
      ∙ ap (λ (m : Notes). let r : Result State Reason = Ok (record st { memory = after; frames = frames; notes = m }) in r) (sym noted))

  put_fails : (e : MemFault) → Fails e (write table st.memory next.place t next.list) → Fails e (settled_by st f rest n (put_back table st.memory t next))
  put_fails OutOfMemory h = tt
  put_fails (Stop reason) h = ap by h

shut_all : (n : ℕ) (frames : List Frame) → items_at below_shut 0 (items_at (opened n) 0 frames) ≡ frames
shut_all n [] = refl
shut_all n (f ∷ rest) = shut_frames n f rest

pub fill-requires : goal.fill-requires
fill-requires c =
    omega (arith, ap length c.in_ok-open.ensures.ok, count_same (opened c.args.n) c.args.state.now.frames, c.requires.frames)

pub shut-requires : goal.shut-requires
shut-requires c =
    omega (arith, ap length c.in_ok-open.ensures.ok, count_same (opened c.args.n) c.args.state.now.frames, c.requires.frames)

pub returns-in-Ok-clause-row : goal.returns-in-Ok-clause-row
returns-in-Ok-clause-row c =
    λ f rest e.
    let n = c.args.n in
    let next = c.args.next in
    let table = c.args.running.now.trees.types.now in
    let made : c.fill.new.frames ≡ record f { items = settled n next.value f.items } ∷ rest =
    c.fill.ensures
    ∙ (ap (items_at (below_filled next.value) 0) (c.in_ok-open.ensures.ok ∙ ap (items_at (opened n) 0) e)
    ∙ done_frames n next.value f rest) in
    let noted : c.of.result ≡ only (stores_at next.place next.list.cells) = c.of.ensures ∙ ap only c.in_ok-stores.ensures in
    is_put table c.args.state.now f rest n (type_of table c.args.from.0) next c.write.new.self c.fill.new.frames c.of.result c.in-Ok.ensures.value made noted

pub returns-clause-row : goal.returns-clause-row
returns-clause-row c =
    λ f rest e.
    let table = c.args.running.now.trees.types.now in
    put_fails table c.args.state.now f rest c.args.n (type_of table c.args.from.0) c.args.next c.in-Err.fault c.in-Err.ensures.value

pub returns-clause-err : goal.returns-clause-err
returns-clause-err c =
    let st = c.args.state.now in
    let n = c.args.n in
    let same : c.shut.new.frames ≡ st.frames =
    c.shut.ensures ∙ (ap (items_at below_shut 0) c.in_ok-open.ensures.ok ∙ shut_all n st.frames) in
    ap (λ (m : List Instance). record st { memory = m; frames = c.shut.new.frames }) c.in-Err.ensures.err
    ∙ ap (λ (fs : List Frame). record st { frames = fs }) same
