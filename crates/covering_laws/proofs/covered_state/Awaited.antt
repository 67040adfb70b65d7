-- Where the top item is no conversion with its operand, no object waits for its type.
use Rattle.std.proofs.Common.{◌≡◌, ◌∙◌, ℕ, List, [], ◌∷◌, Some, None, slice_get, refl, sym, ap}
use Rattle.c_types.specs.declared.term.TypeId.{TypeId}
use Rattle.obj_made.specs.declared.object.Content.{Content}
use Rattle.obj_made.specs.declared.object.Content.TheVariants.{Function, Blob, Scalar, Scalars, Typed, Elements}
use Rattle.ref_cells.specs.declared.cells.Value.{Value}
use Rattle.ref_cells.specs.declared.instance.Instance.{Instance}
use Rattle.ref_state.specs.declared.items.Item.{Item}
use Rattle.ref_state.specs.declared.items.Item.TheVariants.{Wait, Library}
use Rattle.ref_state.specs.declared.frames.Frame.{Frame}
use Rattle.ref_state.specs.declared.state.State.{State}
use Rattle.covering_laws.specs.covered_memory.Covered.{InstanceIn}
use Rattle.covering_laws.specs.covered_library.Calls.{Takes}
use Rattle.covering_laws.specs.covered_state.World.{World, sets_of}
use Rattle.covering_laws.specs.covered_state.Awaited.{IsBare, AwaitedIn}

top_one : {X : Type 0} → {x y : X} → {xs ys : List X} → ◌≡◌ {A = List X} (x ∷ xs) (y ∷ ys) → x ≡ y
top_one h = cc

wait_library : (n m k : ℕ) (left : List ℕ) (values : List (ℕ × Value)) (arguments : List Value) → Wait n left values ≡ Library m k arguments → ⊥
wait_library n m k left values arguments h = cc

-- A library call is on top: then what has no type takes any.
pub takes_any : (world : World) (state : State) → AwaitedIn world state → (f : Frame) (rest : List Frame) → state.frames ≡ f ∷ rest → (n k : ℕ) (arguments : List Value) (items : List Item)
    → f.items ≡ Library n k arguments ∷ items → (id : TypeId) (i : ℕ) (x : Instance) → slice_get state.memory i ≡ Some x → (h : InstanceIn (sets_of world) state.memory x) → x.ty ≡ None → Takes world.program.types id h.location.content
takes_any world state awaited f rest frames_are n k arguments items items_are id i x at h untyped = by h.location.content refl
  where
    by : (content : Content) → h.location.content ≡ content → Takes world.program.types id content
    by (Elements other) is =
        let bare : IsBare world x = record { untyped = untyped; first = h.first; location = h.location; first_is = h.first_is; location_is = h.location_is; id = other; content_is = is } in
        let a = awaited.each i x at bare in
        let same : a.top ≡ f = top_one (sym a.frames_are ∙ frames_are) in
        absurd (wait_library a.convert n k [] _ arguments (top_one (sym a.items_are ∙ (ap (λ (g : Frame). g.items) same ∙ items_are))))
    by Function is = tt
    by Blob is = tt
    by (Scalar number) is = tt
    by (Scalars number) is = tt
    by (Typed other) is = tt
