-- What the code decides of objects that wait for the type of a conversion is that they are awaited.
use Rattle.std.proofs.Common.{arith, ◌≡◌, ◌∙◌, ◌⊎◌, inl, inr, ℕ, zero, suc, ◌+◌, ◌-◌, ◌<◌, ◌≤◌, false, List, [], ◌∷◌, ◌++◌, Option, Some, None, All, get_or, length, reverse, take, slice_get, refl, sym, ap, subst}
use Rattle.std.proofs.lemmas.List.{length-append, length-reverse, reverse-append, reverse-reverse, get_or-reverse}
use Rattle.std.proofs.lemmas.Option.{slice_get_within, slice_get-get_or, get_or_from_slice_get}
use Rattle.c_types.specs.declared.key.ObjectKey.{ObjectKey}
use Rattle.c_types.specs.declared.key.ObjectKey.TheVariants.{Call as CallKey}
use Rattle.c_types.specs.declared.term.PathStep.TheVariants.{Index}
use Rattle.c_types.specs.declared.term.TypeId.{TypeId}
use Rattle.core_tree.specs.declared.node.Node.{Node}
use Rattle.core_tree.specs.declared.node.NodeKind.TheVariants.{Convert}
use Rattle.obj_made.specs.declared.object.Content.{Content}
use Rattle.obj_made.specs.declared.object.Content.TheVariants.{Function, Blob, Scalar, Scalars, Typed, Elements}
use Rattle.obj_space.specs.declared.location.Location.{Location}
use Rattle.obj_space.specs.View.{first_from}
use Rattle.ref_cells.specs.declared.cells.Cell.{Cell}
use Rattle.ref_cells.specs.declared.cells.Cell.TheVariants.{Pointer}
use Rattle.ref_cells.specs.declared.cells.Value.{Value}
use Rattle.ref_cells.specs.declared.instance.Instance.{Instance}
use Rattle.ref_cells.specs.Cells.{CellList}
use Rattle.ref_mem.specs.Reads.{one_cell}
use Rattle.ref_state.specs.declared.items.Item.{Item}
use Rattle.ref_state.specs.declared.items.Item.TheVariants.{Do, Wait, Library, Result}
use Rattle.ref_state.specs.declared.frames.Frame.{Frame}
use Rattle.ref_state.specs.declared.state.State.{State}
use Rattle.covering_laws.specs.covered_state.World.{World, trees_of}
use Rattle.covering_laws.specs.covered_state.Items.{Each}
use Rattle.covering_laws.specs.covered_state.Awaited.{IsApart, AreApart, ItemApart, IsBare, IsAwaited, AwaitedIn}
use Rattle.machine_covers.specs.Bare.{IsElements, HasElements, ElementsAt, BareBy, CellsApart, ValueApart, PairApart, ItemLeaves, ItemsLeave, FrameLeaves, InstanceLeaves, StartOf, ConversionOf, OperandBy, OperandsBy, ConvertsBy, ItemsAwait, TopAwaits, FramesAwait, AwaitedBy, AwaitedAll}
use Rattle.machine_covers.specs.Whole.{sight_in}
use Rattle.machine_covers.proofs.Official.{each_of, all_of}
use Rattle.row_covers.proofs.Decided.{all_each, each_all}

some_none : {X : Type 0} → {x : X} → ◌≡◌ {A = Option X} (Some x) None → ⊥
some_none h = cc

-- each element of a list turned round
pub all_turned : {X : Type 0} (P : X → Type 0) (xs : List X) → All P xs → All P (reverse xs)
all_turned P xs h k d lt =
    let long = length-reverse xs in
    subst P (sym (get_or-reverse xs k d (omega arith))) (h (length xs - 1 - k) d (omega arith))

pub all_back : {X : Type 0} (P : X → Type 0) (xs : List X) → All P (reverse xs) → All P xs
all_back P xs h = subst (All P) (reverse-reverse xs) (all_turned P (reverse xs) h)

-- what points to no instance of that number
apart_to : (i : ℕ) (cells : CellList) → CellsApart i cells → AreApart i cells
apart_to i cells h = all_each (λ path cell. IsApart i cell) cells h

apart_from : (i : ℕ) (cells : CellList) → AreApart i cells → CellsApart i cells
apart_from i cells h = each_all (λ path cell. IsApart i cell) cells h

item_to : (i : ℕ) (item : Item) → ItemLeaves i item → ItemApart i item
unfolding PairApart
item_to i (Do n) h = tt
item_to i (Wait n left values) h = each_of (λ (v : ℕ × Value). AreApart i v.1.cells) values (λ k d lt. apart_to i (get_or values k d).1.cells (h k d lt))
item_to i (Library n function arguments) h = each_of (λ (v : Value). AreApart i v.cells) arguments (λ k d lt. apart_to i (get_or arguments k d).cells (h k d lt))
item_to i (Result v) h = apart_to i v.cells h

item_from : (i : ℕ) (item : Item) → ItemApart i item → ItemLeaves i item
unfolding PairApart
item_from i (Do n) h = tt
item_from i (Wait n left values) h = λ k d lt. apart_from i (get_or values k d).1.cells (all_of (λ (v : ℕ × Value). AreApart i v.1.cells) values h k d lt)
item_from i (Library n function arguments) h = λ k d lt. apart_from i (get_or arguments k d).cells (all_of (λ (v : Value). AreApart i v.cells) arguments h k d lt)
item_from i (Result v) h = apart_from i v.cells h

items_to : (i : ℕ) (items : List Item) → ItemsLeave i items → Each (ItemApart i) items
items_to i items h = each_of (ItemApart i) items (λ k d lt. item_to i (get_or items k d) (h k d lt))

items_from : (i : ℕ) (items : List Item) → Each (ItemApart i) items → ItemsLeave i items
items_from i items h k d lt = item_from i (get_or items k d) (all_of (ItemApart i) items h k d lt)

-- the last of a list
last_at : (ys : List Frame) (top : Frame) → slice_get (ys ++ top ∷ []) (length ys) ≡ Some top
last_at [] top = refl
last_at (y ∷ ys) top = last_at ys top

before_last : (ys : List Frame) (top : Frame) → take (length ys) (ys ++ top ∷ []) ≡ ys
before_last [] top = refl
before_last (y ∷ ys) top = ap (λ (zs : List Frame). y ∷ zs) (before_last ys top)

record Turned (top : Frame) (rest : List Frame) : Type 0 where
  last : slice_get (reverse (top ∷ rest)) (length (reverse (top ∷ rest)) - 1) ≡ Some top
  others : take (length (reverse (top ∷ rest)) - 1) (reverse (top ∷ rest)) ≡ reverse rest

turned : (top : Frame) (rest : List Frame) → Turned top rest
turned top rest =
    let is : reverse (top ∷ rest) ≡ reverse rest ++ top ∷ [] = reverse-append (top ∷ []) rest in
    let long : length (reverse rest ++ top ∷ []) - 1 ≡ length (reverse rest) = (let l = length-append (reverse rest) (top ∷ []) in omega arith) in
    record {
      last = ap (λ (ys : List Frame). slice_get ys (length ys - 1)) is ∙ (ap (slice_get (reverse rest ++ top ∷ [])) long ∙ last_at (reverse rest) top);
      others = ap (λ (ys : List Frame). take (length ys - 1) ys) is ∙ (ap (λ (n : ℕ). take n (reverse rest ++ top ∷ [])) long ∙ before_last (reverse rest) top);
    }

-- an instance without a type, of an object of elements of one
elements_id : (content : Content) → IsElements content → (id : TypeId) × (content ≡ Elements id)
elements_id (Elements id) h = (id, refl)
elements_id content h = absurd h

module _ (world : World) (inst : Instance) where
  bare_from : IsBare world inst → BareBy (sight_in world) inst
  bare_from b =
      (b.untyped, subst (ElementsAt world.space) (sym b.first_is) (subst HasElements (sym b.location_is) (subst IsElements (sym b.content_is) tt)))

  bare_at : (l : Option ℕ) (x : Option Location) → inst.ty ≡ None → first_from 0 world.space inst.key ≡ l → ElementsAt world.space l → IsBare world inst
  bare_at None x e f h = absurd h
  bare_at (Some l) x e f h = by (slice_get world.space l) refl h
    where
      by : (x : Option Location) → slice_get world.space l ≡ x → HasElements x → IsBare world inst
      by None g k = absurd k
      by (Some x) g k =
          let c = elements_id x.content k in
          record { untyped = e; first = l; location = x; first_is = f; location_is = g; id = c.0; content_is = c.1 }

  bare_to : BareBy (sight_in world) inst → IsBare world inst
  bare_to h = bare_at (first_from 0 world.space inst.key) None h.0 refl h.1

  elements_or : (content : Content) → IsElements content ⊎ (IsElements content → ⊥)
  elements_or (Elements id) = inl tt
  elements_or Function = inr (λ h. h)
  elements_or Blob = inr (λ h. h)
  elements_or (Scalar n) = inr (λ h. h)
  elements_or (Scalars n) = inr (λ h. h)
  elements_or (Typed id) = inr (λ h. h)

  has_or : (x : Option Location) → HasElements x ⊎ (HasElements x → ⊥)
  has_or None = inr (λ h. h)
  has_or (Some x) = elements_or x.content

  at_or : (l : Option ℕ) → ElementsAt world.space l ⊎ (ElementsAt world.space l → ⊥)
  at_or None = inr (λ h. h)
  at_or (Some l) = has_or (slice_get world.space l)

  bare_or : BareBy (sight_in world) inst ⊎ (BareBy (sight_in world) inst → ⊥)
  bare_or = by inst.ty refl
    where
      by : (o : Option TypeId) → inst.ty ≡ o → BareBy (sight_in world) inst ⊎ (BareBy (sight_in world) inst → ⊥)
      by None e = elim (at_or (first_from 0 world.space inst.key)) [ inl h ↦ inl (e, h) | inr lacks ↦ inr (λ b. lacks b.1) ]
      by (Some id) e = inr (λ b. some_none (sym e ∙ b.0))

-- the pointer to the first element
start_one : (i : ℕ) (cells : CellList) → StartOf i cells → cells ≡ ([], Pointer i (Index 0 ∷ []) false) ∷ []
start_one i [] h = absurd h
start_one i (entry ∷ []) h = ap (λ (path : List _). (path, entry.1) ∷ []) h.0 ∙ ap (λ (cell : Cell). ([], cell) ∷ []) h.1
start_one i (entry ∷ other ∷ cells) h = absurd h

module _ (world : World) (i : ℕ) (key : ObjectKey) where
  abbrev start : Value
  start = one_cell (Pointer i (Index 0 ∷ []) false)

  record Tops (items : List Item) : Type 0 where
    convert : ℕ
    call : ℕ
    rest : List Item
    items_are : items ≡ Wait convert [] ((call, start) ∷ []) ∷ rest
    node : Node
    there : slice_get (trees_of world).nodes convert ≡ Some node
    kind : node.kind ≡ Convert
    child : node.children ≡ call ∷ []
    key_is : key ≡ CallKey call
    leaves : ItemsLeave i rest

  convert_of : (n call : ℕ) (left : List ℕ) (v : Value) (rest : List Item) (o : Option Node) → left ≡ [] → key ≡ CallKey call → StartOf i v.cells → slice_get (trees_of world).nodes n ≡ o → ConversionOf call o → ItemsLeave i rest
      → Tops (Wait n left ((call, v) ∷ []) ∷ rest)
  convert_of n call left v rest None empty key_is s e c l = absurd c
  convert_of n call left v rest (Some node) empty key_is s e c l =
      let value : v ≡ start = ap (λ (cells : CellList). let r : Value = record { cells = cells } in r) (start_one i v.cells s) in
      record {
        convert = n;
        call = call;
        rest = rest;
        items_are = ap (λ (xs : List ℕ). Wait n xs ((call, v) ∷ []) ∷ rest) empty ∙ ap (λ (x : Value). Wait n [] ((call, x) ∷ []) ∷ rest) value;
        node = node;
        there = e;
        kind = c.0;
        child = c.1;
        key_is = key_is;
        leaves = l;
      }

  tops_of : (n : ℕ) (left : List ℕ) (values : List (ℕ × Value)) (rest : List Item) → left ≡ [] → OperandsBy (sight_in world) i key n values → ItemsLeave i rest → Tops (Wait n left values ∷ rest)
  tops_of n left [] rest empty h l = absurd h
  tops_of n left ((call, v) ∷ []) rest empty (key_is, s, c) l = convert_of n call left v rest (slice_get (trees_of world).nodes n) empty key_is s refl c l
  tops_of n left (entry ∷ other ∷ values) rest empty h l = absurd h

  tops_to : (items : List Item) → ItemsAwait (sight_in world) i key items → Tops items
  unfolding ItemsAwait
  tops_to [] h = absurd h.0
  tops_to (Wait n left values ∷ rest) h = tops_of n left values rest h.0.0 h.0.1 h.1
  tops_to (Do n ∷ rest) h = absurd h.0
  tops_to (Library n function arguments ∷ rest) h = absurd h.0
  tops_to (Result v ∷ rest) h = absurd h.0

module _ (world : World) (i : ℕ) (inst : Instance) (memory : List Instance) where
  apart_all : All (λ other. InstanceLeaves i other) memory → (j : ℕ) (other : Instance) → slice_get memory j ≡ Some other → AreApart i other.cells
  apart_all h j other at =
      apart_to i other.cells (subst (λ (x : Instance). CellsApart i x.cells) (get_or_from_slice_get memory j other other at) (h j other (slice_get_within memory j other at)))

  awaited_to : (frames : List Frame) → FramesAwait (sight_in world) i inst.key (reverse frames) → All (λ other. InstanceLeaves i other) memory → IsAwaited world i inst memory frames
  awaited_to [] h m = absurd h.0
  awaited_to (top ∷ rest) h m =
      let t = turned top rest in
      let top_awaits = subst (λ (o : Option Frame). TopAwaits (sight_in world) i inst.key o) t.last h.0 in
      let others = subst (λ (fs : List Frame). All (λ f. FrameLeaves i f) fs) t.others h.1 in
      let w = tops_to world i inst.key top.items top_awaits in
      record {
        top = top;
        rest = rest;
        frames_are = refl;
        convert = w.convert;
        call = w.call;
        items = w.rest;
        items_are = w.items_are;
        node = w.node;
        there = w.there;
        kind = w.kind;
        child = w.child;
        key = w.key_is;
        others = items_to i w.rest w.leaves;
        below = each_of (λ (f : Frame). Each (ItemApart i) f.items) rest (λ k d lt. items_to i (get_or rest k d).items (all_back (λ f. FrameLeaves i f) rest others k d lt));
        apart = apart_all m;
      }

  awaited_from : (frames : List Frame) → IsAwaited world i inst memory frames → FramesAwait (sight_in world) i inst.key (reverse frames) × All (λ other. InstanceLeaves i other) memory
  unfolding ItemsAwait
  awaited_from frames a =
      let t = turned a.top a.rest in
      let conversion : ConversionOf a.call (slice_get (trees_of world).nodes a.convert) = subst (ConversionOf a.call) (sym a.there) (a.kind, a.child) in
      let leaves : ItemsLeave i a.items = items_from i a.items a.others in
      let top_awaits : ItemsAwait (sight_in world) i inst.key a.top.items =
      subst (ItemsAwait (sight_in world) i inst.key) (sym a.items_are) ((refl, (a.key, (refl, refl), conversion)), leaves) in
      let others : All (λ f. FrameLeaves i f) (reverse a.rest) =
      all_turned (λ f. FrameLeaves i f) a.rest (λ k d lt. items_from i (get_or a.rest k d).items (all_of (λ (f : Frame). Each (ItemApart i) f.items) a.rest a.below k d lt)) in (
        subst (λ (fs : List Frame). FramesAwait (sight_in world) i inst.key (reverse fs)) (sym a.frames_are) (
          subst (λ (o : Option Frame). TopAwaits (sight_in world) i inst.key o) (sym t.last) top_awaits,
          subst (λ (fs : List Frame). All (λ f. FrameLeaves i f) fs) (sym t.others) others,
        ),
        λ k d lt. apart_from i (get_or memory k d).cells (a.apart k (get_or memory k d) (slice_get-get_or memory k d lt)),
      )

module _ (world : World) (state : State) where
  pub waiting_to : AwaitedAll (sight_in world) state.memory (reverse state.frames) → AwaitedIn world state
  unfolding AwaitedAll
  waiting_to h = record { each = λ i inst at bare. by i inst bare (h i inst at) }
    where
      by : (i : ℕ) (inst : Instance) → IsBare world inst → AwaitedBy (sight_in world) state.memory (reverse state.frames) i inst → IsAwaited world i inst state.memory state.frames
      by i inst bare (inl lacks) = absurd (lacks (bare_from world inst bare))
      by i inst bare (inr w) = awaited_to world i inst state.memory state.frames w.0 w.1

  pub waiting_from : AwaitedIn world state → AwaitedAll (sight_in world) state.memory (reverse state.frames)
  unfolding AwaitedAll
  waiting_from h i inst at = elim (bare_or world inst) [
    | inl bare ↦ inr (awaited_from world i inst state.memory state.frames (h.each i inst at (bare_to world inst bare)))
    | inr lacks ↦ inl lacks
  ]
