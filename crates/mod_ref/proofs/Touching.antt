-- What the functions of a program touch, from the rows that were made.
use Rattle.std.proofs.Common.{◌≡◌, ◌↔◌, ℕ, zero, suc, ◌+◌, ◌*◌, ◌/◌, ◌^◌, ◌<◌, ◌≤◌, ◌⊎◌, ◌&&◌, Bool, true, false, cond, IsTrue, List, [], ◌∷◌, length, get_or, map, Option, Some, None, slice_get, Contains, refl, sym, ◌∙◌, ap, subst, inl, inr, arith}
use Rattle.std.specs.List.{range_with_len}
use Rattle.std.specs.Prelude.{nat_lt}
use Rattle.std.proofs.lemmas.Bool.{and_parts, and_from, lt-ltb, ltb-true, true≢false, false≢true}
use Rattle.std.proofs.lemmas.Option.{none-some, same_Some, slice_get_within, slice_get_cases}
use Rattle.std.proofs.lemmas.List.Elements.{Contains-get_or}
use Rattle.std.proofs.lemmas.List.FromFn.{length-map-range_with_len}
use Rattle.c_types.specs.declared.key.ObjectKey.{ObjectKey}
use Rattle.core_tree.specs.declared.node.Program.{Program}
use Rattle.core_tree.specs.Typed.{trees_in}
use Rattle.sol_model.specs.declared.system.System.{System}
use Rattle.sol_model.specs.declared.system.LocationFact.{LocationFact}
use Rattle.sol_model.specs.declared.system.CallSite.{CallSite}
use Rattle.sol_model.specs.declared.rows.Rows.{Rows}
use Rattle.sol_model.specs.Families.{Family, Has, IsContained, IsInside, members}
use Rattle.sol_model.specs.Places.{node_from, sub_of, nodes_of}
use Rattle.sol_model.specs.Systems.{IsValid, IsCallValid, IsLocation, Fits, location_count, width_of}
use Rattle.sol_model.specs.Targets.{IsGraphEdge}
use Rattle.sol_model.proofs.Members.{All-at, at_Contains}
use Rattle.call_graph.specs.Graph.{IsGraph}
use Rattle.obj_space.specs.declared.location.Location.{Location}
use Rattle.obj_space.specs.Found.{same_object}
use Rattle.obj_space.specs.View.{view_of, first_from}
use Rattle.c_types.specs.Table.{type_of}
use Rattle.row_numbers.specs.Numbers.{type_number}
use Rattle.row_numbers.specs.Around.{AreOwners}
use Rattle.row_numbers.specs.Setting.{Setting, row, list_row}
use Rattle.row_numbers.proofs.FrameLemmas.{node_within}
use Rattle.core_tree.specs.Range.{InRange}
use Rattle.normal_form.specs.Facts.{location_fact}
use Rattle.normal_form.specs.SystemOf.{SystemOf}
use Rattle.mod_ref.specs.declared.access.Access.{Access}
use Rattle.mod_ref.specs.Direct.{BodyTouches, CallsTouch, CallTouches, IsOfEntity, NodeTouches, Touches, accessed}
use Rattle.mod_ref.specs.Gains.{Gains, HasRowsFor}
use Rattle.mod_ref.specs.Places.{extent_by, extent_at, IsReached, IsReachedBy, IsUnder}
use Rattle.mod_ref.specs.Touch.{IsClosedTouch, IsLeastTouch, IsTouch}
use Rattle.mod_ref.specs.declared.ground.Ground.{Ground}
use Rattle.mod_ref.specs.Ground.{IsGround}
use Rattle.mod_ref.specs.Ways.{AreBelow, AreWays, HasRows, Keeps, KeepsKeyed, Spreads}

-- ---- locations in range
pub first_within : (n : ℕ) (space : List Location) (key : ObjectKey) (l : ℕ) → first_from n space key ≡ Some l → l < n + length space
first_within n [] key l h = absurd (none-some _ h)
first_within n (x ∷ rest) key l h = by (same_object x.key key) (first_within (n + 1) rest key l) h
  where
    by : (b : Bool) → (first_from (n + 1) rest key ≡ Some l → l < n + 1 + length rest) → cond b (Some n) (first_from (n + 1) rest key) ≡ Some l → l < n + suc (length rest)
    by true more e = let same : n ≡ l = same_Some _ _ e in omega arith
    by false more e = let lt = more e in omega arith

pub count_is : (p : Program) (space : List Location) (S : System) → SystemOf p (view_of space) S → length space ≡ location_count S
count_is p space S is = sym (ap length is.locations ∙ length-map-range_with_len (location_fact (trees_in p) (view_of space)) 0 (length space))

module _ (S : System) (valid : IsValid S) where
  under_by : (l node : ℕ) (o : Option LocationFact) → slice_get S.locations l ≡ o → l ≤ node → node < l + extent_by S o → IsLocation S node
  under_by l node None at le lt = absurd (omega arith)
  under_by l node (Some fact) at le lt = by fact.collapsed refl lt
    where
      known : l < location_count S
      known = slice_get_within S.locations l fact at

      by : (b : Bool) → fact.collapsed ≡ b → node < l + cond b 1 (nodes_of S fact.ty) → IsLocation S node
      by true c less = let k = known in let low = le in let up : node < l + 1 = less in omega arith
      by false c less = let w = (valid.locations l fact at).nodes c in let up : node < l + nodes_of S fact.ty = less in omega arith

  -- what lies under a location is one
  pub under_known : (l node : ℕ) → IsUnder S l node → IsLocation S node
  under_known l node h = under_by l node (slice_get S.locations l) refl h.0 h.1

  sub_by : (l ty sub node : ℕ) (o : Option LocationFact) → slice_get S.locations l ≡ o → sub < nodes_of S ty → node_from o l ty sub ≡ Some node → IsLocation S node
  sub_by l ty sub node None at lt is = absurd (none-some _ is)
  sub_by l ty sub node (Some fact) at lt is = by fact.collapsed refl is
    where
      known : l < location_count S
      known = slice_get_within S.locations l fact at

      by : (b : Bool) → fact.collapsed ≡ b → cond b (Some l) (cond (Rattle.std.specs.Prelude.nat_eq fact.ty ty) (Some (l + sub)) None) ≡ Some node → IsLocation S node
      by true c e = let same : l ≡ node = same_Some _ _ e in let k = known in omega arith
      by false c e = typed (Rattle.std.specs.Prelude.nat_eq fact.ty ty) refl e
        where
          typed : (t : Bool) → Rattle.std.specs.Prelude.nat_eq fact.ty ty ≡ t → cond t (Some (l + sub)) None ≡ Some node → IsLocation S node
          typed false t e = absurd (none-some _ e)
          typed true t e =
              let same : l + sub ≡ node = same_Some _ _ e in
              let one : fact.ty ≡ ty = Rattle.std.proofs.lemmas.Bool.eqb-true fact.ty ty t in
              let nodes : nodes_of S fact.ty ≡ nodes_of S ty = ap (nodes_of S) one in
              let w = (valid.locations l fact at).nodes c in
              omega arith

  pub reached_known : (ty : Option ℕ) (l node : ℕ) → IsReached S ty l node → IsLocation S node
  reached_known None l node h = under_known l node h
  reached_known (Some ty) l node h = sub_by l ty h.0 node (slice_get S.locations l) refl h.1 h.2

  module _ (w : Setting) (space : List Location) (view : w.space ≡ view_of space) (count : length space ≡ location_count S) (F : Family) (access : Access) where
    first_known : (key : ObjectKey) (l : ℕ) → w.space.first key ≡ Some l → IsLocation S l
    first_known key l h = let lt = first_within 0 space key l (subst (λ s. s.first key ≡ Some l) view h) in omega arith

    pub touched_known : ((r l : ℕ) → Has F r l → IsLocation S l) → (f location : ℕ) → Touches w S F access f location → IsLocation S location
    touched_known known f location h = elim h [
      | inl body ↦ elim (body.1).touches [
        | inl place ↦
            (let at = place.2 in
            let node = (body.1).node in
            reached_known (Some (type_number (accessed node.kind (type_of w.trees.types node.ty.0)))) at.0 location at.2)
        | inr more ↦ elim more [
          | inl filled ↦ (let of = filled.2 in under_known of.0 location of.2)
          | inr taken ↦ known (list_row w.trees w.space body.0) location taken.1
        ]
      ]
      | inr calls ↦
          (let t = calls.touches in
          elim t.3 [
            | inl argument ↦ (let at = argument.reached in reached_known None at.0 location at.2)
            | inr made ↦ elim made.1 [
              | inl fresh ↦ under_known fresh.0 location fresh.2
              | inr table ↦ first_known _ location table.1
            ]
          ])
    ]

-- ---- the least rows
module _ (w : Setting) (S : System) (F : Family) (access : Access) (edges : List (ℕ × ℕ)) (ways : List (ℕ × ℕ × ℕ)) (graph : IsGraph S F edges) (are : AreWays edges ways)
    (known : (f location : ℕ) → Touches w S F access f location → IsLocation S location)
    (empty bodies calls last : Rows) (nothing : (f l : ℕ) → Has (members empty) f l → ⊥) (rows : HasRowsFor S empty)
    (one : Gains empty bodies (BodyTouches w S F access)) (other : Gains bodies calls (CallsTouch w S F access)) (spreads : Spreads ways calls last) (closed : KeepsKeyed (members last) ways) where
  -- the rows before they spread have what functions touch themselves
  direct : (f l : ℕ) → Touches w S F access f l → Has (members calls) f l
  direct f l h = elim h [ inl body ↦ other.kept f l (one.added f l body) | inr call ↦ other.added f l call ]

  direct_only : (f l : ℕ) → Has (members calls) f l → Touches w S F access f l
  direct_only f l h = elim (other.nothing_else f l h) [
    | inl before ↦ elim (one.nothing_else f l before) [ inl none ↦ absurd (nothing f l none) | inr body ↦ inl body ]
    | inr call ↦ inr call
  ]

  keeps_edges : (G : Family) → IsClosedTouch (Touches w S F access) (IsGraphEdge S F) G → Keeps G edges
  keeps_edges G touch caller callee h = touch.called caller callee ((graph.edges caller callee).0 h)

  last_closed : IsClosedTouch (Touches w S F access) (IsGraphEdge S F) (members last)
  last_closed = record {
    direct = λ f l h. spreads.kept f l (direct f l h);
    called = λ caller callee edge. (are (members last)).1 closed caller callee ((graph.edges caller callee).1 edge);
  }

  -- the last rows without what is no location
  abbrev within : Family
  within = λ f l. members last f l && nat_lt l (location_count S)

  within_has : (f l : ℕ) → Has (members last) f l → IsLocation S l → Has within f l
  within_has f l h lt = and_from _ _ h (lt-ltb l (location_count S) lt)

  within_parts : (f l : ℕ) → Has within f l → Has (members last) f l × IsLocation S l
  within_parts f l h = let parts = and_parts _ _ h in (parts.0, ltb-true _ _ parts.1)

  last_known : (f l : ℕ) → Has (members last) f l → IsLocation S l
  last_known f l h = (within_parts f l (spreads.below within keeps inside f l h)).1
    where
      keeps : KeepsKeyed within ways
      keeps key caller callee listed l h = let p = within_parts callee l h in within_has caller l (closed key caller callee listed l p.0) p.1

      inside : IsInside (members calls) within
      inside f l h = within_has f l (spreads.kept f l h) (known f l (direct_only f l h))

  pub touch_is : IsTouch w S F access last
  touch_is = record {
    width = spreads.width ∙ (other.width ∙ (one.width ∙ rows.width));
    words = spreads.words ∙ (other.words ∙ (one.words ∙ rows.words));
    known = last_known;
    least = record {
      closed = last_closed;
      below = λ G touch. spreads.below G ((are G).0 (keeps_edges G touch)) (λ f l h. touch.direct f l (direct_only f l h));
    };
  }

-- ---- edges in range
edge_below : (S : System) (F : Family) (edges : List (ℕ × ℕ)) → IsValid S → IsGraph S F edges → (a b : ℕ) → Contains edges (a, b) → (a < length S.functions) × (b < length S.functions)
edge_below S F edges valid graph a b h = elim ((graph.edges a b).0 h) [
  | inl call ↦
      (let site : CallSite = call.1 in
      let ok : IsCallValid S site = All-at (IsCallValid S) S.calls call.0 site valid.calls call.2 in
      let target = call.4 in
      (subst (λ f. f < length S.functions) call.3 ok.caller, slice_get_within S.functions b target.1 (target.3).known))
  | inr back ↦ (slice_get_within S.functions a back.1 (back.6).known, slice_get_within S.functions b back.2 (back.9).known)
]

pub edges_below : (S : System) (F : Family) (edges : List (ℕ × ℕ)) → IsValid S → IsGraph S F edges → AreBelow (length S.functions) edges
edges_below S F edges valid graph k d lt = let edge = get_or edges k d in edge_below S F edges valid graph edge.0 edge.1 (Contains-get_or edges k d lt)

pub rows_counted : (S : System) (rows : Rows) (count : ℕ) → HasRowsFor S rows → count ≡ length S.functions → HasRows rows count
rows_counted S rows count has is = has.words ∙ (ap (λ n. n * width_of S) (sym is) ∙ ap (λ n. count * n) (sym has.width))

-- what a program's system has is what the walk reads
pub ground_is : (g : Ground) → InRange (trees_in g.program.now) → SystemOf g.program.now (view_of g.space.now) g.system.now → IsValid g.system.now → Fits g.system.now g.rows.now
    → AreOwners (trees_in g.program.now) g.owners.now
    → g.starts.now ≡ map (row (trees_in g.program.now) (view_of g.space.now)) (range_with_len 0 (length g.program.now.nodes.items))
    → g.program.now.types.tags + 8 < 2 ^ 32
    → IsGround g
ground_is g range is valid fits owners starts tags = record {
  range = range;
  valid = valid;
  fits = fits;
  count = count_is g.program.now g.space.now g.system.now is;
  owners = owners.each;
  starts = starts;
  within = λ n lt. let le = node_within (trees_in g.program.now) (view_of g.space.now) n in let rows = is.rows in omega arith;
  tags = tags;
}
