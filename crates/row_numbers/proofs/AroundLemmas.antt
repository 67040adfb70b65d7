-- Owners that go down to children.
use Rattle.std.proofs.Common.{arith, ◌≡◌, ℕ, zero, suc, ◌+◌, ◌<◌, ◌≤◌, ◌⊎◌, inl, inr, List, [], ◌∷◌, ◌++◌, true, false, Option, Some, None, length, length-take, take, get_or, set, map, refl, ap, sym, ◌∙◌, eqb}
use Rattle.std.specs.Option.{IfSome}
use Rattle.std.specs.List.{slice_get, range_with_len, All}
use Rattle.std.proofs.lemmas.Option.{slice_get-get_or, get_or_from_slice_get}
use Rattle.std.proofs.lemmas.List.FromFn.{length-map-range_with_len}
use Rattle.std.proofs.Math.ListN.{length-set}
use Rattle.std.proofs.lemmas.Bool.Decides.{eqb_tells}
use Rattle.core_tree.specs.declared.node.Node.{Node}
use Rattle.core_tree.specs.declared.node.Entity.{Entity}
use Rattle.std.proofs.lemmas.List.{take_more}
use Rattle.core_tree.specs.declared.node.Storage.{Storage}
use Rattle.core_tree.specs.declared.node.Storage.TheVariants.{FunctionBody}
use Rattle.core_tree.specs.Typed.{CoreTrees}
use Rattle.core_tree.specs.Valid.{UnderBody, IsAround}
use Rattle.core_tree.specs.Range.{InRange, Has, IsChild, Under, here as at_top, below, child_in}
use Rattle.row_numbers.specs.Around.{PassesDown, IsBegun, PassesTo, Comes, AreOwners, IsOwner, own, from_above, nobody, body_by, body_of}
use Rattle.row_numbers.proofs.SliceLemmas.{get_set_same, get_set_other, get_push_last, get_push_before, get_push_cases, within, has_push, has_before}

some_is : (f g : ℕ) → Some (Some f) ≡ Some (Some g) → f ≡ g
some_is f g h = cc

-- what one write of an owner leaves at a node
data AtSet (os : List (Option ℕ)) (c o n : ℕ) : Type 0 where
  here : n ≡ c → slice_get (set os c (Some o)) n ≡ Some (Some o) → AtSet os c o n
  there : (c ≡ n → ⊥) → slice_get (set os c (Some o)) n ≡ slice_get os n → AtSet os c o n

at_set : (os : List (Option ℕ)) (c o n : ℕ) → c < length os → AtSet os c o n
at_set os c o n lt = by (eqb_tells c n) where
  by : ((eqb c n ≡ true) × (c ≡ n)) ⊎ ((eqb c n ≡ false) × (c ≡ n → ⊥)) → AtSet os c o n
  by (inl (t, q)) = here (sym q) (ap (slice_get (set os c (Some o))) (sym q) ∙ get_set_same os c (Some o) lt)
  by (inr (t, ne)) = there ne (get_set_other os c n (Some o) ne)

kept_by : (os : List (Option ℕ)) (c o n f : ℕ) → AtSet os c o n → slice_get os n ≡ Some (Some f) → (g : ℕ) × (slice_get (set os c (Some o)) n ≡ Some (Some g))
kept_by os c o n f (here q e) h = (o, e)
kept_by os c o n f (there ne e) h = (f, e ∙ h)

pub passes_none : (old : List (Option ℕ)) (owner : ℕ) → PassesDown old old [] owner
passes_none old owner = record {
  each = refl;
  source = λ n f h. inl h;
  given = λ n (k, e). cc;
  kept = λ n f h. (f, h);
  others = λ n h. refl;
}

module _ (old new : List (Option ℕ)) (cs : List ℕ) (owner c : ℕ) (p : PassesDown old new cs owner) (lt : c < length new) where
  after : List (Option ℕ)
  after = set new c (Some owner)

  source_by : (n f : ℕ) → AtSet new c owner n → slice_get (set new c (Some owner)) n ≡ Some (Some f) → (slice_get old n ≡ Some (Some f)) ⊎ (Has (cs ++ c ∷ []) n × (f ≡ owner))
  source_by n f (here q e) h = inr ((length cs, get_push_last cs c ∙ ap (λ (m : ℕ). Some m) (sym q)), some_is f owner (sym h ∙ e))
  source_by n f (there ne e) h = on (p.source n f (sym e ∙ h)) where
    on : (slice_get old n ≡ Some (Some f)) ⊎ (Has cs n × (f ≡ owner)) → (slice_get old n ≡ Some (Some f)) ⊎ (Has (cs ++ c ∷ []) n × (f ≡ owner))
    on (inl was) = inl was
    on (inr (has, is)) = inr (has_before cs c n has, is)

  given_by : (n : ℕ) → AtSet new c owner n → Has (cs ++ c ∷ []) n → slice_get (set new c (Some owner)) n ≡ Some (Some owner)
  given_by n (here q e) has = e
  given_by n (there ne e) has = on (has_push cs c n has) where
    on : Has cs n ⊎ (n ≡ c) → slice_get (set new c (Some owner)) n ≡ Some (Some owner)
    on (inl before) = e ∙ p.given n before
    on (inr q) = absurd (ne (sym q))

  kept_at : (n f : ℕ) → slice_get old n ≡ Some (Some f) → (g : ℕ) × (slice_get (set new c (Some owner)) n ≡ Some (Some g))
  kept_at n f h = on (p.kept n f h) where
    on : (g : ℕ) × (slice_get new n ≡ Some (Some g)) → (g : ℕ) × (slice_get (set new c (Some owner)) n ≡ Some (Some g))
    on (g, e) = kept_by new c owner n g (at_set new c owner n lt) e

  pub passes_more : PassesDown old (set new c (Some owner)) (cs ++ c ∷ []) owner
  passes_more = record {
    each = length-set new c (Some owner) ∙ p.each;
    source = λ n f h. source_by n f (at_set new c owner n lt) h;
    given = λ n has. given_by n (at_set new c owner n lt) has;
    kept = kept_at;
    others = λ n hasnt. get_set_other new c n (Some owner) (λ q. hasnt (length cs, get_push_last cs c ∙ ap (λ (m : ℕ). Some m) q)) ∙ p.others n (λ has. hasnt (has_before cs c n has));
  }

nobody_from : (a n i f : ℕ) → slice_get (map {B = Option ℕ} (λ (m : ℕ). None) (range_with_len a n)) i ≡ Some (Some f) → ⊥
nobody_from a zero i f h = cc
nobody_from a (suc n) zero f h = cc
nobody_from a (suc n) (suc i) f h = nobody_from (a + 1) n i f h

pub begun_none : (os : List (Option ℕ)) → os ≡ nobody (length os) → IsBegun os (length os) []
begun_none os e = record {
  each = refl;
  source = λ n f h. absurd (nobody_from 0 (length os) n f (ap (λ (xs : List (Option ℕ)). slice_get xs n) (sym e) ∙ h));
  bodies = λ f n entity h b. cc;
}

module _ (os : List (Option ℕ)) (nodes : ℕ) (es : List Entity) (entity : Entity) (p : IsBegun os nodes es) where
  begun_source : (n f : ℕ) → slice_get os n ≡ Some (Some f) → (found : Entity) × (slice_get (es ++ entity ∷ []) f ≡ Some found) × (body_of found ≡ Some n)
  begun_source n f h = on (p.source n f h) where
    on : (found : Entity) × (slice_get es f ≡ Some found) × (body_of found ≡ Some n) → (found : Entity) × (slice_get (es ++ entity ∷ []) f ≡ Some found) × (body_of found ≡ Some n)
    on (found, e, b) = (found, get_push_before es entity found f e, b)

  pub begun_same : body_of entity ≡ None → IsBegun os nodes (es ++ entity ∷ [])
  begun_same none = record {
    each = p.each;
    source = begun_source;
    bodies = λ f n found h b. on f n found b (get_push_cases es entity found f h);
  } where
    on : (f n : ℕ) (found : Entity) → body_of found ≡ Some n → (slice_get es f ≡ Some found) ⊎ ((f ≡ length es) × (found ≡ entity)) → (g : ℕ) × (slice_get os n ≡ Some (Some g))
    on f n found b (inl e) = p.bodies f n found e b
    on f n found b (inr (q, is)) = let h : body_of found ≡ None = ap body_of is ∙ none in cc

  begun_set : (b : ℕ) → body_of entity ≡ Some b → (n f : ℕ) → AtSet os b (length es) n → slice_get (set os b (Some (length es))) n ≡ Some (Some f) → (found : Entity) × (slice_get (es ++ entity ∷ []) f ≡ Some found) × (body_of found ≡ Some n)
  begun_set b body n f (here q e) h =
      let is : f ≡ length es = some_is f (length es) (sym h ∙ e) in
      (entity, ap (slice_get (es ++ entity ∷ [])) is ∙ get_push_last es entity, body ∙ ap (λ (m : ℕ). Some m) (sym q))
  begun_set b body n f (there ne e) h = begun_source n f (sym e ∙ h)

  begun_bodies : (b : ℕ) → body_of entity ≡ Some b → b < length os → (f n : ℕ) (found : Entity) → body_of found ≡ Some n → (slice_get es f ≡ Some found) ⊎ ((f ≡ length es) × (found ≡ entity)) → (g : ℕ) × (slice_get (set os b (Some (length es))) n ≡ Some (Some g))
  begun_bodies b body lt f n found is (inl e) = on (p.bodies f n found e is) where
    on : (g : ℕ) × (slice_get os n ≡ Some (Some g)) → (g : ℕ) × (slice_get (set os b (Some (length es))) n ≡ Some (Some g))
    on (g, h) = kept_by os b (length es) n g (at_set os b (length es) n lt) h
  begun_bodies b body lt f n found is (inr (q, same)) =
      let other : body_of found ≡ Some b = ap body_of same ∙ body in
      let eq : n ≡ b = cc in
      (length es, ap (slice_get (set os b (Some (length es)))) eq ∙ get_set_same os b (Some (length es)) lt)

  pub begun_more : (b : ℕ) → body_of entity ≡ Some b → b < length os → IsBegun (set os b (Some (length es))) nodes (es ++ entity ∷ [])
  begun_more b body lt = record {
    each = length-set os b (Some (length es)) ∙ p.each;
    source = λ n f h. begun_set b body n f (at_set os b (length es) n lt) h;
    bodies = λ f n found h is. begun_bodies b body lt f n found is (get_push_cases es entity found f h);
  }

pub to_end : (old : List (Option ℕ)) (nodes : List Node) → length old ≡ length nodes → PassesTo old old nodes (length nodes)
to_end old nodes e = record {
  each = refl;
  source = λ n f h. own h;
  kept = λ n f h. (f, h);
  down = λ parent n f node le at has h. let lt = within nodes parent node at in absurd (omega arith);
}

module _ (old new : List (Option ℕ)) (nodes : List Node) (m n : ℕ) (p : PassesTo old new nodes m) (next : n + 1 ≡ m) where
  weaker : (k f : ℕ) → Comes old new nodes m k f → Comes old new nodes n k f
  weaker k f (own h) = own h
  weaker k f (from_above at has h lt le) = from_above at has h lt (omega arith)

  none_down : slice_get new n ≡ Some None → (parent k f : ℕ) (node : Node) → n ≤ parent → slice_get nodes parent ≡ Some node → Has node.children k → slice_get new parent ≡ Some (Some f) → ((eqb n parent ≡ true) × (n ≡ parent)) ⊎ ((eqb n parent ≡ false) × (n ≡ parent → ⊥)) → (g : ℕ) × (slice_get new k ≡ Some (Some g))
  none_down none parent k f node le at has h (inl (t, q)) = let there : slice_get new parent ≡ Some None = ap (slice_get new) (sym q) ∙ none in cc
  none_down none parent k f node le at has h (inr (t, ne)) = p.down parent k f node (omega arith) at has h

  pub filled_none : slice_get new n ≡ Some None → PassesTo old new nodes n
  filled_none none = record {
    each = p.each;
    source = λ k f h. weaker k f (p.source k f h);
    kept = p.kept;
    down = λ parent k f node le at has h. none_down none parent k f node le at has h (eqb_tells n parent);
  }

  module _ (after : List (Option ℕ)) (node : Node) (owner : ℕ) (at_n : slice_get nodes n ≡ Some node) (mine : slice_get new n ≡ Some (Some owner)) (first : (c : ℕ) → Has node.children c → c < n) (d : PassesDown new after node.children owner) where
    same_above : (k : ℕ) → n ≤ k → slice_get after k ≡ slice_get new k
    same_above k le = d.others k (λ has. let lt = first k has in omega arith)

    moved : (k f : ℕ) → Comes old new nodes m k f → Comes old after nodes n k f
    moved k f (own h) = own h
    moved k f (from_above {parent} at has h lt le) = from_above at has (same_above parent (omega arith) ∙ h) lt (omega arith)

    source_after : (k f : ℕ) → (slice_get new k ≡ Some (Some f)) ⊎ (Has node.children k × (f ≡ owner)) → Comes old after nodes n k f
    source_after k f (inl h) = moved k f (p.source k f h)
    source_after k f (inr (has, is)) =
        let there : slice_get after n ≡ Some (Some f) = same_above n (omega arith) ∙ (mine ∙ ap (λ (g : ℕ). Some (Some g)) (sym is)) in
        from_above at_n has there (first k has) (omega arith)

    kept_after : (k f : ℕ) → (g : ℕ) × (slice_get new k ≡ Some (Some g)) → (g : ℕ) × (slice_get after k ≡ Some (Some g))
    kept_after k f (g, h) = d.kept k g h

    same_node : (k : ℕ) (found : Node) → slice_get nodes n ≡ Some found → Has found.children k → Has node.children k
    same_node k found h has = let e : found ≡ node = cc in rw e at has

    down_after : (parent k f : ℕ) (found : Node) → n ≤ parent → slice_get nodes parent ≡ Some found → Has found.children k → slice_get after parent ≡ Some (Some f) → ((eqb n parent ≡ true) × (n ≡ parent)) ⊎ ((eqb n parent ≡ false) × (n ≡ parent → ⊥)) → (g : ℕ) × (slice_get after k ≡ Some (Some g))
    down_after parent k f found le at has h (inl (t, q)) = (owner, d.given k (same_node k found (ap (slice_get nodes) q ∙ at) has))
    down_after parent k f found le at has h (inr (t, ne)) = kept_after k f (p.down parent k f found (omega arith) at has (sym (same_above parent le) ∙ h))

    pub filled_some : PassesTo old after nodes n
    filled_some = record {
      each = d.each ∙ p.each;
      source = λ k f h. source_after k f (d.source k f h);
      kept = λ k f h. kept_after k f (p.kept k f h);
      down = λ parent k f found le at has h. down_after parent k f found le at has h (eqb_tells n parent);
    }

module _ (os : List (Option ℕ)) (nodes : ℕ) (es : List Entity) (f : ℕ) (entity : Entity) (p : IsBegun os nodes (take f es)) (lt : f < length es) (is : entity ≡ get_or es f entity) where
  taken : take (f + 1) es ≡ take f es ++ entity ∷ []
  taken = take_more es f entity lt ∙ ap (λ (e : Entity). take f es ++ e ∷ []) (sym is)

  count : length (take f es) ≡ f
  count = omega (arith, length-take f es)

  pub begun_step : (b : ℕ) (after : List (Option ℕ)) → body_of entity ≡ Some b → b < length os → after ≡ set os b (Some f) → IsBegun after nodes (take (f + 1) es)
  begun_step b after body room written =
      let new : IsBegun (set os b (Some (length (take f es)))) nodes (take f es ++ entity ∷ []) = begun_more os nodes (take f es) entity p b body room in
      rw (taken, written) (rw count at new)

  pub begun_skip : (after : List (Option ℕ)) → body_of entity ≡ None → after ≡ os → IsBegun after nodes (take (f + 1) es)
  begun_skip after none same = rw (taken, same) (begun_same os nodes (take f es) entity p none)

bound_by : (storage : Storage) (body : Option ℕ) (b n : ℕ) → body_by storage body ≡ Some b → IfSome body (λ at. at < n) → b < n
bound_by FunctionBody None b n h lt = cc
bound_by FunctionBody (Some at) b n h lt = let e : at ≡ b = cc in rw (← e) lt
bound_by storage body b n h lt = cc

pub body_bound : (entity : Entity) (b n : ℕ) → body_of entity ≡ Some b → IfSome entity.body (λ at. at < n) → b < n
body_bound entity b n h lt = bound_by entity.storage entity.body b n h lt

pub bodies_all : (u : CoreTrees) → InRange u → All (λ entity. IfSome entity.body (λ at. at < length u.nodes)) u.entities
bodies_all u range k d lt = range.bodies k (get_or u.entities k d) (slice_get-get_or u.entities k d lt)

pub length_nobody : (n : ℕ) → length (nobody n) ≡ n
length_nobody n = length-map-range_with_len {X = Option ℕ} (λ (m : ℕ). None) 0 n

-- the function that a begun owner is
module _ (u : CoreTrees) (begun owners : List (Option ℕ)) (b : IsBegun begun (length u.nodes) u.entities) (p : PassesTo begun owners u.nodes 0) where
  storage_of : (entity : Entity) (n : ℕ) (storage : Storage) (body : Option ℕ) → body_by storage body ≡ Some n → (storage ≡ FunctionBody) × (body ≡ Some n)
  storage_of entity n FunctionBody body h = (refl, h)
  storage_of entity n storage body h = cc

  under_by : (body : Option ℕ) (n : ℕ) → body ≡ Some n → UnderBody u body n
  under_by None n h = cc
  under_by (Some m) n h = let e : m ≡ n = cc in rw e at_top

  mine : (n f : ℕ) → (entity : Entity) × (slice_get u.entities f ≡ Some entity) × (body_of entity ≡ Some n) → IsOwner u n (Some f)
  mine n f (entity, e, h) = let (storage, body) = storage_of entity n entity.storage entity.body h in (entity, e, (storage, under_by entity.body n body))

  child_is : (parent n : ℕ) (node : Node) → slice_get u.nodes parent ≡ Some node → Has node.children n → IsChild u parent n
  child_is parent n node at (k, e) = (k, rw at e)

  under_more : (body : Option ℕ) (parent n : ℕ) → IsChild u parent n → UnderBody u body parent → UnderBody u body n
  under_more None parent n c h = h
  under_more (Some m) parent n c h = below h c

  owner_below : (parent n f : ℕ) → IsChild u parent n → IsOwner u parent (Some f) → IsOwner u n (Some f)
  owner_below parent n f c (entity, e, around) = (entity, e, (around.0, under_more entity.body parent n c around.1))

  sound : (fuel n f : ℕ) → length u.nodes ≤ n + fuel → Comes begun owners u.nodes 0 n f → IsOwner u n (Some f)
  sound fuel n f le (own h) = mine n f (b.source n f h)
  sound zero n f le (from_above {parent} {node} at has h lt from) = let top = within u.nodes parent node at in absurd (omega arith)
  sound (suc fuel) n f le (from_above {parent} {node} at has h lt from) =
      owner_below parent n f (child_is parent n node at has) (sound fuel parent f (omega arith) (p.source parent f h))

  node_of_child : (parent n k : ℕ) (found : Option Node) → child_in found k ≡ Some n → (node : Node) × (found ≡ Some node) × Has node.children n
  node_of_child parent n k None h = cc
  node_of_child parent n k (Some node) h = (node, refl, (k, h))

  reached : (top n : ℕ) → (g : ℕ) × (slice_get owners top ≡ Some (Some g)) → Under u top n → (g : ℕ) × (slice_get owners n ≡ Some (Some g))
  reached top n start at_top = start
  reached top n start (below {parent} under (k, child)) =
      next (reached top parent start under) (node_of_child parent n k (slice_get u.nodes parent) child) where
        next : (g : ℕ) × (slice_get owners parent ≡ Some (Some g)) → (node : Node) × (slice_get u.nodes parent ≡ Some node) × Has node.children n → (g : ℕ) × (slice_get owners n ≡ Some (Some g))
        next (g, h) (node, at, has) = p.down parent n g node (omega arith) at has h

  complete_by : (n f : ℕ) (entity : Entity) → slice_get u.entities f ≡ Some entity → (storage : Storage) (body : Option ℕ) → entity.storage ≡ storage → entity.body ≡ body → storage ≡ FunctionBody → UnderBody u body n → (g : ℕ) × (slice_get owners n ≡ Some (Some g))
  complete_by n f entity at storage None s e is under = absurd under
  complete_by n f entity at storage (Some m) s e is under = reached m n (start (b.bodies f m entity at (rw (s ∙ is, e) refl))) under where
    start : (g : ℕ) × (slice_get begun m ≡ Some (Some g)) → (g : ℕ) × (slice_get owners m ≡ Some (Some g))
    start (g, h) = p.kept m g h

  complete : (n : ℕ) → slice_get owners n ≡ Some None → (f : ℕ) (entity : Entity) → slice_get u.entities f ≡ Some entity → IsAround u n entity → ⊥
  complete n none f entity at around = on (complete_by n f entity at entity.storage entity.body refl refl around.0 around.1) where
    on : (g : ℕ) × (slice_get owners n ≡ Some (Some g)) → ⊥
    on (g, h) = cc

  right_at : (n : ℕ) (owner : Option ℕ) → slice_get owners n ≡ Some owner → IsOwner u n owner
  right_at n None h = complete n h
  right_at n (Some f) h = sound (length u.nodes) n f (omega arith) (p.source n f h)

  pub owners_right : AreOwners u owners
  owners_right = record { each = p.each ∙ b.each; right = right_at }

pub below_all : {n : ℕ} (xs : List ℕ) → All (λ x. x < n) xs → (k x : ℕ) → slice_get xs k ≡ Some x → x < n
below_all {n} xs all k x h = let e = get_or_from_slice_get xs k x 0 h in rw (← e) (all k 0 (within xs k x h))
