-- What the names declare, with the bodies of automatic objects by their leaves: in the trees of functions stands nothing else for them.
use Rattle.std.proofs.Common.{arith, ◌≡◌, ◌∙◌, ℕ, zero, suc, ◌<◌, Bool, true, false, List, [], ◌∷◌, length, get_or, Option, Some, None, slice_get, refl, sym, ap, subst}
use Rattle.std.specs.Prelude.{option_map, if◌then◌else◌}
use Rattle.std.proofs.lemmas.Bool.{false≢true}
use Rattle.std.proofs.lemmas.Option.{slice_get-get_or, slice_get_within, get_or_from_slice_get}
use Rattle.core_tree.specs.declared.node.NodeKind.TheVariants.{Initialise}
use Rattle.core_tree.specs.declared.node.Storage.{Storage}
use Rattle.core_tree.specs.declared.node.Storage.TheVariants.{Static, Automatic, FunctionBody, Parameter, Declared as DeclaredStorage}
use Rattle.core_tree.specs.declared.node.Unit.{Unit}
use Rattle.c_consts.specs.Core.{Core, kind_of}
use Rattle.core_nodes.specs.Standing.{core_at, IsReady}
use Rattle.core_nodes.proofs.Reading.{kind_is}
use Rattle.c_senses.specs.Tree.{Source, paired}
use Rattle.c_senses.specs.Sense.{Sense}
use Rattle.c_senses.specs.Right.{declared_name, Within}
use Rattle.c_senses.specs.Right as right
use Rattle.core_nodes.specs.kept_nodes.Marked.{marked}
use Rattle.unit_finish.specs.declared.unit_parts.declared.Declared.{Declared}
use Rattle.unit_finish.specs.unit_parts.Entities.{with_body}
use Rattle.unit_finish.specs.own_bodies.Own.{is_automatic, lasting_bodies, initialises_from, with_own_body, HaveOwnBodies}
use Rattle.unit_finish.proofs.own_bodies.Found.{found_at, found_for}
use Rattle.valid_unit_laws.specs.passed.body_node_laws.own_initials.Own.{InitialisesOwn}
use Rattle.unit_finish.specs.Walked.{declared_seen, AreNames}
use Rattle.unit_finish.proofs.Lists.{get_map, map_back}
use Rattle.unit_finish.proofs.Standing.{marked_node, within_there, within_top}

automatic_is : (st : Storage) → is_automatic st ≡ true → st ≡ Automatic
automatic_is Automatic e = refl
automatic_is Static e = absurd (false≢true e)
automatic_is FunctionBody e = absurd (false≢true e)
automatic_is Parameter e = absurd (false≢true e)
automatic_is DeclaredStorage e = absurd (false≢true e)

function_lasts : (st : Storage) → st ≡ FunctionBody → is_automatic st ≡ false
function_lasts st e = ap is_automatic e

-- a body that lasts is in the list, and what is there is one
lasting_there : (list : List Declared) (k b : ℕ) (x : Declared) → slice_get list k ≡ Some x → is_automatic x.storage ≡ false → x.body ≡ Some b → (q : ℕ) × (slice_get (lasting_bodies list) q ≡ Some b)
lasting_there [] zero b x at lasts body = cc
lasting_there [] (suc k) b x at lasts body = cc
lasting_there (y ∷ list) zero b x at lasts body =
    let same : y ≡ x = cc in
    let here : lasting_bodies (y ∷ list) ≡ b ∷ lasting_bodies list
    = ap (λ (a : Bool). if a then lasting_bodies list else with_body y.body (lasting_bodies list)) (ap (λ (z : Declared). is_automatic z.storage) same ∙ lasts)
    ∙ ap (λ (o : Option ℕ). with_body o (lasting_bodies list)) (ap (λ (z : Declared). z.body) same ∙ body) in
    (0, ap (λ (l : List ℕ). slice_get l 0) here)
lasting_there (y ∷ list) (suc k) b x at lasts body =
    let r = lasting_there list k b x at lasts body in
    by r (is_automatic y.storage) y.body
  where
    by : (q : ℕ) × (slice_get (lasting_bodies list) q ≡ Some b) → (a : Bool) (o : Option ℕ) → (q : ℕ) × (slice_get (if a then lasting_bodies list else with_body o (lasting_bodies list)) q ≡ Some b)
    by r true o = r
    by r false None = r
    by r false (Some c) = (suc r.0, r.1)

lasting_back : (list : List Declared) (q b : ℕ) → slice_get (lasting_bodies list) q ≡ Some b → (k : ℕ) × (x : Declared) × (slice_get list k ≡ Some x) × (x.body ≡ Some b)
lasting_back [] zero b at = cc
lasting_back [] (suc q) b at = cc
lasting_back (y ∷ list) q b at = by (is_automatic y.storage) y.body q refl at (λ j e. lasting_back list j b e)
  where
    later : (k : ℕ) × (x : Declared) × (slice_get list k ≡ Some x) × (x.body ≡ Some b) → (k : ℕ) × (x : Declared) × (slice_get (y ∷ list) k ≡ Some x) × (x.body ≡ Some b)
    later r = (suc r.0, r.1, r.2, r.3)

    by : (a : Bool) (o : Option ℕ) (j : ℕ) → y.body ≡ o → slice_get (if a then lasting_bodies list else with_body o (lasting_bodies list)) j ≡ Some b
        → ((j : ℕ) → slice_get (lasting_bodies list) j ≡ Some b → (k : ℕ) × (x : Declared) × (slice_get list k ≡ Some x) × (x.body ≡ Some b)) → (k : ℕ) × (x : Declared) × (slice_get (y ∷ list) k ≡ Some x) × (x.body ≡ Some b)
    by true o j body e rest = later (rest j e)
    by false None j body e rest = later (rest j e)
    by false (Some c) zero body e rest = let same : c ≡ b = cc in (0, y, refl, body ∙ ap Some same)
    by false (Some c) (suc j) body e rest = later (rest j e)

module _ (s : Source) (senses : List Sense) (u : Unit) (names owned : List Declared) (are : AreNames s senses u names) (ready : IsReady u) (h : HaveOwnBodies u.nodes.items names owned) (own : InitialisesOwn s senses) where
  abbrev at : ℕ → Option ℕ
  at = paired (initialises_from 0 h.marks u.nodes.items)

  body_seen : (x : Declared) (b : ℕ) → x.body ≡ Some b → (declared_seen u x).body ≡ Some (core_at u b)
  body_seen x b e = ap (option_map (core_at u)) e

  -- what is found initialises the object in the body of something that is declared, so it is its body
  found_body : (k m : ℕ) (x : Declared) → slice_get names k ≡ Some x → x.storage ≡ Automatic → at x.leaf ≡ Some m → (declared_seen u x).body ≡ Some (core_at u m)
  found_body k m x there automatic found =
      let f = found_at 0 h.marks u.nodes.items x.leaf m found in
      let same : f.place ≡ m = omega (arith, f.number) in
      let mark : marked h.marks m = subst (marked h.marks) same f.mark in
      let node : slice_get u.nodes.items m ≡ Some f.node = subst (λ (i : ℕ). slice_get u.nodes.items i ≡ Some f.node) same f.there in
      let kind : kind_of (core_at u m) ≡ Initialise x.leaf f.paths = sym (kind_is u ready m f.node node) ∙ f.kind in
      let top = within_top s senses u h.marks (lasting_bodies names) ready h.are_marked m mark in
      let b = get_or (lasting_bodies names) top.0 0 in
      let owner = lasting_back names top.0 b (slice_get-get_or (lasting_bodies names) top.0 0 top.1) in
      own.own owner.1.leaf x.leaf (declared_seen u owner.1) (declared_seen u x) (core_at u b) (core_at u m) f.paths (are.each owner.0 owner.1 owner.2) (body_seen owner.1 b owner.3) top.2 kind (are.each k x there) automatic

  -- and something is found where it has a body
  is_found : (k b : ℕ) (x : Declared) → slice_get names k ≡ Some x → x.storage ≡ Automatic → x.body ≡ Some b → (m : ℕ) × (at x.leaf ≡ Some m)
  is_found k b x there automatic body =
      let named = are.each k x there in
      let seen = body_seen x b body in
      let stands = own.stands x.leaf (declared_seen u x) (core_at u b) named automatic seen in
      let kind = own.initialises x.leaf (declared_seen u x) (core_at u b) named automatic seen in
      let entry = are.all stands.function stands.what stands.declares in
      let y : Declared = entry.1 in
      let both : Some (declared_seen u y) ≡ Some stands.what = sym (are.each entry.0 y entry.2) ∙ (ap (declared_name s senses) entry.3 ∙ stands.declares) in
      let is : declared_seen u y ≡ stands.what = cc in
      let block = body_of y.body (ap (λ (w : right.Declared). w.body) is ∙ stands.body) in
      let lasts : is_automatic y.storage ≡ false = function_lasts y.storage (ap (λ (w : right.Declared). w.storage) is ∙ stands.storage) in
      let q = lasting_there names entry.0 block.0 y entry.2 lasts block.1 in
      let mark : marked h.marks block.0 = subst (marked h.marks) (get_or_from_slice_get (lasting_bodies names) q.0 block.0 0 q.1) (h.are_marked.tops q.0 (slice_get_within (lasting_bodies names) q.0 block.0 q.1)) in
      let w = within_there s senses u h.marks (lasting_bodies names) ready h.are_marked (core_at u b) stands.block stands.within block.0 mark block.2 in
      let node = marked_node s senses u h.marks (lasting_bodies names) ready h.are_marked w.0 w.1 in
      found_for 0 h.marks u.nodes.items x.leaf w.0 node.0 kind.0 w.1 node.1 (kind_is u ready w.0 node.0 node.1 ∙ (ap kind_of w.2 ∙ kind.1))
    where
      body_of : (o : Option ℕ) {c : Core} → option_map (core_at u) o ≡ Some c → (j : ℕ) × (o ≡ Some j) × (core_at u j ≡ c)
      body_of None e = cc
      body_of (Some j) {c} e = let same : core_at u j ≡ c = cc in (j, refl, same)

  same_body : (k : ℕ) (x : Declared) → slice_get names k ≡ Some x → x.storage ≡ Automatic → option_map (core_at u) (at x.leaf) ≡ option_map (core_at u) x.body
  same_body k x there automatic = by (at x.leaf) refl x.body refl
    where
      by : (f : Option ℕ) → at x.leaf ≡ f → (o : Option ℕ) → x.body ≡ o → option_map (core_at u) f ≡ option_map (core_at u) o
      by None none None body = refl
      by None none (Some b) body = let some = is_found k b x there automatic body in let never : None ≡ Some some.0 = sym none ∙ some.1 in cc
      by (Some m) found None body = let never : None ≡ Some (core_at u m) = sym (ap (option_map (core_at u)) body) ∙ found_body k m x there automatic found in cc
      by (Some m) found (Some b) body = sym (found_body k m x there automatic found) ∙ body_seen x b body

  seen_owned : (k : ℕ) (x : Declared) → slice_get names k ≡ Some x → declared_seen u (with_own_body at x) ≡ declared_seen u x
  seen_owned k x there = by (is_automatic x.storage) refl
    where
      by : (a : Bool) → is_automatic x.storage ≡ a → declared_seen u (with_own_body at x) ≡ declared_seen u x
      by true e =
          ap (λ (c : Bool). declared_seen u (if c then record x { body = at x.leaf } else x)) e
          ∙ ap (λ (o : Option Core). record (declared_seen u x) { body = o }) (same_body k x there (automatic_is x.storage e))
      by false e = ap (λ (c : Bool). declared_seen u (if c then record x { body = at x.leaf } else x)) e

  leaf_owned : (x : Declared) → (with_own_body at x).leaf ≡ x.leaf
  leaf_owned x = by (is_automatic x.storage)
    where
      by : (a : Bool) → (if a then record x { body = at x.leaf } else x).leaf ≡ x.leaf
      by true = refl
      by false = refl

  type_owned : (x : Declared) → (with_own_body at x).ty ≡ x.ty
  type_owned x = by (is_automatic x.storage)
    where
      by : (a : Bool) → (if a then record x { body = at x.leaf } else x).ty ≡ x.ty
      by true = refl
      by false = refl

  back : (k : ℕ) (y : Declared) → slice_get owned k ≡ Some y → (x : Declared) × (slice_get names k ≡ Some x) × (y ≡ with_own_body at x)
  back k y there = map_back (with_own_body at) names k y (sym (ap (λ (l : List Declared). slice_get l k) h.owned_are) ∙ there)

  forth : (k : ℕ) (x : Declared) → slice_get names k ≡ Some x → slice_get owned k ≡ Some (with_own_body at x)
  forth k x there = ap (λ (l : List Declared). slice_get l k) h.owned_are ∙ get_map (with_own_body at) names k x there

  pub names_owned : AreNames s senses u owned
  names_owned = record {
    each = λ k y there.
        let b = back k y there in
        ap (λ (z : Declared). declared_name s senses z.leaf) b.2 ∙ (ap (declared_name s senses) (leaf_owned b.0) ∙ (are.each k b.0 b.1 ∙ ap Some (sym (seen_owned k b.0 b.1) ∙ ap (declared_seen u) (sym b.2))));
    all = λ d what e. let r = are.all d what e in (r.0, with_own_body at r.1, forth r.0 r.1 r.2, leaf_owned r.1 ∙ r.3);
    once = λ j k x y at_j at_k e.
        let a = back j x at_j in
        let b = back k y at_k in
        are.once j k a.0 b.0 a.1 b.1 (sym (ap (λ (z : Declared). z.leaf) a.2 ∙ leaf_owned a.0) ∙ (e ∙ (ap (λ (z : Declared). z.leaf) b.2 ∙ leaf_owned b.0)));
    ascend = λ j k x y less at_j at_k.
        let a = back j x at_j in
        let b = back k y at_k in
        let lt = are.ascend j k a.0 b.0 less a.1 b.1 in
        let first : x.leaf ≡ a.0.leaf = ap (λ (z : Declared). z.leaf) a.2 ∙ leaf_owned a.0 in
        let second : y.leaf ≡ b.0.leaf = ap (λ (z : Declared). z.leaf) b.2 ∙ leaf_owned b.0 in
        omega (arith, lt, first, second);
    typed = λ k y there. let b = back k y there in subst (λ t. t.0 < length u.types.terms) (sym (ap (λ (z : Declared). z.ty) b.2 ∙ type_owned b.0)) (are.typed k b.0 b.1);
  }
