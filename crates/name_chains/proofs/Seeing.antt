-- What is kept of declarations, and what of one more.
use Rattle.std.proofs.Common.{◌≡◌, ℕ, ◌<◌, ◌≤◌, ◌+◌, ◌⊎◌, inl, inr, Bool, true, false, eqb, Option, Some, None, List, [], ◌∷◌, ◌++◌, length, take, suc, cond, refl, sym, ap, subst, ◌∙◌, arith, eqb-true}
use Rattle.std.specs.List.{slice_get, position_from}
use Rattle.std.proofs.lemmas.Bool.{eqb-false}
use Rattle.std.proofs.lemmas.List.{take-append-le}
use Rattle.std.proofs.Math.Seq.{take-append_seam}
use Rattle.c_types.proofs.Push.{slice_get_push}
use Rattle.c_scope.specs.declared.kinds.Declared.{Declared}
use Rattle.c_senses.specs.World.{or_else}
use Rattle.c_senses.specs.Names.{has_linkage, entry_of, made_before}
use Rattle.tree_reads.specs.leaf_maps.Numbers.{number_at}
use Rattle.name_chains.specs.declared.links.Link.{Link}
use Rattle.name_chains.specs.declared.building.Seen.{Seen}
use Rattle.name_chains.specs.Links.{listed, IsLinkOf, Adds}
use Rattle.name_chains.specs.Seen.{IsSeen, place_of, typed_with, base_of}
use Rattle.name_chains.proofs.Linked.{added_list, added_link, listed-none}

-- the first place of a declaration, behind which one more stands
or_found : (b : Bool) (i : ℕ) (other : Option ℕ) (next : Option ℕ) → cond b (Some i) (or_else other next) ≡ or_else (cond b (Some i) other) next
or_found true i other next = refl
or_found false i other next = refl

position-push : (test : Declared → Bool) (i : ℕ) (ds : List Declared) (d : Declared)
    → position_from test i (ds ++ d ∷ []) ≡ or_else (position_from test i ds) (cond (test d) (Some (i + length ds)) None)
position-push test i [] d = ap (λ (n : ℕ). cond (test d) (Some n) None) (let e : i ≡ i + 0 = omega arith in e)
position-push test i (x ∷ ds) d =
    let e : (i + 1) + length ds ≡ i + length (x ∷ ds) = omega arith in
    ap (λ (o : Option ℕ). cond (test x) (Some i) o) (position-push test (i + 1) ds d ∙ ap (λ (n : ℕ). or_else (position_from test (i + 1) ds) (cond (test d) (Some n) None)) e)
    ∙ or_found (test x) i (position_from test (i + 1) ds) (cond (test d) (Some (i + length (x ∷ ds))) None)

pub place-push : (leaf : ℕ) (ds : List Declared) (d : Declared) → place_of leaf (ds ++ d ∷ []) ≡ or_else (place_of leaf ds) (cond (eqb d.node leaf) (Some (length ds)) None)
place-push leaf ds d =
    let e : 0 + length ds ≡ length ds = omega arith in
    position-push (λ (x : Declared). eqb x.node leaf) 0 ds d ∙ ap (λ (n : ℕ). or_else (place_of leaf ds) (cond (eqb d.node leaf) (Some n) None)) e

-- the declaration at the first place
pub record IsAt (leaf : ℕ) (ds : List Declared) (k : ℕ) (d : Declared) : Type 0 where
  pub at : slice_get ds k ≡ Some d
  pub node : d.node ≡ leaf
  pub entry : entry_of ds leaf ≡ Some d
  pub before : made_before leaf ds ≡ take k ds

at_head : (leaf : ℕ) (x : Declared) (ds : List Declared) → eqb x.node leaf ≡ true → IsAt leaf (x ∷ ds) 0 x
at_head leaf x ds e = record {
  at = refl;
  node = eqb-true x.node leaf e;
  entry = ap (λ (b : Bool). cond b (Some x) (entry_of ds leaf)) e;
  before = ap (λ (b : Bool). cond b [] (x ∷ made_before leaf ds)) e;
}

at_tail : (leaf : ℕ) (x : Declared) (ds : List Declared) (k : ℕ) (d : Declared) → eqb x.node leaf ≡ false → IsAt leaf ds k d → IsAt leaf (x ∷ ds) (suc k) d
at_tail leaf x ds k d e h = record {
  at = h.at;
  node = h.node;
  entry = ap (λ (b : Bool). cond b (Some x) (entry_of ds leaf)) e ∙ h.entry;
  before = ap (λ (b : Bool). cond b [] (x ∷ made_before leaf ds)) e ∙ ap (λ (l : List Declared). x ∷ l) h.before;
}

some_one : {X : Type 0} (x y : X) → Some x ≡ Some y → x ≡ y
some_one x y e = cc

found : (leaf i : ℕ) (ds : List Declared) (k : ℕ) → position_from (λ (x : Declared). eqb x.node leaf) i ds ≡ Some k → (j : ℕ) × (d : Declared) × (k ≡ i + j) × IsAt leaf ds j d
found leaf i [] k e = absurd (cc)
found leaf i (x ∷ ds) k e =
    (elim (eqb x.node leaf) as (λ b. eqb x.node leaf ≡ b → cond b (Some i) (position_from (λ (y : Declared). eqb y.node leaf) (i + 1) ds) ≡ Some k
    → (j : ℕ) × (d : Declared) × (k ≡ i + j) × IsAt leaf (x ∷ ds) j d) [
      | true ↦ λ t f. let s = some_one i k f in (0, x, omega arith, at_head leaf x ds t)
      | false ↦ λ t f. let r = found leaf (i + 1) ds k f in let s : k ≡ (i + 1) + r.0 = r.2 in (suc r.0, r.1, omega arith, at_tail leaf x ds r.0 r.1 t r.3)
    ]) refl e

pub found_at : (leaf : ℕ) (ds : List Declared) (k : ℕ) → place_of leaf ds ≡ Some k → (d : Declared) × IsAt leaf ds k d
found_at leaf ds k e =
    let r = found leaf 0 ds k e in
    let s : k ≡ 0 + r.0 = r.2 in
    let same : r.0 ≡ k = omega arith in
    (r.1, subst (λ (j : ℕ). IsAt leaf ds j r.1) same r.3)

missing : (leaf i : ℕ) (ds : List Declared) → position_from (λ (x : Declared). eqb x.node leaf) i ds ≡ None → entry_of ds leaf ≡ None
missing leaf i [] e = refl
missing leaf i (x ∷ ds) e =
    (elim (eqb x.node leaf) as (λ b. cond b (Some i) (position_from (λ (y : Declared). eqb y.node leaf) (i + 1) ds) ≡ None → cond b (Some x) (entry_of ds leaf) ≡ None) [
      | true ↦ λ f. absurd (cc)
      | false ↦ λ f. missing leaf (i + 1) ds f
    ]) e

pub missing_at : (leaf : ℕ) (ds : List Declared) → place_of leaf ds ≡ None → entry_of ds leaf ≡ None
missing_at leaf ds e = missing leaf 0 ds e

-- what is kept stays
pub seen_kept : (around : List ℕ) (before : List Declared) (d : Declared) (own own' links links' : List Link) (x : Seen) → Adds own own' → Adds links links' → IsSeen around before d own links x → IsSeen around before d own' links' x
seen_kept around before d own own' links links' x b a h = record {
  declared = h.declared;
  linked_is = added_link links links' a x.linked h.linked_is;
  linked = added_list links links' a x.linked h.linked_is ∙ h.linked;
  typing_is = added_link links links' a x.typing h.typing_is;
  typing = added_list links links' a x.typing h.typing_is ∙ h.typing;
  in_scope_is = added_link own own' b x.in_scope h.in_scope_is;
  in_scope = added_list own own' b x.in_scope h.in_scope_is ∙ h.in_scope;
}

-- the list behind which a declaration stands, with it
pub typed_base : (links links' : List Link) (d : Declared) (linked typing : Option ℕ) (seen : List Declared) → listed links linked ≡ seen
    → listed links' typing ≡ listed links (base_of d linked) ++ d ∷ [] → listed links' typing ≡ typed_with seen d
typed_base links links' d linked typing seen e h = h ∙ by (has_linkage d)
  where
    by : (b : Bool) → listed links (cond b linked None) ++ d ∷ [] ≡ cond b (seen ++ d ∷ []) (d ∷ [])
    by true = ap (λ (l : List Declared). l ++ d ∷ []) e
    by false = ap (λ (l : List Declared). l ++ d ∷ []) (listed-none links)

pub base_linked : (links : List Link) (d : Declared) (linked : Option ℕ) → has_linkage d ≡ true → listed links (base_of d linked) ≡ listed links linked
base_linked links d linked e = ap (λ (b : Bool). listed links (cond b linked None)) e

pub base_is : (links : List Link) (d : Declared) (linked : Option ℕ) → IsLinkOf links linked → IsLinkOf links (base_of d linked)
base_is links d linked h = by (has_linkage d)
  where
    by : (b : Bool) → IsLinkOf links (cond b linked None)
    by true = h
    by false = tt

pub nodes_push : (n : ℕ) (ds : List Declared) (d : Declared) → ((k : ℕ) (e : Declared) → slice_get ds k ≡ Some e → e.node < n) → d.node < n
    → (k : ℕ) (e : Declared) → slice_get (ds ++ d ∷ []) k ≡ Some e → e.node < n
nodes_push n ds d h lt k e at = elim (slice_get_push ds d k e at) [ inl p ↦ h k e p.1 | inr p ↦ subst (λ (x : Declared). x.node < n) (sym p.1) lt ]

-- those of all declarations and of one more
pub seen_push : (n : ℕ) (around : ℕ → List ℕ) (ds : List Declared) (d : Declared) (own own' links links' : List Link) (xs : List Seen) (y : Seen) → Adds own own' → Adds links links' → length xs ≡ length ds
    → ((k : ℕ) (e : Declared) (x : Seen) → slice_get ds k ≡ Some e → slice_get xs k ≡ Some x → IsSeen (around e.node) (take k ds) e own links x)
    → IsSeen (around d.node) ds d own' links' y
    → (k : ℕ) (e : Declared) (x : Seen) → slice_get (ds ++ d ∷ []) k ≡ Some e → slice_get (xs ++ y ∷ []) k ≡ Some x → IsSeen (around e.node) (take k (ds ++ d ∷ [])) e own' links' x
seen_push n around ds d own own' links links' xs y b a count old new k e x ek xk = both (slice_get_push ds d k e ek) (slice_get_push xs y k x xk)
  where
    both : ((k < length ds) × (slice_get ds k ≡ Some e)) ⊎ ((k ≡ length ds) × (e ≡ d)) → ((k < length xs) × (slice_get xs k ≡ Some x)) ⊎ ((k ≡ length xs) × (x ≡ y)) → IsSeen (around e.node) (take k (ds ++ d ∷ [])) e own' links' x
    both (inl p) (inl q) =
        let le : k ≤ length ds = omega (arith, p.0) in
        subst (λ (l : List Declared). IsSeen (around e.node) l e own' links' x) (sym (take-append-le k ds (d ∷ []) le)) (seen_kept (around e.node) (take k ds) e own own' links links' x b a (old k e x p.1 q.1))
    both (inl p) (inr q) = absurd (omega (arith, p.0, q.0))
    both (inr p) (inl q) = absurd (omega (arith, p.0, q.0))
    both (inr p) (inr q) =
        let all : take k (ds ++ d ∷ []) ≡ ds = ap (λ (j : ℕ). take j (ds ++ d ∷ [])) p.0 ∙ take-append_seam ds (d ∷ []) in
        subst (λ (l : List Declared). IsSeen (around e.node) l e own' links' x) (sym all)
        (subst (λ (f : Declared). IsSeen (around f.node) ds f own' links' x) (sym p.1) (subst (λ (z : Seen). IsSeen (around d.node) ds d own' links' z) (sym q.1) new))

-- the place of one more, where its leaf has none
pub places_push : (old new : List (ℕ × ℕ)) (ds : List Declared) (d : Declared) → ((leaf : ℕ) → number_at old leaf ≡ place_of leaf ds)
    → number_at new d.node ≡ or_else (number_at old d.node) (Some (length ds)) → ((q : ℕ) → (d.node ≡ q → ⊥) → number_at new q ≡ number_at old q)
    → (leaf : ℕ) → number_at new leaf ≡ place_of leaf (ds ++ d ∷ [])
places_push old new ds d h here others leaf = by (eqb d.node leaf) refl ∙ sym (place-push leaf ds d)
  where
    nothing : (o : Option ℕ) → o ≡ or_else o None
    nothing None = refl
    nothing (Some n) = refl

    by : (b : Bool) → eqb d.node leaf ≡ b → number_at new leaf ≡ or_else (place_of leaf ds) (cond (eqb d.node leaf) (Some (length ds)) None)
    by true e =
        let same : d.node ≡ leaf = eqb-true d.node leaf e in
        subst (λ (q : ℕ). number_at new q ≡ or_else (number_at old q) (Some (length ds))) same here
        ∙ (ap (λ (o : Option ℕ). or_else o (Some (length ds))) (h leaf) ∙ ap (λ (b : Bool). or_else (place_of leaf ds) (cond b (Some (length ds)) None)) (sym e))
    by false e =
        others leaf (λ same. eqb-false d.node leaf e same)
        ∙ (h leaf ∙ (nothing (place_of leaf ds) ∙ ap (λ (b : Bool). or_else (place_of leaf ds) (cond b (Some (length ds)) None)) (sym e)))
