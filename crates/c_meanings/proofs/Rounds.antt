-- Lists of declarations without a round that is made again.
use Rattle.std.proofs.Common.{◌≡◌, ◌⊎◌, inl, inr, ℕ, ◌||◌, ◌&&◌, Bool, true, false, Option, Some, None, List, [], ◌∷◌, ◌++◌, append_assoc, refl, sym, ap, subst, ◌∙◌}
use Rattle.std.specs.Prelude.{⊤, if◌then◌else◌}
use Rattle.core_tree.specs.declared.node.Unit.{Unit}
use Rattle.c_types.specs.declared.term.Form.TheVariants.{Fixed, Variadic, Unspecified}
use Rattle.c_types.specs.Trees.{Ctype, ArrayOf, FunctionFrom}
use Rattle.c_scope.specs.declared.kinds.Declared.{Declared}
use Rattle.c_senses.specs.Tree.{Source}
use Rattle.c_senses.specs.World.{World}
use Rattle.c_senses.specs.Sense.{Sense}
use Rattle.c_senses.specs.Entities.{fuller, together, agree, all_together, all_same, own_type, types_of, some_such, first_of, defines}
use Rattle.c_results.specs.declared.made.Made.{Made}
use Rattle.tree_reads.specs.declared.syntax.Syntax.{Syntax}
use Rattle.tree_reads.specs.Sources.{source_in}
use Rattle.name_chains.specs.declared.links.Link.{Link}
use Rattle.name_chains.specs.Links.{listed, AreBackward}
use Rattle.name_chains.proofs.Linked.{listed-step}
use Rattle.std.specs.List.{slice_get}
use Rattle.c_meanings.specs.Later.{later}
use Rattle.c_meanings.specs.Thinned.{IsThin, IsAlike, StaysAlike, StayAlike, IsRound, GoesOn}
use Rattle.c_meanings.proofs.Lists.{types_by, together-append}
use Rattle.c_meanings.proofs.Thinning.{together_is, together_self, and_twice, and_assoc, thin_more, is_type}

-- a type that waits for its parameters or its length
abbrev waits : Ctype → Bool
waits (FunctionFrom r ps Unspecified) = true
waits (ArrayOf a None) = true
waits t = false

-- two types together are the second one, where that doesn't wait, or where the first one does
fuller_full : (a b : Ctype) → waits b ≡ false → fuller a b ≡ b
fuller_full (FunctionFrom r ps Fixed) (FunctionFrom q qs Unspecified) e = absurd (cc)
fuller_full (FunctionFrom r ps Variadic) (FunctionFrom q qs Unspecified) e = absurd (cc)
fuller_full (ArrayOf a (Some n)) (ArrayOf b None) e = absurd (cc)
fuller_full a b e = refl

fuller_waits : (a b : Ctype) → waits a ≡ true → fuller a b ≡ b
fuller_waits (FunctionFrom r ps Fixed) (FunctionFrom q qs Unspecified) e = absurd (cc)
fuller_waits (FunctionFrom r ps Variadic) (FunctionFrom q qs Unspecified) e = absurd (cc)
fuller_waits (ArrayOf a (Some n)) (ArrayOf b None) e = absurd (cc)
fuller_waits a b e = refl

together_second : (a b : Ctype) → fuller a b ≡ b → together a b ≡ b
together_second a b e = by (agree a b)
  where
    by : (d : Bool) → (if d then fuller a b else b) ≡ b
    by true = e
    by false = refl

full_gives : (a b : Ctype) → waits b ≡ false → together a b ≡ b
full_gives a b e = together_second a b (fuller_full a b e)

waits_gives : (a b : Ctype) → waits a ≡ true → together a b ≡ b
waits_gives a b e = together_second a b (fuller_waits a b e)

-- what some types give together behind another one
abbrev run : Ctype → List Ctype → Ctype
run a [] = a
run a (t ∷ rest) = run (together a t) rest

abbrev lastly : Ctype → List Ctype → Ctype
lastly a [] = a
lastly a (t ∷ rest) = lastly t rest

abbrev AllWait : List Ctype → Type 0
AllWait [] = ⊤
AllWait (t ∷ rest) = (waits t ≡ true) × AllWait rest

record IsConstant (ts : List Ctype) : Type 0 where
  one : Ctype
  is : (a : Ctype) → run a ts ≡ one

-- either one of them doesn't wait, and what stands before doesn't matter, or all wait
kind_of : (ts : List Ctype) → IsConstant ts ⊎ AllWait ts
kind_of [] = inr tt
kind_of (t ∷ rest) = elim (kind_of rest) [ inl h ↦ inl (record { one = h.one; is = λ a. h.is (together a t) }) | inr h ↦ by (waits t) refl h ]
  where
    by : (b : Bool) → waits t ≡ b → AllWait rest → IsConstant (t ∷ rest) ⊎ AllWait (t ∷ rest)
    by true e h = inr (e, h)
    by false e h = inl (record { one = run t rest; is = λ a. ap (λ (x : Ctype). run x rest) (full_gives a t e) })

-- where all wait, they give the first one or the last
wait_run : (a : Ctype) (ts : List Ctype) → waits a ≡ true → AllWait ts → run a ts ≡ lastly a ts
wait_run a [] e h = refl
wait_run a (t ∷ rest) e h = ap (λ (x : Ctype). run x rest) (waits_gives a t e) ∙ wait_run t rest h.0 h.1

wait_is : (a t : Ctype) (ts : List Ctype) → AllWait (t ∷ ts) → (run a (t ∷ ts) ≡ a) ⊎ (run a (t ∷ ts) ≡ lastly t ts)
wait_is a t [] h = together_is a t
wait_is a t (u ∷ ts) h =
    elim (together_is a t) [
      | inl e ↦ elim (wait_is a u ts h.1) [ inl f ↦ inl (ap (λ (x : Ctype). run x (u ∷ ts)) e ∙ f) | inr f ↦ inr (ap (λ (x : Ctype). run x (u ∷ ts)) e ∙ f) ]
      | inr e ↦ inr (ap (λ (x : Ctype). run x (u ∷ ts)) e ∙ wait_run t (u ∷ ts) h.0 h.1)
    ]

last_waits : (t : Ctype) (ts : List Ctype) → AllWait (t ∷ ts) → waits (lastly t ts) ≡ true
last_waits t [] h = h.0
last_waits t (u ∷ ts) h = last_waits u ts h.1

-- twice they give what they give once
twice_waiting : (a t : Ctype) (ts : List Ctype) → AllWait (t ∷ ts) → run (run a (t ∷ ts)) (t ∷ ts) ≡ run a (t ∷ ts)
twice_waiting a t ts h =
    let w = t ∷ ts in
    elim (wait_is a t ts h) [
      | inl e ↦ ap (λ (x : Ctype). run x w) e
      | inr e ↦ ap (λ (x : Ctype). run x w) e ∙ (wait_run (lastly t ts) w (last_waits t ts h) h ∙ sym e)
    ]

run_twice : (a : Ctype) (ts : List Ctype) → run (run a ts) ts ≡ run a ts
run_twice a [] = refl
run_twice a (t ∷ ts) =
    elim (kind_of (t ∷ ts)) [
      | inl h ↦ h.is (run a (t ∷ ts)) ∙ sym (h.is a)
      | inr h ↦ twice_waiting a t ts h
    ]

all_run : (a : Ctype) (ts : List Ctype) → all_together (Some a) ts ≡ Some (run a ts)
all_run a [] = refl
all_run a (t ∷ ts) = all_run (together a t) ts

some_twice : (a : Ctype) (ts : List Ctype) → all_together (all_together (Some a) ts) ts ≡ all_together (Some a) ts
some_twice a ts =
    ap (λ (o : Option Ctype). all_together o ts) (all_run a ts) ∙ (all_run (run a ts) ts ∙ (ap Some (run_twice a ts) ∙ sym (all_run a ts)))

together_round : (o : Option Ctype) (ts : List Ctype) → all_together (all_together o ts) ts ≡ all_together o ts
together_round None [] = refl
together_round None (t ∷ ts) =
    let w = t ∷ ts in
    let e : all_together (Some t) ts ≡ all_together (Some t) w = ap (λ (x : Ctype). all_together (Some x) ts) (sym (together_self t)) in
    ap (λ (o : Option Ctype). all_together o w) e ∙ (some_twice t w ∙ sym e)
together_round (Some a) ts = some_twice a ts

or_assoc : (a b c : Bool) → (a || (b || c)) ≡ ((a || b) || c)
or_assoc true b c = refl
or_assoc false b c = refl

or_pairs : (a b c d : Bool) → (a || c) ≡ a → (b || d) ≡ b → ((a || b) || (c || d)) ≡ (a || b)
or_pairs true b c d e f = refl
or_pairs false b true d e f = absurd (cc)
or_pairs false b false d e f = f

module _ (s : Source) (sense : ℕ → Sense) where
  types_append : (ds es : List Declared) → types_of s sense (ds ++ es) ≡ types_of s sense ds ++ types_of s sense es
  types_append [] es = refl
  types_append (d ∷ ds) es = types_by (own_type s sense d.node) (types_of s sense ds) (types_of s sense es) (types_of s sense (ds ++ es)) (types_append ds es)

  same_append : (w : World) (t : Ctype) (ds es : List Declared) → all_same w s sense t (ds ++ es) ≡ (all_same w s sense t ds && all_same w s sense t es)
  same_append w t [] es = refl
  same_append w t (d ∷ ds) es =
      ap (λ (b : Bool). is_type t (own_type s sense d.node) && b) (same_append w t ds es) ∙ and_assoc (is_type t (own_type s sense d.node)) (all_same w s sense t ds) (all_same w s sense t es)

  some_append : (test : Declared → Bool) (ds es : List Declared) → some_such s sense test (ds ++ es) ≡ (some_such s sense test ds || some_such s sense test es)
  some_append test [] es = refl
  some_append test (d ∷ ds) es = ap (λ (b : Bool). test d || b) (some_append test ds es) ∙ or_assoc (test d) (some_such s sense test ds) (some_such s sense test es)

  -- declarations that others are like, one by one
  abbrev AreAlike : List Declared → List Declared → Type 0
  AreAlike [] [] = ⊤
  AreAlike (d ∷ ds) (e ∷ es) = IsAlike s sense d.node e.node × AreAlike ds es
  AreAlike ds es = ⊥

  alike_types : (ds es : List Declared) → AreAlike ds es → types_of s sense es ≡ types_of s sense ds
  alike_types [] [] h = refl
  alike_types [] (e ∷ es) h = elim h [ ]
  alike_types (d ∷ ds) [] h = elim h [ ]
  alike_types (d ∷ ds) (e ∷ es) h =
      let with : Option Ctype → List Ctype → List Ctype = λ o l. elim o as (λ p. List Ctype) [ None ↦ l | Some t ↦ t ∷ l ] in
      ap (λ (o : Option Ctype). with o (types_of s sense es)) h.0.types ∙ ap (λ (l : List Ctype). with (own_type s sense d.node) l) (alike_types ds es h.1)

  alike_same : (w : World) (t : Ctype) (ds es : List Declared) → AreAlike ds es → all_same w s sense t es ≡ all_same w s sense t ds
  alike_same w t [] [] h = refl
  alike_same w t [] (e ∷ es) h = elim h [ ]
  alike_same w t (d ∷ ds) [] h = elim h [ ]
  alike_same w t (d ∷ ds) (e ∷ es) h =
      ap (λ (o : Option Ctype). is_type t o && all_same w s sense t es) h.0.types ∙ ap (λ (b : Bool). is_type t (own_type s sense d.node) && b) (alike_same w t ds es h.1)

  alike_defined : (w : World) (ds es : List Declared) → AreAlike ds es
      → (some_such s sense (λ d. defines w s sense d.node) ds || some_such s sense (λ d. defines w s sense d.node) es) ≡ some_such s sense (λ d. defines w s sense d.node) ds
  alike_defined w [] [] h = refl
  alike_defined w [] (e ∷ es) h = elim h [ ]
  alike_defined w (d ∷ ds) [] h = elim h [ ]
  alike_defined w (d ∷ ds) (e ∷ es) h =
      let test : Declared → Bool = λ x. defines w s sense x.node in
      or_pairs (test d) (some_such s sense test ds) (test e) (some_such s sense test es) (h.0.defined w) (alike_defined w ds es h.1)

  alike_first : (leaf : ℕ) (front ds es : List Declared) → AreAlike ds es → first_of s sense leaf (front ++ ds) ≡ first_of s sense leaf ((front ++ ds) ++ es)
  alike_first leaf (x ∷ front) ds es h = refl
  alike_first leaf [] [] [] h = refl
  alike_first leaf [] [] (e ∷ es) h = elim h [ ]
  alike_first leaf [] (d ∷ ds) es h = refl

  -- a list gives what it gives with its end once more
  round_thin : (front ds es : List Declared) → AreAlike ds es → IsThin s sense ((front ++ ds) ++ es) (front ++ ds)
  round_thin front ds es h = record {
    together =
        let o = all_together None (types_of s sense front) in
        let one : all_together None (types_of s sense (front ++ ds)) ≡ all_together o (types_of s sense ds) =
        ap (all_together None) (types_append front ds) ∙ together-append s sense None (types_of s sense front) (types_of s sense ds) in
        let two : all_together None (types_of s sense ((front ++ ds) ++ es)) ≡ all_together (all_together None (types_of s sense (front ++ ds))) (types_of s sense es) =
        ap (all_together None) (types_append (front ++ ds) es) ∙ together-append s sense None (types_of s sense (front ++ ds)) (types_of s sense es) in
        let again : all_together (all_together None (types_of s sense (front ++ ds))) (types_of s sense es) ≡ all_together (all_together o (types_of s sense ds)) (types_of s sense ds) =
        ap (λ (x : Option Ctype). all_together x (types_of s sense es)) one ∙ ap (all_together (all_together o (types_of s sense ds))) (alike_types ds es h) in
        one ∙ sym (two ∙ (again ∙ together_round o (types_of s sense ds)));
    same = λ w t.
        let a = all_same w s sense t front in
        let b = all_same w s sense t ds in
        let one = same_append w t front ds in
        one
        ∙ (sym (and_twice a b)
        ∙ (ap (λ (x : Bool). x && b) (sym one)
        ∙ (ap (λ (x : Bool). all_same w s sense t (front ++ ds) && x) (sym (alike_same w t ds es h))
        ∙ sym (same_append w t (front ++ ds) es))));
    defined = λ w.
        let test : Declared → Bool = λ x. defines w s sense x.node in
        let a = some_such s sense test front in
        let b = some_such s sense test ds in
        let c = some_such s sense test es in
        let one = some_append test front ds in
        one
        ∙ (ap (λ (x : Bool). a || x) (sym (alike_defined w ds es h))
        ∙ (or_assoc a b c
        ∙ (ap (λ (x : Bool). x || c) (sym one)
        ∙ sym (some_append test (front ++ ds) es))));
    first = λ leaf. alike_first leaf front ds es h;
  }

  thin_on : (ds mid thin : List Declared) → IsThin s sense ds mid → IsThin s sense mid thin → IsThin s sense ds thin
  thin_on ds mid thin h k = record {
    together = k.together ∙ h.together;
    same = λ w t. k.same w t ∙ h.same w t;
    defined = λ w. k.defined w ∙ h.defined w;
    first = λ leaf. k.first leaf ∙ h.first leaf;
  }

alike_now : (syntax : Syntax) (results : List Made) (ds es : List Declared) → StayAlike syntax results ds es → (u : Unit) (uses : List (ℕ × ℕ)) (more : List Made) → AreAlike (source_in syntax uses) (later u results more) ds es
alike_now syntax results [] [] h u uses more = tt
alike_now syntax results [] (e ∷ es) h u uses more = elim h [ ]
alike_now syntax results (d ∷ ds) [] h u uses more = elim h [ ]
alike_now syntax results (d ∷ ds) (e ∷ es) h u uses more = (h.0 u uses more, alike_now syntax results ds es h.1 u uses more)

-- with a declaration more a list is as one of its beginnings
pub goes_round : (syntax : Syntax) (results : List Made) (thin kept : List Declared) (d : Declared) → IsRound syntax results thin kept d → GoesOn syntax results thin (d ∷ []) kept
goes_round syntax results thin kept d r = λ u uses more ds h.
    let s = source_in syntax uses in
    let F = later u results more in
    let whole : thin ++ d ∷ [] ≡ (r.front ++ r.first) ++ r.second = r.more ∙ ap (λ (l : List Declared). l ++ r.second) r.ends in
    let here : IsThin s F (ds ++ d ∷ []) ((r.front ++ r.first) ++ r.second) = subst (λ (l : List Declared). IsThin s F (ds ++ d ∷ []) l) whole (thin_more s F ds thin d h) in
    let there : IsThin s F ((r.front ++ r.first) ++ r.second) (r.front ++ r.first) = round_thin s F r.front r.first r.second (alike_now syntax results r.first r.second r.alike u uses more) in
    subst (λ (l : List Declared). IsThin s F (ds ++ d ∷ []) l) (sym r.ends) (thin_on s F (ds ++ d ∷ []) ((r.front ++ r.first) ++ r.second) (r.front ++ r.first) here there)

-- a round so far, from its end back to two links
pub record IsTail (syntax : Syntax) (results : List Made) (links : List Link) (last : Option ℕ) (kept : ℕ) (d : Declared) (one other : Option ℕ) : Type 0 where
  pub first : List Declared
  pub second : List Declared
  pub ends : listed links (Some kept) ≡ listed links one ++ first
  pub more : listed links last ++ d ∷ [] ≡ listed links other ++ second
  pub alike : StayAlike syntax results first second

module _ (syntax : Syntax) (results : List Made) (links : List Link) (back : AreBackward links) (last : Option ℕ) (kept : ℕ) (d : Declared) where
  pub tail_begins : (l : Link) → slice_get links kept ≡ Some l → StaysAlike syntax results l.declared.node d.node → IsTail syntax results links last kept d l.before last
  tail_begins l at a = record {
    first = l.declared ∷ [];
    second = d ∷ [];
    ends = listed-step links kept l at back;
    more = refl;
    alike = (a, tt);
  }

  -- one step back
  step : (i : ℕ) (l : Link) (rest : List Declared) → slice_get links i ≡ Some l → listed links (Some i) ++ rest ≡ listed links l.before ++ l.declared ∷ rest
  step i l rest at = ap (λ (x : List Declared). x ++ rest) (listed-step links i l at back) ∙ append_assoc (listed links l.before) (l.declared ∷ []) rest

  pub tail_more : (here there : ℕ) (one other : Link) → slice_get links here ≡ Some one → slice_get links there ≡ Some other → StaysAlike syntax results one.declared.node other.declared.node
      → IsTail syntax results links last kept d (Some here) (Some there) → IsTail syntax results links last kept d one.before other.before
  tail_more here there one other at_one at_other a t = record {
    first = one.declared ∷ t.first;
    second = other.declared ∷ t.second;
    ends = t.ends ∙ step here one t.first at_one;
    more = t.more ∙ step there other t.second at_other;
    alike = (a, t.alike);
  }

  pub tail_round : (one : Option ℕ) → IsTail syntax results links last kept d one (Some kept) → IsRound syntax results (listed links last) (listed links (Some kept)) d
  tail_round one t = record { front = listed links one; first = t.first; second = t.second; ends = t.ends; more = t.more; alike = t.alike }
