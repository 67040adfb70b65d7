-- Each kind of step keeps the rule.
use Rattle.std.proofs.Common.{◌≡◌, ℕ, zero, suc, ◌+◌, ◌*◌, ◌/◌, ◌%◌, ◌^◌, ◌<◌, ◌≤◌, ◌||◌, ◌==◌, ◌⊎◌, Bool, true, List, [], ◌∷◌, ◌++◌, length, get_or, set, take, replicate, refl, sym, ap, ◌∙◌, subst, inl, inr, arith, mul-pos, pow_pos, bit_or, length-set, get_or-set_same, get_or-set_other, get_or-take, true≢false}
use Rattle.std.specs.Int.{bit_at}
use Rattle.std.proofs.lemmas.List.{set-get_or, take-set-le, get_or_past, length-take-le, length-take, length-replicate}
use Rattle.std.proofs.lemmas.Nat.Bits.{bit_at-zero}
use Rattle.std.proofs.Math.Seq.{take-set-lt}
use Rattle.std.proofs.lemmas.Bool.{cases_eq, cases_lt, or_cases}
use Rattle.std.proofs.lemmas.Bool.Decides.{nat_tests}
use mathlib.Core.Option.{Option, none, some, some-ne-none}
use lib.ListN.{get_elem?}
use Rattle.atomic_table.specs.Table.{State, Me, step, opening, keeps, Allows, Splits, Joins}
use Rattle.atomic_table.proofs.Lists.{at_set, at_snoc}
use Rattle.sol_model.specs.declared.system.System.{System}
use Rattle.sol_model.specs.Families.{Family, Has, IsInside, shown}
use Rattle.sol_model.specs.Solutions.{IsClosed, IsBelow, IsGiven}
use Rattle.sol_model.specs.Systems.{IsValid, width_of}
use Rattle.sol_model.specs.Words.{Within, At}
use Rattle.sol_model.proofs.Words.{has_bit, bit_has, words_inside, within_set, or_has, or_keeps, within_or, adds_or, from_or, fact_place}
use Rattle.sol_model.proofs.Monotone.{given_in_closed}
use Rattle.sol_model.proofs.Closed.{given_more, closed_same}
use Rattle.set_rows.specs.declared.view.View.{View}
use Rattle.set_rows.specs.Views.{words_of, known, fresh, looked, added, shutting, reading, half_kept, half_given, united, met, IsLeastWord, IsBelowWord, nobody, looked_at, added_at, shut_at, read_at, drew_at}
use Rattle.set_rows.specs.Rule.{rows_in, closing_word, IsReached, Stands, Held, IsWhole, Kept}
use Rattle.std.proofs.Common.{mul-zero}
use Rattle.set_rows.proofs.Holding.{Grown, held_seen, held_start, held_add, held_behind, held_shut, held_split, held_meet}
use Rattle.set_rows.proofs.Wholes.{SameShare, whole_same, whole_start, whole_split, whole_meet}
use Rattle.set_rows.specs.declared.rows_core.event.Event.TheVariants.{Shut}
use Rattle.set_rows.specs.rows_core.Machine.{Machine, start, run, next}
use Rattle.set_rows.proofs.rows_core.Runs.{run_snoc, may_join}
use Rattle.set_rows.proofs.Events.{In, ors, facts_of, in_facts, facts_in, ors_licensed, ors_keep, ors_add, ors_only, ors_open}

abbrev Mine : Type 0
Mine = Me (Unit {0}) View

abbrev Homes : Type 0
Homes = List (Option (Unit {0}))

abbrev with_view : State (Unit {0}) View → Homes → ℕ → View → State (Unit {0}) View
with_view s homes id w = record { words = s.words; homes = homes; views = set s.views id w }

-- the rule, with one view changed
view_changed : (S : System) (s : State (Unit {0}) View) (homes : Homes) (id : ℕ) (v w : View) → Kept S s → get_elem? s.views id ≡ some v → Grown v w → SameShare v w → (w.live ≡ true → Stands S w s.words) → Kept S (with_view s homes id w)
view_changed S s homes id v w kept here grown same stands = record {
  valid = kept.valid;
  sized = kept.sized;
  reached = kept.reached;
  below = kept.below;
  closing = kept.closing;
  closed = kept.closed;
  views = λ seat v at live. elim (at_set s.views id seat w v at) [
    | inl e ↦ subst (λ (u : View). Stands S u s.words) e.1 (stands (ap (λ (u : View). u.live) e.1 ∙ live))
    | inr e ↦ kept.views seat v e.1 live
  ];
  held = held_seen (words_of S) s.words s.views id v w here grown kept.held;
  whole = whole_same s.views id v w here same kept.whole;
}

-- a word that is written as it was
word_same : (S : System) (s : State (Unit {0}) View) (homes : Homes) (views : List View) (i : ℕ)
    → Kept S record { words = s.words; homes = homes; views = views } → Kept S record { words = set s.words i (get_or s.words i 0); homes = homes; views = views }
word_same S s homes views i kept = subst (λ (ws : List ℕ). Kept S record { words = ws; homes = homes; views = views }) (sym (set-get_or s.words i 0)) kept

within_set_here : (v : View) (words : List ℕ) (i : ℕ) → i < length v.seen → ((j : ℕ) → Within (get_or v.seen j 0) (get_or words j 0)) → (j : ℕ) → Within (get_or (set v.seen i (get_or words i 0)) j 0) (get_or words j 0)
within_set_here v words i lt w j k h = elim (cases_eq j i) [
  | inl e ↦ subst (λ (n : ℕ). bit_at (get_or words n 0) k ≡ 1) (sym e) (subst (λ (x : ℕ). bit_at x k ≡ 1) (ap (λ n. get_or (set v.seen i (get_or words i 0)) n 0) e ∙ get_or-set_same v.seen i (get_or words i 0) 0 lt) h)
  | inr ne ↦ w j k (ap (λ x. bit_at x k) (sym (get_or-set_other v.seen i j (get_or words i 0) 0 ne)) ∙ h)
]

looked_stands : (S : System) (v : View) (words : List ℕ) (i : ℕ) → i < words_of S → Stands S v words → Stands S (looked v i (get_or words i 0)) words
looked_stands S v words i lt st = record {
  system = st.system;
  sized = length-set v.seen i (get_or words i 0) ∙ st.sized;
  some_part = st.some_part;
  seen = record {
    facts = within_set_here v words i (let e = st.sized in omega arith) st.seen.facts;
    last_known = st.seen.last_known;
    closing_known = st.seen.closing_known;
  };
}

looked_grown : (S : System) (v : View) (words : List ℕ) (i : ℕ) → i < words_of S → Stands S v words → Grown v (looked v i (get_or words i 0))
looked_grown S v words i lt st = record {
  live = λ l. l;
  seen = λ j k h. within_set v.seen i (get_or words i 0) (let e = st.sized in omega arith) (st.seen.facts i) j k h;
  knows = λ l. l;
}

-- where the closing word is 1 each word is that of the least solution
least_word : (S : System) (s : State (Unit {0}) View) (i : ℕ) → Kept S s → i < words_of S → closing_word S s.words ≡ 1 → IsLeastWord S i (get_or s.words i 0)
least_word S s i kept lt shut = (
  rows_in S s.words,
  record { closed = kept.closed shut; below = kept.below },
  λ row location small here.
      let same : get_or (take (words_of S) s.words) (row * width_of S + location / 64) 0 ≡ get_or s.words i 0 = ap (λ n. get_or (take (words_of S) s.words) n 0) here ∙ get_or-take (words_of S) s.words i 0 lt in (
        (λ h. subst (λ (x : ℕ). bit_at x (location % 64) ≡ 1) same (has_bit (width_of S) (take (words_of S) s.words) row location h).2),
        λ h. bit_has (width_of S) (take (words_of S) s.words) row location small (ap (λ x. bit_at x (location % 64)) same ∙ h),
      ),
)

-- the facts of each word are below every closed family
below_word : (S : System) (s : State (Unit {0}) View) (i : ℕ) → Kept S s → i < words_of S → IsBelowWord S i (get_or s.words i 0)
below_word S s i kept lt row location at G closed =
    let same : get_or (take (words_of S) s.words) (row * width_of S + location / 64) 0 ≡ get_or s.words i 0 = ap (λ n. get_or (take (words_of S) s.words) n 0) at.1 ∙ get_or-take (words_of S) s.words i 0 lt in
    kept.below G closed row location (bit_has (width_of S) (take (words_of S) s.words) row location at.0 (ap (λ x. bit_at x (location % 64)) same ∙ at.2))

known_shut : (S : System) (v : View) (words : List ℕ) → Stands S v words → v.knows ≡ true → closing_word S words ≡ 1
known_shut S v words st knows = ap (λ (T : System). closing_word T words) (sym st.system) ∙ st.seen.closing_known knows

pub looks : (S : System) (slots id : ℕ) (me : Mine) (i : ℕ) → me.0.live ≡ true → i < words_of S
    → Allows (Kept S) slots id me i (λ n. n) (looked_at (step slots i 0 0 none) me)
looks S slots id me i live lt s kept _ at _ =
    let found : ℕ = get_or s.words i 0 in
    let st = kept.views id me.0 at live in (
      looked me.0 i found,
      keeps,
      tt,
      word_same S s s.homes (set s.views id (looked me.0 i found)) i (view_changed S s s.homes id me.0 (looked me.0 i found) kept at (looked_grown S me.0 s.words i lt st) (record { part = refl; halvings = refl; live = refl }) (λ _. looked_stands S me.0 s.words i lt st)),
      (
        refl,
        st.seen.facts i,
        λ knows. subst (λ (T : System). IsLeastWord T i found) (sym st.system) (least_word S s i kept lt (known_shut S me.0 s.words st knows)),
        subst (λ (T : System). IsBelowWord T i found) (sym st.system) (below_word S s i kept lt),
      ),
    )

-- what a live seat has seen is in the rows
known_inside : (S : System) (v : View) (words : List ℕ) → words_of S ≤ length words → Stands S v words → IsInside (shown (width_of S) v.seen) (rows_in S words)
known_inside S v words long st = words_inside (width_of S) v.seen (take (words_of S) words) (λ i k h. elim (cases_lt i (words_of S)) [
  | inl lt ↦ ap (λ x. bit_at x k) (get_or-take (words_of S) words i 0 lt) ∙ st.seen.facts i k h
  | inr ge ↦ absurd (let none_set = bit_at-zero k in let past : get_or v.seen i 0 ≡ 0 = get_or_past v.seen i 0 (let e = st.sized in omega arith) in let b = ap (λ x. bit_at x k) (sym past) ∙ h in omega arith)
])

known_is : (S : System) (v : View) → v.system ≡ S → known v ≡ shown (width_of S) v.seen
known_is S v e = ap (λ (T : System). shown (width_of T) v.seen) e

-- the rows after a `fetch_or` on one of their words
rows_after : (S : System) (words : List ℕ) (i mask : ℕ) → i < words_of S
    → rows_in S (set words i (bit_or (get_or words i 0) mask)) ≡ shown (width_of S) (set (take (words_of S) words) i (bit_or (get_or (take (words_of S) words) i 0) mask))
rows_after S words i mask lt =
    let n : ℕ = words_of S in
    ap (shown (width_of S)) (take-set-lt n words i (bit_or (get_or words i 0) mask) lt ∙ ap (λ (x : ℕ). set (take n words) i (bit_or x mask)) (sym (get_or-take n words i 0 lt)))

taken : (S : System) (words : List ℕ) → length words ≡ words_of S + 2 → length (take (words_of S) words) ≡ words_of S
taken S words e = length-take-le (words_of S) words (omega arith)

rows_after_has : (S : System) (words : List ℕ) (i mask row location : ℕ) → i < words_of S → length words ≡ words_of S + 2
    → Has (rows_in S (set words i (bit_or (get_or words i 0) mask))) row location → Has (rows_in S words) row location ⊎ At (width_of S) i mask row location
rows_after_has S words i mask row location lt sized h =
    or_has (width_of S) (take (words_of S) words) i mask row location (let e = taken S words sized in omega arith) (subst (λ (F : Family). Has F row location) (rows_after S words i mask lt) h)

rows_after_add : (S : System) (words : List ℕ) (i mask row location : ℕ) → i < words_of S → length words ≡ words_of S + 2
    → At (width_of S) i mask row location → Has (rows_in S (set words i (bit_or (get_or words i 0) mask))) row location
rows_after_add S words i mask row location lt sized at =
    let n : ℕ = words_of S in
    let y : ℕ = bit_or (get_or words i 0) mask in
    bit_has (width_of S) (take n (set words i y)) row location at.0
    (ap (λ x. bit_at x (location % 64)) (ap (λ (j : ℕ). get_or (take n (set words i y)) j 0) at.1 ∙ get_or-take n (set words i y) i 0 lt ∙ get_or-set_same words i y 0 (omega arith))
    ∙ adds_or (get_or words i 0) mask (location % 64) at.2)

rows_after_keep : (S : System) (words : List ℕ) (i mask : ℕ) → i < words_of S → length words ≡ words_of S + 2
    → IsInside (rows_in S words) (rows_in S (set words i (bit_or (get_or words i 0) mask)))
rows_after_keep S words i mask lt sized = subst (λ (F : Family). IsInside (rows_in S words) F) (sym (rows_after S words i mask lt))
    (or_keeps (width_of S) (take (words_of S) words) i mask (let e = taken S words sized in omega arith))

-- a view stands where words have grown
stands_more : (S : System) (v : View) (xs ys : List ℕ) → ((j : ℕ) → Within (get_or xs j 0) (get_or ys j 0)) → (closing_word S xs ≡ 1 → closing_word S ys ≡ 1) → Stands S v xs → Stands S v ys
stands_more S v xs ys more shut st = record {
  system = st.system;
  sized = st.sized;
  some_part = st.some_part;
  seen = record {
    facts = λ j k h. more j k (st.seen.facts j k h);
    last_known = st.seen.last_known;
    closing_known = λ knows. ap (λ (T : System). closing_word T ys) st.system ∙ shut (known_shut S v xs st knows);
  };
}

added_stands : (S : System) (v : View) (words : List ℕ) (i mask : ℕ) → i < words_of S → length words ≡ words_of S + 2 → Stands S v words
    → Stands S (added v i mask (get_or words i 0)) (set words i (bit_or (get_or words i 0) mask))
added_stands S v words i mask lt sized st =
    let new : ℕ = bit_or (get_or words i 0) mask in
    let more = within_set words i new (omega arith) (within_or (get_or words i 0) mask) in
    let long : i < length v.seen = (let e = st.sized in omega arith) in record {
      system = st.system;
      sized = length-set v.seen i new ∙ st.sized;
      some_part = st.some_part;
      seen = record {
        facts = λ j k h. elim (cases_eq j i) [
          | inl e ↦ subst (λ (x : ℕ). bit_at x k ≡ 1) (sym (ap (λ n. get_or (set words i new) n 0) e ∙ get_or-set_same words i new 0 (omega arith)))
              (subst (λ (x : ℕ). bit_at x k ≡ 1) (ap (λ n. get_or (set v.seen i new) n 0) e ∙ get_or-set_same v.seen i new 0 long) h)
          | inr ne ↦ more j k (st.seen.facts j k (ap (λ x. bit_at x k) (sym (get_or-set_other v.seen i j new 0 ne)) ∙ h))
        ];
        last_known = st.seen.last_known;
        closing_known = λ knows. ap (λ (T : System). closing_word T (set words i new)) st.system ∙ get_or-set_other words i (words_of S) new 0 (λ e. omega arith) ∙ known_shut S v words st knows;
      };
    }

adds_below : (S : System) (words : List ℕ) (v : View) (i mask : ℕ) → i < words_of S → length words ≡ words_of S + 2 → Stands S v words → IsBelow S (rows_in S words)
    → ((row location : ℕ) → At (width_of S) i mask row location → IsGiven S (shown (width_of S) v.seen) row location)
    → IsBelow S (rows_in S (set words i (bit_or (get_or words i 0) mask)))
adds_below S words v i mask lt sized st below may G closed row location h = elim (rows_after_has S words i mask row location lt sized h) [
  | inl o ↦ below G closed row location o
  | inr at ↦ given_in_closed S (shown (width_of S) v.seen) G (λ r l k. below G closed r l (known_inside S v words (omega arith) st r l k)) row location closed (may row location at)
]

adds_closed : (S : System) (words : List ℕ) (v : View) (i mask : ℕ) → i < words_of S → length words ≡ words_of S + 2 → Stands S v words → IsClosed S (rows_in S words)
    → ((row location : ℕ) → At (width_of S) i mask row location → IsGiven S (shown (width_of S) v.seen) row location)
    → IsClosed S (rows_in S (set words i (bit_or (get_or words i 0) mask)))
adds_closed S words v i mask lt sized st closed may =
    closed_same S (rows_in S words) (rows_in S (set words i (bit_or (get_or words i 0) mask)))
    (rows_after_keep S words i mask lt sized)
    (λ row location h. elim (rows_after_has S words i mask row location lt sized h) [
      | inl o ↦ o
      | inr at ↦ given_in_closed S (shown (width_of S) v.seen) (rows_in S words) (known_inside S v words (omega arith) st) row location closed (may row location at)
    ])
    closed

adds_reached : (S : System) (words : List ℕ) (v : View) (i mask : ℕ) → i < words_of S → length words ≡ words_of S + 2 → Stands S v words
    → closing_word S (set words i (bit_or (get_or words i 0) mask)) ≡ closing_word S words → IsReached S words
    → ((row location : ℕ) → At (width_of S) i mask row location → IsGiven S (shown (width_of S) v.seen) row location)
    → IsReached S (set words i (bit_or (get_or words i 0) mask))
adds_reached S words v i mask lt sized st other r may =
    let W : ℕ = width_of S in
    let new : List ℕ = set words i (bit_or (get_or words i 0) mask) in
    let m : Machine = run start r.events in
    let wide : 0 < W = elim (cases_eq W 0) [ inl z ↦ absurd (let n : words_of S ≡ 0 = ap (λ x. S.rows * x) z ∙ mul-zero S.rows in omega arith) | inr ne ↦ omega arith ] in
    let fs : List (ℕ × ℕ) = facts_of W i mask 64 in
    let given : (f : ℕ × ℕ) → In f fs → IsGiven S m.rows f.0 f.1 = λ f k.
    given_more S (shown W v.seen) m.rows (λ a b h. r.no_others a b (known_inside S v words (omega arith) st a b h)) f.0 f.1 (may f.0 f.1 (in_facts W i mask 64 f.0 f.1 wide (omega arith) k)) in
    let whole : run start (r.events ++ ors fs) ≡ run m (ors fs) = run_snoc start r.events (ors fs) in record {
      events = r.events ++ ors fs;
      licensed = may_join S start r.events (ors fs) r.licensed (ors_licensed S m fs given);
      rows_there = subst (λ (n : Machine). IsInside n.rows (rows_in S new)) (sym whole) (λ a b h. elim (ors_only m fs a b h) [
        | inl o ↦ rows_after_keep S words i mask lt sized a b (r.rows_there a b o)
        | inr k ↦ rows_after_add S words i mask a b lt sized (in_facts W i mask 64 a b wide (omega arith) k)
      ]);
      no_others = subst (λ (n : Machine). IsInside (rows_in S new) n.rows) (sym whole) (λ a b h. elim (rows_after_has S words i mask a b lt sized h) [
        | inl o ↦ ors_keep m fs a b (r.no_others a b o)
        | inr at ↦ ors_add m fs a b (facts_in W i mask 64 a b wide (omega arith) at)
      ]);
      mark = ap (λ (n : Machine). n.shut) whole ∙ ors_open m fs ∙ r.mark ∙ ap (λ (c : ℕ). c == 1) (sym other);
    }

reached_same : (S : System) (xs ys : List ℕ) → rows_in S ys ≡ rows_in S xs → closing_word S ys ≡ closing_word S xs → IsReached S xs → IsReached S ys
reached_same S xs ys rows closing r = record {
  events = r.events;
  licensed = r.licensed;
  rows_there = subst (λ (F : Family). IsInside (run start r.events).rows F) (sym rows) r.rows_there;
  no_others = subst (λ (F : Family). IsInside F (run start r.events).rows) (sym rows) r.no_others;
  mark = r.mark ∙ ap (λ (c : ℕ). c == 1) (sym closing);
}

reached_shut : (S : System) (xs ys : List ℕ) → rows_in S ys ≡ rows_in S xs → closing_word S ys ≡ 1 → IsClosed S (rows_in S xs) → IsReached S xs → IsReached S ys
reached_shut S xs ys rows one closed r =
    let m : Machine = run start r.events in
    let whole : run start (r.events ++ Shut ∷ []) ≡ next m Shut = run_snoc start r.events (Shut ∷ []) in record {
      events = r.events ++ Shut ∷ [];
      licensed = may_join S start r.events (Shut ∷ []) r.licensed (closed_same S (rows_in S xs) m.rows r.no_others r.rows_there closed, tt);
      rows_there = subst (λ (n : Machine). IsInside n.rows (rows_in S ys)) (sym whole) (subst (λ (F : Family). IsInside m.rows F) (sym rows) r.rows_there);
      no_others = subst (λ (n : Machine). IsInside (rows_in S ys) n.rows) (sym whole) (subst (λ (F : Family). IsInside F m.rows) (sym rows) r.no_others);
      mark = ap (λ (n : Machine). n.shut) whole ∙ ap (λ (c : ℕ). c == 1) (sym one);
    }

adds_kept : (S : System) (s : State (Unit {0}) View) (id : ℕ) (v : View) (i mask : ℕ) → i < words_of S → v.live ≡ true → get_elem? s.views id ≡ some v → Kept S s → Stands S v s.words
    → ((row location : ℕ) → At (width_of S) i mask row location → IsGiven S (shown (width_of S) v.seen) row location)
    → Kept S record { words = set s.words i (bit_or (get_or s.words i 0) mask); homes = s.homes; views = set s.views id (added v i mask (get_or s.words i 0)) }
adds_kept S s id v i mask lt alive here kept st may =
    let new : ℕ = bit_or (get_or s.words i 0) mask in
    let sized : length s.words ≡ words_of S + 2 = kept.sized in
    let other : closing_word S (set s.words i new) ≡ closing_word S s.words = get_or-set_other s.words i (words_of S) new 0 (λ e. omega arith) in record {
      valid = kept.valid;
      sized = length-set s.words i new ∙ sized;
      reached = adds_reached S s.words v i mask lt sized st other kept.reached may;
      below = adds_below S s.words v i mask lt sized st kept.below may;
      closing = (let c = kept.closing in omega arith);
      closed = λ one. adds_closed S s.words v i mask lt sized st (kept.closed (sym other ∙ one)) may;
      views = λ seat u at live. elim (at_set s.views id seat (added v i mask (get_or s.words i 0)) u at) [
        | inl e ↦ subst (λ (w : View). Stands S w (set s.words i new)) e.1 (added_stands S v s.words i mask lt sized st)
        | inr e ↦ stands_more S u s.words (set s.words i new) (within_set s.words i new (omega arith) (within_or (get_or s.words i 0) mask)) (λ one. other ∙ one) (kept.views seat u e.1 live)
      ];
      held = held_add (words_of S) s.words s.views id v i mask lt (omega arith) (let e = st.sized in omega arith) alive st.seen.facts here kept.held;
      whole = whole_same s.views id v (added v i mask (get_or s.words i 0)) here (record { part = refl; halvings = refl; live = refl }) kept.whole;
    }

pub adds : (S : System) (slots id : ℕ) (me : Mine) (i mask : ℕ) → me.0.live ≡ true → i < words_of S
    → ((row location : ℕ) → At (width_of me.0.system) i mask row location → IsGiven me.0.system (known me.0) row location)
    → Allows (Kept S) slots id me i (λ n. bit_or n mask) (added_at (step slots i mask 0 none) me)
adds S slots id me i mask live lt may s kept _ at _ =
    let st = kept.views id me.0 at live in (
      added me.0 i mask (get_or s.words i 0),
      keeps,
      tt,
      adds_kept S s id me.0 i mask lt live at kept st (subst (λ (T : System). (row location : ℕ) → At (width_of T) i mask row location → IsGiven T (shown (width_of T) me.0.seen) row location) st.system may),
      (refl, st.seen.facts i, subst (λ (T : System). IsBelowWord T i (get_or s.words i 0)) (sym st.system) (below_word S s i kept lt)),
    )

-- the words change behind the rows alone, and the closing word does not fall
behind_kept : (S : System) (s : State (Unit {0}) View) (homes : Homes) (id : ℕ) (w : View) (i y : ℕ) → words_of S ≤ i → Kept S s
    → IsReached S (set s.words i y)
    → closing_word S (set s.words i y) ≤ 1
    → (closing_word S s.words ≡ 1 → closing_word S (set s.words i y) ≡ 1)
    → (closing_word S (set s.words i y) ≡ 1 → IsClosed S (rows_in S s.words))
    → ((v : View) → ((j : ℕ) → j < words_of S → get_or (set s.words i y) j 0 ≡ get_or s.words j 0) → Stands S v s.words → Stands S v (set s.words i y))
    → (w.live ≡ true → Stands S w (set s.words i y))
    → Held (words_of S) (set s.words i y) (set s.views id w)
    → IsWhole (set s.views id w)
    → Kept S record { words = set s.words i y; homes = homes; views = set s.views id w }
behind_kept S s homes id w i y behind kept reached small keep closed others own held whole =
    let rows : rows_in S (set s.words i y) ≡ rows_in S s.words = ap (shown (width_of S)) (take-set-le (words_of S) s.words i y behind) in record {
      valid = kept.valid;
      sized = length-set s.words i y ∙ kept.sized;
      reached = reached;
      below = subst (IsBelow S) (sym rows) kept.below;
      closing = small;
      closed = λ one. subst (IsClosed S) (sym rows) (closed one);
      views = λ seat u at live. elim (at_set s.views id seat w u at) [
        | inl e ↦ subst (λ (t : View). Stands S t (set s.words i y)) e.1 (own (ap (λ (t : View). t.live) e.1 ∙ live))
        | inr e ↦ others u (λ j lt. get_or-set_other s.words i j y 0 (λ e. omega arith)) (kept.views seat u e.1 live)
      ];
      held = held;
      whole = whole;
    }

-- a view stands where the words of the rows stay and the closing word does not fall
stands_behind : (S : System) (v : View) (xs ys : List ℕ) → ((j : ℕ) → j < words_of S → get_or ys j 0 ≡ get_or xs j 0) → (closing_word S xs ≡ 1 → closing_word S ys ≡ 1) → Stands S v xs → Stands S v ys
stands_behind S v xs ys same shut st = record {
  system = st.system;
  sized = st.sized;
  some_part = st.some_part;
  seen = record {
    facts = λ j k h. elim (cases_lt j (words_of S)) [
      | inl lt ↦ ap (λ x. bit_at x k) (same j lt) ∙ st.seen.facts j k h
      | inr ge ↦ absurd (let none_set = bit_at-zero k in let past : get_or v.seen j 0 ≡ 0 = get_or_past v.seen j 0 (let e = st.sized in omega arith) in let b = ap (λ x. bit_at x k) (sym past) ∙ h in omega arith)
    ];
    last_known = st.seen.last_known;
    closing_known = λ knows. ap (λ (T : System). closing_word T ys) st.system ∙ shut (known_shut S v xs st knows);
  };
}

knowing : (S : System) (v : View) (words : List ℕ) → closing_word S words ≡ 1 → Stands S v words → Stands S (shutting v) words
knowing S v words one st = record {
  system = st.system;
  sized = st.sized;
  some_part = st.some_part;
  seen = record { facts = st.seen.facts; last_known = λ _. refl; closing_known = λ _. ap (λ (T : System). closing_word T words) st.system ∙ one };
}

or_one : (c : ℕ) → c ≤ 1 → bit_or c 1 ≡ 1
or_one c le = elim (cases_eq c 0) [ inl z ↦ ap (λ x. bit_or x 1) z | inr p ↦ let one : c ≡ 1 = omega arith in ap (λ x. bit_or x 1) one ]

pub shuts : (S : System) (slots id : ℕ) (me : Mine) → me.0.live ≡ true → IsClosed me.0.system (known me.0)
    → Allows (Kept S) slots id me (words_of S) (λ n. bit_or n 1) (shut_at (step slots (words_of S) 1 0 none) me)
shuts S slots id me live closed s kept _ at _ =
    let n : ℕ = words_of S in
    let c : ℕ = get_or s.words n 0 in
    let st = kept.views id me.0 at live in
    let mine : IsClosed S (shown (width_of S) me.0.seen) = subst (λ (T : System). IsClosed T (shown (width_of T) me.0.seen)) st.system closed in
    let now : get_or (set s.words n (bit_or c 1)) n 0 ≡ 1 = get_or-set_same s.words n (bit_or c 1) 0 (let e = kept.sized in omega arith) ∙ or_one c kept.closing in
    let rows : IsClosed S (rows_in S s.words) = closed_same S (shown (width_of S) me.0.seen) (rows_in S s.words) (known_inside S me.0 s.words (let e = kept.sized in omega arith) st) (kept.below (shown (width_of S) me.0.seen) mine) mine in (
      shutting me.0,
      keeps,
      tt,
      behind_kept S s s.homes id (shutting me.0) n (bit_or c 1) (omega arith) kept (reached_shut S s.words (set s.words n (bit_or c 1)) (ap (shown (width_of S)) (take-set-le n s.words n (bit_or c 1) (omega arith))) now rows kept.reached) (omega arith) (λ _. now) (λ _. rows)
          (λ v same stv. stands_behind S v s.words (set s.words n (bit_or c 1)) same (λ _. now) stv)
          (λ _. knowing S me.0 (set s.words n (bit_or c 1)) now (stands_behind S me.0 s.words (set s.words n (bit_or c 1)) (λ j lt. get_or-set_other s.words n j (bit_or c 1) 0 (λ e. omega arith)) (λ _. now) st))
          (held_shut n (bit_or c 1) s.words s.views id me.0 live at kept.held)
          (whole_same s.views id me.0 (shutting me.0) at (record { part = refl; halvings = refl; live = refl }) kept.whole),
      refl,
    )

read_stands : (S : System) (v : View) (words : List ℕ) → Stands S v words → Stands S (reading v (closing_word S words)) words
read_stands S v words st = record {
  system = st.system;
  sized = st.sized;
  some_part = st.some_part;
  seen = record {
    facts = st.seen.facts;
    last_known = λ one. grind (arith, nat_tests);
    closing_known = λ knows. ap (λ (T : System). closing_word T words) st.system ∙ elim (or_cases v.knows _ knows) [ inl k ↦ known_shut S v words st k | inr t ↦ grind (arith, nat_tests) ];
  };
}

read_grown : (v : View) (found : ℕ) → Grown v (reading v found)
read_grown v found = record { live = λ l. l; seen = λ j k h. h; knows = λ knows. ap (λ (b : Bool). b || (found == 1)) knows }

pub reads : (S : System) (slots id : ℕ) (me : Mine) → me.0.live ≡ true → Allows (Kept S) slots id me (words_of S) (λ n. n) (read_at (step slots (words_of S) 0 0 none) me)
reads S slots id me live s kept _ at _ =
    let found : ℕ = closing_word S s.words in
    let st = kept.views id me.0 at live in (
      reading me.0 found,
      keeps,
      tt,
      word_same S s s.homes (set s.views id (reading me.0 found)) (words_of S) (view_changed S s s.homes id me.0 (reading me.0 found) kept at (read_grown me.0 found) (record { part = refl; halvings = refl; live = refl }) (λ _. read_stands S me.0 s.words st)),
      (refl, kept.closing, λ knows. known_shut S me.0 s.words st knows),
    )

pub draws : (S : System) (slots id : ℕ) (me : Mine) → me.0.live ≡ true → Allows (Kept S) slots id me (words_of S + 1) (λ n. (n + 1) % 2 ^ 64) (drew_at (step slots (words_of S + 1) 1 0 none) me)
draws S slots id me live s kept _ at _ =
    let n : ℕ = words_of S in
    let y : ℕ = (get_or s.words (n + 1) 0 + 1) % 2 ^ 64 in
    let st = kept.views id me.0 at live in
    let same : closing_word S (set s.words (n + 1) y) ≡ closing_word S s.words = get_or-set_other s.words (n + 1) n y 0 (λ e. omega arith) in (
      me.0,
      keeps,
      tt,
      behind_kept S s s.homes id me.0 (n + 1) y (omega arith) kept (reached_same S s.words (set s.words (n + 1) y) (ap (shown (width_of S)) (take-set-le n s.words (n + 1) y (omega arith))) same kept.reached) (let c = kept.closing in omega arith) (λ one. same ∙ one) (λ one. kept.closed (sym same ∙ one))
          (λ v rows stv. stands_behind S v s.words (set s.words (n + 1) y) rows (λ one. same ∙ one) stv)
          (λ _. stands_behind S me.0 s.words (set s.words (n + 1) y) (λ j lt. get_or-set_other s.words (n + 1) j y 0 (λ e. omega arith)) (λ one. same ∙ one) st)
          (held_behind n (n + 1) y s.words (set s.views id me.0) (omega arith) (held_seen n s.words s.views id me.0 me.0 at (record { live = λ l. l; seen = λ j k h. h; knows = λ l. l }) kept.held))
          (whole_same s.views id me.0 me.0 at (record { part = refl; halvings = refl; live = refl }) kept.whole),
      refl,
    )

half_stands : (S : System) (v : View) (words : List ℕ) → Stands S v words → Stands S (half_given v) words
half_stands S v words st = record {
  system = st.system;
  sized = st.sized;
  some_part = st.some_part;
  seen = record { facts = st.seen.facts; last_known = λ one. absurd (omega arith); closing_known = st.seen.closing_known };
}

kept_half : (S : System) (v : View) (words : List ℕ) → Stands S v words → Stands S (half_kept v) words
kept_half S v words st = record {
  system = st.system;
  sized = st.sized;
  some_part = st.some_part;
  seen = record { facts = st.seen.facts; last_known = st.seen.last_known; closing_known = st.seen.closing_known };
}

pub halves : (S : System) (id : ℕ) (v : View) → v.live ≡ true → Splits (Kept S) id v (half_kept v) (half_given v)
halves S id v live s kept at = let st = kept.views id v at live in record {
  valid = kept.valid;
  sized = kept.sized;
  reached = kept.reached;
  below = kept.below;
  closing = kept.closing;
  closed = kept.closed;
  views = λ seat u here alive. elim (at_snoc (set s.views id (half_kept v)) (half_given v) u seat here) [
    | inl e ↦ elim (at_set s.views id seat (half_kept v) u e) [
      | inl f ↦ subst (λ (t : View). Stands S t s.words) f.1 (kept_half S v s.words st)
      | inr f ↦ kept.views seat u f.1 alive
    ]
    | inr e ↦ subst (λ (t : View). Stands S t s.words) e (half_stands S v s.words st)
  ];
  held = held_split (words_of S) s.words s.views id v at kept.held;
  whole = whole_split s.views id v at live kept.whole;
}

united_has : (xs ys : List ℕ) (i k : ℕ) → bit_at (get_or (united xs ys) i 0) k ≡ 1 → (bit_at (get_or xs i 0) k ≡ 1) ⊎ (bit_at (get_or ys i 0) k ≡ 1)
united_has [] ys i k h = inr h
united_has (x ∷ xs) [] i k h = inl h
united_has (x ∷ xs) (y ∷ ys) zero k h = from_or x y k h
united_has (x ∷ xs) (y ∷ ys) (suc i) k h = united_has xs ys i k h

united_length : (xs ys : List ℕ) → length xs ≡ length ys → length (united xs ys) ≡ length xs
united_length [] ys e = sym e
united_length (x ∷ xs) [] e = absurd (omega arith)
united_length (x ∷ xs) (y ∷ ys) e = ap suc (united_length xs ys (omega arith))

met_stands : (S : System) (v w : View) (words : List ℕ) → Stands S v words → Stands S w words → Stands S (met v w) words
met_stands S v w words st su = record {
  system = st.system;
  sized = united_length v.seen w.seen (st.sized ∙ sym su.sized) ∙ st.sized;
  some_part = (let p = mul-pos st.some_part (pow_pos w.halvings) in omega arith);
  seen = record {
    facts = λ i k h. elim (united_has v.seen w.seen i k h) [ inl a ↦ st.seen.facts i k a | inr b ↦ su.seen.facts i k b ];
    last_known = λ one. rw (st.seen.last_known one) refl;
    closing_known = λ knows. ap (λ (T : System). closing_word T words) st.system ∙ elim (or_cases v.knows w.knows knows) [ inl k ↦ known_shut S v words st k | inr k ↦ known_shut S w words su k ];
  };
}

pub meets : (S : System) (id : ℕ) (v : View) (other : ℕ) (w : View) → v.live ≡ true → w.live ≡ true → Joins (Kept S) id v other w (met v w) nobody
meets S id v other w live alive s kept at apart there =
    let st = kept.views id v at live in
    let before : get_elem? s.views other ≡ some w = elim (at_set s.views id other (met v w) w there) [ inl e ↦ absurd (apart e.0) | inr e ↦ e.1 ] in
    let su : Stands S w s.words = kept.views other w before alive in record {
      valid = kept.valid;
      sized = kept.sized;
      reached = kept.reached;
      below = kept.below;
      closing = kept.closing;
      closed = kept.closed;
      views = λ seat u here lives. elim (at_set (set s.views id (met v w)) other seat nobody u here) [
        | inl e ↦ absurd (true≢false (sym (ap (λ (t : View). t.live) e.1 ∙ lives)))
        | inr e ↦ elim (at_set s.views id seat (met v w) u e.1) [
          | inl f ↦ subst (λ (t : View). Stands S t s.words) f.1 (met_stands S v w s.words st su)
          | inr f ↦ kept.views seat u f.1 lives
        ]
      ];
      held = held_meet (words_of S) s.words s.views id other v w apart live at before kept.held;
      whole = whole_meet s.views id other v w apart live alive at before kept.whole;
    }

-- the same, at a word whose number is that of the closing word

pub shuts_at : (S : System) (slots id n : ℕ) (me : Mine) → n ≡ words_of S → me.0.live ≡ true → IsClosed me.0.system (known me.0)
    → Allows (Kept S) slots id me n (λ x. bit_or x 1) (shut_at (step slots n 1 0 none) me)
shuts_at S slots id n me e live closed = subst (λ (k : ℕ). Allows (Kept S) slots id me k (λ x. bit_or x 1) (shut_at (step slots k 1 0 none) me)) (sym e) (shuts S slots id me live closed)

pub reads_at : (S : System) (slots id n : ℕ) (me : Mine) → n ≡ words_of S → me.0.live ≡ true → Allows (Kept S) slots id me n (λ x. x) (read_at (step slots n 0 0 none) me)
reads_at S slots id n me e live = subst (λ (k : ℕ). Allows (Kept S) slots id me k (λ x. x) (read_at (step slots k 0 0 none) me)) (sym e) (reads S slots id me live)

pub draws_at : (S : System) (slots id n : ℕ) (me : Mine) → n ≡ words_of S → me.0.live ≡ true → Allows (Kept S) slots id me (n + 1) (λ x. (x + 1) % 2 ^ 64) (drew_at (step slots (n + 1) 1 0 none) me)
draws_at S slots id n me e live = subst (λ (k : ℕ). Allows (Kept S) slots id me (k + 1) (λ x. (x + 1) % 2 ^ 64) (drew_at (step slots (k + 1) 1 0 none) me)) (sym e) (draws S slots id me live)

-- what is true of each seat, of one that met another
pub met_sized : (v w : View) → length v.seen ≡ words_of v.system → length w.seen ≡ words_of w.system → w.system ≡ v.system → length (met v w).seen ≡ words_of (met v w).system
met_sized v w a b e = united_length v.seen w.seen (a ∙ sym (b ∙ ap words_of e)) ∙ a

pub met_part : (v w : View) → 0 < v.part → 0 < (met v w).part
met_part v w p = (let q = mul-pos p (pow_pos w.halvings) in omega arith)

pub met_told : (v w : View) → (v.last ≡ 1 → v.knows ≡ true) → (met v w).last ≡ 1 → (met v w).knows ≡ true
met_told v w told one = rw (told one) refl

zeros : (n i : ℕ) → get_or {A = ℕ} (replicate n 0) i 0 ≡ 0
zeros zero i = refl
zeros (suc n) zero = refl
zeros (suc n) (suc i) = zeros n i

fresh_stands : (S : System) (words : List ℕ) → Stands S (fresh S) words
fresh_stands S words = record {
  system = refl;
  sized = length-replicate (words_of S) 0;
  some_part = omega arith;
  seen = record {
    facts = λ i k h. absurd (let none_set = bit_at-zero k in let b : bit_at 0 k ≡ 1 = ap (λ x. bit_at x k) (sym (zeros (words_of S) i)) ∙ h in omega arith);
    last_known = λ one. absurd (omega arith);
    closing_known = λ knows. absurd (true≢false (sym knows));
  };
}

-- the table at the start
pub opens : (S : System) (words : List ℕ) → IsValid S → words ≡ replicate (words_of S + 2) 0 → Kept S (opening words [] (fresh S))
opens S words valid e =
    let n : ℕ = words_of S in
    let zero_at : (i : ℕ) → get_or words i 0 ≡ 0 = λ i. ap (λ ws. get_or ws i 0) e ∙ zeros (n + 2) i in
    let nothing : (row location : ℕ) → Has (rows_in S words) row location → ⊥ = λ row location h.
    let at = has_bit (width_of S) (take n words) row location h in
    let i : ℕ = row * width_of S + location / 64 in
    let lt : i < n = (let p = fact_place (width_of S) (take n words) row location h in let l = length-take n words in omega arith) in
    let none_set = bit_at-zero (location % 64) in
    let b : bit_at 0 (location % 64) ≡ 1 = ap (λ x. bit_at x (location % 64)) (sym (get_or-take n words i 0 lt ∙ zero_at i)) ∙ at.2 in
    omega arith in record {
      valid = valid;
      sized = ap (λ (ws : List ℕ). length ws) e ∙ length-replicate (n + 2) 0;
      reached = record {
        events = [];
        licensed = tt;
        rows_there = λ row location h. absurd (true≢false (sym h));
        no_others = λ row location h. absurd (nothing row location h);
        mark = sym (ap (λ (c : ℕ). c == 1) (zero_at n));
      };
      below = λ G closed row location h. absurd (nothing row location h);
      closing = (let z = zero_at n in omega arith);
      closed = λ one. absurd (let z = zero_at n in omega arith);
      views = λ seat v at live. elim (at_snoc [] (fresh S) v seat at) [ inl e ↦ absurd (some-ne-none v (sym e)) | inr e ↦ subst (λ (u : View). Stands S u words) e (fresh_stands S words) ];
      held = subst (λ (ws : List ℕ). Held n ws (fresh S ∷ [])) (sym e) (held_start S n);
      whole = whole_start S;
    }
