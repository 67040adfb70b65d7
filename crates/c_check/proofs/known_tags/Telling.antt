-- What is told of tags, one after another, and what it says of the types that they have.
use Rattle.std.proofs.Common.{arith, ◌≡◌, ◌∙◌, ℕ, zero, suc, ◌+◌, ◌<◌, ◌≤◌, leb, Bool, true, false, ◌||◌, ◌&&◌, ◌==◌, Decides, inl, inr, List, [], ◌∷◌, ◌++◌, length, get_or, slice_get, Option, Some, None, refl, sym, ap, subst}
use Rattle.std.specs.Prelude.{is_none, option_and_then}
use Rattle.std.specs.Option.{is_some, option_map}
use Rattle.std.proofs.lemmas.Bool.{cases_lt}
use Rattle.std.proofs.lemmas.Bool.Decides.{eqb_tells, leb_tells}
use Rattle.std.proofs.lemmas.List.{get_or_append_left}
use Rattle.std.proofs.Math.Seq.{get_or-append_seam}
use Rattle.c_grammar.specs.Productions.{p_struct}
use Rattle.c_grammar.specs.declared.trees.SyntaxNode.{SyntaxNode}
use Rattle.c_types.specs.declared.term.MemberTerm.{MemberTerm}
use Rattle.c_types.specs.Trees.{Ctype}
use Rattle.c_types.specs.Table.{Table, type_of, members_in}
use Rattle.c_types.specs.Made.{IsMade, AreNamed}
use Rattle.c_inits.specs.Tables.{tagged}
use Rattle.core_tree.specs.declared.node.Unit.{Unit}
use Rattle.core_nodes.specs.Standing.{parts_in}
use Rattle.c_senses.specs.Tree.{Source, is_a, production_of}
use Rattle.c_senses.specs.Tags.{tag_of, tag_declared, tags_below, is_union}
use Rattle.carried_trees.specs.carried_types.Members.{tag_named}
use Rattle.carried_trees.specs.carried_types.Terms.{IsIdIn, AreTagIds}
use Rattle.carried_trees.specs.carried_types.Told.{IsMark, AreMarks}
use Rattle.carried_trees.proofs.Telling.{tag_within}
use Rattle.c_check.specs.declared.known_tags.known.Meaning.{Meaning}
use Rattle.c_check.specs.known_tags.Known.{tag_known}
use Rattle.c_check.specs.known_tags.Given.{IsIdOf}
use Rattle.c_check.specs.known_tags.Own.{is_own_first, own_number, id_at, AreFirsts, IsTypeGiven, AreTypesGiven}
use Rattle.c_check.specs.known_tags.Told.{AreTold, lacks_members}
use Rattle.c_check.specs.Told.{AreMarked, IsOpenIn}
use Rattle.c_check.proofs.Answering.{type_by}

-- one element more
at_more : {X : Type 0} (P : ℕ → X → Type 0) (xs more : List X) (x d : X) (k : ℕ) → length xs ≡ k → more ≡ xs ++ x ∷ [] → ((j : ℕ) → j < k → P j (get_or xs j d)) → P k x → (j : ℕ) → j < k + 1 → P j (get_or more j d)
at_more {X} P xs more x d k long e h here j lt = elim (eqb_tells j k) [
  | inl p ↦
      let at : get_or more k d ≡ x = ap (λ (l : List X). get_or l k d) e ∙ (ap (λ (i : ℕ). get_or (xs ++ x ∷ []) i d) (sym long) ∙ get_or-append_seam xs x [] d) in
      subst (λ (i : ℕ). P i (get_or more i d)) (sym p.1) (subst (λ (y : X). P k y) (sym at) here)
  | inr p ↦
      let few : j < k = omega (arith, lt, p.1) in
      let kept : get_or more j d ≡ get_or xs j d = ap (λ (l : List X). get_or l j d) e ∙ get_or_append_left xs (x ∷ []) d j (omega (arith, few, long)) in
      subst (λ (y : X). P j y) (sym kept) (h j few)
]

pub marks_more : (marks more : List (Option ℕ)) (mark : Option ℕ) → more ≡ marks ++ mark ∷ [] → AreMarks marks → IsMark mark → AreMarks more
marks_more marks more mark e h here k = subst IsMark (sym (ap (λ (l : List (Option ℕ)). get_or l k None) e)) (at marks (λ j. h j) k)
  where
    at : (xs : List (Option ℕ)) → ((j : ℕ) → IsMark (get_or xs j None)) → (j : ℕ) → IsMark (get_or (xs ++ mark ∷ []) j None)
    at [] all zero = here
    at [] all (suc j) = tt
    at (x ∷ xs) all zero = all 0
    at (x ∷ xs) all (suc j) = at xs (λ i. all (suc i)) j

pub told_more : (s : Source) (first : ℕ → ℕ) (node : ℕ) (list : List (ℕ × Meaning)) (table : Table) (known : List (Option ℕ)) (k : ℕ) (marks marks' : List (Option ℕ)) (flags flags' : List Bool) → length marks ≡ k → length flags ≡ k → AreTold s first node list table known k marks flags
    → (f : ℕ) → f ≡ first k → (own : Bool) → own ≡ is_own_first s node list f → (before : Option ℕ) → before ≡ id_at known k → (mark : Option ℕ) → is_some mark ≡ (own || is_some before) → marks' ≡ marks ++ mark ∷ []
    → (flag : Bool) → flag ≡ (own || (is_some before && lacks_members table (tag_known list (tag_declared s f)))) → flags' ≡ flags ++ flag ∷ [] → AreTold s first node list table known (k + 1) marks' flags'
told_more s first node list table known k marks marks' flags flags' long same h f is_first own is_own before is_before mark is_mark e flag is_flag g =
    let own_here : own ≡ is_own_first s node list (first k) = is_own ∙ ap (is_own_first s node list) is_first in
    let mark_here : is_some mark ≡ (is_own_first s node list (first k) || is_some (id_at known k)) =
    is_mark ∙ (ap (λ (b : Bool). b || is_some before) own_here ∙ ap (λ (o : Option ℕ). is_own_first s node list (first k) || is_some o) is_before) in
    let flag_here : flag ≡ (is_own_first s node list (first k) || (is_some (id_at known k) && lacks_members table (tag_known list (tag_declared s (first k))))) =
    is_flag
    ∙ (ap (λ (b : Bool). b || (is_some before && lacks_members table (tag_known list (tag_declared s f)))) own_here
    ∙ (ap (λ (o : Option ℕ). is_own_first s node list (first k) || (is_some o && lacks_members table (tag_known list (tag_declared s f)))) is_before
    ∙ ap (λ (i : ℕ). is_own_first s node list (first k) || (is_some (id_at known k) && lacks_members table (tag_known list (tag_declared s i)))) is_first)) in
    record {
      marked = at_more (λ (j : ℕ) (o : Option ℕ). is_some o ≡ (is_own_first s node list (first j) || is_some (id_at known j))) marks marks' mark None k long e h.marked mark_here;
      flagged = at_more (λ (j : ℕ) (b : Bool). b ≡ (is_own_first s node list (first j) || (is_some (id_at known j) && lacks_members table (tag_known list (tag_declared s (first j)))))) flags flags' flag false k same g h.flagged flag_here;
    }

-- ---- whether a known tag has no members

none_some : {X : Type 0} → {x : X} → ◌≡◌ {A = Option X} None (Some x) → ⊥
none_some e = cc

some_one : {X : Type 0} → {x y : X} → ◌≡◌ {A = Option X} (Some x) (Some y) → x ≡ y
some_one e = cc

false_true : (b : Bool) → b ≡ false → b ≡ true → ⊥
false_true true h k = cc
false_true false h k = cc

-- a tag past the table's has none
pub members_none : (table : Table) → IsMade table → AreNamed table → (k : ℕ) → table.tags ≤ k → members_in table k ≡ None
members_none table made named k past = by (members_in table k) refl
  where
    by : (o : Option (List MemberTerm)) → members_in table k ≡ o → members_in table k ≡ None
    by None e = e
    by (Some ms) e = let few = tag_within table made named k ms e in absurd (omega (arith, few, past))

-- ---- a tag has a type where it is marked, and no members where it is flagged

type_some : (own : Bool) (t : Ctype) (table : Table) (union : Bool) (known id : Option ℕ) (type : Option Ctype) → IsIdOf table union known id → IsIdIn table id → IsTypeGiven own t table union known type → is_some type ≡ (own || is_some id)
type_some true t table union known id type typed within given = ap is_some given
type_some false t table union None None type typed within given = ap is_some given
type_some false t table union None (Some i) type typed within given = absurd (none_some (sym typed))
type_some false t table union (Some n) None None typed within given = refl
type_some false t table union (Some n) None (Some x) typed within given = let there = given.1 in absurd (typed.none there.id there.few there.is)
type_some false t table union (Some n) (Some i) None typed within given = absurd (given.none i within typed)
type_some false t table union (Some n) (Some i) (Some x) typed within given = refl

named_tagged : (union : Bool) (n : ℕ) → tag_named (tagged union n) ≡ Some n
named_tagged true n = refl
named_tagged false n = refl

no_members : (o : Option (List MemberTerm)) → is_none o ≡ true → o ≡ None
no_members None e = refl
no_members (Some ms) e = cc

no_parts : (table : Table) (o : Option (List MemberTerm)) → parts_in table o ≡ None → is_none o ≡ true
no_parts table None e = refl
no_parts table (Some ms) e = absurd (none_some (sym e))

module _ (old : Unit) where
  -- the tag of that type, by its number
  open_by : (union : Bool) (n : ℕ) (o : Option Ctype) → o ≡ Some (tagged union n) → members_in old.types n ≡ None → IsOpenIn old o
  open_by union n o e none = record { number = n; is = ap (option_and_then tag_named) e ∙ named_tagged union n; incomplete = ap (parts_in old.types) none }

  open_number : (union : Bool) (n : ℕ) (o : Option Ctype) → o ≡ Some (tagged union n) → IsOpenIn old o → parts_in old.types (members_in old.types n) ≡ None
  open_number union n o e h =
      let same : h.number ≡ n = some_one (sym h.is ∙ (ap (option_and_then tag_named) e ∙ named_tagged union n)) in
      subst (λ (k : ℕ). parts_in old.types (members_in old.types k) ≡ None) same h.incomplete

  none_open : (o : Option Ctype) → o ≡ None → IsOpenIn old o → ⊥
  none_open o e h = none_some (sym (ap (option_and_then tag_named) e) ∙ h.is)

  open_there : (own : Bool) (n : ℕ) (union : Bool) (known id : Option ℕ) (o : Option Ctype) → IsIdOf old.types union known id → IsIdIn old.types id → IsTypeGiven own (tagged union n) old.types union known o → members_in old.types n ≡ None
      → Decides (own || (is_some id && lacks_members old.types known)) (IsOpenIn old o)
  open_there true n union known id o typed within given none = (λ e. open_by union n o given none, λ h. refl)
  open_there false n union None None o typed within given none = (λ e. absurd (false_true false refl e), λ h. absurd (none_open o given h))
  open_there false n union None (Some i) o typed within given none = absurd (none_some (sym typed))
  open_there false n union (Some t) None None typed within given none = (λ e. absurd (false_true false refl e), λ h. absurd (none_open None refl h))
  open_there false n union (Some t) None (Some x) typed within given none = let there = given.1 in absurd (typed.none there.id there.few there.is)
  open_there false n union (Some t) (Some i) None typed within given none = absurd (given.none i within typed)
  open_there false n union (Some t) (Some i) (Some x) typed within given none =
      (λ e. open_by union t (Some x) (ap Some given.0) (no_members (members_in old.types t) e), λ h. no_parts old.types (members_in old.types t) (open_number union t (Some x) (ap Some given.0) h))

typed_by : Bool → Ctype → Option Ctype → Option Ctype
typed_by true t o = Some t
typed_by false t o = o

few_types : Bool → Option Ctype → Option Ctype
few_types true o = o
few_types false o = None

slice_get_past : {X : Type 0} (xs : List X) (i : ℕ) → length xs ≤ i → slice_get xs i ≡ None
slice_get_past [] zero h = refl
slice_get_past [] (suc i) h = refl
slice_get_past (x ∷ xs) zero h = absurd (omega arith)
slice_get_past (x ∷ xs) (suc i) h = slice_get_past xs i (omega arith)

past_default : {X : Type 0} (xs : List X) (d : X) (k : ℕ) → length xs ≤ k → get_or xs k d ≡ d
past_default [] d k h = refl
past_default (x ∷ xs) d zero h = absurd (omega arith)
past_default (x ∷ xs) d (suc k) h = past_default xs d k (omega arith)

module _ (s : Source) where
  is_node : (i : ℕ) → is_a s p_struct i ≡ true → i < length s.nodes
  is_node i is = elim (leb_tells (suc i) (length s.nodes)) [
    | inl less ↦ less.1
    | inr more ↦
        let past : slice_get s.nodes i ≡ None = slice_get_past s.nodes i (omega (arith, more.1)) in
        let f : is_a s p_struct i ≡ false = ap (λ (o : Option SyntaxNode). production_of o == p_struct) past in
        absurd (cc)
  ]

  -- a tag has one first specifier
  least_of : (f g : ℕ → ℕ) → AreFirsts s f → AreFirsts s g → (k : ℕ) → k < tags_below s → g k ≤ f k
  least_of f g a b k lt =
      let here : g (tag_of s (f k)) ≤ f k = b.least (f k) (is_node (f k) (a.specifiers k lt)) (a.specifiers k lt) in
      subst (λ (n : ℕ). g n ≤ f k) (a.numbers k lt) here

  one_first : (f g : ℕ → ℕ) → AreFirsts s f → AreFirsts s g → (k : ℕ) → k < tags_below s → f k ≡ g k
  one_first f g a b k lt = let low = least_of f g a b k lt in let high = least_of g f b a k lt in omega (arith, low, high)

  -- by what is told of the tags
  module _ (first : ℕ → ℕ) (firsts : AreFirsts s first) (node : ℕ) (list : List (ℕ × Meaning)) (old : Unit) (made : IsMade old.types) (terms : AreNamed old.types) (known : List (Option ℕ)) (count : ℕ) (below : count ≡ tags_below s)
      (typed : (k : ℕ) → k < count → IsIdOf old.types (is_union s (first k)) (tag_known list (tag_declared s (first k))) (get_or known k None)) (within : AreTagIds known old.types) (marks : List (Option ℕ)) (flags : List Bool) (long : length marks ≡ count) (same : length flags ≡ count) (told : AreTold s first node list old.types known count marks flags) where
    -- types that the tags have
    type_at : ℕ → Option Ctype
    type_at k = typed_by (is_own_first s node list (first k)) (tagged (is_union s (first k)) (own_number s first node list old.types.tags k)) (option_map (λ (i : ℕ). type_of old.types i) (get_or known k None))

    given_at : (own : Bool) (t : Ctype) (union : Bool) (number id : Option ℕ) → IsIdOf old.types union number id → IsIdIn old.types id → IsTypeGiven own t old.types union number (typed_by own t (option_map (λ (i : ℕ). type_of old.types i) id))
    unfolding typed_by
    given_at true t union number id is few = refl
    given_at false t union number id is few = type_by old.types union number id is few

    types_there : AreTypesGiven s first node list old.types (λ k. few_types (leb (suc k) count) (type_at k))
    unfolding few_types type_at
    types_there = record {
      each = λ k lt.
          let few : k < count = subst (λ (n : ℕ). k < n) (sym below) lt in
          subst (λ (b : Bool). IsTypeGiven (is_own_first s node list (first k)) (tagged (is_union s (first k)) (own_number s first node list old.types.tags k)) old.types (is_union s (first k)) (tag_known list (tag_declared s (first k))) (few_types b (type_at k))) (sym (is_few k few))
          (given_at (is_own_first s node list (first k)) (tagged (is_union s (first k)) (own_number s first node list old.types.tags k)) (is_union s (first k)) (tag_known list (tag_declared s (first k))) (get_or known k None) (typed k few) (within k));
      past = λ k le. ap (λ (b : Bool). few_types b (type_at k)) (is_past k (subst (λ (n : ℕ). n ≤ k) (sym below) le));
    }
      where
        is_few : (k : ℕ) → k < count → leb (suc k) count ≡ true
        is_few k lt = elim (leb_tells (suc k) count) [ inl less ↦ less.0 | inr more ↦ (let m = more.1 in absurd (omega (arith, m, lt))) ]

        is_past : (k : ℕ) → count ≤ k → leb (suc k) count ≡ false
        is_past k le = elim (leb_tells (suc k) count) [ inl less ↦ (let l = less.1 in absurd (omega (arith, l, le))) | inr more ↦ more.0 ]

    -- whichever they have
    module _ (other : ℕ → ℕ) (others : AreFirsts s other) (type : ℕ → Option Ctype) (given : AreTypesGiven s other node list old.types type) where
      given_here : (k : ℕ) → k < count → IsTypeGiven (is_own_first s node list (first k)) (tagged (is_union s (first k)) (own_number s other node list old.types.tags k)) old.types (is_union s (first k)) (tag_known list (tag_declared s (first k))) (type k)
      given_here k lt =
          let few : k < tags_below s = subst (λ (n : ℕ). k < n) below lt in
          let one : other k ≡ first k = one_first other first others firsts k few in
          subst (λ (i : ℕ). IsTypeGiven (is_own_first s node list i) (tagged (is_union s i) (own_number s other node list old.types.tags k)) old.types (is_union s i) (tag_known list (tag_declared s i)) (type k)) one (given.each k few)

      marked_at : (k : ℕ) → is_some (type k) ≡ is_some (get_or marks k None)
      marked_at k = elim (cases_lt k count) [
        | inl lt ↦ type_some (is_own_first s node list (first k)) (tagged (is_union s (first k)) (own_number s other node list old.types.tags k)) old.types (is_union s (first k)) (tag_known list (tag_declared s (first k))) (get_or known k None) (type k) (typed k lt) (within k) (given_here k lt) ∙ sym (told.marked k lt)
        | inr past ↦ ap is_some (given.past k (omega (arith, past, below))) ∙ sym (ap is_some (past_default marks None k (omega (arith, past, long))))
      ]

      flagged_at : (k : ℕ) → Decides (get_or flags k false) (IsOpenIn old (type k))
      flagged_at k = elim (cases_lt k count) [
        | inl lt ↦
            let more : old.types.tags ≤ own_number s other node list old.types.tags k = omega arith in
            subst (λ (b : Bool). Decides b (IsOpenIn old (type k))) (sym (told.flagged k lt))
            (open_there old (is_own_first s node list (first k)) (own_number s other node list old.types.tags k) (is_union s (first k)) (tag_known list (tag_declared s (first k))) (get_or known k None) (type k) (typed k lt) (within k) (given_here k lt) (members_none old.types made terms (own_number s other node list old.types.tags k) more))
        | inr past ↦ (λ e. absurd (false_true (get_or flags k false) (past_default flags false k (omega (arith, past, same))) e), λ h. absurd (none_open old (type k) (given.past k (omega (arith, past, below))) h))
      ]

    pub marked_there : AreMarked s node list old marks flags
    marked_there = record {
      first = first;
      firsts = firsts;
      type = λ k. few_types (leb (suc k) count) (type_at k);
      given = types_there;
      marked = λ other types others given k. marked_at other others types given k;
      flagged = λ other types others given k. flagged_at other others types given k;
    }
