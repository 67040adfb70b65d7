-- The members before a field, gathered anew.
use Rattle.std.proofs.Common.{arith, ◌≡◌, ℕ, ◌+◌, ◌<◌, Bool, true, false, cond, ◌||◌, List, [], ◌∷◌, ◌++◌, Option, Some, None, length, length-append, take, refl, sym, ap, ◌∙◌, subst}
use Rattle.std.specs.Prelude.{nat_lt, slice_index}
use Rattle.std.proofs.lemmas.Bool.Decides.{nat_tests}
use Rattle.std.proofs.lemmas.List.{take_more, append-nil}
use Rattle.c_inits.specs.Made.{Part}
use Rattle.c_senses.specs.Tree.{Source, all_where, parent_of, children_at}
use Rattle.c_senses.specs.World.{World}
use Rattle.c_senses.specs.Sense.{Sense}
use Rattle.c_senses.specs.Tags.{members_in_sense, members_among, is_before, earlier_parts, has_part_named}
use Rattle.c_results.specs.Parts.{parts_in}
use Rattle.c_structures.specs.declared.names.MemberNames.{MemberNames}
use Rattle.c_structures.specs.declared.before.MembersBefore.{MembersBefore}
use Rattle.c_structures.specs.Named.{SaysNames, is_among}
use Rattle.c_structures.specs.Before.{SaysEarlier, parts_below, parts_before}
use Rattle.c_structures.proofs.Naming.{named_append}
use Rattle.c_structures.proofs.Covering.{in_sense, among_append, parts_or}

all_append : (test : ℕ → Bool) (xs ys : List ℕ) → all_where test (xs ++ ys) ≡ all_where test xs ++ all_where test ys
all_append test [] ys = refl
all_append test (x ∷ xs) ys = by (test x) (all_append test xs ys)
  where
    by : (b : Bool) → all_where test (xs ++ ys) ≡ all_where test xs ++ all_where test ys → cond b (x ∷ all_where test (xs ++ ys)) (all_where test (xs ++ ys)) ≡ cond b (x ∷ all_where test xs) (all_where test xs) ++ all_where test ys
    by true e = ap (λ (zs : List ℕ). x ∷ zs) e
    by false e = e

module _ (w : World) (s : Source) (sense : ℕ → Sense) where
  -- what was made for a node
  pub names_some : (node : ℕ) (names : MemberNames) (parts ms : List Part) → parts_in (sense node) ≡ Some ms → SaysNames names (parts ++ ms) → SaysNames names (parts ++ members_in_sense w s sense (sense node))
  names_some node names parts ms e says = subst (λ (ps : List Part). SaysNames names (parts ++ ps)) (sym (in_sense w s sense (sense node) ∙ ap parts_or e)) says

  pub names_none : (node : ℕ) (names : MemberNames) (parts : List Part) → parts_in (sense node) ≡ None → SaysNames names parts → SaysNames names (parts ++ members_in_sense w s sense (sense node))
  names_none node names parts e says = subst (λ (ps : List Part). SaysNames names ps) (sym (ap (λ (ps : List Part). parts ++ ps) (in_sense w s sense (sense node) ∙ ap parts_or e) ∙ append-nil parts)) says

  -- one node more of a list
  abbrev or_no_parts : Bool → List Part → List Part
  or_no_parts b parts = cond b parts []

  below_next : (nodes : List ℕ) (below i : ℕ) → i < length nodes → parts_below w s sense (take (i + 1) nodes) below ≡ parts_below w s sense (take i nodes) below ++ cond (nat_lt (slice_index nodes i) below) (members_in_sense w s sense (sense (slice_index nodes i))) []
  below_next nodes below i h =
      let x = slice_index nodes i in
      ap (λ (xs : List ℕ). parts_below w s sense xs below) (take_more nodes i 0 h)
      ∙ (ap (members_among w s sense) (all_append (is_before w s sense below) (take i nodes) (x ∷ []))
      ∙ (among_append w s sense (all_where (is_before w s sense below) (take i nodes)) (all_where (is_before w s sense below) (x ∷ []))
      ∙ ap (λ (ps : List Part). parts_below w s sense (take i nodes) below ++ ps) (one x (nat_lt x below))))
    where
      one : (x : ℕ) (b : Bool) → members_among w s sense (cond b (x ∷ []) []) ≡ cond b (members_in_sense w s sense (sense x)) []
      one x true = append-nil (members_in_sense w s sense (sense x))
      one x false = refl

  pub names_more : (nodes : List ℕ) (below i : ℕ) (names : MemberNames) → i < length nodes → true ≡ nat_lt (slice_index nodes i) below → SaysNames names (parts_below w s sense (take i nodes) below ++ members_in_sense w s sense (sense (slice_index nodes i))) → SaysNames names (parts_below w s sense (take (i + 1) nodes) below)
  names_more nodes below i names h is says =
      let e : parts_below w s sense (take (i + 1) nodes) below ≡ parts_below w s sense (take i nodes) below ++ members_in_sense w s sense (sense (slice_index nodes i))
      = below_next nodes below i h ∙ ap (λ (b : Bool). parts_below w s sense (take i nodes) below ++ cond b (members_in_sense w s sense (sense (slice_index nodes i))) []) (sym is) in
      subst (SaysNames names) (sym e) says

  pub names_passed : (nodes : List ℕ) (below i : ℕ) (names : MemberNames) → i < length nodes → false ≡ nat_lt (slice_index nodes i) below → SaysNames names (parts_below w s sense (take i nodes) below) → SaysNames names (parts_below w s sense (take (i + 1) nodes) below)
  names_passed nodes below i names h is says =
      let e : parts_below w s sense (take (i + 1) nodes) below ≡ parts_below w s sense (take i nodes) below
      = below_next nodes below i h ∙ (ap (λ (b : Bool). parts_below w s sense (take i nodes) below ++ cond b (members_in_sense w s sense (sense (slice_index nodes i))) []) (sym is) ∙ append-nil (parts_below w s sense (take i nodes) below)) in
      subst (SaysNames names) (sym e) says

  -- where a field stands
  pub earlier_some : (i m : ℕ) → parent_of s i ≡ Some m → earlier_parts w s sense i ≡ parts_before w s sense (parent_of s m) m ++ parts_before w s sense (Some m) i
  earlier_some i m e =
      ap (λ (o : Option ℕ). elim o as (λ x. List Part) [ None ↦ [] | Some member ↦ (elim (parent_of s member) as (λ x. List Part) [ None ↦ [] | Some list ↦ parts_below w s sense (children_at s list) member ]) ++ parts_below w s sense (children_at s member) i ]) e
      ∙ ap (λ (ps : List Part). ps ++ parts_below w s sense (children_at s m) i) (same (parent_of s m))
    where
      same : (o : Option ℕ) → (elim o as (λ x. List Part) [ None ↦ [] | Some list ↦ parts_below w s sense (children_at s list) m ]) ≡ parts_before w s sense o m
      same None = refl
      same (Some list) = refl

  pub earlier_none : (i : ℕ) → parent_of s i ≡ None → earlier_parts w s sense i ≡ []
  earlier_none i e =
      ap (λ (o : Option ℕ). elim o as (λ x. List Part) [ None ↦ [] | Some member ↦ (elim (parent_of s member) as (λ x. List Part) [ None ↦ [] | Some list ↦ parts_below w s sense (children_at s list) member ]) ++ parts_below w s sense (children_at s member) i ]) e

-- some members and some more
some_more : (a b : List Part) → (nat_lt 0 (length a) || nat_lt 0 (length b)) ≡ nat_lt 0 (length (a ++ b))
some_more [] b = refl
some_more (x ∷ a) b =
    let here : nat_lt 0 (length (x ∷ a)) ≡ true = (let h : 0 < length (x ∷ a) = omega arith in grind (arith, nat_tests, h)) in
    let there : nat_lt 0 (length ((x ∷ a) ++ b)) ≡ true = (let h : 0 < length ((x ∷ a) ++ b) = omega (arith, length-append (x ∷ a) b) in grind (arith, nat_tests, h)) in
    ap (λ (c : Bool). c || nat_lt 0 (length b)) here ∙ sym there

pub says_both : (before : MembersBefore) (a b : List Part) → SaysNames before.whole.names a → SaysNames before.part.names b → SaysEarlier before (a ++ b)
says_both before a b whole part = record {
  named = λ w s sense name.
      ap (λ (x : Bool). x || is_among before.part.names.names name) (whole.named w s sense name)
      ∙ (ap (λ (x : Bool). has_part_named w s sense name a || x) (part.named w s sense name) ∙ sym (named_append w s sense name a b));
  any_are = ap (λ (x : Bool). x || before.part.names.any) whole.any_are ∙ (ap (λ (x : Bool). nat_lt 0 (length a) || x) part.any_are ∙ some_more a b);
}
