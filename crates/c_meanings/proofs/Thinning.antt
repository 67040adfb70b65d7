-- Lists of declarations that give what longer ones give.
use Rattle.std.proofs.Common.{◌≡◌, ◌⊎◌, inl, inr, ℕ, ◌||◌, ◌&&◌, Bool, true, false, cond, Option, Some, None, List, [], ◌∷◌, ◌++◌, append-nil, append_assoc, length, get_or, slice_get, refl, sym, ap, subst, ◌∙◌}
use Rattle.std.specs.Prelude.{if◌then◌else◌}
use Rattle.core_tree.specs.declared.node.Unit.{Unit}
use Rattle.c_types.specs.declared.term.Form.TheVariants.{Fixed, Variadic, Unspecified}
use Rattle.c_types.specs.Trees.{Ctype, ArrayOf, FunctionFrom}
use Rattle.c_scope.specs.declared.kinds.Declared.{Declared}
use Rattle.c_senses.specs.Tree.{Source}
use Rattle.c_senses.specs.World.{World, same_type}
use Rattle.c_senses.specs.Names.{typing_declarations, ordinary_at}
use Rattle.c_senses.specs.Sense.{Sense, sense_in}
use Rattle.c_senses.specs.Entities.{fuller, together, agree, all_same, own_type, keep, defines, is_internal}
use Rattle.c_results.specs.declared.made.Made.{Made}
use Rattle.c_results.specs.Standing.{senses_made}
use Rattle.tree_reads.specs.declared.syntax.Syntax.{Syntax}
use Rattle.tree_reads.specs.Sources.{source_in}
use Rattle.name_chains.specs.declared.links.Link.{Link}
use Rattle.name_chains.specs.Links.{listed, IsLinkOf, AreBackward, Adds, HaveLeaves}
use Rattle.name_chains.proofs.Linked.{listed-none, listed-step, added_list, added_link}
use Rattle.c_meanings.specs.declared.thinned.End.{End}
use Rattle.c_meanings.specs.declared.thinned.Thinned.{Thinned}
use Rattle.c_meanings.specs.Known.{nodes_in}
use Rattle.c_meanings.specs.Later.{later}
use Rattle.c_meanings.specs.Joined.{with_own}
use Rattle.c_meanings.specs.Thinned.{IsThin, GoesOn, AreThinned, StaysThin, StaysTyping, StaysWanted, IsEndOf, one_if, passes, those}
use Rattle.c_meanings.proofs.Lists.{some-push, first_behind, kept-append, types_more}

-- of two types that are given together one is given
fuller_is : (a b : Ctype) → (fuller a b ≡ a) ⊎ (fuller a b ≡ b)
fuller_is (FunctionFrom r ps Fixed) (FunctionFrom q qs Unspecified) = inl refl
fuller_is (FunctionFrom r ps Variadic) (FunctionFrom q qs Unspecified) = inl refl
fuller_is (ArrayOf a (Some n)) (ArrayOf b None) = inl refl
fuller_is a b = inr refl

pub together_is : (a b : Ctype) → (together a b ≡ a) ⊎ (together a b ≡ b)
together_is a b = by (agree a b)
  where
    by : (d : Bool) → ((if d then fuller a b else b) ≡ a) ⊎ ((if d then fuller a b else b) ≡ b)
    by true = fuller_is a b
    by false = inr refl

-- a type twice gives no more than once
pub together_self : (t : Ctype) → together t t ≡ t
together_self t = elim (together_is t t) [ inl e ↦ e | inr e ↦ e ]

pub and_twice : (a b : Bool) → ((a && b) && b) ≡ (a && b)
and_twice true true = refl
and_twice true false = refl
and_twice false b = refl

pub and_assoc : (a b c : Bool) → (a && (b && c)) ≡ ((a && b) && c)
and_assoc true b c = refl
and_assoc false b c = refl

and_true : (a : Bool) → (a && true) ≡ a
and_true true = refl
and_true false = refl

abbrev pub is_type : Ctype → Option Ctype → Bool
is_type t o = elim o as (λ x. Bool) [ None ↦ false | Some other ↦ same_type other t ]

module _ (s : Source) (sense : ℕ → Sense) where
  same_more : (w : World) (t : Ctype) (ds : List Declared) (d : Declared) → all_same w s sense t (ds ++ d ∷ []) ≡ (all_same w s sense t ds && is_type t (own_type s sense d.node))
  same_more w t [] d = and_true (is_type t (own_type s sense d.node))
  same_more w t (x ∷ ds) d =
      ap (λ (b : Bool). is_type t (own_type s sense x.node) && b) (same_more w t ds d) ∙ and_assoc (is_type t (own_type s sense x.node)) (all_same w s sense t ds) (is_type t (own_type s sense d.node))

  pub thin_none : IsThin s sense [] []
  thin_none = record { together = refl; same = λ w t. refl; defined = λ w. refl; first = λ leaf. refl }

  -- with a declaration more in both
  pub thin_more : (ds thin : List Declared) (d : Declared) → IsThin s sense ds thin → IsThin s sense (ds ++ d ∷ []) (thin ++ d ∷ [])
  thin_more ds thin d h = record {
    together = types_more s sense None thin d ∙ (ap (λ (o : Option Ctype). with_own o (own_type s sense d.node)) h.together ∙ sym (types_more s sense None ds d));
    same = λ w t. same_more w t thin d ∙ (ap (λ (b : Bool). b && is_type t (own_type s sense d.node)) (h.same w t) ∙ sym (same_more w t ds d));
    defined = λ w.
        let test : Declared → Bool = λ x. defines w s sense x.node in
        some-push s sense test thin d ∙ (ap (λ (b : Bool). b || test d) (h.defined w) ∙ sym (some-push s sense test ds d));
    first = λ leaf. first_behind s sense leaf thin [] d ∙ (h.first d.node ∙ sym (first_behind s sense leaf ds [] d));
  }

  -- those that are wanted, with one more
  pub those_more : (internal : Bool) (ds : List Declared) (d : Declared) → those internal s sense (ds ++ d ∷ []) ≡ those internal s sense ds ++ one_if (passes internal s sense d.node) d
  those_more false ds d = refl
  those_more true ds d =
      kept-append s sense (λ x. is_internal s sense x.node) ds (d ∷ []) ∙ ap (λ (l : List Declared). keep s sense (λ x. is_internal s sense x.node) ds ++ l) (by (is_internal s sense d.node))
    where
      by : (b : Bool) → cond b (d ∷ []) [] ≡ one_if b d
      by true = refl
      by false = refl

  pub those_none : (internal : Bool) → those internal s sense [] ≡ []
  those_none true = refl
  those_none false = refl

-- what is kept of thinned lists stays with one more result
pub thinned_more : (syntax : Syntax) (results : List Made) (m : Made) (internal : Bool) (links : List Link) (t : Thinned) → AreThinned syntax results internal links t → AreThinned syntax (results ++ m ∷ []) internal links t
thinned_more syntax results m internal links t h = record {
  many = h.many;
  shape = h.shape;
  thin = λ place e at u uses more.
      let s = source_in syntax uses in
      subst (λ (l : List Made). IsThin s (sense_in (senses_made u l)) (those internal s (sense_in (senses_made u l)) (listed links (Some place))) (listed t.links.items e.last))
      (sym (append_assoc results (m ∷ []) more)) (h.thin place e at u uses (m ∷ more));
}

-- and is so now
pub thin_now : (syntax : Syntax) (results : List Made) (internal : Bool) (ds thin : List Declared) → StaysThin syntax results internal ds thin → (u : Unit) (uses : List (ℕ × ℕ))
    → IsThin (source_in syntax uses) (sense_in (senses_made u results)) (those internal (source_in syntax uses) (sense_in (senses_made u results)) ds) thin
thin_now syntax results internal ds thin h u uses =
    let s = source_in syntax uses in
    subst (λ (l : List Made). IsThin s (sense_in (senses_made u l)) (those internal s (sense_in (senses_made u l)) ds) thin) (append-nil results) (h u uses [])

pub typing_now : (syntax : Syntax) (results : List Made) (leaf : ℕ) (thin : List Declared) → StaysTyping syntax results leaf thin → (u : Unit) (uses : List (ℕ × ℕ))
    → IsThin (source_in syntax uses) (sense_in (senses_made u results)) (typing_declarations (source_in syntax uses) (ordinary_at (source_in syntax uses) leaf)) thin
typing_now syntax results leaf thin h u uses =
    let s = source_in syntax uses in
    subst (λ (l : List Made). IsThin s (sense_in (senses_made u l)) (typing_declarations s (ordinary_at s leaf)) thin) (append-nil results) (h u uses [])

-- the same list, and one more
pub goes_none : (syntax : Syntax) (results : List Made) (thin : List Declared) → GoesOn syntax results thin [] thin
goes_none syntax results thin = λ u uses more ds h. subst (λ (l : List Declared). IsThin (source_in syntax uses) (later u results more) l thin) (sym (append-nil ds)) h

pub goes_more : (syntax : Syntax) (results : List Made) (thin new : List Declared) (d : Declared) → new ≡ thin ++ d ∷ [] → GoesOn syntax results thin (d ∷ []) new
goes_more syntax results thin new d e = λ u uses more ds h.
    let s = source_in syntax uses in
    let F = later u results more in
    subst (λ (l : List Declared). IsThin s F (ds ++ d ∷ []) l) (sym e) (thin_more s F ds thin d h)

module _ (syntax : Syntax) (results : List Made) (internal : Bool) (links : List Link) (t : Thinned) (h : AreThinned syntax results internal links t) where
  -- the list whose end is kept
  pub end_thin : (last : Option ℕ) (e : End) → IsEndOf t.ends.items last e → StaysThin syntax results internal (listed links last) (listed t.links.items e.last)
  end_thin None e is = λ u uses more.
      let s = source_in syntax uses in
      let F = later u results more in
      let ds : those internal s F (listed links None) ≡ [] = ap (those internal s F) (listed-none links) ∙ those_none s F internal in
      let thin : listed t.links.items e.last ≡ [] = ap (listed t.links.items) is ∙ listed-none t.links.items in
      subst (λ (l : List Declared). IsThin s F l (listed t.links.items e.last)) (sym ds) (subst (λ (l : List Declared). IsThin s F [] l) (sym thin) (thin_none s F))
  end_thin (Some place) e is = h.thin place e is

  pub end_link : (last : Option ℕ) (e : End) → IsEndOf t.ends.items last e → IsLinkOf t.links.items e.last
  end_link None e is = subst (IsLinkOf t.links.items) (sym is) tt
  end_link (Some place) e is = h.shape.ends place e is

  module _ (place : ℕ) (l : Link) (at : slice_get links place ≡ Some l) (back : AreBackward links) (e : End) (is : IsEndOf t.ends.items l.before e) (wanted : Bool) (stays : StaysWanted syntax results internal l.declared.node wanted)
      (t' : Thinned) (last : Option ℕ) (goes : GoesOn syntax results (listed t.links.items e.last) (one_if wanted l.declared) (listed t'.links.items last)) where
    whole : StaysThin syntax results internal (listed links (Some place)) (listed t'.links.items last)
    whole = λ u uses more.
        let s = source_in syntax uses in
        let F = later u results more in
        let before = those internal s F (listed links l.before) in
        let step : those internal s F (listed links (Some place)) ≡ before ++ one_if wanted l.declared =
        ap (those internal s F) (listed-step links place l at back)
        ∙ (those_more s F internal (listed links l.before) l.declared ∙ ap (λ (b : Bool). before ++ one_if b l.declared) (sym (stays u uses more))) in
        subst (λ (ds : List Declared). IsThin s F ds (listed t'.links.items last)) (sym step) (goes u uses more before (end_thin l.before e is u uses more))

    pub thinned_with : Adds t.links.items t'.links.items → HaveLeaves (nodes_in syntax) t'.links.items → length t'.ends.items ≡ length t.ends.items → IsLinkOf t'.links.items last
        → ((other : ℕ) (x : End) → get_or t'.ends.items other None ≡ Some x → (get_or t.ends.items other None ≡ Some x) ⊎ ((other ≡ place) × (x.last ≡ last))) → AreThinned syntax results internal links t'
    thinned_with adds leaves long link each = record {
      many = long ∙ h.many;
      shape = record {
        backward = adds.backward;
        leaves = leaves;
        ends = λ other x f. elim (each other x f) [
          | inl old ↦ added_link t.links.items t'.links.items adds x.last (h.shape.ends other x old)
          | inr new ↦ subst (IsLinkOf t'.links.items) (sym new.1) link
        ];
      };
      thin = λ other x f. elim (each other x f) [
        | inl old ↦ subst (λ (ds : List Declared). StaysThin syntax results internal (listed links (Some other)) ds) (sym (added_list t.links.items t'.links.items adds x.last (h.shape.ends other x old))) (h.thin other x old)
        | inr new ↦
            subst (λ (n : ℕ). StaysThin syntax results internal (listed links (Some n)) (listed t'.links.items x.last)) (sym new.0)
            (subst (λ (o : Option ℕ). StaysThin syntax results internal (listed links (Some place)) (listed t'.links.items o)) (sym new.1) whole)
      ];
    }

  -- more links alone
  pub thinned_links : (t' : Thinned) → Adds t.links.items t'.links.items → HaveLeaves (nodes_in syntax) t'.links.items → t'.ends.items ≡ t.ends.items → AreThinned syntax results internal links t'
  thinned_links t' adds leaves same = record {
    many = ap length same ∙ h.many;
    shape = record {
      backward = adds.backward;
      leaves = leaves;
      ends = λ other x f. added_link t.links.items t'.links.items adds x.last (h.shape.ends other x (sym (ap (λ (l : List (Option End)). get_or l other None) same) ∙ f));
    };
    thin = λ other x f.
        let old = sym (ap (λ (l : List (Option End)). get_or l other None) same) ∙ f in
        subst (λ (ds : List Declared). StaysThin syntax results internal (listed links (Some other)) ds) (sym (added_list t.links.items t'.links.items adds x.last (h.shape.ends other x old))) (h.thin other x old);
  }
