-- The nodes of a right unit that name objects and functions at one place name one.
use Rattle.std.proofs.Common.{◌≡◌, ◌∙◌, ℕ, List, take, Option, Some, None, slice_get, refl, sym, ap, subst}
use Rattle.std.proofs.lemmas.Option.{slice_get_within}
use Rattle.pta_base.specs.declared.place.Place.{Place}
use Rattle.c_lexer.specs.declared.Token.{Token}
use Rattle.c_lexer.specs.declared.Tokens.{Tokens}
use Rattle.c_grammar.specs.declared.trees.Tree.{Tree}
use Rattle.c_parser.specs.c_units.Units.{IsUnit}
use Rattle.c_types.specs.Trees.{Ctype}
use Rattle.core_tree.specs.declared.node.Unit.{Unit}
use Rattle.core_tree.specs.declared.node.Node.{Node}
use Rattle.core_tree.specs.declared.node.NodeKind.{NodeKind}
use Rattle.core_tree.specs.declared.node.NodeKind.TheVariants.{Named, FunctionName}
use Rattle.core_tree.specs.Valid.{IsUseOf}
use Rattle.c_consts.specs.Core.{Core, Cores, Of}
use Rattle.c_senses.specs.Names.{source_of, numbered}
use Rattle.c_senses.specs.Tree.{Source, place_of_token, token_at, place_at}
use Rattle.c_senses.specs.World.{Meaning, Object, Function}
use Rattle.c_senses.specs.Rows.{world_at}
use Rattle.c_senses.specs.Sense.{Sense}
use Rattle.c_senses.specs.Right.{Numbering, SameKind, StandsBy}
use Rattle.parsed_tree_laws.specs.family_laws.Families.{Families, IsChild}
use Rattle.parsed_tree_laws.proofs.family_laws.Reading.{units_families}
use Rattle.parsed_tree_laws.specs.span_laws.Spans.{Spanned}
use Rattle.parsed_tree_laws.proofs.span_laws.Whole.{units_are_spanned}
use Rattle.core_node_laws.proofs.count_laws.single_nodes.Places.{IsPlaced, is_placed, one_place}
use Rattle.core_node_laws.specs.near_nodes.Holding.{Asks, Holds}
use Rattle.twin_report_laws.specs.outcome_laws.used_names.Uses.{RightUsesOnce}
use Rattle.twin_report_laws.proofs.outcome_laws.used_names.Parts.{uses_are_parts}
use Rattle.twin_report_laws.proofs.outcome_laws.used_names.Primaries.{Placed}
use Rattle.twin_report_laws.proofs.outcome_laws.used_names.Senses.{Means, IsNamedAt, all_placed}
use Rattle.twin_report_laws.proofs.outcome_laws.used_names.Standing.{node_holds}

some_one : {X : Type 0} → {x y : X} → ◌≡◌ {A = Option X} (Some x) (Some y) → x ≡ y
some_one h = cc

-- a name means one thing
one_meaning : (m : Option Meaning) (d e : ℕ) → Means m d → Means m e → d ≡ e
one_meaning (Some (Object x t)) d e h k = sym h ∙ k
one_meaning (Some (Function x t)) d e h k = sym h ∙ k
one_meaning m d e h k = absurd h

module _ (s : Source) (senses : List Sense) (families : Families s) (spanned : Spanned s) (placed : IsPlaced s) where
  -- what is named at one place is one
  one_named : (d e : ℕ) (p q : Place) → IsNamedAt s senses d p → IsNamedAt s senses e q → p.line ≡ q.line → p.column ≡ q.column → d ≡ e
  one_named d e p q h k line column =
      let lines : (place_at s h.first).line ≡ (place_at s k.first).line = sym (ap (λ (x : Place). x.line) h.place_is) ∙ (line ∙ ap (λ (x : Place). x.line) k.place_is) in
      let columns : (place_at s h.first).column ≡ (place_at s k.first).column = sym (ap (λ (x : Place). x.column) h.place_is) ∙ (column ∙ ap (λ (x : Place). x.column) k.place_is) in
      let first : h.first ≡ k.first =
      one_place s placed h.first k.first (spanned.primaries h.at h.first h.rest h.primary h.children) (spanned.primaries k.at k.first k.rest k.primary k.children) h.token k.token lines columns in
      let child : IsChild s h.at h.first = (0, ap (λ (l : List ℕ). slice_get l 0) h.children) in
      let other : IsChild s k.at k.first = (0, ap (λ (l : List ℕ). slice_get l 0) k.children) in
      let at : h.at ≡ k.at = families.single h.at k.at h.first child (subst (λ (x : ℕ). IsChild s k.at x) (sym first) other) in
      one_meaning ((world_at s (take k.at senses) k.at).meaning k.first) d e
      (subst (λ (x : ℕ). Means ((world_at s (take x senses) x).meaning k.first) d) at (subst (λ (x : ℕ). Means ((world_at s (take h.at senses) h.at).meaning x) d) first h.means))
      k.means

  in_unit : (d : ℕ) (p : Place) → IsNamedAt s senses d p → p.unit ≡ s.unit
  in_unit d p h = ap (λ (x : Place). x.unit) h.place_is ∙ by (token_at s h.first)
    where
      by : (o : Option Token) → (place_of_token s.unit o).unit ≡ s.unit
      by None = refl
      by (Some t) = refl

  -- a node that names an entity, by what its tree names
  record Names (n : Numbering) (e : ℕ) (p : Place) : Type 0 where
    named : ℕ
    number : n named ≡ Some e
    there : IsNamedAt s senses named p

  module _ (n : Numbering) (p : Place) (type : Ctype) (under : Cores) where
    abbrev Asked : NodeKind → Type 0
    Asked kind = Asks (Placed (IsNamedAt s senses)) kind p type under

    by_name : (kind : NodeKind) (x e : ℕ) → SameKind n kind (Named x) → x ≡ e → Asked kind → Names n e p
    by_name (Named d) x e same is h = record { named = d; number = same ∙ ap (λ (k : ℕ). Some k) is; there = h }
    by_name kind x e same is h = absurd (cc)

    by_function : (kind : NodeKind) (x e : ℕ) → SameKind n kind (FunctionName x) → x ≡ e → Asked kind → Names n e p
    by_function (FunctionName d) x e same is h = record { named = d; number = same ∙ ap (λ (k : ℕ). Some k) is; there = h }
    by_function kind x e same is h = absurd (cc)

    by_kind : (other kind : NodeKind) (e : ℕ) → SameKind n kind other → IsUseOf other e → Asked kind → Names n e p
    by_kind (Named x) kind e same is h = by_name kind x e same is h
    by_kind (FunctionName x) kind e same is h = by_function kind x e same is h
    by_kind other kind e same is h = absurd is

  by_tree : (n : Numbering) (u : Unit) (i e : ℕ) (a : Node) (c : Core) → slice_get u.nodes.items i ≡ Some a → IsUseOf a.kind e → StandsBy n u i c → Holds (Placed (IsNamedAt s senses)) c → Names n e a.place
  by_tree n u i e a (Of kind place type under) at is stands holds =
      let same : stands.0 ≡ a = some_one (sym stands.1 ∙ at) in
      let kinds : SameKind n kind a.kind = subst (λ (x : Node). SameKind n kind x.kind) same stands.2 in
      let here : a.place ≡ place = ap (λ (x : Node). x.place) (sym same) ∙ stands.3 in
      subst (Names n e) (sym here) (by_kind n place type under a.kind kind e kinds is holds.0)

unit_is : (tokens : Tokens) (unit : ℕ) (tree : Tree) (tag_number : ℕ → ℕ) → IsUnit tokens unit tree → (numbered tag_number (source_of tokens tree)).unit ≡ unit
unfolding source_of
unit_is tokens unit tree tag_number read = read.1

pub right_uses_once : RightUsesOnce
right_uses_once tokens unit tree tag_number name u cut read r =
    let s : Source = numbered tag_number (source_of tokens tree) in
    let families = units_families tokens unit tree tag_number cut read in
    let spanned = units_are_spanned tokens unit tree tag_number read in
    let placed = is_placed tokens unit tree tag_number cut read in
    let all = all_placed s r.senses r.are_senses (uses_are_parts tokens unit tree tag_number cut read) in
    let names : (n e : ℕ) (a : Node) → slice_get u.nodes.items n ≡ Some a → IsUseOf a.kind e → Names s r.senses families spanned placed r.numbering e a.place =
    λ n e a at is. (let h = node_holds (Placed (IsNamedAt s r.senses)) s name u r all n (slice_get_within u.nodes.items n a at) in by_tree s r.senses families spanned placed r.numbering u n e a h.tree at is h.stands h.holds) in
    record {
      placed = λ n e a at is. in_unit s r.senses families spanned placed (names n e a at is).named a.place (names n e a at is).there ∙ unit_is tokens unit tree tag_number read;
      one = λ n m e f a b at there is other line column.
          let h = names n e a at is in
          let k = names m f b there other in
          let same : h.named ≡ k.named = one_named s r.senses families spanned placed h.named k.named a.place b.place h.there k.there line column in
          some_one (sym h.number ∙ (ap r.numbering same ∙ k.number));
    }
