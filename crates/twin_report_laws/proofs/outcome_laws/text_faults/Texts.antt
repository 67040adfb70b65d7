-- Units that are right for the same texts are twins.
use Rattle.std.proofs.Common.{◌≡◌, ◌∙◌, ◌<◌, ◌+◌, ℕ, zero, suc, List, [], ◌∷◌, Option, Some, None, length, slice_get, refl, sym, ap, subst}
use Rattle.core_tree.specs.declared.node.Unit.{Unit}
use Rattle.core_tree.specs.declared.node.Program.{Program}
use Rattle.link_names.specs.declared.fault.LinkFault.{LinkFault}
use Rattle.unit_link.specs.Linked.{LinkedAt, LinksBadlyAt}
use Rattle.c_senses.specs.Tree.{Source}
use Rattle.c_senses.specs.Names.{source_of, numbered}
use Rattle.core_node_laws.proofs.count_laws.single_nodes.Places.{IsPlaced, is_placed}
use Rattle.parsed_tree_laws.proofs.reading_laws.right_laws.RightAlike.{right_alike}
use Rattle.twin_report_laws.specs.outcome_laws.fault_laws.Twins.{AreTwins, AreAllTwins}
use Rattle.twin_report_laws.proofs.outcome_laws.fault_laws.Faults.{one_link_fault, no_link_fault}
use Rattle.twin_report_laws.specs.outcome_laws.named_by_place.Named.{AreRightFrom}
use Rattle.twin_report_laws.proofs.outcome_laws.named_by_place.Whole.{named_by_place}
use Rattle.twin_report_laws.specs.outcome_laws.text_faults.Texts.{AreOfOneText, AreOfOneTexts, RightTwins, OneTextFault}
use Rattle.twin_report_laws.proofs.outcome_laws.text_faults.Keywords.{keyword_is}
use Rattle.twin_report_laws.proofs.outcome_laws.text_faults.Leaves.{places_differ}

text_twins : (number : ℕ) (u v : Unit) → AreOfOneText number u v → AreTwins u v
text_twins number u v h =
    let s : Source = numbered h.tag_number (source_of h.tokens h.tree) in
    let placed : IsPlaced s = is_placed h.tokens number h.tree h.tag_number h.cut h.read in
    let like = right_alike s h.name u v h.right h.other_right in
    record {
      alike = like;
      keywords = λ tag less.
          keyword_is s u h.types h.made h.name h.right tag less
          ∙ sym (keyword_is s v h.other_types h.other_made h.name h.other_right tag (subst (λ (n : ℕ). tag < n) like.tags less));
      valid = h.right.valid;
      other_valid = h.other_right.valid;
      named = h.named;
      other_named = h.other_named;
      places = places_differ s placed h.name u h.right;
      other_places = places_differ s placed h.name v h.other_right;
    }

as_many : (number : ℕ) (us vs : List Unit) → AreOfOneTexts number us vs → length us ≡ length vs
as_many number [] [] h = refl
as_many number [] (v ∷ vs) h = absurd h
as_many number (u ∷ us) [] h = absurd h
as_many number (u ∷ us) (v ∷ vs) h = ap suc (as_many (number + 1) us vs h.1)

some_one : {X : Type 0} → {x y : X} → ◌≡◌ {A = Option X} (Some x) (Some y) → x ≡ y
some_one h = cc

none_some : {X : Type 0} → {x : X} → ◌≡◌ {A = Option X} None (Some x) → ⊥
none_some h = cc

each_twins : (number : ℕ) (us vs : List Unit) → AreOfOneTexts number us vs → (k : ℕ) (u v : Unit) → slice_get us k ≡ Some u → slice_get vs k ≡ Some v → AreTwins u v
each_twins number [] vs h k u v first second = absurd (none_some first)
each_twins number (x ∷ us) [] h k u v first second = absurd h
each_twins number (x ∷ us) (y ∷ vs) h zero u v first second =
    subst (λ (a : Unit). AreTwins a v) (some_one first) (subst (λ (b : Unit). AreTwins x b) (some_one second) (text_twins number x y h.0))
each_twins number (x ∷ us) (y ∷ vs) h (suc k) u v first second = each_twins (number + 1) us vs h.1 k u v first second

all_twins : (us vs : List Unit) → AreOfOneTexts 0 us vs → AreAllTwins us vs
all_twins us vs h = record { many = as_many 0 us vs h; each = each_twins 0 us vs h }

pub right_twins : RightTwins
right_twins = record { one = text_twins; all = all_twins }

-- the first ones alone
right_from : (number : ℕ) (us vs : List Unit) → AreOfOneTexts number us vs → AreRightFrom number us
right_from number [] vs h = tt
right_from number (u ∷ us) [] h = absurd h
right_from number (u ∷ us) (v ∷ vs) h =
    let x = h.0 in
    (record { tokens = x.tokens; tree = x.tree; tag_number = x.tag_number; name = x.name; cut = x.cut; read = x.read; right = x.right }, right_from (number + 1) us vs h.1)

text_fault_one : {entered : List (List ℕ)} (us vs : List Unit) (fault other : LinkFault) → AreOfOneTexts 0 us vs → LinksBadlyAt entered us fault → LinksBadlyAt entered vs other → fault ≡ other
text_fault_one us vs fault other h f g = one_link_fault.named us vs fault other (all_twins us vs h) (named_by_place us (right_from 0 us vs h)) f g

text_fault_none : {entered : List (List ℕ)} (us vs : List Unit) (p : Program) (fault : LinkFault) → AreOfOneTexts 0 us vs → LinkedAt entered us p → LinksBadlyAt entered vs fault → ⊥
text_fault_none us vs p fault h linked g = no_link_fault us vs p fault (all_twins us vs h) linked g

pub one_text_fault : OneTextFault
one_text_fault = record { one = text_fault_one; none = text_fault_none }
