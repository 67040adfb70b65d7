-- Rounds keep what is known of the classes, and the last one settles them.
use Rattle.std.proofs.Common.{arith, ◌≡◌, ℕ, ◌<◌, List, length, get_or, All, sym, ◌∙◌, subst, Option, Some, None, IfSome}
use Rattle.std.specs.List.{slice_index_or}
use Rattle.std.proofs.lemmas.List.Elements.{All-from_get_or}
use Rattle.std.proofs.lemmas.Option.{slice_get_within, slice_get-get_or}
use Rattle.c_types.specs.Table.{Table}
use Rattle.core_tree.specs.declared.node.Unit.{Unit}
use Rattle.link_model.specs.declared.item.Item.{Item}
use Rattle.link_model.specs.Units.{item}
use Rattle.link_model.specs.link_types.Joined.{AreStarts, AreKeyed}
use Rattle.link_model.specs.link_types.Leaders.{AreLeaders, AreNumbers}
use Rattle.link_model.proofs.link_types.Numbering.{number_below}
use Rattle.link_merge.specs.Keys.{AllStand}
use Rattle.link_merge.specs.Tags.{place_in}
use Rattle.link_merge.specs.Counted.{AreOfTags}
use Rattle.link_merge.specs.Classes.{CountsFor, AreClasses, AreShown, AreCollected, IsRound, IsSettled}
use Rattle.link_merge.proofs.Keywords.{are_keyed}
use Rattle.link_merge.proofs.Numbers.{joins_numbers}
use Rattle.link_merge.proofs.Places.{starts_right}
use Rattle.link_merge.proofs.Rounds.{round_next, round_stable}

pub of_tags : (units : List Unit) (type_starts tag_starts : List ℕ) (tags : List Item) (counted : List (Option ℕ)) → AreCollected units type_starts tag_starts tags counted → AreOfTags units tags
of_tags units type_starts tag_starts tags counted h = record { each = λ g a at. (h.tags_are.each g a at).0 }

-- what is kept is the place of a tag
pub counted_within : (units : List Unit) (type_starts tag_starts : List ℕ) (tags : List Item) (counted : List (Option ℕ)) → AreCollected units type_starts tag_starts tags counted → (g : ℕ) → g < length counted → IfSome (slice_index_or counted g None) (λ k. k < length tags)
counted_within units type_starts tag_starts tags counted h g lt =
    let many = h.many in
    let a = get_or tags g (item 0 0) in
    let at = slice_get-get_or tags g (item 0 0) (omega arith) in
    let (tag, place) = h.tags_are.each g a at in
    subst (λ n. IfSome (slice_index_or counted n None) (λ k. k < length tags)) place (here a (slice_index_or counted (place_in tag_starts a) None) (h.counts.each a tag))
  where
    here : (a : Item) (o : Option ℕ) → CountsFor units tag_starts a o → IfSome o (λ k. k < length tags)
    here a None c = tt
    here a (Some k) c = (let w = slice_get_within tags (place_in tag_starts c.tag) c.tag (h.tags_are.place c.tag c.is_tag) in let p = c.place in omega arith)

pub starts_of_numbers : (units : List Unit) (type_starts tag_starts numbers : List ℕ) (tags : List Item) (counted : List (Option ℕ)) → AreCollected units type_starts tag_starts tags counted → length numbers ≡ length tags → AreStarts units tag_starts (length numbers)
starts_of_numbers units type_starts tag_starts numbers tags counted h many = subst (AreStarts units tag_starts) (sym h.tags_are.many ∙ sym many) (starts_right units tag_starts h.sums)

pub known_numbers : (leaders numbers : List ℕ) (count : ℕ) → AreLeaders leaders → AreNumbers leaders numbers count → All (λ k. k < count) numbers
known_numbers leaders numbers count lead are = All-from_get_or (λ k. k < count) numbers 0 (λ i lt. number_below leaders numbers count lead are i (let a = are.all in omega arith))

pub keyed_numbers : (units : List Unit) (type_starts tag_starts leaders numbers : List ℕ) (tags : List Item) (counted : List (Option ℕ)) (count : ℕ) → AreCollected units type_starts tag_starts tags counted → AreClasses units tag_starts leaders → length leaders ≡ length tags
    → AreNumbers leaders numbers count → AreKeyed units tag_starts numbers
keyed_numbers units type_starts tag_starts leaders numbers tags counted count h classes many are =
    let begin = starts_of_numbers units type_starts tag_starts numbers tags counted h (are.all ∙ many) in
    are_keyed units tag_starts numbers tags h.made h.tags_are (joins_numbers units tag_starts leaders numbers tags count h.tags_are many are begin classes)

pub stand_shown : (units : List Unit) (type_starts : List ℕ) (tag : ℕ → ℕ → ℕ) (table : Table) → AreShown units type_starts tag table → AllStand units type_starts (length table.terms)
stand_shown units type_starts tag table h = record { enough = h.enough; each = h.within }

module _
    (units : List Unit)
    (type_starts tag_starts leaders numbers next : List ℕ)
    (tags : List Item)
    (counted : List (Option ℕ))
    (table : Table)
    (h : AreCollected units type_starts tag_starts tags counted)
    (classes : AreClasses units tag_starts leaders)
    (many : length leaders ≡ length tags)
    (round : IsRound units type_starts tag_starts tags counted leaders numbers next table) where
  begin : AreStarts units tag_starts (length numbers)
  begin = starts_of_numbers units type_starts tag_starts numbers tags counted h (round.many ∙ many)

  pub classes_next : AreClasses units tag_starts next
  classes_next = round_next units tag_starts type_starts leaders numbers next tags counted table table.tags h.kept h.made h.tags_are h.counts classes many round.numbered begin round.shown round.refined

  pub settled_now : next ≡ leaders → IsSettled units type_starts tag_starts numbers table
  settled_now same = record {
    leaders = leaders;
    all = round.many;
    classes = classes;
    numbered = round.numbered;
    stable = round_stable units tag_starts type_starts leaders numbers next tags counted table table.tags h.kept h.made h.tags_are h.counts classes many round.numbered begin round.shown round.refined same;
    shown = round.shown;
    completed = round.completed;
  }
