-- Tags have one number exactly where they have one leader.
use Rattle.std.proofs.Common.{arith, ◌≡◌, ℕ, ◌<◌, List, length, ap, sym, ◌∙◌}
use Rattle.std.proofs.lemmas.Option.{slice_get_within}
use Rattle.core_tree.specs.declared.node.Unit.{Unit}
use Rattle.link_model.specs.declared.item.Item.{Item}
use Rattle.link_model.specs.Units.{IsTag}
use Rattle.link_model.specs.Partition.{number, Joins, Separates}
use Rattle.link_model.specs.link_types.Joined.{AreStarts, tag_in}
use Rattle.link_model.specs.link_types.Leaders.{AreLeaders, AreNumbers, leaders_below}
use Rattle.link_model.proofs.link_types.Numbering.{one_leader, number_below}
use Rattle.link_merge.specs.Tags.{AreTags, place_in}
use Rattle.link_merge.specs.Classes.{lead_in, AreClasses}
use Rattle.link_merge.proofs.Places.{number_at_place}

module _
    (units : List Unit)
    (starts leaders numbers : List ℕ)
    (tags : List Item)
    (count : ℕ)
    (are : AreTags units starts tags)
    (many : length leaders ≡ length tags)
    (numbered : AreNumbers leaders numbers count)
    (begin : AreStarts units starts (length numbers)) where
  place_lt : (a : Item) → IsTag units a → place_in starts a < length leaders
  place_lt a tag = (let w = slice_get_within tags (place_in starts a) a (are.place a tag) in omega arith)

  pub number_is : (a : Item) → IsTag units a → number (tag_in starts numbers) a ≡ leaders_below leaders (number (lead_in starts leaders) a)
  number_is a tag = number_at_place units starts numbers a begin tag ∙ numbered.each (place_in starts a) (place_lt a tag)

  pub number_of_leader : (a b : Item) → IsTag units a → IsTag units b → number (lead_in starts leaders) a ≡ number (lead_in starts leaders) b → number (tag_in starts numbers) a ≡ number (tag_in starts numbers) b
  number_of_leader a b ta tb e = number_is a ta ∙ (ap (leaders_below leaders) e ∙ sym (number_is b tb))

  pub leader_of_number : AreLeaders leaders → (a b : Item) → IsTag units a → IsTag units b → number (tag_in starts numbers) a ≡ number (tag_in starts numbers) b → number (lead_in starts leaders) a ≡ number (lead_in starts leaders) b
  leader_of_number lead a b ta tb e =
      one_leader leaders numbers count lead numbered (place_in starts a) (place_in starts b) (place_lt a ta) (place_lt b tb) (sym (number_at_place units starts numbers a begin ta) ∙ (e ∙ number_at_place units starts numbers b begin tb))

  pub number_less : AreLeaders leaders → (a : Item) → IsTag units a → number (tag_in starts numbers) a < count
  number_less lead a tag =
      let at = number_at_place units starts numbers a begin tag in
      let less = number_below leaders numbers count lead numbered (place_in starts a) (place_lt a tag) in
      omega arith

  pub joins_numbers : AreClasses units starts leaders → Joins units (tag_in starts numbers)
  joins_numbers classes = record { one = λ a b ta tb e. classes.joins.one a b ta tb (leader_of_number classes.lead a b ta tb e) }

  pub separates_numbers : AreClasses units starts leaders → Separates units (tag_in starts numbers)
  separates_numbers classes = record { apart = λ a b ta tb key ne. classes.separates.apart a b ta tb key (λ e. ne (number_of_leader a b ta tb e)) }
