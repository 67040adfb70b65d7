-- From what the walk has made to a unit.
use Rattle.std.proofs.Common.{◌≡◌, ℕ, ◌<◌, List, Option, All, Ok, Err, length, sym, ◌∙◌, subst}
use Rattle.std.specs.Prelude.{Result, IfOk, MatchResult}
use Rattle.std.proofs.lemmas.List.Elements.{All-weaker}
use Rattle.std.proofs.lemmas.List.{length-map}
use Rattle.c_types.specs.Table.{Table}
use Rattle.c_types.specs.Made.{IsMade, AreNamed}
use Rattle.core_tree.specs.declared.node.Node.{Node}
use Rattle.core_tree.specs.declared.node.Unit.{Unit}
use Rattle.core_nodes.specs.Once.{HasOnce}
use Rattle.core_nodes.specs.Standing.{Builds, IsReady, Knows}
use Rattle.core_nodes.specs.declared.fault.CheckFault.{CheckFault}
use Rattle.core_nodes.specs.declared.fault.CheckFault.TheVariants.{OutOfMemory}
use Rattle.c_results.specs.declared.made.Made.{Made}
use Rattle.c_results.specs.declared.made.Made.TheVariants as made
use Rattle.c_senses.specs.Sense.{Sense, sense_in}
use Rattle.c_results.specs.Standing.{sense_made, senses_made}
use Rattle.c_senses.specs.Tree.{Source}
use Rattle.c_senses.specs.Names.{numbered}
use Rattle.c_senses.specs.Rows.{world_at}
use Rattle.c_senses.specs.Right.{Right, KeysRight}
use Rattle.name_places.specs.Named.{IsNamedIn, IsNamedSense}
use Rattle.unit_walk.specs.row_shapes.Kept.{Keeps}
use Rattle.c_tags.specs.declared.tag_numbers.tags.Tags.{Tags}
use Rattle.c_tags.specs.tag_numbers.Known as known
use Rattle.c_tags.specs.tag_numbers.Ordered.{AreInOrder}
use Rattle.struct_rows.specs.Built.{HasTagTypes}
use Rattle.struct_rows.proofs.Building.{tag_types_on}
use Rattle.valid_unit_laws.specs.passed.body_node_laws.own_initials.Own.{InitialisesOwn}
use Rattle.unit_finish.specs.declared.unit_parts.declared.Declared.{Declared}
use Rattle.unit_finish.specs.own_bodies.Own.{HaveOwnBodies}
use Rattle.unit_finish.specs.declared.keeping.Kept.{Kept}
use Rattle.unit_finish.specs.Complete.{IsKept, Completes}
use Rattle.unit_finish.specs.Walked as finish
use Rattle.unit_finish.specs.Walked.{AreNames, AreTags}
use Rattle.unit_walk.specs.PassedOn.{AreKept, AreMade}
use Rattle.unit_walk.specs.Walked.{IsWalked, AreDense, RefusedIn}
use Rattle.valid_unit_laws.specs.lowered_laws.Parts.{AreParts}
use Rattle.c_lower.specs.unit_lowering.Lowered.{IsLowered, HasTags}
use Rattle.c_lower.proofs.unit_lowering.Owning.{names_owned}

-- the name of a declarator is a node
named_of : (count : ℕ) (u : Unit) (m : Made) → IsNamedSense count (sense_made u m) → IsNamedIn count m
named_of count u made.Nothing h = tt
named_of count u (made.Node i) h = tt
named_of count u (made.Typed t) h = tt
named_of count u (made.Specifiers storage functions ty) h = tt
named_of count u (made.Declarator name ds) h = h
named_of count u (made.Derived d) h = tt
named_of count u (made.Parameter name ty) h = tt
named_of count u (made.Members members) h = tt
named_of count u (made.Value n) h = tt
named_of count u (made.Run nodes) h = tt
named_of count u (made.Initial node n) h = tt

pub all_named : (count : ℕ) (u : Unit) (ms : List Made) → AreKept count u ms → All (IsNamedIn count) ms
all_named count u ms h = All-weaker (λ (m : Made). Keeps count (sense_made u m)) (IsNamedIn count) (λ m k. named_of count u m k.1.1) ms h

-- the tags of a whole walk
pub tags_walked : (s : Source) (u : Unit) (rs : List Made) (t : Tags) → known.AreTags s t → AreMade s u rs → AreTags s (senses_made u rs) u
tags_walked s u rs t tags h =
    let so_many : t.count ≡ u.types.tags = tags.count ∙ h.knows.tags in
    record {
      once = tags.differ;
      each = λ d is. subst (λ (n : ℕ). s.tag_number d < n) so_many (tags.below d is);
      no_other = λ n lt. tags.onto n (subst (λ (m : ℕ). n < m) (sym so_many) lt);
      members = λ d is. sym (h.knows.members (s.tag_number d));
    }

-- they stay while the unit is built on
pub tags_kept : (s : Source) (senses : List Sense) (old new : Unit) → Builds old new → AreTags s senses old → AreTags s senses new
tags_kept s senses old new b h = record {
  once = h.once;
  each = λ d e. subst (λ (n : ℕ). s.tag_number d < n) (sym b.tags) (h.each d e);
  no_other = λ t lt. h.no_other t (subst (λ (n : ℕ). t < n) b.tags lt);
  members = λ d e. b.parts (s.tag_number d) ∙ h.members d e;
}

-- what is known of members and sizes at the tree's end
pub knows_kept : (s : Source) (u new : Unit) (rs : List Made) → Builds u new → AreMade s u rs → Knows (world_at s (senses_made u rs) (length (senses_made u rs))) new
knows_kept s u new rs b h =
    let k : Knows (world_at s (senses_made u rs) (length (senses_made u rs))) u = subst (λ (n : ℕ). Knows (world_at s (senses_made u rs) n) u) (sym (length-map rs (sense_made u))) h.knows in
    record {
      members = λ tag. k.members tag ∙ sym (b.parts tag);
      extents = λ t. k.extents t ∙ sym (b.extents t);
      tags = k.tags ∙ sym b.tags;
    }

pub whole_walked : (s : Source) (u : Unit) (rs : List Made) → IsWalked s u rs → length (senses_made u rs) ≡ length s.nodes
whole_walked s u rs h = length-map rs (sense_made u) ∙ h.whole

-- what the walk has made, with the keys of its tags and the list of what is declared, in which automatic objects have bodies of their own
module _ (s : Source) (u new : Unit) (rs : List Made) (t : Tags) (keys : List (Option (List ℕ))) (list owned : List Declared) (walked : IsWalked s u rs) (tags : known.AreTags s t) (builds : Builds u new) (ready : IsReady new) (right : KeysRight s (sense_in (senses_made u rs)) keys) (count : length keys ≡ t.count) (names : AreNames s (senses_made u rs) new list) (own : HaveOwnBodies new.nodes.items list owned) (initials : InitialisesOwn s (senses_made u rs)) where
  pub walked_so : finish.IsWalked s (senses_made u rs) new keys owned
  walked_so = record {
    are_senses = walked.made.senses;
    whole = whole_walked s u rs walked;
    tags = tags_kept s (senses_made u rs) u new builds (tags_walked s u rs t tags walked.made);
    keys_right = right;
    one_key_each = count ∙ (tags.count ∙ (walked.made.knows.tags ∙ sym builds.tags));
    knows = knows_kept s u new rs builds walked.made;
    are_names = names_owned s (senses_made u rs) new list owned names ready own initials;
  }

  pub tag_types_so : HasTagTypes s u.types → HasTagTypes s new.types
  tag_types_so h = tag_types_on s u.types new.types builds.types builds.terms h

  -- they are parts
  abbrev pub parts_so : (kept : Kept) → HasTagTypes s u.types → IsMade new.types → AreNamed new.types → IsKept new.nodes.items owned kept → AreParts s
  parts_so kept types made terms stay = record {
    senses = senses_made u rs;
    walked = new;
    keys = keys;
    names = owned;
    kept = kept;
    ready = ready;
    made = walked_so;
    owned = (list, own);
    tag_types = tag_types_so types;
    table = made;
    terms = terms;
    stay = stay;
  }

-- what is completed has the table that it is given
pub completed_types : (name : List ℕ) (number : ℕ) (types : Table) (keys : List (Option (List ℕ))) (nodes : List Node) (list : List Declared) (r : Result Unit CheckFault)
    → MatchResult r (λ u. Completes name number types keys nodes list u) (λ fault. fault ≡ OutOfMemory) → MatchResult r (λ u. u.types ≡ types) (λ fault. fault ≡ OutOfMemory)
completed_types name number types keys nodes list (Ok u) h = h.is_unit.made.types_are
completed_types name number types keys nodes list (Err fault) h = h

-- a right unit with that table has the types of the tags
pub with_tags : (s : Source) (name : List ℕ) (types : Table) → HasTagTypes s types → IsMade types → AreNamed types → HasOnce types → (r : Result Unit CheckFault) → IfOk r (Right s name) → MatchResult r (λ u. u.types ≡ types) (λ fault. fault ≡ OutOfMemory)
    → MatchResult r (λ u. Right s name u × HasTags s u) (λ fault. fault ≡ OutOfMemory)
with_tags s name types has made named once (Ok u) right is =
    let tags : HasTags s u = record { types = subst (HasTagTypes s) (sym is) has; made = subst IsMade (sym is) made; named = subst AreNamed (sym is) named; once = subst HasOnce (sym is) once } in
    (right, tags)
with_tags s name types has made named once (Err fault) right is = is

-- the numbers of the tags
dense_of : (s : Source) (t : Tags) → known.AreTags s t → AreInOrder s → AreDense s
dense_of s t h ordered = record {
  differ = h.differ;
  below = λ d is. subst (λ (n : ℕ). s.tag_number d < n) h.count (h.below d is);
  onto = λ n lt. h.onto n (subst (λ (m : ℕ). n < m) (sym h.count) lt);
  ordered = ordered;
}

-- in the source with those numbers
pub lowered : (s plain : Source) (f : ℕ → ℕ) (t : Tags) (name : List ℕ) → s ≡ numbered f plain → known.AreTags s t → AreInOrder s → (r : Result Unit CheckFault) → MatchResult r (λ u. Right s name u × HasTags s u) (λ fault. fault ≡ OutOfMemory) → MatchResult r (IsLowered plain name) (RefusedIn plain)
lowered s plain f t name same tags ordered (Ok u) h = record {
  tag_number = f;
  dense = subst AreDense same (dense_of s t tags ordered);
  right = subst (λ (x : Source). Right x name u) same h.0;
  tags = subst (λ (x : Source). HasTags x u) same h.1;
}
lowered s plain f t name same tags ordered (Err fault) h = subst (RefusedIn plain) (sym h) tt

-- and no type stands twice in it
pub lowered_once : (s : Source) (name : List ℕ) (r : Result Unit CheckFault) → MatchResult r (IsLowered s name) (RefusedIn s) → IfOk r (λ (u : Unit). HasOnce u.types)
lowered_once s name (Ok u) h = h.tags.once
lowered_once s name (Err fault) h = tt
