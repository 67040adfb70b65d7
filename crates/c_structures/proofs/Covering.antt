-- A cursor that covers one node more.
use Rattle.std.proofs.Common.{arith, ◌≡◌, ℕ, suc, ◌+◌, ◌<◌, List, [], ◌∷◌, ◌++◌, Option, Some, None, All, length, take, get_or, map, length-append, append_assoc, refl, sym, ap, ◌∙◌, subst}
use Rattle.std.specs.Prelude.{slice_index}
use Rattle.std.proofs.lemmas.List.{take_more, append-nil, get_or_append_left}
use Rattle.std.proofs.lemmas.List.Elements.{All-head, All-tail, All-push, All-weaker}
use Rattle.c_types.specs.declared.term.MemberTerm.{MemberTerm}
use Rattle.c_types.specs.Table.{Table}
use Rattle.core_tree.specs.declared.node.Unit.{Unit}
use Rattle.c_inits.specs.Made.{Part}
use Rattle.c_inits.specs.Tables.{part_of}
use Rattle.c_senses.specs.Tree.{Source}
use Rattle.c_senses.specs.World.{World}
use Rattle.c_senses.specs.Sense.{Sense, Nothing, IsMembers, sense_in}
use Rattle.c_senses.specs.Tags.{members_in_sense, members_among}
use Rattle.c_results.specs.declared.made.Made.{Made}
use Rattle.c_results.specs.Standing.{sense_made, senses_made}
use Rattle.c_results.specs.Parts.{parts_in}
use Rattle.c_structures.specs.declared.names.MemberNames.{MemberNames}
use Rattle.c_structures.specs.declared.before.Cursor.{Cursor}
use Rattle.c_structures.specs.Named.{SaysNames}
use Rattle.c_structures.specs.Before.{Covers}

map_append : {X Y : Type 0} (f : X → Y) (xs ys : List X) → map f (xs ++ ys) ≡ map f xs ++ map f ys
map_append f [] ys = refl
map_append f (x ∷ xs) ys = ap (λ (zs : List _). f x ∷ zs) (map_append f xs ys)

length_map : {X Y : Type 0} (f : X → Y) (xs : List X) → length (map f xs) ≡ length xs
length_map f [] = refl
length_map f (x ∷ xs) = ap suc (length_map f xs)

abbrev pub parts_or : Option (List Part) → List Part
parts_or None = []
parts_or (Some parts) = parts

module _ (w : World) (s : Source) (sense : ℕ → Sense) where
  pub in_sense : (x : Sense) → members_in_sense w s sense x ≡ parts_or (parts_in x)
  in_sense (IsMembers parts) = refl
  in_sense x = refl

  pub among_append : (xs ys : List ℕ) → members_among w s sense (xs ++ ys) ≡ members_among w s sense xs ++ members_among w s sense ys
  among_append [] ys = refl
  among_append (x ∷ xs) ys = ap (λ (ps : List Part). members_in_sense w s sense (sense x) ++ ps) (among_append xs ys) ∙ sym (append_assoc (members_in_sense w s sense (sense x)) (members_among w s sense xs) (members_among w s sense ys))

  -- the members of one node more
  pub among_next : (nodes : List ℕ) (i : ℕ) → i < length nodes → members_among w s sense (take (i + 1) nodes) ≡ members_among w s sense (take i nodes) ++ parts_or (parts_in (sense (slice_index nodes i)))
  among_next nodes i h =
      ap (members_among w s sense) (take_more nodes i 0 h)
      ∙ (among_append (take i nodes) (slice_index nodes i ∷ [])
      ∙ ap (λ (ps : List Part). members_among w s sense (take i nodes) ++ ps) (append-nil (members_in_sense w s sense (sense (slice_index nodes i))) ∙ in_sense (sense (slice_index nodes i))))

-- the names of one node's members more
pub covers_next : (results : List Made) (nodes : List ℕ) (c : Cursor) (names : MemberNames) → c.done < length nodes → slice_index nodes c.done < length results
    → ((u : Unit) (w : World) (s : Source) → SaysNames names (members_among w s (sense_in (senses_made u results)) (take c.done nodes) ++ parts_or (parts_in (sense_in (senses_made u results) (slice_index nodes c.done)))))
    → Covers results nodes c → Covers results nodes (record { done = c.done + 1; names = names })
covers_next results nodes c names h made says covers = record {
  within = omega arith;
  made = subst (λ (ns : List ℕ). All (λ n. n < length results) ns) (sym (take_more nodes c.done 0 h)) (All-push (λ (n : ℕ). n < length results) (take c.done nodes) (slice_index nodes c.done) covers.made made);
  names = λ u w s. subst (λ (ps : List Part). SaysNames names ps) (sym (among_next w s (sense_in (senses_made u results)) nodes c.done h)) (says u w s);
}

pub covers_some : (results : List Made) (nodes : List ℕ) (c : Cursor) (names : MemberNames) (ms : List MemberTerm) → c.done < length nodes → slice_index nodes c.done < length results
    → ((u : Unit) → parts_in (sense_in (senses_made u results) (slice_index nodes c.done)) ≡ Some (map (part_of u.types) ms))
    → ((table : Table) (parts : List Part) → SaysNames c.names parts → SaysNames names (parts ++ map (part_of table) ms))
    → Covers results nodes c → Covers results nodes (record { done = c.done + 1; names = names })
covers_some results nodes c names ms h made seen added covers =
    covers_next results nodes c names h made
    (λ u w s.
    let before = members_among w s (sense_in (senses_made u results)) (take c.done nodes) in
    subst (λ (o : Option (List Part)). SaysNames names (before ++ parts_or o)) (sym (seen u)) (added u.types before (covers.names u w s)))
    covers

pub covers_none : (results : List Made) (nodes : List ℕ) (c : Cursor) → c.done < length nodes → slice_index nodes c.done < length results
    → ((u : Unit) → parts_in (sense_in (senses_made u results) (slice_index nodes c.done)) ≡ None)
    → Covers results nodes c → Covers results nodes (record { done = c.done + 1; names = c.names })
covers_none results nodes c h made seen covers =
    covers_next results nodes c c.names h made
    (λ u w s.
    let before = members_among w s (sense_in (senses_made u results)) (take c.done nodes) in
    subst (λ (o : Option (List Part)). SaysNames c.names (before ++ parts_or o)) (sym (seen u)) (subst (λ (ps : List Part). SaysNames c.names ps) (sym (append-nil before)) (covers.names u w s)))
    covers

-- what is covered stays so while more is made
module _ (results : List Made) (m : Made) where
  same_sense : (u : Unit) (n : ℕ) → n < length results → sense_in (senses_made u (results ++ m ∷ [])) n ≡ sense_in (senses_made u results) n
  same_sense u n h =
      ap (λ (xs : List Sense). get_or xs n Nothing) (map_append (sense_made u) results (m ∷ []))
      ∙ get_or_append_left (senses_made u results) (sense_made u m ∷ []) Nothing n (omega (arith, length_map (sense_made u) results))

  same_members : (u : Unit) (w : World) (s : Source) (nodes : List ℕ) → All (λ n. n < length results) nodes → members_among w s (sense_in (senses_made u (results ++ m ∷ []))) nodes ≡ members_among w s (sense_in (senses_made u results)) nodes
  same_members u w s [] all = refl
  same_members u w s (n ∷ nodes) all =
      let here : members_in_sense w s (sense_in (senses_made u (results ++ m ∷ []))) (sense_in (senses_made u (results ++ m ∷ [])) n) ≡ members_in_sense w s (sense_in (senses_made u results)) (sense_in (senses_made u results) n)
      = in_sense w s (sense_in (senses_made u (results ++ m ∷ []))) (sense_in (senses_made u (results ++ m ∷ [])) n) ∙ (ap (λ (x : Sense). parts_or (parts_in x)) (same_sense u n (All-head (λ (k : ℕ). k < length results) n nodes all)) ∙ sym (in_sense w s (sense_in (senses_made u results)) (sense_in (senses_made u results) n))) in
      let rest = same_members u w s nodes (All-tail (λ (k : ℕ). k < length results) n nodes all) in
      cc

  pub covers_more : (nodes : List ℕ) (c : Cursor) → Covers results nodes c → Covers (results ++ m ∷ []) nodes c
  covers_more nodes c covers = record {
    within = covers.within;
    made = All-weaker (λ (k : ℕ). k < length results) (λ (k : ℕ). k < length (results ++ m ∷ [])) (λ k h. omega (arith, length-append results (m ∷ []))) (take c.done nodes) covers.made;
    names = λ u w s. subst (λ (ps : List Part). SaysNames c.names ps) (sym (same_members u w s (take c.done nodes) covers.made)) (covers.names u w s);
  }
