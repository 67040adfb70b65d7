-- Rows one after another.
use Rattle.std.proofs.Common.{arith, ◌≡◌, ◌+◌, ℕ, ◌<◌, List, [], ◌∷◌, ◌++◌, All, length, map, sym, ap, ◌∙◌, subst}
use Rattle.std.proofs.lemmas.List.Elements.{All-push, All-same}
use Rattle.std.proofs.lemmas.List.{map-append, length-map}
use Rattle.c_types.specs.Table.{TagMembers, type_of, members_among}
use Rattle.c_types.specs.Layout.{extent_of, looked_up, laid_out}
use Rattle.core_tree.specs.declared.node.Unit.{Unit}
use Rattle.c_inits.specs.Made.{TagParts}
use Rattle.c_senses.specs.Given.{Given, Fits}
use Rattle.c_senses.specs.Tree.{Source, production_at, children_at}
use Rattle.c_senses.specs.Tags.{tags_below}
use Rattle.c_senses.specs.Sense.{Sense, sense_in}
use Rattle.c_senses.specs.Rows.{world_at, row_of, AreSenses}
use Rattle.parsed_tree_laws.specs.sense_laws.Senses.{ChildrenFirst}
use Rattle.core_nodes.specs.Standing.{parts_in, IsReady, Knows}
use Rattle.c_results.specs.declared.made.Made.{Made}
use Rattle.c_results.specs.Standing.{sense_made, senses_made, IsWithin}
use Rattle.c_types.specs.Made.{IsMade}
use Rattle.c_initials.specs.Filling.{Fills}
use Rattle.unit_walk.proofs.filling_laws.Worlds.{fills_one}
use Rattle.unit_walk.specs.unit_rows.PassedOn.{Keeps}
use Rattle.unit_worlds.specs.Growing.{Grows, completed_at}
use Rattle.unit_worlds.proofs.Sensing.{no_senses, senses_more}
use Rattle.unit_worlds.proofs.Worlds.{known_one}
use Rattle.c_meanings.specs.declared.names.Names.{Names}
use Rattle.c_meanings.specs.Linkages.{AreLinkages}
use Rattle.c_meanings.proofs.Onward.{linkages_more}
use Rattle.c_structures.specs.Listed.{AreLists}
use Rattle.c_structures.proofs.Opening.{lists_more}
use Rattle.tree_reads.specs.declared.syntax.Syntax.{Syntax}
use Rattle.unit_walk.specs.declared.unit_rows.along.Along.{Along}
use Rattle.unit_walk.specs.unit_rows.Along.{AreAlong}
use Rattle.unit_walk.specs.unit_rows.Standing.{Stand, AreMade}
use Rattle.unit_walk.proofs.Keeping.{mades_grown, withins_grown, kept_grown}

-- before the first row
pub stand_empty : (count : ℕ) (u : Unit) → IsReady u → Stand count u []
stand_empty count u ready = record { ready = ready; within = λ k d lt. absurd (omega arith); kept = λ k d lt. absurd (omega arith) }

pub made_empty : (s : Source) (u : Unit) → u.types.completed ≡ [] → u.types.tags ≡ tags_below s → AreMade s u []
made_empty s u e tags = record {
  senses = no_senses s;
  knows = record {
    members = λ tag. sym (ap (λ (cs : List TagMembers). parts_in u.types (members_among cs tag)) e);
    extents = λ t. sym (ap (λ (cs : List TagMembers). extent_of (looked_up (laid_out [] (map (λ c. record { tag = c.tag; types = map (λ m. type_of u.types m.ty.0) c.members }) cs))) t) e);
    tags = sym tags;
  };
}

-- the senses with one result more
pub senses_with : (s : Source) (u v : Unit) (rs more : List Made) (m : Made) (at : ℕ) → more ≡ rs ++ m ∷ [] → All (IsWithin u) rs → Grows u v (completed_at s (sense_in (senses_made u rs)) at) → senses_made v more ≡ senses_made u rs ++ sense_made v m ∷ []
senses_with s u v rs more m at pushed within grows =
    ap (senses_made v) pushed ∙ (map-append (sense_made v) rs (m ∷ []) ∙ ap (λ (t : List Sense). t ++ sense_made v m ∷ []) (mades_grown u v (completed_at s (sense_in (senses_made u rs)) at) grows rs within))

-- what is kept beside a unit stays right with one result more
pub along_more : (syntax : Syntax) (names : Names) (v : Unit) (rs more : List Made) (m : Made) (a : Along) → more ≡ rs ++ m ∷ [] → AreAlong syntax names v rs a → AreAlong syntax names v more a
along_more syntax names v rs more m a e h = record {
  lists = subst (λ (l : List Made). AreLists syntax l a.lists) (sym e) (lists_more syntax rs m a.lists h.lists);
  unions = h.unions;
  linkages = subst (λ (l : List Made). AreLinkages syntax l names a.linkages) (sym e) (linkages_more syntax rs m names a.linkages h.linkages);
}

-- what is known is the same around every node
pub known_at : (s : Source) (senses : List Sense) (u : Unit) (i j : ℕ) → Knows (world_at s senses i) u → Knows (world_at s senses j) u
known_at s senses u i j k = record { members = k.members; extents = k.extents; tags = k.tags }

-- the row of a node over some results
abbrev pub Whole : Source → Unit → List Made → ℕ → Given Sense
Whole s u rs at = row_of (world_at s (senses_made u rs) at) s (sense_in (senses_made u rs)) (production_at s at) at (children_at s at)

pub length_made : (u : Unit) (rs : List Made) → length (senses_made u rs) ≡ length rs
length_made u rs = length-map rs (sense_made u)

module _ (s : Source) (u : Unit) (rs : List Made) (made : AreMade s u rs) where
  so_many : length (senses_made u rs) ≡ length rs
  so_many = length-map rs (sense_made u)

  -- one result more
  module _ (first : ChildrenFirst s) (v : Unit) (m : Made) (more : List Made) (pushed : more ≡ rs ++ m ∷ []) (within : All (IsWithin u) rs) (inside : length rs < length s.nodes) (row : Whole s u rs (length rs) ≡ Fits (sense_made v m)) (grows : Grows u v (completed_at s (sense_in (senses_made u rs)) (length rs))) where
    grown : List Sense
    grown = senses_made u rs ++ sense_made v m ∷ []

    senses_pushed : senses_made v more ≡ senses_made u rs ++ sense_made v m ∷ []
    senses_pushed = senses_with s u v rs more m (length rs) pushed within grows

    fits_there : Whole s u rs (length (senses_made u rs)) ≡ Fits (sense_made v m)
    fits_there = subst (λ (i : ℕ). Whole s u rs i ≡ Fits (sense_made v m)) (sym so_many) row

    grows_there : Grows u v (completed_at s (sense_in (senses_made u rs)) (length (senses_made u rs)))
    grows_there = subst (λ (i : ℕ). Grows u v (completed_at s (sense_in (senses_made u rs)) i)) (sym so_many) grows

    pub made_more : AreMade s v more
    made_more = record {
      senses = subst (AreSenses s) (sym senses_pushed) (senses_more s (senses_made u rs) (sense_made v m) made.senses (omega (arith, so_many, inside)) fits_there);
      knows = subst (λ (t : List Sense). Knows (world_at s t (length more)) v) (sym senses_pushed)
          (known_one s first (senses_made u rs) (sense_made v m) u v (length rs) (length more) grows_there made.knows);
    }

-- the results stand with one more
pub stand_more : (count : ℕ) (u v : Unit) (es : List TagParts) → Grows u v es → IsReady v → (rs more : List Made) (m : Made) → more ≡ rs ++ m ∷ [] → Stand count u rs → IsWithin v m → Keeps count (sense_made v m) → Stand count v more
stand_more count u v es grows ready rs more m e stand here keeps = record {
  ready = ready;
  within = All-same (IsWithin v) more (rs ++ m ∷ []) e (All-push (IsWithin v) rs m (withins_grown u v es grows rs stand.within) here);
  kept =
      All-same (λ (r : Made). Keeps count (sense_made v r)) more (rs ++ m ∷ []) e
      (All-push (λ (r : Made). Keeps count (sense_made v r)) rs m (kept_grown u v count es grows rs stand.within stand.kept) keeps);
}

-- what the unit says of what can be initialised, with one result more
pub fills_more : (s : Source) (u v : Unit) (rs more : List Made) (m : Made) (at : ℕ) → ChildrenFirst s → more ≡ rs ++ m ∷ [] → length rs ≡ at → All (IsWithin u) rs → IsMade u.types → IsMade v.types → Grows u v (completed_at s (sense_in (senses_made u rs)) at) → Fills (world_at s (senses_made u rs) at) u → Fills (world_at s (senses_made v more) (at + 1)) v
fills_more s u v rs more m at first pushed long within old new grows k =
    let so_long : length (senses_made u rs) ≡ at = length-map rs (sense_made u) ∙ long in
    let here : Grows u v (completed_at s (sense_in (senses_made u rs)) (length (senses_made u rs))) =
    subst (λ (i : ℕ). Grows u v (completed_at s (sense_in (senses_made u rs)) i)) (sym so_long) grows in
    subst (λ (t : List Sense). Fills (world_at s t (at + 1)) v) (sym (senses_with s u v rs more m at pushed within grows))
    (fills_one s first (senses_made u rs) (sense_made v m) u v at (at + 1) old new here k)

-- one result more
pub made_there : (s : Source) (u v : Unit) (rs more : List Made) (m : Made) (at : ℕ) → AreMade s u rs → ChildrenFirst s → more ≡ rs ++ m ∷ [] → length rs ≡ at → All (IsWithin u) rs → at < length s.nodes → Whole s u rs at ≡ Fits (sense_made v m) → Grows u v (completed_at s (sense_in (senses_made u rs)) at) → AreMade s v more
made_there s u v rs more m at made first pushed long within inside row grows =
    made_more s u rs made first v m more pushed within (omega (arith, long, inside))
    (subst (λ (i : ℕ). Whole s u rs i ≡ Fits (sense_made v m)) (sym long) row)
    (subst (λ (i : ℕ). Grows u v (completed_at s (sense_in (senses_made u rs)) i)) (sym long) grows)
