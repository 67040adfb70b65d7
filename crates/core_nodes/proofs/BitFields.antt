-- Widths of bit-fields.
use Rattle.std.proofs.Common.{◌≡◌, ℕ, zero, suc, List, [], ◌∷◌, Option, Some, None, slice_get, map, refl, sym, ap, ◌∙◌}
use Rattle.std.specs.Option.{option_map}
use Rattle.c_types.specs.Table.{Table}
use Rattle.c_types.specs.declared.term.MemberTerm.{MemberTerm}
use Rattle.core_tree.specs.declared.node.NodeKind.{NodeKind}
use Rattle.core_tree.specs.declared.node.NodeKind.TheVariants.{Fetch, Member, MemberOfValue}
use Rattle.c_senses.specs.passed.c_consts.Core.{Core, Cores, Of, NoCores, MoreCores, kind_of, cores_under, ctype_of}
use Rattle.c_senses.specs.PassedOn.{Part}
use Rattle.c_senses.specs.World.{World, members_of}
use Rattle.c_senses.specs.Conversions.{place_width, read_width, width_in}
use Rattle.c_senses.specs.Objects.{named_width}
use Rattle.core_nodes.specs.Standing.{part_of}
use Rattle.core_nodes.specs.Sorts.{bits_of}

slice_get-map : (table : Table) (ms : List MemberTerm) (k : ℕ) → slice_get (map (part_of table) ms) k ≡ option_map (part_of table) (slice_get ms k)
slice_get-map table [] k = refl
slice_get-map table (m ∷ ms) zero = refl
slice_get-map table (m ∷ ms) (suc k) = slice_get-map table ms k

width_found : (table : Table) (o : Option MemberTerm) → bits_of o ≡ elim (option_map (part_of table) o) as (λ _. Option ℕ) [ None ↦ None | Some m ↦ m.bits ]
width_found table None = refl
width_found table (Some m) = refl

-- the width of a member among those of a table
pub width_listed : (table : Table) (ms : List MemberTerm) (k : ℕ) → width_in (Some (map (part_of table) ms)) k ≡ bits_of (slice_get ms k)
width_listed table ms k = ap (λ (o : Option Part). elim o as (λ _. Option ℕ) [ None ↦ None | Some m ↦ m.bits ]) (slice_get-map table ms k) ∙ sym (width_found table (slice_get ms k))

pub place_member : (w : World) (c d : Core) (k : ℕ) → kind_of c ≡ Member k → cores_under c ≡ MoreCores d NoCores → place_width w c ≡ width_in (members_of w (ctype_of d)) k
place_member w (Of kind place type under) d k e h = ap (λ (x : NodeKind). place_width w (Of x place type under)) e ∙ ap (λ (x : Cores). place_width w (Of (Member k) place type x)) h

pub place_no_child : (w : World) (c : Core) → ((d : Core) → cores_under c ≡ MoreCores d NoCores → ⊥) → place_width w c ≡ None
place_no_child w (Of (Member k) place type (MoreCores d NoCores)) h = absurd (h d refl)
place_no_child w (Of kind place type under) h = refl

pub place_no_member : (w : World) (c : Core) → ((k : ℕ) → kind_of c ≡ Member k → ⊥) → place_width w c ≡ None
place_no_member w (Of (Member k) place type under) h = absurd (h k refl)
place_no_member w (Of kind place type under) h = refl

pub read_fetch : (w : World) (c d : Core) → kind_of c ≡ Fetch → cores_under c ≡ MoreCores d NoCores → read_width w c ≡ place_width w d
read_fetch w (Of kind place type under) d e h = ap (λ (x : NodeKind). read_width w (Of x place type under)) e ∙ ap (λ (x : Cores). read_width w (Of Fetch place type x)) h

pub read_member : (w : World) (c d : Core) (k : ℕ) → kind_of c ≡ MemberOfValue k → cores_under c ≡ MoreCores d NoCores → read_width w c ≡ width_in (members_of w (ctype_of d)) k
read_member w (Of kind place type under) d k e h = ap (λ (x : NodeKind). read_width w (Of x place type under)) e ∙ ap (λ (x : Cores). read_width w (Of (MemberOfValue k) place type x)) h

pub read_no_child : (w : World) (c : Core) → ((d : Core) → cores_under c ≡ MoreCores d NoCores → ⊥) → read_width w c ≡ None
read_no_child w (Of Fetch place type (MoreCores d NoCores)) h = absurd (h d refl)
read_no_child w (Of (MemberOfValue k) place type (MoreCores d NoCores)) h = absurd (h d refl)
read_no_child w (Of kind place type under) h = refl

pub read_other : (w : World) (c : Core) → (kind_of c ≡ Fetch → ⊥) → ((k : ℕ) → kind_of c ≡ MemberOfValue k → ⊥) → read_width w c ≡ None
read_other w (Of Fetch place type under) h g = absurd (h refl)
read_other w (Of (MemberOfValue k) place type under) h g = absurd (g k refl)
read_other w (Of kind place type under) h g = refl

pub named_place : (w : World) (c d : Core) (k : ℕ) → kind_of c ≡ Member k → cores_under c ≡ MoreCores d NoCores → named_width w c ≡ width_in (members_of w (ctype_of d)) k
named_place w (Of kind place type under) d k e h = ap (λ (x : NodeKind). named_width w (Of x place type under)) e ∙ ap (λ (x : Cores). named_width w (Of (Member k) place type x)) h

pub named_value : (w : World) (c d : Core) (k : ℕ) → kind_of c ≡ MemberOfValue k → cores_under c ≡ MoreCores d NoCores → named_width w c ≡ width_in (members_of w (ctype_of d)) k
named_value w (Of kind place type under) d k e h = ap (λ (x : NodeKind). named_width w (Of x place type under)) e ∙ ap (λ (x : Cores). named_width w (Of (MemberOfValue k) place type x)) h

pub named_no_child : (w : World) (c : Core) → ((d : Core) → cores_under c ≡ MoreCores d NoCores → ⊥) → named_width w c ≡ None
named_no_child w (Of (Member k) place type (MoreCores d NoCores)) h = absurd (h d refl)
named_no_child w (Of (MemberOfValue k) place type (MoreCores d NoCores)) h = absurd (h d refl)
named_no_child w (Of kind place type under) h = refl

pub named_other : (w : World) (c : Core) → ((k : ℕ) → kind_of c ≡ Member k → ⊥) → ((k : ℕ) → kind_of c ≡ MemberOfValue k → ⊥) → named_width w c ≡ None
named_other w (Of (Member k) place type under) h g = absurd (h k refl)
named_other w (Of (MemberOfValue k) place type under) h g = absurd (g k refl)
named_other w (Of kind place type under) h g = refl

pub ruleset widths = (place_member, place_no_child, place_no_member, read_fetch, read_member, read_no_child, read_other, named_place, named_value, named_no_child, named_other, width_listed)
