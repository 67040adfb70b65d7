-- The uses that are known behind some nodes were made by them.
use Rattle.std.proofs.Common.{◌≡◌, ◌==◌, ℕ, ◌+◌, Bool, true, false, List, [], ◌∷◌, ◌++◌, Option, Some, None, refl, subst}
use Rattle.std.specs.Prelude.{⊤, if◌then◌else◌}
use Rattle.std.proofs.lemmas.Bool.{eqb-true}
use Rattle.c_mentions.specs.declared.mentions.Mention.{Mention}
use Rattle.c_mentions.specs.declared.mentions.Mention.TheVariants as mention
use Rattle.c_mentions.specs.declared.roles.TagUse.{TagUse}
use Rattle.c_mentions.specs.declared.roles.TagUse.TheVariants as tag
use Rattle.c_scope.specs.declared.kinds.Declared.{Declared}
use Rattle.c_scope.specs.declared.kinds.NameFault.TheVariants as fault
use Rattle.c_scope.specs.Known.{Happening, Known, known, after, after_use, after_tag, after_tag_use, after_tag_reference, after_label, after_goto, innermost, tag_declared, first_scope, is_first, with_fault}
use Rattle.c_senses.specs.Tree.{paired}

module _ (U : ℕ → Type 0) where
  abbrev pub AllUsed : List (ℕ × ℕ) → Type 0
  AllUsed [] = ⊤
  AllUsed (p ∷ ps) = U p.0 × AllUsed ps

  -- a node that mentions a name or a tag in order to use it
  abbrev pub Mentions : ℕ → Mention → Type 0
  Mentions n (mention.Use symbol exempt) = U n
  Mentions n (mention.Tag symbol how) = U n
  Mentions n m = ⊤

  abbrev pub AllMention : ℕ → List Happening → Type 0
  AllMention n [] = ⊤
  AllMention n (h ∷ hs) = Mentions n h.mention × AllMention (n + 1) hs

  used_more : (ps : List (ℕ × ℕ)) (n x : ℕ) → AllUsed ps → U n → AllUsed (ps ++ (n, x) ∷ [])
  used_more [] n x h own = (own, tt)
  used_more (p ∷ ps) n x h own = (h.0, used_more ps n x h.1 own)

  after_used : (n : ℕ) (exempt : Bool) (o : Option Declared) (k : Known) → U n → AllUsed k.uses → AllUsed (after_use n exempt o k).uses
  after_used n true None k own h = h
  after_used n false None k own h = h
  after_used n exempt (Some d) k own h = used_more k.uses n d.node h own

  after_tagged : (file n symbol : ℕ) (scopes : List ℕ) (how : TagUse) (k : Known) → U n → AllUsed k.uses → AllUsed (after_tag file n symbol scopes how k).uses
  after_tagged file n symbol scopes tag.Declares k own h = h
  after_tagged file n symbol scopes tag.Refers k own h = by (innermost scopes symbol k.tags)
    where
      by : (o : Option Declared) → AllUsed (after_tag_reference n (tag_declared n symbol (first_scope file scopes)) o k).uses
      by None = h
      by (Some d) = used_more k.uses n d.node h own
  after_tagged file n symbol scopes tag.Uses k own h = by (innermost scopes symbol k.tags)
    where
      by : (o : Option Declared) → AllUsed (after_tag_use n o k).uses
      by None = h
      by (Some d) = used_more k.uses n d.node h own

  after_labelled : (n : ℕ) (first : Option ℕ) (k : Known) → AllUsed k.uses → AllUsed (after_label n first k).uses
  after_labelled n first k h = by (is_first n first)
    where
      by : (b : Bool) → AllUsed (if b then k else with_fault (fault.Redeclared n) k).uses
      by true = h
      by false = h

  after_gone : (n : ℕ) (first : Option ℕ) (k : Known) → AllUsed k.uses → AllUsed (after_goto n first k).uses
  after_gone n None k h = h
  after_gone n (Some first) k h = h

  used_after : (file : ℕ) (labels : ℕ → ℕ → Option ℕ) (n : ℕ) (scopes : List ℕ) (body : ℕ) (m : Mention) (k : Known) → Mentions n m → AllUsed k.uses → AllUsed (after file labels n scopes body m k).uses
  used_after file labels n scopes body mention.Nothing k fits h = h
  used_after file labels n scopes body (mention.Use symbol exempt) k fits h = after_used n exempt (innermost scopes symbol k.names) k fits h
  used_after file labels n scopes body (mention.Tag symbol how) k fits h = after_tagged file n symbol scopes how k fits h
  used_after file labels n scopes body (mention.Label symbol) k fits h = after_labelled n (labels body symbol) k h
  used_after file labels n scopes body (mention.Goto symbol) k fits h = after_gone n (labels body symbol) k h
  used_after file labels n scopes body (mention.Declares leaf symbol linkage derivation type_name) k fits h = h

  pub known_used : (file : ℕ) (labels : ℕ → ℕ → Option ℕ) (n : ℕ) (k : Known) (hs : List Happening) → AllMention n hs → AllUsed k.uses → AllUsed (known file labels n k hs).uses
  known_used file labels n k [] fit h = h
  known_used file labels n k (a ∷ hs) fit h =
      known_used file labels (n + 1) (after file labels n a.scopes a.body a.mention k) hs fit.1 (used_after file labels n a.scopes a.body a.mention k fit.0 h)

  pub use_found : (n x : ℕ) (ps : List (ℕ × ℕ)) → AllUsed ps → paired ps n ≡ Some x → U n
  use_found n x [] h e = cc
  use_found n x (p ∷ ps) h e = by (p.0 == n) refl e (λ f. use_found n x ps h.1 f)
    where
      by : (b : Bool) → (p.0 == n) ≡ b → (if b then Some p.1 else paired ps n) ≡ Some x → (paired ps n ≡ Some x → U n) → U n
      by true same f later = subst U (eqb-true p.0 n same) h.0
      by false other f later = later f
