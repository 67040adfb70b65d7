-- What is known grows: pairs stay, and so do faults.
use Rattle.std.proofs.Common.{◌≡◌, ℕ, suc, ◌+◌, ◌<◌, Bool, true, false, Option, Some, None, List, [], ◌∷◌, ◌++◌, length, take, drop, get_or, cond, refl, sym, ap, subst, ◌∙◌, arith, length-take}
use Rattle.std.proofs.Math.Seq.{split_at}
use Rattle.std.proofs.lemmas.List.Elements.{Contains-append_left, Contains-push}
use Rattle.std.proofs.lemmas.Option.{slice_get_within, get_or_from_slice_get}
use Rattle.std.specs.List.{Contains, list_any, slice_get}
use Rattle.c_mentions.specs.declared.mentions.Mention.{Mention}
use Rattle.c_mentions.specs.declared.mentions.Mention.TheVariants as mention
use Rattle.c_mentions.specs.declared.roles.TagUse.{TagUse}
use Rattle.c_mentions.specs.declared.roles.TagUse.TheVariants.{Declares, Refers, Uses}
use Rattle.c_scope.specs.declared.kinds.NameFault.{NameFault}
use Rattle.c_scope.specs.declared.kinds.NameFault.TheVariants.{Undeclared, Redeclared}
use Rattle.c_scope.specs.declared.kinds.Declared.{Declared}
use Rattle.c_scope.specs.Known.{Happening, Known, known, after, after_use, after_tag_use, after_tag_reference, after_tag, after_goto, after_declaration, with_fault, with_use, with_tag, tag_declared, declared_by, first_scope, innermost, is_first, clashes, those_at, first_fault, earlier}
use Rattle.c_scope.proofs.Steps.{first_fault-push}

chosen : (b : Bool) (g f : NameFault) → ◌≡◌ {A = Option NameFault} (cond b (Some g) (Some f)) None → ⊥
chosen true g f e = cc
chosen false g f e = cc

never_none : (o : Option NameFault) (f : NameFault) → earlier o f ≡ None → ⊥
never_none None f e = cc
never_none (Some g) f e = chosen _ g f e

-- no node is at fault yet
abbrev pub Right : Known → Type 0
Right k = first_fault None k.faults ≡ None

fault_seen : (faults : List NameFault) (f : NameFault) → first_fault None (faults ++ f ∷ []) ≡ None → ⊥
fault_seen faults f e = never_none (first_fault None faults) f (sym (first_fault-push None faults f) ∙ e)

pub record Grows (before after : Known) : Type 0 where
  pub uses : (p : ℕ × ℕ) → Contains before.uses p → Contains after.uses p
  pub right : Right after → Right before

same : (k : Known) → Grows k k
same k = record { uses = λ p h. h; right = λ h. h }

then : (a b c : Known) → Grows a b → Grows b c → Grows a c
then a b c g h = record { uses = λ p x. h.uses p (g.uses p x); right = λ x. g.right (h.right x) }

by_fault : (k : Known) (f : NameFault) → Grows k (with_fault f k)
by_fault k f = record { uses = λ p h. h; right = λ h. absurd (fault_seen k.faults f h) }

by_use : (k : Known) (n d : ℕ) → Grows k (with_use n d k)
by_use k n d = record { uses = λ p h. Contains-append_left k.uses ((n, d) ∷ []) p h; right = λ h. h }

by_tag : (k : Known) (t : Declared) → Grows k (with_tag t k)
by_tag k t = record { uses = λ p h. h; right = λ h. h }

grows_use : (n : ℕ) (exempt : Bool) (o : Option Declared) (k : Known) → Grows k (after_use n exempt o k)
grows_use n true None k = same k
grows_use n false None k = by_fault k (Undeclared n)
grows_use n exempt (Some d) k = record { uses = λ p h. Contains-append_left k.uses ((n, d.node) ∷ []) p h; right = λ h. h }

grows_tag_use : (n : ℕ) (o : Option Declared) (k : Known) → Grows k (after_tag_use n o k)
grows_tag_use n None k = by_fault k (Undeclared n)
grows_tag_use n (Some d) k = by_use k n d.node

grows_reference : (n : ℕ) (t : Declared) (o : Option Declared) (k : Known) → Grows k (after_tag_reference n t o k)
grows_reference n t None k = by_tag k t
grows_reference n t (Some d) k = by_use k n d.node

grows_tag : (file n symbol : ℕ) (scopes : List ℕ) (how : TagUse) (k : Known) → Grows k (after_tag file n symbol scopes how k)
grows_tag file n symbol scopes Declares k = by_tag k _
grows_tag file n symbol scopes Refers k = grows_reference n (tag_declared n symbol (first_scope file scopes)) (innermost scopes symbol k.tags) k
grows_tag file n symbol scopes Uses k = grows_tag_use n (innermost scopes symbol k.tags) k

label_by : (b : Bool) (n : ℕ) (k : Known) → Grows k (cond b k (with_fault (Redeclared n) k))
label_by true n k = same k
label_by false n k = by_fault k (Redeclared n)

grows_goto : (n : ℕ) (o : Option ℕ) (k : Known) → Grows k (after_goto n o k)
grows_goto n None k = by_fault k (Undeclared n)
grows_goto n (Some l) k = record { uses = λ p h. h; right = λ h. h }

right_by : (b : Bool) (faults : List NameFault) (f : NameFault) → first_fault None (cond b (faults ++ f ∷ []) faults) ≡ None → first_fault None faults ≡ None
right_by true faults f e = absurd (fault_seen faults f e)
right_by false faults f e = e

grows_declaration : (d : Declared) (k : Known) → Grows k (after_declaration d k)
grows_declaration d k = record { uses = λ p h. h; right = λ h. right_by (list_any (clashes d.kind) (those_at d.scope d.symbol k.names)) k.faults (Redeclared d.node) h }

module _ (file : ℕ) (labels : ℕ → ℕ → Option ℕ) where
  grows_after : (n : ℕ) (scopes : List ℕ) (body : ℕ) (m : Mention) (k : Known) → Grows k (after file labels n scopes body m k)
  grows_after n scopes body mention.Nothing k = same k
  grows_after n scopes body (mention.Use symbol exempt) k = grows_use n exempt (innermost scopes symbol k.names) k
  grows_after n scopes body (mention.Tag symbol how) k = grows_tag file n symbol scopes how k
  grows_after n scopes body (mention.Label symbol) k = label_by (is_first n (labels body symbol)) n k
  grows_after n scopes body (mention.Goto symbol) k = grows_goto n (labels body symbol) k
  grows_after n scopes body (mention.Declares leaf symbol linkage derivation type_name) k = grows_declaration (declared_by file leaf symbol linkage derivation type_name (first_scope file scopes) k) k

  grows_known : (n : ℕ) (k : Known) (hs : List Happening) → Grows k (known file labels n k hs)
  grows_known n k [] = same k
  grows_known n k (h ∷ hs) = then k _ _ (grows_after n h.scopes h.body h.mention k) (grows_known (n + 1) (after file labels n h.scopes h.body h.mention k) hs)

  known-append : (n : ℕ) (k : Known) (xs ys : List Happening) → known file labels n k (xs ++ ys) ≡ known file labels (n + length xs) (known file labels n k xs) ys
  known-append n k [] ys = let e : n ≡ n + 0 = omega arith in ap (λ m. known file labels m k ys) e
  known-append n k (x ∷ xs) ys =
      let e : n + 1 + length xs ≡ n + suc (length xs) = omega arith in
      let next = after file labels n x.scopes x.body x.mention k in
      known-append (n + 1) next xs ys ∙ ap (λ m. known file labels m (known file labels (n + 1) next xs) ys) e

  -- what a use of an ordinary name leaves behind, where no node is at fault in the end
  use_left : (n : ℕ) (symbol : ℕ) (scopes : List ℕ) (body : ℕ) (o : Option Declared) (k last : Known) → Grows (after_use n false o k) last → Right last → (d : Declared) × (o ≡ Some d) × Contains last.uses (n, d.node)
  use_left n symbol scopes body None k last g r = absurd (fault_seen k.faults (Undeclared n) (g.right r))
  use_left n symbol scopes body (Some d) k last g r = (d, refl, g.uses (n, d.node) (Contains-push k.uses (n, d.node)))

  pub use_paired : (k : Known) (all : List Happening) (n : ℕ) (h : Happening) (symbol : ℕ) → slice_get all n ≡ Some h → h.mention ≡ mention.Use symbol false → Right (known file labels 0 k all)
      → (d : Declared) × (innermost h.scopes symbol (known file labels 0 k (take n all)).names ≡ Some d) × Contains (known file labels 0 k all).uses (n, d.node)
  use_paired k all n h symbol at is right =
      let l : n < length all = slice_get_within all n h at in
      let here : get_or all n h ≡ h = get_or_from_slice_get all n h h at in
      let rest : List Happening = drop (suc n) all in
      let before : Known = known file labels 0 k (take n all) in
      let count : 0 + length (take n all) ≡ n = simp length-take (omega arith) in
      let cut : all ≡ take n all ++ h ∷ rest = split_at all n h l ∙ ap (λ x. take n all ++ x ∷ rest) here in
      let whole : known file labels 0 k all ≡ known file labels n before (h ∷ rest)
      = ap (known file labels 0 k) cut ∙ (known-append 0 k (take n all) (h ∷ rest) ∙ ap (λ m. known file labels m before (h ∷ rest)) count) in
      let next : after file labels n h.scopes h.body h.mention before ≡ after_use n false (innermost h.scopes symbol before.names) before
      = ap (λ m. after file labels n h.scopes h.body m before) is in
      let g : Grows (after_use n false (innermost h.scopes symbol before.names) before) (known file labels 0 k all)
      = subst (λ x. Grows (after_use n false (innermost h.scopes symbol before.names) before) x) (sym whole)
      (subst (λ x. Grows x (known file labels n before (h ∷ rest))) next (grows_known (n + 1) (after file labels n h.scopes h.body h.mention before) rest)) in
      use_left n symbol h.scopes h.body (innermost h.scopes symbol before.names) before (known file labels 0 k all) g right
