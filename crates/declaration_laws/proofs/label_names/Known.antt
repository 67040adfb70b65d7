-- Where no name is at fault each label is the first of its symbol, and each goto has one.
use Rattle.std.proofs.Common.{arith, ◌≡◌, ◌+◌, ℕ, zero, suc, nat_eq, Bool, true, false, ◌&&◌, cond, List, [], ◌∷◌, ◌++◌, Option, Some, None, slice_get, refl, sym, ap, ◌∙◌, subst}
use Rattle.std.specs.Prelude.{⊤, is_some, if◌then◌else◌}
use Rattle.std.specs.List.{list_any}
use Rattle.std.proofs.lemmas.Bool.{eqb-true}
use Rattle.c_mentions.specs.declared.roles.TagUse.{TagUse}
use Rattle.c_mentions.specs.declared.roles.TagUse.TheVariants as tag
use Rattle.c_mentions.specs.declared.mentions.Mention.{Mention}
use Rattle.c_mentions.specs.declared.mentions.Mention.TheVariants as mention
use Rattle.c_scope.specs.declared.kinds.Declared.{Declared}
use Rattle.c_scope.specs.declared.kinds.NameFault.{NameFault}
use Rattle.c_scope.specs.declared.kinds.NameFault.TheVariants.{Undeclared, Redeclared}
use Rattle.c_scope.specs.Known.{Happening, Known, known, after, after_use, after_tag, after_tag_use, after_tag_reference, after_goto, after_declaration, innermost, tag_declared, first_scope, declared_by, clashes, those_at, is_label, first_label, is_first, with_fault, first_fault, earlier}
use Rattle.c_scope.proofs.Steps.{first_fault-push}

chosen : (b : Bool) (g f : NameFault) → (if b then Some g else Some f) ≡ None → ⊥
chosen true g f e = cc
chosen false g f e = cc

never_none : (o : Option NameFault) (f : NameFault) → earlier o f ≡ None → ⊥
never_none None f e = cc
never_none (Some g) f e = chosen _ g f e

abbrev pub Right : Known → Type 0
Right k = first_fault None k.faults ≡ None

fault_seen : (faults : List NameFault) (f : NameFault) → first_fault None (faults ++ f ∷ []) ≡ None → ⊥
fault_seen faults f e = never_none (first_fault None faults) f (sym (first_fault-push None faults f) ∙ e)

right_use : (n : ℕ) (exempt : Bool) (o : Option Declared) (k : Known) → Right (after_use n exempt o k) → Right k
right_use n true None k h = h
right_use n false None k h = absurd (fault_seen k.faults (Undeclared n) h)
right_use n exempt (Some d) k h = h

right_reference : (n : ℕ) (t : Declared) (o : Option Declared) (k : Known) → Right (after_tag_reference n t o k) → Right k
right_reference n t None k h = h
right_reference n t (Some d) k h = h

right_tag_use : (n : ℕ) (o : Option Declared) (k : Known) → Right (after_tag_use n o k) → Right k
right_tag_use n None k h = absurd (fault_seen k.faults (Undeclared n) h)
right_tag_use n (Some d) k h = h

right_tag : (file n symbol : ℕ) (scopes : List ℕ) (how : TagUse) (k : Known) → Right (after_tag file n symbol scopes how k) → Right k
right_tag file n symbol scopes tag.Declares k h = h
right_tag file n symbol scopes tag.Refers k h = right_reference n (tag_declared n symbol (first_scope file scopes)) (innermost scopes symbol k.tags) k h
right_tag file n symbol scopes tag.Uses k h = right_tag_use n (innermost scopes symbol k.tags) k h

right_label : (b : Bool) (n : ℕ) (k : Known) → Right (cond b k (with_fault (Redeclared n) k)) → (b ≡ true) × Right k
right_label true n k h = (refl, h)
right_label false n k h = absurd (fault_seen k.faults (Redeclared n) h)

right_goto : (n : ℕ) (o : Option ℕ) (k : Known) → Right (after_goto n o k) → (is_some o ≡ true) × Right k
right_goto n None k h = absurd (fault_seen k.faults (Undeclared n) h)
right_goto n (Some l) k h = (refl, h)

right_by : (b : Bool) (faults : List NameFault) (f : NameFault) → first_fault None (cond b (faults ++ f ∷ []) faults) ≡ None → first_fault None faults ≡ None
right_by true faults f e = absurd (fault_seen faults f e)
right_by false faults f e = e

right_declaration : (d : Declared) (k : Known) → Right (after_declaration d k) → Right k
right_declaration d k h = right_by (list_any (clashes d.kind) (those_at d.scope d.symbol k.names)) k.faults (Redeclared d.node) h

module _ (file : ℕ) (labels : ℕ → ℕ → Option ℕ) where
  -- a label is the first of its symbol, and a goto has one
  abbrev pub Fine : ℕ → ℕ → Mention → Type 0
  Fine n body (mention.Label symbol) = is_first n (labels body symbol) ≡ true
  Fine n body (mention.Goto symbol) = is_some (labels body symbol) ≡ true
  Fine n body m = ⊤

  right_after : (n : ℕ) (scopes : List ℕ) (body : ℕ) (m : Mention) (k : Known) → Right (after file labels n scopes body m k) → Fine n body m × Right k
  right_after n scopes body mention.Nothing k h = (tt, h)
  right_after n scopes body (mention.Use symbol exempt) k h = (tt, right_use n exempt (innermost scopes symbol k.names) k h)
  right_after n scopes body (mention.Tag symbol how) k h = (tt, right_tag file n symbol scopes how k h)
  right_after n scopes body (mention.Label symbol) k h = right_label (is_first n (labels body symbol)) n k h
  right_after n scopes body (mention.Goto symbol) k h = right_goto n (labels body symbol) k h
  right_after n scopes body (mention.Declares leaf symbol linkage derivation type_name) k h = (tt, right_declaration (declared_by file leaf symbol linkage derivation type_name (first_scope file scopes) k) k h)

  right_known : (n : ℕ) (k : Known) (hs : List Happening) → Right (known file labels n k hs) → Right k
  right_known n k [] h = h
  right_known n k (e ∷ hs) h = (right_after n e.scopes e.body e.mention k (right_known (n + 1) (after file labels n e.scopes e.body e.mention k) hs h)).1

  pub all_fine : (n : ℕ) (k : Known) (hs : List Happening) → Right (known file labels n k hs) → (i : ℕ) (h : Happening) → slice_get hs i ≡ Some h → Fine (n + i) h.body h.mention
  all_fine n k [] right i h e = cc
  all_fine n k (x ∷ hs) right zero h e =
      let same : x ≡ h = cc in
      let own = (right_after n x.scopes x.body x.mention k (right_known (n + 1) (after file labels n x.scopes x.body x.mention k) hs right)).0 in
      let plus : n ≡ n + 0 = omega arith in
      subst (λ (m : ℕ). Fine m h.body h.mention) plus (subst (λ (y : Happening). Fine n y.body y.mention) same own)
  all_fine n k (x ∷ hs) right (suc i) h e =
      let plus : n + 1 + i ≡ n + suc i = omega arith in
      subst (λ (m : ℕ). Fine m h.body h.mention) plus (all_fine (n + 1) (after file labels n x.scopes x.body x.mention k) hs right i h e)

both : (a b : Bool) → (a && b) ≡ true → (a ≡ true) × (b ≡ true)
both true b e = (refl, e)
both false b e = cc

label_is : (body symbol : ℕ) (h : Happening) (m : Mention) → is_label body symbol h m ≡ true → (h.body ≡ body) × (m ≡ mention.Label symbol)
label_is body symbol h (mention.Label other) e = let parts = both (nat_eq h.body body) (nat_eq other symbol) e in (eqb-true h.body body parts.0, ap mention.Label (eqb-true other symbol parts.1))
label_is body symbol h mention.Nothing e = cc
label_is body symbol h (mention.Use s x) e = cc
label_is body symbol h (mention.Tag s x) e = cc
label_is body symbol h (mention.Goto s) e = cc
label_is body symbol h (mention.Declares a b c d f) e = cc

-- the first label is one
pub first_is : (n : ℕ) (hs : List Happening) (body symbol m : ℕ) → first_label n hs body symbol ≡ Some m → (i : ℕ) × (h : Happening) × (slice_get hs i ≡ Some h) × (n + i ≡ m) × (h.body ≡ body) × (h.mention ≡ mention.Label symbol)
first_is n [] body symbol m e = cc
first_is n (x ∷ hs) body symbol m e = by (is_label body symbol x x.mention) refl e (λ f. first_is (n + 1) hs body symbol m f)
  where
    by : (b : Bool) → is_label body symbol x x.mention ≡ b → (if b then Some n else first_label (n + 1) hs body symbol) ≡ Some m
        → (first_label (n + 1) hs body symbol ≡ Some m → (i : ℕ) × (h : Happening) × (slice_get hs i ≡ Some h) × (n + 1 + i ≡ m) × (h.body ≡ body) × (h.mention ≡ mention.Label symbol))
        → (i : ℕ) × (h : Happening) × (slice_get (x ∷ hs) i ≡ Some h) × (n + i ≡ m) × (h.body ≡ body) × (h.mention ≡ mention.Label symbol)
    by true is e later = let same : n ≡ m = cc in let own = label_is body symbol x x.mention is in (0, x, refl, omega (arith, same), own.0, own.1)
    by false is e later = let more = later e in (suc more.0, more.1, more.2, (let plus = more.3 in omega (arith, plus)), more.4, more.5)
