-- Each use is paired with a declaration that was made.
use Rattle.std.proofs.Common.{◌≡◌, ℕ, ◌+◌, Bool, true, false, cond, eqb, Option, Some, None, List, [], ◌∷◌, ◌++◌, All, ◌⊎◌, inl, inr, refl, subst, sym, arith}
use Rattle.std.specs.Prelude.{is_some, filter}
use Rattle.std.proofs.lemmas.Bool.Decides.{eqb_tells}
use Rattle.std.proofs.lemmas.List.Elements.{All-weaker, All-push}
use Rattle.c_mentions.specs.declared.mentions.Mention.{Mention}
use Rattle.c_mentions.specs.declared.mentions.Mention.TheVariants as mention
use Rattle.c_mentions.specs.declared.roles.TagUse.{TagUse}
use Rattle.c_mentions.specs.declared.roles.TagUse.TheVariants.{Declares, Refers, Uses}
use Rattle.c_scope.specs.declared.kinds.Declared.{Declared}
use Rattle.c_scope.specs.Known.{Happening, Known, known, nothing_known, after, after_use, after_tag_use, after_tag_reference, after_tag, after_label, after_goto, after_declaration, with_tag, tag_declared, declared_by, first_scope, innermost, latest, last_of, or_else, those_at, is_at, is_first}
use Rattle.c_senses.specs.Names.{entry_of}

abbrev pub has : List Declared → ℕ → Bool
has ds n = is_some (entry_of ds n)

-- in lists
kept : (b : Bool) (e : Declared) (o p : Option Declared) → (is_some o ≡ true → is_some p ≡ true) → is_some (cond b (Some e) o) ≡ true → is_some (cond b (Some e) p) ≡ true
kept true e o p f h = refl
kept false e o p f h = f h

there : (b : Bool) (e : Declared) (o : Option Declared) → is_some o ≡ true → is_some (cond b (Some e) o) ≡ true
there true e o h = refl
there false e o h = h

found : (b : Bool) (e : Declared) (o : Option Declared) → b ≡ true → is_some (cond b (Some e) o) ≡ true
found true e o h = refl
found false e o h = cc

has_push : (ds : List Declared) (d : Declared) (n : ℕ) → has ds n ≡ true → has (ds ++ d ∷ []) n ≡ true
has_push [] d n h = cc
has_push (e ∷ es) d n h = kept (eqb e.node n) e (entry_of es n) (entry_of (es ++ d ∷ []) n) (has_push es d n) h

is_itself : (n : ℕ) → eqb n n ≡ true
is_itself n = elim (eqb_tells n n) [ inl p ↦ p.0 | inr p ↦ absurd (p.1 refl) ]

has_first : (d e : Declared) (es : List Declared) → Some e ≡ Some d → has (e ∷ es) d.node ≡ true
has_first d e es h =
    let same : e ≡ d = cc in
    found (eqb e.node d.node) e (entry_of es d.node) (subst (λ (x : Declared). eqb x.node d.node ≡ true) (sym same) (is_itself d.node))

picked : (b : Bool) (e : Declared) (es fs : List Declared) (n : ℕ) → (has fs n ≡ true → has es n ≡ true) → has (cond b (e ∷ fs) fs) n ≡ true → has (e ∷ es) n ≡ true
picked true e es fs n f h = kept (eqb e.node n) e (entry_of fs n) (entry_of es n) f h
picked false e es fs n f h = there (eqb e.node n) e (entry_of es n) (f h)

has_filter : (test : Declared → Bool) (ds : List Declared) (n : ℕ) → has (filter test ds) n ≡ true → has ds n ≡ true
has_filter test [] n h = h
has_filter test (e ∷ es) n h = picked (test e) e es (filter test es) n (has_filter test es n) h

last_in : (before : Option Declared) (ds : List Declared) (d : Declared) → last_of before ds ≡ Some d → (before ≡ Some d) ⊎ (has ds d.node ≡ true)
last_in before [] d h = inl h
last_in before (e ∷ es) d h = elim (last_in (Some e) es d h) [
  | inl p ↦ inr (has_first d e es p)
  | inr q ↦ inr (there (eqb e.node d.node) e (entry_of es d.node) q)
]

latest_in : (scope symbol : ℕ) (ds : List Declared) (d : Declared) → latest scope symbol ds ≡ Some d → has ds d.node ≡ true
latest_in scope symbol ds d h = elim (last_in None (those_at scope symbol ds) d h) [
  | inl p ↦ cc
  | inr q ↦ has_filter (is_at scope symbol) ds d.node q
]

one_of : (o p : Option Declared) (d : Declared) → or_else o p ≡ Some d → (o ≡ Some d) ⊎ (p ≡ Some d)
one_of None p d h = inr h
one_of (Some e) p d h = inl h

pub innermost_in : (scopes : List ℕ) (symbol : ℕ) (ds : List Declared) (d : Declared) → innermost scopes symbol ds ≡ Some d → has ds d.node ≡ true
innermost_in [] symbol ds d h = cc
innermost_in (scope ∷ scopes) symbol ds d h = elim (one_of (latest scope symbol ds) (innermost scopes symbol ds) d h) [
  | inl p ↦ latest_in scope symbol ds d p
  | inr q ↦ innermost_in scopes symbol ds d q
]

-- behind each node
abbrev pub Found : Known → ℕ × ℕ → Type 0
Found k p = (has k.names p.1 ≡ true) ⊎ (has k.tags p.1 ≡ true)

abbrev pub AllFound : Known → Type 0
AllFound k = All (λ p. Found k p) k.uses

with_tag_found : (t : Declared) (k : Known) → AllFound k → AllFound (with_tag t k)
with_tag_found t k h = All-weaker (λ p. Found k p) (λ p. Found (with_tag t k) p) (λ p f. elim f [ inl a ↦ inl a | inr b ↦ inr (has_push k.tags t p.1 b) ]) k.uses h

use_found : (n : ℕ) (exempt : Bool) (o : Option Declared) (k : Known) → ((d : Declared) → o ≡ Some d → has k.names d.node ≡ true) → AllFound k → AllFound (after_use n exempt o k)
use_found n true None k f h = h
use_found n false None k f h = h
use_found n exempt (Some d) k f h = All-push (λ p. Found k p) k.uses (n, d.node) h (inl (f d refl))

tag_use_found : (n : ℕ) (o : Option Declared) (k : Known) → ((d : Declared) → o ≡ Some d → has k.tags d.node ≡ true) → AllFound k → AllFound (after_tag_use n o k)
tag_use_found n None k f h = h
tag_use_found n (Some d) k f h = All-push (λ p. Found k p) k.uses (n, d.node) h (inr (f d refl))

reference_found : (n : ℕ) (t : Declared) (o : Option Declared) (k : Known) → ((d : Declared) → o ≡ Some d → has k.tags d.node ≡ true) → AllFound k → AllFound (after_tag_reference n t o k)
reference_found n t None k f h = with_tag_found t k h
reference_found n t (Some d) k f h = All-push (λ p. Found k p) k.uses (n, d.node) h (inr (f d refl))

tag_found : (file n symbol : ℕ) (scopes : List ℕ) (how : TagUse) (k : Known) → AllFound k → AllFound (after_tag file n symbol scopes how k)
tag_found file n symbol scopes Declares k h = with_tag_found (tag_declared n symbol (first_scope file scopes)) k h
tag_found file n symbol scopes Refers k h = reference_found n (tag_declared n symbol (first_scope file scopes)) (innermost scopes symbol k.tags) k (λ d e. innermost_in scopes symbol k.tags d e) h
tag_found file n symbol scopes Uses k h = tag_use_found n (innermost scopes symbol k.tags) k (λ d e. innermost_in scopes symbol k.tags d e) h

by_first : (n : ℕ) (b : Bool) (k other : Known) → AllFound k → AllFound other → AllFound (cond b k other)
by_first n true k other h g = h
by_first n false k other h g = g

label_found : (n : ℕ) (first : Option ℕ) (k : Known) → AllFound k → AllFound (after_label n first k)
label_found n first k h = by_first n (is_first n first) _ _ h h

goto_found : (n : ℕ) (first : Option ℕ) (k : Known) → AllFound k → AllFound (after_goto n first k)
goto_found n None k h = h
goto_found n (Some first) k h = h

declaration_found : (d : Declared) (k : Known) → AllFound k → AllFound (after_declaration d k)
declaration_found d k h = All-weaker (λ p. Found k p) (λ p. Found (after_declaration d k) p) (λ p f. elim f [ inl a ↦ inl (has_push k.names d p.1 a) | inr b ↦ inr b ]) k.uses h

after_found : (file : ℕ) (labels : ℕ → ℕ → Option ℕ) (n : ℕ) (scopes : List ℕ) (body : ℕ) (m : Mention) (k : Known) → AllFound k → AllFound (after file labels n scopes body m k)
after_found file labels n scopes body mention.Nothing k h = h
after_found file labels n scopes body (mention.Use symbol exempt) k h = use_found n exempt (innermost scopes symbol k.names) k (λ d e. innermost_in scopes symbol k.names d e) h
after_found file labels n scopes body (mention.Tag symbol how) k h = tag_found file n symbol scopes how k h
after_found file labels n scopes body (mention.Label symbol) k h = label_found n (labels body symbol) k h
after_found file labels n scopes body (mention.Goto symbol) k h = goto_found n (labels body symbol) k h
after_found file labels n scopes body (mention.Declares leaf symbol linkage derivation type_name) k h =
    declaration_found (declared_by file leaf symbol linkage derivation type_name (first_scope file scopes) k) k h

pub known_found : (file : ℕ) (labels : ℕ → ℕ → Option ℕ) (n : ℕ) (k : Known) (hs : List Happening) → AllFound k → AllFound (known file labels n k hs)
known_found file labels n k [] h = h
known_found file labels n k (x ∷ hs) h = known_found file labels (n + 1) (after file labels n x.scopes x.body x.mention k) hs (after_found file labels n x.scopes x.body x.mention k h)

pub nothing_found : AllFound nothing_known
nothing_found = λ k p lt. absurd (omega (arith, lt))
