-- What is known behind so many nodes was declared by them, one after another.
use Rattle.std.proofs.Common.{arith, ◌≡◌, ◌⊎◌, inl, inr, ℕ, ◌+◌, ◌<◌, ◌≤◌, ◌==◌, Bool, true, false, cond, List, [], ◌∷◌, ◌++◌, Option, Some, None, length, refl, sym, ap, ◌∙◌, subst}
use Rattle.std.specs.Prelude.{⊤, IfSome, if◌then◌else◌}
use Rattle.std.proofs.lemmas.Bool.{eqb-true}
use Rattle.c_mentions.specs.declared.mentions.Mention.{Mention}
use Rattle.c_mentions.specs.declared.mentions.Mention.TheVariants as mention
use Rattle.c_mentions.specs.declared.roles.TagUse.{TagUse}
use Rattle.c_mentions.specs.declared.roles.TagUse.TheVariants as tag
use Rattle.c_scope.specs.declared.kinds.Declared.{Declared}
use Rattle.c_scope.specs.declared.kinds.NameFault.TheVariants as fault
use Rattle.c_scope.specs.Known.{Happening, Known, known, after, after_use, after_tag, after_tag_use, after_tag_reference, after_label, after_goto, innermost, latest, or_else, last_of, those_at, is_at, tag_declared, first_scope, is_first, with_fault}
use Rattle.c_mentions.specs.declared.mentions.Linkage.{Linkage}
use Rattle.c_mentions.specs.declared.mentions.Linkage.TheVariants as link
use Rattle.c_mentions.specs.declared.declarators.Derivation.{Derivation}
use Rattle.c_scope.specs.Known.{kind_of, is_function, declared_by}
use Rattle.c_senses.specs.Tree.{paired}
use Rattle.c_senses.specs.Names.{has_linkage, is_linked_kind, entry_of}

module _ (D : ℕ → ℕ → Type 0) (U K : ℕ → Type 0) where
  abbrev pub RisesBy : ℕ → ℕ → List Declared → Type 0
  RisesBy low high [] = low ≤ high
  RisesBy low high (d ∷ ds) = (m : ℕ) × (low ≤ m) × (D m d.node × (has_linkage d ≡ true → K m)) × RisesBy (m + 1) high ds

  abbrev pub Before : ℕ → ℕ → Type 0
  Before n x = (m : ℕ) × (m < n) × D m x

  abbrev pub AllUsed : ℕ → List (ℕ × ℕ) → Type 0
  AllUsed n [] = ⊤
  AllUsed n (p ∷ ps) = (p.0 < n) × (U p.0 → Before p.0 p.1) × AllUsed n ps

  rises_more : (low high : ℕ) (ds : List Declared) (d : Declared) → RisesBy low high ds → D high d.node × (has_linkage d ≡ true → K high) → RisesBy low (high + 1) (ds ++ d ∷ [])
  rises_more low high [] d h own = (high, h, own, omega arith)
  rises_more low high (e ∷ ds) d h own = (h.0, h.1, h.2, rises_more (h.0 + 1) high ds d h.3 own)

  rises_later : (low high : ℕ) (ds : List Declared) → RisesBy low high ds → RisesBy low (high + 1) ds
  rises_later low high [] h = omega (arith, h)
  rises_later low high (d ∷ ds) h = (h.0, h.1, h.2, rises_later (h.0 + 1) high ds h.3)

  rises_end : (low high : ℕ) (ds : List Declared) → RisesBy low high ds → low ≤ high
  rises_end low high [] h = h
  rises_end low high (d ∷ ds) h = let le : h.0 + 1 ≤ high = rises_end (h.0 + 1) high ds h.3 in let low_le : low ≤ h.0 = h.1 in omega (arith, le, low_le)

  abbrev AllBefore : ℕ → List Declared → Type 0
  AllBefore n [] = ⊤
  AllBefore n (d ∷ ds) = Before n d.node × AllBefore n ds

  all_before : (low high : ℕ) (ds : List Declared) → RisesBy low high ds → AllBefore high ds
  all_before low high [] h = tt
  all_before low high (d ∷ ds) h =
      ((h.0, (let le : h.0 + 1 ≤ high = rises_end (h.0 + 1) high ds h.3 in omega (arith, le)), h.2.0), all_before (h.0 + 1) high ds h.3)

  -- the innermost declaration is one of them
  those_before : (n scope symbol : ℕ) (ds : List Declared) → AllBefore n ds → AllBefore n (those_at scope symbol ds)
  those_before n scope symbol [] h = tt
  those_before n scope symbol (d ∷ ds) h = by (is_at scope symbol d) (those_before n scope symbol ds h.1)
    where
      by : (b : Bool) → AllBefore n (those_at scope symbol ds) → AllBefore n (cond b (d ∷ those_at scope symbol ds) (those_at scope symbol ds))
      by true k = (h.0, k)
      by false k = k

  last_before : (n : ℕ) (o : Option Declared) (ds : List Declared) → IfSome o (λ d. Before n d.node) → AllBefore n ds → IfSome (last_of o ds) (λ d. Before n d.node)
  last_before n o [] h k = h
  last_before n o (d ∷ ds) h k = last_before n (Some d) ds k.0 k.1

  innermost_before : (n symbol : ℕ) (scopes : List ℕ) (ds : List Declared) → AllBefore n ds → IfSome (innermost scopes symbol ds) (λ d. Before n d.node)
  innermost_before n symbol [] ds h = tt
  innermost_before n symbol (scope ∷ scopes) ds h = by (latest scope symbol ds) (last_before n None (those_at scope symbol ds) tt (those_before n scope symbol ds h)) (innermost_before n symbol scopes ds h)
    where
      by : (o : Option Declared) → IfSome o (λ d. Before n d.node) → IfSome (innermost scopes symbol ds) (λ d. Before n d.node) → IfSome (or_else o (innermost scopes symbol ds)) (λ d. Before n d.node)
      by None g k = k
      by (Some d) g k = g

  used_more : (n : ℕ) (ps : List (ℕ × ℕ)) (x : ℕ) → AllUsed n ps → (U n → Before n x) → AllUsed (n + 1) (ps ++ (n, x) ∷ [])
  used_more n [] x h own = (omega arith, own, tt)
  used_more n (p ∷ ps) x h own = (let lt : p.0 < n = h.0 in omega (arith, lt), h.1, used_more n ps x h.2 own)

  used_later : (n : ℕ) (ps : List (ℕ × ℕ)) → AllUsed n ps → AllUsed (n + 1) ps
  used_later n [] h = tt
  used_later n (p ∷ ps) h = (let lt : p.0 < n = h.0 in omega (arith, lt), h.1, used_later n ps h.2)

  -- what is known behind n nodes
  pub record Holds (n : ℕ) (k : Known) : Type 0 where
    pub names : RisesBy 0 n k.names
    pub uses : AllUsed n k.uses

  holds_later : (n : ℕ) (k : Known) → Holds n k → Holds (n + 1) k
  holds_later n k h = record { names = rises_later 0 n k.names h.names; uses = used_later n k.uses h.uses }

  -- what a node may mention
  abbrev pub Mentions : ℕ → Mention → Type 0
  Mentions n (mention.Declares leaf symbol linkage derivation type_name) = D n leaf × ((linkage ≡ link.Never) ⊎ K n)
  Mentions n (mention.Tag symbol how) = U n → ⊥
  Mentions n m = ⊤

  after_used : (n : ℕ) (exempt : Bool) (o : Option Declared) (k : Known) → IfSome o (λ d. Before n d.node) → Holds n k → Holds (n + 1) (after_use n exempt o k)
  after_used n true None k g h = holds_later n k h
  after_used n false None k g h = record { names = rises_later 0 n k.names h.names; uses = used_later n k.uses h.uses }
  after_used n exempt (Some d) k g h = record { names = rises_later 0 n k.names h.names; uses = used_more n k.uses d.node h.uses (λ u. g) }

  after_tagged : (file n symbol : ℕ) (scopes : List ℕ) (how : TagUse) (k : Known) → (U n → ⊥) → Holds n k → Holds (n + 1) (after_tag file n symbol scopes how k)
  after_tagged file n symbol scopes tag.Declares k never h = record { names = rises_later 0 n k.names h.names; uses = used_later n k.uses h.uses }
  after_tagged file n symbol scopes tag.Refers k never h = by (innermost scopes symbol k.tags)
    where
      by : (o : Option Declared) → Holds (n + 1) (after_tag_reference n (tag_declared n symbol (first_scope file scopes)) o k)
      by None = record { names = rises_later 0 n k.names h.names; uses = used_later n k.uses h.uses }
      by (Some d) = record { names = rises_later 0 n k.names h.names; uses = used_more n k.uses d.node h.uses (λ u. absurd (never u)) }
  after_tagged file n symbol scopes tag.Uses k never h = by (innermost scopes symbol k.tags)
    where
      by : (o : Option Declared) → Holds (n + 1) (after_tag_use n o k)
      by None = record { names = rises_later 0 n k.names h.names; uses = used_later n k.uses h.uses }
      by (Some d) = record { names = rises_later 0 n k.names h.names; uses = used_more n k.uses d.node h.uses (λ u. absurd (never u)) }

  after_labelled : (n : ℕ) (first : Option ℕ) (k : Known) → Holds n k → Holds (n + 1) (after_label n first k)
  after_labelled n first k h = by (is_first n first)
    where
      by : (b : Bool) → Holds (n + 1) (if b then k else with_fault (fault.Redeclared n) k)
      by true = holds_later n k h
      by false = record { names = rises_later 0 n k.names h.names; uses = used_later n k.uses h.uses }

  after_gone : (n : ℕ) (first : Option ℕ) (k : Known) → Holds n k → Holds (n + 1) (after_goto n first k)
  after_gone n None k h = record { names = rises_later 0 n k.names h.names; uses = used_later n k.uses h.uses }
  after_gone n (Some first) k h = record { names = rises_later 0 n k.names h.names; uses = used_later n k.uses h.uses }

  no_link : (linkage : Linkage) (at_file function : Bool) → linkage ≡ link.Never → is_linked_kind (kind_of linkage at_file function) ≡ true → ⊥
  no_link linkage at_file function e h = let f : false ≡ true = subst (λ (x : Linkage). is_linked_kind (kind_of x at_file function) ≡ true) e h in cc

  links : (file leaf symbol : ℕ) (linkage : Linkage) (derivation : Derivation) (type_name : Option ℕ) (scope : ℕ) (k : Known) (n : ℕ) → (linkage ≡ link.Never) ⊎ K n
      → has_linkage (declared_by file leaf symbol linkage derivation type_name scope k) ≡ true → K n
  links file leaf symbol linkage derivation type_name scope k n (inl never) h = absurd (no_link linkage (scope == file) (is_function k.functions derivation type_name) never h)
  links file leaf symbol linkage derivation type_name scope k n (inr stands) h = stands

  holds_after : (file : ℕ) (labels : ℕ → ℕ → Option ℕ) (n : ℕ) (scopes : List ℕ) (body : ℕ) (m : Mention) (k : Known) → Mentions n m → Holds n k → Holds (n + 1) (after file labels n scopes body m k)
  holds_after file labels n scopes body mention.Nothing k fits h = holds_later n k h
  holds_after file labels n scopes body (mention.Use symbol exempt) k fits h =
      after_used n exempt (innermost scopes symbol k.names) k (innermost_before n symbol scopes k.names (all_before 0 n k.names h.names)) h
  holds_after file labels n scopes body (mention.Tag symbol how) k fits h = after_tagged file n symbol scopes how k fits h
  holds_after file labels n scopes body (mention.Label symbol) k fits h = after_labelled n (labels body symbol) k h
  holds_after file labels n scopes body (mention.Goto symbol) k fits h = after_gone n (labels body symbol) k h
  holds_after file labels n scopes body (mention.Declares leaf symbol linkage derivation type_name) k fits h = record { names = rises_more 0 n k.names _ h.names (fits.0, links file leaf symbol linkage derivation type_name (first_scope file scopes) k n fits.1); uses = used_later n k.uses h.uses }

  abbrev pub AllMention : ℕ → List Happening → Type 0
  AllMention n [] = ⊤
  AllMention n (h ∷ hs) = Mentions n h.mention × AllMention (n + 1) hs

  pub known_holds : (file : ℕ) (labels : ℕ → ℕ → Option ℕ) (n total : ℕ) (k : Known) (hs : List Happening) → n + length hs ≡ total → AllMention n hs → Holds n k → Holds total (known file labels n k hs)
  known_holds file labels n total k [] e fit h = subst (λ (x : ℕ). Holds x k) (let z : n ≡ total = omega (arith, e) in z) h
  known_holds file labels n total k (a ∷ hs) e fit h =
      known_holds file labels (n + 1) total (after file labels n a.scopes a.body a.mention k) hs (omega (arith, e)) fit.1 (holds_after file labels n a.scopes a.body a.mention k fit.0 h)

  pub use_found : (n high x : ℕ) (ps : List (ℕ × ℕ)) → AllUsed high ps → paired ps n ≡ Some x → U n → Before n x
  use_found n high x [] h e u = cc
  use_found n high x (p ∷ ps) h e u = by (p.0 == n) refl e (λ f. use_found n high x ps h.2 f u)
    where
      by : (b : Bool) → (p.0 == n) ≡ b → (if b then Some p.1 else paired ps n) ≡ Some x → (paired ps n ≡ Some x → Before n x) → Before n x
      by true same f later =
          let at : p.0 ≡ n = eqb-true p.0 n same in
          let is : p.1 ≡ x = cc in
          subst (λ (y : ℕ). Before n y) is (subst (λ (y : ℕ). Before y p.1) at (h.1 (subst U (sym at) u)))
      by false other f later = later f

  pub linked_found : (low high x : ℕ) (d : Declared) (ds : List Declared) → RisesBy low high ds → entry_of ds x ≡ Some d → has_linkage d ≡ true → (m : ℕ) × (m < high) × D m x × K m
  linked_found low high x d [] h e linked = cc
  linked_found low high x d (y ∷ ds) h e linked = by (y.node == x) refl e (λ f. linked_found (h.0 + 1) high x d ds h.3 f linked)
    where
      by : (b : Bool) → (y.node == x) ≡ b → (if b then Some y else entry_of ds x) ≡ Some d → (entry_of ds x ≡ Some d → (m : ℕ) × (m < high) × D m x × K m) → (m : ℕ) × (m < high) × D m x × K m
      by true same f later =
          let one : y ≡ d = cc in
          let le : h.0 + 1 ≤ high = rises_end (h.0 + 1) high ds h.3 in
          (h.0, omega (arith, le), subst (λ (n : ℕ). D h.0 n) (eqb-true y.node x same) h.2.0, h.2.1 (ap has_linkage one ∙ linked))
      by false other f later = later f
