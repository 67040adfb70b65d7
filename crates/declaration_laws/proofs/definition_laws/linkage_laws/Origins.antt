-- What each declaration of a name comes from: a node that declares it, where that stands.
use Rattle.std.proofs.Common.{arith, ◌≡◌, ◌+◌, ℕ, suc, ◌==◌, Bool, true, false, cond, List, [], ◌∷◌, Option, Some, None, length, All, slice_get, refl, sym, subst}
use Rattle.std.specs.Prelude.{⊤, IfSome, if◌then◌else◌, nat_lt}
use Rattle.std.specs.List.{find}
use Rattle.std.proofs.lemmas.Bool.{eqb-true}
use Rattle.std.proofs.lemmas.List.Elements.{All-nil, All-head, All-tail, All-push}
use Rattle.c_lexer.specs.declared.Token.{Token}
use Rattle.c_grammar.specs.Reads.{Node}
use Rattle.c_mentions.specs.declared.declarators.Derivation.{Derivation}
use Rattle.c_mentions.specs.declared.mentions.Linkage.{Linkage}
use Rattle.c_mentions.specs.declared.mentions.Mention.{Mention}
use Rattle.c_mentions.specs.declared.mentions.Mention.TheVariants as mention
use Rattle.c_mentions.specs.declared.roles.TagUse.{TagUse}
use Rattle.c_mentions.specs.declared.roles.TagUse.TheVariants as tag
use Rattle.c_mentions.specs.Mentions.{mention_at}
use Rattle.c_mentions.specs.Settings.{Standing, standings}
use Rattle.c_mentions.specs.Symbols.{symbol_of}
use Rattle.c_scope.specs.declared.kinds.Declared.{Declared}
use Rattle.c_scope.specs.declared.kinds.NameFault.TheVariants as fault
use Rattle.c_scope.specs.Known.{Happening, Known, known, nothing_known, after, after_use, after_tag, after_tag_use, after_tag_reference, after_label, after_goto, innermost, tag_declared, first_scope, declared_by, first_label, is_first, with_fault}
use Rattle.c_scope.specs.Resolves.{bindings, happenings, happenings_from}
pub use Rattle.declaration_laws.specs.definition_laws.linkage_laws.Origins.{HasOrigin, all_standings, mentioned}

-- the declaration that is found of a list
module _ (P : Declared → Type 0) where
  find_or : (test : Declared → Bool) (x : Declared) (b : Bool) (later : Option Declared) → test x ≡ b → P x → IfSome later (λ y. P y × (test y ≡ true)) → IfSome (cond b (Some x) later) (λ y. P y × (test y ≡ true))
  find_or test x true later e own h = (own, e)
  find_or test x false later e own h = h

  find_is : (test : Declared → Bool) (xs : List Declared) → All P xs → IfSome (find test xs) (λ y. P y × (test y ≡ true))
  find_is test [] h = tt
  find_is test (x ∷ xs) h = find_or test x (test x) (find test xs) refl (All-head P x xs h) (find_is test xs (All-tail P x xs h))

  pub found_is : (test : Declared → Bool) (xs : List Declared) (y : Declared) → All P xs → find test xs ≡ Some y → P y × (test y ≡ true)
  found_is test xs y h e = subst (λ (o : Option Declared). IfSome o (λ z. P z × (test z ≡ true))) e (find_is test xs h)

-- what is known holds only declarations of which P holds, where the nodes make only such
module _ (P : Declared → Type 0) (file : ℕ) (labels : ℕ → ℕ → Option ℕ) where
  Fits : List ℕ → Mention → Type 0
  Fits scopes (mention.Declares leaf symbol linkage derivation type_name) = (k : Known) → P (declared_by file leaf symbol linkage derivation type_name (first_scope file scopes) k)
  Fits scopes m = ⊤

  used : (n : ℕ) (exempt : Bool) (o : Option Declared) (k : Known) → All P k.names → All P (after_use n exempt o k).names
  used n true None k h = h
  used n false None k h = h
  used n exempt (Some d) k h = h

  tagged : (n symbol : ℕ) (scopes : List ℕ) (how : TagUse) (k : Known) → All P k.names → All P (after_tag file n symbol scopes how k).names
  tagged n symbol scopes tag.Declares k h = h
  tagged n symbol scopes tag.Refers k h = by (innermost scopes symbol k.tags)
    where
      by : (o : Option Declared) → All P (after_tag_reference n (tag_declared n symbol (first_scope file scopes)) o k).names
      by None = h
      by (Some d) = h
  tagged n symbol scopes tag.Uses k h = by (innermost scopes symbol k.tags)
    where
      by : (o : Option Declared) → All P (after_tag_use n o k).names
      by None = h
      by (Some d) = h

  labelled : (n : ℕ) (first : Option ℕ) (k : Known) → All P k.names → All P (after_label n first k).names
  labelled n first k h = by (is_first n first)
    where
      by : (b : Bool) → All P (if b then k else with_fault (fault.Redeclared n) k).names
      by true = h
      by false = h

  gone : (n : ℕ) (first : Option ℕ) (k : Known) → All P k.names → All P (after_goto n first k).names
  gone n None k h = h
  gone n (Some first) k h = h

  good_after : (n : ℕ) (scopes : List ℕ) (body : ℕ) (m : Mention) (k : Known) → Fits scopes m → All P k.names → All P (after file labels n scopes body m k).names
  unfolding Fits
  good_after n scopes body mention.Nothing k fits h = h
  good_after n scopes body (mention.Use symbol exempt) k fits h = used n exempt (innermost scopes symbol k.names) k h
  good_after n scopes body (mention.Tag symbol how) k fits h = tagged n symbol scopes how k h
  good_after n scopes body (mention.Label symbol) k fits h = labelled n (labels body symbol) k h
  good_after n scopes body (mention.Goto symbol) k fits h = gone n (labels body symbol) k h
  good_after n scopes body (mention.Declares leaf symbol linkage derivation type_name) k fits h = All-push P k.names (declared_by file leaf symbol linkage derivation type_name (first_scope file scopes) k) h (fits k)

  AllFit : List Happening → Type 0
  AllFit [] = ⊤
  AllFit (h ∷ hs) = Fits h.scopes h.mention × AllFit hs

  known_good : (n : ℕ) (k : Known) (hs : List Happening) → AllFit hs → All P k.names → All P (known file labels n k hs).names
  unfolding AllFit
  known_good n k [] fit h = h
  known_good n k (e ∷ hs) fit h = known_good (n + 1) (after file labels n e.scopes e.body e.mention k) hs fit.1 (good_after n e.scopes e.body e.mention k fit.0 h)

module _ (text : List ℕ) (tokens : List Token) (nodes : List Node) where
  own_fits : (labels : ℕ → ℕ → Option ℕ) (n : ℕ) (st : Standing) → slice_get (all_standings text tokens nodes) n ≡ Some st → (m : Mention) → (mentioned text tokens nodes) n st ≡ m → Fits (HasOrigin text tokens nodes) (length nodes) labels st.scopes m
  unfolding Fits
  own_fits labels n st at (mention.Declares leaf symbol linkage derivation type_name) e =
      λ k. record { node = n; standing = st; stands = at; leaf = leaf; symbol = symbol; linkage = linkage; derivation = derivation; type_name = type_name; before = k; mentions = e; is = refl }
  own_fits labels n st at mention.Nothing e = tt
  own_fits labels n st at (mention.Use symbol exempt) e = tt
  own_fits labels n st at (mention.Tag symbol how) e = tt
  own_fits labels n st at (mention.Label symbol) e = tt
  own_fits labels n st at (mention.Goto symbol) e = tt

  happenings_fit : (labels : ℕ → ℕ → Option ℕ) (n : ℕ) (ss : List Standing) → ((j : ℕ) (st : Standing) → slice_get ss j ≡ Some st → slice_get (all_standings text tokens nodes) (n + j) ≡ Some st) → AllFit (HasOrigin text tokens nodes) (length nodes) labels (happenings_from text tokens nodes n ss)
  unfolding AllFit
  happenings_fit labels n [] at = tt
  happenings_fit labels n (st ∷ ss) at =
      (own_fits labels n st (let e : n + 0 ≡ n = omega arith in subst (λ (k : ℕ). slice_get (all_standings text tokens nodes) k ≡ Some st) e (at 0 st refl)) ((mentioned text tokens nodes) n st) refl, happenings_fit labels (n + 1) ss (λ j x e. let plus : n + suc j ≡ n + 1 + j = omega arith in subst (λ (k : ℕ). slice_get (all_standings text tokens nodes) k ≡ Some x) plus (at (suc j) x e)))

  -- each declaration that is known at the end
  pub origins : All (HasOrigin text tokens nodes) (bindings text tokens nodes).names
  unfolding bindings happenings
  origins =
      let all : List Happening = happenings_from text tokens nodes 0 (all_standings text tokens nodes) in
      known_good (HasOrigin text tokens nodes) (length nodes) (first_label 0 all) 0 nothing_known all (happenings_fit (first_label 0 all) 0 (all_standings text tokens nodes) (λ j st e. let plus : 0 + j ≡ j = omega arith in subst (λ (k : ℕ). slice_get (all_standings text tokens nodes) k ≡ Some st) (sym plus) e)) (All-nil (HasOrigin text tokens nodes))

  pub origin : (leaf : ℕ) (y : Declared) → find (λ (d : Declared). d.node == leaf) (bindings text tokens nodes).names ≡ Some y → (HasOrigin text tokens nodes) y × (y.node ≡ leaf)
  origin leaf y e =
      let is = found_is (HasOrigin text tokens nodes) (λ (d : Declared). d.node == leaf) (bindings text tokens nodes).names y origins e in
      (is.0, eqb-true y.node leaf is.1)
