-- What is known and which labels there are, node by node.
use Rattle.std.proofs.Common.{◌≡◌, ℕ, suc, ◌+◌, ◌<◌, Bool, true, false, ltb, Option, Some, None, List, [], ◌∷◌, ◌++◌, length, take, get_or, cond, refl, sym, ap, subst, ◌∙◌, arith, length-take}
use Rattle.std.proofs.lemmas.List.{take_more}
use Rattle.std.specs.BTreeMap.{BTreeMap}
use Rattle.c_mentions.specs.declared.mentions.Mention.{Mention}
use Rattle.c_mentions.specs.declared.mentions.Mention.TheVariants as mention
use Rattle.c_scope.specs.Known.{Happening, Known, known, after, first_label, is_label}
use Rattle.c_scope.specs.Binding.{or_first, label_at, label_after, Holds, Turns}
use Rattle.c_mentions.specs.declared.settings.Setting.{Setting}
use Rattle.c_scope.specs.declared.resolving.Unit.{Unit}
use Rattle.c_scope.specs.declared.binding.Binder.{Binder}
use Rattle.c_mentions.specs.Syntax.{nodes_of}
use Rattle.c_mentions.specs.Settings.{IsChain}
use Rattle.c_mentions.specs.Mentions.{mention_at, symbol_at}
use Rattle.c_scope.specs.Happens.{Happens, AreHappenings, known_with, label_with}

known-push : (file : ℕ) (labels : ℕ → ℕ → Option ℕ) (n : ℕ) (k : Known) (hs : List Happening) (h : Happening)
    → known file labels n k (hs ++ h ∷ []) ≡ after file labels (n + length hs) h.scopes h.body h.mention (known file labels n k hs)
known-push file labels n k [] h = let e : n ≡ n + 0 = omega arith in ap (λ m. after file labels m h.scopes h.body h.mention k) e
known-push file labels n k (g ∷ hs) h =
    let e : n + 1 + length hs ≡ n + suc (length hs) = omega arith in
    let next = after file labels n g.scopes g.body g.mention k in
    known-push file labels (n + 1) next hs h ∙ ap (λ m. after file labels m h.scopes h.body h.mention (known file labels (n + 1) next hs)) e

-- behind one node more
pub known_more : (file : ℕ) (labels : ℕ → ℕ → Option ℕ) (k : Known) (all : List Happening) (i : ℕ) (e : Happening) → i < length all
    → known file labels 0 k (take (i + 1) all) ≡ after file labels i (get_or all i e).scopes (get_or all i e).body (get_or all i e).mention (known file labels 0 k (take i all))
known_more file labels k all i e l =
    let h = get_or all i e in
    let n : 0 + length (take i all) ≡ i = simp length-take (omega arith) in
    ap (known file labels 0 k) (take_more all i e l) ∙ (known-push file labels 0 k (take i all) h ∙ ap (λ m. after file labels m h.scopes h.body h.mention (known file labels 0 k (take i all))) n)

or_first-cond : (b : Bool) (x y z : Option ℕ) → or_first (cond b x y) z ≡ cond b (or_first x z) (or_first y z)
or_first-cond true x y z = refl
or_first-cond false x y z = refl

first_label-push : (n : ℕ) (hs : List Happening) (h : Happening) (body symbol : ℕ)
    → first_label n (hs ++ h ∷ []) body symbol ≡ or_first (first_label n hs body symbol) (cond (is_label body symbol h h.mention) (Some (n + length hs)) None)
first_label-push n [] h body symbol = let e : n ≡ n + 0 = omega arith in ap (λ m. cond (is_label body symbol h h.mention) (Some m) None) e
first_label-push n (g ∷ hs) h body symbol =
    let e : n + 1 + length hs ≡ n + suc (length hs) = omega arith in
    let b = is_label body symbol g g.mention in
    let last : Option ℕ = cond (is_label body symbol h h.mention) (Some (n + suc (length hs))) None in
    ap (λ o. cond b (Some n) o) (first_label-push (n + 1) hs h body symbol ∙ ap (λ m. or_first (first_label (n + 1) hs body symbol) (cond (is_label body symbol h h.mention) (Some m) None)) e)
    ∙ sym (or_first-cond b (Some n) (first_label (n + 1) hs body symbol) last)

pub or_first_none : (o : Option ℕ) → o ≡ or_first o None
or_first_none None = refl
or_first_none (Some n) = refl

-- a label more, by what a node does
label_noted : (before : BTreeMap (ℕ × ℕ) ℕ) (n : ℕ) (h : Happening) (m : Mention) (body symbol : ℕ)
    → label_after before h.body n m body symbol ≡ or_first (label_at before body symbol) (cond (is_label body symbol h m) (Some n) None)
label_noted before n h (mention.Label s) body symbol = refl
label_noted before n h mention.Nothing body symbol = or_first_none (label_at before body symbol)
label_noted before n h (mention.Use s e) body symbol = or_first_none (label_at before body symbol)
label_noted before n h (mention.Tag s e) body symbol = or_first_none (label_at before body symbol)
label_noted before n h (mention.Goto s) body symbol = or_first_none (label_at before body symbol)
label_noted before n h (mention.Declares a b d f g) body symbol = or_first_none (label_at before body symbol)

-- what stands where there is no node
abbrev pub none : Happening
none = record { mention = mention.Nothing; scopes = []; body = 0 }

-- the first labels with those of one node more
pub label_taken : (all : List Happening) (i : ℕ) (e : Happening) (body symbol : ℕ) → i < length all
    → first_label 0 (take (i + 1) all) body symbol ≡ or_first (first_label 0 (take i all) body symbol) (cond (is_label body symbol (get_or all i e) (get_or all i e).mention) (Some i) None)
label_taken all i e body symbol l =
    let h = get_or all i e in
    let n : 0 + length (take i all) ≡ i = simp length-take (omega arith) in
    ap (λ l. first_label 0 l body symbol) (take_more all i e l)
    ∙ (first_label-push 0 (take i all) h body symbol ∙ ap (λ m. or_first (first_label 0 (take i all) body symbol) (cond (is_label body symbol h h.mention) (Some m) None)) n)

module _ (unit : Unit) (all : List Happening) (h : AreHappenings unit all) (i : ℕ) (setting : Setting) (is : get_or unit.settings.now i setting ≡ setting) (within : i < length unit.settings.now) where
  inside : i < length all
  inside = subst (λ n. i < n) (sym h.count) within

  happens : Happens unit i setting (get_or all i none)
  happens = subst (λ s. Happens unit i s (get_or all i none)) is (h.each i setting none inside)

  -- what the code sees of a node
  abbrev pub Sees : Mention → Type 0
  Sees m = m ≡ mention_at unit.text.now unit.tokens.now (symbol_at unit.symbols.now) (nodes_of unit.nodes.now) i (ltb setting.body unit.file) setting.role

  -- the labels with those of a node
  pub labels_noted : (old new : BTreeMap (ℕ × ℕ) ℕ) (m : Mention) → Sees m
      → ((body symbol : ℕ) → label_at new body symbol ≡ label_after old setting.body i m body symbol)
      → (body symbol : ℕ) → label_at new body symbol ≡ label_with all body symbol i (label_at old body symbol)
  labels_noted old new m s f body symbol =
      let a = happens in
      let b = get_or all i none in
      f body symbol
      ∙ (ap (λ n. label_after old n i m body symbol) a.body
      ∙ (ap (λ x. label_after old b.body i x body symbol) (s ∙ a.mention)
      ∙ label_noted old i b b.mention body symbol))

  -- what is known with what a node does
  pub binder_taken : (old new : Binder) (labels : ℕ → ℕ → Option ℕ) (m : Mention) → Sees m
      → ((chain : List ℕ) → IsChain unit.scopes.now setting.scope chain → Turns old new (after unit.file labels i chain setting.body m))
      → Turns old new (known_with unit.file labels all i)
  binder_taken old new labels m s f = λ k g.
      let a = happens in
      let b = get_or all i none in
      let t = f b.scopes a.chain k g in
      subst (λ x. Holds new (after unit.file labels i b.scopes b.body x k)) (s ∙ a.mention)
      (subst (λ x. Holds new (after unit.file labels i b.scopes x m k)) a.body t)
