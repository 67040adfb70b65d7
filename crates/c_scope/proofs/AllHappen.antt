-- What the nodes of a unit do, seen by the code's settings and symbols.
use Rattle.std.proofs.Common.{◌≡◌, ℕ, zero, suc, ◌+◌, ◌<◌, ◌≤◌, ltb, None, List, [], ◌∷◌, length, get_or, refl, sym, ap, subst, ◌∙◌, arith, ⊎_elim}
use Rattle.std.proofs.lemmas.Bool.{cases_lt}
use Rattle.std.proofs.lemmas.Option.{slice_get-get_or}
use Rattle.std.specs.List.{slice_get}
use Rattle.c_lexer.specs.declared.Token.{Token}
use Rattle.c_grammar.specs.Reads.{Node}
use Rattle.c_mentions.specs.declared.settings.Setting.{Setting}
use Rattle.c_mentions.specs.declared.settings.Settings.{Settings}
use Rattle.c_scope.specs.declared.resolving.Unit.{Unit}
use Rattle.c_mentions.specs.Syntax.{nodes_of}
use Rattle.c_mentions.specs.Symbols.{symbol_of, Numbers}
use Rattle.c_mentions.specs.Settings.{IsChain, Standing, Stands, AreSettings, standings, outermost}
use Rattle.c_mentions.specs.Mentions.{mention_at, symbol_at, symbol_or}
use Rattle.c_scope.specs.Known.{Happening}
use Rattle.c_scope.specs.Happens.{Happens, AreHappenings}
use Rattle.c_scope.specs.Resolves.{happening, happenings_from, happenings}

past : {X : Type 0} (xs : List X) (i : ℕ) → length xs ≤ i → slice_get xs i ≡ None
past [] i l = refl
past (x ∷ xs) zero l = absurd (omega arith)
past (x ∷ xs) (suc i) l = past xs i (omega arith)

symbol_past : (text : List ℕ) (tokens : List Token) (t : ℕ) → slice_get tokens t ≡ None → symbol_of text tokens t ≡ t
unfolding symbol_of
symbol_past text tokens t e = rw e refl

symbols_same : (text : List ℕ) (tokens : List Token) (symbols : List ℕ) → Numbers text tokens symbols → (t : ℕ) → symbol_at symbols t ≡ symbol_of text tokens t
symbols_same text tokens symbols h t =
    ⊎_elim
    (λ l. ap (symbol_or t) (slice_get-get_or symbols t 0 (subst (λ n. t < n) (sym h.all) l)) ∙ h.each t l)
    (λ l. ap (symbol_or t) (past symbols t (subst (λ n. n ≤ t) (sym h.all) l)) ∙ sym (symbol_past text tokens t (past tokens t l)))
    (cases_lt t (length tokens))

module _ (text : List ℕ) (tokens : List Token) (nodes : List Node) where
  length-standings : (n : ℕ) (ns : List Node) → length (standings tokens nodes n ns) ≡ length ns
  length-standings n [] = refl
  length-standings n (x ∷ ns) = ap suc (length-standings (n + 1) ns)

  length-happenings : (n : ℕ) (ss : List Standing) → length (happenings_from text tokens nodes n ss) ≡ length ss
  length-happenings n [] = refl
  length-happenings n (s ∷ ss) = ap suc (length-happenings (n + 1) ss)

  get_or-happenings : (n : ℕ) (ss : List Standing) (i : ℕ) (o : Standing) (e : Happening) → i < length ss → get_or (happenings_from text tokens nodes n ss) i e ≡ happening text tokens nodes (n + i) (get_or ss i o)
  get_or-happenings n [] i o e l = absurd (omega arith)
  get_or-happenings n (s ∷ ss) zero o e l = let f : n ≡ n + 0 = omega arith in ap (λ m. happening text tokens nodes m s) f
  get_or-happenings n (s ∷ ss) (suc i) o e l =
      let f : n + 1 + i ≡ n + suc i = omega arith in
      get_or-happenings (n + 1) ss i o e (omega arith) ∙ ap (λ m. happening text tokens nodes m (get_or ss i o)) f

-- what one node does, by its setting
happens_one : (unit : Unit) (S : Settings) (n : ℕ) (setting : Setting) (s : Standing) → unit.scopes.now ≡ S.scopes.items → unit.file ≡ length (nodes_of unit.nodes.now)
    → ((t : ℕ) → symbol_at unit.symbols.now t ≡ symbol_of unit.text.now unit.tokens.now t) → Stands S.scopes.items setting s
    → Happens unit n setting (happening unit.text.now unit.tokens.now (nodes_of unit.nodes.now) n s)
happens_one unit S n setting s e f g h = record {
  mention =
      ap (λ (y : ℕ → ℕ). mention_at unit.text.now unit.tokens.now y (nodes_of unit.nodes.now) n (ltb setting.body unit.file) setting.role) (λ i t. g t i)
      ∙ (ap (λ b. mention_at unit.text.now unit.tokens.now (symbol_of unit.text.now unit.tokens.now) (nodes_of unit.nodes.now) n (ltb b unit.file) setting.role) h.body
      ∙ (ap (λ b. mention_at unit.text.now unit.tokens.now (symbol_of unit.text.now unit.tokens.now) (nodes_of unit.nodes.now) n (ltb s.body b) setting.role) f
      ∙ ap (λ r. mention_at unit.text.now unit.tokens.now (symbol_of unit.text.now unit.tokens.now) (nodes_of unit.nodes.now) n (ltb s.body (length (nodes_of unit.nodes.now))) r) h.role));
  body = h.body;
  chain = subst (λ l. IsChain l setting.scope s.scopes) (sym e) h.chain;
}

pub all_happen : (unit : Unit) (S : Settings) → unit.scopes.now ≡ S.scopes.items → unit.settings.now ≡ S.list → unit.file ≡ length (nodes_of unit.nodes.now)
    → Numbers unit.text.now unit.tokens.now unit.symbols.now → AreSettings unit.tokens.now (nodes_of unit.nodes.now) S → AreHappenings unit (happenings unit.text.now unit.tokens.now (nodes_of unit.nodes.now))
unfolding happenings
all_happen unit S e f g h a =
    let text = unit.text.now in
    let tokens = unit.tokens.now in
    let nodes = (nodes_of unit.nodes.now) in
    let ss : List Standing = standings tokens nodes 0 nodes in
    let count : length ss ≡ length nodes = length-standings text tokens nodes 0 nodes in
    let long : length (happenings_from text tokens nodes 0 ss) ≡ length nodes = length-happenings text tokens nodes 0 ss ∙ count in
    record {
      count = long ∙ (sym a.count ∙ ap length (sym f));
      each = λ n d x l.
          let below : n < length nodes = subst (λ m. n < m) long l in
          let none : 0 + n ≡ n = omega arith in
          let s = get_or ss n (outermost (length nodes)) in
          let q = get_or-happenings text tokens nodes 0 ss n (outermost (length nodes)) x (subst (λ m. n < m) (sym count) below) ∙ ap (λ m. happening text tokens nodes m s) none in
          subst (λ y. Happens unit n (get_or unit.settings.now n d) y) (sym q)
          (happens_one unit S n (get_or unit.settings.now n d) s e g (symbols_same text tokens unit.symbols.now h)
          (subst (λ y. Stands S.scopes.items (get_or y n d) s) (sym f) (a.each n d below)));
    }
