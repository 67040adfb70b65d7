-- How the rules of reading follow from what the code tests.
use Rattle.std.proofs.Common.{◌≡◌, ℕ, ◌+◌, ◌≤◌, true, false, List, [], ◌∷◌, ◌++◌, length, Some, None, Result, Ok, Err, refl, sym, ap, subst}
use Rattle.c_lexer.specs.declared.Token.{Token}
use Rattle.c_grammar.specs.Names.{Names}
use Rattle.c_grammar.specs.Notes.{noted, notes_begin, notes_step, notes_after}
use Rattle.c_grammar.specs.Refusals.{refusal}
use Rattle.c_grammar.specs.Terminals.{terminal, terminal_of, nothing}
use Rattle.std.proofs.lemmas.Option.{slice_get_past}
use Rattle.c_grammar.specs.Tree.{makes_node, nests}
use Rattle.c_grammar.specs.Reads.{State, Fault, malformed, unsupported, too_deep, Walks, Opens, opened, closed, first, second, most_nested, whole, broken, stepped, scoped}
use Rattle.c_parser.specs.declared.reader.Own.{Own}
use Rattle.c_grammar.specs.declared.trees.SyntaxNode.{SyntaxNode}
use Rattle.c_parser.specs.Parse.{state, Faults, fault_seen}
use Rattle.c_parser.specs.declared.ParseFault.{ParseFault}
use Rattle.c_parser.specs.declared.ParseFault.TheVariants.{Malformed, Unsupported, TooDeep, OutOfMemory}

-- behind the last token there is nothing
pub terminal_past : (text : List ℕ) (tokens : List Token) (scopes : Names) (place : ℕ) → length tokens ≤ place → terminal text tokens scopes place ≡ nothing
unfolding terminal
terminal_past text tokens scopes place h = ap (λ t. terminal_of text scopes t) (slice_get_past tokens place h)

-- what a production that makes a node begins with, and what it leaves
abbrev pub own_begin : ℕ → State → State
own_begin q s = record s { children = []; notes = notes_begin q s.notes }

abbrev pub own_end : ℕ → State → State → State
own_end q s t = record {
  place = t.place;
  scopes = t.scopes;
  nodes = t.nodes ++ (record { production = q; token = s.place; children = t.children }) ∷ [];
  children = s.children ++ length t.nodes ∷ [];
  notes = notes_after q t.notes s.notes;
}

opened_own : (q : ℕ) (s : State) → makes_node q ≡ true → opened q s ≡ own_begin q s
opened_own q s e = rw e refl

closed_own : (q : ℕ) (s t : State) → makes_node q ≡ true → closed q s t ≡ own_end q s t
closed_own q s t e = rw e refl

opened_helper : (q : ℕ) (s : State) → makes_node q ≡ false → opened q s ≡ s
opened_helper q s e = rw e refl

closed_helper : (q : ℕ) (s t : State) → makes_node q ≡ false → closed q s t ≡ t
closed_helper q s t e = rw e refl

module _ (text : List ℕ) (tokens : List Token) (q d : ℕ) (s : State) (fits_in : d + nests q ≤ most_nested) (taken_up : refusal q (first text tokens s) (second text tokens s) ≡ None) where
  pub read_own : (t : State) → makes_node q ≡ true → Walks text tokens q 0 (d + nests q) (own_begin q s) (Ok t) → Opens text tokens q d s (Ok (own_end q s t))
  read_own t e w =
      let v = subst (λ x. Walks text tokens q 0 (d + nests q) x (Ok t)) (sym (opened_own q s e)) w in
      subst (λ x. Opens text tokens q d s (Ok x)) (closed_own q s t e) (whole fits_in taken_up v)

  pub broken_own : (f : Fault) → makes_node q ≡ true → Walks text tokens q 0 (d + nests q) (own_begin q s) (Err f) → Opens text tokens q d s (Err f)
  broken_own f e w = broken fits_in taken_up (subst (λ x. Walks text tokens q 0 (d + nests q) x (Err f)) (sym (opened_own q s e)) w)

  pub helper : (r : Result State Fault) → makes_node q ≡ false → Walks text tokens q 0 (d + nests q) s r → Opens text tokens q d s r
  helper (Ok t) e w =
      let v = subst (λ x. Walks text tokens q 0 (d + nests q) x (Ok t)) (sym (opened_helper q s e)) w in
      subst (λ x. Opens text tokens q d s (Ok x)) (closed_helper q s t e) (whole fits_in taken_up v)
  helper (Err f) e w = broken fits_in taken_up (subst (λ x. Walks text tokens q 0 (d + nests q) x (Err f)) (sym (opened_helper q s e)) w)

-- a fault that is told
pub faults_told : (P : Result State Fault → Type 0) (e : ParseFault) (f : Fault) → fault_seen e ≡ Some f → P (Err f) → Faults P e
faults_told P (Malformed n) f h w = let g : malformed n ≡ f = cc in subst (λ x. P (Err x)) (sym g) w
faults_told P (Unsupported k n) f h w = let g : unsupported k n ≡ f = cc in subst (λ x. P (Err x)) (sym g) w
faults_told P (TooDeep n) f h w = let g : too_deep n ≡ f = cc in subst (λ x. P (Err x)) (sym g) w
faults_told P OutOfMemory f h w = tt

-- a fault goes on
pub faults_map : (P Q : Result State Fault → Type 0) (e : ParseFault) → ((f : Fault) → P (Err f) → Q (Err f)) → Faults P e → Faults Q e
faults_map P Q (Malformed n) g h = g _ h
faults_map P Q (Unsupported k n) g h = g _ h
faults_map P Q (TooDeep n) g h = g _ h
faults_map P Q OutOfMemory g h = tt

-- a step of scopes
pub scoped_state : (text : List ℕ) (tokens : List Token) (p n place : ℕ) (scopes scopes' : Names) (nodes : List SyntaxNode) (own own' : Own) → scopes' ≡ stepped text tokens p n scopes (noted own.notes) → noted own'.notes ≡ notes_step p n scopes (noted own.notes)
    → own'.children.items ≡ own.children.items → state place scopes' nodes own' ≡ scoped text tokens p n (state place scopes nodes own)
scoped_state text tokens p n place scopes scopes' nodes own own' a b d = cc
