-- Texts have one outcome, as far as their tokens, syntax, names and rows tell.
use Rattle.std.proofs.Common.{◌≡◌, ℕ, ◌+◌, ◌++◌, inl, inr, List, [], ◌∷◌, sym, ◌∙◌, ap, subst, codes}
use Rattle.pta_base.specs.Kind.{name_of}
use Rattle.pta_base.specs.declared.kind.Kind.{Kind}
use Rattle.c_lexer.specs.declared.Tokens.{Tokens}
use Rattle.c_grammar.specs.declared.trees.Tree.{Tree}
use Rattle.core_tree.specs.declared.node.Unit.{Unit}
use Rattle.core_tree.specs.declared.node.Program.{Program}
use Rattle.c_senses.specs.Tree.{Source}
use Rattle.c_senses.specs.Names.{source_of, numbered}
use Rattle.c_senses.specs.Places.{own_place}
use Rattle.c_senses.specs.Rows.{RefusedAt}
use Rattle.parsed_tree_laws.proofs.reading_laws.source_laws.Reading.{one_refusal, not_right}
use Rattle.c_tags.specs.tag_numbers.Ordered.{AreInOrder}
use Rattle.text_units.specs.passed.c_lower.passed.unit_walk.Walked.{AreDense}
use Rattle.parsed_tree_laws.specs.reading_laws.Reading.{IsRead, AreOne}
use Rattle.parsed_tree_laws.proofs.reading_laws.Reading.{one_tree}
use Rattle.text_units.specs.Answers.{NamedText, Answer, refusal, place_text}
use Rattle.text_units.specs.Alone.{IsReadAs}
use Rattle.text_units.specs.Lowered.{IsParsed, IsRightText, AreRightTexts, IsRefusedRow, kind_refusal}
use Rattle.report_cli.specs.Told.{Told}
use Rattle.report_cli.specs.Outcome.{Denotes, AreRefusedTogether, Refuses, RefusesTold, RefusesToldRight}
use Rattle.text_units.specs.Refused.{IsRefusedText, FirstRefused, HaveRightUnits}
use Rattle.report_cli.proofs.Exclusion.{one_alone, alone_or_read, alone_or_right}

-- numbers in the order of first specifiers are one numbering
same_numbers : (s : Source) (f g : ℕ → ℕ) → AreInOrder (numbered f s) → AreInOrder (numbered g s) → numbered f s ≡ numbered g s
same_numbers s f g a b = let same : f ≡ g = λ i d. (a.each d ∙ sym (b.each d)) i in ap (λ (h : ℕ → ℕ). numbered h s) same

-- two readings of a text
module _ (number : ℕ) (text : NamedText) where
  as_read : (tokens : Tokens) (tree : Tree) → IsParsed number text tokens tree → IsRead text.1 number tokens tree
  unfolding IsReadAs
  as_read tokens tree h = record { text_is = h.text_is; tokens_are = h.read.0; tree_is = h.tree_is }

  same_source : (tokens other : Tokens) (tree there : Tree) → IsParsed number text tokens tree → IsParsed number text other there → source_of tokens tree ≡ source_of other there
  same_source tokens other tree there h k =
      let one : AreOne tokens other tree there = one_tree text.1 number tokens other tree there (as_read tokens tree h) (as_read other there k) in one.source_same

  pub same_numbered : (tokens other : Tokens) (tree there : Tree) (f g : ℕ → ℕ) → IsParsed number text tokens tree → IsParsed number text other there
      → AreDense (numbered f (source_of tokens tree)) → AreDense (numbered g (source_of other there)) → numbered f (source_of tokens tree) ≡ numbered g (source_of other there)
  same_numbered tokens other tree there f g h k a b =
      let same : source_of tokens tree ≡ source_of other there = same_source tokens other tree there h k in
      let over : AreDense (numbered f (source_of other there)) = subst (λ (s : Source). AreDense (numbered f s)) same a in
      ap (numbered f) same ∙ same_numbers (source_of other there) f g over.ordered b.ordered

  -- the refusal at a node, by the source
  refusal_in : Source → Kind → ℕ → Answer
  refusal_in s kind node = refusal 4 (place_text text.0 (own_place s node).line (own_place s node).column ++ codes ": not accepted " ++ name_of kind)

  in_source : (tokens : Tokens) (tree : Tree) (kind : Kind) (node : ℕ) → kind_refusal text.0 tokens tree kind node ≡ refusal_in (source_of tokens tree) kind node
  unfolding refusal_in
  in_source tokens tree kind node = ap (λ (s : Source). refusal 4 (place_text text.0 (own_place s node).line (own_place s node).column ++ codes ": not accepted " ++ name_of kind)) (λ i. source_of tokens tree)

  one_row : (one other : Answer) → IsRefusedRow number text one → IsRefusedRow number text other → one ≡ other
  one_row one other h k =
      let same : numbered h.tag_number (source_of h.tokens h.tree) ≡ numbered k.tag_number (source_of k.tokens k.tree) = same_numbered h.tokens k.tokens h.tree k.tree h.tag_number k.tag_number h.parsed k.parsed h.dense k.dense in
      let P : Source → Type 0 = λ s. RefusedAt s h.kind h.node in
      let both = one_refusal (numbered k.tag_number (source_of k.tokens k.tree)) h.kind k.kind h.node k.node (subst P same h.refused) k.refused in
      h.answer_is
      ∙ (in_source h.tokens h.tree h.kind h.node
      ∙ (ap (λ (s : Source). refusal_in s h.kind h.node) (same_source h.tokens k.tokens h.tree k.tree h.parsed k.parsed)
      ∙ (ap (λ (kind : Kind). refusal_in (source_of k.tokens k.tree) kind h.node) both.0
      ∙ (ap (refusal_in (source_of k.tokens k.tree) k.kind) both.1
      ∙ (sym (in_source k.tokens k.tree k.kind k.node) ∙ sym k.answer_is)))))

  -- a text that isn't built is refused at its root, and by no row
  row_or_right : (answer : Answer) (u : Unit) → IsRefusedRow number text answer → IsRightText number text u → ⊥
  row_or_right answer u h k =
      let same : numbered h.tag_number (source_of h.tokens h.tree) ≡ numbered k.tag_number (source_of k.tokens k.tree) = same_numbered h.tokens k.tokens h.tree k.tree h.tag_number k.tag_number h.parsed k.parsed h.dense k.dense in
      let P : Source → Type 0 = λ s. RefusedAt s h.kind h.node in
      not_right (numbered k.tag_number (source_of k.tokens k.tree)) text.0 u h.kind h.node k.right (subst P same h.refused)

  -- a text is refused with one answer
  pub one_text : (one other : Answer) → IsRefusedText number text one → IsRefusedText number text other → one ≡ other
  one_text one other (inl h) (inl k) = one_alone text one other h k
  one_text one other (inl h) (inr k) = absurd (alone_or_read text one k.tokens.list.items h k.parsed.read)
  one_text one other (inr h) (inl k) = absurd (alone_or_read text other h.tokens.list.items k h.parsed.read)
  one_text one other (inr h) (inr k) = one_row one other h k

  text_or_right : (answer : Answer) (u : Unit) → IsRefusedText number text answer → IsRightText number text u → ⊥
  text_or_right answer u (inl h) k = alone_or_right number text u answer h k
  text_or_right answer u (inr h) k = row_or_right answer u h k

pub one_first : (number : ℕ) (texts : List NamedText) (one other : Answer) → FirstRefused IsRefusedText number texts one → FirstRefused IsRefusedText number texts other → one ≡ other
one_first number [] one other h k = absurd h
one_first number (text ∷ texts) one other (inl h) (inl k) = one_text number text one other h k
one_first number (text ∷ texts) one other (inl h) (inr k) = absurd (text_or_right number text one k.0 h k.1)
one_first number (text ∷ texts) one other (inr h) (inl k) = absurd (text_or_right number text other h.0 k h.1)
one_first number (text ∷ texts) one other (inr h) (inr k) = one_first (number + 1) texts one other h.2 k.2

pub none_right : (number : ℕ) (texts : List NamedText) (answer : Answer) → FirstRefused IsRefusedText number texts answer → HaveRightUnits number texts → ⊥
none_right number [] answer h k = h
none_right number (text ∷ texts) answer (inl h) k = text_or_right number text answer k.0.0 h k.0.1
none_right number (text ∷ texts) answer (inr h) k = none_right (number + 1) texts answer h.2 k.1

-- texts with their units are right
each_right : (number : ℕ) (texts : List NamedText) (units : List Unit) → AreRightTexts number texts units → HaveRightUnits number texts
each_right number [] [] h = tt
each_right number [] (u ∷ us) h = absurd h
each_right number (text ∷ texts) [] h = absurd h
each_right number (text ∷ texts) (u ∷ us) h = ((u, h.0), each_right (number + 1) texts us h.1)

pub denoted_right : (entries : List (List ℕ)) (texts : List NamedText) (program : Program) → Denotes entries texts program → HaveRightUnits 0 texts
unfolding Denotes
denoted_right entries texts program h = each_right 0 texts h.0 h.1

pub together_right : (entries : List (List ℕ)) (texts : List NamedText) (answer : Answer) → AreRefusedTogether entries texts answer → HaveRightUnits 0 texts
together_right entries texts answer (inl h) = each_right 0 texts h.units h.right
together_right entries texts answer (inr (inl h)) = each_right 0 texts h.units h.right
together_right entries texts answer (inr (inr h)) = each_right 0 texts h.units h.right

-- what refuses texts that each have a right unit refuses them together
pub refuses_right : (entries : List (List ℕ)) (texts : List NamedText) (answer : Answer) → HaveRightUnits 0 texts → Refuses entries texts answer → AreRefusedTogether entries texts answer
unfolding Refuses
refuses_right entries texts answer right (inl h) = absurd (none_right 0 texts answer h right)
refuses_right entries texts answer right (inr h) = h

pub told_right : (told : Told) (answer : Answer) → HaveRightUnits 0 told.units → RefusesTold told answer → RefusesToldRight told answer
told_right told answer right (inl h) = inl (refuses_right told.entries told.units answer right h)
told_right told answer right (inr h) = inr h
